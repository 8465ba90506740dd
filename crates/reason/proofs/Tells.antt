-- What is told, from what the parts find.
use Rattle.std.specs.Prelude.{None, Some}
use Prim.Native.Nat.{ℕ, zero, suc, pred, ◌≤◌, ◌<◌}
use mathlib.Core.Path.{◌≡◌, refl, sym, ap, ◌∙◌}
use mathlib.Core.List.{List, [], ◌∷◌, map}
use native.Mathlib.Omega.{arith}
use native.Mathlib.Decide.{dec_lt}
use borrow.Author.Tests.{lt-ltb, le-ltb}
use Rattle.std.specs.Prelude.{Some, None}
use lib.IntN.{ℤ, pos}
use lib.ListN.{length, get_or, replicate}
use Rattle.sums.specs.Lists.{tabulate}
use Rattle.sums.specs.Places.{tabulate-cong, tabulate-get_or}
use Rattle.order.specs.Refusals.{Finding}
use Rattle.profile.specs.Search.{nothing, found}
use Rattle.stairs.specs.Places.{FoundPlaces, first_overfull_at}
use Rattle.sums.specs.Arrays.{pad, get_or-pad}
use Rattle.table.specs.Held.{value_of, by_number}
use Rattle.table.specs.HeldLaws.{value-at}
use Rattle.table.specs.Tabled.{Fine}
use Rattle.order.specs.Lead.{due_at, last_due}
use Rattle.table.specs.declared.Table.{Table}
use Rattle.stairs.specs.PlacesLaws.{ranking-falls, pad-below}
use Rattle.stairs.specs.Tables.{staircase_of}
use Rattle.stairs.specs.declared.Staircase.{Staircase}
use Rattle.reason.specs.Told.{sixteen}
use Rattle.reason.specs.Asked.{first_of, FirstLate, due_or, told_at, told_by, told_from, told_of}
use Rattle.reason.proofs.LateFirst.{none-late, one-late}
use Rattle.reason.specs.declared.Reason.TheVariants.{Job, Stairs}

module _ (f : ℕ → ℤ) where
  map_at : (ds : List ℕ) (i : ℕ) → i < length ds → get_or (map f ds) i (pos 0) ≡ f (get_or ds i 0)
  map_at [] i l = absurd (omega arith)
  map_at (d ∷ ds) zero l = refl
  map_at (d ∷ ds) (suc i) l = map_at ds i (omega arith)

  map-beyond : (ds : List ℕ) (i : ℕ) → length ds ≤ i → get_or (map f ds) i (pos 0) ≡ pos 0
  map-beyond [] i l = refl
  map-beyond (d ∷ ds) zero l = absurd (omega arith)
  map-beyond (d ∷ ds) (suc i) l = map-beyond ds i (omega arith)

-- the due times of the places, and 0 beyond
due-or-map : (grid ds : List ℕ) (i : ℕ) → length ds ≤ 16 →
    due_or grid (pad 16 ds) (length ds) i ≡ get_or (map (λ d. due_at last_due (get_or grid d 0)) ds) i (pos 0)
due-or-map grid ds i l =
    elim (dec_lt i (length ds)) [
      | yes h ↦
          rw (lt-ltb i (length ds) h, get_or-pad 16 i ds h l) (sym (map_at (λ d. due_at last_due (get_or grid d 0)) ds i h))
      | no h ↦ rw (le-ltb i (length ds) (omega arith)) (sym (map-beyond (λ d. due_at last_due (get_or grid d 0)) ds i (omega arith)))
    ]

-- the profile that was found
pub record Hit (t : Table) (reach : ℕ) (w : Staircase) : Type 0 where
  pub ds : List ℕ
  pub is : first_of t reach ≡ found ds
  pub count : length ds ≡ w.count
  pub at : w.at ≡ pad 16 ds
  pub few : w.count ≤ 16
  pub below : (i : ℕ) → i < w.count → get_or w.at i 0 < 48

pub hit-of : (t : Table) (reach : ℕ) → Fine t → (w : Staircase) → Some w ≡ staircase_of (first_of t reach) → Hit t reach w
unfolding staircase_of first_of first_overfull_at
hit-of t reach fine w e = go (first_of t reach) refl e
  where
    go : (f : FoundPlaces) → first_of t reach ≡ f → Some w ≡ staircase_of f → Hit t reach w
    go nothing g e = let z : ◌≡◌ {A = ℕ} 0 1 = cc in absurd (omega arith)
    go (found ds) g e =
        let q = ranking-falls _ t.s t.q ds g in
        let n : length ds ≡ w.count = cc in
        let a : w.at ≡ pad 16 ds = cc in
        record {
          ds = ds;
          is = g;
          count = n;
          at = a;
          few = omega (arith, q.0, fine.classed);
          below = λ i l.
              rw a (omega (
                arith,
                fine.dues,
                pad-below 16 t.q i ds (omega arith) (omega (arith, q.0, fine.classed))
                    q.1,
              ));
        }

module _ (t : Table) (reach : ℕ) (fine : Fine t) where
  -- a job was found
  pub tell-late : (k : ℕ) → FirstLate t reach (Some k) →
      record { reason = Some (Job (get_or t.by_need k 0) (get_or t.times k 0)); dues = replicate 16 (pos 0) } ≡ told_of t reach
  unfolding told_from
  tell-late k h =
      let number = get_or t.by_need k 0 in
      let e : number ≡ suc (pred number) = omega (arith, (fine.numbers.are k h.0).0) in
      ap (λ (v : ℕ). record { reason = Some (Job number v); dues = sixteen [] })
      (sym (value-at t.by_need t.n fine.numbers t.times k h.0) ∙ ap (value_of t.by_need t.n t.times) e)
      ∙ ap (λ (f : Finding). told_by (by_number t) t f (first_of t reach)) (sym (one-late t reach fine k h))

  module _ (h : FirstLate t reach None) where
    by-profile : told_at t (first_of t reach) ≡ told_of t reach
    unfolding told_from
    by-profile = ap (λ (f : Finding). told_by (by_number t) t f (first_of t reach)) (sym (none-late t reach fine h))

    -- a profile was found
    pub tell-stairs : (w : Staircase) → Hit t reach w → (r : List ℤ) →
        (length r ≡ 16) × ((i : ℕ) → i < 16 → get_or r i (pos 0) ≡ due_or t.grid w.at w.count i) →
        record { reason = Some (Stairs w.count); dues = r } ≡ told_of t reach
    tell-stairs w x r f =
        let d : r ≡ sixteen (map (λ d. due_at last_due (get_or t.grid d 0)) x.ds)
        = sym (ap (λ (n : ℕ). tabulate n (λ i. get_or r i (pos 0))) (sym f.0) ∙ tabulate-get_or r (pos 0))
        ∙ tabulate-cong 16 (λ i. get_or r i (pos 0)) (λ i. get_or (map (λ d. due_at last_due (get_or t.grid d 0)) x.ds) i (pos 0))
        (λ i l.
        f.1 i l ∙ (rw (x.at, ← x.count) (due-or-map t.grid x.ds i (omega (arith, x.count, x.few))))) in
        ap (λ (l : List ℤ). record { reason = Some (Stairs w.count); dues = l }) d
        ∙ (ap (λ (n : ℕ). record { reason = Some (Stairs n); dues = sixteen (map (λ d. due_at last_due (get_or t.grid d 0)) x.ds) })
        (sym x.count)
        ∙ (ap (told_at t) (sym x.is) ∙ by-profile))

    -- none was
    pub tell-nothing : None ≡ staircase_of (first_of t reach) →
        record { reason = None; dues = replicate 16 (pos 0) } ≡ told_of t reach
    unfolding staircase_of
    tell-nothing q = go (first_of t reach) refl q
      where
        go : (f : FoundPlaces) → first_of t reach ≡ f → None ≡ staircase_of f →
            record { reason = None; dues = replicate 16 (pos 0) } ≡ told_of t reach
        go nothing g q = ap (told_at t) (sym g) ∙ by-profile
        go (found ds) g q = let z : ◌≡◌ {A = ℕ} 0 1 = cc in absurd (omega arith)
