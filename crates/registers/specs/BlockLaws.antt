-- Sentences of document 02, §11, that follow from its table, a few lines each.
use Prim.Native.Nat.{ℕ, ◌+◌, ◌-◌, ◌*◌, ◌/◌, ◌%◌, ◌≤◌, ◌<◌}
use Rattle.std.specs.Prelude.{◌≡◌, Bool, true, false, cond, not, ◌&&◌, ◌||◌, ◌⊎◌, leb, ltb, eqb, ℤ, pos, length, get_or}
use Rattle.std.proofs.Math.Path.{refl, ap}
use Rattle.std.proofs.Common.{sym, subst, ◌∙◌, true≢false, inl, inr}
use mathlib.Core.List.{List, [], ◌∷◌, ◌++◌, map}
use Rattle.std.proofs.Math.Decide.{dec_lt}
use native.Mathlib.Omega.{arith}
use borrow.Author.Tests.{ne_eqb, eqb-true, ltb-false, not-false}
use Rattle.sums.specs.Places.{length-tabulate, tabulate-cong}
use Rattle.order.specs.Order.{Order, processor_count, job_count}
use Rattle.order.specs.Refusals.{
  screen,
  shortest_file,
  longest_file,
  TableRow,
  Verdict,
  accepted,
  refused,
  row,
  whole,
  judge,
  count_rows,
  job_rows,
  order_rows,
  file_row,
}
use Rattle.order.proofs.RefusalLaws.{judge-accepted, accepted-first, whole-clear, both_true}
use Rattle.order.proofs.CallerLaws.{numbered, screen-jobs}
use Rattle.order_file.specs.Bytes.{number4, bytes4}
use Rattle.order_file.specs.File.{
  job_width,
  trailer_width,
  processor_place,
  job_place,
  processors_of,
  jobs_of,
  lists_agree,
  good_file,
  job_in,
  order_in,
}
use Rattle.profile.specs.Least.{least_lateness}
use Rattle.registers.specs.Registers.{
  Registers,
  place_of,
  is_set,
  bit,
  bound_of,
  length_of,
  stored_from,
  file_in,
  stored_order,
  no_row,
  row_numbers,
  bytes_of,
  read_by,
  read_at,
  all_zero,
  begun,
  length_row,
  least_table,
  bound_table,
  PlannedBy,
  Task,
  at_bound,
  at_least,
  clears,
  unknown,
  task_of,
  CommandedBy,
  storing,
  WroteBy,
  Wrote,
}
use Rattle.registers.specs.PlaceLaws.{nothing-at, lateness-at, row-at, zero-from}
use Rattle.registers.specs.HeldLaws.{zero-numbers, four-zeros, number-byte}
use Rattle.registers.specs.JudgeLaws.{stored-within, plan-few}
use Rattle.registers.specs.declared.Place.{Place}
use Rattle.registers.specs.declared.Place.TheVariants.{Command, Flag, Number, Allow, Stored, Lateness, Held, Nothing}

-- "Clear makes all bytes 0": at every address
zero_row : (k : ℕ) → get_or (bytes_of (row_numbers no_row)) k 0 ≡ 0
zero_row k = number-byte (row_numbers no_row) k ∙ ap (λ (n : ℕ). get_or (bytes4 n) (k % 4) 0) (zero-numbers (k / 4)) ∙ four-zeros (k % 4)

pub clear-reads-zero : (a : ℕ) → read_at all_zero a ≡ 0
clear-reads-zero a = go (place_of a)
  where
    go : (p : Place) → read_by p all_zero a ≡ 0
    go Command = refl
    go Flag = refl
    go Number = refl
    go Allow = refl
    go Stored = refl
    go Lateness = four-zeros (a - 12)
    go Held = zero_row (a - 16)
    go Nothing = refl

-- "Byte 0, bytes 252 to 255 and unnamed bits read 0"
pub command-reads-zero : (s : Registers) → read_at s 0 ≡ 0
command-reads-zero s = refl

pub last-read-zero : (s : Registers) (a : ℕ) → 252 ≤ a → read_at s a ≡ 0
last-read-zero s a h = ap (λ (p : Place). read_by p s a) (nothing-at a (omega arith) (omega arith) h)

pub flags-below : (s : Registers) → read_at s 1 < 8
flags-below s = go s.done s.refused s.interrupt
  where
    go : (d r i : Bool) → bit d + 2 * bit r + 4 * bit i < 8
    go true true true = omega arith
    go true true false = omega arith
    go true false true = omega arith
    go true false false = omega arith
    go false true true = omega arith
    go false true false = omega arith
    go false false true = omega arith
    go false false false = omega arith

pub allowed-below : (s : Registers) → read_at s 3 < 2
allowed-below s = go s.allowed
  where
    go : (b : Bool) → bit b < 2
    go true = omega arith
    go false = omega arith

-- "Writes to bytes 2, 12 to 31 and 252 to 255 do nothing."
module _ (s : Registers) (v : ℕ) (s' : Registers) where
  pub two-unwritten : Wrote s 2 v s' → s' ≡ s
  two-unwritten w = w

  pub used-unwritten : (a : ℕ) → 12 ≤ a → a ≤ 31 → Wrote s a v s' → s' ≡ s
  used-unwritten a low high w =
      elim (dec_lt a 16) [
        | yes h ↦ subst (λ (p : Place). WroteBy p s a v s') (lateness-at a (omega arith) low h) w
        | no h ↦ subst (λ (p : Place). WroteBy p s a v s') (row-at a (omega arith) low (omega arith) (omega arith)) w
      ]

  pub last-unwritten : (a : ℕ) → 252 ≤ a → Wrote s a v s' → s' ≡ s
  last-unwritten a h w = subst (λ (p : Place). WroteBy p s a v s') (nothing-at a (omega arith) (omega arith) h) w

-- a write to any address but 0 leaves the rows held, the lateness used and the number
abbrev pub Stays : Registers → Registers → Type 0
Stays s s' = (s'.rows ≡ s.rows) × (s'.lateness ≡ s.lateness) × (s'.number ≡ s.number)

stays-as : (s s' t : Registers) → s' ≡ t → Stays s t → Stays s s'
stays-as s s' t e h = subst (Stays s) (sym e) h

pub rows_stay : (s : Registers) (a v : ℕ) (s' : Registers) → 1 ≤ a → Wrote s a v s' → Stays s s'
rows_stay s a v s' h w = go (place_of a) refl w
  where
    go : (p : Place) → place_of a ≡ p → WroteBy p s a v s' → Stays s s'
    go Command e w = absurd (omega (arith, zero-from a e))
    go Flag e w = stays-as s s' _ w (refl, refl, refl)
    go Number e w = stays-as s s' _ w (refl, refl, refl)
    go Allow e w = stays-as s s' _ w (refl, refl, refl)
    go Stored e w = stays-as s s' _ w (refl, refl, refl)
    go Lateness e w = stays-as s s' _ w (refl, refl, refl)
    go Held e w = stays-as s s' _ w (refl, refl, refl)
    go Nothing e w = stays-as s s' _ w (refl, refl, refl)

-- "Every command first clears bits 0 and 1, bytes 2 and 12 to 15 and the rows held": it leads to what it leads to from there
pub command-clears : (s : Registers) (v : ℕ) (s' : Registers) → Wrote s 0 v s' → Wrote (begun s) 0 v s'
unfolding least_table bound_table
command-clears s v s' w = go (task_of v) w
  where
    planned : (x : Verdict) (o : Order) (z : ℤ) → PlannedBy x s o z s' → PlannedBy x (begun s) o z s'
    planned accepted o z P = record { plan = P.plan; plan-of = P.plan-of; leaves = P.leaves }
    planned (refused number carried) o z P = P

    go : (t : Task) → CommandedBy t s s' → CommandedBy t (begun s) s'
    go at_bound P = planned (judge (bound_table s)) (stored_order s) (bound_of s) P
    go at_least P = planned (judge (least_table s)) (stored_order s) (least_lateness (stored_order s)) P
    go clears P = P
    go unknown P = P

-- "Finished or refused, a command but 3 sets its flag, and bit 2 if allowed", one flag and not the other; after a refusal no row is held
-- and the lateness is 0
pub data Ended (s' : Registers) : Type 0 where
  finished : s'.done ≡ true → s'.refused ≡ false → s'.number ≡ 0 → Ended s'
  turned_down : s'.done ≡ false → s'.refused ≡ true → s'.lateness ≡ pos 0 → s'.rows ≡ [] → Ended s'

abbrev pub Signals : Registers → Registers → Type 0
Signals s s' = s'.interrupt ≡ (s.interrupt || s.allowed)

module _ (s s' : Registers) where
  abbrev Over : Registers → Type 0
  Over t = Ended t × Signals s t

  over-planned : (x : Verdict) (o : Order) (z : ℤ) → PlannedBy x s o z s' → Over s'
  over-planned accepted o z P = subst Over (sym P.leaves) (finished refl refl refl, refl)
  over-planned (refused number carried) o z P = subst Over (sym P) (turned_down refl refl refl refl, refl)

  pub command-ends : (v : ℕ) → eqb v 3 ≡ false → Wrote s 0 v s' → Ended s' × Signals s s'
  command-ends v other w = go (eqb v 1) (eqb v 2) (rw other at w)
    where
      go : (b c : Bool) → CommandedBy (cond b at_bound (cond c at_least (cond false clears unknown))) s s' → Over s'
      go true c P = over-planned (judge (bound_table s)) (stored_order s) (bound_of s) P
      go false true P = over-planned (judge (least_table s)) (stored_order s) (least_lateness (stored_order s)) P
      go false false P = subst Over (sym P) (turned_down refl refl refl refl, refl)

-- "3 clear", and "others set refused with number 0"
pub clear-clears : (s s' : Registers) → Wrote s 0 3 s' → s' ≡ all_zero
clear-clears s s' w = w

-- done and refused are never both set: a write keeps it so, and a cleared block is so
abbrev pub OneFlag : Registers → Type 0
OneFlag s = (s.done && s.refused) ≡ false

fewer : (d r x y : Bool) → (d && r) ≡ false → ((d && x) && (r && y)) ≡ false
fewer true true x y e = let z : ◌≡◌ {A = ℕ} 1 0 = ap bit e in absurd (omega arith)
fewer true false true y e = refl
fewer true false false y e = refl
fewer false r x y e = refl

pub one-flag : (s : Registers) (a v : ℕ) (s' : Registers) → OneFlag s → Wrote s a v s' → OneFlag s'
one-flag s a v s' one w = go (place_of a) w
  where
    so : (t : Registers) → s' ≡ t → OneFlag t → OneFlag s'
    so t e h = subst OneFlag (sym e) h

    planned : (x : Verdict) (o : Order) (z : ℤ) → PlannedBy x s o z s' → OneFlag s'
    planned accepted o z P = so _ P.leaves refl
    planned (refused number carried) o z P = so _ P refl

    commanded : (t : Task) → CommandedBy t s s' → OneFlag s'
    commanded at_bound P = planned (judge (bound_table s)) (stored_order s) (bound_of s) P
    commanded at_least P = planned (judge (least_table s)) (stored_order s) (least_lateness (stored_order s)) P
    commanded clears P = so _ P refl
    commanded unknown P = so _ P refl

    go : (p : Place) → WroteBy p s a v s' → OneFlag s'
    go Command w = commanded (task_of v) w
    go Flag w = so _ w (fewer s.done s.refused (not (is_set v)) (not (is_set (v / 2))) one)
    go Number w = so _ w one
    go Allow w = so _ w one
    go Stored w = so _ w one
    go Lateness w = so _ w one
    go Held w = so _ w one
    go Nothing w = so _ w one

-- bit 2 falls only by a 1 that is written to it, or by clear
pub interrupt-falls : (s : Registers) (a v : ℕ) (s' : Registers) → s.interrupt ≡ true → Wrote s a v s' → s'.interrupt ≡ false →
    ((place_of a ≡ Flag) × (is_set (v / 4) ≡ true)) ⊎ ((place_of a ≡ Command) × (task_of v ≡ clears))
interrupt-falls s a v s' on w off = go (place_of a) refl w
  where
    stays : (t : Registers) → s' ≡ t → t.interrupt ≡ true → ⊥
    stays t e h = true≢false (sym h ∙ ap (λ (x : Registers). x.interrupt) (sym e) ∙ off)

    kept : (b : Bool) → (true && not b) ≡ false → b ≡ true
    kept true e = refl
    kept false e = absurd (true≢false e)

    raised : (s.interrupt || s.allowed) ≡ true
    raised = rw on refl

    planned : (x : Verdict) (o : Order) (z : ℤ) → PlannedBy x s o z s' → ⊥
    planned accepted o z P = stays _ P.leaves raised
    planned (refused number carried) o z P = stays _ P raised

    commanded : (t : Task) → task_of v ≡ t → CommandedBy t s s' → task_of v ≡ clears
    commanded at_bound e P = absurd (planned (judge (bound_table s)) (stored_order s) (bound_of s) P)
    commanded at_least e P = absurd (planned (judge (least_table s)) (stored_order s) (least_lateness (stored_order s)) P)
    commanded clears e P = e
    commanded unknown e P = absurd (stays _ P raised)

    go : (p : Place) → place_of a ≡ p → WroteBy p s a v s' →
        ((place_of a ≡ Flag) × (is_set (v / 4) ≡ true)) ⊎ ((place_of a ≡ Command) × (task_of v ≡ clears))
    go Command e w = inr (e, commanded (task_of v) refl w)
    go Flag e w =
        inl (
          e,
          kept (is_set (v / 4))
              (sym (ap (λ (b : Bool). b && not (is_set (v / 4))) on) ∙ ap (λ (x : Registers). x.interrupt) (sym w) ∙ off),
        )
    go Number e w = absurd (stays _ w on)
    go Allow e w = absurd (stays _ w on)
    go Stored e w = absurd (stays _ w on)
    go Lateness e w = absurd (stays _ w on)
    go Held e w = absurd (stays _ w on)
    go Nothing e w = absurd (stays _ w on)

-- at most 180 rows are held: a write keeps it so
pub few-rows : (s : Registers) (a v : ℕ) (s' : Registers) → length s.rows ≤ 180 → Wrote s a v s' → length s'.rows ≤ 180
unfolding bound_table
few-rows s a v s' few w = go (place_of a) refl w
  where
    so : (t : Registers) → s' ≡ t → length t.rows ≤ 180 → length s'.rows ≤ 180
    so t e h = subst (λ (x : Registers). length x.rows ≤ 180) (sym e) h

    least : (x : Verdict) → judge (least_table s) ≡ x → (y : Verdict) (z : ℤ) → (y ≡ accepted → x ≡ accepted) →
        PlannedBy y s (stored_order s) z s' → length s'.rows ≤ 180
    least x e accepted z h P =
        so _ P.leaves (plan-few (stored_order s) z P.plan (stored-within s (e ∙ h refl)) P.plan-of)
    least x e (refused number carried) z h P = so _ P (omega arith)

    commanded : (t : Task) → CommandedBy t s s' → length s'.rows ≤ 180
    commanded at_bound P =
        least (judge (least_table s)) refl (judge (bound_table s)) (bound_of s) (accepted-first (least_table s) _) P
    commanded at_least P = least (judge (least_table s)) refl (judge (least_table s)) (least_lateness (stored_order s)) (λ e. e) P
    commanded clears P = so _ P (omega arith)
    commanded unknown P = so _ P (omega arith)

    go : (p : Place) → place_of a ≡ p → WroteBy p s a v s' → length s'.rows ≤ 180
    go Command e w = commanded (task_of v) w
    go Flag e w = so _ w few
    go Number e w = so _ w few
    go Allow e w = so _ w few
    go Stored e w = so _ w few
    go Lateness e w = so _ w few
    go Held e w = so _ w few
    go Nothing e w = so _ w few

-- "2 plan at least lateness": whatever is written to the bound's bytes, its table answers the same
module _ (s : Registers) (a v : ℕ) (low : a < 8) where
  above : (k : ℕ) → 8 ≤ k → (storing a v s).stored k ≡ s.stored k
  above k h = ap (λ (b : Bool). cond b v (s.stored k)) (ne_eqb k a (λ e. omega arith))

  same_length : length_of (storing a v s) ≡ length_of s
  same_length = omega (arith, above 8 (omega arith), above 9 (omega arith))

  same-file : file_in (storing a v s) ≡ file_in s
  same-file =
      ap (λ (n : ℕ). stored_from (storing a v s) 32 n) same_length
      ∙ tabulate-cong (length_of s) _ _ (λ i l. above (32 + i) (omega arith))

  pub least-blind : judge (least_table (storing a v s)) ≡ judge (least_table s)
  unfolding least_table
  least-blind =
      ap (λ (n : ℕ). judge (of n (file_in (storing a v s)))) same_length ∙ ap (λ (f : List ℕ). judge (of (length_of s) f)) same-file
    where
      of : ℕ → List ℕ → List TableRow
      of n f = row 12 (whole (ltb 220 n)) ∷ file_row (good_file f) ∷ order_rows screen (order_in f)

-- 20 is never answered: a file of 220 bytes with a processor has twelve jobs at most
module _ (s : Registers) where
  abbrev f : List ℕ
  f = file_in s

  abbrev before : List TableRow
  before = length_row s ∷ file_row (good_file f) ∷ []

  sizes : good_file f ≡ true → 4 * processor_count (order_in f) + 16 * job_count (order_in f) + 12 ≡ length f
  unfolding good_file order_in
  sizes good =
      let size = 4 * processors_of f + job_width * jobs_of f + trailer_width in
      let agree = lists_agree (processors_of f) (jobs_of f) (processor_place f) (job_place f) in
      let short = (both_true (leb shortest_file (length f)) (leb (length f) longest_file && (eqb size (length f) && agree)) good).1 in
      let sized = (both_true (leb (length f) longest_file) (eqb size (length f) && agree) short).1 in
      omega (
        arith,
        eqb-true size (length f) (both_true (eqb size (length f)) agree sized).0,
        length-tabulate (processors_of f) (λ i. number4 f (processor_place f + 4 * i)),
        length-tabulate (jobs_of f) (λ j. job_in f (job_place f + job_width * j)),
      )

  twenty : (later : List TableRow) → numbered 20 later ≡ false →
      judge (before ++ (count_rows screen (processor_count (order_in f)) (job_count (order_in f)) ++ later)) ≡ refused 20 0 → ⊥
  unfolding numbered
  twenty later none e =
      let h = (screen-jobs (processor_count (order_in f)) (job_count (order_in f)) before later refl none).0 e in
      let c = (judge-accepted before).0 h.0 in
      omega (
        arith,
        h.1,
        h.3,
        ltb-false 220 (length_of s) (whole-clear _ c.0),
        sizes (not-false (good_file f) (whole-clear _ c.1.0)),
        length-tabulate (length_of s) (λ i. s.stored (32 + i)),
      )

  pub never-twenty : (judge (least_table s) ≡ refused 20 0 → ⊥) × (judge (bound_table s) ≡ refused 20 0 → ⊥)
  unfolding least_table bound_table numbered
  never-twenty = (twenty (job_rows (order_in f)) refl, twenty _ refl)

  -- nor are 2, 4, 9, 11, 14 and the others: these are the numbers in the tables
  pub numbers-told : map (λ (r : TableRow). r.number) (bound_table s)
      ≡ 12 ∷ 12 ∷ 1 ∷ 21 ∷ 3 ∷ 20 ∷ 5 ∷ 6 ∷ 13 ∷ 7 ∷ 8 ∷ 10 ∷ []
  unfolding least_table bound_table
  numbers-told = refl
