-- The list of leads that the code gathers has those of the order's changes; so its distinct ones are the changes, and their minutes are the
-- frame's marks.
use Prim.Native.Nat.{ℕ, zero, suc, ◌+◌, ◌-◌, ◌*◌, ◌≤◌, ◌<◌}
use mathlib.Core.Path.{◌≡◌, sym, ap, ◌∙◌, subst}
use mathlib.Core.Bool.{true}
use mathlib.Core.List.{List, ◌++◌, map, reverse}
use mathlib.Core.Logic.{inl, inr}
use native.Mathlib.Decide.{dec_lt}
use native.Mathlib.Omega.{arith}
use lib.Dec.{ltb}
use lib.IntN.{ℤ, pos}
use lib.ListN.{length, get_or, drop, length-reverse}
use lib.Signed.{◌≤ℤ◌}
use Rattle.sums.specs.Arrays.{RowOf}
use Rattle.sums.specs.Downwards.{length-down, down-reversed}
use Rattle.sums.specs.Lists.{In, tabulate, nth, down_to}
use Rattle.sums.specs.Members.{All-nth, All-in, in-All, in-at, at_in, in-append, in_left, in_right, in_map, map-in}
use Rattle.sums.specs.Places.{length-tabulate, get_d_tabulate, numbers-in, numbers-are}
use Rattle.order.specs.Order.{Order, processor_count, job_count, Numbers, no_job, job_of, end_of}
use Rattle.order.specs.Deadline.{cut}
use Rattle.order.specs.Lead.{lead, due_at}
use Rattle.order.specs.Refusals.{due_in_range}
use Rattle.order.proofs.RefusalLaws.{accepted-iff, dues-in-range}
use Rattle.order.specs.Sorted.{distinct}
use Rattle.order.specs.SortedLaws.{distinct-length}
use Rattle.order.specs.Whole.{pos-le}
use Rattle.table.specs.FallingLaws.{held-list}
use Rattle.table.specs.Held.{number_at}
use Rattle.table.specs.HeldLaws.{held-once}
use Rattle.table.specs.GridLaws.{distinct-by-leads}
use Rattle.table.specs.declared.Table.{Table}
use Rattle.allot.specs.Tables.{Put}
use Rattle.timed.specs.Changes.{changes, change_times}
use Rattle.timed.specs.Settled.{mark_at-is}
use Rattle.timed.specs.Leads.{top, most_bound, WindowsPut}
use Rattle.timed.specs.LeadLaws.{lead-minute, minute-of-lead, lead-end, end-by-top}
use Rattle.timed.specs.Making.{TimedOf, ChangesOf}
use Rattle.timed.specs.Times.{times_of}
use Rattle.timed.specs.declared.Times.{Times as TimesTable}

module _ (o : Order) (t : Table) (bound : ℤ) (times : TimesTable) (T : TimedOf o t bound times)
    (l₀ l₁ l₂ l₃ : List ℕ) (shift : ℕ) (e : shift ≡ lead most_bound bound)
    (P₁ : Put l₀ l₁ 0 t.n (λ i. 11000001 - get_or times.ready i 0))
    (P₂ : Put l₁ l₂ t.n t.n (λ i. get_or t.leads i 0 + shift))
    (W : WindowsPut l₂ l₃ (2 * t.n) t.m times.opens times.closes) where
  abbrev size : ℕ
  size = 2 * t.n + 2 * t.m

  abbrev whole : List ℤ
  whole = changes o bound (times_of times)

  -- what stands at each place
  ready_at : (i : ℕ) → i < t.n → get_or l₃ i 0 ≡ lead top (pos (get_or times.ready i 0))
  ready_at i l =
      let z : i ≡ 0 + i = omega arith in
      W.before i (omega arith) ∙ P₂.before i l ∙ ap (λ (k : ℕ). get_or l₁ k 0) z ∙ P₁.inside i l
      ∙ sym (lead-minute (get_or times.ready i 0))

  due-good : (j : ℕ) → Numbers (job_count o) j → due_in_range (job_of o j).due ≡ true
  due-good j b = All-nth _ o.jobs no_job (dues-in-range o ((accepted-iff o).0 T.accepted)) j b.0 b.1

  end-at : (k : ℕ) → k < job_count o → get_or l₃ (t.n + k) 0 ≡ lead top (end_of bound (job_of o (number_at o k)))
  unfolding end_of
  end-at k l =
      W.before (t.n + k) (omega (arith, T.tabled.jobs))
      ∙ P₂.inside k (omega (arith, T.tabled.jobs))
      ∙ omega (
        arith,
        e,
        T.tabled.leads k l,
        lead-end bound (job_of o (number_at o k)).due T.bound-good (due-good (number_at o k) ((held-once o).are k l)),
      )

  opens_at : (i : ℕ) → i < t.m → get_or l₃ (2 * t.n + i) 0 ≡ lead top (pos (get_or times.opens i 0))
  opens_at i l = W.opening i l ∙ sym (lead-minute (get_or times.opens i 0))

  closes_at : (i : ℕ) → i < t.m → get_or l₃ (2 * t.n + t.m + i) 0 ≡ lead top (pos (get_or times.closes i 0))
  closes_at i l = W.closing i l ∙ sym (lead-minute (get_or times.closes i 0))

  -- the changes by their numbers
  abbrev jobs : List ℕ
  jobs = tabulate (job_count o) suc

  abbrev processors : List ℕ
  processors = tabulate (processor_count o) suc

  abbrev readies : List ℤ
  readies = map (λ j. pos (nth times.ready j 0)) jobs

  abbrev ends : List ℤ
  ends = map (λ j. end_of bound (job_of o j)) jobs

  abbrev openings : List ℤ
  openings = map (λ i. pos (nth times.opens i 0)) processors

  abbrev closings : List ℤ
  closings = map (λ i. pos (nth times.closes i 0)) processors

  -- each change is in time and stands at a place
  abbrev Placed : ℤ → Type 0
  Placed z = (i : ℕ) × (i < size) × (get_or l₃ i 0 ≡ lead top z) × (z ≤ℤ top)

  minute-by-top : (x : ℕ) → x ≤ 1000000 → pos x ≤ℤ top
  minute-by-top x h = (pos-le x 11000001).1 (omega arith)

  ready-placed : (j : ℕ) → Numbers (job_count o) j → Placed (pos (nth times.ready j 0))
  ready-placed zero b = absurd (omega arith)
  ready-placed (suc i) b =
      let l : i < t.n = omega (arith, b.1, T.tabled.jobs) in
      (i, omega arith, ready_at i l, minute-by-top (get_or times.ready i 0) (T.in-range.readies (suc i) b))

  end-placed : (j : ℕ) → Numbers (job_count o) j → Placed (end_of bound (job_of o j))
  unfolding end_of
  end-placed j b =
      let r = (held-once o).place j b in (
        t.n + r.0,
        omega (arith, r.1, T.tabled.jobs),
        end-at r.0 r.1 ∙ ap (λ (x : ℕ). lead top (end_of bound (job_of o x))) r.2,
        end-by-top bound (job_of o j).due T.bound-good (due-good j b),
      )

  opening-placed : (i : ℕ) → Numbers (processor_count o) i → Placed (pos (nth times.opens i 0))
  opening-placed zero b = absurd (omega arith)
  opening-placed (suc i) b =
      let l : i < t.m = omega (arith, b.1, T.tabled.processors) in
      (2 * t.n + i, omega arith, opens_at i l, minute-by-top (get_or times.opens i 0) (T.in-range.openings (suc i) b))

  closing-placed : (i : ℕ) → Numbers (processor_count o) i → Placed (pos (nth times.closes i 0))
  closing-placed zero b = absurd (omega arith)
  closing-placed (suc i) b =
      let l : i < t.m = omega (arith, b.1, T.tabled.processors) in
      (2 * t.n + t.m + i, omega arith, closes_at i l, minute-by-top (get_or times.closes i 0) (T.in-range.closings (suc i) b))

  mapped : (n : ℕ) (f : ℕ → ℤ) → ((j : ℕ) → Numbers n j → Placed (f j)) → (z : ℤ) → In z (map f (tabulate n suc)) → Placed z
  mapped n f h z i =
      let r = in_map f (tabulate n suc) z i in
      subst Placed (sym r.2) (h r.0 (All-in (Numbers n) (tabulate n suc) (numbers-are n) r.0 r.1))

  each_placed : (z : ℤ) → In z whole → Placed z
  unfolding changes
  each_placed z i =
      elim (in-append readies _ z i) [
        | inl a ↦ mapped (job_count o) _ ready-placed z a
        | inr a ↦
            elim (in-append ends _ z a) [
              | inl b ↦ mapped (job_count o) _ end-placed z b
              | inr b ↦
                  elim (in-append openings closings z b) [
                    | inl c ↦ mapped (processor_count o) _ opening-placed z c
                    | inr c ↦ mapped (processor_count o) _ closing-placed z c
                  ]
            ]
      ]

  -- and each place has the lead of one
  abbrev Named : ℕ → Type 0
  Named x = (z : ℤ) × In z whole × (x ≡ lead top z)

  place-named : (i : ℕ) → i < size → Named (get_or l₃ i 0)
  unfolding changes
  place-named i l =
      elim (dec_lt i t.n) [
        | yes a ↦ (
          pos (get_or times.ready i 0),
          in_left readies _ _ (map-in (λ j. pos (nth times.ready j 0)) jobs (suc i)
              (numbers-in (job_count o) (suc i) (omega arith) (omega (arith, T.tabled.jobs)))),
          ready_at i a,
        )
        | no a ↦
            elim (dec_lt i (2 * t.n)) [
              | yes b ↦
                  let k : ℕ = i - t.n in
                  let e : t.n + k ≡ i = omega arith in
                  let n : k < job_count o = omega (arith, T.tabled.jobs) in (
                    end_of bound (job_of o (number_at o k)),
                    in_right readies _ _ (in_left ends _ _ (map-in (λ j. end_of bound (job_of o j)) jobs (number_at o k)
                        (numbers-in (job_count o) (number_at o k) ((held-once o).are k n).0 ((held-once o).are k n).1))),
                    ap (λ (x : ℕ). get_or l₃ x 0) (sym e) ∙ end-at k n,
                  )
              | no b ↦
                  elim (dec_lt i (2 * t.n + t.m)) [
                    | yes c ↦
                        let k : ℕ = i - 2 * t.n in
                        let e : 2 * t.n + k ≡ i = omega arith in
                        let n : k < t.m = omega arith in (
                          pos (get_or times.opens k 0),
                          in_right readies _ _ (in_right ends _ _ (in_left openings closings _
                              (map-in (λ j. pos (nth times.opens j 0)) processors (suc k)
                              (numbers-in (processor_count o) (suc k) (omega arith) (omega (arith, T.tabled.processors)))))),
                          ap (λ (x : ℕ). get_or l₃ x 0) (sym e) ∙ opens_at k n,
                        )
                    | no c ↦
                        let k : ℕ = i - (2 * t.n + t.m) in
                        let e : 2 * t.n + t.m + k ≡ i = omega arith in
                        let n : k < t.m = omega arith in (
                          pos (get_or times.closes k 0),
                          in_right readies _ _ (in_right ends _ _ (in_right openings closings _
                              (map-in (λ j. pos (nth times.closes j 0)) processors (suc k)
                              (numbers-in (processor_count o) (suc k) (omega arith) (omega (arith, T.tabled.processors)))))),
                          ap (λ (x : ℕ). get_or l₃ x 0) (sym e) ∙ closes_at k n,
                        )
                  ]
            ]
      ]

  abbrev leads : List ℕ
  leads = tabulate size (λ j. get_or l₃ j 0)

  lead-named : (x : ℕ) → In x leads → Named x
  lead-named x h =
      let r = in-at leads 0 x h in
      let l : r.0 < size = rw length-tabulate at r.1 in
      subst Named (sym (get_d_tabulate size (λ j. get_or l₃ j 0) 0 r.0 l) ∙ r.2) (place-named r.0 l)

  placed-in : (z : ℤ) → In z whole → In (lead top z) leads
  placed-in z h =
      let r = each_placed z h in
      subst (λ (x : ℕ). In x leads) (get_d_tabulate size (λ j. get_or l₃ j 0) 0 r.0 r.1 ∙ r.2)
      (at_in leads 0 r.0 (rw length-tabulate r.1))

  -- the code's distinct leads are those of the changes
  module _ (count : ℕ) (at lent : List ℕ) (f : count ≡ length (distinct ltb leads)) (g : at ≡ distinct ltb leads ++ drop count lent) where
    times-are : change_times o bound (times_of times) ≡ down_to (λ i. due_at top (get_or at i 0)) count
    unfolding change_times
    times-are =
        distinct-by-leads top whole (in-All _ whole (λ z i. (each_placed z i).3)) leads lead-named placed-in count
        (λ i. get_or at i 0) (held-list leads at lent count f g)

    pub changes-found : t.n ≤ 48 → t.m ≤ 16 → (marks : List ℕ) → RowOf (λ i. 11000001 - get_or at i 0) 128 marks →
        ChangesOf o bound (times_of times) (record { count = count; marks = marks })
    changes-found few-jobs few-processors marks R =
        record {
          count-is = sym (ap length times-are ∙ length-down (λ i. due_at top (get_or at i 0)) count);
          few = omega (arith, f, distinct-length ltb leads, length-tabulate size (λ j. get_or l₃ j 0));
          marks-are = λ s l.
              let n : s < length (reverse (change_times o bound (times_of times)))
              = omega (
                arith,
                length-reverse (change_times o bound (times_of times)),
                ap length times-are,
                length-down (λ i. due_at top (get_or at i 0)) count,
              ) in
              let d : count ≤ 128 = omega (arith, f, distinct-length ltb leads, length-tabulate size (λ j. get_or l₃ j 0)) in
              R.at s (omega arith)
              ∙ sym (minute-of-lead (get_or at s 0))
              ∙ sym (ap cut (ap (λ (zs : List ℤ). get_or (reverse zs) s (pos 0)) times-are
              ∙ down-reversed (λ i. due_at top (get_or at i 0)) (pos 0) count s l))
              ∙ sym (mark_at-is (reverse (change_times o bound (times_of times))) s n);
          marks-small = λ s l.
              let d : count ≤ 128 = omega (arith, f, distinct-length ltb leads, length-tabulate size (λ j. get_or l₃ j 0)) in
              omega (arith, R.at s (omega arith));
        }
