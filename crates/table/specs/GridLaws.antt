-- The distinct ones of whole numbers, upwards, by their distinct leads, downwards; so the distinct due times of an order by the leads of
-- its jobs.
use Rattle.std.specs.Prelude.{ℕ, ◌≤◌, ◌<◌, ◌≡◌, true, List, map, ltb, ℤ, pos, length, get_or, ◌≤ℤ◌}
use Rattle.std.proofs.Common.{sym, ap, ◌∙◌, subst, arith, ltb-true}
use Rattle.std.proofs.Math.Decide.{dec_lt}
use Rattle.std.specs.Int.Signed.{lt_z}
use Rattle.sums.specs.Lists.{All, In, tabulate, down_to}
use Rattle.sums.specs.Members.{All-in, in-All, in-at, at_in, in_map, map-in}
use Rattle.sums.specs.Pairs.{Pairwise-at}
use Rattle.sums.specs.Places.{length-tabulate, get_d_tabulate, tabulate-cong, map-tabulate}
use Rattle.order.specs.Order.{Order, Job, job_of, no_job}
use Rattle.order.specs.Sorted.{distinct, due_times}
use Rattle.order.specs.SortedLaws.{ltb-strict, lt_z-strict, distinct-falls, in-distinct, distinct-in}
use Rattle.order.specs.Refusals.{due_in_range, Accepted}
use Rattle.order.proofs.RefusalLaws.{Acceptable, accepted-iff, dues-in-range}
use Rattle.order.proofs.StructLaws.{job-count}
use Rattle.order.specs.Table.{order_of, job_at}
use Rattle.order.specs.declared.Order.{Order as OrderTable}
use Rattle.order.specs.Lead.{lead, due_at, last_due, Workable}
use Rattle.sums.specs.Arrays.{RowOf}
use Rattle.table.specs.Tabled.{GridOf}
use Rattle.table.specs.declared.Members.{Members}
use Rattle.table.specs.Downwards.{DistinctOf}
use Rattle.table.specs.SameMembers.{same-members, lt_z-never}
use Rattle.order.proofs.LeadLaws.{workable, lead-due, due-back, due-falls, lead-most}
use Rattle.sums.specs.Downwards.{Pairwise-down, down-in, in-down}

-- Whole numbers by their leads: the distinct ones, downwards, are those of the distinct leads, upwards.
module _ (top : ℤ) (zs : List ℤ) (below : All (λ (z : ℤ). z ≤ℤ top) zs) (xs : List ℕ)
    (from : (x : ℕ) → In x xs → (z : ℤ) × In z zs × (x ≡ lead top z)) (to : (z : ℤ) → In z zs → In (lead top z) xs)
    (count : ℕ) (at : ℕ → ℕ) (list : tabulate count at ≡ distinct ltb xs) where
  at_listed : (i : ℕ) → i < count → at i ≡ get_or (distinct ltb xs) i 0
  at_listed i l = sym (get_d_tabulate count at 0 i l) ∙ ap (λ (ys : List ℕ). get_or ys i 0) list

  count-is : length (distinct ltb xs) ≡ count
  count-is = sym (ap length list) ∙ length-tabulate count at

  whole_is : (z : ℤ) → In z zs → due_at top (lead top z) ≡ z
  whole_is z i = due-back top z (All-in (λ (z : ℤ). z ≤ℤ top) zs below z i)

  -- each entry is the lead of one of them, and the lead of each is an entry
  entry_whole : (i : ℕ) → i < count → (z : ℤ) × In z zs × (at i ≡ lead top z)
  entry_whole i l =
      let r = from (get_or (distinct ltb xs) i 0)
      (distinct-in ltb ltb-strict _ xs (at_in (distinct ltb xs) 0 i (omega (arith, count-is)))) in
      (r.0, r.1, at_listed i l ∙ r.2)

  pub whole-entry : (z : ℤ) → In z zs → (i : ℕ) × (i < count) × (at i ≡ lead top z)
  whole-entry z h =
      let r = in-at (distinct ltb xs) 0 (lead top z) (in-distinct ltb ltb-strict _ xs (to z h)) in
      let l : r.0 < count = omega (arith, count-is, r.1) in
      (r.0, l, at_listed r.0 l ∙ r.2)

  falls : (i k : ℕ) → i < k → k < count → at k < at i
  falls i k l b =
      omega (
        arith,
        at_listed i (omega arith),
        at_listed k b,
        ltb-true (get_or (distinct ltb xs) k 0) (get_or (distinct ltb xs) i 0)
            (Pairwise-at (λ (x y : ℕ). ltb y x ≡ true) (distinct ltb xs) 0 (distinct-falls ltb ltb-strict xs) i k l
            (omega (arith, count-is))),
      )

  entry_in : (i : ℕ) → i < count → In (due_at top (at i)) zs
  entry_in i l =
      let r = entry_whole i l in
      subst (λ (z : ℤ). In z zs) (sym (ap (due_at top) r.2 ∙ whole_is r.0 r.1)) r.1

  pub distinct-by-leads : distinct lt_z zs ≡ down_to (λ i. due_at top (at i)) count
  distinct-by-leads =
      same-members lt_z lt_z-strict lt_z-never _ _ (distinct-falls lt_z lt_z-strict zs)
      (Pairwise-down (λ i. due_at top (at i)) _ count (λ i k l b. due-falls top _ _ (falls i k l b)))
      (λ z i.
      let h = distinct-in lt_z lt_z-strict z zs i in
      let e = whole-entry z h in
      subst (λ (y : ℤ). In y (down_to (λ i. due_at top (at i)) count)) (ap (due_at top) e.2 ∙ whole_is z h)
      (in-down (λ i. due_at top (at i)) count e.0 e.1))
      (λ z i.
      let r = down-in (λ i. due_at top (at i)) count z i in
      in-distinct lt_z lt_z-strict z zs (subst (λ (y : ℤ). In y zs) (sym r.2) (entry_in r.0 r.1)))

module _ (top : ℤ) (o : Order) (a : Workable top o) (m : Members)
    (d : DistinctOf (map (λ (job : Job). lead top job.due) o.jobs) m) (few : m.count ≤ 48) where
  abbrev dues : List ℤ
  dues = map (λ (job : Job). job.due) o.jobs

  abbrev leads : List ℕ
  leads = map (λ (job : Job). lead top job.due) o.jobs

  early : All (λ (z : ℤ). z ≤ℤ top) dues
  early =
      in-All (λ (z : ℤ). z ≤ℤ top) dues (λ z i.
      let r = in_map (λ (job : Job). job.due) o.jobs z i in
      subst (λ (y : ℤ). y ≤ℤ top) (sym r.2) (All-in (λ (job : Job). job.due ≤ℤ top) o.jobs a.dues r.0 r.1))

  from : (x : ℕ) → In x leads → (z : ℤ) × In z dues × (x ≡ lead top z)
  from x i =
      let r = in_map (λ (job : Job). lead top job.due) o.jobs x i in
      (r.0.due, map-in (λ (job : Job). job.due) o.jobs r.0 r.1, r.2)

  to : (z : ℤ) → In z dues → In (lead top z) leads
  to z i =
      let r = in_map (λ (job : Job). job.due) o.jobs z i in
      subst (λ (y : ℤ). In (lead top y) leads) (sym r.2) (map-in (λ (job : Job). lead top job.due) o.jobs r.0 r.1)

  abbrev entry : ℕ → ℕ
  entry i = get_or m.at i 0

  pub grid-found : GridOf top o m
  unfolding due_times
  grid-found =
      record {
        some =
            let r = whole-entry top dues early leads from to m.count entry d.list (job_of o 1).due
            (map-in (λ (job : Job). job.due) o.jobs (job_of o 1) (at_in o.jobs no_job 0 a.some-job)) in
            omega (arith, r.1);
        few = few;
        dues = distinct-by-leads top dues early leads from to m.count entry d.list;
        beyond = d.beyond;
      }

-- the leads of an accepted order's due times are small
pub grid-small : (o : Order) → Acceptable o → (m : Members) → GridOf last_due o m → (d : ℕ) → get_or m.at d 0 ≤ 2000000
unfolding due_times
grid-small o a m g d =
    elim (dec_lt d m.count) [
      | no l ↦ omega (arith, g.beyond d (omega arith))
      | yes l ↦
          let due = due_at last_due (get_or m.at d 0) in
          let i = subst (λ (ds : List ℤ). In due ds) (sym g.dues) (in-down (λ d. due_at last_due (get_or m.at d 0)) m.count d l) in
          let r = in_map (λ (job : Job). job.due) o.jobs due (distinct-in lt_z lt_z-strict due _ i) in
          omega (
            arith,
            lead-due last_due (get_or m.at d 0),
            ap (lead last_due) r.2,
            lead-most r.0.due (All-in (λ (job : Job). due_in_range job.due ≡ true) o.jobs (dues-in-range o a) r.0 r.1),
          )
    ]

-- the leads of a struct's jobs
pub leads-tabulated : (t : OrderTable) (r : List ℕ) → RowOf (λ j. lead last_due (get_or t.dues j (pos 0))) t.jobs r →
    tabulate t.jobs (λ j. get_or r j 0) ≡ map (λ (job : Job). lead last_due job.due) (order_of t).jobs
leads-tabulated t r h =
    tabulate-cong t.jobs (λ j. get_or r j 0) (λ j. lead last_due (job_at t j).due) h.at
    ∙ sym (map-tabulate (λ (job : Job). lead last_due job.due) t.jobs (job_at t))

-- and so their distinct ones are those of the due times
pub grid-of-leads : (t : OrderTable) → Accepted (order_of t) → (ls : List ℕ) →
    RowOf (λ j. lead last_due (get_or t.dues j (pos 0))) t.jobs ls → (m : Members) →
    DistinctOf (tabulate t.jobs (λ j. get_or ls j 0)) m → GridOf last_due (order_of t) m
grid-of-leads t ok ls h m d =
    let a = (accepted-iff (order_of t)).0 ok in
    grid-found last_due (order_of t) (workable (order_of t) a) m
    (subst (λ (l : List ℕ). DistinctOf l m) (leads-tabulated t ls h) d)
    (omega (arith, a.few-jobs, job-count t, d.few, length-tabulate t.jobs (λ j. get_or ls j 0)))
