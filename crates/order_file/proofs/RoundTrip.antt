-- An order that is written and read again is the same order; and what a file has to be for the reader to take it.
use Rattle.std.specs.Prelude.{ℕ, zero, suc, ◌+◌, ◌-◌, ◌*◌, ◌≤◌, ◌<◌, ◌≡◌, refl, Bool, true, false, ◌&&◌, ◌||◌, List, [], ◌∷◌, ◌++◌, ◌↔◌, ◌⊎◌, leb, eqb, length, take, drop}
use Rattle.std.proofs.Common.{sym, ◌∙◌, append_assoc, inl, inr, arith, leb-true, le-leb, eqb-true, eq-eqb, length-append, take_at}
use Rattle.std.proofs.Math.Path.{ap}
use Rattle.std.proofs.Math.ListN.{get_or}
use Rattle.sums.specs.Lists.{All, tabulate}
use Rattle.sums.specs.Members.{All-map, All-both}
use Rattle.sums.specs.Places.{tabulate-cong, tabulate-get_or}
use Rattle.order.specs.Order.{Job, Order, no_job, processor_count, job_count}
use Rattle.order.proofs.EndLaws.{mag-range}
use Rattle.order.specs.Refusals.{limits, Verdict, accepted, refused, judge, order_rows, Accepted, shortest_file, longest_file}
use Rattle.order.proofs.RefusalLaws.{Acceptable, accepted-iff, accepted-first, dues-in-range, both_true, true-both, either_true}
use Rattle.order.proofs.StructLaws.{same-order}
use Rattle.order.specs.Table.{order_of, job_at}
use Rattle.order.specs.declared.Order.{Order as OrderTable}
use Rattle.order_file.specs.Bytes.{number4, number2}
use Rattle.order_file.specs.ByteLaws.{four_bytes, two_bytes, number4-past, number2-past}
use Rattle.order_file.specs.File.{
  trailer,
  processor_place,
  job_place,
  processors_of,
  jobs_of,
  lists_agree,
  good_file,
  job_in,
  order_in,
  read_rows,
  processor_bytes,
  job_bytes,
  trailer_bytes,
  file_of,
  file_length,
  write_rows,
  written_by,
  ReadBackBy,
  job_width,
  trailer_width,
}
use Rattle.order_file.specs.FileLaws.{
  length-processor_bytes,
  length-job_bytes,
  number4-processor_bytes,
  JobFits,
  job_in-past,
  job_in-job_bytes,
}

-- what the reader asks of a file: its length is that of its lists and trailer, and the lists lie one after the other from
-- byte 0, in either order
pub record Agrees (f : List ℕ) : Type 0 where
  pub long-enough : shortest_file ≤ length f
  pub short-enough : length f ≤ longest_file
  pub exact-length : length f ≡ 4 * processors_of f + job_width * jobs_of f + trailer_width
  pub placed : ((processor_place f ≡ 0) × (job_place f ≡ 4 * processors_of f))
      ⊎ ((job_place f ≡ 0) × (processor_place f ≡ job_width * jobs_of f))

true-left : (a b : Bool) → a ≡ true → (a || b) ≡ true
true-left a b e = rw e

true-right : (a b : Bool) → b ≡ true → (a || b) ≡ true
true-right true b e = refl
true-right false b e = e

both_equal : (a b c d : ℕ) → (eqb a b && eqb c d) ≡ true → (a ≡ b) × (c ≡ d)
both_equal a b c d e = let h = both_true (eqb a b) (eqb c d) e in (eqb-true a b h.0, eqb-true c d h.1)

equal-both : (a b c d : ℕ) → a ≡ b → c ≡ d → (eqb a b && eqb c d) ≡ true
equal-both a b c d e f = true-both (eqb a b) (eqb c d) (eq-eqb a b e) (eq-eqb c d f)

-- the two placements
pub lists_agree-iff : (p j pa ja : ℕ) →
    (lists_agree p j pa ja ≡ true) ↔ (((pa ≡ 0) × (ja ≡ 4 * p)) ⊎ ((ja ≡ 0) × (pa ≡ job_width * j)))
lists_agree-iff p j pa ja = (
  λ e. elim (either_true (eqb pa 0 && eqb ja (4 * p)) (eqb ja 0 && eqb pa (job_width * j)) e) [
    | inl h ↦ inl (both_equal pa 0 ja (4 * p) h)
    | inr h ↦ inr (both_equal ja 0 pa (job_width * j) h)
  ],
  λ s. elim s [
    | inl h ↦ true-left (eqb pa 0 && eqb ja (4 * p)) _ (equal-both pa 0 ja (4 * p) h.0 h.1)
    | inr h ↦ true-right (eqb pa 0 && eqb ja (4 * p)) _ (equal-both ja 0 pa (job_width * j) h.0 h.1)
  ],
)

-- the test of a file says that
pub good_file-iff : (f : List ℕ) → (good_file f ≡ true) ↔ Agrees f
unfolding good_file
good_file-iff f = (
  λ e.
      let h₁ = both_true (leb shortest_file (length f)) _ e in
      let h₂ = both_true (leb (length f) longest_file) _ h₁.1 in
      let h₃ = both_true (eqb (4 * processors_of f + job_width * jobs_of f + trailer_width) (length f)) _ h₂.1 in
      record {
        long-enough = leb-true shortest_file (length f) h₁.0;
        short-enough = leb-true (length f) longest_file h₂.0;
        exact-length = sym (eqb-true (4 * processors_of f + job_width * jobs_of f + trailer_width) (length f) h₃.0);
        placed = (lists_agree-iff (processors_of f) (jobs_of f) (processor_place f) (job_place f)).0 h₃.1;
      },
  λ a.
      true-both (leb shortest_file (length f)) _ (le-leb shortest_file (length f) a.long-enough)
      (true-both (leb (length f) longest_file) _ (le-leb (length f) longest_file a.short-enough)
      (true-both (eqb (4 * processors_of f + job_width * jobs_of f + trailer_width) (length f)) _
      (eq-eqb (4 * processors_of f + job_width * jobs_of f + trailer_width) (length f) (sym a.exact-length))
      ((lists_agree-iff (processors_of f) (jobs_of f) (processor_place f) (job_place f)).1 a.placed))),
)

-- the file of an order is as long as it says
lists_length : (o : Order) →
    length (processor_bytes o.memories ++ job_bytes o.jobs) ≡ 4 * processor_count o + job_width * job_count o
lists_length o =
    omega (
      arith,
      length-append (processor_bytes o.memories) (job_bytes o.jobs),
      length-processor_bytes o.memories,
      length-job_bytes o.jobs,
    )

lists-first : (o : Order) →
    file_of o ≡ (processor_bytes o.memories ++ job_bytes o.jobs) ++ trailer_bytes (processor_count o) (job_count o)
unfolding file_of
lists-first o =
    sym (append_assoc (processor_bytes o.memories) (job_bytes o.jobs) (trailer_bytes (processor_count o) (job_count o)))

pub file_of-length : (o : Order) → length (file_of o) ≡ file_length o
file_of-length o =
    ap length (lists-first o)
    ∙ length-append (processor_bytes o.memories ++ job_bytes o.jobs) (trailer_bytes (processor_count o) (job_count o))
    ∙ ap (λ (n : ℕ). n + trailer_width) (lists_length o)

-- the writer's buffer begins with the file
pub written-file : (o : Order) (buffer : List ℕ) → take (file_length o) (file_of o ++ drop (file_length o) buffer) ≡ file_of o
written-file o buffer = take_at (file_of o) (drop (file_length o) buffer) (file_length o) (file_of-length o)

-- document 01's ranges of memory and need: 0 to 4,294,967,295
pub record Bounded (o : Order) : Type 0 where
  pub memories : All (λ m. m < 4294967296) o.memories
  pub needs : All (λ (job : Job). job.need < 4294967296) o.jobs

-- a number of a list of such numbers, or the 0 behind its end
small_at : (xs : List ℕ) (i : ℕ) → All (λ x. x < 4294967296) xs → get_or xs i 0 < 4294967296
small_at [] i h = omega arith
small_at (x ∷ xs) zero h = h.0
small_at (x ∷ xs) (suc i) h = small_at xs i h.1

all-tabulated : {A : Type 0} (P : A → Type 0) (n : ℕ) (f : ℕ → A) → ((i : ℕ) → P (f i)) → All P (tabulate n f)
all-tabulated P zero f h = tt
all-tabulated P (suc n) f h = (h 0, all-tabulated P n (λ i. f (suc i)) (λ i. h (suc i)))

-- a struct whose memories and needs are of 32 bits has an order in these ranges
pub struct-bounded : (t : OrderTable) → All (λ m. m < 4294967296) t.memories → All (λ n. n < 4294967296) t.needs →
    Bounded (order_of t)
struct-bounded t m n =
    record {
      memories = all-tabulated _ t.processors _ (λ i. small_at t.memories i m);
      needs = all-tabulated _ t.jobs (job_at t) (λ j. small_at t.needs j n);
    }

module _ (o : Order) (a : Accepted o) (b : Bounded o) where
  good : Acceptable o
  good = (accepted-iff o).0 a

  jobs-fit : All JobFits o.jobs
  jobs-fit =
      All-map _ _ o.jobs
      (λ (job : Job) h.
      record {
        time = omega (arith, h.0.0);
        due = omega (arith, mag-range 999999 1000000 job.due h.1.0);
        need = h.1.1.0;
        maker = omega (arith, h.1.1.1);
      })
      (All-both _ _ o.jobs good.times
      (All-both _ _ o.jobs (dues-in-range o good) (All-both _ _ o.jobs b.needs good.makers)))

  few-places : 4 * processor_count o + job_width * job_count o ≤ longest_file - trailer_width
  few-places = omega (arith, good.few-processors, good.few-jobs)

  -- the numbers of its trailer
  trailer-at : (k : ℕ) → trailer (file_of o) + k ≡ 4 * processor_count o + job_width * job_count o + k
  trailer-at k = omega (arith, file_of-length o)

  trailer-number4 : (k : ℕ) →
      number4 (file_of o) (4 * processor_count o + job_width * job_count o + k) ≡ number4 (trailer_bytes (processor_count o) (job_count o)) k
  trailer-number4 k =
      ap (λ (f : List ℕ). number4 f (4 * processor_count o + job_width * job_count o + k)) (lists-first o)
      ∙ number4-past (processor_bytes o.memories ++ job_bytes o.jobs) (trailer_bytes (processor_count o) (job_count o))
      (4 * processor_count o + job_width * job_count o) k (lists_length o)

  trailer-number2 : (k : ℕ) →
      number2 (file_of o) (4 * processor_count o + job_width * job_count o + k) ≡ number2 (trailer_bytes (processor_count o) (job_count o)) k
  trailer-number2 k =
      ap (λ (f : List ℕ). number2 f (4 * processor_count o + job_width * job_count o + k)) (lists-first o)
      ∙ number2-past (processor_bytes o.memories ++ job_bytes o.jobs) (trailer_bytes (processor_count o) (job_count o))
      (4 * processor_count o + job_width * job_count o) k (lists_length o)

  processor-place : processor_place (file_of o) ≡ 0
  processor-place =
      let at : trailer (file_of o) ≡ 4 * processor_count o + job_width * job_count o + 0 = omega (arith, file_of-length o) in
      ap (number4 (file_of o)) at ∙ trailer-number4 0

  job-place : job_place (file_of o) ≡ 4 * processor_count o
  job-place =
      ap (number4 (file_of o)) (trailer-at 4) ∙ trailer-number4 4 ∙ four_bytes (4 * processor_count o) (omega (arith, few-places))

  processors-are : processors_of (file_of o) ≡ processor_count o
  processors-are =
      ap (number2 (file_of o)) (trailer-at 8) ∙ trailer-number2 8 ∙ two_bytes (processor_count o) (omega (arith, few-places))

  jobs-are : jobs_of (file_of o) ≡ job_count o
  jobs-are =
      ap (number2 (file_of o)) (trailer-at 10) ∙ trailer-number2 10 ∙ two_bytes (job_count o) (omega (arith, few-places))

  agrees : Agrees (file_of o)
  agrees =
      record {
        long-enough = omega (arith, file_of-length o);
        short-enough = omega (arith, file_of-length o, few-places);
        exact-length = omega (arith, file_of-length o, processors-are, jobs-are);
        placed = inl (processor-place, job-place ∙ ap (λ (n : ℕ). 4 * n) (sym processors-are));
      }

  -- the numbers of its lists
  memory-read : (i : ℕ) → i < processor_count o → number4 (file_of o) (processor_place (file_of o) + 4 * i) ≡ get_or o.memories i 0
  unfolding file_of
  memory-read i l =
      let at : processor_place (file_of o) + 4 * i ≡ 4 * i = omega (arith, processor-place) in
      ap (number4 (file_of o)) at
      ∙ number4-processor_bytes o.memories (job_bytes o.jobs ++ trailer_bytes (processor_count o) (job_count o))
      b.memories i l

  job_read : (j : ℕ) → j < job_count o → job_in (file_of o) (job_place (file_of o) + job_width * j) ≡ get_or o.jobs j no_job
  unfolding file_of
  job_read j l =
      let rest = job_bytes o.jobs ++ trailer_bytes (processor_count o) (job_count o) in
      ap (λ (k : ℕ). job_in (file_of o) (k + job_width * j)) job-place
      ∙ job_in-past (processor_bytes o.memories) rest (4 * processor_count o) (job_width * j) (length-processor_bytes o.memories)
      ∙ job_in-job_bytes o.jobs (trailer_bytes (processor_count o) (job_count o)) jobs-fit j l

  order-read : order_in (file_of o) ≡ o
  unfolding order_in
  order-read =
      same-order _ _ _ _
      (ap (λ (n : ℕ). tabulate n (λ i. number4 (file_of o) (processor_place (file_of o) + 4 * i))) processors-are
      ∙ tabulate-cong (processor_count o) _ (λ i. get_or o.memories i 0) memory-read
      ∙ tabulate-get_or o.memories 0)
      (ap (λ (n : ℕ). tabulate n (λ j. job_in (file_of o) (job_place (file_of o) + job_width * j))) jobs-are
      ∙ tabulate-cong (job_count o) _ (λ j. get_or o.jobs j no_job) job_read
      ∙ tabulate-get_or o.jobs no_job)

  file-accepted : judge (read_rows (file_of o)) ≡ accepted
  unfolding read_rows judge
  file-accepted = rw ((good_file-iff (file_of o)).1 agrees, order-read) a

-- reading a written order yields the same order
pub read-written : (o : Order) → Accepted o → Bounded o → (judge (read_rows (file_of o)) ≡ accepted) × (order_in (file_of o) ≡ o)
read-written o a b = (file-accepted o a b, order-read o a b)

-- what the writer leaves in a lent buffer is read back as the same order
pub read_back : (o : Order) (buffer : List ℕ) → Bounded o →
    ReadBackBy (judge (write_rows o (length buffer))) o (written_by (judge (write_rows o (length buffer))) o buffer)
unfolding write_rows
read_back o buffer b = go (judge (write_rows o (length buffer))) refl
  where
    go : (v : Verdict) → judge (write_rows o (length buffer)) ≡ v → ReadBackBy v o (written_by v o buffer)
    go accepted is =
        let r = read-written o (accepted-first (order_rows limits o) _ is) b in
        let f = written-file o buffer in
        record { taken = rw f r.0; same = rw f r.1 }
    go (refused number carried) is = tt
