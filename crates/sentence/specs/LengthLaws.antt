-- The longest line has 541 bytes.
use Rattle.std.specs.Prelude.{ℕ, suc, ◌+◌, ◌*◌, ◌≤◌, ◌<◌, ◌≡◌, true, ℤ, length}
use mathlib.Core.List.{List, [], ◌∷◌, ◌++◌}
use native.Mathlib.Omega.{arith}
use Rattle.std.proofs.Math.ListN.{length-append}
use Rattle.std.specs.Int.Signed.{mag}
use Rattle.sums.specs.Lists.{All, nth}
use Rattle.sums.specs.Members.{All-in, in-All, All-nth}
use Rattle.order.specs.Order.{Job, Order, no_job, job_of, end_of}
use Rattle.order.specs.Class.{classes}
use Rattle.order.proofs.ClassLaws.{classes-few, class-in-memories}
use Rattle.order.proofs.EndLaws.{mag-end, mag-range}
use Rattle.order.specs.Refusals.{Accepted, due_in_range, bound_in_range}
use Rattle.order.proofs.RefusalLaws.{accepted-iff, dues-in-range}
use Rattle.profile.proofs.MinutesLaws.{minutes-owed-most, dues-range, stands-natural}
use Rattle.profile.specs.Profile.{minutes_owed, minutes_on_hand}
use Rattle.profile.specs.Reason.{Reason, over_end, stairs, Stands}
use Rattle.text.specs.Text.{ascii, decimal, number, signed_number}
use Rattle.text.specs.TextLaws.{decimal-length, decimal-short, signed-length, natural-length}
use Rattle.sentence.specs.Line.{job_text, class_text, classes_from, sums_text, line_of}

-- a job with its time and its end
job-length : (j time : ℕ) (end : ℤ) → j ≤ 48 → time ≤ 100000 → mag end ≤ 22000000 → length (job_text j time end) ≤ 34
job-length j time end a b c =
    omega (
      arith,
      length-append (decimal j) (ascii ": time" ++ (number time ++ (ascii ", end" ++ signed_number end))),
      length-append (decimal time) (ascii ", end" ++ signed_number end),
      decimal-length 1 j (omega arith),
      decimal-length 5 time (omega arith),
      signed-length 7 end (omega arith),
    )

-- a class's memory with its due time
class-length : (memory : ℕ) (due : ℤ) → memory < 4294967296 → due_in_range due ≡ true → length (class_text memory due) ≤ 30
class-length memory due m d =
    omega (
      arith,
      length-append (decimal memory) (ascii " due" ++ signed_number due),
      decimal-short memory m,
      signed-length 6 due (omega (arith, mag-range 999999 1000000 due d)),
    )

-- minutes owed of at most seven digits and minutes on hand of at most k bytes
sums-length : (k owed : ℕ) (on_hand : ℤ) → length (decimal owed) ≤ 7 → length (signed_number on_hand) ≤ k →
    length (sums_text owed on_hand) ≤ 23 + k
sums-length k owed on_hand a b = omega (arith, length-append (decimal owed) (ascii ", on hand" ++ signed_number on_hand))

module _ (memories : List ℕ) (small : All (λ m. m < 4294967296) memories) where
  -- classes behind another: two bytes more each
  classes-length : (before : ℕ) (dues : List ℤ) → suc before + length dues ≤ length memories →
      All (λ (d : ℤ). due_in_range d ≡ true) dues → length (classes_from memories (suc before) dues) ≤ 32 * length dues
  unfolding classes_from
  classes-length before [] l h = omega arith
  classes-length before (d ∷ dues) l h =
      let m = nth memories (suc (suc before)) 0 in
      omega (
        arith,
        length-append (class_text m d) (classes_from memories (suc (suc before)) dues),
        class-length m d (All-nth _ memories 0 small (suc (suc before)) (omega arith) (omega arith)) h.0,
        classes-length (suc before) dues (omega arith) h.1,
      )

  -- up to sixteen classes
  stairs-length : (dues : List ℤ) → length dues ≤ length memories → length dues ≤ 16 →
      All (λ (d : ℤ). due_in_range d ≡ true) dues → length (classes_from memories 0 dues) ≤ 510
  unfolding classes_from
  stairs-length [] l k h = omega arith
  stairs-length (d ∷ dues) l k h =
      let m = nth memories 1 0 in
      omega (
        arith,
        length-append (class_text m d) (classes_from memories 1 dues),
        class-length m d (All-nth _ memories 0 small 1 (omega arith) (omega arith)) h.0,
        classes-length 0 dues (omega arith) h.1,
      )

-- of an accepted order whose memories are of 32 bits
pub line-short : (o : Order) → Accepted o → All (λ m. m < 4294967296) o.memories → (bound : ℤ) → bound_in_range bound ≡ true →
    (r : Reason) → Stands o bound r → length (line_of o bound r) ≤ 541
unfolding line_of end_of
line-short o ok small bound range (over_end j) h =
    let a = (accepted-iff o).0 ok in
    let n = h.0 in
    let job = job_of o j in
    let t = All-nth _ o.jobs no_job a.times j n.0 n.1 in
    let d = All-nth (λ (job : Job). due_in_range job.due ≡ true) o.jobs no_job (dues-in-range o a) j n.0 n.1 in
    let e = mag-end job.due bound d range in
    omega (
      arith,
      length-append (job_text j job.time (end_of bound job)) (sums_text job.time (end_of bound job)),
      job-length j job.time (end_of bound job) (omega (arith, n.1, a.few-jobs)) t.1 e,
      sums-length 10 job.time (end_of bound job) (decimal-length 6 job.time (omega (arith, t.1)))
          (signed-length 7 (end_of bound job) (omega (arith, e))),
    )
line-short o ok small bound range (stairs dues) h =
    let a = (accepted-iff o).0 ok in
    let p = h.1.profile in
    let n = stands-natural o bound dues h in
    let most = minutes-owed-most o bound a dues in
    let memories = in-All (λ m. m < 4294967296) (classes o) (λ m i. All-in _ o.memories small m (class-in-memories o m i)) in
    omega (
      arith,
      length-append (classes_from (classes o) 0 dues) (sums_text (minutes_owed o bound dues) (minutes_on_hand o bound dues)),
      stairs-length (classes o) memories dues p.of-classes (omega (arith, p.of-classes, classes-few o, a.few-processors))
          (dues-range o a bound dues p),
      sums-length 8 (minutes_owed o bound dues) (minutes_on_hand o bound dues)
          (decimal-length 6 (minutes_owed o bound dues) (omega (arith, most)))
          (natural-length 6 n.0 (minutes_on_hand o bound dues) n.1 (omega (arith, n.2, most))),
    )
