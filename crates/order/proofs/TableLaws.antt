-- A refusal of the code is a refusal of the table, and stands whatever rows follow.
use Rattle.std.specs.Prelude.{ℕ, ◌≡◌, refl, false, List, ◌++◌, eqb}
use Rattle.std.proofs.Common.{sym, ap, ◌∙◌, arith}
use Rattle.order.specs.Refusals.{TableRow, Verdict, accepted, refused, judge, answer, refusal, answer_by}
use Rattle.order.proofs.RefusalLaws.{judge-refused-append}
use Rattle.order.specs.Callers.{limits_of}
use Rattle.order.specs.Table.{refusal_told, number_by}
use Rattle.order.specs.declared.Caller.TheVariants.{Dock, Screen}
use Rattle.order.specs.declared.Refusal.{Refusal}
use Rattle.order.specs.declared.Refusal.TheVariants.{
  NoProcessor,
  TooManyProcessors,
  NoJob,
  TooManyJobs,
  TimeOutOfRange,
  DueOutOfRange,
  MakerOutOfRange,
  FitsNoProcessor,
  BoundOutOfRange,
  BufferTooShort,
  TooManyRows,
  BadFile,
  BookFull,
  ReadyOutOfRange,
  BadWindow,
  LowAboveHigh,
}

-- the number of a refusal, and what it carries
pub refused-told : (r : Refusal) → (k : ℕ) × (c : ℕ) × (refusal_told r ≡ refused k c)
refused-told NoProcessor = (1, 0, refl)
refused-told (TooManyProcessors caller) = ((limits_of caller).over_processors, 0, refl)
refused-told NoJob = (3, 0, refl)
refused-told (TooManyJobs caller) = ((limits_of caller).over_jobs, 0, refl)
refused-told (TimeOutOfRange j) = (5, j, refl)
refused-told (DueOutOfRange j) = (6, j, refl)
refused-told (MakerOutOfRange j) = (13, j, refl)
refused-told (FitsNoProcessor j) = (7, j, refl)
refused-told BoundOutOfRange = (8, 0, refl)
refused-told BufferTooShort = (9, 0, refl)
refused-told TooManyRows = (11, 0, refl)
refused-told BadFile = (12, 0, refl)
refused-told BookFull = (14, 0, refl)
refused-told (ReadyOutOfRange j) = (15, j, refl)
refused-told (BadWindow i) = (16, i, refl)
refused-told (LowAboveHigh j) = (19, j, refl)

-- none of them is 10, which comes with its reason
pub not-ten : (r : Refusal) → eqb (number_by (refusal_told r)) 10 ≡ false
not-ten NoProcessor = refl
not-ten (TooManyProcessors Dock) = refl
not-ten (TooManyProcessors Screen) = refl
not-ten NoJob = refl
not-ten (TooManyJobs Dock) = refl
not-ten (TooManyJobs Screen) = refl
not-ten (TimeOutOfRange j) = refl
not-ten (DueOutOfRange j) = refl
not-ten (MakerOutOfRange j) = refl
not-ten (FitsNoProcessor j) = refl
not-ten BoundOutOfRange = refl
not-ten BufferTooShort = refl
not-ten TooManyRows = refl
not-ten BadFile = refl
not-ten BookFull = refl
not-ten (ReadyOutOfRange j) = refl
not-ten (BadWindow i) = refl
not-ten (LowAboveHigh j) = refl

-- where the first rows refuse, so does the whole table, whatever the values are that would have been answered
pub refused-answer : {A : Type 0} (rows later : List TableRow) (r : Refusal) (a b : A) → refusal_told r ≡ judge rows →
    answer_by (refusal_told r) a ≡ answer_by (judge (rows ++ later)) b
refused-answer rows later r a b e =
    let t = refused-told r in
    rw (judge-refused-append rows later t.0 t.1 (sym e ∙ t.2), t.2)

-- a refusal answers no value
pub same-refusal : {A : Type 0} (v : Verdict) (r : Refusal) (a b : A) → v ≡ refusal_told r → answer_by (refusal_told r) a ≡ answer_by v b
same-refusal v r a b e = let t = refused-told r in rw (e, t.2)

-- what an answer tells of the table's verdict
module _ {A : Type 0} where
  pub refused-by : (v : Verdict) (number job : ℕ) (a : A) → refusal number job ≡ answer_by v a → v ≡ refused number job
  refused-by accepted number job a e = let z : ◌≡◌ {A = ℕ} 0 1 = cc in absurd (omega arith)
  refused-by (refused n j) number job a e = cc

  -- a refusal of the code is the verdict
  pub verdict-refused : (v : Verdict) (why : Refusal) (a b : A) → answer_by (refusal_told why) a ≡ answer_by v b → v ≡ refusal_told why
  verdict-refused v why a b e =
      let t = refused-told why in
      refused-by v t.0 t.1 b (sym (ap (λ (w : Verdict). answer_by w a) t.2) ∙ e) ∙ sym t.2

  -- where something is answered, the table accepts, and it is the value
  pub verdict-accepted : (v : Verdict) (a b : A) → answer a ≡ answer_by v b → (v ≡ accepted) × (a ≡ b)
  verdict-accepted accepted a b e = (refl, cc)
  verdict-accepted (refused n j) a b e = let z : ◌≡◌ {A = ℕ} 0 1 = cc in absurd (omega arith)
