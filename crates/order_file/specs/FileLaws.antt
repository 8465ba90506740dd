-- The bytes of the two lists: how many there are, what one more processor or job adds, and which numbers are read in them.
use Rattle.std.specs.Prelude.{ℕ, zero, suc, ◌+◌, ◌*◌, ◌<◌, ◌≡◌, refl, List, [], ◌∷◌, ◌++◌, length, get_or}
use Rattle.std.proofs.Common.{ap, ◌∙◌, arith, le_of_suc-le-suc}
use Rattle.std.specs.Int.Signed.{mag}
use Rattle.sums.specs.Lists.{All, tabulate}
use Rattle.sums.specs.Places.{tabulate-more}
use Rattle.order.specs.Order.{Job, no_job}
use Rattle.order.proofs.StructLaws.{same-job}
use Rattle.order_file.specs.Bytes.{number4, bytes4, signed, pattern}
use Rattle.order_file.specs.ByteLaws.{four_bytes, number4-past, pattern-small, signed-pattern}
use Rattle.order_file.specs.File.{job_in, processor_bytes, bytes_of_job, job_bytes, job_width}

-- a processor is 4 bytes, a job as many as its width
pub length-processor_bytes : (ms : List ℕ) → length (processor_bytes ms) ≡ 4 * length ms
unfolding processor_bytes
length-processor_bytes [] = refl
length-processor_bytes (m ∷ ms) = omega (arith, length-processor_bytes ms)

pub length-job_bytes : (js : List Job) → length (job_bytes js) ≡ job_width * length js
unfolding job_bytes
length-job_bytes [] = refl
length-job_bytes (j ∷ js) = omega (arith, length-job_bytes js)

-- one more at the end
processor_bytes-snoc : (ms : List ℕ) (m : ℕ) → processor_bytes (ms ++ (m ∷ [])) ≡ processor_bytes ms ++ bytes4 m
unfolding processor_bytes
processor_bytes-snoc [] m = refl
processor_bytes-snoc (x ∷ ms) m = ap (λ (l : List ℕ). bytes4 x ++ l) (processor_bytes-snoc ms m)

job_bytes-snoc : (js : List Job) (j : Job) → job_bytes (js ++ (j ∷ [])) ≡ job_bytes js ++ bytes_of_job j
unfolding job_bytes
job_bytes-snoc [] j = refl
job_bytes-snoc (x ∷ js) j = ap (λ (l : List ℕ). bytes_of_job x ++ l) (job_bytes-snoc js j)

pub processor_bytes-more : (i : ℕ) (f : ℕ → ℕ) →
    processor_bytes (tabulate (i + 1) f) ≡ processor_bytes (tabulate i f) ++ bytes4 (f i)
processor_bytes-more i f = ap processor_bytes (tabulate-more i f) ∙ processor_bytes-snoc (tabulate i f) (f i)

pub job_bytes-more : (j : ℕ) (f : ℕ → Job) →
    job_bytes (tabulate (j + 1) f) ≡ job_bytes (tabulate j f) ++ bytes_of_job (f j)
job_bytes-more j f = ap job_bytes (tabulate-more j f) ∙ job_bytes-snoc (tabulate j f) (f j)

-- a processor's memory is read where it was written
pub number4-processor_bytes : (ms rest : List ℕ) → All (λ m. m < 4294967296) ms → (i : ℕ) → i < length ms →
    number4 (processor_bytes ms ++ rest) (4 * i) ≡ get_or ms i 0
unfolding processor_bytes
number4-processor_bytes [] rest h i l = absurd (omega arith)
number4-processor_bytes (m ∷ ms) rest h zero l = four_bytes m h.0
number4-processor_bytes (m ∷ ms) rest h (suc i) l =
    let at : 4 * suc i ≡ 4 + 4 * i = omega arith in
    rw at
    (number4-past (bytes4 m) (processor_bytes ms ++ rest) 4 (4 * i) refl
    ∙ number4-processor_bytes ms rest h.1 i (le_of_suc-le-suc l))

-- a job whose numbers are of 32 bits
pub record JobFits (job : Job) : Type 0 where
  pub time : job.time < 4294967296
  pub due : mag job.due < 2147483648
  pub need : job.need < 4294967296
  pub maker : job.maker < 4294967296

-- past the first of two lists a job is one of the second
pub job_in-past : (p r : List ℕ) (n k : ℕ) → length p ≡ n → job_in (p ++ r) (n + k) ≡ job_in r k
job_in-past p r n k e =
    let e₄ : n + k + 4 ≡ n + (k + 4) = omega arith in
    let e₈ : n + k + 8 ≡ n + (k + 8) = omega arith in
    let e₁₂ : n + k + 12 ≡ n + (k + 12) = omega arith in
    same-job _ _ _ _ _ _ _ _
    (number4-past p r n k e)
    (ap signed (ap (number4 (p ++ r)) e₄ ∙ number4-past p r n (k + 4) e))
    (ap (number4 (p ++ r)) e₈ ∙ number4-past p r n (k + 8) e)
    (ap (number4 (p ++ r)) e₁₂ ∙ number4-past p r n (k + 12) e)

-- a job is read where it was written
job_in-first : (job : Job) (rest : List ℕ) → JobFits job → job_in (bytes_of_job job ++ rest) 0 ≡ job
job_in-first job rest h =
    same-job _ _ _ _ _ _ _ _
    (four_bytes job.time h.time)
    (ap signed (four_bytes (pattern job.due) (pattern-small job.due h.due)) ∙ signed-pattern job.due h.due)
    (four_bytes job.need h.need)
    (four_bytes job.maker h.maker)

pub job_in-job_bytes : (js : List Job) (rest : List ℕ) → All JobFits js → (j : ℕ) → j < length js →
    job_in (job_bytes js ++ rest) (job_width * j) ≡ get_or js j no_job
unfolding job_bytes
job_in-job_bytes [] rest h j l = absurd (omega arith)
job_in-job_bytes (x ∷ js) rest h zero l = job_in-first x (job_bytes js ++ rest) h.0
job_in-job_bytes (x ∷ js) rest h (suc j) l =
    let at : job_width * suc j ≡ job_width + job_width * j = omega arith in
    rw at
    (job_in-past (bytes_of_job x) (job_bytes js ++ rest) job_width (job_width * j) refl
    ∙ job_in-job_bytes js rest h.1 j (le_of_suc-le-suc l))
