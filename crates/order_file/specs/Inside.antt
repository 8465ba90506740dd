-- What the reader's inner functions answer: the trailer, where the lists lie, a column of an array.
use Rattle.std.specs.Prelude.{ℕ, ◌+◌, ◌*◌, ◌≤◌, ◌≡◌, Bool, true, false, List, length, get_or, Option, Some, None}
use Rattle.order.specs.Refusals.{longest_file}
use Rattle.sums.specs.Lists.{tabulate}
use Rattle.order_file.specs.File.{processor_place, job_place, processors_of, jobs_of, good_file, job_width}
use Rattle.order_file.specs.declared.Lists.{Lists}

abbrev pub trailer_by : Bool → Lists → Option Lists
trailer_by true lists = Some lists
trailer_by false lists = None

unfoldable pub trailer_of : List ℕ → Option Lists
trailer_of f =
    trailer_by (good_file f)
    (record {
      processors_at = processor_place f;
      jobs_at = job_place f;
      processors = processors_of f;
      jobs = jobs_of f;
    })

-- the lists are those of the file's trailer, and lie in the file
pub record Placed (f : List ℕ) (processors_at jobs_at processors jobs : ℕ) : Type 0 where
  pub short : length f ≤ longest_file
  pub processors-in : processors_at + 4 * processors ≤ length f
  pub jobs-in : jobs_at + job_width * jobs ≤ length f
  pub processors-at : processors_at ≡ processor_place f
  pub jobs-at : jobs_at ≡ job_place f
  pub processors-are : processors ≡ processors_of f
  pub jobs-are : jobs ≡ jobs_of f

abbrev pub Within : List ℕ → Option Lists → Type 0
Within f None = Unit {0}
Within f (Some l) = Placed f l.processors_at l.jobs_at l.processors l.jobs

-- k places: f i at the first n, d at the others
unfoldable pub padded_to {ℓ} : {A : Type ℓ} → ℕ → ℕ → A → (ℕ → A) → List A
padded_to k n d f = tabulate k (λ i. get_or (tabulate n f) i d)
