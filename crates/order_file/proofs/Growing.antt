-- The two lists as the writer's loops store them: one processor, or one job, more.
use Prim.Native.Nat.{ℕ, ◌+◌, ◌*◌, ◌≤◌}
use mathlib.Core.Path.{◌≡◌, refl, ap, ◌∙◌}
use mathlib.Core.List.{List, [], ◌++◌, append_assoc, append-nil}
use native.Mathlib.Omega.{arith}
use lib.IntN.{ℤ}
use lib.ListN.{length, take, drop}
use Rattle.sums.specs.Lists.{tabulate}
use Rattle.order.specs.Order.{Job}
use Rattle.order_file.specs.Bytes.{bytes4, pattern}
use Rattle.order_file.specs.File.{processor_bytes, bytes_of_job, job_bytes, job_width}
use Rattle.order_file.specs.FileLaws.{processor_bytes-more, job_bytes-more}
use Rattle.order_file.proofs.Stores.{Front, front-start, front_at, front-more, four-put}

module _ (s : List ℕ) (f : ℕ → ℕ) where
  pub no-processor : Front s 0 (processor_bytes []) s
  unfolding processor_bytes
  no-processor = front-start s 0 (omega arith)

  pub one-processor-more : (i : ℕ) (out after : List ℕ) → Front s (4 * i) (processor_bytes (tabulate i f)) out →
      4 * i + 4 ≤ length s → after ≡ take (4 * i) out ++ (bytes4 (f i) ++ drop (4 * i + 4) out) →
      Front s (4 * (i + 1)) (processor_bytes (tabulate (i + 1) f)) after
  one-processor-more i out after fr h e =
      rw (processor_bytes-more i f)
      (front_at s _ (4 * (i + 1)) _ after (front-more s _ _ out fr 4 (bytes4 (f i)) after refl h e) (omega arith))

-- a job with another due time
abbrev with_due : ℤ → Job → Job
with_due z job = record { time = job.time; due = z; need = job.need; maker = job.maker }

module _ (s : List ℕ) (a : ℕ) (f : ℕ → Job) where
  pub no-job : a ≤ length s → Front s (a + 0) (take a s ++ job_bytes []) s
  unfolding job_bytes
  no-job h = rw append-nil (front_at s _ (a + 0) _ s (front-start s a h) (omega arith))

  -- the due time comes as z, which is read back from the struct
  pub one-job-more : (j : ℕ) (out after : List ℕ) (z : ℤ) → Front s (a + job_width * j) (take a s ++ job_bytes (tabulate j f)) out →
      a + job_width * j + job_width ≤ length s → z ≡ (f j).due →
      after ≡ take (a + job_width * j) out ++ (bytes_of_job (with_due z (f j)) ++ drop (a + job_width * j + job_width) out) →
      Front s (a + job_width * (j + 1)) (take a s ++ job_bytes (tabulate (j + 1) f)) after
  one-job-more j out after z fr h d e =
      rw (job_bytes-more j f, ← append_assoc (take a s) (job_bytes (tabulate j f)) (bytes_of_job (f j)))
      (front_at s _ (a + job_width * (j + 1)) _ after
      (front-more s _ _ out fr job_width (bytes_of_job (f j)) after refl h
      (e ∙ ap (λ (y : ℤ). take (a + job_width * j) out ++ (bytes_of_job (with_due y (f j)) ++ drop (a + job_width * j + job_width) out)) d))
      (omega arith))

-- the four numbers of one job, the due time as the pattern x
pub one-job : (s : List ℕ) (a : ℕ) (job : Job) (x : ℕ) (o₁ o₂ o₃ o₄ : List ℕ) → a + job_width ≤ length s → x ≡ pattern job.due →
    o₁ ≡ take a s ++ (bytes4 job.time ++ drop (a + 4) s) → o₂ ≡ take (a + 4) o₁ ++ (bytes4 x ++ drop (a + 4 + 4) o₁) →
    o₃ ≡ take (a + 8) o₂ ++ (bytes4 job.need ++ drop (a + 8 + 4) o₂) →
    o₄ ≡ take (a + 12) o₃ ++ (bytes4 job.maker ++ drop (a + 12 + 4) o₃) → o₄ ≡ take a s ++ (bytes_of_job job ++ drop (a + job_width) s)
one-job s a job x o₁ o₂ o₃ o₄ h p e₁ e₂ e₃ e₄ =
    four-put s a 4 (a + 12) (a + job_width) (bytes4 job.time) (bytes4 x) (bytes4 job.need) (bytes4 job.maker) o₁ o₂ o₃ o₄
    (omega arith) (omega arith) h refl refl refl refl e₁ e₂ e₃ e₄
    ∙ ap (λ (y : ℕ). take a s ++ ((bytes4 job.time ++ (bytes4 y ++ (bytes4 job.need ++ bytes4 job.maker)))
    ++ drop (a + job_width) s)) p
