-- The amounts of an order at a bound, by job number: those of its flow's run. So far as jobs and stretches go they are determined.
use Rattle.std.specs.Prelude.{ℕ, zero, suc, ◌<◌, ◌≡◌, true, ℤ, length}
use Rattle.std.proofs.Common.{arith}
use Rattle.engine.specs.Run.{RunOf}
use Rattle.engine.specs.RunLaws.{run-one}
use Rattle.order.specs.Order.{Order, job_count, Numbers}
use Rattle.order.specs.Class.{classes}
use Rattle.wrap.specs.Stretches.{stretch_count}
use Rattle.wrap.specs.FrameFlow.{flow_in}
use Rattle.wrap.proofs.FrameBase.{base_frame}

abbrev pub Chosen : Order → ℤ → (ℕ → ℕ → ℕ) → Type 0
Chosen o bound a = RunOf (flow_in o (base_frame o bound)) (suc (length (classes o))) (λ j s. a (suc j) s) true

pub chosen-one : (o : Order) (bound : ℤ) (a b : ℕ → ℕ → ℕ) → Chosen o bound a → Chosen o bound b →
    (j s : ℕ) → Numbers (job_count o) j → s < stretch_count o → a j s ≡ b j s
chosen-one o bound a b A B zero s n l = absurd (omega arith)
chosen-one o bound a b A B (suc j) s n l = (run-one _ _ _ _ _ _ A B).1 j s n.1 l
