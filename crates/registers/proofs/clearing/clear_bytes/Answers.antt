-- The first 256 bytes are 0, and those behind them stay.
use Rattle.std.specs.Prelude.{ℕ, ◌≤◌, ◌≡◌, List, ◌++◌, length, take, drop, replicate}
use Rattle.std.proofs.Common.{ap, ◌∙◌, length-take-le}
use Rattle.registers.proofs.clearing.clear_bytes.Goals as goal

zeros : (xs ys : List ℕ) (n : ℕ) → ys ≡ replicate (length (take n xs)) 0 → n ≤ length xs → ys ++ drop n xs ≡ replicate n 0 ++ drop n xs
zeros xs ys n e l = ap (λ (zs : List ℕ). zs ++ drop n xs) (e ∙ ap (λ (k : ℕ). replicate k 0) (length-take-le n xs l))

pub returns : goal.returns
returns c = zeros c.args.bytes.now _ 256 (c.fill.ensures.after (λ y e. e)) c.requires
