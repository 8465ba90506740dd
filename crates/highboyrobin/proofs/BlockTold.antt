-- The calls of the register block: which of the lent lists is too short, and what is left behind.
use Prim.Native.Nat.{ℕ, ◌≤◌, ◌<◌}
use mathlib.Core.Path.{◌≡◌, refl, sym, ap, ◌∙◌}
use mathlib.Core.List.{List, [], ◌∷◌, ◌++◌}
use borrow.Author.Tests.{lt-ltb, le-ltb}
use lib.IntN.{ℤ, pos}
use lib.ListN.{length, drop, replicate, length-replicate}
use Rattle.order.specs.Refusals.{Verdict, accepted, refused, judge, left_by}
use Rattle.registers.specs.Memory.{WroteIn}
use Rattle.highboyrobin.specs.Results.{result_of}
use Rattle.highboyrobin.specs.BlockCalls.{block_call, block_read_call, byte_read, BlockBy}

module _ (bytes numbers : ℕ) where
  abbrev v : Verdict
  v = judge (block_call bytes numbers)

  pub bytes-short : bytes < 256 → v ≡ refused 253 0
  unfolding judge
  bytes-short h = rw (lt-ltb bytes 256 h) refl

  pub numbers-short : 256 ≤ bytes → numbers < 720 → v ≡ refused 253 0
  unfolding judge
  numbers-short l h = rw (le-ltb bytes 256 l, lt-ltb numbers 720 h) refl

  pub both_long : 256 ≤ bytes → 720 ≤ numbers → v ≡ accepted
  unfolding judge
  both_long l h = rw (le-ltb bytes 256 l, le-ltb numbers 720 h) refl

-- cleared, or not touched
module _ (bytes numbers : List ℕ) where
  abbrev Cleared : Verdict → ℕ → (bytes' numbers' : List ℕ) → Type 0
  Cleared v result bytes' numbers' =
      (result ≡ result_of v) × ((bytes' ≡ left_by v (replicate 256 0) bytes) × (numbers' ≡ left_by v (replicate 720 0) numbers))

  abbrev asked : Verdict
  asked = judge (block_call (length bytes) (length numbers))

  pub clear-refused : asked ≡ refused 253 0 → Cleared asked 253 bytes numbers
  clear-refused e = rw e (refl, (refl, refl))

  pub clear-done : asked ≡ accepted → (bytes' numbers' : List ℕ) → bytes' ≡ replicate 256 0 ++ drop 256 bytes →
      numbers' ≡ replicate 720 0 ++ drop 720 numbers → Cleared asked 0 bytes' numbers'
  clear-done e bytes' numbers' b n =
      rw e (
        refl,
        (
          b ∙ ap (λ (k : ℕ). replicate 256 0 ++ drop k bytes) (sym (length-replicate {A = ℕ} 256 0)),
          n ∙ ap (λ (k : ℕ). replicate 720 0 ++ drop k numbers) (sym (length-replicate {A = ℕ} 720 0)),
        ),
      )

  -- written, or not touched
  module _ (a value : ℕ) where
    abbrev Written : Verdict → ℕ → (bytes' numbers' : List ℕ) → Type 0
    Written v result bytes' numbers' = (result ≡ result_of v) × BlockBy v a value bytes numbers bytes' numbers'

    pub write-refused : asked ≡ refused 253 0 → Written asked 253 bytes numbers
    write-refused e = rw e (refl, (refl, refl))

    pub write_done : asked ≡ accepted → (bytes' numbers' : List ℕ) → WroteIn a value bytes numbers bytes' numbers' →
        Written asked 0 bytes' numbers'
    write_done e bytes' numbers' w = rw e (refl, w)

  -- a byte read, or the answer not touched
  module _ (a : ℕ) (answer : List ℤ) where
    abbrev asked-read : Verdict
    asked-read = judge (block_read_call (length bytes) (length numbers) (length answer))

    abbrev Answered : Verdict → ℕ → List ℤ → Type 0
    Answered v result answer' = (result ≡ result_of v) × (answer' ≡ left_by v (byte_read bytes numbers a) answer)

    pub answer-short : length answer < 1 → Answered asked-read 255 answer
    unfolding judge
    answer-short h = rw (lt-ltb (length answer) 1 h) (refl, refl)

    pub read-refused : 1 ≤ length answer → asked ≡ refused 253 0 → Answered asked-read 253 answer
    unfolding judge
    read-refused l e = rw (le-ltb (length answer) 1 l, e) (refl, refl)

    pub read_done : 1 ≤ length answer → asked ≡ accepted → (byte : ℕ) → pos byte ∷ [] ≡ byte_read bytes numbers a → (answer' : List ℤ) →
        answer' ≡ pos byte ∷ drop 1 answer → Answered asked-read 0 answer'
    unfolding judge
    read_done l e byte is answer' x =
        rw (le-ltb (length answer) 1 l, e) (refl, x ∙ ap (λ (w : List ℤ). w ++ drop 1 answer) is)
