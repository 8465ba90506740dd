-- A lent buffer at exit: it is as long as it was, has at its places what is written, and beyond it what stood there.
use Rattle.std.specs.Prelude.{ℕ, ◌+◌, ◌≤◌, ◌<◌, ◌≡◌, refl, List, length, get_or, drop}
use Rattle.std.proofs.Common.{◌∙◌, arith, length-append, length-drop, get_or-append-add, get_or-drop}
use Rattle.std.proofs.Math.ListN.{get_or-append}
use Rattle.order.specs.Refusals.{Verdict, accepted, refused, left_by}

module _ {A : Type 0} (written entry : List A) where
  pub left-length : (v : Verdict) → length written ≤ length entry → length (left_by v written entry) ≡ length entry
  left-length accepted h = length-append written _ ∙ omega (arith, length-drop (length written) entry)
  left-length (refused number carried) h = refl

  -- where the table accepts
  module _ (d : A) (k : ℕ) where
    pub left-written : k < length written → get_or (left_by accepted written entry) k d ≡ get_or written k d
    left-written l = get_or-append written (drop (length written) entry) d k l

    pub left-beyond : get_or (left_by accepted written entry) (length written + k) d ≡ get_or entry (length written + k) d
    left-beyond = get_or-append-add written (drop (length written) entry) k d ∙ get_or-drop (length written) entry k d
