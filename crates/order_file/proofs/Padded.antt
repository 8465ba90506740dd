-- The columns of the file's order: one field of its jobs, and a number in a part of the file.
use Prim.Native.Nat.{ℕ, ◌+◌, ◌≤◌, ◌<◌}
use mathlib.Core.Path.{◌≡◌, sym, ap, ◌∙◌}
use mathlib.Core.List.{List}
use native.Mathlib.Omega.{arith}
use lib.ListN.{length, get_or, take, drop}
use lib.Seq.{get_or-take, get_or-drop}
use Rattle.sums.specs.Lists.{tabulate}
use Rattle.sums.specs.Places.{tabulate-cong, tabulate-get_or, get_d_tabulate, get_or-tabulate-map}
use Rattle.order_file.specs.Bytes.{number4}
use Rattle.order_file.specs.Inside.{padded_to}

-- one field of a padded list of jobs
pub padded-field : {A B : Type 0} (g : A → B) (k n : ℕ) (d : A) (f : ℕ → A) →
    padded_to k n (g d) (λ i. g (f i)) ≡ tabulate k (λ i. g (get_or (tabulate n f) i d))
unfolding padded_to
padded-field g k n d f = tabulate-cong k _ _ (λ i l. sym (get_or-tabulate-map g n f d i))

-- the image of a padded list
pub padded-map : {A B : Type 0} (h : A → B) (k n : ℕ) (d : A) (f : ℕ → A) (xs : List A) (ys : List B) → xs ≡ padded_to k n d f →
    length ys ≡ k → ((i : ℕ) → i < k → get_or ys i (h d) ≡ h (get_or xs i d)) → ys ≡ padded_to k n (h d) (λ i. h (f i))
unfolding padded_to
padded-map {A} {B} h k n d f xs ys e long each =
    sym (tabulate-get_or ys (h d))
    ∙ ap (λ (m : ℕ). tabulate m (λ i. get_or ys i (h d))) long
    ∙ tabulate-cong k _ _
    (λ i l. each i l
    ∙ ap h (ap (λ (zs : List A). get_or zs i d) e ∙ get_d_tabulate k _ d i l)
    ∙ get_or-tabulate-map h n f d i)

-- a number in a part of the file is the number in the file
pub number4-part : (f : List ℕ) (b n x : ℕ) → x + 4 ≤ n → number4 (take n (drop b f)) x ≡ number4 f (b + x)
number4-part f b n x h =
    let byte : (i : ℕ) → x + i < n → get_or (take n (drop b f)) (x + i) 0 ≡ get_or f (b + x + i) 0 =
    λ i l. get_or-take n (drop b f) (x + i) 0 l ∙ get_or-drop b f (x + i) 0 ∙ ap (λ (k : ℕ). get_or f k 0) (omega arith) in
    omega (
      arith,
      get_or-take n (drop b f) x 0 (omega arith) ∙ get_or-drop b f x 0,
      byte 1 (omega arith),
      byte 2 (omega arith),
      byte 3 (omega arith),
    )
