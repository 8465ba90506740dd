-- The first members of a list, by their places.
use Rattle.std.specs.Prelude.{ℕ, ◌≤◌, ◌≡◌, List, length, get_or, take}
use Rattle.std.proofs.Common.{sym, ap, ◌∙◌, get_or-take, length-take-le}
use Rattle.sums.specs.Lists.{tabulate}
use Rattle.sums.specs.Places.{tabulate-get_or, tabulate-cong}

pub take_places : {A : Type 0} (n : ℕ) (xs : List A) (d : A) → n ≤ length xs → take n xs ≡ tabulate n (λ i. get_or xs i d)
take_places n xs d l =
    sym (tabulate-get_or (take n xs) d)
    ∙ (ap (λ (k : ℕ). tabulate k (λ i. get_or (take n xs) i d)) (length-take-le n xs l)
    ∙ tabulate-cong n _ _ (λ i h. get_or-take n xs i d h))
