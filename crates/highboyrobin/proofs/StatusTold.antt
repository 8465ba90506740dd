-- What the answer of a call that reads a file and lists says of the verdict, and the other way round.
use Rattle.std.specs.Prelude.{Result, Ok, Err}
use Prim.Native.Nat.{ℕ}
use mathlib.Core.Path.{◌≡◌, refl, subst}
use Rattle.order.specs.Refusals.{Verdict, accepted, refused}
use Rattle.highboyrobin.specs.Results.{result_of, StatusBy}

module _ {A : Type 0} (v : Verdict) (r : Result A ℕ) (P : A → Type 0) where
  pub refused-status : (number carried : ℕ) → v ≡ refused number carried → r ≡ Err (result_of (refused number carried)) → StatusBy v r P
  refused-status number carried e is = rw (e, is) refl

  pub read-status : v ≡ accepted → (x : A) → r ≡ Ok x → P x → StatusBy v r P
  read-status e x is p = rw (e, is) p

  pub status-refused : StatusBy v r P → (result : ℕ) → r ≡ Err result →
      (k : ℕ) × (c : ℕ) × (v ≡ refused k c) × (result ≡ result_of (refused k c))
  status-refused h result is = by v (subst (λ (r : Result A ℕ). StatusBy v r P) is h)
    where
      by : (v : Verdict) → StatusBy v (Err result) P → (k : ℕ) × (c : ℕ) × (v ≡ refused k c) × (result ≡ result_of (refused k c))
      by accepted h = absurd h
      by (refused k c) h = (k, c, refl, h)

  pub status-read : StatusBy v r P → (x : A) → r ≡ Ok x → (v ≡ accepted) × P x
  status-read h x is = by v (subst (λ (r : Result A ℕ). StatusBy v r P) is h)
    where
      by : (v : Verdict) → StatusBy v (Ok x) P → (v ≡ accepted) × P x
      by accepted h = (refl, h)
      by (refused k c) h = absurd h
