-- Profiles (document 01's staircases) by the places of their due times: class 0 first, the places count from 0 by rising due
-- time and never rise. `w i d` is what class i weighs at place d.
use Rattle.std.specs.Prelude.{ℕ, zero, suc, ◌+◌, Bool, List, [], ◌∷◌, ◌++◌, map, ltb, length}
use Rattle.profile.specs.Search.{Found, nothing, found, first_such}
use Rattle.sums.specs.Arrays.{pad}
use Rattle.sums.specs.Most.{largest}

-- the profiles of k classes whose first place is below b, the smallest first place first, then the smallest second, ..
unfoldable pub profiles : ℕ → ℕ → List (List ℕ)
profiles zero b = [] ∷ []
profiles (suc k) zero = []
profiles (suc k) (suc b) = profiles (suc k) b ++ map (λ (ds : List ℕ). b ∷ ds) (profiles k (suc b))

-- the profiles of at most s classes over q due times, in ranking order
unfoldable pub ranking : ℕ → ℕ → List (List ℕ)
ranking zero q = []
ranking (suc k) q = ranking k q ++ profiles (suc k) q

-- what a profile of the classes from i on weighs
unfoldable pub value : (ℕ → ℕ → ℕ) → ℕ → List ℕ → ℕ
value w i [] = 0
value w i (d ∷ ds) = w i d + value w (suc i) ds

-- a profile weighs more than its classes have room for
unfoldable pub overfull_at : (ℕ → ℕ → ℕ) → (ℕ → ℕ) → List ℕ → Bool
overfull_at w room ds = ltb (room (length ds)) (value w 0 ds)

-- what a search finds
abbrev pub FoundPlaces : Type 0
FoundPlaces = Found (List ℕ)

-- the first overfull profile of at most s classes
unfoldable pub first_overfull_at : (ℕ → ℕ → ℕ) → (ℕ → ℕ) → ℕ → ℕ → FoundPlaces
first_overfull_at w room s q = first_such (overfull_at w room) (ranking s q)

-- the weight of the heaviest profile of k classes
unfoldable pub best : (ℕ → ℕ → ℕ) → ℕ → ℕ → ℕ
best w k q = largest (value w 0) (profiles k q)

-- the places found, and 0 beyond
unfoldable pub places : FoundPlaces → List ℕ
places nothing = pad 16 []
places (found ds) = pad 16 ds
