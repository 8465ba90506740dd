-- What the tables hold: for the contracts of the functions that fill and read them.
use Rattle.std.specs.Prelude.{ℕ, zero, suc, ◌+◌, ◌<◌, ◌≤◌, pred, ◌≡◌, List, [], ◌∷◌, ltb, length, get_or, Option, Some, None}
use Rattle.profile.specs.Search.{nothing, found, first_such}
use Rattle.sums.specs.Most.{most}
use Rattle.sums.specs.Arrays.{pad}
use Rattle.stairs.specs.Places.{profiles, value, FoundPlaces}
use Rattle.stairs.specs.declared.Staircase.{Staircase}

-- the best completion: the heaviest profile of m classes from i on, with places below b
unfoldable pub comp : (ℕ → ℕ → ℕ) → ℕ → ℕ → ℕ → ℕ
comp w i zero b = 0
comp w i (suc m) b = most b (λ e. w i e + comp w (suc i) m (suc e))

-- the first profile of m classes from i on, with places below b, that outweighs the room together with acc
unfoldable pub first_from : (ℕ → ℕ → ℕ) → ℕ → ℕ → ℕ → ℕ → ℕ → FoundPlaces
first_from w room acc i m b = first_such (λ (ds : List ℕ). ltb room (acc + value w i ds)) (profiles m b)

-- what is found, behind d
abbrev pub put : ℕ → FoundPlaces → FoundPlaces
put d nothing = nothing
put d (found ds) = found (d ∷ ds)

-- a cell of a table
abbrev pub cell : List (List ℕ) → ℕ → ℕ → ℕ
cell t i d = get_or (get_or t i []) d 0

-- no cell is so large that sixteen do not fit
pub record Small (t : List (List ℕ)) : Type 0 where
  pub at : (i d : ℕ) → i < 16 → d < 48 → cell t i d ≤ 40000000

-- row m of c has the best completions of the last m of s classes, for the rows up to k
pub record Completed (t : List (List ℕ)) (s q k : ℕ) (c : List (List ℕ)) : Type 0 where
  pub at : (i m e : ℕ) → i + m ≡ s → m ≤ k → e < q → cell c m e ≡ comp (cell t) i m (suc e)

-- r is the least place at which f is above the room, or `top` where there is none below it
pub record Least (f : ℕ → ℕ) (room top r : ℕ) : Type 0 where
  pub within : r ≤ top
  pub before : (e : ℕ) → e < r → f e ≤ room
  pub here : r < top → room < f r

-- the room of k classes, from an array
abbrev pub room_of : List ℕ → ℕ → ℕ
room_of rooms k = get_or rooms (pred k) 0

-- what the search tells of what it finds: the count of classes, with the places beside it
unfoldable pub staircase_of : FoundPlaces → Option Staircase
staircase_of nothing = None
staircase_of (found ds) = Some (record { count = length ds; at = pad 16 ds })
