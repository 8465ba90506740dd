-- What the flat lists hold that are made of a table in a frame.
use Rattle.std.specs.Prelude.{ℕ, suc, pred, ◌+◌, ◌*◌, ◌≤◌, ◌<◌, ◌≡◌, List, leb, get_or}
use Rattle.sums.specs.Sum.{sum}
use Rattle.sums.specs.Lists.{All, total, only, nth}
use Rattle.order.specs.Order.{Numbers}

-- the marks never fall, from minute 0 on, and are small
abbrev pub Upwards : ℕ → List ℕ → Type 0
Upwards q marks = (s : ℕ) → s < q → nth marks s 0 ≤ get_or marks s 0

abbrev pub Small : ℕ → List ℕ → Type 0
Small q marks = (s : ℕ) → s < q → get_or marks s 0 ≤ 176000016

-- each of these processors, by number, has one of the classes 1 to S
abbrev pub Kinds : ℕ → List ℕ → List ℕ → Type 0
Kinds S kinds processors =
    All (λ i. Numbers 16 i × ((1 ≤ get_or kinds (pred i) 0) × (get_or kinds (pred i) 0 ≤ S))) processors

-- how many processors have the class i + 1
abbrev pub count_of : List ℕ → ℕ → ℕ
count_of counts i = get_or counts i 0

-- the counts of the first k classes are those of the processors of these classes
abbrev pub Counted : List ℕ → List ℕ → List ℕ → Type 0
Counted counts kinds processors =
    (k : ℕ) → k ≤ 16 → sum k (count_of counts) ≡ total processors (λ i. only (leb (get_or kinds (pred i) 0) k) 1)

-- from the place `at` on the list holds f 0, f 1, .. up to `to`; what lies before is as it was
pub record Put (xs ys : List ℕ) (at to : ℕ) (f : ℕ → ℕ) : Type 0 where
  pub inside : (i : ℕ) → i < to → get_or ys (at + i) 0 ≡ f i
  pub before : (i : ℕ) → i < at → get_or ys i 0 ≡ get_or xs i 0

-- the list holds n rows of q numbers
pub record Rows (ys : List ℕ) (n q : ℕ) (f : ℕ → ℕ → ℕ) : Type 0 where
  pub each : (j s : ℕ) → j < n → s < q → get_or ys (j * q + s) 0 ≡ f j s

-- the list holds the times, and at the place of the idle job its own
pub record Times (n : ℕ) (times : List ℕ) (idle : ℕ) (ys : List ℕ) : Type 0 where
  pub each : (j : ℕ) → j < n → get_or ys j 0 ≡ get_or times j 0
  pub idle-is : get_or ys n 0 ≡ idle

-- the list holds the classes, and at the place of the idle job the one behind the last
pub record Classes (n : ℕ) (classes : List ℕ) (last : ℕ) (ys : List ℕ) : Type 0 where
  pub each : (j : ℕ) → j < n → get_or ys j 0 ≡ get_or classes j 0
  pub idle : get_or ys n 0 ≡ suc last
