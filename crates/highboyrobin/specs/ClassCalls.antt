-- What hbr_classes answers (document 02, §6), and by which rows of the refusal table it judges.
use Rattle.std.specs.Prelude.{ℕ, zero, suc, ◌*◌, List, [], ◌∷◌, ◌++◌, length}
use Rattle.order.specs.Order.{Order}
use Rattle.order.specs.Class.{classes, memory_of_class, processors_in}
use Rattle.order.specs.Refusals.{limits, TableRow, order_rows}
use Rattle.order_file.specs.File.{order_in}
use Rattle.highboyrobin.specs.Results.{list_call}

-- the lent list has room for sixteen classes, two numbers to each
abbrev pub class_room : ℕ
class_room = 2 * limits.processors

abbrev pub classes_call : List ℕ → (numbers lent : ℕ) → List TableRow
classes_call file numbers lent = list_call lent 1 numbers class_room file (order_rows limits (order_in file))

-- f 0, g 0, f 1, g 1, .. up to k pairs
unfoldable pub pairs_to : (f g : ℕ → ℕ) → ℕ → List ℕ
pairs_to f g zero = []
pairs_to f g (suc k) = pairs_to f g k ++ (f k ∷ g k ∷ [])

-- how many classes there are; of each its memory and its processors, class 1 first
abbrev pub class_count : Order → ℕ
class_count o = length (classes o)

abbrev pub class_pairs : Order → List ℕ
class_pairs o = pairs_to (λ i. memory_of_class o (suc i)) (λ i. processors_in o (suc i)) (class_count o)
