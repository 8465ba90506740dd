-- Document 01, "Why a bound is too tight": "Sort the distinct memories downwards: class 1 is the largest. A job belongs
-- to the last class whose memory still suffices."
use Rattle.std.specs.Prelude.{ℕ, suc, cond, List, [], ◌∷◌, leb, ltb, eqb}
use Rattle.order.specs.Sorted.{distinct}
use Rattle.order.specs.Order.{Job, Order}
use Rattle.sums.specs.Sum.{sum}
use Rattle.sums.specs.Lists.{total, only, nth}

-- the memory of class 1, of class 2, ..
unfoldable pub classes : Order → List ℕ
classes o = distinct ltb o.memories

-- how many of falling memories suffice for a need: the last that does is the need's class
unfoldable pub last_that_suffices : ℕ → List ℕ → ℕ
last_that_suffices need [] = 0
last_that_suffices need (m ∷ ms) = cond (leb need m) (suc (last_that_suffices need ms)) 0

-- the last class whose memory suffices for a need, counted from 1
unfoldable pub class_for : Order → ℕ → ℕ
class_for o need = last_that_suffices need (classes o)

-- the class of a job; a need of 0 belongs to the last class
unfoldable pub class_of : Order → Job → ℕ
class_of o job = class_for o job.need

-- the memory of class k, and how many processors have it: a processor is in the class of its own memory
unfoldable pub memory_of_class : Order → ℕ → ℕ
memory_of_class o k = nth (classes o) k 0

unfoldable pub processors_in : Order → ℕ → ℕ
processors_in o k = total o.memories (λ m. only (eqb (class_for o m) k) 1)

-- the processors of the first k classes
unfoldable pub processors_to : Order → ℕ → ℕ
processors_to o k = sum k (λ i. processors_in o (suc i))
