-- Document 02, §1: "the reason shall be one English line: the job with its time and its end, or each class's memory with its due
-- time, then minutes owed and minutes on hand". At -1 the line for B is `memory 8 due 4, memory 4 due 2: owed 8, on hand 6`; for C
-- at -9 it is `job 1: time 3, end 2: owed 3, on hand 2`. No line feed is part of it.
use Rattle.std.specs.Prelude.{ℕ, zero, suc, cond, List, [], ◌∷◌, ◌++◌, eqb, ℤ}
use Rattle.sums.specs.Lists.{nth}
use Rattle.sums.specs.Same.{same_list}
use Rattle.order.specs.Order.{Order, job_of, end_of}
use Rattle.order.specs.Class.{classes}
use Rattle.profile.specs.Reason.{Reason, over_end, stairs, owed_of, on_hand_of}
use Rattle.profile.specs.Search.{Found, nothing, found, first_such}
use Rattle.profile.specs.Standing.{reasons_at, is_standing}
use Rattle.text.specs.Text.{ascii, number, signed_number}

-- "the job with its time and its end"
abbrev pub job_text : ℕ → ℕ → ℤ → List ℕ
job_text j time end = ascii "job" ++ (number j ++ (ascii ": time" ++ (number time ++ (ascii ", end" ++ signed_number end))))

-- a "class's memory with its due time", and what stands between it and the class before it
abbrev pub class_text : ℕ → ℤ → List ℕ
class_text memory due = ascii "memory" ++ (number memory ++ (ascii " due" ++ signed_number due))

abbrev pub between : ℕ → List ℕ
between zero = []
between (suc before) = ascii ", "

-- each class, from the one behind so many on, by the classes' memories
unfoldable pub classes_from : List ℕ → ℕ → List ℤ → List ℕ
classes_from memories before [] = []
classes_from memories before (due ∷ dues) =
    between before ++ (class_text (nth memories (suc before) 0) due ++ classes_from memories (suc before) dues)

-- "then minutes owed and minutes on hand"
abbrev pub sums_text : ℕ → ℤ → List ℕ
sums_text owed on_hand = ascii ": owed" ++ (number owed ++ (ascii ", on hand" ++ signed_number on_hand))

-- the line of a reason
abbrev pub subject_of : Order → ℤ → Reason → List ℕ
subject_of o bound (over_end j) = job_text j (job_of o j).time (end_of bound (job_of o j))
subject_of o bound (stairs dues) = classes_from (classes o) 0 dues

unfoldable pub line_of : Order → ℤ → Reason → List ℕ
line_of o bound r = subject_of o bound r ++ sums_text (owed_of o bound r) (on_hand_of o bound r)

-- the line that is composed: that of a reason that stands; "anything else composes to an empty line"
unfoldable pub composed : Order → ℤ → Found Reason → List ℕ
composed o bound nothing = []
composed o bound (found r) = cond (is_standing o bound r) (line_of o bound r) []

-- what a line reads back to: the reason that stands and has this line, if there is one
unfoldable pub read_back : Order → ℤ → List ℕ → Found Reason
read_back o bound line = first_such (λ (r : Reason). same_list eqb (line_of o bound r) line) (reasons_at o bound)
