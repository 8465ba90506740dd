-- Document 01, "Orders to try": jobs are (time, due, need). Document 02, §4: "In document 01's cases the maker is 1."
use Rattle.std.specs.Prelude.{ℕ, List, [], ◌∷◌, ℤ, pos, negsuc}
use Rattle.order.specs.Order.{Job, Order}

abbrev job : ℕ → ℤ → ℕ → Job
job time due need = record { time = time; due = due; need = need; maker = 1 }

-- the same of a maker
abbrev job_of_maker : ℕ → ℕ → ℤ → ℕ → Job
job_of_maker maker time due need = record { time = time; due = due; need = need; maker = maker }

abbrev order : List ℕ → List Job → Order
order memories jobs = record { memories = memories; jobs = jobs }

abbrev pub A : Order
A = order (8 ∷ 4 ∷ []) (job 3 (pos 3) 8 ∷ job 3 (pos 3) 4 ∷ job 2 (pos 4) 2 ∷ [])

abbrev pub B : Order
B = order (8 ∷ 4 ∷ []) (job 2 (pos 4) 8 ∷ job 2 (pos 4) 8 ∷ job 2 (pos 2) 4 ∷ job 2 (pos 2) 4 ∷ [])

abbrev pub C : Order
C = order (4 ∷ []) (job 3 (pos 10) 4 ∷ [])

abbrev pub D : Order
D = order (8 ∷ 8 ∷ []) (job 1 (pos 4) 1 ∷ job 1 (pos 4) 1 ∷ job 1 (pos 4) 1 ∷ [])

-- a need of 0, and a job that is overdue at the start
abbrev pub need_zero : Order
need_zero = order (4 ∷ []) (job 1 (pos 1) 0 ∷ [])

abbrev pub overdue : Order
overdue = order (1 ∷ []) (job 1 (negsuc 4) 1 ∷ [])

-- B and a job more: the staircases 4, 2 and 4, 4 are both overfull at -1
abbrev pub two_overfull : Order
two_overfull =
    order (8 ∷ 4 ∷ [])
    (job 2 (pos 4) 8 ∷ job 2 (pos 4) 8 ∷ job 2 (pos 2) 4 ∷ job 2 (pos 2) 4 ∷ job 1 (pos 4) 4 ∷ [])

-- document 02, §2: a job that is always first on processor 1, beside a shorter one; beside two, so that it runs through three
-- stretches; and two jobs on the largest memories, of which the second wraps in the next stretch
abbrev pub on_top : Order
on_top = order (8 ∷ 4 ∷ []) (job 4 (pos 4) 8 ∷ job 2 (pos 2) 4 ∷ [])

abbrev pub chain : Order
chain = order (8 ∷ 4 ∷ []) (job 6 (pos 6) 8 ∷ job 2 (pos 2) 4 ∷ job 2 (pos 4) 4 ∷ [])

abbrev pub wraps : Order
wraps = order (8 ∷ 8 ∷ 4 ∷ []) (job 5 (pos 6) 8 ∷ job 5 (pos 6) 8 ∷ job 1 (pos 2) 4 ∷ [])

-- memory 4; jobs (3, 1, 0), (1, 9, 0), (5, 2, 0): at -1 the first and the last are over their ends
abbrev pub two_late : Order
two_late = order (4 ∷ []) (job 3 (pos 1) 0 ∷ job 1 (pos 9) 0 ∷ job 5 (pos 2) 0 ∷ [])

-- document 02, §4: A's jobs of two makers; C of makers 0 and 17; nine jobs of which the first fits no processor and the last has no maker,
-- and is due too late
abbrev pub shared : Order
shared = order (8 ∷ 4 ∷ []) (job_of_maker 1 3 (pos 3) 8 ∷ job_of_maker 2 3 (pos 3) 4 ∷ job_of_maker 2 2 (pos 4) 2 ∷ [])

abbrev pub of_maker : ℕ → Order
of_maker maker = order (4 ∷ []) (job_of_maker maker 3 (pos 10) 4 ∷ [])

abbrev pub nine_jobs : ℤ → Order
nine_jobs due =
    order (4 ∷ [])
    (job 1 (pos 1) 5 ∷ job 1 (pos 1) 4 ∷ job 1 (pos 1) 4 ∷ job 1 (pos 1) 4 ∷ job 1 (pos 1) 4 ∷ job 1 (pos 1) 4 ∷ job 1 (pos 1) 4
    ∷ job 1 (pos 1) 4 ∷ job_of_maker 17 1 due 4 ∷ [])

-- document 02, §5: two jobs due at 10 and 11 on one processor; at -20 both ends are below 0
abbrev pub two_early : Order
two_early = order (4 ∷ []) (job 3 (pos 10) 4 ∷ job 3 (pos 11) 4 ∷ [])

-- document 02, §6: two processors of one memory, neither first nor last
abbrev pub ties : Order
ties = order (4 ∷ 8 ∷ 4 ∷ 2 ∷ []) (job 1 (pos 9) 0 ∷ [])

-- document 02, §8: jobs of which two and two have one need; two needs of one class; two jobs over their ends at -1, the first of them of the
-- smallest need
abbrev pub two_and_two : Order
two_and_two = order (8 ∷ 4 ∷ []) (job 1 (pos 9) 4 ∷ job 2 (pos 9) 8 ∷ job 3 (pos 9) 8 ∷ job 4 (pos 9) 4 ∷ [])

abbrev pub one_class : Order
one_class = order (8 ∷ 2 ∷ []) (job 1 (pos 9) 3 ∷ job 2 (pos 9) 7 ∷ job 3 (pos 9) 2 ∷ [])

abbrev pub late_last : Order
late_last = order (8 ∷ []) (job 3 (pos 1) 2 ∷ job 5 (pos 2) 8 ∷ job 1 (pos 9) 4 ∷ [])

-- document 02, §9: two jobs of one processor, the second due at once; a job that fits no processor
abbrev pub two_apart : Order
two_apart = order (4 ∷ []) (job 1 (pos 9) 4 ∷ job 2 (pos 0) 4 ∷ [])

abbrev pub too_large : Order
too_large = order (8 ∷ []) (job 5 (pos 1) 9 ∷ [])
