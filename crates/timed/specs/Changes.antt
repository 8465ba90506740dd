-- The times at which something changes, and the frame that lies between them.
use Rattle.std.specs.Prelude.{ℕ, suc, ◌+◌, ◌-◌, ◌*◌, List, ◌++◌, map, reverse, ℤ, pos, length}
use Rattle.std.specs.Int.Signed.{lt_z}
use Rattle.sums.specs.Lists.{tabulate, nth}
use Rattle.order.specs.Order.{Order, processor_count, job_count, job_of, end_of}
use Rattle.order.specs.Sorted.{distinct}
use Rattle.order.specs.Deadline.{cut}
use Rattle.wrap.specs.Frame.{Frame}
use Rattle.wrap.specs.FrameAt.{Times, frame_at}

-- "ready minutes, ends, openings and closings", the ends as whole numbers
unfoldable pub changes : Order → ℤ → Times → List ℤ
changes o bound t =
    map (λ j. pos (t.ready j)) (tabulate (job_count o) suc)
    ++ (map (λ j. end_of bound (job_of o j)) (tabulate (job_count o) suc)
    ++ (map (λ i. pos (t.opens i)) (tabulate (processor_count o) suc)
    ++ map (λ i. pos (t.closes i)) (tabulate (processor_count o) suc)))

-- the distinct ones, downwards, and how many there are: E
unfoldable pub change_times : Order → ℤ → Times → List ℤ
change_times o bound t = distinct lt_z (changes o bound t)

abbrev pub change_count : Order → ℤ → Times → ℕ
change_count o bound t = length (change_times o bound t)

-- "Its buffer needs E × (n + m - 1) rows"
abbrev pub timed_rows_asked : Order → ℤ → Times → ℕ
timed_rows_asked o bound t = change_count o bound t * (job_count o + processor_count o - 1)

-- the marks of whole numbers upwards: minute 0, and each of them, cut off at 0
unfoldable pub mark_at : List ℤ → ℕ → ℕ
mark_at times s = nth (map cut times) s 0

-- "Its stretches lie between those times": the frame of the timed planner. Its first stretch reaches from minute 0 to the first of those
-- times; it has no length or no processor is open in it, so it holds no row. Where ends are cut off at 0 stretches have no length.
abbrev pub timed_frame : Order → ℤ → Times → Frame
timed_frame o bound t = frame_at o bound t (change_count o bound t) (mark_at (reverse (change_times o bound t)))
