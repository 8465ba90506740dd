-- Every case of the table holds.
use Rattle.std.specs.Prelude.{◌≡◌, refl, map}
use Rattle.sums.specs.Sum.{sum}
use Rattle.sums.specs.Lists.{All, keep}
use Rattle.sums.specs.Same.{same_list}
use Rattle.order.specs.Order.{end_at, end_of}
use Rattle.order.specs.Sorted.{insert, distinct, due_times, place_by_key, by_falling, processor_order, job_order}
use Rattle.order.specs.Class.{classes, last_that_suffices, class_for, class_of, processors_in, processors_to}
use Rattle.order.specs.Refusals.{judge, first_after, fits_some}
use Rattle.order.specs.Callers.{rows_by}
use Rattle.order_file.specs.File.{good_file, order_in, processor_bytes, job_bytes, file_of}
use Rattle.registers.specs.Registers.{least_table, bound_table}
use Rattle.book.specs.Book.{minutes_by, added, some_over}
use Rattle.book.specs.Calls.{book_after}
use Rattle.needs.specs.NeedTable.{meets, lines_in, counted, met_by, need_for}
use Rattle.needs.specs.Deciding.{behind, climbed, first_twice}
use Rattle.planner.specs.Rows.{least_rows, earlier_rows, plan_rows}
use Rattle.plan.specs.Join.{join_row, join_rows}
use Rattle.plan.specs.Check.{numbers_of, every, every_two, is_right}
use Rattle.profile.specs.Profile.{owed, class_owes, owed_from, on_hand_from}
use Rattle.profile.specs.Search.{choices, ranked, first_such, first_overfull, reason_of}
use Rattle.profile.specs.Standing.{jobs_over_end, overfull_stairs, reasons_at, is_one_of}
use Rattle.text.specs.Text.{digits_within, decimal, signed_decimal}
use Rattle.sentence.specs.Line.{classes_from, line_of, composed, read_back}
use Rattle.profile.specs.Least.{weight_at, weight_from, heaviest, least_reach, least_lateness}
use Rattle.sums.specs.Most.{largest, most}
use Rattle.wrap.specs.Stretches.{ends, mark}
use Rattle.wrap.specs.Layout.{fill, shares_of, stretch_rows, rows_up_to, layout}
use Rattle.wrap.specs.Ending.{job_where}
use Rattle.wrap.specs.Frame.{lies, open_order, open_to, stretch_rows_in, in_turn, layout_in}
use Rattle.amounts.specs.Flow.{right}
use Rattle.order.specs.Deadline.{deadline_of}
use Rattle.timed.specs.Changes.{changes, change_times, mark_at}
use Rattle.timed.specs.Rows.{asked_rows, earlier_timed}
use Rattle.timed.specs.Check.{is_right_timed}
use Rattle.estimate.specs.Estimate.{next_times, path_at, first_met, estimate_rows}
use Rattle.worked.specs.Cases.{Holds, cases, computed, stated, all_hold}

-- what each case says of the definitions is what they compute to
all-computed : map computed cases ≡ map stated cases
unfolding sum end_at end_of insert distinct due_times classes last_that_suffices class_for class_of processors_in processors_to judge first_after
    fits_some numbers_of every every_two is_right owed class_owes owed_from on_hand_from choices ranked first_such first_overfull reason_of
    weight_at weight_from largest heaviest most least_reach least_lateness keep jobs_over_end overfull_stairs reasons_at is_one_of same_list
    classes_from line_of composed read_back digits_within decimal signed_decimal place_by_key by_falling processor_order job_order ends mark
    fill shares_of stretch_rows rows_up_to layout job_where join_row join_rows processor_bytes job_bytes file_of order_in minutes_by added some_over
    book_after least_rows earlier_rows plan_rows changes change_times mark_at asked_rows earlier_timed is_right_timed lies open_order open_to
    stretch_rows_in in_turn layout_in deadline_of right meets lines_in counted met_by need_for behind climbed first_twice
    estimate_rows next_times path_at first_met rows_by good_file least_table bound_table
all-computed = refl

-- every case holds
pub every-case : All Holds cases
every-case = all_hold cases all-computed
