-- What the calls of the register block say (document 02, §11). From hbr_block_clear on, any sequence of hbr_block_read and hbr_block_write
-- on the same lent memory sees what the table says; and a command judges its file as hbr_screen_plan and hbr_screen_least judge it.
use Rattle.std.specs.Prelude.{ℕ, ◌≤◌, ◌≡◌, List, [], ◌∷◌, ◌++◌, ℤ, replicate}
use Rattle.std.proofs.Math.Path.{refl, sym}
use Rattle.std.proofs.Common.{◌∙◌, arith}
use Rattle.order.specs.Refusals.{screen, TableRow, Verdict, accepted, refused, judge, order_rows, bound_row, tight_row, file_row}
use Rattle.order.proofs.RefusalLaws.{judge-accepted-append, judge-refused-append}
use Rattle.order.specs.Callers.{rows_by}
use Rattle.order_file.specs.File.{good_file, read_rows}
use Rattle.planner.specs.Rows.{buffer_row, is_found, least_rows, earlier_rows, plan_rows}
use Rattle.profile.specs.Search.{reason_of}
use Rattle.registers.specs.Registers.{Registers, all_zero, bound_of, length_of, file_in, stored_order, least_table, bound_table}
use Rattle.registers.specs.JudgeLaws.{least-short, buffer-clear}
use Rattle.registers.specs.CommandLaws.{zeros-clear}
use Rattle.registers.specs.Accesses.{Access, Ran, Sees, sees-table}
use Rattle.highboyrobin.specs.Results.{file_call}
use Rattle.highboyrobin.specs.Calls.{least_call, plan_call}
use Rattle.highboyrobin.specs.ScreenCalls.{screened}

-- "From a cleared block any sequence of reads and writes sees what this table says": memory that hbr_block_clear left, whatever lies beyond
pub calls-see : (accesses : List Access) (bytes numbers seen : List ℕ) →
    Ran (replicate 256 0 ++ bytes) (replicate 720 0 ++ numbers) accesses seen → Sees all_zero accesses seen
calls-see accesses bytes numbers seen r = sees-table accesses _ _ seen (zeros-clear bytes numbers) r

-- "judged as a screen order": with 220 bytes or fewer a command's table answers what the screen's call answers that is lent 720 numbers
module _ (s : Registers) (few : length_of s ≤ 220) where
  abbrev f : List ℕ
  f = file_in s

  abbrev z : ℤ
  z = bound_of s

  abbrev read : List TableRow
  read = file_row (good_file f) ∷ order_rows screen (stored_order s)

  abbrev room : TableRow
  room = buffer_row (stored_order s) 720

  abbrev tight : TableRow
  tight = tight_row (is_found (reason_of (stored_order s) z))

  is_read : judge (least_table s) ≡ judge read
  unfolding rows_by read_rows
  is_read = least-short s few

  pub least-as-screen : judge (least_table s) ≡ judge (screened f (least_call f 720 2))
  unfolding judge rows_by file_call least_rows
  least-as-screen = go (judge (least_table s)) refl
    where
      go : (v : Verdict) → judge (least_table s) ≡ v → judge (least_table s) ≡ judge (read ++ (room ∷ []))
      go accepted e =
          e ∙ sym (judge-accepted-append read (room ∷ []) (sym is_read ∙ e) ∙ rw (buffer-clear s e 720 (omega arith)) refl)
      go (refused number carried) e = e ∙ sym (judge-refused-append read (room ∷ []) number carried (sym is_read ∙ e))

  pub bound-as-screen : judge (bound_table s) ≡ judge (screened f (plan_call f z 720 1))
  unfolding judge rows_by file_call earlier_rows plan_rows bound_table
  bound-as-screen = go (judge (least_table s)) refl
    where
      go : (v : Verdict) → judge (least_table s) ≡ v → judge (bound_table s) ≡ judge (read ++ (bound_row z ∷ room ∷ tight ∷ []))
      go accepted e =
          judge-accepted-append (least_table s) (bound_row z ∷ tight ∷ []) e
          ∙ sym
          (judge-accepted-append read (bound_row z ∷ room ∷ tight ∷ []) (sym is_read ∙ e)
          ∙ rw (buffer-clear s e 720 (omega arith)) refl)
      go (refused number carried) e =
          judge-refused-append (least_table s) (bound_row z ∷ tight ∷ []) number carried e
          ∙ sym (judge-refused-append read (bound_row z ∷ room ∷ tight ∷ []) number carried (sym is_read ∙ e))
