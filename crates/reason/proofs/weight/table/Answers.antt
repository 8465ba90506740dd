use Prim.Native.Nat.{ℕ, suc}
use mathlib.Core.Path.{◌∙◌, ap}
use mathlib.Core.List.{List, []}
use native.Mathlib.Omega.{arith}
use borrow.Author.Rules.{rules}
use lib.ListN.{get_or}
use lib.Seq.{get_or-set_other}
use Rattle.sums.specs.Arrays.{RowOf, fill-at}
use Rattle.reason.specs.Asked.{weight}
use Rattle.reason.specs.WeightLaws.{minutes-le, weight_is}
use Rattle.reason.proofs.weight.table.Goals as goal

pub weigh_row-requires : goal.weigh_row-requires
weigh_row-requires c =
    let l = c.loop-i in
    let w = c.owed_table-t in (
      c.requires.procs l.i (omega arith),
      λ d h. (
        omega (
          arith,
          ap (λ (r : List ℕ). get_or r d 0) (l.invariant.2 l.i (omega arith)),
          (w.ensures l.i (omega arith)).at d h,
          minutes-le c.args.o c.requires (suc l.i) d,
        ),
        c.requires.grid d,
      ),
    )

pub loop-i-preserved : goal.loop-i-preserved
loop-i-preserved c =
    let l = c.loop-i in
    let w = c.owed_table-t in
    let new : RowOf (weight c.args.o l.i) 48 c.weigh_row.result
    = record {
      at = λ d h. omega (
        arith,
        c.weigh_row.ensures.at d h,
        ap (λ (r : List ℕ). get_or r d 0) (l.invariant.2 l.i (omega arith)),
        (w.ensures l.i (omega arith)).at d h,
        weight_is c.args.o l.i d,
      );
    } in (
      search rules,
      fill-at (λ (k : ℕ) (r : List ℕ). RowOf (weight c.args.o k) 48 r) [] l.row-items l.i
          c.weigh_row.result (search rules) l.invariant.1 new,
      λ k h. get_or-set_other l.row-items l.i k _ [] (λ e. omega (arith, e)) ∙ l.invariant.2 k (omega arith),
    )
