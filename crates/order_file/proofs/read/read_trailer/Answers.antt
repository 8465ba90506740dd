-- `read_trailer`: a file that is refused has no trailer that agrees; the four numbers of one that is taken are its trailer's.
use mathlib.Core.Path.{sym, ◌∙◌}
use borrow.Author.Tests.{not-true, not-false}
use Rattle.order_file.proofs.Trailing.{bad, other_length, other-places, good}
use native.Mathlib.Omega.{arith}
use Rattle.order_file.proofs.read.read_trailer.Goals as goal

pub returns-then-len-lt-TRAILER_WIDTH : goal.returns-then-len-lt-TRAILER_WIDTH
returns-then-len-lt-TRAILER_WIDTH c = record {
  value = bad _ (λ a. omega arith);
  within = tt;
}

pub returns-then-len-gt-LONGEST_FILE : goal.returns-then-len-gt-LONGEST_FILE
returns-then-len-gt-LONGEST_FILE c = record {
  value = bad _ (λ a. omega arith);
  within = tt;
}

pub returns-then-processors-jobs : goal.returns-then-processors-jobs
returns-then-processors-jobs c =
    let f = c.args.file.now in record {
      value = other_length f _ _ _ _ c.read4-processors_at.ensures c.read4-jobs_at.ensures
          c.read2-processors.ensures.0 c.read2-jobs.ensures.0 c.if-processors-jobs.true;
      within = tt;
    }

pub returns-then-not-lists_agree : goal.returns-then-not-lists_agree
returns-then-not-lists_agree c =
    let f = c.args.file.now in record {
      value = other-places f _ _ _ _ c.read4-processors_at.ensures c.read4-jobs_at.ensures
          c.read2-processors.ensures.0 c.read2-jobs.ensures.0
          (sym c.lists_agree.ensures ∙ not-true _ c.if-not-lists_agree.true-raw);
      within = tt;
    }

pub returns : goal.returns
returns c =
    let f = c.args.file.now in
    let t = good f _ _ _ _ c.read4-processors_at.ensures c.read4-jobs_at.ensures
    c.read2-processors.ensures.0 c.read2-jobs.ensures.0
    (omega arith) (omega arith) (omega arith) (sym c.lists_agree.ensures ∙ not-false _ c.if-not-lists_agree.false-raw) in
    record { value = t.0; within = t.1 }
