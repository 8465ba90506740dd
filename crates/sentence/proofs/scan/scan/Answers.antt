use Rattle.std.proofs.Common.{sym, ◌∙◌, arith}
use Rattle.sentence.proofs.Scans.{scan-none, scan_step}
use Rattle.sentence.proofs.scan.scan.Goals as goal

pub loop-b-preserved : goal.loop-b-preserved
loop-b-preserved c =
    let l = c.loop-b in
    (c.step.ensures.1, scan_step l.s _ _ l.b-index c.step.ensures.0 (omega arith) ∙ l.invariant.1)

pub returns : goal.returns
returns c =
    let l = c.loop-b in
    sym (scan-none l.s _ l.b-index (omega arith)) ∙ l.invariant.1
