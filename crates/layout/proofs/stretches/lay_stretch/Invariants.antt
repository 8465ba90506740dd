-- The loop's invariant: the shares of the jobs that are left go on from the place that the loop has come to.
use Rattle.layout.specs.Sheet.{standing}
use Rattle.layout.proofs.Stretching.{Stretching}
use Rattle.layout.proofs.stretches.lay_stretch.Given as goal

abbrev pub invariant-loop-job : goal.invariant-loop-job
invariant-loop-job l =
    Stretching l.stretch.start l.stretch.end l.processors l.jobs l.q l.w l.stretch.number (standing l.initial.written l.initial.rows)
    l.place l.job-index (standing l.written l.rows)
