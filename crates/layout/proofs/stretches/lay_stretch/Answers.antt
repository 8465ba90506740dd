-- The loop's invariant: the shares of the jobs that are left go on from the place that the loop has come to.
use Rattle.std.proofs.Common.{arith}
use Rattle.layout.proofs.Sharing.{share-none}
use Rattle.layout.proofs.Stretching.{stretching-start, share-room, stretching-more, stretching-end, stretching-told}
use Rattle.layout.proofs.stretches.lay_stretch.Goals as goal
use Rattle.layout.proofs.stretches.lay_stretch.Goals.{then-minutes-gt0, else-minutes-gt0}

pub loop-job-init : goal.loop-job-init
loop-job-init c = stretching-start _ _ _ _ _ _ _ _ c.requires.5 c.requires.10

pub loop-job-preserved : goal.loop-job-preserved
loop-job-preserved c =
    let g = c.loop-job.invariant in
    let l = c.loop-job-test.true in
    elim c.if-minutes-gt0.branch [
      | then-minutes-gt0 t ↦ rw (t.place-is, t.written-is, t.rows-is) (stretching-more g c.requires.7 l c.requires.8 t.lay_share-place.ensures)
      | else-minutes-gt0 t ↦
          rw (t.place-is, t.written-is, t.rows-is)
          (stretching-more g c.requires.7 l c.requires.8
          (share-none _ _ _ _ g.inside g.goes_on.good (omega (arith, t.if-minutes-gt0.false))))
    ]

pub lay_share-place-requires : goal.lay_share-place-requires
lay_share-place-requires c =
    let g = c.loop-job.invariant in
    let t = c.loop-job-test.true in (
      c.requires.0,
      c.requires.9,
      g.inside,
      omega (arith, c.requires, g.few, g.inside.a-processor),
      (c.requires.7.at c.loop-job.job-index t).0,
      share-room g c.requires.7 t c.requires.8,
      g.goes_on.good,
    )

pub returns : goal.returns
returns c =
    let e = stretching-end c.loop-job.invariant (omega (arith, c.loop-job-test.false, c.loop-job.auto.job-index-end)) in record {
      laid = e;
      ends_told = stretching-told _ _ _ _ _ _ _ _ c.requires.5 c.requires.9 c.requires.7 c.requires.8 e.0;
    }
