use native.Mathlib.Omega.{arith}
use Rattle.timed.proofs.Windows.{windows-put}
use Rattle.timed.proofs.moments.put_windows.Goals as goal

pub put_minutes-requires : goal.put_minutes-requires
put_minutes-requires c =
    (omega arith, omega arith, omega arith, omega arith, c.requires.3)

pub put_minutes-requires-2 : goal.put_minutes-requires-2
put_minutes-requires-2 c =
    (omega arith, omega arith, omega arith, omega arith, c.requires.4)

pub returns : goal.returns
returns c =
    windows-put _ _ _ c.args.at c.args.n _ _ c.put_minutes.ensures c.put_minutes-2.ensures
