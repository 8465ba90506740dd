use Rattle.highboyrobin.proofs.TimesTold.{times-are}
use Rattle.highboyrobin.proofs.timing.times_from.Goals as goal

pub returns : goal.returns
returns c =
    let s = c.args in
    times-are s.ready.now s.windows.now _ c.by_job.ensures c.column_of.ensures c.column_of-2.ensures
