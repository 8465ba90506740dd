-- What the timed check's inner functions ask.
use Rattle.order.specs.Order.{Numbers}
use Rattle.plan.specs.Plan.{Row}

-- a row of one of 48 jobs on one of 16 processors
abbrev pub Named : Row → Type 0
Named r = Numbers 48 r.job × Numbers 16 r.processor
