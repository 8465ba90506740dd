use Rattle.reason.proofs.Tells.{hit-of, tell-late, tell-stairs, tell-nothing}
use Rattle.reason.proofs.tell.tell.Goals as goal

pub returns-in-Some : goal.returns-in-Some
returns-in-Some c = tell-late c.args.o c.args.reach c.requires.fine c.in-Some.k c.in-Some.ensures

pub dues_of-requires : goal.dues_of-requires
dues_of-requires c =
    let found = c.in-Some-first_overfull in
    let x = hit-of c.args.o c.args.reach c.requires.fine found.stairs found.ensures in
    (x.below, λ d h. c.requires.fine.grid d)

pub returns-in-Some-first_overfull : goal.returns-in-Some-first_overfull
returns-in-Some-first_overfull c =
    let found = c.in-Some-first_overfull in
    tell-stairs c.args.o c.args.reach c.requires.fine c.in_default.ensures found.stairs
    (hit-of c.args.o c.args.reach c.requires.fine found.stairs found.ensures) c.dues_of.result c.dues_of.ensures

pub returns-in-None : goal.returns-in-None
returns-in-None c = tell-nothing c.args.o c.args.reach c.requires.fine c.in_default.ensures c.in-None.ensures
