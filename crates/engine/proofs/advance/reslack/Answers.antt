use borrow.Author.Rules.{rules}
use Rattle.engine.proofs.Steps.{shifted-lowered, shifted-raised}
use native.Mathlib.Omega.{arith}
use Rattle.engine.proofs.advance.reslack.Goals as goal

pub returns-then-c-e : goal.returns-then-c-e
returns-then-c-e c = shifted-lowered _ _ _ _ _ _ (omega arith) c.requires.c_in_bounds.1 (search rules) c.lower.ensures

pub returns-else-c-e : goal.returns-else-c-e
returns-else-c-e c = shifted-raised _ _ _ _ _ _ (omega arith) c.requires.c_in_bounds.0 (search rules) c.raise.ensures
