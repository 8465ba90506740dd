use Prim.Native.Nat.{suc}
use mathlib.Core.Path.{◌≡◌}
use lib.ListN.{length}
use Rattle.stairs.specs.Tables.{Completed}
use Rattle.stairs.proofs.completion.completions.Given as goal

-- the completions of up to m classes stand in the table
abbrev pub invariant-loop-m : goal.invariant-loop-m
invariant-loop-m l = (length l.c ≡ 16) × Completed l.t (suc l.k) l.q l.m l.c
