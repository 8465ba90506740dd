-- Openings and closings, one after the other.
use Prim.Native.Nat.{ℕ, ◌+◌, ◌-◌}
use mathlib.Core.Path.{◌∙◌}
use mathlib.Core.List.{List}
use native.Mathlib.Omega.{arith}
use lib.ListN.{get_or}
use Rattle.allot.specs.Tables.{Put}
use Rattle.timed.specs.Leads.{WindowsPut}

pub windows-put : (xs ys zs : List ℕ) (at n : ℕ) (opens closes : List ℕ) → Put xs ys at n (λ i. 11000001 - get_or opens i 0) →
    Put ys zs (at + n) n (λ i. 11000001 - get_or closes i 0) → WindowsPut xs zs at n opens closes
windows-put xs ys zs at n opens closes P Q =
    record {
      opening = λ i l. Q.before (at + i) (omega arith) ∙ P.inside i l;
      closing = Q.inside;
      before = λ i l. Q.before i (omega arith) ∙ P.before i l;
    }
