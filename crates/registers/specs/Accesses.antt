-- Document 02, §11: "From a cleared block any sequence of reads and writes sees what this table says, refused commands too".
use Rattle.std.specs.Prelude.{ℕ, ◌≡◌, List, [], ◌∷◌, ℤ}
use Rattle.std.proofs.Common.{sym, ap, subst, ◌∙◌}
use Rattle.order.specs.Order.{Order}
use Rattle.order.specs.Refusals.{Verdict, accepted, refused, judge}
use Rattle.profile.specs.Least.{least_lateness}
use Rattle.plan.specs.Plan.{Row}
use Rattle.planner.specs.WrittenOne.{plan-one}
use Rattle.registers.specs.Registers.{
  Registers,
  place_of,
  read_at,
  all_zero,
  begun,
  finished_with,
  least_table,
  bound_table,
  bound_of,
  stored_order,
  PlannedBy,
  Task,
  at_bound,
  at_least,
  clears,
  unknown,
  task_of,
  CommandedBy,
  WroteBy,
  Wrote,
}
use Rattle.registers.specs.Memory.{registers_of, WroteIn}
use Rattle.registers.specs.declared.Place.{Place}
use Rattle.registers.specs.declared.Place.TheVariants.{Command, Flag, Number, Allow, Stored, Lateness, Held, Nothing}

-- a read at an address, a write of a value there
pub data Access : Type 0 where
  reads : ℕ → Access
  writes : ℕ → ℕ → Access

-- what a sequence of accesses sees from these registers on, by the table: a byte for each read
abbrev pub Sees : Registers → List Access → List ℕ → Type 0
Sees s [] seen = seen ≡ []
Sees s (reads a ∷ later) seen = (rest : List ℕ) × (seen ≡ read_at s a ∷ rest) × Sees s later rest
Sees s (writes a v ∷ later) seen = (s' : Registers) × Wrote s a v s' × Sees s' later seen

-- what it sees of memory, by the contracts of `read` and `write`, each access being given the memory that the last one left
abbrev pub Ran : (bytes numbers : List ℕ) → List Access → List ℕ → Type 0
Ran bytes numbers [] seen = seen ≡ []
Ran bytes numbers (reads a ∷ later) seen =
    (byte : ℕ) × (byte ≡ read_at (registers_of bytes numbers) a) × (rest : List ℕ) × (seen ≡ byte ∷ rest) × Ran bytes numbers later rest
Ran bytes numbers (writes a v ∷ later) seen =
    (bytes' : List ℕ) × (numbers' : List ℕ) × WroteIn a v bytes numbers bytes' numbers' × Ran bytes' numbers' later seen

pub ran-sees : (accesses : List Access) (bytes numbers seen : List ℕ) → Ran bytes numbers accesses seen →
    Sees (registers_of bytes numbers) accesses seen
ran-sees [] bytes numbers seen r = r
ran-sees (reads a ∷ later) bytes numbers seen r =
    (r.2, r.3 ∙ ap (λ (byte : ℕ). byte ∷ r.2) r.1, ran-sees later bytes numbers r.2 r.4)
ran-sees (writes a v ∷ later) bytes numbers seen r =
    (registers_of r.0 r.1, r.2.wrote, ran-sees later r.0 r.1 seen r.3)

-- the theorem
pub sees-table : (accesses : List Access) (bytes numbers seen : List ℕ) → registers_of bytes numbers ≡ all_zero →
    Ran bytes numbers accesses seen → Sees all_zero accesses seen
sees-table accesses bytes numbers seen cleared r =
    subst (λ (s : Registers). Sees s accesses seen) cleared (ran-sees accesses bytes numbers seen r)

-- and the table says one thing: what a write leads to is determined, so what a sequence sees is
planned-one : (v : Verdict) (s : Registers) (o : Order) (z : ℤ)
    (s' s'' : Registers) → PlannedBy v s o z s' → PlannedBy v s o z s'' → s' ≡ s''
planned-one accepted s o z s' s'' P Q =
    P.leaves
    ∙ ap (λ (plan : List Row). finished_with z plan (begun s)) (plan-one o z P.plan Q.plan P.plan-of Q.plan-of)
    ∙ sym Q.leaves
planned-one (refused number carried) s o z s' s'' P Q = P ∙ sym Q

commanded-one : (t : Task) (s s' s'' : Registers) → CommandedBy t s s' → CommandedBy t s s'' → s' ≡ s''
commanded-one at_bound s s' s'' P Q = planned-one (judge (bound_table s)) s (stored_order s) (bound_of s) s' s'' P Q
commanded-one at_least s s' s'' P Q = planned-one (judge (least_table s)) s (stored_order s) (least_lateness (stored_order s)) s' s'' P Q
commanded-one clears s s' s'' P Q = P ∙ sym Q
commanded-one unknown s s' s'' P Q = P ∙ sym Q

wrote-by-one : (p : Place) (s : Registers) (a v : ℕ) (s' s'' : Registers) → WroteBy p s a v s' → WroteBy p s a v s'' → s' ≡ s''
wrote-by-one Command s a v s' s'' P Q = commanded-one (task_of v) s s' s'' P Q
wrote-by-one Flag s a v s' s'' P Q = P ∙ sym Q
wrote-by-one Number s a v s' s'' P Q = P ∙ sym Q
wrote-by-one Allow s a v s' s'' P Q = P ∙ sym Q
wrote-by-one Stored s a v s' s'' P Q = P ∙ sym Q
wrote-by-one Lateness s a v s' s'' P Q = P ∙ sym Q
wrote-by-one Held s a v s' s'' P Q = P ∙ sym Q
wrote-by-one Nothing s a v s' s'' P Q = P ∙ sym Q

pub wrote_one : (s : Registers) (a v : ℕ) (s' s'' : Registers) → Wrote s a v s' → Wrote s a v s'' → s' ≡ s''
wrote_one s a v s' s'' P Q = wrote-by-one (place_of a) s a v s' s'' P Q

pub sees-one : (accesses : List Access) (s : Registers)
    (seen seen' : List ℕ) → Sees s accesses seen → Sees s accesses seen' → seen ≡ seen'
sees-one [] s seen seen' P Q = P ∙ sym Q
sees-one (reads a ∷ later) s seen seen' P Q =
    P.1 ∙ ap (λ (rest : List ℕ). read_at s a ∷ rest) (sees-one later s P.0 Q.0 P.2 Q.2) ∙ sym Q.1
sees-one (writes a v ∷ later) s seen seen' P Q =
    sees-one later P.0 seen seen' P.2
    (subst (λ (t : Registers). Sees t later seen') (sym (wrote_one s a v P.0 Q.0 P.1 Q.1)) Q.2)
