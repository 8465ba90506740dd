use native.Mathlib.Omega.{arith}
use Rattle.table.proofs.places.ends_at.Goals as goal

pub returns : goal.returns
returns c =
    record {
      at = λ j l.
          omega (
            arith,
            c.minutes_at.ensures.at j (omega (arith, c.requires.0)),
            c.by_number.ensures.at j l,
          );
    }
