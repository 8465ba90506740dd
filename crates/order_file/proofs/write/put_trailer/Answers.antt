-- `put_trailer`: four numbers stored one after the other are the trailer's twelve bytes.
use Prim.Native.Nat.{◌+◌, ◌*◌}
use mathlib.Core.Path.{refl}
use Rattle.order_file.specs.Bytes.{bytes4, bytes2}
use Rattle.order_file.proofs.Stores.{four-put}
use native.Mathlib.Omega.{arith}
use Rattle.order_file.proofs.write.put_trailer.Goals as goal

pub returns : goal.returns
returns c =
    let a = c.args in
    four-put a.out.now a.at 2 (a.at + 10) (a.at + 12) (bytes4 0) (bytes4 (4 * a.processors)) (bytes2 a.processors)
    (bytes2 a.jobs) _ _ _ _ (omega arith) (omega arith) c.requires.2 refl refl refl refl
    c.put4.ensures c.put4-2.ensures c.put2.ensures c.put2-2.ensures
