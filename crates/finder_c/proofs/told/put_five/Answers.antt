-- `finder_c::told::put_five` meets its contract.
use mir.Facts.{to_z-of_z}
use Rattle.finder_c.proofs.told.put_five.Goals as goal

pub returns : goal.returns
returns c =
    let f = c.ranges in
    rw (to_z-of_z f.a, to_z-of_z f.b, to_z-of_z f.c, to_z-of_z f.d, to_z-of_z f.e) at c.copy_from_slice.ensures.after
