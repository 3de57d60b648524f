-- The invariant is `Along`, with room for one more.
use Prim.Native.Nat.{◌<◌}
use lib.ListN.{length}
use Rattle.written.proofs.Listing.{Along}
use Rattle.written.proofs.walk.list_from.Given as goal

abbrev pub invariant-loop-k : goal.invariant-loop-k
invariant-loop-k l =
    Along l.cells l.h l.theme l.from l.initial.columns l.initial.shifts l.columns l.shifts l.register l.k l.found
    × (l.found < length l.initial.columns)
