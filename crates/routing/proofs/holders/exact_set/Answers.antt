-- `routing::holders::exact_set` meets its contract: the moved note is a pitch, and each cell is asked for it, or it is none.
use Rattle.std.proofs.Common.{◌+◌, ◌-◌, eqb, refl, rules, arith}
use Rattle.routing.proofs.CellBits.{exact_pitch, exact_none}
use Rattle.routing.proofs.holders.exact_set.Goals as goal

pub returns-then-moved-lt-UNMOVED : goal.returns-then-moved-lt-UNMOVED
returns-then-moved-lt-UNMOVED c = let a = c.args in exact_none a.code a.p a.column.now c.then-moved-lt-UNMOVED.either

pub returns : goal.returns
returns c =
    let a = c.args in
    exact_pitch a.code a.p a.column.now refl (omega arith) (omega arith)
    (c.set_of.ensures (λ cell. eqb cell (a.p.0 + a.code - 127)) (λ cell b l k. search rules))
