-- `masks::moving::moved` meets its contract: exact moves by the distance from the first note, octave by the class of the note.
use mathlib.Core.Path.{◌∙◌}
use native.Mathlib.Nat.{mod-lt, zero-lt-suc}
use native.Mathlib.Omega.{arith}
use Rattle.masks.proofs.Halves.{value_few, value_lt}
use Rattle.masks.proofs.Shifting.{shifted_down, shifted_up, turned_low}
use Rattle.masks.proofs.moving.moved.Goals as goal

pub returns-then-first-p : goal.returns-then-first-p
returns-then-first-p c =
    let s = c.args in
    rw c.in-Exact.is
    (c.down.ensures
    ∙ shifted_down _ _ _ c.if-first-p.true (value_lt s.w.low s.w.high (record { lower = omega arith; upper = omega arith })))

pub returns-else-first-p : goal.returns-else-first-p
returns-else-first-p c =
    rw c.in-Exact.is (c.up.ensures ∙ shifted_up _ _ _ c.if-first-p.false)

pub returns-in-Octave : goal.returns-in-Octave
returns-in-Octave c =
    let s = c.args in
    let turns = rw c.class_of.ensures at c.turned.ensures in
    rw c.in-Octave.is
    (value_few _ ∙ turns ∙ turned_low _ s.w.low s.w.high (mod-lt _ (zero-lt-suc 11)) (record { lower = omega arith; upper = omega arith }))
