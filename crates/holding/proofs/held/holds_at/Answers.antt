-- `holding::held::holds_at` meets its contract: exact seeks a pitch, if the moved note is one; octave seeks its class.
use mathlib.Core.Path.{sym, ◌∙◌}
use mathlib.Core.Logic.{inl, inr}
use Rattle.ways.proofs.Holding.{holds_below, holds_above, holds_exact, holds_octave}
use Rattle.holding.proofs.held.holds_at.Goals as goal

pub returns-then-moved-gt254 : goal.returns-then-moved-gt254
returns-then-moved-gt254 c =
    rw c.in-Exact.is
    (elim c.if-moved-gt254.either [
      | inl below ↦ holds_below _ _ _ below
      | inr above ↦ holds_above _ _ _ above.1
    ])

pub returns-else-moved-gt254 : goal.returns-else-moved-gt254
returns-else-moved-gt254 c = c.has_pitch.ensures ∙ sym (rw c.in-Exact.is (holds_exact _ _ _ c.if-moved-gt254.false.0))

pub returns-in-Octave : goal.returns-in-Octave
returns-in-Octave c = c.has_class.ensures ∙ sym (rw c.in-Octave.is (holds_octave _ _ _))
