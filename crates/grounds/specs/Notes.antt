-- Which note a reason names. Assumes nothing.
use Rattle.std.specs.Prelude.{ℕ, Option, None, Some}
use Rattle.grounds.specs.declared.answers.Why.{Why}
use Rattle.grounds.specs.declared.answers.Why.TheVariants.{Listed, NoShift, NoColumn, TooFew, Empty, Outside, Absent}

-- the note that fails, where the reason names one
abbrev pub note_of : Why → Option ℕ
note_of (Outside note) = Some note
note_of (Absent note) = Some note
note_of Listed = None
note_of NoShift = None
note_of NoColumn = None
note_of TooFew = None
note_of Empty = None
