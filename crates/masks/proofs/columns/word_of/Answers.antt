-- By cases on the way.
use mathlib.Core.Path.{◌∙◌}
use Rattle.masks.proofs.Halves.{value_few}
use Rattle.masks.proofs.Gathering.{class_word}
use Rattle.masks.proofs.columns.word_of.Goals as goal

pub returns-in-Octave : goal.returns-in-Octave
returns-in-Octave c = rw c.in-Octave.is (value_few _ ∙ c.from.ensures ∙ c.classes_of.ensures ∙ class_word _)
