-- `reading::lines::theme_line` meets its contract: which of the three words stands at the front, or none.
use mathlib.Core.Path.{sym, ◌∙◌}
use Rattle.reading.proofs.Lining.{theme_exact, theme_octave, theme_written, theme_none}
use Rattle.reading.proofs.lines.theme_line.Goals as goal

pub returns-then-stands : goal.returns-then-stands
returns-then-stands c = theme_exact _ _ (sym c.stands.ensures ∙ c.if-stands.true) c.notes.ensures

pub returns-then-stands-2 : goal.returns-then-stands-2
returns-then-stands-2 c =
    theme_octave _ _ (sym c.stands.ensures ∙ c.if-stands.false) (sym c.stands-2.ensures ∙ c.if-stands-2.true) c.notes-then-stands-2.ensures

pub returns-then-stands-3 : goal.returns-then-stands-3
returns-then-stands-3 c =
    theme_written _ _ (sym c.stands.ensures ∙ c.if-stands.false) (sym c.stands-2.ensures ∙ c.if-stands-2.false)
    (sym c.stands-3.ensures ∙ c.if-stands-3.true) c.notes-then-stands-3.ensures

pub returns : goal.returns
returns c =
    theme_none _ _ (sym c.stands.ensures ∙ c.if-stands.false) (sym c.stands-2.ensures ∙ c.if-stands-2.false)
    (sym c.stands-3.ensures ∙ c.if-stands-3.false)
