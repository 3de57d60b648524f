-- `reading::lines::chord_line` meets its contract: no word at the front, bad fields, and as many cells as are allowed or not.
use mathlib.Core.Path.{sym, ◌∙◌}
use mathlib.Core.Logic.{⊎_elim, inl, inr}
use native.Mathlib.Omega.{arith}
use Rattle.reading.specs.Reading.{chord_word}
use Rattle.reading.proofs.Lining.{begins_within, tracks_taken, tracks_none, tracks_unlike}
use Rattle.reading.proofs.Lining.{chord_none, chord_bad, chord_right, chord_wrong}
use Rattle.reading.proofs.lines.chord_line.Goals as goal
use Rattle.reading.proofs.lines.chord_line.Goals.{then-line-eq0-via-then-line-eq0, then-line-eq0-via-else-line-eq0+then-line-h}

pub returns-then-not-stands : goal.returns-then-not-stands
returns-then-not-stands c =
    chord_none c.args.text.now c.args.from c.args.h c.args.base c.args.cells.now c.requires.1 (sym c.stands.ensures ∙ c.if-not-stands.true)

pub fields-requires : goal.fields-requires
fields-requires c =
    (begins_within chord_word c.args.text.now c.args.from c.requires.0 (sym c.stands.ensures ∙ c.if-not-stands.false), c.requires.1)

pub returns-in_err-line : goal.returns-in_err-line
returns-in_err-line c =
    rw c.from_residual.ensures
    (chord_bad c.args.text.now c.args.from c.args.h c.args.base c.args.cells.now c.requires.1 (sym c.stands.ensures ∙ c.if-not-stands.false)
    c.in_err-line.ensures)

pub returns-then-line-eq0 : goal.returns-then-line-eq0
returns-then-line-eq0 c =
    chord_wrong c.args.text.now c.args.from c.args.h c.args.base c.args.cells.now c.requires.1 (sym c.stands.ensures ∙ c.if-not-stands.false)
    c.in_ok-line.ensures
    (elim c.then-line-eq0.branch [
      | then-line-eq0-via-then-line-eq0 w ↦ tracks_none c.args.h _ w.if-line-eq0.true
      | then-line-eq0-via-else-line-eq0+then-line-h w ↦ tracks_unlike c.args.h c.in_ok-line.line.count (omega arith) (omega arith)
    ])

pub returns : goal.returns
returns c =
    chord_right c.args.text.now c.args.from c.args.h c.args.base c.args.cells.now c.requires.1 (sym c.stands.ensures ∙ c.if-not-stands.false)
    c.in_ok-line.ensures
    (tracks_taken c.args.h c.in_ok-line.line.count (omega arith) (⊎_elim (λ p. inr p.1) (λ e. inl e) c.if-line-h.either))
