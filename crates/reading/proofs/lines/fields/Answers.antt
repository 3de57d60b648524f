-- `reading::lines::fields` meets its contract: what the invariant says at the line feed, at bad text, and at the end of the text.
use mathlib.Core.Logic.{⊎_elim}
use Rattle.reading.proofs.Filling.{filling_short, filling_end, filling_stop, filling_bad, filling_more}
use Rattle.reading.proofs.lines.fields.Goals as goal

pub returns-then-b-eq10 : goal.returns-then-b-eq10
returns-then-b-eq10 c =
    let i = c.in-Some.ensures.lookup in
    filling_end _ _ _ _ _ _ c.loop-b.invariant i.3.0 (i.3.1 0) c.if-b-eq10.true

pub returns-then-b-ne9 : goal.returns-then-b-ne9
returns-then-b-ne9 c =
    let i = c.in-Some.ensures.lookup in
    filling_stop _ _ _ _ _ _ c.loop-b.invariant i.3.0 (i.3.1 0) c.if-b-eq10.false
    (λ e. ⊎_elim (λ n. absurd (n e)) (λ p. p.1) c.then-b-ne9.either)

pub returns-in_err-field : goal.returns-in_err-field
returns-in_err-field c =
    let i = c.in-Some.ensures.lookup in
    rw c.from_residual.ensures
    (filling_bad _ _ _ _ _ _ c.loop-b.invariant i.3.0 (i.3.1 0) c.if-b-eq10.false c.if-b-ne9.false c.if-count-limit.false
    c.in_err-field.ensures)

pub loop-b-preserved : goal.loop-b-preserved
loop-b-preserved c =
    let i = c.in-Some.ensures.lookup in
    filling_more _ _ _ _ _ _ c.loop-b.invariant i.3.0 (i.3.1 0) c.if-b-eq10.false c.if-b-ne9.false c.if-count-limit.false
    c.in_ok-field.ensures

pub returns : goal.returns
returns c = filling_short _ _ _ _ _ _ c.loop-b.invariant c.in_default.ensures.lookup.3
