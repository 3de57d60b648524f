-- `listing::output::answer` meets its contract: a right input is told as a search of what was read, a bad one by its line.
use mathlib.Core.Path.{sym, subst}
use native.Mathlib.Omega.{arith}
use lib.Seq.{length-take-le}
use Rattle.telling.specs.Telling.{Tale, Tells}
use Rattle.reading.proofs.Takings.{took_short, took_right}
use Rattle.listing.proofs.Meanings.{out_bad, cells_few, notes_within, cells_within, out_told}
use Rattle.listing.proofs.output.answer.Goals as goal

pub overflow_mul-long : goal.overflow_mul-long
overflow_mul-long c = omega (arith, cells_few (took_right c.read.ensures c.requires.0 c.requires.1 c.in-Ok.is))

pub slice_bounds-tell-end : goal.slice_bounds-tell-end
slice_bounds-tell-end c = cells_within (took_right c.read.ensures c.requires.0 c.requires.1 c.in-Ok.is)

pub slice_bounds-tell-end-in-Ok : goal.slice_bounds-tell-end-in-Ok
slice_bounds-tell-end-in-Ok c =
    sym (length-take-le _ _ (cells_within (took_right c.read.ensures c.requires.0 c.requires.1 c.in-Ok.is)))

pub slice_bounds-tell-end-in-Ok-2 : goal.slice_bounds-tell-end-in-Ok-2
slice_bounds-tell-end-in-Ok-2 c = notes_within (took_right c.read.ensures c.requires.0 c.requires.1 c.in-Ok.is)

pub slice_bounds-tell-end-in-Ok-3 : goal.slice_bounds-tell-end-in-Ok-3
slice_bounds-tell-end-in-Ok-3 c =
    sym (length-take-le _ _ (notes_within (took_right c.read.ensures c.requires.0 c.requires.1 c.in-Ok.is)))

pub returns-in-Ok : goal.returns-in-Ok
returns-in-Ok c =
    subst (λ (x : Tale). Tells x c.tell.result c.tell.new.out) (out_told (took_right c.read.ensures c.requires.0 c.requires.1 c.in-Ok.is) _) c.tell.ensures

pub returns-in-Err-Bad : goal.returns-in-Err-Bad
returns-in-Err-Bad c = rw (out_bad c.read.ensures c.requires.0 c.requires.1 (rw c.in-Err-Bad.field-0-is at c.in-Err-Bad.is)) c.refuse.ensures

pub returns-in-Err-Short : goal.returns-in-Err-Short
returns-in-Err-Short c = absurd (took_short c.read.ensures c.requires.0 c.requires.1 (rw c.in-Err-Short.field-0-is at c.in-Err-Short.is))
