-- `reading::request::all_lines` meets its contract: of the theme line and of all chord lines, what the whole input means.
use mathlib.Core.Path.{◌≡◌}
use Rattle.std.proofs.lemmas.Result.{err_from_is_err_and}
use Rattle.reading.specs.declared.request.ReadError.{ReadError}
use Rattle.reading.specs.declared.request.ReadError.TheVariants.{Bad}
use Rattle.reading.proofs.Wholes.{theme_got, score_got, fault_got, whole_bad, whole_none, whole_fault, whole_read}
use Rattle.reading.proofs.request.all_lines.Goals as goal

pub returns-in_err-line : goal.returns-in_err-line
returns-in_err-line c =
    let none = c.in_err-line.ensures.ok_part in
    let p = err_from_is_err_and c.from_residual.result c.from_residual.ensures.1 in
    let line1 : ◌≡◌ {A = ReadError} c.in_err-line.field-0.0 (Bad 1) = let v = rw none at c.in_err-line.ensures.value in cc in
    rw (p.1, p.2, line1) (record { is = whole_bad (rw none at c.theme_line.ensures) })

pub returns-in_err-chords : goal.returns-in_err-chords
returns-in_err-chords c =
    let p = err_from_is_err_and c.from_residual-in_err-chords.result c.from_residual-in_err-chords.ensures.1 in
    rw (p.1, p.2)
    (record {
      is = whole_fault (theme_got (rw c.in_ok-line.ensures.ok_part at c.theme_line.ensures)) (fault_got c.in_err-chords.ensures);
    })

pub returns-then-chords-eq0 : goal.returns-then-chords-eq0
returns-then-chords-eq0 c =
    record {
      is =
          whole_none (theme_got (rw c.in_ok-line.ensures.ok_part at c.theme_line.ensures)) (score_got c.in_ok-chords.ensures)
          c.if-chords-eq0.true;
    }

pub returns : goal.returns
returns c =
    record {
      is =
          whole_read (theme_got (rw c.in_ok-line.ensures.ok_part at c.theme_line.ensures)) (score_got c.in_ok-chords.ensures)
          c.if-chords-eq0.false;
    }
