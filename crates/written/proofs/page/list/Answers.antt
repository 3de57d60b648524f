-- `written::page::list` meets its contract: the walk from behind the columns passed. Assumes nothing.
use mathlib.Core.Path.{◌≡◌, ap, ◌∙◌}
use Prim.Native.Nat.{ℕ}
use lib.IntN.{ℤ}
use borrow.Author.Rules.{rules}
use mir.Syntax.{w16}
use mir.Val.{SFits, to_z, of_z}
use mir.Facts.{to_z-of_z}
use Rattle.written.specs.Walk.{passed}
use Rattle.written.proofs.Paged.{walkable}
use Rattle.written.proofs.page.list.Goals as goal

-- where the walk begins
begins : (j : ℕ) (shift : ℤ) {from : ℕ} → SFits w16 shift → from ≡ passed j (to_z w16 (of_z w16 shift)) → from ≡ passed j shift
begins j shift f e = e ∙ ap (passed j) (to_z-of_z {w = w16} f)

pub list_from-requires-clause-walkable : goal.list_from-requires-clause-walkable
list_from-requires-clause-walkable c =
    let a = c.args in
    rw (begins a.bookmark.column.0 a.bookmark.shift (search rules) c.passed-from.ensures)
    (walkable a.cells.now a.tracks a.theme.now a.bookmark a.columns.now a.shifts.now c.requires)
