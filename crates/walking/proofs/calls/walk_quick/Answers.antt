-- `walking::calls::walk_quick` meets its contract: the checks turn away, or the table is filled and candidates are walked along.
use mathlib.Core.Path.{◌≡◌, sym, ap, ◌∙◌}
use mathlib.Core.List.{List}
use Prim.Native.Nat.{ℕ}
use native.Mathlib.Omega.{arith}
use lib.IntN.{ℤ}
use lib.ListN.{length}
use Rattle.std.proofs.lemmas.Result.{err_from_is_err_and}
use Rattle.ways.specs.declared.way.Way.{Way}
use Rattle.ways.specs.declared.bookmark.Bookmark.{Bookmark}
use Rattle.asking.specs.Asking.{QuickAsks}
use Rattle.asking.proofs.Rows.{quick_clear}
use Rattle.filter.specs.Limits.{word_bits}
use Rattle.filter.specs.Table.{theme_table, table_after}
use Rattle.filter.proofs.Words.{table_length, after_filled}
use Rattle.walking.proofs.Answers.{finds_away, finds_done, quick_asks, table_kept, table_filled}
use Rattle.walking.proofs.calls.walk_quick.Goals as goal

-- the table that is filled is the theme's
filled : {cells : List ℕ} {h : ℕ} {theme : List ℕ} {way : Way} {b : Bookmark} {sets table columns : List ℕ} {shifts : List ℤ}
    → QuickAsks cells h theme way b sets table columns shifts → table_after word_bits theme table ≡ theme_table word_bits theme
filled {theme = theme} {table = table} a = after_filled word_bits theme table (λ z. omega (arith, a.plain.accepted.notes_some)) a.table_long

pub returns-in_err-check_quick : goal.returns-in_err-check_quick
returns-in_err-check_quick c =
    let a = c.args in
    let p = err_from_is_err_and c.from_residual.result c.from_residual.ensures.1 in
    rw (p.1, p.2) (record {
      finds = finds_away _ _ _ _ _ _ _ _ c.check_quick.ensures c.in_err-check_quick.was;
      fills_table =
          table_kept a.cells.now a.tracks a.theme.now a.way a.bookmark a.sets.now a.table.now a.columns.now
          a.shifts.now c.check_quick.ensures c.in_err-check_quick.was;
    })

pub walk_candidates-requires : goal.walk_candidates-requires
walk_candidates-requires c =
    let a = c.args in
    let q =
    quick_asks a.cells.now a.tracks a.theme.now a.way a.bookmark a.sets.now a.table.now a.columns.now a.shifts.now
    c.check_quick.ensures c.in_ok-check_quick.was in
    record {
      plain = q.plain;
      with_sets = q.with_sets;
      table_long = ap length (c.fill_table.ensures ∙ filled q) ∙ table_length word_bits _;
    }

pub returns : goal.returns
returns c =
    let a = c.args in
    let q =
    quick_asks a.cells.now a.tracks a.theme.now a.way a.bookmark a.sets.now a.table.now a.columns.now a.shifts.now
    c.check_quick.ensures c.in_ok-check_quick.was in
    let z =
    (quick_clear a.cells.now a.tracks a.theme.now a.way a.bookmark a.sets.now a.table.now a.columns.now a.shifts.now).0 q in
    let f = c.fill_table.ensures ∙ filled q in
    record {
      finds = finds_done _ _ _ _ _ _ _ _ z (rw f at c.walk_candidates.ensures);
      fills_table =
          f ∙ sym (table_filled a.cells.now a.tracks a.theme.now a.way a.bookmark a.sets.now a.table.now a.columns.now
          a.shifts.now z);
    }
