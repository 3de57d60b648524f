-- `filter::table::fill_table` meets its contract: a table that is left alone, or filled. Assumes nothing.
use Rattle.std.proofs.Common.{sym, ◌∙◌, arith}
use borrow.Author.Tests.{eqb-false}
use Rattle.filter.specs.Limits.{word_bits}
use Rattle.filter.specs.Table.{theme_table}
use Rattle.filter.proofs.Words.{after_filled}
use Rattle.filter.proofs.table.Downward.{pairs_first, odd_source, odd_lowest_lt, pairs_more, right_all}
use Rattle.filter.proofs.table.fill_table.Goals as goal

pub loop-half-init : goal.loop-half-init
loop-half-init c = pairs_first word_bits _ c.interval_words-words.ensures c.args.table.now (omega arith)

pub bounds-table-odd : goal.bounds-table-odd
bounds-table-odd c =
    omega (arith, odd_source word_bits _ c.interval_words-words.ensures c.loop-half.invariant c.loop-half-test.true, c.loop-half.invariant.long)

pub offset_bounds-words-lowest_interval : goal.offset_bounds-words-lowest_interval
offset_bounds-words-lowest_interval c =
    omega (arith, odd_lowest_lt word_bits _ c.interval_words-words.ensures c.loop-half.invariant c.loop-half-test.true c.lowest_interval.ensures)

pub bounds-words-lowest_interval : goal.bounds-words-lowest_interval
bounds-words-lowest_interval c =
    odd_lowest_lt word_bits _ c.interval_words-words.ensures c.loop-half.invariant c.loop-half-test.true c.lowest_interval.ensures

pub loop-half-preserved : goal.loop-half-preserved
loop-half-preserved c =
    pairs_more word_bits _ c.interval_words-words.ensures c.loop-half.invariant c.loop-half-test.true c.lowest_interval.ensures

pub returns : goal.returns
unfolding theme_table
returns c =
    right_all c.loop-half.invariant (omega arith)
    ∙ sym (after_filled word_bits _ _ (eqb-false _ _ (sym c.is_empty.ensures ∙ c.if-is_empty.false)) (omega arith))
