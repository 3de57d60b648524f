-- `second::score::Score::heard_from` meets its contract: what is kept of the columns from one on are those that are heard.
use Rattle.std.proofs.Common.{◌+◌, ◌-◌, rules, arith}
use borrow.Author.Tests.{tests}
use mathlib.Core.Path.{refl, ◌∙◌}
use Rattle.std.specs.List.{range_with_len}
use Rattle.std.proofs.lemmas.Iterator.{YieldsList-from_range}
use Rattle.std.proofs.lemmas.Iterator.Consumers.{YieldsList-at, YieldsList-from_filter, count_from_yields_List}
use Rattle.std.proofs.lemmas.List.Sums.{length-filter}
use Rattle.second.specs.Columns.{heard_in}
use Rattle.second.proofs.score.Score.heard_from.Goals as goal

pub returns-clause-count : goal.returns-clause-count
returns-clause-count c small =
    count_from_yields_List c.filter.result _ c.count.ensures.ran
    (YieldsList-from_filter _ (heard_in c.args.self.cells.now c.args.self.h)
    (YieldsList-at c.filter.ensures.source
    (YieldsList-from_range c.args.j c.behind.result (c.args.self.n + 1 - c.args.j) refl (omega arith)))
    c.filter.ensures.closure (λ x b q k. search (rules, tests)))
    ∙ length-filter (heard_in c.args.self.cells.now c.args.self.h) (range_with_len c.args.j (c.args.self.n + 1 - c.args.j))
