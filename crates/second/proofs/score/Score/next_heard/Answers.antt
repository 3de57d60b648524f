-- `second::score::Score::next_heard` meets its contract: no column before the first one that is found is heard.
use Rattle.std.proofs.Common.{◌≡◌, true, false, arith, rules}
use borrow.Author.Tests.{tests}
use Rattle.std.proofs.lemmas.Iterator.{first_from_Range}
use Rattle.second.specs.Columns.{heard_in}
use Rattle.second.proofs.Seeking.{passed_by}
use Rattle.second.proofs.score.Score.next_heard.Goals as goal

pub returns-clause-passed : goal.returns-clause-passed
returns-clause-passed c k low high =
    passed_by c.find.result c.more.result c.behind.result c.behind-2.result c.unwrap_or.result
    (λ k. heard_in c.args.self.cells.now c.args.self.h k ≡ true) (λ k. heard_in c.args.self.cells.now c.args.self.h k ≡ false)
    (first_from_Range _ _ _ _ _ _ c.find.ensures.ran (λ x q k. search (rules, tests)) (λ x q k. search (rules, tests)))
    (cc) (cc) k (omega arith) high
