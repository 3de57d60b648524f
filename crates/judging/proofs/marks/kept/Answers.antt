-- `judging::marks::kept` meets its contract: the loop goes over the places from one to another that are there.
use Rattle.std.proofs.Common.{rules}
use borrow.Author.Tests.{tests}
use Rattle.std.proofs.lemmas.Iterator.{YieldsList-from_slice, YieldsList-from_take}
use Rattle.std.proofs.lemmas.Iterator.Adapters.{YieldsList-from_skip}
use Rattle.std.proofs.lemmas.Iterator.Consumers.{YieldsList-at, YieldsList-from_enumerate}
use Rattle.std.proofs.lemmas.Iterator.Search.{all_from_yields_List}
use Rattle.judging.proofs.marks.kept.Goals as goal

pub returns-clause-each : goal.returns-clause-each
returns-clause-each g c =
    all_from_yields_List (λ p. g.T.PartialEq.eq p.1 (g.T.Mark.mark_of p.0)) _ _ _ c.all.ensures.ran
    (YieldsList-from_skip c.args.from (YieldsList-at c.skip.ensures.source
    (YieldsList-from_take c.args.to (YieldsList-at c.take.ensures.source
    (YieldsList-from_enumerate (YieldsList-at c.enumerate.ensures.source (YieldsList-from_slice c.args.s.now cc))
    c.enumerate.ensures.count)) c.take.ensures.count)) c.skip.ensures.count)
    (λ x b q k. search (rules, tests))
