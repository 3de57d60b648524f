-- `listing::output::list` meets its contract: where there is room, the answer is always told.
use native.Mathlib.Omega.{arith}
use Rattle.std.proofs.lemmas.Result.{MatchResult-at_ok}
use Rattle.listing.proofs.Listings.{list_written, list_told}
use Rattle.listing.proofs.output.list.Goals as goal

pub returns : goal.returns
returns c =
    let a = c.args in
    let told = list_told a.input.now a.out.now (omega arith) c.answer.ensures in
    rw (MatchResult-at_ok _ _ _ told c.map_err.ensures.cases) (list_written a.input.now a.out.now (omega arith) c.answer.ensures told)
