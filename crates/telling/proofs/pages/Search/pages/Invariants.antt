-- `telling::pages::Search::pages` meets its contract. The invariant: the lines of the pairs so far are written, and what is left is what
-- is left at the bookmark, which is not the end. The measure is a bound on the pages left.
use mathlib.Core.Path.{◌≡◌}
use mathlib.Core.Bool.{true}
use Rattle.paging.specs.Lent.{lent}
use Rattle.paging.proofs.UnderWay.{turns_left}
use Rattle.telling.proofs.Searching.{search_of, Paging}
use Rattle.telling.proofs.pages.Search.pages.Given as goal

abbrev pub invariant-loop-t : goal.invariant-loop-t
invariant-loop-t l = Paging l.self.cells.now l.self.tracks l.self.theme.now l.self.way l.self.sets.now l.fn.out l.table (lent l.columns l.shifts) l.text.bytes.now l.bookmark l.text.at l.found l.looks true
    × (l.text.bytes.ghost_name ≡ l.initial.text.bytes.ghost_name)

abbrev pub decreases-loop-t : goal.decreases-loop-t
decreases-loop-t l = turns_left (search_of l.self.cells.now l.self.tracks l.self.theme.now l.self.way l.self.sets.now) l.bookmark true
