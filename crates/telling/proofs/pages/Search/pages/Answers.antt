-- `telling::pages::Search::pages` meets its contract: each page that is turned adds its lines, its pairs and its looks, and no page is
-- refused.
use mathlib.Core.Path.{refl, sym, ◌∙◌}
use borrow.Author.Rules.{rules}
use native.Mathlib.Omega.{arith}
use Rattle.telling.proofs.Searching.{paging_start}
use Rattle.telling.proofs.Paged.{turn_refused, turn_written, turn_room, turn_found, turn_looks, turn_less, turn_more, end_room, end_wrote}
use Rattle.telling.proofs.pages.Search.pages.Goals as goal
use Rattle.telling.proofs.pages.Search.pages.Goals.{in-Ok+then-t, in-Err}

pub loop-t-init : goal.loop-t-init
loop-t-init c = (rw c.first-bookmark.ensures (paging_start _ _ _ _ _ c.args.self.now.accepted c.args.self.now.own c.requires), refl)

pub hit_lines-requires : goal.hit_lines-requires
hit_lines-requires c =
    let p = c.loop-t.invariant.0 in
    let of_columns = c.page.auto.columns ∙ p.room.pairs_room.of_columns in
    let few = turn_written _ _ _ _ _ _ p c.page.ensures c.in-Ok.is in
    record {
      found_in_bounds = (omega arith, (c.page.auto.shifts ∙ p.room.pairs_room.of_shifts) ∙ sym of_columns);
      shifts_in_bounds = turn_room _ _ _ _ _ _ p c.page.ensures c.in-Ok.is;
    }

pub overflow_add-found : goal.overflow_add-found
overflow_add-found c =
    let w = turn_found _ _ _ _ _ _ c.loop-t.invariant.0 c.page.ensures c.in-Ok.is in
    omega arith

pub overflow_add-looks : goal.overflow_add-looks
overflow_add-looks c = record { fits = turn_looks _ _ _ _ _ _ c.loop-t.invariant.0 c.page.ensures c.in-Ok.is }

pub loop-t-smaller : goal.loop-t-smaller
loop-t-smaller c = rw c.if-t.false at (turn_less _ _ _ _ _ _ c.loop-t.invariant.0 c.page.ensures c.in-Ok.is)

pub loop-t-preserved : goal.loop-t-preserved
loop-t-preserved c =
    let p = c.loop-t.invariant.0 in (
      rw c.if-t.false at
          (turn_more _ _ _ _ _ _ p c.page.ensures c.in-Ok.is (c.page.auto.table ∙ p.room.table_long)
          (record { of_columns = c.page.auto.columns ∙ p.room.pairs_room.of_columns; of_shifts = c.page.auto.shifts ∙ p.room.pairs_room.of_shifts })
          c.hit_lines.ensures.wrote),
      c.hit_lines.ensures.same_output ∙ c.loop-t.invariant.1,
    )

pub overflow_cast-found : goal.overflow_cast-found
overflow_cast-found c =
    let p = c.loop-t.invariant.0 in
    elim c.match-page.branch [
      | in-Ok+then-t w ↦
          let few = turn_found _ _ _ _ _ _ p c.page.ensures w.in-Ok.is in
          rw w.found-is (record { fits = omega arith })
      | in-Err w ↦ absurd (turn_refused _ _ _ _ _ _ p c.page.ensures w.in-Err.is)
    ]

pub end_line-requires : goal.end_line-requires
end_line-requires c =
    let p = c.loop-t.invariant.0 in
    elim c.match-page.branch [
      | in-Ok+then-t w ↦
          let last =
          rw w.if-t.true at
          (turn_more _ _ _ _ _ _ p c.page.ensures w.in-Ok.is (c.page.auto.table ∙ p.room.table_long)
          (record { of_columns = c.page.auto.columns ∙ p.room.pairs_room.of_columns; of_shifts = c.page.auto.shifts ∙ p.room.pairs_room.of_shifts })
          w.hit_lines.ensures.wrote) in
          rw (w.text-is, w.found-is, w.looks-is) (end_room _ _ _ _ _ _ last)
      | in-Err w ↦ absurd (turn_refused _ _ _ _ _ _ p c.page.ensures w.in-Err.is)
    ]

pub returns : goal.returns
returns c =
    let p = c.loop-t.invariant.0 in
    elim c.match-page.branch [
      | in-Ok+then-t w ↦
          let last =
          rw w.if-t.true at
          (turn_more _ _ _ _ _ _ p c.page.ensures w.in-Ok.is (c.page.auto.table ∙ p.room.table_long)
          (record { of_columns = c.page.auto.columns ∙ p.room.pairs_room.of_columns; of_shifts = c.page.auto.shifts ∙ p.room.pairs_room.of_shifts })
          w.hit_lines.ensures.wrote) in
          let put = rw (w.found-is, w.looks-is, w.text-is) at c.end_line.ensures.wrote in
          let same = rw w.text-is at c.end_line.ensures.same_output ∙ w.hit_lines.ensures.same_output ∙ c.loop-t.invariant.1 in
          end_wrote _ _ _ _ _ _ last (search rules)
      | in-Err w ↦ absurd (turn_refused _ _ _ _ _ _ p c.page.ensures w.in-Err.is)
    ]
