-- A turn writes the code of the lowest bit that is left, for which there is room.
use borrow.Author.Rules.{rules}
use mathlib.Core.Path.{◌∙◌}
use Prim.Native.Nat.{◌<◌}
use native.Mathlib.Omega.{arith}
use lib.ListN.{length}
use mir.Syntax.{w16}
use mir.Facts.{to_z-of_z}
use Rattle.ways.proofs.Coding.{shift_given_lem}
use Rattle.hits.proofs.writing.Putting.{put_end, put_room, put_within, put_there, put_turn}
use Rattle.hits.proofs.writing.put_marked.Goals as goal

pub offset_bounds-columns-at : goal.offset_bounds-columns-at
offset_bounds-columns-at c =
    let r = put_room c.loop-left.invariant c.loop-left-test.true c.requires.0 c.requires.1 in
    let q : c.loop-left.at < length c.loop-left.columns = omega (arith, r.in_columns) in search rules

pub bounds-columns-at : goal.bounds-columns-at
bounds-columns-at c =
    let r = put_room c.loop-left.invariant c.loop-left-test.true c.requires.0 c.requires.1 in
    omega (arith, r.in_columns)

pub offset_bounds-shifts-at : goal.offset_bounds-shifts-at
offset_bounds-shifts-at c =
    let r = put_room c.loop-left.invariant c.loop-left-test.true c.requires.0 c.requires.1 in
    let q : c.loop-left.at < length c.loop-left.columns = omega (arith, r.in_columns) in search rules

pub bounds-shifts-at : goal.bounds-shifts-at
bounds-shifts-at c =
    let r = put_room c.loop-left.invariant c.loop-left-test.true c.requires.0 c.requires.1 in
    omega (arith, r.in_shifts)

pub overflow_add-at : goal.overflow_add-at
overflow_add-at c =
    let r = put_room c.loop-left.invariant c.loop-left-test.true c.requires.0 c.requires.1 in
    let q : c.loop-left.at < length c.loop-left.columns = omega (arith, r.in_columns) in search rules

pub overflow_sub-left : goal.overflow_sub-left
overflow_sub-left c = put_there c.loop-left.invariant c.loop-left-test.true

pub loop-left-preserved : goal.loop-left-preserved
loop-left-preserved c =
    let q = put_within c.loop-left.invariant c.loop-left-test.true in
    put_turn c.loop-left.invariant c.loop-left-test.true _
    (to_z-of_z {w = w16} (record { sfits = c.shift_of.type_inv }) ∙ c.shift_of.ensures ∙ shift_given_lem c.args.way _ (omega (arith, q, c.requires.2)))

pub returns : goal.returns
returns c = put_end c.loop-left.invariant c.loop-left-test.false
