-- A code is kept where it is a hit, at most the highest, and each buffer has room.
use mathlib.Core.Path.{◌∙◌}
use mathlib.Core.Logic.{inl, inr}
use mir.Syntax.{w16}
use mir.Facts.{to_z-of_z}
use Rattle.ways.proofs.Coding.{shift_given_lem}
use Rattle.hits.proofs.writing.Keeping.{keep_miss, keep_high, keep_columns, keep_shifts, keep_hit}
use Rattle.hits.proofs.writing.keep.Goals as goal

pub returns-then-not-hit : goal.returns-then-not-hit
returns-then-not-hit c =
    let s = c.args in
    elim c.then-not-hit.either [
      | inl miss ↦ keep_miss _ _ _ _ _ s.code s.hit miss
      | inr (inl high) ↦ keep_high _ _ _ _ _ s.code s.hit high.1
      | inr (inr (inl full)) ↦ keep_columns _ _ _ _ _ s.code s.hit full.2
      | inr (inr (inr full)) ↦ keep_shifts _ _ _ _ _ s.code s.hit full.3
    ]

pub returns : goal.returns
returns c =
    let s = c.args in
    keep_hit _ _ _ _ _ s.code s.hit _ (to_z-of_z {w = w16} (record { sfits = c.shift_of.type_inv }) ∙ c.shift_of.ensures ∙ shift_given_lem s.way s.code c.if-code-gt-HIGHEST_CODE.false)
    c.if-not-hit.false c.if-code-gt-HIGHEST_CODE.false c.if-columns-at.false c.if-shifts-at.false
