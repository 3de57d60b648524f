-- The order of pairs, by rising column and then rising shift; and which pairs stand at or after a bookmark. Assumes nothing.
use Rattle.std.specs.Prelude.{◌≡◌, Bool, ◌&&◌, ◌||◌, ◌⊎◌, List, [], ◌∷◌, ℕ, ◌≤◌, ◌<◌, ltb, eqb, ◌<ℤ◌, ◌≤ℤ◌}
use Rattle.std.specs.Int.Signed.{le_z}
use Rattle.ways.specs.declared.bookmark.Pair.{Pair}
use Rattle.ways.specs.declared.bookmark.Bookmark.{Bookmark}
use Rattle.ways.specs.Way.{Range}

abbrev pub Before : Pair → Pair → Type 0
Before a b = (a.column.0 < b.column.0) ⊎ ((a.column.0 ≡ b.column.0) × (a.shift <ℤ b.shift))

-- each pair of a list stands before all those after it: they are in order, and none is there twice
pub data Ordered : List Pair → Type 0 where
  none : Ordered []
  one : {a : Pair} → Ordered (a ∷ [])
  more : {a b : Pair} {rest : List Pair} → Before a b → Ordered (b ∷ rest) → Ordered (a ∷ b ∷ rest)

-- by column, and then by shift: the pair does not come before the one that the bookmark names (`proofs/AtOrAfter`)
abbrev pub marked_pair : Bookmark → Pair
marked_pair b = record { column = b.column; shift = b.shift }

abbrev pub at_or_after : Bookmark → Pair → Bool
at_or_after b pair = ltb b.column.0 pair.column.0 || eqb b.column.0 pair.column.0 && le_z b.shift pair.shift

-- a pair of a column of the score, 1 to n, and of a shift of the range
pub record Within (range : Range) (n : ℕ) (pair : Pair) : Type 0 where
  pub from_first : 1 ≤ pair.column.0
  pub to_last : pair.column.0 ≤ n
  pub not_below : range.lowest ≤ℤ pair.shift
  pub not_above : pair.shift ≤ℤ range.highest
