-- What the call promises: `Routes`. Refusals 1 to 5, then 13 for a pair that is not listed, then 14 for a buffer that is too short; a
-- refused call writes nothing. Otherwise the route stands in the first places of the lent buffer, and its changes are answered.
-- `listed` computes whether a pair stands; that it is `StandsAs` of `search` is proved (`proofs/ListedPairs`). Assumes nothing.
use Rattle.std.specs.Prelude.{◌≡◌, Bool, true, false, not, ◌&&◌, List, [], ◌∷◌, ◌++◌, ℕ, ltb, pos, length, Result, Ok, Err}
use Rattle.theory.specs.Lists.{over}
use Rattle.score.specs.declared.refusals.Rule.TheVariants as rule
use Rattle.score.specs.declared.refusals.Refusal.{Refusal}
use Rattle.score.specs.Score.{pitch, column, score_of, heard, onward}
use Rattle.score.specs.Refusals.{Row, row, verdict}
use Rattle.ways.specs.declared.way.Way.{Way}
use Rattle.ways.specs.declared.way.Way.TheVariants.{Exact}
use Rattle.ways.specs.declared.way.AnyWay.{AnyWay}
use Rattle.ways.specs.declared.way.AnyWay.TheVariants.{Moved, Written}
use Rattle.ways.specs.declared.bookmark.Pair.{Pair}
use Rattle.ways.specs.Way.{code_of, holds}
use Rattle.ways.specs.Codes.{no_shift, outside}
use Rattle.asking.specs.Limits.{most_notes}
use Rattle.asking.specs.Refusals.{request_rows}
use Rattle.routing.specs.Route.{changes, TheRoute}

-- ---- whether a pair is listed

-- there is a column for each note, in order, and it holds the note moved by the code's shift
unfoldable pub held_along : Way → (code : ℕ) (theme : List ℕ) (columns : List (List ℕ)) → Bool
held_along way code [] columns = true
held_along way code (p ∷ theme) [] = false
held_along way code (p ∷ theme) (c ∷ columns) = holds way code (pitch p) c && held_along way code theme columns

-- the shift is one of the way's, the column is not 0 and has a pitch, and the notes are held from it on
abbrev pub is_listed_by : Way → (score : List (List ℕ)) (theme : List ℕ) → Pair → Bool
is_listed_by way score theme pair =
    not (no_shift way pair.shift) && (ltb 0 pair.column.0 && heard (column score pair.column))
    && held_along way (code_of way pair.shift) theme (onward score pair.column)

-- of all ways: a written pair is an exact one with shift 0
abbrev pub is_listed : AnyWay → (score : List (List ℕ)) (theme : List ℕ) → Pair → Bool
is_listed (Moved way) score theme pair = is_listed_by way score theme pair
is_listed Written score theme pair = not (outside pair.shift (pos 0) (pos 0)) && is_listed_by Exact score theme pair

-- ---- what is turned away

-- 13: the pair is not listed, whatever its column and its shift are
abbrev pub row13 : AnyWay → (score : List (List ℕ)) (theme : List ℕ) → Pair → Row
row13 way score theme pair = row rule.Listed (not (is_listed way score theme pair)) 0

-- 14: the buffer has fewer places than the theme has notes
abbrev pub row14 : (theme lent : List ℕ) → Row
row14 theme lent = row rule.RouteRoom (ltb (length lent) (length theme)) 0

-- those of the pair and the buffer: 13, 14
abbrev pub pair_rows : AnyWay → (score : List (List ℕ)) (theme : List ℕ) → Pair → (lent : List ℕ) → List Row
pair_rows way score theme pair lent = row13 way score theme pair ∷ row14 theme lent ∷ []

-- 1 to 5, 13, 14, in this order
abbrev pub route_rows : (cells : List ℕ) (h : ℕ) (theme : List ℕ) → AnyWay → Pair → (lent : List ℕ) → List Row
route_rows cells h theme way pair lent = request_rows most_notes cells h theme ++ pair_rows way (score_of cells h) theme pair lent

-- ---- what the call promises

-- the route that is meant is written over the front of the buffer, places behind it keep their contents, and its changes are answered
pub record Writes (way : AnyWay) (score : List (List ℕ)) (theme : List ℕ) (pair : Pair) (lent : List ℕ)
    (answer : Result ℕ Refusal) (after : List ℕ) : Type 0 where
  pub route : List ℕ
  pub meant : TheRoute way score theme pair route
  pub written : after ≡ over lent route
  pub counted : answer ≡ Ok (changes route)

-- the answer, and the lent buffer after the call
pub record Routes (cells : List ℕ) (h : ℕ) (theme : List ℕ) (way : AnyWay) (pair : Pair) (lent : List ℕ)
    (answer : Result ℕ Refusal) (after : List ℕ) : Type 0 where
  pub refused : (r : Refusal) → verdict (route_rows cells h theme way pair lent) ≡ Err r → (answer ≡ Err r) × (after ≡ lent)
  pub accepted : verdict (route_rows cells h theme way pair lent) ≡ Ok tt → Writes way (score_of cells h) theme pair lent answer after
