-- A route of a listed pair has for each note a track whose cell holds it. The one that is meant has the fewest changes of track, and
-- among those it comes first: `TheRoute`, over all routes. Tracks are numbered from 1. Assumes nothing.
use Rattle.std.specs.Prelude.{◌≡◌, cond, ◌⊎◌, List, [], ◌∷◌, ℕ, ◌+◌, ◌-◌, ◌≤◌, ◌<◌, eqb, length, get_or}
use Rattle.score.specs.Score.{note}
use Rattle.ways.specs.declared.way.Way.{Way}
use Rattle.ways.specs.declared.way.Way.TheVariants.{Exact}
use Rattle.ways.specs.declared.way.AnyWay.{AnyWay}
use Rattle.ways.specs.declared.way.AnyWay.TheVariants.{Moved, Written}
use Rattle.ways.specs.declared.bookmark.Pair.{Pair}
use Rattle.ways.specs.Way.{Holds}
use Rattle.seeking.specs.Sought.{column_sought}

-- ---- routes compared

-- how many neighbouring notes are in different tracks: from track t on, and of a whole route
unfoldable pub changes_from : (t : ℕ) (route : List ℕ) → ℕ
changes_from t [] = 0
changes_from t (u ∷ route) = cond (eqb t u) 0 1 + changes_from u route

unfoldable pub changes : (route : List ℕ) → ℕ
changes [] = 0
changes (t ∷ route) = changes_from t route

-- compared from the first note, the one route comes before the other, or they are the same
unfoldable pub NotAfter : (route other : List ℕ) → Type 0
NotAfter [] other = Unit {0}
NotAfter (t ∷ route) [] = ⊥
NotAfter (t ∷ route) (u ∷ other) = (t < u) ⊎ ((t ≡ u) × NotAfter route other)

-- ---- the routes of a pair

-- how the notes of a pair are held: those of a written pair as in exact
abbrev pub way_as : AnyWay → Way
way_as (Moved way) = way
way_as Written = Exact

module _ (way : AnyWay) (score : List (List ℕ)) (theme : List ℕ) (pair : Pair) where
  -- the column of note i
  abbrev pub column_of : ℕ → List ℕ
  column_of i = column_sought score pair.column i

  -- track t has note i: it is a track of the column, and its cell, taken by itself, holds the note moved by the shift
  pub record Plays (i t : ℕ) : Type 0 where
    pub from_first : 1 ≤ t
    pub to_last : t ≤ length (column_of i)
    pub held : Holds (way_as way) (get_or (column_of i) (t - 1) 0 ∷ []) (note theme i) pair.shift

  -- a route: a track for each note, which has the note
  pub record Route (route : List ℕ) : Type 0 where
    pub long : length route ≡ length theme
    pub plays : (i : ℕ) → 1 ≤ i → i ≤ length theme → Plays i (get_or route (i - 1) 0)

  -- the route that is meant: no route has fewer changes, and of those with as few it comes first
  pub record TheRoute (route : List ℕ) : Type 0 where
    pub valid : Route route
    pub fewest : (other : List ℕ) → Route other → changes route ≤ changes other
    pub first : (other : List ℕ) → Route other → changes other ≡ changes route → NotAfter route other
