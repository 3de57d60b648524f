-- The method, for the contracts of inner functions. The tracks that hold a note are a set, a number whose bit t is 1 where track t
-- does. From the last note to the first `best_of` keeps the tracks from which the fewest changes are left, and `least_of` counts these;
-- from the first to the last `chosen` takes the lowest track that keeps to the fewest. Assumes nothing.
use Rattle.std.specs.Prelude.{◌≡◌, Bool, true, cond, List, [], ◌∷◌, ℕ, ◌+◌, ◌-◌, ◌*◌, ◌^◌, ◌≤◌, ◌<◌, eqb, length, get_or, drop}
use Rattle.std.specs.Int.Bits.{bit_and, bit_or}
use Rattle.std.specs.Int.Count.{count_trailing_zeros}
use Rattle.theory.specs.Bits.{bit}
use Rattle.theory.specs.Lists.{over}
use Rattle.score.specs.declared.quantities.Pitch.{Pitch}
use Rattle.score.specs.Limits.{most_tracks}
use Rattle.score.specs.Score.{pitch, onward}
use Rattle.ways.specs.declared.way.Way.{Way}
use Rattle.ways.specs.declared.bookmark.Pair.{Pair}
use Rattle.ways.specs.Way.{code_of}
use Rattle.asking.specs.Limits.{most_notes}
use Rattle.seeking.specs.Track.{cell_holds}
use Rattle.routing.specs.Routing.{held_along}

-- ---- the tracks that hold a note

-- bit k is 1 where the k-th cell, from 0, passes the test
unfoldable pub set_of : (ℕ → Bool) → (cells : List ℕ) → ℕ
set_of test [] = 0
set_of test (cell ∷ cells) = cond (test cell) 1 0 + set_of test cells * 2

-- tracks are numbered from 1, so bit 0 is 0
abbrev pub holders : Way → (code : ℕ) → Pitch → (column : List ℕ) → ℕ
holders way code p column = set_of (cell_holds way code p) column * 2

-- of each note, in order, in its column
unfoldable pub holders_along : Way → (code : ℕ) (theme : List ℕ) (columns : List (List ℕ)) → List ℕ
holders_along way code [] columns = []
holders_along way code (p ∷ theme) [] = []
holders_along way code (p ∷ theme) (c ∷ columns) = holders way code (pitch p) c ∷ holders_along way code theme columns

abbrev pub holders_at : Way → (score : List (List ℕ)) (theme : List ℕ) → Pair → List ℕ
holders_at way score theme pair = holders_along way (code_of way pair.shift) theme (onward score pair.column)

-- what is told of a pair: whether it is listed, and if so, the sets of its notes, over the front of what was lent
pub record FoundTracks (said : Bool) (found lent : List ℕ) (all : Bool) (sets : List ℕ) : Type 0 where
  pub told : all ≡ said
  pub found_all : all ≡ true → sets ≡ over lent found

-- the same of the notes along columns, and of a pair that is said to be listed or not
abbrev pub FoundAlong : Way → (code : ℕ) (theme : List ℕ) (columns : List (List ℕ)) (lent : List ℕ) (all : Bool) (sets : List ℕ) → Type 0
FoundAlong way code theme columns lent all sets =
    FoundTracks (held_along way code theme columns) (holders_along way code theme columns) lent all sets

abbrev pub FoundAt : (said : Bool) → Way → (score : List (List ℕ)) (theme : List ℕ) → Pair → (lent : List ℕ) (all : Bool) (sets : List ℕ) → Type 0
FoundAt said way score theme pair lent all sets = FoundTracks said (holders_at way score theme pair) lent all sets

-- ---- the fewest changes, from the last note to the first

-- every track; it stands for the note behind the last, which may be in any
abbrev pub every_track : ℕ
every_track = 2 ^ 32 - 1

-- the tracks of set s from which the fewest changes are left, before a note whose best are b: those that are best for that note too, or
-- all of s where there is none; and 1 where there is none, for the change that is then due
abbrev pub best_before : (s b : ℕ) → ℕ
best_before s b = cond (eqb (bit_and s b) 0) s (bit_and s b)

abbrev pub due : (s b : ℕ) → ℕ
due s b = cond (eqb (bit_and s b) 0) 1 0

-- the best tracks of the first of the notes, and how many changes are left from them
unfoldable pub best_of : (sets : List ℕ) → ℕ
best_of [] = every_track
best_of (s ∷ sets) = best_before s (best_of sets)

unfoldable pub least_of : (sets : List ℕ) → ℕ
least_of [] = 0
least_of (s ∷ sets) = due s (best_of sets) + least_of sets

-- ---- the tracks, from the first note to the last

-- the lowest bit that is 1
abbrev pub lowest_of : ℕ → ℕ
lowest_of set = count_trailing_zeros 32 set

-- after track t: it stays if it is among the best. Otherwise the track has to change, here or later: the lowest of the best is taken,
-- or t itself if it is lower and has the note
abbrev pub next_track : (t set best : ℕ) → ℕ
next_track t set best = cond (eqb (bit best t) 1) t (lowest_of (bit_or best (bit_and set (2 ^ t))))

unfoldable pub chosen : (t : ℕ) (sets : List ℕ) → List ℕ
chosen t [] = []
chosen t (s ∷ sets) = let u = next_track t s (best_of (s ∷ sets)) in u ∷ chosen u sets

-- ---- sets that notes may have

-- some track of 1 to 16, and none besides
pub record Tracks (set : ℕ) : Type 0 where
  pub some : 0 < set
  pub few : set < 2 ^ (most_tracks + 1)
  pub not_zero : bit set 0 ≡ 0

pub record Playable (sets : List ℕ) : Type 0 where
  pub each : (k : ℕ) → k < length sets → Tracks (get_or sets k 0)

-- the sets of a theme's notes are such
pub record TracksThere (sets : List ℕ) : Type 0 where
  pub notes_few : length sets ≤ most_notes
  pub playable : Playable sets

-- what goes from the last note to the first leaves: of each note the best tracks
pub record Best (sets best : List ℕ) : Type 0 where
  pub room : length sets ≤ length best
  pub each : (k : ℕ) → k < length sets → get_or best k 0 ≡ best_of (drop k sets)
