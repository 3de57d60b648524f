-- All starts of a column at once, for the contracts of inner functions: the words of columns that are kept (`Cached`), and of all starts
-- those that are hits and what all of them cost (`Followed`). No public call promises any of this by itself. Assumes nothing.
use Rattle.std.specs.Prelude.{◌≡◌, List, map, ℕ, ◌-◌, ◌*◌, ◌^◌, ◌≤◌, ◌<◌, length, get_or, take, drop}
use Rattle.theory.specs.Lists.{sum}
use Rattle.theory.specs.Pages.{hits}
use Rattle.score.specs.Score.{column_at, column, note}
use Rattle.ways.specs.declared.way.Way.{Way}
use Rattle.masks.specs.Masks.{value, width, column_word}
use Rattle.hits.specs.Writing.{codes_of}
use Rattle.walking.specs.declared.ring.Ring.{Ring}
use Rattle.walking.specs.declared.ring.Slot.{Slot}
use Rattle.walking.specs.Starts.{place, codes, hit, looks}

-- ---- words kept from column to column: 32 slots, each with a word and the number of the column that it is of, counted from 1, or 0
-- where a slot has none

abbrev pub places : ℕ
places = 32

abbrev pub empty : Slot
empty = record { number = 0; word = record { low = 0; high = 0 } }

pub record Cached (way : Way) (cells : List ℕ) (h : ℕ) (ring : Ring) : Type 0 where
  pub long : length ring.slots ≡ places
  pub right : (s : ℕ) → s < places → 1 ≤ (get_or ring.slots s empty).number
      → value (get_or ring.slots s empty).word.low (get_or ring.slots s empty).word.high
      ≡ column_word way (take h (drop (((get_or ring.slots s empty).number - 1) * h) cells))

-- ---- what follows

-- of all starts of column j: which are hits, as a word, and what all of them cost
pub record Followed (way : Way) (score : List (List ℕ)) (theme : List ℕ) (j word spent : ℕ) : Type 0 where
  pub small : word < 2 ^ width way
  pub left : hits (λ c. hit way score theme (place j c)) (codes way (note theme 1) (column score (column_at j)) 0) ≡ codes_of way (note theme 1) word
  pub costs : sum (map (λ c. looks way score theme (place j c)) (codes way (note theme 1) (column score (column_at j)) 0)) ≡ spent
