-- What the inner functions of the register promise: the word that the register takes for an entry of the sets, and the candidates that it
-- lists. Assumes nothing.
use Rattle.std.specs.Prelude.{◌≡◌, Bool, cond, List, [], ◌∷◌, ℕ, ◌+◌, ◌-◌, ◌≤◌, ◌<◌, length, get_or}
use Rattle.theory.specs.Lists.{count, over}
use Rattle.theory.specs.Pages.{hits}
use Rattle.theory.specs.Register.{reg_from}
use Rattle.score.specs.Limits.{most_columns}
use Rattle.filter.specs.Limits.{word_bits}
use Rattle.walking.specs.Candidates.{candidate}

-- the table's word for entry k of the sets, from 0
abbrev pub entry_word : (table sets : List ℕ) → ℕ → ℕ
entry_word table sets k = get_or table (get_or sets k 0) 0

-- a register that began anew, all ones, at entry `start`, and has taken the entries from there up to entry k, without that one
pub record Runs (table sets : List ℕ) (start register k : ℕ) : Type 0 where
  pub begun : start ≤ k
  pub taken : register ≡ reg_from word_bits (entry_word table sets) start k

-- ---- a walk along candidates

-- the register began anew at some entry, that of column j or of one before, and has taken every entry before the one that decides column j
pub record Filters (table sets : List ℕ) (m register j : ℕ) : Type 0 where
  pub start : ℕ
  pub before : start < j
  pub runs : Runs table sets start register (j + m - 3)

-- what deciding the columns from column j up to column `end`, without that one, asks for: there is one, and the sets have an entry for each.
-- That the sets are accepted and the table is as long as it must be, `Entries` says of itself
pub record Lent (sets : List ℕ) (m j end : ℕ) : Type 0 where
  pub notes : 2 ≤ m
  pub notes_most : m ≤ word_bits
  pub from_first : 1 ≤ j
  pub some : j < end
  pub to_last : end + m ≤ length sets + 3
  pub sets_few : length sets < most_columns

-- the columns from column j up to column j', without that one, are decided: these are the candidates among them
pub record Decides (table sets : List ℕ) (m j end : ℕ) (register' j' : ℕ) (candidates : List ℕ) : Type 0 where
  pub on : j ≤ j'
  pub to_end : j' ≤ end
  pub these : candidates ≡ hits (candidate word_bits table sets m) (count j (j' - j))
  pub goes_on : Filters table sets m register' j'

-- one at least is decided; the last may be a candidate, and the others are none
pub record Seeks (table sets : List ℕ) (m j end : ℕ) (register' j' : ℕ) (marked : Bool) : Type 0 where
  pub decides : Decides table sets m j end register' j' (cond marked ((j' - 1) ∷ []) [])
  pub more : j < j'

-- one at least is decided; the candidates are listed in front
pub record ListsCandidates (table sets : List ℕ) (m j end : ℕ) (list : List ℕ) (register' j' count' : ℕ) (list' : List ℕ) : Type 0 where
  pub candidates : List ℕ
  pub decides : Decides table sets m j end register' j' candidates
  pub more : j < j'
  pub counted : count' ≡ length candidates
  pub few : count' ≤ length list
  pub listed : list' ≡ over list candidates
