-- What the inner functions of the table's filling promise: the word of each interval alone, and the lowest interval of a set. No
-- public call promises these by themselves. Assumes nothing.
use Rattle.std.specs.Prelude.{◌≡◌, ℕ, ◌-◌, ◌^◌, ◌<◌, List, map}
use Rattle.theory.specs.Bits.{bit}
use Rattle.theory.specs.Lists.{count}
use Rattle.score.specs.Limits.{highest_set}
use Rattle.filter.specs.Table.{word}

-- the set of interval d alone: of its twelve bits only bit d is 0
abbrev pub alone : ℕ → ℕ
alone d = highest_set - 2 ^ d

-- twelve words, entry d for the set of interval d alone
unfoldable pub interval_words : (w : ℕ) (theme : List ℕ) → List ℕ
interval_words w theme = map (λ d. word w theme (alone d)) (count 0 12)

-- d is the lowest interval of the set: its bit is 0, and those below it are 1
pub record LowestInterval (set d : ℕ) : Type 0 where
  pub present : bit set d ≡ 0
  pub below : (q : ℕ) → q < d → bit set q ≡ 1
