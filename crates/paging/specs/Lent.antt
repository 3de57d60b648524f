-- The lent buffers of pairs as one thing, `Lent`: what is written from the front and kept behind (`written`), and the pairs that are read
-- back (`read_pairs`). A page call writes them in no other way. Assumes nothing.
use Rattle.std.specs.Prelude.{◌≡◌, List, [], ◌∷◌, map, ℕ, zero, suc, ℤ, length, drop}
use Rattle.theory.specs.Lists.{over}
use Rattle.score.specs.Score.{column_at}
use Rattle.ways.specs.declared.bookmark.Pair.{Pair}

pub record Lent : Type 0 where
  pub columns : List ℕ
  pub shifts : List ℤ

abbrev pub lent : (columns : List ℕ) (shifts : List ℤ) → Lent
lent columns shifts = record { columns = columns; shifts = shifts }

-- both buffers have r places
pub record Room (r : ℕ) (buffers : Lent) : Type 0 where
  pub of_columns : length buffers.columns ≡ r
  pub of_shifts : length buffers.shifts ≡ r

-- the pairs written from the front; places behind them keep their contents
abbrev pub written : Lent → List Pair → Lent
written buffers pairs =
    record { columns = over buffers.columns (map (λ p. p.column.0) pairs); shifts = over buffers.shifts (map (λ p. p.shift) pairs) }

-- what lies behind the first k places
abbrev pub behind : ℕ → Lent → Lent
behind k buffers = record { columns = drop k buffers.columns; shifts = drop k buffers.shifts }

-- the first k pairs of the buffers
abbrev read_both : ℕ → (columns : List ℕ) (shifts : List ℤ) → List Pair
read_both zero columns shifts = []
read_both (suc k) [] shifts = []
read_both (suc k) (j ∷ columns) [] = []
read_both (suc k) (j ∷ columns) (c ∷ shifts) = record { column = column_at j; shift = c } ∷ read_both k columns shifts

abbrev pub read_pairs : ℕ → Lent → List Pair
read_pairs k buffers = read_both k buffers.columns buffers.shifts
