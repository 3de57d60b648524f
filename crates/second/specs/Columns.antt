-- The columns of a score, counted from 1, as they lie in its cells. Assumes nothing.
use Rattle.std.specs.Prelude.{ℕ, ◌+◌, ◌-◌, ◌*◌, ◌/◌, Bool, cond, ◌&&◌, List, [], length, nat_lt, nat_le, slice_range}
use Rattle.std.specs.List.{list_any}

-- how many columns so many cells make in h tracks: none in no track
abbrev pub columns_in : (cells h : ℕ) → ℕ
columns_in cells h = cond (nat_lt 0 h) (cells / h) 0

-- a product of two numbers of 16 bits; of larger ones 0
abbrev pub small_product : ℕ → ℕ → ℕ
small_product x y = cond (nat_lt x 65536 && nat_lt y 65536) (x * y) 0

-- the h cells from one place on; none where they are not all there
abbrev pub cells_from : (cells : List ℕ) (h from : ℕ) → List ℕ
cells_from cells h from = cond (nat_le (from + h) (length cells)) (slice_range cells from (from + h)) []

-- the cells of column j
abbrev pub column_in : (cells : List ℕ) (h j : ℕ) → List ℕ
column_in cells h j = cells_from cells h (small_product (j - 1) h)

-- column j holds a pitch
abbrev pub heard_in : (cells : List ℕ) (h j : ℕ) → Bool
heard_in cells h j = list_any (λ cell. nat_lt cell 128) (column_in cells h j)
