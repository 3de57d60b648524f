-- The numbers that the bits of a word mark, in rising order. Assumes nothing.
use Rattle.std.specs.Prelude.{cond, List, [], ◌∷◌, ℕ, zero, suc, ◌/◌, ◌%◌, eqb}

-- of the w lowest bits, of which the lowest marks z
unfoldable pub marks : (w z x : ℕ) → List ℕ
marks zero z x = []
marks (suc w) z x = cond (eqb (x % 2) 1) (z ∷ marks w (suc z) (x / 2)) (marks w (suc z) (x / 2))
