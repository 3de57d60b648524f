-- A bit of a number, and the number that has given bits; the lowest is bit 0. Assumes nothing.
use Rattle.std.specs.Prelude.{ℕ, zero, suc, ◌+◌, ◌*◌, ◌/◌, ◌%◌, ◌^◌}

-- bit q of x, of weight 2 ^ q: 0 or 1
unfoldable pub bit : ℕ → ℕ → ℕ
bit x q = x / 2 ^ q % 2

-- the number of w bits whose bit q is f q
unfoldable pub number : ℕ → (ℕ → ℕ) → ℕ
number zero f = 0
number (suc w) f = f 0 + 2 * number w (λ q. f (suc q))
