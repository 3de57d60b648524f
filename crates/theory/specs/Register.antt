-- The register of w bits, over any width and any words. Assumes nothing.
use Rattle.std.specs.Prelude.{ℕ, zero, suc, ◌+◌, ◌-◌, ◌%◌, ◌^◌}
use Rattle.std.specs.Int.Bits.{bit_or}

-- one word more: doubled with its top bit lost, then or-ed with the word
unfoldable pub step : (w register word : ℕ) → ℕ
step w register word = bit_or ((register + register) % 2 ^ w) word

-- the register after the first n words, from all ones
unfoldable pub register : (w : ℕ) (word : ℕ → ℕ) → ℕ → ℕ
register w word zero = 2 ^ w - 1
register w word (suc n) = step w (register w word n) (word n)

-- a register that began anew, all ones, before word `from`, and has taken the words up to word k, without that one
unfoldable pub reg_from : (w : ℕ) (word : ℕ → ℕ) (from k : ℕ) → ℕ
reg_from w word from k = register w (λ n. word (from + n)) (k - from)
