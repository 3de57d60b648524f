-- The digits of a number to a base, the lowest first, and a list that is written from its front. Assumes nothing.
use mathlib.Core.Path.{◌≡◌, ◌∙◌, ap, sym}
use mathlib.Core.Logic.{⊎_elim}
use Prim.Native.Nat.{ℕ, ◌+◌, ◌/◌, ◌^◌, ◌<◌}
use native.Mathlib.Numerals.{add-one, unary_clauses}
use native.Mathlib.Omega.{arith}
use mathlib.Core.List.{List}
use lib.ListN.{length}
use Rattle.std.proofs.Common.{slice_index, slice_set}
use Rattle.std.proofs.lemmas.List.{get_or-set_other}
use Rattle.std.proofs.lemmas.Grind.{get_or-set_at}
use Rattle.std.proofs.Math.Nat.{div-div-eq-div-mul, eq-or-lt_of_le}

-- what is left of x after i digits, divided once more, is what is left after the next
pub next_rest : (x b i rest : ℕ) → rest ≡ x / b ^ i → rest / b ≡ x / b ^ (i + 1)
next_rest x b i rest e = rw (e, add-one) (simp unary_clauses (div-div-eq-div-mul x (b ^ i) b))

-- the first i items are what is due at their places, and so is the one that is written behind them
pub spelt_more : (l : List ℕ) (due : ℕ → ℕ) (i y : ℕ) → i < length l → y ≡ due i → ((j : ℕ) → j < i → slice_index l j ≡ due j) → (j : ℕ) → j < i + 1 → slice_index (slice_set l i y) j ≡ due j
spelt_more l due i y h e before j below =
    ⊎_elim
    (λ (s : j ≡ i). get_or-set_at l i j y 0 s h ∙ e ∙ ap due (sym s))
    (λ low. get_or-set_other l i j y 0 (λ (s : j ≡ i). omega (arith, s, low)) ∙ before j low)
    (eq-or-lt_of_le (omega arith))
