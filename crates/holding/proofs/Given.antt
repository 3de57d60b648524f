-- What the call gives for every note and code: the span for a note that is no pitch and for a code past it, and otherwise the next code.
-- Assumes nothing.
use mathlib.Core.Path.{◌≡◌, sym, ◌∙◌}
use mathlib.Core.Logic.{◌⊎◌, inl, inr}
use mathlib.Core.List.{List}
use Prim.Native.Nat.{ℕ, ◌≤◌, ◌<◌}
use native.Mathlib.Omega.{arith}
use borrow.Author.Tests.{lt-ltb, le-ltb}
use Rattle.score.specs.declared.quantities.Pitch.{Pitch}
use Rattle.ways.specs.declared.way.Way.{Way}
use Rattle.ways.specs.Way.{span}
use Rattle.holding.specs.Next.{next_code, next_given}

module _ (way : Way) (p : Pitch) (column : List ℕ) (x : ℕ) where
  pub next_given_lem : p.0 ≤ 127 → x ≤ span way → next_given way p column x ≡ next_code way p column x
  unfolding next_given
  next_given_lem h k = rw (le-ltb 127 p.0 h, le-ltb (span way) x k)

  module _ {end : ℕ} (e : end ≡ span way) where
    pub none_next : (127 < p.0) ⊎ ((p.0 ≤ 127) × (end < x)) → end ≡ next_given way p column x
    unfolding next_given
    none_next (inl h) = e ∙ sym (rw (lt-ltb 127 p.0 h))
    none_next (inr (h, k)) = e ∙ sym (rw (le-ltb 127 p.0 h, lt-ltb (span way) x (omega (arith, e, k))))

    pub found_next : p.0 ≤ 127 → x ≤ end → {r : ℕ} → r ≡ next_code way p column x → r ≡ next_given way p column x
    found_next h k f = f ∙ sym (next_given_lem h (omega (arith, e, k)))
