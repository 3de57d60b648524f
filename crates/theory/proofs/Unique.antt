-- How a contract is seen to settle a call. What an equation with a definition settles: two answers that meet it are equal
-- (`settled_unique`). What a call leaves in its parameters is a list of them, so it is the same where each is (`_beside_`).
-- Assumes nothing.
use mathlib.Core.Path.{◌≡◌, sym, ◌∙◌, ap}

pub settled_unique : {A : Type 0} {x r s : A} → r ≡ x → s ≡ x → r ≡ s
settled_unique p q = p ∙ sym q

infixr 20 ◌beside◌
pub ◌beside◌ : {X Y : Type 0} {a b : X} {c d : Y} → a ≡ b → c ≡ d → ◌≡◌ {A = X × Y} (a, c) (b, d)
◌beside◌ {X} {Y} {b = b} {c = c} p q = ap (λ (x : X). (x, c)) p ∙ ap (λ (y : Y). (b, y)) q
