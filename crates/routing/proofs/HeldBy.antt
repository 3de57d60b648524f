-- A route by the sets of its notes: each track is one of its note's set. Note by note it is the same (`held_each`, `each_held`).
-- Assumes nothing.
use mathlib.Core.Path.{◌≡◌, refl, ap}
use mathlib.Core.List.{List, [], ◌∷◌}
use Prim.Native.Nat.{ℕ, zero, suc, ◌<◌, suc-le-suc}
use native.Mathlib.Nat.{not-suc-le-zero, le_of_suc-le-suc}
use native.Mathlib.Omega.{arith}
use lib.ListN.{length, get_or}
use Rattle.theory.specs.Bits.{bit}

-- each track is one of its note's set
abbrev pub HeldBy : (sets route : List ℕ) → Type 0
HeldBy [] [] = Unit {0}
HeldBy [] (t ∷ route) = ⊥
HeldBy (s ∷ sets) [] = ⊥
HeldBy (s ∷ sets) (t ∷ route) = (bit s t ≡ 1) × HeldBy sets route

pub held_length : (sets route : List ℕ) → HeldBy sets route → length route ≡ length sets
held_length [] [] h = refl
held_length [] (t ∷ route) h = absurd h
held_length (s ∷ sets) [] h = absurd h
held_length (s ∷ sets) (t ∷ route) h = ap suc (held_length sets route h.1)

pub held_each : (sets route : List ℕ) → HeldBy sets route → (k : ℕ) → k < length sets → bit (get_or sets k 0) (get_or route k 0) ≡ 1
held_each [] [] h k l = absurd (not-suc-le-zero l)
held_each [] (t ∷ route) h k l = absurd h
held_each (s ∷ sets) [] h k l = absurd h
held_each (s ∷ sets) (t ∷ route) h zero l = h.0
held_each (s ∷ sets) (t ∷ route) h (suc k) l = held_each sets route h.1 k (le_of_suc-le-suc l)

pub each_held : (sets route : List ℕ) → length route ≡ length sets
    → ((k : ℕ) → k < length sets → bit (get_or sets k 0) (get_or route k 0) ≡ 1) → HeldBy sets route
each_held [] [] e f = tt
each_held [] (t ∷ route) e f = absurd (omega (arith, e))
each_held (s ∷ sets) [] e f = absurd (omega (arith, e))
each_held (s ∷ sets) (t ∷ route) e f =
    (f 0 (omega arith), each_held sets route (omega (arith, e)) (λ k l. f (suc k) (suc-le-suc l)))
