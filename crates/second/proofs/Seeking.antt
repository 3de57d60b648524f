-- What is passed by where the first number of a kind is sought in a range, and where a walk of some steps stands.
-- Assumes nothing.
use Rattle.std.proofs.Common.{◌≡◌, ℕ, ◌+◌, ◌<◌, ◌≤◌, List, [], ◌∷◌, ◌++◌, length, length-append, arith}
use Rattle.std.specs.Prelude.{Option, None, Some, MatchOption}
use Rattle.std.specs.Option.{unwrap_or}

-- none before the number that is found is of the kind; none at all where none is found
pub passed_by : (r : Option ℕ) (a b e n : ℕ) (Yes No : ℕ → Type 0)
    → MatchOption r ((k : ℕ) → a ≤ k → k < b → No k) (λ i. (a ≤ i) × (i < b) × Yes i × ((k : ℕ) → a ≤ k → k < i → No k))
    → n ≡ unwrap_or r e → e ≡ b → (k : ℕ) → a ≤ k → k < n → No k
passed_by None a b e n Yes No first is end k low high = first k low (rw (← end, ← is) high)
passed_by (Some i) a b e n Yes No first is end k low high = first.3 k low (rw (← is) high)

-- after no step the walk stands where it began, and after some at most one behind the last of n columns, on one of the kind where
-- it stands on a column at all
abbrev pub Walked : (Yes : ℕ → Type 0) (n from : ℕ) → (steps : List ℕ) → (here : ℕ) → Type 0
Walked Yes n from steps here =
    (length steps ≡ 0 → here ≡ from) × (0 < length steps → here ≤ n + 1) × (0 < length steps → 0 < here → here ≤ n → Yes here)

-- one step more, to such a place
pub one_more : (Yes : ℕ → Type 0) (n from : ℕ) (steps : List ℕ) (step here : ℕ) → here ≤ n + 1 → (0 < here → here ≤ n → Yes here)
    → Walked Yes n from (steps ++ (step ∷ [])) here
one_more Yes n from steps step here within kind =
    let longer : length (steps ++ (step ∷ [])) ≡ length steps + 1 = simp length-append in
    ((λ none. absurd (omega arith)), (λ some. within), (λ some. kind))
