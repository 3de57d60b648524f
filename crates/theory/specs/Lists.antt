-- Words about lists: what is written over the front of a buffer, the first faulty entry, sums and joins. Assumes nothing.
use Rattle.std.specs.Prelude.{Bool, true, false, cond, List, [], ◌∷◌, ◌++◌, ℕ, zero, suc, ◌+◌, leb, ltb, length, drop}

-- the buffer with vs written from its front; places behind them keep their contents
abbrev pub over : {A : Type 0} → List A → List A → List A
over buffer vs = vs ++ drop (length vs) buffer

-- the numbers from a on, n of them
abbrev pub count : ℕ → ℕ → List ℕ
count a zero = []
count a (suc n) = a ∷ count (suc a) n

-- some entry passes the test
abbrev pub some : {A : Type 0} → (A → Bool) → List A → Bool
some test [] = false
some test (x ∷ xs) = cond (test x) true (some test xs)

-- the place of the first entry that passes the test, from 0; the list's length where none does
abbrev pub first : {A : Type 0} → (A → Bool) → List A → ℕ
first test [] = 0
first test (x ∷ xs) = cond (test x) 0 (suc (first test xs))

-- the lower of b and d, of which d counts only where it is x or more
abbrev pub lower : (x d b : ℕ) → ℕ
lower x d b = cond (leb x d) (cond (ltb d b) d b) b

-- the least of b and the numbers of the list that are x or more
abbrev pub lowest : (x b : ℕ) → List ℕ → ℕ
lowest x b [] = b
lowest x b (d ∷ ds) = lowest x (lower x d b) ds

-- the last of a list, d of none
abbrev pub last : {A : Type 0} → A → List A → A
last d [] = d
last d (x ∷ xs) = last x xs

abbrev pub sum : List ℕ → ℕ
sum [] = 0
sum (n ∷ ns) = n + sum ns

abbrev pub join : {A : Type 0} → List (List A) → List A
join [] = []
join (l ∷ ls) = l ++ join ls
