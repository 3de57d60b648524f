-- Pages over any list of starts. `hit` says which starts are hits, and `looks` what trying a start costs.
-- A page with room r walks the list, keeps the hits until it has r of them or the list ends, and adds up the looks
-- of every start that it walked. A bookmark is a key, and keys rise along the list. Assumes nothing.
use Rattle.std.specs.Prelude.{Bool, cond, List, [], ◌∷◌, ℕ, zero, suc, ◌+◌, ◌≤◌, leb, ltb, length}

module _ {A : Type 0} (hit : A → Bool) where
  -- the hits of a list, in order
  abbrev pub hits : List A → List A
  hits [] = []
  hits (x ∷ xs) = cond (hit x) (x ∷ hits xs) (hits xs)

  -- the hits of a page with room r
  abbrev pub page_hits : ℕ → List A → List A
  page_hits zero xs = []
  page_hits (suc r) [] = []
  page_hits (suc r) (x ∷ xs) = cond (hit x) (x ∷ page_hits r xs) (page_hits (suc r) xs)

  -- the starts that are left after it
  abbrev pub rest : ℕ → List A → List A
  rest zero xs = xs
  rest (suc r) [] = []
  rest (suc r) (x ∷ xs) = cond (hit x) (rest r xs) (rest (suc r) xs)

  -- the page has all the hits that it has room for: it is not finished
  abbrev pub full : ℕ → List A → Bool
  full r xs = leb r (length (page_hits r xs))

  -- the looks of a page with room r: those of each start walked, with the one that fills the page
  abbrev pub page_looks : (A → ℕ) → ℕ → List A → ℕ
  page_looks looks zero xs = 0
  page_looks looks (suc r) [] = 0
  page_looks looks (suc r) (x ∷ xs) = looks x + cond (hit x) (page_looks looks r xs) (page_looks looks (suc r) xs)

module _ {A : Type 0} (key : A → ℕ) where
  -- the keys are b or more, and each is above the one before
  abbrev pub Rising : ℕ → List A → Type 0
  Rising b [] = Unit {0}
  Rising b (x ∷ xs) = (b ≤ key x) × Rising (suc (key x)) xs

  -- what stands at or after the key b, along a list whose keys rise
  abbrev pub from : ℕ → List A → List A
  from b [] = []
  from b (x ∷ xs) = cond (ltb (key x) b) (from b xs) (x ∷ xs)
