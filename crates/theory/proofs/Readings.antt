-- Page after page, each from what the one before left, up to the first that is not full: joined the pages are the hits
-- of the whole list, there are length / room + 1 of them, and their looks are those of all starts. Assumes nothing.
use mathlib.Core.Path.{◌≡◌, ap, ◌∙◌}
use mathlib.Core.Bool.{Bool, true, false}
use mathlib.Core.List.{List, [], ◌∷◌, map, append-nil}
use Prim.Native.Nat.{ℕ, ◌+◌, ◌/◌, ◌<◌}
use native.Mathlib.Nat.{div-eq_of_lt, div-eq-sub-div}
use native.Mathlib.Omega.{arith}
use lib.ListN.{length, length-drop, take-append-drop}
use Rattle.theory.specs.Lists.{sum, join}
use Rattle.theory.specs.Pages.{hits, page_hits, page_looks, rest, full}
use Rattle.theory.proofs.Pages.{page_take, rest_drop, rest_nil, length_page, length_last, page_last}
use Rattle.theory.proofs.Looks.{looks_split}

module _ {A : Type 0} (hit : A → Bool) (looks : A → ℕ) (r : ℕ) where
  -- the pages read from a list of starts, and the looks of each
  pub data Reading : List A → List (List A) → List ℕ → Type 0 where
    last : {xs : List A} → full hit r xs ≡ false → Reading xs (page_hits hit r xs ∷ []) (page_looks hit looks r xs ∷ [])
    more : {xs : List A} {pages : List (List A)} {spent : List ℕ} → full hit r xs ≡ true → Reading (rest hit r xs) pages spent
        → Reading xs (page_hits hit r xs ∷ pages) (page_looks hit looks r xs ∷ spent)

  pub reading_join : {xs : List A} {pages : List (List A)} {spent : List ℕ} → Reading xs pages spent → join pages ≡ hits hit xs
  reading_join (last {xs = xs} e) = append-nil (page_hits hit r xs) ∙ page_last hit r xs e
  reading_join (more {xs = xs} e t) = rw (reading_join t, page_take hit r xs, rest_drop hit r xs) (take-append-drop r (hits hit xs))

  pub reading_looks : {xs : List A} {pages : List (List A)} {spent : List ℕ} → Reading xs pages spent → sum spent ≡ sum (map looks xs)
  reading_looks (last {xs = xs} e) =
      omega (arith, looks_split hit looks r xs, ap (λ (l : List A). sum (map looks l)) (rest_nil hit r xs (length_last hit r xs e)))
  reading_looks (more {xs = xs} e t) = omega (arith, reading_looks t, looks_split hit looks r xs)

  module _ (pos : 0 < r) where
    pub reading_count : {xs : List A} {pages : List (List A)} {spent : List ℕ} → Reading xs pages spent → length pages ≡ length (hits hit xs) / r + 1
    reading_count (last {xs = xs} e) = omega (arith, div-eq_of_lt (length_last hit r xs e))
    reading_count (more {xs = xs} e t) =
        omega (
          arith,
          reading_count t,
          div-eq-sub-div {m = r} {n = length (hits hit xs)} pos (length_page hit r xs e),
          ap (λ (k : ℕ). k / r) (ap length (rest_drop hit r xs) ∙ length-drop r (hits hit xs)),
        )
