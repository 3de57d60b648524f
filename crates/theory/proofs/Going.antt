-- A page under way, for a loop that makes one: of the page with room R over the starts S it has the hits `out` and the
-- looks `spent`, and the room r and the starts T are left. Laws: a list in two parts; start, miss, took, part, full, end.
-- Assumes nothing.
use mathlib.Core.Path.{◌≡◌, refl, sym, ap, ◌∙◌}
use mathlib.Core.Bool.{Bool, true, false, cond}
use mathlib.Core.List.{List, [], ◌∷◌, ◌++◌, append-nil, append_assoc}
use Prim.Native.Nat.{ℕ, zero, suc, ◌+◌, ◌-◌, ◌≤◌}
use native.Mathlib.Nat.{add-zero, zero-add, add_assoc, sub-zero, le_refl}
use native.Mathlib.Omega.{arith}
use lib.ListN.{length}
use Rattle.theory.specs.Pages.{page_hits, page_looks}

-- ---- the page of a list in two parts

module _ {A : Type 0} (hit : A → Bool) where
  pub page_le : (r : ℕ) (xs : List A) → length (page_hits hit r xs) ≤ r
  page_le zero xs = le_refl 0
  page_le (suc r) [] = omega arith
  page_le (suc r) (x ∷ xs) = step (hit x) (page_le r xs) (page_le (suc r) xs)
    where
      step : (b : Bool) → length (page_hits hit r xs) ≤ r → length (page_hits hit (suc r) xs) ≤ suc r → length (cond b (x ∷ page_hits hit r xs) (page_hits hit (suc r) xs)) ≤ suc r
      step true p q = omega arith
      step false p q = q

  pub page_append : (r : ℕ) (xs ys : List A) → page_hits hit r (xs ++ ys) ≡ page_hits hit r xs ++ page_hits hit (r - length (page_hits hit r xs)) ys
  page_append zero xs ys = refl
  page_append (suc r) [] ys = rw sub-zero
  page_append (suc r) (x ∷ xs) ys = step (hit x) (page_append r xs ys) (page_append (suc r) xs ys)
    where
      step : (b : Bool) → page_hits hit r (xs ++ ys) ≡ page_hits hit r xs ++ page_hits hit (r - length (page_hits hit r xs)) ys
          → page_hits hit (suc r) (xs ++ ys) ≡ page_hits hit (suc r) xs ++ page_hits hit (suc r - length (page_hits hit (suc r) xs)) ys
          → cond b (x ∷ page_hits hit r (xs ++ ys)) (page_hits hit (suc r) (xs ++ ys))
          ≡ cond b (x ∷ page_hits hit r xs) (page_hits hit (suc r) xs) ++ page_hits hit (suc r - length (cond b (x ∷ page_hits hit r xs) (page_hits hit (suc r) xs))) ys
      step true p q =
          let e : suc r - suc (length (page_hits hit r xs)) ≡ r - length (page_hits hit r xs) = omega arith in
          rw (e, p)
      step false p q = q

  pub looks_append : (looks : A → ℕ) (r : ℕ) (xs ys : List A)
      → page_looks hit looks r (xs ++ ys) ≡ page_looks hit looks r xs + page_looks hit looks (r - length (page_hits hit r xs)) ys
  looks_append looks zero xs ys = refl
  looks_append looks (suc r) [] ys = rw sub-zero (sym (zero-add _))
  looks_append looks (suc r) (x ∷ xs) ys = step (hit x) (looks_append looks r xs ys) (looks_append looks (suc r) xs ys)
    where
      step : (b : Bool) → page_looks hit looks r (xs ++ ys) ≡ page_looks hit looks r xs + page_looks hit looks (r - length (page_hits hit r xs)) ys
          → page_looks hit looks (suc r) (xs ++ ys) ≡ page_looks hit looks (suc r) xs + page_looks hit looks (suc r - length (page_hits hit (suc r) xs)) ys
          → looks x + cond b (page_looks hit looks r (xs ++ ys)) (page_looks hit looks (suc r) (xs ++ ys))
          ≡ looks x + cond b (page_looks hit looks r xs) (page_looks hit looks (suc r) xs)
          + page_looks hit looks (suc r - length (cond b (x ∷ page_hits hit r xs) (page_hits hit (suc r) xs))) ys
      step true p q =
          let e : suc r - suc (length (page_hits hit r xs)) ≡ r - length (page_hits hit r xs) = omega arith in
          rw e (omega arith)
      step false p q = omega arith

-- ---- a page under way

module _ {A : Type 0} (hit : A → Bool) (looks : A → ℕ) (R : ℕ) (S : List A) where
  pub record Going (out : List A) (spent r : ℕ) (T : List A) : Type 0 where
    pub got : page_hits hit R S ≡ out ++ page_hits hit r T
    pub paid : page_looks hit looks R S ≡ spent + page_looks hit looks r T

  pub going_start : Going [] 0 R S
  going_start = record { got = refl; paid = sym (zero-add _) }

  -- a start that is no hit, one that is, and a whole part
  pub going_miss : {out : List A} {spent r : ℕ} {x : A} {T : List A} → Going out spent (suc r) (x ∷ T) → hit x ≡ false → Going out (spent + looks x) (suc r) T
  going_miss {out} {spent} {r} {x} {T} g e =
      record { got = rw e at g.got; paid = (rw e at g.paid) ∙ sym (add_assoc spent (looks x) (page_looks hit looks (suc r) T)) }

  pub going_took : {out : List A} {spent r : ℕ} {x : A} {T : List A} → Going out spent (suc r) (x ∷ T) → hit x ≡ true → Going (out ++ (x ∷ [])) (spent + looks x) r T
  going_took {out} {spent} {r} {x} {T} g e =
      record {
        got = (rw e at g.got) ∙ sym (append_assoc out (x ∷ []) (page_hits hit r T));
        paid = (rw e at g.paid) ∙ sym (add_assoc spent (looks x) (page_looks hit looks r T));
      }

  pub going_part : {out : List A} {spent r : ℕ} (C T : List A) → Going out spent r (C ++ T)
      → Going (out ++ page_hits hit r C) (spent + page_looks hit looks r C) (r - length (page_hits hit r C)) T
  going_part {out} {spent} {r} C T g =
      record {
        got = g.got ∙ ap (λ (l : List A). out ++ l) (page_append hit r C T) ∙ sym (append_assoc out (page_hits hit r C) (page_hits hit (r - length (page_hits hit r C)) T));
        paid = omega (arith, g.paid, looks_append hit looks r C T);
      }

  -- the page is made: no room is left, or no start
  pub record Made (out : List A) (spent : ℕ) : Type 0 where
    pub got : page_hits hit R S ≡ out
    pub paid : page_looks hit looks R S ≡ spent

  pub going_full : {out : List A} {spent : ℕ} {T : List A} → Going out spent 0 T → Made out spent
  going_full {out} {spent} g = record { got = g.got ∙ append-nil out; paid = g.paid ∙ add-zero spent }

  pub going_end : {out : List A} {spent r : ℕ} → Going out spent r [] → Made out spent
  going_end {out} {spent} {r} g = go r g
    where
      go : (k : ℕ) → Going out spent k [] → Made out spent
      go zero d = going_full d
      go (suc k) d = record { got = d.got ∙ append-nil out; paid = d.paid ∙ add-zero spent }
