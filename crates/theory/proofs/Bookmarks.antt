-- Bookmarks: where the keys rise along a list, what is left after a page is what stands at or after its bookmark, one
-- more than the key of its last hit. Assumes nothing.
use mathlib.Core.Path.{◌≡◌, refl, sym, ◌∙◌}
use mathlib.Core.Bool.{Bool, true, false, cond}
use mathlib.Core.List.{List, [], ◌∷◌, ◌++◌}
use Prim.Native.Nat.{ℕ, zero, suc, ◌≤◌, ◌<◌}
use native.Mathlib.Nat.{le_refl, le_trans, not-suc-le-zero, le_of_suc-le-suc, suc-ne-zero}
use native.Mathlib.Omega.{arith}
use lib.Dec.{ltb}
use lib.ListN.{length}
use borrow.Author.Tests.{lt-ltb, le-ltb, ltb-true, ltb-false}
use Rattle.theory.specs.Lists.{last}
use Rattle.theory.specs.Pages.{hits, page_hits, rest, full, Rising, from}
use Rattle.theory.proofs.Pages.{length_page}

-- ---- what stands at or after a key

module _ {A : Type 0} (key : A → ℕ) where
  -- lowering the floor, and what stands after a floor
  pub rising_down : (a b : ℕ) (xs : List A) → a ≤ b → Rising key b xs → Rising key a xs
  rising_down a b [] h r = tt
  rising_down a b (x ∷ xs) h r = (le_trans h r.0, r.1)

  pub from_rising : (a b : ℕ) (xs : List A) → Rising key a xs → Rising key b (from key b xs)
  from_rising a b [] r = tt
  from_rising a b (x ∷ xs) r = step (ltb (key x) b) refl (from_rising (suc (key x)) b xs r.1)
    where
      step : (t : Bool) → ltb (key x) b ≡ t → Rising key b (from key b xs) → Rising key b (cond t (from key b xs) (x ∷ xs))
      step true e ih = ih
      step false e ih = (ltb-false (key x) b e, r.1)

  -- what stands after the later of two keys
  pub from_from : (b c : ℕ) (xs : List A) → b ≤ c → from key c (from key b xs) ≡ from key c xs
  from_from b c [] h = refl
  from_from b c (x ∷ xs) h = step (ltb (key x) b) refl (from_from b c xs h)
    where
      step : (t : Bool) → ltb (key x) b ≡ t → from key c (from key b xs) ≡ from key c xs → from key c (cond t (from key b xs) (x ∷ xs)) ≡ from key c (x ∷ xs)
      step true e ih = rw (lt-ltb (key x) c (le_trans (ltb-true (key x) b e) h)) ih
      step false e ih = refl

  -- where every key is b or more, all stands after b
  pub from_all : (b : ℕ) (xs : List A) → Rising key b xs → from key b xs ≡ xs
  from_all b [] h = refl
  from_all b (x ∷ xs) h = rw (le-ltb (key x) b h.0)

  -- a list all of whose keys are below b, before another
  pub data Below (b : ℕ) : List A → Type 0 where
    none : Below b []
    one : {x : A} {xs : List A} → key x < b → Below b xs → Below b (x ∷ xs)

  pub below_up : {b : ℕ} (c : ℕ) {xs : List A} → b ≤ c → Below b xs → Below c xs
  below_up c h none = none
  below_up c h (one k t) = one (le_trans k h) (below_up c h t)

  pub from_past : {b : ℕ} {xs : List A} → Below b xs → (ys : List A) → from key b (xs ++ ys) ≡ from key b ys
  from_past none ys = refl
  from_past {b} (one {x = x} k t) ys = rw (lt-ltb (key x) b k) (from_past t ys)

  pub rising_append : (a b : ℕ) (xs ys : List A) → Rising key a xs → Below b xs → a ≤ b → Rising key b ys → Rising key a (xs ++ ys)
  rising_append a b [] ys r t h s = rising_down a b ys h s
  rising_append a b (x ∷ xs) ys r (one k t) h s = (r.0, rising_append (suc (key x)) b xs ys r.1 t k s)

-- ---- the bookmark after a page

module _ {A : Type 0} (hit : A → Bool) (key : A → ℕ) where
  -- the bookmark after a page with room r: one more than the key of the last start passed
  abbrev mark : ℕ → ℕ → List A → ℕ
  mark zero b xs = b
  mark (suc r) b [] = b
  mark (suc r) b (x ∷ xs) = cond (hit x) (mark r (suc (key x)) xs) (mark (suc r) (suc (key x)) xs)

  mark_above : (r b : ℕ) (xs : List A) → Rising key b xs → b ≤ mark r b xs
  mark_above zero b xs h = le_refl b
  mark_above (suc r) b [] h = le_refl b
  mark_above (suc r) b (x ∷ xs) h = step (hit x) (mark_above r (suc (key x)) xs h.1) (mark_above (suc r) (suc (key x)) xs h.1)
    where
      step : (t : Bool) → suc (key x) ≤ mark r (suc (key x)) xs → suc (key x) ≤ mark (suc r) (suc (key x)) xs
          → b ≤ cond t (mark r (suc (key x)) xs) (mark (suc r) (suc (key x)) xs)
      step true p q = omega arith
      step false p q = omega arith

  pub from_mark : (r b : ℕ) (xs : List A) → Rising key b xs → from key (mark r b xs) xs ≡ rest hit r xs
  from_mark zero b xs h = from_all key b xs h
  from_mark (suc r) b [] h = refl
  from_mark (suc r) b (x ∷ xs) h =
      step (hit x) (mark_above r (suc (key x)) xs h.1) (mark_above (suc r) (suc (key x)) xs h.1)
      (from_mark r (suc (key x)) xs h.1) (from_mark (suc r) (suc (key x)) xs h.1)
    where
      step : (t : Bool) → suc (key x) ≤ mark r (suc (key x)) xs → suc (key x) ≤ mark (suc r) (suc (key x)) xs
          → from key (mark r (suc (key x)) xs) xs ≡ rest hit r xs → from key (mark (suc r) (suc (key x)) xs) xs ≡ rest hit (suc r) xs
          → from key (cond t (mark r (suc (key x)) xs) (mark (suc r) (suc (key x)) xs)) (x ∷ xs) ≡ cond t (rest hit r xs) (rest hit (suc r) xs)
      step true l m p q = rw (lt-ltb (key x) (mark r (suc (key x)) xs) l) p
      step false l m p q = rw (lt-ltb (key x) (mark (suc r) (suc (key x)) xs) m) q

  -- of a page that is full the bookmark is just after its last hit
  mark_last' : (r b : ℕ) (d : A) (xs : List A) → (r ≡ 0 → b ≡ suc (key d)) → r ≤ length (hits hit xs) → mark r b xs ≡ suc (key (last d (page_hits hit r xs)))
  mark_last' zero b d xs e h = e refl
  mark_last' (suc r) b d [] e h = absurd (not-suc-le-zero h)
  mark_last' (suc r) b d (x ∷ xs) e h =
      step (hit x) h (mark_last' r (suc (key x)) x xs (λ z. refl)) (mark_last' (suc r) (suc (key x)) d xs (λ z. absurd (suc-ne-zero r z)))
    where
      step : (t : Bool) → suc r ≤ length (cond t (x ∷ hits hit xs) (hits hit xs))
          → (r ≤ length (hits hit xs) → mark r (suc (key x)) xs ≡ suc (key (last x (page_hits hit r xs))))
          → (suc r ≤ length (hits hit xs) → mark (suc r) (suc (key x)) xs ≡ suc (key (last d (page_hits hit (suc r) xs))))
          → cond t (mark r (suc (key x)) xs) (mark (suc r) (suc (key x)) xs) ≡ suc (key (last d (cond t (x ∷ page_hits hit r xs) (page_hits hit (suc r) xs))))
      step true k p q = p (le_of_suc-le-suc k)
      step false k p q = q k

  pub mark_last : (r b : ℕ) (d : A) (xs : List A) → 0 < r → full hit r xs ≡ true → mark r b xs ≡ suc (key (last d (page_hits hit r xs)))
  mark_last r b d xs pos f = mark_last' r b d xs (λ z. absurd (omega arith)) (length_page hit r xs f)

-- ---- the page after a full page: it goes on from the key after the last hit

module _ {A : Type 0} (hit : A → Bool) (key : A → ℕ) (a b r : ℕ) (d : A) (xs : List A) (up : Rising key a xs) (pos : 0 < r) (f : full hit r (from key b xs) ≡ true) where
  pub from_next : from key (suc (key (last d (page_hits hit r (from key b xs))))) xs ≡ rest hit r (from key b xs)
  from_next =
      let up' : Rising key b (from key b xs) = from_rising key a b xs up in
      let m : mark hit key r b (from key b xs) ≡ suc (key (last d (page_hits hit r (from key b xs)))) = mark_last hit key r b d (from key b xs) pos f in
      rw (← m) (sym (from_from key b (mark hit key r b (from key b xs)) xs (mark_above hit key r b (from key b xs) up')) ∙ from_mark hit key r b (from key b xs) up')
