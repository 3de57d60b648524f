-- Members of a count, of the hits of a list, of a page and of what stands after a bookmark; and keys that rise along hits,
-- along a map and along a count, or are all below a bound. An entry that passes, as a member, is in `Lists`; members of a map and of two lists joined are
-- mathlib's (`Memᴰ·map`, `Memᴰ·of-map`, `List·Memᴰ·append-cases`). Assumes nothing.
use mathlib.Core.Path.{◌≡◌, refl, sym, ap, ◌∙◌}
use mathlib.Core.Bool.{Bool, true, false, cond, false≢true}
use mathlib.Core.Logic.{◌⊎◌, inl, inr, ⊎_elim}
use mathlib.Core.List.Memᴰ
use mathlib.Core.List.Memᴰ.{head as here}
use mathlib.Core.List.Memᴰ.{tail as later}
use mathlib.Core.List.{List, [], ◌∷◌, map, Memᴰ as In}
use Prim.Native.Nat.{ℕ, zero, suc, ◌+◌, ◌≤◌, ◌<◌}
use native.Mathlib.Nat.{le_refl, le_trans, le-suc, eq-or-lt_of_le, not-suc-le-zero}
use native.Mathlib.Omega.{arith}
use lib.ListN.{length}
use Rattle.theory.specs.Lists.{count, last}
use Rattle.theory.specs.Pages.{hits, page_hits, Rising}
use Rattle.theory.proofs.Bookmarks.{rising_down, Below, none, one}

-- ---- count

pub in_count : (a n : ℕ) {x : ℕ} → In x (count a n) → (a ≤ x) × (x < a + n)
in_count a zero m = absurd (Memᴰ.not-nil m)
in_count a (suc n) {x} m =
    ⊎_elim (λ (e : x ≡ a). (omega arith, omega arith))
    (λ (t : In x (count (suc a) n)). let k : (suc a ≤ x) × (x < suc a + n) = in_count (suc a) n t in (omega arith, omega arith)) (Memᴰ.cases_cons m)

pub count_in : (a n x : ℕ) → a ≤ x → x < a + n → In x (count a n)
count_in a zero x l h = absurd (omega arith)
count_in a (suc n) x l h =
    ⊎_elim (λ (e : a ≡ x). here (sym e)) (λ (k : a < x). later (count_in (suc a) n x k (omega arith))) (eq-or-lt_of_le l)

pub rising_count : (a n : ℕ) → Rising (λ (x : ℕ). x) a (count a n)
rising_count a zero = tt
rising_count a (suc n) = (le_refl a, rising_count (suc a) n)

-- ---- hits

module _ {A : Type 0} (hit : A → Bool) where
  pub in_hits : (xs : List A) {x : A} → In x (hits hit xs) → In x xs × (hit x ≡ true)
  in_hits [] m = absurd (Memᴰ.not-nil m)
  in_hits (y ∷ ys) {x} m = step (hit y) refl m (in_hits ys)
    where
      step : (b : Bool) → hit y ≡ b → In x (cond b (y ∷ hits hit ys) (hits hit ys)) → (In x (hits hit ys) → In x ys × (hit x ≡ true)) → In x (y ∷ ys) × (hit x ≡ true)
      step true e k ih =
          ⊎_elim (λ (p : x ≡ y). (here p, ap hit p ∙ e)) (λ (t : In x (hits hit ys)). (later (ih t).0, (ih t).1)) (Memᴰ.cases_cons k)
      step false e k ih = (later (ih k).0, (ih k).1)

  pub hits_in : (xs : List A) {x : A} → In x xs → hit x ≡ true → In x (hits hit xs)
  hits_in [] m h = absurd (Memᴰ.not-nil m)
  hits_in (y ∷ ys) {x} m h = step (hit y) refl (Memᴰ.cases_cons m) (λ t. hits_in ys t h)
    where
      step : (b : Bool) → hit y ≡ b → (x ≡ y) ⊎ In x ys → (In x ys → In x (hits hit ys)) → In x (cond b (y ∷ hits hit ys) (hits hit ys))
      step true e (inl p) ih = here p
      step true e (inr t) ih = later (ih t)
      step false e (inl p) ih = absurd (false≢true (sym e ∙ ap hit (sym p) ∙ h))
      step false e (inr t) ih = ih t

  pub rising_hits : (key : A → ℕ) (b : ℕ) (xs : List A) → Rising key b xs → Rising key b (hits hit xs)
  rising_hits key b [] r = tt
  rising_hits key b (x ∷ xs) r = step (hit x) (rising_hits key (suc (key x)) xs r.1)
    where
      step : (t : Bool) → Rising key (suc (key x)) (hits hit xs) → Rising key b (cond t (x ∷ hits hit xs) (hits hit xs))
      step true ih = (r.0, ih)
      step false ih = rising_down key b (suc (key x)) (hits hit xs) (le_trans r.0 (le-suc (key x))) ih

-- ---- keys of a map, keys all raised, and keys all below a bound

pub rising_map : {A B : Type 0} (f : A → B) (key : B → ℕ) (b : ℕ) (xs : List A) → Rising (λ x. key (f x)) b xs → Rising key b (map f xs)
rising_map f key b [] r = tt
rising_map f key b (x ∷ xs) r = (r.0, rising_map f key (suc (key (f x))) xs r.1)

pub rising_add : (k b : ℕ) (xs : List ℕ) → Rising (λ (x : ℕ). x) b xs → Rising (λ x. k + x) (k + b) xs
rising_add k b [] r = tt
rising_add k b (x ∷ xs) r =
    let h : b ≤ x = r.0 in
    (omega arith, rising_down (λ (y : ℕ). k + y) (suc (k + x)) (k + suc x) xs (omega arith) (rising_add k (suc x) xs r.1))

pub below_in : {A : Type 0} (key : A → ℕ) (b : ℕ) (xs : List A) → ((x : A) → In x xs → key x < b) → Below key b xs
below_in key b [] f = none
below_in key b (x ∷ xs) f = one (f x (here refl)) (below_in key b xs (λ y m. f y (later m)))

-- ---- a page, and the last of a list

module _ {A : Type 0} (hit : A → Bool) where
  pub in_page : (r : ℕ) (xs : List A) {x : A} → In x (page_hits hit r xs) → In x xs
  in_page zero xs m = absurd (Memᴰ.not-nil m)
  in_page (suc r) [] m = m
  in_page (suc r) (y ∷ ys) {x} m = step (hit y) m (in_page r ys) (in_page (suc r) ys)
    where
      step : (t : Bool) → In x (cond t (y ∷ page_hits hit r ys) (page_hits hit (suc r) ys)) → (In x (page_hits hit r ys) → In x ys)
          → (In x (page_hits hit (suc r) ys) → In x ys) → In x (y ∷ ys)
      step true k p q = ⊎_elim (λ (e : x ≡ y). here e) (λ (t : In x (page_hits hit r ys)). later (p t)) (Memᴰ.cases_cons k)
      step false k p q = later (q k)

last_cons : {A : Type 0} (x : A) (xs : List A) → In (last x xs) (x ∷ xs)
last_cons x [] = here refl
last_cons x (y ∷ ys) = later (last_cons y ys)

pub last_in : {A : Type 0} (d : A) (xs : List A) → 0 < length xs → In (last d xs) xs
last_in d [] h = absurd (not-suc-le-zero h)
last_in d (x ∷ xs) h = last_cons x xs
