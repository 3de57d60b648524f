-- Two tests of a list, made in either order or that agree; the first entry that passes; a test, the first entries and the last,
-- along a map; and a bookmark, as a test of the keys, where they rise. Assumes nothing.
use mathlib.Core.Path.{◌≡◌, refl, sym, ap}
use mathlib.Core.Bool.{Bool, true, false, cond}
use mathlib.Core.List.Memᴰ.{head as here}
use mathlib.Core.List.Memᴰ.{tail as later}
use mathlib.Core.List.{List, [], ◌∷◌, ◌++◌, map, Memᴰ as In}
use Prim.Native.Nat.{ℕ, zero, suc, ◌≤◌}
use native.Mathlib.Omega.{arith}
use lib.Dec.{leb, ltb}
use lib.ListN.{get_or, take}
use borrow.Author.Tests.{ltb-true, ltb-false, le-leb, lt-leb}
use Rattle.theory.specs.Lists.{first, last}
use Rattle.theory.specs.Pages.{hits, Rising, from}
use Rattle.theory.proofs.Bookmarks.{rising_down, from_all}
use Rattle.theory.proofs.Members.{rising_hits}

pub hits_hits : {A : Type 0} (a b : A → Bool) (xs : List A) → hits a (hits b xs) ≡ hits b (hits a xs)
hits_hits a b [] = refl
hits_hits {A} a b (x ∷ xs) = step (a x) (b x) refl refl (hits_hits a b xs)
  where
    step : (s t : Bool) → a x ≡ s → b x ≡ t → hits a (hits b xs) ≡ hits b (hits a xs)
        → hits a (cond t (x ∷ hits b xs) (hits b xs)) ≡ hits b (cond s (x ∷ hits a xs) (hits a xs))
    step true true e f ih = rw (e, f) (ap (λ (l : List A). x ∷ l) ih)
    step true false e f ih = rw f ih
    step false true e f ih = rw e ih
    step false false e f ih = ih

-- a test that every entry passes
pub hits_all : {A : Type 0} (a : A → Bool) (xs : List A) → ((x : A) → In x xs → a x ≡ true) → hits a xs ≡ xs
hits_all a [] f = refl
hits_all {A} a (x ∷ xs) f = rw (f x (here refl)) (ap (λ (l : List A). x ∷ l) (hits_all a xs (λ y m. f y (later m))))

pub hits_map : {A B : Type 0} (f : A → B) (test : B → Bool) (xs : List A) → hits test (map f xs) ≡ map f (hits (λ x. test (f x)) xs)
hits_map f test [] = refl
hits_map {B = B} f test (x ∷ xs) = step (test (f x)) (hits_map f test xs)
  where
    step : (b : Bool) → hits test (map f xs) ≡ map f (hits (λ x. test (f x)) xs)
        → cond b (f x ∷ hits test (map f xs)) (hits test (map f xs)) ≡ map f (cond b (x ∷ hits (λ x. test (f x)) xs) (hits (λ x. test (f x)) xs))
    step true ih = ap (λ (l : List B). f x ∷ l) ih
    step false ih = ih

module _ {A : Type 0} (key : A → ℕ) (keep : A → Bool) (b : ℕ) where
  pub from_hits : (a : ℕ) (xs : List A) → Rising key a xs → from key b (hits keep xs) ≡ hits keep (from key b xs)
  from_hits a [] up = refl
  from_hits a (x ∷ xs) up = step (keep x) (ltb (key x) b) refl refl (from_hits (suc (key x)) xs up.1)
    where
      step : (s t : Bool) → keep x ≡ s → ltb (key x) b ≡ t → from key b (hits keep xs) ≡ hits keep (from key b xs)
          → from key b (cond s (x ∷ hits keep xs) (hits keep xs)) ≡ hits keep (cond t (from key b xs) (x ∷ xs))
      step true true e f ih = rw f ih
      step true false e f ih = rw (e, f)
      step false true e f ih = ih
      step false false e f ih =
          let h : b ≤ suc (key x) = omega (arith, ltb-false (key x) b f) in
          rw e (from_all key b (hits keep xs) (rising_down key b (suc (key x)) (hits keep xs) h (rising_hits keep key (suc (key x)) xs up.1)))

-- where the keys rise, what stands after a bookmark is what passes the test of the keys
pub from_keys : {A : Type 0} (key : A → ℕ) (b a : ℕ) (xs : List A) → Rising key a xs → from key b xs ≡ hits (λ x. leb b (key x)) xs
from_keys key b a [] up = refl
from_keys {A} key b a (x ∷ xs) up = step (ltb (key x) b) refl (from_keys key b (suc (key x)) xs up.1)
  where
    step : (t : Bool) → ltb (key x) b ≡ t → from key b xs ≡ hits (λ x. leb b (key x)) xs
        → cond t (from key b xs) (x ∷ xs) ≡ cond (leb b (key x)) (x ∷ hits (λ x. leb b (key x)) xs) (hits (λ x. leb b (key x)) xs)
    step true e ih = rw (lt-leb b (key x) (ltb-true (key x) b e)) ih
    step false e ih =
        let h : b ≤ key x = ltb-false (key x) b e in
        rw (le-leb b (key x) h, ← ih) (ap (λ (l : List A). x ∷ l) (sym (from_all key b xs (rising_down key b (suc (key x)) xs (omega arith) up.1))))

-- two tests that agree on the entries
pub hits_same : {A : Type 0} (a b : A → Bool) (xs : List A) → ((x : A) → In x xs → a x ≡ b x) → hits a xs ≡ hits b xs
hits_same a b [] f = refl
hits_same {A} a b (x ∷ xs) f =
    rw (f x (here refl)) (ap (λ (l : List A). cond (b x) (x ∷ l) l) (hits_same a b xs (λ y m. f y (later m))))

-- the first of the entries that pass is the first that does
pub hits_first : {A : Type 0} (test : A → Bool) (xs : List A) (d : A) → get_or (hits test xs) 0 d ≡ get_or xs (first test xs) d
hits_first test [] d = refl
hits_first test (x ∷ xs) d = step (test x) (hits_first test xs d)
  where
    step : (t : Bool) → get_or (hits test xs) 0 d ≡ get_or xs (first test xs) d
        → get_or (cond t (x ∷ hits test xs) (hits test xs)) 0 d ≡ get_or (x ∷ xs) (cond t 0 (suc (first test xs))) d
    step true ih = refl
    step false ih = ih

-- the last of a list with one entry more
pub last_more : {A : Type 0} (d : A) (xs : List A) (x : A) → last d (xs ++ (x ∷ [])) ≡ x
last_more d [] x = refl
last_more d (y ∷ xs) x = last_more y xs x

-- ---- along a map: the first entries, and the last

pub take_map : {A B : Type 0} (f : A → B) (n : ℕ) (xs : List A) → take n (map f xs) ≡ map f (take n xs)
take_map f zero xs = refl
take_map f (suc n) [] = refl
take_map {B = B} f (suc n) (x ∷ xs) = ap (λ (l : List B). f x ∷ l) (take_map f n xs)

pub last_map : {A B : Type 0} (f : A → B) (d : A) (xs : List A) → last (f d) (map f xs) ≡ f (last d xs)
last_map f d [] = refl
last_map f d (x ∷ xs) = last_map f x xs

-- a test in two parts: what passes the first is tried by the second
pub hits_part : {A : Type 0} (a b : A → Bool) (xs : List A) → hits (λ x. cond (a x) (b x) false) xs ≡ hits b (hits a xs)
hits_part a b [] = refl
hits_part {A} a b (x ∷ xs) = step (a x) refl (b x) refl (hits_part a b xs)
  where
    step : (s : Bool) → a x ≡ s → (t : Bool) → b x ≡ t → hits (λ x. cond (a x) (b x) false) xs ≡ hits b (hits a xs)
        → cond (cond s (b x) false) (x ∷ hits (λ x. cond (a x) (b x) false) xs) (hits (λ x. cond (a x) (b x) false) xs) ≡ hits b (cond s (x ∷ hits a xs) (hits a xs))
    step true e true f ih = rw f (ap (λ (l : List A). x ∷ l) ih)
    step true e false f ih = rw f ih
    step false e t f ih = ih
