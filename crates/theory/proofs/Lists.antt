-- Laws of `over`, `count`, `join`, `some` and `first`, by places and by membership; and of a loop that stores from the front.
-- Assumes nothing.
use mathlib.Core.Path.{◌≡◌, refl, sym, ap, ap₂, ◌∙◌, subst}
use mathlib.Core.Bool.{Bool, true, false, cond, true≢false}
use mathlib.Core.Logic.{⊎_elim}
use mathlib.Core.List.Memᴰ.{head as at_head}
use mathlib.Core.List.Memᴰ.{tail as in_Tail}
use mathlib.Core.List.{List, [], ◌∷◌, ◌++◌, map, append_assoc, append-nil, map-append, Memᴰ as In}
use Prim.Native.Nat.{ℕ, zero, suc, ◌+◌, ◌≤◌, ◌<◌, zero-le, suc-le-suc}
use native.Mathlib.Nat.{eq-or-lt_of_le, lt_irrefl, le_refl, not-suc-le-zero, le_of_suc-le-suc, add-zero}
use native.Mathlib.Numerals.{add-one}
use native.Mathlib.Decide.{dec_lt}
use native.Mathlib.Omega.{arith}
use lib.Dec.{ltb}
use lib.ListN.{length, drop, get_or, set, length-append, length-drop, length-map, get_or-eq_default}
use lib.Seq.{drop-cons, drop_at, set_at, get_or-set_same, get_or-set_other, sets}
use borrow.Author.Tests.{ltb-false}
use Rattle.theory.specs.Lists.{over, count, some, first, join}

-- ---- over

pub over_more : {A : Type 0} (d vs : List A) (z : A) (n : ℕ) (v : A) → length vs ≡ n → n < length d → set (over d vs) n v ≡ over d (vs ++ (v ∷ []))
over_more d vs z n v e h =
    let k : length vs < length d = omega arith in
    let m : length (vs ++ (v ∷ [])) ≡ suc (length vs) = length-append vs (v ∷ []) ∙ add-one (length vs) in
    rw (drop-cons d (length vs) z k, set_at vs _ (drop (suc (length vs)) d) v n e, m) (sym (append_assoc vs (v ∷ []) (drop (suc (length vs)) d)))

pub over_length : {A : Type 0} (d vs : List A) → length vs ≤ length d → length (over d vs) ≡ length d
over_length d vs h = omega (arith, length-append vs (drop (length vs) d), length-drop (length vs) d)

-- what stands behind what is written over the front
pub over_behind : {A B : Type 0} (d : List A) (f : B → A) (vs : List B) → drop (length vs) (over d (map f vs)) ≡ drop (length vs) d
over_behind d f vs = drop_at (map f vs) (drop (length (map f vs)) d) (length vs) (length-map vs f) ∙ ap (λ (n : ℕ). drop n d) (length-map vs f)

-- ---- stores from a place on

-- one store more
pub sets_more : {A : Type 0} (l : List A) (i : ℕ) (vs : List A) (v : A) (k : ℕ) → k ≡ i + length vs → set (sets l i vs) k v ≡ sets l i (vs ++ (v ∷ []))
sets_more l i [] v k e = let n : k ≡ i = omega arith in ap (λ (m : ℕ). set l m v) n
sets_more l i (w ∷ vs) v k e = sets_more (set l i w) (suc i) vs v k (omega arith)

-- stores behind what is written over the front
pub sets_append : {A : Type 0} (vs : List A) (l : List A) (i k : ℕ) (ws : List A) → k ≡ i + length vs → sets (sets l i vs) k ws ≡ sets l i (vs ++ ws)
sets_append [] l i k ws e = let n : k ≡ i = omega (arith, e) in rw n
sets_append (v ∷ vs) l i k ws e = sets_append vs (set l i v) (suc i) k ws (omega (arith, e))

pub map_twice : {A B C : Type 0} (f : A → B) (g : B → C) (xs : List A) → map g (map f xs) ≡ map (λ x. g (f x)) xs
map_twice f g [] = refl
map_twice {C = C} f g (x ∷ xs) = ap (λ (l : List C). g (f x) ∷ l) (map_twice f g xs)

-- the entry at a place of a list under a function
pub map_at : {A B : Type 0} (f : A → B) (xs : List A) (i : ℕ) (a : A) (b : B) → i < length xs → get_or (map f xs) i b ≡ f (get_or xs i a)
map_at f [] i a b h = absurd (not-suc-le-zero h)
map_at f (x ∷ xs) zero a b h = refl
map_at f (x ∷ xs) (suc i) a b h = map_at f xs i a b (le_of_suc-le-suc h)

pub over_sets : {A : Type 0} (d vs : List A) (z : A) (ws : List A) (n : ℕ) → length vs ≡ n → n + length ws ≤ length d → sets (over d vs) n ws ≡ over d (vs ++ ws)
over_sets d vs z [] n e h = ap (λ (l : List _). l ++ drop (length l) d) (sym (append-nil vs))
over_sets d vs z (w ∷ ws) n e h =
    let m : length (vs ++ (w ∷ [])) ≡ suc n = length-append vs (w ∷ []) ∙ omega arith in
    rw (over_more d vs z n w e (omega arith)) (over_sets d (vs ++ (w ∷ [])) z ws (suc n) m (omega arith) ∙ ap (λ (l : List _). over d l) (append_assoc vs (w ∷ []) ws))

-- ---- count

pub count_length : (a n : ℕ) → length (count a n) ≡ n
count_length a zero = refl
count_length a (suc n) = ap suc (count_length (suc a) n)

pub count_at : (a n i d : ℕ) → i < n → get_or (count a n) i d ≡ a + i
count_at a zero i d h = absurd (not-suc-le-zero h)
count_at a (suc n) zero d h = omega arith
count_at a (suc n) (suc i) d h = omega (arith, count_at (suc a) n i d (le_of_suc-le-suc h))

-- the table of a function: its entry i is the value at a + i
pub count_map_length : {A : Type 0} (f : ℕ → A) (a n : ℕ) → length (map f (count a n)) ≡ n
count_map_length f a n = length-map (count a n) f ∙ count_length a n

pub count_map_at : {A : Type 0} (f : ℕ → A) (a n i : ℕ) (d : A) → i < n → get_or (map f (count a n)) i d ≡ f (a + i)
count_map_at f a zero i d h = absurd (not-suc-le-zero h)
count_map_at f a (suc n) zero d h = rw add-zero
count_map_at f a (suc n) (suc i) d h = let e : suc a + i ≡ a + suc i = omega arith in rw (← e) (count_map_at f (suc a) n i d (le_of_suc-le-suc h))

-- two functions that agree on the numbers from a on, n of them
pub count_map_agree : {A : Type 0} (f g : ℕ → A) (a n : ℕ) → ((k : ℕ) → a ≤ k → k < a + n → f k ≡ g k) → map f (count a n) ≡ map g (count a n)
count_map_agree f g a zero h = refl
count_map_agree {A} f g a (suc n) h =
    ap₂ (λ (x : A) (xs : List A). x ∷ xs) (h a (omega arith) (omega arith))
    (count_map_agree f g (suc a) n (λ k p q. h k (omega arith) (omega arith)))

-- ---- join

pub join_map : {A B : Type 0} (f : A → B) (ls : List (List A)) → join (map (map f) ls) ≡ map f (join ls)
join_map f [] = refl
join_map f (l ∷ ls) = rw (join_map f ls) (sym (map-append f l (join ls)))

-- ---- some and first

module _ {A : Type 0} (test : A → Bool) where
  pub first_le : (xs : List A) → first test xs ≤ length xs
  first_le [] = le_refl 0
  first_le (x ∷ xs) = step (test x) (first_le xs)
    where
      step : (b : Bool) → first test xs ≤ length xs → cond b 0 (suc (first test xs)) ≤ suc (length xs)
      step true h = zero-le
      step false h = omega arith

  -- some entry passes exactly where the first that passes is within the list
  pub some_first : (xs : List A) → some test xs ≡ true → first test xs < length xs
  some_first [] e = absurd (true≢false (sym e))
  some_first (x ∷ xs) e = step (test x) e (some_first xs)
    where
      step : (b : Bool) → cond b true (some test xs) ≡ true → (some test xs ≡ true → first test xs < length xs) → cond b 0 (suc (first test xs)) < suc (length xs)
      step true k ih = omega arith
      step false k ih = omega (arith, ih k)

  -- none before it passes
  pub first_before : (xs : List A) (d : A) (i : ℕ) → i < first test xs → test (get_or xs i d) ≡ false
  first_before [] d i h = absurd (not-suc-le-zero h)
  first_before (x ∷ xs) d i h = step (test x) refl i h (first_before xs d)
    where
      step : (b : Bool) → test x ≡ b → (i : ℕ) → i < cond b 0 (suc (first test xs)) → ((k : ℕ) → k < first test xs → test (get_or xs k d) ≡ false) → test (get_or (x ∷ xs) i d) ≡ false
      step true e i k ih = absurd (not-suc-le-zero k)
      step false e zero k ih = e
      step false e (suc i) k ih = ih i (le_of_suc-le-suc k)

  -- it passes itself
  pub first_there : (xs : List A) (d : A) → first test xs < length xs → test (get_or xs (first test xs) d) ≡ true
  first_there [] d h = absurd (not-suc-le-zero h)
  first_there (x ∷ xs) d h = step (test x) refl h (first_there xs d)
    where
      step : (b : Bool) → test x ≡ b → cond b 0 (suc (first test xs)) < suc (length xs) → (first test xs < length xs → test (get_or xs (first test xs) d) ≡ true)
          → test (get_or (x ∷ xs) (cond b 0 (suc (first test xs))) d) ≡ true
      step true e k ih = e
      step false e k ih = ih (le_of_suc-le-suc k)

  -- no entry passes
  pub some_none : (xs : List A) (d : A) → some test xs ≡ false → (i : ℕ) → i < length xs → test (get_or xs i d) ≡ false
  some_none [] d e i h = absurd (not-suc-le-zero h)
  some_none (x ∷ xs) d e i h = step (test x) refl e i h (some_none xs d)
    where
      step : (b : Bool) → test x ≡ b → cond b true (some test xs) ≡ false → (i : ℕ) → i < suc (length xs) → (some test xs ≡ false → (k : ℕ) → k < length xs → test (get_or xs k d) ≡ false)
          → test (get_or (x ∷ xs) i d) ≡ false
      step true e k i h ih = absurd (true≢false k)
      step false e k zero h ih = e
      step false e k (suc i) h ih = ih k i (le_of_suc-le-suc h)

  pub none_some : (xs : List A) (d : A) → ((i : ℕ) → i < length xs → test (get_or xs i d) ≡ false) → some test xs ≡ false
  none_some [] d f = refl
  none_some (x ∷ xs) d f = rw (f 0 (omega arith)) (none_some xs d (λ i h. f (suc i) (suc-le-suc h)))

  -- an entry that passes
  pub some_at : (xs : List A) (d : A) (i : ℕ) → i < length xs → test (get_or xs i d) ≡ true → some test xs ≡ true
  some_at [] d i h e = absurd (not-suc-le-zero h)
  some_at (x ∷ xs) d zero h e = rw e
  some_at (x ∷ xs) d (suc i) h e = step (test x) (some_at xs d i (le_of_suc-le-suc h) e)
    where
      step : (b : Bool) → some test xs ≡ true → cond b true (some test xs) ≡ true
      step true k = refl
      step false k = k

-- ---- an entry that passes, as a member of the list

module _ {A : Type 0} (test : A → Bool) where
  pub some_in : (xs : List A) → some test xs ≡ true → (x : A) × In x xs × (test x ≡ true)
  some_in [] e = absurd (true≢false (sym e))
  some_in (x ∷ xs) e = step (test x) refl e (some_in xs)
    where
      step : (b : Bool) → test x ≡ b → cond b true (some test xs) ≡ true → (some test xs ≡ true → (y : A) × In y xs × (test y ≡ true))
          → (y : A) × In y (x ∷ xs) × (test y ≡ true)
      step true e k ih = (x, at_head refl, e)
      step false e k ih = let found = ih k in (found.0, in_Tail found.1, found.2)

  pub in_some : (xs : List A) {x : A} → In x xs → test x ≡ true → some test xs ≡ true
  in_some [] m e = elim m [ ]
  in_some (y ∷ xs) (at_head p) e = rw (ap test (sym p) ∙ e)
  in_some (y ∷ xs) (in_Tail m) e = step (test y) (in_some xs m e)
    where
      step : (b : Bool) → some test xs ≡ true → cond b true (some test xs) ≡ true
      step true k = refl
      step false k = k

-- ---- a loop that stores from the front: what holds of each entry stored

module _ {A : Type 0} (P : ℕ → A → Type 0) (l : List A) (i : ℕ) (v d : A) where
  pub stored_more : ((k : ℕ) → k < i → P k (get_or l k d)) → i < length l → P i v → (k : ℕ) → k < i + 1 → P k (get_or (set l i v) k d)
  stored_more all h here k lt =
      let m : k ≤ i = omega arith in
      ⊎_elim
      (λ e. subst (λ (n : ℕ). P n (get_or (set l i v) n d)) (sym e) (subst (P i) (sym (get_or-set_same l i v d h)) here))
      (λ n. subst (P k) (sym (get_or-set_other l i k v d (λ e. lt_irrefl i (subst (λ (x : ℕ). x < i) e n)))) (all k n))
      (eq-or-lt_of_le m)

-- ---- the numbers from a on, in two parts

pub count_append : (a m n : ℕ) → count a (m + n) ≡ count a m ++ count (a + m) n
count_append a zero n =
    let e : 0 + n ≡ n = omega arith in
    let f : a + 0 ≡ a = omega arith in
    rw (e, f)
count_append a (suc m) n =
    let e : suc m + n ≡ suc (m + n) = omega arith in
    let f : a + suc m ≡ suc a + m = omega arith in
    rw (e, f) (ap (λ (l : List ℕ). a ∷ l) (count_append (suc a) m n))

-- ---- a bound that no entry breaks

pub none_over : (limit : ℕ) (xs : List ℕ) → some (λ x. ltb limit x) xs ≡ false → (i : ℕ) → get_or xs i 0 ≤ limit
none_over limit xs e i = pick (dec_lt i (length xs))
  where
    pick : Dec (i < length xs) → get_or xs i 0 ≤ limit
    pick (yes h) = ltb-false limit (get_or xs i 0) (some_none (λ x. ltb limit x) xs 0 e i h)
    pick (no h) = subst (λ (n : ℕ). n ≤ limit) (sym (get_or-eq_default xs 0 {n = i} (omega arith))) zero-le
