-- What stands at or after a place: the rest of its column's starts, and then the starts from the next column on; nothing
-- where the theme has no more room. The same where only some columns are kept. Assumes nothing.
use mathlib.Core.Path.{◌≡◌, refl, ap, ◌∙◌}
use mathlib.Core.Bool.{Bool, true, false, cond}
use mathlib.Core.List.{List, [], ◌∷◌, ◌++◌, map, map-append, append-nil, append_assoc, Memᴰ as In}
use Prim.Native.Nat.{ℕ, zero, suc, ◌+◌, ◌-◌, ◌*◌, ◌≤◌, ◌<◌, zero-le}
use native.Mathlib.Nat.{le_trans, suc-mul, mul-le-mul_right}
use native.Mathlib.Omega.{arith}
use lib.Dec.{leb, ltb, eqb}
use lib.ListN.{length, get_or, drop, set, length-drop, drop_of_length-le}
use lib.Seq.{drop-cons}
use borrow.Author.Tests.{le-leb, lt-leb, ltb-false, ne_eqb, eq-eqb}
use Rattle.theory.specs.Lists.{count, over}
use Rattle.theory.specs.Pages.{hits, Rising, from}
use Rattle.theory.proofs.Lists.{count_length, over_more, over_length, count_append}
use Rattle.theory.proofs.Pages.{hits_append}
use Rattle.theory.proofs.Bookmarks.{Below, none, one, below_up, from_past, from_all, rising_append}
use Rattle.theory.proofs.Members.{in_count, in_hits, rising_count, rising_hits, rising_map, rising_add}
use Rattle.score.specs.declared.quantities.Pitch.{Pitch}
use Rattle.score.specs.Score.{column_at, column}
use Rattle.ways.specs.declared.way.Way.{Way}
use Rattle.ways.specs.Way.{span, holds}
use Rattle.score.specs.Score.{note}
use Rattle.walking.specs.Starts.{Place, place, key, codes, starts_in, starts}
use Rattle.walking.specs.Walk.{Fits, column_starts, list_starts}
use Rattle.walking.proofs.Order.{span_lt, rising_starts_in}

-- ---- lists

-- numbers written in front of a list, one more at a time
pub record Counted (first : ℕ) (list₀ list : List ℕ) (i : ℕ) : Type 0 where
  pub listed : list ≡ over list₀ (count first i)

module _ (first : ℕ) (list₀ list : List ℕ) (i : ℕ) (t : Counted first list₀ list i) where
  pub count_long : i ≤ length list₀ → length list ≡ length list₀
  count_long h = ap length t.listed ∙ over_length list₀ (count first i) (omega (arith, count_length first i))

  -- a whole list
  pub count_whole : i ≡ length list₀ → list ≡ count first i
  count_whole e =
      let none : drop (length (count first i)) list₀ ≡ [] = drop_of_length-le list₀ (omega (arith, count_length first i)) in
      t.listed ∙ rw none (append-nil (count first i))

  pub count_turn : i < length list₀ → Counted first list₀ (set list i (first + i)) (i + 1)
  count_turn h =
      record { listed = rw (t.listed, count_append first i 1) (over_more list₀ (count first i) 0 i (first + i) (count_length first i) h) }

-- what is kept of what stands at or after a key, where keys rise
pub from_hits : {A : Type 0} (key' : A → ℕ) (keep : A → Bool) (a b : ℕ) (xs : List A) → Rising key' a xs → from key' b (hits keep xs) ≡ hits keep
    (from key' b xs)
from_hits key' keep a b [] r = refl
from_hits key' keep a b (x ∷ xs) r = step (ltb (key' x) b) refl (keep x) refl (from_hits key' keep (suc (key' x)) b xs r.1)
  where
    step : (t : Bool) → ltb (key' x) b ≡ t → (u : Bool) → keep x ≡ u → from key' b (hits keep xs) ≡ hits keep (from key' b xs)
        → from key' b (cond u (x ∷ hits keep xs) (hits keep xs)) ≡ hits keep (cond t (from key' b xs) (x ∷ xs))
    step true e true f ih = rw e ih
    step true e false f ih = ih
    step false e true f ih = rw (e, f)
    step false e false f ih =
        let up : Rising key' b xs = rising_from xs (ltb-false (key' x) b e) r.1 in
        rw f (ih ∙ ap (hits keep) (from_all key' b xs up))
      where
        rising_from : (ys : List _) → b ≤ key' x → Rising key' (suc (key' x)) ys → Rising key' b ys
        rising_from [] q s = tt
        rising_from (y ∷ ys) q s = (le_trans q (le_trans (omega arith) s.0), s.1)

pub hits_all : {A : Type 0} (xs : List A) → hits (λ x. true) xs ≡ xs
hits_all [] = refl
hits_all (x ∷ xs) = ap (λ (l : List _). x ∷ l) (hits_all xs)

-- ---- the starts at or after a place

-- the places of one column, by their codes
places_below : (i b : ℕ) (ks : List ℕ) → ((k : ℕ) → In k ks → i * 256 + k < b) → Below key b (map (place i) ks)
places_below i b [] h = none
places_below i b (k ∷ ks) h = one {x = place i k} (h k (In.head refl)) (places_below i b ks (λ n q. h n (In.tail q)))

module _ (way : Way) (p : Pitch) (m : ℕ) where
  -- no place of column i is as far as column i + 1
  column_below : (i x : ℕ) (c : List ℕ) → Below key (suc i * 256) (map (place i) (codes way p c x))
  column_below i x c =
      places_below i (suc i * 256) (codes way p c x)
      (λ k q. let d = in_hits (λ code. holds way code p c) (count x (span way - x)) q in omega
      (arith, suc-mul i 256, span_lt way, (in_count x (span way - x) d.0).1, (in_count x (span way - x) d.0).0))

  room_below : (i : ℕ) (b : Bool) (c : List ℕ) → Below key (suc i * 256) (cond b (map (place i) (codes way p c 0)) [])
  room_below i true c = column_below i 0 c
  room_below i false c = none

  -- the columns before the place's are passed over
  from_column : (d i x : ℕ) (cs : List (List ℕ)) → from key ((i + d) * 256 + x) (starts_in way p m i cs) ≡ from key ((i + d) * 256 + x)
      (starts_in way p m (i + d) (drop d cs))
  from_column zero i x cs = let e : i + 0 ≡ i = omega arith in rw e
  from_column (suc d) i x [] = refl
  from_column (suc d) i x (c ∷ cs) =
      let e : i + suc d ≡ suc i + d = omega arith in
      rw e
      (from_past key
      (below_up key ((suc i + d) * 256 + x) far (room_below i (leb m (suc (length cs))) c))
      (starts_in way p m (suc i) cs)
      ∙ from_column d (suc i) x cs)
    where
      far : suc i * 256 ≤ (suc i + d) * 256 + x
      far = let q : suc i * 256 ≤ (suc i + d) * 256 = mul-le-mul_right {m = suc i} {n = suc i + d} 256 (omega arith) in omega arith

  -- fewer columns than notes hold no start
  starts_short : (i : ℕ) (cs : List (List ℕ)) → length cs < m → starts_in way p m i cs ≡ []
  starts_short i [] h = refl
  starts_short i (c ∷ cs) h = rw (lt-leb m (suc (length cs)) h) (starts_short (suc i) cs (omega arith))

  -- within a column: the codes below x are passed over
  from_codes : (i x : ℕ) (c : List ℕ) (D : List Place) → x ≤ span way → Rising key (suc i * 256) D
      → from key (i * 256 + x) (map (place i) (codes way p c 0) ++ D) ≡ map (place i) (codes way p c x) ++ D
  from_codes i x c D h up =
      let e : span way - 0 ≡ x + (span way - x) = omega arith in
      let g : 0 + x ≡ x = omega arith in
      let parts : codes way p c 0 ≡ hits (λ code. holds way code p c) (count 0 x) ++ codes way p c x =
      ap (λ (n : ℕ). hits (λ code. holds way code p c) (count 0 n)) e
      ∙ ap (hits (λ code. holds way code p c)) (count_append 0 x (span way - x) ∙ ap (λ (n : ℕ). count 0 x ++ count n (span way - x)) g)
      ∙ hits_append (λ code. holds way code p c) (count 0 x) (count x (span way - x)) in
      rw (parts, map-append (place i), append_assoc)
      (from_past key low (map (place i) (codes way p c x) ++ D)
      ∙ from_all key (i * 256 + x) (map (place i) (codes way p c x) ++ D)
      (rising_append key (i * 256 + x) (suc i * 256) (map (place i) (codes way p c x)) D
      (rising_map (place i) key (i * 256 + x) (codes way p c x)
      (rising_add (i * 256) x (codes way p c x)
      (rising_hits (λ code. holds way code p c) (λ (k : ℕ). k) x (count x (span way - x)) (rising_count x (span way - x)))))
      (column_below i x c) (omega (arith, suc-mul i 256, span_lt way)) up))
    where
      low : Below key (i * 256 + x) (map (place i) (hits (λ code. holds way code p c) (count 0 x)))
      low =
          places_below i (i * 256 + x) (hits (λ code. holds way code p c) (count 0 x))
          (λ k q. let d = in_hits (λ code. holds way code p c) (count 0 x) q in omega (arith, (in_count 0 x d.0).1))

zero_both : (b : Bool) → ◌≡◌ {A = ℕ} (cond b 0 0) 0
zero_both true = refl
zero_both false = refl

module _ (way : Way) (score : List (List ℕ)) (theme : List ℕ) where
  at_column : (j x : ℕ) → 1 ≤ j → from key (j * 256 + x) (starts way score theme) ≡ from key (j * 256 + x)
      (starts_in way (note theme 1) (length theme) j (drop (j - 1) score))
  at_column j x h =
      let e : j ≡ 1 + (j - 1) = omega arith in
      let q : from key ((1 + (j - 1)) * 256 + x) (starts way score theme) ≡ from key ((1 + (j - 1)) * 256 + x)
      (starts_in way (note theme 1) (length theme) (1 + (j - 1)) (drop (j - 1) score)) =
      from_column way (note theme 1) (length theme) (j - 1) 1 x score in
      rw (← e) at q

  pub along_more : (j x : ℕ) → Fits (length score) (length theme) j → 1 ≤ length theme → x ≤ span way
      → from key (j * 256 + x) (starts way score theme) ≡ column_starts way score theme j x ++ from key (suc j * 256) (starts way score theme)
  along_more j x f m h =
      let k : j - 1 < length score = omega (arith, f.from_first, f.to_last) in
      let e : suc (j - 1) ≡ j = omega (arith, f.from_first) in
      let c : drop (j - 1) score ≡ get_or score (j - 1) [] ∷ drop j score =
      drop-cons score (j - 1) [] k ∙ ap (λ (i : ℕ). get_or score (j - 1) [] ∷ drop i score) e in
      let room : leb (length theme) (suc (length (drop j score))) ≡ true =
      le-leb (length theme) (suc (length (drop j score))) (omega (arith, length-drop j score, f.to_last)) in
      let up : Rising key (suc j * 256) (starts_in way (note theme 1) (length theme) (suc j) (drop j score)) =
      rising_starts_in way (note theme 1) (length theme) (suc j) (drop j score) in
      let z : suc j * 256 + 0 ≡ suc j * 256 = omega arith in
      let back : suc j - 1 ≡ j = omega arith in
      let next : from key (suc j * 256) (starts way score theme) ≡ starts_in way (note theme 1) (length theme) (suc j) (drop j score) =
      (rw (z, back) at (at_column (suc j) 0 (omega arith))) ∙ from_all key (suc j * 256)
      (starts_in way (note theme 1) (length theme) (suc j) (drop j score)) up in
      at_column j x f.from_first ∙ rw (c, room, next)
      (from_codes way (note theme 1) (length theme) j x (get_or score (j - 1) []) (starts_in way (note theme 1) (length theme) (suc j) (drop j score)) h up)

  pub along_end : (j x : ℕ) → 1 ≤ j → 1 ≤ length theme → length score + 1 < j + length theme → from key (j * 256 + x) (starts way score theme) ≡ []
  along_end j x h m q = at_column j x h ∙ rw (starts_short way (note theme 1) (length theme) j (drop (j - 1) score) (omega (arith, length-drop (j - 1) score)))

  -- where only some columns are kept, a column's starts are all kept or all left out
  keep_column : (keep : ℕ → Bool) (j : ℕ) (ks : List ℕ) → hits (λ s. keep s.column) (map (place j) ks) ≡ cond (keep j) (map (place j) ks) []
  keep_column keep j ks = step (keep j) refl ks
    where
      step : (b : Bool) → keep j ≡ b → (ns : List ℕ) → hits (λ s. keep s.column) (map (place j) ns) ≡ cond b (map (place j) ns) []
      step true e [] = refl
      step false e [] = refl
      step true e (n ∷ ns) = rw (e, step true e ns)
      step false e (n ∷ ns) = rw (e, step false e ns)

  -- the starts kept at or after a place
  abbrev pub kept_from : (keep : ℕ → Bool) (j x : ℕ) → List Place
  kept_from keep j x = hits (λ s. keep s.column) (from key (j * 256 + x) (starts way score theme))

  -- a column's starts where it is kept, and then those from the next column on
  kept_more : (keep : ℕ → Bool) (j x : ℕ) → Fits (length score) (length theme) j → 1 ≤ length theme → x ≤ span way
      → kept_from keep j x ≡ cond (keep j) (column_starts way score theme j x) [] ++ kept_from keep (j + 1) 0
  kept_more keep j x f m h =
      let z : (j + 1) * 256 + 0 ≡ suc j * 256 = omega (arith, suc-mul j 256) in
      ap (hits (λ s. keep s.column)) (along_more j x f m h)
      ∙ hits_append (λ s. keep s.column) (column_starts way score theme j x) (from key (suc j * 256) (starts way score theme))
      ∙ rw (keep_column keep j (codes way (note theme 1) (column score (column_at j)) x), z)

  -- a list of columns behind column j begins each at its first code
  list_behind : (keep : ℕ → Bool) (j x k d : ℕ) → j < k
      → list_starts way score theme j x (hits keep (count k d)) ≡ list_starts way score theme (j + 1) 0 (hits keep (count k d))
  list_behind keep j x k zero h = refl
  list_behind keep j x k (suc d) h = step (keep k) (list_behind keep j x (suc k) d (omega arith))
    where
      step : (b : Bool) → list_starts way score theme j x (hits keep (count (suc k) d)) ≡ list_starts way score theme (j + 1) 0 (hits keep (count (suc k) d))
          → list_starts way score theme j x (cond b (k ∷ hits keep (count (suc k) d)) (hits keep (count (suc k) d)))
          ≡ list_starts way score theme (j + 1) 0 (cond b (k ∷ hits keep (count (suc k) d)) (hits keep (count (suc k) d)))
      step true e = rw (ne_eqb j k (λ z. omega arith), zero_both (eqb (j + 1) k), e)
      step false e = e

  -- the starts kept in d columns from column j on, and then those behind
  pub kept_list : (keep : ℕ → Bool) (d j x : ℕ) → 1 ≤ j → 1 ≤ length theme → x ≤ span way → j + d + length theme ≤ length score + 2
      → kept_from keep j x ≡ list_starts way score theme j x (hits keep (count j d)) ++ kept_from keep (j + d) (cond (eqb d 0) x 0)
  kept_list keep zero j x first m h q = let e : j + 0 ≡ j = omega arith in rw e
  kept_list keep (suc d) j x first m h q =
      let f : Fits (length score) (length theme) j = record { from_first = first; to_last = omega arith } in
      let e : j + suc d ≡ j + 1 + d = omega arith in
      let s : suc j ≡ j + 1 = omega arith in
      let behind : kept_from keep (j + 1) 0 ≡ list_starts way score theme j x (hits keep (count (suc j) d)) ++ kept_from keep (j + 1 + d) 0 =
      kept_list keep d (j + 1) 0 (omega arith) m zero-le (omega arith) ∙ rw (zero_both (eqb d 0), list_behind keep j x (suc j) d (omega arith), s) in
      kept_more keep j x f m h ∙ rw (e, ne_eqb (suc d) 0 (λ z. omega arith)) (step (keep j) behind)
    where
      step : (b : Bool) → kept_from keep (j + 1) 0 ≡ list_starts way score theme j x (hits keep (count (suc j) d)) ++ kept_from keep (j + 1 + d) 0
          → cond b (column_starts way score theme j x) [] ++ kept_from keep (j + 1) 0
          ≡ list_starts way score theme j x (cond b (j ∷ hits keep (count (suc j) d)) (hits keep (count (suc j) d))) ++ kept_from keep (j + 1 + d) 0
      step true ih = rw (eq-eqb j j refl, append_assoc) (ap (λ (l : List Place). column_starts way score theme j x ++ l) ih)
      step false ih = ih

  pub kept_end : (keep : ℕ → Bool) (j x : ℕ) → 1 ≤ j → 1 ≤ length theme → length score + 1 < j + length theme → kept_from keep j x ≡ []
  kept_end keep j x h m q = ap (hits (λ s. keep s.column)) (along_end j x h m q)
