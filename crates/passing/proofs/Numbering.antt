-- What goes by numbers: values written one after the other over the front of a buffer (`Writing`), the entries at the numbers of
-- columns, and columns under their other numbers. Assumes nothing.
use mathlib.Core.Path.{◌≡◌, refl, sym, ap, ◌∙◌}
use mathlib.Core.Bool.{Bool}
use mathlib.Core.List.{List, [], ◌∷◌, ◌++◌, map, append-nil}
use Prim.Native.Nat.{ℕ, suc, ◌+◌, ◌-◌, min, ◌≤◌, ◌<◌, zero-le}
use native.Mathlib.Decide.{dec_lt}
use native.Mathlib.Numerals.{add-one}
use native.Mathlib.Omega.{arith}
use lib.Dec.{leb}
use lib.ListN.{length, get_or, take, drop, set, length-set, length-map, length-take, drop_of_length-le, get_or-eq_default}
use lib.Seq.{take-suc, take_all, length-take-le, drop-cons, get_or_at}
use Rattle.theory.specs.Lists.{over}
use Rattle.theory.proofs.Lists.{map_at, over_more}
use Rattle.passing.specs.Passing.{entry_at, KeepsSets, Renames}

-- the number is not above k
abbrev pub reaches : ℕ → ℕ → Bool
reaches number k = leb number k

-- ---- values over the front of a buffer

pub record Writing (vs into₀ into : List ℕ) (i : ℕ) : Type 0 where
  pub so_far : into ≡ over into₀ (take i vs)
  pub long : length into ≡ length into₀
  pub within : i ≤ length vs
  pub room : i ≤ length into₀

pub writing_start : (vs into₀ : List ℕ) → Writing vs into₀ into₀ 0
writing_start vs into₀ = record { so_far = refl; long = refl; within = zero-le; room = zero-le }

module _ {vs into₀ into : List ℕ} {i : ℕ} (w : Writing vs into₀ into i) where
  pub writing_more : (v : ℕ) → v ≡ get_or vs i 0 → i < length vs → i < length into₀ → Writing vs into₀ (set into i v) (i + 1)
  writing_more v e h r =
      let one : take i vs ++ (v ∷ []) ≡ take (i + 1) vs = rw (add-one, e) (sym (take-suc vs i 0 h)) in
      record {
        so_far =
            ap (λ (l : List ℕ). set l i v) w.so_far
            ∙ over_more into₀ (take i vs) 0 i v (length-take-le i vs w.within) r
            ∙ ap (λ (l : List ℕ). over into₀ l) one;
        long = length-set into i v ∙ w.long;
        within = omega arith;
        room = omega arith;
      }

  -- the next place still holds what it held
  pub writing_next : i < length into₀ → get_or into i 0 ≡ get_or into₀ i 0
  writing_next r =
      let n : length (take i vs) ≡ i = length-take-le i vs w.within in
      let e : into ≡ take i vs ++ get_or into₀ i 0 ∷ drop (suc i) into₀ = w.so_far ∙ rw (n, drop-cons into₀ i 0 r) in
      ap (λ (l : List ℕ). get_or l i 0) e
      ∙ get_or_at (take i vs) (get_or into₀ i 0) (drop (suc i) into₀) 0 i n

-- the first i of a list are its first r, where i is r or the list's end
take_past : (i r : ℕ) (vs : List ℕ) → i ≤ r → min (length vs) r ≤ i → take i vs ≡ take r vs
take_past i r vs l p = pick (dec_lt i r)
  where
    pick : Dec (i < r) → take i vs ≡ take r vs
    pick (yes h) = take_all i vs (omega arith) ∙ sym (take_all r vs (omega arith))
    pick (no h) = let e : i ≡ r = omega arith in ap (λ (n : ℕ). take n vs) e

-- ---- the entries at the numbers

-- the place of a number's entry, which is there or is not
module _ (entries : List ℕ) (at number : ℕ) (e : at ≡ number - 1) where
  pub entry_here : get_or entries at 0 ≡ entry_at entries number
  entry_here = ap (λ (n : ℕ). get_or entries n 0) e

  pub entry_none : length entries ≤ at → 0 ≡ entry_at entries number
  entry_none h = sym (get_or-eq_default entries 0 {n = number - 1} (omega arith))

module _ (sets numbers kept₀ : List ℕ) where
  abbrev entries : List ℕ
  entries = map (entry_at sets) numbers

  pub kept_more : {kept : List ℕ} {i : ℕ} (v : ℕ) → Writing entries kept₀ kept i → i < length numbers → i < length kept
      → v ≡ entry_at sets (get_or numbers i 0) → Writing entries kept₀ (set kept i v) (i + 1)
  kept_more {kept} {i} v w h r e =
      writing_more w v (e ∙ sym (map_at (entry_at sets) numbers i 0 0 h)) (omega (arith, length-map numbers (entry_at sets))) (omega (arith, w.long))

  pub kept_end : {kept : List ℕ} {i : ℕ} → Writing entries kept₀ kept i → min (length numbers) (length kept) ≤ i
      → KeepsSets sets numbers kept₀ kept
  kept_end {kept} {i} w past =
      let p : min (length entries) (length kept₀) ≤ i =
      omega (arith, past, length-map numbers (entry_at sets), w.long) in
      record { entries = w.so_far ∙ ap (λ (l : List ℕ). over kept₀ l) (take_past i (length kept₀) entries w.room p) }

-- ---- columns under their other numbers

module _ (numbers columns₀ : List ℕ) where
  pub renamed_more : {columns : List ℕ} {i : ℕ} (v : ℕ) → Writing (map (entry_at numbers) columns₀) columns₀ columns i → i < length columns₀
      → v ≡ entry_at numbers (get_or columns i 0) → Writing (map (entry_at numbers) columns₀) columns₀ (set columns i v) (i + 1)
  renamed_more {columns} {i} v w h e =
      writing_more w v (e ∙ ap (entry_at numbers) (writing_next w h) ∙ sym (map_at (entry_at numbers) columns₀ i 0 0 h))
      (omega (arith, length-map columns₀ (entry_at numbers))) h

  pub renamed_all : {columns : List ℕ} {i : ℕ} → Writing (map (entry_at numbers) columns₀) columns₀ columns i → length columns₀ ≤ i
      → columns ≡ map (entry_at numbers) columns₀
  renamed_all {columns} {i} w h =
      let long : length (map (entry_at numbers) columns₀) ≡ length columns₀ = length-map columns₀ (entry_at numbers) in
      let all : take i (map (entry_at numbers) columns₀) ≡ map (entry_at numbers) columns₀ = take_all i _ (omega arith) in
      let none : drop (length (map (entry_at numbers) columns₀)) columns₀ ≡ [] = drop_of_length-le columns₀ (omega arith) in
      w.so_far ∙ ap (over columns₀) all ∙ ap (λ (l : List ℕ). map (entry_at numbers) columns₀ ++ l) none ∙ append-nil (map (entry_at numbers) columns₀)

-- the first columns of more
pub renamed_end : (columns : List ℕ) (many : ℕ) (numbers : List ℕ) {found : ℕ} {front : List ℕ} → found ≡ min many (length columns)
    → front ≡ map (entry_at numbers) (take found columns) → Renames columns many numbers (front ++ drop found columns)
renamed_end columns many numbers {found} {front} e f =
    let same : take found columns ≡ take many columns = step (dec_lt many (length columns)) in
    let long : found ≡ length (map (entry_at numbers) (take many columns)) =
    omega (arith, length-map (take many columns) (entry_at numbers), length-take many columns) in
    record {
      renamed =
          ap (λ (l : List ℕ). l ++ drop found columns) (f ∙ ap (map (entry_at numbers)) same)
          ∙ ap (λ (n : ℕ). map (entry_at numbers) (take many columns) ++ drop n columns) long;
    }
  where
    step : Dec (many < length columns) → take found columns ≡ take many columns
    step (yes h) = let k : found ≡ many = omega arith in ap (λ (n : ℕ). take n columns) k
    step (no h) = take_all found columns (omega arith) ∙ sym (take_all many columns (omega arith))
