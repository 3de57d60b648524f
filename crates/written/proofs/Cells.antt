-- The theme's word for cells: its bits, the word of no cells, and of one cell more. Then the look-up of every byte's word while
-- it is made: the first i notes of the theme have each taken their bit from the word of their pitch. Assumes nothing.
use mathlib.Core.Path.{◌≡◌, refl, sym, ap, ◌∙◌}
use mathlib.Core.Bool.{Bool, true, false, cond, ◌&&◌, ◌||◌}
use mathlib.Core.List.{List, [], ◌∷◌, ◌++◌}
use Prim.Native.Nat.{ℕ, ◌+◌, ◌-◌, ◌^◌, ◌≤◌, ◌<◌, zero-le}
use native.Mathlib.Numerals.{add-one}
use native.Mathlib.Omega.{arith}
use lib.Bits.{bit_and}
use lib.Dec.{ltb, eqb}
use lib.ListN.{length, get_or, set, take, replicate, length-set, length-replicate, get_or-replicate}
use lib.Seq.{get_or-set_same, get_or-set_other, take-suc, take_all}
use lib.Pow.{pow-lt}
use borrow.Author.Tests.{lt-ltb, le-ltb, ltb-true, ltb-false, eq-eqb, ne_eqb, eqb-true, eqb-false}
use Rattle.theory.specs.Lists.{some}
use Rattle.theory.specs.Bits.{bit}
use Rattle.theory.proofs.Bits.{bit_not, bit_pow_same, bit_pow_other, bit_ext, number_same}
use Rattle.theory.proofs.Either.{either}
use Rattle.filter.specs.Limits.{word_bits}
use Rattle.written.specs.Words.{cells_word, bytes, Words}
use Rattle.written.proofs.Zeros.{zeros, zeros_bit, zeros_lt, zeros_none, zeros_and}

-- note i + 1 of the theme, one of its first k, is one of the cells
abbrev among : (theme : List ℕ) (k : ℕ) (cells : List ℕ) → ℕ → Bool
among theme k cells i = ltb i k && some (λ c. eqb c (get_or theme i 0)) cells

-- ---- the word for cells

module _ (w : ℕ) (theme : List ℕ) where
  cells_zeros : (cells : List ℕ) → cells_word w theme cells ≡ zeros w (among theme (length theme) cells)
  unfolding cells_word
  cells_zeros cells = refl

  -- bit i is 0 where note i + 1 is one of the cells, and else 1
  pub cells_bit : (cells : List ℕ) (i : ℕ) → i < w → i < length theme → bit (cells_word w theme cells) i ≡ cond (some (λ c. eqb c (get_or theme i 0)) cells) 0 1
  cells_bit cells i h l =
      ap (λ (x : ℕ). bit x i) (cells_zeros cells) ∙ zeros_bit w (among theme (length theme) cells) i h ∙ rw (lt-ltb i (length theme) l)

  pub cells_none : cells_word w theme [] ≡ 2 ^ w - 1
  cells_none = cells_zeros [] ∙ zeros_none w (among theme (length theme) []) (λ i h. never (ltb i (length theme)))
    where
      never : (b : Bool) → (b && false) ≡ false
      never true = refl
      never false = refl

  pub cells_more : (cells : List ℕ) (c : ℕ) → cells_word w theme (cells ++ (c ∷ [])) ≡ bit_and (cells_word w theme cells) (cells_word w theme (c ∷ []))
  cells_more cells c =
      rw (cells_zeros (cells ++ (c ∷ [])), cells_zeros cells, cells_zeros (c ∷ []))
      (zeros_and w (among theme (length theme) (cells ++ (c ∷ []))) (among theme (length theme) cells) (among theme (length theme) (c ∷ []))
      (λ i h. split (ltb i (length theme)) (λ d. eqb d (get_or theme i 0)) cells))
    where
      one : (test : ℕ → Bool) (xs : List ℕ) → some test (xs ++ (c ∷ [])) ≡ (some test xs || some test (c ∷ []))
      one test [] = refl
      one test (x ∷ xs) = step (test x) (one test xs)
        where
          step : (b : Bool) → some test (xs ++ (c ∷ [])) ≡ (some test xs || some test (c ∷ []))
              → cond b true (some test (xs ++ (c ∷ []))) ≡ (cond b true (some test xs) || some test (c ∷ []))
          step true e = refl
          step false e = e

      split : (b : Bool) (test : ℕ → Bool) (xs : List ℕ) → (b && some test (xs ++ (c ∷ []))) ≡ ((b && some test xs) || (b && some test (c ∷ [])))
      split true test xs = one test xs
      split false test xs = refl

-- ---- the look-up, made of the first k notes

pub record Made (w : ℕ) (theme : List ℕ) (k : ℕ) (words : List ℕ) : Type 0 where
  pub long : length words ≡ bytes
  pub each : (cell : ℕ) → cell < bytes → get_or words cell 0 ≡ zeros w (among theme k (cell ∷ []))

module _ (w : ℕ) (theme : List ℕ) where
  -- of no notes: all ones
  pub made_start : Made w theme 0 (replicate {A = ℕ} bytes (2 ^ w - 1))
  made_start =
      record {
        long = length-replicate {A = ℕ} bytes (2 ^ w - 1);
        each = λ cell h. get_or-replicate {A = ℕ} bytes cell (2 ^ w - 1) 0 h ∙ sym (zeros_none w (among theme 0 (cell ∷ [])) (λ i l. rw (le-ltb i 0 zero-le)));
      }

  -- all ones but for one bit
  but : (k : ℕ) → k < w → 2 ^ w - 1 - 2 ^ k ≡ zeros w (λ q. eqb q k)
  but k h =
      bit_ext w (2 ^ w - 1 - 2 ^ k) (zeros w (λ q. eqb q k)) (omega (arith, zeros_lt w (λ q. eqb q k))) (zeros_lt w (λ q. eqb q k))
      (λ q l. bit_not (2 ^ k) q w (pow-lt h) l ∙ one q ∙ sym (zeros_bit w (λ q. eqb q k) q l))
    where
      one : (q : ℕ) → 1 - bit (2 ^ k) q ≡ cond (eqb q k) 0 1
      one q =
          either (eqb q k)
          (λ e. let same : q ≡ k = eqb-true q k e in rw (same, eq-eqb k k refl) (omega (arith, bit_pow_same k)))
          (λ e. rw e (omega (arith, bit_pow_other k q (λ same. eqb-false q k e (sym same)))))

  -- which notes one more note adds: it stands at its own pitch, and at no other
  shorter : (k q : ℕ) → (q ≡ k → ⊥) → ltb q (k + 1) ≡ ltb q k
  shorter k q n =
      either (ltb q k)
      (λ e. rw e (lt-ltb q (k + 1) (omega (arith, ltb-true q k e))))
      (λ e. rw e (le-ltb q (k + 1) (omega (arith, ltb-false q k e, n))))

  added : (k q : ℕ) → among theme (k + 1) (get_or theme k 0 ∷ []) q ≡ (among theme k (get_or theme k 0 ∷ []) q || eqb q k)
  added k q =
      either (eqb q k)
      (λ e. let same : q ≡ k = eqb-true q k e in
      rw (same, lt-ltb k (k + 1) (omega arith), le-ltb k k (omega arith), eq-eqb k k refl, eq-eqb (get_or theme k 0) (get_or theme k 0) refl))
      (λ e. rw (e, shorter k q (eqb-false q k e)) (nothing (among theme k (get_or theme k 0 ∷ []) q)))
    where
      nothing : (b : Bool) → b ≡ (b || false)
      nothing true = refl
      nothing false = refl

  not_added : (k q cell : ℕ) → (cell ≡ get_or theme k 0 → ⊥) → among theme (k + 1) (cell ∷ []) q ≡ among theme k (cell ∷ []) q
  not_added k q cell n =
      either (eqb q k)
      (λ e. let same : q ≡ k = eqb-true q k e in
      rw (same, lt-ltb k (k + 1) (omega arith), le-ltb k k (omega arith), ne_eqb cell (get_or theme k 0) n))
      (λ e. rw (shorter k q (eqb-false q k e)))

  -- one more note
  pub made_more : {k : ℕ} {words : List ℕ} → Made w theme k words → k < w → get_or theme k 0 < bytes
      → {x : ℕ} → x ≡ 2 ^ w - 1 - 2 ^ k
      → Made w theme (k + 1) (set words (get_or theme k 0) (bit_and (get_or words (get_or theme k 0) 0) x))
  made_more {k} {words} m h b {x} e =
      let p = get_or theme k 0 in
      let v = bit_and (get_or words p 0) x in
      let new : v ≡ zeros w (among theme (k + 1) (p ∷ [])) =
      rw (m.each p b, e, but k h) (sym (zeros_and w (among theme (k + 1) (p ∷ [])) (among theme k (p ∷ [])) (λ q. eqb q k) (λ q l. added k q))) in
      record {
        long = length-set words p v ∙ m.long;
        each = λ cell l. either (eqb cell p)
            (λ t. let same : cell ≡ p = eqb-true cell p t in rw (same, get_or-set_same words p v 0 (omega (arith, m.long, b))) new)
            (λ t. let other = eqb-false cell p t in
            get_or-set_other words p cell v 0 other ∙ m.each cell l
            ∙ number_same w (λ q. cond (among theme k (cell ∷ []) q) 0 1) (λ q. cond (among theme (k + 1) (cell ∷ []) q) 0 1)
            (λ q. ap (λ (b : Bool). cond b 0 1) (sym (not_added k q cell other))));
      }

-- all notes: the look-up has every byte's word
pub made_end : {theme words : List ℕ} {k : ℕ} → Made word_bits theme k words → k ≡ length theme → Words theme words
made_end {theme} m e = record { long = m.long; each = λ cell h. rw e at (m.each cell h) ∙ sym (cells_zeros word_bits theme (cell ∷ [])) }

-- ---- a column that is looked up, one cell after another

pub looked_first : {theme words : List ℕ} → Words theme words → (column : List ℕ) → 1 ≤ length column → get_or column 0 0 < bytes
    → get_or words (get_or column 0 0) 0 ≡ cells_word word_bits theme (take 1 column)
looked_first t [] h b = absurd (omega arith)
looked_first t (c ∷ column) h b = t.each c b

module _ {theme words : List ℕ} (t : Words theme words) (column : List ℕ) {i word : ℕ} (e : word ≡ cells_word word_bits theme (take i column)) where
  pub looked_more : i < length column → get_or column i 0 < bytes → bit_and word (get_or words (get_or column i 0) 0) ≡ cells_word word_bits theme (take (i + 1) column)
  looked_more h b =
      let c = get_or column i 0 in
      rw (e, t.each c b, add-one i, take-suc column i 0 h) (sym (cells_more word_bits theme (take i column) c))

  pub looked_end : i ≡ length column → word ≡ cells_word word_bits theme column
  looked_end all = e ∙ ap (cells_word word_bits theme) (take_all i column (omega arith))

-- two cells more, and a last one that is left over
module _ {theme words : List ℕ} (t : Words theme words) (column : List ℕ) (i : ℕ) {word : ℕ} (e : word ≡ cells_word word_bits theme (take i column)) where
  pub looked_two : i + 1 < length column → get_or column i 0 < bytes → get_or column (i + 1) 0 < bytes
      → bit_and (bit_and word (get_or words (get_or column i 0) 0)) (get_or words (get_or column (i + 1) 0) 0) ≡ cells_word word_bits theme (take (i + 2) column)
  looked_two h b₁ b₂ =
      let two : i + 2 ≡ i + 1 + 1 = omega arith in
      rw two (looked_more t column {i = i + 1} (looked_more t column {i = i} e (omega arith) b₁) h b₂)

  pub looked_last : i + 1 ≡ length column → get_or column i 0 < bytes → bit_and word (get_or words (get_or column i 0) 0) ≡ cells_word word_bits theme column
  looked_last all b = looked_end t column {i = i + 1} (looked_more t column {i = i} e (omega arith) b) all
