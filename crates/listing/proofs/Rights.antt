-- What was read is right, and is the text that stands there: numbers, cells, fields, lines. Assumes nothing.
use mathlib.Core.Path.{◌≡◌, refl, sym, ap, ◌∙◌, subst}
use mathlib.Core.Logic.{inl, inr, ⊎_elim}
use mathlib.Core.Bool.{Bool, true, false, cond, ◌&&◌}
use mathlib.Core.List.{List, [], ◌∷◌, ◌++◌, append_assoc}
use Prim.Native.Nat.{ℕ, zero, suc, ◌+◌, ◌-◌, ◌*◌, ◌/◌, ◌%◌, ◌≤◌, ◌<◌}
use native.Mathlib.Nat.{eq-or-lt_of_le}
use native.Mathlib.Omega.{arith}
use lib.Dec.{leb, eqb}
use lib.ListN.{length, drop}
use borrow.Author.Tests.{leb-true, eqb-true, eqb-false, ne_eqb}
use Rattle.score.specs.Limits.{highest_pitch, rest_cell}
use Rattle.telling.specs.Text.{decimal}
use Rattle.words.specs.Words.{Read, got, bad, next, front, is_digit, more_digits, number, cell}
use Rattle.reading.specs.Reading.{fields}
use Rattle.listing.specs.Texts.{cell_text, fields_text, Each, IsNote, IsCell}
use Rattle.words.proofs.Places.{digit_some, bad_got, got_value, got_rest}
use Rattle.telling.proofs.Decimals.{decimal_small, decimal_more}

pub front_cons : (text : List ℕ) → 1 ≤ front text → text ≡ front text ∷ drop 1 text
front_cons [] h = absurd (omega arith)
front_cons (b ∷ text) h = refl

-- ---- numbers

-- one digit more behind a number
decimal_step : (v d : ℕ) → 1 ≤ v → v ≤ highest_pitch → d < 10 → decimal (v * 10 + d) ≡ decimal v ++ ((48 + d) ∷ [])
decimal_step v d h l s =
    let q : (v * 10 + d) / 10 ≡ v = omega arith in
    let r : (v * 10 + d) % 10 ≡ d = omega arith in
    decimal_more (v * 10 + d) (omega arith) (omega arith) ∙ rw (q, r)

pub record Digits (v : ℕ) (text : List ℕ) (w : ℕ) (rest : List ℕ) : Type 0 where
  pub some : 1 ≤ w
  pub small : w ≤ highest_pitch
  pub is : decimal v ++ text ≡ decimal w ++ rest

more_right : (v : ℕ) (text : List ℕ) {w : ℕ} {rest : List ℕ} → 1 ≤ v → v ≤ highest_pitch → more_digits v text ≡ got w rest → Digits v text w rest
unfolding more_digits
more_right v text {w} {rest} h l e = step (is_digit (front text)) (leb (v * 10 + (front text - 48)) highest_pitch) refl refl e
  where
    same : got v text ≡ got w rest → Digits v text w rest
    same k = subst (λ (n : ℕ). Digits v text n rest) (got_value k) (subst (λ (x : List ℕ). Digits v text v x) (got_rest k) (record { some = h; small = l; is = refl }))

    step : (s t : Bool) → is_digit (front text) ≡ s → leb (v * 10 + (front text - 48)) highest_pitch ≡ t
        → cond (s && t) (got (v * 10 + (front text - 48)) (drop 1 text)) (got v text) ≡ got w rest → Digits v text w rest
    step true true p q k =
        let d = digit_some (front text) p in
        let lo : 48 ≤ front text = d.0 in
        let hi : front text ≤ 57 = d.1 in
        let b : 48 + (front text - 48) ≡ front text = omega arith in
        let m : v * 10 + (front text - 48) ≤ highest_pitch = leb-true (v * 10 + (front text - 48)) highest_pitch q in
        let ew : v * 10 + (front text - 48) ≡ w = got_value k in
        let er : drop 1 text ≡ rest = got_rest k in
        let t : text ≡ front text ∷ drop 1 text = front_cons text (omega arith) in
        record {
          some = omega arith;
          small = omega arith;
          is =
              ap (λ (x : List ℕ). decimal v ++ x) t
              ∙ sym (append_assoc (decimal v) (front text ∷ []) (drop 1 text))
              ∙ ap (λ (n : ℕ). decimal v ++ (n ∷ []) ++ drop 1 text) (sym b)
              ∙ ap (λ (x : List ℕ). x ++ drop 1 text) (sym (decimal_step v (front text - 48) h l (omega arith)))
              ∙ ap (λ (n : ℕ). decimal n ++ drop 1 text) ew
              ∙ ap (λ (x : List ℕ). decimal w ++ x) er;
        }
    step true false p q k = same k
    step false t p q k = same k

pub record Numbers (text : List ℕ) (n : ℕ) (rest : List ℕ) : Type 0 where
  pub small : n ≤ highest_pitch
  pub is : text ≡ decimal n ++ rest

pub number_right : (text : List ℕ) {n : ℕ} {rest : List ℕ} → number text ≡ got n rest → Numbers text n rest
unfolding number
number_right text {n} {rest} e = step (is_digit (front text)) (eqb (front text) 48) refl refl e
  where
    twice : (v : ℕ) (r : Read ℕ) → 1 ≤ v → v < 10 → text ≡ (48 + v) ∷ drop 1 text → more_digits v (drop 1 text) ≡ r → next r more_digits ≡ got n rest → Numbers text n rest
    twice v bad h l t p q = absurd (bad_got q)
    twice v (got w more) h l t p q =
        let a = more_right v (drop 1 text) h (omega arith) p in
        let b = more_right w more a.some a.small q in
        record { small = b.small; is = t ∙ ap (λ (x : List ℕ). x ++ drop 1 text) (sym (decimal_small v l)) ∙ a.is ∙ b.is }

    step : (s t : Bool) → is_digit (front text) ≡ s → eqb (front text) 48 ≡ t
        → cond s (cond t (got 0 (drop 1 text)) (next (more_digits (front text - 48) (drop 1 text)) more_digits)) bad ≡ got n rest → Numbers text n rest
    step false t p q k = absurd (bad_got k)
    step true true p q k =
        let f : front text ≡ 48 = eqb-true (front text) 48 q in
        let z : 0 ≡ n = got_value k in
        let r : drop 1 text ≡ rest = got_rest k in
        record {
          small = omega arith;
          is =
              front_cons text (omega arith)
              ∙ ap (λ (b : ℕ). b ∷ drop 1 text) f
              ∙ ap (λ (x : List ℕ). x ++ drop 1 text) (sym (decimal_small 0 (omega arith)))
              ∙ ap (λ (m : ℕ). decimal m ++ drop 1 text) z
              ∙ ap (λ (x : List ℕ). decimal n ++ x) r;
        }
    step true false p q k =
        let d = digit_some (front text) p in
        let lo : 48 ≤ front text = d.0 in
        let hi : front text ≤ 57 = d.1 in
        let z : 1 ≤ front text - 48 = not_zero (eqb-false (front text) 48 q) lo in
        let b : front text ≡ 48 + (front text - 48) = omega arith in
        twice (front text - 48) (more_digits (front text - 48) (drop 1 text)) z (omega arith) (front_cons text (omega arith) ∙ ap (λ (x : ℕ). x ∷ drop 1 text) b) refl k
      where
        not_zero : (front text ≡ 48 → ⊥) → 48 ≤ front text → 1 ≤ front text - 48
        not_zero f l = ⊎_elim (λ (e : 48 ≡ front text). absurd (f (sym e))) (λ g. omega arith) (eq-or-lt_of_le l)

-- ---- cells and notes

-- what a field may hold
abbrev pub IsValue : (rests : Bool) → ℕ → Type 0
IsValue true value = IsCell value
IsValue false value = IsNote value

pub record Cells (rests : Bool) (text : List ℕ) (value : ℕ) (rest : List ℕ) : Type 0 where
  pub right : IsValue rests value
  pub is : text ≡ cell_text value ++ rest

pub note_text : (n : ℕ) → n ≤ highest_pitch → cell_text n ≡ decimal n
note_text n h = rw (ne_eqb n rest_cell (λ e. omega arith))

pub cell_right : (rests : Bool) (text : List ℕ) {value : ℕ} {rest : List ℕ} → cell rests text ≡ got value rest → Cells rests text value rest
unfolding cell
cell_right false text {value} {rest} e =
    let n = number_right text e in
    record { right = n.small; is = n.is ∙ ap (λ (x : List ℕ). x ++ rest) (sym (note_text value n.small)) }
cell_right true text {value} {rest} e = step (eqb (front text) 45) refl e
  where
    step : (t : Bool) → eqb (front text) 45 ≡ t → cond t (got rest_cell (drop 1 text)) (number text) ≡ got value rest → Cells true text value rest
    step true p k =
        let f : front text ≡ 45 = eqb-true (front text) 45 p in
        let z : rest_cell ≡ value = got_value k in
        record {
          right = inr (sym z);
          is =
              front_cons text (omega arith)
              ∙ ap (λ (b : ℕ). b ∷ drop 1 text) f
              ∙ ap (λ (x : List ℕ). 45 ∷ x) (got_rest k)
              ∙ ap (λ (v : ℕ). cell_text v ++ rest) z;
        }
    step false p k =
        let n = number_right text k in
        record { right = inl n.small; is = n.is ∙ ap (λ (x : List ℕ). x ++ rest) (sym (note_text value n.small)) }

-- ---- fields

pub record Fielded (rests : Bool) (left : ℕ) (text values rest : List ℕ) : Type 0 where
  pub few : length values ≤ left
  pub right : Each (IsValue rests) values
  pub is : text ≡ fields_text values ++ rest

fields_none : (rests : Bool) (left : ℕ) (text : List ℕ) {values rest : List ℕ} → front text ≡ 10 → got [] (drop 1 text) ≡ got values rest → Fielded rests left text values rest
unfolding fields_text
fields_none rests left text {values} {rest} f k =
    subst (λ (vs : List ℕ). Fielded rests left text vs rest) (got_value k)
    (subst (λ (r : List ℕ). Fielded rests left text [] r) (got_rest k)
    (record { few = omega arith; right = tt; is = front_cons text (omega arith) ∙ ap (λ (b : ℕ). b ∷ drop 1 text) f }))

-- one field more: what it holds, and what stands behind it
fields_one : (rests : Bool) (left : ℕ) (text : List ℕ) (v : ℕ) {behind vs end : List ℕ} → front text ≡ 9 → Cells rests (drop 1 text) v behind
    → Fielded rests left behind vs end → Fielded rests (suc left) text (v ∷ vs) end
unfolding fields_text
fields_one rests left text v {behind} {vs} {end} f c d =
    record {
      few = omega (arith, d.few);
      right = (c.right, d.right);
      is =
          front_cons text (omega arith)
          ∙ ap (λ (b : ℕ). b ∷ drop 1 text) f
          ∙ ap (λ (x : List ℕ). 9 ∷ x) (c.is ∙ ap (λ (x : List ℕ). cell_text v ++ x) d.is ∙ sym (append_assoc (cell_text v) (fields_text vs) end));
    }

fields_more : (rests : Bool) (left : ℕ) (text : List ℕ) {values rest : List ℕ}
    → ((behind vs end : List ℕ) → fields rests left behind ≡ got vs end → Fielded rests left behind vs end) → fields rests (suc left) text ≡ got values rest
    → Fielded rests (suc left) text values rest
unfolding fields
fields_more rests left text {values} {rest} ih e = step (eqb (front text) 10) (eqb (front text) 9) refl refl e
  where
    more : (v : ℕ) (behind : List ℕ) (r : Read (List ℕ)) → Cells rests (drop 1 text) v behind → fields rests left behind ≡ r → front text ≡ 9
        → next r (λ vs end. got (v ∷ vs) end) ≡ got values rest → Fielded rests (suc left) text values rest
    more v behind bad c p f k = absurd (bad_got k)
    more v behind (got vs end) c p f k =
        subst (λ (ws : List ℕ). Fielded rests (suc left) text ws rest) (got_value k)
        (subst (λ (x : List ℕ). Fielded rests (suc left) text (v ∷ vs) x) (got_rest k) (fields_one rests left text v f c (ih behind vs end p)))

    first : (r : Read ℕ) → cell rests (drop 1 text) ≡ r → front text ≡ 9
        → next r (λ value behind. next (fields rests left behind) (λ vs end. got (value ∷ vs) end)) ≡ got values rest → Fielded rests (suc left) text values rest
    first bad p f k = absurd (bad_got k)
    first (got v behind) p f k = more v behind (fields rests left behind) (cell_right rests (drop 1 text) p) refl f k

    step : (s t : Bool) → eqb (front text) 10 ≡ s → eqb (front text) 9 ≡ t
        → cond s (got [] (drop 1 text)) (cond t (next (cell rests (drop 1 text)) (λ value behind. next (fields rests left behind) (λ vs end. got (value ∷ vs) end))) bad) ≡ got values rest
        → Fielded rests (suc left) text values rest
    step true t p q k = fields_none rests (suc left) text (eqb-true (front text) 10 p) k
    step false true p q k = first (cell rests (drop 1 text)) refl (eqb-true (front text) 9 q) k
    step false false p q k = absurd (bad_got k)

fields_zero : (rests : Bool) (text : List ℕ) {values rest : List ℕ} → fields rests 0 text ≡ got values rest → Fielded rests 0 text values rest
unfolding fields
fields_zero rests text {values} {rest} e = step (eqb (front text) 10) refl e
  where
    step : (t : Bool) → eqb (front text) 10 ≡ t → cond t (got [] (drop 1 text)) bad ≡ got values rest → Fielded rests 0 text values rest
    step true p k = fields_none rests 0 text (eqb-true (front text) 10 p) k
    step false p k = absurd (bad_got k)

pub fields_right : (rests : Bool) (left : ℕ) (text : List ℕ) {values rest : List ℕ} → fields rests left text ≡ got values rest → Fielded rests left text values rest
fields_right rests zero text e = fields_zero rests text e
fields_right rests (suc left) text e = fields_more rests left text (λ behind vs end q. fields_right rests left behind q) e
