-- What is read at a place of the text, step by step, as the definitions read what is left of the text from there: one digit,
-- one digit more, a number, a cell. The idea: what is left behind a place is what is left behind the next place but for the
-- byte at the front. Assumes nothing.
use mathlib.Core.Path.{◌≡◌, refl, sym, ap, ◌∙◌}
use mathlib.Core.Bool.{Bool, true, false, ◌&&◌, true≢false}
use mathlib.Core.List.{List}
use Prim.Native.Nat.{ℕ, ◌+◌, ◌-◌, ◌*◌, ◌≤◌, ◌<◌}
use native.Mathlib.Nat.{add-zero}
use native.Mathlib.Omega.{arith}
use denote.Ref.{Bor}
use lib.Dec.{leb, eqb}
use lib.ListN.{length, get_or, drop, length-drop, drop_of_length-le}
use lib.Seq.{drop-drop, get_or-drop}
use borrow.Author.Tests.{leb-true, le-leb, lt-leb, eq-eqb, ne_eqb, eqb-true, eqb-false}
use Rattle.std.specs.Prelude.{Option, Some, None}
use Rattle.std.specs.Option.{option_eq, option_copied}
use Rattle.std.specs.Slice.{IsItemAt}
use Rattle.score.specs.Limits.{highest_pitch, rest_cell}
use Rattle.words.specs.declared.numbers.Numeral.{Numeral}
use Rattle.words.specs.Words.{Read, got, bad, next, front, is_digit, more_digits, number, cell}
use Rattle.words.specs.Places.{IsDigit, Numbered}

-- ---- what was read

pub bad_got : {A : Type 0} {a : A} {rest : List ℕ} → bad ≡ got a rest → ⊥
bad_got e = let z : ◌≡◌ {A = ℕ} 0 1 = cc in omega arith

pub got_value : {A : Type 0} {a b : A} {r s : List ℕ} → got a r ≡ got b s → a ≡ b
got_value e = cc

pub got_rest : {A : Type 0} {a b : A} {r s : List ℕ} → got a r ≡ got b s → r ≡ s
got_rest e = cc

-- a value, and the place behind it
abbrev pub numeral : ℕ → ℕ → Option Numeral
numeral v here = Some (record { value = v; next = here })

-- ---- one byte

pub front_at : (text : List ℕ) (at : ℕ) → front (drop at text) ≡ get_or text at 0
front_at text at = get_or-drop at text 0 0 ∙ ap (λ (n : ℕ). get_or text n 0) (add-zero at)

pub drop_more : (text : List ℕ) (at : ℕ) → drop 1 (drop at text) ≡ drop (at + 1) text
drop_more text at = drop-drop 1 at text

-- whether it is this one, as the library compares them
module _ (text : List ℕ) (at b : ℕ) where
  pub seen : (r : Option (Bor ℕ)) → IsItemAt text at r → option_eq eqb (option_copied r) (Some b) ≡ true
      → (front (drop at text) ≡ b) × (at < length text)
  seen (Some x) i e = (front_at text at ∙ sym (i.3.1 0) ∙ eqb-true x.now b e, i.3.0)
  seen None i e = absurd (true≢false (sym e))

  pub unseen : 1 ≤ b → (r : Option (Bor ℕ)) → IsItemAt text at r → option_eq eqb (option_copied r) (Some b) ≡ false
      → front (drop at text) ≡ b → ⊥
  unseen h (Some x) i e f = eqb-false x.now b e (i.3.1 0 ∙ sym (front_at text at) ∙ f)
  unseen h None i e f = let z : front (drop at text) ≡ 0 = ap front (drop_of_length-le text i.3) in omega arith

-- ---- digits

pub digit_some : (b : ℕ) → is_digit b ≡ true → (48 ≤ b) × (b ≤ 57)
digit_some b e = step (leb 48 b) (leb b 57) refl refl e
  where
    step : (s t : Bool) → leb 48 b ≡ s → leb b 57 ≡ t → (s && t) ≡ true → (48 ≤ b) × (b ≤ 57)
    step true true p q r = (leb-true 48 b p, leb-true b 57 q)
    step true false p q r = let z : ◌≡◌ {A = Bool} true false = cc in absurd (true≢false z)
    step false t p q r = let z : ◌≡◌ {A = Bool} true false = cc in absurd (true≢false z)

module _ (text : List ℕ) (at v : ℕ) where
  pub digits_none : is_digit (front (drop at text)) ≡ false → at ≤ length text
      → Numbered text (numeral v at) (more_digits v (drop at text))
  unfolding more_digits
  digits_none e h = record { is = rw e; within = h }

  module _ {d : ℕ} (s : IsDigit text at d) where
    digit_is : front (drop at text) - 48 ≡ d
    digit_is = omega (arith, s.byte)

    pub digits_large : highest_pitch < v * 10 + d → at ≤ length text → Numbered text (numeral v at) (more_digits v (drop at text))
    unfolding more_digits
    digits_large l h = record { is = rw (s.digit, digit_is, lt-leb (v * 10 + d) highest_pitch l); within = h }

    pub digits_one : v * 10 + d ≤ highest_pitch → Numbered text (numeral (v * 10 + d) (at + 1)) (more_digits v (drop at text))
    unfolding more_digits
    digits_one l =
        record {
          is = rw (s.digit, digit_is, le-leb (v * 10 + d) highest_pitch l, drop_more text at);
          within = omega (arith, s.within);
        }

-- ---- a number, and a cell

module _ (text : List ℕ) (at : ℕ) where
  pub number_bad : is_digit (front (drop at text)) ≡ false → Numbered text None (number (drop at text))
  unfolding number
  number_bad e = record { is = rw e; within = omega arith }

  module _ {d : ℕ} (s : IsDigit text at d) where
    pub number_zero : d ≡ 0 → Numbered text (numeral 0 (at + 1)) (number (drop at text))
    unfolding number
    number_zero e =
        record {
          is = rw (s.digit, eq-eqb (front (drop at text)) 48 (omega (arith, s.byte)), drop_more text at);
          within = omega (arith, s.within);
        }

    module _ (n : d ≡ 0 → ⊥) where
      number_on : number (drop at text) ≡ next (more_digits d (drop (at + 1) text)) more_digits
      unfolding number
      number_on =
          let not48 = λ (e : front (drop at text) ≡ 48). n (omega (arith, s.byte)) in
          let digit_is : front (drop at text) - 48 ≡ d = omega (arith, s.byte) in
          rw (s.digit, ne_eqb (front (drop at text)) 48 not48, digit_is, drop_more text at)

      pub number_more : {two : Numeral} → Numbered text (Some two) (more_digits d (drop (at + 1) text)) → {r : Option Numeral}
          → Numbered text r (more_digits two.value (drop two.next text)) → Numbered text r (number (drop at text))
      number_more f g = record { is = g.is ∙ ap (λ (q : Read ℕ). next q more_digits) f.is ∙ sym number_on; within = g.within }

module _ (text : List ℕ) (at : ℕ) where
  pub cell_rest : (rests : Bool) → rests ≡ true → front (drop at text) ≡ 45 → at < length text
      → Numbered text (numeral rest_cell (at + 1)) (cell rests (drop at text))
  unfolding cell
  cell_rest rests t e h = record { is = rw (t, eq-eqb (front (drop at text)) 45 e, drop_more text at); within = omega arith }

  -- no rest is there, or none may stand there
  pub rest_none : (rests : Bool) → (rests ≡ true → front (drop at text) ≡ 45 → ⊥)
      → (rests && eqb (front (drop at text)) 45) ≡ false
  rest_none true n = ne_eqb (front (drop at text)) 45 (n refl)
  rest_none false n = refl

  pub cell_number : (rests : Bool) {r : Option Numeral} → (rests && eqb (front (drop at text)) 45) ≡ false
      → Numbered text r (number (drop at text))
      → Numbered text r (cell rests (drop at text))
  unfolding cell
  cell_number rests e n = record { is = n.is ∙ rw e; within = n.within }

-- ---- one answer meets the promise

pub numbered_unique : {text : List ℕ} {want : Read ℕ} (r s : Option Numeral) → Numbered text r want → Numbered text s want → r ≡ s
numbered_unique None None p q = refl
numbered_unique None (Some m) p q = absurd (bad_got (p.is ∙ sym q.is))
numbered_unique (Some n) None p q = absurd (bad_got (q.is ∙ sym p.is))
numbered_unique {text} (Some n) (Some m) p q =
    let e : got n.value (drop n.next text) ≡ got m.value (drop m.next text) = p.is ∙ sym q.is in
    let same : n.next ≡ m.next = omega (arith, ap length (got_rest e), length-drop n.next text, length-drop m.next text, p.within, q.within) in
    let value : n.value ≡ m.value = got_value e in
    ap (λ (v : ℕ). numeral v n.next) value ∙ ap (numeral m.value) same
