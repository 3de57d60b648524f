-- What is written. Where codes fit they are the ones that are written (`puts_fitting`), otherwise none; a word's codes; the code of one
-- start. The place behind and both buffers are settled (`puts_unique`). Assumes nothing.
use mathlib.Core.Path.{◌≡◌, refl, sym, ◌∙◌}
use mathlib.Core.Bool.{Bool, true, false, ◌&&◌, cond}
use mathlib.Core.List.{List, [], ◌∷◌}
use Prim.Native.Nat.{ℕ, ◌+◌, ◌^◌, ◌≤◌, ◌<◌}
use native.Mathlib.Omega.{arith}
use lib.Count.{ones}
use lib.Dec.{leb}
use lib.IntN.{ℤ}
use lib.ListN.{length}
use borrow.Author.Tests.{le-leb, lt-leb}
use Rattle.theory.proofs.Marks.{marks_zero, marks_ones}
use Rattle.score.specs.declared.quantities.Pitch.{Pitch}
use Rattle.ways.specs.declared.way.Way.{Way}
use Rattle.ways.specs.declared.way.Way.TheVariants.{Exact, Octave}
use Rattle.masks.specs.Masks.{low_code}
use Rattle.hits.specs.Writing.{codes_of, word_codes, start_codes, fitting, Puts}

-- ---- what fits

abbrev none : List ℕ
none = []

cond_nil : (b : Bool) → cond b none none ≡ none
cond_nil true = refl
cond_nil false = refl

module _ (at : ℕ) (columns : List ℕ) (shifts : List ℤ) where
  pub fitting_nil : fitting [] at columns shifts ≡ []
  unfolding fitting
  fitting_nil = cond_nil (leb (at + 0) (length columns) && leb (at + 0) (length shifts))

  module _ (codes : List ℕ) where
    pub fitting_all : at + length codes ≤ length columns → at + length codes ≤ length shifts → fitting codes at columns shifts ≡ codes
    unfolding fitting
    fitting_all a b = rw (le-leb _ _ a, le-leb _ _ b)

    pub fitting_none : (leb (at + length codes) (length columns) && leb (at + length codes) (length shifts)) ≡ false → fitting codes at columns shifts ≡ []
    unfolding fitting
    fitting_none e = rw e

    pub fitting_cond : (b : Bool) → fitting codes at columns shifts ≡ [] → fitting (cond b codes []) at columns shifts ≡ []
    fitting_cond true e = e
    fitting_cond false e = fitting_nil

    -- where they fit, they are what is written
    pub puts_fitting : (way : Way) (j at' : ℕ) (columns' : List ℕ) (shifts' : List ℤ) → at + length codes ≤ length columns → at + length codes ≤ length shifts
        → Puts way j (fitting codes at columns shifts) at columns shifts at' columns' shifts' → Puts way j codes at columns shifts at' columns' shifts'
    puts_fitting way j at' columns' shifts' a b p = rw (fitting_all a b) at p

  -- no codes, nothing written
  pub puts_nil : (way : Way) (j : ℕ) (written : List ℕ) → written ≡ [] → Puts way j written at columns shifts at columns shifts
  puts_nil way j written e = record { count = rw e (omega arith); in_columns = rw e; in_shifts = rw e }

  pub puts_unique : (way : Way) (j : ℕ) (written : List ℕ) {a b : ℕ} {c d : List ℕ} {s t : List ℤ}
      → Puts way j written at columns shifts a c s → Puts way j written at columns shifts b d t → (a ≡ b) × (c ≡ d) × (s ≡ t)
  puts_unique way j written p q = (p.count ∙ sym q.count, p.in_columns ∙ sym q.in_columns, p.in_shifts ∙ sym q.in_shifts)

-- ---- the codes of a word

pub low_code_le : (way : Way) (first : Pitch) → low_code way first ≤ 127
low_code_le Exact first = omega arith
low_code_le Octave first = omega arith

pub codes_none : (way : Way) (first : Pitch) → codes_of way first 0 ≡ []
codes_none way first = marks_zero 128 (low_code way first)

module _ (way : Way) (first : Pitch) (word : ℕ) where
  -- as many as the word has ones
  pub codes_length : word < 2 ^ 128 → length (codes_of way first word) ≡ ones word
  codes_length h = marks_ones 128 (low_code way first) word h

  pub word_codes_lem : first.0 ≤ 127 → word_codes way first word ≡ codes_of way first word
  word_codes_lem h = rw (le-leb _ _ h)

  pub word_none : 127 < first.0 → word_codes way first word ≡ []
  word_none h = rw (lt-leb _ _ h)

  -- all of a word's codes are written where there is room for them
  pub puts_word : word < 2 ^ 128 → first.0 ≤ 127 → (j at : ℕ) (columns : List ℕ) (shifts : List ℤ)
      → at + ones word ≤ length columns → at + ones word ≤ length shifts → (at' : ℕ) (columns' : List ℕ) (shifts' : List ℤ)
      → Puts way j (fitting (word_codes way first word) at columns shifts) at columns shifts at' columns' shifts'
      → Puts way j (codes_of way first word) at columns shifts at' columns' shifts'
  puts_word h f j at columns shifts a b at' columns' shifts' p =
      let n = codes_length h in
      puts_fitting at columns shifts (codes_of way first word) way j at' columns' shifts' (omega (arith, n)) (omega (arith, n)) (rw (word_codes_lem f) at p)

-- ---- the code of one start

module _ (way : Way) (j at : ℕ) (columns : List ℕ) (shifts : List ℤ) (code at' : ℕ) (columns' : List ℕ) (shifts' : List ℤ) where
  -- a hit is written where there is room for one more
  pub puts_hit : code ≤ 255 → at < length columns → at < length shifts → Puts way j (fitting (start_codes true code) at columns shifts) at columns shifts at' columns' shifts'
      → Puts way j (code ∷ []) at columns shifts at' columns' shifts'
  puts_hit c a b p = puts_fitting at columns shifts (code ∷ []) way j at' columns' shifts' (omega arith) (omega arith) (rw (le-leb code 255 c) at p)

  -- and what is none is not
  pub puts_miss : Puts way j (fitting (start_codes false code) at columns shifts) at columns shifts at' columns' shifts' → Puts way j [] at columns shifts at' columns' shifts'
  puts_miss p = rw (fitting_nil at columns shifts) at p
