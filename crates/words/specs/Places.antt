-- What is promised of a place of a text: what is seen and read there, as what `Words` reads of the text from there on. The
-- definition that matters is `Numbered`. Assumes nothing.
use Rattle.std.specs.Prelude.{◌≡◌, false, true, List, ℕ, ◌+◌, ◌≤◌, ◌<◌, length, drop, Option, Some, None, MatchOption}
use Rattle.words.specs.declared.numbers.Numeral.{Numeral}
use Rattle.words.specs.Words.{Read, got, bad, front, is_digit}

-- the byte at a place is a digit, whose number this is, and stands within the text
pub record IsDigit (text : List ℕ) (at d : ℕ) : Type 0 where
  pub digit : is_digit (front (drop at text)) ≡ true
  pub byte : front (drop at text) ≡ 48 + d
  pub within : at < length text

-- the digit at a place, or none
abbrev pub DigitAt : (text : List ℕ) (at : ℕ) → Option ℕ → Type 0
DigitAt text at r = MatchOption r (is_digit (front (drop at text)) ≡ false) (IsDigit text at)

-- ---- what an answer stands for: the value, and what is left of the text

abbrev pub number_read : (text : List ℕ) → Option Numeral → Read ℕ
number_read text (Some n) = got n.value (drop n.next text)
number_read text None = bad

abbrev pub number_next : Option Numeral → ℕ
number_next (Some n) = n.next
number_next None = 0

pub record Numbered (text : List ℕ) (r : Option Numeral) (want : Read ℕ) : Type 0 where
  pub is : number_read text r ≡ want
  pub within : number_next r ≤ length text
