-- How long lines are: a number below 10 ^ k has at most k digits, the line of a pair at most 14 bytes, the line behind them at
-- most 18, the line of a refused input at most 22. Assumes nothing.
use mathlib.Core.Path.{◌≡◌, refl}
use mathlib.Core.Bool.{Bool, true, false, cond}
use mathlib.Core.List.Memᴰ.{head as at_head}
use mathlib.Core.List.Memᴰ.{tail as in_Tail}
use mathlib.Core.List.{List, [], ◌∷◌, ◌++◌, map, Memᴰ as In}
use Prim.Native.Nat.{ℕ, zero, suc, ◌+◌, ◌-◌, ◌*◌, ◌/◌, ◌%◌, ◌^◌, ◌≤◌, ◌<◌}
use native.Mathlib.Nat.{pow-suc, suc-mul}
use native.Mathlib.Omega.{arith}
use lib.Dec.{ltb}
use lib.IntN.{ℤ, pos, negsuc, nat_abs}
use lib.ListN.{length, length-append}
use borrow.Author.Tests.{ltb-true, ltb-false}
use Rattle.ways.specs.declared.way.Way.{Way}
use Rattle.ways.specs.declared.way.Way.TheVariants.{Exact, Octave}
use Rattle.ways.specs.declared.bookmark.Pair.{Pair}
use Rattle.ways.specs.Way.{span, shift_of}
use Rattle.telling.specs.Text.{digits, decimal, signed, line, hit_word, end_word, refused_word}
use Rattle.telling.specs.Lines.{hit_line, end_line, refused_line, hit_lines}

digits_le : (more k n : ℕ) → n < 10 ^ suc k → length (digits more n) ≤ suc k
unfolding digits
digits_le zero k n h = omega arith
digits_le (suc more) zero n h = step (ltb n 10) refl
  where
    step : (t : Bool) → ltb n 10 ≡ t → length (cond t ((48 + n) ∷ []) (digits more (n / 10) ++ ((48 + n % 10) ∷ []))) ≤ 1
    step true e = omega arith
    step false e = absurd (omega (arith, ltb-false n 10 e, h, pow-suc 10 0))
digits_le (suc more) (suc k) n h = step (ltb n 10) (digits_le more k (n / 10) (omega (arith, pow-suc 10 (suc k))))
  where
    step : (t : Bool) → length (digits more (n / 10)) ≤ suc k → length (cond t ((48 + n) ∷ []) (digits more (n / 10) ++ ((48 + n % 10) ∷ []))) ≤ suc (suc k)
    step true p = omega arith
    step false p = omega (arith, length-append (digits more (n / 10)) ((48 + n % 10) ∷ []))

pub decimal_le : (k n : ℕ) → n < 10 ^ suc k → length (decimal n) ≤ suc k
decimal_le k n h = digits_le 9 k n h

signed_le : (z : ℤ) → nat_abs z ≤ 127 → length (signed z) ≤ 4
signed_le (pos n) h = let l : n ≤ 127 = h in omega (arith, decimal_le 2 n (omega arith))
signed_le (negsuc n) h = let l : suc n ≤ 127 = h in omega (arith, decimal_le 2 (suc n) (omega arith))

-- ---- lines

line_length : (word a b : List ℕ) → length (line word a b) ≡ length word + length a + length b + 3
line_length word a b =
    omega (
      arith,
      length-append word (9 ∷ (a ++ (9 ∷ (b ++ (10 ∷ []))))),
      length-append a (9 ∷ (b ++ (10 ∷ []))),
      length-append b (10 ∷ []),
    )

pub hit_le : (pair : Pair) → pair.column.0 < 10000 → nat_abs pair.shift ≤ 127 → length (hit_line pair) ≤ 14
unfolding hit_line
hit_le pair c s =
    omega (arith, line_length hit_word (decimal pair.column.0) (signed pair.shift), decimal_le 3 pair.column.0 c, signed_le pair.shift s)

pub end_le : (found looks : ℕ) → found < 100000 → looks < 10000000 → length (end_line found looks) ≤ 18
unfolding end_line
end_le found looks f l = omega (arith, line_length end_word (decimal found) (decimal looks), decimal_le 4 found f, decimal_le 6 looks l)

pub refused_le : (n : ℕ) → n < 2 ^ 32 → length (refused_line n) ≤ 22
unfolding refused_line
refused_le n h = omega (arith, line_length refused_word (decimal 11) (decimal n), decimal_le 1 11 (omega arith), decimal_le 9 n (omega arith))

-- ---- the shifts of a way

size_le : (t : Bool) (p q : ℕ) → (t ≡ true → p < 127) → (t ≡ false → q ≤ 127) → nat_abs (cond t (negsuc p) (pos q)) ≤ 127
size_le true p q f g = let l = f refl in omega arith
size_le false p q f g = g refl

pub shift_le : (way : Way) (code : ℕ) → code < span way → nat_abs (shift_of way code) ≤ 127
shift_le Exact code h = size_le (ltb code 127) (127 - suc code) (code - 127) (λ e. let l : code < 127 = ltb-true code 127 e in omega arith) (λ e. omega arith)
shift_le Octave code h = omega arith

-- ---- all lines of some starts, each of which shows a pair

pub lines_le : {Start : Type 0} (shown : Start → Pair) (xs : List Start)
    → ((s : Start) → In s xs → ((shown s).column.0 < 10000) × (nat_abs (shown s).shift ≤ 127)) → length (hit_lines (map shown xs)) ≤ length xs * 14
lines_le shown [] f = omega arith
lines_le shown (s ∷ xs) f =
    let here = f s (at_head refl) in
    omega (
      arith,
      length-append (hit_line (shown s)) (hit_lines (map shown xs)),
      hit_le (shown s) here.0 here.1,
      lines_le shown xs (λ p m. f p (in_Tail m)),
      suc-mul (length xs) 14,
    )
