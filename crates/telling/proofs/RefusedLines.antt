-- A refused line tells its number: two with one text have one number (`refused_same`), and no search is told by one
-- (`refused_other`). The idea: the digits of a number, read back, are the number; and a refused line has a first letter of its
-- own. Assumes nothing.
use mathlib.Core.Path.{◌≡◌, refl, ap, ◌∙◌}
use mathlib.Core.Bool.{Bool, true, false, cond}
use mathlib.Core.List.{List, [], ◌∷◌, ◌++◌}
use Prim.Native.Nat.{ℕ, zero, suc, ◌+◌, ◌-◌, ◌*◌, ◌/◌, ◌%◌}
use native.Mathlib.Omega.{arith}
use lib.Dec.{ltb}
use lib.ListN.{length, get_or, drop}
use Rattle.ways.specs.declared.way.AnyWay.{AnyWay}
use Rattle.ways.specs.declared.bookmark.Pair.{Pair}
use Rattle.search.specs.Pairs.{pairs_as}
use Rattle.telling.specs.Text.{digits, decimal}
use Rattle.telling.specs.Lines.{hit_line, end_line, refused_line, hit_lines, told_looks, lines_of}

-- ---- digits read back

-- the number so far, and then digits
value_on : ℕ → List ℕ → ℕ
value_on v [] = v
value_on v (d ∷ ds) = value_on (v * 10 + (d - 48)) ds

value_append : (v : ℕ) (l : List ℕ) (d : ℕ) → value_on v (l ++ (d ∷ [])) ≡ value_on v l * 10 + (d - 48)
unfolding value_on
value_append v [] d = refl
value_append v (c ∷ l) d = value_append (v * 10 + (c - 48)) l d

value_one : (n : ℕ) → value_on 0 ((48 + n) ∷ []) ≡ n
unfolding value_on
value_one n = omega arith

value_digits : (more n : ℕ) → value_on 0 (digits more n) ≡ n
unfolding digits
value_digits zero n = value_one n
value_digits (suc more) n = step (ltb n 10) (value_digits more (n / 10))
  where
    step : (t : Bool) → value_on 0 (digits more (n / 10)) ≡ n / 10
        → value_on 0 (cond t ((48 + n) ∷ []) (digits more (n / 10) ++ ((48 + n % 10) ∷ []))) ≡ n
    step true ih = value_one n
    step false ih = value_append 0 (digits more (n / 10)) (48 + n % 10) ∙ omega (arith, ih)

-- ---- the line

-- what stands behind `refused`, 11 and the tabs
refused_behind : (n : ℕ) → drop 11 (refused_line n) ≡ decimal n ++ (10 ∷ [])
unfolding refused_line digits
refused_behind n = refl

refused_value : (n : ℕ) → value_on 0 (drop 11 (refused_line n)) ≡ n * 10
refused_value n = ap (value_on 0) (refused_behind n) ∙ value_append 0 (decimal n) 10 ∙ omega (arith, value_digits 9 n)

pub refused_same : {m n : ℕ} → refused_line m ≡ refused_line n → m ≡ n
refused_same {m} {n} e =
    let k : value_on 0 (drop 11 (refused_line m)) ≡ value_on 0 (drop 11 (refused_line n)) =
    ap (λ (l : List ℕ). value_on 0 (drop 11 l)) e in
    omega (arith, k, refused_value m, refused_value n)

-- ---- and no other

refused_front : (n : ℕ) → get_or (refused_line n) 0 0 ≡ 114
unfolding refused_line
refused_front n = refl

hits_front : (list : List Pair) (found looks : ℕ) → get_or (hit_lines list ++ end_line found looks) 0 0 ≡ 114 → ⊥
unfolding hit_line end_line
hits_front [] found looks e = omega arith
hits_front (pair ∷ list) found looks e = omega arith

pub refused_other : (way : AnyWay) (score : List (List ℕ)) (theme : List ℕ) (n : ℕ) → lines_of way score theme ≡ refused_line n → ⊥
unfolding lines_of
refused_other way score theme n e =
    hits_front (pairs_as way score theme) (length (pairs_as way score theme)) (told_looks way score theme)
    (ap (λ (l : List ℕ). get_or l 0 0) e ∙ refused_front n)
