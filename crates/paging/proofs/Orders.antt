-- Pairs in order: each stands before all those after it, so none is there twice (`ordered_once`), and what passes a test is in order too
-- (`ordered_hits`). Assumes nothing.
use mathlib.Core.Path.{refl, sym, ◌∙◌, subst}
use mathlib.Core.Bool.{Bool, true, false, cond}
use mathlib.Core.Logic.{inl, inr}
use mathlib.Core.List.Memᴰ
use mathlib.Core.List.Memᴰ.{head as at_head}
use mathlib.Core.List.Memᴰ.{not-nil}
use mathlib.Core.List.Memᴰ.{tail as in_Tail}
use mathlib.Core.List.{List, [], ◌∷◌, ◌++◌, map, Memᴰ as In}
use native.Mathlib.Omega.{arith}
use lib.Signed.{<ℤ_irrefl}
use Rattle.theory.specs.Pages.{hits}
use Rattle.theory.proofs.Integers.{ltℤ_trans}
use Rattle.theory.proofs.Members.{in_hits}
use Rattle.ways.specs.declared.bookmark.Pair.{Pair}
use Rattle.paging.specs.Order.{Before, Ordered, none, one, more}

pub before_trans : (a b c : Pair) → Before a b → Before b c → Before a c
before_trans a b c (inl p) (inl q) = inl (omega arith)
before_trans a b c (inl p) (inr q) = inl (let e = q.0 in omega arith)
before_trans a b c (inr p) (inl q) = inl (let e = p.0 in omega arith)
before_trans a b c (inr p) (inr q) = inr (p.0 ∙ q.0, ltℤ_trans a.shift b.shift c.shift p.1 q.1)

pub before_other : (a : Pair) → Before a a → ⊥
before_other a (inl p) = omega arith
before_other a (inr p) = <ℤ_irrefl p.1

pub ordered_before : (a : Pair) (list : List Pair) {b : Pair} → Ordered (a ∷ list) → In b list → Before a b
ordered_before a [] o m = absurd (not-nil m)
ordered_before a (c ∷ list) {b} o m = step o m (λ d. ordered_before c list)
  where
    step : Ordered (a ∷ c ∷ list) → In b (c ∷ list) → ((d : Pair) → Ordered (c ∷ list) → In d list → Before c d) → Before a b
    step (more p o') (at_head e) ih = subst (Before a) (sym e) p
    step (more p o') (in_Tail k) ih = before_trans a c b p (ih b o' k)

-- so no pair is in an ordered list twice
pub ordered_once : (a : Pair) (list : List Pair) → Ordered (a ∷ list) → In a list → ⊥
ordered_once a list o m = before_other a (ordered_before a list o m)

-- ---- what passes a test

pub ordered_tail : {a : Pair} (list : List Pair) → Ordered (a ∷ list) → Ordered list
ordered_tail [] o = none
ordered_tail (b ∷ list) (more p o) = o

ordered_cons : (a : Pair) (list : List Pair) → ((b : Pair) → In b list → Before a b) → Ordered list → Ordered (a ∷ list)
ordered_cons a [] f o = one
ordered_cons a (b ∷ list) f o = more (f b (at_head refl)) o

pub ordered_behind : (before behind : List Pair) → Ordered (before ++ behind) → Ordered behind
ordered_behind [] behind o = o
ordered_behind (a ∷ before) behind o = ordered_behind before behind (ordered_tail (before ++ behind) o)

pub ordered_hits : {A : Type 0} (keep : A → Bool) (shown : A → Pair) (xs : List A) → Ordered (map shown xs) → Ordered (map shown (hits keep xs))
ordered_hits keep shown [] o = o
ordered_hits {A} keep shown (x ∷ xs) o = step (keep x) (ordered_hits keep shown xs (ordered_tail (map shown xs) o))
  where
    later : (b : Pair) → In b (map shown (hits keep xs)) → Before (shown x) b
    later b m =
        let t = Memᴰ.of_map shown (hits keep xs) m in
        subst (Before (shown x)) t.2 (ordered_before (shown x) (map shown xs) o (Memᴰ.map shown (in_hits keep xs t.1).0))

    step : (t : Bool) → Ordered (map shown (hits keep xs)) → Ordered (map shown (cond t (x ∷ hits keep xs) (hits keep xs)))
    step true ih = ordered_cons (shown x) (map shown (hits keep xs)) later ih
    step false ih = ih
