-- An input is told faulty at line n exactly where lines 1 to n - 1 are right and line n is faulty or missing (`meaning_fault`);
-- it means a request exactly where every line is right and they state that request (`meaning_request`); one of the two holds of
-- every input, and of one n only (`fault_or_right`, `fault_not_right`, `fault_unique`). Of the call's answer `AnswersByLines`
-- says the same. The idea: what is read of the text is what is read of each line alone; and there is only one first fault.
-- Assumes nothing.
use mathlib.Core.Path.{◌≡◌, sym, ap, ◌∙◌, subst}
use mathlib.Core.Logic.{◌⊎◌, inl, inr, ⊎_elim, ◌↔◌}
use mathlib.Core.List.{List, []}
use Prim.Native.Nat.{ℕ, ◌+◌, ◌-◌, ◌≤◌, ◌<◌}
use native.Mathlib.Decide.{dec_lt}
use native.Mathlib.Omega.{arith}
use lib.ListN.{length, get_or}
use lib.Seq.{ext_get_or}
use Rattle.reading.specs.Reading.{Theme}
use Rattle.reading.specs.Request.{Request, Meaning, right, faulty, meaning}
use Rattle.reading.specs.Lines.{lines, RightLine, FaultyLine, MissingLine, FirstFault, AllRight, Stated}
use Rattle.words.proofs.Places.{got_value}
use Rattle.reading.proofs.LinesSaid.{Said, right_said, fault_said, meaning_said}

-- ---- there is one first fault, and none where every line is right

fault_right : {all : List (List ℕ)} {n : ℕ} → FaultyLine all n ⊎ MissingLine all n → RightLine all n → ⊥
fault_right (inl f) r = f.wrong r
fault_right (inr m) r = omega (arith, m.ends, r.there)

fault_some : {all : List (List ℕ)} {n : ℕ} → FaultyLine all n ⊎ MissingLine all n → 1 ≤ n
fault_some (inl f) = f.numbered
fault_some (inr m) = m.numbered

fault_le : {all : List (List ℕ)} {m n : ℕ} → FirstFault all m → FirstFault all n → n ≤ m
fault_le {m = m} {n = n} p q = pick (dec_lt m n)
  where
    pick : Dec (m < n) → n ≤ m
    pick (yes l) = absurd (fault_right p.here (q.before m (fault_some p.here) l))
    pick (no l) = omega arith

pub fault_unique : {all : List (List ℕ)} {m n : ℕ} → FirstFault all m → FirstFault all n → m ≡ n
fault_unique p q = omega (arith, fault_le p q, fault_le q p)

pub fault_not_right : {all : List (List ℕ)} {n : ℕ} → AllRight all → FirstFault all n → ⊥
fault_not_right {n = n} r f = ⊎_elim (λ w. w.wrong (r.each n w.numbered w.there)) (λ m. r.enough n m) f.here

-- ---- the theorems

-- lines state one request
stated_unique : {lines : List (List ℕ)} {p q : Request} → Stated lines p → Stated lines q → p ≡ q
stated_unique {lines} {p} {q} s t =
    same p.theme q.theme p.columns q.columns (got_value (sym s.theme ∙ t.theme)) columns
  where
    at : (i : ℕ) → i < length p.columns → get_or p.columns i [] ≡ get_or q.columns i []
    at i l =
        let e : i + 1 - 1 ≡ i = omega arith in
        let m : i + 1 ≤ length q.columns = omega (arith, s.count, t.count) in
        rw e at (got_value (sym (s.column (i + 1) (omega arith) (omega arith)) ∙ t.column (i + 1) (omega arith) m))

    columns : p.columns ≡ q.columns
    columns = ext_get_or [] p.columns q.columns (omega (arith, s.count, t.count)) at

    same : (a b : Theme) (c d : List (List ℕ)) → a ≡ b → c ≡ d
        → ◌≡◌ {A = Request} (record { theme = a; columns = c }) (record { theme = b; columns = d })
    same a b c d e f = cc

faulty_same : {m n : ℕ} → faulty m ≡ faulty n → m ≡ n
faulty_same e = cc

right_same : {p q : Request} → right p ≡ right q → p ≡ q
right_same e = cc

faulty_right : {n : ℕ} {q : Request} → faulty n ≡ right q → ⊥
faulty_right e = let z : ◌≡◌ {A = ℕ} 0 1 = cc in omega arith

module _ (input : List ℕ) where
  -- faulty at line n: lines 1 to n - 1 are right, and line n is faulty or missing
  pub meaning_fault : (n : ℕ) → (meaning input ≡ faulty n) ↔ FirstFault (lines input) n
  meaning_fault n = (there (meaning input) (meaning_said input), back (meaning input) (meaning_said input))
    where
      there : (m : Meaning) → Said (lines input) m → m ≡ faulty n → FirstFault (lines input) n
      there m (right_said r s) e = absurd (faulty_right (sym e))
      there m (fault_said f) e = subst (FirstFault (lines input)) (faulty_same e) f

      back : (m : Meaning) → Said (lines input) m → FirstFault (lines input) n → m ≡ faulty n
      back m (right_said r s) f = absurd (fault_not_right r f)
      back m (fault_said g) f = ap faulty (fault_unique g f)

  -- right: every line is, none is missing, and this is what they state
  pub meaning_request : (q : Request) → (meaning input ≡ right q) ↔ (AllRight (lines input) × Stated (lines input) q)
  meaning_request q = (there (meaning input) (meaning_said input), λ r. back (meaning input) (meaning_said input) r.0 r.1)
    where
      there : (m : Meaning) → Said (lines input) m → m ≡ right q → AllRight (lines input) × Stated (lines input) q
      there m (right_said r s) e = (r, subst (Stated (lines input)) (right_same e) s)
      there m (fault_said f) e = absurd (faulty_right e)

      back : (m : Meaning) → Said (lines input) m → AllRight (lines input) → Stated (lines input) q → m ≡ right q
      back m (right_said r s) r' s' = ap right (stated_unique s s')
      back m (fault_said f) r s = absurd (fault_not_right r f)

  -- one of the two holds of every input; that not both do, and of one n only, is `fault_not_right` and `fault_unique`
  pub fault_or_right : AllRight (lines input) ⊎ ((n : ℕ) × FirstFault (lines input) n)
  fault_or_right = pick (meaning input) (meaning_said input)
    where
      pick : (m : Meaning) → Said (lines input) m → AllRight (lines input) ⊎ ((n : ℕ) × FirstFault (lines input) n)
      pick m (right_said r s) = inl r
      pick m (fault_said {n} f) = inr (n, f)

  -- and right lines state a request
  pub right_stated : AllRight (lines input) → (q : Request) × Stated (lines input) q
  right_stated r = pick (meaning input) (meaning_said input)
    where
      pick : (m : Meaning) → Said (lines input) m → (q : Request) × Stated (lines input) q
      pick m (right_said {q} r' s) = (q, s)
      pick m (fault_said f) = absurd (fault_not_right r f)
