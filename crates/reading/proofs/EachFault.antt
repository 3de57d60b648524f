-- The faults that the requirement names, one by one, each as a faulty line wherever it stands: a line without its line feed, a
-- line that is too long (`long_faulty` of `LineLengths`), a chord line too many, one with unequal cells; and which line is
-- missing. Assumes nothing.
use mathlib.Core.Path.{◌≡◌, sym, ◌∙◌}
use mathlib.Core.Logic.{⊎_elim, inr}
use mathlib.Core.List.{List, [], ◌∷◌}
use Prim.Native.Nat.{ℕ, ◌+◌, ◌-◌, ◌≤◌, ◌<◌}
use native.Mathlib.Nat.{eq-or-lt_of_le}
use native.Mathlib.Omega.{arith}
use lib.ListN.{length}
use Rattle.score.specs.Limits.{most_columns}
use Rattle.reading.specs.Lines.{line_bytes, line_at, IsThemeLine, IsChordLine}
use Rattle.reading.specs.Lines.{RightLine, FaultyLine, MissingLine, FirstFault}
use Rattle.words.proofs.Places.{bad_got}
use Rattle.reading.proofs.LinesRead.{theme_unfed, chord_unfed}
use Rattle.reading.proofs.LinesDivided.{unended_divided}
use Rattle.reading.proofs.ChordRuns.{tracks_unique}
use Rattle.reading.proofs.LinesSaid.{none_behind}

module _ {all : List (List ℕ)} {n : ℕ} (low : 1 ≤ n) (high : n ≤ length all) where
  -- a line without its line feed
  pub unended_faulty : line_bytes (line_at all n) ≡ length (line_at all n) → FaultyLine all n
  unended_faulty u = record { numbered = low; there = high; wrong = wrong }
    where
      wrong : RightLine all n → ⊥
      wrong r =
          let d = unended_divided (line_at all n) u in
          ⊎_elim (λ (e : 1 ≡ n). bad_got (sym (theme_unfed d) ∙ (r.theme (sym e)).whole))
          (λ (l : 1 < n). bad_got (sym (chord_unfed 0 d) ∙ (r.chord l).this_chord.whole)) (eq-or-lt_of_le low)

  -- the 2,049th chord line, which is line 2,050, and each behind it, whatever it holds
  pub many_faulty : most_columns + 1 < n → FaultyLine all n
  many_faulty l = record { numbered = low; there = high; wrong = λ r. omega (arith, (r.chord (omega arith)).few) }

  -- a chord line with other cells than the first has
  pub unequal_faulty : {g h : ℕ} → IsChordLine g (line_at all 2) → IsChordLine h (line_at all n) → 2 ≤ n → (h ≡ g → ⊥)
      → FaultyLine all n
  unequal_faulty p q l other =
      record {
        numbered = low;
        there = high;
        wrong = λ r. let c = r.chord l in other (tracks_unique q c.this_chord ∙ tracks_unique c.first_chord p);
      }

-- ---- what is missing is the line after the last

pub missing_next : {all : List (List ℕ)} {n : ℕ} → FirstFault all n → MissingLine all n → n ≡ length all + 1
missing_next {all} {n} f m = ⊎_elim (λ (e : 1 ≡ n). omega (arith, e, m.ends)) behind (eq-or-lt_of_le m.numbered)
  where
    behind : 1 < n → n ≡ length all + 1
    behind l = omega (arith, m.ends, (f.before (n - 1) (omega arith) (omega arith)).there)

-- an empty input: line 1
pub empty_fault : FirstFault [] 1
empty_fault =
    record {
      before = λ k l m. absurd (omega arith);
      here = inr (record { numbered = omega arith; needed = omega arith; ends = omega arith });
    }

-- a theme line alone: line 2
pub lone_fault : {line : List ℕ} → IsThemeLine line → FirstFault (line ∷ []) 2
lone_fault t = none_behind t.whole [] (inr (record { numbered = omega arith; needed = omega arith; ends = omega arith }))
