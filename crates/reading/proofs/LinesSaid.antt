-- What is said of an input by its lines (`meaning_said`): it means a request, every line is right and they state that request;
-- or it is faulty at a line, and that is the first fault. By cases: no theme line, a theme line and nothing or no chord line
-- behind it, a theme line and a run of chord lines. That nothing else can be said is `FirstFaults`. Assumes nothing.
use mathlib.Core.Path.{◌≡◌, refl, sym, ap, ◌∙◌, subst}
use mathlib.Core.Logic.{◌⊎◌, inl, inr}
use mathlib.Core.List.{List, [], ◌∷◌}
use Prim.Native.Nat.{ℕ, zero, suc, ◌+◌, ◌-◌, ◌≤◌, ◌<◌}
use native.Mathlib.Omega.{arith}
use lib.ListN.{length, get_or}
use borrow.Author.Tests.{ne_eqb}
use Rattle.score.specs.Limits.{most_columns}
use Rattle.words.specs.Words.{Read, got}
use Rattle.reading.specs.Reading.{chord_line, Theme, theme_line}
use Rattle.reading.specs.Request.{Request, Chords, all, fault, above, on_chord, chords, Meaning, right, faulty, with_chords}
use Rattle.reading.specs.Request.{with_theme, meaning}
use Rattle.reading.specs.Lines.{lines, line_at, IsThemeLine, IsChordLine, RightLine, FaultyLine, MissingLine}
use Rattle.reading.specs.Lines.{FirstFault, AllRight, Stated}
use Rattle.words.proofs.Places.{bad_got}
use Rattle.reading.proofs.LinesRead.{Division, division, lines_divided, Ended, bads, gots, chord_alone, theme_alone}
use Rattle.reading.proofs.LineLengths.{theme_short, chord_short, bytes_short}
use Rattle.reading.proofs.ChordRuns.{Run, Columned, Told, whole, broken, tracks_unique, told_more, chords_told}
use Rattle.reading.proofs.ChordRuns.{first_some}

-- what is said of an input
pub data Said (lines : List (List ℕ)) : Meaning → Type 0 where
  right_said : {q : Request} → AllRight lines → Stated lines q → Said lines (right q)
  fault_said : {n : ℕ} → FirstFault lines n → Said lines (faulty n)

-- behind the first line, line i + 2 is the i-th, from 0
behind_at : (line : List ℕ) (others : List (List ℕ)) (i : ℕ) → line_at (line ∷ others) (suc (suc i)) ≡ get_or others i []
behind_at line others i = let e : suc (suc i) - 1 ≡ suc i = omega arith in ap (λ (n : ℕ). get_or (line ∷ others) n []) e

module _ {line : List ℕ} {theme : Theme} (t : theme_line line ≡ got theme []) (others : List (List ℕ)) where
  is_theme : IsThemeLine line
  is_theme = record { theme = theme; whole = t }

  theme_right : RightLine (line ∷ others) 1
  theme_right =
      record {
        numbered = omega arith;
        there = omega arith;
        short = bytes_short line (theme_short is_theme);
        theme = λ e. is_theme;
        chord = λ l. absurd (omega arith);
      }

  -- behind a theme line stands nothing, or no chord line
  pub none_behind : (f : FaultyLine (line ∷ others) 2 ⊎ MissingLine (line ∷ others) 2) → FirstFault (line ∷ others) 2
  none_behind f = record { before = at; here = f }
    where
      at : (k : ℕ) → 1 ≤ k → k < 2 → RightLine (line ∷ others) k
      at zero l m = absurd (omega arith)
      at (suc zero) l m = theme_right
      at (suc (suc k)) l m = absurd (omega arith)

  -- or a run of chord lines
  module _ {h k : ℕ} (s : 1 ≤ k) (r : Run most_columns h others k) where
    chord_right : (i : ℕ) → i < k → RightLine (line ∷ others) (suc (suc i))
    chord_right i l =
        record {
          numbered = omega arith;
          there = omega (arith, r.there);
          short = rw (behind_at line others i) (bytes_short (get_or others i []) (omega (arith, chord_short (r.each i l))));
          theme = λ e. absurd (omega arith);
          chord =
              λ m.
              record {
                few = omega (arith, r.few);
                tracks = h;
                first_chord = r.each 0 (omega arith);
                this_chord = subst (IsChordLine h) (sym (behind_at line others i)) (r.each i l);
              };
        }

    run_right : (n : ℕ) → 1 ≤ n → n < suc (suc k) → RightLine (line ∷ others) n
    run_right zero l m = absurd (omega arith)
    run_right (suc zero) l m = theme_right
    run_right (suc (suc i)) l m = chord_right i (omega arith)

    -- all of which are right
    whole_right : k ≡ length others → AllRight (line ∷ others)
    whole_right e =
        record { each = λ n l m. run_right n l (omega (arith, e)); enough = λ n m. omega (arith, m.needed, m.ends, e) }

    -- or up to a line that is none of them, or is one too many
    whole_fault : k < length others → (k < most_columns → IsChordLine h (get_or others k []) → ⊥)
        → FirstFault (line ∷ others) (suc (suc k))
    whole_fault l w =
        record { before = run_right; here = inl (record { numbered = omega arith; there = omega arith; wrong = wrong }) }
      where
        wrong : RightLine (line ∷ others) (suc (suc k)) → ⊥
        wrong g =
            let c = g.chord (omega arith) in
            let d : IsChordLine c.tracks (get_or others k []) =
            subst (IsChordLine c.tracks) (behind_at line others k) c.this_chord in
            let e : c.tracks ≡ h = tracks_unique c.first_chord (r.each 0 (omega arith)) in
            w (omega (arith, c.few)) (subst (λ (x : ℕ). IsChordLine x (get_or others k [])) e d)

  -- what is said of the lines behind a theme line
  columned_stated : {columns : List (List ℕ)} → Columned others columns
      → Stated (line ∷ others) (record { theme = theme; columns = columns })
  columned_stated {columns} c = record { theme = t; count = omega (arith, c.long); column = at }
    where
      at : (j : ℕ) → 1 ≤ j → j ≤ length columns
          → chord_line 0 (line_at (line ∷ others) (j + 1)) ≡ got (get_or columns (j - 1) []) []
      at zero l m = absurd (omega arith)
      at (suc i) l m =
          let e : suc i + 1 ≡ suc (suc i) = omega arith in
          let d : suc i - 1 ≡ i = omega arith in
          rw (e, behind_at line others i, d) (c.each i (omega (arith, c.long)))

  told_said : {h : ℕ} {r : Chords} → IsChordLine h (get_or others 0 []) → 1 ≤ length others → Told most_columns h others r
      → Said (line ∷ others) (with_chords theme r)
  told_said {r = all []} c s (whole t e) = absurd (omega (arith, e.long))
  told_said {r = all (column ∷ columns)} c s (whole t e) = right_said (whole_right s t refl) (columned_stated e)
  told_said {r = fault zero} c s (broken t l w) = absurd (w (omega arith) c)
  told_said {r = fault (suc k)} c s (broken t l w) =
      let e : suc (suc (suc k)) ≡ suc k + 2 = omega arith in
      fault_said (subst (FirstFault (line ∷ others)) e (whole_fault (omega arith) t l w))

-- behind a theme line
chords_said : {line : List ℕ} {theme : Theme} → theme_line line ≡ got theme [] → (text : List ℕ)
    → Said (line ∷ lines text) (with_chords theme (chords most_columns 0 text))
unfolding chords
chords_said t [] =
    fault_said (none_behind t [] (inr (record { numbered = omega arith; needed = omega arith; ends = omega arith })))
chords_said {line} {theme} t (b ∷ text) =
    rw (ne_eqb (length (b ∷ text)) 0 (λ e. omega arith), lines_divided d.divided (omega arith))
    (step (chord_line 0 (b ∷ text)) (chord_line 0 d.line) refl (chord_alone 0 d.divided))
  where
    d : Division (b ∷ text)
    d = division (b ∷ text)

    step : (q r : Read (List ℕ)) → chord_line 0 d.line ≡ r → Ended d.fed d.rest q r
        → Said (line ∷ d.line ∷ lines d.rest)
        (with_chords theme (on_chord q (λ c rest. above c (chords (most_columns - 1) (length c) rest))))
    step q r e bads =
        fault_said
        (none_behind t (d.line ∷ lines d.rest)
        (inl
        (record {
          numbered = omega arith;
          there = omega arith;
          wrong = λ g. bad_got (sym e ∙ (g.chord (omega arith)).first_chord.whole);
        })))
    step q r e (gots {a} f) =
        told_said t (d.line ∷ lines d.rest) (record { cells = a; whole = e; wide = refl }) (omega arith)
        (told_more e (chords_told (most_columns - 1) (length a) d.rest (first_some d.line e)))

-- no theme line
none_first : {lines : List (List ℕ)} → FaultyLine lines 1 ⊎ MissingLine lines 1 → FirstFault lines 1
none_first f = record { before = λ k l m. absurd (omega arith); here = f }

-- of every input
pub meaning_said : (input : List ℕ) → Said (lines input) (meaning input)
unfolding meaning theme_line
meaning_said [] =
    fault_said (none_first (inr (record { numbered = omega arith; needed = omega arith; ends = omega arith })))
meaning_said (b ∷ input) =
    rw (lines_divided d.divided (omega arith))
    (step (theme_line (b ∷ input)) (theme_line d.line) refl (theme_alone d.divided))
  where
    d : Division (b ∷ input)
    d = division (b ∷ input)

    step : (q r : Read Theme) → theme_line d.line ≡ r → Ended d.fed d.rest q r
        → Said (d.line ∷ lines d.rest) (with_theme q)
    step q r e bads =
        fault_said
        (none_first
        (inl (record { numbered = omega arith; there = omega arith; wrong = λ g. bad_got (sym e ∙ (g.theme refl).whole) })))
    step q r e (gots {a} f) = chords_said e d.rest
