-- A right theme line is the text of a theme within the limits, and no other line is one (`theme_line_text`); a right chord line
-- of h cells is the text of such a chord, and no other line is one (`chord_line_text`). Assumes nothing.
use mathlib.Core.Path.{◌≡◌, sym, ap, ◌∙◌}
use mathlib.Core.Logic.{◌↔◌}
use mathlib.Core.List.{List, [], append-nil}
use Prim.Native.Nat.{ℕ, ◌≤◌}
use native.Mathlib.Omega.{arith}
use lib.ListN.{length}
use borrow.Author.Tests.{le-leb}
use Rattle.score.specs.Limits.{most_tracks}
use Rattle.reading.specs.Reading.{Theme, theme_line, chord_line}
use Rattle.reading.specs.Lines.{IsThemeLine, IsChordLine}
use Rattle.reading.proofs.Scoring.{tracks_some}
use Rattle.listing.specs.Texts.{chord_text, theme_text, IsChord, IsTheme}
use Rattle.listing.proofs.RightLines.{chord_is, theme_is}
use Rattle.listing.proofs.Texts.{chord_text_lem, theme_text_lem}

-- the text of a theme of 2 to 32 notes
pub record IsThemeText (line : List ℕ) : Type 0 where
  pub theme : Theme
  pub limits : IsTheme theme
  pub is : line ≡ theme_text theme

pub theme_line_text : (line : List ℕ) → IsThemeLine line ↔ IsThemeText line
theme_line_text line = (there, back)
  where
    there : IsThemeLine line → IsThemeText line
    there t =
        let s = theme_is line t.whole in
        record { theme = t.theme; limits = s.right; is = s.is ∙ append-nil (theme_text t.theme) }

    back : IsThemeText line → IsThemeLine line
    back t =
        record {
          theme = t.theme;
          whole = ap theme_line (t.is ∙ sym (append-nil (theme_text t.theme))) ∙ theme_text_lem t.theme [] t.limits;
        }

-- the text of a chord of h cells, 1 to 16
pub record IsChordText (h : ℕ) (line : List ℕ) : Type 0 where
  pub column : List ℕ
  pub cells_some : 1 ≤ h
  pub cells_few : h ≤ most_tracks
  pub cells : IsChord h column
  pub is : line ≡ chord_text column

pub chord_line_text : (h : ℕ) (line : List ℕ) → IsChordLine h line ↔ IsChordText h line
chord_line_text h line = (there, back)
  where
    there : IsChordLine h line → IsChordText h line
    there t =
        let s = chord_is 0 line t.whole in
        record {
          column = t.cells;
          cells_some = omega (arith, t.wide, tracks_some 0 (length t.cells) s.tracks);
          cells_few = omega (arith, t.wide, s.few);
          cells = record { wide = t.wide; cells = s.right.cells };
          is = s.is ∙ append-nil (chord_text t.cells);
        }

    back : IsChordText h line → IsChordLine h line
    back t =
        let w : length t.column ≡ h = t.cells.wide in
        record {
          cells = t.column;
          whole =
              ap (chord_line 0) (t.is ∙ sym (append-nil (chord_text t.column)))
              ∙ chord_text_lem 0 t.column [] (rw (le-leb 1 (length t.column) (omega (arith, w, t.cells_some))))
              (omega (arith, w, t.cells_few)) t.cells.cells;
          wide = w;
        }
