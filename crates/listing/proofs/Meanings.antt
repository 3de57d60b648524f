-- From what was read to the whole output: which line is refused, or which search is told. Assumes nothing.
use mathlib.Core.Path.{◌≡◌, sym, ap, ◌∙◌}
use mathlib.Core.List.{List, [], ◌∷◌}
use Prim.Native.Nat.{ℕ, ◌-◌, ◌*◌, ◌≤◌}
use native.Mathlib.Nat.{mul-le-mul}
use native.Mathlib.Omega.{arith}
use lib.ListN.{length, take, drop, length-append}
use lib.Seq.{take_at}
use Rattle.std.specs.Prelude.{Result, Err}
use Rattle.theory.specs.Lists.{over, join}
use Rattle.asking.specs.Limits.{most_notes}
use Rattle.score.specs.Limits.{most_tracks, most_columns, most_cells}
use Rattle.ways.specs.declared.way.AnyWay.{AnyWay}
use Rattle.reading.specs.declared.request.Reading.{Reading}
use Rattle.reading.specs.declared.request.ReadError.{ReadError}
use Rattle.reading.specs.declared.request.ReadError.TheVariants.{Bad}
use Rattle.reading.specs.Request.{Meaning}
use Rattle.reading.specs.Taking.{tracks_of, Takes}
use Rattle.reading.proofs.Takings.{Took, took_bad}
use Rattle.telling.specs.Lines.{lines_of, refused_line}
use Rattle.telling.specs.Telling.{told, search_told}
use Rattle.telling.proofs.Tellings.{accepted_told}
use Rattle.listing.specs.Texts.{Each, IsChord, Right}
use Rattle.listing.specs.Answer.{answer, output}
use Rattle.listing.proofs.Outputs.{meaning_right, cells_long, right_score, right_accepted}

-- ---- a refused line

pub out_bad : {input theme cells : List ℕ} {r : Result Reading ReadError} {theme' cells' : List ℕ}
    → Takes input theme cells r theme' cells' → most_notes ≤ length theme → most_cells ≤ length cells
    → {line : ℕ} → r ≡ Err (Bad line) → output input ≡ refused_line line
unfolding output
out_bad t few many e = ap answer (took_bad t few many e)

-- ---- a search

-- all chords have the tracks of the first
first_tracks : (h : ℕ) (columns : List (List ℕ)) → 1 ≤ length columns → Each (IsChord h) columns → tracks_of columns ≡ h
first_tracks h [] s r = absurd (omega arith)
first_tracks h (c ∷ columns) s r = r.0.wide

-- values written over the front of a buffer stand there
over_front : (buffer values : List ℕ) (n : ℕ) → n ≡ length values → take n (over buffer values) ≡ values
over_front buffer values n e = take_at values (drop (length values) buffer) n (sym e)

over_le : (buffer values : List ℕ) → length values ≤ length (over buffer values)
over_le buffer values = omega (arith, length-append values (drop (length values) buffer))

module _ {input theme cells : List ℕ} {way : AnyWay} {notes tracks columns : ℕ} {theme' cells' : List ℕ} (t : Took input theme cells way notes tracks columns theme' cells') where
  limits : Right t.request
  limits = (meaning_right input t.is).limits

  tracks_is : tracks ≡ limits.tracks
  tracks_is = t.tracks_are ∙ first_tracks limits.tracks t.request.columns limits.columns_some limits.columns

  long_is : columns * tracks ≡ length (join t.request.columns)
  long_is = rw (t.columns_are, tracks_is) (sym (cells_long t.request limits))

  pub cells_few : columns * tracks ≤ most_cells
  cells_few =
      let l = limits in
      mul-le-mul {n₁ = columns} {m₁ = tracks} {n₂ = most_columns} {m₂ = most_tracks} (rw t.columns_are l.columns_few) (rw tracks_is l.tracks_few)

  -- what is lent is within the buffers
  pub notes_within : notes ≤ length theme'
  notes_within = rw (t.notes_are, t.theme_is) (over_le theme t.request.theme.notes)

  pub cells_within : columns * tracks ≤ length cells'
  cells_within = rw (long_is, t.cells_are) (over_le cells (join t.request.columns))

  -- the search that is told
  request_told : (out : List ℕ) → search_told (join t.request.columns) tracks t.request.theme.notes way out ≡ told (output input) out
  unfolding output
  request_told out =
      let q = t.request in
      ap (λ (h : ℕ). search_told (join q.columns) h q.theme.notes way out) tracks_is
      ∙ ap (λ (w : AnyWay). search_told (join q.columns) limits.tracks q.theme.notes w out) t.way_is
      ∙ accepted_told (join q.columns) limits.tracks q.theme.notes q.theme.way out (right_accepted q limits)
      ∙ ap (λ (score : List (List ℕ)). told (lines_of q.theme.way score q.theme.notes) out) (right_score q limits)
      ∙ ap (λ (m : Meaning). told (answer m) out) (sym t.is)

  -- as the parts of the buffers are lent
  pub out_told : (out : List ℕ) → search_told (take (columns * tracks) cells') tracks (take notes theme') way out ≡ told (output input) out
  out_told out =
      rw (
        t.cells_are,
        t.theme_is,
        over_front cells (join t.request.columns) (columns * tracks) long_is,
        over_front theme t.request.theme.notes notes t.notes_are,
      )
      (request_told out)
