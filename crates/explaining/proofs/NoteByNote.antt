-- The loops over the notes of a theme: one finds the first note that its column does not hold (`Gone`), the other writes the
-- lowest track of each (`Naming`). Assumes nothing.
use mathlib.Core.Path.{◌≡◌, refl, sym, ap, ◌∙◌}
use mathlib.Core.Bool.{Bool, true, false, not}
use mathlib.Core.List.{List, [], ◌∷◌, ◌++◌, map, map-append}
use Prim.Native.Nat.{ℕ, ◌+◌, ◌-◌, ◌≤◌, ◌<◌, zero-le}
use native.Mathlib.Omega.{arith}
use lib.ListN.{length, get_or, set, length-set}
use Rattle.theory.specs.Lists.{over, count}
use Rattle.theory.proofs.Lists.{over_more, count_at, count_length, count_map_length, count_append}
use Rattle.score.specs.declared.quantities.Pitch.{Pitch}
use Rattle.score.specs.Score.{pitch, column_at, column, columns_in, score_of, note}
use Rattle.score.proofs.Columns.{column_le}
use Rattle.ways.specs.declared.way.Way.{Way}
use Rattle.ways.specs.Way.{holds}
use Rattle.seeking.specs.Limits.{most_sought}
use Rattle.seeking.specs.Track.{lowest_track}
use Rattle.seeking.proofs.Tracks.{track_le}
use Rattle.seeking.proofs.Descending.{Descended, descended_start, descended_took, descended_passed, descended_end}
use Rattle.explaining.specs.Explaining.{no_tracks, fails, held, tracks_of}
use Rattle.explaining.specs.Inner.{column_by}

-- note i + 1 and its column
note_of : (theme : List ℕ) (i : ℕ) → note theme (i + 1) ≡ pitch (get_or theme i 0)
note_of theme i = let e : i + 1 - 1 ≡ i = omega arith in rw e

column_of : (score : List (List ℕ)) (numbers : List ℕ) (i : ℕ) → column_by score numbers (i + 1) ≡ column score (column_at (get_or numbers i 0))
column_of score numbers i = let e : i + 1 - 1 ≡ i = omega arith in rw e

-- a track is one of the score
pub track_few : (way : Way) (code : ℕ) (p : Pitch) (cells : List ℕ) (h k : ℕ) {c : List ℕ} {t : ℕ} → c ≡ column (score_of cells h) (column_at k)
    → t ≡ lowest_track way code p c → t ≤ h
track_few way code p cells h k {c} same e =
    omega (arith, e, track_le way code p c, ap length same, column_le (columns_in cells h) h cells (k - 1))

module _ (way : Way) (code : ℕ) (score : List (List ℕ)) (theme numbers : List ℕ) where
  abbrev at : ℕ → List ℕ
  at = column_by score numbers

  -- ---- to the first that fails

  -- of the notes behind the first i, r is the first that fails
  pub record Gone (i r : ℕ) : Type 0 where
    pub descended : Descended (fails way code theme at) (count 1 (length theme)) i r

  pub gone_start : Gone (length theme) (length theme)
  gone_start = record { descended = descended_start _ _ (sym (count_length 1 (length theme))) }

  pub gone_within : {i r : ℕ} → Gone i r → i ≤ length theme
  gone_within s = omega (arith, s.descended.within, count_length 1 (length theme))

  module _ {i r : ℕ} (s : Gone i r) (h : 0 < i) {c : List ℕ} (same : c ≡ column score (column_at (get_or numbers (i - 1) 0)))
      {b : Bool} (e : b ≡ holds way code (pitch (get_or theme (i - 1) 0)) c) where
    place : get_or (count 1 (length theme)) (i - 1) 0 ≡ i - 1 + 1
    place = count_at 1 (length theme) (i - 1) 0 (omega (arith, gone_within s)) ∙ omega arith

    tells : fails way code theme at (get_or (count 1 (length theme)) (i - 1) 0) ≡ not b
    tells = ap (fails way code theme at) place ∙ rw (note_of theme (i - 1), column_of score numbers (i - 1), e, same)

    pub note_fails : not b ≡ true → Gone (i - 1) (i - 1)
    note_fails z = record { descended = descended_took _ _ s.descended h 0 (tells ∙ z) }

    pub note_held : not b ≡ false → Gone (i - 1) r
    note_held z = record { descended = descended_passed _ _ s.descended h 0 (tells ∙ z) }

  pub gone_end : {i r : ℕ} → Gone i r → i ≤ 0 → r ≡ held way code theme at
  gone_end s h = descended_end _ _ s.descended h

  -- ---- the tracks

  abbrev track_of : ℕ → ℕ
  track_of i = lowest_track way code (note theme i) (at i)

  -- the tracks of the first i notes are written
  pub record Naming (named : List ℕ) (i : ℕ) : Type 0 where
    pub so_far : named ≡ over no_tracks (map track_of (count 1 i))
    pub within : i ≤ length theme
    pub long : length named ≡ most_sought

  pub naming_start : Naming no_tracks 0
  naming_start = record { so_far = refl; within = zero-le; long = refl }

  pub naming_more : {named : List ℕ} {i : ℕ} → Naming named i → length theme ≤ most_sought → i < length theme → {c : List ℕ}
      → c ≡ column score (column_at (get_or numbers i 0)) → {t : ℕ} → t ≡ lowest_track way code (pitch (get_or theme i 0)) c → Naming (set named i t) (i + 1)
  naming_more {named} {i} s few h {c} same {t} e =
      let own : t ≡ track_of (1 + i) =
      let n : 1 + i ≡ i + 1 = omega arith in rw (n, note_of theme i, column_of score numbers i) (e ∙ ap (lowest_track way code (pitch (get_or theme i 0))) same) in
      let one : map track_of (count 1 i) ++ (t ∷ []) ≡ map track_of (count 1 (i + 1)) =
      ap (λ (x : ℕ). map track_of (count 1 i) ++ (x ∷ [])) own
      ∙ sym (ap (map track_of) (count_append 1 i 1) ∙ map-append track_of (count 1 i) (count (1 + i) 1)) in
      record {
        so_far = ap (λ (d : List ℕ). set d i t) s.so_far
            ∙ over_more no_tracks (map track_of (count 1 i)) 0 i t (count_map_length track_of 1 i) (omega arith)
            ∙ ap (λ (l : List ℕ). over no_tracks l) one;
        within = omega arith;
        long = length-set named i t ∙ s.long;
      }

  pub naming_end : {named : List ℕ} {i : ℕ} → Naming named i → length theme ≤ i → named ≡ tracks_of way code theme at
  naming_end {named} {i} s h =
      let e : i ≡ length theme = omega (arith, s.within) in
      s.so_far ∙ ap (λ (n : ℕ). over no_tracks (map track_of (count 1 n))) e
