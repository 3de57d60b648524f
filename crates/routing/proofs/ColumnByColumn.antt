-- How the tracks of each note are found, column by column: those found, with those of the columns and notes that are left, are all of
-- them, and what is left is held exactly where all is (`Following`). Assumes nothing.
use mathlib.Core.Path.{◌≡◌, refl, sym, ap, ◌∙◌}
use mathlib.Core.Bool.{Bool, true, false, not, false≢true}
use mathlib.Core.List.{List, [], ◌∷◌, ◌++◌, append-nil, append_assoc}
use Prim.Native.Nat.{ℕ, ◌+◌, ◌-◌, ◌*◌, ◌≤◌, ◌<◌, zero-le}
use native.Mathlib.Nat.{lt_irrefl}
use native.Mathlib.Omega.{arith}
use lib.Dec.{ltb, eqb}
use lib.ListN.{length, get_or, take, drop, set, length-set, length-append, drop_of_length-le}
use lib.Seq.{drop-cons}
use Rattle.std.proofs.lemmas.List.{drop_more}
use borrow.Author.Tests.{ltb-true, ltb-false, not-true, not-false, eq-eqb, ne_eqb}
use Rattle.theory.specs.Lists.{over}
use Rattle.theory.proofs.Lists.{over_more}
use Rattle.score.specs.Score.{pitch, columns_in, score_of, heard, heard_of}
use Rattle.score.proofs.Columns.{score_length, column_le, column_cells}
use Rattle.score.proofs.Heard.{empty_none}
use Rattle.ways.specs.declared.way.Way.{Way}
use Rattle.ways.specs.declared.way.Way.TheVariants.{Exact, Octave}
use Rattle.ways.specs.Way.{holds}
use Rattle.score.specs.declared.quantities.Pitch.{Pitch}
use Rattle.routing.specs.Routing.{held_along}
use Rattle.routing.specs.TrackSets.{holders, holders_along, FoundTracks}
use Rattle.routing.proofs.TrackBits.{holders_none}

-- ---- one column

-- an empty column holds no note
empty_holds : (way : Way) (code : ℕ) (p : Pitch) (column : List ℕ) → heard column ≡ false → holds way code p column ≡ false
unfolding holds
empty_holds Exact code p column e = rw (empty_none column e)
empty_holds Octave code p column e = rw (empty_none column e)

holds_heard : (way : Way) (code : ℕ) (p : Pitch) (column : List ℕ) → holds way code p column ≡ true → heard column ≡ true
holds_heard way code p column e = pick (heard column) refl
  where
    pick : (t : Bool) → heard column ≡ t → heard column ≡ true
    pick true h = h
    pick false h = absurd (false≢true (sym (empty_holds way code p column h) ∙ e))

-- a column has a cell for each track
pub column_few : (cells : List ℕ) (h k : ℕ) → k < columns_in cells h → length (take (k * h + h - k * h) (drop (k * h) cells)) ≤ h
column_few cells h k l = rw (column_cells cells h k (k * h) refl l) (column_le (columns_in cells h) h cells k)

module _ (way : Way) (code : ℕ) (cells : List ℕ) (h : ℕ) (theme : List ℕ) (passed : ℕ) (lent : List ℕ) where
  abbrev score : List (List ℕ)
  score = score_of cells h

  abbrev left : ℕ → List (List ℕ)
  left k = heard_of (drop k score)

  pub record AlongNotes (sets : List ℕ) (k q : ℕ) : Type 0 where
    pub done : List ℕ
    pub so_far : sets ≡ over lent done
    pub many : length done ≡ q
    pub held_left : held_along way code (drop q theme) (left k) ≡ held_along way code theme (left passed)
    pub sets_left : done ++ holders_along way code (drop q theme) (left k) ≡ holders_along way code theme (left passed)
    pub within : q ≤ length theme
    pub long : length sets ≡ length lent

  pub following_start : AlongNotes lent passed 0
  following_start = record { done = []; so_far = refl; many = refl; held_left = refl; sets_left = refl; within = zero-le; long = refl }

  module _ {sets : List ℕ} {k q : ℕ} (f : AlongNotes sets k q) where
    module _ (room : k < columns_in cells h) (more : q < length theme) where
      abbrev here : List ℕ
      here = get_or score k []

      abbrev p : Pitch
      p = pitch (get_or theme q 0)

      columns_split : drop k score ≡ here ∷ drop (k + 1) score
      columns_split = drop_more score k [] (omega (arith, score_length cells h, room))

      notes_split : drop q theme ≡ get_or theme q 0 ∷ drop (q + 1) theme
      notes_split = drop_more theme q 0 more

      left_heard : heard here ≡ true → left k ≡ here ∷ left (k + 1)
      left_heard e = rw (columns_split, e)

      left_empty : heard here ≡ false → left k ≡ left (k + 1)
      left_empty e = rw (columns_split, e)

      module _ {column : List ℕ} (same : column ≡ here) {s : ℕ} (e : s ≡ holders way code p column) where
        own : s ≡ holders way code p here
        own = e ∙ ap (holders way code p) same

        held_here : (s ≡ 0 → ⊥) → holds way code p here ≡ true
        held_here z = not-false (holds way code p here) (sym (holders_none way code p here) ∙ ne_eqb _ _ (λ o. z (own ∙ o)))

        not_here : s ≡ 0 → holds way code p here ≡ false
        not_here z = not-true (holds way code p here) (sym (holders_none way code p here) ∙ eq-eqb _ _ (sym own ∙ z))

        -- a track holds the note
        pub following_took : length theme ≤ length lent → (s ≡ 0 → ⊥) → AlongNotes (set sets q s) (k + 1) (q + 1)
        unfolding held_along holders_along
        following_took few z =
            let there = held_here z in
            let l = left_heard (holds_heard way code p here there) in
            record {
              done = f.done ++ (s ∷ []);
              so_far = ap (λ (d : List ℕ). set d q s) f.so_far ∙ over_more lent f.done 0 q s f.many (omega (arith, more, few));
              many = length-append f.done (s ∷ []) ∙ ap (λ (m : ℕ). m + 1) f.many;
              held_left = rw there at (rw (notes_split, l) at f.held_left);
              sets_left = append_assoc f.done (s ∷ []) _ ∙ rw own (rw (notes_split, l) at f.sets_left);
              within = omega (arith, more);
              long = length-set sets q s ∙ f.long;
            }

        -- none does, and the column has no pitch
        pub following_skipped : {b : Bool} → b ≡ not (heard column) → not b ≡ false → AlongNotes sets (k + 1) q
        following_skipped {b} g z =
            let l = left_empty (not-true _ (ap (λ (c : List ℕ). not (heard c)) (sym same) ∙ sym g ∙ not-false b z)) in
            record {
              done = f.done;
              so_far = f.so_far;
              many = f.many;
              held_left = rw l at f.held_left;
              sets_left = rw l at f.sets_left;
              within = f.within;
              long = f.long;
            }

        -- none does, and the column has a pitch
        pub following_failed : s ≡ 0 → {b : Bool} → b ≡ not (heard column) → not b ≡ true
            → FoundTracks (held_along way code theme (left passed)) (holders_along way code theme (left passed)) lent false sets
        unfolding held_along
        following_failed z {b} g t =
            let l = left_heard (not-false _ (ap (λ (c : List ℕ). not (heard c)) (sym same) ∙ sym g ∙ not-true b t)) in
            record { told = rw (not_here z) at (rw (notes_split, l) at f.held_left); found_all = λ w. absurd (false≢true w) }

    -- the notes are at an end
    pub following_found : length theme ≤ q
        → FoundTracks (held_along way code theme (left passed)) (holders_along way code theme (left passed)) lent true sets
    unfolding held_along holders_along
    following_found l =
        let none : drop q theme ≡ [] = drop_of_length-le theme {i = q} l in
        record {
          told = rw none at f.held_left;
          found_all = λ w. f.so_far ∙ ap (over lent) (sym (append-nil f.done) ∙ (rw none at f.sets_left));
        }

    -- the columns are
    pub following_end : {n : ℕ} → n ≡ columns_in cells h → n ≤ k
        → FoundTracks (held_along way code theme (left passed)) (holders_along way code theme (left passed)) lent (eqb q (length theme)) sets
    unfolding held_along holders_along
    following_end {n} e past = pick (ltb q (length theme)) refl
      where
        pick : (t : Bool) → ltb q (length theme) ≡ t
            → FoundTracks (held_along way code theme (left passed)) (holders_along way code theme (left passed)) lent (eqb q (length theme)) sets
        pick true g =
            let l : q < length theme = ltb-true q (length theme) g in
            let none : drop k score ≡ [] = drop_of_length-le score {i = k} (omega (arith, past, e, score_length cells h)) in
            let other : eqb q (length theme) ≡ false = ne_eqb q (length theme) (λ o. lt_irrefl _ (rw o at l)) in
            record {
              told = other ∙ (rw (drop-cons theme q 0 l, none) at f.held_left);
              found_all = λ w. absurd (false≢true (sym other ∙ w));
            }
        pick false g =
            let l : length theme ≤ q = ltb-false q (length theme) g in
            rw (eq-eqb q (length theme) (omega (arith, f.within, l))) (following_found l)
