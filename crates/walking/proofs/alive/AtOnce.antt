-- What a column gives where there is room for all its hits: they are its page, and what all its starts cost are its looks. Assumes nothing.
use mathlib.Core.Path.{◌≡◌, sym, ap, ◌∙◌}
use mathlib.Core.List.{List, map}
use Prim.Native.Nat.{ℕ, ◌+◌, ◌-◌, ◌≤◌, ◌<◌}
use native.Mathlib.Omega.{arith}
use mathlib.Core.Bool.{false}
use lib.Count.{ones}
use lib.IntN.{ℤ}
use lib.ListN.{length, length-take, length-map}
use lib.Seq.{sets}
use borrow.Author.Tests.{lt-leb}
use Rattle.theory.specs.Lists.{sum}
use Rattle.theory.specs.Pages.{hits, page_hits, page_looks, rest, full}
use Rattle.theory.proofs.Lists.{map_twice}
use Rattle.theory.proofs.Hits.{hits_map}
use Rattle.theory.proofs.Pages.{page_take, page_last, rest_nil}
use Rattle.theory.proofs.Looks.{looks_split}
use Rattle.score.specs.Score.{column_at, column}
use Rattle.ways.specs.declared.way.Way.{Way}
use Rattle.ways.specs.Way.{shift_of}
use Rattle.hits.specs.Writing.{codes_of, word_codes, fitting, Puts}
use Rattle.hits.proofs.Fitting.{puts_word}
use Rattle.score.specs.Score.{note}
use Rattle.walking.specs.Starts.{Place, place, codes, hit, looks}
use Rattle.walking.specs.Found.{columns_of, shifts_of}
use Rattle.walking.specs.Walk.{column_starts, Tries}
use Rattle.walking.specs.Alive.{Followed}
use Rattle.walking.proofs.alive.Laws.{word_small, word_length}

module _ (way : Way) (score : List (List ℕ)) (theme : List ℕ) (j word spent : ℕ) (f : Followed way score theme j word spent) where
  abbrev starts : List Place
  starts = column_starts way score theme j 0

  hits_are : hits (hit way score theme) starts ≡ map (place j) (codes_of way (note theme 1) word)
  hits_are = hits_map (place j) (hit way score theme) (codes way (note theme 1) (column score (column_at j)) 0) ∙ ap (map (place j)) f.left

  hits_length : length (hits (hit way score theme) starts) ≡ ones word
  hits_length = ap length hits_are ∙ length-map (codes_of way (note theme 1) word) (place j) ∙ word_length way (note theme 1) word f.small

  module _ (room : ℕ) (q : ones word < room) where
    fewer : length (hits (hit way score theme) starts) < room
    fewer = omega (arith, hits_length)

    not_full : full (hit way score theme) room starts ≡ false
    not_full = lt-leb room (length (page_hits (hit way score theme) room starts))
        (omega (arith, ap length (page_take (hit way score theme) room starts), length-take room (hits (hit way score theme) starts), fewer))

    page_is : page_hits (hit way score theme) room starts ≡ map (place j) (codes_of way (note theme 1) word)
    page_is = page_last (hit way score theme) room starts not_full ∙ hits_are

    looks_are : page_looks (hit way score theme) (looks way score theme) room starts ≡ spent
    looks_are =
        let a : page_looks (hit way score theme) (looks way score theme) room starts + sum (map (looks way score theme) (rest (hit way score theme) room starts)) ≡ sum (map (looks way score theme) starts) =
        looks_split (hit way score theme) (looks way score theme) room starts in
        let b : sum (map (looks way score theme) (rest (hit way score theme) room starts)) ≡ 0 = rw (rest_nil (hit way score theme) room starts fewer) in
        let c : sum (map (looks way score theme) starts) ≡ spent = ap sum (map_twice (place j) (looks way score theme) (codes way (note theme 1) (column score (column_at j)) 0)) ∙ f.costs in
        omega (arith, a, b, c)

  pub at_once : (note theme 1).0 ≤ 127 → (found : ℕ) (columns : List ℕ) (shifts : List ℤ) → length shifts ≡ length columns → found ≤ length columns → ones word < length columns - found
      → (found' : ℕ) (columns' : List ℕ) (shifts' : List ℤ) → Puts way j (fitting (word_codes way (note theme 1) word) found columns shifts) found columns shifts found' columns' shifts'
      → Tries way score theme starts found columns shifts found' spent columns' shifts'
  at_once pitch found columns shifts same within q found' columns' shifts' written =
      let page = page_is (length columns - found) q in
      let p = puts_word way (note theme 1) word (word_small way word f.small) pitch j found columns shifts (omega arith) (omega arith) found' columns' shifts' written in
      record {
        count = p.count ∙ ap (λ (n : ℕ). found + n) (sym (ap length page ∙ length-map (codes_of way (note theme 1) word) (place j)));
        costs = sym (looks_are (length columns - found) q);
        in_columns = p.in_columns ∙ ap (sets columns found) (sym (ap columns_of page ∙ map_twice (place j) (λ s. s.column) (codes_of way (note theme 1) word)));
        in_shifts = p.in_shifts ∙ ap (sets shifts found) (sym (ap (shifts_of way) page ∙ map_twice (place j) (λ s. shift_of way s.code) (codes_of way (note theme 1) word)));
      }
