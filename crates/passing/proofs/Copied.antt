-- A score without its empty columns, copied: a column's cells from a place on (`Copying`), and column after column (`Taking`),
-- where what is written and what is left make up the whole. Then what the room asks for is what the call tests. Assumes nothing.
use mathlib.Core.Path.{◌≡◌, refl, sym, ap, ◌∙◌}
use mathlib.Core.Bool.{Bool, true, false, not, ◌&&◌, ◌||◌}
use mathlib.Core.List.{List, [], ◌∷◌, ◌++◌, append_assoc, append-nil}
use Prim.Native.Nat.{ℕ, suc, ◌+◌, ◌*◌, ◌≤◌, ◌<◌, zero-le}
use native.Mathlib.Nat.{zero-mul}
use native.Mathlib.Numerals.{add-one}
use native.Mathlib.Omega.{arith}
use lib.Dec.{leb, ltb}
use lib.ListN.{length, get_or, take, drop, set, length-set, length-append, length-drop, drop_of_length-le}
use lib.Seq.{take-suc, take_all, length-take-le, drop-cons, drop-drop, sets, length-sets}
use borrow.Author.Tests.{not-true, not-false, leb-true, leb-false, lt-ltb, le-ltb}
use Rattle.theory.specs.Lists.{over, join}
use Rattle.theory.proofs.Either.{both_left, both_right}
use Rattle.theory.proofs.Lists.{sets_more, over_more, over_sets}
use Rattle.score.specs.Limits.{most_columns}
use Rattle.score.specs.Score.{columns_in, score_of, heard, heard_of, heard_from}
use Rattle.score.proofs.Columns.{cut_at, column_length, score_length, next_starts, column_room}
use Rattle.score.proofs.Heard.{numbers_take, numbers_skip}
use Rattle.passing.specs.Passing.{has_room, TakesOut}

-- ---- a column, from a place on

pub record Copying (column kept₀ : List ℕ) (at : ℕ) (kept : List ℕ) (i : ℕ) : Type 0 where
  pub so_far : kept ≡ sets kept₀ at (take i column)
  pub long : length kept ≡ length kept₀
  pub within : i ≤ length column
  pub room : at + length column ≤ length kept₀

pub copying_start : (column kept₀ : List ℕ) (at : ℕ) → at + length column ≤ length kept₀ → Copying column kept₀ at kept₀ 0
copying_start column kept₀ at r = record { so_far = refl; long = refl; within = zero-le; room = r }

module _ {column kept₀ : List ℕ} {at : ℕ} {kept : List ℕ} {i : ℕ} (c : Copying column kept₀ at kept i) where
  pub copying_more : i < length column → Copying column kept₀ at (set kept (at + i) (get_or column i 0)) (i + 1)
  copying_more h =
      let n : length (take i column) ≡ i = length-take-le i column c.within in
      let one : take i column ++ (get_or column i 0 ∷ []) ≡ take (i + 1) column = rw add-one (sym (take-suc column i 0 h)) in
      record {
        so_far =
            ap (λ (l : List ℕ). set l (at + i) (get_or column i 0)) c.so_far
            ∙ sets_more kept₀ at (take i column) (get_or column i 0) (at + i) (omega (arith, n))
            ∙ ap (sets kept₀ at) one;
        long = length-set kept (at + i) (get_or column i 0) ∙ c.long;
        within = omega arith;
        room = c.room;
      }

  pub copying_end : length column ≤ i → kept ≡ sets kept₀ at column
  copying_end h = c.so_far ∙ ap (sets kept₀ at) (take_all i column h)

-- ---- what is left of a score, a column further on

module _ (score : List (List ℕ)) (k : ℕ) (l : k < length score) where
  abbrev next : List ℕ
  next = get_or score k []

  cells_take : (out : List ℕ) → heard next ≡ true
      → (out ++ next) ++ join (heard_of (drop (k + 1) score)) ≡ out ++ join (heard_of (drop k score))
  cells_take out e = rw (drop-cons score k [] l, e, add-one k) (append_assoc out next (join (heard_of (drop (suc k) score))))

  cells_skip : heard next ≡ false → heard_of (drop (k + 1) score) ≡ heard_of (drop k score)
  cells_skip e = rw (drop-cons score k [] l, e, add-one k)

-- ---- room

-- a test that fails is the other way round
le_not_lt : (a b : ℕ) → leb b a ≡ not (ltb a b)
le_not_lt a b = step (leb b a) refl
  where
    step : (t : Bool) → leb b a ≡ t → t ≡ not (ltb a b)
    step true e = rw (le-ltb a b (leb-true b a e))
    step false e = rw (lt-ltb a b (leb-false b a e))

module _ (cells : List ℕ) (h : ℕ) (kept numbers : List ℕ) where
  -- what is tested is that there is none
  room_test : has_room cells h kept numbers
      ≡ not ((ltb (length kept) (length cells) || ltb (length numbers) (columns_in cells h)) || ltb most_columns (columns_in cells h))
  room_test =
      rw (le_not_lt (length kept) (length cells), le_not_lt (length numbers) (columns_in cells h), le_not_lt most_columns (columns_in cells h))
      (step (ltb (length kept) (length cells)) (ltb (length numbers) (columns_in cells h)) (ltb most_columns (columns_in cells h)))
    where
      step : (a b c : Bool) → ((not a && not b) && not c) ≡ not ((a || b) || c)
      step true b c = refl
      step false true c = refl
      step false false c = refl

  -- n columns, as the call has them
  module _ {n : ℕ} (e : n ≡ columns_in cells h) where
    pub has_room_lem : ((ltb (length kept) (length cells) || ltb (length numbers) n) || ltb most_columns n) ≡ false → has_room cells h kept numbers ≡ true
    has_room_lem f = room_test ∙ ap not (rw e at f)

    pub no_room : ((ltb (length kept) (length cells) || ltb (length numbers) n) || ltb most_columns n) ≡ true → TakesOut cells h kept numbers 0 kept numbers
    no_room f =
        let g : has_room cells h kept numbers ≡ false = room_test ∙ ap not (rw e at f) in
        record { counted = rw g; cells_kept = rw g; numbered = rw g }

pub record Room (cells : List ℕ) (h : ℕ) (kept numbers : List ℕ) : Type 0 where
  pub for_cells : length cells ≤ length kept
  pub for_numbers : columns_in cells h ≤ length numbers
  pub few : columns_in cells h ≤ most_columns

pub room_of : (cells : List ℕ) (h : ℕ) (kept numbers : List ℕ) → has_room cells h kept numbers ≡ true → Room cells h kept numbers
room_of cells h kept numbers e =
    let a = leb (length cells) (length kept) in
    let b = leb (columns_in cells h) (length numbers) in
    let c = leb (columns_in cells h) most_columns in
    let f : (a && b) ≡ true = both_left (a && b) c e in
    record {
      for_cells = leb-true _ _ (both_left a b f);
      for_numbers = leb-true _ _ (both_right a b f);
      few = leb-true _ _ (both_right (a && b) c e);
    }

-- ---- column after column

pub record Taking (cells : List ℕ) (h : ℕ) (kept₀ numbers₀ : List ℕ) (k : ℕ) (left : List ℕ) (q at : ℕ) (kept numbers : List ℕ) : Type 0 where
  pub starts : left ≡ drop (k * h) cells
  pub copied : List ℕ
  pub cells_over : kept ≡ over kept₀ copied
  pub cells_left : copied ++ join (heard_of (drop k (score_of cells h))) ≡ join (heard_of (score_of cells h))
  pub cells_many : length copied ≡ at
  pub cells_fit : at ≤ k * h
  pub kept_long : length kept ≡ length kept₀
  pub named : List ℕ
  pub numbers_over : numbers ≡ over numbers₀ named
  pub numbers_left : named ++ heard_from (k + 1) (drop k (score_of cells h)) ≡ heard_from 1 (score_of cells h)
  pub numbers_many : length named ≡ q
  pub numbers_fit : q ≤ k
  pub numbers_long : length numbers ≡ length numbers₀

module _ (cells : List ℕ) (h : ℕ) where
  abbrev score : List (List ℕ)
  score = score_of cells h

  pub taking_start : (kept₀ numbers₀ : List ℕ) → Taking cells h kept₀ numbers₀ 0 cells 0 0 kept₀ numbers₀
  taking_start kept₀ numbers₀ =
      record {
        starts = rw zero-mul;
        copied = [];
        cells_over = refl;
        cells_left = refl;
        cells_many = refl;
        cells_fit = zero-le;
        kept_long = refl;
        named = [];
        numbers_over = refl;
        numbers_left = refl;
        numbers_many = refl;
        numbers_fit = zero-le;
        numbers_long = refl;
      }

  module _ {kept₀ numbers₀ kept numbers left : List ℕ} {k q at : ℕ} (t : Taking cells h kept₀ numbers₀ k left q at kept numbers) where
    module _ (l : k < columns_in cells h) where
      fits : k * h + h ≤ length cells
      fits = column_room cells h k (k * h) refl l

      -- the next column is within the cells that are left, and its cells and its number have room
      pub taking_part : h ≤ length left
      taking_part = omega (arith, fits, ap length t.starts, length-drop (k * h) cells)

      here_length : length (get_or score k []) ≡ h
      here_length = column_length (columns_in cells h) h cells k l (omega (arith, fits, next_starts cells h k (k * h) refl))

      pub taking_room : Room cells h kept₀ numbers₀ → at + h ≤ length kept
      taking_room r = omega (arith, fits, t.cells_fit, t.kept_long, r.for_cells)

      pub taking_place : Room cells h kept₀ numbers₀ → q < length numbers
      taking_place r = omega (arith, t.numbers_fit, t.numbers_long, r.for_numbers)

      within : k < length score
      within = omega (arith, score_length cells h)

      module _ {column rest : List ℕ} (c : column ≡ take h left) (s : rest ≡ drop h left) {b : Bool} (e : b ≡ not (heard column)) where
        here : column ≡ get_or score k []
        here = c ∙ ap (take h) t.starts ∙ sym (cut_at (columns_in cells h) h cells k l)

        on : rest ≡ drop ((k + 1) * h) cells
        on = s ∙ ap (drop h) t.starts ∙ drop-drop h (k * h) cells ∙ ap (λ (m : ℕ). drop m cells) (next_starts cells h k (k * h) refl)

        -- a column without a pitch
        pub taking_skip : not b ≡ false → Taking cells h kept₀ numbers₀ (k + 1) rest q at kept numbers
        taking_skip f =
            let g : heard (get_or score k []) ≡ false = ap heard (sym here) ∙ not-true _ (sym e ∙ not-false b f) in
            record {
              starts = on;
              copied = t.copied;
              cells_over = t.cells_over;
              cells_left = ap (λ (s : List (List ℕ)). t.copied ++ join s) (cells_skip score k within g) ∙ t.cells_left;
              cells_many = t.cells_many;
              cells_fit = omega (arith, t.cells_fit, next_starts cells h k (k * h) refl);
              kept_long = t.kept_long;
              named = t.named;
              numbers_over = t.numbers_over;
              numbers_left = ap (λ (s : List ℕ). t.named ++ s) (numbers_skip score k within g) ∙ t.numbers_left;
              numbers_many = t.numbers_many;
              numbers_fit = omega (arith, t.numbers_fit);
              numbers_long = t.numbers_long;
            }

        -- a column with one is copied, and its number
        pub taking_take : Room cells h kept₀ numbers₀ → not b ≡ true → {kept' : List ℕ} → kept' ≡ sets kept at column
            → Taking cells h kept₀ numbers₀ (k + 1) rest (q + 1) (at + h) kept' (set numbers q (k + 1))
        taking_take r f {kept'} w =
            let own = get_or score k [] in
            let g : heard own ≡ true = ap heard (sym here) ∙ not-false _ (sym e ∙ not-true b f) in
            let n : length own ≡ h = here_length in
            let room : at + length own ≤ length kept₀ = omega (arith, n, fits, t.cells_fit, r.for_cells) in
            let place : q < length numbers₀ = omega (arith, t.numbers_fit, r.for_numbers) in
            record {
              starts = on;
              copied = t.copied ++ own;
              cells_over =
                  w ∙ ap (sets kept at) here ∙ ap (λ (d : List ℕ). sets d at own) t.cells_over ∙ over_sets kept₀ t.copied 0 own at t.cells_many room;
              cells_left = cells_take score k within t.copied g ∙ t.cells_left;
              cells_many = omega (arith, length-append t.copied own, t.cells_many, n);
              cells_fit = omega (arith, t.cells_fit, next_starts cells h k (k * h) refl);
              kept_long = ap length w ∙ length-sets kept at column ∙ t.kept_long;
              named = t.named ++ ((k + 1) ∷ []);
              numbers_over =
                  ap (λ (d : List ℕ). set d q (k + 1)) t.numbers_over ∙ over_more numbers₀ t.named 0 q (k + 1) t.numbers_many place;
              numbers_left = numbers_take score k within t.named g ∙ t.numbers_left;
              numbers_many = length-append t.named ((k + 1) ∷ []) ∙ ap (λ (m : ℕ). m + 1) t.numbers_many;
              numbers_fit = omega (arith, t.numbers_fit);
              numbers_long = length-set numbers q (k + 1) ∙ t.numbers_long;
            }

    -- all are passed
    pub taking_end : has_room cells h kept₀ numbers₀ ≡ true → columns_in cells h ≤ k → TakesOut cells h kept₀ numbers₀ q kept numbers
    taking_end r l =
        let past : length score ≤ k = omega (arith, score_length cells h) in
        let none : drop k score ≡ [] = drop_of_length-le score past in
        let all : t.copied ≡ join (heard_of score) = sym (append-nil t.copied) ∙ (rw none at t.cells_left) in
        let each : t.named ≡ heard_from 1 score = sym (append-nil t.named) ∙ (rw none at t.numbers_left) in
        record {
          counted = rw r (sym t.numbers_many ∙ ap length each);
          cells_kept = rw r (t.cells_over ∙ ap (λ (d : List ℕ). over kept₀ d) all);
          numbered = rw r (t.numbers_over ∙ ap (λ (d : List ℕ). over numbers₀ d) each);
        }
