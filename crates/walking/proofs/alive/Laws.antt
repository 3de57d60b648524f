-- All starts of a column at once: the starts by their word, the notes that follow one by one, and what a column gives where
-- there is room for all its hits. Assumes nothing.
use mathlib.Core.Path.{◌≡◌, refl, sym, ap, ◌∙◌}
use mathlib.Core.Bool.{Bool, true, false}
use mathlib.Core.List.{List, [], map, ◌++◌, append-nil}
use Prim.Native.Nat.{ℕ, suc, ◌+◌, ◌-◌, ◌*◌, ◌^◌, ◌≤◌, ◌<◌, zero-le}
use native.Mathlib.Nat.{lt_of_le_of_lt, lt_of_lt_of_le}
use native.Mathlib.Numerals.{add-one}
use native.Mathlib.Decide.{dec_lt}
use native.Mathlib.Omega.{arith}
use lib.Bits.{bit_and, and_le_l}
use lib.Count.{ones, ones-ones, ones-le}
use lib.ListN.{length, get_or, take, drop, drop_of_length-le}
use lib.Pow.{ones_lt, pow_mono}
use lib.Seq.{drop-cons, drop-drop, get_or-drop}
use borrow.Author.Tests.{eq-eqb}
use Rattle.theory.specs.Lists.{count, sum}
use Rattle.theory.specs.Pages.{hits}
use Rattle.theory.specs.Bits.{bit}
use Rattle.theory.specs.Marks.{marks}
use Rattle.theory.proofs.Bits.{bit_high, bit_ones}
use Rattle.theory.proofs.Lists.{count_append}
use Rattle.theory.proofs.Marks.{marks_is, marks_both, marks_few}
use Rattle.theory.proofs.Counts.{count_none}
use Rattle.theory.proofs.Pages.{hits_append}
use Rattle.theory.proofs.Hits.{hits_part, hits_all}
use Rattle.theory.proofs.Looks.{sum_part, sum_none}
use Rattle.score.specs.declared.quantities.Pitch.{Pitch}
use Rattle.score.specs.Score.{pitch, column_at, column, columns_in, score_of}
use Rattle.ways.specs.declared.way.Way.{Way}
use Rattle.ways.specs.declared.way.Way.TheVariants.{Exact, Octave}
use Rattle.ways.specs.Way.{holds}
use Rattle.ways.proofs.Holding.{holds_below, holds_above}
use Rattle.masks.specs.Masks.{value, width, low_code, all_starts, held_word}
use Rattle.masks.proofs.Halves.{Halves, value_and, value_ones}
use Rattle.masks.proofs.HeldWords.{width_le, held_bit, all_lt}
use Rattle.hits.specs.Writing.{codes_of}
use Rattle.hits.proofs.Fitting.{codes_none, codes_length}
use Rattle.score.specs.Score.{note}
use Rattle.walking.specs.Starts.{codes, follows, looked, hit, looks}
use Rattle.walking.specs.Walk.{Ready, Fits}
use Rattle.walking.specs.Alive.{Followed}
use Rattle.walking.proofs.starts.Trying.{column_cells}

-- ---- a word's codes

-- a word of either way is one of 128 bits
pub word_small : (way : Way) (word : ℕ) → word < 2 ^ width way → word < 2 ^ 128
word_small way word s = lt_of_lt_of_le s (pow_mono (width_le way))

-- as many as the word has ones
pub word_length : (way : Way) (first : Pitch) (word : ℕ) → word < 2 ^ width way → length (codes_of way first word) ≡ ones word
word_length way first word s = codes_length way first word (word_small way word s)

-- a bit that is set is one of those used
bit_used : (w word i : ℕ) → word < 2 ^ w → bit word i ≡ 1 → i < w
bit_used w word i s e = below (dec_lt i w)
  where
    below : Dec (i < w) → i < w
    below (yes l) = l
    below (no l) = absurd (omega (arith, e, bit_high word i w s (omega arith)))

-- those at which a column holds a note: both words have the bit
pub codes_both : (way : Way) (first p : Pitch) (column : List ℕ) (word : ℕ) → word < 2 ^ width way
    → hits (λ c. holds way c p column) (codes_of way first word) ≡ codes_of way first (bit_and word (held_word way first p column))
codes_both way first p column word s =
    marks_both (λ c. holds way c p column) 128 (low_code way first) word (held_word way first p column)
    (λ i k e. held_bit way first p column i (bit_used (width way) word i s e))

split : (test : ℕ → Bool) (a m n : ℕ) → hits test (count a (m + n)) ≡ hits test (count a m) ++ hits test (count (a + m) n)
split test a m n = ap (hits test) (count_append a m n) ∙ hits_append test (count a m) (count (a + m) n)

-- what passes a test that only w numbers from z on pass
part : (test : ℕ → Bool) (w z r all : ℕ) → all ≡ z + (w + r) → ((c : ℕ) → c < z → test c ≡ false) → ((c : ℕ) → z + w ≤ c → test c ≡ false)
    → hits test (count 0 all) ≡ hits test (count z w)
part test w z r all e before behind =
    let first : hits test (count 0 all) ≡ hits test (count 0 z) ++ hits test (count (0 + z) (w + r)) = rw e (split test 0 z (w + r)) in
    let at : 0 + z ≡ z = omega arith in
    first ∙ rw (
      at,
      count_none test 0 z (λ c a b. before c (omega arith)),
      split test z w r,
      count_none test (z + w) r (λ c a b. behind c a),
      append-nil (hits test (count z w)),
    )

-- a word with every bit marks every number
marks_all : (w z : ℕ) → marks w z (2 ^ w - 1) ≡ count z w
marks_all w z = marks_is (λ c. true) w z (2 ^ w - 1) (λ i k. eq-eqb _ _ (bit_ones i w k)) ∙ hits_all (λ c. true) (count z w) (λ c m. refl)

-- every start there may be, as many as the width; and those at which a column holds the first note are its starts
pub all_length : (way : Way) (p : Pitch) → length (codes_of way p (all_starts way)) ≡ width way
unfolding all_starts
all_length way p = word_length way p (all_starts way) (all_lt way) ∙ ones-ones (width way)

pub all_starts_lem : (way : Way) (p : Pitch) (column : List ℕ) → p.0 ≤ 127
    → hits (λ c. holds way c p column) (codes_of way p (all_starts way)) ≡ codes way p column 0
unfolding all_starts
all_starts_lem Exact p column l =
    ap (hits (λ c. holds Exact c p column)) (marks_all 128 (127 - p.0))
    ∙ sym
    (part (λ c. holds Exact c p column) 128 (127 - p.0) p.0 255 (omega arith)
    (λ c k. sym (holds_below c p column (omega arith))) (λ c k. sym (holds_above c p column (omega arith))))
all_starts_lem Octave p column l = ap (hits (λ c. holds Octave c p column)) (marks_few 12 116 0 (2 ^ 12 - 1) (ones_lt 12) ∙ marks_all 12 0)

-- ---- the notes that follow

-- of a word's starts, those at which the notes from k on follow; and what all of them cost from there on
abbrev hits_from : (way : Way) (cells : List ℕ) (h : ℕ) (theme : List ℕ) (j k word : ℕ) → List ℕ
hits_from way cells h theme j k word = hits (λ c. follows way c (drop k theme) (drop (j + k - 1) (score_of cells h))) (codes_of way (note theme 1) word)

abbrev looks_from : (way : Way) (cells : List ℕ) (h : ℕ) (theme : List ℕ) (j k word : ℕ) → ℕ
looks_from way cells h theme j k word =
    sum (map (λ c. looked way c (drop k theme) (drop (j + k - 1) (score_of cells h))) (codes_of way (note theme 1) word))

-- k notes were followed: of every start there may be, the word has those that are alive
pub record Following (way : Way) (cells : List ℕ) (h : ℕ) (theme : List ℕ) (j word spent k : ℕ) : Type 0 where
  pub up_to : k ≤ length theme
  pub small : word < 2 ^ width way
  pub hits : hits_from way cells h theme j 0 (all_starts way) ≡ hits_from way cells h theme j k word
  pub costs : looks_from way cells h theme j 0 (all_starts way) ≡ spent + looks_from way cells h theme j k word
  pub bounded : spent ≤ k * 128

-- at most 128 are alive
alive_few : (way : Way) (word : ℕ) → word < 2 ^ width way → ones word ≤ 128
alive_few way word s = ones-le 128 word (word_small way word s)

module _ (way : Way) (cells : List ℕ) (h : ℕ) (theme : List ℕ) (j : ℕ) (r : Ready cells h theme) (f : Fits (columns_in cells h) (length theme) j) where
  abbrev first : Pitch
  first = note theme 1

  abbrev score : List (List ℕ)
  score = score_of cells h

  abbrev starts : List ℕ
  starts = codes way first (column score (column_at j)) 0

  abbrev all_hits : List ℕ
  all_hits = hits_from way cells h theme j 0 (all_starts way)

  abbrev all_looks : ℕ
  all_looks = looks_from way cells h theme j 0 (all_starts way)

  pub follow_first : Following way cells h theme j (all_starts way) 0 0
  follow_first = record { up_to = zero-le; small = all_lt way; hits = refl; costs = omega arith; bounded = zero-le }

  -- the first note: those that have it are the starts
  at_first : j + 0 - 1 ≡ j - 1
  at_first = omega arith

  here : get_or (drop (j - 1) score) 0 [] ≡ column score (column_at j)
  here = let e : j - 1 + 0 ≡ j - 1 = omega arith in get_or-drop (j - 1) score 0 [] ∙ ap (λ (i : ℕ). get_or score i []) e

  next : drop 1 (drop (j - 1) score) ≡ drop j score
  next = let e : j - 1 + 1 ≡ j = omega (arith, f.from_first) in drop-drop 1 (j - 1) score ∙ ap (λ (i : ℕ). drop i score) e

  have_first : hits (λ c. holds way c first (column score (column_at j))) (codes_of way first (all_starts way)) ≡ starts
  have_first = all_starts_lem way first (column score (column_at j)) (r.sung 0)

  first_hits : all_hits ≡ hits (λ c. follows way c (drop 1 theme) (drop j score)) starts
  first_hits =
      rw (at_first, drop-cons theme 0 0 (omega (arith, r.notes)), here, next, ← have_first)
      (hits_part (λ c. holds way c first (column score (column_at j))) (λ c. follows way c (drop 1 theme) (drop j score)) (codes_of way first (all_starts way)))

  first_costs : all_looks ≡ width way + sum (map (λ c. looked way c (drop 1 theme) (drop j score)) starts)
  first_costs =
      rw (at_first, drop-cons theme 0 0 (omega (arith, r.notes)), here, next, ← have_first, ← all_length way first)
      (sum_part (λ c. holds way c first (column score (column_at j))) (λ c. looked way c (drop 1 theme) (drop j score)) (codes_of way first (all_starts way)))

  followed : (word spent : ℕ) → word < 2 ^ width way → all_hits ≡ codes_of way first word → all_looks ≡ spent → Followed way score theme j word (spent - width way)
  unfolding hit looks
  followed word spent s a b = record { small = s; left = rw next (sym first_hits ∙ a); costs = rw next (omega (arith, first_costs, b)) }

  module _ (word spent k : ℕ) (t : Following way cells h theme j word spent k) where
    -- what the first note costs was counted, whether none is alive or the theme ends
    no_less : all_looks ≡ spent → width way ≤ spent
    no_less b = omega (arith, first_costs, b)

    -- none is alive
    module _ (z : word ≡ 0) where
      none : codes_of way first word ≡ []
      none = rw z (codes_none way first)

      none_costs : all_looks ≡ spent
      none_costs = t.costs ∙ rw none (omega arith)

      pub none_spare : width way ≤ spent
      none_spare = no_less none_costs

      pub follow_none : Followed way score theme j word (spent - width way)
      follow_none = followed word spent t.small (t.hits ∙ rw none) none_costs

    -- the theme ends
    module _ (q : length theme ≤ k) where
      ended : drop k theme ≡ []
      ended = drop_of_length-le theme {i = k} q

      end_costs : all_looks ≡ spent
      end_costs = t.costs ∙ rw (ended, sum_none (codes_of way first word)) (omega arith)

      pub end_spare : width way ≤ spent
      end_spare = no_less end_costs

      pub follow_end : Followed way score theme j word (spent - width way)
      follow_end = followed word spent t.small (t.hits ∙ rw ended (hits_all (λ c. true) (codes_of way first word) (λ c m. refl))) end_costs

    -- one note more: those at which the next column holds it stay alive
    module _ (q : k < length theme) where
      abbrev p : Pitch
      p = pitch (get_or theme k 0)

      abbrev cells_here : List ℕ
      cells_here = take h (drop ((j + k - 1) * h) cells)

      abbrev after : ℕ
      after = bit_and word (held_word way first p cells_here)

      at_column : get_or (drop (j + k - 1) score) 0 [] ≡ cells_here
      at_column = column_cells cells h (j + k - 1) (omega (arith, f.to_last))

      further : drop 1 (drop (j + k - 1) score) ≡ drop (j + (k + 1) - 1) score
      further = drop-drop 1 (j + k - 1) score ∙ ap (λ (i : ℕ). drop i score) on
        where
          on : j + k - 1 + 1 ≡ j + (k + 1) - 1
          on = omega (arith, f.from_first)

      held : hits (λ c. holds way c p cells_here) (codes_of way first word) ≡ codes_of way first after
      held = codes_both way first p cells_here word t.small

      step_hits : hits_from way cells h theme j k word ≡ hits_from way cells h theme j (k + 1) after
      step_hits =
          rw (drop-cons theme k 0 q, at_column, further, add-one k, ← held)
          (hits_part (λ c. holds way c p cells_here) (λ c. follows way c (drop (suc k) theme) (drop (j + suc k - 1) score)) (codes_of way first word))

      step_costs : looks_from way cells h theme j k word ≡ ones word + looks_from way cells h theme j (k + 1) after
      step_costs =
          rw (drop-cons theme k 0 q, at_column, further, add-one k, ← held, ← word_length way first word t.small)
          (sum_part (λ c. holds way c p cells_here) (λ c. looked way c (drop (suc k) theme) (drop (j + suc k - 1) score)) (codes_of way first word))

      follow_turn : Following way cells h theme j after (spent + ones word) (k + 1)
      follow_turn =
          record {
            up_to = omega arith;
            small = lt_of_le_of_lt (and_le_l word (held_word way first p cells_here)) t.small;
            hits = t.hits ∙ step_hits;
            costs = omega (arith, t.costs, step_costs);
            bounded = omega (arith, t.bounded, alive_few way word t.small);
          }

  -- the same as code has the word: in halves, each with what the column holds
  pub follow_halves : (low high spent k : ℕ) → Halves low high → Following way cells h theme j (value low high) spent k → k < length theme
      → (l u : ℕ) → Halves l u → value l u ≡ held_word way first (pitch (get_or theme k 0)) (take h (drop ((j + k - 1) * h) cells))
      → Following way cells h theme j (value (bit_and low l) (bit_and high u)) (spent + (ones low + ones high)) (k + 1)
  follow_halves low high spent k x t q l u y e = rw (value_and low high l u x y, e, value_ones low high x) (follow_turn (value low high) spent k t q)
