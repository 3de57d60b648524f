-- What the loop that tries a start keeps: the notes from the second to the k-th were there, each look counted, and what is
-- left of the theme is sought in what is left of the score. Assumes nothing.
use mathlib.Core.Path.{◌≡◌, refl, sym, ap, ◌∙◌}
use mathlib.Core.Bool.{Bool, true, false, cond}
use mathlib.Core.List.{List, []}
use Prim.Native.Nat.{ℕ, suc, ◌+◌, ◌-◌, ◌*◌, ◌≤◌, ◌<◌}
use native.Mathlib.Nat.{suc-mul, le_trans, le_of_eq, mul-le-mul_right}
use native.Mathlib.Numerals.{add-one}
use native.Mathlib.Omega.{arith}
use lib.ListN.{length, get_or, take, drop, drop_of_length-le, length-drop}
use lib.Seq.{drop-cons, drop-drop, get_or-drop}
use Rattle.std.proofs.lemmas.List.{take_rest}
use Rattle.score.specs.Score.{pitch, columns_in, score_of}
use Rattle.score.proofs.Columns.{cut_at}
use Rattle.ways.specs.declared.way.Way.{Way}
use Rattle.ways.specs.Way.{holds}
use Rattle.walking.specs.Starts.{follows, looked, hit, looks}
use Rattle.walking.specs.Walk.{Ready, Fits, Trial}

-- ---- columns by their cells

module _ (cells : List ℕ) (h : ℕ) where
  -- column number k + 1 is the h cells from k * h
  pub column_cells : (k : ℕ) → k < columns_in cells h → get_or (drop k (score_of cells h)) 0 [] ≡ take h (drop (k * h) cells)
  column_cells k q =
      get_or-drop k (score_of cells h) 0 [] ∙ ap (λ (i : ℕ). get_or (score_of cells h) i []) zero_more ∙ cut_at (columns_in cells h) h cells k q
    where
      zero_more : k + 0 ≡ k
      zero_more = omega arith

  -- which lie within the score
  pub cells_within : (theme : List ℕ) → Ready cells h theme → (k : ℕ) → k < columns_in cells h → k * h + h ≤ length cells
  cells_within theme r k q = le_trans (le_of_eq (sym (suc-mul k h))) (le_trans (mul-le-mul_right h q) (le_of_eq r.whole))

-- ---- the notes from the second on

pub notes_behind : (theme : List ℕ) → length (take (length theme - 1) (drop 1 theme)) ≡ length theme - 1
notes_behind theme = ap length (take_rest theme 1) ∙ length-drop 1 theme

pub note_behind : (theme : List ℕ) (i : ℕ) → get_or (take (length theme - 1) (drop 1 theme)) i 0 ≡ get_or theme (i + 1) 0
note_behind theme i = rw (take_rest theme 1) (get_or-drop 1 theme i 0 ∙ ap (λ (k : ℕ). get_or theme k 0) one_more)
  where
    one_more : 1 + i ≡ i + 1
    one_more = omega arith

pub record Trying (way : Way) (cells : List ℕ) (h : ℕ) (theme : List ℕ) (j code base spent k : ℕ) : Type 0 where
  pub started : 1 ≤ k
  pub up_to : k ≤ length theme
  pub here : base ≡ (j + k - 1) * h
  pub counted : spent + 1 ≡ k
  pub hits : follows way code (drop 1 theme) (drop j (score_of cells h)) ≡ follows way code (drop k theme) (drop (j + k - 1) (score_of cells h))
  pub costs : looked way code (drop 1 theme) (drop j (score_of cells h)) ≡ spent + looked way code (drop k theme) (drop (j + k - 1) (score_of cells h))

module _ (way : Way) (cells : List ℕ) (h : ℕ) (theme : List ℕ) (j code : ℕ) (r : Ready cells h theme) (f : Fits (columns_in cells h) (length theme) j) where
  -- the first column looked at
  pub first_within : j * h + h ≤ length cells
  first_within = cells_within cells h theme r j (omega (arith, f.to_last, r.notes))

  pub try_first : Trying way cells h theme j code (j * h) 0 1
  try_first =
      let e : j + 1 - 1 ≡ j = omega arith in
      record { started = omega arith; up_to = omega (arith, r.notes); here = rw e; counted = refl; hits = rw e; costs = rw e (omega arith) }

  -- what a trial is, by the columns after column j
  trial : (found : Bool) (spent : ℕ) → found ≡ follows way code (drop 1 theme) (drop j (score_of cells h))
      → spent ≡ looked way code (drop 1 theme) (drop j (score_of cells h)) → Trial way (score_of cells h) theme j code found spent
  unfolding hit looks
  trial found spent a b =
      let e : drop 1 (drop (j - 1) (score_of cells h)) ≡ drop j (score_of cells h) = drop-drop 1 (j - 1) (score_of cells h) ∙ ap (λ (i : ℕ). drop i (score_of cells h)) back in
      record { hits = rw e a; costs = rw e b }
    where
      back : j - 1 + 1 ≡ j
      back = omega (arith, f.from_first)

  module _ (base spent k : ℕ) (t : Trying way cells h theme j code base spent k) where
    pub try_end : length theme ≤ k → Trial way (score_of cells h) theme j code true spent
    try_end q =
        let none : drop k theme ≡ [] = drop_of_length-le theme {i = k} q in
        trial true spent (sym (rw none at t.hits)) (let c : looked way code (drop 1 theme) (drop j (score_of cells h)) ≡ spent + 0 = rw none at t.costs in omega arith)

    module _ (q : k < length theme) where
      -- the k-th note's column, within the cells
      at_column : get_or (drop (j + k - 1) (score_of cells h)) 0 [] ≡ take h (drop base cells)
      at_column = column_cells cells h (j + k - 1) (omega (arith, f.to_last)) ∙ ap (λ (b : ℕ). take h (drop b cells)) (sym t.here)

      pub try_within : base + h ≤ length cells
      try_within = rw t.here (cells_within cells h theme r (j + k - 1) (omega (arith, f.to_last)))

      next : drop 1 (drop (j + k - 1) (score_of cells h)) ≡ drop (j + (k + 1) - 1) (score_of cells h)
      next = drop-drop 1 (j + k - 1) (score_of cells h) ∙ ap (λ (i : ℕ). drop i (score_of cells h)) on
        where
          on : j + k - 1 + 1 ≡ j + (k + 1) - 1
          on = omega (arith, f.from_first)

      -- whether the part of the cells from base to base + h holds the note
      module _ (held : Bool) (e' : held ≡ holds way code (pitch (get_or theme k 0)) (take (base + h - base) (drop base cells))) where
        e : held ≡ holds way code (pitch (get_or theme k 0)) (take h (drop base cells))
        e = let w : base + h - base ≡ h = omega arith in rw w at e'

        step_hits : follows way code (drop k theme) (drop (j + k - 1) (score_of cells h)) ≡ cond held (follows way code (drop (k + 1) theme) (drop (j + (k + 1) - 1) (score_of cells h))) false
        step_hits = rw (drop-cons theme k 0 q, at_column, next, e, add-one k)

        step_costs : looked way code (drop k theme) (drop (j + k - 1) (score_of cells h)) ≡ suc (cond held (looked way code (drop (k + 1) theme) (drop (j + (k + 1) - 1) (score_of cells h))) 0)
        step_costs = rw (drop-cons theme k 0 q, at_column, next, e, add-one k)

        pub try_miss : held ≡ false → Trial way (score_of cells h) theme j code false (spent + 1)
        try_miss m =
            let a : follows way code (drop k theme) (drop (j + k - 1) (score_of cells h)) ≡ false = step_hits ∙ rw m in
            let b : looked way code (drop k theme) (drop (j + k - 1) (score_of cells h)) ≡ 1 = step_costs ∙ rw m in
            trial false (spent + 1) (sym (t.hits ∙ a)) (omega (arith, t.costs))

        pub try_turn : held ≡ true → Trying way cells h theme j code (base + h) (spent + 1) (k + 1)
        try_turn m =
            let a : follows way code (drop k theme) (drop (j + k - 1) (score_of cells h)) ≡ follows way code (drop (k + 1) theme) (drop (j + (k + 1) - 1) (score_of cells h)) = step_hits ∙ rw m in
            let b : looked way code (drop k theme) (drop (j + k - 1) (score_of cells h)) ≡ suc (looked way code (drop (k + 1) theme) (drop (j + (k + 1) - 1) (score_of cells h))) = step_costs ∙ rw m in
            let n : j + (k + 1) - 1 ≡ suc (j + k - 1) = omega (arith, f.from_first) in
            record {
              started = omega arith;
              up_to = omega arith;
              here = ap (λ (x : ℕ). x + h) t.here ∙ sym (suc-mul (j + k - 1) h) ∙ ap (λ (x : ℕ). x * h) (sym n);
              counted = omega (arith, t.counted);
              hits = t.hits ∙ a;
              costs = omega (arith, t.costs);
            }
