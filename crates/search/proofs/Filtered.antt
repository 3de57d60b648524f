-- Candidates. For any table and sets a column is one where the words have zeros on the diagonal; with the theme's table,
-- where each interval of the theme is in its set (`candidate_iff`); with the own sets of a score without empty columns, where
-- each is that of two neighbouring columns (`candidate_apart`). So every column where the theme stands is one, in either way, and nothing is
-- lost (`stands_candidate`, `hit_candidate`). Assumes nothing.
use mathlib.Core.Path.{◌≡◌, refl, sym, ap, ◌∙◌}
use mathlib.Core.Bool.{true, false}
use mathlib.Core.Logic.{◌↔◌}
use mathlib.Core.List.{List, [], Memᴰ as In}
use Prim.Native.Nat.{ℕ, suc, ◌+◌, ◌-◌, ◌%◌, ◌≤◌, ◌<◌}
use native.Mathlib.Omega.{arith}
use lib.Dec.{eqb}
use lib.ListN.{length, get_or}
use lib.Seq.{get_or-drop}
use borrow.Author.Tests.{eqb-true, eq-eqb}
use Rattle.theory.specs.Bits.{bit}
use Rattle.theory.specs.Register.{register}
use Rattle.theory.proofs.Register.{register_sound, register_complete}
use Rattle.theory.proofs.Lists.{some_in}
use Rattle.score.specs.Limits.{table_words}
use Rattle.score.specs.declared.quantities.Pitch.{Pitch}
use Rattle.score.specs.Score.{pitch, pitches, column_at, has_empty, heard_of, rank_of, columns_from}
use Rattle.score.specs.Sets.{interval, sets, Apart}
use Rattle.score.proofs.Intervals.{interval_lt, interval_from}
use Rattle.score.proofs.Heard.{heard_full}
use Rattle.score.proofs.IntervalSets.{set_bit, full_sets_at, sets_lt, heard_sets}
use Rattle.ways.specs.declared.way.Way.{Way}
use Rattle.ways.specs.declared.way.Way.TheVariants.{Exact, Octave}
use Rattle.ways.specs.declared.bookmark.Pair.{Pair}
use Rattle.ways.specs.Way.{holds, code_of}
use Rattle.score.specs.Score.{note}
use Rattle.search.specs.Definition.{Stands}
use Rattle.search.specs.Pairs.{candidate_of}
use Rattle.walking.specs.Starts.{Place, starts, hit}
use Rattle.filter.specs.Table.{theme_interval, theme_table}
use Rattle.walking.specs.Candidates.{candidate}
use Rattle.walking.proofs.Order.{in_starts}
use Rattle.search.proofs.Notes.{Each, hit_each}
use Rattle.search.proofs.Listed.{stood, stands_start, stands_each, ranks}
use Rattle.filter.proofs.Words.{word_in, table_at}

-- ---- any table and any lent sets

abbrev words : (table lent : List ℕ) → ℕ → ℕ
words table lent k = get_or table (get_or lent k 0) 0

pub candidate_diagonal : (w : ℕ) (table lent : List ℕ) (m j : ℕ) → 2 ≤ m → m ≤ w → 1 ≤ j
    → (candidate w table lent m j ≡ true) ↔ ((i : ℕ) → i + 2 ≤ m → bit (get_or table (get_or lent (j - 1 + i) 0) 0) i ≡ 0)
unfolding candidate
candidate_diagonal w table lent m j low high h = (there, back)
  where
    end : j + m - 2 ≡ j - 1 + suc (m - 2)
    end = omega arith

    there : eqb (bit (register w (words table lent) (j + m - 2)) (m - 2)) 0 ≡ true → (i : ℕ) → i + 2 ≤ m → bit (words table lent (j - 1 + i)) i ≡ 0
    there e i k =
        let z : bit (register w (words table lent) (j + m - 2)) (m - 2) ≡ 0 = eqb-true _ _ e in
        register_sound w (words table lent) (j - 1) (m - 2) (omega arith) (rw end at z) i (omega arith)

    back : ((i : ℕ) → i + 2 ≤ m → bit (words table lent (j - 1 + i)) i ≡ 0) → eqb (bit (register w (words table lent) (j + m - 2)) (m - 2)) 0 ≡ true
    back f =
        let z : bit (register w (words table lent) (j - 1 + suc (m - 2))) (m - 2) ≡ 0
        = register_complete w (words table lent) (j - 1) (m - 2) (omega arith) (λ i k. f i (omega arith)) in
        eq-eqb _ _ (rw (← end) at z)

-- ---- the theme's table, and any lent sets

module _ (w : ℕ) (theme : List ℕ) (low : 2 ≤ length theme) (high : length theme ≤ w) where
  pub candidate_iff : (lent : List ℕ) → ((k : ℕ) → get_or lent k 0 < table_words) → (j : ℕ) → 1 ≤ j
      → (candidate w (theme_table w theme) lent (length theme) j ≡ true)
      ↔ ((i : ℕ) → i + 2 ≤ length theme → bit (get_or lent (j - 1 + i) 0) (theme_interval theme i).0 ≡ 0)
  candidate_iff lent small j h = (λ e i k. sym (same i k) ∙ all.0 e i k, λ f. all.1 (λ i k. same i k ∙ f i k))
    where
      all : (candidate w (theme_table w theme) lent (length theme) j ≡ true)
          ↔ ((i : ℕ) → i + 2 ≤ length theme → bit (get_or (theme_table w theme) (get_or lent (j - 1 + i) 0) 0) i ≡ 0)
      all = candidate_diagonal w (theme_table w theme) lent (length theme) j low high h

      same : (i : ℕ) → i + 2 ≤ length theme
          → bit (get_or (theme_table w theme) (get_or lent (j - 1 + i) 0) 0) i ≡ bit (get_or lent (j - 1 + i) 0) (theme_interval theme i).0
      same i k =
          ap (λ (x : ℕ). bit x i) (table_at w theme (get_or lent (j - 1 + i) 0) (small (j - 1 + i)))
          ∙ word_in w theme (get_or lent (j - 1 + i) 0) i (omega arith) k

  -- ---- the score's own sets: each interval of the theme is that of two pitches in neighbouring columns

  pub candidate_apart : (score : List (List ℕ)) → has_empty score ≡ false → (j : ℕ) → 1 ≤ j → j + length theme ≤ length score + 1
      → (candidate w (theme_table w theme) (sets score) (length theme) j ≡ true)
      ↔ ((i : ℕ) → i + 2 ≤ length theme → Apart (get_or score (j - 1 + i) []) (get_or score (j - 1 + i + 1) []) (theme_interval theme i))
  candidate_apart score full j from_first to_last = (λ e i k. (same i k).0 (all.0 e i k), λ f. all.1 (λ i k. (same i k).1 (f i k)))
    where
      all : (candidate w (theme_table w theme) (sets score) (length theme) j ≡ true)
          ↔ ((i : ℕ) → i + 2 ≤ length theme → bit (get_or (sets score) (j - 1 + i) 0) (theme_interval theme i).0 ≡ 0)
      all = candidate_iff (sets score) (sets_lt score) j from_first

      same : (i : ℕ) → i + 2 ≤ length theme
          → (bit (get_or (sets score) (j - 1 + i) 0) (theme_interval theme i).0 ≡ 0)
          ↔ Apart (get_or score (j - 1 + i) []) (get_or score (j - 1 + i + 1) []) (theme_interval theme i)
      same i k =
          rw (full_sets_at score full (j - 1 + i) (omega arith))
          (set_bit (get_or score (j - 1 + i) []) (get_or score (j - 1 + i + 1) []) (theme_interval theme i) (interval_lt (note theme (i + 1)) (note theme (i + 2))))

-- ---- where the theme stands

-- either way moves every note by the same number, mod 12
abbrev offset : Way → ℕ → ℕ
offset Exact code = code + 5
offset Octave code = code

holds_offset : (way : Way) (code : ℕ) (p : Pitch) (column : List ℕ) → holds way code p column ≡ true
    → (t : Pitch) × In t (pitches column) × (t.0 % 12 ≡ (p.0 + offset way code) % 12)
unfolding holds
holds_offset Exact code p column e =
    let f = some_in (λ (t : Pitch). eqb (t.0 + 127) (p.0 + code)) (pitches column) e in
    let k : f.0.0 + 127 ≡ p.0 + code = eqb-true _ _ f.2 in
    (f.0, f.1, omega arith)
holds_offset Octave code p column e =
    let f = some_in (λ (t : Pitch). eqb (t.0 % 12) ((p.0 + code) % 12)) (pitches column) e in
    (f.0, f.1, eqb-true _ _ f.2)

-- so neighbouring columns that hold neighbouring notes have their interval
held_apart : (way : Way) (code : ℕ) (p q : Pitch) (a b : List ℕ) → p.0 ≤ 127 → holds way code p a ≡ true → holds way code q b ≡ true → Apart a b (interval p q)
held_apart way code p q a b h e f =
    let x = holds_offset way code p a e in
    let y = holds_offset way code q b f in
    record { x = x.0; y = y.0; here = x.1; next = y.1; far = interval_from x.0 y.0 (interval p q) (interval_lt p q) (omega (arith, x.2, y.2)) }

module _ (w : ℕ) (way : Way) (score : List (List ℕ)) (theme : List ℕ) (low : 2 ≤ length theme) (high : length theme ≤ w) (notes : (i : ℕ) → get_or theme i 0 ≤ 127) where
  each_candidate : has_empty score ≡ false → (code j : ℕ) → 1 ≤ j → j + length theme ≤ length score + 1 → Each way code theme (columns_from score (column_at j))
      → candidate w (theme_table w theme) (sets score) (length theme) j ≡ true
  each_candidate full code j from_first to_last each = (candidate_apart w theme low high score full j from_first to_last).1 there
    where
      held : (i k c : ℕ) → i < length theme → k ≡ i → c ≡ j - 1 + i → holds way code (pitch (get_or theme k 0)) (get_or score c []) ≡ true
      held i k c h e f = rw (e, f) (rw (get_or-drop (j - 1) score i []) at (each i h))

      there : (i : ℕ) → i + 2 ≤ length theme → Apart (get_or score (j - 1 + i) []) (get_or score (j - 1 + i + 1) []) (theme_interval theme i)
      there i h =
          held_apart way code (note theme (i + 1)) (note theme (i + 2)) (get_or score (j - 1 + i) []) (get_or score (j - 1 + i + 1) []) (notes (i + 1 - 1))
          (held i (i + 1 - 1) (j - 1 + i) (omega arith) (omega arith) refl)
          (held (i + 1) (i + 2 - 1) (j - 1 + i + 1) (omega arith) (omega arith) (omega arith))

-- ---- in a score: its own sets at the columns with a pitch are those of the score without its empty columns

module _ (w : ℕ) (way : Way) (score : List (List ℕ)) (theme : List ℕ) (low : 2 ≤ length theme) (high : length theme ≤ w) (notes : (i : ℕ) → get_or theme i 0 ≤ 127) where
  own_candidate : (code i : ℕ) → 1 ≤ i → i + length theme ≤ length (heard_of score) + 1 → Each way code theme (columns_from (heard_of score) (column_at i))
      → candidate_of w score (theme_table w theme) (sets score) (length theme) i ≡ true
  own_candidate code i from_first to_last each =
      rw (heard_sets score) (each_candidate w way (heard_of score) theme low high notes (heard_full score) code i from_first to_last each)

  pub stands_candidate : {pair : Pair} → Stands way score theme pair
      → candidate_of w score (theme_table w theme) (sets score) (length theme) (rank_of score pair.column) ≡ true
  stands_candidate {pair} t =
      let p = stood way score theme t in
      let s = stands_start way score theme t (omega (arith, low)) in
      rw (ranks way score theme p) (own_candidate (code_of way pair.shift) p.i s.from_first s.to_last (stands_each way score theme t))

  pub hit_candidate : {s : Place} → In s (starts way (heard_of score) theme) → hit way (heard_of score) theme s ≡ true
      → candidate_of w score (theme_table w theme) (sets score) (length theme) s.column ≡ true
  hit_candidate {s} m e =
      let t = in_starts way (heard_of score) theme m in
      own_candidate s.code s.column t.from_first t.to_last (hit_each way (heard_of score) theme s t.first_note e)
