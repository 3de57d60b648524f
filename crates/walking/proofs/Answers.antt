-- The two walks of a page. What is accepted is what a walk asks for; each way out of a call is what its definition says;
-- and what an answer tells: a refused call is refused by its rows, and one that is done was asked right. Assumes nothing.
use mathlib.Core.Path.{◌≡◌, sym, ap, ap₂, ◌∙◌}
use mathlib.Core.Bool.{Bool, true, false, true≢false}
use mathlib.Core.List.{List}
use Prim.Native.Nat.{ℕ, ◌+◌, ◌≤◌, ◌<◌}
use native.Mathlib.Omega.{arith}
use lib.IntN.{ℤ}
use lib.ListN.{length, get_or}
use Rattle.theory.specs.Pages.{from}
use Rattle.theory.proofs.Lists.{none_over}
use Rattle.score.specs.declared.refusals.Refusal.{Refusal}
use Rattle.score.specs.Score.{columns_in}
use Rattle.score.specs.Refusals.{Row, judge, verdict}
use Rattle.score.proofs.Columns.{columns_whole}
use Rattle.score.proofs.Judged.{Clear, judge_clear, judge_clear_of, judge_both, verdict_clear}
use Rattle.score.proofs.Judging.{judge_away}
use Rattle.ways.specs.declared.way.Way.{Way}
use Rattle.ways.specs.declared.way.AnyWay.TheVariants.{Moved}
use Rattle.ways.specs.declared.bookmark.Bookmark.{Bookmark}
use Rattle.ways.specs.Bookmarks.{key_of}
use Rattle.asking.specs.Limits.{most_notes}
use Rattle.asking.specs.Asking.{Accepted, PlainAsks, QuickAsks}
use Rattle.asking.specs.Refusals.{plain_rows, quick_rows}
use Rattle.asking.proofs.Rows.{plain_clear, quick_clear}
use Rattle.filter.specs.Limits.{word_bits}
use Rattle.filter.specs.Table.{theme_table}
use Rattle.walking.specs.declared.walked.Walked.{Walked}
use Rattle.walking.specs.Starts.{Place, key}
use Rattle.walking.specs.Found.{walked, Finds, QuickWalks}
use Rattle.walking.specs.Scan.{Lent}
use Rattle.walking.specs.Walk.{Ready, end_of, Walks}
use Rattle.std.specs.Prelude.{Result, Ok, Err}

-- ---- what is accepted is what a walk asks for

pub accepted_ready : {cells : List ℕ} {h : ℕ} {theme : List ℕ} → Accepted most_notes cells h theme → Ready cells h theme
accepted_ready {cells} {h} {theme} a =
    record {
      tracks = a.tracks_some;
      tracks_most = a.tracks_few;
      whole = columns_whole cells h a.columns_whole;
      columns_most = a.columns_few;
      notes = a.notes_some;
      notes_most = a.notes_few;
      sung = none_over 127 theme a.notes_good;
    }

module _ {cells : List ℕ} {h : ℕ} {theme : List ℕ} {way : Way} {b : Bookmark} {sets table columns : List ℕ} {shifts : List ℤ}
    (a : QuickAsks cells h theme way b sets table columns shifts) where
  pub asked_sets : length sets + 1 ≡ columns_in cells h
  asked_sets = omega (arith, a.with_sets.one_less, a.plain.accepted.columns_some)

  pub asked_small : (k : ℕ) → get_or sets k 0 < 4096
  asked_small k = let q : get_or sets k 0 ≤ 4095 = none_over 4095 sets a.with_sets.sets_good k in omega arith

  pub asked_lent : {j end : ℕ} → 1 ≤ j → j < end → end ≡ end_of cells h theme → Lent sets (length theme) j end
  asked_lent first more e =
      record {
        notes = a.plain.accepted.notes_some;
        notes_most = a.plain.accepted.notes_few;
        from_first = first;
        some = more;
        to_last = omega (arith, asked_sets, e);
        sets_few = omega (arith, asked_sets, a.plain.accepted.columns_few);
      }

-- ---- a walk that is done is no refusal, and a refusal tells itself

abbrev is_done : Result Walked Refusal → Bool
is_done (Ok w) = true
is_done (Err r) = false

abbrev walked_of : Walked → Result Walked Refusal → Walked
walked_of d (Ok w) = w
walked_of d (Err r) = d

pub done_refused : {w : Walked} {r : Refusal} → Ok w ≡ Err r → ⊥
done_refused e = true≢false (ap is_done e)

abbrev refusal_of : Refusal → Result Walked Refusal → Refusal
refusal_of d (Ok w) = d
refusal_of d (Err r) = r

pub refused_same : {r s : Refusal} → ◌≡◌ {A = Result Walked Refusal} (Err r) (Err s) → r ≡ s
refused_same {r} e = ap (refusal_of r) e

done_same : {w x : Walked} → ◌≡◌ {A = Result Walked Refusal} (Ok w) (Ok x) → w ≡ x
done_same {w} e = ap (walked_of w) e

-- ---- any walk that is judged by rows

module _ (rows : List Row) (way : Way) (score : List (List ℕ)) (theme : List ℕ) (reached : List Place) (b : Bookmark) (columns : List ℕ) (shifts : List ℤ) where
  abbrev done : Result Walked Refusal
  done = walked way score theme reached b columns shifts

  abbrev pub Went : Walked → (columns' : List ℕ) (shifts' : List ℤ) → Type 0
  Went w columns' shifts' = Walks way score theme (from key (key_of way b) reached) columns shifts w.found w.looks columns' shifts'

  -- each way out
  pub finds_away : {v : Result (Unit {0}) Refusal} {e : Refusal} → v ≡ verdict rows → v ≡ Err e → Finds rows way score theme reached b columns shifts (Err e) columns shifts
  finds_away {e = e} a v =
      let r : verdict rows ≡ Err e = sym a ∙ v in
      record {
        answers = sym (judge_away Err done rows r);
        writes_columns = sym (judge_away (λ r. columns)
            _ rows r);
        writes_shifts = sym (judge_away (λ r. shifts) _ rows r);
      }

  pub finds_done : Clear rows → {w : Walked} {columns' : List ℕ} {shifts' : List ℤ} → Went w columns' shifts'
      → Finds rows way score theme reached b columns shifts (Ok w) columns' shifts'
  finds_done c {w} l =
      let d : Ok w ≡ done = ap₂ (λ (n k : ℕ). Ok (record { found = n; looks = k })) l.count l.costs in
      record {
        answers = d ∙ sym (judge_clear Err done rows c);
        writes_columns = l.in_columns ∙ sym (judge_clear (λ r. columns) _ rows c);
        writes_shifts = l.in_shifts ∙ sym (judge_clear (λ r. shifts) _ rows c);
      }

  module _ {columns' : List ℕ} {shifts' : List ℤ} where
    -- what an answer tells
    pub finds_refused : {e : Refusal} → Finds rows way score theme reached b columns shifts (Err e) columns' shifts' → (verdict rows ≡ Err e)
        × (columns' ≡ columns) × (shifts' ≡ shifts)
    finds_refused {e} l =
        let r : verdict rows ≡ Err e =
        judge_both (λ x v. Err e ≡ x → v ≡ Err e) Err Err done (Ok tt) (λ r a. ap Err (sym (refused_same a)))
        (λ a. absurd (done_refused (sym a))) rows l.answers in
        (r, l.writes_columns ∙ judge_away (λ r. columns) _ rows r, l.writes_shifts ∙ judge_away (λ r. shifts) _ rows r)

    module _ {w : Walked} (l : Finds rows way score theme reached b columns shifts (Ok w) columns' shifts') where
      pub finds_clear : Clear rows
      finds_clear = judge_clear_of Err done (λ x. Ok w ≡ x) (λ r e. done_refused e) rows l.answers

      pub finds_went : Went w columns' shifts'
      finds_went =
          let d = done_same (l.answers ∙ judge_clear Err done rows finds_clear) in
          record {
            count = ap (λ (x : Walked). x.found) d;
            costs = ap (λ (x : Walked). x.looks) d;
            in_columns = l.writes_columns ∙ judge_clear (λ r. columns) _ rows finds_clear;
            in_shifts = l.writes_shifts ∙ judge_clear (λ r. shifts) _ rows finds_clear;
          }

  -- there is one answer, and one way to leave the buffers
  pub finds_unique : {a a' : Result Walked Refusal} {c c' : List ℕ} {s s' : List ℤ} → Finds rows way score theme reached b columns shifts a c s
      → Finds rows way score theme reached b columns shifts a' c' s' → (a ≡ a') × (c ≡ c') × (s ≡ s')
  finds_unique p q = (p.answers ∙ sym q.answers, p.writes_columns ∙ sym q.writes_columns, p.writes_shifts ∙ sym q.writes_shifts)

-- ---- what the checks let pass

module _ (cells : List ℕ) (h : ℕ) (theme : List ℕ) (way : Way) (b : Bookmark) (columns : List ℕ) (shifts : List ℤ) where
  pub plain_asks : {v : Result (Unit {0}) Refusal} → v ≡ verdict (plain_rows cells h theme (Moved way) b columns shifts) → v ≡ Ok tt → PlainAsks cells h theme (Moved way) b columns shifts
  plain_asks a v = (plain_clear cells h theme (Moved way) b columns shifts).1 (verdict_clear (plain_rows cells h theme (Moved way) b columns shifts) (sym a ∙ v))

module _ (cells : List ℕ) (h : ℕ) (theme : List ℕ) (way : Way) (b : Bookmark) (sets table columns : List ℕ) (shifts : List ℤ) where
  abbrev rows : List Row
  rows = quick_rows cells h theme way b sets table columns shifts

  pub quick_asks : {v : Result (Unit {0}) Refusal} → v ≡ verdict rows → v ≡ Ok tt → QuickAsks cells h theme way b sets table columns shifts
  quick_asks a v = (quick_clear cells h theme way b sets table columns shifts).1 (verdict_clear rows (sym a ∙ v))

  -- the table: as it was, or the theme's
  pub table_kept : {v : Result (Unit {0}) Refusal} {e : Refusal} → v ≡ verdict rows → v ≡ Err e → table ≡ judge rows (λ r. table) (theme_table word_bits theme)
  table_kept a v = sym (judge_away (λ r. table) _ rows (sym a ∙ v))

  pub table_filled : Clear rows → judge rows (λ r. table) (theme_table word_bits theme) ≡ theme_table word_bits theme
  table_filled c = judge_clear (λ r. table) _ rows c

  pub quick_walks_unique : {a a' : Result Walked Refusal} {t t' c c' : List ℕ} {s s' : List ℤ} → QuickWalks cells h theme way b sets table columns shifts a t c s
      → QuickWalks cells h theme way b sets table columns shifts a' t' c' s' → ((a ≡ a') × (c ≡ c') × (s ≡ s')) × (t ≡ t')
  quick_walks_unique p q = (finds_unique _ _ _ _ _ _ _ _ p.finds q.finds, p.fills_table ∙ sym q.fills_table)
