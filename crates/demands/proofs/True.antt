-- Demand 2: what an accepted page holds stands, what an accepted preparation leaves is the intervals, and a summary is that of
-- the sets. Assumes nothing.
use mathlib.Core.Path.{◌≡◌, sym, ap, ◌∙◌, subst}
use mathlib.Core.List.{List, Memᴰ as In}
use Prim.Native.Nat.{ℕ, ◌-◌}
use lib.ListN.{length, get_or}
use Rattle.theory.proofs.Bits.{bit_high}
use Rattle.score.specs.declared.quantities.Column.{Column}
use Rattle.score.specs.Score.{score_of}
use Rattle.score.specs.Sets.{sets}
use Rattle.score.proofs.IntervalSets.{sets_length, sets_lt}
use Rattle.summing.specs.declared.summary.Summary.{Summary}
use Rattle.summing.specs.Summary.{summary_of}
use Rattle.summing.proofs.Summaries.{summary_bit, summary_high, summary_nil}
use Rattle.preparing.specs.Preparing.{Prepares}
use Rattle.preparing.proofs.Prepared.{prepare_fills, prepare_sums, prepare_bit, prepare_empty}
use Rattle.ways.specs.declared.way.Way.{Way}
use Rattle.ways.specs.declared.way.AnyWay.{AnyWay}
use Rattle.ways.specs.declared.way.AnyWay.TheVariants.{Written}
use Rattle.ways.specs.declared.bookmark.Pair.{Pair}
use Rattle.ways.specs.declared.bookmark.Bookmark.{Bookmark}
use Rattle.paging.specs.declared.page.Turn.{Turn}
use Rattle.paging.specs.Lent.{Lent, read_pairs}
use Rattle.paging.proofs.Paging.{turned_same}
use Rattle.search.specs.Definition.{Stands, StandsAs}
use Rattle.search.specs.Page.{PlainPages, QuickPages}
use Rattle.search.proofs.PlainCall.{plain_turned}
use Rattle.search.proofs.QuickCall.{quick_turned}
use Rattle.search.proofs.WholeLists.{plain_page_lem, quick_page_lem}
use Rattle.search.proofs.Truths.{plain_true, quick_true, written_looks}
use Rattle.updating.specs.Updating.{Updates}
use Rattle.updating.proofs.Updated.{update_leaves}
use Rattle.demands.specs.Demands.{IntervalsOf, IsSummary}
use Rattle.std.specs.Prelude.{Result, Ok, Err}

-- the same pairs, where the answer and the buffers are the same
read_same : {t u : Turn} {l k : Lent} {pair : Pair} → t ≡ u → l ≡ k → In pair (read_pairs t.written l) → In pair (read_pairs u.written k)
read_same {t} {u} {l} {k} {pair} e f m =
    subst (λ (x : Lent). In pair (read_pairs u.written x)) f (subst (λ (x : Turn). In pair (read_pairs x.written l)) e m)

pub plain_stands : (cells : List ℕ) (h : ℕ) (theme : List ℕ) (way : AnyWay) (b : Bookmark) (buffers : Lent) {t : Turn} {after : Lent}
    → PlainPages cells h theme way b buffers (Ok t) after
    → {pair : Pair} → In pair (read_pairs t.written after) → StandsAs way (score_of cells h) theme pair
plain_stands cells h theme way b buffers {t} p m =
    let e = p.pages.answers in
    let a = (plain_turned cells h theme way b buffers).0 (t, sym e) in
    let u = plain_page_lem cells h theme way b buffers a in
    plain_true cells h theme b buffers way a (read_same (turned_same (e ∙ u.answered)) p.pages.writes m)

pub written_free : (cells : List ℕ) (h : ℕ) (theme : List ℕ) (b : Bookmark) (buffers : Lent) {t : Turn} {after : Lent}
    → PlainPages cells h theme Written b buffers (Ok t) after → t.looks ≡ 0
written_free cells h theme b buffers {t} p = written_looks cells h theme b buffers t (sym p.pages.answers)

pub quick_stands : (cells : List ℕ) (h : ℕ) (theme : List ℕ) (way : Way) (b : Bookmark) (sets table : List ℕ) (buffers : Lent)
    {t : Turn} {table' : List ℕ} {after : Lent} → QuickPages cells h theme way b sets table buffers (Ok t) table' after
    → {pair : Pair} → In pair (read_pairs t.written after) → Stands way (score_of cells h) theme pair
quick_stands cells h theme way b sets table buffers {t} p m =
    let e = p.pages.answers in
    let a = (quick_turned cells h theme way b sets table buffers).0 (t, sym e) in
    let u = quick_page_lem cells h theme way b buffers a.plain sets table a.with_sets a.table_long in
    quick_true cells h theme b buffers way a.plain sets table a.with_sets a.table_long
    (read_same (turned_same (e ∙ u.answered)) p.pages.writes m)

-- the sets that an accepted preparation leaves
pub own_sets_left : {cells : List ℕ} {h : ℕ} {lent after : List ℕ} {s : Summary} → Prepares cells h lent (Ok s) after → after ≡ sets (score_of cells h)
own_sets_left {cells} {h} {lent} p = p.fills ∙ prepare_fills cells h lent (sym p.answers)

pub prepared_intervals : (cells : List ℕ) (h : ℕ) (lent : List ℕ) {s : Summary} {after : List ℕ} → Prepares cells h lent (Ok s) after
    → IntervalsOf (score_of cells h) after
prepared_intervals cells h lent {after} p =
    let e : after ≡ sets (score_of cells h) = own_sets_left p in
    record {
      one_less = ap length e ∙ sets_length (score_of cells h);
      each = λ k low high d small. rw p.fills (prepare_bit cells h lent (sym p.answers) k low high d small);
      empty = λ k low high none. rw p.fills (prepare_empty cells h lent (sym p.answers) k low high none);
      no_other = λ k q high. rw e (bit_high (get_or (sets (score_of cells h)) (k - 1) 0) q 12 (sets_lt (score_of cells h) (k - 1)) high);
    }

-- ---- summaries

summary_is : (sets : List ℕ) {s : Summary} → s ≡ summary_of sets → IsSummary sets s
summary_is sets e =
    subst (IsSummary sets) (sym e)
    (record {
      each = λ d l.
          let b = summary_bit sets d l in
          (λ z. let k = b.0 z in (k.place, k.within, k.there), λ k. b.1 (record { place = k.0; within = k.1; there = k.2 }));
      no_other = λ q l. summary_high sets q l;
      of_none = λ n. ap (λ (l : List ℕ). (summary_of l).0) n ∙ summary_nil;
    })

pub prepared_summary : (cells : List ℕ) (h : ℕ) (lent : List ℕ) {s : Summary} {after : List ℕ} → Prepares cells h lent (Ok s) after → IsSummary after s
prepared_summary cells h lent {after = after} p = summary_is after (prepare_sums cells h lent (sym p.answers) ∙ ap summary_of (sym (own_sets_left p)))

pub updated_summary : (cells : List ℕ) (h : ℕ) (c : Column) (lent : List ℕ) {s : Summary} {after : List ℕ} → Updates cells h c lent (Ok s) after
    → IsSummary after s
updated_summary cells h c lent {after = after} u =
    let (left, said) = update_leaves cells h c lent (sym u.answers) in
    summary_is after (said ∙ ap summary_of (sym (u.writes ∙ left)))
