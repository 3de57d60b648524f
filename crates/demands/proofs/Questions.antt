-- The question, over its promise: a yes exactly where the first quick page has a pair, whatever sets are lent, and with a
-- preparation's sets exactly where the theme stands at all. The idea: both are read off the quick list. Assumes nothing.
use mathlib.Core.Path.{◌≡◌, refl, sym, ap, ◌∙◌, subst}
use mathlib.Core.Bool.{true, Bool, false}
use mathlib.Core.Logic.{◌↔◌, ◌⊎◌}
use mathlib.Core.List.Memᴰ
use mathlib.Core.List.{List, [], ◌∷◌, Memᴰ}
use Prim.Native.Nat.{ℕ, zero, suc, ◌≤◌}
use native.Mathlib.Omega.{arith}
use lib.ListN.{length, take}
use borrow.Author.Tests.{eq-eqb, eqb-true, not-false}
use lib.Dec.{eqb}
use mathlib.Core.Bool.{not}
use Rattle.score.specs.Limits.{table_words}
use Rattle.score.specs.Score.{score_of}
use Rattle.score.specs.Sets.{sets as setsOf}
use Rattle.score.proofs.Judged.{Clear, clear_append, clear_split}
use Rattle.summing.specs.declared.summary.Summary.{Summary}
use Rattle.summing.specs.Summary.{summary as summaryIn, summary_of}
use Rattle.preparing.specs.Preparing.{Prepares}
use Rattle.preparing.proofs.Prepared.{prepare_sums}
use Rattle.ways.specs.declared.way.Way.{Way}
use Rattle.ways.specs.declared.way.AnyWay.TheVariants.{Moved}
use Rattle.ways.specs.declared.bookmark.Pair.{Pair}
use Rattle.ways.specs.Way.{range_of, range_as}
use Rattle.ways.specs.Bookmarks.{first_bookmark}
use Rattle.asking.specs.Limits.{most_notes}
use Rattle.asking.specs.Refusals.{request_rows, sets_rows, with_sets_rows}
use Rattle.asking.specs.Asking.{Accepted, AcceptedSets}
use Rattle.asking.proofs.Rows.{accepted_clear, sets_clear}
use Rattle.filter.specs.Limits.{word_bits}
use Rattle.filter.specs.Table.{theme_table}
use Rattle.paging.specs.declared.page.Turn.{Turn}
use Rattle.paging.specs.Lent.{Lent}
use Rattle.search.specs.Definition.{Stands}
use Rattle.search.specs.Pairs.{pairs}
use Rattle.search.specs.Page.{QuickPages}
use Rattle.search.proofs.Listed.{listed_stands, stands_listed}
use Rattle.search.proofs.QuickCall.{quick_turned}
use Rattle.search.proofs.Quicker.{own_sets, own_listed}
use Rattle.occurring.specs.Occurring.{lacking, quick_list, by_list, row12, occurs_rows, Occurs}
use Rattle.occurring.proofs.Absent.{lacking_none}
use Rattle.occurring.proofs.OnePlace.{first_written}
use Rattle.occurring.proofs.Asked.{yes_list, no_list, occurs_clear, occurs_accepted}
use Rattle.demands.proofs.True.{own_sets_left}
use Rattle.std.specs.Prelude.{Result, Ok, Err}
use Rattle.score.specs.declared.refusals.Refusal.{Refusal}

-- ---- by pages

-- the first pairs of a list tell whether it has one
take_yes : (r : ℕ) → 1 ≤ r → (list : List Pair) → (by_list list ≡ Ok true) ↔ (1 ≤ length (take r list))
take_yes zero l list = absurd (omega (arith, l))
take_yes (suc r) l [] = (λ e. absurd (Memᴰ.not-nil ((yes_list []).0 e).1), λ k. absurd (omega (arith, k)))
take_yes (suc r) l (pair ∷ list) = (λ e. omega arith, λ k. refl)

take_no : (r : ℕ) → 1 ≤ r → (list : List Pair) → (by_list list ≡ Ok false) ↔ (length (take r list) ≡ 0)
take_no zero l list = absurd (omega (arith, l))
take_no (suc r) l [] = (λ e. refl, λ k. refl)
take_no (suc r) l (pair ∷ list) = (λ e. absurd ((no_list (pair ∷ list)).0 e pair (Memᴰ.head refl)), λ k. absurd (omega (arith, k)))

-- two statements of equal things
same_yes : {a b : Result Bool Refusal} {o : Result Bool Refusal} {P : Type 0} → a ≡ b → (b ≡ o) ↔ P → (a ≡ o) ↔ P
same_yes e f = (λ x. f.0 (sym e ∙ x), λ p. e ∙ f.1 p)

module _ (cells : List ℕ) (h : ℕ) (theme : List ℕ) (way : Way) (sets : List ℕ) (summary : Summary) (table : List ℕ)
    {answer : Result Bool Refusal} {table' : List ℕ} (o : Occurs cells h theme way sets summary table answer table')
    (given : (answer ≡ Ok true) ⊎ (answer ≡ Ok false)) where
  clear : Clear (occurs_rows cells h theme sets summary table)
  clear = (occurs_accepted cells h theme way sets summary table o).0 given

  said : answer ≡ by_list (quick_list way (score_of cells h) theme sets)
  said = (occurs_clear cells h theme way sets summary table o clear).0

  pub asked_pages : (table₂ : List ℕ) (buffers : Lent) {table₂' : List ℕ} {t : Turn} {after : Lent}
      → QuickPages cells h theme way (first_bookmark (range_as (Moved way))) sets table₂ buffers (Ok t) table₂' after
      → ((answer ≡ Ok true) ↔ (1 ≤ t.written)) × ((answer ≡ Ok false) ↔ (t.written ≡ 0))
  asked_pages table₂ buffers {t = t} q =
      let list = quick_list way (score_of cells h) theme sets in
      let r = length buffers.columns in
      let room = ((quick_turned cells h theme way (first_bookmark (range_of way)) sets table₂ buffers).0 (t, sym q.pages.answers)).plain.room in
      let w = first_written cells h theme way sets table₂ buffers q in (
        same_yes said (subst (λ (n : ℕ). (by_list list ≡ Ok true) ↔ (1 ≤ n)) (sym w) (take_yes r room list)),
        same_yes said (subst (λ (n : ℕ). (by_list list ≡ Ok false) ↔ (n ≡ 0)) (sym w) (take_no r room list)),
      )

  pub asked_table : table' ≡ theme_table word_bits theme
  asked_table = (occurs_clear cells h theme way sets summary table o clear).1

  -- ---- without a search

  pub asked_lacking : lacking theme summary.0 ≡ true → answer ≡ Ok false
  asked_lacking l =
      let (prepared, last) = clear_split (with_sets_rows cells h theme sets (length table)) (row12 sets summary ∷ []) clear in
      let (request, lent) = clear_split (request_rows most_notes cells h theme) (sets_rows cells h sets (length table)) prepared in
      let same : summaryIn sets ≡ summary.0 = eqb-true (summaryIn sets) summary.0 (not-false (eqb (summaryIn sets) summary.0) last.0) in
      said
      ∙ ap by_list
      (lacking_none cells h theme way sets ((accepted_clear most_notes cells h theme).1 request) ((sets_clear cells h sets table).1 lent).0
      (ap (lacking theme) same ∙ l))

-- ---- with the sets and the summary of a preparation

module _ (cells : List ℕ) (h : ℕ) (theme : List ℕ) (way : Way) (a : Accepted most_notes cells h theme) (lent : List ℕ) {s : Summary} {sets : List ℕ}
    (p : Prepares cells h lent (Ok s) sets) (table : List ℕ) (long : length table ≡ table_words) {answer : Result Bool Refusal} {table' : List ℕ}
    (o : Occurs cells h theme way sets s table answer table') where
  own : sets ≡ setsOf (score_of cells h)
  own = own_sets_left p

  sum : s ≡ summary_of sets
  sum = prepare_sums cells h lent (sym p.answers) ∙ ap summary_of (sym own)

  rows_clear : Clear (occurs_rows cells h theme sets s table)
  rows_clear =
      clear_append (with_sets_rows cells h theme sets (length table)) (row12 sets s ∷ [])
      (clear_append (request_rows most_notes cells h theme) (sets_rows cells h sets (length table)) ((accepted_clear most_notes cells h theme).0 a)
      ((sets_clear cells h sets table).0 (subst (AcceptedSets cells h) (sym own) own_sets, long)))
      (ap not (eq-eqb (summaryIn sets) s.0 (ap (λ (x : Summary). x.0) (sym sum))), tt)

  listed_all : answer ≡ by_list (pairs way (score_of cells h) theme)
  listed_all =
      (occurs_clear cells h theme way sets s table o rows_clear).0
      ∙ ap (λ (l : List ℕ). by_list (quick_list way (score_of cells h) theme l)) own
      ∙ ap by_list (own_listed cells h theme way a)

  pub asked_own : ((answer ≡ Ok true) ↔ ((pair : Pair) × Stands way (score_of cells h) theme pair))
      × ((answer ≡ Ok false) ↔ ((pair : Pair) → Stands way (score_of cells h) theme pair → ⊥))
  asked_own =
      let score = score_of cells h in
      let y = yes_list (pairs way score theme) in
      let n = no_list (pairs way score theme) in
      let some : 1 ≤ length theme = omega (arith, a.notes_some) in (
        same_yes listed_all
            (λ e. let (pair, m) = y.0 e in (pair, listed_stands way score theme m), λ q. y.1 (q.0, stands_listed way score theme some q.1)),
        same_yes listed_all
            (λ e pair t. n.0 e pair (stands_listed way score theme some t), λ f. n.1 (λ pair m. f pair (listed_stands way score theme m))),
      )
