-- A theme with an interval that the summary of the lent sets lacks has no pair in the quick list by those sets (`lacking_none`):
-- the answer without a walk is the one that a walk would give. The idea: at a candidate each interval of the theme is in some
-- entry, an entry is one of the sets, and then the summary has it. Assumes nothing.
use mathlib.Core.Path.{◌≡◌, refl, sym, ap, ◌∙◌}
use mathlib.Core.Bool.{Bool, true, false, true≢false}
use mathlib.Core.List.{List, [], map, Memᴰ as In}
use Prim.Native.Nat.{ℕ, suc, ◌+◌, ◌-◌, ◌≤◌, ◌<◌}
use native.Mathlib.Omega.{arith}
use lib.Dec.{eqb}
use lib.ListN.{length, get_or}
use borrow.Author.Tests.{eqb-true}
use Rattle.theory.specs.Bits.{bit}
use Rattle.theory.specs.Lists.{some, count, first}
use Rattle.theory.specs.Pages.{hits}
use Rattle.theory.proofs.Lists.{count_at, count_length, some_first, first_there, none_over}
use Rattle.theory.proofs.Hits.{hits_same}
use Rattle.theory.proofs.Counts.{hits_none}
use Rattle.score.specs.Limits.{highest_set, table_words}
use Rattle.score.specs.Score.{score_of, heard_of, heard_from, note}
use Rattle.score.proofs.Columns.{score_length}
use Rattle.score.proofs.Intervals.{interval_lt}
use Rattle.summing.specs.Summary.{summary}
use Rattle.summing.proofs.Summaries.{SomeHas, summary_bit}
use Rattle.ways.specs.declared.way.Way.{Way}
use Rattle.asking.specs.Limits.{most_notes}
use Rattle.asking.specs.Asking.{Accepted, AcceptedSets}
use Rattle.filter.specs.Limits.{word_bits}
use Rattle.filter.specs.Table.{theme_interval, theme_table}
use Rattle.walking.specs.Starts.{Place, starts, hit}
use Rattle.walking.proofs.Order.{in_starts}
use Rattle.search.specs.Pairs.{plain_search, entries_of, candidate_of}
use Rattle.search.proofs.Entries.{entry_is, entry_within, entries_small}
use Rattle.search.proofs.Filtered.{candidate_iff}
use Rattle.occurring.specs.Occurring.{lacking, quick_list}

-- ---- which interval is lacking

-- interval i of the theme is in no set
record Lacks (theme : List ℕ) (set : ℕ) : Type 0 where
  i : ℕ
  within : i + 2 ≤ length theme
  absent : bit set (theme_interval theme i).0 ≡ 1

lacking_which : (theme : List ℕ) (set : ℕ) → lacking theme set ≡ true → Lacks theme set
lacking_which theme set e =
    let test : ℕ → Bool = λ i. eqb (bit set (theme_interval theme i).0) 1 in
    let places = count 0 (length theme - 1) in
    let w : first test places < length places = some_first test places e in
    let i = first test places in
    let l : i < length theme - 1 = omega (arith, w, count_length 0 (length theme - 1)) in
    let at : get_or places i 0 ≡ i = count_at 0 (length theme - 1) i 0 l ∙ omega arith in
    record { i = i; within = omega (arith, l); absent = eqb-true _ _ (ap test (sym at) ∙ first_there test places 0 w) }

-- ---- no start is at a candidate

module _ (cells : List ℕ) (h : ℕ) (theme : List ℕ) (way : Way) (sets : List ℕ) (a : Accepted most_notes cells h theme) (s : AcceptedSets cells h sets) where
  abbrev score : List (List ℕ)
  score = score_of cells h

  abbrev keep : Place → Bool
  keep p = candidate_of word_bits score (theme_table word_bits theme) sets (length theme) p.column

  long : length sets ≡ length score - 1
  long = s.one_less ∙ ap (λ (n : ℕ). n - 1) (sym (score_length cells h))

  small : (k : ℕ) → get_or sets k 0 < table_words
  small k = omega (arith, none_over highest_set sets s.sets_good k)

  none_kept : lacking theme (summary sets) ≡ true → (p : Place) → In p (starts way (heard_of score) theme) → keep p ≡ false
  none_kept e p m = step (keep p) refl
    where
      w : Lacks theme (summary sets)
      w = lacking_which theme (summary sets) e

      d : ℕ
      d = (theme_interval theme w.i).0

      low : d < 12
      low = interval_lt (note theme (w.i + 1)) (note theme (w.i + 2))

      x : ℕ
      x = p.column - 1 + w.i

      inside : x + 1 < length (heard_of score)
      inside = let t = in_starts way (heard_of score) theme m in omega (arith, t.from_first, t.to_last, w.within)

      step : (t : Bool) → keep p ≡ t → t ≡ false
      step false k = refl
      step true k =
          let t = in_starts way (heard_of score) theme m in
          let each =
          (candidate_iff word_bits theme a.notes_some a.notes_few (entries_of score sets) (entries_small score sets small) p.column
          t.from_first).0 k in
          let there : bit (get_or sets (get_or (heard_from 1 score) x 0 - 1) 0) d ≡ 0 =
          ap (λ (set : ℕ). bit set d) (sym (entry_is score sets x inside)) ∙ each w.i w.within in
          let has : bit (summary sets) d ≡ 0 =
          (summary_bit sets d low).1 (record { place = get_or (heard_from 1 score) x 0 - 1; within = entry_within score sets long x inside; there = there }) in
          absurd (omega (arith, has, w.absent))

  pub lacking_none : lacking theme (summary sets) ≡ true → quick_list way score theme sets ≡ []
  lacking_none e =
      ap (λ (l : List Place). map (plain_search way score theme).shown (hits (hit way (heard_of score) theme) l))
      (hits_same keep (λ p. false) (starts way (heard_of score) theme) (none_kept e) ∙ hits_none (starts way (heard_of score) theme))
