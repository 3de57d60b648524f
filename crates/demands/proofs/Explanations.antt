-- The explainer, over its promise: it gives the first reason that is true, names the lowest tracks, and says of the column what the
-- quick search makes of it. The idea: by the cases of the definition, shift, column, notes; and
-- the test that is computed of a note is the published one. Assumes nothing.
use mathlib.Core.Path.{◌≡◌, refl, sym, ap, ◌∙◌, subst}
use mathlib.Core.Bool.{Bool, true, false, cond, ◌||◌, true≢false}
use mathlib.Core.Logic.{◌↔◌}
use mathlib.Core.List.{List, [], ◌∷◌, map}
use Prim.Native.Nat.{ℕ, ◌+◌, ◌-◌, ◌≤◌, ◌<◌}
use native.Mathlib.Decide.{dec_lt}
use native.Mathlib.Omega.{arith}
use lib.Dec.{ltb}
use lib.IntN.{ℤ}
use lib.ListN.{length, get_or, drop, length-drop, get_or-append}
use borrow.Author.Tests.{eqb-true, eqb-false, lt-ltb, le-ltb, ltb-true, ltb-false, not-true, not-false}
use Rattle.theory.specs.Bits.{bit}
use Rattle.theory.specs.Lists.{over, count}
use Rattle.theory.proofs.Bits.{bit_lt}
use Rattle.theory.proofs.Lists.{over_length, first_le, first_before, first_there, count_at, count_length, count_map_at, count_map_length, none_over}
use Rattle.score.specs.Limits.{highest_set, table_words}
use Rattle.score.specs.declared.quantities.Pitch.{Pitch}
use Rattle.score.specs.declared.quantities.Interval.{Interval}
use Rattle.score.specs.declared.quantities.Column.{Column}
use Rattle.score.specs.declared.refusals.Refusal.{Refusal}
use Rattle.score.specs.Refusals.{verdict}
use Rattle.score.specs.Score.{score_of, heard_of, rank_of, onward, note}
use Rattle.score.specs.Sets.{interval}
use Rattle.score.proofs.Intervals.{interval_lt}
use Rattle.ways.specs.declared.way.Way.{Way}
use Rattle.ways.specs.declared.way.Way.TheVariants.{Exact, Octave}
use Rattle.ways.specs.declared.bookmark.Pair.{Pair}
use Rattle.ways.specs.Way.{Holds, shift_of, code_of, holds}
use Rattle.ways.specs.Codes.{no_shift}
use Rattle.ways.proofs.Shifts.{shift_code}
use Rattle.ways.proofs.Holding.{exact_moved, moved_exact, holds_true, true_holds}
use Rattle.ways.proofs.Coding.{is_shift}
use Rattle.asking.specs.Limits.{most_notes}
use Rattle.asking.specs.Asking.{Accepted, AcceptedSets}
use Rattle.filter.specs.Limits.{word_bits}
use Rattle.filter.specs.Table.{theme_interval}
use Rattle.seeking.specs.Limits.{most_sought}
use Rattle.seeking.specs.Sought.{numbers_on}
use Rattle.seeking.specs.Track.{lowest_track}
use Rattle.seeking.proofs.Tracks.{lowest_there}
use Rattle.seeking.proofs.Numbers.{zeros_behind, numbers_ranked}
use Rattle.search.specs.Definition.{Stands}
use Rattle.search.specs.Pairs.{entries_of}
use Rattle.search.proofs.Listed.{placed, ranks, goes_on}
use Rattle.search.proofs.Entries.{entry_is, entries_small}
use Rattle.search.proofs.Filtered.{candidate_iff}
use Rattle.explaining.specs.declared.answer.Explanation.{Explanation}
use Rattle.explaining.specs.declared.answer.Reason.{Reason}
use Rattle.explaining.specs.declared.answer.Reason.TheVariants.{Listed, NoShift, NoColumn, TooFew, Empty, Outside, Absent}
use Rattle.explaining.specs.declared.answer.Lacking.{Lacking}
use Rattle.explaining.specs.declared.answer.Sifted.{Sifted}
use Rattle.explaining.specs.declared.answer.Sifted.TheVariants.{Unasked, Kept, Dismissed}
use Rattle.explaining.specs.declared.fits.Fit.{Fit}
use Rattle.explaining.specs.declared.fits.Fit.TheVariants.{Zero, Short, NoPitch, Fits}
use Rattle.explaining.specs.Explaining.{no_tracks, fit_of, Fitting, note_outside, failed, fails, held, notes_say, tracks_of, lacks, had, sifted_by}
use Rattle.explaining.specs.Explaining.{bare, column_of, reason_at, tracks_at, sifted_at, explained, explain_rows, explanation}
use Rattle.explaining.proofs.Fitting.{fit_cases, placed_fits}
use Rattle.explaining.proofs.Refusing.{passed_asks, answered_is}
use Rattle.demands.specs.Demands.{OfWay, Inside, HeldNote, FirstFails, TrueFirst, LowestTrack, DismissedBy, candidate_at, RightExplained}
use Rattle.std.specs.Prelude.{Result, Ok, Err}

-- ---- a note moved, exact

inside_not : (p : Pitch) (code : ℕ) → note_outside Exact code p ≡ true → Inside p (shift_of Exact code) → ⊥
inside_not p code e i =
    let same : i.t + 127 ≡ p.0 + code = moved_exact 127 i.t p.0 code i.moved in
    step (ltb (p.0 + code) 127) refl e same
  where
    step : (a : Bool) → ltb (p.0 + code) 127 ≡ a → (a || ltb 254 (p.0 + code)) ≡ true → i.t + 127 ≡ p.0 + code → ⊥
    step true l k same = omega (arith, ltb-true (p.0 + code) 127 l, same)
    step false l k same = omega (arith, ltb-true 254 (p.0 + code) k, same, i.small)

inside_is : (p : Pitch) (code : ℕ) → note_outside Exact code p ≡ false → Inside p (shift_of Exact code)
inside_is p code e = step (ltb (p.0 + code) 127) refl e
  where
    step : (a : Bool) → ltb (p.0 + code) 127 ≡ a → (a || ltb 254 (p.0 + code)) ≡ false → Inside p (shift_of Exact code)
    step true l k = absurd (true≢false k)
    step false l k =
        let low : 127 ≤ p.0 + code = ltb-false (p.0 + code) 127 l in
        let high : p.0 + code ≤ 254 = ltb-false 254 (p.0 + code) k in
        record {
          t = p.0 + code - 127;
          small = omega (arith, high);
          moved = exact_moved 127 (p.0 + code - 127) p.0 code (omega (arith, low));
        }

-- ---- the reasons

module _ (way : Way) (score : List (List ℕ)) (theme : List ℕ) (pair : Pair) (sets : List ℕ) where
  abbrev c : ℤ
  c = pair.shift

  abbrev j : Column
  j = pair.column

  abbrev code : ℕ
  code = code_of way c

  abbrev at : ℕ → List ℕ
  at = column_of way score theme pair sets

  abbrev m : ℕ
  m = length theme

  abbrev failing : ℕ → Bool
  failing = fails way code theme at

  abbrev k : ℕ
  k = held way code theme at

  of_way : no_shift way c ≡ false → OfWay way c
  of_way e = let r = (is_shift way c).0 e in record { not_below = r.0; not_above = r.1 }

  way_of : OfWay way c → no_shift way c ≡ false
  way_of o = (is_shift way c).1 (o.not_below, o.not_above)

  module _ (o : OfWay way c) where
    back : shift_of way code ≡ c
    back = shift_code way c o.not_below

    -- what is computed of a note is what is said of it
    held_note : (i : ℕ) → failing i ≡ false → HeldNote way score theme pair i
    held_note i e = subst (Holds way (at i) (note theme i)) back (holds_true way code (note theme i) (at i) (not-false _ e))

    fails_note : (i : ℕ) → failing i ≡ true → HeldNote way score theme pair i → ⊥
    fails_note i e h =
        true≢false (sym (true_holds way code (note theme i) (at i) (subst (Holds way (at i) (note theme i)) (sym back) h)) ∙ not-true _ e)

    note_holds : (i : ℕ) → HeldNote way score theme pair i → holds way code (note theme i) (at i) ≡ true
    note_holds i h = true_holds way code (note theme i) (at i) (subst (Holds way (at i) (note theme i)) (sym back) h)

    before_first : (i : ℕ) → 1 ≤ i → i ≤ k → failing i ≡ false
    before_first i low l =
        let few : k ≤ m = omega (arith, first_le failing (count 1 m), count_length 1 m) in
        let e : get_or (count 1 m) (i - 1) 0 ≡ i = count_at 1 m (i - 1) 0 (omega arith) ∙ omega arith in
        ap failing (sym e) ∙ first_before failing (count 1 m) 0 (i - 1) (omega arith)

    first_fails : k < m → FirstFails way score theme pair (k + 1)
    first_fails l =
        let e : get_or (count 1 m) k 0 ≡ k + 1 = count_at 1 m k 0 l ∙ omega arith in
        let t : failing (k + 1) ≡ true = ap failing (sym e) ∙ first_there failing (count 1 m) 0 (omega (arith, count_length 1 m)) in
        record {
          from_first = omega arith;
          to_last = omega arith;
          fails = fails_note (k + 1) t;
          earlier = λ i a b. held_note i (before_first i a (omega arith));
        }

    -- a note that fails
    failed_true : Fitting score theme j → (i : ℕ) → FirstFails way score theme pair i → TrueFirst way score theme pair (failed way code (note theme i) i)
    failed_true p i f = by way refl
      where
        by : (w : Way) → way ≡ w → TrueFirst way score theme pair (failed w (code_of w c) (note theme i) i)
        by Exact e = step (note_outside Exact (code_of Exact c) (note theme i)) refl
          where
            there : shift_of Exact (code_of Exact c) ≡ c
            there = subst (λ (w : Way). shift_of w (code_of w c) ≡ c) e back

            step : (t : Bool) → note_outside Exact (code_of Exact c) (note theme i) ≡ t → TrueFirst way score theme pair (cond t (Outside i) (Absent i))
            step true q = (o, p, f, e, λ x. inside_not (note theme i) (code_of Exact c) q (subst (Inside (note theme i)) (sym there) x))
            step false q = (o, p, f, λ z. subst (Inside (note theme i)) there (inside_is (note theme i) (code_of Exact c) q))
        by Octave e = (o, p, f, λ z. absurd (octave_exact (sym e ∙ z)))
          where
            octave_exact : Octave ≡ Exact → ⊥
            octave_exact z = let n : ◌≡◌ {A = ℕ} 0 1 = cc in omega arith

    notes_true : Fitting score theme j → TrueFirst way score theme pair (notes_say way code theme at)
    notes_true p = step (ltb k m) refl
      where
        step : (t : Bool) → ltb k m ≡ t → TrueFirst way score theme pair (cond t (failed way code (note theme (k + 1)) (k + 1)) Listed)
        step true e = failed_true p (k + 1) (first_fails (ltb-true k m e))
        step false e =
            record {
              from_first = p.from_first;
              with_pitch = p.with_pitch;
              to_last = p.to_last;
              not_below = o.not_below;
              not_above = o.not_above;
              each_note = λ i a b. held_note i (before_first i a (omega (arith, ltb-false k m e)));
            }

  abbrev reason_said : Reason
  reason_said = cond (no_shift way c) NoShift (reason_at way score theme pair sets (fit_of score theme j))

  pub reason_true : TrueFirst way score theme pair reason_said
  reason_true = step (no_shift way c) refl
    where
      step : (t : Bool) → no_shift way c ≡ t → TrueFirst way score theme pair (cond t NoShift (reason_at way score theme pair sets (fit_of score theme j)))
      step true e = λ o. true≢false (sym e ∙ way_of o)
      step false e =
          let o = of_way e in
          fit_cases score theme j (λ f. TrueFirst way score theme pair (reason_at way score theme pair sets f))
          (λ z. (o, z)) (λ a b. (o, a, b)) (λ a b d. (o, a, b, d)) (notes_true o)

  -- where the pair stands no other reason is true
  pub stands_only : Stands way score theme pair → (r : Reason) → TrueFirst way score theme pair r → r ≡ Listed
  stands_only s Listed t = refl
  stands_only s NoShift t = absurd (t (record { not_below = s.not_below; not_above = s.not_above }))
  stands_only s NoColumn t = absurd (omega (arith, t.1, s.from_first))
  stands_only s TooFew t = absurd (omega (arith, t.2, s.to_last))
  stands_only s Empty t = absurd (true≢false (sym s.with_pitch ∙ t.3))
  stands_only s (Outside i) t = let f = t.2 in absurd (f.fails (s.each_note i f.from_first f.to_last))
  stands_only s (Absent i) t = let f = t.2 in absurd (f.fails (s.each_note i f.from_first f.to_last))

  -- ---- the tracks

  abbrev tracks_said : List ℕ
  tracks_said = cond (no_shift way c) no_tracks (tracks_at way score theme pair sets (fit_of score theme j))

  abbrev track_of : ℕ → ℕ
  track_of i = lowest_track way code (note theme i) (at i)

  module _ (s : Stands way score theme pair) where
    moves : OfWay way c
    moves = record { not_below = s.not_below; not_above = s.not_above }

    none_fails : m ≤ k
    none_fails = pick (dec_lt k m)
      where
        pick : Dec (k < m) → m ≤ k
        pick (yes l) = let f = first_fails moves l in absurd (f.fails (s.each_note (k + 1) f.from_first f.to_last))
        pick (no l) = omega arith

    tracks_are : tracks_said ≡ tracks_of way code theme at
    tracks_are =
        let p : Fitting score theme j = record { from_first = s.from_first; to_last = s.to_last; with_pitch = s.with_pitch } in
        rw (way_of moves, placed_fits score theme j p, le-ltb k m none_fails)

    note_track : (i : ℕ) → 1 ≤ i → i ≤ m → get_or (tracks_of way code theme at) (i - 1) 0 ≡ track_of i
    note_track i a b =
        let long : length (map track_of (count 1 m)) ≡ m = count_map_length track_of 1 m in
        let e : 1 + (i - 1) ≡ i = omega arith in
        get_or-append (map track_of (count 1 m)) (drop (length (map track_of (count 1 m))) no_tracks) 0 (i - 1) (omega (arith, long))
        ∙ count_map_at track_of 1 m (i - 1) 0 (omega arith)
        ∙ ap track_of e

    pub lowest_tracks : (i : ℕ) → 1 ≤ i → i ≤ m → LowestTrack way (at i) (note theme i) c (get_or tracks_said (i - 1) 0)
    lowest_tracks i a b =
        let l = lowest_there way code (note theme i) (at i) (note_holds moves i (s.each_note i a b)) in
        let same : get_or tracks_said (i - 1) 0 ≡ track_of i = ap (λ (ts : List ℕ). get_or ts (i - 1) 0) tracks_are ∙ note_track i a b in
        let cell : ℕ → List ℕ = λ t. get_or (at i) (t - 1) 0 ∷ [] in
        subst (LowestTrack way (at i) (note theme i) c) (sym same)
        (record {
          from_first = l.from_first;
          to_last = l.to_last;
          there = subst (Holds way (cell (track_of i)) (note theme i)) (back moves) (holds_true way code (note theme i) (cell (track_of i)) l.there);
          none_lower = λ t x y h. true≢false
              (sym (true_holds way code (note theme i) (cell t) (subst (Holds way (cell t) (note theme i)) (sym (back moves)) h)) ∙ l.none_lower t x y);
        })

    pub behind_tracks : (i : ℕ) → m < i → get_or tracks_said (i - 1) 0 ≡ 0
    behind_tracks i l =
        let long : length (map track_of (count 1 m)) ≡ m = count_map_length track_of 1 m in
        let none = zeros_behind most_sought (map track_of (count 1 m)) (i - 1) (omega (arith, long)) in
        ap (λ (ts : List ℕ). get_or ts (i - 1) 0) tracks_are ∙ omega (arith, none)

  pub other_tracks : (reason_said ≡ Listed → ⊥) → tracks_said ≡ no_tracks
  other_tracks = step (no_shift way c)
    where
      by_notes : (t : Bool) → (cond t (failed way code (note theme (k + 1)) (k + 1)) Listed ≡ Listed → ⊥)
          → cond t no_tracks (tracks_of way code theme at) ≡ no_tracks
      by_notes true f = refl
      by_notes false f = absurd (f refl)

      step : (t : Bool) → (cond t NoShift (reason_at way score theme pair sets (fit_of score theme j)) ≡ Listed → ⊥)
          → cond t no_tracks (tracks_at way score theme pair sets (fit_of score theme j)) ≡ no_tracks
      step true f = refl
      step false f =
          fit_cases score theme j (λ x. (reason_at way score theme pair sets x ≡ Listed → ⊥) → tracks_at way score theme pair sets x ≡ no_tracks)
          (λ z g. refl) (λ a b g. refl) (λ a b d g. refl) (λ p g. by_notes (ltb k m) g) f

  -- ---- what the sets make of the column

  abbrev sifted_said : Sifted
  sifted_said = sifted_at way score theme pair sets (fit_of score theme j)

  pub sifted_nothing : (Fitting score theme j → ⊥) → sifted_said ≡ Unasked
  sifted_nothing f =
      fit_cases score theme j (λ x. sifted_at way score theme pair sets x ≡ Unasked) (λ z. refl) (λ a b. refl) (λ a b d. refl)
      (λ p. absurd (f p))

  pub sifted_fitting : Fitting score theme j → sifted_said ≡ sifted_by theme sets (numbers_on score j)
  sifted_fitting f =
      rw (placed_fits score theme j f)

-- ---- the intervals

-- dismissed or kept, told apart
abbrev part : Sifted → ℕ
part Unasked = 0
part Kept = 1
part (Dismissed x) = 2

abbrev interval_in : Sifted → Lacking
interval_in (Dismissed x) = x
interval_in Kept = record { number = 0; size = record { 0 = 0 } }
interval_in Unasked = record { number = 0; size = record { 0 = 0 } }

module _ (score : List (List ℕ)) (theme : List ℕ) (j : Column) (sets : List ℕ) where
  abbrev n : ℕ
  n = length theme - 1

  abbrev lacking : ℕ → Bool
  lacking = lacks theme sets (numbers_on score j)

  abbrev q : ℕ
  q = had theme sets (numbers_on score j)

  -- the set of the column of note i, from 1
  abbrev set_of : ℕ → ℕ
  set_of i = get_or sets (get_or (numbers_on score j) (i - 1) 0 - 1) 0

  place : (i : ℕ) → 1 ≤ i → i ≤ n → get_or (count 1 n) (i - 1) 0 ≡ i
  place i a b = count_at 1 n (i - 1) 0 (omega arith) ∙ omega arith

  few : q ≤ n
  few = omega (arith, first_le lacking (count 1 n), count_length 1 n)

  had_it : (i : ℕ) → 1 ≤ i → i ≤ q → bit (set_of i) (theme_interval theme (i - 1)).0 ≡ 0
  had_it i a b =
      let t : lacking i ≡ false =
      ap lacking (sym (place i a (omega (arith, few)))) ∙ first_before lacking (count 1 n) 0 (i - 1) (omega arith) in
      let z = eqb-false (bit (set_of i) (theme_interval theme (i - 1)).0) 1 t in
      omega (arith, z, bit_lt (set_of i) (theme_interval theme (i - 1)).0)

  lacks_it : q < n → bit (set_of (q + 1)) (theme_interval theme (q + 1 - 1)).0 ≡ 1
  lacks_it l =
      let back : q + 1 - 1 ≡ q = omega arith in
      let t : lacking (q + 1) ≡ true =
      ap lacking (sym (place (q + 1) (omega arith) (omega arith)))
      ∙ ap (λ (x : ℕ). lacking (get_or (count 1 n) x 0)) back
      ∙ first_there lacking (count 1 n) 0 (omega (arith, count_length 1 n)) in
      eqb-true _ _ t

  theme_interval_lem : (i : ℕ) → 1 ≤ i → theme_interval theme (i - 1) ≡ interval (note theme i) (note theme (i + 1))
  theme_interval_lem i a =
      let e : i - 1 + 1 ≡ i = omega arith in
      let f : i - 1 + 2 ≡ i + 1 = omega arith in
      rw (e, f)

  -- an interval that dismisses is the first that is lacking
  pub dismissed_by : {x : Lacking} → sifted_by theme sets (numbers_on score j) ≡ Dismissed x → DismissedBy score theme j sets x
  dismissed_by {x} e = step (ltb q n) refl e
    where
      step : (t : Bool) → ltb q n ≡ t → cond t (Dismissed (record { number = q + 1; size = theme_interval theme q })) Kept ≡ Dismissed x
          → DismissedBy score theme j sets x
      step false l z = let w : ◌≡◌ {A = ℕ} 1 2 = ap part z in absurd (omega arith)
      step true l z =
          let own : record { number = q + 1; size = theme_interval theme q } ≡ x = ap interval_in z in
          let h = ltb-true q n l in
          let back : q + 1 - 1 ≡ q = omega arith in
          subst (DismissedBy score theme j sets) own
          (record {
            from_first = omega arith;
            to_last = omega (arith, h);
            sized = ap (theme_interval theme) (sym back) ∙ theme_interval_lem (q + 1) (omega arith);
            small = interval_lt (note theme (q + 1)) (note theme (q + 2));
            not_there = ap (λ (y : ℕ). bit (set_of (q + 1)) (theme_interval theme y).0) (sym back) ∙ lacks_it h;
            earlier = λ i a b. ap (λ (d : Interval). bit (set_of i) d.0) (sym (theme_interval_lem i a)) ∙ had_it i a (omega arith);
          })

-- ---- as the quick search has it

module _ (cells : List ℕ) (h : ℕ) (theme : List ℕ) (way : Way) (pair : Pair) (sets : List ℕ) (a : Accepted most_notes cells h theme)
    (s : AcceptedSets cells h sets) (f : Fitting (score_of cells h) theme pair.column) where
  abbrev score : List (List ℕ)
  score = score_of cells h

  abbrev j₀ : Column
  j₀ = pair.column

  abbrev bits : ℕ → ℕ
  bits i = bit (set_of score theme j₀ sets i) (theme_interval theme (i - 1)).0

  abbrev rank : ℕ
  rank = rank_of score j₀

  -- the entries that the quick search goes through are the sets of the columns of the notes
  inside_heard : (i : ℕ) → i + 2 ≤ length theme → (1 ≤ rank) × (rank - 1 + i + 1 < length (heard_of score))
  inside_heard i l =
      let p = placed way score theme pair f.from_first f.with_pitch in
      let r = ranks way score theme p in
      let on = ap length (goes_on way score theme p) in
      (omega (arith, r, p.from_first), omega (arith, r, on, length-drop (p.i - 1) (heard_of score), f.to_last, p.from_first, p.to_last))

  entry_same : (i : ℕ) → i + 2 ≤ length theme → get_or (entries_of score sets) (rank - 1 + i) 0 ≡ set_of score theme j₀ sets (i + 1)
  entry_same i l =
      let e : i + 1 - 1 ≡ i = omega arith in
      entry_is score sets (rank - 1 + i) (inside_heard i l).1
      ∙ ap (λ (x : ℕ). get_or sets (x - 1) 0) (sym (numbers_ranked score j₀ f.from_first f.with_pitch i))
      ∙ rw e

  abbrev candidate : Bool
  candidate = candidate_at cells h theme sets j₀

  small : (i : ℕ) → get_or sets i 0 < table_words
  small i = omega (arith, none_over highest_set sets s.sets_good i)

  all_in : (candidate ≡ true) ↔ ((i : ℕ) → 1 ≤ i → i < length theme → bits i ≡ 0)
  all_in = (
    λ e i x y.
        let back : i - 1 + 1 ≡ i = omega arith in
        ap (λ (k : ℕ). bit (set_of score theme j₀ sets k) (theme_interval theme (i - 1)).0) (sym back)
        ∙ ap (λ (set : ℕ). bit set (theme_interval theme (i - 1)).0) (sym (entry_same (i - 1) (omega arith)))
        ∙ both.0 e (i - 1) (omega arith),
    λ g. both.1 (λ i l.
        let back : i + 1 - 1 ≡ i = omega arith in
        ap (λ (set : ℕ). bit set (theme_interval theme i).0) (entry_same i l)
        ∙ ap (λ (k : ℕ). bit (set_of score theme j₀ sets (i + 1)) (theme_interval theme k).0) (sym back)
        ∙ g (i + 1) (omega arith) (omega arith)),
  )
    where
      first : 0 + 2 ≤ length theme
      first = omega (arith, a.notes_some)

      both : (candidate ≡ true) ↔ ((i : ℕ) → i + 2 ≤ length theme → bit (get_or (entries_of score sets) (rank - 1 + i) 0) (theme_interval theme i).0 ≡ 0)
      both = candidate_iff word_bits theme a.notes_some a.notes_few (entries_of score sets) (entries_small score sets small) rank (inside_heard 0 first).0

  abbrev first_lacking : ℕ
  first_lacking = had theme sets (numbers_on score j₀)

  abbrev said : Sifted
  said = sifted_by theme sets (numbers_on score j₀)

  none_lacking : (candidate ≡ true) ↔ (length theme - 1 ≤ first_lacking)
  none_lacking = (λ e. there e (dec_lt first_lacking (length theme - 1)), λ l. all_in.1 (λ i x y. had_it score theme j₀ sets i x (omega arith)))
    where
      there : candidate ≡ true → Dec (first_lacking < length theme - 1) → length theme - 1 ≤ first_lacking
      there e (yes l) = absurd (omega (arith, lacks_it score theme j₀ sets l, all_in.0 e (first_lacking + 1) (omega arith) (omega arith)))
      there e (no l) = omega arith

  kept_is : length theme - 1 ≤ first_lacking → said ≡ Kept
  kept_is l = rw (le-ltb first_lacking (length theme - 1) l)

  dismissed_is : first_lacking < length theme - 1 → said ≡ Dismissed (record { number = first_lacking + 1; size = theme_interval theme first_lacking })
  dismissed_is l = rw (lt-ltb first_lacking (length theme - 1) l)

  pub kept_candidate : (said ≡ Kept) ↔ (candidate ≡ true)
  kept_candidate = (λ e. none_lacking.1 (there e (dec_lt first_lacking (length theme - 1))), λ e. kept_is (none_lacking.0 e))
    where
      there : said ≡ Kept → Dec (first_lacking < length theme - 1) → length theme - 1 ≤ first_lacking
      there e (yes l) = let w : ◌≡◌ {A = ℕ} 2 1 = ap part (sym (dismissed_is l) ∙ e) in absurd (omega arith)
      there e (no l) = omega arith

  pub dismissed_candidate : ((x : Lacking) × (said ≡ Dismissed x)) ↔ (candidate ≡ false)
  dismissed_candidate = (λ x. there x.1 candidate refl, λ e. (_, dismissed_is (here e (dec_lt first_lacking (length theme - 1)))))
    where
      there : {x : Lacking} → said ≡ Dismissed x → (t : Bool) → candidate ≡ t → t ≡ false
      there e true z = let w : ◌≡◌ {A = ℕ} 1 2 = ap part (sym (kept_candidate.1 z) ∙ e) in absurd (omega arith)
      there e false z = refl

      here : candidate ≡ false → Dec (first_lacking < length theme - 1) → first_lacking < length theme - 1
      here e (yes l) = l
      here e (no l) = absurd (true≢false (sym (none_lacking.1 (omega arith)) ∙ e))

-- ---- over the promise

module _ (cells : List ℕ) (h : ℕ) (theme : List ℕ) (way : Way) (pair : Pair) (sets : List ℕ) {answer : Explanation}
    (e : Ok answer ≡ explanation cells h theme way pair sets) (v : RightExplained cells h theme sets) where
  told : answer ≡ explained way (score_of cells h) theme pair sets
  told = (answered_is cells h theme way pair sets e).1

  reason_told : answer.reason ≡ reason_said way (score_of cells h) theme pair sets
  reason_told = ap (λ (x : Explanation). x.reason) told

  tracks_told : answer.tracks ≡ tracks_said way (score_of cells h) theme pair sets
  tracks_told = ap (λ (x : Explanation). x.tracks) told

  sifted_told : answer.sifted ≡ sifted_said way (score_of cells h) theme pair sets
  sifted_told = ap (λ (x : Explanation). x.sifted) told

  pub explained_first : TrueFirst way (score_of cells h) theme pair answer.reason
  explained_first = subst (TrueFirst way (score_of cells h) theme pair) (sym reason_told) (reason_true way (score_of cells h) theme pair sets)

  pub explained_listed : (answer.reason ≡ Listed) ↔ Stands way (score_of cells h) theme pair
  explained_listed = (
    λ l. subst (TrueFirst way (score_of cells h) theme pair) l explained_first,
    λ s. stands_only way (score_of cells h) theme pair sets s answer.reason explained_first,
  )

  pub explained_tracks : answer.reason ≡ Listed
      → ((i : ℕ) → 1 ≤ i → i ≤ length theme
      → LowestTrack way (get_or (onward (score_of cells h) pair.column) (i - 1) []) (note theme i) pair.shift (get_or answer.tracks (i - 1) 0))
      × ((i : ℕ) → length theme < i → get_or answer.tracks (i - 1) 0 ≡ 0)
  explained_tracks l =
      let s = explained_listed.0 l in
      let same : (i : ℕ) → get_or answer.tracks (i - 1) 0 ≡ get_or (tracks_said way (score_of cells h) theme pair sets) (i - 1) 0 =
      λ i. ap (λ (ts : List ℕ). get_or ts (i - 1) 0) tracks_told in (
        λ i x y.
            subst (LowestTrack way (get_or (onward (score_of cells h) pair.column) (i - 1) []) (note theme i) pair.shift) (sym (same i))
            (lowest_tracks way (score_of cells h) theme pair sets s i x y),
        λ i x. same i ∙ behind_tracks way (score_of cells h) theme pair sets s i x,
      )

  pub explained_bare : (answer.reason ≡ Listed → ⊥) → answer.tracks ≡ no_tracks
  explained_bare f = tracks_told ∙ other_tracks way (score_of cells h) theme pair sets (λ x. f (reason_told ∙ x))

  pub explained_unasked : (Fitting (score_of cells h) theme pair.column → ⊥) → answer.sifted ≡ Unasked
  explained_unasked f = sifted_told ∙ sifted_nothing way (score_of cells h) theme pair sets f

  pub explained_sifted : Fitting (score_of cells h) theme pair.column
      → ((answer.sifted ≡ Kept) ↔ (candidate_at cells h theme sets pair.column ≡ true))
      × (((x : Lacking) × (answer.sifted ≡ Dismissed x)) ↔ (candidate_at cells h theme sets pair.column ≡ false))
  explained_sifted f =
      let (a, s) = passed_asks cells h theme way pair sets v in
      let same = sifted_told ∙ sifted_fitting way (score_of cells h) theme pair sets f in
      let k = kept_candidate cells h theme way pair sets a s f in
      let d = dismissed_candidate cells h theme way pair sets a s f in (
        (λ x. k.0 (sym same ∙ x), λ x. same ∙ k.1 x),
        (λ x. d.0 (x.0, sym same ∙ x.1), λ x. let y = d.1 x in (y.0, same ∙ y.1)),
      )

  pub explained_dismissed : {x : Lacking} → answer.sifted ≡ Dismissed x → DismissedBy (score_of cells h) theme pair.column sets x
  explained_dismissed {x} d =
      dismissed_by (score_of cells h) theme pair.column sets
      (fit_cases (score_of cells h) theme pair.column
      (λ f. sifted_at way (score_of cells h) theme pair sets f ≡ Dismissed x → sifted_by theme sets (numbers_on (score_of cells h) pair.column) ≡ Dismissed x)
      (λ z y. absurd (nothing y)) (λ a b y. absurd (nothing y)) (λ a b c y. absurd (nothing y)) (λ p y. y) (sym sifted_told ∙ d))
    where
      nothing : Unasked ≡ Dismissed x → ⊥
      nothing y = let w : ◌≡◌ {A = ℕ} 0 2 = ap part y in omega arith

-- ---- of every answer that is no refusal

-- what a fit makes of what the sets say
abbrev by_fit : Sifted → Fit → Sifted
by_fit s Fits = s
by_fit s Zero = Unasked
by_fit s Short = Unasked
by_fit s NoPitch = Unasked

module _ (cells : List ℕ) (h : ℕ) (theme sets : List ℕ) where
  abbrev column_says : Column → Sifted
  column_says j = by_fit (sifted_by theme sets (numbers_on (score_of cells h) j)) (fit_of (score_of cells h) theme j)

  module _ (way : Way) (pair : Pair) {answer : Explanation} (e : Ok answer ≡ explanation cells h theme way pair sets) where
    accepted : RightExplained cells h theme sets
    accepted = (answered_is cells h theme way pair sets e).0

    tracks_long : length theme ≤ most_sought → length (tracks_said way (score_of cells h) theme pair sets) ≡ most_sought
    tracks_long short = step (no_shift way pair.shift)
      where
        named : List ℕ
        named = map (track_of way (score_of cells h) theme pair sets) (count 1 (length theme))

        by_notes : (t : Bool) → length (cond t no_tracks (over no_tracks named)) ≡ most_sought
        by_notes true = refl
        by_notes false =
            over_length no_tracks named (omega (arith, short, count_map_length (track_of way (score_of cells h) theme pair sets) 1 (length theme)))

        step : (t : Bool)
            → length (cond t no_tracks (tracks_at way (score_of cells h) theme pair sets (fit_of (score_of cells h) theme pair.column))) ≡ most_sought
        step true = refl
        step false =
            fit_cases (score_of cells h) theme pair.column (λ f. length (tracks_at way (score_of cells h) theme pair sets f) ≡ most_sought)
            (λ z. refl) (λ a b. refl) (λ a b d. refl) (λ p. by_notes (ltb (k way (score_of cells h) theme pair sets) (length theme)))

    pub explained_places : length answer.tracks ≡ most_sought
    explained_places =
        let a = (passed_asks cells h theme way pair sets accepted).0 in
        ap length (tracks_told cells h theme way pair sets e accepted) ∙ tracks_long (omega (arith, a.notes_few))

    by_its_column : (f : Fit) → sifted_at way (score_of cells h) theme pair sets f ≡ by_fit (sifted_by theme sets (numbers_on (score_of cells h) pair.column)) f
    by_its_column Fits = refl
    by_its_column Zero = refl
    by_its_column Short = refl
    by_its_column NoPitch = refl

    sifted_own : answer.sifted ≡ column_says pair.column
    sifted_own = sifted_told cells h theme way pair sets e accepted ∙ by_its_column (fit_of (score_of cells h) theme pair.column)

  pub explained_by_column : (way way' : Way) (pair pair' : Pair) {answer answer' : Explanation} → Ok answer ≡ explanation cells h theme way pair sets
      → Ok answer' ≡ explanation cells h theme way' pair' sets → pair'.column ≡ pair.column → answer'.sifted ≡ answer.sifted
  explained_by_column way way' pair pair' e e' same = sifted_own way' pair' e' ∙ ap column_says same ∙ sym (sifted_own way pair e)
