-- The router, over its promise: its answer is as the verdict of its rows (`routed_refused`, `routed_changes`), a right request
-- gets 13 exactly where the pair does not stand, and what an accepted call writes. The idea: it wrote the route that is meant
-- over the front of the buffer, and a route is as long as the theme. Last, written pairs as exact ones. Assumes nothing.
use mathlib.Core.Path.{◌≡◌, refl, sym, ap, ◌∙◌, subst}
use mathlib.Core.Bool.{Bool, true, false, cond, not, true≢false, false≢true}
use mathlib.Core.Logic.{◌↔◌}
use mathlib.Core.List.{List}
use Prim.Native.Nat.{ℕ, ◌≤◌}
use native.Mathlib.Omega.{arith}
use lib.Dec.{ltb}
use lib.ListN.{length, take, drop}
use lib.Seq.{take_at, drop_at}
use borrow.Author.Tests.{le-ltb}
use Rattle.theory.proofs.Either.{either}
use Rattle.theory.proofs.Lists.{over_length}
use Rattle.score.specs.declared.refusals.Refusal.{Refusal}
use Rattle.score.specs.Score.{score_of}
use Rattle.score.specs.Refusals.{number_of, Row, verdict}
use Rattle.score.proofs.Judging.{judge_accepted}
use Rattle.ways.specs.declared.way.Way.TheVariants.{Exact}
use Rattle.ways.specs.declared.way.AnyWay.{AnyWay}
use Rattle.ways.specs.declared.way.AnyWay.TheVariants.{Moved, Written}
use Rattle.ways.specs.declared.bookmark.Pair.{Pair}
use Rattle.asking.specs.Limits.{most_notes}
use Rattle.asking.specs.Refusals.{request_rows}
use Rattle.search.specs.Definition.{StandsAs}
use Rattle.routing.specs.Route.{changes, way_as, Plays, Route, TheRoute}
use Rattle.routing.specs.Routing.{is_listed, pair_rows, route_rows, Writes, Routes}
use Rattle.routing.proofs.ListedPairs.{is_listed_stands}
use Rattle.routing.proofs.RouteAnswers.{thirteen, fourteen, passed_asks}
use Rattle.demands.specs.Demands.{RightRequest}
use Rattle.std.specs.Prelude.{Result, Ok, Err}

-- ---- an answer is one thing

never_away : (r : Refusal) → Ok (tt {0}) ≡ Err r → ⊥
never_away r e = let z : ◌≡◌ {A = ℕ} 0 1 = cc in omega arith

never_both : (n : ℕ) (r : Refusal) → Ok n ≡ Err r → ⊥
never_both n r e = let z : ◌≡◌ {A = ℕ} 0 1 = cc in omega arith

-- ---- what the rows behind a right request come to

module _ (theme : List ℕ) (way : AnyWay) (score : List (List ℕ)) (pair : Pair) (lent : List ℕ) where
  -- 13, exactly where the pair is not listed
  unlisted_rows : (verdict (pair_rows way score theme pair lent) ≡ Err thirteen) ↔ (is_listed way score theme pair ≡ false)
  unlisted_rows = step (is_listed way score theme pair) (ltb (length lent) (length theme))
    where
      other : ◌≡◌ {A = Result (Unit {0}) Refusal} (Err fourteen) (Err thirteen) → ⊥
      other e =
          let same : fourteen ≡ thirteen = cc in
          let z : ◌≡◌ {A = ℕ} 14 13 = ap (λ (r : Refusal). number_of r.rule) same in
          omega arith

      step : (t s : Bool) → (cond (not t) (Err thirteen) (cond s (Err fourteen) (Ok (tt {0}))) ≡ Err thirteen) ↔ (t ≡ false)
      step false s = (λ e. refl, λ e. refl)
      step true true = (λ e. absurd (other e), λ e. absurd (true≢false e))
      step true false = (λ e. absurd (never_away thirteen e), λ e. absurd (true≢false e))

  -- none, with room for the route, exactly where it is
  listed_rows : length theme ≤ length lent → (verdict (pair_rows way score theme pair lent) ≡ Ok tt) ↔ (is_listed way score theme pair ≡ true)
  listed_rows room = rw (le-ltb (length lent) (length theme) room) (step (is_listed way score theme pair))
    where
      step : (t : Bool) → (cond (not t) (Err thirteen) (Ok (tt {0})) ≡ Ok (tt {0})) ↔ (t ≡ true)
      step true = (λ e. refl, λ e. refl)
      step false = (λ e. absurd (never_away thirteen (sym e)), λ e. absurd (false≢true e))

-- ---- over the promise

module _ (cells : List ℕ) (h : ℕ) (theme : List ℕ) (way : AnyWay) (pair : Pair) (lent : List ℕ) {answer : Result ℕ Refusal} {after : List ℕ}
    (p : Routes cells h theme way pair lent answer after) where
  abbrev score : List (List ℕ)
  score = score_of cells h

  abbrev rows : List Row
  rows = route_rows cells h theme way pair lent

  -- the answer is a refusal, or none, as the verdict is
  pub routed_refused : (r : Refusal) → (answer ≡ Err r) ↔ (verdict rows ≡ Err r)
  routed_refused r = (λ e. told e (verdict rows) refl, λ v. (p.refused r v).0)
    where
      told : answer ≡ Err r → (v : Result (Unit {0}) Refusal) → verdict rows ≡ v → v ≡ Err r
      told e (Err s) v = let both : Err s ≡ Err r = sym (p.refused s v).0 ∙ e in let same : s ≡ r = cc in ap Err same
      told e (Ok _) v = absurd (never_both _ r (sym (p.accepted v).counted ∙ e))

  pub routed_changes : ((n : ℕ) × (answer ≡ Ok n)) ↔ (verdict rows ≡ Ok tt)
  routed_changes = (λ e. told e.0 e.1 (verdict rows) refl, λ v. (changes (p.accepted v).route, (p.accepted v).counted))
    where
      told : (n : ℕ) → answer ≡ Ok n → (v : Result (Unit {0}) Refusal) → verdict rows ≡ v → v ≡ Ok tt
      told n e (Err s) v = absurd (never_both n s (sym e ∙ (p.refused s v).0))
      told n e (Ok _) v = refl

  -- ---- a right request

  module _ (right : RightRequest cells h theme) where
    by_pair : verdict rows ≡ verdict (pair_rows way score theme pair lent)
    by_pair = judge_accepted Err (Ok tt) (request_rows most_notes cells h theme) (pair_rows way score theme pair lent) right

    pub routed_unlisted : (answer ≡ Err thirteen) ↔ (StandsAs way score theme pair → ⊥)
    routed_unlisted =
        let a = routed_refused thirteen in
        let u = unlisted_rows theme way score pair lent in
        let s = is_listed_stands way score theme pair in (
          λ e x. true≢false (sym (s.1 x) ∙ u.0 (sym by_pair ∙ a.0 e)),
          λ f. a.1 (by_pair ∙ u.1 (either (is_listed way score theme pair) (λ t. absurd (f (s.0 t))) (λ t. t))),
        )

    pub routed_listed : length theme ≤ length lent → ((n : ℕ) × (answer ≡ Ok n)) ↔ StandsAs way score theme pair
    routed_listed room =
        let l = listed_rows theme way score pair lent room in
        let s = is_listed_stands way score theme pair in
        (λ e. s.0 (l.0 (sym by_pair ∙ routed_changes.0 e)), λ x. routed_changes.1 (by_pair ∙ l.1 (s.1 x)))

-- ---- an accepted call

module _ (cells : List ℕ) (h : ℕ) (theme : List ℕ) (way : AnyWay) (pair : Pair) (lent : List ℕ) {n : ℕ} {after : List ℕ}
    (p : Routes cells h theme way pair lent (Ok n) after) where
  passed : verdict (route_rows cells h theme way pair lent) ≡ Ok tt
  passed = (routed_changes cells h theme way pair lent p).0 (n, refl)

  wrote : Writes way (score_of cells h) theme pair lent (Ok n) after
  wrote = p.accepted passed

  long : length wrote.route ≡ length theme
  long = wrote.meant.valid.long

  in_front_lem : take (length theme) after ≡ wrote.route
  in_front_lem =
      ap (take (length theme)) wrote.written
      ∙ take_at wrote.route (drop (length wrote.route) lent) (length theme) long

  pub routed_written : TheRoute way (score_of cells h) theme pair (take (length theme) after)
  routed_written = subst (TheRoute way (score_of cells h) theme pair) (sym in_front_lem) wrote.meant

  pub routed_length : length after ≡ length lent
  routed_length =
      let room = (passed_asks cells h theme way pair lent passed).room in
      ap length wrote.written ∙ over_length lent wrote.route (omega (arith, long, room))

  pub routed_tail : drop (length theme) after ≡ drop (length theme) lent
  routed_tail =
      ap (drop (length theme)) wrote.written
      ∙ drop_at wrote.route (drop (length wrote.route) lent) (length theme) long
      ∙ ap (λ (m : ℕ). drop m lent) long

  pub routed_count : n ≡ changes (take (length theme) after)
  routed_count = let told = wrote.counted in let same : n ≡ changes wrote.route = cc in same ∙ ap changes (sym in_front_lem)

  pub routed_least : (other : List ℕ) → Route way (score_of cells h) theme pair other → n ≤ changes other
  routed_least other v = omega (arith, routed_count, routed_written.fewest other v)

-- ---- two ways that hold their notes alike have the same routes

module _ (score : List (List ℕ)) (theme : List ℕ) (pair : Pair) where
  plays_alike : (a b : AnyWay) → way_as a ≡ way_as b → {i t : ℕ} → Plays a score theme pair i t → Plays b score theme pair i t
  plays_alike a b same p = record { from_first = p.from_first; to_last = p.to_last; held = rw (← same) p.held }

  route_alike : (a b : AnyWay) → way_as a ≡ way_as b → {route : List ℕ} → Route a score theme pair route
      → Route b score theme pair route
  route_alike a b same v = record { long = v.long; plays = λ i low high. plays_alike a b same (v.plays i low high) }

  meant_alike : (a b : AnyWay) → way_as a ≡ way_as b → {route : List ℕ} → TheRoute a score theme pair route
      → TheRoute b score theme pair route
  meant_alike a b same m = record {
    valid = route_alike a b same m.valid;
    fewest = λ other v. m.fewest other (route_alike b a (sym same) v);
    first = λ other v. m.first other (route_alike b a (sym same) v);
  }

  pub meant_as_exact : (route : List ℕ) → TheRoute Written score theme pair route ↔ TheRoute (Moved Exact) score theme pair route
  meant_as_exact route = (meant_alike Written (Moved Exact) refl, meant_alike (Moved Exact) Written refl)
