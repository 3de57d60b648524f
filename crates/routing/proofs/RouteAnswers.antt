-- The answer of the call put together: refused by a row of the request, by 13, by 14, or the route is written (`answer_away`,
-- `answer_unlisted`, `answer_short`, `answer_routed`). There is an answer, whatever is given (`routes_there`), and only one
-- (`routes_unique`). Assumes nothing.
use mathlib.Core.Path.{◌≡◌, refl, sym, ap, ◌∙◌, subst}
use mathlib.Core.Bool.{Bool, true, false, not, false≢true}
use mathlib.Core.List.{List}
use Prim.Native.Nat.{ℕ, ◌≤◌, ◌<◌}
use native.Mathlib.Omega.{arith}
use lib.ListN.{length, take, drop, replicate}
use lib.Seq.{take-append_seam}
use borrow.Author.Tests.{lt-ltb, le-ltb, ltb-false, not-false}
use Rattle.theory.specs.Lists.{over}
use Rattle.score.specs.declared.refusals.Rule.TheVariants as rule
use Rattle.score.specs.declared.refusals.Refusal.{Refusal}
use Rattle.score.specs.Score.{score_of}
use Rattle.score.specs.Refusals.{Row, verdict}
use Rattle.score.proofs.Judging.{turned_away, gone_on}
use Rattle.score.proofs.Judged.{clear_split, verdict_clear}
use Rattle.ways.specs.declared.way.AnyWay.{AnyWay}
use Rattle.ways.specs.declared.bookmark.Pair.{Pair}
use Rattle.asking.specs.Limits.{most_notes}
use Rattle.asking.specs.Refusals.{request_rows}
use Rattle.asking.specs.Asking.{Accepted}
use Rattle.asking.proofs.Rows.{accepted_clear}
use Rattle.routing.specs.Route.{changes, way_as}
use Rattle.routing.specs.Routing.{is_listed, pair_rows, route_rows, Writes, Routes}
use Rattle.routing.specs.TrackSets.{holders_at, least_of, chosen, FoundTracks, Playable, TracksThere}
use Rattle.routing.proofs.TrackBits.{listed_length, listed_playable}
use Rattle.routing.proofs.MeantRoute.{meant_unique, meant_least, meant_chosen}
use Rattle.std.specs.Prelude.{Result, Ok, Err}

-- ---- verdicts

abbrev pub thirteen : Refusal
thirteen = record { rule = rule.Listed; place = 0 }

abbrev pub fourteen : Refusal
fourteen = record { rule = rule.RouteRoom; place = 0 }

-- what a verdict gives, whatever stands for an accepted one
abbrev given : Result (Unit {0}) Refusal → Refusal
given (Err r) = r
given (Ok _) = thirteen

abbrev passes : Result (Unit {0}) Refusal → Bool
passes (Err r) = false
passes (Ok _) = true

abbrev zeros : List ℕ
zeros = replicate most_notes 0

module _ (cells : List ℕ) (h : ℕ) (theme : List ℕ) (way : AnyWay) (pair : Pair) (lent : List ℕ) where
  abbrev score : List (List ℕ)
  score = score_of cells h

  abbrev rows : List Row
  rows = route_rows cells h theme way pair lent

  -- a refused call
  pub refused_routes : {r : Refusal} → verdict rows ≡ Err r → Routes cells h theme way pair lent (Err r) lent
  refused_routes {r} e = record {
    refused = λ s g. (ap Err (ap given (sym e ∙ g)), refl);
    accepted = λ g. absurd (false≢true (ap passes (sym e ∙ g)));
  }

  -- an accepted one
  routes_written : verdict rows ≡ Ok tt → {answer : Result ℕ Refusal} {after : List ℕ} → Writes way score theme pair lent answer after
      → Routes cells h theme way pair lent answer after
  routes_written e w = record { refused = λ r g. absurd (false≢true (sym (ap passes (sym e ∙ g)))); accepted = λ g. w }

  -- ---- by the checks

  module _ {v : Result (Unit {0}) Refusal} (checked : v ≡ verdict (request_rows most_notes cells h theme)) where
    pub answer_away : {r : Refusal} → v ≡ Err r → Routes cells h theme way pair lent (Err r) lent
    answer_away e = refused_routes (sym (turned_away (request_rows most_notes cells h theme) (pair_rows way score theme pair lent) checked e))

    module _ (passed : v ≡ Ok tt) where
      pub accepted : Accepted most_notes cells h theme
      accepted = (accepted_clear most_notes cells h theme).1 (verdict_clear (request_rows most_notes cells h theme) (sym checked ∙ passed))

      goes : {w : Result (Unit {0}) Refusal} → w ≡ verdict (pair_rows way score theme pair lent) → verdict rows ≡ w
      goes e = sym (gone_on (request_rows most_notes cells h theme) (pair_rows way score theme pair lent) checked passed e)

      module _ {all : Bool} {sets : List ℕ} (held : FoundTracks (is_listed way score theme pair) (holders_at (way_as way) score theme pair) zeros all sets) where
        pub answer_unlisted : not all ≡ true → Routes cells h theme way pair lent (Err thirteen) lent
        answer_unlisted z = refused_routes (goes (rw (← held.told, z)))

        module _ (z : not all ≡ false) where
          is_listed_lem : is_listed way score theme pair ≡ true
          is_listed_lem = sym held.told ∙ not-false all z

          pub answer_short : length lent < length theme → Routes cells h theme way pair lent (Err fourteen) lent
          answer_short l = refused_routes (goes (rw (← held.told, z, lt-ltb (length lent) (length theme) l)))

          module _ (l : length theme ≤ length lent) where
            abbrev found : List ℕ
            found = holders_at (way_as way) score theme pair

            in_front_lem : sets ≡ over zeros found
            in_front_lem = held.found_all (not-false all z)

            taken : take (length theme) sets ≡ found
            taken =
                let long : length found ≡ length theme = listed_length way score theme pair is_listed_lem in
                ap (take (length theme)) in_front_lem
                ∙ ap (λ (n : ℕ). take n (over zeros found)) (sym long)
                ∙ take-append_seam found (drop (length found) zeros)

            pub route_asked : TracksThere (take (length theme) sets) × (length (take (length theme) sets) ≤ length lent)
            route_asked =
                let long : length found ≡ length theme = listed_length way score theme pair is_listed_lem in
                let many : length (take (length theme) sets) ≡ length theme = ap length taken ∙ long in (
                  record {
                    notes_few = omega (arith, many, accepted.notes_few);
                    playable = subst Playable (sym taken) (listed_playable way cells h theme pair accepted.tracks_few is_listed_lem);
                  },
                  omega (arith, many, l),
                )

            pub answer_routed : {count : ℕ} {after : List ℕ}
                → (count ≡ least_of (take (length theme) sets)) × (after ≡ over lent (chosen 0 (take (length theme) sets)))
                → Routes cells h theme way pair lent (Ok count) after
            answer_routed {count} {after} (c, a) = routes_written (goes (rw (← held.told, z, le-ltb (length lent) (length theme) l))) (record {
              route = chosen 0 found;
              meant = meant_chosen way cells h theme pair accepted.tracks_few is_listed_lem;
              written = a ∙ ap (λ (s : List ℕ). over lent (chosen 0 s)) taken;
              counted = ap Ok (c ∙ ap least_of taken ∙ sym (meant_least way cells h theme pair accepted.tracks_few is_listed_lem));
            })

  -- ---- what an accepted call was given

  pub record RouteAsked : Type 0 where
    pub request : Accepted most_notes cells h theme
    pub in_list : is_listed way score theme pair ≡ true
    pub room : length theme ≤ length lent

  pub passed_asks : verdict rows ≡ Ok tt → RouteAsked
  passed_asks e =
      let clear = clear_split (request_rows most_notes cells h theme) (pair_rows way score theme pair lent) (verdict_clear rows e) in
      record {
        request = (accepted_clear most_notes cells h theme).1 clear.0;
        in_list = not-false _ clear.1.0;
        room = ltb-false (length lent) (length theme) clear.1.1.0;
      }

  -- ---- there is an answer, and only one: the contract settles the call

  pub routes_there : (answer : Result ℕ Refusal) × ((after : List ℕ) × Routes cells h theme way pair lent answer after)
  routes_there = pick (verdict rows) refl
    where
      pick : (v : Result (Unit {0}) Refusal) → verdict rows ≡ v → (answer : Result ℕ Refusal) × ((after : List ℕ) × Routes cells h theme way pair lent answer after)
      pick (Err r) e = (Err r, (lent, refused_routes e))
      pick (Ok tt) e =
          let asked = passed_asks e in
          let route = chosen 0 (holders_at (way_as way) score theme pair) in (
            Ok (changes route),
            (
              over lent route,
              routes_written e (record {
                route = route;
                meant = meant_chosen way cells h theme pair asked.request.tracks_few asked.in_list;
                written = refl;
                counted = refl;
              }),
            ),
          )

  pub routes_unique : {a b : Result ℕ Refusal} {x y : List ℕ} → Routes cells h theme way pair lent a x → Routes cells h theme way pair lent b y
      → (a ≡ b) × (x ≡ y)
  routes_unique {a} {b} {x} {y} p q = pick (verdict rows) refl
    where
      pick : (v : Result (Unit {0}) Refusal) → verdict rows ≡ v → (a ≡ b) × (x ≡ y)
      pick (Err r) e =
          let f = p.refused r e in
          let g = q.refused r e in
          (f.0 ∙ sym g.0, f.1 ∙ sym g.1)
      pick (Ok tt) e =
          let f = p.accepted e in
          let g = q.accepted e in
          let same : f.route ≡ g.route = meant_unique way score theme pair f.meant g.meant in (
            f.counted ∙ ap (λ (r : List ℕ). Ok (changes r)) same ∙ sym g.counted,
            f.written ∙ ap (over lent) same ∙ sym g.written,
          )
