-- There is exactly one route that is meant for a listed pair (`meant_there`, `meant_unique`): the one that is chosen from the tracks
-- that hold each note. Its changes are the least that any route has (`meant_least`). Assumes nothing.
use mathlib.Core.Path.{◌≡◌, sym, ◌∙◌}
use mathlib.Core.Bool.{true}
use mathlib.Core.List.{List}
use Prim.Native.Nat.{ℕ, ◌≤◌}
use native.Mathlib.Nat.{le_antisymm}
use native.Mathlib.Omega.{arith}
use Rattle.score.specs.Limits.{most_tracks}
use Rattle.score.specs.Score.{score_of}
use Rattle.ways.specs.declared.way.AnyWay.{AnyWay}
use Rattle.ways.specs.declared.bookmark.Pair.{Pair}
use Rattle.search.specs.Definition.{StandsAs}
use Rattle.routing.specs.Route.{changes, way_as, TheRoute}
use Rattle.routing.specs.Routing.{is_listed}
use Rattle.routing.specs.TrackSets.{holders_at, least_of, chosen}
use Rattle.routing.proofs.FewestChanges.{chosen_held, chosen_least, least_fewest, chosen_first, not_after_unique}
use Rattle.routing.proofs.ListedPairs.{is_listed_stands}
use Rattle.routing.proofs.TrackBits.{route_held, listed_playable}

pub meant_unique : (way : AnyWay) (score : List (List ℕ)) (theme : List ℕ) (pair : Pair) {a b : List ℕ}
    → TheRoute way score theme pair a → TheRoute way score theme pair b → a ≡ b
meant_unique way score theme pair {a} {b} x y =
    let same : changes a ≡ changes b = le_antisymm (x.fewest b y.valid) (y.fewest a x.valid) in
    not_after_unique a b (x.first b y.valid (sym same)) (y.first a x.valid same)

module _ (way : AnyWay) (cells : List ℕ) (h : ℕ) (theme : List ℕ) (pair : Pair) (few : h ≤ most_tracks) where
  abbrev score : List (List ℕ)
  score = score_of cells h

  abbrev sets : List ℕ
  sets = holders_at (way_as way) score theme pair

  module _ (e : is_listed way score theme pair ≡ true) where
    pub meant_least : changes (chosen 0 sets) ≡ least_of sets
    meant_least = chosen_least sets (listed_playable way cells h theme pair few e)

    pub meant_chosen : TheRoute way score theme pair (chosen 0 sets)
    meant_chosen =
        let p = listed_playable way cells h theme pair few e in
        record {
          valid = (route_held way score theme pair e (chosen 0 sets)).1 (chosen_held 0 sets p);
          fewest = λ other v. omega (arith, meant_least, least_fewest sets other p ((route_held way score theme pair e other).0 v));
          first = λ other v c. chosen_first sets other p ((route_held way score theme pair e other).0 v) (c ∙ meant_least);
        }

  pub meant_there : StandsAs way score theme pair → (route : List ℕ) × TheRoute way score theme pair route
  meant_there s = (chosen 0 sets, meant_chosen ((is_listed_stands way score theme pair).1 s))
