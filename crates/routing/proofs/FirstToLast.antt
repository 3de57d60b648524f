-- How the route is written, from the first note to the last: the tracks chosen, with those of the notes that are left, are the whole
-- route (`Choosing`). Assumes nothing.
use mathlib.Core.Path.{◌≡◌, refl, sym, ap, ◌∙◌, subst}
use mathlib.Core.List.{List, [], ◌∷◌, ◌++◌, append-nil, append_assoc}
use Prim.Native.Nat.{ℕ, ◌+◌, ◌≤◌, ◌<◌, zero-le}
use native.Mathlib.Omega.{arith}
use lib.ListN.{length, get_or, drop, set, length-set, length-append, length-drop, drop_of_length-le}
use lib.Seq.{get_or-drop}
use Rattle.std.proofs.lemmas.List.{drop_more}
use Rattle.theory.specs.Lists.{over}
use Rattle.theory.proofs.Lists.{over_more}
use Rattle.score.specs.Limits.{most_tracks}
use Rattle.routing.specs.TrackSets.{best_of, next_track, chosen, Tracks, Playable, TracksThere, Best}
use Rattle.routing.proofs.FewestChanges.{playable_head, best_tracks}
use Rattle.routing.proofs.NextTrack.{next_few}

-- the notes behind the first i
playable_drop : (sets : List ℕ) (i : ℕ) → Playable sets → Playable (drop i sets)
playable_drop sets i p = record { each = λ k l. rw (get_or-drop i sets k 0) (p.each (i + k) (omega (arith, l, length-drop i sets))) }

module _ (sets lent : List ℕ) where
  -- the tracks of the first i notes are written, the last of them t
  pub record Choosing (route : List ℕ) (t i : ℕ) : Type 0 where
    pub done : List ℕ
    pub so_far : route ≡ over lent done
    pub many : length done ≡ i
    pub left : done ++ chosen t (drop i sets) ≡ chosen 0 sets
    pub within : i ≤ length sets
    pub track : t ≤ most_tracks
    pub long : length route ≡ length lent

  pub choosing_start : Choosing lent 0 0
  choosing_start = record { done = []; so_far = refl; many = refl; left = refl; within = zero-le; track = zero-le; long = refl }

  module _ (there : TracksThere sets) {best : List ℕ} (few : Best sets best) {route : List ℕ} {t i : ℕ} (s : Choosing route t i)
      (l : i < length sets) where
    split : drop i sets ≡ get_or sets i 0 ∷ drop (i + 1) sets
    split = drop_more sets i 0 l

    left_playable : Playable (get_or sets i 0 ∷ drop (i + 1) sets)
    left_playable = subst Playable split (playable_drop sets i there.playable)

    best_is : get_or best i 0 ≡ best_of (get_or sets i 0 ∷ drop (i + 1) sets)
    best_is = few.each i (omega (arith, l)) ∙ ap best_of split

    best_there : Tracks (get_or best i 0)
    best_there = subst Tracks (sym best_is) (best_tracks left_playable)

    -- what is asked before the next track is chosen
    pub next_asked : (t < 32) × (0 < get_or best i 0)
    next_asked = (omega (arith, s.track), best_there.some)

    module _ {u : ℕ} (e : u ≡ next_track t (get_or sets i 0) (get_or best i 0)) where
      pub next_le : u ≤ most_tracks
      next_le = omega (arith, e, next_few t (get_or sets i 0) (get_or best i 0) (playable_head left_playable) best_there s.track)

      pub choosing_more : length sets ≤ length lent → Choosing (set route i u) u (i + 1)
      unfolding chosen
      choosing_more room =
          let own : u ≡ next_track t (get_or sets i 0) (best_of (get_or sets i 0 ∷ drop (i + 1) sets)) =
          e ∙ ap (next_track t (get_or sets i 0)) best_is in
          record {
            done = s.done ++ (u ∷ []);
            so_far = ap (λ (d : List ℕ). set d i u) s.so_far ∙ over_more lent s.done 0 i u s.many (omega (arith, l, room));
            many = length-append s.done (u ∷ []) ∙ ap (λ (n : ℕ). n + 1) s.many;
            left = append_assoc s.done (u ∷ []) _ ∙ rw own (rw split at s.left);
            within = omega (arith, l);
            track = next_le;
            long = length-set route i u ∙ s.long;
          }

  pub choosing_end : {route : List ℕ} {t i : ℕ} → Choosing route t i → length sets ≤ i → route ≡ over lent (chosen 0 sets)
  unfolding chosen
  choosing_end {route} {t} {i} s h =
      let none : drop i sets ≡ [] = drop_of_length-le sets {i = i} (omega (arith, h)) in
      s.so_far ∙ ap (over lent) (sym (append-nil s.done) ∙ (rw none at s.left))
