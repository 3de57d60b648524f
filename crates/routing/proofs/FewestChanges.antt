-- The chosen route has the fewest changes (`chosen_least`, `least_fewest`) and comes first among those with as few
-- (`chosen_first`). The idea: after track t no route has fewer changes than `fewest_from` says (`fewest_from_lem`), and the chosen one
-- has as many (`chosen_from`). Track 0, which has no note, then stands before the first: one change more. Assumes nothing.
use mathlib.Core.Path.{◌≡◌, refl, sym, ap, ap₂}
use mathlib.Core.Logic.{◌⊎◌, inl, inr}
use mathlib.Core.List.{List, [], ◌∷◌}
use Prim.Native.Nat.{ℕ, suc, ◌+◌, ◌-◌, ◌≤◌, ◌<◌, zero-le, suc-le-suc}
use native.Mathlib.Nat.{zero-lt-suc}
use native.Mathlib.Decide.{ℕ_discrete}
use native.Mathlib.Omega.{arith}
use lib.ListN.{length}
use Rattle.theory.specs.Bits.{bit}
use Rattle.theory.proofs.Bits.{bit_ones}
use Rattle.routing.specs.Route.{changes_from, changes, NotAfter}
use Rattle.routing.specs.TrackSets.{best_before, due, best_of, least_of, next_track, chosen, Tracks, Playable}
use Rattle.routing.proofs.HeldBy.{HeldBy}
use Rattle.routing.proofs.LowestTrack.{track_few}
use Rattle.routing.proofs.NextTrack.{moved, moved_other, best_bit, before_tracks, fewest_le, Next, next_track_lem}

-- ---- sets that are playable

pub playable_head : {s : ℕ} {sets : List ℕ} → Playable (s ∷ sets) → Tracks s
playable_head p = p.each 0 (zero-lt-suc _)

pub playable_tail : {s : ℕ} {sets : List ℕ} → Playable (s ∷ sets) → Playable sets
playable_tail p = record { each = λ k h. p.each (suc k) (suc-le-suc h) }

pub best_tracks : {s : ℕ} {sets : List ℕ} → Playable (s ∷ sets) → Tracks (best_of (s ∷ sets))
unfolding best_of
best_tracks {s} {sets} p = before_tracks s (best_of sets) (playable_head p)

-- ---- lengths

pub least_le : (sets : List ℕ) → least_of sets ≤ length sets
unfolding least_of
least_le [] = zero-le
least_le (s ∷ sets) = omega (arith, (best_bit s (best_of sets) 0).due_lt, least_le sets)

pub chosen_length : (t : ℕ) (sets : List ℕ) → length (chosen t sets) ≡ length sets
unfolding chosen
chosen_length t [] = refl
chosen_length t (s ∷ sets) = ap suc (chosen_length (next_track t s (best_of (s ∷ sets))) sets)

-- ---- one note more

next_chosen : (t s : ℕ) (sets : List ℕ) → Playable (s ∷ sets) → Next t s (best_of sets) (next_track t s (best_of (s ∷ sets)))
unfolding best_of
next_chosen t s sets p = next_track_lem t s (best_of sets) (playable_head p)

pub chosen_held : (t : ℕ) (sets : List ℕ) → Playable sets → HeldBy sets (chosen t sets)
unfolding chosen
chosen_held t [] p = tt
chosen_held t (s ∷ sets) p =
    ((next_chosen t s sets p).held, chosen_held (next_track t s (best_of (s ∷ sets))) sets (playable_tail p))

-- ---- from track t on

-- the fewest changes: one more than are left from the best tracks, where t is none of them
abbrev fewest_from : (t : ℕ) (sets : List ℕ) → ℕ
fewest_from t sets = (1 - bit (best_of sets) t) + least_of sets

fewest_nil : (t : ℕ) → t < 32 → fewest_from t [] ≡ 0
unfolding best_of least_of
fewest_nil t h = omega (arith, bit_ones t 32 h)

fewest_more : (t s : ℕ) (sets : List ℕ)
    → fewest_from t (s ∷ sets) ≡ (1 - bit (best_before s (best_of sets)) t) + due s (best_of sets) + least_of sets
unfolding best_of least_of
fewest_more t s sets = omega arith

-- no track of a set is above 31
track_lt : {s t : ℕ} {sets : List ℕ} → Playable (s ∷ sets) → bit s t ≡ 1 → t < 32
track_lt p e = omega (arith, track_few (playable_head p).few e)

-- no route has fewer, and the chosen one has as many
fewest_from_lem : (t : ℕ) (sets route : List ℕ) → Playable sets → t < 32 → HeldBy sets route → fewest_from t sets ≤ changes_from t route
unfolding changes_from
fewest_from_lem t [] [] p h held = omega (arith, fewest_nil t h)
fewest_from_lem t [] (v ∷ route) p h held = absurd held
fewest_from_lem t (s ∷ sets) [] p h held = absurd held
fewest_from_lem t (s ∷ sets) (v ∷ route) p h held =
    let ih = fewest_from_lem v sets route (playable_tail p) (track_lt p held.0) held.1 in
    omega (arith, ih, fewest_more t s sets, fewest_le t s (best_of sets) v held.0)

chosen_from : (t : ℕ) (sets : List ℕ) → Playable sets → t < 32 → changes_from t (chosen t sets) ≡ fewest_from t sets
unfolding chosen changes_from
chosen_from t [] p h = sym (fewest_nil t h)
chosen_from t (s ∷ sets) p h =
    let u = next_track t s (best_of (s ∷ sets)) in
    let n = next_chosen t s sets p in
    let ih = chosen_from u sets (playable_tail p) (track_lt p n.held) in
    omega (arith, ih, fewest_more t s sets, n.keeps)

-- no route with as few comes before it
first_from : (t : ℕ) (sets route : List ℕ) → Playable sets → HeldBy sets route → t < 32
    → changes_from t route ≤ fewest_from t sets → NotAfter (chosen t sets) route
unfolding chosen changes_from NotAfter
first_from t [] route p held h few = tt
first_from t (s ∷ sets) [] p held h few = absurd held
first_from t (s ∷ sets) (v ∷ route) p held h few = pick (ℕ_discrete u v) (first_from u sets route (playable_tail p) held.1)
  where
    u : ℕ
    u = next_track t s (best_of (s ∷ sets))

    n : Next t s (best_of sets) u
    n = next_chosen t s sets p

    left : moved t v + changes_from v route ≤ (1 - bit (best_before s (best_of sets)) t) + due s (best_of sets) + least_of sets
    left = omega (arith, few, fewest_more t s sets)

    low : u ≤ v
    low =
        let l = fewest_from_lem v sets route (playable_tail p) (track_lt p held.0) held.1 in
        n.first v held.0 (omega (arith, left, l))

    pick : Dec (u ≡ v) → (u < 32 → changes_from u route ≤ fewest_from u sets → NotAfter (chosen u sets) route)
        → (u < v) ⊎ ((u ≡ v) × NotAfter (chosen u sets) route)
    pick (yes e) ih =
        let changed : ℕ → ℕ = λ x. moved t x + changes_from x route in
        let same : changed u ≡ changed v = ap changed e in
        inr (e, ih (track_lt p n.held) (omega (arith, left, same, n.keeps)))
    pick (no ne) ih = inl (omega (arith, low, ne))

-- ---- from the first note on

-- with track 0 before it, which has no note, there is one change more
module _ (s : ℕ) (sets : List ℕ) (p : Playable (s ∷ sets)) where
  changes_zero : (route : List ℕ) → HeldBy (s ∷ sets) route → changes_from 0 route ≡ suc (changes route)
  unfolding changes_from changes
  changes_zero [] held = absurd held
  changes_zero (t ∷ route) held = omega (arith, moved_other 0 t none)
    where
      none : 0 ≡ t → ⊥
      none e = absurd (omega (arith, held.0, ap (bit s) e, (playable_head p).not_zero))

  fewest_zero : fewest_from 0 (s ∷ sets) ≡ suc (least_of (s ∷ sets))
  fewest_zero = omega (arith, (best_tracks p).not_zero)

pub chosen_least : (sets : List ℕ) → Playable sets → changes (chosen 0 sets) ≡ least_of sets
unfolding chosen changes least_of
chosen_least [] p = refl
chosen_least (s ∷ sets) p =
    let a = changes_zero s sets p (chosen 0 (s ∷ sets)) (chosen_held 0 (s ∷ sets) p) in
    omega (arith, a, fewest_zero s sets p, chosen_from 0 (s ∷ sets) p (omega arith))

pub least_fewest : (sets other : List ℕ) → Playable sets → HeldBy sets other → least_of sets ≤ changes other
unfolding least_of
least_fewest [] other p held = zero-le
least_fewest (s ∷ sets) other p held =
    let a = fewest_from_lem 0 (s ∷ sets) other p (omega arith) held in
    omega (arith, a, fewest_zero s sets p, changes_zero s sets p other held)

pub chosen_first : (sets other : List ℕ) → Playable sets → HeldBy sets other → changes other ≡ least_of sets
    → NotAfter (chosen 0 sets) other
unfolding chosen NotAfter
chosen_first [] other p held e = tt
chosen_first (s ∷ sets) other p held e =
    first_from 0 (s ∷ sets) other p held (omega arith) (omega (arith, e, fewest_zero s sets p, changes_zero s sets p other held))

-- ---- of two routes, the one that comes first

pub not_after_unique : (a b : List ℕ) → NotAfter a b → NotAfter b a → a ≡ b
unfolding NotAfter
not_after_unique [] [] h k = refl
not_after_unique [] (u ∷ b) h k = absurd k
not_after_unique (t ∷ a) [] h k = absurd h
not_after_unique (t ∷ a) (u ∷ b) h k = step h k (not_after_unique a b)
  where
    step : (t < u) ⊎ ((t ≡ u) × NotAfter a b) → (u < t) ⊎ ((u ≡ t) × NotAfter b a) → (NotAfter a b → NotAfter b a → a ≡ b)
        → t ∷ a ≡ u ∷ b
    step (inl l) (inl m) ih = absurd (omega (arith, l, m))
    step (inl l) (inr m) ih = absurd (omega (arith, l, m.0))
    step (inr l) (inl m) ih = absurd (omega (arith, l.0, m))
    step (inr l) (inr m) ih = ap₂ (λ (x : ℕ) (xs : List ℕ). x ∷ xs) l.0 (ih l.1 m.1)
