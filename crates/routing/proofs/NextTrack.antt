-- One note of a route, in numbers: the best tracks of a note with set s before one whose best are b, and whether a change is due
-- there (`best_before`, `due`), bit by bit; then the track chosen after track t (`next_track_lem`): it has the note, it keeps to the
-- fewest changes, and no lower track does both. Assumes nothing.
use mathlib.Core.Path.{◌≡◌, refl, sym, ap, ◌∙◌}
use mathlib.Core.Bool.{Bool, true, false, cond}
use Prim.Native.Nat.{ℕ, ◌+◌, ◌-◌, ◌*◌, ◌/◌, ◌%◌, ◌^◌, ◌≤◌, ◌<◌, zero-le, min, max}
use native.Mathlib.Nat.{zero-lt-suc}
use native.Mathlib.Decide.{ℕ_discrete}
use native.Mathlib.Omega.{arith}
use lib.Bits.{bit_and, bit_or, and_le_l, and_le_r, or_lt, or_add_and}
use lib.Count.{count_trailing_zeros}
use lib.Dec.{eqb}
use borrow.Author.Tests.{eqb-true, eqb-false, eq-eqb, ne_eqb}
use Rattle.theory.specs.Bits.{bit}
use Rattle.theory.proofs.Bits.{bit_lt, bit_and_lem, bit_or_lem, bit_high, bit_pow_same, bit_pow_other}
use Rattle.theory.proofs.Masks.{shr_and_one, one_shl}
use Rattle.score.specs.Limits.{most_tracks}
use Rattle.routing.specs.TrackSets.{best_before, due, lowest_of, next_track, Tracks}
use Rattle.routing.proofs.LowestTrack.{LowestBit, lowest_bit, track_few}

-- ---- whether there is a change

-- from track t to track u: 0 or 1
abbrev pub moved : (t u : ℕ) → ℕ
moved t u = cond (eqb t u) 0 1

pub moved_same : (t u : ℕ) → t ≡ u → moved t u ≡ 0
moved_same t u e = rw (eq-eqb t u e)

pub moved_other : (t u : ℕ) → (t ≡ u → ⊥) → moved t u ≡ 1
moved_other t u n = rw (ne_eqb t u n)

-- ---- the best tracks

-- the best before a note, x, and the change that is due there, d, by a bit of each: they are 0 or 1
pub record BestBit (s b x d q : ℕ) : Type 0 where
  pub due_lt : d < 2
  pub set_lt : bit s q < 2
  pub next_lt : bit b q < 2
  pub is : bit x q ≡ min (bit s q) (max d (bit b q))
  pub apart : min (bit s q) (bit b q) + d ≤ 1

module _ (s b : ℕ) where
  pub best_bit : (q : ℕ) → BestBit s b (best_before s b) (due s b) q
  best_bit q = step (eqb (bit_and s b) 0) refl
    where
      none : bit_and s b ≡ 0 → min (bit s q) (bit b q) ≡ 0
      none e = sym (bit_and_lem s b q) ∙ ap (λ (x : ℕ). bit x q) e ∙ bit_high 0 q 0 (zero-lt-suc 0) zero-le

      step : (t : Bool) → eqb (bit_and s b) 0 ≡ t → BestBit s b (cond t s (bit_and s b)) (cond t 1 0) q
      step true e =
          let n = none (eqb-true _ _ e) in
          let l = bit_lt s q in
          record { due_lt = omega arith; set_lt = l; next_lt = bit_lt b q; is = omega (arith, l); apart = omega (arith, n) }
      step false e =
          let l = bit_lt s q in
          let m = bit_lt b q in
          record { due_lt = omega arith; set_lt = l; next_lt = m; is = omega (arith, m, bit_and_lem s b q); apart = omega (arith, l) }

  -- the best tracks are tracks
  pub before_tracks : Tracks s → Tracks (best_before s b)
  before_tracks tracks = step (eqb (bit_and s b) 0) refl
    where
      step : (t : Bool) → eqb (bit_and s b) 0 ≡ t → Tracks (cond t s (bit_and s b))
      step true e = tracks
      step false e =
          let n = eqb-false (bit_and s b) 0 e in
          record {
            some = omega (arith, n);
            few = omega (arith, tracks.few, and_le_l s b);
            not_zero = omega (arith, bit_and_lem s b 0, tracks.not_zero);
          }

-- ---- the next track

-- where t is not among the best: these, and t itself where it has the note
abbrev pub fit : (t s best : ℕ) → ℕ
fit t s best = bit_or best (bit_and s (2 ^ t))

module _ (t s best : ℕ) where
  fit_same : bit best t ≡ 0 → bit (fit t s best) t ≡ bit s t
  fit_same e =
      let a = bit_and_lem s (2 ^ t) t in
      omega (arith, bit_or_lem best (bit_and s (2 ^ t)) t, a, bit_pow_same t, bit_lt s t)

  fit_other : (q : ℕ) → (t ≡ q → ⊥) → bit (fit t s best) q ≡ bit best q
  fit_other q n =
      let a = bit_and_lem s (2 ^ t) q in
      omega (arith, bit_or_lem best (bit_and s (2 ^ t)) q, a, bit_pow_other t q n)

  module _ (tracks : Tracks s) (bests : Tracks best) where
    fit_few : fit t s best < 2 ^ (most_tracks + 1)
    fit_few = or_lt (most_tracks + 1) best (bit_and s (2 ^ t)) bests.few (omega (arith, tracks.few, and_le_l s (2 ^ t)))

    fit_lowest : LowestBit 32 (fit t s best) (lowest_of (fit t s best))
    fit_lowest =
        let e = or_add_and best (bit_and s (2 ^ t)) in
        lowest_bit 32 (fit t s best) (omega (arith, bests.some, e, and_le_r best (bit_and s (2 ^ t)))) (omega (arith, fit_few))

    pub next_few : t ≤ most_tracks → next_track t s best ≤ most_tracks
    next_few h = step (eqb (bit best t) 1)
      where
        step : (b : Bool) → cond b t (lowest_of (fit t s best)) ≤ most_tracks
        step true = h
        step false = track_few fit_few fit_lowest.there

-- track u, after track t, has the note and keeps to the fewest changes; no lower track does both
pub record Next (t s b u : ℕ) : Type 0 where
  pub held : bit s u ≡ 1
  pub keeps : moved t u + (1 - bit b u) ≡ (1 - bit (best_before s b) t) + due s b
  pub first : (v : ℕ) → bit s v ≡ 1 → moved t v + (1 - bit b v) ≤ (1 - bit (best_before s b) t) + due s b → u ≤ v

module _ (t s b : ℕ) where
  -- no track that has the note has fewer
  pub fewest_le : (v : ℕ) → bit s v ≡ 1 → (1 - bit (best_before s b) t) + due s b ≤ moved t v + (1 - bit b v)
  fewest_le v h = pick (ℕ_discrete t v)
    where
      pick : Dec (t ≡ v) → (1 - bit (best_before s b) t) + due s b ≤ moved t v + (1 - bit b v)
      pick (yes q) = omega (arith, best_bit s b t, h, moved_same t v q, ap (bit b) q, ap (bit s) q)
      pick (no n) = omega (arith, best_bit s b v, h, moved_other t v n)

module _ (t s b : ℕ) (tracks : Tracks s) where
  -- t is among the best
  stay : bit (best_before s b) t ≡ 1 → Next t s b t
  stay e =
      let f = best_bit s b t in
      record { held = omega (arith, f.set_lt, f.is); keeps = omega (arith, f, moved_same t t refl); first = first' }
    where
      first' : (v : ℕ) → bit s v ≡ 1 → moved t v + (1 - bit b v) ≤ (1 - bit (best_before s b) t) + due s b → t ≤ v
      first' v h k = pick (ℕ_discrete t v)
        where
          pick : Dec (t ≡ v) → t ≤ v
          pick (yes q) = omega arith
          pick (no n) = absurd (omega (arith, best_bit s b v, moved_other t v n))

  -- it is not
  go : bit (best_before s b) t ≡ 0 → Next t s b (lowest_of (fit t s (best_before s b)))
  go e = pick (ℕ_discrete t u)
    where
      u : ℕ
      u = lowest_of (fit t s (best_before s b))

      low : LowestBit 32 (fit t s (best_before s b)) u
      low = fit_lowest t s (best_before s b) tracks (before_tracks s b tracks)

      first' : (v : ℕ) → bit s v ≡ 1 → moved t v + (1 - bit b v) ≤ (1 - bit (best_before s b) t) + due s b → u ≤ v
      first' v h k = other (ℕ_discrete t v)
        where
          other : Dec (t ≡ v) → u ≤ v
          other (yes q) =
              let same : u ≤ t = low.least t (fit_same t s (best_before s b) e ∙ ap (bit s) q ∙ h) in
              omega (arith, same, q)
          other (no n) =
              low.least v (fit_other t s (best_before s b) v n ∙ omega (arith, best_bit s b v, moved_other t v n, e))

      pick : Dec (t ≡ u) → Next t s b u
      pick (yes q) =
          let a : bit s t ≡ 1 = sym (fit_same t s (best_before s b) e) ∙ ap (bit (fit t s (best_before s b))) q ∙ low.there in
          record {
            held = ap (bit s) (sym q) ∙ a;
            keeps = omega (arith, best_bit s b t, a, e, moved_same t u q, ap (bit b) q);
            first = first';
          }
      pick (no n) =
          let f = best_bit s b u in
          let a : bit (best_before s b) u ≡ 1 = sym (fit_other t s (best_before s b) u n) ∙ low.there in
          record { held = omega (arith, f, a); keeps = omega (arith, f, a, e, moved_other t u n); first = first' }

  pub next_track_lem : Next t s b (next_track t s (best_before s b))
  next_track_lem = step (eqb (bit (best_before s b) t) 1) refl
    where
      step : (d : Bool) → eqb (bit (best_before s b) t) 1 ≡ d → Next t s b (cond d t (lowest_of (fit t s (best_before s b))))
      step true q = stay (eqb-true _ _ q)
      step false q =
          let n = eqb-false (bit (best_before s b) t) 1 q in
          go (omega (arith, bit_lt (best_before s b) t, n))

-- ---- as the code tests and chooses

-- t is among the best
pub next_stays : (t s best : ℕ) → bit_and (best / 2 ^ t) 1 ≡ 1 → t ≡ next_track t s best
next_stays t s best e = rw (eq-eqb _ _ (sym (shr_and_one best t) ∙ e))

-- it is not
pub next_goes : (t s best : ℕ) → t < 32 → (bit_and (best / 2 ^ t) 1 ≡ 1 → ⊥)
    → count_trailing_zeros 32 (bit_or best (bit_and s (1 * 2 ^ t % 2 ^ 32))) ≡ next_track t s best
next_goes t s best h n = rw (ne_eqb _ _ (λ e. n (shr_and_one best t ∙ e)), one_shl t 32 h)
