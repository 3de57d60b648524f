-- Words kept in a ring: a word is put in its slot. Assumes nothing.
use mathlib.Core.Path.{◌≡◌, refl, ◌∙◌}
use mathlib.Core.Bool.{Bool, true, false}
use mathlib.Core.List.{List}
use Prim.Native.Nat.{ℕ, ◌+◌, ◌-◌, ◌*◌, ◌≤◌, ◌<◌}
use native.Mathlib.Omega.{arith}
use lib.Dec.{eqb}
use lib.ListN.{get_or, take, drop, set, replicate, length-set, length-replicate, get_or-replicate}
use lib.Seq.{get_or-set_same, get_or-set_other}
use borrow.Author.Tests.{eqb-true, eqb-false}
use Rattle.ways.specs.declared.way.Way.{Way}
use Rattle.masks.specs.Masks.{value, column_word}
use Rattle.masks.specs.declared.word.Word.{Word}
use Rattle.walking.specs.declared.ring.Ring.{Ring}
use Rattle.walking.specs.declared.ring.Slot.{Slot}
use Rattle.walking.specs.Alive.{places, empty, Cached}

module _ (way : Way) (cells : List ℕ) (h : ℕ) (ring : Ring) (c : Cached way cells h ring) (s k : ℕ) (l : s < places) (word : Word) where
  -- the slot that is written, and the ring with it
  abbrev slot : Slot
  slot = record { number = k + 1; word = word }

  abbrev next : List Slot
  next = set ring.slots s slot

  pub cached_put : value word.low word.high ≡ column_word way (take h (drop (k * h) cells)) → Cached way cells h record { slots = next }
  cached_put w = record { long = length-set ring.slots s slot ∙ c.long; right = λ t m q. step t m (eqb t s) refl q }
    where
      step : (t : ℕ) → t < places → (b : Bool) → eqb t s ≡ b → 1 ≤ (get_or next t empty).number
          → value (get_or next t empty).word.low (get_or next t empty).word.high
          ≡ column_word way (take h (drop (((get_or next t empty).number - 1) * h) cells))
      step t m true e q =
          let same : t ≡ s = eqb-true t s e in
          let n : k + 1 - 1 ≡ k = omega arith in
          rw (same, get_or-set_same ring.slots s slot empty (omega (arith, c.long)), n) w
      step t m false e q =
          let other = get_or-set_other ring.slots s t slot empty (eqb-false t s e) in
          rw other (c.right t m (rw other at q))

-- a ring of empty slots has no words
pub cached_none : (way : Way) (cells : List ℕ) (h : ℕ) → Cached way cells h record { slots = replicate places empty }
cached_none way cells h =
    record {
      long = length-replicate {A = Slot} places empty;
      right = λ s k q. absurd (omega (arith, rw (get_or-replicate {A = Slot} places s empty empty k) at q));
    }
