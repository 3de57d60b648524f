-- How the fewest changes are counted, from the last note to the first: of the notes gone through they are counted, and the best tracks
-- of each are kept (`Counted`). Assumes nothing.
use mathlib.Core.Path.{◌≡◌, refl, sym, ap, ◌∙◌}
use mathlib.Core.Bool.{true, false}
use mathlib.Core.Logic.{◌⊎◌, inl, inr}
use mathlib.Core.List.{List, [], ◌∷◌}
use Prim.Native.Nat.{ℕ, ◌+◌, ◌-◌, ◌≤◌, ◌<◌}
use native.Mathlib.Nat.{eq-or-lt_of_le, lt_irrefl}
use native.Mathlib.Omega.{arith}
use lib.Bits.{bit_and}
use lib.Dec.{eqb}
use lib.ListN.{length, get_or, drop, set, length-set, length-drop, drop_of_length-le}
use lib.Seq.{get_or-set_same, get_or-set_other}
use Rattle.std.proofs.lemmas.List.{drop_more}
use borrow.Author.Tests.{eq-eqb, ne_eqb}
use Rattle.asking.specs.Limits.{most_notes}
use Rattle.routing.specs.TrackSets.{every_track, best_of, least_of, TracksThere, Best}
use Rattle.routing.proofs.FewestChanges.{least_le}

module _ (sets : List ℕ) where
  -- the notes from i on are gone through
  pub record CountedBack (lent best : List ℕ) (changes next i : ℕ) : Type 0 where
    pub within : i ≤ length sets
    pub least : changes ≡ least_of (drop i sets)
    pub next_is : next ≡ best_of (drop i sets)
    pub long : length best ≡ length lent
    pub each : (k : ℕ) → i ≤ k → k < length sets → get_or best k 0 ≡ best_of (drop k sets)

module _ (sets lent : List ℕ) where
  pub counted_start : CountedBack sets lent lent 0 every_track (length sets)
  unfolding best_of least_of
  counted_start =
      let none : drop (length sets) sets ≡ [] = drop_of_length-le sets {i = length sets} (omega arith) in
      record { within = omega arith; least = rw none; next_is = rw none; long = refl; each = λ k l h. absurd (lt_irrefl k (omega (arith, l, h))) }

  module _ {best : List ℕ} {changes next i : ℕ} (s : CountedBack sets lent best changes next i) where
    pub counted_few : TracksThere sets → changes ≤ most_notes
    counted_few there = omega (arith, s.least, least_le (drop i sets), length-drop i sets, there.notes_few)

    module _ (h : 0 < i) (room : length sets ≤ length lent) where
      split : drop (i - 1) sets ≡ get_or sets (i - 1) 0 ∷ drop i sets
      split =
          let e : i - 1 + 1 ≡ i = omega arith in
          drop_more sets (i - 1) 0 (omega (arith, s.within)) ∙ ap (λ (n : ℕ). get_or sets (i - 1) 0 ∷ drop n sets) e

      abbrev own : ℕ
      own = get_or sets (i - 1) 0

      kept : (x : ℕ) → x ≡ best_of (drop (i - 1) sets) → (k : ℕ) → i - 1 ≤ k → k < length sets
          → get_or (set best (i - 1) x) k 0 ≡ best_of (drop k sets)
      kept x e k l h = pick (eq-or-lt_of_le l)
        where
          pick : (i - 1 ≡ k) ⊎ (i - 1 < k) → get_or (set best (i - 1) x) k 0 ≡ best_of (drop k sets)
          pick (inl o) =
              ap (λ (n : ℕ). get_or (set best (i - 1) x) n 0) (sym o)
              ∙ get_or-set_same best (i - 1) x 0 (omega (arith, s.within, s.long, room))
              ∙ e ∙ ap (λ (n : ℕ). best_of (drop n sets)) o
          pick (inr o) = get_or-set_other best (i - 1) k x 0 (λ q. lt_irrefl (i - 1) (rw q at o)) ∙ s.each k (omega (arith, o)) h

      -- no track is best for the next note and holds this one
      pub counted_none : bit_and own next ≡ 0 → CountedBack sets lent (set best (i - 1) own) (changes + 1) own (i - 1)
      unfolding best_of least_of
      counted_none z =
          let none : eqb (bit_and own (best_of (drop i sets))) 0 ≡ true = eq-eqb _ _ (ap (bit_and own) (sym s.next_is) ∙ z) in
          record {
            within = omega (arith, s.within);
            least = rw (split, none) (omega (arith, s.least));
            next_is = rw (split, none);
            long = length-set best (i - 1) own ∙ s.long;
            each = kept own (rw (split, none));
          }

      -- some are and do
      pub counted_both : (bit_and own next ≡ 0 → ⊥) → CountedBack sets lent (set best (i - 1) (bit_and own next)) changes (bit_and own next) (i - 1)
      unfolding best_of least_of
      counted_both z =
          let some : eqb (bit_and own (best_of (drop i sets))) 0 ≡ false = ne_eqb _ _ (λ o. z (ap (bit_and own) s.next_is ∙ o)) in
          record {
            within = omega (arith, s.within);
            least = rw (split, some) (omega (arith, s.least));
            next_is = rw (split, some) (ap (bit_and own) s.next_is);
            long = length-set best (i - 1) (bit_and own next) ∙ s.long;
            each = kept (bit_and own next) (rw (split, some) (ap (bit_and own) s.next_is));
          }

  pub counted_end : {best : List ℕ} {changes next i : ℕ} → CountedBack sets lent best changes next i → i ≤ 0 → length sets ≤ length lent
      → (changes ≡ least_of sets) × Best sets best
  counted_end {best} {changes} {next} {i} s h room =
      let e : i ≡ 0 = omega arith in (
        (rw e at s.least),
        record {
          room = omega (arith, s.long, room);
          each = λ k l. s.each k (omega (arith, h)) (omega (arith, l));
        },
      )
