-- The entries of the columns with a pitch are sets: each is that of its column (`entry_is`), and they are twelve bits where the sets
-- are (`entries_small`). Assumes nothing.
use mathlib.Core.Path.{◌≡◌, ap, ◌∙◌}
use mathlib.Core.List.{List}
use Prim.Native.Nat.{ℕ, ◌+◌, ◌-◌, ◌≤◌, ◌<◌}
use native.Mathlib.Decide.{dec_lt}
use native.Mathlib.Omega.{arith}
use lib.ListN.{length, get_or, take, length-map, get_or-eq_default}
use lib.Seq.{get_or-take, length-take-le}
use Rattle.theory.proofs.Lists.{map_at}
use Rattle.score.specs.Limits.{table_words}
use Rattle.score.specs.Score.{heard_of, heard_from}
use Rattle.score.proofs.Heard.{heard_length, number_at, number_rises}
use Rattle.search.specs.Pairs.{entries_of}

module _ (score : List (List ℕ)) (sets : List ℕ) where
  abbrev front : List ℕ
  front = take (length (heard_of score) - 1) (heard_from 1 score)

  front_length : length front ≡ length (heard_of score) - 1
  front_length = length-take-le (length (heard_of score) - 1) (heard_from 1 score) (omega (arith, heard_length 1 score))

  pub entry_is : (x : ℕ) → x + 1 < length (heard_of score) → get_or (entries_of score sets) x 0 ≡ get_or sets (get_or (heard_from 1 score) x 0 - 1) 0
  entry_is x l =
      map_at (λ k. get_or sets (k - 1) 0) front x 0 0 (omega (arith, front_length))
      ∙ ap (λ (k : ℕ). get_or sets (k - 1) 0) (get_or-take (length (heard_of score) - 1) (heard_from 1 score) x 0 (omega arith))

  -- an entry that is followed by another column with a pitch is that of a column which has a set
  pub entry_within : length sets ≡ length score - 1 → (x : ℕ) → x + 1 < length (heard_of score) → get_or (heard_from 1 score) x 0 - 1 < length sets
  entry_within long x l =
      let here = number_at 1 score x (omega arith) in
      let next = number_at 1 score (x + 1) l in
      omega (arith, long, here.not_before, next.within, number_rises 1 score x (x + 1) (omega arith) l)

  -- and all entries are twelve bits, where all sets are
  pub entries_small : ((k : ℕ) → get_or sets k 0 < table_words) → (x : ℕ) → get_or (entries_of score sets) x 0 < table_words
  entries_small small x = pick (dec_lt x (length front))
    where
      pick : Dec (x < length front) → get_or (entries_of score sets) x 0 < table_words
      pick (yes l) = omega (arith, map_at (λ k. get_or sets (k - 1) 0) front x 0 0 l, small (get_or front x 0 - 1))
      pick (no l) =
          let past : length (entries_of score sets) ≤ x = omega (arith, length-map front (λ k. get_or sets (k - 1) 0)) in
          omega (arith, get_or-eq_default (entries_of score sets) 0 past)
