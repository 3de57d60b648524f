-- The columns with a pitch under the numbers of the score: the numbers rise (`numbers_rise`), and the columns are no longer than
-- those of the score (`heard_long`). Assumes nothing.
use mathlib.Core.Path.{ap, subst}
use mathlib.Core.List.{List, []}
use Prim.Native.Nat.{ℕ, ◌-◌, ◌≤◌, ◌<◌}
use native.Mathlib.Decide.{dec_lt}
use native.Mathlib.Omega.{arith}
use lib.ListN.{length, get_or, get_or-eq_default}
use Rattle.theory.proofs.Pages.{hits_le}
use Rattle.score.specs.Score.{heard, heard_of, heard_from, number_of}
use Rattle.score.proofs.Heard.{number_at, number_rises, number_is}
use Rattle.paging.proofs.Renumbered.{Rises}

pub numbers_rise : (score : List (List ℕ)) → Rises (length score) (length (heard_of score)) (number_of score)
numbers_rise score =
    record {
      rises = λ i k low l high. number_rises 1 score (i - 1) (k - 1) (omega arith) (omega arith);
      from_first = λ i low high. (number_is score i low high).from_first;
      to_last = λ i low high. (number_is score i low high).to_last;
    }

pub heard_few : (score : List (List ℕ)) → length (heard_of score) ≤ length score
heard_few score = hits_le heard score

pub heard_long : (score : List (List ℕ)) (h : ℕ) → ((k : ℕ) → length (get_or score k []) ≤ h) → (k : ℕ) → length (get_or (heard_of score) k []) ≤ h
heard_long score h f k = pick (dec_lt k (length (heard_of score)))
  where
    pick : Dec (k < length (heard_of score)) → length (get_or (heard_of score) k []) ≤ h
    pick (yes l) = subst (λ (c : List ℕ). length c ≤ h) (number_at 1 score k l).named (f (get_or (heard_from 1 score) k 0 - 1))
    pick (no l) =
        let g : length (heard_of score) ≤ k = omega arith in
        omega (arith, ap length (get_or-eq_default (heard_of score) [] g))
