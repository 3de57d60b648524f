-- The places of an answer: one thing written into a list of one place is the whole list, and two lists of five are equal place by
-- place. Of an explanation: the loop that writes its tracks (`Copied`), and its
-- two parts together (`told_whole`). Assumes nothing.
use mathlib.Core.Path.{◌≡◌, refl, sym, ap, ap₂, ◌∙◌}
use mathlib.Core.List.{List, [], ◌∷◌, ◌++◌, map, map-append, append-nil}
use Prim.Native.Nat.{ℕ, ◌+◌, ◌-◌, ◌≤◌, ◌<◌, zero-le}
use native.Mathlib.Numerals.{add-one}
use native.Mathlib.Omega.{arith}
use lib.IntN.{ℤ, pos}
use lib.ListN.{length, take, drop, get_or, set, length-set}
use lib.Seq.{take_all, take-suc, take-suc-set, drop-length}
use Rattle.finder_c.specs.declared.reasons.SiftedNumbers.{SiftedNumbers}
use Rattle.finder_c.specs.Reasons.{told_numbers}

pub one : {A : Type 0} (xs : List A) → length xs ≡ 1 → (a : A) → set xs 0 a ≡ a ∷ []
one [] l a = absurd (omega arith)
one (x ∷ []) l a = refl
one (x ∷ y ∷ xs) l a = absurd (omega arith)

pub five_same : {A : Type 0} {a b c d e a' b' c' d' e' : A} → a ≡ a' → b ≡ b' → c ≡ c' → d ≡ d' → e ≡ e' → a ∷ b ∷ c ∷ d ∷ e ∷ [] ≡ a' ∷ b' ∷ c' ∷ d' ∷ e' ∷ []
five_same p q r s t = rw (p, q, r, s, t)

-- ---- tracks

-- the first i tracks are written
pub record Copied (tracks : List ℕ) (places : List ℤ) (i : ℕ) : Type 0 where
  pub long : length places ≡ length tracks
  pub within : i ≤ length tracks
  pub so_far : take i places ≡ map pos (take i tracks)

pub copied_start : (tracks : List ℕ) (places : List ℤ) → length places ≡ length tracks → Copied tracks places 0
copied_start tracks places e = record { long = e; within = zero-le; so_far = refl }

pub copied_more : {tracks : List ℕ} {places : List ℤ} {i : ℕ} → Copied tracks places i → i < length tracks → {z : ℤ} → z ≡ pos (get_or tracks i 0)
    → Copied tracks (set places i z) (i + 1)
copied_more {tracks} {places} {i} s h {z} e =
    let written = take-suc-set places i z (omega (arith, s.long)) in
    let meant = ap (map pos) (take-suc tracks i 0 h) ∙ map-append pos (take i tracks) (get_or tracks i 0 ∷ []) in
    record {
      long = length-set places i z ∙ s.long;
      within = omega arith;
      so_far = rw (add-one i) (written ∙ ap₂ (λ (l : List ℤ) (v : ℤ). l ++ (v ∷ [])) s.so_far e ∙ sym meant);
    }

pub copied_end : {tracks : List ℕ} {places : List ℤ} {i : ℕ} → Copied tracks places i → length tracks ≤ i → places ≡ map pos tracks
copied_end {tracks} {places} {i} s h =
    sym (take_all i places (omega (arith, s.long))) ∙ s.so_far ∙ ap (map pos) (take_all i tracks h)

-- ---- an explanation

-- five in front, and then the rest, in place of what stood behind the five
five_and_rest : {A : Type 0} (a b c d e : A) (behind rest : List A)
    → take 5 (a ∷ b ∷ c ∷ d ∷ e ∷ behind) ++ (rest ++ drop (length (a ∷ b ∷ c ∷ d ∷ e ∷ behind) - 5) (drop 5 (a ∷ b ∷ c ∷ d ∷ e ∷ behind)))
    ≡ a ∷ b ∷ c ∷ d ∷ e ∷ rest
five_and_rest {A} a b c d e behind rest =
    let k : length (a ∷ b ∷ c ∷ d ∷ e ∷ behind) - 5 ≡ length behind = omega arith in
    ap (λ (n : ℕ). a ∷ b ∷ c ∷ d ∷ e ∷ (rest ++ drop n behind)) k
    ∙ ap (λ (l : List A). a ∷ b ∷ c ∷ d ∷ e ∷ l) (ap (λ (l : List A). rest ++ l) (drop-length behind) ∙ append-nil rest)

pub told_whole : (reason note : ℕ) (tracks : List ℕ) (all : List ℤ) {s s' : SiftedNumbers} {front rest : List ℤ}
    → front ≡ pos reason ∷ pos note ∷ pos s.part ∷ pos s.interval ∷ pos s.size ∷ [] → s ≡ s' → rest ≡ map pos tracks
    → take 5 (front ++ drop 5 all) ++ (rest ++ drop (length (front ++ drop 5 all) - 5) (drop 5 (front ++ drop 5 all))) ≡ told_numbers reason note s' tracks
told_whole reason note tracks all {s} {rest = rest} f same r =
    rw f (
    five_and_rest (pos reason) (pos note) (pos s.part) (pos s.interval) (pos s.size) (drop 5 all) rest
    ∙ ap₂ (λ (t : SiftedNumbers) (l : List ℤ). pos reason ∷ pos note ∷ pos t.part ∷ pos t.interval ∷ pos t.size ∷ l) same r)
