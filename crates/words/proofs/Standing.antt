-- A word sought at a place of the text, letter by letter: it begins there exactly where what is left of it begins at what is
-- left of the text. And what is left of a text from a place on, as the library lends it, and a word at its front, as the
-- library compares the two: the same answer. Assumes nothing.
use mathlib.Core.Path.{◌≡◌, refl, sym, ap, ◌∙◌}
use mathlib.Core.Bool.{Bool, true, false, cond, ◌&&◌}
use mathlib.Core.Logic.{◌⊎◌, inl, inr}
use mathlib.Core.List.{List, [], ◌∷◌}
use Prim.Native.Nat.{ℕ, ◌+◌, ◌≤◌, ◌<◌}
use native.Mathlib.Numerals.{add-one}
use native.Mathlib.Omega.{arith}
use borrow.Author.Tests.{eq-eqb, ne_eqb}
use denote.Ref.{Bor}
use lib.Dec.{eqb}
use lib.ListN.{length, get_or, take, drop, drop_of_length-le}
use lib.Pointwise.{pointwise}
use lib.Seq.{drop-cons}
use Rattle.std.specs.Prelude.{Option, Some, None, unwrap_or}
use Rattle.std.specs.List.{starts_with}
use Rattle.std.specs.Slice.{IsGetRangeResult}
use Rattle.std.proofs.lemmas.Slice.{between_to_end}
use Rattle.words.specs.Words.{begins}

-- ---- letter by letter

pub record Standing (text : List ℕ) (from : ℕ) (word : List ℕ) (at i : ℕ) : Type 0 where
  pub so_far : begins word (drop from text) ≡ begins (drop i word) (drop at text)

module _ (text : List ℕ) (from : ℕ) (word : List ℕ) where
  pub standing_start : Standing text from word from 0
  standing_start = record { so_far = refl }

  module _ (at i : ℕ) (s : Standing text from word at i) where
    pub standing_end : length word ≤ i → true ≡ begins word (drop from text)
    standing_end h = sym (s.so_far ∙ rw (drop_of_length-le word h))

    module _ (more : i < length word) where
      pub standing_short : length text ≤ at → false ≡ begins word (drop from text)
      standing_short h = sym (s.so_far ∙ rw (drop_of_length-le text h, drop-cons word i 0 more))

      module _ (there : at < length text) where
        pub standing_miss : (get_or word i 0 ≡ get_or text at 0 → ⊥) → false ≡ begins word (drop from text)
        standing_miss n = sym (s.so_far ∙ rw (drop-cons text at 0 there, drop-cons word i 0 more, ne_eqb (get_or word i 0) (get_or text at 0) n))

        pub standing_more : get_or word i 0 ≡ get_or text at 0 → Standing text from word (at + 1) (i + 1)
        standing_more e =
            record {
              so_far = s.so_far ∙ rw (drop-cons text at 0 there, drop-cons word i 0 more, eq-eqb (get_or word i 0) (get_or text at 0) e, add-one at, add-one i);
            }

-- ---- as the library compares

-- nothing is left from the end on
pub left_from : (text : List ℕ) (from : ℕ) (r : Option (Bor (List ℕ))) (d : Bor (List ℕ))
    → IsGetRangeResult text from (length text) r → d.now ≡ []
    → (unwrap_or r d).now ≡ drop from text
left_from text from None d p e = e ∙ sym (drop_of_length-le text (past p.0))
  where
    past : (length text < from) ⊎ (length text < length text) → length text ≤ from
    past (inl h) = omega arith
    past (inr h) = absurd (omega arith)
left_from text from (Some x) d p e = p.0.2 ∙ between_to_end text from (length text) (omega arith)

pub starts_begins : (word text : List ℕ) → pointwise eqb word (take (length word) text) ≡ begins word text
starts_begins [] [] = refl
starts_begins [] (b ∷ text) = refl
starts_begins (w ∷ word) [] = refl
starts_begins (w ∷ word) (b ∷ text) = step (eqb w b) (starts_begins word text)
  where
    step : (t : Bool) → pointwise eqb word (take (length word) text) ≡ begins word text
        → (t && pointwise eqb word (take (length word) text)) ≡ cond t (begins word text) false
    step true e = e
    step false e = refl

-- so the library's answer is whether the word begins there
pub stands_is : (text word : List ℕ) (from : ℕ) (r : Option (Bor (List ℕ))) (d left : Bor (List ℕ)) (b : Bool)
    → IsGetRangeResult text from (length text) r
    → left ≡ unwrap_or r d → d.now ≡ [] → b ≡ starts_with eqb left.now word → b ≡ begins word (drop from text)
stands_is text word from r d left b i l e s =
    s ∙ starts_begins word left.now ∙ ap (λ (x : Bor (List ℕ)). begins word x.now) l ∙ ap (begins word) (left_from text from r d i e)
