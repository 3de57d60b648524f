-- Bytes written at a place of the output, one part after the other. Assumes nothing.
use mathlib.Core.Path.{◌≡◌, refl, sym, ap, ◌∙◌, subst}
use mathlib.Core.List.{List, [], ◌∷◌, ◌++◌, append_assoc}
use Prim.Native.Nat.{ℕ, ◌+◌, ◌≤◌, ◌<◌}
use native.Mathlib.Nat.{add-zero}
use native.Mathlib.Omega.{arith}
use lib.ListN.{length, take, drop, length-append}
use lib.Seq.{sets, sets-eq, drop-drop, length-sets}
use borrow.Rule.Slice.PartMut.{put_mid}
use Rattle.theory.proofs.Lists.{sets_append}
use Rattle.telling.specs.Steps.{Wrote}

pub wrote_nil : (at : ℕ) (out : List ℕ) → Wrote [] at out at out
wrote_nil at out = record { place = sym (add-zero at); is = refl }

module _ {vs : List ℕ} {at : ℕ} {out : List ℕ} {r : ℕ} {out' : List ℕ} (f : Wrote vs at out r out') where
  pub wrote_length : length out' ≡ length out
  wrote_length = ap length f.is ∙ length-sets out at vs

  -- one part after the other
  pub wrote_then : {ws : List ℕ} {s : ℕ} {out'' : List ℕ} → Wrote ws r out' s out'' → Wrote (vs ++ ws) at out s out''
  wrote_then {ws} g =
      record {
        place = omega (arith, f.place, g.place, length-append vs ws);
        is = g.is ∙ ap (λ (l : List ℕ). sets l r ws) f.is ∙ sets_append vs out at r ws f.place;
      }

  -- there is room for what is to come
  pub wrote_room : (ws : List ℕ) → at + length (vs ++ ws) ≤ length out → r + length ws ≤ length out'
  wrote_room ws h = omega (arith, f.place, wrote_length, length-append vs ws)

pub room_same : (at : ℕ) {vs ws : List ℕ} (out : List ℕ) → vs ≡ ws → at + length vs ≤ length out → at + length ws ≤ length out
room_same at out e h = subst (λ (l : List ℕ). at + length l ≤ length out) e h

-- ---- a word, copied into its place

pub wrote_word : (word : List ℕ) (from : ℕ) (out : List ℕ) → from + length word ≤ length out → {k : ℕ} → k ≡ length word → {part : List ℕ} → part ≡ word
    → Wrote word from out (from + length word) (put_mid from k out part)
wrote_word word from out room {k} e {part} is =
    record {
      place = refl;
      is = rw (is, e, drop-drop (length word) from out) (sym (append_assoc (take from out) word (drop (from + length word) out)) ∙ sym (sets-eq word out from room));
    }

-- ---- a line of a word, two fields and the line feed

pub room_part : (at : ℕ) (vs ws out : List ℕ) → at + length (vs ++ ws) ≤ length out → at + length vs ≤ length out
room_part at vs ws out h = omega (arith, length-append vs ws)

-- there is room for one at a place
pub record LineRoom (w a b : List ℕ) (at : ℕ) (out : List ℕ) : Type 0 where
  pub room : at + length (w ++ (a ++ (b ++ (10 ∷ [])))) ≤ length out

module _ {w a b : List ℕ} {at : ℕ} {out : List ℕ} (l : LineRoom w a b at out) where
  pub line_word : at + length w ≤ length out
  line_word = room_part at w (a ++ (b ++ (10 ∷ []))) out l.room

  module _ {r₁ : ℕ} {out₁ : List ℕ} (f : Wrote w at out r₁ out₁) where
    room₁ : r₁ + length (a ++ (b ++ (10 ∷ []))) ≤ length out₁
    room₁ = wrote_room f (a ++ (b ++ (10 ∷ []))) l.room

    pub line_first : r₁ + length a ≤ length out₁
    line_first = room_part r₁ a (b ++ (10 ∷ [])) out₁ room₁

    module _ {r₂ : ℕ} {out₂ : List ℕ} (g : Wrote a r₁ out₁ r₂ out₂) where
      room₂ : r₂ + length (b ++ (10 ∷ [])) ≤ length out₂
      room₂ = wrote_room g (b ++ (10 ∷ [])) room₁

      pub line_second : r₂ + length b ≤ length out₂
      line_second = room_part r₂ b (10 ∷ []) out₂ room₂

      module _ {r₃ : ℕ} {out₃ : List ℕ} (h : Wrote b r₂ out₂ r₃ out₃) where
        pub line_last : r₃ < length out₃
        line_last = let k : r₃ + 1 ≤ length out₃ = wrote_room h (10 ∷ []) room₂ in omega arith

        pub line_whole : {r₄ : ℕ} {out₄ : List ℕ} → Wrote (10 ∷ []) r₃ out₃ r₄ out₄ → Wrote (w ++ (a ++ (b ++ (10 ∷ [])))) at out r₄ out₄
        line_whole k = wrote_then f (wrote_then g (wrote_then h k))
