-- The lines of a page's pairs, written one after the other: what is written, and what is to come. Assumes nothing.
use mathlib.Core.Path.{◌≡◌, refl, sym, ap, ◌∙◌, subst}
use mathlib.Core.List.{List, [], ◌∷◌, ◌++◌, append_assoc, append-nil}
use Prim.Native.Nat.{ℕ, zero, suc, ◌+◌, ◌≤◌}
use native.Mathlib.Omega.{arith}
use lib.IntN.{ℤ}
use lib.ListN.{length, take}
use lib.Seq.{length-take-le}
use mir.Syntax.{w16}
use mir.Val.{SFits}
use mir.Facts.{to_z-of_z}
use Rattle.ways.specs.declared.bookmark.Pair.{Pair}
use Rattle.paging.specs.Lent.{lent, read_pairs}
use Rattle.telling.specs.Lines.{pair_of, hit_line, hit_lines}
use Rattle.telling.specs.Steps.{Wrote}
use Rattle.telling.proofs.Puts.{wrote_length, wrote_then, wrote_room, wrote_nil, room_part, room_same}
use Rattle.telling.proofs.Sizes.{read}

-- ---- the line of one pair: a shift is read as it is

module _ (column : ℕ) (shift : ℤ) (f : SFits w16 shift) where
  read_line : hit_line (pair_of column (read shift)) ≡ hit_line (pair_of column shift)
  read_line = ap (λ (z : ℤ). hit_line (pair_of column z)) (to_z-of_z f)

  pub read_room : (at : ℕ) (out : List ℕ) → at + length (hit_line (pair_of column shift)) ≤ length out → at + length (hit_line (pair_of column (read shift))) ≤ length out
  read_room at out h = room_same at out (sym read_line) h

  pub read_wrote : {at r : ℕ} {out out' : List ℕ} → Wrote (hit_line (pair_of column (read shift))) at out r out' → Wrote (hit_line (pair_of column shift)) at out r out'
  read_wrote {at} {r} {out} {out'} w = subst (λ (l : List ℕ). Wrote l at out r out') read_line w

-- ---- the lines of all

-- those of the pairs that are left
abbrev pub to_come : (columns : List ℕ) (shifts : List ℤ) → List ℕ
to_come columns shifts = hit_lines (read_pairs (length columns) (lent columns shifts))

-- the pairs in the first places
front_pairs : (k : ℕ) (columns : List ℕ) (shifts : List ℤ) → k ≤ length columns → length shifts ≡ length columns
    → read_pairs k (lent columns shifts) ≡ read_pairs (length (take k columns)) (lent (take k columns) (take k shifts))
front_pairs zero columns shifts h s = refl
front_pairs (suc k) [] shifts h s = absurd (omega arith)
front_pairs (suc k) (j ∷ columns) [] h s = absurd (omega arith)
front_pairs (suc k) (j ∷ columns) (c ∷ shifts) h s = ap (λ (l : List Pair). pair_of j c ∷ l) (front_pairs k columns shifts (omega arith) (omega arith))

-- the lines of all pairs but those at `left` and `left_shifts` are written
pub record Hitting (columns : List ℕ) (shifts : List ℤ) (found from : ℕ) (out₀ out : List ℕ) (at : ℕ) (left : List ℕ) (left_shifts : List ℤ) : Type 0 where
  pub done : List ℕ
  pub wrote : Wrote done from out₀ at out
  pub parts : hit_lines (read_pairs found (lent columns shifts)) ≡ done ++ to_come left left_shifts
  pub room : from + length (hit_lines (read_pairs found (lent columns shifts))) ≤ length out₀
  pub same : length left_shifts ≡ length left

module _ {columns : List ℕ} {shifts : List ℤ} {found from : ℕ} {out₀ : List ℕ} where
  pub hitting_start : found ≤ length columns → length shifts ≡ length columns → from + length (hit_lines (read_pairs found (lent columns shifts))) ≤ length out₀
      → {left : List ℕ} {left_shifts : List ℤ} → left ≡ take found columns → left_shifts ≡ take found shifts
      → Hitting columns shifts found from out₀ out₀ from left left_shifts
  hitting_start h s r e f =
      rw (e, f)
      record {
        done = [];
        wrote = wrote_nil from out₀;
        parts = ap hit_lines (front_pairs found columns shifts h s);
        room = r;
        same = length-take-le found shifts (omega arith) ∙ sym (length-take-le found columns h);
      }

  module _ {out : List ℕ} {at : ℕ} {left : List ℕ} {left_shifts : List ℤ} (p : Hitting columns shifts found from out₀ out at left left_shifts) where
    pub hitting_length : length out ≡ length out₀
    hitting_length = wrote_length p.wrote

    pub hitting_end : left ≡ [] → Wrote (hit_lines (read_pairs found (lent columns shifts))) from out₀ at out
    hitting_end z =
        let e : hit_lines (read_pairs found (lent columns shifts)) ≡ p.done = p.parts ∙ rw z (append-nil p.done) in
        rw e p.wrote

    module _ {column : ℕ} {shift : ℤ} {rest : List ℕ} {rest_shifts : List ℤ} (c : left ≡ column ∷ rest) (s : left_shifts ≡ shift ∷ rest_shifts) where
      abbrev line : List ℕ
      line = hit_line (pair_of column shift)

      next_line : to_come left left_shifts ≡ line ++ to_come rest rest_shifts
      next_line = rw (c, s)

      pub hitting_room : at + length line ≤ length out
      hitting_room =
          room_part at line (to_come rest rest_shifts) out
          (room_same at out next_line (wrote_room p.wrote (to_come left left_shifts) (room_same from out₀ p.parts p.room)))

      pub hitting_more : {at' : ℕ} {out' : List ℕ} → Wrote line at out at' out' → Hitting columns shifts found from out₀ out' at' rest rest_shifts
      hitting_more w =
          record {
            done = p.done ++ line;
            wrote = wrote_then p.wrote w;
            parts = p.parts ∙ ap (λ (l : List ℕ). p.done ++ l) next_line ∙ sym (append_assoc p.done line (to_come rest rest_shifts));
            room = p.room;
            same = omega (arith, ap length c, ap length s, p.same);
          }
