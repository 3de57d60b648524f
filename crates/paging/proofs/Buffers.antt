-- What was written into lent buffers is read back, what lies behind is kept, and their room stays. Lent buffers that are the same
-- have the same columns and the same shifts. Assumes nothing.
use mathlib.Core.Path.{◌≡◌, refl, ap, ◌∙◌}
use mathlib.Core.List.{List, [], ◌∷◌, ◌++◌, map}
use Prim.Native.Nat.{ℕ, ◌≤◌}
use native.Mathlib.Omega.{arith}
use lib.IntN.{ℤ}
use lib.ListN.{length, length-map}
use Rattle.theory.proofs.Lists.{over_length, over_behind}
use Rattle.ways.specs.declared.bookmark.Pair.{Pair}
use Rattle.paging.specs.Lent.{Lent, Room, written, behind, read_pairs}

pub read_front : (pairs : List Pair) (columns : List ℕ) (shifts : List ℤ)
    → read_pairs (length pairs) (record { columns = map (λ p. p.column.0) pairs ++ columns; shifts = map (λ p. p.shift) pairs ++ shifts }) ≡ pairs
read_front [] columns shifts = refl
read_front (p ∷ pairs) columns shifts = ap (λ (l : List Pair). p ∷ l) (read_front pairs columns shifts)

pub read_back : (buffers : Lent) (pairs : List Pair) → read_pairs (length pairs) (written buffers pairs) ≡ pairs
read_back buffers pairs = read_front pairs _ _

pub kept_behind : (buffers : Lent) (pairs : List Pair) → behind (length pairs) (written buffers pairs) ≡ behind (length pairs) buffers
kept_behind buffers pairs = rw (over_behind buffers.columns (λ (p : Pair). p.column.0) pairs, over_behind buffers.shifts (λ (p : Pair). p.shift) pairs)

pub written_room : {r : ℕ} (buffers : Lent) (pairs : List Pair) → Room r buffers → length pairs ≤ r → Room r (written buffers pairs)
written_room buffers pairs m h =
    record {
      of_columns = over_length buffers.columns (map (λ p. p.column.0) pairs) (omega (arith, length-map pairs (λ (p : Pair). p.column.0), m.of_columns)) ∙ m.of_columns;
      of_shifts = over_length buffers.shifts (map (λ p. p.shift) pairs) (omega (arith, length-map pairs (λ (p : Pair). p.shift), m.of_shifts)) ∙ m.of_shifts;
    }

pub same_columns : {a b : Lent} → a ≡ b → a.columns ≡ b.columns
same_columns = ap (λ (l : Lent). l.columns)

pub same_shifts : {a b : Lent} → a ≡ b → a.shifts ≡ b.shifts
same_shifts = ap (λ (l : Lent). l.shifts)
