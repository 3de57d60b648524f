-- The loops that fill the sets. One gathers the class sets (`Gathering`): those of columns 1 to k, counted from 0, are stored,
-- and the cells left are those from column k + 1 on. The others turn them to sets in their place (`Turns`): the first k are sets, each
-- with a later class set, and the rest are still class sets. Last, these are the sets of the score. Assumes nothing.
use mathlib.Core.Path.{◌≡◌, refl, sym, ap, ◌∙◌}
use mathlib.Core.List.{List, [], ◌∷◌, map}
use Prim.Native.Nat.{ℕ, zero, suc, ◌+◌, ◌*◌, ◌≤◌, ◌<◌, zero-le}
use native.Mathlib.Nat.{add-mul, one-mul, zero-mul, mul-le-mul_right, not-suc-le-zero, le_refl}
use native.Mathlib.Numerals.{add-one}
use native.Mathlib.Omega.{arith}
use lib.ListN.{length, get_or, take, drop, set, length-set, length-map, length-drop}
use lib.Seq.{ext_get_or, get_or-set_other, drop-drop}
use Rattle.theory.proofs.Lists.{map_at, stored_more}
use Rattle.score.specs.Score.{cut}
use Rattle.score.specs.Sets.{next_heard, sets}
use Rattle.preparing.specs.Classes.{class_set, SetOf, ClassSets, next_class, Carried, Turned}
use Rattle.score.proofs.Columns.{cut_length, cut_at}
use Rattle.score.proofs.IntervalSets.{sets_length, sets_at}
use Rattle.preparing.proofs.Carrying.{next_class_lem}

-- ---- gathering

-- the cells of column k, from 0
abbrev column_from : (cells : List ℕ) (h k : ℕ) → List ℕ
column_from cells h k = take h (drop (k * h) cells)

pub record Gathering (cells : List ℕ) (h n : ℕ) (out : List ℕ) (k : ℕ) (left : List ℕ) : Type 0 where
  pub within : k ≤ n
  pub long : length out ≡ n
  pub starts : left ≡ drop ((k + 1) * h) cells
  pub stored : (i : ℕ) → i < k → get_or out i 0 ≡ class_set (column_from cells h (i + 1))

module _ (cells : List ℕ) (h n : ℕ) where
  pub gathering_start : (out : List ℕ) {left : List ℕ} → length out ≡ n → left ≡ drop h cells → Gathering cells h n out 0 left
  gathering_start out l s =
      record { within = zero-le; long = l; starts = s ∙ ap (λ (m : ℕ). drop m cells) (sym (one-mul h)); stored = λ i m. absurd (not-suc-le-zero m) }

  -- the first column is within the cells
  pub first_room : (n + 1) * h ≤ length cells → h ≤ length cells
  first_room r = omega (arith, add-mul n 1 h, one-mul h)

  module _ {out : List ℕ} {k : ℕ} {left : List ℕ} (g : Gathering cells h n out k left) (m : k < n) where
    -- the next column is within the cells that are left
    pub gathering_room : (n + 1) * h ≤ length cells → h ≤ length left
    gathering_room r =
        let below : k + 1 + 1 ≤ n + 1 = omega arith in
        omega (arith, ap length g.starts, length-drop ((k + 1) * h) cells, mul-le-mul_right h below, add-mul (k + 1) 1 h, one-mul h)

    -- its class set
    pub gathering_more : (v : ℕ) {column rest : List ℕ} → column ≡ take h left → rest ≡ drop h left → v ≡ class_set column
        → Gathering cells h n (set out k v) (k + 1) rest
    gathering_more v c s e =
        record {
          within = omega arith;
          long = length-set out k v ∙ g.long;
          starts =
              let on : (k + 1) * h + h ≡ (k + 1 + 1) * h = omega (arith, add-mul (k + 1) 1 h, one-mul h) in
              s ∙ ap (drop h) g.starts ∙ drop-drop h ((k + 1) * h) cells ∙ ap (λ (m : ℕ). drop m cells) on;
          stored = stored_more (λ (i x : ℕ). x ≡ class_set (column_from cells h (i + 1))) out k v 0 g.stored (omega (arith, g.long))
              (e ∙ ap class_set (c ∙ ap (take h) g.starts));
        }

  pub gathering_end : {out left column : List ℕ} {k first : ℕ} → Gathering cells h n out k left → n ≤ k → column ≡ take h cells → first ≡ class_set column
      → ClassSets (cut (n + 1) h cells) first out
  gathering_end {out} {k = k} {first = first} g m c e = record { each = ext_get_or 0 (first ∷ out) (map class_set (cut (n + 1) h cells)) same at }
    where
      same : suc (length out) ≡ length (map class_set (cut (n + 1) h cells))
      same = omega (arith, g.long, length-map (cut (n + 1) h cells) class_set, cut_length (n + 1) h cells)

      column : (i : ℕ) → i < n + 1 → get_or (map class_set (cut (n + 1) h cells)) i 0 ≡ class_set (column_from cells h i)
      column i l = map_at class_set (cut (n + 1) h cells) i [] 0 (omega (arith, cut_length (n + 1) h cells)) ∙ ap class_set (cut_at (n + 1) h cells i l)

      at : (i : ℕ) → i < suc (length out) → get_or (first ∷ out) i 0 ≡ get_or (map class_set (cut (n + 1) h cells)) i 0
      at zero l = rw zero-mul (e ∙ ap class_set c) ∙ sym (column 0 (omega arith))
      at (suc i) l =
          let b : i < k = omega (arith, g.long) in
          rw add-one at (g.stored i b) ∙ sym (column (suc i) (omega (arith, g.long)))

-- ---- turning

pub record Turns (first : ℕ) (others later out : List ℕ) (k earlier : ℕ) : Type 0 where
  pub within : k ≤ length others
  pub long : length out ≡ length others
  pub has : earlier ≡ get_or (first ∷ others) k 0
  pub stored : (i : ℕ) → i < k → SetOf (get_or (first ∷ others) i 0) (get_or later i 0) (get_or out i 0)
  pub left : (i : ℕ) → k ≤ i → get_or out i 0 ≡ get_or others i 0

module _ (first : ℕ) (others later : List ℕ) where
  pub turns_start : Turns first others later others 0 first
  turns_start = record { within = zero-le; long = refl; has = refl; stored = λ i m. absurd (not-suc-le-zero m); left = λ i m. refl }

  pub turns_more : {out : List ℕ} {k earlier : ℕ} (v : ℕ) → Turns first others later out k earlier → k < length others → SetOf earlier (get_or later k 0) v
      → Turns first others later (set out k v) (k + 1) (get_or out k 0)
  turns_more {out} {k} {earlier} v t m s =
      record {
        within = omega arith;
        long = length-set out k v ∙ t.long;
        has = rw add-one (t.left k (le_refl k));
        stored = stored_more (λ (i x : ℕ). SetOf (get_or (first ∷ others) i 0) (get_or later i 0) x) out k v 0 t.stored (omega (arith, t.long))
            (rw t.has at s);
        left = λ i l. get_or-set_other out k i v 0 (λ e. omega arith) ∙ t.left i (omega arith);
      }

  pub turns_end : {out : List ℕ} {k earlier : ℕ} → Turns first others later out k earlier → length others ≤ k → Turned first others later out
  turns_end t m = record { long = t.long; each = λ i h. t.stored i (omega arith) }

-- where the later class sets are those not yet turned
pub turns_on : (first : ℕ) (others : List ℕ) {out : List ℕ} {k earlier : ℕ} (v : ℕ) → Turns first others others out k earlier → k < length others
    → SetOf earlier (get_or out k 0) v → Turns first others others (set out k v) (k + 1) (get_or out k 0)
turns_on first others {out} {k} {earlier} v t m s = turns_more first others others v t m (rw (t.left k (le_refl k)) at s)

-- ---- the sets of a score

class_drop : (k : ℕ) (score : List (List ℕ)) → drop k (map class_set score) ≡ map class_set (drop k score)
class_drop zero score = refl
class_drop (suc k) [] = refl
class_drop (suc k) (a ∷ score) = class_drop k score

-- a score's class sets, turned to those that are carried to them, are its sets
pub turned_sets : (score : List (List ℕ)) {first : ℕ} {others later after : List ℕ} → ClassSets score first others → Carried others later
    → Turned first others later after → after ≡ sets score
turned_sets score {first} {others} {later} {after} c n t = ext_get_or 0 after (sets score) (omega (arith, t.long, sets_length score, columns)) at
  where
    columns : suc (length others) ≡ length score
    columns = ap length c.each ∙ length-map score class_set

    own : (i : ℕ) → i < length score → get_or (first ∷ others) i 0 ≡ class_set (get_or score i [])
    own i l = ap (λ (all : List ℕ). get_or all i 0) c.each ∙ map_at class_set score i [] 0 l

    next : (i : ℕ) → i < length others → get_or later i 0 ≡ class_set (next_heard (drop (suc i) score))
    next i l =
        n.each i l ∙ ap (λ (all : List ℕ). next_class (drop (suc i) all)) c.each ∙ ap next_class (class_drop (suc i) score)
        ∙ next_class_lem (drop (suc i) score)

    at : (i : ℕ) → i < length after → get_or after i 0 ≡ get_or (sets score) i 0
    at i l =
        let h : i < length others = omega (arith, t.long) in
        (t.each i h).of_columns (get_or score i []) (next_heard (drop (suc i) score)) (own i (omega (arith, columns))) (next i h)
        ∙ sym (rw add-one at (sets_at score i (omega (arith, columns))))
