-- The fields of a line read one after the other into a buffer: the values so far stand in the buffer from the base on, and
-- what is left of the line is read from the place on. Laws: start, end, stop, cell. Assumes nothing.
use mathlib.Core.Path.{◌≡◌, refl, sym, ap, ◌∙◌}
use mathlib.Core.Bool.{Bool}
use mathlib.Core.Logic.{⊎_elim}
use mathlib.Core.List.{List, [], ◌∷◌, ◌++◌, append_assoc, append-nil}
use Prim.Native.Nat.{ℕ, zero, suc, ◌+◌, ◌-◌, ◌≤◌, ◌<◌}
use native.Mathlib.Nat.{sub-zero, eq-or-lt_of_le}
use native.Mathlib.Numerals.{add-one}
use native.Mathlib.Omega.{arith}
use lib.ListN.{length, get_or, take, drop, set, length-set, length-drop, drop_of_length-le}
use lib.Seq.{take-set-le, drop-set-add, take-suc-set}
use borrow.Author.Tests.{eq-eqb, ne_eqb}
use Rattle.words.specs.declared.numbers.Numeral.{Numeral}
use Rattle.std.specs.Prelude.{Some, None}
use Rattle.words.specs.Words.{Read, got, bad, next, front, cell}
use Rattle.reading.specs.Reading.{fields}
use Rattle.words.specs.Places.{Numbered}
use Rattle.reading.specs.Steps.{Filled}
use Rattle.words.proofs.Places.{front_at, drop_more}

-- values before what is read
abbrev pub prepend : List ℕ → Read (List ℕ) → Read (List ℕ)
prepend vs r = next r (λ ws rest. got (vs ++ ws) rest)

prepend_nil : (r : Read (List ℕ)) → prepend [] r ≡ r
prepend_nil (got ws rest) = refl
prepend_nil bad = refl

prepend_one : (vs : List ℕ) (v : ℕ) (r : Read (List ℕ)) → prepend vs (next r (λ ws rest. got (v ∷ ws) rest)) ≡ prepend (vs ++ (v ∷ [])) r
prepend_one vs v (got ws rest) = ap (λ (l : List ℕ). got l rest) (sym (append_assoc vs (v ∷ []) ws))
prepend_one vs v bad = refl

-- ---- the front of what is left of a line

module _ (rests : Bool) where
  pub fields_end : (left : ℕ) (text : List ℕ) → front text ≡ 10 → fields rests left text ≡ got [] (drop 1 text)
  unfolding fields
  fields_end zero text e = rw (eq-eqb (front text) 10 e)
  fields_end (suc left) text e = rw (eq-eqb (front text) 10 e)

  -- neither a line feed nor a tab, or no field is left
  pub fields_stop : (left : ℕ) (text : List ℕ) → (front text ≡ 10 → ⊥) → (front text ≡ 9 → left ≡ 0) → fields rests left text ≡ bad
  unfolding fields
  fields_stop zero text n o = rw (ne_eqb (front text) 10 n)
  fields_stop (suc left) text n o = rw (ne_eqb (front text) 10 n, ne_eqb (front text) 9 (λ e. let z = o e in omega arith))

  pub fields_cell : (left : ℕ) (text : List ℕ) → front text ≡ 9
      → fields rests (suc left) text ≡ next (cell rests (drop 1 text)) (λ value rest. next (fields rests left rest) (λ values end. got (value ∷ values) end))
  unfolding fields
  fields_cell left text e = rw (ne_eqb (front text) 10 (λ d. omega arith), eq-eqb (front text) 9 e)

-- ---- a line under way

pub record Filling (text : List ℕ) (from : ℕ) (rests : Bool) (limit base : ℕ) (into₀ into : List ℕ) (at count : ℕ) : Type 0 where
  pub so_far : fields rests limit (drop from text) ≡ prepend (take count (drop base into)) (fields rests (limit - count) (drop at text))
  pub within : at ≤ length text
  pub few : count ≤ limit
  pub long : length into ≡ length into₀
  pub before : take base into ≡ take base into₀
  pub room : base + limit ≤ length into₀

-- there is room for one value more
pub record Room (limit base : ℕ) (into : List ℕ) (count : ℕ) : Type 0 where
  pub less : count < limit
  pub within : base + count < length into

stored_one : (into : List ℕ) (base count v : ℕ) → base + count < length into
    → take count (drop base into) ++ (v ∷ []) ≡ take (count + 1) (drop base (set into (base + count) v))
stored_one into base count v h =
    rw (drop-set-add base into count v, add-one count) (sym (take-suc-set (drop base into) count v (omega (arith, length-drop base into))))

module _ (text : List ℕ) (from : ℕ) (rests : Bool) (limit base : ℕ) (into₀ : List ℕ) where
  pub filling_start : from ≤ length text → base + limit ≤ length into₀ → Filling text from rests limit base into₀ into₀ from 0
  filling_start h r = record { so_far = rw (sub-zero limit) (sym (prepend_nil _)); within = h; few = omega arith; long = refl; before = refl; room = r }

  module _ {into : List ℕ} {at count : ℕ} (f : Filling text from rests limit base into₀ into at count) where
    -- no line feed is there, and no field
    stops : fields rests (limit - count) (drop at text) ≡ bad
        → Filled text limit base into₀ None into (fields rests limit (drop from text))
    stops e =
        record {
          is = sym (f.so_far ∙ ap (prepend (take count (drop base into))) e);
          within = omega arith;
          few = omega arith;
          long = f.long;
          before = f.before;
        }

    pub filling_short : length text ≤ at → Filled text limit base into₀ None into (fields rests limit (drop from text))
    filling_short h =
        let z : front (drop at text) ≡ 0 = ap front (drop_of_length-le text h) in
        stops (fields_stop rests (limit - count) (drop at text) (λ e. omega arith) (λ e. omega arith))

    module _ {b : ℕ} (h : at < length text) (here : b ≡ get_or text at 0) where
      front_is : front (drop at text) ≡ b
      front_is = front_at text at ∙ sym here

      pub filling_end : b ≡ 10 → Filled text limit base into₀ (Some (record { count = count; next = at + 1 })) into (fields rests limit (drop from text))
      filling_end e =
          record {
            is =
                sym
                (f.so_far
                ∙ ap (prepend (take count (drop base into))) (fields_end rests (limit - count) (drop at text) (front_is ∙ e))
                ∙ rw (append-nil, drop_more text at));
            within = omega arith;
            few = f.few;
            long = f.long;
            before = f.before;
          }

      module _ (n : b ≡ 10 → ⊥) where
        -- no tab is there, or no field may come
        pub filling_stop : (b ≡ 9 → count ≡ limit) → Filled text limit base into₀ None into (fields rests limit (drop from text))
        filling_stop o =
            stops
            (fields_stop rests (limit - count) (drop at text) (λ e. n (sym front_is ∙ e)) (λ e. let q = o (sym front_is ∙ e) in omega arith))

        module _ (tab : b ≡ 9) (o : count ≡ limit → ⊥) where
          less : count < limit
          less = ⊎_elim (λ (e : count ≡ limit). absurd (o e)) (λ l. l) (eq-or-lt_of_le f.few)

          pub filling_room : Room limit base into count
          filling_room = let l = less in record { less = l; within = omega (arith, f.long, f.room) }

          on : fields rests (limit - count) (drop at text)
              ≡ next (cell rests (drop (at + 1) text)) (λ value rest. next (fields rests (limit - (count + 1)) rest) (λ values end. got (value ∷ values) end))
          on =
              let l = less in
              let e : limit - count ≡ suc (limit - (count + 1)) = omega arith in
              rw e (fields_cell rests (limit - (count + 1)) (drop at text) (front_is ∙ tab) ∙ rw (drop_more text at))

          pub filling_bad : Numbered text None (cell rests (drop (at + 1) text))
              → Filled text limit base into₀ None into (fields rests limit (drop from text))
          filling_bad c = stops (on ∙ rw (← c.is))

          pub filling_more : {field : Numeral} → Numbered text (Some field) (cell rests (drop (at + 1) text))
              → Filling text from rests limit base into₀ (set into (base + count) field.value) field.next (count + 1)
          filling_more {field} c =
              let l = less in
              let one : fields rests (limit - count) (drop at text)
              ≡ next (fields rests (limit - (count + 1)) (drop field.next text)) (λ values end. got (field.value ∷ values) end)
              = on ∙ rw (← c.is) in
              record {
                so_far =
                    f.so_far
                    ∙ ap (prepend (take count (drop base into))) one
                    ∙ prepend_one (take count (drop base into)) field.value (fields rests (limit - (count + 1)) (drop field.next text))
                    ∙ ap (λ (l : List ℕ). prepend l (fields rests (limit - (count + 1)) (drop field.next text)))
                    (stored_one into base count field.value filling_room.within);
                within = c.within;
                few = omega arith;
                long = length-set into (base + count) field.value ∙ f.long;
                before = take-set-le base into (base + count) field.value (omega arith) ∙ f.before;
                room = f.room;
              }
