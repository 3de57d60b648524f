-- The call's promise, from the lines that were read; it leaves one answer and one state of both buffers (`takes_unique`), and
-- where the input is not right both as they were (`takes_kept`); and what a caller reads off it, of buffers that are long
-- enough (`took_right`, `took_bad`, `took_short`). Assumes nothing.
use mathlib.Core.Path.{◌≡◌, refl, sym, ap, ◌∙◌}
use mathlib.Core.Bool.{Bool, true, false, ◌||◌, true≢false}
use mathlib.Core.Logic.{◌⊎◌, inl, inr}
use mathlib.Core.List.{List, ◌++◌}
use Prim.Native.Nat.{ℕ, zero, suc, ◌+◌, ◌*◌, ◌≤◌, ◌<◌}
use native.Mathlib.Nat.{zero-mul, suc-mul, one-mul, mul-le-mul}
use native.Mathlib.Omega.{arith}
use lib.Dec.{ltb}
use lib.ListN.{length, take, drop}
use lib.Seq.{take-add, length-take-le}
use borrow.Author.Tests.{le-ltb, lt-ltb, ltb-false}
use Rattle.std.specs.Prelude.{Result, Ok, Err}
use Rattle.theory.specs.Lists.{over, join}
use Rattle.asking.specs.Limits.{most_notes}
use Rattle.score.specs.Limits.{most_tracks, most_columns, most_cells}
use Rattle.score.specs.Score.{cut}
use Rattle.score.proofs.Columns.{cut_length, column_length}
use Rattle.ways.specs.declared.way.AnyWay.{AnyWay}
use Rattle.reading.specs.declared.request.Reading.{Reading}
use Rattle.reading.specs.declared.request.ReadError.{ReadError}
use Rattle.reading.specs.declared.request.ReadError.TheVariants.{Bad, Short}
use Rattle.reading.specs.Request.{Request, Meaning, right, faulty, meaning}
use Rattle.reading.specs.Taking.{Take, tracks_of, taken_as, taken, Takes}
use Rattle.reading.specs.Steps.{Held}

pub takes_unique : {input theme cells : List ℕ} {a b : Result Reading ReadError} {s t u v : List ℕ}
    → Takes input theme cells a s u → Takes input theme cells b t v → (a ≡ b) × (s ≡ t) × (u ≡ v)
takes_unique p q = (p.answers ∙ sym q.answers, p.notes ∙ sym q.notes, p.columns ∙ sym q.columns)

-- columns joined are the cells that they were cut from
join_cut : (n h : ℕ) (cells : List ℕ) → join (cut n h cells) ≡ take (n * h) cells
join_cut zero h cells = rw zero-mul
join_cut (suc n) h cells =
    let e : suc n * h ≡ h + n * h = omega (arith, suc-mul n h) in
    rw (e, join_cut n h (drop h cells)) (sym (take-add h (n * h) cells))

-- values that were copied to the front of a buffer stand over it
over_take : (n : ℕ) (from into : List ℕ) → n ≤ length from → {values : List ℕ} → values ≡ take n from
    → values ++ drop n into ≡ over into (take n from)
over_take n from into h e = rw (e, length-take-le n from h)

-- ---- what is answered

-- one buffer or the other is shorter than it must be
abbrev short : (theme cells : List ℕ) → Bool
short theme cells = ltb (length theme) most_notes || ltb (length cells) most_cells

short_some : (theme cells : List ℕ) → (length theme < most_notes) ⊎ ((most_notes ≤ length theme) × (length cells < most_cells))
    → short theme cells ≡ true
short_some theme cells (inl h) = rw (lt-ltb (length theme) most_notes h)
short_some theme cells (inr h) = rw (le-ltb (length theme) most_notes h.0, lt-ltb (length cells) most_cells h.1)

-- both are not
long_both : (theme cells : List ℕ) → most_notes ≤ length theme → most_cells ≤ length cells → short theme cells ≡ false
long_both theme cells h l = rw (le-ltb (length theme) most_notes h, le-ltb (length cells) most_cells l)

pub both_long : (theme cells : List ℕ) → short theme cells ≡ false → (most_notes ≤ length theme) × (most_cells ≤ length cells)
both_long theme cells = step (ltb (length theme) most_notes) (ltb (length cells) most_cells) refl refl
  where
    step : (s t : Bool) → ltb (length theme) most_notes ≡ s → ltb (length cells) most_cells ≡ t → (s || t) ≡ false
        → (most_notes ≤ length theme) × (most_cells ≤ length cells)
    step false false p q e = (ltb-false (length theme) most_notes p, ltb-false (length cells) most_cells q)
    step true t p q e = absurd (true≢false e)
    step false true p q e = absurd (true≢false e)

-- what was read is no more than there is room for
pub record Within (r : Reading) : Type 0 where
  pub notes_few : r.notes ≤ most_notes
  pub cells_few : r.columns * r.tracks ≤ most_cells

pub held_within : {input : List ℕ} {r : Reading} {notes cells : List ℕ} → Held input (Ok r) notes cells → Within r
held_within {r = r} w =
    let h = w.is in
    record {
      notes_few = h.notes_few;
      cells_few = mul-le-mul {n₁ = r.columns} {m₁ = r.tracks} {n₂ = most_columns} {m₂ = most_tracks} h.columns_few h.tracks_few;
    }

-- the promise by what an input means, of buffers that are long enough
pub record As (m : Meaning) (theme cells : List ℕ) (answer : Result Reading ReadError) (theme' cells' : List ℕ) : Type 0 where
  pub answers : answer ≡ (taken_as m theme cells).answer
  pub notes : theme' ≡ (taken_as m theme cells).theme
  pub columns : cells' ≡ (taken_as m theme cells).cells

module _ (input theme cells : List ℕ) where
  pub takes_short : (length theme < most_notes) ⊎ ((most_notes ≤ length theme) × (length cells < most_cells))
      → Takes input theme cells (Err Short) theme cells
  unfolding taken
  takes_short h = let e = short_some theme cells h in record { answers = rw e; notes = rw e; columns = rw e }

  module _ (e : short theme cells ≡ false) where
    taken_is : taken input theme cells ≡ taken_as (meaning input) theme cells
    unfolding taken
    taken_is = rw e

    takes_as : {m : Meaning} {answer : Result Reading ReadError} {theme' cells' : List ℕ} → meaning input ≡ m
        → As m theme cells answer theme' cells' → Takes input theme cells answer theme' cells'
    takes_as {m} p a =
        let is : taken input theme cells ≡ taken_as m theme cells = taken_is ∙ ap (λ (x : Meaning). taken_as x theme cells) p in
        record {
          answers = a.answers ∙ ap (λ (t : Take). t.answer) (sym is);
          notes = a.notes ∙ ap (λ (t : Take). t.theme) (sym is);
          columns = a.columns ∙ ap (λ (t : Take). t.cells) (sym is);
        }

    as_takes : {answer : Result Reading ReadError} {theme' cells' : List ℕ} → Takes input theme cells answer theme' cells'
        → As (meaning input) theme cells answer theme' cells'
    as_takes t =
        record {
          answers = t.answers ∙ ap (λ (t : Take). t.answer) taken_is;
          notes = t.notes ∙ ap (λ (t : Take). t.theme) taken_is;
          columns = t.columns ∙ ap (λ (t : Take). t.cells) taken_is;
        }

  module _ (long : most_notes ≤ length theme) (big : most_cells ≤ length cells) where
    -- a line is faulty
    pub takes_faulty : {notes₁ cells₁ : List ℕ} (e : ReadError) → Held input (Err e) notes₁ cells₁
        → Takes input theme cells (Err e) theme cells
    takes_faulty (Bad line) w = takes_as (long_both theme cells long big) w.is (record { answers = refl; notes = refl; columns = refl })
    takes_faulty Short w = absurd w.is

    -- the lines were read into buffers that are as long as they must be, and what was read was copied to the front of the lent
    -- ones
    pub takes_held : {r : Reading} {notes₁ cells₁ : List ℕ} → Held input (Ok r) notes₁ cells₁ → length notes₁ ≡ most_notes
        → length cells₁ ≡ most_cells
        → {ns cs : List ℕ} → ns ≡ take r.notes notes₁ → cs ≡ take (r.columns * r.tracks) cells₁
        → Takes input theme cells (Ok r) (ns ++ drop r.notes theme) (cs ++ drop (r.columns * r.tracks) cells)
    takes_held {r} {notes₁} {cells₁} w as-notes as-cells t s =
        let h = w.is in
        let fits = held_within w in
        let few : r.notes ≤ length notes₁ = omega (arith, as-notes, fits.notes_few) in
        let many : r.columns * r.tracks ≤ length cells₁ = omega (arith, as-cells, fits.cells_few) in
        let one : (0 + 1) * r.tracks ≤ length cells₁ = omega (arith, as-cells, h.tracks_few, one-mul r.tracks) in
        takes_as (long_both theme cells long big) h.is
        (record {
          answers = rw (length-take-le r.notes notes₁ few, cut_length r.columns r.tracks cells₁, column_length r.columns r.tracks cells₁ 0 h.columns_some one);
          notes = over_take r.notes notes₁ theme few t;
          columns = over_take (r.columns * r.tracks) cells₁ cells many s ∙ ap (over cells) (sym (join_cut r.columns r.tracks cells₁));
        })

-- ---- what is kept

-- only a right input is written
pub takes_kept : {input theme cells : List ℕ} {r : Result Reading ReadError} {theme' cells' : List ℕ}
    → Takes input theme cells r theme' cells'
    → ((reading : Reading) → r ≡ Ok reading → ⊥) → (theme' ≡ theme) × (cells' ≡ cells)
unfolding taken
takes_kept {input} {theme} {cells} {r} {theme'} {cells'} t other = by_room (short theme cells) refl
  where
    by_meaning : (m : Meaning) → As m theme cells r theme' cells' → (theme' ≡ theme) × (cells' ≡ cells)
    by_meaning (right q) a = absurd (other _ a.answers)
    by_meaning (faulty line) a = (a.notes, a.columns)

    by_room : (s : Bool) → short theme cells ≡ s → (theme' ≡ theme) × (cells' ≡ cells)
    by_room true e = (rw e at t.notes, rw e at t.columns)
    by_room false e = by_meaning (meaning input) (as_takes input theme cells e t)

-- ---- what a caller reads off

pub record Took (input theme cells : List ℕ) (way : AnyWay) (notes tracks columns : ℕ) (theme' cells' : List ℕ) : Type 0 where
  pub request : Request
  pub is : meaning input ≡ right request
  pub way_is : way ≡ request.theme.way
  pub notes_are : notes ≡ length request.theme.notes
  pub tracks_are : tracks ≡ tracks_of request.columns
  pub columns_are : columns ≡ length request.columns
  pub theme_is : theme' ≡ over theme request.theme.notes
  pub cells_are : cells' ≡ over cells (join request.columns)

module _ {input theme cells : List ℕ} {r : Result Reading ReadError} {theme' cells' : List ℕ} (t : Takes input theme cells r theme' cells') (few : most_notes ≤ length theme) (many : most_cells ≤ length cells) where
  pub read_as : As (meaning input) theme cells r theme' cells'
  read_as = as_takes input theme cells (long_both theme cells few many) t

  pub took_short : r ≡ Err Short → ⊥
  took_short e = step (meaning input) read_as
    where
      step : (m : Meaning) → As m theme cells r theme' cells' → ⊥
      step (right q) w = let d = w.answers in let z : ◌≡◌ {A = ℕ} 0 1 = cc in omega arith
      step (faulty n) w = let d = w.answers in let z : ◌≡◌ {A = ℕ} 0 1 = cc in omega arith

  pub took_bad : {line : ℕ} → r ≡ Err (Bad line) → meaning input ≡ faulty line
  took_bad {line} e = step (meaning input) read_as
    where
      step : (m : Meaning) → As m theme cells r theme' cells' → m ≡ faulty line
      step (right q) w = let d = w.answers in let z : ◌≡◌ {A = ℕ} 0 1 = cc in absurd (omega arith)
      step (faulty n) w = let d = w.answers in let z : n ≡ line = cc in ap faulty z

  pub bad_taken : {line : ℕ} → meaning input ≡ faulty line → r ≡ Err (Bad line)
  bad_taken e = read_as.answers ∙ ap (λ (m : Meaning). (taken_as m theme cells).answer) e

  pub took_right : {reading : Reading} → r ≡ Ok reading
      → Took input theme cells reading.way reading.notes reading.tracks reading.columns theme' cells'
  took_right {reading} e = step (meaning input) refl read_as
    where
      step : (m : Meaning) → meaning input ≡ m → As m theme cells r theme' cells'
          → Took input theme cells reading.way reading.notes reading.tracks reading.columns theme' cells'
      step (faulty n) p w = let d = w.answers in let z : ◌≡◌ {A = ℕ} 0 1 = cc in absurd (omega arith)
      step (right q) p w =
          let d = w.answers in
          record {
            request = q;
            is = p;
            way_is = cc;
            notes_are = cc;
            tracks_are = cc;
            columns_are = cc;
            theme_is = w.notes;
            cells_are = w.columns;
          }
