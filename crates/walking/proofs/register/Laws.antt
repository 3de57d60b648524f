-- The register that is run along the sets makes the candidates, whatever column it began anew at: from there on its bit
-- m - 2 is that of the register that took every entry. One entry more is `reg_from_more` of theory. Then columns that are decided one
-- after another: no column, one, and those behind; and what the loop keeps that lists candidates. Assumes nothing.
use mathlib.Core.Path.{◌≡◌, refl, sym, ap, ◌∙◌}
use mathlib.Core.Bool.{Bool, true, false, cond}
use mathlib.Core.List.{List, [], ◌∷◌, ◌++◌, append-nil}
use Prim.Native.Nat.{ℕ, ◌+◌, ◌-◌, ◌%◌, ◌≤◌, ◌<◌}
use native.Mathlib.Nat.{mod-eq_of_lt}
use native.Mathlib.Omega.{arith}
use lib.Dec.{eqb}
use lib.ListN.{length, set, length-append}
use Rattle.theory.specs.Lists.{count, over}
use Rattle.theory.specs.Bits.{bit}
use Rattle.theory.specs.Register.{step, reg_from}
use Rattle.theory.proofs.Lists.{count_length, count_append, over_more, over_length}
use Rattle.theory.proofs.Pages.{hits_le, hits_append}
use Rattle.theory.proofs.Register.{reg_from_register, reg_from_turn}
use Rattle.filter.specs.Limits.{word_bits}
use Rattle.walking.specs.Candidates.{candidate}
use Rattle.walking.specs.Scan.{entry_word, Runs, Filters, Lent, Decides, Seeks, ListsCandidates}

pub reg_from_candidate : (table sets : List ℕ) (m j₀ j : ℕ) → 2 ≤ m → m ≤ 32 → 1 ≤ j₀ → j₀ ≤ j
    → eqb (bit (reg_from 32 (entry_word table sets) (j₀ - 1) (j + m - 2)) (m - 2)) 0 ≡ candidate word_bits table sets m j
unfolding candidate
reg_from_candidate table sets m j₀ j low high first on =
    ap (λ (b : ℕ). eqb b 0) (reg_from_register 32 (entry_word table sets) (j₀ - 1) (m - 2) (j + m - 2) (omega arith) (omega arith))

-- the register that is warmed up before column j decides that column next
pub warmed_filters : (table sets : List ℕ) (m j register : ℕ) → 2 ≤ m → 1 ≤ j → register ≡ reg_from 32 (entry_word table sets) (j - 1)
    (j - 1 + (m - 2)) → Filters table sets m register j
warmed_filters table sets m j register notes first e =
    let k : j - 1 + (m - 2) ≡ j + m - 3 = omega arith in
    record { start = j - 1; before = omega arith; runs = record { begun = omega arith; taken = rw k at e } }

-- what is asked for at a column is asked for at a later one before the end
pub lent_on : {sets : List ℕ} {m j end : ℕ} → Lent sets m j end → {k : ℕ} → j ≤ k → k < end → Lent sets m k end
lent_on l q r =
    record {
      notes = l.notes;
      notes_most = l.notes_most;
      from_first = omega (arith, l.from_first);
      some = r;
      to_last = l.to_last;
      sets_few = l.sets_few;
    }

-- ---- columns are decided, one after another

-- no column
pub decide_start : {table sets : List ℕ} {m j end register : ℕ} → j ≤ end → Filters table sets m register j → Decides table sets m j end register j []
decide_start {j = j} q f = let z : j - j ≡ 0 = omega arith in record { on = omega arith; to_end = q; these = rw z; goes_on = f }

-- the columns up to column k, and then those behind
pub decide_append : {table sets : List ℕ} {m j end register k : ℕ} {cs : List ℕ} {register' k' : ℕ} {ds : List ℕ}
    → Decides table sets m j end register k cs → Decides table sets m k end register' k' ds → Decides table sets m j end register' k' (cs ++ ds)
decide_append {table} {sets} {m} {j} {k = k} {k' = k'} p q =
    let keep : ℕ → Bool = candidate word_bits table sets m in
    let e : k' - j ≡ (k - j) + (k' - k) = omega (arith, p.on, q.on) in
    let f : j + (k - j) ≡ k = omega (arith, p.on) in
    record {
      on = omega (arith, p.on, q.on);
      to_end = q.to_end;
      these =
          rw (p.these, q.these, e, count_append j (k - j) (k' - k), hits_append keep (count j (k - j)) (count (j + (k - j)) (k' - k)), f);
      goes_on = q.goes_on;
    }

-- one column: the register takes its entry, and its bit m - 2 says whether it is a candidate
module _ {table sets : List ℕ} {m j end : ℕ} (lent : Lent sets m j end) {register k : ℕ} (f : Filters table sets m register k) (here : k < end)
    {register' : ℕ} (e : register' ≡ step word_bits register (entry_word table sets (k + m - 3)))
    {marked : Bool} (d : marked ≡ eqb (bit register' ((m - 2) % word_bits)) 0) where
  taken : Runs table sets f.start register' (k + m - 3 + 1)
  taken =
      let r = f.runs in
      record { begun = omega (arith, r.begun); taken = reg_from_turn 32 (entry_word table sets) f.start (k + m - 3) r.begun r.taken e }

  is_candidate : marked ≡ candidate word_bits table sets m k
  is_candidate =
      let s = f.start in
      let z : s + 1 - 1 ≡ s = omega arith in
      let y : k + m - 3 + 1 ≡ k + m - 2 = omega (arith, lent.notes, f.before) in
      let c : eqb (bit (reg_from 32 (entry_word table sets) s (k + m - 2)) (m - 2)) 0 ≡ candidate word_bits table sets m k =
      rw z at (reg_from_candidate table sets m (s + 1) k lent.notes lent.notes_most (omega arith) (omega (arith, f.before))) in
      let w : register' ≡ reg_from 32 (entry_word table sets) s (k + m - 2) = rw y at taken.taken in
      d ∙ ap (λ (q : ℕ). eqb (bit register' q) 0) (mod-eq_of_lt (omega (arith, lent.notes_most))) ∙ rw w c

  pub decide_one : Decides table sets m k end register' (k + 1) (cond marked (k ∷ []) [])
  decide_one =
      let z : k + 1 - k ≡ 1 = omega arith in
      let y : k + m - 3 + 1 ≡ k + 1 + m - 3 = omega (arith, lent.notes, f.before) in
      record {
        on = omega arith;
        to_end = omega (arith, here);
        these = rw (z, is_candidate);
        goes_on = record { start = f.start; before = omega (arith, f.before); runs = rw y at taken };
      }

-- ---- a candidate is sought from column j on, and none stands before column k

module _ {table sets : List ℕ} {m j end : ℕ} (lent : Lent sets m j end) {register k : ℕ} (t : Decides table sets m j end register k []) where
  -- the end is reached
  pub seek_end : end ≤ k → Seeks table sets m j end register k false
  seek_end q = record { decides = t; more = omega (arith, lent.some) }

  module _ (here : k < end) {register' : ℕ} (e : register' ≡ step word_bits register (entry_word table sets (k + m - 3)))
      {marked : Bool} (d : marked ≡ eqb (bit register' ((m - 2) % word_bits)) 0) where
    -- column k is a candidate, or none
    pub seek_found : marked ≡ true → {k' : ℕ} → k' ≡ k + 1 → Seeks table sets m j end register' k' true
    seek_found b n =
        let z : k + 1 - 1 ≡ k = omega arith in
        record {
          decides = rw (n, z) (rw b at (decide_append t (decide_one lent t.goes_on here e d)));
          more = omega (arith, t.on, n);
        }

    pub seek_on : marked ≡ false → {k' : ℕ} → k' ≡ k + 1 → Decides table sets m j end register' k' []
    seek_on b n = rw n (rw b at (decide_append t (decide_one lent t.goes_on here e d)))

-- ---- candidates are listed: those from column j up to column k

pub record Listing (table sets : List ℕ) (m j end : ℕ) (list₀ list : List ℕ) (register k at : ℕ) : Type 0 where
  pub candidates : List ℕ
  pub decides : Decides table sets m j end register k candidates
  pub counted : at ≡ length candidates
  pub listed : list ≡ over list₀ candidates

module _ {table sets : List ℕ} {m j end : ℕ} {list₀ : List ℕ} where
  pub list_start : {register k : ℕ} → k ≡ j → j ≤ end → Filters table sets m register j → Listing table sets m j end list₀ list₀ register k 0
  list_start e q f = rw e record { candidates = []; decides = decide_start q f; counted = refl; listed = refl }

  module _ {list : List ℕ} {register k at : ℕ} (t : Listing table sets m j end list₀ list register k at) where
    -- no more are listed than were decided
    pub list_at : at ≤ k - j
    list_at =
        let keep : ℕ → Bool = candidate word_bits table sets m in
        omega (arith, t.counted, ap length t.decides.these, hits_le keep (count j (k - j)), count_length j (k - j))

    pub list_long : at ≤ length list₀ → length list ≡ length list₀
    list_long h = ap length t.listed ∙ over_length list₀ t.candidates (omega (arith, t.counted))

    pub list_turn : {register' k' : ℕ} {marked : Bool} → Seeks table sets m k end register' k' marked → at < length list₀
        → {list' : List ℕ} {at' : ℕ} → at' ≡ cond marked (at + 1) at → list' ≡ cond marked (set list at (k' - 1)) list
        → Listing table sets m j end list₀ list' register' k' at'
    list_turn {register'} {k'} {marked} s h {list'} {at'} a l = pick marked (decide_append t.decides s.decides) a l
      where
        pick : (b : Bool) → Decides table sets m j end register' k' (t.candidates ++ cond b ((k' - 1) ∷ []) []) → at' ≡ cond b (at + 1) at
            → list' ≡ cond b (set list at (k' - 1)) list → Listing table sets m j end list₀ list' register' k' at'
        pick true d a l =
            record {
              candidates = t.candidates ++ ((k' - 1) ∷ []);
              decides = d;
              counted = omega (arith, a, t.counted, length-append t.candidates ((k' - 1) ∷ []));
              listed = l ∙ rw t.listed (over_more list₀ t.candidates 0 at (k' - 1) (sym t.counted) h);
            }
        pick false d a l =
            record { candidates = t.candidates; decides = rw append-nil at d; counted = a ∙ t.counted; listed = l ∙ t.listed }

    -- some column is decided: the end is reached, or as many are listed as are wanted
    pub list_end : j < k → at ≤ length list₀ → ListsCandidates table sets m j end list₀ register k at list
    list_end some few =
        record {
          candidates = t.candidates;
          decides = t.decides;
          more = some;
          counted = t.counted;
          few = few;
          listed = t.listed;
        }
