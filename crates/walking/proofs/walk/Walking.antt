-- What both walks keep: of the page over `whole`, all starts that a walk goes along, those before a spot are tried, and the
-- starts kept from there on are left. Which columns are kept is any choice. Laws: start; of a turn, in which some columns are
-- listed: asks (what trying them asks for), bound and on (they are tried); end, full. Then where each walk begins, and what each
-- lists. Assumes nothing.
use mathlib.Core.Path.{◌≡◌, sym, ap, ◌∙◌, subst}
use mathlib.Core.Bool.{Bool, true, false, cond}
use mathlib.Core.List.{List, ◌∷◌, ◌++◌}
use Prim.Native.Nat.{ℕ, zero, suc, ◌+◌, ◌-◌, ◌*◌, ◌^◌, ◌≤◌, ◌<◌, zero-le}
use native.Mathlib.Nat.{le_refl}
use Rattle.std.proofs.Common.{min}
use Rattle.std.proofs.Math.Nat.{min-le_left, min-le_right, le-min}
use Rattle.std.proofs.lemmas.List.{length-take-le}
use native.Mathlib.Omega.{arith}
use lib.IntN.{ℤ}
use lib.ListN.{length, get_or, take, drop}
use lib.Seq.{take-append_seam}
use borrow.Author.Tests.{ne_eqb}
use Rattle.theory.specs.Lists.{count, over}
use Rattle.theory.specs.Pages.{hits, page_looks, from}
use Rattle.theory.proofs.Lists.{over_length}
use Rattle.theory.proofs.Looks.{page_looks_le, sum_hits, sum_from}
use Rattle.score.specs.Score.{columns_in, score_of}
use Rattle.score.proofs.Columns.{column_le, score_length}
use Rattle.ways.specs.declared.way.Way.{Way}
use Rattle.ways.specs.declared.way.AnyWay.TheVariants.{Moved}
use Rattle.ways.specs.declared.bookmark.Bookmark.{Bookmark}
use Rattle.ways.specs.Way.{span, code_of}
use Rattle.ways.specs.Codes.{code_given}
use Rattle.ways.specs.Bookmarks.{key_of}
use Rattle.ways.proofs.Shifts.{code_le}
use Rattle.ways.proofs.Coding.{code_given_lem}
use Rattle.asking.specs.Asking.{PlainAsks}
use Rattle.walking.specs.declared.walked.Spot.{Spot}
use Rattle.walking.specs.Starts.{Place, key, starts, hit, looks}
use Rattle.filter.specs.Limits.{word_bits}
use Rattle.walking.specs.Candidates.{candidate, quick_starts}
use Rattle.walking.specs.Scan.{ListsCandidates}
use Rattle.walking.specs.Walk.{Ready, end_of, listed, begun, gone_on, list_starts, Tries, Along, Walks}
use Rattle.walking.proofs.Answers.{accepted_ready}
use Rattle.walking.proofs.Order.{starts_rising}
use Rattle.walking.proofs.LookBound.{most_lt, sum_looks_le}
use Rattle.walking.proofs.walk.Along.{from_hits, hits_all, kept_from, kept_list, kept_end}
use Rattle.walking.proofs.Taking.{Taking, take_start, take_few, take_part, take_end, take_full, tries_walks}

-- the columns listed are among those counted
hits_within : (keep : ℕ → Bool) (a n i : ℕ) → i < length (hits keep (count a n)) → (a ≤ get_or (hits keep (count a n)) i 0)
    × (get_or (hits keep (count a n)) i 0 < a + n)
hits_within keep a zero i h = absurd (omega arith)
hits_within keep a (suc n) i h = step (keep a) i h (hits_within keep (suc a) n)
  where
    step : (b : Bool) (k : ℕ) → k < length (cond b (a ∷ hits keep (count (suc a) n)) (hits keep (count (suc a) n)))
        → ((j : ℕ) → j < length (hits keep (count (suc a) n)) → (suc a ≤ get_or (hits keep (count (suc a) n)) j 0)
        × (get_or (hits keep (count (suc a) n)) j 0 < suc a + n))
        → (a ≤ get_or (cond b (a ∷ hits keep (count (suc a) n)) (hits keep (count (suc a) n))) k 0)
        × (get_or (cond b (a ∷ hits keep (count (suc a) n)) (hits keep (count (suc a) n))) k 0 < a + suc n)
    step true zero q ih = (le_refl a, omega arith)
    step true (suc k) q ih = let r = ih k (omega arith) in (omega (arith, r.0), omega (arith, r.1))
    step false k q ih = let r = ih k q in (omega (arith, r.0), omega (arith, r.1))

-- the walk along the starts `whole`, of the columns that are kept, stands at a spot and has spent so many looks
pub record Walking (keep : ℕ → Bool) (way : Way) (cells : List ℕ) (h : ℕ) (theme : List ℕ) (whole : List Place) (columns₀ : List ℕ) (shifts₀ : List ℤ)
    (columns : List ℕ) (shifts : List ℤ) (spot : Spot) (spent : ℕ) : Type 0 where
  pub ready : Ready cells h theme
  pub taking : Taking way (score_of cells h) theme whole 0 columns₀ shifts₀ columns shifts
      (kept_from way (score_of cells h) theme keep spot.column.0 spot.code) spot.found spent
  pub few : page_looks (hit way (score_of cells h) theme) (looks way (score_of cells h) theme) (length columns₀ - 0) whole < 2 ^ 32
  pub same_room : length shifts₀ ≡ length columns₀
  pub first : 1 ≤ spot.column.0
  pub low : spot.code ≤ span way

-- in a turn of it the columns that are kept, from the spot's column up to column j, without that one, are listed
pub record Turn (keep : ℕ → Bool) (way : Way) (cells : List ℕ) (h : ℕ) (theme : List ℕ) (whole : List Place) (columns₀ : List ℕ) (shifts₀ : List ℤ)
    (columns : List ℕ) (shifts : List ℤ) (spot : Spot) (spent j : ℕ) (list : List ℕ) : Type 0 where
  pub walking : Walking keep way cells h theme whole columns₀ shifts₀ columns shifts spot spent
  pub more : spot.column.0 < j
  pub to_end : j ≤ end_of cells h theme
  pub listed : list ≡ hits keep (count spot.column.0 (j - spot.column.0))

-- all looks of a walk are few
total : (keep : ℕ → Bool) (way : Way) (cells : List ℕ) (h : ℕ) (theme : List ℕ) (whole : List Place) (b k : ℕ) → Ready cells h theme
    → whole ≡ hits (λ s. keep s.column) (from key b (starts way (score_of cells h) theme))
    → page_looks (hit way (score_of cells h) theme) (looks way (score_of cells h) theme) k whole < 2 ^ 32
total keep way cells h theme whole b k r e =
    let score : List (List ℕ) = score_of cells h in
    let left : List Place = from key b (starts way score theme) in
    rw e
    (omega (
      arith,
      page_looks_le (hit way score theme) (looks way score theme) k (hits (λ s. keep s.column) left),
      sum_hits (looks way score theme) (λ s. keep s.column) left,
      sum_from (looks way score theme) key b (starts way score theme),
      sum_looks_le way score theme h (column_le (columns_in cells h) h cells),
      most_lt (length score) h (length theme) (omega (arith, score_length cells h, r.columns_most)) r.tracks_most r.notes r.notes_most,
    ))

module _ {keep : ℕ → Bool} {way : Way} {cells : List ℕ} {h : ℕ} {theme : List ℕ} {whole : List Place} {columns₀ : List ℕ} {shifts₀ : List ℤ} where
  pub walk_start : Ready cells h theme → (spot : Spot) → 1 ≤ spot.column.0 → spot.code ≤ span way → spot.found ≡ 0
      → length shifts₀ ≡ length columns₀
      → whole ≡ hits (λ s. keep s.column) (from key (spot.column.0 * 256 + spot.code) (starts way (score_of cells h) theme))
      → Walking keep way cells h theme whole columns₀ shifts₀ columns₀ shifts₀ spot 0
  walk_start r spot first low none same all =
      record {
        ready = r;
        taking = rw (← all, none) (take_start way (score_of cells h) theme whole 0 columns₀ shifts₀ zero-le same);
        few = total keep way cells h theme whole (spot.column.0 * 256 + spot.code) (length columns₀ - 0) r all;
        same_room = same;
        first = first;
        low = low;
      }

  module _ {columns : List ℕ} {shifts : List ℤ} {spot : Spot} {spent : ℕ} where
    -- no column is left, or no room
    pub walk_end : Walking keep way cells h theme whole columns₀ shifts₀ columns shifts spot spent
        → {left : ℕ} → left ≡ end_of cells h theme - spot.column.0 → left ≤ 0
        → Walks way (score_of cells h) theme whole columns₀ shifts₀ spot.found spent columns shifts
    walk_end t {left} e none =
        tries_walks _ _ _ _ _ _ _ _ _ _ t.same_room
        (take_end _ _ _ _ _ _ _ _ _ _ _ _ t.taking
        (kept_end way (score_of cells h) theme keep spot.column.0 spot.code t.first (omega (arith, t.ready.notes))
        (omega (arith, none, e, score_length cells h, t.ready.notes))))

    pub walk_full : Walking keep way cells h theme whole columns₀ shifts₀ columns shifts spot spent → length columns ≤ spot.found
        → Walks way (score_of cells h) theme whole columns₀ shifts₀ spot.found spent columns shifts
    walk_full t full = tries_walks _ _ _ _ _ _ _ _ _ _ t.same_room (take_full _ _ _ _ _ _ _ _ _ _ _ _ t.taking full)

    -- the listed columns are tried
    module _ {j : ℕ} {list : List ℕ} (u : Turn keep way cells h theme whole columns₀ shifts₀ columns shifts spot spent j list) where
      abbrev t : Walking keep way cells h theme whole columns₀ shifts₀ columns shifts spot spent
      t = u.walking

      abbrev k : ℕ
      k = spot.column.0

      abbrev here : List Place
      here = list_starts way (score_of cells h) theme k spot.code list

      -- the starts that are left: those of the listed columns, and then those behind
      split : Taking way (score_of cells h) theme whole 0 columns₀ shifts₀ columns shifts
          (here ++ kept_from way (score_of cells h) theme keep j 0) spot.found spent
      split =
          let e : k + (j - k) ≡ j = omega (arith, u.more) in
          let p : kept_from way (score_of cells h) theme keep k spot.code ≡ here ++ kept_from way (score_of cells h) theme keep j 0 =
          kept_list way (score_of cells h) theme keep (j - k) k spot.code t.first (omega (arith, t.ready.notes)) t.low
          (omega (arith, score_length cells h, u.more, u.to_end, t.ready.notes))
          ∙ rw (ne_eqb (j - k) 0 (λ z. omega (arith, u.more)), u.listed, e) in
          rw p at t.taking

      few_here : spent + page_looks (hit way (score_of cells h) theme) (looks way (score_of cells h) theme) (length columns - spot.found) here < 2 ^ 32
      few_here =
          omega (
            arith,
            t.few,
            take_few _ _ _ _ _ _ _ _ _ _ _ here (kept_from way (score_of cells h) theme keep j 0) split,
          )

      pub turn_asks : Along way cells h theme spot list columns shifts
      turn_asks =
          record {
            fits = λ i q.
                let l = u.listed in
                let w : (k ≤ get_or list i 0) × (get_or list i 0 < k + (j - k)) = rw l (hits_within keep k (j - k) i (rw l at q)) in
                record { from_first = omega (arith, w.0, t.first); to_last = omega (arith, w.1, u.more, u.to_end, t.ready.notes) };
            low = t.low;
            room = omega (arith, t.taking.room, t.taking.long);
            same_room = t.taking.long_shifts ∙ sym t.taking.long;
            few = omega (arith, few_here);
          }

      module _ {found' costs : ℕ} {columns' : List ℕ} {shifts' : List ℤ}
          (tries : Tries way (score_of cells h) theme here spot.found columns shifts found' costs columns' shifts') where
        pub turn_bound : spent + costs < 2 ^ 32
        turn_bound = omega (arith, few_here, tries.costs)

        pub turn_on : {next : Spot} → next ≡ gone_on j found'
            → Walking keep way cells h theme whole columns₀ shifts₀ columns' shifts' next (spent + costs)
        turn_on e =
            subst (λ (s : Spot). Walking keep way cells h theme whole columns₀ shifts₀ columns' shifts' s (spent + costs)) (sym e)
            record {
              ready = t.ready;
              taking = take_part _ _ _ _ _ _ _ _ _ _ _ here (kept_from way (score_of cells h) theme keep j 0) split _ _ _ _ tries;
              few = t.few;
              same_room = t.same_room;
              first = omega (arith, t.first, u.more);
              low = zero-le;
            }

-- ---- where each walk begins, and that its starts are those from the bookmark on

abbrev pub spot_key : Spot → ℕ
spot_key spot = spot.column.0 * 256 + spot.code

module _ {cells : List ℕ} {h : ℕ} {theme : List ℕ} {way : Way} {b : Bookmark} {columns : List ℕ} {shifts : List ℤ}
    (a : PlainAsks cells h theme (Moved way) b columns shifts) {spot : Spot} (e : spot ≡ begun way b) where
  code_is : code_given way b.shift ≡ code_of way b.shift
  code_is = code_given_lem way b.shift a.marked.not_below a.marked.not_above

  pub begun_key : spot_key spot ≡ key_of way b
  begun_key = rw (e, code_is)

  pub begun_first : 1 ≤ spot.column.0
  begun_first = rw e a.marked.from_first

  low : spot.code ≤ span way
  low = rw (e, code_is) (code_le way b.shift a.marked.not_below a.marked.not_above)

  pub every_start : Walking (λ k. true) way cells h theme (from key (spot_key spot) (starts way (score_of cells h) theme)) columns shifts columns shifts spot 0
  every_start =
      walk_start (accepted_ready a.accepted) spot begun_first low (ap (λ (s : Spot). s.found) e) a.same_room
      (sym (hits_all (from key (spot_key spot) (starts way (score_of cells h) theme))))

  pub quick_start : (table sets : List ℕ)
      → Walking (candidate word_bits table sets (length theme)) way cells h theme
      (from key (spot_key spot) (quick_starts word_bits way (score_of cells h) theme table sets)) columns shifts columns shifts spot 0
  unfolding quick_starts
  quick_start table sets =
      walk_start (accepted_ready a.accepted) spot begun_first low (ap (λ (s : Spot). s.found) e) a.same_room
      (from_hits key (λ s. candidate word_bits table sets (length theme) s.column) 256 (spot_key spot)
      (starts way (score_of cells h) theme) (starts_rising way (score_of cells h) theme))

-- ---- what is listed in front: the columns that are kept

listed_front : (list₀ vs list : List ℕ) (k : ℕ) → list ≡ over list₀ vs → k ≡ length vs → take k list ≡ vs
listed_front list₀ vs list k e n = rw (n, e) (take-append_seam vs (drop (length vs) list₀))

-- as many columns as are left, or as a list has places
pub some_of : {many left : ℕ} → many ≡ min left listed → 0 < left → (1 ≤ many) × (many ≤ left) × (many ≤ listed)
some_of {left = left} e h = rw e (le-min h (omega arith), min-le_left left listed, min-le_right left listed)

pub many_of : (j many : ℕ) (list : List ℕ) {list' : List ℕ} → many ≤ length list → list' ≡ count j (length (take many list)) → list' ≡ count j many
many_of j many list h e = e ∙ ap (count j) (length-take-le many list h)

module _ {j many : ℕ} {list : List ℕ} (l : list ≡ count j many) where
  pub every_turn : {way : Way} {cells : List ℕ} {h : ℕ} {theme : List ℕ} {whole : List Place} {columns₀ : List ℕ} {shifts₀ : List ℤ}
      {columns : List ℕ} {shifts : List ℤ} {spot : Spot} {spent : ℕ}
      → Walking (λ k. true) way cells h theme whole columns₀ shifts₀ columns shifts spot spent → j ≡ spot.column.0 → 1 ≤ many
      → many ≤ end_of cells h theme - j
      → Turn (λ k. true) way cells h theme whole columns₀ shifts₀ columns shifts spot spent (j + many) list
  every_turn t e some q =
      let z : j + many - j ≡ many = omega arith in
      record {
        walking = t;
        more = omega (arith, e);
        to_end = omega (arith, q, some);
        listed = rw (← e, z) (l ∙ sym (hits_all (count j many)));
      }

module _ {table sets : List ℕ} {m j end : ℕ} {list₀ : List ℕ} {register j' k : ℕ} {list : List ℕ}
    (l : ListsCandidates table sets m j end list₀ register j' k list) where
  pub candidates_long : length list ≡ length list₀
  candidates_long = ap length l.listed ∙ over_length list₀ l.candidates (omega (arith, l.counted, l.few))

  pub candidates_turn : {way : Way} {cells : List ℕ} {h : ℕ} {theme : List ℕ} {whole : List Place} {columns₀ : List ℕ} {shifts₀ : List ℤ}
      {columns : List ℕ} {shifts : List ℤ} {spot : Spot} {spent : ℕ}
      → Walking (candidate word_bits table sets m) way cells h theme whole columns₀ shifts₀ columns shifts spot spent → j ≡ spot.column.0
      → end ≤ end_of cells h theme
      → Turn (candidate word_bits table sets m) way cells h theme whole columns₀ shifts₀ columns shifts spot spent j' (take k list)
  candidates_turn t e f =
      record {
        walking = t;
        more = omega (arith, l.more, e);
        to_end = omega (arith, l.decides.to_end, f);
        listed = rw (← e) (listed_front list₀ l.candidates list k l.listed l.counted ∙ l.decides.these);
      }
