-- One page of any right search: what a call answers and what is read off its buffers, whatever they held; and the bookmark that it returns,
-- which is in range and stands for what is left. The idea: one number orders the pairs, and what stands at or after a bookmark is what
-- stands from that number on. Assumes nothing.
use mathlib.Core.Path.{◌≡◌, refl, sym, ap, ◌∙◌, subst}
use mathlib.Core.Bool.{Bool, true, cond, not}
use mathlib.Core.List.Memᴰ.{head as here}
use mathlib.Core.List.Memᴰ.{tail as later}
use mathlib.Core.List.{List, [], ◌∷◌, map, Memᴰ as In}
use Prim.Native.Nat.{ℕ, suc, ◌≤◌, ◌<◌, zero-le}
use native.Mathlib.Nat.{not-suc-le-zero}
use native.Mathlib.Omega.{arith}
use lib.Dec.{leb}
use lib.ListN.{length, length-map}
use Rattle.theory.specs.Lists.{last}
use Rattle.theory.specs.Pages.{page_hits, rest, full, Rising, from}
use Rattle.theory.proofs.Either.{either}
use Rattle.theory.proofs.Pages.{page_full}
use Rattle.theory.proofs.Bookmarks.{from_next}
use Rattle.theory.proofs.Members.{in_hits, in_page, last_in}
use Rattle.theory.proofs.Hits.{from_keys, hits_all, hits_same, last_map}
use Rattle.score.specs.Score.{column_at}
use Rattle.ways.specs.declared.way.Way.TheVariants.{Exact}
use Rattle.ways.specs.declared.bookmark.Pair.{Pair}
use Rattle.ways.specs.declared.bookmark.Bookmark.{Bookmark}
use Rattle.ways.specs.Bookmarks.{first_bookmark, after_pair, finished_bookmark, key_of}
use Rattle.asking.specs.Asking.{InRange}
use Rattle.paging.specs.declared.page.Turn.{Turn}
use Rattle.paging.specs.Lent.{Lent, Room, written, read_pairs}
use Rattle.paging.specs.Order.{Ordered, more, Within, at_or_after}
use Rattle.paging.specs.Search.{Search, Right, left, found, spent}
use Rattle.paging.specs.Page.{Leaf, last_pair, turn, leaf}
use Rattle.paging.specs.Reading.{Turns}
use Rattle.paging.proofs.Keys.{Near, pair_key, pair_order, before_key}
use Rattle.paging.proofs.Bookmarks.{within_near, mark_below, mark_above, after_key, after_range, finished_range, after_first}
use Rattle.paging.proofs.Buffers.{read_back}
use Rattle.std.specs.Prelude.{Result, Ok, Err}
use Rattle.score.specs.declared.refusals.Refusal.{Refusal}

-- ---- a page that was turned tells its turn

abbrev turn_of : Turn → Result Turn Refusal → Turn
turn_of d (Ok t) = t
turn_of d (Err r) = d

pub turned_same : {t u : Turn} → ◌≡◌ {A = Result Turn Refusal} (Ok t) (Ok u) → t ≡ u
turned_same {t} e = ap (turn_of t) e

-- ---- along starts that show pairs in order their numbers rise

module _ {Start : Type 0} (shown : Start → Pair) where
  rising_on : (b : ℕ) (x : Start) (xs : List Start) → Ordered (map shown (x ∷ xs)) → ((s : Start) → In s (x ∷ xs) → Near (shown s)) → b ≤ pair_key (shown x)
      → Rising (λ s. pair_key (shown s)) b (x ∷ xs)
  rising_on b x [] o near h = (h, tt)
  rising_on b x (y ∷ xs) (more p o) near h =
      (h, rising_on (suc (pair_key (shown x))) y xs o (λ s m. near s (later m)) (before_key (shown x) (shown y) (near x (here refl)) (near y (later (here refl))) p))

  ordered_rising : (xs : List Start) → Ordered (map shown xs) → ((s : Start) → In s xs → Near (shown s)) → Rising (λ s. pair_key (shown s)) 0 xs
  ordered_rising [] o near = tt
  ordered_rising (x ∷ xs) o near = rising_on 0 x xs o near zero-le

  -- the last pair shown is what the last start shows
  pub last_shown : (d : Start) (xs : List Start) → 0 < length xs → last_pair (map shown xs) ≡ shown (last d xs)
  last_shown d [] h = absurd (not-suc-le-zero h)
  last_shown d (x ∷ xs) h = last_map shown x xs

-- ---- what stands at or after a bookmark

module _ {Start : Type 0} (S : Search Start) (right : Right S) where
  abbrev inside : Bookmark → Type 0
  inside b = InRange S.range S.columns b

  abbrev key : Start → ℕ
  key s = pair_key (S.shown s)

  near : (s : Start) → In s S.starts → Near (S.shown s)
  near s m = within_near right.narrow (right.each s m)

  starts_rise : Rising key 0 S.starts
  starts_rise = ordered_rising S.shown S.starts right.ordered near

  left_from : (b : Bookmark) → inside b → left S b ≡ from key (key_of Exact b) S.starts
  left_from b i =
      hits_same (λ (s : Start). at_or_after b (S.shown s)) (λ (s : Start). leb (key_of Exact b) (key s)) S.starts
      (λ s m. sym (pair_order b (mark_below right.narrow i) (mark_above right.narrow i) (S.shown s) (near s m)))
      ∙ sym (from_keys key (key_of Exact b) 0 S.starts starts_rise)

  -- from the first bookmark on all starts are left
  pub left_first : left S (first_bookmark S.range) ≡ S.starts
  left_first = hits_all (λ s. at_or_after (first_bookmark S.range) (S.shown s)) S.starts (λ s m. after_first (right.each s m))

-- ---- a page with room r

module _ {Start : Type 0} (S : Search Start) (right : Right S) (r : ℕ) (room : 1 ≤ r) where
  -- the starts that it shows, and what is answered
  abbrev places : Bookmark → List Start
  places b = page_hits S.hit r (left S b)

  abbrev pub is_full : Bookmark → Bool
  is_full b = full S.hit r (left S b)

  abbrev pub answer : Bookmark → Turn
  answer b = turn S.range S.columns r (found S r b) (spent S r b)

  -- it is full exactly where the answer says so
  pub full_is : (b : Bookmark) → leb r (length (found S r b)) ≡ is_full b
  full_is b = ap (leb r) (length-map (places b) S.shown)

  pub finished_is : (b : Bookmark) → (answer b).finished ≡ not (is_full b)
  finished_is b = ap not (full_is b)

  -- of a full page: the last start
  module _ (b : Bookmark) (f : is_full b ≡ true) where
    some_places : 0 < length (places b)
    some_places = omega (arith, page_full S.hit r (left S b) f)

    pub last_within : Within S.range S.columns (last_pair (found S r b))
    last_within = go (places b) refl some_places
      where
        go : (xs : List Start) → places b ≡ xs → 0 < length xs → Within S.range S.columns (last_pair (map S.shown xs))
        go [] e h = absurd (not-suc-le-zero h)
        go (x ∷ xs) e h =
            let m : In (last x (x ∷ xs)) (places b) = subst (In (last x (x ∷ xs))) (sym e) (last_in x (x ∷ xs) h) in
            rw (last_shown S.shown x (x ∷ xs) h)
            (right.each (last x (x ∷ xs)) (in_hits (λ s. at_or_after b (S.shown s)) S.starts (in_page S.hit r (left S b) m)).0)

    pub next_is : (answer b).next ≡ after_pair (last_pair (found S r b))
    next_is = ap (λ (t : Bool). cond t (after_pair (last_pair (found S r b))) (finished_bookmark S.range (column_at S.columns))) (full_is b ∙ f)

    pub next_after : inside S right (answer b).next
    next_after = rw next_is (after_range right.narrow last_within)

    -- what is left after it stands at or after the bookmark that it returns
    pub next_left : inside S right b → left S (answer b).next ≡ rest S.hit r (left S b)
    next_left i =
        left_from S right (answer b).next next_after
        ∙ ap (λ (c : Bookmark). from (key S right) (key_of Exact c) S.starts) next_is
        ∙ ap (λ (k : ℕ). from (key S right) k S.starts) (after_key (within_near right.narrow last_within))
        ∙ go (left S b) (left_from S right b i) f some_places
      where
        go : (l : List Start) → l ≡ from (key S right) (key_of Exact b) S.starts → full S.hit r l ≡ true → 0 < length (page_hits S.hit r l)
            → from (key S right) (suc (pair_key (last_pair (map S.shown (page_hits S.hit r l))))) S.starts ≡ rest S.hit r l
        go l e g h = pick (page_hits S.hit r l) refl h
          where
            pick : (xs : List Start) → page_hits S.hit r l ≡ xs → 0 < length xs
                → from (key S right) (suc (pair_key (last_pair (map S.shown xs)))) S.starts ≡ rest S.hit r l
            pick [] p h = absurd (not-suc-le-zero h)
            pick (x ∷ xs) p h =
                ap (λ (q : Pair). from (key S right) (suc (pair_key q)) S.starts) (last_shown S.shown x (x ∷ xs) h)
                ∙ ap (λ (ys : List Start). from (key S right) (suc (key S right (last x ys))) S.starts) (sym p)
                ∙ (subst
                (λ (l : List Start). full S.hit r l ≡ true → from (key S right) (suc (key S right (last x (page_hits S.hit r l)))) S.starts ≡ rest S.hit r l)
                (sym e) (λ g. from_next S.hit (key S right) 0 (key_of Exact b) r x S.starts (starts_rise S right) room g) g)

  pub next_range : (b : Bookmark) → inside S right (answer b).next
  next_range b = either (is_full b) (next_after b) (λ e. rw (full_is b, e) (finished_range right.narrow S.columns right.few))

-- ---- a call that turns the pages of a search, with room r

pub record Calls {Start : Type 0} (S : Search Start) (r : ℕ) (call : Bookmark → Lent → Leaf) : Type 0 where
  pub right : Right S
  pub some_room : 1 ≤ r
  pub turns : (b : Bookmark) (buffers : Lent) → InRange S.range S.columns b → Room r buffers → call b buffers ≡ leaf S b buffers

module _ {Start : Type 0} {S : Search Start} {r : ℕ} {call : Bookmark → Lent → Leaf} (calls : Calls S r call) where
  abbrev pub told : Bookmark → Turn
  told = answer S calls.right r calls.some_room

  module _ (b : Bookmark) (i : InRange S.range S.columns b) (buffers : Lent) (room : Room r buffers) where
    pub call_leaf : call b buffers ≡ record { answer = Ok (told b); buffers = written buffers (found S r b) }
    call_leaf =
        calls.turns b buffers i room
        ∙ ap (λ (k : ℕ). record { answer = Ok (turn S.range S.columns k (found S k b) (spent S k b)); buffers = written buffers (found S k b) }) room.of_columns

    pub call_answer : (call b buffers).answer ≡ Ok (told b)
    call_answer = ap (λ (l : Leaf). l.answer) call_leaf

    pub call_read : read_pairs (told b).written (call b buffers).buffers ≡ found S r b
    call_read = ap (λ (l : Leaf). read_pairs (told b).written l.buffers) call_leaf ∙ read_back buffers (found S r b)

    abbrev pub call_turns : Turns call r b (told b) (found S r b)
    call_turns = record { buffers = buffers; room = room; answered = call_answer; left = sym call_read }

  -- so a page of a reading is the list's page
  pub turns_same : {b : Bookmark} {t : Turn} {pairs : List Pair} → InRange S.range S.columns b → Turns call r b t pairs
      → (t ≡ told b) × (pairs ≡ found S r b)
  turns_same {b} {t} {pairs} i p =
      let e : t ≡ told b = turned_same (sym p.answered ∙ call_answer b i p.buffers p.room) in
      (e, p.left ∙ ap (λ (u : Turn). read_pairs u.written (call b p.buffers).buffers) e ∙ call_read b i p.buffers p.room)
