-- A loop over the neighbouring entries of a list, two at a time (`windows(2)`): what is left is the list's end (`Neighbours`),
-- and so many entries are passed. A turn is handed the entry there and the one after it (`NextTwo`); the loop ends at the last
-- entry (`neighbours_end`). Assumes nothing.
use mathlib.Core.Path.{◌≡◌, sym, ap, ◌∙◌}
use mathlib.Core.List.{List}
use Prim.Native.Nat.{ℕ, ◌+◌, ◌-◌, ◌≤◌, ◌<◌}
use native.Mathlib.Omega.{arith}
use lib.ListN.{length, get_or, take, drop}
use denote.Ref.{Bor}
use Rattle.std.specs.declared.option.Option.{Option}
use Rattle.std.specs.declared.option.Option.TheVariants.{None, Some}
use Rattle.std.specs.Option.{MatchOption}
use Rattle.std.specs.declared.slice.Windows.{Windows}
use Rattle.std.specs.Slice.Iter.{windows_rest, windows_size}
use Rattle.std.proofs.lemmas.Iterator.{window_more}

module _ (xs : List ℕ) where
  -- how many entries are passed
  abbrev pub passed : Windows ℕ → ℕ
  passed s = length xs - length (windows_rest s)

  pub record Neighbours (s : Windows ℕ) : Type 0 where
    pub two : windows_size s ≡ 2
    pub within : length (windows_rest s) ≤ length xs
    pub left : windows_rest s ≡ drop (passed s) xs

  -- w are the two entries where s stands, and t stands one further
  pub record NextTwo (s t : Windows ℕ) (w : Bor (List ℕ)) : Type 0 where
    pub neighbours : Neighbours t
    pub more : passed t ≡ passed s + 1
    pub inside : passed s + 1 < length xs
    pub here : get_or w.now 0 0 ≡ get_or xs (passed s) 0
    pub next : get_or w.now 1 0 ≡ get_or xs (passed s + 1) 0

  -- a call of `next` from s, which leaves t
  abbrev Steps : (s t : Windows ℕ) → Option (Bor (List ℕ)) → Type 0
  Steps s t r =
      (windows_size t ≡ windows_size s)
      × MatchOption r ((length (windows_rest s) < windows_size s) × (t ≡ s))
      (λ x. (windows_size s ≤ length (windows_rest s)) × (x.now ≡ take (windows_size s) (windows_rest s))
      × (windows_rest t ≡ drop 1 (windows_rest s)) × (length x.now ≡ windows_size s))

  pub none_passed : (s : Windows ℕ) → windows_rest s ≡ xs → passed s ≡ 0
  none_passed s e = let l = ap length e in omega arith

  pub neighbours_start : (s : Windows ℕ) → windows_size s ≡ 2 → windows_rest s ≡ xs → Neighbours s
  neighbours_start s two e =
      let z : passed s ≡ 0 = none_passed s e in
      record { two = two; within = omega (arith, ap length e); left = e ∙ ap (λ (n : ℕ). drop n xs) (sym z) }

  pub next_two : (s t : Windows ℕ) {r : Option (Bor (List ℕ))} {w : Bor (List ℕ)} → Neighbours s → r ≡ Some w
      → Steps s t r → NextTwo s t w
  next_two s t {r} {w} n is steps =
      let h = window_more xs s t r w is steps (omega (arith, n.two)) n.within n.left in
      let long : 2 ≤ length (windows_rest s) = omega (arith, h.2, n.two) in
      let less : length (windows_rest t) + 1 ≡ length (windows_rest s) = h.0 in
      let within : length (windows_rest s) ≤ length xs = n.within in
      record {
        neighbours = record { two = steps.0 ∙ n.two; within = omega arith; left = h.1 };
        more = omega arith;
        inside = omega arith;
        here = h.3 0 0 (omega (arith, n.two)) ∙ ap (λ (i : ℕ). get_or xs i 0) (omega arith);
        next = h.3 1 0 (omega (arith, n.two));
      }

  pub neighbours_end : (s t : Windows ℕ) {r : Option (Bor (List ℕ))} → Neighbours s → r ≡ None → Steps s t r → length xs ≤ passed s + 1
  neighbours_end s t {r} n is steps = let e = rw is at steps.1 in omega (arith, e.0, n.two, n.within)
