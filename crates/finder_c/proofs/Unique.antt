-- Each exported call's contract settles it: one theorem a call, over what the `ensures` in the source says. Above them the same
-- of each record by which a call promises: all is said by equations, or by what the router promises. Assumes nothing.
use mathlib.Core.Path.{◌≡◌, refl, sym, ap₂, ◌∙◌, subst}
use mathlib.Core.Bool.{Bool}
use mathlib.Core.List.{List}
use Prim.Native.Nat.{ℕ}
use lib.IntN.{ℤ}
use lib.ListN.{length}
use Rattle.theory.specs.Settled.{Settles}
use Rattle.theory.proofs.Unique.{◌beside◌}
use Rattle.paging.specs.Lent.{Lent}
use Rattle.paging.proofs.Buffers.{same_columns, same_shifts}
use Rattle.routing.proofs.RouteAnswers.{routes_unique}
use Rattle.finder_c.specs.Limits.{written, one_number}
use Rattle.finder_c.specs.Singles.{of_routed}
use Rattle.finder_c.specs.Numbers.{no_call}
use Rattle.finder_c.specs.Calls.{CLeft, CLeaves, CPrepares, CUpdates, COccurs, CPlainPages, CQuickPages, CExplains, CRoutes, single_left}
use Rattle.finder_c.proofs.calls.finder_prepare
use Rattle.finder_c.proofs.calls.finder_update
use Rattle.finder_c.proofs.calls.finder_occurs
use Rattle.finder_c.proofs.calls.finder_plain_page
use Rattle.finder_c.proofs.calls.finder_quick_page
use Rattle.finder_c.proofs.calls.finder_explain
use Rattle.finder_c.proofs.calls.finder_route
use Rattle.std.specs.Prelude.{Result, Ok, Err}
use Rattle.score.specs.declared.refusals.Refusal.{Refusal}

c_leaves_unique : {Buffers : Type 0} {none : Bool} {buffers : Buffers} {answer : List ℤ} {left : CLeft Buffers} {r r' : ℤ} {b b' : Buffers} {a a' : List ℤ}
    → CLeaves none buffers answer left r b a → CLeaves none buffers answer left r' b' a' → (r ≡ r') × (b ≡ b') × (a ≡ a')
c_leaves_unique p q = (p.results ∙ sym q.results, p.writes ∙ sym q.writes, p.writes_answer ∙ sym q.writes_answer)

module _ {cells : List ℕ} {h : ℕ} {sets : List ℕ} {answer : List ℤ} where
  pub c_prepares_unique : {r r' : ℤ} {s s' : List ℕ} {a a' : List ℤ}
      → CPrepares cells h sets answer r s a → CPrepares cells h sets answer r' s' a' → (r ≡ r') × (s ≡ s') × (a ≡ a')
  c_prepares_unique p q = c_leaves_unique p.leaves q.leaves

  pub c_updates_unique : {column : ℕ} {r r' : ℤ} {s s' : List ℕ} {a a' : List ℤ}
      → CUpdates cells h column sets answer r s a → CUpdates cells h column sets answer r' s' a' → (r ≡ r') × (s ≡ s') × (a ≡ a')
  c_updates_unique p q = c_leaves_unique p.leaves q.leaves

  pub c_occurs_unique : {theme : List ℕ} {way summary : ℕ} {table : List ℕ} {r r' : ℤ} {t t' : List ℕ} {a a' : List ℤ}
      → COccurs cells h theme way sets summary table answer r t a
      → COccurs cells h theme way sets summary table answer r' t' a' → (r ≡ r') × (t ≡ t') × (a ≡ a')
  c_occurs_unique p q = c_leaves_unique p.leaves q.leaves

module _ {cells : List ℕ} {h : ℕ} {theme : List ℕ} {way column : ℕ} {shift : ℤ} {buffers : Lent} {answer : List ℤ} where
  pub c_plain_unique : {r r' : ℤ} {l l' : Lent} {a a' : List ℤ}
      → CPlainPages cells h theme way column shift buffers answer r l a
      → CPlainPages cells h theme way column shift buffers answer r' l' a' → (r ≡ r') × (l ≡ l') × (a ≡ a')
  c_plain_unique p q = c_leaves_unique p.leaves q.leaves

  pub c_quick_unique : {sets table t t' : List ℕ} {r r' : ℤ} {l l' : Lent} {a a' : List ℤ}
      → CQuickPages cells h theme way column shift sets table buffers answer r t l a
      → CQuickPages cells h theme way column shift sets table buffers answer r' t' l' a'
      → ((r ≡ r') × (l ≡ l') × (a ≡ a')) × (t ≡ t')
  c_quick_unique p q = (c_leaves_unique p.leaves q.leaves, p.fills_table ∙ sym q.fills_table)

pub c_explains_unique : {cells : List ℕ} {h : ℕ} {theme : List ℕ} {way column : ℕ} {shift : ℤ} {sets : List ℕ} {answer : List ℤ}
    {r r' : ℤ} {a a' : List ℤ} → CExplains cells h theme way column shift sets answer r a
    → CExplains cells h theme way column shift sets answer r' a' → (r ≡ r') × (a ≡ a')
c_explains_unique p q = let (result, nothing, answer) = c_leaves_unique p.leaves q.leaves in (result, answer)

-- the router settles what it says and the places that it leaves, and so both are the same
pub c_routes_unique : {cells : List ℕ} {h : ℕ} {theme : List ℕ} {way column : ℕ} {shift : ℤ} {places : List ℕ} {answer : List ℤ}
    {r r' : ℤ} {p p' : List ℕ} {a a' : List ℤ} → CRoutes cells h theme way column shift places answer r p a
    → CRoutes cells h theme way column shift places answer r' p' a' → (r ≡ r') × (p ≡ p') × (a ≡ a')
c_routes_unique {way = way} {places = places} {answer = answer} {r = r} {p = p} {a = a} x y =
    let (said, after) = routes_unique _ _ _ _ _ _ x.routes y.routes in
    let both = ap₂ (λ (s : Result ℕ Refusal) (l : List ℕ). single_left (of_routed s) l answer) said after in
    let none = no_call written way one_number (length answer) in
    c_leaves_unique (subst (λ (left : CLeft (List ℕ)). CLeaves none places answer left r p a) both x.leaves) y.leaves

-- ---- the calls

pub finder_prepare_unique : Settles finder_prepare.Kinds.ps finder_prepare.Kinds.r finder_prepare.Reads.Post
finder_prepare_unique κs args x y =
    let (result, sets, answer) = c_prepares_unique x.meets y.meets in
    (result, refl beside refl beside sets beside answer beside refl)

pub finder_update_unique : Settles finder_update.Kinds.ps finder_update.Kinds.r finder_update.Reads.Post
finder_update_unique κs args x y =
    let (result, sets, answer) = c_updates_unique x.meets y.meets in
    (result, refl beside refl beside refl beside sets beside answer beside refl)

pub finder_occurs_unique : Settles finder_occurs.Kinds.ps finder_occurs.Kinds.r finder_occurs.Reads.Post
finder_occurs_unique κs args x y =
    let (result, table, answer) = c_occurs_unique x.meets y.meets in
    (result, refl beside refl beside refl beside refl beside refl beside refl beside table beside answer beside refl)

pub finder_plain_page_unique : Settles finder_plain_page.Kinds.ps finder_plain_page.Kinds.r finder_plain_page.Reads.Post
finder_plain_page_unique κs args x y =
    let (result, lent, answer) = c_plain_unique x.meets y.meets in (
      result,
      refl beside refl beside refl beside refl beside refl beside refl
          beside same_columns lent beside same_shifts lent beside answer beside refl,
    )

pub finder_quick_page_unique : Settles finder_quick_page.Kinds.ps finder_quick_page.Kinds.r finder_quick_page.Reads.Post
finder_quick_page_unique κs args x y =
    let ((result, lent, answer), table) = c_quick_unique x.meets y.meets in (
      result,
      refl beside refl beside refl beside refl beside refl beside refl beside refl
          beside table beside same_columns lent beside same_shifts lent beside answer beside refl,
    )

pub finder_explain_unique : Settles finder_explain.Kinds.ps finder_explain.Kinds.r finder_explain.Reads.Post
finder_explain_unique κs args x y =
    let (result, answer) = c_explains_unique x.meets y.meets in (
      result,
      refl beside refl beside refl beside refl beside refl beside refl beside refl beside answer beside refl,
    )

pub finder_route_unique : Settles finder_route.Kinds.ps finder_route.Kinds.r finder_route.Reads.Post
finder_route_unique κs args x y =
    let (result, places, answer) = c_routes_unique x.meets y.meets in (
      result,
      refl beside refl beside refl beside refl beside refl beside refl beside places beside answer beside refl,
    )
