-- What `code_of` and `shift_of` give where it matters: of a shift that a bookmark may have its code, of a code up to 255 its shift.
-- First, tests that fail, as plain facts. Assumes nothing.
use mathlib.Core.Path.{◌≡◌, refl, sym, ap, ◌∙◌, subst}
use mathlib.Core.Bool.{Bool, true, false, not, ◌||◌, true≢false}
use mathlib.Core.Logic.{◌↔◌}
use Prim.Native.Nat.{ℕ, ◌≤◌}
use native.Mathlib.Nat.{add-zero}
use native.Mathlib.Omega.{arith}
use lib.Dec.{T, leb→le, le→leb}
use lib.IntN.{ℤ, pos, negsuc, ◌+ℤ◌, ◌-ℤ◌, +ℤ_idr}
use lib.Signed.{lt_z, ◌≤ℤ◌, le_z_yes, lt_z_no, lt_z_yes, clash_ℤ, pos-nat_abs, yes_non_neg}
use borrow.Author.Tests.{le-leb}
use mir.Syntax.{w16}
use mir.Val.{SFits}
use Rattle.theory.proofs.Signed.{raised, mag_sub}
use Rattle.ways.specs.declared.way.Way.{Way}
use Rattle.ways.specs.declared.way.Way.TheVariants.{Exact, Octave}
use Rattle.ways.specs.Way.{lowest, highest, span, shift_of, code_of}
use Rattle.ways.specs.Codes.{no_shift, out_of_range, code_given, shift_given}

-- ---- tests that fail

pub neither : (a b : Bool) {P Q : Type 0} → (a ≡ false) ↔ P → (b ≡ false) ↔ Q → ((a || b) ≡ false) ↔ (P × Q)
neither true b p q = (λ e. absurd (true≢false e), λ f. p.1 f.0)
neither false b p q = (λ e. (p.0 refl, q.0 e), λ f. q.1 f.1)

pub not_over_z : (a b : ℤ) → (lt_z a b ≡ false) ↔ (b ≤ℤ a)
not_over_z a b = (λ e. lt_z_no (subst (λ (t : Bool). T (not t)) (sym e) tt), λ h. step (lt_z a b) refl h)
  where
    step : (t : Bool) → lt_z a b ≡ t → b ≤ℤ a → t ≡ false
    step true e h = clash_ℤ (lt_z_yes (subst T (sym e) tt)) h
    step false e h = refl

-- ---- where it matters

-- a shift of the way
pub is_shift : (way : Way) (shift : ℤ) → (no_shift way shift ≡ false) ↔ ((lowest way ≤ℤ shift) × (shift ≤ℤ highest way))
is_shift way shift = neither (lt_z shift (lowest way)) (lt_z (highest way) shift) (not_over_z shift (lowest way)) (not_over_z (highest way) shift)

-- a shift that a bookmark may have
pub in_range : (way : Way) (shift : ℤ) → (out_of_range way shift ≡ false) ↔ ((lowest way ≤ℤ shift) × (shift ≤ℤ (highest way +ℤ pos 1)))
in_range way shift =
    neither (lt_z shift (lowest way)) (lt_z (highest way +ℤ pos 1) shift) (not_over_z shift (lowest way)) (not_over_z (highest way +ℤ pos 1) shift)

pub code_given_lem : (way : Way) (shift : ℤ) → lowest way ≤ℤ shift → shift ≤ℤ (highest way +ℤ pos 1) → code_given way shift ≡ code_of way shift
code_given_lem way shift low high = rw ((in_range way shift).1 (low, high))

-- a shift of the way is one that a bookmark may have
raised_range : (way : Way) (shift : ℤ) → shift ≤ℤ highest way → shift ≤ℤ (highest way +ℤ pos 1)
raised_range Exact (pos a) h = le_z_yes (le→leb a 128 (omega (arith, leb→le a 127 h.le)))
raised_range Exact (negsuc a) h = le_z_yes tt
raised_range Octave (pos a) h = le_z_yes (le→leb a 12 (omega (arith, leb→le a 11 h.le)))
raised_range Octave (negsuc a) h = le_z_yes tt

pub code_of_shift : (way : Way) (shift : ℤ) → no_shift way shift ≡ false → code_given way shift ≡ code_of way shift
code_of_shift way shift e = let r = (is_shift way shift).0 e in code_given_lem way shift r.0 (raised_range way shift r.1)

pub shift_given_lem : (way : Way) (code : ℕ) → code ≤ 255 → shift_given way code ≡ shift_of way code
shift_given_lem way code small = rw (le-leb code 255 small)

-- ---- how they are computed

-- a shift counted from the lowest is its code
pub counted : (way : Way) (shift : ℤ) → lowest way ≤ℤ shift → shift -ℤ lowest way ≡ pos (code_of way shift)
counted Exact shift low = sym (pos-nat_abs (shift +ℤ pos 127) (raised 126 shift low))
counted Octave shift low = +ℤ_idr shift ∙ sym (pos-nat_abs shift (yes_non_neg low))

-- and a code counted from the lowest is its shift
pub recounted : (way : Way) (code : ℕ) → pos code +ℤ lowest way ≡ shift_of way code
recounted Exact code = refl
recounted Octave code = ap pos (add-zero code)

pub shift_fits : (way : Way) (code : ℕ) → code ≤ 255 → SFits w16 (shift_of way code)
shift_fits Exact code small = record { sfits = mag_sub code 127 32768 (omega arith) (omega arith) }
shift_fits Octave code small = record { sfits = omega arith }

pub span_le : (way : Way) → span way ≤ 255
span_le Exact = omega arith
span_le Octave = omega arith
