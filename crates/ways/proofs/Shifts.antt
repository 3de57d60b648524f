-- Codes and shifts: a shift is counted from the way's lowest, so code and shift tell the same, rise together, and codes
-- below the span are the shifts from the lowest to the highest. A bookmark's shift may be one more. Assumes nothing.
use mathlib.Core.Path.{◌≡◌, refl, ap, ◌∙◌}
use Prim.Native.Nat.{ℕ, ◌+◌, ◌≤◌, ◌<◌, zero-le}
use native.Mathlib.Omega.{arith}
use lib.Dec.{leb→le, le→leb, lt→ltb}
use lib.IntN.{ℤ, pos, negsuc, nat_abs, ◌+ℤ◌, ◌-ℤ◌, +ℤ-neg_ℤ_cancel, -ℤ-+ℤ_cancel}
use lib.Signed.{◌≤ℤ◌, ◌<ℤ◌, le_z_yes, lt_z_yes, pos-nat_abs, yes_non_neg}
use Rattle.theory.proofs.Signed.{Coded, code as biased, raised, sub_rises, sub_above, sub_below}
use Rattle.ways.specs.declared.way.Way.{Way}
use Rattle.ways.specs.declared.way.Way.TheVariants.{Exact, Octave}
use Rattle.ways.specs.Way.{lowest, highest, span, shift_of, code_of}

-- ---- from a code

pub code_shift : (way : Way) (code : ℕ) → code_of way (shift_of way code) ≡ code
code_shift Exact code = ap nat_abs (-ℤ-+ℤ_cancel (pos code) (pos 127))
code_shift Octave code = refl

pub shift_rises : (way : Way) {code code' : ℕ} → code < code' → shift_of way code <ℤ shift_of way code'
shift_rises Exact {code} {code'} h = sub_rises code code' 127 h
shift_rises Octave {code} {code'} h = lt_z_yes (lt→ltb code code' h)

pub shift_above : (way : Way) (code : ℕ) → lowest way ≤ℤ shift_of way code
shift_above Exact code = sub_above code 126
shift_above Octave code = le_z_yes (le→leb 0 code zero-le)

pub shift_below : (way : Way) {code : ℕ} → code < span way → shift_of way code ≤ℤ highest way
shift_below Exact {code} h = sub_below code 127 127 (omega arith)
shift_below Octave {code} h = le_z_yes (le→leb code 11 (omega arith))

-- ---- from a shift, which may be n above the highest

pub shift_code : (way : Way) (c : ℤ) → lowest way ≤ℤ c → shift_of way (code_of way c) ≡ c
shift_code Exact c low = ap (λ (z : ℤ). z -ℤ pos 127) (pos-nat_abs (c +ℤ pos 127) (raised 126 c low)) ∙ +ℤ-neg_ℤ_cancel c (pos 127)
shift_code Octave c low = pos-nat_abs c (yes_non_neg low)

code_room : (way : Way) (n : ℕ) (c : ℤ) → lowest way ≤ℤ c → c ≤ℤ (highest way +ℤ pos n) → code_of way c < span way + n
code_room Exact n c low high =
    let k : (x : ℕ) × (x ≤ 127 + n + 127) × Coded 127 c x = biased 126 (127 + n) c low high in
    let e : nat_abs (c +ℤ pos 127) ≡ k.0 = ap nat_abs k.2.up in
    omega arith
code_room Octave n (pos a) low high = omega (arith, leb→le a (11 + n) high.le)
code_room Octave n (negsuc a) low high = absurd low.le

pub code_lt : (way : Way) (c : ℤ) → lowest way ≤ℤ c → c ≤ℤ highest way → code_of way c < span way
code_lt Exact c low high = code_room Exact 0 c low high
code_lt Octave c low high = code_room Octave 0 c low high

pub code_le : (way : Way) (c : ℤ) → lowest way ≤ℤ c → c ≤ℤ (highest way +ℤ pos 1) → code_of way c ≤ span way
code_le way c low high = omega (arith, code_room way 1 c low high)
