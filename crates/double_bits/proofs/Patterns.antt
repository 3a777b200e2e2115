-- The bit pattern of a finite value of a format, from its sign and its count of the format's smallest values; so the two determine the value.
-- With k digits more than the format keeps, the pattern is k in the exponent's field and the first digits added to it. Assumes nothing.
use mathlib.Core.Path.{◌≡◌, sym, ap, ◌∙◌}
use mathlib.Core.Bool.{Bool, cond}
use Prim.Native.Nat.{ℕ, ◌+◌, ◌-◌, ◌*◌, ◌/◌, ◌^◌}
use native.Mathlib.Nat.{mul-div_cancel}
use lib.Dec.{T}
use lib.Ieee.{Float, nan, inf, fin, Format, prec, low, hid, top, up, down, size, fits, of_bits, to_bits}
use lib.Ieee.Exact.{HasValue}
use lib.Ieee.Fits.{down_pos}
use lib.Ieee.Bits.{of_bits-to_bits}

-- the pattern of a value of f with the sign s and of a units
abbrev pub pattern : Format → Bool → ℕ → ℕ
pattern f s a = cond s (top f) 0 + (size a - prec f) * hid f + a / 2 ^ (size a - prec f)

pub bits_of_units : (f : Format) (x : Float) (s : Bool) (a : ℕ) → HasValue x s a (2 ^ low f) → to_bits f x ≡ pattern f s a
unfolding to_bits
bits_of_units f nan s a h = absurd h
bits_of_units f (inf t) s a h = absurd h
bits_of_units f (fin t m e) s a h =
    let n : m * up e * 2 ^ low f / down e ≡ a = ap (λ (x : ℕ). x / down e) h.1 ∙ mul-div_cancel a (down_pos e) in
    ap (λ (b : Bool). pattern f b (m * up e * 2 ^ low f / down e)) h.0 ∙ ap (λ (x : ℕ). pattern f s x) n

pub value_unique : (f : Format) (x y : Float) (s : Bool) (a : ℕ) → T (fits f x) → T (fits f y) → HasValue x s a (2 ^ low f)
    → HasValue y s a (2 ^ low f) → x ≡ y
value_unique f x y s a F G h k =
    sym (of_bits-to_bits f x F)
    ∙ ap (of_bits f) (bits_of_units f x s a h ∙ sym (bits_of_units f y s a k))
    ∙ of_bits-to_bits f y G
