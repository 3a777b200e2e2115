-- Laws of written digits, over the width: how many there are, and what one turn of the loop that writes adds.
-- Assumes nothing.
use Prim.Native.Nat.{ℕ, zero, suc, ◌-◌, ◌/◌, ◌%◌, ◌≤◌, ◌<◌}
use mathlib.Core.Path.{◌≡◌, refl, sym, ap, ◌∙◌}
use mathlib.Core.List.{List, [], ◌∷◌, ◌++◌, append_assoc}
use native.Mathlib.Omega.{arith}
use lib.ListN.{length, drop, set, length-append, length-set}
use lib.Seq.{drop-cons, drop-set-lt, get_or-set_same}
use Rattle.text_digits.specs.Hex.{glyph_of, digits}

-- there are as many digits as asked for
pub length_digits : (b k n : ℕ) → length (digits b k n) ≡ k
unfolding digits
length_digits b zero n = refl
length_digits b (suc k) n =
    length-append (digits b k (n / b)) (glyph_of (n % b) ∷ []) ∙ rw (length_digits b k (n / b)) (omega arith)

-- a turn that writes puts one digit before those that stand
pub digits_turn : (b i rest : ℕ) (out : List ℕ) → i < length out
    → digits b (suc i) rest ++ drop (suc i) out ≡ digits b i (rest / b) ++ drop i (set out i (glyph_of (rest % b)))
unfolding digits
digits_turn b i rest out h =
    let g = glyph_of (rest % b) in
    let inside : i < length (set out i g) = simp length-set h in
    rw (append_assoc, drop-cons (set out i g) i 0 inside, get_or-set_same out i g 0 h, drop-set-lt (suc i) out i g (omega arith))

-- the same where the place falls by one
pub digits_before : (b i rest g : ℕ) (out : List ℕ) → 0 < i → i ≤ length out → g ≡ glyph_of (rest % b)
    → digits b i rest ++ drop i out ≡ digits b (i - 1) (rest / b) ++ drop (i - 1) (set out (i - 1) g)
digits_before b i rest g out l h e =
    let one : i ≡ suc (i - 1) = omega arith in
    ap (λ (k : ℕ). digits b k rest ++ drop k out) one ∙ digits_turn b (i - 1) rest out (omega arith) ∙ rw (sym e)

-- where no place is left, the bytes are the digits
pub digits_done : (b i rest : ℕ) (out whole : List ℕ) → i ≡ 0 → whole ≡ digits b i rest ++ drop i out → out ≡ whole
unfolding digits
digits_done b i rest out whole z e = sym (e ∙ rw z)
