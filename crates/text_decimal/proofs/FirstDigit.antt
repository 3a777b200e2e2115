-- Written digits, from the front: the first digit, and the others. The exact decimal is read and cut from there.
-- Assumes nothing.
use Prim.Native.Nat.{ℕ, zero, suc, ◌/◌, ◌%◌, ◌^◌}
use mathlib.Core.Path.{◌≡◌, sym, ap, ◌∙◌}
use mathlib.Core.List.{List, [], ◌∷◌, ◌++◌}
use native.Mathlib.Nat.{pow-zero, pow-succ', div-one, div-div-eq-div-mul}
use Rattle.text_digits.specs.Hex.{glyph_of, digits}

pub digits_front : (b k n : ℕ) → digits b (suc k) n ≡ glyph_of (n / b ^ k % b) ∷ digits b k n
unfolding digits
digits_front b zero n = ap (λ (q : ℕ). glyph_of (q % b) ∷ []) (sym (div-one n) ∙ ap (λ (p : ℕ). n / p) (sym (pow-zero b)))
digits_front b (suc k) n =
    ap (λ (l : List ℕ). l ++ (glyph_of (n % b) ∷ [])) (digits_front b k (n / b))
    ∙ ap (λ (q : ℕ). glyph_of (q % b) ∷ digits b (suc k) n) (div-div-eq-div-mul n b (b ^ k) ∙ ap (λ (p : ℕ). n / p) (sym (pow-succ' b k)))
