-- The times that bytes hold, each a u32: of the bytes of some times they are these times, and up to three bytes behind the last whole one are none.
-- Assumes nothing.
use mathlib.Core.Path.{◌≡◌, refl, sym, ap, ap₂, ◌∙◌}
use Prim.Native.Nat.{ℕ, suc, ◌+◌, ◌/◌, ◌^◌, ◌<◌}
use mathlib.Core.List.{List, [], ◌∷◌, ◌++◌, append_assoc}
use native.Mathlib.Omega.{arith}
use lib.ListN.{length, drop, get_or, length-append}
use lib.Seq.{drop_at, drop-drop}
use Rattle.journal_spec.specs.Bytes.{bytes_of, numbers_in}
use Rattle.journal_spec.specs.Section.{number_bytes}
use Rattle.journal_spec.specs.Read.{times_in}
use Rattle.journal_spec.proofs.Numbers.{length_bytes}
use Rattle.journal_spec.proofs.Sections.{length_numbers}
use Rattle.journal_spec.proofs.Pieces.{number_at_lem}

pub numbers_in_lem : (w at : ℕ) (b xs rest : List ℕ) → ((i : ℕ) → i < length xs → get_or xs i 0 < 256 ^ w) → drop at b ≡ number_bytes w xs ++ rest
    → numbers_in w (length xs) at b ≡ xs
unfolding numbers_in number_bytes
numbers_in_lem w at b [] rest h e = refl
numbers_in_lem w at b (x ∷ xs) rest h e =
    let others = number_bytes w xs ++ rest in
    let f : drop at b ≡ bytes_of w x ++ others = e ∙ append_assoc (bytes_of w x) (number_bytes w xs) rest in
    let next : drop (at + w) b ≡ others = sym (drop-drop w at b) ∙ ap (drop w) f ∙ drop_at (bytes_of w x) others w (length_bytes w x) in
    ap₂ (λ (y : ℕ) (ys : List ℕ). y ∷ ys) (number_at_lem w at b x others f (h 0 (omega arith)))
    (numbers_in_lem w (at + w) b xs rest (λ i k. h (suc i) (omega arith)) next)

pub times_read : (ts rest : List ℕ) → ((i : ℕ) → i < length ts → get_or ts i 0 < 2 ^ 32) → length rest < 4 → times_in (number_bytes 4 ts ++ rest) ≡ ts
unfolding times_in
times_read ts rest h few =
    let n : length (number_bytes 4 ts ++ rest) / 4 ≡ length ts = omega (arith, length-append (number_bytes 4 ts) rest, length_numbers 4 ts) in
    ap (λ (k : ℕ). numbers_in 4 k 0 (number_bytes 4 ts ++ rest)) n
    ∙ numbers_in_lem 4 0 (number_bytes 4 ts ++ rest) ts rest (λ i k. omega (arith, h i k)) refl
