-- Whether n numbers of w bytes have room behind a count, by the quotient that the code compares with n.
-- Assumes nothing.
use mathlib.Core.Path.{◌≡◌, ◌∙◌}
use Prim.Native.Nat.{ℕ, ◌+◌, ◌*◌, ◌-◌, ◌/◌, ◌≤◌, ◌<◌}
use mathlib.Core.List.{List}
use native.Mathlib.Omega.{arith}
use native.Mathlib.Nat.{div-add-mod, mod-lt, mul-le-mul_right, mul_comm, suc-mul}
use lib.ListN.{length}
use Rattle.std.proofs.Common.{Some, None}
use Rattle.journal_spec.specs.Bytes.{number_at}
use Rattle.journal_parts.specs.Numbers.{number_in}
use Rattle.journal_parts.specs.Spans.{span_with, span_at}
use Rattle.journal_parts.proofs.NumberStands.{number_stands}
use Rattle.journal_parts.proofs.Reached.{span_stands, span_beyond}

-- the bytes up to `size` hold a count at `at` and n numbers behind it
room_holds : (size at n w : ℕ) → 0 < w → at + 2 ≤ size → n ≤ (size - at - 2) / w → at + 2 + n * w ≤ size
room_holds size at n w pos h k =
    let q : ℕ = (size - at - 2) / w in
    let parts = div-add-mod (size - at - 2) w in
    let less : n * w ≤ q * w = mul-le-mul_right w k in
    let turned = mul_comm w q in
    omega arith

-- they do not
room_lacks : (size at n w : ℕ) → 0 < w → at + 2 ≤ size → (size - at - 2) / w < n → size < at + 2 + n * w
room_lacks size at n w pos h k =
    let q : ℕ = (size - at - 2) / w in
    let parts = div-add-mod (size - at - 2) w in
    let rest = mod-lt (size - at - 2) pos in
    let more : (q + 1) * w ≤ n * w = mul-le-mul_right w (omega arith) in
    let turned = mul_comm w q in
    let one : (q + 1) * w ≡ q * w + w = omega (arith, suc-mul q w) in
    omega arith

-- a section by the count that is read and the room behind it
module _ (w at n : ℕ) (b : List ℕ) (pos : 0 < w) (low : at + 2 ≤ length b) (read : n ≡ number_in 2 at b) where
  count_here : n ≡ number_at 2 at b
  count_here = read ∙ number_stands 2 at b (omega arith) low

  pub span_fits : n ≤ (length b - at - 2) / w → span_at w at b ≡ Some (span_with w at n)
  span_fits h = rw count_here (span_stands w at b (rw (← count_here) (room_holds (length b) at n w pos low h)))

  pub span_lacks : (length b - at - 2) / w < n → span_at w at b ≡ None
  span_lacks h = span_beyond w at b (rw (← count_here) (room_lacks (length b) at n w pos low h))
