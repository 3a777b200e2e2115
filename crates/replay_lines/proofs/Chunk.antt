-- The parts of a chunk of lines, over the width of a line. Assumes nothing.
use Prim.Native.Nat.{ℕ, ◌+◌, ◌-◌, ◌≤◌}
use mathlib.Core.Path.{◌≡◌, sym, ◌∙◌}
use mathlib.Core.List.{List}
use native.Mathlib.Omega.{arith}
use lib.ListN.{length, take, drop, length-drop, drop_of_length-le}
use lib.Seq.{take_all, drop-drop}
use Rattle.facts.proofs.Orders.{by_order}
use Rattle.replay_lines.specs.Lines.{line_end}

module _ (width : ℕ) (s : List ℕ) (at : ℕ) where
  -- the bytes up to a line's end are as many of those that are left as a line has
  pub line_part : (end : ℕ) → end ≡ line_end at width (length s) → take (end - at) (drop at s) ≡ take width (drop at s)
  line_part end e =
      let left = length-drop at s in
      by_order width (length s - at)
      (λ h. let whole : end - at ≡ width = omega arith in rw whole)
      (λ h. take_all (end - at) (drop at s) (omega arith) ∙ sym (take_all width (drop at s) (omega arith)))

  -- what is left behind a line's end is what is left behind a line's bytes
  pub line_rest : (end : ℕ) → end ≡ line_end at width (length s) → drop width (drop at s) ≡ drop end s
  line_rest end e =
      drop-drop width at s
      ∙ by_order width (length s - at)
      (λ h. let whole : at + width ≡ end = omega arith in rw whole)
      (λ h.
      let past : length s ≤ at + width = omega arith in
      let ended : length s ≤ end = omega arith in
      drop_of_length-le s past ∙ sym (drop_of_length-le s ended))
