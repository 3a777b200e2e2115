-- `four_bytes_at` is `from_le_bytes` of the four bytes. Assumes nothing.
use Rattle.std.proofs.Common.{arith, refl}
use Rattle.journal_spec.proofs.NumberFromBytes.{gather_four, gather_end}
use Rattle.journal_parts.proofs.number.four_bytes_at.Goals as goal

pub returns : goal.returns
returns c =
    let a = c.args in
    let g = gather_four a.b.now a.at (omega arith) (λ i. omega (arith, c.type_inv.b i)) in
    (omega (arith, gather_end _ _ _ _ 0 g refl), omega arith)
