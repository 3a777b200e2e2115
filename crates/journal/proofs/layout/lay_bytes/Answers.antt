-- `lay_bytes` lays the count of the name's bytes, and these behind it.
-- Assumes nothing.
use native.Mathlib.Omega.{arith}
use Rattle.text_digits.proofs.Putting.{put_put, put_as}
use Rattle.journal_spec.proofs.Numbers.{are_bytes}
use Rattle.journal.proofs.Laying.{bytes_section}
use Rattle.journal.proofs.layout.lay_bytes.Goals as goal

pub returns : goal.returns
returns c =
    let bytes = are_bytes c.args.bytes.now (λ i. omega (arith, c.type_inv.bytes i)) in
    put_as _ _ _ _ _ _ (bytes_section _ bytes) (put_put _ _ _ _ _ _ _ _ c.lay_number-p.ensures c.put.ensures)
