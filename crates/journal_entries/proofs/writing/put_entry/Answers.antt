-- `put_entry` puts the name's count, the name and the start one behind the other.
-- Assumes nothing.
use native.Mathlib.Omega.{arith}
use Rattle.text_digits.proofs.Putting.{put_put, put_as}
use Rattle.journal_spec.proofs.Numbers.{are_bytes}
use Rattle.journal_entries.proofs.Putting.{entry_parts, two_low, four_low}
use Rattle.journal_entries.proofs.writing.put_entry.Goals as goal

pub returns : goal.returns
returns c =
    let bytes = are_bytes c.args.name.now (λ i. omega (arith, c.type_inv.name i)) in
    let two = put_put _ _ _ _ _ _ _ _ c.put-place.ensures c.put-behind.ensures in
    put_as _ _ _ _ _ _
    (entry_parts _ _ _ _ bytes (two_low _ _ c.to_le_bytes.ensures) (four_low _ _ c.to_le_bytes-2.ensures))
    (put_put _ _ _ _ _ _ _ _ two c.put.ensures)
