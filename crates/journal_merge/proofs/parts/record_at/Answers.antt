-- `record_at` cuts out the record's bytes. Assumes nothing.
use mathlib.Core.Path.{◌≡◌, sym, ap, ◌∙◌}
use native.Mathlib.Omega.{arith}
use lib.ListN.{drop}
use lib.Seq.{length-take-le}
use Rattle.std.proofs.Common.{length-drop}
use Rattle.journal_parts.specs.Front.{record_size}
use Rattle.journal_parts.proofs.Front.{from_place}
use Rattle.journal_merge.proofs.Reading.{bounds}
use Rattle.journal_merge.proofs.parts.record_at.Goals as goal

pub slice_bounds-result-end : goal.slice_bounds-result-end
slice_bounds-result-end c =
    let b = c.args.b.now in
    let at = c.args.at in
    let k = bounds b at c.requires in
    let e : c.record_size.result ≡ record_size (drop at b) = c.record_size.ensures ∙ ap record_size (from_place b at) in
    rw (from_place b at) (sym (length-take-le _ _ (rw length-drop (omega (arith, e, k.inside)))))
