-- `merge` goes by what both scans say. Assumes nothing.
use mathlib.Core.Path.{sym, ◌∙◌}
use native.Mathlib.Omega.{arith}
use lib.Seq.{length-take-le}
use Rattle.std.proofs.Common.{Ok, Err}
use Rattle.std.proofs.lemmas.Result.{err_from_is_err_and}
use Rattle.journal_merge.proofs.Outcomes.{means_by}
use Rattle.journal_merge.proofs.merge.Goals as goal

pub returns-in_err-check_inputs : goal.returns-in_err-check_inputs
returns-in_err-check_inputs c =
    let a = c.args in
    let m =
    means_by _ _ _ _ a.out.now (λ i. omega (arith, c.type_inv.v i)) (λ i. omega (arith, c.type_inv.w i)) c.scan.result c.scan-2.result c.scan.ensures
    c.scan-2.ensures (Err c.in_err-check_inputs.field-0.0) c.in_err-check_inputs.ensures in
    let p = err_from_is_err_and c.from_residual.result c.from_residual.ensures.1 in
    rw (p.1, p.2) m

pub slice_bounds-merge_whole-end : goal.slice_bounds-merge_whole-end
slice_bounds-merge_whole-end c =
    let a = c.args in
    let m =
    means_by _ _ _ _ a.out.now (λ i. omega (arith, c.type_inv.v i)) (λ i. omega (arith, c.type_inv.w i)) c.scan.result c.scan-2.result c.scan.ensures
    c.scan-2.ensures (Ok c.in_ok-check_inputs.field-0) c.in_ok-check_inputs.ensures in
    sym (length-take-le _ _ (omega (arith, m.fits)))

pub slice_bounds-merge_whole-end-2 : goal.slice_bounds-merge_whole-end-2
slice_bounds-merge_whole-end-2 c =
    let a = c.args in
    let m =
    means_by _ _ _ _ a.out.now (λ i. omega (arith, c.type_inv.v i)) (λ i. omega (arith, c.type_inv.w i)) c.scan.result c.scan-2.result c.scan.ensures
    c.scan-2.ensures (Ok c.in_ok-check_inputs.field-0) c.in_ok-check_inputs.ensures in
    sym (length-take-le _ _ (omega (arith, m.fits')))

pub merge_whole-requires : goal.merge_whole-requires
merge_whole-requires c =
    let a = c.args in
    let m =
    means_by _ _ _ _ a.out.now (λ i. omega (arith, c.type_inv.v i)) (λ i. omega (arith, c.type_inv.w i)) c.scan.result c.scan-2.result c.scan.ensures
    c.scan-2.ensures (Ok c.in_ok-check_inputs.field-0) c.in_ok-check_inputs.ensures in
    (m.first, m.second)

pub returns : goal.returns
returns c =
    let a = c.args in
    let m =
    means_by _ _ _ _ a.out.now (λ i. omega (arith, c.type_inv.v i)) (λ i. omega (arith, c.type_inv.w i)) c.scan.result c.scan-2.result c.scan.ensures
    c.scan-2.ensures (Ok c.in_ok-check_inputs.field-0) c.in_ok-check_inputs.ensures in
    c.merge_whole.ensures ∙ sym m.outcome
