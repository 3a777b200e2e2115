-- `check_index` goes by what the journal holds, and tells the index of the bytes up to the committed length.
-- Assumes nothing.
use mathlib.Core.Path.{◌≡◌, sym, ap, ◌∙◌}
use mathlib.Core.Bool.{Bool, cond}
use native.Mathlib.Omega.{arith}
use lib.Seq.{length-take-le}
use Rattle.journal_spec.specs.CheckIndex.{own, declined, check_index_of}
use Rattle.journal_index.specs.Checked.{check_meaning}
use Rattle.journal_index.proofs.Checking.{stands_fits, stands_whole, stands_checked, damaged_checked}
use Rattle.journal_index.proofs.own.check_index.Goals as goal
use Rattle.journal_index.proofs.own.check_index.Goals.{After-is_own}

told : (c : After-is_own)
    → let a = c.args in
    cond c.is_own.result own (declined 14) ≡ check_index_of (record { slice = a.v.now; len = a.len }) a.index.now
told c =
    stands_checked _ _ _ _ c.contents_of.ensures (λ i. omega (arith, c.shared_slice_known-1.given i)) c.in-Ok.contents c.in-Ok.is _ c.is_own.ensures

pub returns-then-not-is_own : goal.returns-then-not-is_own
unfolding check_meaning
returns-then-not-is_own c =
    ap (λ (t : Bool). cond t own (declined 14)) (sym c.if-not-is_own.true) ∙ told (goal.at.returns-then-not-is_own c).After-is_own

pub returns-else-not-is_own : goal.returns-else-not-is_own
unfolding check_meaning
returns-else-not-is_own c =
    ap (λ (t : Bool). cond t own (declined 14)) (sym c.if-not-is_own.false) ∙ told (goal.at.returns-else-not-is_own c).After-is_own

pub returns-in-Err : goal.returns-in-Err
unfolding check_meaning
returns-in-Err c = damaged_checked _ _ _ _ c.contents_of.ensures c.in-Err.fault c.in-Err.is

pub slice_bounds-is_own-end : goal.slice_bounds-is_own-end
slice_bounds-is_own-end c =
    sym (length-take-le _ _
    (stands_fits _ _ c.args.index.now _ c.contents_of.ensures (λ i. omega (arith, c.shared_slice_known-1.given i)) c.in-Ok.contents c.in-Ok.is))

pub is_own-requires : goal.is_own-requires
is_own-requires c =
    stands_whole _ _ c.args.index.now _ c.contents_of.ensures (λ i. omega (arith, c.shared_slice_known-1.given i)) c.in-Ok.contents c.in-Ok.is
