-- `append_indexed` reads the journal once, hands a fault on, and else goes on from what stands.
-- Assumes nothing.
use mathlib.Core.Path.{refl}
use native.Mathlib.Omega.{arith}
use Rattle.journal_spec.specs.Request.{gather_by, times_of}
use Rattle.journal_index.proofs.Standing.{stands, appends, appends_damaged}
use Rattle.journal_index.proofs.append.append_indexed.Goals as goal

pub extend_indexed-requires : goal.extend_indexed-requires
extend_indexed-requires c =
    let read = c.contents_of in
    stands _ _ _ 0 read.result read.ensures (λ i. omega (arith, c.slice_known-1.given i)) _ c.in-Ok.is

pub returns-in-Ok : goal.returns-in-Ok
unfolding times_of gather_by
returns-in-Ok c =
    let read = c.contents_of in
    appends _ _ _ 0 read.result read.ensures (λ i. omega (arith, c.slice_known-1.given i)) _ c.in-Ok.is _ _ refl refl _ (c.extend_indexed.ensures _)

pub returns-in-Err : goal.returns-in-Err
unfolding times_of gather_by
returns-in-Err c =
    let read = c.contents_of in
    appends_damaged _ _ _ 0 read.result read.ensures _ c.in-Err.is _ _ _ refl refl refl
