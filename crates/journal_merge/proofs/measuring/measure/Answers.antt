-- `measure` takes one record a turn. Assumes nothing.
use mathlib.Core.Path.{◌∙◌}
use native.Mathlib.Omega.{arith}
use Rattle.journal_merge.proofs.Pass.{measuring_start, measuring_falls, measuring_next, measuring_fits, measuring_end}
use Rattle.journal_merge.proofs.measuring.measure.Goals as goal

pub records-init : goal.records-init
records-init c = measuring_start _ _ c.requires.0 c.requires.1

pub returns-then-next-form : goal.returns-then-next-form
returns-then-next-form c =
    let l = c.records in
    let s = l.invariant.there in
    let t = c.in-Some.ensures s.made s.reached in
    measuring_falls _ _ l.p l.n l.form l.invariant _ _ t _ (c.number_in-next.ensures ∙ t.form) (omega arith)

pub records-smaller : goal.records-smaller
records-smaller c =
    let l = c.records in
    let s = l.invariant.there in
    let t = c.in-Some.ensures s.made s.reached in
    (measuring_fits _ _ l.p l.n l.form l.invariant _ _ t).1

pub records-preserved : goal.records-preserved
records-preserved c =
    let l = c.records in
    let s = l.invariant.there in
    let t = c.in-Some.ensures s.made s.reached in
    measuring_next _ _ l.p l.n l.form l.invariant _ _ t _ (c.number_in-next.ensures ∙ t.form) (omega arith)

pub returns : goal.returns
returns c =
    let l = c.records in
    let s = l.invariant.there in
    measuring_end _ _ l.p l.n l.form l.invariant (c.in_default.ensures s.made s.reached)
