-- `copy` takes one record a turn. Assumes nothing.
use Rattle.journal_merge.proofs.Pass.{copying_start, copying_next, copying_less, copying_end}
use Rattle.journal_merge.proofs.copying.copy.Goals as goal

pub records-init : goal.records-init
records-init c = copying_start _ _ _ c.requires.0 c.requires.1 c.requires.2

pub records-smaller : goal.records-smaller
records-smaller c =
    let l = c.records in
    let s = l.invariant.there in
    let t = c.in-Some.ensures s.made s.reached in
    copying_less _ _ _ _ l.p l.n l.invariant _ _ t

pub records-preserved : goal.records-preserved
records-preserved c =
    let l = c.records in
    let s = l.invariant.there in
    let t = c.in-Some.ensures s.made s.reached in
    copying_next _ _ _ _ l.p l.n l.invariant _ _ t _ _ c.put-n.ensures

pub returns : goal.returns
returns c =
    let l = c.records in
    let s = l.invariant.there in
    copying_end _ _ _ _ l.p l.n l.invariant (c.in_default.ensures s.made s.reached)
