-- `contents_of` refuses a length beyond the slice or the longest journal, and hands the bytes up to it on.
-- Assumes nothing.
use mathlib.Core.Path.{◌∙◌}
use mathlib.Core.Logic.{inl, inr}
use native.Mathlib.Omega.{arith}
use Rattle.journal.specs.Handed.{as_rule}
use Rattle.journal.proofs.Answering.{contents_beyond, contents_within}
use Rattle.journal.proofs.contents.contents_of.Goals as goal

pub returns-then-v-len : goal.returns-then-v-len
returns-then-v-len c =
    let a = c.args in
    contents_beyond (as_rule a.rule) a.v.now a.len a.i (elim c.then-v-len.either [ inl l ↦ omega arith | inr l ↦ omega (arith, l) ])

pub returns : goal.returns
returns c =
    let a = c.args in
    c.records_of.ensures ∙ contents_within (as_rule a.rule) a.v.now a.len a.i (omega arith) (omega arith)
