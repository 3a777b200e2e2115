-- `read_by` is the part of the slice at the part's place, which lies inside the slice.
-- Assumes nothing.
use native.Mathlib.Omega.{arith}
use Rattle.journal.specs.Handed.{as_rule}
use Rattle.journal.proofs.Inside.{place_inside, read_part_lem, read_none}
use Rattle.journal.proofs.reading.read_by.Goals as goal

pub overflow_add-result : goal.overflow_add-result
overflow_add-result c =
    let a = c.args in
    omega (arith, place_inside (as_rule a.rule) a.v.now a.len a.i c.in-Some.p c.in-Some.ensures.value)

pub slice_bounds-result-end : goal.slice_bounds-result-end
slice_bounds-result-end c =
    let a = c.args in
    omega (arith, place_inside (as_rule a.rule) a.v.now a.len a.i c.in-Some.p c.in-Some.ensures.value)

pub returns-in-Some : goal.returns-in-Some
returns-in-Some c =
    let a = c.args in
    read_part_lem (as_rule a.rule) a.v.now a.len a.i c.in-Some.p c.in-Some.ensures.value

pub returns-in-None : goal.returns-in-None
returns-in-None c =
    let a = c.args in
    read_none (as_rule a.rule) a.v.now a.len a.i c.in-None.ensures.value
