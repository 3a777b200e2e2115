-- `merge_sorted` measures, looks for room, and copies. Assumes nothing.
use native.Mathlib.Omega.{arith}
use Rattle.std.proofs.lemmas.Result.{err_from_is_err_and}
use Rattle.journal_merge.proofs.Outcomes.{outcome_falls, outcome_length, outcome_no_room, outcome_put}
use Rattle.journal_merge.proofs.merge_sorted.Goals as goal

pub returns-in_err-n : goal.returns-in_err-n
returns-in_err-n c =
    let p = err_from_is_err_and c.from_residual.result c.from_residual.ensures.1 in
    rw (p.1, p.2) (outcome_falls _ _ _ c.in_err-n.ensures)

pub returns-then-min-n : goal.returns-then-min-n
returns-then-min-n c = outcome_no_room _ c.args.out.now c.in_ok-n.n c.in_ok-n.ensures (omega arith)

pub copy-requires : goal.copy-requires
copy-requires c =
    let n = outcome_length _ c.args.out.now c.in_ok-n.n c.in_ok-n.ensures in
    (c.requires.0, c.requires.1, omega (arith, n), c.requires.2)

pub returns : goal.returns
returns c = outcome_put _ c.args.out.now c.in_ok-n.n c.in_ok-n.ensures (omega arith) _ c.copy.ensures
