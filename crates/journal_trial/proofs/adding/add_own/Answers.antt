-- `add_own` counts, and adds the counts unless a line is refused. Assumes nothing.
use Rattle.std.proofs.Common.{ℕ, ◌*◌, refl, ap, ◌∙◌, arith}
use Rattle.std.proofs.lemmas.Result.{err_from_is_err_and}
use Rattle.journal_trial.proofs.NotIndexed.{strangers_counted}
use Rattle.journal_trial.proofs.AddedAll.{zeros, own_entries, prepared, counts_added, unread_log, read_log, misread_same, own_most}
use Rattle.journal_trial.proofs.adding.add_own.Goals as goal

pub count_all-requires : goal.count_all-requires
count_all-requires c = (prepared _ _ _ c.requires, zeros _ refl)

pub returns-in_err-lines-clause-value : goal.returns-in_err-lines-clause-value
returns-in_err-lines-clause-value c =
    let o = c.requires in
    let p = err_from_is_err_and c.from_residual.result c.from_residual.ensures.1 in
    rw (p.1, p.2)
    (strangers_counted _ _ _ _ o.records o.committed o.stands o.own _ (rw (own_entries _ _ _ o) at c.in_err-lines.ensures.unknowns))

pub returns-in_err-lines-clause-table_after : goal.returns-in_err-lines-clause-table_after
returns-in_err-lines-clause-table_after c =
    let m = unread_log _ _ _ c.in_err-lines.ensures.unknowns in
    misread_same _ _ _ _ _ (λ i. omega (arith, c.type_inv.table i)) m.0 m.1

pub overflow_mul-numbers : goal.overflow_mul-numbers
overflow_mul-numbers c = omega (arith, own_most _ _ _ c.requires _ c.number_in.ensures)

pub add_counts-requires : goal.add_counts-requires
add_counts-requires c = omega (arith, own_most _ _ _ c.requires _ c.number_in.ensures)

pub returns-clause-value : goal.returns-clause-value
returns-clause-value c =
    let o = c.requires in
    strangers_counted _ _ _ _ o.records o.committed o.stands o.own _ (rw (own_entries _ _ _ o) at c.in_ok-lines.ensures.unknowns)

pub returns-clause-table_after : goal.returns-clause-table_after
returns-clause-table_after c =
    let o = c.requires in
    let u = c.in_ok-lines.ensures in
    let m = read_log _ _ _ u.unknowns in
    c.add_counts.ensures
    ∙ counts_added _ _ _ o _ m.0 m.1 _ _ _ (ap (λ (n : ℕ). 9 * n) c.number_in.ensures) (u.counted m.0 m.1)
