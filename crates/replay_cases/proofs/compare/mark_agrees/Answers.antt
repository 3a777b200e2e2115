-- `mark_agrees` asks by the line's rule. Assumes nothing.
use Rattle.std.proofs.Common.{◌≡◌, ℕ, ap, ◌∙◌}
use Rattle.journal_spec.specs.Read.{read_mark}
use Rattle.capi.specs.Journal.{mark_word}
use Rattle.replay_cases.specs.Line.{rule_by, agrees}
use Rattle.replay_cases.specs.Compare.{mark_agrees}
use Rattle.replay_cases.proofs.compare.mark_agrees.Goals as goal
use Rattle.replay_cases.proofs.compare.mark_agrees.Goals.{then-by_profile, else-by_profile}

-- the word by the line's rule
word : (c : goal.After-agree)
    → c.if-by_profile.mark ≡ mark_word (read_mark (rule_by c.args.line.now) c.args.v.now c.args.len c.args.i)
word c =
    elim c.if-by_profile.branch [
      | then-by_profile w ↦ rw (w.mark-is, w.journal_profile_mark-mark.ensures, ← c.by_profile.ensures, w.if-by_profile.true)
      | else-by_profile w ↦ rw (w.mark-is, w.journal_mark-mark.ensures, ← c.by_profile.ensures, w.if-by_profile.false)
    ]

pub returns : goal.returns
unfolding mark_agrees
returns c = c.agree.ensures ∙ ap (λ (m : ℕ). agrees c.args.line.now 0 m 0) (word c)
