-- `moments_in` asks `moments_at` where the record's sections stand, and refuses where they do not.
-- Assumes nothing.
use mathlib.Core.Path.{◌≡◌, ◌∙◌}
use Rattle.std.specs.Prelude.{Some, None}
use Rattle.limit.specs.Answer.{moments_meaning}
use Rattle.journal_parts.specs.Spans.{spans_at, all_of}
use Rattle.journal_parts.proofs.Insides.{standing}
use Rattle.journal_listing.proofs.There.{moments_none, moments_there}
use Rattle.journal_listing.proofs.moments.moments_in.Goals as goal

pub moments_at-requires : goal.moments_at-requires
moments_at-requires c =
    let stand : all_of (spans_at c.args.at c.args.b.now) ≡ Some c.in-Some.s = cc in
    let k = standing _ _ _ stand in
    (k.head, k.times)

pub returns-in_default : goal.returns-in_default
unfolding moments_meaning
returns-in_default c =
    let none : all_of (spans_at c.args.at c.args.b.now) ≡ None = cc in
    moments_none _ _ none

pub returns : goal.returns
returns c =
    let stand : all_of (spans_at c.args.at c.args.b.now) ≡ Some c.in-Some.s = cc in
    c.moments_at.ensures ∙ moments_there _ _ _ stand
