-- `expects` compares the number that stands there, if one does. Assumes nothing.
use Rattle.std.proofs.Common.{◌≡◌, ℕ, eqb, false, refl}
use Rattle.std.specs.Prelude.{Option, None, Some}
use Rattle.std.specs.Option.{option_eq}
use Rattle.replay_lines.specs.Lines.{after_field}
use Rattle.replay_cases.specs.Line.{stands}
use Rattle.replay_cases.proofs.line.expects.Goals as goal

compared : (o : Option ℕ) (n : ℕ) → option_eq eqb o (Some n) ≡ after_field false o (λ x. eqb x n)
unfolding after_field
compared None n = refl
compared (Some x) n = refl

pub returns : goal.returns
unfolding stands
returns c = rw (c.eq.ensures, c.number_at.ensures) (compared _ _)
