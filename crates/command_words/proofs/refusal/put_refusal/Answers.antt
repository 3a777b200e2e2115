-- `put_refusal` puts nothing for a number that no u32 is, since no refusal has it.
-- Assumes nothing.
use Rattle.std.proofs.Common.{◌≡◌, ℕ, ◌^◌, ◌≤◌, [], sym, arith}
use Rattle.std.proofs.lemmas.Bool.Decides.{nat_tests}
use Rattle.text_digits.proofs.Putting.{put_as, put_nothing}
use Rattle.command_words.specs.Refusals.{refusal_words}
use Rattle.command_words.proofs.refusal.put_refusal.Goals as goal

no_words : (n : ℕ) → 2 ^ 32 ≤ n → refusal_words n ≡ []
no_words n h = grind (arith, nat_tests)

pub returns-in-Err : goal.returns-in-Err
returns-in-Err c =
    let large : 2 ^ 32 ≤ c.args.number = omega (arith, c.in-Err.ensures) in
    put_as _ _ _ _ _ _ (sym (no_words _ large)) (put_nothing _ _)
