-- `is_help` compares the word with `--help`.
-- Assumes nothing.
use Rattle.command_io.specs.Arguments.{word_help, is_help}
use Rattle.command_io.proofs.help.is_help.Goals as goal

pub returns : goal.returns
unfolding is_help word_help
returns c = c.same.ensures
