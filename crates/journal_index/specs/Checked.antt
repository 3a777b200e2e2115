-- What `check_index` answers, in the definition's words.
-- Assumes nothing.
use Rattle.std.specs.Prelude.{Result, Ok, Err}
use Rattle.refusals.specs.Refusals.{number_of}
use Rattle.journal_spec.specs.CheckIndex.{IndexCheck, own, declined, damaged}
use Rattle.journal_index.specs.declared.IndexError.{IndexError}
use Rattle.journal_index.specs.declared.IndexError.TheVariants as E

unfoldable pub check_meaning : Result (Unit {0}) IndexError → IndexCheck
check_meaning (Ok u) = own
check_meaning (Err (E.Declined r)) = declined (number_of r)
check_meaning (Err (E.Damaged f)) = damaged (number_of f.refusal) f.place
