-- What each case of the code's answers is in the index's definition.
-- Assumes nothing.
use Rattle.std.specs.Prelude.{ℕ, Option, Some, None}
use Rattle.std.proofs.Math.Option as maybe
use Rattle.std.specs.declared.cmp.Ordering.{Ordering}
use Rattle.std.specs.declared.cmp.Ordering.TheVariants.{Less, Equal, Greater}
use Rattle.journal_spec.specs.Index.{Order, lower, equal, higher}

unfoldable pub order_meaning : Ordering → Order
order_meaning Less = lower
order_meaning Equal = equal
order_meaning Greater = higher

unfoldable pub start_meaning : Option ℕ → maybe.Option ℕ
start_meaning (Some n) = maybe.some n
start_meaning None = maybe.none
