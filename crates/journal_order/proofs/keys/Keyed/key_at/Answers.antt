-- `key_at` takes the bytes from the place on. Assumes nothing.
use mathlib.Core.Path.{◌≡◌, refl, ap, ◌∙◌}
use mathlib.Core.List.{List}
use Prim.Native.Nat.{ℕ}
use lib.ListN.{drop}
use denote.Ref.{Bor}
use Rattle.journal_order.proofs.KeyRead.{read_from, key_name, key_all}
use Rattle.journal_order.proofs.keys.Keyed.key_at.Goals as goal
use Rattle.journal_order.proofs.keys.Keyed.key_at.Goals.{After-unwrap_or-record}

from : (c : After-unwrap_or-record) → c.unwrap_or-record.result.now ≡ drop c.args.at c.args.self.now.bytes.now
from c = ap (λ (x : Bor (List ℕ)). x.now) c.unwrap_or-record.ensures ∙ read_from _ _ _ _ refl c.get.ensures.lookup.0

pub returns-in-Name : goal.returns-in-Name
returns-in-Name c = key_name _ _ _ _ (from (goal.at.returns-in-Name c).After-unwrap_or-record) _ c.in-Name.is c.record_name.ensures

pub returns-in-Record : goal.returns-in-Record
returns-in-Record c = key_all _ _ _ _ (from (goal.at.returns-in-Record c).After-unwrap_or-record) _ c.in-Record.is c.all_of.ensures
