-- An offer that is handed an index, as the definition's request.
-- Assumes nothing.
use Rattle.std.specs.Prelude.{ℕ, List}
use Rattle.std.proofs.Math.Option.{some}
use Rattle.journal_spec.specs.Request.{Request, times}
use Rattle.journal.specs.Handed.{request_by}
use Rattle.journal_index.specs.declared.append.Offer.{Offer}

abbrev pub request_with : Offer → List ℕ → Request
request_with o index = request_by o.asked o.name.now o.chances.now (times o.times.now) (some index)
