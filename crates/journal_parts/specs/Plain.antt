-- A record that a scan has judged is read again without judging it: the same fields, none of them refused.
-- Where the record's reader finds a record, this finds the same one (law `plain_finds`), and no limit is worked out again.
use Rattle.std.specs.Prelude.{ℕ, List, [], drop}
use Rattle.journal_spec.specs.Reader.{Reader, done, field, Found, run}
use Rattle.journal_spec.specs.Record.{Record, last_of, record_reader}

-- a reader with every refusal taken out
unfoldable pub unjudged : {A : Type 0} → Reader A → Reader A
unjudged (done a) = done a
unjudged (field w refusal next) = field w (λ v. 0) (λ v. unjudged (next v))

-- the record that stands at a place, whatever its values: nothing is judged, so that the record before it does not matter
unfoldable pub plain_record_at : ℕ → List ℕ → Found Record
plain_record_at at b = run (unjudged (record_reader (last_of []))) at (drop at b)
