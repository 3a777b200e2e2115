-- The size and the name of the record at the front of some bytes, by its counts; 0 and empty where it does not stand.
-- Where a record stands they are its own: laws `front_size` and `front_name`.
use Rattle.std.specs.Prelude.{ℕ, List}
use Rattle.journal_parts.specs.Spans.{next_of, name_span, spans_at, part_of}

unfoldable pub record_size : List ℕ → ℕ
record_size b = next_of (spans_at 0 b).limits

unfoldable pub record_name : List ℕ → List ℕ
record_name b = part_of (name_span 0 b) b
