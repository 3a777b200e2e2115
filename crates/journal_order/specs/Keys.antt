-- A record's key: those of its bytes that decide where its place stands among others.
-- Assumes nothing.
use Rattle.std.specs.Prelude.{ℕ, List, take, drop}
use Rattle.journal_parts.specs.Front.{record_size, record_name}
use Rattle.journal_order.specs.declared.keys.Key.{Key}
use Rattle.journal_order.specs.declared.keys.Key.TheVariants as K

-- by the counts of the record at a place: its name, or all its bytes; none beyond the end of the slice
unfoldable pub key_at : Key → List ℕ → ℕ → List ℕ
key_at K.Name b at = record_name (drop at b)
key_at K.Record b at = take (record_size (drop at b)) (drop at b)
