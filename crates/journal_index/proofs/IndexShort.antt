-- No volume's index is longer than 38,914 bytes: an entry has at most 38 bytes for 64 of its record. So a buffer of as many bytes never lacks room
-- for an index that is made. Assumes nothing.
use mathlib.Core.Path.{◌≡◌, refl, ap}
use Prim.Native.Nat.{ℕ, zero, suc, ◌+◌, ◌*◌, ◌≤◌}
use mathlib.Core.List.{List, [], ◌∷◌}
use native.Mathlib.Omega.{arith}
use borrow.Author.Tests.{le-leb}
use lib.Dec.{leb}
use lib.ListN.{length, take, length-append}
use Rattle.journal_spec.specs.Bytes.{AreBytes, joined}
use Rattle.journal_spec.specs.Ranges.{RecordRanges}
use Rattle.journal_spec.specs.Record.{Record, record_bytes, records_bytes, Last}
use Rattle.journal_spec.specs.Profile.{plain}
use Rattle.journal_spec.specs.Scan.{Contents, standing, faulty, contents_of}
use Rattle.journal_spec.specs.Cursor.{records_in}
use Rattle.journal_spec.specs.Index.{IndexEntry, Order, lower, equal, higher, order_of, index_bytes, entries_size, index_of, enroll, fresh_from, fresh_index}
use Rattle.journal_spec.specs.Append.{judge_index_room}
use Rattle.journal_spec.specs.MakeIndex.{declined, make_unless, make_from, make_index_of}
use Rattle.journal_spec.proofs.Records.{length_record}
use Rattle.journal_spec.proofs.Cursor.{AllGood}
use Rattle.journal_spec.proofs.Indexes.{same_index}
use Rattle.journal_spec.proofs.Judging.{unless_true}
use Rattle.journal_spec.proofs.Whole.{WholeBytes, committed_bytes}
use Rattle.journal_spec.proofs.IndexLoop.{index_size}
use Rattle.journal_index.specs.Begun.{max_index}
use Rattle.journal_index.specs.Standing.{index_in}

-- ---- entries by their records

enroll_size : (new : IndexEntry) (es : List IndexEntry) → entries_size (enroll new es) ≤ 6 + length new.name + entries_size es
unfolding enroll entries_size
enroll_size new [] = omega arith
enroll_size new (e ∷ es) = go (enroll_size new es) (order_of new.name e.name) refl
  where
    go : entries_size (enroll new es) ≤ 6 + length new.name + entries_size es → (o : Order) → order_of new.name e.name ≡ o
        → entries_size (enroll new (e ∷ es)) ≤ 6 + length new.name + (6 + length e.name + entries_size es)
    go ih lower k = unfold enroll entries_size in rw (k, enroll) (omega arith)
    go ih equal k = unfold enroll entries_size in rw (k, enroll) (omega arith)
    go ih higher k = unfold enroll entries_size in rw (k, enroll) (omega (arith, ih))

-- 6 and the name's bytes to 32 and the name's bytes, which are 32 at most
entry_share : (last : Last) (r : Record) → RecordRanges last r → 64 * (6 + length r.name) ≤ 38 * length (record_bytes r)
entry_share last r g = omega (arith, length_record r, g.name.most, g.chances.least, g.times.least, g.limit_count)

fresh_size : (at : ℕ) (rs : List Record) → AllGood rs → 64 * entries_size (fresh_from at rs) ≤ 38 * length (records_bytes rs)
unfolding fresh_from records_bytes joined entries_size
fresh_size at [] g = omega arith
fresh_size at (r ∷ rs) g =
    omega (
      arith,
      enroll_size (record { name = r.name; start = at }) (fresh_from (at + length (record_bytes r)) rs),
      fresh_size (at + length (record_bytes r)) rs g.1,
      entry_share g.0.last r g.0.good,
      length-append (record_bytes r) (records_bytes rs),
    )

-- ---- an index made afresh

pub index_short : (b : List ℕ) → WholeBytes b → length (index_bytes (index_in b)) ≤ max_index
unfolding index_in fresh_index
index_short b w =
    let n : length b ≡ length (records_bytes (records_in b)) = ap length w.cursor.bytes in
    let size = index_size (fresh_index (records_in b)) in
    rw (same_index (records_in b)) (omega (arith, n, size, w.short, fresh_size 0 (records_in b) w.cursor.good))

-- in a buffer of so many bytes it is made, unless the volume is damaged
pub make_has_room : (slice : List ℕ) (len : ℕ) (b : List ℕ) → AreBytes slice → max_index ≤ length b
    → (n : ℕ) → (make_index_of (record { slice = slice; len = len }) b).answer ≡ declined n → ⊥
unfolding make_index_of make_from make_unless judge_index_room
make_has_room slice len b bytes room n = go (contents_of plain slice len) refl
  where
    none : (refusal : ℕ) (es : List IndexEntry) → refusal ≡ 0 → (make_unless refusal es b).answer ≡ declined n → ⊥
    none zero es z e = let z : ◌≡◌ {A = ℕ} 0 1 = cc in omega arith
    none (suc k) es z e = omega (arith, z)

    go : (x : Contents) → contents_of plain slice len ≡ x → (make_from x b).answer ≡ declined n → ⊥
    go (faulty m p) h e = let z : ◌≡◌ {A = ℕ} 0 1 = cc in omega arith
    go (standing ps committed) h e =
        let k = committed_bytes plain slice len ps committed bytes h in
        let short : length (index_bytes (index_of ps)) ≤ max_index = rw k.places (unfold index_in in index_short (take committed slice) k.whole) in
        none (judge_index_room (index_of ps) b) (index_of ps)
        (unless_true (leb (length (index_bytes (index_of ps))) (length b)) 15 (le-leb (length (index_bytes (index_of ps))) (length b) (omega (arith, short, room))))
        e
