-- The index of good records in a journal that is not too long: its entries fit their bytes, and its names are not empty. So that, where it stands
-- at a buffer's front, it is read there. Assumes nothing.
use mathlib.Core.Path.{◌≡◌, refl, ap}
use Prim.Native.Nat.{ℕ, ◌+◌, ◌*◌, ◌≤◌}
use mathlib.Core.List.{List, [], ◌∷◌}
use mathlib.Core.Bool.{true}
use native.Mathlib.Omega.{arith}
use lib.ListN.{length, take, length-append}
use Rattle.journal_spec.specs.Bytes.{AreBytes, joined}
use Rattle.journal_spec.specs.Record.{Record, record_bytes, records_bytes}
use Rattle.journal_spec.specs.Profile.{plain}
use Rattle.journal_spec.specs.Scan.{Placed, max_length, standing, contents_of}
use Rattle.journal_spec.specs.Cursor.{records_in}
use Rattle.journal_spec.specs.Index.{IndexEntry, Order, lower, equal, higher, order_of, index_bytes, in_front, index_of, enroll, fresh_from, fresh_index}
use Rattle.journal_spec.proofs.Ranged.{encoding_length}
use Rattle.journal_spec.proofs.Places.{placed_from}
use Rattle.journal_spec.proofs.Cursor.{AllGood, Cursor}
use Rattle.journal_spec.specs.Indexed.{Before, Rising}
use Rattle.journal_spec.proofs.Indexes.{enroll_before, same_index, amended_is}
use Rattle.journal_spec.proofs.IndexAfter.{enroll_count}
use Rattle.journal_spec.proofs.Pieces.{name_bytes}
use Rattle.journal_spec.proofs.Whole.{committed_bytes}
use Rattle.journal_entries.proofs.Indexed.{Fits, AllFit, IndexHere, index_here}

module _ (new : IndexEntry) where
  enroll_fit : (es : List IndexEntry) → Fits new → AllFit es → AllFit (enroll new es)
  unfolding enroll
  enroll_fit [] f a = (f, tt)
  enroll_fit (e ∷ es) f a = go (enroll_fit es f a.1) (order_of new.name e.name) refl
    where
      go : AllFit (enroll new es) → (o : Order) → order_of new.name e.name ≡ o → AllFit (enroll new (e ∷ es))
      go ih lower k = unfold enroll in rw (k, enroll) (f, a)
      go ih equal k = unfold enroll in rw (k, enroll) a
      go ih higher k = unfold enroll in rw (k, enroll) (a.0, ih)

-- what is known of an index by its records
pub record IndexFit (es : List IndexEntry) : Type 0 where
  pub few : 33 * length es ≤ max_length
  pub fits : AllFit es
  pub named : Before [] es
  pub rising : Rising es

fresh_fits : (at : ℕ) (rs : List Record) → AllGood rs → at + length (records_bytes rs) ≤ max_length → AllFit (fresh_from at rs)
unfolding fresh_from records_bytes joined
fresh_fits at [] g h = tt
fresh_fits at (r ∷ rs) g h =
    let name = g.0.good.name in
    let n = length-append (record_bytes r) (records_bytes rs) in
    enroll_fit (record { name = r.name; start = at }) (fresh_from (at + length (record_bytes r)) rs)
    (record { count = omega (arith, name.most); bytes = name_bytes r.name name.bytes; start = omega (arith, h) })
    (fresh_fits (at + length (record_bytes r)) rs g.1 (omega (arith, h, n)))

fresh_few : (at : ℕ) (rs : List Record) → AllGood rs → 33 * length (fresh_from at rs) ≤ length (records_bytes rs)
unfolding fresh_from records_bytes joined
fresh_few at [] g = omega arith
fresh_few at (r ∷ rs) g =
    omega (
      arith,
      enroll_count (record { name = r.name; start = at }) (fresh_from (at + length (record_bytes r)) rs),
      fresh_few (at + length (record_bytes r)) rs g.1,
      (encoding_length g.0.last r g.0.good).0,
      length-append (record_bytes r) (records_bytes rs),
    )

fresh_named : (at : ℕ) (rs : List Record) → AllGood rs → Before [] (fresh_from at rs)
unfolding fresh_from
fresh_named at [] g = tt
fresh_named at (r ∷ rs) g =
    enroll_before (record { name = r.name; start = at }) [] (fresh_from (at + length (record_bytes r)) rs)
    (some_name r.name g.0.good.name.least) (fresh_named (at + length (record_bytes r)) rs g.1)
  where
    some_name : (name : List ℕ) → 1 ≤ length name → order_of [] name ≡ lower
    some_name [] h = absurd (omega arith)
    some_name (x ∷ xs) h = unfold order_of in refl

-- the index of the records that stand in some bytes
pub index_fits : (b : List ℕ) (rs : List Record) → Cursor b 0 rs → length b ≤ max_length → IndexFit (index_of (placed_from 0 rs))
unfolding fresh_index
index_fits b rs c h =
    let n : length b ≡ length (records_bytes rs) = ap length c.bytes in
    let e = same_index rs in
    record {
      few = rw e (omega (arith, n, fresh_few 0 rs c.good));
      fits = rw e (fresh_fits 0 rs c.good (omega (arith, n)));
      named = rw e (fresh_named 0 rs c.good);
      rising = (amended_is rs).rising;
    }

-- where it is in front of a buffer, it stands there
pub own_here : (b : List ℕ) (rs : List Record) (index : List ℕ) → Cursor b 0 rs → length b ≤ max_length
    → in_front (index_bytes (index_of (placed_from 0 rs))) index ≡ true → IndexHere index (index_of (placed_from 0 rs))
own_here b rs index c h e = let f = index_fits b rs c h in index_here index (index_of (placed_from 0 rs)) e (omega (arith, f.few)) f.fits

-- the same of a journal of a length in a slice
pub own_index_here : (v : List ℕ) (len : ℕ) (ps : List Placed) (committed : ℕ) → AreBytes v → contents_of plain v len ≡ standing ps committed
    → (index : List ℕ) → in_front (index_bytes (index_of ps)) index ≡ true → IndexHere index (index_of ps)
own_index_here v len ps committed b s index h =
    let k = committed_bytes plain v len ps committed b s in
    rw k.places (own_here (take committed v) (records_in (take committed v)) index k.whole.cursor k.whole.short (rw k.places at h))

-- and is no longer than so many records could be
pub own_index_few : (v : List ℕ) (len : ℕ) (ps : List Placed) (committed : ℕ) → AreBytes v → contents_of plain v len ≡ standing ps committed
    → 33 * length (index_of ps) ≤ max_length
own_index_few v len ps committed b s =
    let k = committed_bytes plain v len ps committed b s in
    rw k.places (index_fits (take committed v) (records_in (take committed v)) k.whole.cursor k.whole.short).few
