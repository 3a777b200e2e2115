-- The entries of an index one after the other, as a loop goes over the places of their records: the size so far, and what stands in the buffer.
-- Assumes nothing.
use mathlib.Core.Path.{◌≡◌, refl, sym, ap, ap₂, ◌∙◌}
use Prim.Native.Nat.{ℕ, ◌+◌, ◌≤◌, ◌<◌}
use mathlib.Core.List.{List, [], ◌∷◌, ◌++◌, map, map-append, append_assoc, append-nil}
use mathlib.Core.Logic.{⊎_elim}
use native.Mathlib.Omega.{arith}
use lib.ListN.{length, take, drop, get_or, length-append, length-map, take-append-drop}
use lib.Seq.{drop_at, length-take-le, take_all}
use Rattle.text_digits.specs.Text.{Put}
use Rattle.text_digits.proofs.Putting.{put_whole}
use Rattle.journal_spec.specs.Bytes.{bytes_of, joined}
use Rattle.journal_spec.specs.Record.{Record, record_bytes, records_bytes}
use Rattle.journal_spec.specs.Cursor.{records_in}
use Rattle.journal_spec.specs.Index.{IndexEntry, entry_bytes, index_bytes, amend, entry_of, amend_all, index_of}
use Rattle.journal_spec.specs.Append.{written}
use Rattle.journal_spec.proofs.Numbers.{length_bytes}
use Rattle.journal_spec.proofs.Records.{length_record}
use Rattle.journal_spec.proofs.Placing.{written_length}
use Rattle.journal_spec.proofs.Writing.{written_nil, written_two}
use Rattle.journal_spec.proofs.Places.{placed_from}
use Rattle.journal_spec.proofs.Whole.{WholeBytes}
use Rattle.journal_spec.specs.Index.{entries_size}
use Rattle.journal_spec.proofs.IndexLoop.{entry_size, entries_size_lem, index_size, size_append, entries_append, amend_size}
use Rattle.journal_parts.specs.Front.{record_name}
use Rattle.journal_entries.proofs.Putting.{put_written}
use Rattle.journal_order.proofs.Taking.{take_more}
use Rattle.journal_index.specs.Standing.{index_in}
use Rattle.journal_index.specs.Places.{entry_at, entries_of, Named}

-- ---- sizes

size_snoc : (es : List IndexEntry) (e : IndexEntry) → entries_size (es ++ e ∷ []) ≡ entries_size es + (6 + length e.name)
unfolding entries_size
size_snoc es e = size_append es (e ∷ []) ∙ omega arith

-- an entry is shorter than its record
amended_size : (at : ℕ) (es : List IndexEntry) (rs : List Record) → entries_size (amend_all es (placed_from at rs)) ≤ entries_size es + length (records_bytes rs)
unfolding placed_from amend_all entry_of records_bytes joined
amended_size at es [] = omega arith
amended_size at es (r ∷ rs) =
    let new : IndexEntry = record { name = r.name; start = at } in
    let n = amended_size (at + length (record_bytes r)) (amend new es) rs in
    let m : entries_size (amend new es) ≤ entries_size es + (6 + length r.name) =
    ⊎_elim (λ h. omega (arith, h)) (λ h. omega (arith, h)) (amend_size new es) in
    omega (arith, n, m, length_record r, length-append (record_bytes r) (records_bytes rs))

module _ (b : List ℕ) (w : WholeBytes b) where
  pub size_most : length (index_bytes (index_in b)) ≤ 2 + length b
  unfolding index_in index_of entries_size
  size_most = omega (arith, index_size (index_in b), amended_size 0 [] (records_in b), ap length w.cursor.bytes)

-- ---- a walk over the entries

entries_count : (b ps : List ℕ) → length (entries_of b ps) ≡ length ps
unfolding entries_of
entries_count b ps = length-map ps (entry_at b)

-- one place more
entries_more : (b ps : List ℕ) (i : ℕ) → i < length ps → entries_of b (take (i + 1) ps) ≡ entries_of b (take i ps) ++ entry_at b (get_or ps i 0) ∷ []
unfolding entries_of
entries_more b ps i h = ap (map (entry_at b)) (take_more ps i h) ∙ map-append (entry_at b) (take i ps) (get_or ps i 0 ∷ [])

all_entries : (b ps : List ℕ) (i : ℕ) → entries_of b ps ≡ entries_of b (take i ps) ++ entries_of b (drop i ps)
unfolding entries_of
all_entries b ps i = ap (map (entry_at b)) (sym (take-append-drop i ps)) ∙ map-append (entry_at b) (take i ps) (drop i ps)

-- the first i are passed
pub record Sizing (b ps : List ℕ) (size i : ℕ) : Type 0 where
  pub within : i ≤ length ps
  pub size' : size ≡ 2 + entries_size (entries_of b (take i ps))

pub sizing_start : (b ps : List ℕ) → Sizing b ps 2 0
unfolding entries_size entries_of
sizing_start b ps = record { within = omega arith; size' = refl }

module _ (b ps : List ℕ) (named : Named b ps) (size i : ℕ) (v : Sizing b ps size i) where
  module _ (h : i < length ps) where
    grows : size + (6 + length (record_name (drop (get_or ps i 0) b))) ≡ 2 + entries_size (entries_of b (take (i + 1) ps))
    unfolding entry_at
    grows =
        omega (arith, v.size', ap entries_size (entries_more b ps i h), size_snoc (entries_of b (take i ps)) (entry_at b (get_or ps i 0)))

    pub sizing_next : Sizing b ps (size + (6 + length (record_name (drop (get_or ps i 0) b)))) (i + 1)
    sizing_next = record { within = omega arith; size' = grows }

    pub sizing_fits : size + (6 + length (record_name (drop (get_or ps i 0) b))) ≤ length (index_bytes (index_in b))
    sizing_fits =
        omega (
          arith,
          grows,
          index_size (index_in b),
          ap entries_size (sym named.is ∙ all_entries b ps (i + 1)),
          size_append (entries_of b (take (i + 1) ps)) (entries_of b (drop (i + 1) ps)),
        )

  pub sizing_end : length ps ≤ i → size ≡ length (index_bytes (index_in b))
  sizing_end h =
      omega (arith, v.size', index_size (index_in b), ap entries_size (ap (entries_of b) (take_all i ps h) ∙ named.is))

-- ---- the entries put into a buffer

entries_snoc : (es : List IndexEntry) (e : IndexEntry) → joined (map entry_bytes (es ++ e ∷ [])) ≡ joined (map entry_bytes es) ++ entry_bytes e
unfolding joined
entries_snoc es e = entries_append es (e ∷ []) ∙ ap (λ (l : List ℕ). joined (map entry_bytes es) ++ l) (append-nil (entry_bytes e))

index_is : (es : List IndexEntry) → index_bytes es ≡ bytes_of 2 (length es) ++ joined (map entry_bytes es)
unfolding index_bytes
index_is es = refl

-- a count put in front of what stands behind it
counted : (d : List ℕ) (front new : List ℕ) → length front ≡ 2 → 2 ≤ length d → written (written d 2 new) 0 front ≡ written d 0 (front ++ new)
unfolding written
counted d front new n h =
    let t : length (take 2 d) ≡ 2 = length-take-le 2 d h in
    let z : 0 + length front ≡ 2 = omega (arith, n) in
    let s : drop (0 + length front) (take 2 d ++ (new ++ drop (2 + length new) d)) ≡ new ++ drop (2 + length new) d =
    ap (λ (k : ℕ). drop k (take 2 d ++ (new ++ drop (2 + length new) d))) z ∙ drop_at (take 2 d) (new ++ drop (2 + length new) d) 2 t in
    let k : 2 + length new ≡ 0 + length (front ++ new) = omega (arith, n, length-append front new) in
    ap (λ (l : List ℕ). front ++ l) s
    ∙ ap (λ (m : ℕ). front ++ (new ++ drop m d)) k
    ∙ sym (append_assoc front new (drop (0 + length (front ++ new)) d))

-- the entries passed stand in the buffer, behind room for their count
pub record Putting (b ps before out : List ℕ) (n i : ℕ) : Type 0 where
  pub sizing : Sizing b ps n i
  pub bytes : out ≡ written before 2 (joined (map entry_bytes (entries_of b (take i ps))))
  pub size : length out ≡ length before

pub putting_start : (b ps before : List ℕ) → Putting b ps before before 2 0
unfolding joined entries_of
putting_start b ps before = record { sizing = sizing_start b ps; bytes = sym (written_nil before 2); size = refl }

module _ (b ps before out : List ℕ) (n i : ℕ) (named : Named b ps) (room : length (index_bytes (index_in b)) ≤ length before)
    (p : Putting b ps before out n i) where
  two : 2 ≤ length before
  two = omega (arith, room, index_size (index_in b))

  module _ (inside : i < length ps) where
    abbrev at : ℕ
    at = get_or ps i 0

    pub putting_fits : n + (6 + length (record_name (drop (get_or ps i 0) b))) ≤ length (index_bytes (index_in b))
    putting_fits = sizing_fits b ps named n i p.sizing inside

    -- the entry of the record is put
    module _ (after : List ℕ) (m : ℕ) (put : Put out n (entry_bytes (record { name = record_name (drop (get_or ps i 0) b); start = get_or ps i 0 })) after m) where
      abbrev entry : IndexEntry
      entry = record { name = record_name (drop at b); start = at }

      fits : n + length (entry_bytes entry) ≤ length out
      fits = omega (arith, entry_size entry, putting_fits, room, p.size)

      pub putting_place : m ≡ n + (6 + length (record_name (drop (get_or ps i 0) b)))
      putting_place = omega (arith, (put_whole out n (entry_bytes entry) after m put fits).end, entry_size entry)

      pub putting_turn : Putting b ps before after m (i + 1)
      unfolding entry_at
      putting_turn =
          let es : List IndexEntry = entries_of b (take i ps) in
          let old : List ℕ = joined (map entry_bytes es) in
          let new : List ℕ = entry_bytes entry in
          let place : n ≡ 2 + length old = p.sizing.size' ∙ ap (λ (k : ℕ). 2 + k) (sym (entries_size_lem es)) in
          rw putting_place (record {
            sizing = sizing_next b ps named n i p.sizing inside;
            bytes = put_written out n new after m put fits ∙ ap (λ (d : List ℕ). written d n new) p.bytes
                ∙ ap (λ (k : ℕ). written (written before 2 old) k new) place ∙ written_two before 2 old new two
                ∙ ap (written before 2) (sym (entries_snoc es entry))
                ∙ ap (λ (l : List IndexEntry). written before 2 (joined (map entry_bytes l))) (sym (entries_more b ps i inside));
            size = (put_whole out n new after m put fits).size ∙ p.size;
          })

  -- all are put, then their count in front
  pub putting_end : length ps ≤ i → (after : List ℕ) (m : ℕ) → Put out 0 (bytes_of 2 (length ps)) after m
      → (after ≡ written before 0 (index_bytes (index_in b))) × (length after ≡ length before)
  putting_end h after m put =
      let all : entries_of b (take i ps) ≡ index_in b = ap (entries_of b) (take_all i ps h) ∙ named.is in
      let e : after ≡ written out 0 (bytes_of 2 (length ps)) =
      put_written out 0 (bytes_of 2 (length ps)) after m put (omega (arith, length_bytes 2 (length ps), two, p.size)) in
      let is : after ≡ written before 0 (index_bytes (index_in b)) =
      e ∙ ap₂ (λ (d : List ℕ) (k : ℕ). written d 0 (bytes_of 2 k)) (p.bytes ∙ ap (λ (l : List IndexEntry). written before 2 (joined (map entry_bytes l))) all)
      (sym count)
      ∙ counted before (bytes_of 2 (length (index_in b))) (joined (map entry_bytes (index_in b))) (length_bytes 2 _) two
      ∙ ap (written before 0) (sym (index_is (index_in b))) in
      (is, ap length is ∙ written_length before 0 (index_bytes (index_in b)) (omega (arith, room)))
    where
      count : length (index_in b) ≡ length ps
      count = ap length (sym named.is) ∙ entries_count b ps
