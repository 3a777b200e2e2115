-- Soundness of scan: what it accepts is its records' encodings end to end and then the torn tail, so that no accepted byte is unexplained.
-- The torn tail has no fault in the fields that stand; it need not be the start of a record that could be finished (a first chance of
-- 999,999 of two has none above it). Assumes nothing.
use mathlib.Core.Path.{◌≡◌, refl, sym, ap, ◌∙◌}
use Prim.Native.Nat.{ℕ, zero, suc, ◌+◌, ◌-◌, ◌≤◌, ◌<◌, min}
use mathlib.Core.List.{List, [], ◌∷◌, ◌++◌, append_assoc, append-nil}
use mathlib.Core.Bool.{Bool, true, false, cond}
use native.Mathlib.Omega.{arith}
use native.Mathlib.Nat.{zero-add, add_assoc}
use lib.ListN.{length, take, length-append, length-take}
use lib.Seq.{append_snoc, length-take-le}
use lib.Dec.{leb, eqb}
use borrow.Author.Tests.{leb-true, leb-false, eqb-true, eqb-false}
use Rattle.journal_spec.specs.Bytes.{AreBytes, joined}
use Rattle.journal_spec.specs.Reader.{Found, found, fault, short}
use Rattle.journal_spec.specs.Record.{Record, last_of, record_bytes, records_bytes}
use Rattle.journal_spec.specs.Scan.{max_length, Placed, records_of, Contents, standing, faulty, record_at, contents_from, contents_of, whole, torn}
use Rattle.journal_spec.specs.Scan.{status_of, scan_of}
use Rattle.journal_spec.specs.Profile.{plain}
use Rattle.journal_spec.proofs.Numbers.{bytes_take}
use Rattle.journal_spec.proofs.Reading.{short_anywhere}
use Rattle.journal_spec.specs.Ranges.{AllRanges}
use Rattle.journal_spec.proofs.Records.{RecordRead, record_read_lem, record_length}
use Rattle.journal_spec.proofs.Ranged.{good_exactly}
use Rattle.journal_spec.proofs.Scanning.{Torn, torn_none, records_of_snoc, turn_short, turn_fault}
use Rattle.journal_spec.proofs.Places.{placed_from, length_placed}
use Rattle.journal_spec.proofs.Scanning.{found_at, short_at, turn_found, contents_fits, contents_long}

-- the bytes from the place `at` on, after the records of ps: further records, each in its place, and a torn tail
pub record Explained (ps : List Placed) (at : ℕ) (bs : List ℕ) (qs : List Placed) (committed : ℕ) : Type 0 where
  pub records : List Record
  pub tail : List ℕ
  pub bytes : bs ≡ records_bytes records ++ tail
  pub places : qs ≡ ps ++ placed_from at records
  pub upto : committed ≡ at + length (records_bytes records)
  pub follow : AllRanges (records_of ps) records
  pub torn : Torn (records_of ps ++ records) tail

standing_not_faulty : {ps : List Placed} {c n p : ℕ} → faulty n p ≡ standing ps c → ⊥
standing_not_faulty h = let z : ◌≡◌ {A = ℕ} 0 1 = cc in omega arith

-- nothing more is found
stops : (ps : List Placed) (at : ℕ) (bs : List ℕ) (qs : List Placed) (c : ℕ) → Torn (records_of ps) bs
    → standing ps at ≡ standing qs c → Explained ps at bs qs c
unfolding placed_from records_bytes joined
stops ps at bs qs c t h =
    let p : ps ≡ qs = cc in
    let q : at ≡ c = cc in
    record {
      records = [];
      tail = bs;
      bytes = refl;
      places = sym p ∙ sym (append-nil ps);
      upto = omega arith;
      follow = tt;
      torn = rw append-nil t;
    }

-- one more record is found, and what follows it is explained
goes_on : (ps : List Placed) (at : ℕ) (bs : List ℕ) (r : Record) (e : ℕ) (rest : List ℕ) (qs : List Placed) (c : ℕ)
    → RecordRead (last_of (records_of ps)) r at bs e rest
    → Explained (ps ++ record { content = r; start = at; size = e - at } ∷ []) e rest qs c → Explained ps at bs qs c
unfolding placed_from records_bytes joined
goes_on ps at bs r e rest qs c read x =
    let n : ℕ = length (record_bytes r) in
    let p : Placed = record { content = r; start = at; size = e - at } in
    let snoc : records_of (ps ++ p ∷ []) ≡ records_of ps ++ r ∷ [] = records_of_snoc ps p in
    let size : e - at ≡ n = omega (arith, read.place) in
    record {
      records = r ∷ x.records;
      tail = x.tail;
      bytes = read.bytes ∙ ap (λ (l : List ℕ). record_bytes r ++ l) x.bytes ∙ sym (append_assoc (record_bytes r) (records_bytes x.records) x.tail);
      places = x.places
          ∙ append_snoc ps p (placed_from e x.records)
          ∙ rw (size, read.place) refl;
      upto = x.upto ∙ rw (read.place, length-append, add_assoc) refl;
      follow = ((good_exactly (last_of (records_of ps)) r).0 read.good, rw snoc at x.follow);
      torn = rw (snoc, append_snoc) at x.torn;
    }

-- one turn of the scan, by what the record's reader finds; the turns after it are explained
module _ (more : ℕ) (qs : List Placed) (c : ℕ)
    (later : (ps : List Placed) (at : ℕ) (bs : List ℕ) → AreBytes bs → length bs ≤ more → contents_from plain more ps at bs ≡ standing qs c
    → Explained ps at bs qs c)
    (ps : List Placed) (at : ℕ) (bs : List ℕ) (b : AreBytes bs) (n : length bs ≤ suc more) (h : contents_from plain (suc more) ps at bs ≡ standing qs c) where
  one_turn : (f : Found Record) → record_at plain (last_of (records_of ps)) at bs ≡ f → Explained ps at bs qs c
  one_turn (found r e rest) ran =
      let read = record_read_lem (last_of (records_of ps)) at bs r e rest b (found_at plain (last_of (records_of ps)) at bs r e rest ran).0 in
      let size = record_length (last_of (records_of ps)) r read.good in
      let count : length bs ≡ length (record_bytes r) + length rest = ap length read.bytes ∙ length-append (record_bytes r) rest in
      let z : suc more - 1 ≡ more = omega arith in
      goes_on ps at bs r e rest qs c read
      (later (ps ++ record { content = r; start = at; size = e - at } ∷ []) e rest read.left (omega (arith, size, count))
      (rw z at (sym (turn_found plain (suc more) ps at bs r e rest ran (omega arith)) ∙ h)))
  one_turn (fault m p) ran = absurd (standing_not_faulty (sym (turn_fault plain (suc more) ps at bs m p ran (omega arith)) ∙ h))
  one_turn short ran =
      stops ps at bs qs c (record { runs_out = λ place. short_anywhere _ at place bs (short_at plain (last_of (records_of ps)) at bs ran) })
      (sym (turn_short plain (suc more) ps at bs ran) ∙ h)

pub explained_from : (more : ℕ) (qs : List Placed) (c : ℕ) (ps : List Placed) (at : ℕ) (bs : List ℕ) → AreBytes bs → length bs ≤ more
    → contents_from plain more ps at bs ≡ standing qs c → Explained ps at bs qs c
explained_from zero qs c ps at [] b n h = unfold contents_from in stops ps at [] qs c (torn_none (records_of ps)) h
explained_from zero qs c ps at (x ∷ bs) b n h = absurd (omega arith)
explained_from (suc more) qs c ps at bs b n h =
    one_turn more qs c (explained_from more qs c) ps at bs b n h (record_at plain (last_of (records_of ps)) at bs) refl

-- ---- a slice

-- what a slice holds up to a length, where scan finds no fault: records, each in its place, then a torn tail, and nothing else
pub record Holding (slice : List ℕ) (len : ℕ) (ps : List Placed) (committed : ℕ) : Type 0 where
  pub records : List Record
  pub tail : List ℕ
  pub fits : len ≤ length slice
  pub most : len ≤ max_length
  pub bytes : take len slice ≡ records_bytes records ++ tail
  pub places : ps ≡ placed_from 0 records
  pub upto : committed ≡ length (records_bytes records)
  pub follow : AllRanges [] records
  pub torn : Torn records tail

pub holding : (slice : List ℕ) (len : ℕ) (ps : List Placed) (committed : ℕ) → AreBytes slice
    → contents_of plain slice len ≡ standing ps committed → Holding slice len ps committed
unfolding records_of
holding slice len ps committed b h = go (leb len (min (length slice) max_length)) refl
  where
    go : (t : Bool) → leb len (min (length slice) max_length) ≡ t → Holding slice len ps committed
    go false e = absurd (standing_not_faulty (sym (contents_long plain slice len (leb-false len (min (length slice) max_length) e)) ∙ h))
    go true e =
        let k = leb-true len (min (length slice) max_length) e in
        let x = explained_from len ps committed [] 0 (take len slice) (bytes_take len slice b) (rw length-take (omega arith))
        (sym (contents_fits plain slice len (omega arith) (omega arith)) ∙ h) in
        record {
          records = x.records;
          tail = x.tail;
          fits = omega arith;
          most = omega arith;
          bytes = x.bytes;
          places = x.places;
          upto = x.upto ∙ zero-add (length (records_bytes x.records));
          follow = x.follow;
          torn = x.torn;
        }

-- ---- the answers

-- the same by scan's answer: as many records, and their length
pub record Accepts (slice : List ℕ) (len n committed : ℕ) (tail : List ℕ) : Type 0 where
  pub records : List Record
  pub number : n ≡ length records
  pub upto : committed ≡ length (records_bytes records)
  pub bytes : take len slice ≡ records_bytes records ++ tail
  pub follow : AllRanges [] records
  pub torn : Torn records tail

accepts : (slice : List ℕ) (len : ℕ) (ps : List Placed) (committed n c : ℕ) (tail : List ℕ) → (x : Holding slice len ps committed)
    → length ps ≡ n → committed ≡ c → x.tail ≡ tail → Accepts slice len n c tail
accepts slice len ps committed n c tail x number upto same = record {
  records = x.records;
  number = sym number ∙ ap length x.places ∙ length_placed 0 x.records;
  upto = sym upto ∙ x.upto;
  bytes = x.bytes ∙ ap (λ (l : List ℕ). records_bytes x.records ++ l) same;
  follow = x.follow;
  torn = rw same at x.torn;
}

-- the length is that of the records and the torn tail
pub tail_length : (slice : List ℕ) (len : ℕ) (ps : List Placed) (committed : ℕ) → (x : Holding slice len ps committed) → len ≡ committed + length x.tail
tail_length slice len ps committed x =
    sym (length-take-le len slice x.fits) ∙ ap length x.bytes ∙ length-append (records_bytes x.records) x.tail ∙ rw (← x.upto) refl

some : (committed len k : ℕ) → len ≡ committed + k → (committed ≡ len → ⊥) → 0 < k
some committed len zero e differs = absurd (differs (omega arith))
some committed len (suc k) e differs = omega arith

nothing : (l : List ℕ) → length l ≡ 0 → l ≡ []
nothing [] h = refl
nothing (x ∷ l) h = absurd (omega arith)

-- scan says whole: the bytes up to the length are the records' encodings and nothing else
pub whole_explained : (slice : List ℕ) (len n c : ℕ) → AreBytes slice → scan_of plain slice len ≡ whole n c → Accepts slice len n c [] × (c ≡ len)
unfolding scan_of status_of
whole_explained slice len n c b h = go (contents_of plain slice len) refl h
  where
    go : (x : Contents) → contents_of plain slice len ≡ x → status_of len x ≡ whole n c → Accepts slice len n c [] × (c ≡ len)
    go (faulty m p) e h = let z : ◌≡◌ {A = ℕ} 0 1 = cc in absurd (omega arith)
    go (standing ps committed) e h = by_test (eqb committed len) refl h
      where
        by_test : (t : Bool) → eqb committed len ≡ t → cond t (whole (length ps) committed) (torn (length ps) committed) ≡ whole n c
            → Accepts slice len n c [] × (c ≡ len)
        by_test false q h = let z : ◌≡◌ {A = ℕ} 0 1 = cc in absurd (omega arith)
        by_test true q h =
            let x = holding slice len ps committed b e in
            let all : committed ≡ len = eqb-true committed len q in
            let none : x.tail ≡ [] = nothing x.tail (omega (arith, all, tail_length slice len ps committed x)) in
            let number : length ps ≡ n = cc in
            let upto : committed ≡ c = cc in
            (accepts slice len ps committed n c [] x number upto none, sym upto ∙ all)

-- scan says torn: they are the records' encodings and then a torn tail that is not empty
pub torn_explained : (slice : List ℕ) (len n c : ℕ) → AreBytes slice → scan_of plain slice len ≡ torn n c
    → (tail : List ℕ) × (0 < length tail) × Accepts slice len n c tail
unfolding scan_of status_of
torn_explained slice len n c b h = go (contents_of plain slice len) refl h
  where
    go : (x : Contents) → contents_of plain slice len ≡ x → status_of len x ≡ torn n c → (tail : List ℕ) × (0 < length tail) × Accepts slice len n c tail
    go (faulty m p) e h = let z : ◌≡◌ {A = ℕ} 0 1 = cc in absurd (omega arith)
    go (standing ps committed) e h = by_test (eqb committed len) refl h
      where
        by_test : (t : Bool) → eqb committed len ≡ t → cond t (whole (length ps) committed) (torn (length ps) committed) ≡ torn n c
            → (tail : List ℕ) × (0 < length tail) × Accepts slice len n c tail
        by_test true q h = let z : ◌≡◌ {A = ℕ} 0 1 = cc in absurd (omega arith)
        by_test false q h =
            let x = holding slice len ps committed b e in
            let number : length ps ≡ n = cc in
            let upto : committed ≡ c = cc in (
              x.tail,
              some committed len (length x.tail) (tail_length slice len ps committed x) (eqb-false committed len q),
              accepts slice len ps committed n c x.tail x number upto refl,
            )
