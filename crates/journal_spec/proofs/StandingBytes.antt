-- Where a name's standing record is among a journal's bytes: they are parted by it at the start that the index has for the name.
-- Assumes nothing.
use mathlib.Core.Path.{◌≡◌, refl, sym, ap, ◌∙◌}
use Prim.Native.Nat.{ℕ, ◌<◌}
use mathlib.Core.List.{List, [], ◌∷◌, ◌++◌, append_assoc}
use mathlib.Core.Option.{some}
use native.Mathlib.Omega.{arith}
use lib.ListN.{length, drop, get_or, take-append-drop}
use Rattle.journal_spec.specs.Bytes.{AreBytes, joined}
use Rattle.journal_spec.specs.Record.{Record, Last, record_bytes, records_bytes}
use Rattle.journal_spec.specs.Ranges.{RecordRanges}
use Rattle.journal_spec.specs.Profile.{plain}
use Rattle.journal_spec.specs.Scan.{Placed, records_of, standing, contents_of}
use Rattle.journal_spec.specs.Index.{index_of}
use Rattle.journal_spec.proofs.Placing.{lengths_are}
use Rattle.journal_spec.proofs.Places.{records_of_placed}
use Rattle.journal_spec.proofs.Explained.{Holding, holding}
use Rattle.journal_spec.specs.Indexed.{look_up, Rising, last_named, standing_at}
use Rattle.journal_spec.proofs.Indexes.{amended_is}
use Rattle.journal_spec.proofs.Scanning.{in_ranges}
use Rattle.journal_spec.proofs.Standing.{no_entry, own_start, StandsAt, last_stands, standing_at_lem}

records_append : (xs : List Record) (r : Record) (ys : List Record) → records_bytes (xs ++ r ∷ ys) ≡ records_bytes xs ++ (record_bytes r ++ records_bytes ys)
unfolding records_bytes joined
records_append [] r ys = refl
records_append (x ∷ xs) r ys =
    ap (λ (l : List ℕ). record_bytes x ++ l) (records_append xs r ys) ∙ sym (append_assoc (record_bytes x) (records_bytes xs) (record_bytes r ++ records_bytes ys))

module _ (v : List ℕ) (len : ℕ) (ps : List Placed) (committed : ℕ) where
  -- the last record of a name, with the bytes before and behind it
  pub record StandingBytes (name : List ℕ) (start : ℕ) : Type 0 where
    pub shown : Record
    pub last : Last
    pub ranges : RecordRanges last shown
    pub front : List ℕ
    pub back : List ℕ
    pub bytes : v ≡ front ++ (record_bytes shown ++ back)
    pub place : start ≡ length front
    pub named : shown.name ≡ name
    pub is : last_named name (records_of ps) ≡ some shown

  parted : (x : Holding v len ps committed) (name : List ℕ) (s : ℕ) (t : StandsAt name 0 x.records s)
      → v ≡ records_bytes t.front ++ (record_bytes t.shown ++ (records_bytes t.back ++ (x.tail ++ drop len v)))
  parted x name s t =
      sym (take-append-drop len v)
      ∙ ap (λ (l : List ℕ). l ++ drop len v) (x.bytes ∙ ap (λ (l : List Record). records_bytes l ++ x.tail) t.parts
      ∙ ap (λ (l : List ℕ). l ++ x.tail) (records_append t.front t.shown t.back))
      ∙ append_assoc (records_bytes t.front ++ (record_bytes t.shown ++ records_bytes t.back)) x.tail (drop len v)
      ∙ append_assoc (records_bytes t.front) (record_bytes t.shown ++ records_bytes t.back) (x.tail ++ drop len v)
      ∙ ap (λ (l : List ℕ). records_bytes t.front ++ l) (append_assoc (record_bytes t.shown) (records_bytes t.back) (x.tail ++ drop len v))

  module _ (b : AreBytes v) (s : contents_of plain v len ≡ standing ps committed) where
    pub index_rises : Rising (index_of ps)
    index_rises = let x = holding v len ps committed b s in rw x.places (amended_is x.records).rising

    -- of a name that the index has
    pub last_bytes : (name : List ℕ) (start : ℕ) → look_up name (index_of ps) ≡ some start → StandingBytes name start
    last_bytes name start h =
        let x = holding v len ps committed b s in
        let same : records_of ps ≡ x.records = ap records_of x.places ∙ records_of_placed 0 x.records in
        let t =
        last_stands name 0 x.records start
        (sym ((amended_is x.records).has name) ∙ ap (λ (qs : List Placed). look_up name (index_of qs)) (sym x.places) ∙ h) in
        let g = in_ranges [] t.front t.shown t.back (rw t.parts at x.follow) in
        record {
          shown = t.shown;
          last = g.0;
          ranges = g.1;
          front = records_bytes t.front;
          back = records_bytes t.back ++ (x.tail ++ drop len v);
          bytes = parted x name start t;
          place = t.place ∙ omega (arith, lengths_are t.front);
          named = t.named;
          is = ap (last_named name) same ∙ t.last;
        }

    -- and of each position's
    pub standing_bytes : (i : ℕ) → i < length (index_of ps) → StandingBytes (get_or (index_of ps) i no_entry).name (get_or (index_of ps) i no_entry).start
    standing_bytes i h = last_bytes _ _ (own_start (index_of ps) i index_rises h)

    pub standing_there : (i : ℕ) (h : i < length (index_of ps)) → standing_at (records_of ps) (index_of ps) i ≡ some (standing_bytes i h).shown
    standing_there i h = standing_at_lem (records_of ps) (index_of ps) i h ∙ (standing_bytes i h).is
