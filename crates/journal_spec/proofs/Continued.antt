-- Demand 3 goes on from every journal that scan does not call damaged, whatever the forms of its records and whether its end is torn: the model
-- starts with the records that stand and the bytes behind them. Assumes nothing.
use mathlib.Core.Path.{◌≡◌, refl, sym, ap, ◌∙◌}
use Prim.Native.Nat.{ℕ, ◌+◌}
use mathlib.Core.List.{List}
use native.Mathlib.Omega.{arith}
use lib.ListN.{length, take, drop, length-append}
use lib.Seq.{drop_at, length-take-le}
use Rattle.journal_spec.specs.Bytes.{AreBytes}
use Rattle.journal_spec.specs.Record.{records_bytes}
use Rattle.journal_spec.specs.Profile.{plain}
use Rattle.journal_spec.specs.Scan.{Placed, records_of, standing, contents_of}
use Rattle.journal_spec.specs.Calls.{Call, operations}
use Rattle.journal_spec.specs.Model.{Model, committed_of}
use Rattle.journal_spec.specs.Demand.{Demand3From}
use Rattle.journal_spec.proofs.Places.{records_of_placed}
use Rattle.journal_spec.proofs.Placing.{lengths_are}
use Rattle.journal_spec.proofs.Explained.{holding}
use Rattle.journal_spec.proofs.Demand.{Holds, demand3_from}

module _ (slice : List ℕ) (len : ℕ) (ps : List Placed) (committed : ℕ) (b : AreBytes slice) (e : contents_of plain slice len ≡ standing ps committed) where
  -- the records that stand and what is behind them
  abbrev pub standing_model : Model
  standing_model = record { records = records_of ps; tail = drop committed (take len slice) }

  pub holds_standing : Holds (length slice) (record { slice = slice; len = len }) standing_model
  unfolding committed_of
  holds_standing =
      let x = holding slice len ps committed b e in
      let records : records_of ps ≡ x.records = ap records_of x.places ∙ records_of_placed 0 x.records in
      let tail : drop committed (take len slice) ≡ x.tail =
      ap (drop committed) x.bytes ∙ drop_at (records_bytes x.records) x.tail committed (sym x.upto) in
      let size : len ≡ length (records_bytes x.records) + length x.tail =
      sym (length-take-le len slice x.fits) ∙ ap length x.bytes ∙ length-append (records_bytes x.records) x.tail in
      rw (records, tail)
      (record {
        slice = refl;
        len = omega (arith, size, lengths_are x.records);
        fits = x.fits;
        most = x.most;
        bytes = x.bytes;
        follow = x.follow;
        torn = x.torn;
      })

  pub demand3_continued : (cs : List Call) → Demand3From operations (length slice) (record { slice = slice; len = len }) standing_model cs
  demand3_continued cs = demand3_from (length slice) (record { slice = slice; len = len }) standing_model holds_standing cs
