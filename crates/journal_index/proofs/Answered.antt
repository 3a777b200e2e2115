-- What making an index answers, by its size and the room, and by what the journal holds. Assumes nothing.
use mathlib.Core.Path.{◌≡◌, refl, sym, ◌∙◌}
use Prim.Native.Nat.{ℕ, ◌≤◌, ◌<◌}
use mathlib.Core.List.{List}
use lib.ListN.{length, take}
use borrow.Author.Tests.{le-leb, lt-leb}
use Rattle.journal_spec.specs.Bytes.{AreBytes}
use Rattle.journal_spec.specs.Refusals.{unless}
use Rattle.journal_spec.specs.Profile.{plain}
use Rattle.journal_spec.specs.Scan.{contents_of}
use Rattle.journal_spec.specs.Index.{IndexEntry, index_bytes}
use Rattle.journal_spec.specs.Append.{written, judge_index_room}
use Rattle.journal_spec.specs.MakeIndex.{Made, make_unless, make_from, make_index_of}
use Rattle.journal_spec.proofs.Whole.{Committed, committed_bytes}
use Rattle.std.specs.Prelude.{Result, Ok, Err}
use Rattle.refusals.specs.declared.Refusal.TheVariants as F
use Rattle.journal.specs.declared.Fault.{Fault}
use Rattle.journal.specs.declared.contents.Contents.{Contents}
use Rattle.journal.specs.Told.{by_number}
use Rattle.journal.specs.Contents.{contents_read}
use Rattle.journal.proofs.Answering.{Stood, stood, faulted}
use Rattle.journal_index.specs.Made.{made_meaning, made_outcome}
use Rattle.journal_index.specs.Standing.{index_in}
use Rattle.journal_index.specs.declared.IndexError.TheVariants as E

-- ---- by the room

module _ (es : List IndexEntry) (buffer : List ℕ) (size : ℕ) (is : size ≡ length (index_bytes es)) where
  pub made_short : length buffer < size → made_outcome (Err (E.Declined F.IndexRoom)) buffer ≡ make_unless (judge_index_room es buffer) es buffer
  unfolding made_outcome made_meaning make_unless judge_index_room unless
  made_short h = rw (lt-leb (length (index_bytes es)) (length buffer) (rw is at h), make_unless) refl

  pub made_put : size ≤ length buffer → (after : List ℕ) → after ≡ written buffer 0 (index_bytes es)
      → made_outcome (Ok size) after ≡ make_unless (judge_index_room es buffer) es buffer
  unfolding made_outcome made_meaning make_unless judge_index_room unless
  made_put h after e = rw (le-leb (length (index_bytes es)) (length buffer) (rw is at h), make_unless, e, is) refl

-- ---- by the journal

module _ (v : List ℕ) (len : ℕ) (x : Result Contents Fault) (read : by_number x ≡ contents_read 0 (contents_of plain v len)) where
  module _ (all : AreBytes v) (c : Contents) (told : x ≡ Ok c) where
    pub s : Stood (contents_of plain v len) 0 c
    s = stood plain v len 0 x read c told

    pub upto : Committed v s.ps c.committed
    upto = committed_bytes plain v len s.ps c.committed all s.is

    pub made_standing : (buffer : List ℕ) (out : Made)
        → out ≡ make_unless (judge_index_room (index_in (take c.committed v)) buffer) (index_in (take c.committed v)) buffer
        → out ≡ make_index_of (record { slice = v; len = len }) buffer
    unfolding make_index_of make_from index_in
    made_standing buffer out e = e ∙ sym (rw (s.is, make_from, upto.places) refl)

  pub made_damaged : (f : Fault) → x ≡ Err f → (buffer : List ℕ)
      → made_outcome (Err (E.Damaged f)) buffer ≡ make_index_of (record { slice = v; len = len }) buffer
  unfolding make_index_of make_from made_outcome made_meaning
  made_damaged f told buffer = rw (faulted plain v len 0 x read f told, make_from) refl
