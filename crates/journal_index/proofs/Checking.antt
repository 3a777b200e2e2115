-- `check_index` by what the pass over the journal answered: a fault, or the bytes up to the committed length, whose index is told.
-- Assumes nothing.
use mathlib.Core.Path.{◌≡◌, refl, sym, ap, ◌∙◌}
use Prim.Native.Nat.{ℕ, ◌≤◌, ◌<◌}
use mathlib.Core.List.{List}
use mathlib.Core.Bool.{Bool, cond}
use lib.ListN.{length, take, get_or}
use Rattle.std.specs.Prelude.{Result, Ok, Err}
use Rattle.refusals.specs.Refusals.{number_of}
use Rattle.journal_spec.specs.Profile.{plain}
use Rattle.journal_spec.specs.Scan.{Placed, contents_of}
use Rattle.journal_spec.specs.Scan as Scan
use Rattle.journal_spec.specs.Index.{index_bytes, in_front, index_of}
use Rattle.journal_spec.specs.CheckIndex.{own, declined, damaged, check_from, check_index_of}
use Rattle.journal_spec.proofs.Numbers.{are_bytes}
use Rattle.journal_spec.proofs.Whole.{WholeBytes, Committed, committed_bytes}
use Rattle.journal.specs.declared.Fault.{Fault}
use Rattle.journal.specs.declared.contents.Contents.{Contents}
use Rattle.journal.specs.declared.profile.Rule.TheVariants as R
use Rattle.journal.specs.Handed.{as_rule}
use Rattle.journal.specs.Told.{by_number}
use Rattle.journal.specs.Contents.{contents_read}
use Rattle.journal.proofs.Answering as Answering
use Rattle.journal.proofs.Answering.{Stood, stood}
use Rattle.journal_index.specs.Standing.{index_in}

module _ (v : List ℕ) (len : ℕ) (index : List ℕ) (x : Result Contents Fault) (read : by_number x ≡ contents_read 0 (contents_of (as_rule R.Plain) v len)) where
  plain_read : by_number x ≡ contents_read 0 (contents_of plain v len)
  plain_read = read ∙ unfold as_rule in refl

  module _ (bytes : (i : ℕ) → get_or v i 0 < 256) (c : Contents) (told : x ≡ Ok c) where
    stood_here : Stood (contents_of plain v len) 0 c
    stood_here = stood plain v len 0 x plain_read c told

    committed_here : Committed v stood_here.ps c.committed
    committed_here = committed_bytes plain v len stood_here.ps c.committed (are_bytes v bytes) stood_here.is

    -- the bytes up to the committed length are a whole journal
    pub stands_fits : c.committed ≤ length v
    stands_fits = committed_here.fits

    pub stands_whole : WholeBytes (take c.committed v)
    stands_whole = committed_here.whole

    pub stands_checked : (t : Bool) → t ≡ in_front (index_bytes (index_in (take c.committed v))) index
        → cond t own (declined 14) ≡ check_index_of (record { slice = v; len = len }) index
    unfolding check_index_of check_from index_in
    stands_checked t e =
        ap (λ (s : Bool). cond s own (declined 14))
        (e ∙ ap (λ (ps : List Placed). in_front (index_bytes (index_of ps)) index) (sym committed_here.places))
        ∙ ap (λ (k : Scan.Contents). check_from k index) (sym stood_here.is)

  pub damaged_checked : (f : Fault) → x ≡ Err f → damaged (number_of f.refusal) f.place ≡ check_index_of (record { slice = v; len = len }) index
  unfolding check_index_of check_from
  damaged_checked f told = ap (λ (k : Scan.Contents). check_from k index) (sym (Answering.faulted plain v len 0 x plain_read f told))
