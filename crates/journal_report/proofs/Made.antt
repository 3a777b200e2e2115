-- An index that is made afresh is the journal's own, in front of its buffer, so that the laws of the report hold of it. Assumes nothing.
use mathlib.Core.Path.{◌≡◌, refl, ap, ◌∙◌}
use Prim.Native.Nat.{ℕ, zero, suc}
use mathlib.Core.Bool.{true}
use mathlib.Core.List.{List}
use native.Mathlib.Omega.{arith}
use native.Mathlib.Nat.{zero-add}
use lib.ListN.{length, drop}
use lib.Seq.{take_at}
use Rattle.journal_spec.specs.Profile.{plain}
use Rattle.journal_spec.specs.Scan.{Contents, standing, faulty, contents_of, scan_of}
use Rattle.journal_spec.specs.Index.{IndexEntry, index_bytes, in_front, index_of}
use Rattle.journal_spec.specs.Append.{written, judge_index_room}
use Rattle.journal_spec.specs.MakeIndex.{made, declined, damaged, Made, make_unless, make_from, make_index_of}
use Rattle.journal_spec.proofs.Each.{same_self}
use Rattle.journal.specs.Answers.{meaning}
use Rattle.journal.specs.declared.Status.{Status}
use Rattle.journal_entries.specs.Entries.{entries_in}
use Rattle.journal_index.specs.Made.{made_meaning, made_outcome}
use Rattle.std.specs.Prelude.{Result}
use Rattle.journal_index.specs.declared.IndexError.{IndexError}
use Rattle.journal_report.specs.Report.{OwnIndex, width_of}
use Rattle.journal_report.specs.Begin.{names_made, Begins}

module _ (room index : List ℕ) (n : ℕ) where
  -- bytes written at the front stand there
  front : (new : List ℕ) → in_front new (written room 0 new) ≡ true
  unfolding in_front written
  front new = rw (zero-add (length new), take_at new (drop (length new) room) (length new) refl) (same_self new)

  by_room : (k : ℕ) (es : List IndexEntry) → make_unless k es room ≡ record { answer = made n; buffer = index } → in_front (index_bytes es) index ≡ true
  unfolding make_unless
  by_room zero es h = let same : written room 0 (index_bytes es) ≡ index = ap (λ (m : Made). m.buffer) h in rw (← same) (front (index_bytes es))
  by_room (suc k) es h =
      let e : declined (suc k) ≡ made n = ap (λ (m : Made). m.answer) h in let z : ◌≡◌ {A = ℕ} 0 1 = cc in absurd (omega arith)

  pub made_own : (v : List ℕ) (len : ℕ) → make_index_of (record { slice = v; len = len }) room ≡ record { answer = made n; buffer = index } → OwnIndex v len index
  unfolding make_index_of
  made_own v len e = go (contents_of plain v len) refl e
    where
      go : (c : Contents) → contents_of plain v len ≡ c → make_from c room ≡ record { answer = made n; buffer = index } → OwnIndex v len index
      go (faulty m p) k h =
          unfold make_from in
          let e : damaged m p ≡ made n = ap (λ (x : Made). x.answer) h in let z : ◌≡◌ {A = ℕ} 0 1 = cc in absurd (omega arith)
      go (standing ps committed) k h =
          record { records = ps; committed = committed; stands = k; own = unfold make_from in by_room (judge_index_room (index_of ps) room) (index_of ps) h }

-- what a report begins with, by what the one pass answered and left
pub begins : (v before after : List ℕ) (status : Status) (answer : Result ℕ IndexError) (names width : ℕ) → meaning status ≡ scan_of plain v (length v)
    → made_outcome answer after ≡ make_index_of (record { slice = v; len = length v }) before → names ≡ names_made (made_meaning answer) after
    → width ≡ width_of (entries_in after) → Begins v before after (record { status = status; names = names; width = width })
unfolding made_outcome
begins v before after status answer names width s m n w = record {
  status = s;
  index = ap (λ (x : Made). x.buffer) m;
  names = n ∙ ap (λ (x : Made). names_made x.answer after) m;
  width = w;
}
