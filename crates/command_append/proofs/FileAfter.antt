-- What `Extends` gives the program: the part that the file gets is the offered record, whole, from the committed length on, and the file with
-- it is the journal of the new length. Where nothing is written the answer is no part, and the slice is as before. Assumes nothing.
use Rattle.std.proofs.Common.{◌≡◌, ℕ, ◌-◌, ◌<◌, Result, Ok, Err, List, ◌++◌, take, drop, sym, refl, ap, ◌∙◌, arith, take-take}
use mathlib.Core.Option.{Option}
use Rattle.journal_spec.specs.Record.{record_bytes}
use Rattle.journal_spec.specs.Profile.{Rule}
use Rattle.journal_spec.specs.Scan.{scan_of}
use Rattle.journal_spec.specs.Request.{Offer, extended, Outcome}
use Rattle.journal_spec.specs.Append.{offered}
use Rattle.journal_spec.proofs.Writing.{written_nil}
use Rattle.journal_spec.proofs.Placing.{written_take}
use Rattle.journal.specs.declared.AppendError.{AppendError}
use Rattle.command_append.specs.declared.extend.Extension.{Extension}
use Rattle.journal.specs.Answers.{append_meaning, outcome_with}
use Rattle.command_append.specs.Extension.{committed_in, start_in, end_in, part_in, start_of, end_of, append_all, Extends}
use Rattle.command_append.proofs.WrittenPart.{Extended, append_extended, offered_length, Unwritten, empty}

module _ (slice : List ℕ) (len : ℕ) (rule : Rule) (o : Offer) (i : Option (List ℕ)) (r : Result Extension AppendError) (after : List ℕ) (k : Option (List ℕ))
    (x : Extends slice len rule o i r after k) where
  -- ---- where the append extends the journal
  module _ (n : ℕ) (told : (append_all slice len rule o i).answer ≡ extended n) where
    all : Extended slice len rule o n (append_all slice len rule o i).journal.slice
    all = append_extended slice len rule o i n told

    pub part_starts : start_of r ≡ committed_in (scan_of rule slice len)
    unfolding start_in
    part_starts = x.starts ∙ rw told refl

    pub part_ends : end_of r ≡ n
    unfolding end_in
    part_ends = x.ends ∙ rw told refl

    pub part_is_record : take (end_of r - start_of r) (drop (start_of r) after) ≡ record_bytes (offered o)
    unfolding part_in
    part_is_record = x.part ∙ rw told refl

    -- the part has the record's bytes: it is not empty
    pub part_not_empty : start_of r < end_of r
    part_not_empty = omega (arith, part_starts, part_ends, all.place, offered_length o)

    -- the program writes where the answer is a part: here it is one, and no error
    pub answer_is_part : (error : AppendError) → r ≡ Err error → ⊥
    answer_is_part error h =
        let none : 0 < 0 = rw h at part_not_empty in
        omega (arith, none)

    -- the file held the journal; cut at the part's start, with the part behind it, it holds the journal of the new length
    pub file_after : take (start_of r) (take len slice) ++ take (end_of r - start_of r) (drop (start_of r) after) ≡ take n after
    unfolding outcome_with
    file_after =
        let same : after ≡ (append_all slice len rule o i).journal.slice = ap (λ (y : Outcome). y.journal.slice) x.outcome in
        rw (part_is_record, part_starts, take-take _ _ slice all.kept, same ∙ all.bytes, all.place)
        (sym (written_take slice _ (record_bytes (offered o)) (omega (arith, all.place, all.room))))

  -- ---- where it is declined or the journal is damaged
  pub nothing_written : Unwritten (append_all slice len rule o i).answer → (start_of r ≡ end_of r) × (after ≡ slice)
  nothing_written u =
      let none = empty (scan_of rule slice len) o (append_all slice len rule o i).answer u in
      (x.starts ∙ none.starts ∙ sym (x.ends ∙ none.ends), x.rest ∙ rw none.part (written_nil slice (start_of r)))

  -- the answer is then no part, so that the program writes nothing
  pub answer_is_error : Unwritten (append_all slice len rule o i).answer → (part : Extension) → r ≡ Ok part → ⊥
  unfolding outcome_with append_meaning
  answer_is_error u part h = u part.end (sym (ap (λ (y : Outcome). y.answer) x.outcome) ∙ rw h refl)
