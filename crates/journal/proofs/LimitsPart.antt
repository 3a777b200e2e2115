-- A record from its limits on: the section that the code reads, by the place of the chances, mean and spread of the times, finds what the
-- record's own section of limits finds. Assumes nothing.
use mathlib.Core.Path.{◌≡◌, refl, sym, ap, ap₂, ◌∙◌}
use Prim.Native.Nat.{ℕ, ◌+◌, ◌*◌, ◌<◌}
use mathlib.Core.List.{List, []}
use mathlib.Core.Bool.{Bool, true, ◌&&◌}
use native.Mathlib.Omega.{arith}
use Rattle.std.specs.Prelude.{Result, Ok, Err}
use lib.ListN.{length, drop, get_or}
use lib.Dec.{leb, eqb}
use borrow.Author.Tests.{eqb-true}
use Rattle.limit.specs.declared.sums.Sums.{Sums}
use Rattle.limit.specs.Formula.{sample_form}
use Rattle.limit.specs.Times.{times_in_range}
use Rattle.limit.specs.Sums.{sums_of}
use Rattle.limit.specs.Limit.{limit_of, moments_of_sums, limit_of_moments}
use Rattle.limit.proofs.Agreement.{limit_of_moments_agrees}
use Rattle.journal_spec.specs.Refusals.{limit_refusal, unless}
use Rattle.journal_spec.specs.Reader.{Reader, done, field, Found, found, fault, short, run}
use Rattle.journal_spec.specs.Section.{items, section}
use Rattle.journal_spec.specs.Record.{limit_section, judge_limit}
use Rattle.journal_spec.specs.Tests.{same}
use Rattle.journal_spec.specs.Profile.{profile_chances, profile_times, in_profile}
use Rattle.journal_spec.specs.Stages.{limit_stage}
use Rattle.journal_spec.proofs.Judging.{unless_none}
use Rattle.journal_spec.proofs.Reading.{after, run_then}
use Rattle.journal.specs.Told.{Stopped, kept_of}
use Rattle.journal.specs.Found.{field_by, limits_read, limit_refusal_at, limit_item, limits_by, limit_section_at}
use Rattle.journal.specs.Records.{entry_of, record_read, Stands}
use Rattle.journal.proofs.Fields.{after_field, by_field, read_value}
use Rattle.journal.proofs.Items.{same_items}
use Rattle.journal.proofs.Flat.{flat_exactly}
use Rattle.journal.proofs.Stopping.{halted_found, halted_kept, halted_after}

-- ---- the answer, taken back

record FoundPlace (f : Found (List ℕ)) (next : ℕ) : Type 0 where
  pub xs : List ℕ
  pub rest : List ℕ
  pub ran : f ≡ found xs next rest

next_found : (f : Found (List ℕ)) (next : ℕ) → Ok next ≡ limits_read f → FoundPlace f next
unfolding kept_of
next_found (found xs at rest) next h =
    let place : next ≡ at = cc in record { xs = xs; rest = rest; ran = ap (λ (e : ℕ). found xs e rest) (sym place) }
next_found (fault n p) next h = let z : ◌≡◌ {A = ℕ} 0 1 = cc in absurd (omega arith)
next_found short next h = let z : ◌≡◌ {A = ℕ} 0 1 = cc in absurd (omega arith)

-- ---- the two sections

module _ (b : List ℕ) (chances n form : ℕ) (sums : Sums) (list times : List ℕ)
    (stand : Stands b chances n list) (good : times_in_range times ≡ true) (total : sums ≡ sums_of times) where
  -- limit i is judged by the limit of the times at chance i
  item_agrees : (xs : List ℕ) → length xs < n → limit_item b chances (moments_of_sums form sums) xs ≡ judge_limit (limit_of form times (get_or list (length xs) 0))
  unfolding limit_item limit_refusal_at
  item_agrees xs h =
      ap judge_limit
      (ap₂ (λ (s : Sums) (c : ℕ). limit_of_moments (moments_of_sums form s) c) total (sym (stand.numbers (length xs) h))
      ∙ sym (limit_of_moments_agrees form times (get_or list (length xs) 0) good))

  items_agree : items 8 (limit_item b chances (moments_of_sums form sums)) n []
      ≡ items 8 (λ before. judge_limit (limit_of form times (get_or list (length before) 0))) n []
  items_agree =
      same_items 8 (limit_item b chances (moments_of_sums form sums)) (λ before. judge_limit (limit_of form times (get_or list (length before) 0))) n n [] item_agrees
      (omega arith)

  module _ (at : ℕ) where
    by_count : (f : Result ℕ Stopped) → f ≡ field_by 2 (λ k. unless (eqb k n) limit_refusal) at b
        → after_field (λ k. items 8 (limit_item b chances (moments_of_sums form sums)) k []) 2 at b f
        ≡ after_field (λ k. items 8 (λ before. judge_limit (limit_of form times (get_or list (length before) 0))) k []) 2 at b f
    unfolding after_field
    by_count (Ok k) e =
        let v = read_value 2 (λ j. unless (eqb j n) limit_refusal) at b k e in
        let same : k ≡ n = eqb-true k n (unless_none (eqb k n) 6 v.good) in
        rw same (ap (λ r. run r (at + 2) (drop (at + 2) b)) items_agree)
    by_count (Err x) e = refl

    sections_agree : run (section (limits_by b n chances (moments_of_sums form sums))) at (drop at b) ≡ run (section (limit_section form list times)) at (drop at b)
    unfolding section limits_by limit_section
    sections_agree =
        let next : ℕ → Reader (List ℕ) = λ k. items 8 (λ before. judge_limit (limit_of form times (get_or list (length before) 0))) k [] in
        by_field 2 (λ k. unless (eqb k n) limit_refusal) (λ k. items 8 (limit_item b chances (moments_of_sums form sums)) k []) at b
        ∙ by_count (field_by 2 (λ k. unless (eqb k n) limit_refusal) at b) refl
        ∙ sym (by_field 2 (λ k. unless (eqb k n) limit_refusal) next at b)
        ∙ ap (λ (m : ℕ). run (field 2 (λ k. unless (eqb k m) limit_refusal) next) at (drop at b)) (sym stand.count)

    -- ---- the record, by the answer of the code's section

    module _ (day : ℕ) (name : List ℕ) (x : Result ℕ Stopped) (read : x ≡ limit_section_at n chances (moments_of_sums form sums) at b) where
      ran : x ≡ limits_read (run (section (limit_section form list times)) at (drop at b))
      unfolding limit_section_at
      ran = read ∙ ap limits_read sections_agree

      pub limits_part_halted : (e : Stopped) → x ≡ Err e → Err e ≡ record_read (run (limit_stage form day name list times) at (drop at b))
      unfolding limit_stage
      limits_part_halted e told =
          halted_kept entry_of e
          ∙ ap record_read
          (sym (run_then (section (limit_section form list times)) _ at (drop at b)
          ∙ ap (after _) (halted_found (λ (xs : List ℕ) (q : ℕ). q) (run (section (limit_section form list times)) at (drop at b)) e (sym told ∙ ran))
          ∙ halted_after _ e))

      pub limits_part_read : (next : ℕ) → x ≡ Ok next
          → (here : Bool) → here ≡ eqb form sample_form && same list profile_chances && leb profile_times sums.count
          → Ok
          (record {
            next = next;
            form = form;
            day = day;
            flat = eqb (sums.count * sums.squares) (sums.sum * sums.sum);
            times = sums.count;
            in_profile = here;
          })
          ≡ record_read (run (limit_stage form day name list times) at (drop at b))
      unfolding limit_stage after kept_of entry_of in_profile run sums_of
      limits_part_read next told here is =
          let f = next_found (run (section (limit_section form list times)) at (drop at b)) next (sym told ∙ ran) in
          rw (is, total, flat_exactly times)
          (ap record_read
          (sym (run_then (section (limit_section form list times)) _ at (drop at b) ∙ ap (after (λ (xs : List ℕ). done (record { form = form; day = day; name = name; chances = list; times = times; limits = xs }))) f.ran)))
