-- Whether a record is one of the profile's, as the code tests it: how many chances there are, how many times, then the four chances.
-- And what a rule makes of a record that was read. Assumes nothing.
use mathlib.Core.Path.{◌≡◌, refl, sym, ap, ◌∙◌}
use Prim.Native.Nat.{ℕ, ◌+◌, ◌*◌, ◌≤◌, ◌<◌}
use mathlib.Core.List.{List, [], ◌∷◌}
use mathlib.Core.Bool.{Bool, true, false, ◌&&◌}
use native.Mathlib.Omega.{arith}
use Rattle.std.specs.Prelude.{Ok, Err}
use lib.ListN.{length, get_or}
use lib.Dec.{leb, eqb}
use borrow.Author.Tests.{le-leb, lt-leb, eq-eqb}
use Rattle.facts.proofs.Tests.{by_test_lem}
use Rattle.limit.specs.Formula.{sample_form}
use Rattle.journal_spec.specs.Bytes.{number_at}
use Rattle.journal_spec.specs.Refusals.{profile_refusal}
use Rattle.journal_spec.specs.Reader.{Found, found, fault, short}
use Rattle.journal_spec.specs.Record.{Record}
use Rattle.journal_spec.specs.Tests.{same}
use Rattle.journal_spec.specs.Profile.{Rule, plain, profile, profile_chances, profile_times, in_profile, keeps}
use Rattle.journal_spec.specs.Scan.{judged}
use Rattle.journal_spec.proofs.Each.{same_lists}
use Rattle.journal.specs.Told.{Stopped, refused, kept_of}
use Rattle.journal.specs.declared.record.Entry.{Entry}
use Rattle.journal.specs.Handed.{kept_by}
use Rattle.journal.specs.Records.{entry_of, record_read, Stands}

-- ---- the tests

pub and_true : (b : Bool) → b && true ≡ b
and_true true = refl
and_true false = refl

module _ (xs : List ℕ) (times : ℕ) where
  pub other_count : (length xs ≡ 4 → ⊥) → false ≡ same xs profile_chances && leb profile_times times
  other_count h =
      by_test_lem (same xs profile_chances)
      (λ t. absurd (h (ap length (same_lists xs profile_chances t))))
      (λ f. rw f refl)

  pub few_times_lem : times < profile_times → false ≡ same xs profile_chances && leb profile_times times
  few_times_lem h = by_test_lem (same xs profile_chances) (λ t. rw (t, lt-leb profile_times times h) refl) (λ f. rw f refl)

  pub by_four : length xs ≡ 4 → profile_times ≤ times
      → same (get_or xs 0 0 ∷ get_or xs 1 0 ∷ get_or xs 2 0 ∷ get_or xs 3 0 ∷ []) profile_chances ≡ same xs profile_chances && leb profile_times times
  by_four n h =
      ap (λ (ys : List ℕ). same ys profile_chances) (four xs n) ∙ sym (rw (le-leb profile_times times h) (and_true (same xs profile_chances)))
    where
      four : (ys : List ℕ) → length ys ≡ 4 → get_or ys 0 0 ∷ get_or ys 1 0 ∷ get_or ys 2 0 ∷ get_or ys 3 0 ∷ [] ≡ ys
      four [] n = absurd (omega arith)
      four (a ∷ []) n = absurd (omega arith)
      four (a ∷ b ∷ []) n = absurd (omega arith)
      four (a ∷ b ∷ c ∷ []) n = absurd (omega arith)
      four (a ∷ b ∷ c ∷ d ∷ []) n = refl
      four (a ∷ b ∷ c ∷ d ∷ e ∷ ys) n = absurd (omega arith)

-- ---- chances that stand in a slice

module _ (b : List ℕ) (at n form times : ℕ) (list : List ℕ) (stand : Stands b at n list) where
  pub by_standing : form ≡ sample_form → n ≡ 4 → profile_times ≤ times
      → same (number_at 4 at b ∷ number_at 4 (at + 4) b ∷ number_at 4 (at + 8) b ∷ number_at 4 (at + 12) b ∷ []) profile_chances
      ≡ eqb form sample_form && same list profile_chances && leb profile_times times
  by_standing f four h =
      let start : at + 0 * 4 ≡ at = omega arith in
      let first : get_or list 0 0 ≡ number_at 4 at b = stand.numbers 0 (omega arith) ∙ ap (λ (k : ℕ). number_at 4 k b) start in
      rw (eq-eqb form sample_form f)
      (rw (← first, ← stand.numbers 1 (omega arith), ← stand.numbers 2 (omega arith), ← stand.numbers 3 (omega arith))
      (by_four list times (stand.count ∙ four) h))

-- ---- a record that was read, by the rule

keeps_by : (rule : Rule) (r : Record) → keeps rule r ≡ kept_by rule (in_profile r)
unfolding keeps kept_by
keeps_by plain r = refl
keeps_by profile r = refl

module _ (rule : Rule) (at : ℕ) where
  pub entry_kept : (f : Found Record) (e : Entry) → Ok e ≡ record_read f → kept_by rule e.in_profile ≡ true
      → Ok e ≡ record_read (judged rule at f)
  unfolding kept_of entry_of judged
  entry_kept (found r next rest) e h k =
      let same : e ≡ entry_of r next = cc in
      rw (keeps_by rule r ∙ ap (λ (x : Entry). kept_by rule x.in_profile) (sym same) ∙ k) h
  entry_kept (fault n p) e h k = h
  entry_kept short e h k = h

  pub entry_broken : (f : Found Record) (e : Entry) → Ok e ≡ record_read f → kept_by rule e.in_profile ≡ false
      → Err (refused (record { number = profile_refusal; place = at })) ≡ record_read (judged rule at f)
  unfolding kept_of entry_of judged
  entry_broken (found r next rest) e h k =
      let same : e ≡ entry_of r next = cc in
      rw (keeps_by rule r ∙ ap (λ (x : Entry). kept_by rule x.in_profile) (sym same) ∙ k) refl
  entry_broken (fault n p) e h k = let z : ◌≡◌ {A = ℕ} 0 1 = cc in absurd (omega arith)
  entry_broken short e h k = let z : ◌≡◌ {A = ℕ} 0 1 = cc in absurd (omega arith)

  pub halted_stays : (f : Found Record) (s : Stopped) → Err s ≡ record_read f → Err s ≡ record_read (judged rule at f)
  unfolding kept_of judged
  halted_stays (found r next rest) s h = let z : ◌≡◌ {A = ℕ} 0 1 = cc in absurd (omega arith)
  halted_stays (fault n p) s h = h
  halted_stays short s h = h
