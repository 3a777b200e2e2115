-- An offer's refusals in document 01's order, as the code finds them: each one holds where those before it do not.
-- Assumes nothing.
use mathlib.Core.Path.{◌≡◌, refl, sym, ap, subst, ◌∙◌}
use Prim.Native.Nat.{ℕ, ◌≤◌, ◌<◌}
use mathlib.Core.Bool.{Bool, true, false, ◌&&◌, not}
use mathlib.Core.List.{List}
use native.Mathlib.Omega.{arith}
use Rattle.std.specs.Prelude.{Result, Ok, Err}
use Rattle.refusals.specs.declared.Refusal.{Refusal}
use Rattle.refusals.specs.declared.Refusal.TheVariants as R
use Rattle.refusals.specs.Refusals.{number_of}
use lib.ListN.{length, take, drop}
use lib.Dec.{leb}
use borrow.Author.Tests.{le-leb, lt-leb, not-true, not-false}
use Rattle.limit.specs.declared.sums.Sums.{Sums}
use Rattle.limit.specs.Times.{min_count, max_count}
use Rattle.limit.specs.Sums.{sums_of, gathered_meaning, gather_of}
use Rattle.limit.specs.Answer.{times_refusal, MomentsResult}
use Rattle.limit.specs.Formula.{sample_form}
use Rattle.limit.specs.Limit.{moments_of_sums}
use Rattle.limit.proofs.Gathered.{gathered_within, gathered_outside}
use Rattle.journal_spec.specs.Refusals.{day_refusal, profile_refusal, unless, first_of}
use Rattle.journal_spec.specs.Section.{section_refusal}
use Rattle.journal_spec.specs.Record.{Last, judge_day, name_section, chance_section, time_section, min_name, max_name, min_chances, max_chances}
use Rattle.journal_spec.specs.Tests.{same}
use Rattle.journal_spec.specs.Profile.{Rule, plain, profile, profile_chances, profile_times, in_profile, keeps}
use Rattle.journal_spec.specs.Request.{Offer}
use Rattle.journal_spec.specs.Append.{offered, judge_even}
use Rattle.journal_spec.proofs.Judging.{unless_true, unless_false, first_none, outside_none}
use Rattle.journal_spec.proofs.SameRefusals.{time_refused}
use Rattle.journal_spec.proofs.Limits.{times_good_lem}
use Rattle.journal.specs.Told.{Judged}
use Rattle.journal.specs.Handed.{kept_by, limits_from, rule_refusal, RuleChecked, offer_refusals, OfferChecked}
use Rattle.journal.proofs.Checking.{first_this, first_later, first_alone}
use Rattle.journal.proofs.WorkedOut.{limits_from_lem}

-- ---- the counts of sections that are not refused

pub name_few : (xs : List ℕ) → section_refusal name_section xs ≡ 0 → length xs ≤ max_name
unfolding section_refusal name_section
name_few xs e = (outside_none min_name max_name 3 (length xs) (first_none _ _ e).0).1

pub chances_few : (xs : List ℕ) → section_refusal chance_section xs ≡ 0 → length xs ≤ max_chances
unfolding section_refusal chance_section
chances_few xs e = (outside_none min_chances max_chances 4 (length xs) (first_none _ _ e).0).1

times_few : (xs : List ℕ) → section_refusal time_section xs ≡ 0 → length xs ≤ max_count
unfolding section_refusal time_section
times_few xs e = (outside_none min_count max_count 5 (length xs) (first_none _ _ e).0).1

-- how many there are of what an offer holds that is not refused
pub record Few (o : Offer) : Type 0 where
  pub name : length o.name ≤ max_name
  pub chances : length o.chances ≤ max_chances
  pub times : length o.times ≤ max_count

pub offer_few : (rule : Rule) (last : Last) (o : Offer) → first_of (offer_refusals rule last o) ≡ 0 → Few o
unfolding offer_refusals
offer_few rule last o e =
    let day = first_none (judge_day last o.day) _ e in
    let name = first_none (section_refusal name_section o.name) _ day.1 in
    let chances = first_none (section_refusal chance_section o.chances) _ name.1 in
    let even = first_none (judge_even o.chances) _ chances.1 in
    let times = first_none (section_refusal time_section o.times) _ even.1 in
    record { name = name_few o.name name.0; chances = chances_few o.chances chances.0; times = times_few o.times times.0 }

-- ---- the rule

-- an offered record is of form 2, so that its chances and times decide whether it is one of the profile's
pub offered_rule : (rule : Rule) (o : Offer) → unless (keeps rule (offered o)) profile_refusal ≡ rule_refusal rule o.chances (length o.times)
unfolding keeps in_profile offered rule_refusal kept_by
offered_rule plain o = refl
offered_rule profile o = refl

-- `here` is whether it is one of the profile's, `kept` whether it keeps the rule
module _ (rule : Rule) (s : Sums) (chances bits : List ℕ) (here kept : Bool)
    (is : here ≡ same chances profile_chances && leb profile_times s.count) (by : kept ≡ kept_by rule here) where
  row : (t : Bool) → kept ≡ t → unless t profile_refusal ≡ rule_refusal rule chances s.count
  unfolding rule_refusal
  row t e = ap (λ (b : Bool). unless b profile_refusal) (sym e ∙ by ∙ ap (kept_by rule) is)

  pub rule_broken : not kept ≡ true → RuleChecked rule s chances {A = Unit {0}} (Err R.Profile) bits
  unfolding unless
  rule_broken e =
      let own : profile_refusal ≡ rule_refusal rule chances s.count = row false (not-true kept e) in
      record { refusal = (own, omega (arith, own)); limits = λ h. absurd (omega (arith, own, h)) }

  pub rule_kept : not kept ≡ false → (w : MomentsResult) → w ≡ moments_of_sums sample_form s → take (length chances) bits ≡ limits_from w chances
      → RuleChecked rule s chances {A = Unit {0}} (Ok tt) bits
  unfolding unless
  rule_kept e w m worked = record {
    refusal = sym (row true (not-false kept e));
    limits = λ h. worked ∙ ap (λ (x : MomentsResult). limits_from x chances) m;
  }

-- ---- one refusal after another

-- the rows before the i-th refuse nothing, so that the others decide
abbrev Reached : Rule → Last → Offer → ℕ → Type 0
Reached rule last o i = first_of (offer_refusals rule last o) ≡ first_of (drop i (offer_refusals rule last o))

module _ (rule : Rule) (last : Last) (o : Offer) (bits : List ℕ) where
  abbrev Declined : Refusal → Type 0
  Declined r = OfferChecked rule last o {A = Unit {0}} (Err r) bits

  -- a refusal leaves nothing to say of the limits
  refused_by_lem : (r : Refusal) → 0 < number_of r → number_of r ≡ first_of (offer_refusals rule last o) → Declined r
  refused_by_lem r h e = record { refusal = (e, omega (arith, h, e)); limits = λ z. absurd (omega (arith, h, e, z)) }

  pub day_refused : o.day < last.day → Declined R.Day
  unfolding offer_refusals judge_day
  day_refused h =
      refused_by_lem R.Day (omega arith)
      (first_this day_refusal _ _ (omega arith) (sym (unless_false (leb last.day o.day) day_refusal (lt-leb last.day o.day h))))

  module _ (d : last.day ≤ o.day) where
    after_day : Reached rule last o 1
    unfolding offer_refusals judge_day
    after_day = first_later _ _ (unless_true (leb last.day o.day) day_refusal (le-leb last.day o.day d))

    pub name_refused : (r : Refusal) → Judged {A = Unit {0}} (Err r) (section_refusal name_section o.name) → Declined r
    unfolding offer_refusals
    name_refused r j =
        let some : 0 < number_of r = omega (arith, j.0, j.1) in
        refused_by_lem r some (first_this (number_of r) _ _ some j.0 ∙ sym after_day)

    module _ (n : section_refusal name_section o.name ≡ 0) where
      after_name : Reached rule last o 2
      unfolding offer_refusals
      after_name = after_day ∙ first_later _ _ n

      pub chances_refused : (r : Refusal) → Judged {A = Unit {0}} (Err r) (section_refusal chance_section o.chances) → Declined r
      unfolding offer_refusals
      chances_refused r j =
          let some : 0 < number_of r = omega (arith, j.0, j.1) in
          refused_by_lem r some (first_this (number_of r) _ _ some j.0 ∙ sym after_name)

      module _ (c : section_refusal chance_section o.chances ≡ 0) where
        after_chances : Reached rule last o 3
        unfolding offer_refusals
        after_chances = after_name ∙ first_later _ _ c

        pub even_refused : (r : Refusal) → Judged {A = Unit {0}} (Err r) (judge_even o.chances) → Declined r
        unfolding offer_refusals
        even_refused r j =
            let some : 0 < number_of r = omega (arith, j.0, j.1) in
            refused_by_lem r some (first_this (number_of r) _ _ some j.0 ∙ sym after_chances)

      module _ (c : section_refusal chance_section o.chances ≡ 0) (v : judge_even o.chances ≡ 0)
          (g : Result Sums Refusal) (read : gathered_meaning g ≡ gather_of o.times) where
        after_even : Reached rule last o 4
        unfolding offer_refusals
        after_even = after_chances c ∙ first_later _ _ v

        pub times_refused : (r : Refusal) → g ≡ Err r → Declined r
        unfolding offer_refusals
        times_refused r told =
            let bad = gathered_outside o.times g read r told in
            let e : number_of r ≡ section_refusal time_section o.times =
            bad.1 ∙ sym (time_refused o.times ∙ unless_false _ times_refusal (times_good_lem o.times ∙ bad.0)) in
            let some : 0 < number_of r = omega (arith, bad.1) in
            refused_by_lem r some (first_this (number_of r) _ _ some e ∙ sym after_even)

        pub rule_judged : (s : Sums) → g ≡ Ok s → (r : Result (Unit {0}) Refusal) → RuleChecked rule s o.chances r bits → OfferChecked rule last o r bits
        unfolding offer_refusals sums_of
        rule_judged s told r j =
            let within = gathered_within o.times g read s told in
            let t : section_refusal time_section o.times ≡ 0 =
            time_refused o.times ∙ unless_true _ times_refusal (times_good_lem o.times ∙ within.inside) in
            let rule' = ap (λ (x : Sums). rule_refusal rule o.chances x.count) within.sums ∙ sym (offered_rule rule o) in
            let whole : rule_refusal rule o.chances s.count ≡ first_of (offer_refusals rule last o) =
            rule' ∙ sym (after_even ∙ first_later _ _ t ∙ first_alone _) in
            record {
              refusal = subst (λ (k : ℕ). Judged r k) whole j.refusal;
              limits = λ z.
                  j.limits (whole ∙ z) ∙ limits_from_lem (moments_of_sums sample_form s) s o.times o.chances refl within.inside within.sums;
            }
