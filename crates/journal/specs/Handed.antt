-- What a call is handed, as the journal's definitions take it: the offer, and the record of it with given limits.
-- The contracts of the check, the writers and append cite these.
use Rattle.std.specs.Prelude.{◌≡◌, ℕ, List, [], ◌∷◌, map, Bool, true, ◌&&◌, length, take, leb, Result}
use Rattle.refusals.specs.declared.Refusal.{Refusal}
use Rattle.journal.specs.Told.{Judged}
use Rattle.std.proofs.Math.Option.{Option}
use Rattle.limit.specs.declared.sums.Sums.{Sums}
use Rattle.limit.specs.Formula.{sample_form}
use Rattle.limit.specs.Answer.{MomentsResult}
use Rattle.limit.specs.Limit.{moments_of_sums, limit_of_moments}
use Rattle.journal_spec.specs.Refusals.{profile_refusal, unless, first_of}
use Rattle.journal_spec.specs.Record.{Record, Last, judge_day, name_section, chance_section, time_section, record_bytes}
use Rattle.journal_spec.specs.Section.{section_refusal}
use Rattle.journal_spec.specs.Tests.{same}
use Rattle.journal_spec.specs.Profile.{profile_chances, profile_times, keeps}
use Rattle.journal_spec.specs.Profile as Profile
use Rattle.journal_spec.specs.Request.{Request, Source, Offer, request_of}
use Rattle.journal_spec.specs.Request as Request
use Rattle.journal_spec.specs.Append.{limit_bits, limits_of, offered, judge_even}
use Rattle.journal.specs.declared.extend.Asked.{Asked}
use Rattle.journal.specs.declared.extend.Budget.{Budget}
use Rattle.journal.specs.declared.extend.Budget.TheVariants as B
use Rattle.journal.specs.declared.profile.Rule.{Rule}
use Rattle.journal.specs.declared.profile.Rule.TheVariants as R

-- document 01's offered leaf, from a call's arguments
unfoldable pub offer_from : ℕ → List ℕ → List ℕ → List ℕ → Offer
offer_from day name chances times = record { day = day; name = name; chances = chances; times = times }

-- how much of the record a call may write, as the definitions say it
unfoldable pub as_budget : Budget → Request.Budget
as_budget B.All = Request.all
as_budget (B.UpTo k) = Request.up_to k

-- the rule by which a journal is read and extended
unfoldable pub as_rule : Rule → Profile.Rule
as_rule R.Plain = Profile.plain
as_rule R.Profile = Profile.profile

-- a record keeps the rule, by whether it is one of the profile's
unfoldable pub kept_by : Profile.Rule → Bool → Bool
kept_by Profile.plain in_profile = true
kept_by Profile.profile in_profile = in_profile

-- the request of what a call asks, with name, chances, source and index
abbrev pub request_by : Asked → List ℕ → List ℕ → Source → Option (List ℕ) → Request
request_by a name chances source index = request_of a.day name chances source (as_budget a.budget) (as_rule a.rule) index

-- the record of the arguments with these limits, of form 2
unfoldable pub record_from : ℕ → List ℕ → List ℕ → List ℕ → List ℕ → Record
record_from day name chances times limits = record {
  form = sample_form;
  day = day;
  name = name;
  chances = chances;
  times = times;
  limits = limits;
}

-- its bytes
abbrev pub bytes_from : ℕ → List ℕ → List ℕ → List ℕ → List ℕ → List ℕ
bytes_from day name chances times limits = record_bytes (record_from day name chances times limits)

-- the bits of the limits from mean and spread, one for each chance in its order
unfoldable pub limits_from : MomentsResult → List ℕ → List ℕ
limits_from w chances = map (λ (c : ℕ). limit_bits (limit_of_moments w c)) chances

-- the refusal of chances and times by a rule, of a record of form 2
unfoldable pub rule_refusal : Profile.Rule → List ℕ → ℕ → ℕ
rule_refusal rule chances times = unless (kept_by rule (same chances profile_chances && leb profile_times times)) profile_refusal

-- chances in range and times with these sums were judged by a rule, and where it does not refuse the limits' bits stand first in `bits`
pub record RuleChecked (rule : Profile.Rule) (s : Sums) (chances : List ℕ) {A : Type 0} (r : Result A Refusal) (bits : List ℕ) : Type 0 where
  pub refusal : Judged r (rule_refusal rule chances s.count)
  pub limits : rule_refusal rule chances s.count ≡ 0 → take (length chances) bits ≡ limits_from (moments_of_sums sample_form s) chances

-- the rows of append's refusals that need no room: 3, 4, 5, 17, 6, 19
unfoldable pub offer_refusals : Profile.Rule → Last → Offer → List ℕ
offer_refusals rule last o =
    judge_day last o.day
    ∷ section_refusal name_section o.name
    ∷ section_refusal chance_section o.chances
    ∷ judge_even o.chances
    ∷ section_refusal time_section o.times
    ∷ unless (keeps rule (offered o)) profile_refusal
    ∷ []

-- the offer was judged by these after the record `last`, and where there is no refusal the limits' bits stand first in `bits`
pub record OfferChecked (rule : Profile.Rule) (last : Last) (o : Offer) {A : Type 0} (r : Result A Refusal) (bits : List ℕ) : Type 0 where
  pub refusal : Judged r (first_of (offer_refusals rule last o))
  pub limits : first_of (offer_refusals rule last o) ≡ 0 → take (length o.chances) bits ≡ limits_of o.times o.chances
