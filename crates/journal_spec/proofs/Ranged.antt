-- The model's tests pass exactly where document 01's ranges hold, and a record that nothing refuses is exactly one that keeps them.
-- Assumes nothing.
use mathlib.Core.Path.{◌≡◌, refl, sym, ap, ap₂, ◌∙◌}
use mathlib.Core.Logic.{◌↔◌}
use Prim.Native.Nat.{ℕ, zero, suc, ◌+◌, ◌≤◌, ◌<◌}
use mathlib.Core.List.{List, [], ◌∷◌, ◌++◌, map}
use mathlib.Core.Bool.{Bool, true, false, not, ◌&&◌, ◌||◌}
use mathlib.Core.Option.{Option, none, some}
use native.Mathlib.Omega.{arith}
use lib.ListN.{length, take, get_or, length-map}
use lib.Dec.{leb, ltb, eqb}
use lib.Ieee.{binary64, to_bits}
use borrow.Author.Tests.{le-leb, leb-true, le-ltb, ltb-false, eq-eqb, eqb-true}
use Rattle.facts.proofs.Tests.{neither}
use Rattle.limit.specs.Times.{min_ticks, max_ticks, min_count, max_count, in_range}
use Rattle.limit.specs.Answer.{chance_refusal, times_refusal}
use Rattle.limit.specs.Limit.{min_chance, max_chance, form_known}
use Rattle.limit.specs.Formula.{plain_form, sample_form}
use Rattle.facts.proofs.Tests as tests
use Rattle.limit.proofs.InRange as R
use Rattle.journal_spec.specs.Refusals.{day_refusal, name_refusal, limit_refusal, first_of}
use Rattle.journal_spec.specs.Section.{section_refusal}
use Rattle.journal_spec.specs.Record.{Record, Last, IsDay, last_of, judge_form, judge_day, limit_section, min_name, max_name, min_byte}
use Rattle.journal_spec.specs.Record.{max_byte, min_chances, max_chances, even_chance, record_reader, record_bytes}
use Rattle.journal_spec.specs.Profile.{Rule, plain, profile, profile_chances, profile_times, in_profile, keeps}
use Rattle.journal_spec.specs.Scan.{max_length}
use Rattle.journal_spec.specs.Index.{index_bytes, in_front, fresh_index}
use Rattle.journal_spec.specs.Request.{Request, Offer, offer_of}
use Rattle.journal_spec.specs.Tests.{each, rising, same, name_good}
use Rattle.journal_spec.specs.Model.{Model, committed_of, worked_out, record_for, day_falls, chances_good, times_good}
use Rattle.journal_spec.specs.Model.{chances_even, no_room, index_wrong, index_full, model_refusals, model_refusal}
use Rattle.journal_spec.specs.Ranges.{NameRanges, ChanceRanges, TimeRanges, Keeps, IndexStands, IndexFits, AllHold, FirstNamed, asked_of, RecordRanges}
use Rattle.journal_spec.proofs.Judging.{unless_none, unless_not, unless_true, first_none, none_at_lem, none_first}
use Rattle.journal_spec.proofs.Asking.{Tests, ended, test, all_hold, first_named}
use Rattle.journal_spec.proofs.Each.{same_lists, same_self, each_holds, holds_each, each_range, range_each, rising_holds, holds_rising}
use Rattle.journal_spec.proofs.Limits.{formula_bits, times_good_lem, limits_good, limits_exact}
use Rattle.journal_spec.proofs.Reading.{Reads}
use Rattle.journal_spec.proofs.Records.{Good, limit_count_lem, form_known_lem, form_range, form_later, record_length, reads_record}
use Rattle.journal_spec.proofs.SameRefusals.{name_refused, chance_refused, time_refused, chances_each}

-- ---- the sections

pub name_ranged : (xs : List ℕ) → (name_good xs ≡ true) ↔ NameRanges xs
unfolding name_good
name_ranged xs = (
  λ h.
      let n = tests.first_of_lem (in_range min_name max_name (length xs)) (each (in_range min_byte max_byte) xs) h in
      let b = tests.second_of_lem (in_range min_name max_name (length xs)) (each (in_range min_byte max_byte) xs) h in
      record {
        least = R.at_least min_name max_name (length xs) n;
        most = R.at_most min_name max_name (length xs) n;
        bytes = each_range min_byte max_byte xs b;
      },
  λ g. tests.both (R.inside min_name max_name (length xs) g.least g.most) (range_each min_byte max_byte xs g.bytes),
)

pub chance_ranged : (xs : List ℕ) → (chances_good xs ≡ true) ↔ ChanceRanges xs
unfolding chances_good
chance_ranged xs = (
  λ h.
      let both = tests.first_of_lem (in_range min_chances max_chances (length xs) && each (in_range min_chance max_chance) xs) (rising xs) h in
      let n = tests.first_of_lem (in_range min_chances max_chances (length xs)) (each (in_range min_chance max_chance) xs) both in
      record {
        least = R.at_least min_chances max_chances (length xs) n;
        most = R.at_most min_chances max_chances (length xs) n;
        range = each_range min_chance max_chance xs (tests.second_of_lem (in_range min_chances max_chances (length xs)) _ both);
        rising = rising_holds xs (tests.second_of_lem (in_range min_chances max_chances (length xs) && each (in_range min_chance max_chance) xs) _ h);
      },
  λ g.
      tests.both (tests.both (R.inside min_chances max_chances (length xs) g.least g.most) (range_each min_chance max_chance xs g.range))
      (holds_rising xs g.rising),
)

pub time_ranged : (xs : List ℕ) → (times_good xs ≡ true) ↔ TimeRanges xs
unfolding times_good
time_ranged xs = (
  λ h.
      let n = tests.first_of_lem (in_range min_count max_count (length xs)) (each (in_range min_ticks max_ticks) xs) h in
      let b = tests.second_of_lem (in_range min_count max_count (length xs)) (each (in_range min_ticks max_ticks) xs) h in
      record {
        least = R.at_least min_count max_count (length xs) n;
        most = R.at_most min_count max_count (length xs) n;
        range = each_range min_ticks max_ticks xs b;
      },
  λ g. tests.both (R.inside min_count max_count (length xs) g.least g.most) (range_each min_ticks max_ticks xs g.range),
)

-- ---- a rule

pub rule_ranged : (rule : Rule) (r : Record) → (keeps rule r ≡ true) ↔ Keeps rule r
unfolding keeps in_profile
rule_ranged plain r = (λ h. tt, λ h. refl)
rule_ranged profile r = (
  λ h.
      let form : Bool = eqb r.form sample_form in
      let chances : Bool = same r.chances profile_chances in
      let both = tests.first_of_lem (form && chances) (leb profile_times (length r.times)) h in
      record {
        form = eqb-true r.form sample_form (tests.first_of_lem form chances both);
        chances = same_lists r.chances profile_chances (tests.second_of_lem form chances both);
        times = leb-true profile_times (length r.times) (tests.second_of_lem (form && chances) (leb profile_times (length r.times)) h);
      },
  λ k.
      tests.both (tests.both (eq-eqb r.form sample_form k.form) (rw k.chances (same_self profile_chances)))
      (le-leb profile_times (length r.times) k.times),
)

-- ---- the index

not_true : (t : Bool) → (not t ≡ true) ↔ (t ≡ false)
not_true true = (λ h. sym h, λ h. sym h)
not_true false = (λ h. refl, λ h. refl)

pub stands_ranged : (m : Model) (index : Option (List ℕ)) → (not (index_wrong m index) ≡ true) ↔ IndexStands m index
unfolding index_wrong in_front
stands_ranged m none = (λ h. tt, λ h. refl)
stands_ranged m (some b) =
    let now : List ℕ = index_bytes (fresh_index m.records) in (
      λ h. same_lists (take (length now) b) now (not_not (same (take (length now) b) now) h),
      λ k. rw (k, same_self now) refl,
    )
  where
    not_not : (t : Bool) → not (not t) ≡ true → t ≡ true
    not_not true h = refl
    not_not false h = h

pub fits_ranged : (m : Model) (r : Record) (index : Option (List ℕ)) → (not (index_full m r index) ≡ true) ↔ IndexFits m r index
unfolding index_full
fits_ranged m r none = (λ h. tt, λ h. refl)
fits_ranged m r (some b) =
    let next : List ℕ = index_bytes (fresh_index (m.records ++ r ∷ [])) in
    let short : Bool = ltb (length b) (length next) in (
      λ h. ltb-false (length b) (length next) ((not_true short).0 h),
      λ k. (not_true short).1 (le-ltb (length b) (length next) k),
    )

-- ---- a request

-- a day that does not fall
pub day_ranged : (m : Model) (o : Offer) → (not (day_falls m o) ≡ true) ↔ ((last_of m.records).day ≤ o.day)
unfolding day_falls
day_ranged m o = (
  λ h. ltb-false o.day (last_of m.records).day ((not_true (ltb o.day (last_of m.records).day)).0 h),
  λ k. (not_true (ltb o.day (last_of m.records).day)).1 (le-ltb o.day (last_of m.records).day k),
)

-- no chance beyond even
pub even_ranged : (xs : List ℕ) → (chances_even xs ≡ true) ↔ ((i : ℕ) → i < length xs → get_or xs i 0 ≤ even_chance)
unfolding chances_even
even_ranged xs = (
  λ h i k. leb-true (get_or xs i 0) even_chance (each_holds (λ (c : ℕ). leb c even_chance) xs h i k),
  λ f. holds_each (λ (c : ℕ). leb c even_chance) xs (λ i k. le-leb (get_or xs i 0) even_chance (f i k)),
)

-- room for the record
pub room_ranged : (room : ℕ) (m : Model) (o : Offer) → let size = committed_of m + length (record_bytes (record_for o)) in
    (not (no_room room m o) ≡ true) ↔ ((size ≤ room) × (size ≤ max_length))
unfolding no_room
room_ranged room m o =
    let size : ℕ = committed_of m + length (record_bytes (record_for o)) in (
      λ h.
          let fit = neither (ltb room size) (ltb max_length size) ((not_true (ltb room size || ltb max_length size)).0 h) in
          (ltb-false room size fit.0, ltb-false max_length size fit.1),
      λ k. rw (le-ltb room size k.0, le-ltb max_length size k.1) refl,
    )

-- the model's rows are the tests of the papers' conditions, in their order
pub asked_tests : (room : ℕ) (m : Model) (q : Request) → Tests (model_refusals room m q) (asked_of room m q (record_for (offer_of q)))
unfolding model_refusals offer_of record_for
asked_tests room m q =
    let o : Offer = offer_of q in
    test (not (day_falls m o)) refl (day_ranged m o)
    (test (name_good o.name) refl (name_ranged o.name)
    (test (chances_good o.chances) refl (chance_ranged o.chances)
    (test (chances_even o.chances) refl (even_ranged o.chances)
    (test (times_good o.times) refl (time_ranged o.times)
    (test (keeps q.rule (record_for o)) refl (rule_ranged q.rule (record_for o))
    (test (not (no_room room m o)) refl (room_ranged room m o)
    (test (not (index_wrong m q.index)) refl (stands_ranged m q.index)
    (test (not (index_full m (record_for o) q.index)) refl (fits_ranged m (record_for o) q.index)
    ended))))))))

-- nothing declines a request exactly where all of them hold
pub accepted_exactly : (room : ℕ) (m : Model) (q : Request) → (model_refusal room m q ≡ 0) ↔ AllHold (asked_of room m q (record_for (offer_of q)))
unfolding model_refusal
accepted_exactly room m q = all_hold (asked_tests room m q)

-- and one declines it exactly by the number of the first that fails
pub declined_exactly : (room : ℕ) (m : Model) (q : Request) (n : ℕ)
    → ((0 < n) × (model_refusal room m q ≡ n)) ↔ FirstNamed (asked_of room m q (record_for (offer_of q))) n
unfolding model_refusal
declined_exactly room m q = first_named (asked_tests room m q)

-- what each test of the model says where none declines
pub record Passed (room : ℕ) (m : Model) (q : Request) : Type 0 where
  pub day : day_falls m (offer_of q) ≡ false
  pub name : name_good (offer_of q).name ≡ true
  pub chances : chances_good (offer_of q).chances ≡ true
  pub even : chances_even (offer_of q).chances ≡ true
  pub times : times_good (offer_of q).times ≡ true
  pub rule : keeps q.rule (record_for (offer_of q)) ≡ true
  pub room' : no_room room m (offer_of q) ≡ false
  pub index : index_wrong m q.index ≡ false
  pub holds : index_full m (record_for (offer_of q)) q.index ≡ false

pub passed : (room : ℕ) (m : Model) (q : Request) → model_refusal room m q ≡ 0 → Passed room m q
unfolding model_refusal model_refusals
passed room m q h =
    let row = none_at_lem (model_refusals room m q) h in
    let o : Offer = offer_of q in
    record {
      day = unless_not (day_falls m o) 2 (row 0);
      name = unless_none (name_good o.name) 3 (row 1);
      chances = unless_none (chances_good o.chances) 4 (row 2);
      even = unless_none (chances_even o.chances) 16 (row 3);
      times = unless_none (times_good o.times) 5 (row 4);
      rule = unless_none (keeps q.rule (record_for o)) 18 (row 5);
      room' = unless_not (no_room room m o) 8 (row 6);
      index = unless_not (index_wrong m q.index) 13 (row 7);
      holds = unless_not (index_full m (record_for o) q.index) 14 (row 8);
    }

-- there is room for the record of a request that nothing declines
pub fits_room : (room : ℕ) (m : Model) (q : Request) → model_refusal room m q ≡ 0 → let size = committed_of m + length (record_bytes (record_for (offer_of q))) in
    (size ≤ room) × (size ≤ max_length)
fits_room room m q h = (room_ranged room m (offer_of q)).0 (ap not (passed room m q h).room')

-- ---- a record

-- the formula's limits are not refused
own_limits : (form : ℕ) (cs ts : List ℕ) → form_known form ≡ true → chances_good cs ≡ true → times_good ts ≡ true
    → section_refusal (limit_section form cs ts) (formula_bits form ts cs) ≡ 0
unfolding section_refusal limit_section
own_limits form cs ts k c t =
    let n : length (formula_bits form ts cs) ≡ length cs = unfold formula_bits in length-map cs _ in
    none_first _ _
    (unless_true (eqb (length (formula_bits form ts cs)) (length cs)) limit_refusal (eq-eqb (length (formula_bits form ts cs)) (length cs) n))
    (none_first _ [] (limits_good form k ts (sym (times_good_lem ts) ∙ t) cs [] cs [] refl refl (chances_each cs c)) (unfold first_of in refl))

-- limits that are not refused are the formula's
exact_limits : (form : ℕ) (cs ts ls : List ℕ) → form_known form ≡ true → chances_good cs ≡ true → times_good ts ≡ true → length ls ≡ length cs
    → section_refusal (limit_section form cs ts) ls ≡ 0 → ls ≡ formula_bits form ts cs
unfolding section_refusal limit_section
exact_limits form cs ts ls k c t n h =
    limits_exact form k ts (sym (times_good_lem ts) ∙ t) cs [] cs [] ls refl refl n (chances_each cs c)
    (first_none _ [] (first_none _ _ h).1).0

-- a record whose parts pass the tests and whose limits are the formula's
pub good_record : (last : Last) (r : Record) → form_known r.form ≡ true → last.form ≤ r.form → last.day ≤ r.day → IsDay r.day
    → name_good r.name ≡ true → chances_good r.chances ≡ true → times_good r.times ≡ true
    → r.limits ≡ formula_bits r.form r.times r.chances → Good last r
unfolding judge_form judge_day
good_record last r known forms day fits name chances times limits = record {
  form = none_first _ _ (unless_true (form_known r.form) 2 known)
      (none_first _ [] (unless_true (leb last.form r.form) 13 (le-leb last.form r.form forms)) (unfold first_of in refl));
  day = unless_true (leb last.day r.day) day_refusal (le-leb last.day r.day day);
  day_fits = fits;
  name = name_refused r.name ∙ unless_true (name_good r.name) name_refusal name;
  chances = chance_refused r.chances ∙ unless_true (chances_good r.chances) chance_refusal chances;
  times = time_refused r.times ∙ unless_true (times_good r.times) times_refusal times;
  limits = ap (section_refusal (limit_section r.form r.chances r.times)) limits
      ∙ own_limits r.form r.chances r.times known chances times;
}

-- limits that are the formula's at each place are the formula's list
formula_list : (form : ℕ) (times chances limits : List ℕ) → length limits ≡ length chances
    → ((i : ℕ) → i < length chances → get_or limits i 0 ≡ to_bits binary64 (worked_out form times (get_or chances i 0)))
    → limits ≡ formula_bits form times chances
unfolding formula_bits
formula_list form times [] [] n h = refl
formula_list form times [] (l ∷ ls) n h = absurd (omega arith)
formula_list form times (c ∷ cs) [] n h = absurd (omega arith)
formula_list form times (c ∷ cs) (l ∷ ls) n h =
    ap₂ (λ (x : ℕ) (xs : List ℕ). x ∷ xs) (h 0 (omega arith)) (formula_list form times cs ls (omega arith) (λ i k. h (suc i) (omega arith)))

list_formula : (form : ℕ) (times chances limits : List ℕ) → limits ≡ formula_bits form times chances
    → (i : ℕ) → i < length chances → get_or limits i 0 ≡ to_bits binary64 (worked_out form times (get_or chances i 0))
unfolding formula_bits
list_formula form times chances limits e i k = ap (λ (l : List ℕ). get_or l i 0) e ∙ at_index chances i k
  where
    at_index : (cs : List ℕ) (i : ℕ) → i < length cs
        → get_or (map (λ (c : ℕ). to_bits binary64 (worked_out form times c)) cs) i 0 ≡ to_bits binary64 (worked_out form times (get_or cs i 0))
    at_index [] i k = absurd (omega arith)
    at_index (c ∷ cs) zero k = refl
    at_index (c ∷ cs) (suc i) k = at_index cs i (omega arith)

-- nothing refuses a record exactly where it keeps document 01's ranges
pub good_exactly : (last : Last) (r : Record) → Good last r ↔ RecordRanges last r
good_exactly last r = (
  λ g.
      let day : last.day ≤ r.day = unfold judge_day in leb-true last.day r.day (unless_none (leb last.day r.day) 2 g.day) in
      let name = unless_none (name_good r.name) 3 (sym (name_refused r.name) ∙ g.name) in
      let chances = unless_none (chances_good r.chances) 4 (sym (chance_refused r.chances) ∙ g.chances) in
      let times = unless_none (times_good r.times) 5 (sym (time_refused r.times) ∙ g.times) in
      let count = limit_count_lem last r g in
      let l = exact_limits r.form r.chances r.times r.limits (form_known_lem last r g) chances times count g.limits in
      record {
        form = form_range last r g;
        forms = form_later last r g;
        day = day;
        day_fits = g.day_fits;
        name = (name_ranged r.name).0 name;
        chances = (chance_ranged r.chances).0 chances;
        times = (time_ranged r.times).0 times;
        limit_count = count;
        limits = list_formula r.form r.times r.chances r.limits l;
      },
  λ k.
      good_record last r (unfold form_known in R.inside plain_form sample_form r.form k.form.0 k.form.1) k.forms k.day k.day_fits
      ((name_ranged r.name).1 k.name) ((chance_ranged r.chances).1 k.chances)
      ((time_ranged r.times).1 k.times)
      (formula_list r.form r.times r.chances r.limits k.limit_count k.limits),
)

-- such a record is read back from its bytes, 33 to 652 of them
module _ (last : Last) (r : Record) (keeps : RecordRanges last r) where
  pub reads_back : Reads (record_reader last) (record_bytes r) r
  reads_back = reads_record last r ((good_exactly last r).1 keeps)

  pub encoding_length : (33 ≤ length (record_bytes r)) × (length (record_bytes r) ≤ 652)
  encoding_length = record_length last r ((good_exactly last r).1 keeps)
