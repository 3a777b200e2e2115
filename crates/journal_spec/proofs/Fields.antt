-- The record's reader judges document 01's fields: those widths in that order, with those numbers for what fails. So a field is refused by a number
-- at a place exactly where the reader finds that fault. Assumes nothing.
use mathlib.Core.Path.{◌≡◌, refl, sym, ◌∙◌}
use mathlib.Core.Logic.{◌↔◌}
use Prim.Native.Nat.{ℕ, zero, suc, ◌+◌, ◌≤◌, ◌<◌}
use mathlib.Core.List.{List, [], ◌∷◌, ◌++◌, append-nil}
use mathlib.Core.Bool.{true, ◌&&◌}
use native.Mathlib.Omega.{arith}
use native.Mathlib.Nat.{zero-add}
use lib.ListN.{length, take, drop, get_or, length-append, length-drop}
use lib.Seq.{append_snoc, drop-drop}
use lib.Dec.{leb, ltb, eqb}
use lib.Ieee.{binary64, to_bits}
use borrow.Author.Tests.{le-leb, leb-true, lt-ltb, ltb-true, eq-eqb, eqb-true}
use Rattle.limit.specs.Times.{in_range, times_in_range}
use Rattle.limit.specs.Limit.{form_known, chance_in_range, limit_of, min_chance, max_chance}
use Rattle.facts.proofs.Tests as tests
use Rattle.limit.proofs.InRange as R
use Rattle.journal_spec.specs.Bytes.{number_at, value_of}
use Rattle.journal_spec.specs.Refusals.{outside, first_of}
use Rattle.journal_spec.specs.Reader.{Reader, done, field, then, fault, short, run}
use Rattle.journal_spec.specs.Section.{Section, items, section, items_refusal, section_refusal}
use Rattle.journal_spec.specs.Record.{Last, judge_form, judge_day, name_section, last_chance, judge_chance, chance_section, time_section}
use Rattle.journal_spec.specs.Record.{judge_limit, limit_section, record_reader}
use Rattle.journal_spec.specs.Model.{worked_out, chances_good, times_good}
use Rattle.journal_spec.specs.Ranges.{Asked, end, ask, FirstNamed}
use Rattle.journal_spec.specs.Fields.{Fields, no_more, number, numbers, counted, between, asked_chance, record_fields}
use Rattle.journal_spec.specs.Fields.{Comes, here, good, FieldRefused, RunsOut}
use Rattle.journal_spec.proofs.Judging.{unless_none, first_none, none_first}
use Rattle.journal_spec.proofs.Each.{each_holds}
use Rattle.journal_spec.proofs.Limits.{times_good_lem, limit_judged}
use Rattle.journal_spec.proofs.SameRefusals.{chance_refused, time_refused, chances_each}
use Rattle.journal_spec.proofs.Asking.{ended, test, Refuses, rows_refuse, row_refuses}
use Rattle.journal_spec.proofs.Reading.{field_short, field_good, field_fault, field_cases, short_not_fault, found_not_short, found_not_fault}

-- ---- the same fields

-- a reader judges these fields: the same widths, each refused as is asked, and behind a number that is not refused the same again
pub data Same {A : Type 0} : Reader A → Fields → Type 1 where
  ends : {a : A} → Same (done a) no_more
  alike : {w : ℕ} {refusal : ℕ → ℕ} {next : ℕ → Reader A} {asked : ℕ → Asked} {nexts : ℕ → Fields} → ((v : ℕ) → Refuses (refusal v) (asked v))
      → ((v : ℕ) → refusal v ≡ 0 → Same (next v) (nexts v)) → Same (field w refusal next) (number w asked nexts)

-- a number more, which is not refused
items_snoc : (refusal : List ℕ → ℕ → ℕ) (before xs : List ℕ) (v : ℕ) → items_refusal refusal before xs ≡ 0 → refusal (before ++ xs) v ≡ 0
    → items_refusal refusal before (xs ++ v ∷ []) ≡ 0
unfolding items_refusal
items_snoc refusal before [] v h e = none_first _ _ (rw append-nil at e) (none_first 0 [] refl (unfold first_of in refl))
items_snoc refusal before (x ∷ xs) v h e =
    let z = first_none (refusal before x) (items_refusal refusal (before ++ x ∷ []) xs ∷ []) h in
    let rest = items_snoc refusal (before ++ x ∷ []) xs v (first_none (items_refusal refusal (before ++ x ∷ []) xs) [] z.1).0 (rw append_snoc e) in
    none_first _ _ z.0 (none_first _ [] rest (unfold first_of in refl))

module _ {B : Type 0} (w : ℕ) (refusal : List ℕ → ℕ → ℕ) (asked : List ℕ → ℕ → Asked) (k : List ℕ → Reader B) (following : List ℕ → Fields) (total : ℕ)
    (judged : (xs : List ℕ) → length xs < total → items_refusal refusal [] xs ≡ 0 → (v : ℕ) → Refuses (refusal xs v) (asked xs v))
    (after : (xs : List ℕ) → length xs ≡ total → items_refusal refusal [] xs ≡ 0 → Same (k xs) (following xs)) where
  same_items : (n : ℕ) (before : List ℕ) → length before + n ≡ total → items_refusal refusal [] before ≡ 0
      → Same (then (items w refusal n before) k) (numbers w asked following n before)
  unfolding items then numbers
  same_items zero before e h = after before (omega arith) h
  same_items (suc n) before e h =
      alike (judged before (omega arith) h)
      (λ v fine. same_items n (before ++ v ∷ []) (rw length-append (omega arith)) (items_snoc refusal [] before v h fine))

-- a section, and what follows it
module _ {B : Type 0} (s : Section) (count : ℕ → Asked) (asked : List ℕ → ℕ → Asked) (k : List ℕ → Reader B) (following : List ℕ → Fields)
    (counts : (n : ℕ) → Refuses (s.count n) (count n))
    (judged : (n : ℕ) → s.count n ≡ 0 → (xs : List ℕ) → length xs < n → (v : ℕ) → Refuses (s.item xs v) (asked xs v))
    (after : (xs : List ℕ) → section_refusal s xs ≡ 0 → Same (k xs) (following xs)) where
  same_section : Same (then (section s) k) (counted count s.width asked following)
  unfolding section then counted
  same_section =
      alike counts
      (λ n fine.
      same_items s.width s.item asked k following n (λ xs few h. judged n fine xs few) (λ xs e h. after xs (none n fine xs e h)) n []
      (zero-add n) (unfold items_refusal in refl))
    where
      none : (n : ℕ) → s.count n ≡ 0 → (xs : List ℕ) → length xs ≡ n → items_refusal s.item [] xs ≡ 0 → section_refusal s xs ≡ 0
      none n fine xs e h =
          unfold section_refusal in
          none_first (s.count (length xs)) (items_refusal s.item [] xs ∷ []) (rw e fine)
          (none_first (items_refusal s.item [] xs) [] h (unfold first_of in refl))

-- ---- what is asked of each number

range_exactly : (low high x : ℕ) → (in_range low high x ≡ true) ↔ ((low ≤ x) × (x ≤ high))
range_exactly low high x = (λ h. (R.at_least low high x h, R.at_most low high x h), λ k. R.inside low high x k.0 k.1)

order_exactly : (a b : ℕ) → (leb a b ≡ true) ↔ (a ≤ b)
order_exactly a b = (leb-true a b, le-leb a b)

equal_exactly : (a b : ℕ) → (eqb a b ≡ true) ↔ (a ≡ b)
equal_exactly a b = (eqb-true a b, eq-eqb a b)

between_refuses : (low high n x : ℕ) → Refuses (outside low high (suc n) x) (between (suc n) low high x)
unfolding outside
between_refuses low high n x = row_refuses (in_range low high x) n ((low ≤ x) × (x ≤ high)) (range_exactly low high x)

form_refuses : (last : Last) (v : ℕ) → Refuses (judge_form last v) (ask 2 ((1 ≤ v) × (v ≤ 2)) (ask 13 (last.form ≤ v) end))
unfolding judge_form form_known
form_refuses last v =
    rows_refuse (test (in_range 1 2 v) refl (range_exactly 1 2 v) (test (leb last.form v) refl (order_exactly last.form v) ended))

day_refuses : (last : Last) (v : ℕ) → Refuses (judge_day last v) (ask 3 (last.day ≤ v) end)
unfolding judge_day
day_refuses last v = row_refuses (leb last.day v) 2 (last.day ≤ v) (order_exactly last.day v)

last_at : (xs : List ℕ) (i : ℕ) → length xs ≡ suc i → last_chance xs ≡ get_or xs i 0
unfolding last_chance
last_at [] i e = absurd (omega arith)
last_at (c ∷ []) zero e = refl
last_at (c ∷ []) (suc i) e = absurd (omega arith)
last_at (c ∷ d ∷ cs) zero e = absurd (omega arith)
last_at (c ∷ d ∷ cs) (suc i) e = last_at (d ∷ cs) i (omega arith)

-- above the chance before it, and above 0 where there is none
above_last : (before : List ℕ) (c : ℕ) → 1 ≤ c → ((i : ℕ) → length before ≡ suc i → get_or before i 0 < c) → last_chance before < c
above_last [] c some f = unfold last_chance in omega arith
above_last (x ∷ xs) c some f = rw (last_at (x ∷ xs) (length xs) refl) (f (length xs) refl)

chance_refuses : (before : List ℕ) (c : ℕ) → Refuses (judge_chance before c) (asked_chance before c)
unfolding judge_chance chance_in_range
chance_refuses before c = row_refuses (in_range 1 999_999 c && ltb (last_chance before) c) 4 _ (
  λ h.
      let r = tests.first_of_lem (in_range 1 999_999 c) (ltb (last_chance before) c) h in
      let above = ltb-true (last_chance before) c (tests.second_of_lem (in_range 1 999_999 c) (ltb (last_chance before) c) h) in
      (R.at_least 1 999_999 c r, R.at_most 1 999_999 c r, λ i e. rw (last_at before i e) at above),
  λ k. tests.both (R.inside 1 999_999 c k.0 k.1) (lt-ltb (last_chance before) c (above_last before c k.0 k.2)),
)

-- ---- the record

form_good : (last : Last) (v : ℕ) → judge_form last v ≡ 0 → form_known v ≡ true
unfolding form_known
form_good last v h = let a = (form_refuses last v).none.0 h in R.inside 1 2 v a.0.0 a.0.1

limit_refuses : (last : Last) (form : ℕ) (chances times before : List ℕ) (v : ℕ) → judge_form last form ≡ 0 → section_refusal chance_section chances ≡ 0
    → section_refusal time_section times ≡ 0 → length before < length chances
    → Refuses (judge_limit (limit_of form times (get_or chances (length before) 0)) v)
    (ask 7 (v ≡ to_bits binary64 (worked_out form times (get_or chances (length before) 0))) end)
limit_refuses last form chances ts before v f c t few =
    let x : ℕ = get_or chances (length before) 0 in
    let in_range_lem : in_range min_chance max_chance x ≡ true =
    each_holds (in_range min_chance max_chance) chances
    (chances_each chances (unless_none (chances_good chances) 4 (sym (chance_refused chances) ∙ c))) (length before) few in
    let all : times_in_range ts ≡ true = sym (times_good_lem ts) ∙ unless_none (times_good ts) 5 (sym (time_refused ts) ∙ t) in
    let bits : ℕ = to_bits binary64 (worked_out form ts x) in
    rw (limit_judged form ts x v (form_good last form f) all in_range_lem) (row_refuses (eqb v bits) 6 (v ≡ bits) (equal_exactly v bits))

-- THE READER JUDGES DOCUMENT 01'S FIELDS
pub same_fields : (last : Last) → Same (record_reader last) (record_fields last)
unfolding record_reader record_fields name_section chance_section time_section limit_section
same_fields last =
    alike (form_refuses last) (λ form f.
    alike (day_refuses last) (λ day d.
    same_section name_section (between 4 1 32) (λ before. between 4 0x21 0x7e) _ _
    (between_refuses 1 32 3) (λ n fine xs few. between_refuses 0x21 0x7e 3) (λ name n.
    same_section chance_section (between 5 1 8) asked_chance _ _
    (between_refuses 1 8 4) (λ n fine xs few. chance_refuses xs) (λ chances c.
    same_section time_section (between 6 2 128) (λ before. between 6 1 1_048_575) _ _
    (between_refuses 2 128 5) (λ n fine xs few. between_refuses 1 1_048_575 5) (λ times t.
    same_section (limit_section form chances times) (λ n. ask 7 (n ≡ length chances) end)
    (λ before bits. ask 7 (bits ≡ to_bits binary64 (worked_out form times (get_or chances (length before) 0))) end) _ _
    (λ n. row_refuses (eqb n (length chances)) 6 (n ≡ length chances) (equal_exactly n (length chances)))
    (λ n fine xs few v. limit_refuses last form chances times xs v f c t
    (omega (arith, few, eqb-true n (length chances) (unless_none (eqb n (length chances)) 6 fine))))
    (λ limits l. ends))))))

-- ---- a field that is refused

module _ {A : Type 0} (b : List ℕ) where
  -- a reader that judges fields which come to others, comes to a reader that judges those
  comes_run : {f g : Fields} {at p : ℕ} → Comes b f at g p → {r : Reader A} → Same r f → at ≤ length b
      → (s : Reader A) × Same s g × (run r at (drop at b) ≡ run s p (drop p b)) × (p ≤ length b)
  unfolding number_at
  comes_run here {r} same h = (r, same, refl, h)
  comes_run (good {w} {asked} {next} {at} {g} {p} stands holds on) (alike {refusal} {next = reads} judged later) h =
      let v : ℕ = value_of (take w (drop at b)) in
      let fine : refusal v ≡ 0 = (judged v).none.1 holds in
      let rest = comes_run on (later v fine) stands in
      let enough : w ≤ length (drop at b) = rw length-drop (omega arith) in
      (rest.0, rest.1, field_good w refusal reads at (drop at b) enough fine ∙ rw (drop-drop w at b) rest.2, rest.3)

  field_refused : (n p : ℕ) {r : Reader A} {f : Fields} → Same r f → (at : ℕ) → at ≤ length b → run r at (drop at b) ≡ fault n p → FieldRefused b f at n p
  unfolding run number_at
  field_refused n p ends at h e = absurd (found_not_fault (sym e))
  field_refused n p (alike {w} {refusal} {next} {asked} {nexts} judged later) at h e =
      field_cases w refusal next at (drop at b) (λ x. x ≡ fault n p → FieldRefused b (number w asked nexts) at n p)
      (λ few e. absurd (short_not_fault (sym e)))
      (λ m enough bad e.
      let number : suc m ≡ n = cc in
      let place : at ≡ p = cc in
      rw (← number, ← place) (record {
        width = w;
        asked = asked;
        next = nexts;
        comes = here;
        stands = omega (arith, enough, length-drop at b);
        refused = ((judged (value_of (take w (drop at b)))).first (suc m)).0 (omega arith, bad);
      }))
      (λ enough fine e.
      let v : ℕ = value_of (take w (drop at b)) in
      let stands : at + w ≤ length b = omega (arith, enough, length-drop at b) in
      let on = field_refused n p (later v fine) (at + w) stands (rw (drop-drop w at b) at e) in
      record {
        width = on.width;
        asked = on.asked;
        next = on.next;
        comes = good stands ((judged v).none.0 fine) on.comes;
        stands = on.stands;
        refused = on.refused;
      })
      e

  refused_run : (n p : ℕ) (r : Reader A) (f : Fields) (at : ℕ) → Same r f → at ≤ length b → FieldRefused b f at n p → run r at (drop at b) ≡ fault n p
  refused_run n p r f at same h x =
      let c = comes_run x.comes same h in
      c.2 ∙ last_field c.1 x.stands x.refused
    where
      by_number : (w : ℕ) (refusal : ℕ → ℕ) (next : ℕ → Reader A) (m : ℕ) → p + w ≤ length b → 0 < m → refusal (value_of (take w (drop p b))) ≡ m
          → run (field w refusal next) p (drop p b) ≡ fault m p
      by_number w refusal next zero stands some e = absurd (omega arith)
      by_number w refusal next (suc m) stands some e = field_fault w refusal next p (drop p b) m (rw length-drop (omega arith)) e

      last_field : {w : ℕ} {asked : ℕ → Asked} {nexts : ℕ → Fields} {s : Reader A} → Same s (number w asked nexts) → p + w ≤ length b
          → FirstNamed (asked (number_at w p b)) n → run s p (drop p b) ≡ fault n p
      last_field (alike {w} {refusal} {next} {asked} judged later) stands first =
          let z = ((judged (number_at w p b)).first n).1 first in
          by_number w refusal next n stands z.0 (unfold number_at in z.1)

  -- where a reader judges fields, it finds a fault exactly where that field is refused
  pub fault_exactly : (r : Reader A) (f : Fields) (at n p : ℕ) → Same r f → at ≤ length b → (run r at (drop at b) ≡ fault n p) ↔ FieldRefused b f at n p
  fault_exactly r f at n p same h = (field_refused n p same at h, refused_run n p r f at same h)

  runs_out_lem : {r : Reader A} {f : Fields} → Same r f → (at : ℕ) → at ≤ length b → run r at (drop at b) ≡ short → RunsOut b f at
  unfolding run number_at
  runs_out_lem ends at h e = absurd (found_not_short (sym e))
  runs_out_lem (alike {w} {refusal} {next} {asked} {nexts} judged later) at h e =
      field_cases w refusal next at (drop at b) (λ x. x ≡ short → RunsOut b (number w asked nexts) at)
      (λ few e. record { width = w; asked = asked; next = nexts; place = at; comes = here; less = omega (arith, few, length-drop at b) })
      (λ m enough bad e. absurd (short_not_fault e))
      (λ enough fine e.
      let v : ℕ = value_of (take w (drop at b)) in
      let stands : at + w ≤ length b = omega (arith, enough, length-drop at b) in
      let on = runs_out_lem (later v fine) (at + w) stands (rw (drop-drop w at b) at e) in
      record {
        width = on.width;
        asked = on.asked;
        next = on.next;
        place = on.place;
        comes = good stands ((judged v).none.0 fine) on.comes;
        less = on.less;
      })
      e

  out_run : (r : Reader A) (f : Fields) (at : ℕ) → Same r f → at ≤ length b → RunsOut b f at → run r at (drop at b) ≡ short
  out_run r f at same h x =
      let c = comes_run x.comes same h in
      c.2 ∙ last_field x.place c.1 c.3 x.less
    where
      last_field : (p : ℕ) {w : ℕ} {asked : ℕ → Asked} {nexts : ℕ → Fields} {s : Reader A} → Same s (number w asked nexts) → p ≤ length b
          → length b < p + w → run s p (drop p b) ≡ short
      last_field p (alike {w} {refusal} {next} judged later) inside less = field_short w refusal next p (drop p b) (rw length-drop (omega arith))

  -- and finds the bytes too short exactly where they run out in a field
  pub short_exactly : (r : Reader A) (f : Fields) (at : ℕ) → Same r f → at ≤ length b → (run r at (drop at b) ≡ short) ↔ RunsOut b f at
  short_exactly r f at same h = (runs_out_lem same at h, out_run r f at same h)
