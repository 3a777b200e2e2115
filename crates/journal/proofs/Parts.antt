-- A record from one of its sections on: what is found by the section's answer.
-- The numbers that the section holds stand in the bytes, and the rest of the record is read after it. Assumes nothing.
use mathlib.Core.Path.{◌≡◌, refl, sym, ap, ◌∙◌}
use Prim.Native.Nat.{ℕ, zero, suc, ◌+◌, ◌*◌}
use mathlib.Core.List.{List, [], ◌∷◌, ◌++◌}
use mathlib.Core.Bool.{true}
use native.Mathlib.Omega.{arith}
use Rattle.std.specs.Prelude.{Result, Ok, Err}
use lib.ListN.{length, take, drop}
use Rattle.limit.specs.declared.sums.Sums.{Sums}
use Rattle.limit.specs.Times.{min_ticks, max_ticks, min_count, max_count, all_in_range, times_in_range}
use Rattle.limit.specs.Sums.{sums_of}
use Rattle.limit.specs.Answer.{times_refusal}
use Rattle.facts.proofs.Tests as tests
use Rattle.limit.proofs.InRange as I
use Rattle.limit.proofs.Bounds.{all_append}
use Rattle.journal_spec.specs.Bytes.{value_of}
use Rattle.journal_spec.specs.Refusals.{outside}
use Rattle.journal_spec.specs.Reader.{Reader, Found, found, fault, short, run, then}
use Rattle.journal_spec.specs.Section.{Section, items, section}
use Rattle.journal_spec.specs.Record.{chance_section, time_section}
use Rattle.journal_spec.proofs.Judging.{outside_none}
use Rattle.journal_spec.proofs.Reading.{field_found, after, run_then}
use Rattle.journal_spec.proofs.SectionAt.{SectionAt, section_at_lem}
use Rattle.journal.specs.Told.{Stopped, kept_of}
use Rattle.journal.specs.declared.section.SectionRule.{SectionRule}
use Rattle.journal.specs.declared.section.Section as Code
use Rattle.journal.specs.Rules.{ruled}
use Rattle.journal.specs.Found.{section_kept, section_read, section_at}
use Rattle.journal.proofs.Stopping.{halted, halted_found, halted_after}
use Rattle.journal.specs.Records.{Stands}
use Rattle.journal.proofs.RuleLoop.{time_between}

-- ---- the section's answer, taken back

record FoundNumbers (f : Found (List ℕ)) (next : ℕ) (sums : Sums) : Type 0 where
  pub xs : List ℕ
  pub rest : List ℕ
  pub total : sums ≡ sums_of xs
  pub ran : f ≡ found xs next rest

read_found : (f : Found (List ℕ)) (x : Code.Section) → Ok x ≡ section_read f → FoundNumbers f x.next x.sums
unfolding kept_of
read_found (found xs at rest) x h =
    let same : section_kept xs at ≡ x = cc in
    record {
      xs = xs;
      rest = rest;
      total = ap (λ (y : Code.Section). y.sums) (sym same);
      ran = ap (λ (e : ℕ). found xs e rest) (ap (λ (y : Code.Section). y.next) same);
    }
read_found (fault n p) x h = let z : ◌≡◌ {A = ℕ} 0 1 = cc in absurd (omega arith)
read_found short x h = let z : ◌≡◌ {A = ℕ} 0 1 = cc in absurd (omega arith)

-- ---- what follows a section

module _ {B : Type 0} (k : List ℕ → Reader B) (s : Section) (w : ℕ) (r : SectionRule) (same : ruled w r ≡ s) (at : ℕ) (b : List ℕ)
    (x : Result Code.Section Stopped) (read : x ≡ section_at w r at b) where
  ran : x ≡ section_read (run (section s) at (drop at b))
  unfolding section_at
  ran = read ∙ ap (λ (t : Section). section_read (run (section t) at (drop at b))) same

  pub part_halted : (e : Stopped) → x ≡ Err e → halted e ≡ run (then (section s) k) at (drop at b)
  part_halted e told =
      sym (run_then (section s) k at (drop at b)
      ∙ ap (after k) (halted_found section_kept (run (section s) at (drop at b)) e (sym told ∙ ran))
      ∙ halted_after k e)

  -- the section was read: its numbers, and what the reader finds after it
  pub record Part (next : ℕ) (sums : Sums) : Type 0 where
    pub xs : List ℕ
    pub rest : List ℕ
    pub total : sums ≡ sums_of xs
    pub found' : run (section s) at (drop at b) ≡ found xs next rest
    pub known : SectionAt s b xs at next rest
    pub goes : run (k xs) next (drop next b) ≡ run (then (section s) k) at (drop at b)

  pub part_read : (y : Code.Section) → x ≡ Ok y → Part y.next y.sums
  unfolding after
  part_read y told =
      let f = read_found (run (section s) at (drop at b)) y (sym told ∙ ran) in
      let known = section_at_lem s b f.xs at y.next f.rest f.ran in
      record {
        xs = f.xs;
        rest = f.rest;
        total = f.total;
        found' = f.ran;
        known = known;
        goes = ap (λ (l : List ℕ). run (k f.xs) y.next l) (sym known.drops)
            ∙ sym (run_then (section s) k at (drop at b) ∙ ap (after k) f.ran);
      }

-- ---- times that were read are in range

items_in_range : (n : ℕ) (before : List ℕ) (p : ℕ) (bs xs : List ℕ) (e : ℕ) (rest : List ℕ) → all_in_range before ≡ true
    → run (items 4 (λ (l : List ℕ). outside min_ticks max_ticks times_refusal) n before) p bs ≡ found xs e rest → all_in_range xs ≡ true
unfolding items run
items_in_range zero before p bs xs e rest good h = let same : before ≡ xs = cc in rw same at good
items_in_range (suc n) before p bs xs e rest good h =
    let v : ℕ = value_of (take 4 bs) in
    let f = field_found 4 (outside min_ticks max_ticks times_refusal)
    (λ y. items 4 (λ (l : List ℕ). outside min_ticks max_ticks times_refusal) n (before ++ y ∷ [])) p bs xs e rest h in
    let range = outside_none min_ticks max_ticks 5 v f.good in
    items_in_range n (before ++ v ∷ []) (p + 4) (drop 4 bs) xs e rest (all_append before v good (time_between v range.0 range.1)) f.goes

pub times_in_range_lem : (b xs : List ℕ) (at e : ℕ) (rest : List ℕ) → run (section time_section) at (drop at b) ≡ found xs e rest
    → times_in_range xs ≡ true
unfolding section time_section times_in_range all_in_range
times_in_range_lem b xs at e rest h =
    let f = field_found 2 (outside min_count max_count times_refusal)
    (λ n. items 4 (λ (l : List ℕ). outside min_ticks max_ticks times_refusal) n []) at (drop at b) xs e rest h in
    let known = section_at_lem time_section b xs at e rest h in
    let range = outside_none min_count max_count 5 (length xs) known.good in
    tests.both (I.inside min_count max_count (length xs) range.0 range.1)
    (items_in_range (value_of (take 2 (drop at b))) [] (at + 2) (drop 2 (drop at b)) xs e rest refl f.goes)

-- ---- chances that were read stand in the bytes

pub chances_stand : (b xs : List ℕ) (at e : ℕ) (rest : List ℕ) (sums : Sums) → SectionAt chance_section b xs at e rest → sums ≡ sums_of xs
    → Stands b (at + 2) sums.count xs × (at + 2 + sums.count * 4 ≡ e)
unfolding chance_section sums_of
chances_stand b xs at e rest sums known total =
    let count : sums.count ≡ length xs = ap (λ (s : Sums). s.count) total in (
      record { count = sym count; numbers = λ i h. known.numbers i (rw count at h) },
      rw count (sym known.place),
    )
