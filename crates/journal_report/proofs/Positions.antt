-- The start that the entry at a position has, found by passing the entries before it, and the line that it leads to. Assumes nothing.
use mathlib.Core.Path.{◌≡◌, refl, sym, ap, ◌∙◌}
use Prim.Native.Nat.{ℕ, zero, suc, ◌+◌, ◌-◌, ◌≤◌, ◌<◌}
use mathlib.Core.Bool.{Bool}
use mathlib.Core.List.{List, [], ◌∷◌}
use mathlib.Core.Option.{Option, none, some}
use native.Mathlib.Omega.{arith}
use lib.ListN.{length, take}
use Rattle.facts.proofs.Orders.{by_order}
use Rattle.journal_spec.specs.Index.{IndexEntry}
use Rattle.journal_spec.specs.Index.{entries_size}
use Rattle.journal_parts.specs.Numbers.{number_in}
use Rattle.journal_entries.specs.Entries.{name_at, start_at, size_at, start_in, entries_from, entries_in}
use Rattle.journal_entries.specs.Answers.{start_meaning}
use Rattle.std.specs.Prelude.{Some, None}
use Rattle.std.specs.Prelude as Code
use Rattle.journal_entries.proofs.ByCounts.{size_here, start_stands, entries_end, entries_more, count_read, few}
use Rattle.journal_parts.specs.Plain.{plain_record_at}
use Rattle.journal_report.specs.Slot.{slot_of}
use Rattle.journal_report.specs.Report.{start_at_position, start_line}

pub position_beyond : (es : List IndexEntry) (k : ℕ) → length es ≤ k → none ≡ start_at_position es k
unfolding start_at_position
position_beyond [] k h = refl
position_beyond (e ∷ es) zero h = absurd (omega arith)
position_beyond (e ∷ es) (suc k) h = position_beyond es k (omega arith)

module _ (b : List ℕ) where
  -- of at most n entries from a place on, the one at position k stands at p, with its size, or none does
  record Position (n at k p size : ℕ) : Type 0 where
    absent : size ≡ 0 → none ≡ start_at_position (entries_from b n at) k
    there : 0 < size → some (start_at b p) ≡ start_at_position (entries_from b n at) k

  by_position : (k n at p size : ℕ) → k < n → p ≡ at + entries_size (take k (entries_from b n at)) → size ≡ size_at b p → Position n at k p size
  unfolding start_at_position entries_size
  by_position zero n at p size h e s =
      let none_before : entries_size (take 0 (entries_from b n at)) ≡ 0 = refl in
      let same : p ≡ at = omega (arith, e, none_before) in
      let here : size ≡ size_at b at = s ∙ ap (size_at b) same in
      record {
        absent = λ z. ap (λ (es : List IndexEntry). start_at_position es 0) (sym (entries_end b at n (sym z ∙ here)));
        there = λ pos. ap (λ (q : ℕ). some (start_at b q)) same
            ∙ ap (λ (es : List IndexEntry). start_at_position es 0) (sym (entries_more b at n size (omega arith) here pos));
      }
  by_position (suc k) n at p size h e s =
      by_order (size_at b at) 0
      (λ none_here.
      let gone : entries_from b n at ≡ [] = entries_end b at n (omega arith) in
      let end : p ≡ at + 0 = e ∙ ap (λ (es : List IndexEntry). at + entries_size (take (suc k) es)) gone in
      let same : p ≡ at = omega (arith, end) in
      let here : size ≡ size_at b at = s ∙ ap (size_at b) same in
      record {
        absent = λ z. ap (λ (es : List IndexEntry). start_at_position es (suc k)) (sym gone);
        there = λ pos. absurd (omega (arith, here));
      })
      (λ stands.
      let first : ℕ = size_at b at in
      let x = size_here b at first refl stands in
      let more = entries_more b at n first (omega arith) refl stands in
      let end : p ≡ at + (6 + length (name_at b at) + entries_size (take k (entries_from b (n - 1) (at + first)))) =
      e ∙ ap (λ (es : List IndexEntry). at + entries_size (take (suc k) es)) more in
      let place : p ≡ at + first + entries_size (take k (entries_from b (n - 1) (at + first))) = omega (arith, end, x.named, x.count) in
      let later = by_position k (n - 1) (at + first) p size (omega arith) place s in
      record {
        absent = λ z. later.absent z ∙ ap (λ (es : List IndexEntry). start_at_position es (suc k)) (sym more);
        there = λ pos. later.there pos ∙ ap (λ (es : List IndexEntry). start_at_position es (suc k)) (sym more);
      })

  -- ---- as the code finds it

  module _ (count k : ℕ) (c : count ≡ number_in 2 0 b) where
    pub start_beyond : count ≤ k → none ≡ start_at_position (entries_in b) k
    start_beyond h = position_beyond (entries_in b) k (rw (← count_read b count c) (omega (arith, few b count 2)))

    module _ (h : k < count) (at size : ℕ) (e : at ≡ 2 + entries_size (take k (entries_in b))) (s : size ≡ size_at b at) where
      found : Position count 2 k at size
      found =
          by_position k count 2 at size h (e ∙ ap (λ (es : List IndexEntry). 2 + entries_size (take k es)) (sym (count_read b count c))) s

      pub start_absent : size ≡ 0 → none ≡ start_at_position (entries_in b) k
      start_absent z = found.absent z ∙ ap (λ (es : List IndexEntry). start_at_position es k) (count_read b count c)

      pub start_there : (n : ℕ) → 0 < size → n ≡ start_in b at → some n ≡ start_at_position (entries_in b) k
      start_there n pos q =
          let stands = (size_here b at size s pos).stands in
          ap some (q ∙ start_stands b at stands) ∙ found.there pos ∙ ap (λ (es : List IndexEntry). start_at_position es k) (count_read b count c)

-- ---- the line by what is found

module _ (tabs : Bool) (width : ℕ) (asked v : List ℕ) (s : Code.Option ℕ) (x : Option ℕ) (e : start_meaning s ≡ x) where
  pub line_at : (n : ℕ) → s ≡ Some n → slot_of tabs width asked (plain_record_at n v) ≡ start_line tabs width asked v x
  unfolding start_line start_meaning
  line_at n f = rw (← e, f) refl

  pub line_none : s ≡ None → [] ≡ start_line tabs width asked v x
  unfolding start_line start_meaning
  line_none f = rw (← e, f) refl
