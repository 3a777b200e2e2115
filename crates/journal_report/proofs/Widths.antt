-- The widest of an index's names, entry by entry; and it is no more than 32 where no name is. Assumes nothing.
use mathlib.Core.Path.{◌≡◌, sym, ap, ◌∙◌}
use Prim.Native.Nat.{ℕ, ◌+◌, ◌-◌, ◌<◌, max}
use mathlib.Core.List.{List, []}
use native.Mathlib.Omega.{arith}
use Rattle.journal_parts.specs.Numbers.{number_in}
use Rattle.journal_entries.specs.Entries.{size_at, entries_from, entries_in}
use Rattle.journal_entries.proofs.ByCounts.{size_here, entries_end, entries_none, entries_more, count_read}
use Rattle.journal_report.specs.Report.{widest, width_of}

module _ (b : List ℕ) where
  -- the width so far and the entries that are left decide
  pub record Widening (width left place : ℕ) : Type 0 where
    pub same : width_of (entries_in b) ≡ widest width (entries_from b left place)

  pub width_start : (left : ℕ) → left ≡ number_in 2 0 b → Widening 4 left 2
  unfolding width_of
  width_start left e = record { same = ap (widest 4) (sym (count_read b left e)) }

  module _ (width left place : ℕ) (w : Widening width left place) where
    ends : entries_from b left place ≡ [] → width ≡ width_of (entries_in b)
    unfolding widest
    ends e = sym (w.same ∙ ap (widest width) e)

    pub width_short : size_at b place ≡ 0 → width ≡ width_of (entries_in b)
    width_short e = ends (entries_end b place left (sym e))

    pub width_done : left ≡ 0 → width ≡ width_of (entries_in b)
    width_done e = ends (entries_none b left place e)

    pub width_next : (n wider less next : ℕ) → n + 6 ≡ size_at b place → 0 < left → wider ≡ max width n → less ≡ left - 1 → next ≡ place + (n + 6)
        → Widening wider less next
    unfolding widest
    width_next n wider less next e k m f g =
        let x = size_here b place (n + 6) e (omega arith) in
        let more = entries_more b place left (n + 6) k e (omega arith) in
        let named : n + 6 - 6 ≡ n = omega arith in
        rw (f, g, m)
        (record {
          same = w.same ∙ ap (widest width) more ∙ ap (λ (l : ℕ). widest (max width l) (entries_from b (left - 1) (place + (n + 6)))) (x.named ∙ named);
        })
