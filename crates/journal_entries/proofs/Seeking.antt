-- A name sought among the entries from a place on: what the entry there says, or that there is none.
-- Assumes nothing.
use mathlib.Core.Path.{◌≡◌, refl, sym, ap, ◌∙◌}
use Prim.Native.Nat.{ℕ, ◌+◌, ◌-◌, ◌<◌}
use mathlib.Core.List.{List, []}
use native.Mathlib.Omega.{arith}
use lib.ListN.{length}
use Rattle.std.specs.Prelude.{Ok, Err}
use Rattle.std.specs.declared.cmp.Ordering.{Ordering}
use Rattle.std.specs.declared.cmp.Ordering.TheVariants.{Less, Equal, Greater}
use Rattle.journal_spec.specs.Index.{Order, order_of}
use Rattle.journal_parts.specs.Numbers.{number_in}
use Rattle.journal_entries.specs.Entries.{EntryIs, size_at, entries_from, entries_in}
use Rattle.journal_entries.specs.Places.{found_by, find_in}
use Rattle.journal_entries.specs.Answers.{order_meaning}
use Rattle.journal_entries.proofs.ByCounts.{entries_end, entries_none, entry_more, count_read}

-- of all entries, `left` are left from the place on, and decide
abbrev pub Sought : List ℕ → List ℕ → ℕ → ℕ → Type 0
Sought b name left place = find_in name 2 (entries_in b) ≡ find_in name place (entries_from b left place)

module _ (b name : List ℕ) where
  pub seek_start : (left : ℕ) → left ≡ number_in 2 0 b → Sought b name left 2
  seek_start left e = ap (find_in name 2) (sym (count_read b left e))

  module _ (left place : ℕ) (s : Sought b name left place) where
    ends : entries_from b left place ≡ [] → Err place ≡ find_in name 2 (entries_in b)
    unfolding find_in
    ends e = sym (s ∙ ap (find_in name place) e)

    pub seek_short : size_at b place ≡ 0 → Err place ≡ find_in name 2 (entries_in b)
    seek_short z = ends (entries_end b place left (sym z))

    pub seek_done : left ≡ 0 → Err place ≡ find_in name 2 (entries_in b)
    seek_done e = ends (entries_none b left place e)

    -- by the order of the names
    module _ (called : List ℕ) (start : ℕ) (x : EntryIs b place called start) (o : Ordering) (a : order_meaning o ≡ order_of name called) (h : 0 < left) where
      here : (p : Ordering) → o ≡ p → find_in name 2 (entries_in b)
          ≡ found_by (order_meaning p) place (find_in name (place + (length called + 6)) (entries_from b (left - 1) (place + (length called + 6))))
      unfolding find_in
      here p t =
          let n : place + length called + 6 ≡ place + (length called + 6) = omega arith in
          s
          ∙ ap (find_in name place) (entry_more b place called start x left h)
          ∙ ap (λ (q : ℕ). found_by (order_of name called) place (find_in name q (entries_from b (left - 1) (place + (length called + 6))))) n
          ∙ ap (λ (q : Order). found_by q place (find_in name (place + (length called + 6)) (entries_from b (left - 1) (place + (length called + 6)))))
          (sym a ∙ ap order_meaning t)

      pub seek_lower : o ≡ Less → Err place ≡ find_in name 2 (entries_in b)
      seek_lower t = sym (here Less t ∙ unfold found_by order_meaning in refl)

      pub seek_equal : o ≡ Equal → Ok place ≡ find_in name 2 (entries_in b)
      seek_equal t = sym (here Equal t ∙ unfold found_by order_meaning in refl)

      pub seek_higher : (rest behind : ℕ) → rest ≡ left - 1 → behind ≡ place + (length called + 6) → o ≡ Greater → Sought b name rest behind
      seek_higher rest behind r p t = rw (r, p) (here Greater t ∙ unfold found_by order_meaning in refl)
