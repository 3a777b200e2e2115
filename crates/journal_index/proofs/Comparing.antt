-- The entries of a buffer held against those of the records at some places, one after the other: those left decide.
-- Assumes nothing.
use mathlib.Core.Path.{◌≡◌, refl, sym, ap, ap₂, ◌∙◌}
use Prim.Native.Nat.{ℕ, ◌+◌, ◌-◌, ◌≤◌, ◌<◌}
use mathlib.Core.List.{List, [], ◌∷◌}
use mathlib.Core.Bool.{Bool, true, false, not, ◌&&◌}
use native.Mathlib.Omega.{arith}
use native.Mathlib.Numerals.{add-one}
use borrow.Author.Tests.{eqb-true, eq-eqb, not-true, not-false}
use lib.ListN.{length, drop, get_or, drop_of_length-le}
use lib.Seq.{drop-cons}
use lib.Dec.{eqb}
use Rattle.facts.proofs.Tests.{both_hold}
use Rattle.text_digits.specs.Same.{same_bytes}
use Rattle.text_digits.proofs.Comparing.{equal_same, same_equal}
use Rattle.journal_spec.specs.Index.{IndexEntry}
use Rattle.journal_parts.specs.Numbers.{number_in}
use Rattle.journal_parts.specs.Front.{record_name}
use Rattle.std.specs.Prelude.{Option, Some, None, MatchOption, is_some}
use Rattle.journal_entries.specs.Entries.{EntryIs, size_at, entries_from, entries_in}
use Rattle.journal_entries.specs.declared.walking.Entry.{Entry}
use Rattle.journal_entries.proofs.ByCounts.{entries_end, entries_none, entry_more, count_read}
use Rattle.journal_index.specs.Places.{entry_at, entries_of, same_entries}

-- ---- the same entries

pub entries_same : (es fs : List IndexEntry) → same_entries es fs ≡ true → es ≡ fs
unfolding same_entries
entries_same [] [] h = refl
entries_same [] (f ∷ fs) h = let z : ◌≡◌ {A = ℕ} 0 1 = cc in absurd (omega arith)
entries_same (e ∷ es) [] h = let z : ◌≡◌ {A = ℕ} 0 1 = cc in absurd (omega arith)
entries_same (e ∷ es) (f ∷ fs) h =
    let x = both_hold (same_bytes e.name f.name && eqb e.start f.start) (same_entries es fs) h in
    let y = both_hold (same_bytes e.name f.name) (eqb e.start f.start) x.0 in
    ap₂ (λ (g : IndexEntry) (gs : List IndexEntry). g ∷ gs)
    (ap₂ (λ (n : List ℕ) (s : ℕ). record { name = n; start = s }) (same_equal e.name f.name y.0) (eqb-true e.start f.start y.1))
    (entries_same es fs x.1)

pub entries_self : (es : List IndexEntry) → same_entries es es ≡ true
unfolding same_entries
entries_self [] = refl
entries_self (e ∷ es) = rw (equal_same e.name, eq-eqb e.start e.start refl, entries_self es) refl

-- ---- one after the other

pub record Comparing (b ps index : List ℕ) (left place i : ℕ) : Type 0 where
  pub same : same_entries (entries_in index) (entries_of b ps) ≡ same_entries (entries_from index left place) (entries_of b (drop i ps))

pub comparing_start : (b ps index : List ℕ) (left : ℕ) → left ≡ number_in 2 0 index → Comparing b ps index left 2 0
comparing_start b ps index left e = record { same = ap (λ (es : List IndexEntry). same_entries es (entries_of b ps)) (sym (count_read index left e)) }

-- the next place's entry
next_entry : (b ps : List ℕ) (i : ℕ) → i < length ps → entries_of b (drop i ps) ≡ entry_at b (get_or ps i 0) ∷ entries_of b (drop (i + 1) ps)
unfolding entries_of
next_entry b ps i h = rw (add-one, drop-cons ps i 0 h) refl

module _ (b ps index : List ℕ) (left place i : ℕ) (v : Comparing b ps index left place i) where
  module _ (h : i < length ps) where
    missing : entries_from index left place ≡ [] → false ≡ same_entries (entries_in index) (entries_of b ps)
    unfolding same_entries
    missing e = sym (v.same ∙ ap₂ same_entries e (next_entry b ps i h))

    -- there is no entry more
    pub comparing_none : left ≡ 0 → false ≡ same_entries (entries_in index) (entries_of b ps)
    comparing_none e = missing (entries_none index left place e)

    pub comparing_short : size_at index place ≡ 0 → false ≡ same_entries (entries_in index) (entries_of b ps)
    comparing_short z = missing (entries_end index place left (sym z))

    -- one more, by whether it is the record's
    module _ (called : List ℕ) (start at : ℕ) (name : List ℕ) (t : Bool) (some : left ≡ 0 → ⊥) (x : EntryIs index place called start)
        (from : at ≡ get_or ps i 0) (named : name ≡ record_name (drop (get_or ps i 0) b))
        (told : t ≡ (same_bytes called name && eqb start at)) where
      turn : same_entries (entries_in index) (entries_of b ps)
          ≡ (t && same_entries (entries_from index (left - 1) (place + (length called + 6))) (entries_of b (drop (i + 1) ps)))
      unfolding same_entries entry_at
      turn =
          let rest : Bool = same_entries (entries_from index (left - 1) (place + (length called + 6))) (entries_of b (drop (i + 1) ps)) in
          v.same
          ∙ ap₂ same_entries (entry_more index place called start x left (omega (arith, some))) (next_entry b ps i h)
          ∙ ap (λ (l : List ℕ). (same_bytes called l && eqb start (get_or ps i 0)) && rest) (sym named)
          ∙ ap (λ (p : ℕ). (same_bytes called name && eqb start p) && rest) (sym from)
          ∙ ap (λ (s : Bool). s && rest) (sym told)

      pub comparing_other : t ≡ false → false ≡ same_entries (entries_in index) (entries_of b ps)
      comparing_other f =
          sym (turn ∙ ap (λ (s : Bool). s && same_entries (entries_from index (left - 1) (place + (length called + 6))) (entries_of b (drop (i + 1) ps))) f)

      pub comparing_next : (behind : ℕ) → behind ≡ place + (length called + 6) → t ≡ true → Comparing b ps index (left - 1) behind (i + 1)
      comparing_next behind p f =
          rw p
          (record {
            same =
                turn
                ∙ ap (λ (s : Bool). s && same_entries (entries_from index (left - 1) (place + (length called + 6))) (entries_of b (drop (i + 1) ps))) f;
          })

  -- no place is left
  module _ (h : length ps ≤ i) where
    ends : same_entries (entries_in index) (entries_of b ps) ≡ same_entries (entries_from index left place) []
    unfolding entries_of
    ends = v.same ∙ ap (λ (l : List ℕ). same_entries (entries_from index left place) (entries_of b l)) (drop_of_length-le ps {i = i} h)

    pub comparing_end : left ≡ 0 → eqb left 0 ≡ same_entries (entries_in index) (entries_of b ps)
    unfolding same_entries
    comparing_end e = eq-eqb left 0 e ∙ sym (ends ∙ ap (λ (es : List IndexEntry). same_entries es []) (entries_none index left place e))

    -- whether an entry stands behind them all
    pub comparing_last : (left ≡ 0 → ⊥) → (r : Option Entry)
        → MatchOption r (size_at index place ≡ 0) (λ e. EntryIs index place e.name.now e.start)
        → (t : Bool) → is_some r ≡ not t → t ≡ same_entries (entries_in index) (entries_of b ps)
    unfolding same_entries
    comparing_last some None z t e =
        not-false t (sym e)
        ∙ sym (ends ∙ ap (λ (es : List IndexEntry). same_entries es []) (entries_end index place left (sym z)))
    comparing_last some (Some f) x t e =
        not-true t (sym e)
        ∙ sym (ends ∙ ap (λ (es : List IndexEntry). same_entries es []) (entry_more index place f.name.now f.start x left (omega (arith, some))))
