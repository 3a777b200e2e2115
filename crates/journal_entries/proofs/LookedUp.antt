-- A name looked up among the entries: those left decide, and what is found is the name's start. And whether an entry has the name, by its last
-- byte first. Assumes nothing.
use mathlib.Core.Path.{◌≡◌, refl, sym, ap, ◌∙◌}
use Prim.Native.Nat.{ℕ, ◌+◌, ◌-◌, ◌<◌}
use mathlib.Core.List.{List, [], ◌∷◌}
use mathlib.Core.Bool.{Bool, true, false}
use mathlib.Core.Option.{some}
use native.Mathlib.Omega.{arith}
use lib.ListN.{length}
use lib.Dec.{eqb}
use denote.Ref.{Bor}
use borrow.Author.Tests.{eq-eqb}
use Rattle.std.specs.Prelude.{Option, Some, None, option_copied, slice_get}
use Rattle.std.specs.Option.{option_eq}
use Rattle.facts.proofs.Tests.{by_test_lem, not_both}
use Rattle.text_digits.specs.Same.{same_bytes}
use Rattle.text_digits.proofs.Comparing.{equal_same, same_equal}
use Rattle.journal_spec.specs.Index.{IndexEntry}
use Rattle.journal_spec.proofs.NameOrder.{order_equal}
use Rattle.journal_spec.specs.Indexed.{look_up}
use Rattle.journal_spec.proofs.Indexes.{own, other}
use Rattle.journal_parts.specs.Numbers.{number_in}
use Rattle.journal_entries.specs.Entries.{EntryIs, size_at, entries_from, entries_in}
use Rattle.journal_entries.specs.Answers.{start_meaning}
use Rattle.journal_entries.proofs.ByCounts.{entries_end, entries_none, entry_more, count_read}

-- ---- whether an entry has the name

-- names that are the same end alike
pub other_end : (a b : List ℕ) (p q : Option (Bor ℕ)) → option_copied p ≡ slice_get a (length a - 1) → option_copied q ≡ slice_get b (length b - 1)
    → option_eq (λ x y. eqb x.now y.now) p q ≡ false → same_bytes a b ≡ false
other_end a b p q e f h =
    by_test_lem (same_bytes a b)
    (λ t. not_both (option_eq (λ x y. eqb x.now y.now) p q)
    (alike p q (e ∙ ap (λ (l : List ℕ). slice_get l (length l - 1)) (same_equal a b t) ∙ sym f)) h)
    (λ t. t)
  where
    alike : (p q : Option (Bor ℕ)) → option_copied p ≡ option_copied q → option_eq (λ x y. eqb x.now y.now) p q ≡ true
    alike None None k = refl
    alike None (Some y) k = absurd (cc)
    alike (Some x) None k = absurd (cc)
    alike (Some x) (Some y) k = eq-eqb x.now y.now (cc)

-- ---- one entry a turn

-- an entry with another name
other_name : (name : List ℕ) (e : IndexEntry) (es : List IndexEntry) → same_bytes e.name name ≡ false → look_up name (e ∷ es) ≡ look_up name es
other_name name e es t =
    other name e es
    (λ o.
    let z : true ≡ false = sym (equal_same name) ∙ ap (λ (m : List ℕ). same_bytes m name) (order_equal name e.name o) ∙ t in
    let y : ◌≡◌ {A = ℕ} 0 1 = cc in
    omega arith)

own_name : (name : List ℕ) (e : IndexEntry) (es : List IndexEntry) → same_bytes e.name name ≡ true → look_up name (e ∷ es) ≡ some e.start
own_name name e es t = ap (λ (m : List ℕ). look_up m (e ∷ es)) (sym (same_equal e.name name t)) ∙ own e es

-- of all entries `left` are left from the place on, and decide
pub record Looking (b name : List ℕ) (left place : ℕ) : Type 0 where
  pub same : look_up name (entries_in b) ≡ look_up name (entries_from b left place)

pub look_start : (b name : List ℕ) (left : ℕ) → left ≡ number_in 2 0 b → Looking b name left 2
look_start b name left e = record { same = ap (look_up name) (sym (count_read b left e)) }

module _ (b name : List ℕ) (left place : ℕ) (l : Looking b name left place) where
  ends : entries_from b left place ≡ [] → start_meaning None ≡ look_up name (entries_in b)
  unfolding look_up start_meaning
  ends e = sym (l.same ∙ ap (look_up name) e)

  pub look_short : size_at b place ≡ 0 → start_meaning None ≡ look_up name (entries_in b)
  look_short z = ends (entries_end b place left (sym z))

  pub look_done : left ≡ 0 → start_meaning None ≡ look_up name (entries_in b)
  look_done e = ends (entries_none b left place e)

  -- by whether the entry has the name
  module _ (called : List ℕ) (start : ℕ) (x : EntryIs b place called start) (t : Bool) (a : t ≡ same_bytes called name) (h : 0 < left) where
    abbrev first : IndexEntry
    first = record { name = called; start = start }

    abbrev others : List IndexEntry
    others = entries_from b (left - 1) (place + (length called + 6))

    all : look_up name (entries_in b) ≡ look_up name (first ∷ others)
    all = l.same ∙ ap (look_up name) (entry_more b place called start x left h)

    pub look_found : t ≡ true → start_meaning (Some start) ≡ look_up name (entries_in b)
    unfolding start_meaning
    look_found q = sym (all ∙ own_name name first others (sym a ∙ q))

    pub look_goes : (rest behind : ℕ) → rest ≡ left - 1 → behind ≡ place + (length called + 6) → t ≡ false → Looking b name rest behind
    look_goes rest behind r p q = rw (r, p) (record { same = all ∙ other_name name first others (sym a ∙ q) })
