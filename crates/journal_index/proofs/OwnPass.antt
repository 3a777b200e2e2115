-- A buffer that is no index is not the records' own; else the entries that it begins with decide.
-- Assumes nothing.
use mathlib.Core.Path.{◌≡◌, refl, sym, ap, ◌∙◌}
use Prim.Native.Nat.{ℕ, ◌<◌}
use mathlib.Core.List.{List}
use mathlib.Core.Bool.{Bool, true, false}
use lib.ListN.{get_or}
use Rattle.facts.proofs.Tests.{by_test_lem}
use Rattle.journal_spec.specs.Cursor.{records_in}
use Rattle.journal_spec.specs.Index.{IndexEntry, index_bytes, in_front}
use Rattle.journal_spec.proofs.Numbers.{are_bytes}
use Rattle.journal_spec.proofs.Whole.{WholeBytes}
use Rattle.journal_entries.specs.Entries.{entries_in}
use Rattle.journal_entries.specs.Shape.{is_index}
use Rattle.journal_entries.proofs.Indexed.{IndexHere}
use Rattle.journal_entries.proofs.Parsed.{index_read, stands_told, told_stands, told_count, here_in_front}
use Rattle.journal_entries.proofs.Fitting.{index_fits, own_here}
use Rattle.journal_index.specs.Standing.{index_in}
use Rattle.journal_index.specs.Places.{entries_of, same_entries, Named}
use Rattle.journal_index.proofs.Comparing.{entries_same, entries_self}

-- ---- what the entries decide

same_truth : (s t : Bool) → (s ≡ true → t ≡ true) → (t ≡ true → s ≡ true) → s ≡ t
same_truth true t f g = sym (f refl)
same_truth false true f g = g refl
same_truth false false f g = refl

-- a buffer that begins with an index: its entries as they are read
module _ (index : List ℕ) (bytes : (i : ℕ) → get_or index i 0 < 256) (h : is_index index ≡ true) where
  stands : IndexHere index (entries_in index)
  unfolding entries_in
  stands = record { count = told_count index (are_bytes index bytes) h; entries = (told_stands index (are_bytes index bytes) h).entries }

module _ (b index : List ℕ) (w : WholeBytes b) where
  -- the buffer begins with the records' index
  abbrev own : Bool
  own = in_front (index_bytes (index_in b)) index

  -- where it does, it stands there and is read
  pub own_stands : own ≡ true → IndexHere index (index_in b)
  unfolding index_in
  own_stands h = own_here b (records_in b) index w.cursor w.short h

  pub own_entries : own ≡ true → entries_in index ≡ index_in b
  own_entries h = index_read index (index_in b) (own_stands h)

  own_told : own ≡ true → is_index index ≡ true
  unfolding index_in
  own_told h = let f = index_fits b (records_in b) w.cursor w.short in stands_told index (index_in b) (own_stands h) f.named f.rising

  pub no_index : is_index index ≡ false → own ≡ false
  no_index h = by_test_lem own (λ t. t ∙ sym (own_told t) ∙ h) (λ t. t)

  -- else the entries that it begins with decide
  pub own_same : ((i : ℕ) → get_or index i 0 < 256) → is_index index ≡ true → (ps : List ℕ) → Named b ps
      → same_entries (entries_in index) (entries_of b ps) ≡ own
  own_same bytes h ps n =
      same_truth (same_entries (entries_in index) (entries_of b ps)) own
      (λ t. ap (λ (es : List IndexEntry). in_front (index_bytes es) index) (sym (entries_same (entries_in index) (entries_of b ps) t ∙ n.is))
      ∙ here_in_front index (are_bytes index bytes) (entries_in index) (stands index bytes h))
      (λ t. ap (λ (es : List IndexEntry). same_entries es (entries_of b ps)) (own_entries t ∙ sym n.is) ∙ entries_self (entries_of b ps))
