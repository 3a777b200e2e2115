-- For code that goes over an index entry by entry: how many bytes entries have, and those of some behind others.
-- Assumes nothing.
use mathlib.Core.Path.{◌≡◌, refl, sym, ap, ◌∙◌}
use Prim.Native.Nat.{ℕ, ◌+◌, ◌*◌, ◌≤◌}
use mathlib.Core.List.{List, [], ◌∷◌, ◌++◌, map, append_assoc}
use mathlib.Core.Logic.{◌⊎◌, inl, inr, ⊎_elim}
use native.Mathlib.Omega.{arith}
use lib.ListN.{length, length-append}
use Rattle.journal_spec.specs.Bytes.{bytes_of, joined}
use Rattle.journal_spec.specs.Section.{section_bytes}
use Rattle.journal_spec.specs.Index.{IndexEntry, entry_bytes, index_bytes, entries_size, amend}
use Rattle.journal_spec.proofs.Indexes.{amend_parts}
use Rattle.journal_spec.proofs.Numbers.{length_bytes}
use Rattle.journal_spec.proofs.Sections.{length_section}

pub entry_size : (e : IndexEntry) → length (entry_bytes e) ≡ 6 + length e.name
unfolding entry_bytes
entry_size e = length-append (section_bytes 1 e.name) (bytes_of 4 e.start) ∙ rw (length_section, length_bytes) (omega arith)

pub entries_size_lem : (es : List IndexEntry) → length (joined (map entry_bytes es)) ≡ entries_size es
unfolding joined entries_size
entries_size_lem [] = refl
entries_size_lem (e ∷ es) = length-append (entry_bytes e) (joined (map entry_bytes es)) ∙ rw (entry_size e, entries_size_lem es) refl

pub index_size : (es : List IndexEntry) → length (index_bytes es) ≡ 2 + entries_size es
unfolding index_bytes
index_size es = length-append (bytes_of 2 (length es)) (joined (map entry_bytes es)) ∙ rw (length_bytes, entries_size_lem es) refl

pub size_append : (es fs : List IndexEntry) → entries_size (es ++ fs) ≡ entries_size es + entries_size fs
unfolding entries_size
size_append [] fs = omega arith
size_append (e ∷ es) fs = rw (size_append es fs) (omega arith)

-- six bytes at least for each
pub entries_least : (es : List IndexEntry) → 6 * length es ≤ entries_size es
unfolding entries_size
entries_least [] = omega arith
entries_least (e ∷ es) = omega (arith, entries_least es)

-- the bytes of some entries, and those of others behind them
pub entries_append : (es fs : List IndexEntry) → joined (map entry_bytes (es ++ fs)) ≡ joined (map entry_bytes es) ++ joined (map entry_bytes fs)
unfolding joined
entries_append [] fs = refl
entries_append (e ∷ es) fs =
    ap (λ (l : List ℕ). entry_bytes e ++ l) (entries_append es fs)
    ∙ sym (append_assoc (entry_bytes e) (joined (map entry_bytes es)) (joined (map entry_bytes fs)))

-- amended, an index is as long as before where its name has an entry, else longer by one
pub amend_size : (new : IndexEntry) (es : List IndexEntry)
    → (entries_size (amend new es) ≡ entries_size es) ⊎ (entries_size (amend new es) ≡ entries_size es + (6 + length new.name))
unfolding entries_size
amend_size new es =
    let a = amend_parts new es in
    let was : entries_size es ≡ entries_size a.front + (entries_size a.old + entries_size a.back) =
    ap entries_size a.was ∙ size_append a.front _ ∙ ap (λ (n : ℕ). entries_size a.front + n) (size_append a.old a.back) in
    let is : entries_size (amend new es) ≡ entries_size a.front + (6 + length new.name + entries_size a.back) =
    ap entries_size a.is ∙ size_append a.front _ in
    ⊎_elim
    (λ none'. let o : entries_size a.old ≡ 0 = ap entries_size none' in inr (omega (arith, was, is)))
    (λ one. let o : entries_size a.old ≡ 6 + length new.name + 0 = ap entries_size one.1 in inl (omega (arith, was, is)))
    a.one
