-- The journal's own index, by its entries: its count, and where the record of the entry at a position starts.
-- Assumes nothing.
use Rattle.std.proofs.Common.{◌≡◌, ℕ, zero, suc, ◌+◌, ◌<◌, ◌≤◌, Bool, true, false, cond, leb, List, [], ◌∷◌, length, get_or, take, drop, refl, ap, ◌∙◌, arith, drop-cons, le-leb}
use Rattle.journal_spec.specs.Bytes.{number_at}
use Rattle.journal_spec.specs.Index.{IndexEntry, entries_size}
use Rattle.journal_parts.specs.Numbers.{number_in}
use Rattle.journal_parts.proofs.NumberStands.{number_stands}
use Rattle.journal_entries.specs.Entries.{behind_entry, start_at, start_in, size_at}
use Rattle.journal_entries.proofs.Indexed.{Entries, entry_read, IndexHere}
use Rattle.journal_entries.proofs.Parsed.{index_read}
use Rattle.journal_spec.proofs.Standing.{no_entry}
use Rattle.journal_trial.specs.Answers.{start_of}

-- ---- positions

entries_behind : (b : List ℕ) (at : ℕ) (es : List IndexEntry) (i : ℕ) → Entries b at es → i ≤ length es → Entries b (at + entries_size (take i es)) (drop i es)
unfolding entries_size
entries_behind b at es zero c h = let e : at + 0 ≡ at = omega arith in rw e c
entries_behind b at [] (suc i) c h = absurd (omega arith)
entries_behind b at (e ∷ es) (suc i) c h =
    let r = entry_read b at e es c in
    let p : at + (6 + length e.name + entries_size (take i es)) ≡ behind_entry b at + entries_size (take i es) =
    unfold behind_entry in omega (arith, r.count) in
    rw p (entries_behind b (behind_entry b at) es i r.next (omega arith))

pub start_here : (b : List ℕ) (at : ℕ) (e : IndexEntry) (es : List IndexEntry) → Entries b at (e ∷ es) → start_in b at ≡ e.start
unfolding start_in start_at
start_here b at e es c =
    let r = entry_read b at e es c in
    rw (le-leb (behind_entry b at) (length b) r.next.inside) (ap (λ (n : ℕ). number_at 4 (at + 2 + n) b) r.count ∙ r.start)

module _ (b : List ℕ) (es : List IndexEntry) (x : IndexHere b es) where
  pub count_is : (n : ℕ) → n ≡ number_in 2 0 b → n ≡ length es
  count_is n e = e ∙ number_stands 2 0 b (omega arith) (omega (arith, x.entries.inside)) ∙ x.count

  pub start_is : (i : ℕ) → i < length es → start_of b i ≡ (get_or es i no_entry).start
  unfolding start_of
  start_is i h =
      ap (λ (l : List IndexEntry). start_in b (2 + entries_size (take i l))) (index_read b es x)
      ∙ start_here b (2 + entries_size (take i es)) (get_or es i no_entry) (drop (suc i) es)
      (rw (drop-cons es i no_entry h) at (entries_behind b 2 es i x.entries (omega arith)))

-- the start by the entry that is read
pub start_told : (b : List ℕ) (at : ℕ) → size_at b at ≡ 0 → 0 ≡ start_in b at
unfolding size_at start_in
start_told b at h = go (leb (behind_entry b at) (length b)) h
  where
    go : (t : Bool) → cond t (number_at 2 at b + 6) 0 ≡ 0 → 0 ≡ cond t (start_at b at) 0
    go true k = absurd (omega arith)
    go false k = refl
