-- The theorems of the two calls: each position of the index is tried against its name's last record, 10 is answered beyond them and nowhere
-- else, links over all positions plus unknown lines are the lines of the log, and no overs exceed their links. Assumes nothing.
use mathlib.Core.Path.{◌≡◌, refl, sym, ap, ◌∙◌}
use mathlib.Core.Logic.{◌↔◌}
use Prim.Native.Nat.{ℕ, suc, ◌+◌, ◌≤◌, ◌<◌}
use mathlib.Core.List.{List, [], ◌∷◌}
use mathlib.Core.Bool.{false, ◌&&◌}
use mathlib.Core.Option.{some}
use native.Mathlib.Omega.{arith}
use lib.ListN.{length, get_or, length-map}
use lib.Ieee.{binary64, of_bits, to_bits, lt}
use Rattle.limit.specs.Formula.{double}
use Rattle.journal_spec.specs.Bytes.{AreBytes}
use Rattle.journal_spec.specs.Tests.{same}
use Rattle.journal_spec.specs.Model.{worked_out}
use Rattle.journal_spec.specs.Refusals.{absent_refusal}
use Rattle.journal_spec.specs.Record.{Record, Last}
use Rattle.journal_spec.specs.Ranges.{RecordRanges}
use Rattle.journal_spec.specs.Profile.{plain}
use Rattle.journal_spec.specs.Scan.{Placed, records_of, contents_of}
use Rattle.journal_spec.specs.Index.{IndexEntry, index_of}
use Rattle.journal_spec.proofs.Places.{placed_from, records_of_placed}
use Rattle.journal_spec.proofs.Explained.{holding}
use Rattle.journal_spec.proofs.Indexes.{amended_is}
use Rattle.journal_trial_spec.specs.Tally.{tally, sum_to}
use Rattle.journal_trial_spec.specs.Links.{Link, log_of}
use Rattle.journal_trial_spec.specs.Trial.{links_of, overs_of, unknown_of, overruns, no_chance, chance, trial_of}
use Rattle.journal_trial_spec.specs.Trial.{declined, ready, ready_of, TrialResult, tried, untried}
use Rattle.journal_trial_spec.specs.Trial.{trial_at, entry_trial, try_entry, UnknownResult, unknown, uncounted, unknown_count, try_unknown}
use Rattle.journal_trial_spec.proofs.Lines.{is_newline, links_counted}
use Rattle.journal_trial_spec.proofs.Counts.{links_sum, links_and_unknown, overs_at_most, over_at_lem}
use Rattle.journal_trial_spec.proofs.Overrun.{OverrunAt, FirstOverrun, lowest_first, none_overrun, lowest_least}
use Rattle.journal_spec.specs.Indexed.{last_named}
use Rattle.journal_spec.proofs.Scanning.{in_ranges}
use Rattle.journal_spec.proofs.Standing.{no_entry, standing_at_lem, standing_beyond, entry_stands}
use Rattle.journal_trial_spec.proofs.Rows.{ready_exactly}

-- ---- one trial

-- there is an over for each limit, and none exceeds the links
pub trial_overs : (r : Record) (ls : List Link)
    → (length (trial_of r ls).overs ≡ length r.limits) × ((i : ℕ) → get_or (trial_of r ls).overs i 0 ≤ (trial_of r ls).links)
unfolding trial_of overs_of
trial_overs r ls = (length-map r.limits _, λ i. unfold overs_of in overs_at_most r.name r.limits ls i)

-- the j-th chance of a record: its limit is the formula's at that chance, and its overs are the links of the name whose ticks exceed that limit
pub record OverAt (r : Record) (ls : List Link) (j : ℕ) : Type 0 where
  pub limit : get_or r.limits j 0 ≡ to_bits binary64 (worked_out r.form r.times (get_or r.chances j 0))
  pub over : get_or (trial_of r ls).overs j 0
      ≡ tally (λ (l : Link). same l.name r.name && lt (of_bits binary64 (get_or r.limits j 0)) (double l.ticks)) ls

pub trial_over_at : (last : Last) (r : Record) (ls : List Link) (j : ℕ) → RecordRanges last r → j < length r.chances → OverAt r ls j
unfolding trial_of
trial_over_at last r ls j g h = record {
  limit = g.limits j h;
  over = over_at_lem r.name r.limits ls j (omega (arith, g.limit_count));
}

-- the chance that is reported was overrun, and is the first that was
pub trial_has : (last : Last) (r : Record) (ls : List Link) (c : ℕ) → RecordRanges last r → (trial_of r ls).lowest ≡ chance c
    → FirstOverrun (trial_of r ls).links r.chances (trial_of r ls).overs c
unfolding trial_of
trial_has last r ls c g h =
    lowest_first (links_of r.name ls) r.chances (overs_of r.name r.limits ls) c ((trial_overs r ls).0 ∙ g.limit_count) h

-- none is reported exactly if none was
pub trial_none : (last : Last) (r : Record) (ls : List Link) → RecordRanges last r
    → ((trial_of r ls).lowest ≡ no_chance)
    ↔ ((i : ℕ) → i < length r.chances → overruns (trial_of r ls).links (get_or r.chances i 0) (get_or (trial_of r ls).overs i 0) ≡ false)
unfolding trial_of
trial_none last r ls g =
    none_overrun (links_of r.name ls) r.chances (overs_of r.name r.limits ls) ((trial_overs r ls).0 ∙ g.limit_count)

-- the chance that is reported is the lowest that was overrun
pub trial_lowest : (last : Last) (r : Record) (ls : List Link) (c : ℕ) → RecordRanges last r → (trial_of r ls).lowest ≡ chance c
    → (j : ℕ) → j < length r.chances → OverrunAt (trial_of r ls).links r.chances (trial_of r ls).overs j → c ≤ get_or r.chances j 0
unfolding trial_of
trial_lowest last r ls c g h =
    lowest_least (links_of r.name ls) r.chances (overs_of r.name r.limits ls) c
    ((trial_overs r ls).0 ∙ g.limit_count) g.chances.rising h

-- ---- the positions

-- the links of an answer, none of a refusal
abbrev pub links_in : TrialResult → ℕ
links_in (tried t) = t.links
links_in (untried r) = 0

abbrev pub unknown_in : UnknownResult → ℕ
unknown_in (unknown n) = n
unknown_in (uncounted r) = 0

sum_positions : (ls : List Link) (es : List IndexEntry) (f : ℕ → ℕ) → ((i : ℕ) → i < length es → f i ≡ links_of (get_or es i no_entry).name ls)
    → sum_to f (length es) ≡ links_sum es ls
unfolding sum_to links_sum
sum_positions ls [] f h = refl
sum_positions ls (e ∷ es) f h =
    let first : f 0 ≡ links_of e.name ls = h 0 (omega arith) in
    omega (arith, first, sum_positions ls es (λ i. f (suc i)) (λ i k. h (suc i) (omega arith)))

module _ (log slice : List ℕ) (len : ℕ) (index : List ℕ) (b : AreBytes slice) (ls : List Link) (ps : List Placed)
    (r : ready_of (log_of log) (contents_of plain slice len) index ≡ ready ls ps) where
  -- what a position of the index answers: the trial of the last record of the entry's name
  pub record TriedAt (i : ℕ) : Type 0 where
    pub leaf : Record
    pub last : Last
    pub ranges : RecordRanges last leaf
    pub named : leaf.name ≡ (get_or (index_of ps) i no_entry).name
    pub stands : last_named leaf.name (records_of ps) ≡ some leaf
    pub answer : try_entry log slice len index i ≡ tried (trial_of leaf ls)

  pub position_tried : (i : ℕ) → i < length (index_of ps) → TriedAt i
  unfolding try_entry entry_trial
  position_tried i h =
      let y = ready_exactly _ _ index ls ps r in
      let x = holding slice len ps y.committed b y.journal in
      let same : records_of ps ≡ x.records = ap records_of x.places ∙ records_of_placed 0 x.records in
      let inside : i < length (index_of (placed_from 0 x.records)) = rw (sym x.places) h in
      let s = entry_stands x.records i inside in
      let name : (get_or (index_of (placed_from 0 x.records)) i no_entry).name ≡ (get_or (index_of ps) i no_entry).name =
      ap (λ (qs : List Placed). (get_or (index_of qs) i no_entry).name) (sym x.places) in
      let g = in_ranges [] s.front s.shown s.back (rw s.parts at x.follow) in
      let is : last_named s.shown.name (records_of ps) ≡ some s.shown = rw same (rw s.named s.last) in
      record {
        leaf = s.shown;
        last = g.0;
        ranges = g.1;
        named = s.named ∙ name;
        stands = is;
        answer = rw r (rw (standing_at_lem (records_of ps) (index_of ps) i h ∙ ap (λ (n : List ℕ). last_named n (records_of ps)) (sym (s.named ∙ name)) ∙ is)
            (unfold trial_at in refl));
      }

  -- each of its overs is counted against its own limit
  pub position_over : (i : ℕ) (h : i < length (index_of ps)) (j : ℕ) → let t = position_tried i h in j < length t.leaf.chances → OverAt t.leaf ls j
  position_over i h j k = let t = position_tried i h in trial_over_at t.last t.leaf ls j t.ranges k

  -- 10 beyond them
  pub position_beyond : (i : ℕ) → length (index_of ps) ≤ i → try_entry log slice len index i ≡ untried (declined absent_refusal)
  unfolding try_entry entry_trial trial_at
  position_beyond i h = rw r (rw (standing_beyond (records_of ps) (index_of ps) i h) refl)

  links_at : (i : ℕ) → i < length (index_of ps) → links_in (try_entry log slice len index i) ≡ links_of (get_or (index_of ps) i no_entry).name ls
  links_at i h =
      let t = position_tried i h in
      ap links_in t.answer ∙ trial_links t.leaf ∙ ap (λ (n : List ℕ). links_of n ls) t.named
    where
      trial_links : (leaf : Record) → (trial_of leaf ls).links ≡ links_of leaf.name ls
      trial_links leaf = unfold trial_of in refl

  unknown_are : unknown_in (try_unknown log slice len index) ≡ unknown_of (index_of ps) ls
  unfolding try_unknown unknown_count
  unknown_are = rw r refl

  -- links over all positions plus unknown lines are the lines of the log, counted from the log
  pub all_lines_counted : sum_to (λ i. links_in (try_entry log slice len index i)) (length (index_of ps)) + unknown_in (try_unknown log slice len index)
      ≡ tally is_newline log
  all_lines_counted =
      let y = ready_exactly _ _ index ls ps r in
      let x = holding slice len ps y.committed b y.journal in
      let rises = (amended_is x.records).rising in
      let sum = sum_positions ls (index_of ps) (λ i. links_in (try_entry log slice len index i)) links_at in
      let all = links_and_unknown (index_of ps) ls (rw (sym x.places) at rises) in
      let n = links_counted log ls y.log in
      omega (arith, sum, all, n, unknown_are)
