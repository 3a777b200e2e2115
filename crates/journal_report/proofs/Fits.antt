-- How long a line of the report is: that of a record in document 01's ranges, at up to eight chances, takes at most `max_line` bytes, so that a buffer
-- of so many holds every line of a report, and its head. No text is wider than its column; a line of eight chances under a name of 32 bytes takes all of
-- them, so that no smaller buffer will do. Assumes nothing.
use mathlib.Core.Path.{◌≡◌, refl, sym, ◌∙◌}
use Prim.Native.Nat.{ℕ, suc, ◌-◌, ◌*◌, ◌≤◌, ◌<◌, max}
use mathlib.Core.Bool.{Bool, true, false, cond}
use mathlib.Core.List.{List, [], ◌∷◌, ◌++◌}
use native.Mathlib.Omega.{arith}
use lib.Dec.{eqb, leb→le}
use lib.ListN.{length, get_or, replicate, length-append, length-replicate}
use lib.Ieee.{binary64, of_bits, to_bits}
use Rattle.facts.proofs.Orders.{by_order}
use Rattle.text_digits.specs.Hex.{digits, decimal_digits}
use Rattle.text_digits.proofs.Counting.{decimal_most}
use Rattle.limit.specs.Times.{times_in_range, sum_of, squares_of}
use Rattle.limit.specs.Formula.{plain_form, sample_form, mean_of, spread_of, moments_of}
use Rattle.limit.specs.Answer.{MomentsResult}
use Rattle.limit.specs.Limit.{form_known, moments_of_times}
use Rattle.limit.proofs.InRange as R
use Rattle.text_dates.specs.Iso.{iso_text, iso_of}
use Rattle.text_ticks.specs.Ticks.{in_range, whole_by, ticks_up}
use Rattle.text_ticks.specs.Text.{ticks_text}
use Rattle.journal_spec.specs.Bytes.{AreBytes}
use Rattle.journal_spec.specs.Record.{Record, Last}
use Rattle.journal_spec.specs.Ranges.{Each, RecordRanges}
use Rattle.journal_spec.specs.Profile.{plain}
use Rattle.journal_spec.specs.Scan.{Placed, records_of, standing, contents_of}
use Rattle.journal_spec.specs.Index.{IndexEntry, index_of}
use Rattle.journal_spec.proofs.Limits.{times_good_lem}
use Rattle.journal_spec.proofs.Ranged.{time_ranged}
use Rattle.law_shown.specs.Shown.{max_slot}
use Rattle.law_shown.proofs.Records.{shown_record}
use Rattle.journal_spec.proofs.Standing.{no_entry, standing_beyond}
use Rattle.journal_spec.proofs.StandingBytes.{standing_bytes, standing_there}
use Rattle.journal_spec.specs.Log.{space}
use Rattle.journal_listing.specs.Listing.{mean_bits, spread_bits}
use Rattle.journal_report.specs.Slot.{gap, fill, column, name_column, near_text, slot_text}
use Rattle.journal_report.specs.Slot.{Quote, quotes_of, no_limit, limit_for, limit_width, quote_columns, asked_columns}
use Rattle.journal_report.specs.Slot.{limit_columns, times_width, moment_width, front_columns, figure_columns, slot_line}
use Rattle.journal_report.specs.Report.{line_of, report_line, max_line, head_name, widest, width_of, head_columns, head_line}

-- ---- columns

-- a text no longer than m, in a column no wider
column_most : (tabs : Bool) (width m : ℕ) (text : List ℕ) → width ≤ m → length text ≤ m → length (column tabs width text) ≤ suc m
unfolding column fill
column_most true width m text w t = omega arith
column_most false width m text w t =
    rw (length-append (replicate (width - length text) space) text, length-replicate (width - length text) space) (omega arith)

name_most : (tabs : Bool) (width m : ℕ) (name : List ℕ) → width ≤ m → length name ≤ m → length (name_column tabs width name) ≤ m
unfolding name_column fill
name_most true width m name w t = rw (length-append name []) (omega arith)
name_most false width m name w t =
    rw (length-append name (replicate (width - length name) space), length-replicate (width - length name) space) (omega arith)

-- the text of a limit by its bits, in milliseconds, takes at most nine bytes
abbrev ShortLimit : ℕ → Type 0
ShortLimit l = length (ticks_text (ticks_up (of_bits binary64 l))) ≤ max_slot

abbrev ShortLimits : List ℕ → Type 0
ShortLimits ls = (i : ℕ) → i < length ls → ShortLimit (get_or ls i 0)

-- a chance of six digits, a colon and a limit
limit_most : (tabs : Bool) (c l : ℕ) → c ≤ 999_999 → ShortLimit l → length (column tabs limit_width (slot_text c l)) ≤ 17
unfolding slot_text
limit_most tabs c l h short =
    column_most tabs 16 16 (slot_text c l) (omega arith)
    (unfold slot_text in rw (length-append (decimal_digits c)) (omega (arith, decimal_most 6 c (omega arith) (omega arith), short)))

quotes_most : (tabs : Bool) (cs ls : List ℕ) → Each 0 999_999 cs → ShortLimits ls → length (quote_columns tabs (quotes_of cs ls)) ≤ 17 * length cs
unfolding quote_columns quotes_of
quotes_most tabs [] ls h short = omega arith
quotes_most tabs (c ∷ cs) [] h short = omega arith
quotes_most tabs (c ∷ cs) (l ∷ ls) h short =
    rw (length-append (column tabs limit_width (slot_text c l)))
    (omega (
      arith,
      limit_most tabs c l (h 0 (omega arith)).1 (short 0 (omega arith)),
      quotes_most tabs cs ls (λ i k. h (suc i) (omega arith)) (λ i k. short (suc i) (omega arith)),
    ))

-- where a record has no limit at a chance, a dash
no_limit_short : ShortLimit no_limit
unfolding of_bits in_range whole_by ticks_up ticks_text
no_limit_short = leb→le 1 max_slot tt

either_short : (l m : ℕ) (t : Bool) → ShortLimit l → ShortLimit m → ShortLimit (cond t l m)
either_short l m true h k = h
either_short l m false h k = k

limit_for_short : (cs ls : List ℕ) → ShortLimits ls → (c : ℕ) → ShortLimit (limit_for c (quotes_of cs ls))
unfolding limit_for quotes_of
limit_for_short [] ls short c = no_limit_short
limit_for_short (d ∷ cs) [] short c = no_limit_short
limit_for_short (d ∷ cs) (l ∷ ls) short c =
    either_short l (limit_for c (quotes_of cs ls)) (eqb d c) (short 0 (omega arith)) (limit_for_short cs ls (λ i k. short (suc i) (omega arith)) c)

asked_most : (tabs : Bool) (cs : List ℕ) (qs : List Quote) → Each 0 999_999 cs → ((c : ℕ) → ShortLimit (limit_for c qs))
    → length (asked_columns tabs cs qs) ≤ 17 * length cs
unfolding asked_columns
asked_most tabs [] qs h short = omega arith
asked_most tabs (c ∷ cs) qs h short =
    rw (length-append (column tabs limit_width (slot_text c (limit_for c qs))))
    (omega (
      arith,
      limit_most tabs c (limit_for c qs) (h 0 (omega arith)).1 (short c),
      asked_most tabs cs qs (λ i k. h (suc i) (omega arith)) short,
    ))

-- ---- a line

-- chances asked for: up to eight, of up to six digits
pub record Asked (asked : List ℕ) : Type 0 where
  pub few : length asked ≤ 8
  pub range : Each 0 999_999 asked

module _ (tabs : Bool) (width : ℕ) (asked : List ℕ) (last : Last) (r : Record) (g : RecordRanges last r) (w : width ≤ 32) (a : Asked asked) where
  iso_length : length (iso_of r.day) ≡ 10
  unfolding iso_of iso_text digits
  iso_length = refl

  front_most : length (front_columns tabs width r) ≤ 45
  unfolding front_columns
  front_most =
      rw (
        length-append (name_column tabs width r.name ++ (gap tabs ∷ iso_of r.day)),
        length-append (name_column tabs width r.name),
      )
      (omega (arith, name_most tabs width 32 r.name w g.name.most, iso_length))

  -- what the figures' texts come from, for a record in its ranges
  told : (mean_bits (moments_of_times r.form r.times) ≡ to_bits binary64 (mean_of (length r.times) (sum_of r.times)))
      × (spread_bits (moments_of_times r.form r.times)
      ≡ to_bits binary64 (spread_of r.form (length r.times) (sum_of r.times) (squares_of r.times)))
  unfolding moments_of_times moments_of mean_bits spread_bits
  told =
      let known : form_known r.form ≡ true = unfold form_known in R.inside plain_form sample_form r.form g.form.0 g.form.1 in
      let good : times_in_range r.times ≡ true = sym (times_good_lem r.times) ∙ (time_ranged r.times).1 g.times in
      rw (known, good) (refl, refl)

  figures_most : length (figure_columns tabs r) ≤ 22
  unfolding figure_columns near_text
  figures_most =
      let shown = shown_record last r g in
      let moments : MomentsResult = moments_of_times r.form r.times in
      let times : List ℕ = column tabs times_width (decimal_digits (length r.times)) in
      let mean : List ℕ = column tabs moment_width (near_text (mean_bits moments)) in
      rw (length-append (times ++ mean), length-append times)
      (omega (
        arith,
        column_most tabs 3 3 (decimal_digits (length r.times)) (omega arith)
            (decimal_most 3 (length r.times) (omega arith) (omega (arith, g.times.most))),
        column_most tabs 8 8 (near_text (mean_bits moments)) (omega arith) (rw told.0 shown.mean.short),
        column_most tabs 8 8 (near_text (spread_bits moments)) (omega arith) (rw told.1 shown.spread.short),
      ))

  limits_most : length (limit_columns tabs asked (quotes_of r.chances r.limits)) ≤ 136
  unfolding limit_columns
  limits_most = go (eqb (length asked) 0)
    where
      chances : Each 0 999_999 r.chances
      chances i h = (omega arith, (g.chances.range i h).1)

      short : ShortLimits r.limits
      short i h = ((shown_record last r g).limits i h).short

      go : (t : Bool)
          → length (cond t (quote_columns tabs (quotes_of r.chances r.limits)) (asked_columns tabs asked (quotes_of r.chances r.limits))) ≤ 136
      go true = omega (arith, quotes_most tabs r.chances r.limits chances short, g.chances.most)
      go false =
          omega (arith, asked_most tabs asked (quotes_of r.chances r.limits) a.range (limit_for_short r.chances r.limits short), a.few)

  pub slot_fits : length (slot_line tabs width asked r) ≤ max_line
  unfolding slot_line
  slot_fits =
      let front : List ℕ = front_columns tabs width r in
      let figures : List ℕ = figure_columns tabs r in
      rw (
        length-append (front ++ figures ++ limit_columns tabs asked (quotes_of r.chances r.limits)),
        length-append (front ++ figures),
        length-append front,
      )
      (omega (arith, front_most, figures_most, limits_most))

-- ---- and no fewer bytes will do

column_least : (width : ℕ) (text : List ℕ) → suc width ≤ length (column false width text)
unfolding column fill
column_least width text =
    rw (length-append (replicate (width - length text) space) text, length-replicate (width - length text) space) (omega arith)

name_least : (width : ℕ) (name : List ℕ) → width ≤ length (name_column false width name)
unfolding name_column fill
name_least width name =
    rw (length-append name (replicate (width - length name) space), length-replicate (width - length name) space) (omega arith)

quotes_least : (cs ls : List ℕ) → length cs ≤ length ls → 17 * length cs ≤ length (quote_columns false (quotes_of cs ls))
unfolding quote_columns quotes_of
quotes_least [] ls h = omega arith
quotes_least (c ∷ cs) [] h = absurd (omega arith)
quotes_least (c ∷ cs) (l ∷ ls) h =
    rw (length-append (column false limit_width (slot_text c l))) (omega (arith, column_least 16 (slot_text c l), quotes_least cs ls (omega arith)))

module _ (r : Record) (many : length r.chances ≡ 8) (as_many : length r.limits ≡ length r.chances) where
  front_least : 45 ≤ length (front_columns false 32 r)
  unfolding front_columns iso_of iso_text digits
  front_least =
      rw (
        length-append (name_column false 32 r.name ++ (gap false ∷ iso_of r.day)),
        length-append (name_column false 32 r.name),
      )
      (omega (arith, name_least 32 r.name))

  figures_least : 22 ≤ length (figure_columns false r)
  unfolding figure_columns
  figures_least =
      let moments : MomentsResult = moments_of_times r.form r.times in
      let times : List ℕ = column false times_width (decimal_digits (length r.times)) in
      let mean : List ℕ = column false moment_width (near_text (mean_bits moments)) in
      rw (length-append (times ++ mean), length-append times)
      (omega (
        arith,
        column_least 3 (decimal_digits (length r.times)),
        column_least 8 (near_text (mean_bits moments)),
        column_least 8 (near_text (spread_bits moments)),
      ))

  -- a line of eight chances under a name of 32 bytes, all limits shown
  pub slot_needs : max_line ≤ length (slot_line false 32 [] r)
  unfolding slot_line limit_columns
  slot_needs =
      let front : List ℕ = front_columns false 32 r in
      let figures : List ℕ = figure_columns false r in
      rw (
        length-append (front ++ figures ++ quote_columns false (quotes_of r.chances r.limits)),
        length-append (front ++ figures),
        length-append front,
      )
      (omega (arith, front_least, figures_least, quotes_least r.chances r.limits (omega (arith, many, as_many)), many))

-- ---- a report

widest_most : (m w : ℕ) (es : List IndexEntry) → w ≤ m → ((i : ℕ) → i < length es → length (get_or es i no_entry).name ≤ m) → widest w es ≤ m
unfolding widest
widest_most m w [] h k = h
widest_most m w (e ∷ es) h k = widest_most m (max w (length e.name)) es (omega (arith, k 0 (omega arith))) (λ i p. k (suc i) (omega arith))

module _ (v : List ℕ) (len : ℕ) (ps : List Placed) (committed : ℕ) (b : AreBytes v) (s : contents_of plain v len ≡ standing ps committed) where
  pub width_most : width_of (index_of ps) ≤ 32
  unfolding width_of
  width_most =
      widest_most 32 4 (index_of ps) (omega arith)
      (λ i h. let x = standing_bytes v len ps committed b s i h in rw (← x.named) x.ranges.name.most)

  -- every line of the report fits
  pub report_fits : (tabs : Bool) (asked : List ℕ) → Asked asked → (k : ℕ)
      → length (report_line tabs (width_of (index_of ps)) asked (contents_of plain v len) k) ≤ max_line
  unfolding report_line line_of
  report_fits tabs asked a k =
      rw s (by_order (length (index_of ps)) k
      (λ beyond. rw (standing_beyond (records_of ps) (index_of ps) k beyond) (omega arith))
      (λ h.
      let x = standing_bytes v len ps committed b s k h in
      rw (standing_there v len ps committed b s k h) (slot_fits tabs (width_of (index_of ps)) asked x.last x.shown x.ranges width_most a)))

  -- and so does its head
  pub head_fits : length (head_line (width_of (index_of ps))) ≤ max_line
  unfolding head_line
  head_fits =
      let columns : length head_columns ≡ 60 = unfold head_columns column fill in refl in
      rw (length-append (name_column false (width_of (index_of ps)) head_name))
      (omega (arith, name_most false (width_of (index_of ps)) 32 head_name width_most (omega arith), columns))
