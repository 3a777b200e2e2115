-- A planner's line of a record: name, date, mark, number of times, mean, spread, and `chance:limit` for each chance, times in milliseconds. Columns line up,
-- or a tab separates them. Definitions only.
use Rattle.std.specs.Prelude.{ℕ, ◌-◌, Bool, cond, List, [], ◌∷◌, ◌++◌, length, replicate, eqb}
use Rattle.std.specs.Float.{binary64}
use Rattle.std.specs.Float.Ieee.{of_bits}
use Rattle.text_digits.specs.Hex.{decimal_digits}
use Rattle.limit.specs.Limit.{moments_of_times}
use Rattle.text_dates.specs.Iso.{iso_of}
use Rattle.text_ticks.specs.Ticks.{ticks_up, ticks_near}
use Rattle.text_ticks.specs.Text.{ticks_text}
use Rattle.journal_spec.specs.Reader.{Found, found, fault, short}
use Rattle.journal_spec.specs.Record.{Record}
use Rattle.journal_spec.specs.Read.{letter_of, mark_of}
use Rattle.journal_spec.specs.Log.{space, newline}
use Rattle.journal_listing.specs.Listing.{mean_bits, spread_bits}

-- what stands before a column: a tab, or a space
unfoldable pub gap : Bool → ℕ
gap tabs = cond tabs 0x09 space

-- the spaces that a text lacks to a column's width; none where tabs separate
unfoldable pub fill : Bool → ℕ → ℕ → List ℕ
fill tabs width size = cond tabs [] (replicate (width - size) space)

-- a column, with its text to the right
unfoldable pub column : Bool → ℕ → List ℕ → List ℕ
column tabs width text = (gap tabs ∷ fill tabs width (length text)) ++ text

-- the name's column, the first, with its text to the left
unfoldable pub name_column : Bool → ℕ → List ℕ → List ℕ
name_column tabs width name = name ++ fill tabs width (length name)

-- a mean or a spread by its bits: the nearest whole tick, in milliseconds
unfoldable pub near_text : ℕ → List ℕ
near_text bits = ticks_text (ticks_near (of_bits binary64 bits))

-- `chance:limit`, the limit by its bits: the least whole number of ticks not below it, in milliseconds
unfoldable pub slot_text : ℕ → ℕ → List ℕ
slot_text chance limit = decimal_digits chance ++ (0x3a ∷ ticks_text (ticks_up (of_bits binary64 limit)))

-- a chance with its limit
pub record Quote : Type 0 where
  pub chance : ℕ
  pub limit : ℕ

-- each chance with its limit
unfoldable pub quotes_of : List ℕ → List ℕ → List Quote
quotes_of [] limits = []
quotes_of (c ∷ cs) [] = []
quotes_of (c ∷ cs) (l ∷ ls) = record { chance = c; limit = l } ∷ quotes_of cs ls

-- a NaN's pattern: it has no whole ticks, and prints as a dash
abbrev pub no_limit : ℕ
no_limit = 0x7ff8000000000000

-- the limit at a chance, or that pattern where there is none
unfoldable pub limit_for : ℕ → List Quote → ℕ
limit_for chance [] = no_limit
limit_for chance (q ∷ qs) = cond (eqb q.chance chance) q.limit (limit_for chance qs)

-- the widths of the columns behind the mark: times, mean and spread, limits
abbrev pub times_width : ℕ
times_width = 3

abbrev pub moment_width : ℕ
moment_width = 8

abbrev pub limit_width : ℕ
limit_width = 16

-- a column for each quote
unfoldable pub quote_columns : Bool → List Quote → List ℕ
quote_columns tabs [] = []
quote_columns tabs (q ∷ qs) = column tabs limit_width (slot_text q.chance q.limit) ++ quote_columns tabs qs

-- a column for each chance asked for
unfoldable pub asked_columns : Bool → List ℕ → List Quote → List ℕ
asked_columns tabs [] qs = []
asked_columns tabs (c ∷ cs) qs = column tabs limit_width (slot_text c (limit_for c qs)) ++ asked_columns tabs cs qs

-- those of the chances asked for; where none is, all
unfoldable pub limit_columns : Bool → List ℕ → List Quote → List ℕ
limit_columns tabs asked qs = cond (eqb (length asked) 0) (quote_columns tabs qs) (asked_columns tabs asked qs)

-- name, date and mark
unfoldable pub front_columns : Bool → ℕ → Record → List ℕ
front_columns tabs width r =
    name_column tabs width r.name ++ (gap tabs ∷ iso_of r.day) ++ (gap tabs ∷ letter_of (mark_of r.times) ∷ [])

-- number of times, mean and spread
unfoldable pub figure_columns : Bool → Record → List ℕ
figure_columns tabs r =
    let moments = moments_of_times r.form r.times in
    column tabs times_width (decimal_digits (length r.times))
    ++ column tabs moment_width (near_text (mean_bits moments))
    ++ column tabs moment_width (near_text (spread_bits moments))

-- the line of a record
unfoldable pub slot_line : Bool → ℕ → List ℕ → Record → List ℕ
slot_line tabs width asked r =
    front_columns tabs width r ++ figure_columns tabs r ++ limit_columns tabs asked (quotes_of r.chances r.limits) ++ (newline ∷ [])

-- the line of what stands at a place: none where no record does
unfoldable pub slot_of : Bool → ℕ → List ℕ → Found Record → List ℕ
slot_of tabs width asked (found r next rest) = slot_line tabs width asked r
slot_of tabs width asked (fault n place) = []
slot_of tabs width asked short = []
