-- What a call of append is handed, what it answers, and what it leaves: types, and which times a request has, its log's among them.
-- Append's definition and the model share them; the laws of proofs/Given.antt say that what both read of a request is what stands in its fields.
use Rattle.std.specs.Prelude.{ℕ, List, []}
use Rattle.std.proofs.Math.Option.{Option}
use Rattle.journal_spec.specs.Profile.{Rule}
use Rattle.journal_spec.specs.Log.{Gathered, gathered, misread, gather_of}

-- document 01's volume: the bytes of the slice, and the journal's length in it
pub record Journal : Type 0 where
  pub slice : List ℕ
  pub len : ℕ

-- how much of the record a call may write: all of it, or document 01's k bytes
pub data Budget : Type 0 where
  all : Budget
  up_to : ℕ → Budget

-- where the times are from: they are handed in, or a log is, whose lines of the request's name have them
pub data Source : Type 0 where
  times : List ℕ → Source
  log : List ℕ → Source

-- what a call is handed besides the journal; the index is the bytes of its buffer, where one is handed
pub record Request : Type 0 where
  pub day : ℕ
  pub name : List ℕ
  pub chances : List ℕ
  pub source : Source
  pub budget : Budget
  pub rule : Rule
  pub index : Option (List ℕ)

-- a request from what a call is handed, in the order of the fields; every contract of an append cites it
abbrev pub request_of : ℕ → List ℕ → List ℕ → Source → Budget → Rule → Option (List ℕ) → Request
request_of day name chances source budget rule index = record {
  day = day;
  name = name;
  chances = chances;
  source = source;
  budget = budget;
  rule = rule;
  index = index;
}

-- document 01's offered leaf, without its limits
pub record Offer : Type 0 where
  pub day : ℕ
  pub name : List ℕ
  pub chances : List ℕ
  pub times : List ℕ

-- a request's times, or the log's refusal
unfoldable pub gather_by : List ℕ → Source → Gathered
gather_by name (times ts) = gathered ts
gather_by name (log bs) = gather_of name bs

unfoldable pub times_of : Request → Gathered
times_of q = gather_by q.name q.source

-- the times where none is refused
unfoldable pub gathered_times : Gathered → List ℕ
gathered_times (gathered ts) = ts
gathered_times (misread n p) = []

-- what a request offers
unfoldable pub offer_of : Request → Offer
offer_of q = record { day = q.day; name = q.name; chances = q.chances; times = gathered_times (times_of q) }

-- the bytes that may be written of a record of n bytes
unfoldable pub allowed : Budget → ℕ → ℕ
allowed all n = n
allowed (up_to k) n = k

-- document 01's answer of an append: the journal's length after it; declined by a number; declined by a number for a line of the log, with
-- the place in the log of that line's first byte; or damaged, with a fault's number and place in the journal
pub data AppendResult : Type 0 where
  extended : ℕ → AppendResult
  declined : ℕ → AppendResult
  declined_at : ℕ → ℕ → AppendResult
  damaged : ℕ → ℕ → AppendResult

-- the answer, and the journal and the index's buffer after the call
pub record Outcome : Type 0 where
  pub answer : AppendResult
  pub journal : Journal
  pub index : Option (List ℕ)
