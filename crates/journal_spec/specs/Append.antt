-- Append, with a budget or without (document 01's call with k, and its append): what it answers, and the journal after it.
-- The record is written from the committed length onward, front to back, over a torn tail if there is one; nothing else changes.
use Rattle.std.specs.Prelude.{ℕ, zero, suc, ◌+◌, min, List, [], ◌∷◌, ◌++◌, map, cond, length, take, drop, leb}
use Rattle.std.proofs.Math.Option.{Option, none, some}
use Rattle.std.specs.Float.{binary64}
use Rattle.std.specs.Float.Ieee.{to_bits}
use Rattle.limit.specs.Formula.{sample_form}
use Rattle.limit.specs.Answer.{LimitResult, limited, refused}
use Rattle.limit.specs.Limit.{limit_of}
use Rattle.journal_spec.specs.Refusals.{room_refusal, index_refusal, index_room_refusal, even_refusal, profile_refusal, unless, first_of}
use Rattle.journal_spec.specs.Section.{section_refusal}
use Rattle.journal_spec.specs.Record.{Record, last_of, judge_day, even_chance, last_chance, name_section, chance_section, time_section, record_bytes}
use Rattle.journal_spec.specs.Profile.{keeps}
use Rattle.journal_spec.specs.Scan.{max_length, Placed, records_of, Contents, standing, faulty, contents_of}
use Rattle.journal_spec.specs.Index.{IndexEntry, index_bytes, in_front, amend, index_of}
use Rattle.journal_spec.specs.Log.{Gathered, gathered, misread}
use Rattle.journal_spec.specs.Request.{Journal, Request, Offer, times_of, offer_of, allowed, AppendResult, extended, declined, declined_at}
use Rattle.journal_spec.specs.Request.{damaged, Outcome}

-- ---- the record that is offered

-- the bits of a limit worked out; where it is refused the offer is declined, and the number stands for nothing
unfoldable pub limit_bits : LimitResult → ℕ
limit_bits (limited f) = to_bits binary64 f.limit
limit_bits (refused n) = 0

-- the limits of the times, one for each chance in its order
unfoldable pub limits_of : List ℕ → List ℕ → List ℕ
limits_of times chances = map (λ (c : ℕ). limit_bits (limit_of sample_form times c)) chances

-- the record that is offered: new records are of form 2
unfoldable pub offered : Offer → Record
offered o = record {
  form = sample_form;
  day = o.day;
  name = o.name;
  chances = o.chances;
  times = o.times;
  limits = limits_of o.times o.chances;
}

-- ---- what is declined

-- 17 (document 02, 2026-10): a chance beyond even. The chances rise where this is asked, so that the last one decides.
unfoldable pub judge_even : List ℕ → ℕ
judge_even chances = unless (leb (last_chance chances) even_chance) even_refusal

-- 9 exactly if the record ends beyond the slice, which has `room` bytes, or beyond the longest journal
unfoldable pub judge_room : ℕ → ℕ → ℕ → ℕ
judge_room room committed size = unless (leb (committed + size) (min room max_length)) room_refusal

-- what is refused of the index's buffer, where one is handed
unfoldable pub of_handed : (List ℕ → ℕ) → Option (List ℕ) → ℕ
of_handed refusal none = 0
of_handed refusal (some b) = refusal b

-- 14: the index of the records that stand is not at its front
unfoldable pub judge_index : List IndexEntry → List ℕ → ℕ
judge_index es b = unless (in_front (index_bytes es) b) index_refusal

-- 15: it cannot hold the index with the record finished
unfoldable pub judge_index_room : List IndexEntry → List ℕ → ℕ
judge_index_room es b = unless (leb (length (index_bytes es)) (length b)) index_room_refusal

-- the index with the record finished
unfoldable pub next_index : List Placed → ℕ → Offer → List IndexEntry
next_index ps committed o = amend (record { name = o.name; start = committed }) (index_of ps)

-- the refusals of a request in the papers' order, after these records in a slice of `room` bytes: 3, 4, 5, 17, 6, 19, 9, 14, 15
unfoldable pub append_refusals : ℕ → List Placed → ℕ → Request → List ℕ
append_refusals room ps committed q =
    let o = offer_of q in
    judge_day (last_of (records_of ps)) o.day
    ∷ section_refusal name_section o.name
    ∷ section_refusal chance_section o.chances
    ∷ judge_even o.chances
    ∷ section_refusal time_section o.times
    ∷ unless (keeps q.rule (offered o)) profile_refusal
    ∷ judge_room room committed (length (record_bytes (offered o)))
    ∷ of_handed (judge_index (index_of ps)) q.index
    ∷ of_handed (judge_index_room (next_index ps committed o)) q.index
    ∷ []

-- ---- what is answered and written

-- the slice with the bytes `new` at the place `at`, and no other byte changed
unfoldable pub written : List ℕ → ℕ → List ℕ → List ℕ
written slice at new = take at slice ++ (new ++ drop (at + length new) slice)

-- nothing is written
unfoldable pub unchanged : AppendResult → Journal → Option (List ℕ) → Outcome
unchanged answer j index = record { answer = answer; journal = j; index = index }

-- the bytes `new` are written after the committed length
unfoldable pub extend : List ℕ → ℕ → List ℕ → Option (List ℕ) → Outcome
extend slice committed new index =
    record {
      answer = extended (committed + length new);
      journal = record { slice = written slice committed new; len = committed + length new };
      index = index;
    }

-- the index written to its buffer's front, where one is handed
unfoldable pub put_index : List IndexEntry → Option (List ℕ) → Option (List ℕ)
put_index es none = none
put_index es (some b) = some (written b 0 (index_bytes es))

-- what becomes of a journal and an index, by the refusal n or none: the bytes `new` are written, and the index is `next`
unfoldable pub settle : ℕ → Journal → Option (List ℕ) → ℕ → List ℕ → Option (List ℕ) → Outcome
settle zero j index committed new next = extend j.slice committed new next
settle (suc n) j index committed new next = unchanged (declined (suc n)) j index

-- By what the journal holds: faults first. The index is amended where the record is finished.
unfoldable pub append_to : Contents → Journal → Request → Outcome
append_to (faulty n p) j q = unchanged (damaged n p) j q.index
append_to (standing ps committed) j q =
    let bytes = record_bytes (offered (offer_of q)) in
    let k = allowed q.budget (length bytes) in
    settle (first_of (append_refusals (length j.slice) ps committed q)) j q.index committed (take k bytes)
    (cond (leb (length bytes) k) (put_index (next_index ps committed (offer_of q)) q.index) q.index)

-- by what the log comes to: a line that is refused is answered before the journal is read
unfoldable pub append_with : Gathered → Journal → Request → Outcome
append_with (misread n p) j q = unchanged (declined_at n p) j q.index
append_with (gathered ts) j q = append_to (contents_of q.rule j.slice j.len) j q

-- append: after its checks, the record's bytes are written as far as the budget goes; document 01's append has all of them for its budget
unfoldable pub append_of : Journal → Request → Outcome
append_of j q = append_with (times_of q) j q
