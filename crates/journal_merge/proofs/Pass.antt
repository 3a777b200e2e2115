-- What the two passes keep: where they stand, and the length and the last form of what is made, or its bytes at the buffer's front; and
-- what each step makes of that. Assumes nothing.
use mathlib.Core.Path.{◌≡◌, refl, ap, ◌∙◌}
use Prim.Native.Nat.{ℕ, ◌+◌, ◌-◌, ◌≤◌, ◌<◌}
use mathlib.Core.List.{List, [], ◌∷◌, ◌++◌}
use native.Mathlib.Omega.{arith}
use lib.ListN.{length}
use lib.Seq.{append_snoc}
use Rattle.text_digits.specs.Text.{Put}
use Rattle.text_digits.proofs.Putting.{put_whole}
use Rattle.journal_spec.specs.Record.{Record, record_bytes, records_bytes}
use Rattle.journal_spec.specs.Append.{written}
use Rattle.journal_spec.specs.Model.{lengths_of}
use Rattle.journal_spec.specs.Cursor.{records_in}
use Rattle.journal_spec.proofs.Placing.{lengths_snoc}
use Rattle.journal_spec.proofs.Whole.{WholeBytes}
use Rattle.journal_merge_spec.specs.Records.{merged_of}
use Rattle.journal_merge_spec.proofs.MergeLoop.{coming, Measured, measured_start, measured_next, measured_falls, measured_end}
use Rattle.journal_merge_spec.proofs.MergeLoop.{Copied, copied_start, copied_next}
use Rattle.journal_merge.specs.Passes.{Reached, Somewhere, Took, measured_by, measured_of}
use Rattle.journal_merge.specs.declared.stepping.Places.{Places}
use Rattle.journal_merge.specs.declared.MergeError.TheVariants as E
use Rattle.std.proofs.Common.{Ok, Err}
use Rattle.refusals.specs.declared.Refusal.TheVariants.{OldForm}
use Rattle.journal_merge.proofs.Steps.{start}

-- the result, where a record is next
result_next : (a b : List ℕ) (after : Places) (made : List Record) (r : Record) (m : Reached a b after (made ++ r ∷ []))
    → merged_of (records_in a) (records_in b) ≡ made ++ r ∷ coming (records_in a) m.xs m.ys
result_next a b after made r m = m.parts ∙ append_snoc made r _

-- where a step leads
abbrev took_there : (a b : List ℕ) (p : Places) (s : Somewhere a b p) (part : List ℕ) (after : Places) → Took a b p s.made part after → Somewhere a b after
took_there a b p s part after t = record {
  first_whole = s.first_whole;
  second_whole = s.second_whole;
  made = s.made ++ t.taken ∷ [];
  reached = t.reached;
}

-- what is left of both journals, in bytes
abbrev pub left_of : List ℕ → List ℕ → Places → ℕ
left_of a b p = (length a - p.first) + (length b - p.second)

-- a step leaves less
module _ (a b : List ℕ) (p after : Places) (made now : List Record) (m : Reached a b p made) (n : Reached a b after now) where
  pub left_less : p.first + p.second < after.first + after.second → left_of a b after < left_of a b p
  left_less h = omega (arith, m.first.inside, m.second.inside, n.first.inside, n.second.inside)

-- ---- the first pass

pub record Measuring (a b : List ℕ) (p : Places) (n form : ℕ) : Type 0 where
  pub there : Somewhere a b p
  pub measured : Measured there.made n form
  pub small : n ≤ p.first + p.second

pub measuring_start : (a b : List ℕ) → WholeBytes a → WholeBytes b → Measuring a b (record { first = 0; second = 0 }) 0 0
measuring_start a b w v = record {
  there = record { first_whole = w; second_whole = v; made = []; reached = start a b w v };
  measured = measured_start;
  small = omega arith;
}

module _ (a b : List ℕ) (p : Places) (n form : ℕ) (m : Measuring a b p n form) where
  pub measuring_fits : (part : List ℕ) (after : Places) → Took a b p m.there.made part after
      → (n + length part ≤ 131_072) × (left_of a b after < left_of a b p)
  measuring_fits part after t = (
    omega (arith, m.small, t.sum, t.reached.first.inside, t.reached.second.inside, m.there.first_whole.short, m.there.second_whole.short),
    left_less a b p after m.there.made _ m.there.reached t.reached (omega (arith, t.sum, t.positive)),
  )

  -- a record is next, whose form is f
  module _ (part : List ℕ) (after : Places) (t : Took a b p m.there.made part after) (f : ℕ) (e : f ≡ t.taken.form) where
    pub measuring_falls : f < form → Err (E.DeclinedAt (record { refusal = OldForm; place = n })) ≡ measured_of (merged_of (records_in a) (records_in b))
    unfolding measured_of measured_by
    measuring_falls h =
        rw (result_next a b after m.there.made t.taken t.reached)
        (rw (measured_falls m.there.made n form t.taken _ m.measured (omega (arith, e)), measured_by) refl)

    pub measuring_next : form ≤ f → Measuring a b after (n + length part) f
    measuring_next h = record {
      there = took_there a b p m.there part after t;
      measured = rw (e, ap length t.bytes) (measured_next m.there.made n form t.taken m.measured (omega (arith, e)));
      small = omega (arith, m.small, t.sum);
    }

  pub measuring_end : merged_of (records_in a) (records_in b) ≡ m.there.made → Ok n ≡ measured_of (merged_of (records_in a) (records_in b))
  unfolding measured_of measured_by
  measuring_end h =
      let k = measured_end m.there.made n form m.measured in
      rw h (rw (k.0, measured_by) (ap Ok k.1))

-- ---- the second pass

pub record Copying (a b buffer after : List ℕ) (p : Places) (n : ℕ) : Type 0 where
  pub there : Somewhere a b p
  pub copied : Copied buffer there.made n after
  pub size : length after ≡ length buffer
  pub room : lengths_of (merged_of (records_in a) (records_in b)) ≤ length buffer

pub copying_start : (a b buffer : List ℕ) → WholeBytes a → WholeBytes b → lengths_of (merged_of (records_in a) (records_in b)) ≤ length buffer
    → Copying a b buffer buffer (record { first = 0; second = 0 }) 0
copying_start a b buffer w v r = record {
  there = record { first_whole = w; second_whole = v; made = []; reached = start a b w v };
  copied = copied_start buffer;
  size = refl;
  room = r;
}

lengths_append : (xs ys : List Record) → lengths_of (xs ++ ys) ≡ lengths_of xs + lengths_of ys
unfolding lengths_of
lengths_append [] ys = omega arith
lengths_append (x ∷ xs) ys = rw (lengths_append xs ys) (omega arith)

module _ (a b buffer after : List ℕ) (p : Places) (n : ℕ) (m : Copying a b buffer after p n) where
  -- a record is next, and its part is put behind what is made
  module _ (part : List ℕ) (next : Places) (t : Took a b p m.there.made part next) where
    room_for_lem : n + length (record_bytes t.taken) ≤ length after
    room_for_lem =
        omega (
          arith,
          m.size,
          m.room,
          m.copied.length',
          ap lengths_of t.reached.parts,
          lengths_append (m.there.made ++ t.taken ∷ []) (coming (records_in a) t.reached.xs t.reached.ys),
          lengths_snoc m.there.made t.taken,
        )

    pub copying_next : (after' : List ℕ) (n' : ℕ) → Put after n part after' n'
        → Copying a b buffer after' next n'
    copying_next after' n' q =
        let w = put_whole after n (record_bytes t.taken) after' n' (rw t.bytes at q) room_for_lem in
        let bytes : after' ≡ written after n (record_bytes t.taken) = unfold written in w.bytes in
        record {
          there = took_there a b p m.there part next t;
          copied = rw (bytes, w.end) (copied_next buffer m.there.made n after t.taken m.copied);
          size = w.size ∙ m.size;
          room = m.room;
        }

    pub copying_less : left_of a b next < left_of a b p
    copying_less = left_less a b p next m.there.made _ m.there.reached t.reached (omega (arith, t.sum, t.positive))

  pub copying_end : merged_of (records_in a) (records_in b) ≡ m.there.made → after ≡ written buffer 0 (records_bytes (merged_of (records_in a) (records_in b)))
  copying_end h = rw h m.copied.bytes
