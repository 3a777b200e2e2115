-- What each step makes of a pass: by which journal's record is next, and by whether one of the second stands in the first. Assumes nothing.
use mathlib.Core.Path.{◌≡◌, refl, sym, ap, ◌∙◌}
use Prim.Native.Nat.{ℕ, ◌+◌, ◌≤◌, ◌<◌}
use mathlib.Core.List.{List, [], ◌∷◌, ◌++◌, append-nil}
use mathlib.Core.Bool.{Bool, true, false}
use native.Mathlib.Omega.{arith}
use lib.ListN.{length, take, drop}
use lib.Seq.{append_snoc}
use borrow.Author.Tests.{le-leb, lt-leb, leb-true, leb-false}
use Rattle.facts.proofs.Orders.{by_order}
use Rattle.journal_spec.specs.Record.{Record, record_bytes, last_of}
use Rattle.journal_spec.specs.Cursor.{records_in}
use Rattle.journal_spec.proofs.Cursor.{Cursor, cursor_none, cursor_some, cursor_part, cursor_next}
use Rattle.journal_spec.proofs.Whole.{WholeBytes}
use Rattle.journal_parts.specs.Numbers.{number_in}
use Rattle.journal_parts.specs.Spans.{day_at}
use Rattle.journal_parts.specs.Front.{record_size}
use Rattle.journal_parts.proofs.Parts.{cursor_parts}
use Rattle.journal_parts.proofs.Front.{front_size}
use Rattle.journal_merge_spec.specs.Records.{is_among, is_twin, merged_of}
use Rattle.journal_merge_spec.proofs.ByDay.{HeadFrom, DaysFrom}
use Rattle.journal_merge_spec.proofs.Following.{follow_days}
use Rattle.journal_merge_spec.proofs.MergeLoop.{HeadAfter, coming, coming_none, turn_first, turn_dropped, turn_second}
use Rattle.journal_merge.specs.Records.{Rest, AtRecord}
use Rattle.journal_merge.specs.Passes.{first_next, Reached, Somewhere, Took, Passed}
use Rattle.journal_merge.specs.declared.stepping.Places.{Places}
use Rattle.journal_spec.specs.Bytes.{number_at}
use Rattle.journal_parts.proofs.NumberStands.{number_stands}
use Rattle.journal_merge.proofs.Reading.{at_record, front_number}

-- a whole journal's days do not fall
whole_days : (b : List ℕ) → WholeBytes b → DaysFrom 0 (records_in b)
unfolding last_of
whole_days b w = follow_days [] (records_in b) w.follow

-- a pass starts with nothing made
pub start : (a b : List ℕ) → WholeBytes a → WholeBytes b → Reached a b (record { first = 0; second = 0 }) []
unfolding merged_of
start a b w v = record {
  xs = records_in a;
  ys = records_in b;
  first = w.cursor;
  second = v.cursor;
  parts = refl;
  day = 0;
  days = whole_days b v;
}

-- ---- whose record is next

module _ (a b : List ℕ) (i j : ℕ) where
  next_first : first_next a b i j ≡ true → (i < length a) × ((j < length b → day_at a i ≤ day_at b j))
  unfolding first_next
  next_first h =
      by_order (length a) i
      (λ k. let e : false ≡ true = (rw (le-leb (length a) i k) at h) in let z : ◌≡◌ {A = ℕ} 0 1 = cc in absurd (omega arith))
      (λ k. (k, λ l. leb-true (day_at a i) (day_at b j) (rw (lt-leb (length a) i k, lt-leb (length b) j l) at h)))

  next_second : first_next a b i j ≡ false → i < length a → (j < length b) × (day_at b j < day_at a i)
  unfolding first_next
  next_second h k =
      by_order (length b) j
      (λ l. let e : true ≡ false = (rw (lt-leb (length a) i k, le-leb (length b) j l) at h) in let z : ◌≡◌ {A = ℕ} 0 1 = cc in absurd (omega arith))
      (λ l. (l, leb-false (day_at a i) (day_at b j) (rw (lt-leb (length a) i k, lt-leb (length b) j l) at h)))

-- there it stands
module _ (a b : List ℕ) (p : Places) (s : Somewhere a b p) where
  pub first_record : first_next a b p.first p.second ≡ true → AtRecord a p.first
  first_record h = at_record a p.first s.reached.xs s.reached.first s.first_whole.short (next_first a b p.first p.second h).0

  pub second_record : p.second < length b → AtRecord b p.second
  second_record h = at_record b p.second s.reached.ys s.reached.second s.second_whole.short h

  -- records are left of both, or none
  pub first_rest : Rest a p.first
  first_rest = record { records = s.reached.xs; cursor = s.reached.first; short = s.first_whole.short }

  pub second_rest : Rest b p.second
  second_rest = record { records = s.reached.ys; cursor = s.reached.second; short = s.second_whole.short }

-- the first journal's, where the second's next is not of an earlier day
record IsFirst (xs ys : List Record) : Type 0 where
  x : Record
  rest : List Record
  is : xs ≡ x ∷ rest
  head : HeadFrom x.day ys

-- the second's, where the first's next is of a later day
record IsSecond (xs ys : List Record) : Type 0 where
  y : Record
  rest : List Record
  is : ys ≡ y ∷ rest
  head : HeadAfter y.day xs

module _ (a b : List ℕ) (i j : ℕ) where
  inside : (c : List ℕ) (at : ℕ) (r : Record) (rs : List Record) → Cursor c at (r ∷ rs) → at < length c
  inside c at r rs d = let k = cursor_parts c at r rs d in omega (arith, k.inside, k.length')

  is_first : (xs ys : List Record) → Cursor a i xs → Cursor b j ys → first_next a b i j ≡ true → IsFirst xs ys
  is_first [] ys c d h = absurd (cursor_some a i c (next_first a b i j h).0)
  is_first (x ∷ xs) [] c d h = record { x = x; rest = xs; is = refl; head = tt }
  is_first (x ∷ xs) (y ∷ ys) c d h =
      let k = (next_first a b i j h).1 (inside b j y ys d) in
      record { x = x; rest = xs; is = refl; head = omega (arith, k, (cursor_parts a i x xs c).day, (cursor_parts b j y ys d).day) }

  is_second : (xs ys : List Record) → Cursor a i xs → Cursor b j ys → first_next a b i j ≡ false → j < length b → IsSecond xs ys
  is_second xs [] c d h l = absurd (cursor_some b j d l)
  is_second [] (y ∷ ys) c d h l = record { y = y; rest = ys; is = refl; head = tt }
  is_second (x ∷ xs) (y ∷ ys) c d h l =
      let k = (next_second a b i j h (inside a i x xs c)).1 in
      record { y = y; rest = ys; is = refl; head = omega (arith, k, (cursor_parts a i x xs c).day, (cursor_parts b j y ys d).day) }

  is_none : (xs ys : List Record) → Cursor a i xs → Cursor b j ys → first_next a b i j ≡ false → length b ≤ j → (xs ≡ []) × (ys ≡ [])
  is_none [] ys c d h l = (refl, cursor_none b j ys d l)
  is_none (x ∷ xs) ys c d h l = absurd (omega (arith, (next_second a b i j h (inside a i x xs c)).0))

-- ---- what the step comes to

-- what is to come, by what is left
coming_of : (first xs ys xs' ys' now rest : List Record) (result : List Record) → result ≡ now ++ coming first xs ys → xs ≡ xs' → ys ≡ ys'
    → coming first xs' ys' ≡ rest → result ≡ now ++ rest
coming_of first xs ys xs' ys' now rest result e f g h = e ∙ rw (f, g, h) refl

-- the bytes of the record at a place
module _ (c : List ℕ) (at : ℕ) (part : List ℕ) (r : Record) (rs : List Record) (d : Cursor c at (r ∷ rs))
    (e : part ≡ take (record_size (drop at c)) (drop at c)) where
  part_is : part ≡ record_bytes r
  part_is = e ∙ ap (λ (n : ℕ). take n (drop at c)) (front_size c at r rs d) ∙ cursor_part c at r rs d

  part_next : Cursor c (at + length part) rs
  part_next = rw part_is (cursor_next c at r rs d)

  part_inside : (at + length part ≤ length c) × (0 < length part)
  part_inside = let k = cursor_parts c at r rs d in (omega (arith, k.inside, ap length part_is), omega (arith, k.length', ap length part_is))

  part_form : number_in 2 0 part ≡ r.form
  part_form =
      let k = cursor_parts c at r rs d in
      let n : 2 ≤ length part = omega (arith, k.length', ap length part_is) in
      let m : 2 ≤ record_size (drop at c) = omega (arith, k.length', front_size c at r rs d) in
      number_stands 2 0 part (omega arith) (omega arith) ∙ ap (number_at 2 0) e ∙ front_number c at (record_size (drop at c)) m ∙ k.form

module _ (a b : List ℕ) (from : Places) where
  module _ (s : Somewhere a b from) (at : Places) (q : Passed a b from at) where
    pub there : Somewhere a b at
    there = record {
      first_whole = s.first_whole;
      second_whole = s.second_whole;
      made = s.made;
      reached = q.reached s.made s.reached;
    }

    -- none is left
    pub stepped_done : first_next a b at.first at.second ≡ false → length b ≤ at.second → (made : List Record) → Reached a b from made
        → merged_of (records_in a) (records_in b) ≡ made
    stepped_done h k made m' =
        let m = q.reached made m' in
        let e = is_none a b at.first at.second m.xs m.ys m.first m.second h k in
        coming_of (records_in a) m.xs m.ys [] [] made [] _ m.parts e.0 e.1 (coming_none (records_in a)) ∙ append-nil made

    module _ (part : List ℕ) where
      -- the first journal's record
      pub stepped_first : first_next a b at.first at.second ≡ true → part ≡ take (record_size (drop at.first a)) (drop at.first a)
          → (made : List Record) → Reached a b from made → Took a b from made part (record { first = at.first + length part; second = at.second })
      stepped_first h e made m' =
          let m = q.reached made m' in
          let f = is_first a b at.first at.second m.xs m.ys m.first m.second h in
          let c : Cursor a at.first (f.x ∷ f.rest) = rw f.is at m.first in
          record {
            taken = f.x;
            bytes = part_is a at.first part f.x f.rest c e;
            positive = (part_inside a at.first part f.x f.rest c e).1;
            form = part_form a at.first part f.x f.rest c e;
            sum = omega (arith, q.further);
            reached = record {
              xs = f.rest;
              ys = m.ys;
              first = part_next a at.first part f.x f.rest c e;
              second = m.second;
              parts =
                  coming_of (records_in a) m.xs m.ys (f.x ∷ f.rest) m.ys made _ _ m.parts f.is refl
                  (turn_first (records_in a) m.day f.x f.rest m.ys f.head m.days)
                  ∙ sym (append_snoc made f.x _);
              day = m.day;
              days = m.days;
            };
          }

      -- the second's
      module _ (h : first_next a b at.first at.second ≡ false) (k : at.second < length b)
          (e : part ≡ take (record_size (drop at.second b)) (drop at.second b)) where
        module _ (made : List Record) (m' : Reached a b from made) where
          abbrev m : Reached a b at made
          m = q.reached made m'

          next : IsSecond m.xs m.ys
          next = is_second a b at.first at.second m.xs m.ys m.first m.second h k

          cursor : Cursor b at.second (next.y ∷ next.rest)
          cursor = rw next.is at m.second

          days : DaysFrom m.day (next.y ∷ next.rest)
          days = rw next.is at m.days

          bytes_are : part ≡ record_bytes next.y
          bytes_are = part_is b at.second part next.y next.rest cursor e

          after : (now : List Record) → merged_of (records_in a) (records_in b) ≡ now ++ coming (records_in a) m.xs next.rest
              → Reached a b (record { first = at.first; second = at.second + length part }) now
          after now parts = record {
            xs = m.xs;
            ys = next.rest;
            first = m.first;
            second = part_next b at.second part next.y next.rest cursor e;
            parts = parts;
            day = next.y.day;
            days = days.1;
          }

          twin : (t : Bool) → is_among (records_in a) part ≡ t → is_twin (records_in a) next.y ≡ t
          twin t x = rw (← bytes_are) x

          dropped : is_among (records_in a) part ≡ true → Reached a b (record { first = at.first; second = at.second + length part }) made
          dropped x =
              after made
              (coming_of (records_in a) m.xs m.ys m.xs (next.y ∷ next.rest) made _ _ m.parts refl next.is
              (turn_dropped (records_in a) m.xs next.y next.rest (twin true x)))

          pub stepped_second : is_among (records_in a) part ≡ false
              → Took a b from made part (record { first = at.first; second = at.second + length part })
          stepped_second x = record {
            taken = next.y;
            bytes = bytes_are;
            positive = (part_inside b at.second part next.y next.rest cursor e).1;
            form = part_form b at.second part next.y next.rest cursor e;
            sum = omega (arith, q.further);
            reached = after (made ++ next.y ∷ [])
                (coming_of (records_in a) m.xs m.ys m.xs (next.y ∷ next.rest) made _ _ m.parts refl next.is
                (turn_second (records_in a) m.xs next.y next.rest (twin false x) next.head)
                ∙ sym (append_snoc made next.y _));
          }

        pub second_inside : (at.second + length part ≤ length b) × (0 < length part)
        second_inside =
            let n = next s.made s.reached in
            part_inside b at.second part n.y n.rest (cursor s.made s.reached) e

        pub stepped_dropped : is_among (records_in a) part ≡ true → Passed a b from (record { first = at.first; second = at.second + length part })
        stepped_dropped x = record { further = omega (arith, q.further); reached = λ made m. dropped made m x }
