-- Append's refusals of an offer are the model's, number for number, for every offer, whatever it holds.
-- Assumes nothing.
use mathlib.Core.Path.{◌≡◌, refl, sym, ap, ◌∙◌}
use Prim.Native.Nat.{ℕ, zero, suc, ◌+◌, ◌≤◌, min}
use mathlib.Core.List.{List, [], ◌∷◌, ◌++◌}
use mathlib.Core.Bool.{Bool, true, false, not, ◌&&◌, ◌||◌}
use mathlib.Core.Option.{Option, none, some}
use native.Mathlib.Omega.{arith}
use lib.ListN.{length, length-map}
use lib.Dec.{leb, ltb}
use borrow.Author.Tests.{le-leb, lt-leb, leb-true, lt-ltb, le-ltb, ltb-true}
use Rattle.facts.proofs.Orders.{by_order}
use Rattle.limit.specs.Times.{min_ticks, max_ticks, min_count, max_count, in_range}
use Rattle.limit.specs.Formula.{sample_form}
use Rattle.limit.specs.Answer.{chance_refusal, times_refusal}
use Rattle.limit.specs.Limit.{min_chance, max_chance, chance_in_range}
use Rattle.facts.proofs.Tests as tests
use Rattle.limit.proofs.InRange as R
use Rattle.journal_spec.specs.Refusals.{name_refusal, index_refusal, index_room_refusal, even_refusal, unless, outside, first_of}
use Rattle.journal_spec.specs.Section.{items_refusal, section_refusal}
use Rattle.journal_spec.specs.Record.{last_of, judge_day, last_chance, judge_chance, name_section, chance_section, time_section, min_name, max_name}
use Rattle.journal_spec.specs.Record.{min_byte, max_byte, min_chances, max_chances, even_chance, record_bytes}
use Rattle.journal_spec.specs.Profile.{Rule, plain, profile, in_profile, keeps}
use Rattle.journal_spec.specs.Scan.{max_length}
use Rattle.journal_spec.specs.Index.{index_bytes, in_front, index_of, fresh_index}
use Rattle.journal_spec.specs.Request.{Request, Offer, offer_of}
use Rattle.journal_spec.specs.Append.{offered, limits_of, judge_even, judge_room, of_handed, judge_index, judge_index_room}
use Rattle.journal_spec.specs.Append.{next_index, append_refusals}
use Rattle.journal_spec.specs.Tests.{each, rising_from, rising, name_good}
use Rattle.journal_spec.specs.Model.{Model, committed_of, record_for, day_falls, chances_good}
use Rattle.journal_spec.specs.Model.{chances_even, times_good, no_room, index_wrong, index_full, model_refusals, model_refusal}
use Rattle.journal_spec.proofs.Judging.{first_of_two, unless_none, unless_true}
use Rattle.journal_spec.proofs.Limits.{formula_bits, times_good_lem, limits_are}
use Rattle.journal_spec.proofs.Records.{length_record}
use Rattle.journal_spec.proofs.Places.{placed_from, records_of_placed}
use Rattle.journal_spec.proofs.Indexes.{same_index, next_index_lem}

-- ---- the sections, as tests of the whole list

pub items_outside : (low high n : ℕ) (before xs : List ℕ)
    → items_refusal (λ b. outside low high (suc n)) before xs ≡ unless (each (in_range low high) xs) (suc n)
unfolding items_refusal each outside unless
items_outside low high n before [] = refl
items_outside low high n before (x ∷ xs) =
    rw (items_outside low high n (before ++ x ∷ []) xs) (first_of_two (in_range low high x) (each (in_range low high) xs) n)

pub name_refused : (xs : List ℕ) → section_refusal name_section xs ≡ unless (name_good xs) name_refusal
unfolding section_refusal name_section name_good
name_refused xs =
    rw (items_outside min_byte max_byte 3 [] xs)
    (unfold outside in first_of_two (in_range min_name max_name (length xs)) (each (in_range min_byte max_byte) xs) 3)

pub time_refused : (xs : List ℕ) → section_refusal time_section xs ≡ unless (times_good xs) times_refusal
unfolding section_refusal time_section times_good
time_refused xs =
    rw (items_outside min_ticks max_ticks 5 [] xs)
    (unfold outside in first_of_two (in_range min_count max_count (length xs)) (each (in_range min_ticks max_ticks) xs) 5)

-- ---- chances

pub last_snoc : (xs : List ℕ) (x : ℕ) → last_chance (xs ++ x ∷ []) ≡ x
unfolding last_chance
last_snoc [] x = refl
last_snoc (y ∷ []) x = refl
last_snoc (y ∷ z ∷ xs) x = last_snoc (z ∷ xs) x

-- a first test of each of two pairs, then a second
pairwise : (a b c d : Bool) → (a && b) && (c && d) ≡ (a && c) && (b && d)
pairwise true true c d = refl
pairwise true false true d = refl
pairwise true false false d = refl
pairwise false b c d = refl

items_chance : (before xs : List ℕ)
    → items_refusal judge_chance before xs ≡ unless (each (in_range min_chance max_chance) xs && rising_from (last_chance before) xs) chance_refusal
unfolding items_refusal each rising_from judge_chance chance_in_range unless
items_chance before [] = refl
items_chance before (x ∷ xs) =
    let t : Bool = in_range min_chance max_chance x in
    let l : Bool = ltb (last_chance before) x in
    let ts : Bool = each (in_range min_chance max_chance) xs in
    let ls : Bool = rising_from x xs in
    let ih : items_refusal judge_chance (before ++ x ∷ []) xs ≡ unless (ts && ls) chance_refusal =
    items_chance (before ++ x ∷ []) xs
    ∙ ap (λ (y : ℕ). unless (each (in_range min_chance max_chance) xs && rising_from y xs) chance_refusal) (last_snoc before x) in
    ap (λ (n : ℕ). first_of (unless (t && l) chance_refusal ∷ n ∷ [])) ih
    ∙ first_of_two (t && l) (ts && ls) 4
    ∙ ap (λ (b : Bool). unless b chance_refusal) (pairwise t l ts ls)

-- chances in range rise from 0
rises : (xs : List ℕ) → each (in_range min_chance max_chance) xs && rising_from 0 xs ≡ each (in_range min_chance max_chance) xs && rising xs
unfolding each rising_from rising
rises [] = refl
rises (x ∷ xs) = go (in_range min_chance max_chance x) refl
  where
    go : (b : Bool) → in_range min_chance max_chance x ≡ b
        → (in_range min_chance max_chance x && each (in_range min_chance max_chance) xs) && (ltb 0 x && rising_from x xs)
        ≡ (in_range min_chance max_chance x && each (in_range min_chance max_chance) xs) && rising_from x xs
    go true e = rw (lt-ltb 0 x (R.at_least min_chance max_chance x e)) refl
    go false e = rw e refl

and_assoc : (a b c : Bool) → a && (b && c) ≡ (a && b) && c
and_assoc true b c = refl
and_assoc false b c = refl

pub chance_refused : (xs : List ℕ) → section_refusal chance_section xs ≡ unless (chances_good xs) chance_refusal
unfolding section_refusal chance_section chances_good last_chance
chance_refused xs =
    rw (items_chance [] xs, rises xs)
    (unfold outside in
    first_of_two (in_range min_chances max_chances (length xs)) (each (in_range min_chance max_chance) xs && rising xs) 4
    ∙ ap (λ (b : Bool). unless b chance_refusal)
    (and_assoc (in_range min_chances max_chances (length xs)) (each (in_range min_chance max_chance) xs) (rising xs)))

-- chances that are good are read, whether an append takes them or not
pub chances_read : (xs : List ℕ) → chances_good xs ≡ true → section_refusal chance_section xs ≡ 0
chances_read xs h = chance_refused xs ∙ unless_true (chances_good xs) chance_refusal h

-- ---- chances beyond even

-- rising numbers are not above the last
last_most : (x : ℕ) (xs : List ℕ) → rising_from x xs ≡ true → x ≤ last_chance (x ∷ xs)
unfolding rising_from last_chance
last_most x [] h = omega arith
last_most x (y ∷ ys) h =
    omega (arith, ltb-true x y (tests.first_of_lem (ltb x y) (rising_from y ys) h), last_most y ys (tests.second_of_lem (ltb x y) (rising_from y ys) h))

-- so that the last one decides
last_decides : (top x : ℕ) (xs : List ℕ) → rising_from x xs ≡ true → leb (last_chance (x ∷ xs)) top ≡ each (λ (c : ℕ). leb c top) (x ∷ xs)
unfolding each rising_from last_chance
last_decides top x [] h = both_true (leb x top)
  where
    both_true : (b : Bool) → b ≡ b && true
    both_true true = refl
    both_true false = refl
last_decides top x (y ∷ ys) h =
    let r = tests.second_of_lem (ltb x y) (rising_from y ys) h in
    let first : x ≤ last_chance (x ∷ y ∷ ys) = last_most x (y ∷ ys) h in
    last_decides top y ys r
    ∙ absorb (each (λ (c : ℕ). leb c top) (y ∷ ys))
    (λ e. le-leb x top (omega (arith, first, leb-true (last_chance (y ∷ ys)) top (last_decides top y ys r ∙ e))))
  where
    absorb : (b : Bool) → (b ≡ true → leb x top ≡ true) → b ≡ leb x top && b
    absorb true f = rw (f refl) refl
    absorb false f = go (leb x top)
      where
        go : (a : Bool) → false ≡ a && false
        go true = refl
        go false = refl

pub even_refused : (xs : List ℕ) → chances_good xs ≡ true → judge_even xs ≡ unless (chances_even xs) even_refusal
unfolding judge_even chances_even
even_refused xs h = ap (λ (b : Bool). unless b even_refusal) (go xs (rises_of xs h))
  where
    rises_of : (xs : List ℕ) → chances_good xs ≡ true → rising xs ≡ true
    rises_of xs h = unfold chances_good in tests.second_of_lem (in_range min_chances max_chances (length xs) && each (in_range min_chance max_chance) xs) (rising xs) h

    go : (xs : List ℕ) → rising xs ≡ true → leb (last_chance xs) even_chance ≡ each (λ (c : ℕ). leb c even_chance) xs
    go [] h = unfold each last_chance in refl
    go (x ∷ xs) h = last_decides even_chance x xs (unfold rising in h)

-- ---- day and room

not_below : (a b : ℕ) → leb a b ≡ not (ltb b a)
not_below a b = by_order a b (λ h. le-leb a b h ∙ sym (ap not (le-ltb b a h))) (λ h. lt-leb a b h ∙ sym (ap not (lt-ltb b a h)))

fits_both : (a r m : ℕ) → leb a (min r m) ≡ not (ltb r a || ltb m a)
fits_both a r m =
    by_order a r
    (λ h.
    by_order a m
    (λ k. le-leb a (min r m) (omega arith) ∙ rw (le-ltb r a h, le-ltb m a k) refl)
    (λ k. lt-leb a (min r m) (omega arith) ∙ rw (le-ltb r a h, lt-ltb m a k) refl))
    (λ h. lt-leb a (min r m) (omega arith) ∙ rw (lt-ltb r a h) refl)

-- ---- all refusals, in order

-- Two lists of refusals, row by row: a row need only agree where no row before it refuses.
abbrev pub SameRows : List ℕ → List ℕ → Type 0
SameRows [] [] = Unit {0}
SameRows [] (m ∷ ms) = ⊥
SameRows (n ∷ ns) [] = ⊥
SameRows (n ∷ ns) (m ∷ ms) = (n ≡ m) × (m ≡ 0 → SameRows ns ms)

pub same_rows : (ns ms : List ℕ) → SameRows ns ms → first_of ns ≡ first_of ms
unfolding first_of
same_rows [] [] h = refl
same_rows [] (m ∷ ms) h = absurd h
same_rows (n ∷ ns) [] h = absurd h
same_rows (n ∷ ns) (zero ∷ ms) h = rw h.0 (same_rows ns ms (h.1 refl))
same_rows (n ∷ ns) (suc m ∷ ms) h = rw h.0 refl

-- what good chances say of each
pub chances_each : (xs : List ℕ) → chances_good xs ≡ true → each (in_range min_chance max_chance) xs ≡ true
unfolding chances_good
chances_each xs h =
    tests.second_of_lem (in_range min_chances max_chances (length xs)) (each (in_range min_chance max_chance) xs)
    (tests.first_of_lem (in_range min_chances max_chances (length xs) && each (in_range min_chance max_chance) xs) (rising xs) h)

-- the record that append writes and the model's are of one length
pub same_length : (o : Offer) → length (record_bytes (offered o)) ≡ length (record_bytes (record_for o))
unfolding offered record_for limits_of
same_length o = length_record (offered o) ∙ rw (length-map, length-map) refl ∙ sym (length_record (record_for o))

-- and keep the same rules
pub same_keeps : (rule : Rule) (o : Offer) → keeps rule (offered o) ≡ keeps rule (record_for o)
unfolding keeps in_profile offered record_for
same_keeps plain o = refl
same_keeps profile o = refl

-- ---- the index

not_not : (b : Bool) → b ≡ not (not b)
not_not true = refl
not_not false = refl

index_refused : (m : Model) (index : Option (List ℕ))
    → of_handed (judge_index (index_of (placed_from 0 m.records))) index ≡ unless (not (index_wrong m index)) index_refusal
unfolding of_handed judge_index index_wrong unless
index_refused m none = refl
index_refused m (some b) =
    rw (same_index m.records)
    (ap (λ (t : Bool). unless t index_refusal) (not_not (in_front (index_bytes (fresh_index m.records)) b)))

-- the index with the record is the model's
pub same_next : (m : Model) (o : Offer) → next_index (placed_from 0 m.records) (committed_of m) o ≡ fresh_index (m.records ++ record_for o ∷ [])
unfolding next_index committed_of record_for
same_next m o = next_index_lem m.records (record_for o)

index_room_refused : (m : Model) (o : Offer) (index : Option (List ℕ))
    → of_handed (judge_index_room (next_index (placed_from 0 m.records) (committed_of m) o)) index
    ≡ unless (not (index_full m (record_for o) index)) index_room_refusal
unfolding of_handed judge_index_room index_full unless
index_room_refused m o none = refl
index_room_refused m o (some b) =
    rw (same_next m o)
    (ap (λ (t : Bool). unless t index_room_refusal) (not_below (length (index_bytes (fresh_index (m.records ++ record_for o ∷ [])))) (length b)))

pub same_refusal : (room : ℕ) (m : Model) (q : Request)
    → first_of (append_refusals room (placed_from 0 m.records) (committed_of m) q) ≡ model_refusal room m q
unfolding append_refusals model_refusal model_refusals judge_day judge_room day_falls no_room
same_refusal room m q =
    let o : Offer = offer_of q in
    let size : ℕ = committed_of m + length (record_bytes (record_for o)) in
    let good = unless_none (chances_good o.chances) 4 in
    same_rows _ _ (
      rw (records_of_placed 0 m.records, not_below (last_of m.records).day o.day) refl,
      λ day. (
        name_refused o.name,
        λ name. (
          chance_refused o.chances,
          λ chances. (
            even_refused o.chances (good chances),
            λ even. (
              time_refused o.times,
              λ times. (
                rw (same_keeps q.rule o) refl,
                λ rule. (
                  rw (same_length o, fits_both size room max_length) refl,
                  λ fits. (
                    index_refused m q.index,
                    λ index. (
                      index_room_refused m o q.index,
                      λ holds. tt,
                    ),
                  ),
                ),
              ),
            ),
          ),
        ),
      ),
    )

-- an offer that is not declined is the model's record
pub same_record : (o : Offer) → chances_good o.chances ≡ true → times_good o.times ≡ true → offered o ≡ record_for o
unfolding offered record_for formula_bits
same_record o c t =
    let e : limits_of o.times o.chances ≡ formula_bits sample_form o.times o.chances =
    limits_are o.times (sym (times_good_lem o.times) ∙ t) o.chances (chances_each o.chances c) in
    rw e refl
