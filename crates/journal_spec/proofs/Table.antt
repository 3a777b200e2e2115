-- Every refusal is a number of the papers' tables: scan's and append's, whatever the bytes and the offer.
-- Assumes nothing.
use mathlib.Core.Path.{◌≡◌, refl, sym, ap, ◌∙◌}
use mathlib.Core.Logic.{◌⊎◌, inl, inr, ⊎_elim, ◌↔◌}
use Prim.Native.Nat.{ℕ, zero, suc, ◌+◌, ◌-◌, ◌≤◌, ◌<◌, min}
use mathlib.Core.List.{List, [], ◌∷◌, ◌++◌}
use mathlib.Core.Bool.{Bool, true, false, cond, not, ◌||◌}
use mathlib.Core.Option.{Option, none, some}
use native.Mathlib.Omega.{arith}
use lib.ListN.{length, take, drop, get_or, length-drop}
use lib.Dec.{leb, eqb}
use borrow.Author.Tests.{eqb-true, eq-eqb}
use Rattle.facts.proofs.Orders.{by_order}
use Rattle.limit.specs.Answer.{LimitResult, limited, refused}
use Rattle.limit.specs.Limit.{limit_of}
use Rattle.facts.proofs.Tests as tests
use Rattle.journal_spec.specs.Bytes.{value_of}
use Rattle.journal_spec.specs.Refusals.{profile_refusal, unless, outside, among, first_of}
use Rattle.journal_spec.specs.Reader.{Reader, done, field, then, Found, found, fault, short, run}
use Rattle.journal_spec.specs.Section.{Section, items, section}
use Rattle.journal_spec.specs.Record.{Record, Last, last_of, judge_form, judge_day, judge_chance, judge_limit, name_section, chance_section}
use Rattle.journal_spec.specs.Record.{time_section, limit_section, record_reader}
use Rattle.journal_spec.specs.Scan.{max_length, Placed, records_of, Contents, standing, faulty, judged, record_at, contents_from, contents_of, status_of}
use Rattle.journal_spec.specs.Scan.{scan_of}
use Rattle.journal_spec.specs.Profile.{Rule, keeps}
use Rattle.journal_spec.specs.Scan as S
use Rattle.journal_spec.specs.Index.{index_bytes, in_front, index_of}
use Rattle.journal_spec.specs.Log.{Gathered, gathered, misread}
use Rattle.journal_spec.specs.Request.{Journal, Request, Offer, times_of, offer_of, declined}
use Rattle.journal_spec.specs.Append.{judge_even, judge_room, of_handed, judge_index, judge_index_room}
use Rattle.journal_spec.specs.Append.{next_index, append_refusals, unchanged, extend, settle, append_to}
use Rattle.journal_spec.specs.Append.{append_with}
use Rattle.journal_spec.specs.Append.{append_of}
use Rattle.journal_spec.specs.Tests.{each, name_good}
use Rattle.journal_spec.specs.Model.{chances_good, times_good}
use Rattle.journal_spec.proofs.Reading.{field_cases, found_not_fault, run_left}
use Rattle.journal_spec.proofs.Scanning.{found_at, contents_fits, contents_long, turn_short, turn_fault, turn_found}
use Rattle.journal_spec.proofs.Refused.{standing_not_damaged}
use Rattle.journal_spec.proofs.SameRefusals.{name_refused, chance_refused, time_refused}

-- ---- what a reader can refuse by

-- every refusal of the reader has the property P
abbrev pub Faults : {A : Type 0} → (ℕ → Type 0) → Reader A → Type 0
Faults P (done a) = Unit {0}
Faults P (field w refusal next) = ((v n : ℕ) → refusal v ≡ suc n → P (suc n)) × ((v : ℕ) → Faults P (next v))

pub fault_known : {A : Type 0} (P : ℕ → Type 0) (r : Reader A) → Faults P r → (at : ℕ) (bs : List ℕ) (n p : ℕ) → run r at bs ≡ fault n p → P n
unfolding run
fault_known P (done a) f at bs n p h = let z : ◌≡◌ {A = ℕ} 0 1 = cc in absurd (omega arith)
fault_known P (field w refusal next) f at bs n p h =
    field_cases w refusal next at bs (λ x. x ≡ fault n p → P n)
    (λ few e. let z : ◌≡◌ {A = ℕ} 0 1 = cc in absurd (omega arith))
    (λ m enough bad e. let same : suc m ≡ n = cc in rw same at (f.0 (value_of (take w bs)) m bad))
    (λ enough good e. fault_known P (next (value_of (take w bs))) (f.1 (value_of (take w bs))) (at + w) (drop w bs) n p e)
    h

faults_then : {A B : Type 0} (P : ℕ → Type 0) (r : Reader A) (k : A → Reader B) → Faults P r → ((a : A) → Faults P (k a)) → Faults P (then r k)
unfolding then
faults_then P (done a) k f g = g a
faults_then P (field w refusal next) k f g = (f.0, λ v. faults_then P (next v) k (f.1 v) g)

faults_items : (P : ℕ → Type 0) (w : ℕ) (refusal : List ℕ → ℕ → ℕ) → ((before : List ℕ) (v n : ℕ) → refusal before v ≡ suc n → P (suc n))
    → (n : ℕ) (before : List ℕ) → Faults P (items w refusal n before)
unfolding items
faults_items P w refusal f zero before = tt
faults_items P w refusal f (suc n) before = (f before, λ v. faults_items P w refusal f n (before ++ v ∷ []))

faults_section : (P : ℕ → Type 0) (s : Section) → ((v n : ℕ) → s.count v ≡ suc n → P (suc n))
    → ((before : List ℕ) (v n : ℕ) → s.item before v ≡ suc n → P (suc n)) → Faults P (section s)
unfolding section
faults_section P s f g = (f, λ n. faults_items P s.width s.item g n [])

-- ---- the record's

-- the number is one of the table's
abbrev pub Among : List ℕ → ℕ → Type 0
Among table n = among table n ≡ true

-- the numbers of a record that is read, in the order in which they are judged
abbrev pub record_numbers : List ℕ
record_numbers = 2 ∷ 13 ∷ 3 ∷ 4 ∷ 5 ∷ 6 ∷ 7 ∷ []

abbrev pub OfRecord : ℕ → Type 0
OfRecord = Among record_numbers

pub unless_number : (b : Bool) (m n : ℕ) → unless b m ≡ suc n → suc n ≡ m
unfolding unless
unless_number true m n h = absurd (omega arith)
unless_number false m n h = sym h

-- a refusal of the one number m, which is of the table
only : (table : List ℕ) (b : Bool) (m n : ℕ) → Among table m → unless b m ≡ suc n → Among table (suc n)
only table b m n known h = rw (unless_number b m n h) known

-- a first refusal is one of its list
first_number : (P : ℕ → Type 0) (a : ℕ) (ns : List ℕ) (n : ℕ) → ((m : ℕ) → a ≡ suc m → P (suc m))
    → ((m : ℕ) → first_of ns ≡ suc m → P (suc m)) → first_of (a ∷ ns) ≡ suc n → P (suc n)
unfolding first_of
first_number P zero ns n f g h = g n h
first_number P (suc m) ns n f g h = rw h at (f m refl)

-- every row of a list refuses by a number with the property P
pub data Rows (P : ℕ → Type 0) : List ℕ → Type 0 where
  end : Rows P []
  row : {a : ℕ} {ns : List ℕ} → ((m : ℕ) → a ≡ suc m → P (suc m)) → Rows P ns → Rows P (a ∷ ns)

one_of : (P : ℕ → Type 0) {ns : List ℕ} → Rows P ns → (n : ℕ) → first_of ns ≡ suc n → P (suc n)
one_of P end n h = unfold first_of in absurd (omega arith)
one_of P (row {a} {ns} this rows) n h = first_number P a ns n this (one_of P rows) h

limit_number : (r : LimitResult) (bits n : ℕ) → judge_limit r bits ≡ suc n → OfRecord (suc n)
unfolding judge_limit among
limit_number (limited x) bits n h = only record_numbers _ 7 n refl h
limit_number (refused m) bits n h = rw (← h) refl

form_number : (last : Last) (form n : ℕ) → judge_form last form ≡ suc n → OfRecord (suc n)
unfolding judge_form among
form_number last form = one_of OfRecord (row (λ n h. only record_numbers _ 2 n refl h) (row (λ n h. only record_numbers _ 13 n refl h) end))

pub record_faults : (last : Last) → Faults OfRecord (record_reader last)
unfolding record_reader judge_day name_section chance_section judge_chance time_section limit_section outside among
record_faults last = (
  λ v n h. form_number last v n h,
  λ form. (
    λ v n h. only record_numbers _ 3 n refl h,
    λ day.
        faults_then OfRecord (section name_section) _
        (faults_section OfRecord name_section (λ v n h. only record_numbers _ 4 n refl h) (λ before v n h. only record_numbers _ 4 n refl h))
        (λ name.
        faults_then OfRecord (section chance_section) _
        (faults_section OfRecord chance_section (λ v n h. only record_numbers _ 5 n refl h) (λ before v n h. only record_numbers _ 5 n refl h))
        (λ chances.
        faults_then OfRecord (section time_section) _
        (faults_section OfRecord time_section (λ v n h. only record_numbers _ 6 n refl h) (λ before v n h. only record_numbers _ 6 n refl h))
        (λ times.
        faults_then OfRecord (section (limit_section form chances times)) _
        (faults_section OfRecord (limit_section form chances times) (λ v n h. only record_numbers _ 7 n refl h)
        (λ before v n h. limit_number (limit_of form times (get_or chances (length before) 0)) v n h))
        (λ limits. tt)))),
  ),
)

-- ---- scan's

-- a fault that the scan finds is that of a record's reader, somewhere in the bytes
pub record RecordFault (rule : Rule) (at : ℕ) (bs : List ℕ) (n p : ℕ) : Type 0 where
  pub last : Last
  pub start : ℕ
  pub rest : List ℕ
  pub ran : record_at rule last start rest ≡ fault n p
  pub inside : start + length rest ≤ at + length bs

-- one turn of the scan, by what the record's reader finds
module _ (rule : Rule) (more n p : ℕ)
    (later : (qs : List Placed) (e : ℕ) (rest : List ℕ) → contents_from rule more qs e rest ≡ faulty n p → RecordFault rule e rest n p)
    (ps : List Placed) (at : ℕ) (bs : List ℕ) (h : contents_from rule (suc more) ps at bs ≡ faulty n p) where
  by_found : (f : Found Record) → record_at rule (last_of (records_of ps)) at bs ≡ f → RecordFault rule at bs n p
  by_found (found r e rest) ran =
      let l = run_left (record_reader (last_of (records_of ps))) at bs r e rest (found_at rule (last_of (records_of ps)) at bs r e rest ran).0 in
      let z : suc more - 1 ≡ more = omega arith in
      let next = later _ e rest (rw z at (sym (turn_found rule (suc more) ps at bs r e rest ran (omega arith)) ∙ h)) in
      let size : length rest ≡ length bs - (e - at) = ap length l.same ∙ length-drop (e - at) bs in
      record {
        last = next.last;
        start = next.start;
        rest = next.rest;
        ran = next.ran;
        inside = omega (arith, next.inside, l.later, l.there, size);
      }
  by_found (fault m q) ran =
      let e : faulty m q ≡ faulty n p = sym (turn_fault rule (suc more) ps at bs m q ran (omega arith)) ∙ h in
      let number : m ≡ n = cc in
      let place : q ≡ p = cc in
      rw (← number, ← place) (record { last = last_of (records_of ps); start = at; rest = bs; ran = ran; inside = omega arith })
  by_found short ran =
      let e : standing ps at ≡ faulty n p = sym (turn_short rule (suc more) ps at bs ran) ∙ h in
      let z : ◌≡◌ {A = ℕ} 0 1 = cc in
      absurd (omega arith)

pub contents_fault : (rule : Rule) (more : ℕ) (ps : List Placed) (at : ℕ) (bs : List ℕ) (n p : ℕ)
    → contents_from rule more ps at bs ≡ faulty n p → RecordFault rule at bs n p
contents_fault rule zero ps at bs n p h = unfold contents_from in let z : ◌≡◌ {A = ℕ} 0 1 = cc in absurd (omega arith)
contents_fault rule (suc more) ps at bs n p h =
    by_found rule more n p (λ qs e rest. contents_fault rule more qs e rest n p) ps at bs h (record_at rule (last_of (records_of ps)) at bs) refl

one_more : (m : ℕ) (table : List ℕ) (n : ℕ) → Among table n → Among (m ∷ table) n
unfolding among
one_more m table n h = go (eqb m n)
  where
    go : (b : Bool) → (b || among table n) ≡ true
    go true = refl
    go false = h

-- by a rule, 19 besides
at_number : (rule : Rule) (last : Last) (at : ℕ) (bs : List ℕ) (n p : ℕ) → record_at rule last at bs ≡ fault n p → Among (19 ∷ record_numbers) n
unfolding record_at
at_number rule last at bs n p h = go (run (record_reader last) at bs) refl h
  where
    by_rule : (b : Bool) (s : Record) (i : ℕ) (left : List ℕ) → cond b (found s i left) (fault profile_refusal at) ≡ fault n p → Among (19 ∷ record_numbers) n
    by_rule true s i left e = absurd (found_not_fault (sym e))
    by_rule false s i left e = let z : 19 ≡ n = cc in rw (← z) (unfold among in refl)

    go : (f : Found Record) → run (record_reader last) at bs ≡ f → judged rule at f ≡ fault n p → Among (19 ∷ record_numbers) n
    go (found s i left) ran e = by_rule (keeps rule s) s i left (unfold judged in e)
    go (fault m q) ran e =
        let same : m ≡ n = unfold judged in cc in
        one_more 19 record_numbers n (rw same at (fault_known OfRecord (record_reader last) (record_faults last) at bs m q ran))
    go short ran e = unfold judged in let z : ◌≡◌ {A = ℕ} 0 1 = cc in absurd (omega arith)

contents_number : (rule : Rule) (more : ℕ) (ps : List Placed) (at : ℕ) (bs : List ℕ) (n p : ℕ) → contents_from rule more ps at bs ≡ faulty n p
    → Among (19 ∷ record_numbers) n
contents_number rule more ps at bs n p h =
    let f = contents_fault rule more ps at bs n p h in
    at_number rule f.last f.start f.rest n p f.ran

-- the numbers of a damaged journal: 1, 19, and those of a record
pub scan_number : (rule : Rule) (slice : List ℕ) (len n p : ℕ) → scan_of rule slice len ≡ S.damaged n p → Among (1 ∷ 19 ∷ record_numbers) n
unfolding scan_of
scan_number rule slice len n p h = by_contents (contents_of rule slice len) refl h
  where
    by_length : (t : Bool) (m q : ℕ) → cond t (contents_from rule len [] 0 (take len slice)) (faulty 1 0) ≡ faulty m q → Among (1 ∷ 19 ∷ record_numbers) m
    by_length true m q e = one_more 1 (19 ∷ record_numbers) m (contents_number rule len [] 0 (take len slice) m q e)
    by_length false m q e = let z : 1 ≡ m = cc in rw (← z) (unfold among in refl)

    by_contents : (x : Contents) → contents_of rule slice len ≡ x → status_of len x ≡ S.damaged n p → Among (1 ∷ 19 ∷ record_numbers) n
    by_contents (standing ps committed) e h = absurd (standing_not_damaged len ps committed n p h)
    by_contents (faulty m q) e h =
        unfold status_of in
        let same : m ≡ n = cc in
        rw same at (by_length (leb len (min (length slice) max_length)) m q (unfold contents_of in e))

-- each number of a table passes a test that all of it passes
pub among_each : (test : ℕ → Bool) (table : List ℕ) (n : ℕ) → each test table ≡ true → Among table n → test n ≡ true
unfolding each among
among_each test [] n h a = let z : ◌≡◌ {A = ℕ} 0 1 = cc in absurd (omega arith)
among_each test (m ∷ ms) n h a = go (among_each test ms n (tests.second_of_lem (test m) (each test ms) h)) (eqb m n) refl
  where
    go : (Among ms n → test n ≡ true) → (b : Bool) → eqb m n ≡ b → test n ≡ true
    go later true e = rw (eqb-true m n e) at (tests.first_of_lem (test m) (each test ms) h)
    go later false e = later (rw e at a)

-- a number that the table does not have is no damaged journal's
pub scan_never : (k : ℕ) → each (λ (m : ℕ). not (eqb m k)) (1 ∷ 19 ∷ record_numbers) ≡ true
    → (rule : Rule) (slice : List ℕ) (len n p : ℕ) → scan_of rule slice len ≡ S.damaged n p → n ≡ k → ⊥
scan_never k t rule slice len n p h e =
    let a : not (eqb n k) ≡ true = among_each (λ (m : ℕ). not (eqb m k)) (1 ∷ 19 ∷ record_numbers) n t (scan_number rule slice len n p h) in
    let b : false ≡ true = rw (eq-eqb n k e) at a in
    let z : ◌≡◌ {A = ℕ} 0 1 = cc in
    omega arith

not_one : Among (19 ∷ record_numbers) 1 → ⊥
unfolding among
not_one h = let z : ◌≡◌ {A = ℕ} 0 1 = cc in omega arith

-- 1, at place 0, exactly if the length is beyond the slice or 65,536
pub length_exactly : (rule : Rule) (slice : List ℕ) (len : ℕ) → (scan_of rule slice len ≡ S.damaged 1 0) ↔ ((length slice < len) ⊎ (65_536 < len))
unfolding scan_of
length_exactly rule slice len = (λ h. beyond (contents_of rule slice len) refl h, λ b. ⊎_elim (λ h. long (omega arith)) (λ h. long (omega arith)) b)
  where
    long : min (length slice) max_length < len → status_of len (contents_of rule slice len) ≡ S.damaged 1 0
    long h = rw (contents_long rule slice len h) (unfold status_of in refl)

    inside : (x : Contents) → contents_from rule len [] 0 (take len slice) ≡ x → status_of len x ≡ S.damaged 1 0 → ⊥
    inside (standing ps committed) e h = standing_not_damaged len ps committed 1 0 h
    inside (faulty n p) e h =
        let one : n ≡ 1 = unfold status_of in cc in
        not_one (rw one at (contents_number rule len [] 0 (take len slice) n p e))

    beyond : (x : Contents) → contents_of rule slice len ≡ x → status_of len x ≡ S.damaged 1 0 → (length slice < len) ⊎ (65_536 < len)
    beyond x e h =
        by_order len (length slice)
        (λ fits.
        by_order len 65_536 (λ few. absurd (inside x (sym (contents_fits rule slice len fits few) ∙ e) h)) (λ many. inr many))
        (λ more. inl more)

-- ---- append's

-- the numbers of a declined append, in the order in which they are judged (7 is none of them: an offer's limits are worked out, not given)
abbrev pub append_numbers : List ℕ
append_numbers = 3 ∷ 4 ∷ 5 ∷ 17 ∷ 6 ∷ 19 ∷ 9 ∷ 14 ∷ 15 ∷ []

abbrev pub OfOffer : ℕ → Type 0
OfOffer = Among append_numbers

handed_number : (m : ℕ) (test : List ℕ → Bool) (index : Option (List ℕ)) → Among append_numbers m
    → (n : ℕ) → of_handed (λ b. unless (test b) m) index ≡ suc n → OfOffer (suc n)
unfolding of_handed
handed_number m test none known n h = absurd (omega arith)
handed_number m test (some b) known n h = only append_numbers (test b) m n known h

append_number : (room : ℕ) (ps : List Placed) (committed : ℕ) (q : Request) (n : ℕ) → first_of (append_refusals room ps committed q) ≡ suc n → OfOffer (suc n)
unfolding append_refusals judge_day judge_even judge_room judge_index judge_index_room among
append_number room ps committed q =
    let o : Offer = offer_of q in
    one_of OfOffer
    (row (λ n e. only append_numbers _ 3 n refl e)
    (row (λ n e. only append_numbers (name_good o.name) 4 n refl (sym (name_refused o.name) ∙ e))
    (row (λ n e. only append_numbers (chances_good o.chances) 5 n refl (sym (chance_refused o.chances) ∙ e))
    (row (λ n e. only append_numbers _ 17 n refl e)
    (row (λ n e. only append_numbers (times_good o.times) 6 n refl (sym (time_refused o.times) ∙ e))
    (row (λ n e. only append_numbers _ 19 n refl e)
    (row (λ n e. only append_numbers _ 9 n refl e)
    (row (handed_number 14 (λ b. in_front (index_bytes (index_of ps)) b) q.index refl)
    (row (handed_number 15 (λ b. leb (length (index_bytes (next_index ps committed o))) (length b)) q.index refl)
    end)))))))))

extended_not_declined : (j : Journal) (index : Option (List ℕ)) (committed : ℕ) (new : List ℕ) (next : Option (List ℕ)) (n : ℕ)
    → (settle 0 j index committed new next).answer ≡ declined n → ⊥
unfolding settle extend
extended_not_declined j index committed new next n e = let z : ◌≡◌ {A = ℕ} 0 1 = cc in omega arith

declined_same : (m : ℕ) (j : Journal) (index : Option (List ℕ)) (committed : ℕ) (new : List ℕ) (next : Option (List ℕ)) (n : ℕ)
    → (settle (suc m) j index committed new next).answer ≡ declined n → suc m ≡ n
unfolding settle unchanged
declined_same m j index committed new next n e = cc

damaged_not_declined : (m p : ℕ) (j : Journal) (q : Request) (n : ℕ) → (append_to (faulty m p) j q).answer ≡ declined n → ⊥
unfolding append_to unchanged
damaged_not_declined m p j q n e = let z : ◌≡◌ {A = ℕ} 0 1 = cc in omega arith

unread_not_declined : (m p : ℕ) (j : Journal) (q : Request) (n : ℕ) → (append_with (misread m p) j q).answer ≡ declined n → ⊥
unfolding append_with unchanged
unread_not_declined m p j q n e = let z : ◌≡◌ {A = ℕ} 0 1 = cc in omega arith

-- a declined append's number is one of them
pub declined_number : (j : Journal) (q : Request) (n : ℕ) → (append_of j q).answer ≡ declined n → OfOffer n
unfolding append_of
declined_number j q n h = by_times (times_of q) h
  where
    by_refusal_lem : (m committed : ℕ) (new : List ℕ) (next : Option (List ℕ)) → ((i : ℕ) → m ≡ suc i → OfOffer (suc i))
        → (settle m j q.index committed new next).answer ≡ declined n → OfOffer n
    by_refusal_lem zero committed new next f e = absurd (extended_not_declined j q.index committed new next n e)
    by_refusal_lem (suc m) committed new next f e = rw (declined_same m j q.index committed new next n e) at (f m refl)

    by_contents : (x : Contents) → (append_to x j q).answer ≡ declined n → OfOffer n
    by_contents (faulty m p) e = absurd (damaged_not_declined m p j q n e)
    by_contents (standing ps committed) e =
        unfold append_to in
        by_refusal_lem (first_of (append_refusals (length j.slice) ps committed q)) committed _ _ (append_number (length j.slice) ps committed q) e

    by_times : (g : Gathered) → (append_with g j q).answer ≡ declined n → OfOffer n
    by_times (misread m p) e = absurd (unread_not_declined m p j q n e)
    by_times (gathered ts) e = unfold append_with in by_contents (contents_of q.rule j.slice j.len) e
