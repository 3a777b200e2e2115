-- Request 2026-01: what a log is read as. Good lines give the times of the name in file order; behind them a line that is none, or that no
-- newline ends, is 11 at its first byte, and the name's 129th is 12; and a log that gives times, or that is refused at a place, is good lines
-- and nothing else, or good lines up to that place. An append through a log that reads ends as the plain one of those times does.
-- Assumes nothing.
use mathlib.Core.Path.{◌≡◌, refl, sym, ap, ap₂, ◌∙◌}
use mathlib.Core.Logic.{◌⊎◌, inl, inr, ⊎_elim}
use Prim.Native.Nat.{ℕ, ◌+◌, ◌≤◌, ◌<◌}
use mathlib.Core.List.{List, [], ◌∷◌, ◌++◌, append_assoc, append-nil}
use mathlib.Core.Bool.{Bool, true, false, cond}
use native.Mathlib.Omega.{arith}
use native.Mathlib.Nat.{add-zero, zero-add}
use lib.ListN.{length, length-append}
use lib.Dec.{ltb}
use borrow.Author.Tests.{ltb-true, ltb-false, lt-ltb, le-ltb}
use Rattle.limit.specs.Times.{max_count}
use Rattle.journal_spec.specs.Refusals.{line_refusal, many_refusal}
use Rattle.journal_spec.specs.Tests.{same, name_good}
use Rattle.journal_spec.specs.Scan.{Contents, standing, faulty, contents_of}
use Rattle.journal_spec.specs.Log.{newline, Lines, rest, line, lines_of, name_in, decimal_from, ticks_in, line_good}
use Rattle.journal_spec.specs.Log.{Gathered, gathered, misread, take_line, gather_from, gather_of}
use Rattle.journal_spec.specs.Request.{Journal, times, Request, gather_by, times_of, gathered_times, offer_of, declined_at}
use Rattle.journal_spec.specs.Request as Q
use Rattle.journal_spec.specs.Append.{unchanged, append_refusals, append_to, append_with, append_of}
use Rattle.journal_spec.specs.Shown.{in_log}
use Rattle.journal_spec.proofs.Each.{same_lists}
use Rattle.journal_spec.proofs.Given.{times_given}
use Rattle.journal_spec.proofs.Lines.{LogLine, line_bytes, log_bytes, GoodLine, GoodLines, bytes_in, lines_bytes, parts_of, good_parts}
use Rattle.journal_spec.proofs.Lines.{NoNewline, clean_line, clean_rest, good_bytes}

-- ---- an append through a log

-- times that are read go to the journal, and a line that is refused is answered before it is read
pub append_read : (j : Journal) (q : Request) (ts : List ℕ) → times_of q ≡ gathered ts
    → append_to (contents_of q.rule j.slice j.len) j q ≡ append_of j q
unfolding append_of append_with
append_read j q ts e = rw e refl

pub append_misread : (j : Journal) (q : Request) (n p : ℕ) → times_of q ≡ misread n p → unchanged (declined_at n p) j q.index ≡ append_of j q
unfolding append_of append_with
append_misread j q n p e = rw e refl

-- the request with its times handed in
unfoldable pub handed_in : List ℕ → Request → Request
handed_in ts q = record { day = q.day; name = q.name; chances = q.chances; source = times ts; budget = q.budget; rule = q.rule; index = q.index }

same_offer : (q : Request) (ts : List ℕ) → times_of q ≡ gathered ts → offer_of q ≡ offer_of (handed_in ts q)
unfolding handed_in offer_of gathered_times times_of gather_by
same_offer q ts e = rw e refl

same_append : (x : Contents) (j : Journal) (q : Request) (ts : List ℕ) → times_of q ≡ gathered ts → append_to x j q ≡ append_to x j (handed_in ts q)
unfolding append_to append_refusals handed_in
same_append (faulty n p) j q ts e = refl
same_append (standing ps committed) j q ts e = rw (same_offer q ts e) (unfold handed_in in refl)

pub read_as_times : (j : Journal) (q : Request) (ts : List ℕ) → times_of q ≡ gathered ts → append_of j q ≡ append_of j (handed_in ts q)
unfolding handed_in
read_as_times j q ts e =
    sym (append_read j q ts e)
    ∙ same_append (contents_of q.rule j.slice j.len) j q ts e
    ∙ append_read j (handed_in ts q) ts (unfold times_of gather_by in refl)

-- an append through a log that reads ends as that of the times which the log has for the request's own name
pub log_as_times : (j : Journal) (q : Request) (bs ts : List ℕ) → q.source ≡ Q.log bs → gather_of q.name bs ≡ gathered ts
    → append_of j q ≡ append_of j (handed_in ts q)
log_as_times j q bs ts s e = read_as_times j q ts ((times_given q ts).1 (in_log s e))

-- ---- the times of a name in good lines

-- the ticks of the lines of a name, in file order
unfoldable pub ticks_for : List ℕ → List LogLine → List ℕ
ticks_for name [] = []
ticks_for name (l ∷ ls) = cond (same l.name name) (decimal_from 0 l.digits ∷ ticks_for name ls) (ticks_for name ls)

ticks_cons : (name : List ℕ) (l : LogLine) (ls : List LogLine) → ticks_for name (l ∷ []) ++ ticks_for name ls ≡ ticks_for name (l ∷ ls)
unfolding ticks_for
ticks_cons name l ls = go (same l.name name)
  where
    go : (t : Bool) → cond t (decimal_from 0 l.digits ∷ []) [] ++ ticks_for name ls ≡ cond t (decimal_from 0 l.digits ∷ ticks_for name ls) (ticks_for name ls)
    go true = refl
    go false = refl

-- a good line is taken while there are fewer than 128 of the name
line_takes : (name before : List ℕ) (at : ℕ) (l : LogLine) → GoodLine l → length before + length (ticks_for name (l ∷ [])) ≤ max_count
    → take_line name before at (line_bytes l) ≡ gathered (before ++ ticks_for name (l ∷ []))
unfolding take_line ticks_for
line_takes name before at l g few =
    let b = good_bytes l g in
    rw (b.good, b.name, b.ticks) (go (same l.name name) few)
  where
    go : (t : Bool) → length before + length (cond t (decimal_from 0 l.digits ∷ []) []) ≤ max_count
        → cond t (cond (ltb (length before) max_count) (gathered (before ++ decimal_from 0 l.digits ∷ [])) (misread many_refusal at)) (gathered before)
        ≡ gathered (before ++ cond t (decimal_from 0 l.digits ∷ []) [])
    go true k = rw (lt-ltb (length before) max_count (omega arith)) refl
    go false k = rw append-nil refl

-- good lines, at most 128 of the name, are passed with their times gathered, whatever follows them
lines_past : (name before : List ℕ) (at : ℕ) (ls : List LogLine) (bs : List ℕ) → GoodLines ls → length before + length (ticks_for name ls) ≤ max_count
    → gather_from name before at (lines_of (log_bytes ls ++ bs)) ≡ gather_from name (before ++ ticks_for name ls) (at + length (log_bytes ls)) (lines_of bs)
unfolding log_bytes gather_from
lines_past name before at [] bs g few = unfold ticks_for in rw (append-nil, add-zero) refl
lines_past name before at (l ∷ ls) bs g few =
    let cons : length (ticks_for name (l ∷ [])) + length (ticks_for name ls) ≡ length (ticks_for name (l ∷ ls)) =
    sym (length-append (ticks_for name (l ∷ [])) (ticks_for name ls)) ∙ ap length (ticks_cons name l ls) in
    let more : List ℕ = before ++ ticks_for name (l ∷ []) in
    let size : length more ≡ length before + length (ticks_for name (l ∷ [])) = length-append before (ticks_for name (l ∷ [])) in
    let one = line_takes name before at l g.0 (omega (arith, cons)) in
    let all : more ++ ticks_for name ls ≡ before ++ ticks_for name (l ∷ ls) =
    append_assoc before _ _ ∙ ap (λ (x : List ℕ). before ++ x) (ticks_cons name l ls) in
    let place : at + length (line_bytes l) + 1 + length (log_bytes ls) ≡ at + length (line_bytes l ++ newline ∷ log_bytes ls) =
    rw length-append (omega arith) in
    rw (append_assoc, clean_line (line_bytes l) (log_bytes ls ++ bs) (good_bytes l g.0).clean)
    (rw (one, gather_from)
    (lines_past name more (at + length (line_bytes l) + 1) ls bs g.1 (omega (arith, cons, size))
    ∙ ap₂ (λ (x : List ℕ) (p : ℕ). gather_from name x p (lines_of bs)) all place))

module _ (name : List ℕ) (ls : List LogLine) (good : GoodLines ls) (few : length (ticks_for name ls) ≤ max_count) where
  past : (bs : List ℕ) → gather_of name (log_bytes ls ++ bs) ≡ gather_from name (ticks_for name ls) (length (log_bytes ls)) (lines_of bs)
  unfolding gather_of
  past bs = lines_past name [] 0 ls bs good (omega arith) ∙ rw zero-add refl

  -- good lines alone: their times of the name, in file order
  pub log_gathers : gather_of name (log_bytes ls) ≡ gathered (ticks_for name ls)
  log_gathers = ap (gather_of name) (sym (append-nil (log_bytes ls))) ∙ past [] ∙ unfold lines_of gather_from in refl

  -- then a line that is none: 11 at its first byte
  pub log_bad_line : (l bs : List ℕ) → NoNewline l → line_good l ≡ false
      → gather_of name (log_bytes ls ++ (l ++ newline ∷ bs)) ≡ misread line_refusal (length (log_bytes ls))
  log_bad_line l bs clean bad =
      past (l ++ newline ∷ bs) ∙ rw (clean_line l bs clean) (unfold gather_from take_line in rw (bad, gather_from) refl)

  -- then a last line without its newline: 11
  pub log_no_newline : (b : ℕ) (l : List ℕ) → NoNewline (b ∷ l) → gather_of name (log_bytes ls ++ b ∷ l) ≡ misread line_refusal (length (log_bytes ls))
  log_no_newline b l clean = past (b ∷ l) ∙ rw (clean_rest (b ∷ l) clean) (unfold gather_from in refl)

  -- 128 lines of the name, then one more: 12
  pub log_many : (l : LogLine) (bs : List ℕ) → GoodLine l → same l.name name ≡ true → length (ticks_for name ls) ≡ max_count
      → gather_of name (log_bytes ls ++ (line_bytes l ++ newline ∷ bs)) ≡ misread many_refusal (length (log_bytes ls))
  unfolding gather_from take_line
  log_many l bs g own all =
      let x = good_bytes l g in
      let full : take_line name (ticks_for name ls) (length (log_bytes ls)) (line_bytes l) ≡ misread many_refusal (length (log_bytes ls)) =
      rw (x.good, x.name, own, le-ltb (length (ticks_for name ls)) max_count (omega arith)) refl in
      past (line_bytes l ++ newline ∷ bs) ∙ rw (clean_line (line_bytes l) bs x.clean) (rw (full, gather_from) refl)

-- ---- what a log that gives times is

-- from the place on, after the times `before`: good lines and nothing else, with these times of the name
pub record ReadAs (name before : List ℕ) (bs ts : List ℕ) : Type 0 where
  pub lines : List LogLine
  pub good : GoodLines lines
  pub bytes : bs ≡ log_bytes lines
  pub times : ts ≡ before ++ ticks_for name lines
  pub few : length before ≤ max_count → length ts ≤ max_count

-- one line that was taken
pub record Taken (name before : List ℕ) (l more : List ℕ) : Type 0 where
  pub good : line_good l ≡ true
  pub times : more ≡ before ++ ticks_for name (parts_of l ∷ [])
  pub few : length before ≤ max_count → length more ≤ max_count

line_taken : (name before : List ℕ) (at : ℕ) (l more : List ℕ) → take_line name before at l ≡ gathered more → Taken name before l more
unfolding take_line ticks_for parts_of ticks_in
line_taken name before at l more h = go (line_good l) (same (name_in l) name) (ltb (length before) max_count) refl refl refl
  where
    go : (a b c : Bool) → line_good l ≡ a → same (name_in l) name ≡ b → ltb (length before) max_count ≡ c → Taken name before l more
    go false b c p q r =
        let e : misread line_refusal at ≡ gathered more = rw p at h in
        let z : ◌≡◌ {A = ℕ} 0 1 = cc in
        absurd (omega arith)
    go true true false p q r =
        let e : misread many_refusal at ≡ gathered more = rw (p, q, r) at h in
        let z : ◌≡◌ {A = ℕ} 0 1 = cc in
        absurd (omega arith)
    go true true true p q r =
        let e : gathered (before ++ ticks_in l ∷ []) ≡ gathered more = rw (p, q, r) at h in
        let s : before ++ ticks_in l ∷ [] ≡ more = cc in
        record {
          good = p;
          times = sym s ∙ rw q (unfold ticks_in in refl);
          few = λ k. rw (← s, length-append) (omega (arith, ltb-true (length before) max_count r));
        }
    go true false c p q r =
        let e : gathered before ≡ gathered more = rw (p, q) at h in
        let s : before ≡ more = cc in
        record { good = p; times = sym s ∙ rw (q, append-nil) refl; few = λ k. rw (← s) k }

-- one more good line in front
read_more : (name before : List ℕ) (l more : List ℕ) (bs ts : List ℕ) → Taken name before l more → ReadAs name more bs ts
    → ReadAs name before (l ++ newline ∷ bs) ts
unfolding log_bytes
read_more name before l more bs ts t r =
    let p = good_parts l t.good in
    record {
      lines = parts_of l ∷ r.lines;
      good = (p.0, r.good);
      bytes = ap₂ (λ (x y : List ℕ). x ++ newline ∷ y) p.1 r.bytes;
      times = r.times
          ∙ ap (λ (x : List ℕ). x ++ ticks_for name r.lines) t.times
          ∙ append_assoc before _ _
          ∙ ap (λ (x : List ℕ). before ++ x) (ticks_cons name (parts_of l) r.lines);
      few = λ k. r.few (t.few k);
    }

read_from_lem : (name before : List ℕ) (at : ℕ) (ls : Lines) (ts : List ℕ) → gather_from name before at ls ≡ gathered ts → ReadAs name before (bytes_in ls) ts
unfolding gather_from bytes_in
read_from_lem name before at (rest []) ts h =
    let s : before ≡ ts = cc in
    record { lines = []; good = tt; bytes = unfold log_bytes in refl; times = sym s ∙ unfold ticks_for in sym (append-nil before); few = λ k. rw (← s) k }
read_from_lem name before at (rest (b ∷ bs)) ts h = let z : ◌≡◌ {A = ℕ} 0 1 = cc in absurd (omega arith)
read_from_lem name before at (line l ls) ts h = go (λ more. read_from_lem name more (at + length l + 1) ls ts) (take_line name before at l) refl
  where
    go : ((more : List ℕ) → gather_from name more (at + length l + 1) ls ≡ gathered ts → ReadAs name more (bytes_in ls) ts)
        → (g : Gathered) → take_line name before at l ≡ g → ReadAs name before (l ++ newline ∷ bytes_in ls) ts
    go later (gathered more) e =
        read_more name before l more (bytes_in ls) ts (line_taken name before at l more e)
        (later more (unfold gather_from in rw (e, gather_from) at h))
    go later (misread n p) e =
        let w : misread n p ≡ gathered ts = unfold gather_from in rw (e, gather_from) at h in
        let z : ◌≡◌ {A = ℕ} 0 1 = cc in
        absurd (omega arith)

-- a log that gives times: good lines and nothing else, at most 128 of the name, and the times are theirs in file order
pub log_read : (name log ts : List ℕ) → gather_of name log ≡ gathered ts → ReadAs name [] log ts
unfolding gather_of
log_read name log ts h = rw (lines_bytes log) at (read_from_lem name [] 0 (lines_of log) ts h)

-- ---- where a log is refused

-- good lines up to the place, after the times `before`; then bytes follow, and the number is 11, or 12 where 128 lines of the name stand before
pub record RefusedAt (name before bs : List ℕ) (at n p : ℕ) : Type 0 where
  pub lines : List LogLine
  pub left : List ℕ
  pub good : GoodLines lines
  pub bytes : bs ≡ log_bytes lines ++ left
  pub some : 0 < length left
  pub place : p ≡ at + length (log_bytes lines)
  pub number : (n ≡ line_refusal) ⊎ ((n ≡ many_refusal) × (length before + length (ticks_for name lines) ≡ max_count))

refused_here : (name before bs : List ℕ) (at n : ℕ) → 0 < length bs → (n ≡ line_refusal) ⊎ ((n ≡ many_refusal) × (length before ≡ max_count))
    → RefusedAt name before bs at n at
unfolding log_bytes ticks_for
refused_here name before bs at n pos why = record {
  lines = [];
  left = bs;
  good = tt;
  bytes = refl;
  some = pos;
  place = omega arith;
  number = ⊎_elim (λ e. inl e) (λ e. inr (e.0, omega (arith, e.1))) why;
}

-- one more good line in front
refused_later : (name before l more bs : List ℕ) (at n p : ℕ) → Taken name before l more → RefusedAt name more bs (at + length l + 1) n p
    → RefusedAt name before (l ++ newline ∷ bs) at n p
unfolding log_bytes
refused_later name before l more bs at n p t r =
    let g = good_parts l t.good in
    let size : length l ≡ length (line_bytes (parts_of l)) = ap length g.1 in
    let cons : length (ticks_for name (parts_of l ∷ [])) + length (ticks_for name r.lines) ≡ length (ticks_for name (parts_of l ∷ r.lines)) =
    sym (length-append (ticks_for name (parts_of l ∷ [])) (ticks_for name r.lines)) ∙ ap length (ticks_cons name (parts_of l) r.lines) in
    let count : length more ≡ length before + length (ticks_for name (parts_of l ∷ [])) = ap length t.times ∙ length-append before _ in
    record {
      lines = parts_of l ∷ r.lines;
      left = r.left;
      good = (g.0, r.good);
      bytes = ap₂ (λ (x y : List ℕ). x ++ newline ∷ y) g.1 r.bytes ∙ sym (append_assoc (line_bytes (parts_of l)) (newline ∷ log_bytes r.lines) r.left);
      some = r.some;
      place = r.place ∙ rw (length-append (line_bytes (parts_of l))) (omega (arith, size));
      number = ⊎_elim (λ e. inl e) (λ e. inr (e.0, omega (arith, e.1, cons, count))) r.number;
    }

line_refused : (name before : List ℕ) (at : ℕ) (l : List ℕ) (n p : ℕ) → length before ≤ max_count → take_line name before at l ≡ misread n p
    → (p ≡ at) × ((n ≡ line_refusal) ⊎ ((n ≡ many_refusal) × (length before ≡ max_count)))
unfolding take_line
line_refused name before at l n p few h = go (line_good l) (same (name_in l) name) (ltb (length before) max_count) refl refl refl
  where
    go : (a b c : Bool) → line_good l ≡ a → same (name_in l) name ≡ b → ltb (length before) max_count ≡ c
        → (p ≡ at) × ((n ≡ line_refusal) ⊎ ((n ≡ many_refusal) × (length before ≡ max_count)))
    go false b c x y z =
        let e : misread line_refusal at ≡ misread n p = rw x at h in
        let number : line_refusal ≡ n = cc in
        let place : at ≡ p = cc in
        (sym place, inl (sym number))
    go true true false x y z =
        let e : misread many_refusal at ≡ misread n p = rw (x, y, z) at h in
        let number : many_refusal ≡ n = cc in
        let place : at ≡ p = cc in
        (sym place, inr (sym number, omega (arith, ltb-false (length before) max_count z)))
    go true true true x y z =
        let e : gathered (before ++ ticks_in l ∷ []) ≡ misread n p = rw (x, y, z) at h in
        let w : ◌≡◌ {A = ℕ} 0 1 = cc in
        absurd (omega arith)
    go true false c x y z =
        let e : gathered before ≡ misread n p = rw (x, y) at h in
        let w : ◌≡◌ {A = ℕ} 0 1 = cc in
        absurd (omega arith)

refused_from : (name before : List ℕ) (at : ℕ) (ls : Lines) (n p : ℕ) → length before ≤ max_count → gather_from name before at ls ≡ misread n p
    → RefusedAt name before (bytes_in ls) at n p
unfolding gather_from bytes_in
refused_from name before at (rest []) n p few h = let z : ◌≡◌ {A = ℕ} 0 1 = cc in absurd (omega arith)
refused_from name before at (rest (b ∷ bs)) n p few h =
    let number : line_refusal ≡ n = cc in
    let place : at ≡ p = cc in
    rw (← number, ← place) (refused_here name before (b ∷ bs) at line_refusal (omega arith) (inl refl))
refused_from name before at (line l ls) n p few h =
    go (λ more f. refused_from name more (at + length l + 1) ls n p f) (take_line name before at l) refl
  where
    go : ((more : List ℕ) → length more ≤ max_count → gather_from name more (at + length l + 1) ls ≡ misread n p
        → RefusedAt name more (bytes_in ls) (at + length l + 1) n p)
        → (g : Gathered) → take_line name before at l ≡ g → RefusedAt name before (l ++ newline ∷ bytes_in ls) at n p
    go later (gathered more) e =
        let t = line_taken name before at l more e in
        refused_later name before l more (bytes_in ls) at n p t (later more (t.few few) (unfold gather_from in rw (e, gather_from) at h))
    go later (misread m q) e =
        let w : misread m q ≡ misread n p = unfold gather_from in rw (e, gather_from) at h in
        let number : m ≡ n = cc in
        let place : q ≡ p = cc in
        let r = line_refused name before at l m q few e in
        rw (← number, ← place, r.0)
        (refused_here name before (l ++ newline ∷ bytes_in ls) at m (rw length-append (omega arith)) r.1)

-- a log that is refused: its lines up to the place are good, and more bytes follow; 12 where 128 of them are of the name
pub log_refused : (name log : List ℕ) (n p : ℕ) → gather_of name log ≡ misread n p → RefusedAt name [] log 0 n p
unfolding gather_of
log_refused name log n p h = rw (lines_bytes log) at (refused_from name [] 0 (lines_of log) n p (omega arith) h)

-- ---- a name that is itself refused

-- no good line has it
no_ticks : (name : List ℕ) → name_good name ≡ false → (ls : List LogLine) → GoodLines ls → ticks_for name ls ≡ []
unfolding ticks_for
no_ticks name bad [] g = refl
no_ticks name bad (l ∷ ls) g = go (same l.name name) refl (no_ticks name bad ls g.1)
  where
    go : (t : Bool) → same l.name name ≡ t → ticks_for name ls ≡ []
        → cond (same l.name name) (decimal_from 0 l.digits ∷ ticks_for name ls) (ticks_for name ls) ≡ []
    go true e later =
        let good : name_good name ≡ true = ap name_good (sym (same_lists l.name name e)) ∙ g.0.name in
        let z : ◌≡◌ {A = ℕ} 0 1 = cc in absurd (omega arith)
    go false e later = rw e later

-- so that a log gives no times for it, and the append is declined for its name
pub no_times_lem : (name log ts : List ℕ) → name_good name ≡ false → gather_of name log ≡ gathered ts → ts ≡ []
no_times_lem name log ts bad h = let r = log_read name log ts h in r.times ∙ no_ticks name bad r.lines r.good
