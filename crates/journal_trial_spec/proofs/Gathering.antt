-- A trial reads the log that an append gathers times from (request 2026-01): a log that is refused here is refused there by 11 at the same place,
-- the first byte of its first line that is none, unless the name's 129th line stood before it; and the links of a name have the times that are
-- gathered for it. Assumes nothing.
use mathlib.Core.Path.{◌≡◌, refl, sym, ap, ◌∙◌}
use mathlib.Core.Logic.{◌⊎◌, inl, inr, ⊎_elim}
use Prim.Native.Nat.{ℕ, ◌+◌, ◌≤◌, ◌<◌}
use mathlib.Core.List.{List, [], ◌∷◌, ◌++◌, append_assoc, append-nil}
use mathlib.Core.Bool.{Bool, true, false, cond}
use native.Mathlib.Omega.{arith}
use lib.ListN.{length, length-append}
use lib.Dec.{ltb}
use borrow.Author.Tests.{ltb-true, ltb-false}
use Rattle.limit.specs.Times.{max_count, in_range}
use Rattle.journal_spec.specs.Tests.{same, name_good}
use Rattle.journal_spec.specs.Log.{newline, Lines, rest, line, lines_of, name_in, decimal_from, ticks_in, line_good}
use Rattle.journal_spec.specs.Log.{Gathered, gathered, take_line, gather_from, gather_of}
use Rattle.journal_spec.specs.Log as G
use Rattle.journal_spec.proofs.Each.{same_lists}
use Rattle.journal_spec.proofs.Lines.{LogLine, log_bytes, GoodLines, NoNewline}
use Rattle.journal_spec.proofs.Logs.{ticks_for, log_bad_line, log_no_newline, RefusedAt, log_refused}
use Rattle.journal_trial_spec.specs.Tally.{tally}
use Rattle.journal_trial_spec.specs.Links.{Link, link_of, LogRead, read, misread, log_from, log_of}
use Rattle.journal_trial_spec.specs.Trial.{is_named, links_of}
use Rattle.journal_trial_spec.proofs.Lines.{read_same}

-- ---- the ticks of a name's links

-- in file order
unfoldable pub ticks_of : List ℕ → List Link → List ℕ
ticks_of name [] = []
ticks_of name (l ∷ ls) = cond (same l.name name) (l.ticks ∷ []) [] ++ ticks_of name ls

pub ticks_length : (name : List ℕ) (ls : List Link) → length (ticks_of name ls) ≡ links_of name ls
unfolding ticks_of links_of tally is_named
ticks_length name [] = refl
ticks_length name (l ∷ ls) = go (same l.name name) (ticks_length name ls)
  where
    go : (t : Bool) → length (ticks_of name ls) ≡ tally (is_named name) ls
        → length (cond t (l.ticks ∷ []) [] ++ ticks_of name ls) ≡ cond t 1 0 + tally (is_named name) ls
    go true h = omega arith
    go false h = omega arith

ticks_append : (name : List ℕ) (xs ys : List Link) → ticks_of name (xs ++ ys) ≡ ticks_of name xs ++ ticks_of name ys
unfolding ticks_of
ticks_append name [] ys = refl
ticks_append name (x ∷ xs) ys =
    ap (λ (l : List ℕ). cond (same x.name name) (x.ticks ∷ []) [] ++ l) (ticks_append name xs ys)
    ∙ sym (append_assoc (cond (same x.name name) (x.ticks ∷ []) []) (ticks_of name xs) (ticks_of name ys))

-- ---- what follows in a log

misread_same : {p q : ℕ} → misread p ≡ misread q → p ≡ q
misread_same h = cc

read_not_misread : {p : ℕ} {ls : List Link} → read ls ≡ misread p → ⊥
read_not_misread h = let z : ◌≡◌ {A = ℕ} 0 1 = cc in omega arith

misread_not_read : {p : ℕ} {ls : List Link} → misread p ≡ read ls → ⊥
misread_not_read h = let z : ◌≡◌ {A = ℕ} 0 1 = cc in omega arith

-- a line that is refused stands at the place or behind it
later_place : (before : List Link) (at : ℕ) (ls : Lines) (p : ℕ) → log_from before at ls ≡ misread p → at ≤ p
unfolding log_from
later_place before at (rest []) p h = absurd (read_not_misread h)
later_place before at (rest (b ∷ bs)) p h = omega (arith, misread_same h)
later_place before at (line l ls) p h = go (line_good l) h (later_place (before ++ link_of l ∷ []) (at + length l + 1) ls p)
  where
    go : (t : Bool) → cond t (log_from (before ++ link_of l ∷ []) (at + length l + 1) ls) (misread at) ≡ misread p
        → (log_from (before ++ link_of l ∷ []) (at + length l + 1) ls ≡ misread p → at + length l + 1 ≤ p) → at ≤ p
    go true k later = omega (arith, later k)
    go false k later = omega (arith, misread_same k)

-- links that are read stay
later_links : (before : List Link) (at : ℕ) (ls : Lines) (out : List Link) → log_from before at ls ≡ read out → (more : List Link) × (out ≡ before ++ more)
unfolding log_from
later_links before at (rest []) out h = ([], sym (read_same h) ∙ sym (append-nil before))
later_links before at (rest (b ∷ bs)) out h = absurd (misread_not_read h)
later_links before at (line l ls) out h = go (line_good l) h (later_links (before ++ link_of l ∷ []) (at + length l + 1) ls out)
  where
    go : (t : Bool) → cond t (log_from (before ++ link_of l ∷ []) (at + length l + 1) ls) (misread at) ≡ read out
        → (log_from (before ++ link_of l ∷ []) (at + length l + 1) ls ≡ read out → (more : List Link) × (out ≡ (before ++ link_of l ∷ []) ++ more))
        → (more : List Link) × (out ≡ before ++ more)
    go true k later = let x = later k in (link_of l ∷ x.0, x.1 ∙ append_assoc before (link_of l ∷ []) x.0)
    go false k later = absurd (misread_not_read k)

-- ---- both readings

-- what gathering a name's times comes to, by what the log is read as here
abbrev pub Alike : List ℕ → LogRead → Gathered → Type 0
Alike name (read ls) g =
    ((links_of name ls ≤ 128) × (g ≡ gathered (ticks_of name ls))) ⊎ ((128 < links_of name ls) × ((q : ℕ) × (g ≡ G.misread 12 q)))
Alike name (misread p) g = (g ≡ G.misread 11 p) ⊎ ((q : ℕ) × (q < p) × (g ≡ G.misread 12 q))

-- one line, of both
module _ (before : List Link) (at : ℕ) (l : List ℕ) (ls : Lines) where
  pub log_bad : line_good l ≡ false → log_from before at (line l ls) ≡ misread at
  unfolding log_from
  log_bad e = rw e refl

  log_good : line_good l ≡ true → log_from before at (line l ls) ≡ log_from (before ++ link_of l ∷ []) (at + length l + 1) ls
  unfolding log_from
  log_good e = rw e refl

module _ (name times : List ℕ) (at : ℕ) (l : List ℕ) (ls : Lines) where
  gather_bad : line_good l ≡ false → gather_from name times at (line l ls) ≡ G.misread 11 at
  unfolding gather_from take_line
  gather_bad e = let taken : take_line name times at l ≡ G.misread 11 at = rw e refl in rw (taken, gather_from) refl

  module _ (good : line_good l ≡ true) where
    gather_other : same (name_in l) name ≡ false → gather_from name times at (line l ls) ≡ gather_from name times (at + length l + 1) ls
    unfolding gather_from take_line
    gather_other e = let taken : take_line name times at l ≡ gathered times = rw (good, e) refl in rw (taken, gather_from) refl

    gather_own : same (name_in l) name ≡ true → ltb (length times) max_count ≡ true
        → gather_from name times at (line l ls) ≡ gather_from name (times ++ ticks_in l ∷ []) (at + length l + 1) ls
    unfolding gather_from take_line
    gather_own e f =
        let taken : take_line name times at l ≡ gathered (times ++ ticks_in l ∷ []) = rw (good, e, f) refl in rw (taken, gather_from) refl

    gather_many : same (name_in l) name ≡ true → ltb (length times) max_count ≡ false → gather_from name times at (line l ls) ≡ G.misread 12 at
    unfolding gather_from take_line
    gather_many e f = let taken : take_line name times at l ≡ G.misread 12 at = rw (good, e, f) refl in rw (taken, gather_from) refl

module _ (name : List ℕ) (before : List Link) (l : List ℕ) where
  ticks_own : same (name_in l) name ≡ true → ticks_of name (before ++ link_of l ∷ []) ≡ ticks_of name before ++ ticks_in l ∷ []
  unfolding ticks_of link_of
  ticks_own e = ticks_append name before (link_of l ∷ []) ∙ ap (λ (x : List ℕ). ticks_of name before ++ x) (rw e refl)

  ticks_other : same (name_in l) name ≡ false → ticks_of name (before ++ link_of l ∷ []) ≡ ticks_of name before
  unfolding ticks_of link_of
  ticks_other e =
      ticks_append name before (link_of l ∷ []) ∙ ap (λ (x : List ℕ). ticks_of name before ++ x) (rw e refl) ∙ append-nil (ticks_of name before)

-- past the name's 128th line, gathering is refused by 12 whatever follows, and the log has more lines of the name or is refused later
many_alike : (name : List ℕ) (before : List Link) (at : ℕ) (ls : Lines) (q : ℕ) → 128 < links_of name before → q < at
    → Alike name (log_from before at ls) (G.misread 12 q)
many_alike name before at ls q many less = go (log_from before at ls) refl
  where
    go : (r : LogRead) → log_from before at ls ≡ r → Alike name r (G.misread 12 q)
    go (read out) e =
        let x = later_links before at ls out e in
        let n : length (ticks_of name out) ≡ length (ticks_of name before) + length (ticks_of name x.0) =
        ap (λ (ks : List Link). length (ticks_of name ks)) x.1
        ∙ ap length (ticks_append name before x.0) ∙ length-append (ticks_of name before) (ticks_of name x.0) in
        inr (omega (arith, n, ticks_length name out, ticks_length name before), (q, refl))
    go (misread p) e = inr (q, omega (arith, later_place before at ls p e), refl)

alike_from : (name : List ℕ) (before : List Link) (at : ℕ) (ls : Lines) → links_of name before ≤ 128
    → Alike name (log_from before at ls) (gather_from name (ticks_of name before) at ls)
alike_from name before at (rest []) few = unfold log_from gather_from in inl (few, refl)
alike_from name before at (rest (b ∷ bs)) few = unfold log_from gather_from in inl refl
alike_from name before at (line l ls) few =
    by_line (line_good l) refl (same (name_in l) name) refl (ltb (length (ticks_of name before)) max_count) refl
    (alike_from name (before ++ link_of l ∷ []) (at + length l + 1) ls)
  where
    next : List Link
    next = before ++ link_of l ∷ []

    by_line : (t : Bool) → line_good l ≡ t → (s : Bool) → same (name_in l) name ≡ s → (u : Bool) → ltb (length (ticks_of name before)) max_count ≡ u
        → (links_of name next ≤ 128 → Alike name (log_from next (at + length l + 1) ls) (gather_from name (ticks_of name next) (at + length l + 1) ls))
        → Alike name (log_from before at (line l ls)) (gather_from name (ticks_of name before) at (line l ls))
    by_line false g s e u f later = rw (log_bad before at l ls g, gather_bad name (ticks_of name before) at l ls g) (inl refl)
    by_line true g false e u f later =
        let k : ticks_of name next ≡ ticks_of name before = ticks_other name before l e in
        rw (log_good before at l ls g, gather_other name (ticks_of name before) at l ls g e)
        (rw k at (later (omega (arith, ticks_length name next, ticks_length name before, ap length k))))
    by_line true g true e true f later =
        let k : ticks_of name next ≡ ticks_of name before ++ ticks_in l ∷ [] = ticks_own name before l e in
        let n : length (ticks_of name next) ≡ length (ticks_of name before) + 1 = ap length k ∙ length-append (ticks_of name before) (ticks_in l ∷ []) in
        rw (log_good before at l ls g, gather_own name (ticks_of name before) at l ls g e f)
        (rw k at (later (omega (arith, ticks_length name next, n, ltb-true (length (ticks_of name before)) max_count f))))
    by_line true g true e false f later =
        let k : ticks_of name next ≡ ticks_of name before ++ ticks_in l ∷ [] = ticks_own name before l e in
        let n : length (ticks_of name next) ≡ length (ticks_of name before) + 1 = ap length k ∙ length-append (ticks_of name before) (ticks_in l ∷ []) in
        rw (log_good before at l ls g, gather_many name (ticks_of name before) at l ls g e f)
        (many_alike name next (at + length l + 1) ls at
        (omega (arith, n, ticks_length name next, ltb-false (length (ticks_of name before)) max_count f)) (omega arith))

-- THE TIE: a log is read alike here and where the times of any name are gathered
pub read_alike : (name log : List ℕ) → Alike name (log_of log) (gather_of name log)
unfolding log_of gather_of ticks_of
read_alike name log = alike_from name [] 0 (lines_of log) (unfold links_of tally in omega arith)

module _ (name log : List ℕ) where
  -- refused here: by 11 at the same place there, or by 12 before it
  pub unread_gathered : (p : ℕ) → log_of log ≡ misread p
      → (gather_of name log ≡ G.misread 11 p) ⊎ ((q : ℕ) × (q < p) × (gather_of name log ≡ G.misread 12 q))
  unread_gathered p h = rw h at (read_alike name log)

  -- read here: the ticks of the name's links there, where there are no more than 128
  pub read_gathered : (ls : List Link) → log_of log ≡ read ls → links_of name ls ≤ 128 → gather_of name log ≡ gathered (ticks_of name ls)
  read_gathered ls h few = go (rw h at (read_alike name log))
    where
      go : Alike name (read ls) (gather_of name log) → gather_of name log ≡ gathered (ticks_of name ls)
      go (inl x) = x.1
      go (inr x) = absurd (omega (arith, x.0))

  -- refused there by 11: here at the same place
  pub gathered_unread : (p : ℕ) → gather_of name log ≡ G.misread 11 p → log_of log ≡ misread p
  gathered_unread p h = go (log_of log) (read_alike name log)
    where
      go : (r : LogRead) → Alike name r (gather_of name log) → r ≡ misread p
      go (read ls) (inl x) = let e = x.1 in let z : ◌≡◌ {A = ℕ} 0 1 = cc in absurd (omega arith)
      go (read ls) (inr x) = let e = x.1.1 in let z : ◌≡◌ {A = ℕ} 11 12 = cc in absurd (omega arith)
      go (misread k) (inl x) = let e : k ≡ p = cc in ap misread e
      go (misread k) (inr x) = let e = x.2 in let z : ◌≡◌ {A = ℕ} 11 12 = cc in absurd (omega arith)

-- ---- the place

no_name : name_good [] ≡ true → ⊥
unfolding name_good in_range
no_name h = let z : ◌≡◌ {A = ℕ} 0 1 = cc in omega arith

-- no good line has an empty name
unnamed : (ls : List LogLine) → GoodLines ls → ticks_for [] ls ≡ []
unfolding ticks_for
unnamed [] g = refl
unnamed (l ∷ ls) g = go (same l.name []) refl (unnamed ls g.1)
  where
    go : (t : Bool) → same l.name [] ≡ t → ticks_for [] ls ≡ [] → cond t (decimal_from 0 l.digits ∷ ticks_for [] ls) (ticks_for [] ls) ≡ []
    go false e ih = ih
    go true e ih = absurd (no_name (rw (same_lists l.name [] e) at g.0.name))

never_many : (log : List ℕ) (q : ℕ) → gather_of [] log ≡ G.misread 12 q → ⊥
never_many log q h = go (log_refused [] log 12 q h)
  where
    go : RefusedAt [] [] log 0 12 q → ⊥
    go r = ⊎_elim (λ e. omega (arith, e)) (λ e. omega (arith, e.1, ap length (unnamed r.lines r.good))) r.number

-- 11 stands behind good lines, with bytes left from that place on
pub unread_behind : (log : List ℕ) (p : ℕ) → log_of log ≡ misread p → RefusedAt [] [] log 0 11 p
unread_behind log p h =
    log_refused [] log 11 p (⊎_elim (λ e. e) (λ x. absurd (never_many log x.0 x.2)) (unread_gathered [] log p h))

module _ (ls : List LogLine) (good : GoodLines ls) where
  few : length (ticks_for [] ls) ≤ max_count
  few = omega (arith, ap length (unnamed ls good))

  -- behind good lines, a line that is none is 11 at its first byte
  pub unread_line : (l bs : List ℕ) → NoNewline l → line_good l ≡ false → log_of (log_bytes ls ++ (l ++ newline ∷ bs)) ≡ misread (length (log_bytes ls))
  unread_line l bs clean bad = gathered_unread [] _ _ (log_bad_line [] ls good few l bs clean bad)

  -- and so is a last line without its newline
  pub unread_end : (b : ℕ) (l : List ℕ) → NoNewline (b ∷ l) → log_of (log_bytes ls ++ b ∷ l) ≡ misread (length (log_bytes ls))
  unread_end b l clean = gathered_unread [] _ _ (log_no_newline [] ls good few b l clean)
