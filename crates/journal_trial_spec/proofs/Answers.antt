-- Both calls themselves, of a log, a slice with the journal's length in it and an index's buffer: each refusal exactly where its row is the first
-- that holds, 11, the survey's, 14 and, of a position, 10; and that 12 is not used. Assumes nothing.
use mathlib.Core.Path.{◌≡◌, refl, sym, ap, subst, ◌∙◌}
use mathlib.Core.Logic.{◌⊎◌, inl, inr, ⊎_elim, ◌↔◌}
use Prim.Native.Nat.{ℕ, ◌≤◌, ◌<◌}
use mathlib.Core.List.{List}
use mathlib.Core.Bool.{Bool, true, false}
use native.Mathlib.Omega.{arith}
use lib.ListN.{length, take, get_or}
use mathlib.Core.Option.{some}
use Rattle.facts.proofs.Orders.{by_order}
use Rattle.journal_spec.specs.Bytes.{AreBytes}
use Rattle.journal_spec.specs.Tests.{each}
use Rattle.journal_spec.specs.Profile.{plain}
use Rattle.journal_spec.specs.Record.{Record}
use Rattle.journal_spec.specs.Scan.{Placed, records_of, Contents, standing, faulty, contents_of, status_of, scan_of}
use Rattle.journal_spec.specs.Scan as Scan
use Rattle.journal_spec.specs.Index.{index_bytes, in_front, index_of}
use Rattle.journal_spec.proofs.Each.{same_lists, same_self}
use Rattle.journal_spec.proofs.Refused.{standing_not_damaged}
use Rattle.journal_spec.proofs.Table.{scan_never}
use Rattle.journal_trial_spec.specs.Links.{Link, LogRead, read, misread, log_of}
use Rattle.journal_trial_spec.specs.Trial.{unknown_of, trial_of, Refusal, declined_at, damaged, declined}
use Rattle.journal_trial_spec.specs.Trial.{ready, refused, ready_of, tried, untried, trial_at, entry_trial, try_entry}
use Rattle.journal_trial_spec.specs.Trial.{unknown, uncounted, unknown_count, try_unknown}
use Rattle.journal_trial_spec.proofs.Rows.{first_unread, then_damaged, then_declined, else_ready}
use Rattle.journal_spec.specs.Indexed.{last_named}
use Rattle.journal_spec.proofs.Standing.{no_entry, standing_beyond}
use Rattle.journal_trial_spec.proofs.Trials.{position_tried}

-- ---- what both calls go by

-- the log reads, with these links
pub record Reads (log : List ℕ) : Type 0 where
  pub links : List Link
  pub are : log_of log ≡ read links

-- the journal stands, with these records in their places
pub record Stands (slice : List ℕ) (len : ℕ) : Type 0 where
  pub records : List Placed
  pub committed : ℕ
  pub are : contents_of plain slice len ≡ standing records committed

-- the buffer begins with the index of the records
abbrev pub Own : List Placed → List ℕ → Type 0
Own ps index = take (length (index_bytes (index_of ps))) index ≡ index_bytes (index_of ps)

own_front : (ps : List Placed) (index : List ℕ) → Own ps index → in_front (index_bytes (index_of ps)) index ≡ true
unfolding in_front
own_front ps index h = rw h (same_self (index_bytes (index_of ps)))

front_own : (ps : List Placed) (index : List ℕ) → in_front (index_bytes (index_of ps)) index ≡ true → Own ps index
unfolding in_front
front_own ps index h = same_lists _ _ h

other_front : (ps : List Placed) (index : List ℕ) → (Own ps index → ⊥) → in_front (index_bytes (index_of ps)) index ≡ false
other_front ps index h = go (in_front (index_bytes (index_of ps)) index) refl
  where
    go : (t : Bool) → in_front (index_bytes (index_of ps)) index ≡ t → t ≡ false
    go true e = absurd (h (front_own ps index e))
    go false e = refl

-- scan says damaged exactly of what is faulty
pub fault_scanned : (slice : List ℕ) (len n p : ℕ) → (scan_of plain slice len ≡ Scan.damaged n p) ↔ (contents_of plain slice len ≡ faulty n p)
unfolding scan_of
fault_scanned slice len n p = (λ h. go (contents_of plain slice len) h, λ h. rw h (unfold status_of in refl))
  where
    go : (c : Contents) → status_of len c ≡ Scan.damaged n p → c ≡ faulty n p
    go (standing ps committed) h = absurd (standing_not_damaged len ps committed n p h)
    go (faulty m q) h = said (unfold status_of in h)
      where
        said : Scan.damaged m q ≡ Scan.damaged n p → faulty m q ≡ faulty n p
        said e = cc

-- ---- the rows of both calls

module _ (log slice : List ℕ) (len : ℕ) (index : List ℕ) where
  -- where each refusal is due: 11; then the survey's; then 14
  abbrev pub Due : Refusal → Type 0
  Due (declined_at n p) = (n ≡ 11) × (log_of log ≡ misread p)
  Due (damaged n p) = Reads log × (scan_of plain slice len ≡ Scan.damaged n p)
  Due (declined n) = (n ≡ 14) × Reads log × ((s : Stands slice len) × (Own s.records index → ⊥))

  -- or none: the log reads, the journal stands, and the index is its own
  pub record Unrefused : Type 0 where
    pub reads : Reads log
    pub stands : Stands slice len
    pub own : Own stands.records index

  -- by the rows, and by nothing else
  ready_refused : (r : Refusal) → Due r → ready_of (log_of log) (contents_of plain slice len) index ≡ refused r
  ready_refused (declined_at n p) d = rw (d.0, d.1) (first_unread index p (contents_of plain slice len))
  ready_refused (damaged n p) d = rw (d.0.are, (fault_scanned slice len n p).0 d.1) (then_damaged index d.0.links n p)
  ready_refused (declined n) d =
      rw (d.0, d.1.are, d.2.0.are) (then_declined index d.1.links d.2.0.records d.2.0.committed (other_front _ index d.2.1))

  ready_there : (u : Unrefused) → ready_of (log_of log) (contents_of plain slice len) index ≡ ready u.reads.links u.stands.records
  ready_there u =
      rw (u.reads.are, u.stands.are) (else_ready index u.reads.links u.stands.records u.stands.committed (own_front _ index u.own))

  decided : Unrefused ⊎ ((r : Refusal) × Due r)
  decided = by_log_lem (log_of log) refl (contents_of plain slice len) refl
    where
      by_front : (ls : List Link) → log_of log ≡ read ls → (ps : List Placed) (committed : ℕ) → contents_of plain slice len ≡ standing ps committed
          → (t : Bool) → in_front (index_bytes (index_of ps)) index ≡ t → Unrefused ⊎ ((r : Refusal) × Due r)
      by_front ls e ps committed f true g =
          inl (record {
            reads = record { links = ls; are = e };
            stands = record { records = ps; committed = committed; are = f };
            own = front_own ps index g;
          })
      by_front ls e ps committed f false g =
          inr (
            declined 14,
            (
              refl,
              record { links = ls; are = e },
              (
                record { records = ps; committed = committed; are = f },
                λ o. let a : true ≡ false = sym (own_front ps index o) ∙ g in let z : ◌≡◌ {A = ℕ} 0 1 = cc in omega arith,
              ),
            ),
          )

      by_log_lem : (l : LogRead) → log_of log ≡ l → (c : Contents) → contents_of plain slice len ≡ c → Unrefused ⊎ ((r : Refusal) × Due r)
      by_log_lem (misread p) e c f = inr (declined_at 11 p, (refl, e))
      by_log_lem (read ls) e (faulty n p) f = inr (damaged n p, (record { links = ls; are = e }, (fault_scanned slice len n p).1 f))
      by_log_lem (read ls) e (standing ps committed) f = by_front ls e ps committed f (in_front (index_bytes (index_of ps)) index) refl

  -- ---- the call for unknown names

  -- 11, the survey's, 14
  pub unknown_refused_lem : (r : Refusal) → Due r → try_unknown log slice len index ≡ uncounted r
  unfolding try_unknown unknown_count
  unknown_refused_lem r d = rw (ready_refused r d) refl

  -- else the lines with unknown names
  pub unknown_counted : (u : Unrefused) → try_unknown log slice len index ≡ unknown (unknown_of (index_of u.stands.records) u.reads.links)
  unfolding try_unknown unknown_count
  unknown_counted u = rw (ready_there u) refl

  -- each refusal exactly where it is due
  pub unknown_exactly : (r : Refusal) → (try_unknown log slice len index ≡ uncounted r) ↔ Due r
  unknown_exactly r = (
    λ h. ⊎_elim
        (λ u. let e = unknown_counted u in let z : ◌≡◌ {A = ℕ} 0 1 = cc in absurd (omega arith))
        (λ x. let e = unknown_refused_lem x.0 x.1 in let k : x.0 ≡ r = cc in subst Due k x.1)
        decided,
    unknown_refused_lem r,
  )

  -- ---- the call for an entry

  module _ (i : ℕ) where
    -- 11, the survey's, 14
    pub entry_refused : (r : Refusal) → Due r → try_entry log slice len index i ≡ untried r
    unfolding try_entry entry_trial
    entry_refused r d = rw (ready_refused r d) refl

    -- then 10, where the index has no such position
    pub entry_absent : (u : Unrefused) → length (index_of u.stands.records) ≤ i → try_entry log slice len index i ≡ untried (declined 10)
    unfolding try_entry entry_trial trial_at
    entry_absent u h =
        rw (ready_there u) (rw (standing_beyond (records_of u.stands.records) (index_of u.stands.records) i h) refl)

    -- else the trial of the last record of the entry's name
    abbrev pub TriedThere : Unrefused → Type 0
    TriedThere u = (leaf : Record) × (last_named (get_or (index_of u.stands.records) i no_entry).name (records_of u.stands.records) ≡ some leaf)
        × (try_entry log slice len index i ≡ tried (trial_of leaf u.reads.links))

    pub entry_tried : (u : Unrefused) → AreBytes slice → i < length (index_of u.stands.records) → TriedThere u
    entry_tried u b h =
        let t = position_tried log slice len index b u.reads.links u.stands.records (ready_there u) i h in
        (t.leaf, ap (λ (n : List ℕ). last_named n (records_of u.stands.records)) (sym t.named) ∙ t.stands, t.answer)

    -- where each refusal is due
    abbrev pub EntryDue : Refusal → Type 0
    EntryDue r = Due r ⊎ ((r ≡ declined 10) × ((u : Unrefused) × (length (index_of u.stands.records) ≤ i)))

    -- each exactly there
    pub entry_exactly : AreBytes slice → (r : Refusal) → (try_entry log slice len index i ≡ untried r) ↔ EntryDue r
    entry_exactly b r = (
      λ h. ⊎_elim
          (λ u.
          by_order (length (index_of u.stands.records)) i
          (λ k. let e = entry_absent u k in let s : r ≡ declined 10 = cc in inr (s, (u, k)))
          (λ k. let e = (entry_tried u b k).2 in let z : ◌≡◌ {A = ℕ} 0 1 = cc in absurd (omega arith)))
          (λ x. let e = entry_refused x.0 x.1 in let k : x.0 ≡ r = cc in inl (subst Due k x.1))
          decided,
      λ d. ⊎_elim (λ x. entry_refused r x) (λ x. rw x.0 (entry_absent x.1.0 x.1.1)) d,
    )

-- ---- the numbers that are not used

-- 12: not with a place in the log, not as a fault, not alone
pub record NeverTwelve (Refuses : Refusal → Type 0) : Type 0 where
  pub line : (p : ℕ) → Refuses (declined_at 12 p) → ⊥
  pub fault : (p : ℕ) → Refuses (damaged 12 p) → ⊥
  pub alone : Refuses (declined 12) → ⊥

module _ (log slice : List ℕ) (len : ℕ) (index : List ℕ) where
  pub never_twelve : AreBytes slice → (i : ℕ) → NeverTwelve (λ r. try_entry log slice len index i ≡ untried r)
  never_twelve b i = record {
    line = λ p h. ⊎_elim (λ d. omega (arith, d.0)) (λ x. let e = x.0 in let z : ◌≡◌ {A = ℕ} 0 1 = cc in omega arith) (due (declined_at 12 p) h);
    fault = λ p h. ⊎_elim (λ d. scan_never 12 (unfold each in refl) plain slice len 12 p d.1 refl)
        (λ x. let e = x.0 in let z : ◌≡◌ {A = ℕ} 0 1 = cc in omega arith) (due (damaged 12 p) h);
    alone = λ h. ⊎_elim (λ d. omega (arith, d.0)) (λ x. let e = x.0 in let z : ◌≡◌ {A = ℕ} 12 10 = cc in omega arith) (due (declined 12) h);
  }
    where
      due : (r : Refusal) → try_entry log slice len index i ≡ untried r → EntryDue log slice len index i r
      due r h = (entry_exactly log slice len index i b r).0 h

  -- nor of the call for unknown names, which has the same but 10
  pub unknown_never_twelve : NeverTwelve (λ r. try_unknown log slice len index ≡ uncounted r)
  unknown_never_twelve = record {
    line = λ p h. omega (arith, ((unknown_exactly log slice len index (declined_at 12 p)).0 h).0);
    fault = λ p h. scan_never 12 (unfold each in refl) plain slice len 12 p ((unknown_exactly log slice len index (damaged 12 p)).0 h).1 refl;
    alone = λ h. omega (arith, ((unknown_exactly log slice len index (declined 12)).0 h).0);
  }

  pub unknown_never_ten : try_unknown log slice len index ≡ uncounted (declined 10) → ⊥
  unknown_never_ten h = omega (arith, ((unknown_exactly log slice len index (declined 10)).0 h).0)
