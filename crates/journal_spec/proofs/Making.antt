-- Request 2026-08, of making an index afresh and of checking one, for every journal: they decline as scan does, with its number and place; then
-- making answers the index's length and puts it in front, or declines by 15, and checking says whether it stands in front. Declined, no byte of
-- the buffer is written. Assumes nothing.
use mathlib.Core.Path.{◌≡◌, refl, sym, ◌∙◌}
use mathlib.Core.Logic.{◌⊎◌, inl, inr, ◌↔◌}
use Prim.Native.Nat.{ℕ, zero, suc, ◌≤◌, ◌<◌}
use mathlib.Core.List.{List, ◌++◌}
use mathlib.Core.Bool.{Bool, true, false, cond}
use native.Mathlib.Omega.{arith}
use lib.ListN.{length, take, drop}
use borrow.Author.Tests.{le-leb, lt-leb}
use Rattle.journal_spec.specs.Bytes.{AreBytes}
use Rattle.journal_spec.specs.Tests.{same}
use Rattle.journal_spec.specs.Profile.{plain}
use Rattle.journal_spec.specs.Scan.{Contents, standing, faulty, contents_of, status_of, scan_of}
use Rattle.journal_spec.specs.Scan as S
use Rattle.journal_spec.specs.Index.{IndexEntry, index_bytes, in_front, index_of, fresh_index}
use Rattle.journal_spec.specs.Request.{Journal}
use Rattle.journal_spec.specs.Append.{judge_index_room}
use Rattle.journal_spec.specs.MakeIndex.{made, declined, damaged, make_unless, make_from, make_index_of}
use Rattle.journal_spec.specs.CheckIndex.{own, check_from, check_index_of}
use Rattle.journal_spec.specs.CheckIndex as Check
use Rattle.journal_spec.specs.Model.{Model, committed_of, break_of}
use Rattle.journal_spec.proofs.Each.{same_lists, same_self}
use Rattle.journal_spec.proofs.Refused.{faulty_said}
use Rattle.journal_spec.proofs.Scanning.{unless_broken, plain_keeps}
use Rattle.journal_spec.proofs.Places.{placed_from}
use Rattle.journal_spec.proofs.Placing.{lengths_are}
use Rattle.journal_spec.proofs.Indexes.{same_index}
use Rattle.journal_spec.proofs.Explained.{Holding, holding, tail_length}
use Rattle.journal_spec.proofs.Demand.{Holds, held}
use Rattle.journal_spec.proofs.IndexAfter.{model_made, makes}

-- ---- a damaged journal

module _ (j : Journal) (b : List ℕ) where
  abbrev scanned : S.ScanResult
  scanned = scan_of plain j.slice j.len

  -- making declines as scan does, with its number and place, and writes nothing
  pub make_damaged : (n p : ℕ) → scanned ≡ S.damaged n p → make_index_of j b ≡ record { answer = damaged n p; buffer = b }
  unfolding make_index_of make_from scan_of
  make_damaged n p h = rw (faulty_said j.len (contents_of plain j.slice j.len) n p h) refl

  -- and only then says damaged
  pub make_only_damaged : (n p : ℕ) → (make_index_of j b).answer ≡ damaged n p → scanned ≡ S.damaged n p
  unfolding make_index_of scan_of
  make_only_damaged n p h = go (contents_of plain j.slice j.len) h
    where
      unless_damaged : (m : ℕ) (es : List IndexEntry) → (make_unless m es b).answer ≡ damaged n p → ⊥
      unless_damaged zero es h = unfold make_unless in let z : ◌≡◌ {A = ℕ} 0 1 = cc in omega arith
      unless_damaged (suc m) es h = unfold make_unless in let z : ◌≡◌ {A = ℕ} 0 1 = cc in omega arith

      go : (x : Contents) → (make_from x b).answer ≡ damaged n p → status_of j.len x ≡ S.damaged n p
      go (standing ps committed) h = unfold make_from in absurd (unless_damaged (judge_index_room (index_of ps) b) (index_of ps) h)
      go (faulty m q) h =
          unfold make_from status_of in
          let a : m ≡ n = cc in
          let c : q ≡ p = cc in
          rw (a, c) refl

  -- where no index is made, no byte of the buffer is written
  pub make_refused : ((n : ℕ) → (make_index_of j b).answer ≡ made n → ⊥) → (make_index_of j b).buffer ≡ b
  unfolding make_index_of
  make_refused other = go (contents_of plain j.slice j.len) other
    where
      unless_made : (m : ℕ) (es : List IndexEntry) → ((n : ℕ) → (make_unless m es b).answer ≡ made n → ⊥) → (make_unless m es b).buffer ≡ b
      unless_made zero es other = unfold make_unless in absurd (other _ refl)
      unless_made (suc m) es other = unfold make_unless in refl

      go : (x : Contents) → ((n : ℕ) → (make_from x b).answer ≡ made n → ⊥) → (make_from x b).buffer ≡ b
      go (standing ps committed) other = unfold make_from in unless_made (judge_index_room (index_of ps) b) (index_of ps) other
      go (faulty m q) other = unfold make_from in refl

  -- checking declines as scan does
  pub check_damaged : (n p : ℕ) → scanned ≡ S.damaged n p → check_index_of j b ≡ Check.damaged n p
  unfolding check_index_of check_from scan_of
  check_damaged n p h = rw (faulty_said j.len (contents_of plain j.slice j.len) n p h) refl

-- ---- a journal that stands

-- every journal of bytes that scan does not say damaged of holds what some model says: records, and a torn tail
pub damaged_or_holds : (j : Journal) → AreBytes j.slice
    → ((n : ℕ) × (p : ℕ) × (scan_of plain j.slice j.len ≡ S.damaged n p)) ⊎ ((m : Model) × Holds (length j.slice) j m)
unfolding scan_of committed_of
damaged_or_holds j bytes = go (contents_of plain j.slice j.len) refl
  where
    go : (x : Contents) → contents_of plain j.slice j.len ≡ x
        → ((n : ℕ) × (p : ℕ) × (status_of j.len (contents_of plain j.slice j.len) ≡ S.damaged n p)) ⊎ ((m : Model) × Holds (length j.slice) j m)
    go (faulty n p) e = inl (n, p, rw e (unfold status_of in refl))
    go (standing ps committed) e =
        let h : Holding j.slice j.len ps committed = holding j.slice j.len ps committed bytes e in
        inr (
          record { records = h.records; tail = h.tail },
          record {
            slice = refl;
            len = unfold committed_of in omega (arith, tail_length j.slice j.len ps committed h, h.upto, lengths_are h.records);
            fits = h.fits;
            most = h.most;
            bytes = h.bytes;
            follow = h.follow;
            torn = h.torn;
          },
        )

module _ (room : ℕ) (j : Journal) (m : Model) (h : Holds room j m) (b : List ℕ) where
  -- the index of the records that stand, made afresh
  abbrev now : List ℕ
  now = index_bytes (fresh_index m.records)

  -- there is room: its length is answered, it stands in front, and every byte beyond it is as it was
  pub made_in_front : length now ≤ length b → make_index_of j b ≡ record { answer = made (length now); buffer = now ++ drop (length now) b }
  unfolding model_made
  made_in_front k = makes room j m h b ∙ rw (le-leb (length now) (length b) k) refl

  -- there is none: 15, and every byte is as it was
  pub made_short : length b < length now → make_index_of j b ≡ record { answer = declined 15; buffer = b }
  unfolding model_made
  made_short k = makes room j m h b ∙ rw (lt-leb (length now) (length b) k) refl

  checks : check_index_of j b ≡ cond (in_front now b) own (Check.declined 14)
  unfolding check_index_of break_of
  checks =
      let stands : contents_of plain j.slice j.len ≡ standing (placed_from 0 m.records) (committed_of m) =
      held room j m h plain ∙ rw (plain_keeps 0 m.records) (unfold unless_broken in refl) in
      rw stands (unfold check_from in rw (same_index m.records) refl)

  -- the buffer begins with it exactly where checking says so
  pub own_exactly : (check_index_of j b ≡ own) ↔ (take (length now) b ≡ now)
  unfolding in_front
  own_exactly = (λ e. by_test_lem (same (take (length now) b) now) refl (sym checks ∙ e), λ e. checks ∙ rw (e, same_self now) refl)
    where
      by_test_lem : (t : Bool) → same (take (length now) b) now ≡ t → cond t own (Check.declined 14) ≡ own → take (length now) b ≡ now
      by_test_lem true s e = same_lists (take (length now) b) now s
      by_test_lem false s e = let z : ◌≡◌ {A = ℕ} 0 1 = cc in absurd (omega arith)

  -- and is declined, by 14, exactly where it does not
  pub not_own_exactly : (n : ℕ) → (check_index_of j b ≡ Check.declined n) ↔ ((n ≡ 14) × (take (length now) b ≡ now → ⊥))
  unfolding in_front
  not_own_exactly n = (
    λ e. (number (in_front now b) (sym checks ∙ e), λ f. let g = own_exactly.1 f in let z : ◌≡◌ {A = ℕ} 0 1 = cc in omega arith),
    λ d. rw d.0 (by_test_lem (same (take (length now) b) now) refl d.1),
  )
    where
      number : (t : Bool) → cond t own (Check.declined 14) ≡ Check.declined n → n ≡ 14
      number true e = let z : ◌≡◌ {A = ℕ} 0 1 = cc in absurd (omega arith)
      number false e = cc

      by_test_lem : (t : Bool) → same (take (length now) b) now ≡ t → (take (length now) b ≡ now → ⊥) → check_index_of j b ≡ Check.declined 14
      by_test_lem true s f = absurd (f (same_lists (take (length now) b) now s))
      by_test_lem false s f = checks ∙ rw s refl
