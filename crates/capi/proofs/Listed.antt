-- The lines 0, 1, 2 and so on, end to end, are the listing, once there are more calls than records: none is left out, twice or out of turn.
-- Assumes nothing.
use mathlib.Core.Path.{◌≡◌, refl, sym, ap, ◌∙◌}
use mathlib.Core.Bool.{Bool, true, false, cond}
use Prim.Native.Nat.{ℕ, zero, suc, ◌<◌}
use mathlib.Core.List.{List, [], ◌∷◌, ◌++◌}
use native.Mathlib.Omega.{arith}
use lib.ListN.{length, length-append}
use Rattle.journal_spec.specs.Bytes.{AreBytes}
use Rattle.journal_spec.specs.Reader.{Found, found, fault, short}
use Rattle.journal_spec.specs.Record.{Record}
use Rattle.journal_spec.specs.Profile.{plain}
use Rattle.journal_spec.specs.Log.{newline}
use Rattle.journal_spec.specs.Scan.{ScanResult, whole, torn, damaged, scan_of}
use Rattle.journal_listing.specs.Listing.{spaced, line_of, record_line, state_line, listing_of}
use Rattle.journal_parts.specs.Plain.{plain_record_at}
use Rattle.journal_listing.specs.Lines.{Position, listed_of, start_of, end_of, no_line, record_step, step_by, step, onward, lines_from}
use Rattle.journal_listing.proofs.LinesJoined.{lines_joined}
use Rattle.capi.specs.Line.{position_after, line_at, calls_from}

-- ---- a call without a line ends the listing

line_some : (ws : List (List ℕ)) → line_of ws ≡ [] → ⊥
unfolding line_of
line_some ws e = let h = ap length e in let k = length-append (spaced ws) (newline ∷ []) in omega (arith, h, k)

record_some : (r : Record) → record_line r ≡ [] → ⊥
unfolding record_line
record_some r e = line_some _ e

state_some : (s : ScanResult) → state_line s ≡ [] → ⊥
unfolding state_line
state_some (whole n c) e = line_some _ e
state_some (torn n c) e = line_some _ e
state_some (damaged n p) e = line_some _ e

found_ends : (p : Position) (left : ℕ) (f : Found Record) → (record_step p left f).text ≡ [] → (record_step p left f).position.ended ≡ true
unfolding record_step no_line end_of
found_ends p left (found r next rest) e = absurd (record_some r e)
found_ends p left (fault n place) e = refl
found_ends p left short e = refl

step_ends : (p : Position) (b : List ℕ) → (step p b).text ≡ [] → (step p b).position.ended ≡ true
unfolding step
step_ends p b e = go p.ended e
  where
    by_left : (left : ℕ) → (step_by left p b).text ≡ [] → (step_by left p b).position.ended ≡ true
    by_left zero k = unfold step_by in absurd (state_some p.state k)
    by_left (suc left) k = unfold step_by in found_ends p left (plain_record_at p.at b) k

    go : (t : Bool) → (cond t (no_line p) (step_by p.left p b)).text ≡ [] → (cond t (no_line p) (step_by p.left p b)).position.ended ≡ true
    go true k = unfold no_line end_of in refl
    go false k = by_left p.left k

-- ---- the calls one after another

after_last : (i : ℕ) (p : Position) (b : List ℕ) → position_after (suc i) p b ≡ (step (position_after i p b) b).position
unfolding position_after
after_last zero p b = refl
after_last (suc i) p b = after_last i (step p b).position b

none_from : (n : ℕ) (p : Position) (b : List ℕ) → p.ended ≡ true → lines_from n p b ≡ []
unfolding lines_from step no_line onward
none_from zero p b e = refl
none_from (suc n) p b e = rw e refl

onward_is : (text rest : List ℕ) → (text ≡ [] → rest ≡ []) → onward text rest ≡ text ++ rest
unfolding onward
onward_is [] rest h = sym (h refl)
onward_is (x ∷ xs) rest h = refl

module _ (b : List ℕ) where
  calls_lines : (n i : ℕ) → calls_from n i b ≡ lines_from n (position_after i (start_of plain b) b) b
  unfolding calls_from lines_from line_at
  calls_lines zero i = refl
  calls_lines (suc n) i =
      let p : Position = position_after i (start_of plain b) b in
      let later : calls_from n (suc i) b ≡ lines_from n (step p b).position b =
      calls_lines n (suc i) ∙ ap (λ (q : Position). lines_from n q b) (after_last i (start_of plain b) b) in
      ap (λ (rest : List ℕ). (step p b).text ++ rest) later
      ∙ sym (onward_is (step p b).text _ (λ e. none_from n (step p b).position b (step_ends p b e)))

  -- any number of calls above the number of the records listed writes the listing
  pub lines_are_listing : AreBytes b → (calls : ℕ) → listed_of (scan_of plain b (length b)) < calls → calls_from calls 0 b ≡ listing_of plain b
  unfolding position_after
  lines_are_listing a calls h = calls_lines calls 0 ∙ lines_joined plain b a calls h
