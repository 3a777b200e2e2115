-- The plain reader: where a reader finds an answer it finds the same one, and what it finds by the counts of sections alone.
-- Assumes nothing.
use mathlib.Core.Path.{◌≡◌, refl, sym, ap, ◌∙◌}
use Prim.Native.Nat.{ℕ, zero, suc, ◌+◌, ◌*◌, ◌-◌, ◌≤◌, ◌<◌}
use mathlib.Core.List.{List, [], ◌∷◌, ◌++◌, append-nil}
use native.Mathlib.Omega.{arith}
use native.Mathlib.Nat.{suc-mul, zero-mul, add-zero}
use lib.ListN.{length, take, drop}
use lib.Seq.{append_snoc}
use Rattle.facts.proofs.Orders.{by_order}
use Rattle.journal_spec.specs.Bytes.{value_of, number_at, numbers_in}
use Rattle.journal_spec.specs.Reader.{Reader, done, field, found, short, run, then}
use Rattle.journal_spec.specs.Section.{Section, items, section}
use Rattle.journal_spec.proofs.Reading.{field_short, field_good, field_found, after}
use Rattle.journal_spec.proofs.FieldAt.{at_short, at_good}
use Rattle.journal_parts.specs.Plain.{unjudged}

-- ---- for every reader

-- where a reader finds an answer, the plain one finds the same
pub plain_finds : {A : Type 0} (r : Reader A) (at : ℕ) (bs : List ℕ) (a : A) (e : ℕ) (rest : List ℕ)
    → run r at bs ≡ found a e rest → run (unjudged r) at bs ≡ found a e rest
unfolding run unjudged
plain_finds (done b) at bs a e rest h = h
plain_finds (field w refusal next) at bs a e rest h =
    let f = field_found w refusal next at bs a e rest h in
    field_good w (λ v. 0) (λ v. unjudged (next v)) at bs f.enough refl
    ∙ plain_finds (next (value_of (take w bs))) (at + w) (drop w bs) a e rest f.goes

-- one plain reader after another
pub plain_then : {A B : Type 0} (r : Reader A) (k : A → Reader B) (at : ℕ) (bs : List ℕ)
    → run (unjudged (then r k)) at bs ≡ after (λ a. unjudged (k a)) (run (unjudged r) at bs)
unfolding run unjudged then after
plain_then (done a) k at bs = refl
plain_then (field w refusal next) k at bs =
    by_order w (length bs)
    (λ enough.
    field_good w (λ v. 0) (λ v. unjudged (then (next v) k)) at bs enough refl
    ∙ plain_then (next (value_of (take w bs))) k (at + w) (drop w bs)
    ∙ ap (after (λ a. unjudged (k a))) (sym (field_good w (λ v. 0) (λ v. unjudged (next v)) at bs enough refl)))
    (λ few.
    field_short w (λ v. 0) (λ v. unjudged (then (next v) k)) at bs few
    ∙ ap (after (λ a. unjudged (k a))) (sym (field_short w (λ v. 0) (λ v. unjudged (next v)) at bs few)))

-- ---- numbers at a place

module _ (w : ℕ) (item : List ℕ → ℕ → ℕ) (b : List ℕ) where
  pub items_stand : (n : ℕ) (before : List ℕ) (at : ℕ) → at + n * w ≤ length b
      → run (unjudged (items w item n before)) at (drop at b) ≡ found (before ++ numbers_in w n at b) (at + n * w) (drop (at + n * w) b)
  unfolding run unjudged items numbers_in
  items_stand zero before at h = rw (append-nil, zero-mul, add-zero) refl
  items_stand (suc n) before at h =
      let more : suc n * w ≡ w + n * w = rw (suc-mul n w) (omega arith) in
      let next : at + suc n * w ≡ at + w + n * w = omega arith in
      at_good w (λ v. 0) (λ x. unjudged (items w item n (before ++ x ∷ []))) at b (omega arith) refl
      ∙ items_stand n (before ++ number_at w at b ∷ []) (at + w) (omega arith)
      ∙ rw (append_snoc, ← next) refl

  pub items_short : (n : ℕ) (before : List ℕ) (at : ℕ) → at ≤ length b → length b < at + n * w
      → run (unjudged (items w item n before)) at (drop at b) ≡ short
  unfolding run unjudged items
  items_short zero before at h k = absurd (omega (arith, zero-mul w))
  items_short (suc n) before at h k =
      let more : suc n * w ≡ w + n * w = rw (suc-mul n w) (omega arith) in
      by_order w (length b - at)
      (λ enough.
      at_good w (λ v. 0) (λ x. unjudged (items w item n (before ++ x ∷ []))) at b enough refl
      ∙ items_short n (before ++ number_at w at b ∷ []) (at + w) (omega arith) (omega arith))
      (λ few. at_short w (λ v. 0) (λ x. unjudged (items w item n (before ++ x ∷ []))) at b few)

-- ---- a section at a place

module _ (s : Section) (at : ℕ) (b : List ℕ) where
  pub section_stands : at + 2 + number_at 2 at b * s.width ≤ length b
      → run (unjudged (section s)) at (drop at b)
      ≡ found (numbers_in s.width (number_at 2 at b) (at + 2) b) (at + 2 + number_at 2 at b * s.width)
      (drop (at + 2 + number_at 2 at b * s.width) b)
  unfolding unjudged section
  section_stands h =
      at_good 2 (λ v. 0) (λ n. unjudged (items s.width s.item n [])) at b (omega arith) refl
      ∙ items_stand s.width s.item b (number_at 2 at b) [] (at + 2) h

  pub section_short : at ≤ length b → length b < at + 2 + number_at 2 at b * s.width → run (unjudged (section s)) at (drop at b) ≡ short
  unfolding unjudged section
  section_short h k =
      by_order 2 (length b - at)
      (λ enough.
      at_good 2 (λ v. 0) (λ n. unjudged (items s.width s.item n [])) at b enough refl
      ∙ items_short s.width s.item b (number_at 2 at b) [] (at + 2) (omega arith) k)
      (λ few. at_short 2 (λ v. 0) (λ n. unjudged (items s.width s.item n [])) at b few)
