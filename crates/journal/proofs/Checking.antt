-- The check of an offered section from the front, as code does it: the count, then one number after another, each refusal the first.
-- Assumes nothing.
use mathlib.Core.Path.{◌≡◌, refl, sym, ◌∙◌}
use Prim.Native.Nat.{ℕ, zero, suc, ◌+◌, ◌≤◌, ◌<◌}
use mathlib.Core.List.{List, [], ◌∷◌, ◌++◌}
use native.Mathlib.Omega.{arith}
use native.Mathlib.Numerals.{add-one}
use lib.ListN.{length, take, get_or}
use Rattle.std.specs.Prelude.{Err}
use Rattle.refusals.specs.declared.Refusal.{Refusal}
use Rattle.refusals.specs.Refusals.{number_of}
use lib.Seq.{take-suc}
use Rattle.limit.specs.Answer.{chance_refusal}
use Rattle.limit.specs.Limit.{max_chance}
use Rattle.journal_spec.specs.Refusals.{outside, first_of}
use Rattle.journal_spec.specs.Section.{Section, section_refusal}
use Rattle.journal_spec.specs.Record.{last_chance, chance_section}
use Rattle.journal_spec.proofs.RefusalFrom.{refusal_from, refuse_this, refuse_later, refuse_none}
use Rattle.journal_spec.proofs.SameRefusals.{last_snoc}
use Rattle.journal.specs.Told.{Judged}
use Rattle.journal.proofs.Ranges.{chance_agrees}

-- ---- the first refusal of a list

-- the first in the list is one
pub first_this : (r n : ℕ) (ns : List ℕ) → 0 < r → r ≡ n → r ≡ first_of (n ∷ ns)
unfolding first_of
first_this zero n ns h e = absurd (omega arith)
first_this (suc r) n ns h e = rw (← e) refl

-- it is none
pub first_later : (n : ℕ) (ns : List ℕ) → n ≡ 0 → first_of (n ∷ ns) ≡ first_of ns
unfolding first_of
first_later n ns e = rw e refl

pub first_alone : (n : ℕ) → first_of (n ∷ []) ≡ n
unfolding first_of
first_alone zero = refl
first_alone (suc n) = refl

-- rows in front of others: their refusal is the first, and where they refuse nothing the others decide
pub first_front : (r : ℕ) (ns ms : List ℕ) → 0 < r → r ≡ first_of ns → r ≡ first_of (ns ++ ms)
unfolding first_of
first_front r [] ms h e = absurd (omega arith)
first_front r (zero ∷ ns) ms h e = first_front r ns ms h e
first_front r (suc n ∷ ns) ms h e = e

pub first_back : (ns ms : List ℕ) → first_of ns ≡ 0 → first_of (ns ++ ms) ≡ first_of ms
unfolding first_of
first_back [] ms e = refl
first_back (zero ∷ ns) ms e = first_back ns ms e
first_back (suc n ∷ ns) ms e = absurd (omega arith)

-- ---- a section

-- the numbers before the i-th are not refused, and neither is the count
abbrev pub Passed : Section → List ℕ → ℕ → Type 0
Passed s xs i = section_refusal s xs ≡ refusal_from s.item xs i

module _ (s : Section) (xs : List ℕ) where
  count_refused : (r : ℕ) → 0 < r → r ≡ s.count (length xs) → r ≡ section_refusal s xs
  unfolding section_refusal
  count_refused r h e = first_this r (s.count (length xs)) _ h e

  pub count_judged : (r : Refusal) → Judged {A = Unit {0}} (Err r) (s.count (length xs)) → Judged {A = Unit {0}} (Err r) (section_refusal s xs)
  count_judged r j =
      let e = count_refused (number_of r) (omega (arith, j.0, j.1)) j.0 in
      (e, omega (arith, e, j.0, j.1))

  pub count_passed : s.count (length xs) ≡ 0 → Passed s xs 0
  unfolding section_refusal refusal_from
  count_passed e = first_later (s.count (length xs)) _ e ∙ first_alone _

  module _ (i : ℕ) (g : Passed s xs i) where
    number_refused : (r : ℕ) → 0 < r → i < length xs → r ≡ s.item (take i xs) (get_or xs i 0) → r ≡ section_refusal s xs
    number_refused zero h l e = absurd (omega arith)
    number_refused (suc r) h l e = sym (g ∙ refuse_this s.item xs i r l (sym e))

    pub number_judged : (r : Refusal) → i < length xs → Judged {A = Unit {0}} (Err r) (s.item (take i xs) (get_or xs i 0))
        → Judged {A = Unit {0}} (Err r) (section_refusal s xs)
    number_judged r l j =
        let e = number_refused (number_of r) (omega (arith, j.0, j.1)) l j.0 in
        (e, omega (arith, e, j.0, j.1))

    pub number_passed : i < length xs → s.item (take i xs) (get_or xs i 0) ≡ 0 → Passed s xs (i + 1)
    number_passed l e = rw add-one (g ∙ refuse_later s.item xs i l e)

    pub all_passed : length xs ≤ i → section_refusal s xs ≡ 0
    all_passed l = g ∙ refuse_none s.item xs i l

-- ---- the chances: the least value of the next one is above the last

pub record ChancesPassed (xs : List ℕ) (low i : ℕ) : Type 0 where
  pub passed : Passed chance_section xs i
  pub next : low ≡ suc (last_chance (take i xs))

pub chances_start : (xs : List ℕ) → chance_section.count (length xs) ≡ 0 → ChancesPassed xs 1 0
unfolding last_chance
chances_start xs e = record { passed = count_passed chance_section xs e; next = refl }

module _ (xs : List ℕ) (low i : ℕ) (g : ChancesPassed xs low i) where
  -- the range of the next chance says whether it is refused
  pub chance_judged : outside low max_chance chance_refusal (get_or xs i 0) ≡ chance_section.item (take i xs) (get_or xs i 0)
  unfolding chance_section
  chance_judged = rw g.next (sym (chance_agrees (take i xs) (get_or xs i 0)))

  pub chances_more : i < length xs → outside low max_chance chance_refusal (get_or xs i 0) ≡ 0 → ChancesPassed xs (get_or xs i 0 + 1) (i + 1)
  chances_more h e =
      let last : last_chance (take (i + 1) xs) ≡ get_or xs i 0 =
      rw (add-one, take-suc xs i 0 h) (last_snoc (take i xs) (get_or xs i 0)) in
      record {
        passed = number_passed chance_section xs i g.passed h (sym chance_judged ∙ e);
        next = rw (last, add-one) refl;
      }
