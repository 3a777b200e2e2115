-- What is dropped: exactly the records of the second list with the same bytes as some record of the first. Assumes nothing.
use mathlib.Core.Path.{◌≡◌, refl}
use Prim.Native.Nat.{ℕ, zero, suc, ◌+◌, ◌<◌}
use mathlib.Core.List.{List, [], ◌∷◌}
use mathlib.Core.Bool.{Bool, true, false, ◌||◌, or-true}
use native.Mathlib.Omega.{arith}
use lib.ListN.{length, get_or}
use Rattle.text_digits.specs.Same.{same_bytes}
use Rattle.text_digits.proofs.Comparing.{equal_same, same_equal}
use Rattle.journal_spec.specs.Record.{Record, record_bytes}
use Rattle.journal_merge_spec.specs.Records.{is_among, is_twin, dropped, undropped}
use Rattle.journal_merge_spec.proofs.Tally.{tally, tally_all, tally_select}

-- stands in for a record where there is none
abbrev pub blank : Record
blank = record { form = 0; day = 0; name = []; chances = []; times = []; limits = [] }

-- the record of the list that has the bytes
pub record Twin (rs : List Record) (bytes : List ℕ) : Type 0 where
  pub at : ℕ
  pub inside : at < length rs
  pub has : record_bytes (get_or rs at blank) ≡ bytes

pub among_twin : (rs : List Record) (bytes : List ℕ) → is_among rs bytes ≡ true → Twin rs bytes
unfolding is_among
among_twin [] bytes h = let z : ◌≡◌ {A = ℕ} 0 1 = cc in absurd (omega arith)
among_twin (s ∷ rs) bytes h = go (among_twin rs bytes) (same_bytes (record_bytes s) bytes) refl h
  where
    go : (is_among rs bytes ≡ true → Twin rs bytes) → (b : Bool) → same_bytes (record_bytes s) bytes ≡ b → (b || is_among rs bytes) ≡ true → Twin (s ∷ rs) bytes
    go later true e h = record { at = 0; inside = omega arith; has = same_equal (record_bytes s) bytes e }
    go later false e h = let t = later h in record { at = suc t.at; inside = omega (arith, t.inside); has = t.has }

pub twin_among : (rs : List Record) (bytes : List ℕ) (i : ℕ) → i < length rs → record_bytes (get_or rs i blank) ≡ bytes → is_among rs bytes ≡ true
unfolding is_among
twin_among [] bytes i h e = absurd (omega arith)
twin_among (s ∷ rs) bytes zero h e = rw (e, equal_same bytes) refl
twin_among (s ∷ rs) bytes (suc i) h e = rw (twin_among rs bytes i (omega arith) e) (or-true (same_bytes (record_bytes s) bytes))

-- the counts: by every test, kept and dropped together are the second list
pub tally_undropped : (test : Record → Bool) (first second : List Record)
    → tally test (undropped first second) + tally test (dropped first second) ≡ tally test second
unfolding undropped dropped
tally_undropped test first second = tally_select test (is_twin first) second

pub length_undropped : (first second : List Record) → length (undropped first second) + length (dropped first second) ≡ length second
length_undropped first second =
    rw (← tally_all (undropped first second), ← tally_all (dropped first second), ← tally_all second) (tally_undropped (λ r. true) first second)
