-- Every line of the log is counted once: as a link of the one entry with its name, or as unknown. Overs are links, each counted
-- against its own limit. Assumes nothing.
use mathlib.Core.Path.{◌≡◌, refl}
use Prim.Native.Nat.{ℕ, zero, suc, ◌+◌, ◌≤◌, ◌<◌}
use mathlib.Core.List.{List, [], ◌∷◌}
use mathlib.Core.Bool.{Bool, true, false, cond, not, ◌&&◌, ◌||◌}
use native.Mathlib.Omega.{arith}
use lib.ListN.{length, get_or}
use lib.Ieee.{Float, binary64, of_bits, lt}
use Rattle.limit.specs.Formula.{double}
use Rattle.facts.proofs.Tests as tests
use Rattle.journal_spec.specs.Tests.{same}
use Rattle.journal_spec.specs.Index.{IndexEntry}
use Rattle.journal_spec.specs.Indexed.{Before, Rising}
use Rattle.journal_trial_spec.specs.Tally.{tally}
use Rattle.journal_trial_spec.specs.Links.{Link}
use Rattle.journal_trial_spec.specs.Trial.{is_named, is_over, links_of, overs_of, is_known, unknown_of}
use Rattle.journal_trial_spec.proofs.Tallies.{tally_mono, tally_true}
use Rattle.journal_trial_spec.proofs.Names.{not_known}

-- ---- links and unknown lines

-- the links of all entries
unfoldable pub links_sum : List IndexEntry → List Link → ℕ
links_sum [] ls = 0
links_sum (e ∷ es) ls = links_of e.name ls + links_sum es ls

-- lines that the entries es do not know are the links of one more entry and those that it does not know either
split : (e : IndexEntry) (es : List IndexEntry) (ls : List Link) → Before e.name es → Rising es
    → tally (is_named e.name) ls + tally (λ (l : Link). not (is_named e.name l || is_known es l)) ls ≡ tally (λ (l : Link). not (is_known es l)) ls
unfolding tally
split e es [] b r = refl
split e es (l ∷ ls) b r = go (split e es ls b r) (is_named e.name l) refl
  where
    go : tally (is_named e.name) ls + tally (λ (k : Link). not (is_named e.name k || is_known es k)) ls ≡ tally (λ (k : Link). not (is_known es k)) ls
        → (t : Bool) → is_named e.name l ≡ t
        → (cond t 1 0 + tally (is_named e.name) ls)
        + (cond (not (t || is_known es l)) 1 0 + tally (λ (k : Link). not (is_named e.name k || is_known es k)) ls)
        ≡ cond (not (is_known es l)) 1 0 + tally (λ (k : Link). not (is_known es k)) ls
    go ih true h = rw (not_known e.name es l b r h) (omega arith)
    go ih false h = omega arith

-- links over all entries plus unknown lines are the lines
pub links_and_unknown : (es : List IndexEntry) (ls : List Link) → Rising es → links_sum es ls + unknown_of es ls ≡ length ls
unfolding links_sum unknown_of links_of is_known
links_and_unknown [] ls r = omega (arith, tally_true (λ (l : Link). not false) ls (λ x. refl))
links_and_unknown (e ∷ es) ls r = omega (arith, links_and_unknown es ls r.1, split e es ls r.0 r.1)

-- ---- overs

over_named : (name : List ℕ) (limit : Float) (l : Link) → is_over name limit l ≡ true → is_named name l ≡ true
unfolding is_over
over_named name limit l h = tests.first_of_lem (is_named name l) _ h

-- at no chance do the overs exceed the links
pub overs_at_most : (name limits : List ℕ) (ls : List Link) (i : ℕ) → get_or (overs_of name limits ls) i 0 ≤ links_of name ls
unfolding overs_of links_of
overs_at_most name [] ls i = omega arith
overs_at_most name (b ∷ bs) ls zero = tally_mono (is_over name (of_bits binary64 b)) (is_named name) ls (over_named name (of_bits binary64 b))
overs_at_most name (b ∷ bs) ls (suc i) = overs_at_most name bs ls i

-- the j-th over is counted against the j-th limit: links of the name whose ticks as a double exceed it
pub over_at_lem : (name limits : List ℕ) (ls : List Link) (j : ℕ) → j < length limits
    → get_or (overs_of name limits ls) j 0
    ≡ tally (λ (l : Link). same l.name name && lt (of_bits binary64 (get_or limits j 0)) (double l.ticks)) ls
unfolding overs_of is_over is_named
over_at_lem name [] ls j h = absurd (omega arith)
over_at_lem name (b ∷ bs) ls zero h = refl
over_at_lem name (b ∷ bs) ls (suc j) h = over_at_lem name bs ls j (omega arith)
