-- `moments_at` copies the times, and takes mean and spread from the copy.
-- Assumes nothing.
use mathlib.Core.Path.{◌∙◌, ap}
use Prim.Native.Nat.{ℕ}
use native.Mathlib.Omega.{arith}
use lib.ListN.{replicate}
use lib.Seq.{length-take-le, take_at}
use Rattle.journal_spec.specs.Bytes.{numbers_in}
use Rattle.journal_parts.proofs.NumberStands.{number_stands}
use Rattle.journal_parts.specs.Spans.{numbers_of}
use Rattle.journal_listing.proofs.Copying.{moments_copied}
use Rattle.journal_listing.proofs.moments.moments_at.Goals as goal

pub returns : goal.returns
unfolding numbers_of
returns c =
    let n = c.copied-n in
    let a = c.args in
    let form = c.number_in-form.ensures ∙ number_stands 2 a.at a.b.now (omega arith) (omega arith) in
    let part = length-take-le {A = ℕ} n.result (replicate 128 0) n.ensures.few.1 in
    let copy = c.copy_times in
    let filled = copy.ensures ∙ ap (λ (k : ℕ). numbers_in 4 k a.times.first a.b.now) part in
    c.moments_of_times.ensures
    ∙ moments_copied c.number_in-form.result _ a.times.count a.times.first n.result a.b.now _ form n.ensures.value
    (take_at copy.new.ticks _ n.result (copy.auto.ticks ∙ part) ∙ filled)
