-- `is_own` looks whether the buffer is an index, finds the last record of each name in order, and holds the entries against these.
-- Assumes nothing.
use mathlib.Core.Path.{◌≡◌, sym, ◌∙◌}
use Prim.Native.Nat.{ℕ, ◌<◌}
use mathlib.Core.Bool.{true}
use native.Mathlib.Omega.{arith}
use lib.ListN.{get_or}
use lib.Seq.{length-take-le}
use Rattle.journal_entries.specs.Shape.{is_index}
use Rattle.journal_index.proofs.Latest.{latest_named}
use Rattle.journal_index.proofs.OwnPass.{no_index, own_same}
use Rattle.journal_index.proofs.own.is_own.Goals as goal

pub returns-then-not-is_index : goal.returns-then-not-is_index
returns-then-not-is_index c = sym (no_index _ _ c.requires (sym c.is_index.ensures ∙ c.if-not-is_index.true))

pub slice_bounds-has_entries-end : goal.slice_bounds-has_entries-end
slice_bounds-has_entries-end c = sym (length-take-le _ _ (omega (arith, c.latest_of-count.ensures.upper_bound)))

-- the buffer begins with an index
told : (c : goal.After-has_entries) → is_index c.args.index.now ≡ true
told c = sym c.is_index.ensures ∙ c.if-not-is_index.false

bytes : (c : goal.After-has_entries) (i : ℕ) → get_or c.args.index.now i 0 < 256
bytes c i = omega (arith, c.type_inv.index i)

pub returns : goal.returns
returns c =
    let w = c.requires in
    c.has_entries.ensures ∙ own_same _ _ w (bytes c) (told c) _ (latest_named _ w _ c.latest_of-count.ensures.latest_of)
