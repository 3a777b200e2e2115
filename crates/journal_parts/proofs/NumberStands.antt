-- The number at a place, by whether its bytes all stand in the slice.
-- Assumes nothing.
use mathlib.Core.Path.{◌≡◌, refl}
use Prim.Native.Nat.{ℕ, ◌+◌, ◌≤◌, ◌<◌}
use mathlib.Core.List.{List}
use lib.ListN.{length}
use borrow.Author.Tests.{le-leb, lt-leb}
use Rattle.journal_spec.specs.Bytes.{number_at}
use Rattle.journal_parts.specs.Numbers.{number_in}

module _ (w at : ℕ) (b : List ℕ) where
  pub number_stands : w ≤ 8 → at + w ≤ length b → number_in w at b ≡ number_at w at b
  unfolding number_in
  number_stands narrow h = rw (le-leb w 8 narrow, le-leb (at + w) (length b) h) refl

  pub number_wide : 8 < w → number_in w at b ≡ 0
  unfolding number_in
  number_wide h = rw (lt-leb w 8 h) refl

  pub number_beyond : w ≤ 8 → length b < at + w → number_in w at b ≡ 0
  unfolding number_in
  number_beyond narrow h = rw (le-leb w 8 narrow, lt-leb (at + w) (length b) h) refl
