-- A journal without fault, and its own index handed.
-- Assumes nothing.
use Rattle.std.specs.Prelude.{◌≡◌, ℕ, true, List}
use Rattle.journal_spec.specs.Bytes.{AreBytes}
use Rattle.journal_spec.specs.Profile.{plain}
use Rattle.journal_spec.specs.Scan.{Placed, standing, contents_of}
use Rattle.journal_spec.specs.Index.{index_bytes, in_front, index_of}

pub record Owned (v : List ℕ) (len : ℕ) (index : List ℕ) : Type 0 where
  pub records : List Placed
  pub committed : ℕ
  pub stands : contents_of plain v len ≡ standing records committed
  pub own : in_front (index_bytes (index_of records)) index ≡ true
  pub bytes : AreBytes v
