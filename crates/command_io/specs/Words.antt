-- Texts of the specifications as bytes: what a program says, written as it is read.
-- Assumes nothing.
use Rattle.std.specs.Prelude.{ℕ, List}
use Prim.Native.Char.{code}
use Prim.Native.String.{String, [], ◌∷◌}
use mathlib.Core.List as L

-- the bytes of a text of ASCII characters
abbrev pub bytes_of : String → List ℕ
bytes_of [] = L.[]
bytes_of (c ∷ cs) = L.◌∷◌ (code c) (bytes_of cs)
