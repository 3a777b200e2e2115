-- The buffer with the bytes that a line puts into it.
-- Assumes nothing.
use Rattle.std.specs.Prelude.{ℕ, zero, suc, ◌+◌, ◌/◌, ◌%◌, cond, List, [], ◌∷◌, ◌++◌, leb, length, take, drop, Option, None, Some}
use Rattle.replay_cases.specs.declared.line.Case.{Case}
use Rattle.replay_cases.specs.declared.line.Case.TheVariants as A

-- the last k bytes of n, the most significant first
unfoldable pub big_endian_bytes : ℕ → ℕ → List ℕ
big_endian_bytes zero n = []
big_endian_bytes (suc k) n = big_endian_bytes k (n / 256) ++ (n % 256 ∷ [])

-- eight bytes from a place on, where there is room for them
unfoldable pub stored_at : ℕ → ℕ → List ℕ → List ℕ
stored_at place n v = cond (leb (place + 8) (length v)) (take place v ++ (big_endian_bytes 8 n ++ drop (place + 8) v)) v

-- the same for a line that puts bytes; another leaves the buffer as it is
unfoldable pub stored_by : Option Case → List ℕ → List ℕ
stored_by (Some (A.Bytes place n)) v = stored_at place n v
stored_by (Some (A.Scan size len)) v = v
stored_by (Some (A.Part size len i)) v = v
stored_by (Some (A.Mark size len i)) v = v
stored_by None v = v
