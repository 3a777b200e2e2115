-- The folder of a path, as far as its last slash.
-- Assumes nothing.
use Rattle.std.specs.Prelude.{ℕ, zero, suc, cond, List, length, ◌==◌, slice_index}

-- the ASCII code of a slash
unfoldable pub slash : ℕ
slash = 0x2f

-- how many of a path's first `end` bytes stand up to their last slash, with it; none where there is no slash
unfoldable pub folder_within : List ℕ → ℕ → ℕ
folder_within path zero = 0
folder_within path (suc end) = cond (slice_index path end == slash) (suc end) (folder_within path end)

-- how many bytes of a path stand up to its last slash, with it
unfoldable pub folder_end : List ℕ → ℕ
folder_end path = folder_within path (length path)
