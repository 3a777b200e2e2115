-- A stored line against the journal in a buffer: the words of the C interface's answer are those that it expects.
-- Assumes nothing.
use Rattle.std.specs.Prelude.{ℕ, ◌+◌, Bool, cond, List, leb, length, get_or, take, Option, None, Some}
use Rattle.journal_spec.specs.Scan.{scan_of}
use Rattle.journal_spec.specs.Read.{part_place, read_mark}
use Rattle.capi.specs.Journal.{scan_words, part_words, mark_word}
use Rattle.replay_cases.specs.Line.{rule_by, agrees}
use Rattle.replay_cases.specs.declared.line.Case.{Case}
use Rattle.replay_cases.specs.declared.line.Case.TheVariants as A
use Rattle.replay_cases.specs.declared.compare.Compared.{Compared}
use Rattle.replay_cases.specs.declared.compare.Compared.TheVariants as C

-- scan's three words against the line's, by the line's rule
unfoldable pub scan_agrees : List ℕ → List ℕ → ℕ → Bool
scan_agrees s v len =
    let words = scan_words (scan_of (rule_by s) v len) in
    agrees s (get_or words 0 0) (get_or words 1 0) (get_or words 2 0)

-- the part's two words against the line's last two
unfoldable pub part_agrees : List ℕ → List ℕ → ℕ → ℕ → Bool
part_agrees s v len i =
    let words = part_words (part_place (rule_by s) v len i) in
    agrees s 0 (get_or words 0 0) (get_or words 1 0)

-- the mark's word against the line's middle one
unfoldable pub mark_agrees : List ℕ → List ℕ → ℕ → ℕ → Bool
mark_agrees s v len i = agrees s 0 (mark_word (read_mark (rule_by s) v len i)) 0

-- as expected or not
unfoldable pub verdict_of : Bool → Compared
verdict_of same = cond same C.Same C.Differs

-- eight bytes have room from a place on, or the line is malformed
unfoldable pub stored_if_room : ℕ → ℕ → Compared
stored_if_room place size = cond (leb (place + 8) size) C.Stored C.Malformed

-- a line, by what it asks, against the journal in the buffer's first bytes
unfoldable pub compared_with : List ℕ → Option Case → List ℕ → Compared
compared_with s (Some (A.Bytes place n)) v = stored_if_room place (length v)
compared_with s (Some (A.Scan size len)) v = verdict_of (scan_agrees s (take size v) len)
compared_with s (Some (A.Part size len i)) v = verdict_of (part_agrees s (take size v) len i)
compared_with s (Some (A.Mark size len i)) v = verdict_of (mark_agrees s (take size v) len i)
compared_with s None v = C.Malformed
