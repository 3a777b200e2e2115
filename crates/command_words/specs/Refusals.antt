-- What each refusal's number means, in words (docs/DEFINITION.md, section 10); 8 is not used (document 02, 2026-06). A row for each.
-- Assumes nothing.
use Rattle.std.specs.Prelude.{ℕ, cond, List, [], eqb}
use Rattle.command_io.specs.Words.{bytes_of}

abbrev pub refusal_words : ℕ → List ℕ
refusal_words n =
    cond (eqb n 1) (bytes_of "a volume has at most 65,536 bytes")
    (cond (eqb n 2) (bytes_of "a record's form is 1 or 2")
    (cond (eqb n 3) (bytes_of "a day is 0 to 65,535, and not before the day of the record before it")
    (cond (eqb n 4) (bytes_of "a name has 1 to 32 bytes, each 21 to 7e in hexadecimal: visible ASCII, no space")
    (cond (eqb n 5) (bytes_of "a chance is 1 to 999,999 in a million, 1 to 8 of them, rising")
    (cond (eqb n 6) (bytes_of "a time is 1 to 1,048,575 ticks of 10 microseconds, 2 to 128 of them")
    (cond (eqb n 7) (bytes_of "a record has a limit for each chance, with the bits that its times give")
    (cond (eqb n 9) (bytes_of "a volume has at most 65,536 bytes, and the record has no room behind those that stand: begin a new file")
    (cond (eqb n 10) (bytes_of "there is no such record in the volume")
    (cond (eqb n 11) (bytes_of "a line of the log is a name, one space, 1 to 1,048,575 without leading zeros, and a line end, the last line's too")
    (cond (eqb n 12) (bytes_of "a record has at most 128 times, and the log has more lines of the name")
    (cond (eqb n 13) (bytes_of "no record of form 1 stands behind one of form 2")
    (cond (eqb n 14) (bytes_of "the index is that of the volume's records: awaqlla index --make FILE INDEX makes it again")
    (cond (eqb n 15) (bytes_of "an index has room in its buffer, with the new record's name in it too")
    (cond (eqb n 16) (bytes_of "a volume that is merged ends with a whole record: an append writes over a torn end, awaqlla list shows it")
    (cond (eqb n 17) (bytes_of "an offered chance is at most 500,000 in a million: beyond even chances a limit is no guarantee")
    (cond (eqb n 18) (bytes_of "a share of links inside a band is 1 to 999,999 in a million")
    (cond (eqb n 19) (bytes_of "a record of the profile for safety controllers has form 2, the chances 1, 10, 100 and 1,000, and at least 32 times")
    [])))))))))))))))))
