-- The eight bytes of a number, and the buffer with them. Assumes nothing.
use Rattle.std.proofs.Common.{◌≡◌, ℕ, ◌+◌, ◌-◌, ◌/◌, ◌≤◌, ◌<◌, List, ◌++◌, length, take, drop, arith}
use Rattle.std.specs.Int.{w64, to_be_bytes}
use borrow.Author.Tests.{le-leb, lt-leb}
use lib.Seq.{drop-drop}
use Rattle.replay_cases.specs.Store.{big_endian_bytes, stored_at}

-- the library's bytes are the definition's
pub same_bytes : (n : ℕ) → big_endian_bytes 8 n ≡ to_be_bytes w64 n
unfolding big_endian_bytes
same_bytes n =
    let second : n / 256 / 256 ≡ n / 0x1_0000 = omega arith in
    let third : n / 0x1_0000 / 256 ≡ n / 0x100_0000 = omega arith in
    let fourth : n / 0x100_0000 / 256 ≡ n / 0x1_0000_0000 = omega arith in
    let fifth : n / 0x1_0000_0000 / 256 ≡ n / 0x100_0000_0000 = omega arith in
    let sixth : n / 0x100_0000_0000 / 256 ≡ n / 0x1_0000_0000_0000 = omega arith in
    let seventh : n / 0x1_0000_0000_0000 / 256 ≡ n / 0x100_0000_0000_0000 = omega arith in
    rw (second, third, fourth, fifth, sixth, seventh)

-- without room the buffer stays
pub no_room : (place n : ℕ) (v : List ℕ) → length v < place + 8 → v ≡ stored_at place n v
unfolding stored_at
no_room place n v h = rw (lt-leb (place + 8) (length v) h)

-- eight bytes of the buffer that were lent and written
pub part_filled : (place n end : ℕ) (v part : List ℕ) → end ≡ place + 8 → end ≤ length v → part ≡ to_be_bytes w64 n
    → take place v ++ (part ++ drop (end - place) (drop place v)) ≡ stored_at place n v
unfolding stored_at
part_filled place n end v part e h filled =
    let eight : end - place ≡ 8 = omega arith in
    rw (le-leb (place + 8) (length v) (omega arith), filled, eight, drop-drop 8 place v, same_bytes n)
