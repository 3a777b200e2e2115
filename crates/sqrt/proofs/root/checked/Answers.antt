-- `checked` meets its contract: where its tests pass, the remainder is exact, and elsewhere the divisions answer. Assumes nothing.
use Rattle.std.proofs.Common.{◌≡◌, refl, ℕ, ◌+◌, ◌-◌, ◌*◌, ◌%◌, ◌^◌, ◌<◌, ◌≤◌, arith}
use Rattle.sqrt.specs.Steps.{IsFirst}
use Rattle.sqrt.proofs.Checking.{Step, product_le, guess_right, guess_less}
use Rattle.sqrt.proofs.root.checked.Goals as goal

-- a less b, modulo 2 ^ 64
abbrev less : ℕ → ℕ → ℕ
less a b = (a + (2 ^ 64 - b)) % 2 ^ 64

wrapped : (a b : ℕ) → a < 2 ^ 64 → b ≤ 2 ^ 64 → (less a b + b) % 2 ^ 64 ≡ a
wrapped a b h k = omega arith

-- the code's e
abbrev bracket : ℕ → ℕ → ℕ → ℕ
bracket g t l = less ((t + 4080) * 2 ^ 21) (g * l)

-- the square of l
low_le : (l : ℕ) → l < 2 ^ 26 → l * l + 2 ^ 56 ≤ 2 ^ 64
low_le l h = let k : l * l ≤ 2 ^ 26 * 2 ^ 26 = product_le (2 ^ 26) (2 ^ 26) l l (omega arith) (omega arith) in omega arith

-- what is known once e has passed its test
known : (q g t l : ℕ) → 2 ^ 52 ≤ q → q < 2 ^ 54 → IsFirst q g t → l < 2 ^ 26 → bracket g t l < 2 ^ 40 → Step q g t l (bracket g t l)
known q g t l Q R F L E =
    let h : g * l ≤ 2 ^ 32 * 2 ^ 26 = product_le (2 ^ 32) (2 ^ 26) g l (let k = F.g_lt in omega arith) (omega arith) in
    record {
      q_ge = Q;
      q_lt = R;
      first = F;
      l_lt = L;
      e_lt = E;
      e_is = wrapped ((t + 4080) * 2 ^ 21) (g * l) (let k = F.t_lt in omega arith) (omega arith);
    }

pub returns-then-r-s : goal.returns-then-r-s
returns-then-r-s c =
    let a = c.args in
    let p = c.requires in
    let e = bracket a.g a.t a.l in
    let k = c.if-e-lt1099511627776.true in
    guess_right a.q a.g a.t a.l e (known a.q a.g a.t a.l p.0 p.1 p.2 p.3 k) _
    (wrapped (e * 2 ^ 23) (a.l * a.l + 2 ^ 56) (omega arith) (low_le a.l p.3)) c.if-r-s.true

pub returns-then-u-s : goal.returns-then-u-s
returns-then-u-s c =
    let a = c.args in
    let p = c.requires in
    let e = bracket a.g a.t a.l in
    let k = c.if-e-lt1099511627776.true in
    guess_less a.q a.g a.t a.l e (known a.q a.g a.t a.l p.0 p.1 p.2 p.3 k) (less (e * 2 ^ 23) (a.l * a.l + 2 ^ 56)) _
    (wrapped (e * 2 ^ 23) (a.l * a.l + 2 ^ 56) (omega arith) (low_le a.l p.3)) (omega arith) c.if-r-s.false refl c.if-u-s.true
