-- `root14` meets its contract: the root of the leading digits is large enough to be extended. Assumes nothing.
use Rattle.std.proofs.Common.{◌/◌, ◌^◌, arith}
use Rattle.sqrt.proofs.Squares.{rest_lt, rest_ge}
use Rattle.sqrt.proofs.division.root14.Goals as goal

pub extend-requires : goal.extend-requires
extend-requires c =
    let q = c.args.q in
    let p = c.root7-p.result in
    let e = c.root7-p.ensures in
    let a = rest_ge 64 (q / 2 ^ 40) p.root p.rest (omega arith) e in
    let b = rest_lt 128 (q / 2 ^ 40) p.root p.rest (omega arith) e in
    omega arith
