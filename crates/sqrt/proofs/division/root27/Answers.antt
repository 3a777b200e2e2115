-- `root27` meets its contract: the root of the leading digits is large enough to be extended. Assumes nothing.
use Rattle.std.proofs.Common.{◌/◌, ◌^◌, arith}
use Rattle.sqrt.proofs.Squares.{rest_lt, rest_ge}
use Rattle.sqrt.proofs.division.root27.Goals as goal

pub extend-requires : goal.extend-requires
extend-requires c =
    let q = c.args.q in
    let p = c.root14-p.result in
    let e = c.root14-p.ensures in
    let a = rest_ge (2 ^ 13) (q / 2 ^ 26) p.root p.rest (omega arith) e in
    let b = rest_lt (2 ^ 14) (q / 2 ^ 26) p.root p.rest (omega arith) e in
    omega arith
