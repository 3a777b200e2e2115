-- `root54` meets its contract: the root of q is large enough to be extended, and has half of the digits. Assumes nothing.
use Rattle.std.proofs.Common.{◌^◌, arith}
use Rattle.sqrt.proofs.Squares.{rest_lt, rest_ge, whole_of_rest}
use Rattle.sqrt.proofs.division.root54.Goals as goal

pub extend-requires : goal.extend-requires
extend-requires c =
    let q = c.args.q in
    let p = c.root27-p.result in
    let e = c.root27-p.ensures in
    let a = rest_ge (2 ^ 26) q p.root p.rest (omega arith) e in
    let b = rest_lt (2 ^ 27) q p.root p.rest (omega arith) e in
    omega arith

pub returns : goal.returns
returns c =
    let q = c.args.q in
    let p = c.root27-p.result in
    let t = c.extend.result in
    let e = c.root27-p.ensures in
    let f = c.extend.ensures in
    whole_of_rest q t.root t.rest c.requires.0 c.requires.1 (record { sum = omega arith; small = f.small })
