-- `extend` meets its contract: the sizes of its products, and the two cases of the next digits. Assumes nothing.
use Rattle.std.proofs.Common.{arith}
use Rattle.sqrt.proofs.Extending.{Sizes, sizes, quotient_pos, extend_kept, extend_less}
use Rattle.sqrt.proofs.root.Whole.extend.Goals as goal

facts : (c : goal.Start) → Sizes c.args.self.root c.args.self.rest c.args.w c.args.hi c.args.lo
facts c =
    let a = c.args in
    let p = c.requires in
    sizes a.self.root a.self.rest a.w a.hi a.lo p.0 p.1 p.3 p.4 p.5 p.2 p.6

facts_2 : (c : goal.Else-y-u) → Sizes c.args.self.root c.args.self.rest c.args.w c.args.hi c.args.lo
facts_2 c =
    let a = c.args in
    let p = c.requires in
    sizes a.self.root a.self.rest a.w a.hi a.lo p.0 p.1 p.3 p.4 p.5 p.2 p.6

pub overflow_mul-n : goal.overflow_mul-n
overflow_mul-n c = let z = facts c in omega arith

pub overflow_add-n : goal.overflow_add-n
overflow_add-n c = let z = facts c in omega arith

pub overflow_mul-u : goal.overflow_mul-u
overflow_mul-u c = let z = facts c in omega arith

pub overflow_add-u : goal.overflow_add-u
overflow_add-u c = let z = facts c in omega arith

pub overflow_mul-t : goal.overflow_mul-t
overflow_mul-t c = let z = facts c in omega arith

pub overflow_add-t : goal.overflow_add-t
overflow_add-t c = let z = facts c in omega arith

pub overflow_mul-y : goal.overflow_mul-y
overflow_mul-y c = let z = facts c in omega arith

pub overflow_sub-result-else-y-u : goal.overflow_sub-result-else-y-u
overflow_sub-result-else-y-u c = let z = facts_2 c in omega arith

pub overflow_mul-result : goal.overflow_mul-result
overflow_mul-result c = let z = facts_2 c in omega arith

pub overflow_sub-result-else-y-u-2 : goal.overflow_sub-result-else-y-u-2
overflow_sub-result-else-y-u-2 c = let z = facts_2 c in omega arith

pub overflow_add-result : goal.overflow_add-result
overflow_add-result c = let z = facts_2 c in omega arith

pub overflow_sub-result-else-y-u-3 : goal.overflow_sub-result-else-y-u-3
overflow_sub-result-else-y-u-3 c =
    let a = c.args in
    let p = c.requires in
    let z = facts_2 c in
    let q = quotient_pos a.self.root a.self.rest a.w a.hi a.lo p.0 p.1 p.3 p.4 p.5 c.if-y-u.false in
    omega arith

pub returns-then-y-u : goal.returns-then-y-u
returns-then-y-u c =
    let a = c.args in
    let p = c.requires in
    extend_kept a.self.root a.self.rest a.w a.hi a.lo p.0 p.1 p.3 p.4 p.5 c.if-y-u.true

pub returns-else-y-u : goal.returns-else-y-u
returns-else-y-u c =
    let a = c.args in
    let p = c.requires in
    extend_less a.self.root a.self.rest a.w a.hi a.lo p.0 p.1 p.3 p.4 p.5 c.if-y-u.false
