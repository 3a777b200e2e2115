-- `cursor_before` follows the listing line by line. Assumes nothing.
use Rattle.std.proofs.Common.{◌≡◌, ◌+◌, ◌-◌, ap, sym, arith}
use Rattle.journal.specs.Handed.{as_rule}
use Rattle.journal_listing.specs.Lines.{Position, position_of}
use Rattle.capi.specs.Line.{position_after}
use Rattle.capi.proofs.LineAt.{going_next, going_ended, going_there}
use Rattle.capi.proofs.line.cursor_before.Goals as goal

pub returns-then-cursor : goal.returns-then-cursor
unfolding position_of
returns-then-cursor c =
    let l = c.loop in
    let a = c.args in
    going_ended a.i a.v.now (a.i - l.counter) (position_of l.cursor) c.if-cursor.true l.invariant

pub loop-init : goal.loop-init
unfolding as_rule
loop-init c =
    let a = c.args in
    let all : a.i - 0 ≡ a.i = omega arith in
    rw all (record { same = ap (λ (p : Position). position_after a.i p a.v.now) (sym c.start-cursor.ensures) })

pub loop-preserved : goal.loop-preserved
loop-preserved c =
    let l = c.loop in
    let a = c.args in
    let less : a.i - (l.counter + 1) ≡ a.i - l.counter - 1 = omega arith in
    rw less
    (going_next a.i a.v.now (a.i - l.counter) (position_of l.cursor) _ (omega arith) c.next_cursor-cursor.ensures l.invariant)

pub returns : goal.returns
returns c =
    let l = c.loop in
    let a = c.args in
    going_there a.i a.v.now (a.i - l.counter) (position_of l.cursor) (omega arith) l.invariant
