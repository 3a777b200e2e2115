-- `read_numbers` meets its contract, by the turns of its loop.
-- Assumes nothing.
use Rattle.std.proofs.Common.{get_or, refl, ◌∙◌, arith}
use Rattle.command_io.specs.Numbers.{turn_of, unread, numbers_of}
use Rattle.command_io.proofs.Texts.{read_next, read_ends}
use Rattle.command_io.proofs.Storing.{reads_unread, stores_all, stores_before}
use Rattle.command_io.proofs.numbers.read_numbers.Goals as goal

pub loop-c-init : goal.loop-c-init
loop-c-init c = (refl, record { read = unread; reads = reads_unread _; same = refl })

pub loop-c-preserved : goal.loop-c-preserved
loop-c-preserved c =
    let args = c.args in
    let i = c.loop-c.c-index in
    let g = c.loop-c.invariant.1 in
    let next = read_next args.most g.read args.text.now i (omega arith) in (
      omega arith,
      record {
        read = turn_of args.most g.read (get_or args.text.now i 0);
        reads = c.turn-reading.ensures args.out.now g.read g.reads;
        same = g.same ∙ next;
      },
    )

pub returns-in-Some : goal.returns-in-Some
unfolding numbers_of
returns-in-Some c =
    let args = c.args in
    let g = c.loop-c.invariant.1 in
    let read = g.same ∙ read_ends args.most g.read args.text.now c.loop-c.c-index (omega arith) in
    rw read (stores_all _ _ c.closed-count.result _ _ c.in-Some.is (c.closed-count.ensures args.out.now g.read g.reads))

pub returns-in-None : goal.returns-in-None
unfolding numbers_of
returns-in-None c =
    let args = c.args in
    let g = c.loop-c.invariant.1 in
    let read = g.same ∙ read_ends args.most g.read args.text.now c.loop-c.c-index (omega arith) in
    rw read (stores_before _ _ c.closed-count.result _ c.in-None.is (c.closed-count.ensures args.out.now g.read g.reads))
