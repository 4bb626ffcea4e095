use Rattle.std.proofs.Common.{arith}
use Rattle.std.proofs.Math.Nat.{le_trans}
use Rattle.go_interp.proofs.Appending.{more_written, nothing_written}
use Rattle.go_interp.proofs.Driven.{ends_so, goes_on, not_gone}
use Rattle.go_interp.proofs.running.drive.Goals as goal

pub returns-in_err-write_piece-in-Goes-clause-written : goal.returns-in_err-write_piece-in-Goes-clause-written
returns-in_err-write_piece-in-Goes-clause-written g c = more_written _ _ _ c.loop.invariant.0 c.write_piece.ensures.written

pub returns-in-Ends-clause-written : goal.returns-in-Ends-clause-written
returns-in-Ends-clause-written g c = more_written _ _ _ c.loop.invariant.0 c.finish.ensures.written

pub returns-in_err-write-in-WantsMemory-clause-written : goal.returns-in_err-write-in-WantsMemory-clause-written
returns-in_err-write-in-WantsMemory-clause-written g c = more_written _ _ _ c.loop.invariant.0 c.write.ensures.written

pub returns-in-WantsMemory-clause-written : goal.returns-in-WantsMemory-clause-written
returns-in-WantsMemory-clause-written g c = more_written _ _ _ c.loop.invariant.0 c.write.ensures.written

pub loop-init : goal.loop-init
loop-init g c =
    (nothing_written (g.O.Sink.written c.args.out.now), (search arith, not_gone c.args.machine.now (g.O.Sink.written c.args.out.now)))

pub loop-preserved : goal.loop-preserved
loop-preserved g c = (
  more_written _ _ _ c.loop.invariant.0 c.write_piece.ensures.written,
  (
    le_trans c.loop.invariant.1.0 c.write_piece.ensures.later,
    goes_on c.make_steps.result c.args.machine.now c.loop.machine c.make_steps.new.machine c.write_piece.new.machine
        (g.O.Sink.written c.args.out.now) (g.O.Sink.written c.loop.out) (g.O.Sink.written c.write_piece.new.out) c.in-Goes.is
        c.loop.invariant.1.1 c.make_steps.ensures c.in_ok-write_piece-in-Goes.ensures.moved,
  ),
)

pub returns-in-Ends-clause-exact : goal.returns-in-Ends-clause-exact
returns-in-Ends-clause-exact g c =
    ends_so c.finish.result c.make_steps.result c.args.machine.now c.loop.machine c.make_steps.new.machine
    (g.O.Sink.written c.args.out.now) (g.O.Sink.written c.loop.out) (g.O.Sink.written c.finish.new.out) c.in-Ends.is
    c.loop.invariant.1.1 c.make_steps.ensures c.finish.ensures.whole
