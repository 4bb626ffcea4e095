use Rattle.interp_calls.proofs.Entries.{overflows, source_admitted, source_stops, spent_if_goes}
use Rattle.interp_calls.proofs.calling.admitted_source.Goals as goal

pub returns-then-machine-ge-MAX_FRAMES-clause-done : goal.returns-then-machine-ge-MAX_FRAMES-clause-done
returns-then-machine-ge-MAX_FRAMES-clause-done c =
    λ entry. overflows c.args.function.now entry c.end.result c.args.machine.now c.end.new.self
    c.if-machine-ge-MAX_FRAMES.true c.end.ensures.ends c.end.ensures.ending

pub returns-in-Goes-clause-admitted : goal.returns-in-Goes-clause-admitted
returns-in-Goes-clause-admitted c =
    λ entry. source_admitted c.args.function.now entry c.args.machine.now c.spend.new.self
    c.if-machine-ge-MAX_FRAMES.false
    (spent_if_goes c.spend.result c.args.machine.now c.spend.new.self c.in-Goes.is c.spend.ensures.none
    c.spend.ensures.spent)

pub returns-in_default : goal.returns-in_default
returns-in_default c =
    record {
      admitted = λ entry. tt;
      done = λ entry. source_stops c.args.function.now entry c.spend.result c.args.machine.now c.spend.new.self
          c.if-machine-ge-MAX_FRAMES.false c.in_default.not-Goes c.spend.ensures.none c.spend.ensures.spent;
    }
