use Rattle.std.proofs.Common.{◌∙◌}
use Rattle.go_type.proofs.Distinct.{inserted_next}
use Rattle.go_type.proofs.types.copy_terms.Goals as goal

pub loop-term-preserved : goal.loop-term-preserved
loop-term-preserved c = record {
  copied = inserted_next c.args.terms.now c.loop-term.copy.keys c.insert.new.self.keys c.loop-term.term-index c.term-item.result c.in_ok-copy.field-0
      c.loop-term.invariant.distinct c.loop-term-test.true c.loop-term.invariant.copied (c.in_ok-copy.ensures ∙ c.term-item.is) c.in_ok-insert.ensures.keys;
  distinct = c.loop-term.invariant.distinct;
}
