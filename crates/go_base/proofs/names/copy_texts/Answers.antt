use Rattle.std.proofs.Common.{string_bytes, ◌∙◌}
use Rattle.go_base.proofs.Texts.{copied_next}
use Rattle.go_base.proofs.names.copy_texts.Goals as goal

pub loop-text-preserved : goal.loop-text-preserved
loop-text-preserved c = record {
  copied = copied_next string_bytes c.args.texts.now c.loop-text.copy.keys c.insert.new.self.keys c.loop-text.text-index c.text-item.result c.in_ok-from_str.field-0
      c.loop-text.invariant.distinct c.loop-text-test.true c.loop-text.invariant.copied c.text-item.is (c.in_ok-from_str.ensures.ok ∙ c.as_str.ensures.value) c.in_ok-insert.ensures.keys;
  distinct = c.loop-text.invariant.distinct;
}
