use Rattle.program_typing.proofs.Lists.{made-kept, made-done}
use Rattle.expr_typing.specs.Telling.{at_tests}
use Rattle.typed_trees.specs.Targets.{part_types}
use Rattle.std.proofs.Common.{refl, ap, ◌∙◌, ◌++◌, ◌∷◌, []}
use Rattle.go_base.specs.declared.ids.TypeId.{TypeId}
use Rattle.program_typing.proofs.targets.part_types.Goals as goal

pub loop-part-preserved : goal.loop-part-preserved
loop-part-preserved c = λ told. made-kept (part_types (at_tests c.args.around told.tests)) (λ x xs. refl) refl c.args.parts.now c.loop-part.part-index c.part-item.result _ c.loop-part.types.items c.push.new.self.items _ c.loop-part-test.true c.part-item.is (c.in_ok-push.ensures.items ∙ ap (λ (of : TypeId). c.loop-part.types.items ++ of ∷ []) (c.in_ok-seen.ensures.of told.tests told.told)) (c.loop-part.invariant told)

pub returns : goal.returns
returns c = λ told. made-done (part_types (at_tests c.args.around told.tests)) (λ x xs. refl) refl c.args.parts.now c.loop-part.part-index c.loop-part.types.items _ c.loop-part-test.false (c.loop-part.invariant told)
