use Rattle.std.proofs.Common.{◌∙◌, ap, sym, List}
use Rattle.std.proofs.Common.{length, ◌∷◌, []}
use Rattle.expr_typing.specs.Telling.{at_tests}
use Rattle.program_typing.proofs.Both.{told_as}
use Rattle.go_tree.specs.declared.stmts.DefineTarget.{DefineTarget}
use Rattle.go_tree.specs.declared.stmts.ReceiveInto.{ReceiveInto}
use Rattle.program_typing.specs.Walk.{assigns_parts}
use Rattle.typed_trees.specs.Targets.{define_all, first_types, receives_into}
use Rattle.program_typing.proofs.receiving.receives_into.Goals as goal

pub returns-in-Define : goal.returns-in-Define
returns-in-Define c = λ told. c.define_received.ensures told ∙ (ap (λ (xs : List DefineTarget). define_all (at_tests c.args.around told.tests) xs (first_types (at_tests c.args.around told.tests) (length xs) c.args.elem)) c.deref.ensures.value ∙ ap (λ (it : ReceiveInto). receives_into (at_tests c.args.around told.tests) c.args.elem it) (sym c.in-Define.is))

pub returns-in-Assign : goal.returns-in-Assign
returns-in-Assign c = λ told. told_as _ _ _ (c.assign_parts.ensures told) ((λ j. assigns_parts (at_tests c.args.around told.tests) (c.args.elem ∷ c.basic.ensures j ∷ []) (c.deref-in-Assign.ensures.value j) (c.deref-in-Assign-2.ensures.value j)) ∙ ap (λ (it : ReceiveInto). receives_into (at_tests c.args.around told.tests) c.args.elem it) (sym c.in-Assign.is))
