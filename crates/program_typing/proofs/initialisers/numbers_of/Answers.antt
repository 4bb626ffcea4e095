use Rattle.std.proofs.Common.{refl, sym, ap, ◌∙◌, List}
use Rattle.go_tree.specs.declared.functions.FunctionDecl.{FunctionDecl}
use Rattle.typed_trees.specs.Programs.{initialiser_from}
use Rattle.program_typing.proofs.Numbered.{noted-kept, noted-done}
use Rattle.program_typing.proofs.initialisers.numbers_of.Goals as goal

pub loop-number-preserved : goal.loop-number-preserved
loop-number-preserved c = λ p tests of. noted-kept p tests c.args.functions.now c.loop-number.number of _ _ _ _ _ c.loop-number-test.true refl (c.in_ok-note.ensures p tests of) (c.loop-number.invariant p tests of)

pub returns : goal.returns
returns c = λ p e tests of. noted-done p tests c.args.functions.now c.loop-number.number of _ _ c.loop-number-test.false (c.loop-number.invariant p tests of) ∙ ap (λ (fs : List FunctionDecl). initialiser_from p tests 0 of fs) (sym e)
