use Rattle.std.proofs.Common.{ap, ◌∙◌, List}
use Rattle.std.specs.Prelude.{◌&&◌}
use Rattle.std.specs.List.{list_all}
use Rattle.go_base.specs.declared.ids.TypeId.{TypeId}
use Rattle.go_base.specs.declared.ids.VarId.{VarId}
use Rattle.expr_typing.specs.Telling.{at_tests}
use Rattle.typed_trees.specs.Programs.{with_receiver, inside}
use Rattle.typed_trees.specs.Statements.{Within, fits_block}
use Rattle.program_typing.specs.Walk.{are_own, is_of_other}
use Rattle.program_typing.proofs.functions.fits_signature.Goals as goal

pub returns : goal.returns
returns c = λ told. λ i.
    (c.in_ok-params.ensures told ∙ λ j. are_own (at_tests c.args.around told.tests) (c.as_slice.ensures j) (with_receiver c.args.receiver (c.as_slice-2.ensures j))) i
    && ((c.are_own-results.ensures told ∙ λ j. are_own (at_tests c.args.around told.tests) (c.as_slice-3.ensures j) (c.as_slice-4.ensures j)) i
    && ((c.are_of_others-captured.ensures told ∙ ap (λ (ids : List VarId). list_all (is_of_other (at_tests c.args.around told.tests)) ids) c.as_slice-5.ensures) i
    && (c.in_ok-block.ensures told ∙ (ap (λ (v : Within). fits_block (at_tests c.args.around told.tests) c.args.body.now.block v) c.inside.ensures ∙ ap (λ (rs : List TypeId). fits_block (at_tests c.args.around told.tests) c.args.body.now.block (inside rs)) c.as_slice-6.ensures)) i))
