use Rattle.std.proofs.Common.{ap, ◌∙◌, List}
use Rattle.std.specs.Prelude.{◌&&◌}
use Rattle.go_base.specs.declared.ids.VarId.{VarId}
use Rattle.typed_trees.specs.Programs.{fits_declared, within_function}
use Rattle.program_typing.proofs.functions.has_fit_body.Goals as goal

pub returns : goal.returns
returns c = λ told. λ i. c.args.decl.now.has_body && (c.in_ok-fits.ensures told ∙ ap (λ (ids : List VarId). fits_declared (within_function c.args.program.now told.tests c.args.id ids) c.args.body.now c.args.decl.now) c.as_slice.ensures) i
