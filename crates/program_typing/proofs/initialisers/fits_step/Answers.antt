use Rattle.std.proofs.Common.{◌∙◌, ap, ℕ, [], Option, None}
use Rattle.std.specs.Prelude.{false}
use Rattle.std.specs.Option.{option_map_or}
use Rattle.go_base.specs.declared.ids.FuncId.{FuncId}
use Rattle.typed_trees.specs.Programs.{initialises_in, within_function}
use Rattle.program_typing.specs.Initialisers.{function_or}
use Rattle.program_typing.proofs.Both.{told_as}
use Rattle.program_typing.proofs.initialisers.fits_step.Goals as goal

pub returns-in-Some : goal.returns-in-Some
returns-in-Some c = λ told ini.
    let p = c.args.program.now in
    let t = told.tests in
    told_as _ _ _ (c.initialises.ensures told)
    (ap (λ (o : Option FuncId). option_map_or (λ (id : FuncId). initialises_in p t (within_function p t id []) c.args.step.now) o false)
    (ap (λ (g : Option ℕ). function_or g None) c.in-Some.ensures.value ∙ ini c.args.step.now.package))
