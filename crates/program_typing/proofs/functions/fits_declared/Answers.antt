use Rattle.std.proofs.Common.{◌∙◌, ap, sym, Option, Some}
use Rattle.expr_typing.specs.Telling.{at_tests}
use Rattle.program_typing.proofs.Both.{told_as}
use Rattle.go_type.specs.declared.term.TypeTerm.{TypeTerm}
use Rattle.std.specs.Prelude.{false}
use Rattle.std.specs.Option.{option_map_or}
use Rattle.go_type.specs.declared.term.Signature.{Signature}
use Rattle.typed_trees.specs.Around.{signature_in}
use Rattle.typed_trees.specs.Programs.{fits_signature}
use Rattle.program_typing.proofs.functions.fits_declared.Goals as goal

pub returns-in-Some-Func : goal.returns-in-Some-Func
returns-in-Some-Func c = λ told. told_as _ _ _ (c.fits_signature.ensures told) (ap (λ (o : Option TypeTerm). option_map_or (λ (s : Signature). fits_signature (at_tests c.args.around told.tests) c.args.body.now c.args.decl.now.receiver s) (signature_in o) false) (ap Some (sym c.in-Some-Func.field-0-is) ∙ c.in-Some-Func.ensures))
