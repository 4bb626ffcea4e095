use Rattle.std.proofs.Common.{◌∙◌, ap}
use Rattle.expr_typing.specs.Telling.{method_in}
use Rattle.expr_typing.proofs.Told.{told_method}
use Rattle.expr_typing.proofs.asking.method_of.Goals as goal

pub returns : goal.returns
returns c = λ told.
    c.method_in.ensures
    ∙ (ap (method_in c.args.name c.args.«package») c.as_slice.ensures
    ∙ told_method c.args.around.program.now.types c.args.of c.args.name c.args.«package» told.tests told.told c.in_ok-methods.methods c.in_ok-methods.ensures.sound c.in_ok-methods.ensures.complete)
