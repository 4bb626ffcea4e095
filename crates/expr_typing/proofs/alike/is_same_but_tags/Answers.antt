use Rattle.std.proofs.Common.{◌∙◌, ap}
use Rattle.type_bare.specs.Same.{same_to}
use Rattle.expr_typing.proofs.SameTypes.{same_answer}
use Rattle.expr_typing.proofs.alike.is_same_but_tags.Goals as goal

pub returns : goal.returns
returns c =
    same_answer c.args.types.now c.laws.ensures c.args.a c.args.b c.is_same.result
    (c.is_same.ensures ∙ ap (λ n. same_to n c.args.types.now c.args.a c.args.b) c.len.ensures.value)
