use Rattle.std.proofs.Common.{◌∙◌, ◌∷◌, [], ◌++◌, ap}
use Rattle.go_value.specs.Values.{value_of}
use Rattle.interp_state.proofs.Tuples.{pair_is, told}
use Rattle.interp_state.proofs.machine.Machine.with_ok.Goals as goal

pub returns : goal.returns
returns c =
    told c.parts.result _ _
    (pair_is c.args.value c.args.ok c.push-2.new.self.items
    (c.in_ok-push-2.ensures.items
    ∙ ap (λ parts. parts ++ c.plain-2.result ∷ [])
    (c.in_ok-push.ensures.items ∙ ap (λ parts. parts ++ c.plain.result ∷ []) c.new-parts.ensures.items)
    ∙ ap (λ first. first ∷ c.plain-2.result ∷ []) c.plain.ensures
    ∙ ap (λ second. (record { value = value_of c.args.value; blank = _ }) ∷ second ∷ []) c.plain-2.ensures))
    c.parts.ensures
