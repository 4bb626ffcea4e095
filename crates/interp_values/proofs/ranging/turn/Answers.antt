use Rattle.std.proofs.Common.{◌∙◌, ◌∷◌, [], ◌++◌, ap, List}
use Rattle.go_value.specs.declared.values.Part.{Part}
use Rattle.go_value.specs.declared.values.Value.TheVariants as values
use Rattle.interp_values.proofs.Turned.{plain, triple_is, told}
use Rattle.interp_values.proofs.ranging.turn.Goals as goal

pub returns : goal.returns
returns c =
    told c.parts.result _ _
    (triple_is c.args.there c.args.key c.args.value c.push-3.new.self.items
    (c.in_ok-push-3.ensures.items
    ∙ ap (λ (parts : List Part). parts ++ c.plain-3.result ∷ [])
    (c.in_ok-push-2.ensures.items
    ∙ ap (λ (parts : List Part). parts ++ c.plain-2.result ∷ [])
    (c.in_ok-push.ensures.items ∙ ap (λ (parts : List Part). parts ++ c.plain.result ∷ []) c.new-parts.ensures.items))
    ∙ ap (λ (first : Part). first ∷ c.plain-2.result ∷ c.plain-3.result ∷ []) c.plain.ensures
    ∙ ap (λ (second : Part). plain (values.Truth c.args.there) ∷ second ∷ c.plain-3.result ∷ []) c.plain-2.ensures
    ∙ ap (λ (third : Part). plain (values.Truth c.args.there) ∷ plain c.args.key ∷ third ∷ []) c.plain-3.ensures))
    c.parts.ensures
