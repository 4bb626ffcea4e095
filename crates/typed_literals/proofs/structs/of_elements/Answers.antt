use Rattle.std.proofs.Common.{◌≡◌, ap, sym, subst, ◌∙◌, List, Option, Result}
use Rattle.go_base.specs.declared.memory.NoMemory.{NoMemory}
use Rattle.go_tree.specs.declared.exprs.Elements.TheVariants.{Fields}
use Rattle.go_tree.specs.declared.exprs.TypedExpr.{TypedExpr}
use Rattle.std.specs.Prelude.{Bool}
use Rattle.typed_parts.specs.Joining.{items_of}
use Rattle.typed_parts.specs.Turning.{Turned, Turns}
use Rattle.typed_parts.specs.Judged.{reported}
use Rattle.typed_literals.specs.declared.structs.Element.{Element}
use Rattle.typed_literals.specs.Composing.{IsNode}
use Rattle.typed_literals.specs.Structs.{AreFields, are_alike, is_keyed, unlike_broken}
use Rattle.typed_literals.proofs.Structures.{struct_made, struct_nothing}
use Rattle.typed_literals.proofs.structs.of_elements.Goals as goal

pub returns-in-Some : goal.returns-in-Some
returns-in-Some c =
    let literal = c.args.literal in
    let elements = c.args.elements.items in
    let of = c.args.package in
    let last = c.fields_of_each.new.ground in
    let o = c.in_ok-fields.fields in
    let keyed : c.is_keyed-keyed.result ≡ is_keyed elements = c.is_keyed-keyed.ensures ∙ ap is_keyed c.as_slice.ensures.value in
    let told : c.ask_keys-alike.result ≡ are_alike (is_keyed elements) elements =
    c.ask_keys-alike.ensures.alike ∙ (ap (λ (k : Bool). are_alike k c.as_slice-2.result.now) keyed ∙ ap (are_alike (is_keyed elements)) c.as_slice-2.ensures.value) in
    let broken : c.ask_keys-alike.new.ground ≡ reported c.args.ground.now (unlike_broken (is_keyed elements) elements) =
    c.ask_keys-alike.ensures.broken
    ∙ (ap (λ (k : Bool). reported c.args.ground.now (unlike_broken k c.as_slice-2.result.now)) keyed
    ∙ ap (λ (es : List Element). reported c.args.ground.now (unlike_broken (is_keyed elements) es)) c.as_slice-2.ensures.value) in
    let are = subst (λ (k : Bool). Turned c.ask_keys-alike.new.ground last (items_of o) (AreFields k of literal.of elements)) keyed c.in_ok-fields.ensures in
    let made = subst (λ (r : Result (Option TypedExpr) NoMemory). Turns last c.literal_node-expr.new.ground r (IsNode literal literal.of (Fields c.in-Some.fields))) (sym c.sound.ensures) c.literal_node-expr.ensures in
    struct_made c.args.ground.now c.ask_keys-alike.new.ground last c.literal_node-expr.new.ground of literal elements c.ask_keys-alike.result o c.in-Some.fields c.sound.result
    told broken are (sym c.only.ensures ∙ c.in-Some.is) made

pub returns-in-None : goal.returns-in-None
returns-in-None c =
    let literal = c.args.literal in
    let elements = c.args.elements.items in
    let of = c.args.package in
    let last = c.fields_of_each.new.ground in
    let o = c.in_ok-fields.fields in
    let keyed : c.is_keyed-keyed.result ≡ is_keyed elements = c.is_keyed-keyed.ensures ∙ ap is_keyed c.as_slice.ensures.value in
    let told : c.ask_keys-alike.result ≡ are_alike (is_keyed elements) elements =
    c.ask_keys-alike.ensures.alike ∙ (ap (λ (k : Bool). are_alike k c.as_slice-2.result.now) keyed ∙ ap (are_alike (is_keyed elements)) c.as_slice-2.ensures.value) in
    let broken : c.ask_keys-alike.new.ground ≡ reported c.args.ground.now (unlike_broken (is_keyed elements) elements) =
    c.ask_keys-alike.ensures.broken
    ∙ (ap (λ (k : Bool). reported c.args.ground.now (unlike_broken k c.as_slice-2.result.now)) keyed
    ∙ ap (λ (es : List Element). reported c.args.ground.now (unlike_broken (is_keyed elements) es)) c.as_slice-2.ensures.value) in
    let are = subst (λ (k : Bool). Turned c.ask_keys-alike.new.ground last (items_of o) (AreFields k of literal.of elements)) keyed c.in_ok-fields.ensures in
    struct_nothing c.args.ground.now c.ask_keys-alike.new.ground last of literal elements c.ask_keys-alike.result o
    told broken are (sym c.only.ensures ∙ c.in-None.is)
