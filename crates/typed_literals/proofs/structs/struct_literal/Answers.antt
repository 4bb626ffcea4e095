use Rattle.std.proofs.Common.{◌≡◌, sym, subst, Some}
use Rattle.std.specs.Global.{Vec}
use Rattle.std.specs.Option.{option_zip}
use Rattle.go_tree.specs.declared.exprs.TypedExpr.{TypedExpr}
use Rattle.std.proofs.Common.{None}
use Rattle.typed_parts.specs.Turning.{Turns}
use Rattle.typed_parts.proofs.Turns.{nothing, nothing_came, something}
use Rattle.typed_literals.specs.declared.composing.Literal.{Literal}
use Rattle.typed_literals.specs.declared.structs.Element.{Element}
use Rattle.typed_literals.specs.Structs.{IsStruct, struct_of}
use Rattle.typed_literals.proofs.Structures.{literal_asked, zip_first, zip_nothing, zip_second}
use Rattle.typed_literals.proofs.structs.struct_literal.Goals as goal

pub returns-in-Some : goal.returns-in-Some
returns-in-Some c =
    let mid = c.each_asked.new.ground in
    let new = c.of_elements.new.ground in
    let elements = c.in_ok-elements.elements in
    let of = c.args.package in
    let pair : option_zip (struct_of c.args.literal) (Some elements) ≡ Some (c.in-Some.literal, c.in-Some.elements) = cc in
    let same = zip_second (struct_of c.args.literal) elements c.in-Some.literal c.in-Some.elements pair in
    let goes = subst (λ (v : Vec Element). Turns mid new c.of_elements.result (IsStruct of c.in-Some.literal v.items)) (sym same) c.of_elements.ensures in
    literal_asked c.args.ground.now mid new of c.args.elements.items c.args.literal elements.items c.of_elements.result c.in_ok-elements.ensures.asked c.in_ok-elements.ensures.broken
    (something mid new (λ (l : Literal). IsStruct of l elements.items) (struct_of c.args.literal) c.in-Some.literal c.of_elements.result
    (zip_first (struct_of c.args.literal) elements c.in-Some.literal c.in-Some.elements pair) goes)

pub returns-in-None : goal.returns-in-None
returns-in-None c =
    let mid = c.each_asked.new.ground in
    let elements = c.in_ok-elements.elements in
    let of = c.args.package in
    let pair : option_zip (struct_of c.args.literal) (Some elements) ≡ None = cc in
    literal_asked c.args.ground.now mid mid of c.args.elements.items c.args.literal elements.items (nothing_came {A = TypedExpr}) c.in_ok-elements.ensures.asked c.in_ok-elements.ensures.broken
    (nothing mid (λ (l : Literal). IsStruct of l elements.items) (struct_of c.args.literal) (zip_nothing (struct_of c.args.literal) elements pair))
