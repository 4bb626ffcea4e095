use Rattle.std.proofs.Common.{◌≡◌, ◌∙◌, sym, Some, None}
use Rattle.std.specs.Option.{option_zip}
use Rattle.go_tree.specs.declared.exprs.TypedExpr.{TypedExpr}
use Rattle.typed_parts.proofs.Turns.{nothing, nothing_came, something}
use Rattle.typed_primaries.proofs.Selects.{IsSelectedPair, selects_of}
use Rattle.typed_primaries.proofs.selecting.field_or_method.Goals as goal

pub returns-in-Some : goal.returns-in-Some
returns-in-Some c =
    let mid = c.selection_of.new.ground in
    let new = c.selected_by.new.ground in
    let zipped : option_zip c.in_ok-selection.selection (Some c.in_ok-selection.x) ≡ Some (c.in-Some.selection, c.in-Some.x) = sym c.zip.ensures ∙ c.in-Some.is in
    selects_of c.args.ground.now mid new c.args.selected c.args.x c.in_ok-selection.x c.selection_of.result c.in_ok-selection.selection
    c.selected_by.result c.selection_of.ensures (sym c.beside.ensures ∙ c.in_ok-selection.was)
    (something mid new (IsSelectedPair c.args.selected) (option_zip c.in_ok-selection.selection (Some c.in_ok-selection.x))
    (c.in-Some.selection, c.in-Some.x) c.selected_by.result zipped c.selected_by.ensures)

pub returns-in-None : goal.returns-in-None
returns-in-None c =
    let mid = c.selection_of.new.ground in
    let zipped : option_zip c.in_ok-selection.selection (Some c.in_ok-selection.x) ≡ None = sym c.zip.ensures ∙ c.in-None.is in
    selects_of c.args.ground.now mid mid c.args.selected c.args.x c.in_ok-selection.x c.selection_of.result c.in_ok-selection.selection
    (nothing_came {A = TypedExpr}) c.selection_of.ensures (sym c.beside.ensures ∙ c.in_ok-selection.was)
    (nothing mid (IsSelectedPair c.args.selected) (option_zip c.in_ok-selection.selection (Some c.in_ok-selection.x)) zipped)
