use Rattle.std.proofs.Common.{◌≡◌, ◌∙◌, sym, Some, None, subst, Result, Option}
use Rattle.std.specs.Option.{option_zip}
use Rattle.go_base.specs.declared.memory.NoMemory.{NoMemory}
use Rattle.go_tree.specs.declared.exprs.TypedExpr.{TypedExpr}
use Rattle.go_type.specs.Table.{Table}
use Rattle.typed_parts.specs.Turning.{Turns}
use Rattle.typed_parts.proofs.Turns.{nothing, nothing_came, something}
use Rattle.typed_primaries.specs.Indexing.{IsElement, IsElementOf}
use Rattle.typed_primaries.proofs.Follows.{fine_came}
use Rattle.typed_primaries.proofs.Indexes.{IsElementIn, numbers}
use Rattle.typed_primaries.proofs.indexing.numbered_element.Goals as goal

pub returns-in-Some : goal.returns-in-Some
returns-in-Some c =
    let mid = c.index_below.new.ground in
    let x = c.in-Some.x in
    let of = c.args.shape in
    let zipped : option_zip c.in_ok-index.index (Some c.in_ok-index.x) ≡ Some (c.in-Some.index, x) = cc in
    let made = fine_came mid (λ (types : Table). IsElementOf types x of c.in-Some.index) c.element.result c.element.ensures in
    numbers c.args.ground.now mid mid c.args.x c.in_ok-index.x c.args.i of c.known_length-len.result c.index_below.result c.in_ok-index.index
    c.sound.result c.known_length-len.ensures c.index_below.ensures (sym c.beside.ensures ∙ c.in_ok-index.was)
    (something mid mid (IsElementIn of) (option_zip c.in_ok-index.index (Some c.in_ok-index.x)) (c.in-Some.index, x) c.sound.result zipped
    (subst (λ (r : Result (Option TypedExpr) NoMemory). Turns mid mid r (IsElement x of c.in-Some.index)) (sym c.sound.ensures) made))

pub returns-in-None : goal.returns-in-None
returns-in-None c =
    let mid = c.index_below.new.ground in
    let of = c.args.shape in
    let zipped : option_zip c.in_ok-index.index (Some c.in_ok-index.x) ≡ None = cc in
    numbers c.args.ground.now mid mid c.args.x c.in_ok-index.x c.args.i of c.known_length-len.result c.index_below.result c.in_ok-index.index
    (nothing_came {A = TypedExpr}) c.known_length-len.ensures c.index_below.ensures (sym c.beside.ensures ∙ c.in_ok-index.was)
    (nothing mid (IsElementIn of) (option_zip c.in_ok-index.index (Some c.in_ok-index.x)) zipped)
