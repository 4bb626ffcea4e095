use Rattle.std.proofs.Common.{◌≡◌, None, Some}
use Rattle.std.specs.Prelude.{is_some}
use Rattle.std.specs.Option.{option_zip}
use Rattle.go_tree.specs.declared.exprs.TypedExpr.{TypedExpr}
use Rattle.go_type.specs.Table.{Table}
use Rattle.typed_parts.specs.Joining.{items_of}
use Rattle.typed_built_ins.specs.BuiltIns.{built_in_node}
use Rattle.typed_built_ins.specs.Growing.{IsAppendNode, IsAppended, IsItem, first_type, slice_asked}
use Rattle.typed_parts.specs.Turning.{Asks, IsEach, Soundly}
use Rattle.typed_built_ins.proofs.Grows.{append_made, append_nothing}
use Rattle.typed_parts.proofs.Turns.{asks, came, followed, nothing_came}
use Rattle.typed_built_ins.proofs.growing.append_call.Goals as goal

pub returns-in-Some : goal.returns-in-Some
returns-in-Some c =
    let old = c.args.ground.now in
    let xs = c.args.arguments.items in
    let mid = c.slice_elem-elem.new.ground in
    let last = c.appended.new.ground in
    let elem = c.slice_elem-elem.result in
    let o = c.in_ok-values.values in
    let pair : option_zip (first_type (items_of o)) o ≡ Some (c.in-Some.of, c.in-Some.values) = cc in
    let m : c.node.result ≡ built_in_node c.args.call c.in-Some.of None c.in-Some.values (is_some c.args.call.dots) = cc in
    followed old mid last (Asks (λ (types : Table). slice_asked types xs)) (IsAppended c.args.call xs) elem (came (Some c.node.result))
    (asks old mid (λ (types : Table). slice_asked types xs) elem (cc) (cc))
    (followed mid last last (IsEach (IsItem c.args.call elem) xs) (Soundly (IsAppendNode c.args.call)) (items_of o) (came (Some c.node.result))
    c.in_ok-values.ensures (append_made last c.args.call o c.in-Some.of c.in-Some.values c.node.result pair m))

pub returns-in-None : goal.returns-in-None
returns-in-None c =
    let old = c.args.ground.now in
    let xs = c.args.arguments.items in
    let mid = c.slice_elem-elem.new.ground in
    let last = c.appended.new.ground in
    let elem = c.slice_elem-elem.result in
    let o = c.in_ok-values.values in
    let pair : option_zip (first_type (items_of o)) o ≡ None = cc in
    followed old mid last (Asks (λ (types : Table). slice_asked types xs)) (IsAppended c.args.call xs) elem (nothing_came {A = TypedExpr})
    (asks old mid (λ (types : Table). slice_asked types xs) elem (cc) (cc))
    (followed mid last last (IsEach (IsItem c.args.call elem) xs) (Soundly (IsAppendNode c.args.call)) (items_of o) (nothing_came {A = TypedExpr})
    c.in_ok-values.ensures (append_nothing last c.args.call o pair))
