use Rattle.std.proofs.Common.{◌≡◌, refl, sym, ap, ◌∙◌, Ok}
use Rattle.std.specs.Global.{Box, Vec}
use Rattle.go_tree.specs.declared.exprs.TypedExpr.{TypedExpr}
use Rattle.typed_parts.specs.Joining.{beside}
use Rattle.typed_parts.proofs.Turns.{first_came, second_stays}
use Rattle.typed_built_ins.proofs.Asks.{if_came}
use Rattle.typed_calls.proofs.packing.spread_values.Goals as goal

pub returns : goal.returns
returns c =
    let b = c.in_ok-tuple.tuple in
    let v = c.in_ok-tuple.parts in
    let whole : beside c.boxed.result c.args.parts ≡ Ok (b, v) = sym c.beside.ensures ∙ c.in_ok-tuple.was in
    let is = if_came c.boxed.result (λ (x : Box TypedExpr). x.value ≡ c.args.tuple) b (first_came b v c.boxed.result c.args.parts whole) c.boxed.ensures in
    let same : c.args.parts ≡ v = second_stays b v c.boxed.result c.args.parts whole in
    (b, (v, (is, (sym (ap (λ (l : Vec TypedExpr). l.items) same), refl))))
