use Rattle.std.proofs.Common.{◌∙◌, ap}
use Rattle.go_base.specs.declared.ids.TypeId.{TypeId}
use Rattle.go_tree.specs.declared.exprs.ExprKind.TheVariants.{PartOf}
use Rattle.typed_parts.specs.Nodes.{node}
use Rattle.typed_primaries.proofs.Lists.{ok_anywhere, ok_nowhere}
use Rattle.typed_primaries.proofs.listing.ok_into.Goals as goal

pub returns-in-Any : goal.returns-in-Any
returns-in-Any c =
    ok_anywhere c.args.ground.now c.args.at c.args.target c.node.result c.in-Any.is
    (c.node.ensures ∙ ap (λ (of : TypeId). node c.args.at of (PartOf 1)) c.basic.ensures)

pub returns-in-Unsound : goal.returns-in-Unsound
returns-in-Unsound c = ok_nowhere c.args.ground.now c.args.at c.args.target c.in-Unsound.is
