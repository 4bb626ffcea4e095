use Rattle.std.proofs.Common.{◌≡◌, sym, ◌∙◌}
use Rattle.typed_built_ins.proofs.Makes.{makes, makes_nothing, no_sizes}
use Rattle.typed_built_ins.proofs.making.make_of.Goals as goal

pub returns-in_default : goal.returns-in_default
returns-in_default c =
    no_sizes c.args.ground.now c.whole_sizes.new.ground c.args.call c.args.form c.args.sizes.items c.in_ok-sizes.sizes c.in_ok-sizes.ensures c.in_default.is

pub returns-in-Some-only : goal.returns-in-Some-only
returns-in-Some-only c =
    makes c.args.ground.now c.whole_sizes.new.ground c.ask_order-ordered.new.ground c.args.call c.args.form c.args.sizes.items c.in_ok-sizes.sizes c.in-Some.sizes c.in-Some-only.sizes
    c.first_at-at.result c.ask_order-ordered.result c.node.result c.in_ok-sizes.ensures c.in-Some.is (cc) (cc) (cc) (sym c.only.ensures ∙ c.in-Some-only.is) c.node.ensures

pub returns-in-None : goal.returns-in-None
returns-in-None c =
    makes_nothing c.args.ground.now c.whole_sizes.new.ground c.ask_order-ordered.new.ground c.args.call c.args.form c.args.sizes.items c.in_ok-sizes.sizes c.in-Some.sizes
    c.first_at-at.result c.ask_order-ordered.result c.in_ok-sizes.ensures c.in-Some.is (cc) (cc) (cc) (sym c.only.ensures ∙ c.in-None.is)
