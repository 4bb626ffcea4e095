use Rattle.std.proofs.Common.{◌∙◌, sym}
use Rattle.typed_primaries.specs.Listing.{outlined, takes_ok}
use Rattle.typed_primaries.proofs.Lists.{no_form, takes_form}
use Rattle.typed_primaries.proofs.listing.form_into.Goals as goal

pub returns-then-takes_ok : goal.returns-then-takes_ok
returns-then-takes_ok c =
    takes_form c.args.ground.now c.pair_into.new.ground c.args.targets.now c.args.value (takes_ok c.args.with_ok c.args.targets.now c.args.value.expr)
    (outlined c.pair_into.result) (sym c.takes_ok.ensures ∙ c.if-takes_ok.true) c.pair_into.ensures

pub returns : goal.returns
returns c =
    no_form c.args.ground.now c.report.new.self c.args.targets.now c.args.value (takes_ok c.args.with_ok c.args.targets.now c.args.value.expr)
    c.nothing.result (sym c.takes_ok.ensures ∙ c.if-takes_ok.false) c.report.ensures c.nothing.ensures
