use Rattle.std.proofs.Common.{◌∙◌, sym, inl, inr}
use Rattle.typed_parts.specs.Adapting.{IsAssigned}
use Rattle.typed_parts.specs.Retyping.{IsGiven}
use Rattle.typed_parts.proofs.Adapts.{boxed_comes, no_default, untyped_refused}
use Rattle.typed_parts.proofs.Steps.{weaker}
use Rattle.typed_parts.proofs.adapting.assigned_untyped.Goals as goal

pub returns-then-kind_fits : goal.returns-then-kind_fits
returns-then-kind_fits c =
    weaker c.args.ground.now c.retyped.new.ground (IsGiven c.args.ground.now.types c.args.to c.args.expr) (IsAssigned c.args.ground.now.types (record { at = c.args.at; expr = c.args.expr }) c.args.to) c.retyped.result
    (λ one is. IsAssigned.takes c.args.kind one c.requires (sym c.kind_fits.ensures ∙ c.if-kind_fits.true) is) c.retyped.ensures

pub returns-then-not-is_interface : goal.returns-then-not-is_interface
returns-then-not-is_interface c =
    untyped_refused c.args.ground.now c.refuse.new.ground c.args.at c.args.expr c.args.kind c.args.to c.requires (sym c.kind_fits.ensures ∙ c.if-kind_fits.false)
    (inl (sym c.is_interface.ensures ∙ c.if-not-is_interface.true)) c.refuse.ensures

pub returns-in-Some : goal.returns-in-Some
returns-in-Some c =
    boxed_comes c.args.ground.now c.into_interface.new.ground c.args.at c.args.expr c.args.kind c.in-Some.of c.args.to c.into_interface.result c.requires
    (sym c.kind_fits.ensures ∙ c.if-kind_fits.false) (sym c.is_interface.ensures ∙ c.if-not-is_interface.false)
    (sym c.in-Some.is ∙ c.default_type.ensures) c.into_interface.ensures

pub returns-in-None : goal.returns-in-None
returns-in-None c =
    untyped_refused c.args.ground.now c.refuse-in-None.new.ground c.args.at c.args.expr c.args.kind c.args.to c.requires (sym c.kind_fits.ensures ∙ c.if-kind_fits.false)
    (inr (no_default c.args.kind (sym c.in-None.is ∙ c.default_type.ensures))) c.refuse-in-None.ensures
