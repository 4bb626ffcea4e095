use Rattle.std.proofs.Common.{◌≡◌, ◌∙◌, ap, subst, sym, Option}
use Rattle.std.specs.Prelude.{IfOk, option_map}
use Rattle.go_value.specs.Values.{Val, dynamic, value_of}
use Rattle.interp_values.proofs.Made.{held_other}
use Rattle.interp_values.proofs.making.as_type.Goals as goal

pub returns-clause-held : goal.returns-clause-held
returns-clause-held c w within =
    subst (λ (h : Option Val). IfOk c.as_interface.result (λ it. option_map value_of it ≡ h))
    (sym (held_other w (value_of c.args.value.now) c.in-Some.dynamic.now.value c.of-of.result
    c.args.wanted
    (c.in-Some.ensures.some ∙ ap (λ of. dynamic of c.in-Some.dynamic.now.value) (sym c.of-of.ensures)) (sym c.if-eq.ensures)))
    (c.as_interface.ensures.held w within)
