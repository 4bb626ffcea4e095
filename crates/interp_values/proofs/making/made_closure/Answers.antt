use Rattle.std.proofs.Common.{ap, ◌∙◌, sym}
use Rattle.go_value.specs.Values.{Val}
use Rattle.interp_values.proofs.Made.{closure_made}
use Rattle.ssa_mean.specs.Comes.{to}
use Rattle.interp_values.proofs.making.made_closure.Goals as goal

pub returns : goal.returns
returns c =
    closure_made c.args.machine.now c.args.function c.args.args.now c.in_ok-captured.captured.items
    c.in_ok-captured.ensures
    ∙ ap (λ (v : Val). to v)
    (sym c.in_ok-function.ensures)
