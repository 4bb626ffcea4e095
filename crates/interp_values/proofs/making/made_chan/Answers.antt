use Rattle.std.proofs.Common.{ap, ◌∙◌, rules, subst, sym}
use Rattle.std.specs.Int.{w128}
use Rattle.std.specs.Int.RustNames.{FitsSigned}
use Rattle.std.proofs.lemmas.Int.{to_z-of_z}
use Rattle.go_sched.specs.Goroutines.{state_of}
use Rattle.interp_values.proofs.Made.{integer_is}
use Rattle.interp_values.specs.Made.{IsMadeChannel}
use Rattle.ssa_mean.specs.Making.{made_chan}
use Rattle.interp_values.proofs.making.made_chan.Goals as goal

pub returns : goal.returns
returns c =
    let m = c.args.machine.now in
    let fits : FitsSigned w128 c.in_ok-size.size = search rules in
    subst (IsMadeChannel c.chan_of_size.result m c.chan_of_size.new.machine)
    (ap (made_chan c.args.leaves (state_of m.sched)) (to_z-of_z w128 c.in_ok-size.size fits)
    ∙ sym (integer_is m c.args.size.now c.in_ok-size.size (made_chan c.args.leaves (state_of m.sched))
    c.in_ok-size.ensures))
    c.chan_of_size.ensures
