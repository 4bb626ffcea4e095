use Rattle.std.proofs.Common.{◌∷◌, [], ap, map}
use Rattle.go_value.specs.Values.{chan_number, value_of}
use Rattle.interp_state.specs.Machines.{machine_of}
use Rattle.plan_mean.specs.Step.{close_of}
use Rattle.interp_builtins.proofs.Worlds.{told}
use Rattle.interp_builtins.proofs.built_ins.close.Goals as goal

pub returns-in-Some : goal.returns-in-Some
returns-in-Some c =
    let m = c.args.machine.now in
    told c.close_chan.result m c.close_chan.new.machine
    (λ w. close_of w (machine_of m) (chan_number c.in-Some.chan ∷ []))
    (λ w. close_of w (machine_of m) (map value_of m.waiting.items)) (λ w. ap (close_of w
    (machine_of m)) c.in-Some.ensures)
    c.close_chan.ensures
