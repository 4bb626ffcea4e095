use Rattle.std.proofs.Common.{◌≡◌, Some, map, take}
use Rattle.go_interp.specs.Phis.{phi_values}
use Rattle.go_value.specs.Values.{value_of}
use Rattle.interp_state.specs.Machines.{machine_of}
use Rattle.go_interp.proofs.stepping.read_phis.Given as goal

-- the phis so far were read, and nothing else changed
abbrev pub invariant-loop-phi : goal.invariant-loop-phi
invariant-loop-phi l =
    (phi_values (machine_of l.fn.machine) l.fn.from (take l.phi-index l.phis) ≡ Some (map value_of l.machine.waiting.items))
    × (l.machine ≡ record (l.fn.machine) { waiting = l.machine.waiting })
