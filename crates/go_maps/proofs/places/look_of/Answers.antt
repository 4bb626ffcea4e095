use Rattle.std.proofs.Common.{ap, ◌∙◌}
use Rattle.go_value.specs.Values.{value_of}
use Rattle.go_maps.specs.Keys.{unhashable, of_bytes}
use Rattle.go_maps.proofs.KindsOf.{number_of}
use Rattle.go_maps.proofs.LookedUp.{other_key}
use Rattle.go_maps.proofs.places.look_of.Goals as goal

pub returns-in-Int-clause-fault : goal.returns-in-Int-clause-fault
returns-in-Int-clause-fault c =
    λ test tells. ap (λ v. unhashable test (value_of v)) c.in-Int.is

pub returns-in_ok-key_bytes-in_default : goal.returns-in_ok-key_bytes-in_default
returns-in_ok-key_bytes-in_default c =
    let key = c.args.key.now in
    record {
      code = ap of_bytes (c.new.ensures ∙ c.in_ok-key_bytes-in_default.ensures.code) ∙ other_key (value_of key) (λ k. let it = number_of key k in c.in_default.not-Int it.0 it.1);
      fault = c.in_ok-key_bytes-in_default.ensures.fault;
    }
