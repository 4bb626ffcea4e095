-- What is reported in two goes.
use Rattle.std.proofs.Common.{◌≡◌, refl, ap, List, [], ◌∷◌, ◌++◌, map, Option, Some}
use Rattle.go_faults.specs.declared.fault.Fault.{Fault}
use Rattle.go_faults.specs.Faults.{least_with, lesser}
use Rattle.typed_parts.specs.declared.ground.Ground.{Ground}
use Rattle.typed_parts.specs.Judged.{Broken, fault_in, reported}

faults_after : (base : Ground) (least : Option Fault) (one other : List Broken)
    → least_with (least_with least (map (fault_in base) one)) (map (fault_in base) other)
    ≡ least_with least (map (fault_in base) (one ++ other))
faults_after base least [] other = refl
faults_after base least (b ∷ one) other = faults_after base (Some (lesser least (fault_in base b))) one other

pub reported_after : (base : Ground) (one other : List Broken)
    → reported (reported base one) other ≡ reported base (one ++ other)
reported_after base one other =
    ap (λ fault. record base { least = record { fault = fault } }) (faults_after base base.least.fault one other)
