-- What a function of a checker answers, and what it reports.
use Rattle.std.specs.Prelude.{◌≡◌, Option, Result, Ok, Err}
use Rattle.std.specs.Option.{option_map}
use Rattle.go_faults.specs.declared.least.Least.{Least}
use Rattle.go_faults.specs.Faults.{least_with}
use Rattle.go_faults.specs.Seen.{Seen}

-- the answer is what is sound, and what is broken was reported
abbrev pub Sees : {X Y : Type 0} → (X → Y) → Option X → Least → Least → Seen Y → Type 0
Sees view answer old new seen = (option_map view answer ≡ seen.sound) × (new.fault ≡ least_with old.fault seen.broken)

-- the same, unless memory ran out
abbrev pub Reports : {X Y E : Type 0} → (X → Y) → Result (Option X) E → Least → Least → Seen Y → Type 0
Reports view (Ok answer) old new seen = Sees view answer old new seen
Reports view (Err error) old new seen = Unit {0}
