use Rattle.std.proofs.Common.{◌≡◌, false, take}
use Rattle.std.specs.List.{list_any}
use Rattle.go_type.specs.declared.methods.MethodEntry.{MethodEntry}
use Rattle.go_type.specs.Selector.{is_wanted}
use Rattle.typed_primaries.specs.Selecting.{wanted}
use Rattle.typed_primaries.proofs.selecting.is_among.Given as goal

abbrev pub invariant-loop-method : goal.invariant-loop-method
invariant-loop-method l =
    list_any (λ (entry : MethodEntry). is_wanted (wanted l.selected) entry.name entry.«package») (take l.method-index l.methods) ≡ false
