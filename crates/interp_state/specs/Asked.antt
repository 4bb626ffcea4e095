-- What was asked of types before, as a machine keeps it.
use Rattle.std.specs.Prelude.{◌≡◌, Bool, Some}
use Rattle.std.specs.declared.hash.BuildHasherDefault.{BuildHasherDefault}
use Rattle.std.specs.declared.hash.FoldHasher.{FoldHasher}
use Rattle.indexmap.specs.IndexMap.{get, IndexMap}
use Rattle.go_base.specs.declared.ids.TypeId.{TypeId}
use Rattle.interp_state.specs.contracts.machine.TypePairPartialEq.TheImpl as generated
use Rattle.interp_state.specs.declared.machine.TypePair.{TypePair}

abbrev pub same_pair : TypePair → TypePair → Bool
same_pair = generated.ghosts.eq

-- each answer that is kept is that of a test
abbrev pub AreAsked : (TypeId → TypeId → Bool) → IndexMap TypePair Bool (BuildHasherDefault FoldHasher) → Type 0
AreAsked test asked =
    (it : TypePair) (answer : Bool) → get same_pair asked it ≡ Some answer → answer ≡ test it.of it.interface
