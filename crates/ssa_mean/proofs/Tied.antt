-- What the contracts on stores allow of `append` is one store.
use Rattle.std.proofs.Common.{◌≡◌, [], ◌∷◌, Bool, true, false}
use Rattle.std.specs.Prelude.{MatchBool, if◌then◌else◌, length}
use Rattle.go_store.specs.Slices.{has_room}
use Rattle.go_store.specs.Stores.{Stored}
use Rattle.ssa_mean.specs.Ties.{AppendsOne}

chosen : (b : Bool) (new old grown : Stored) (P : Type 0) → MatchBool b (new ≡ old) (P × (new ≡ grown))
    → new ≡ (if b then old else grown)
chosen true new old grown P h = h
chosen false new old grown P h = h.1

pub appends_one : AppendsOne
appends_one leaves old it [] new h = h
appends_one leaves old it (first ∷ items) new h = chosen (has_room it (length (first ∷ items))) new _ _ _ h
