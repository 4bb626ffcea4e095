-- Frames of wrappers, over which `recover` passes.
use Rattle.std.specs.Prelude.{◌≡◌, Bool, true, List, [], ◌∷◌}
use Rattle.interp_state.specs.declared.frames.Frame.{Frame}
use Rattle.plan_mean.specs.Unwinding.{is_wrapper}

abbrev pub is_wrapper_of : Frame → Bool
is_wrapper_of it = is_wrapper it.function.now.role

abbrev pub AreWrappers : List Frame → Type 0
AreWrappers [] = Unit {0}
AreWrappers (it ∷ others) = (is_wrapper_of it ≡ true) × AreWrappers others
