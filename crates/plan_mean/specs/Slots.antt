-- The slots of frames, the top frame first. A slot that is not written yet has no value.
use Rattle.std.specs.Prelude.{ℕ, suc, List, [], ◌∷◌, replicate, slice_get, slice_set, Option, Some, None}
use Rattle.std.specs.Option.{option_flatten}

-- the slots of the top frame; none where there is no frame
abbrev pub top_of : {A : Type 0} → List (List A) → List A
top_of [] = []
top_of (top ∷ below) = top

abbrev pub below_top : {A : Type 0} → List (List A) → List (List A)
below_top [] = []
below_top (top ∷ below) = below

-- a frame of slots that are not written yet, on top
abbrev pub with_frame : {A : Type 0} → ℕ → List (List (Option A)) → List (List (Option A))
with_frame count frames = replicate count None ∷ frames

-- what a slot of the top frame holds; None where it is not written yet, or there is no such slot
abbrev pub slot_in : {A : Type 0} → List (List (Option A)) → ℕ → Option A
slot_in frames slot = option_flatten (slice_get (top_of frames) slot)

-- a slot of the top frame holds a value
abbrev pub with_slot : {A : Type 0} → ℕ → A → List (List (Option A)) → List (List (Option A))
with_slot slot it [] = []
with_slot slot it (top ∷ below) = slice_set top slot (Some it) ∷ below

-- slots from one on hold values, one each
abbrev pub with_slots_from : {A : Type 0} → ℕ → List A → List (List (Option A)) → List (List (Option A))
with_slots_from slot [] frames = frames
with_slots_from slot (it ∷ others) frames = with_slot slot it (with_slots_from (suc slot) others frames)
