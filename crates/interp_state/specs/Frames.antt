-- The frames of a goroutine's stack of slots.
use Rattle.std.specs.Prelude.{◌≡◌, ℕ, ◌-◌, List, [], ◌∷◌, Option, None, drop, length, map, option_map, reverse}
use Rattle.std.specs.Prelude.{slice_set, take, vec_capacity}
use Rattle.interp_state.specs.declared.stack.RegStack.{RegStack}
use Rattle.go_value.specs.Values.{Val, value_of}
use Rattle.go_value.specs.declared.values.Value.{Value}

-- the frames, kept one behind another, the top one first: the top one begins at a place, and each one below where it is
-- told
abbrev pub frames_from : {A : Type 0} → List A → ℕ → List ℕ → List (List A)
frames_from slots base [] = []
frames_from slots base (below ∷ others) = drop base slots ∷ frames_from (take base slots) below others

-- what the slots hold
abbrev pub seen : List (Option Value) → List (Option Val)
seen slots = map (option_map value_of) slots

-- the slots of the frames, the top frame first
abbrev pub frames_of : RegStack → List (List (Option Val))
frames_of stack = frames_from (seen stack.slots.items) stack.base (reverse stack.bases.items)

-- ---- how many frames, and how many slots, are added without memory

abbrev pub spare_frames : RegStack → ℕ
spare_frames stack = vec_capacity stack.bases - length stack.bases.items

abbrev pub spare_slots : RegStack → ℕ
spare_slots stack = vec_capacity stack.slots - length stack.slots.items

abbrev pub KeepsSpare : RegStack → RegStack → Type 0
KeepsSpare old new = (spare_frames new ≡ spare_frames old) × (spare_slots new ≡ spare_slots old)

-- ---- what a call leaves

-- a slot of the top frame is unset
abbrev pub without_slot : {A : Type 0} → ℕ → List (List (Option A)) → List (List (Option A))
without_slot slot [] = []
without_slot slot (top ∷ below) = slice_set top slot None ∷ below
