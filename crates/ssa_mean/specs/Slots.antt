-- A frame as slots: its parameters, its free variables and its registers, in this order.
use Rattle.std.specs.Prelude.{◌≡◌, ℕ, ◌+◌, ◌<◌, List, ◌++◌, map, Option, Some, length, slice_get, slice_set}
use Rattle.std.specs.Option.{option_flatten}
use Rattle.go_value.specs.Values.{Val}
use Rattle.ssa_ir.specs.declared.code.Code.{Code}
use Rattle.ssa_ir.specs.declared.operands.Operand.TheVariants.{Param, Free, Register}
use Rattle.ssa_mean.specs.Operands.{value_of}
use Rattle.ssa_mean.specs.State.{Frame, with_register}

abbrev pub all_set : List Val → List (Option Val)
all_set values = map (λ it. Some it) values

abbrev pub slots_of : Frame → List (Option Val)
slots_of frame = all_set frame.parameters ++ (all_set frame.free ++ frame.registers)

-- the slots of a free variable and of a register
abbrev pub free_slot : Frame → ℕ → ℕ
free_slot frame n = length frame.parameters + n

abbrev pub register_slot : Frame → ℕ → ℕ
register_slot frame n = length frame.parameters + (length frame.free + n)

-- what a slot holds
abbrev pub slot_at : Frame → ℕ → Option Val
slot_at frame slot = option_flatten (slice_get (slots_of frame) slot)

-- operands are read off the slots, and a register is written into its own
pub record SlotsTell : Type 0 where
  pub parameter : (code : Code) (frame : Frame) (n : ℕ) → n < length frame.parameters
      → slot_at frame n ≡ value_of code frame (Param n)
  pub free : (code : Code) (frame : Frame) (n : ℕ) → n < length frame.free
      → slot_at frame (free_slot frame n) ≡ value_of code frame (Free n)
  pub register : (code : Code) (frame : Frame) (n : ℕ)
      → slot_at frame (register_slot frame n) ≡ value_of code frame (Register n)
  pub written : (frame : Frame) (n : ℕ) (it : Val)
      → slots_of (with_register n it frame) ≡ slice_set (slots_of frame) (register_slot frame n) (Some it)
