-- The slots of a frame hold its operands.
use Rattle.std.proofs.Common.{◌≡◌, ℕ, zero, suc, ◌+◌, ◌<◌, List, [], ◌∷◌, ◌++◌, Some, refl, sym, ap}
use Rattle.std.proofs.Common.{◌∙◌, length, arith, zero-add}
use Rattle.std.specs.Prelude.{slice_get, slice_set}
use Rattle.std.specs.Option.{option_flatten}
use Rattle.std.proofs.lemmas.List.{length-map}
use Rattle.std.proofs.Math.Nat.{suc-add}
use Rattle.go_value.specs.Values.{Val}
use Rattle.ssa_mean.specs.Slots.{SlotsTell, slots_of, all_set, register_slot}
use Rattle.ssa_mean.specs.State.{Frame, with_register}

-- ---- lists

get_front : {A : Type 0} (xs ys : List A) (n : ℕ) → n < length xs → slice_get (xs ++ ys) n ≡ slice_get xs n
get_front [] ys n h = let no : ⊥ = omega arith in absurd no
get_front (x ∷ xs) ys zero h = refl
get_front (x ∷ xs) ys (suc n) h = let below : n < length xs = omega arith in get_front xs ys n below

get_behind : {A : Type 0} (xs ys : List A) (n : ℕ) → slice_get (xs ++ ys) (length xs + n) ≡ slice_get ys n
get_behind [] ys n = ap (slice_get ys) (zero-add n)
get_behind (x ∷ xs) ys n = ap (slice_get (x ∷ (xs ++ ys))) (suc-add (length xs) n) ∙ get_behind xs ys n

set_behind : {A : Type 0} (xs ys : List A) (n : ℕ) (it : A)
    → slice_set (xs ++ ys) (length xs + n) it ≡ xs ++ slice_set ys n it
set_behind [] ys n it = ap (λ k. slice_set ys k it) (zero-add n)
set_behind (x ∷ xs) ys n it =
    ap (λ k. slice_set (x ∷ (xs ++ ys)) k it) (suc-add (length xs) n) ∙ ap (λ rest. x ∷ rest) (set_behind xs ys n it)

get_set : (values : List Val) (n : ℕ) → option_flatten (slice_get (all_set values) n) ≡ slice_get values n
get_set [] n = refl
get_set (it ∷ values) zero = refl
get_set (it ∷ values) (suc n) = get_set values n

set_length : (values : List Val) → length (all_set values) ≡ length values
set_length values = length-map values (λ it. Some it)

-- ---- slots

behind_parameters : (frame : Frame) (n : ℕ)
    → slice_get (slots_of frame) (length frame.parameters + n) ≡ slice_get (all_set frame.free ++ frame.registers) n
behind_parameters frame n =
    ap (λ k. slice_get (slots_of frame) (k + n)) (sym (set_length frame.parameters))
    ∙ get_behind (all_set frame.parameters) (all_set frame.free ++ frame.registers) n

behind_free : (frame : Frame) (n : ℕ)
    → slice_get (all_set frame.free ++ frame.registers) (length frame.free + n) ≡ slice_get frame.registers n
behind_free frame n =
    ap (λ k. slice_get (all_set frame.free ++ frame.registers) (k + n)) (sym (set_length frame.free))
    ∙ get_behind (all_set frame.free) frame.registers n

written_behind : (frame : Frame) (n : ℕ) (it : Val)
    → slots_of (with_register n it frame) ≡ slice_set (slots_of frame) (register_slot frame n) (Some it)
written_behind frame n it =
    sym (ap (λ k. slice_set (slots_of frame) (k + (length frame.free + n)) (Some it)) (sym (set_length frame.parameters))
    ∙ set_behind (all_set frame.parameters) (all_set frame.free ++ frame.registers) (length frame.free + n) (Some it)
    ∙ ap (λ rest. all_set frame.parameters ++ rest)
    (ap (λ k. slice_set (all_set frame.free ++ frame.registers) (k + n) (Some it)) (sym (set_length frame.free))
    ∙ set_behind (all_set frame.free) frame.registers n (Some it)))

pub slots_tell_lem : SlotsTell
slots_tell_lem = record {
  parameter = λ code frame n h.
      let within : n < length (all_set frame.parameters) = omega (arith, h, set_length frame.parameters) in
      ap option_flatten (get_front (all_set frame.parameters) (all_set frame.free ++ frame.registers) n within)
      ∙ get_set frame.parameters n;
  free = λ code frame n h.
      let within : n < length (all_set frame.free) = omega (arith, h, set_length frame.free) in
      ap option_flatten (behind_parameters frame n ∙ get_front (all_set frame.free) frame.registers n within)
      ∙ get_set frame.free n;
  register = λ code frame n.
      ap option_flatten (behind_parameters frame (length frame.free + n) ∙ behind_free frame n);
  written = written_behind;
}
