-- Operands have one value in both machines.
use Rattle.std.proofs.Common.{ℕ, ◌≡◌, List, [], ◌∷◌, Option, Some, None, refl, sym, ap, ap₂, ◌∙◌}
use Rattle.std.proofs.lemmas.Option.{none-some, same_Some}
use Rattle.std.specs.Option.{option_and_then, option_map}
use Rattle.code_plan.specs.Operands.{IsArg, AreArgs}
use Rattle.code_plan.specs.Registers.{late_at, register_slot}
use Rattle.code_plan.specs.declared.steps.Arg.{Arg}
use Rattle.code_plan.specs.declared.steps.Arg.TheVariants as arg
use Rattle.code_plan.specs.declared.steps.Step.{Step}
use Rattle.go_store.specs.Stores.{loaded}
use Rattle.go_value.specs.Values.{Val}
use Rattle.plan_laws.proofs.Acting.{Acting, IsActing, plan_site, acting_on}
use Rattle.plan_laws.proofs.Alike.{Known, IsHeld, register_of, slot_of}
use Rattle.plan_mean.specs.Operands.{look, look_in, look_at_all, in_cell}
use Rattle.plan_mean.specs.Slots.{top_of}
use Rattle.ssa_ir.specs.declared.operands.Operand.{Operand}
use Rattle.ssa_ir.specs.declared.operands.Operand.TheVariants as operand
use Rattle.ssa_mean.specs.Operands.{value_of, values_of, with_value}

-- ---- one operand

-- a register that is loaded late: its cell holds what it holds
late_value : (k : Known) (a : Acting) (step : Step) → IsActing k a step → (n slot : ℕ) (found : Option ℕ)
    → late_at a.pending n ≡ found → option_map (register_slot a.function) found ≡ Some slot
    → look_in a.q.store a.q.current.slots (arg.Cell slot) ≡ register_of a.frame n
late_value k a step acting n slot None is same = absurd (none-some slot same)
late_value k a step acting n slot (Some cell) is same =
    ap (option_and_then (in_cell a.q.store))
    (ap (slot_of (top_of a.q.current.slots)) (sym (same_Some (register_slot a.function cell) slot same))
    ∙ acting.top.is.slots.register cell held.slotted ∙ held.points)
    ∙ ap (λ store. loaded store held.at) acting.top.around.store ∙ held.loads ∙ sym held.held
  where
    held : IsHeld (k.marks a.frame.function.number) a.m.store a.frame n cell
    held = acting.held n cell is

pub one_value : (k : Known) (a : Acting) (step : Step) → IsActing k a step → (it : Operand) (arg : Arg)
    → IsArg (plan_site k a) it arg → look (acting_on a) arg ≡ value_of k.code a.frame it
one_value k a step acting (operand.Param n) (arg.Slot slot) is =
    ap (slot_of (top_of a.q.current.slots)) is.0 ∙ acting.top.is.slots.parameter n is.1
one_value k a step acting (operand.Free n) (arg.Slot slot) is =
    ap (slot_of (top_of a.q.current.slots)) is.0 ∙ acting.top.is.slots.free n is.1
one_value k a step acting (operand.Register n) (arg.Slot slot) is =
    ap (slot_of (top_of a.q.current.slots)) is.0 ∙ acting.top.is.slots.register n is.1
one_value k a step acting (operand.Register n) (arg.Cell slot) is =
    late_value k a step acting n slot (late_at a.pending n) refl is.0
one_value k a step acting (operand.Function id) (arg.Held it) is = ap (λ (x : Val). Some x) is
one_value k a step acting (operand.Variable variable) (arg.Held it) is = ap (λ (x : Val). Some x) is
one_value k a step acting (operand.Constant it of) (arg.Held held) is = sym is
one_value k a step acting _ _ is = absurd is

-- ---- many

pub all_values : (k : Known) (a : Acting) (step : Step) → IsActing k a step → (its : List Operand) (args : List Arg)
    → AreArgs (plan_site k a) its args → look_at_all (acting_on a) args ≡ values_of k.code a.frame its
all_values k a step acting [] [] are = refl
all_values k a step acting (it ∷ its) (arg ∷ args) are =
    ap₂ with_value (one_value k a step acting it arg are.0) (all_values k a step acting its args are.1)
all_values k a step acting _ _ are = absurd are
