-- Frames of which a register is written: their slots, the cells that registers point to, what is pending, and where they
-- stand.
use Rattle.std.proofs.Common.{◌≡◌, ℕ, zero, suc, ◌<◌, ◌≤◌, List, [], ◌∷◌, ◌⊎◌, inl, inr, Option, Some, None, refl}
use Rattle.std.proofs.Common.{sym, ap, ap₂, subst, subst₂, ◌∙◌, length, drop, arith, Bool, true, false, true≢false}
use Rattle.std.proofs.lemmas.Option.{none-some, slice_get_past}
use Rattle.std.specs.Prelude.{slice_get, slice_set}
use Rattle.std.specs.Option.{option_flatten, option_map}
use Rattle.code_plan.specs.Forms.{LeadsOn, next_of}
use Rattle.code_plan.specs.Plans.{Goes}
use Rattle.code_plan.specs.Registers.{Marks, Pending, late_at, free_slot, register_slot}
use Rattle.code_plan.specs.declared.steps.PlannedFunction.{PlannedFunction}
use Rattle.code_plan.specs.declared.steps.Step.{Step}
use Rattle.go_base.specs.declared.ids.FuncId.{FuncId}
use Rattle.go_store.specs.Stores.{Stored}
use Rattle.go_value.specs.Values.{Val}
use Rattle.plan_laws.proofs.Acting.{MayPoint}
use Rattle.plan_laws.proofs.Alike.{Known, HasSlots, HasCells, IsHeld, ArePending, IsPlaced, IsAt, IsOnWay, standing, on_way}
use Rattle.plan_laws.proofs.Alike.{IsWholeWhere, register_of, slot_of}
use Rattle.plan_laws.proofs.Lists.{get_set, get_set_other, length_set, item_below}
use Rattle.plan_mean.specs.Slots.{top_of, below_top, with_slot}
use Rattle.plan_mean.specs.State as plans
use Rattle.ssa_ir.specs.Blocks.{instrs_at}
use Rattle.ssa_ir.specs.declared.code.Function.{Function}
use Rattle.ssa_ir.specs.declared.ops.Instr.{Instr}
use Rattle.ssa_mean.specs.State as codes

-- ---- places of lists

-- whether two numbers are one
pub one_or_other : (n k : ℕ) → (n ≡ k) ⊎ (n ≡ k → ⊥)
one_or_other zero zero = inl refl
one_or_other zero (suc k) = inr (λ h. absurd (omega arith))
one_or_other (suc n) zero = inr (λ h. absurd (omega arith))
one_or_other (suc n) (suc k) = of_both (one_or_other n k)
  where
    of_both : (n ≡ k) ⊎ (n ≡ k → ⊥) → (suc n ≡ suc k) ⊎ (suc n ≡ suc k → ⊥)
    of_both (inl same) = inl (ap suc same)
    of_both (inr other) = inr (λ h. other (omega arith))

pub within_or_past : (n k : ℕ) → (n < k) ⊎ (k ≤ n)
within_or_past n zero = inr (omega arith)
within_or_past zero (suc k) = inl (omega arith)
within_or_past (suc n) (suc k) = of_both (within_or_past n k)
  where
    of_both : (n < k) ⊎ (k ≤ n) → (suc n < suc k) ⊎ (suc k ≤ suc n)
    of_both (inl below) = inl (omega arith)
    of_both (inr past) = inr (omega arith)

-- what a row of slots has at a place that is written
pub put_here : (row : List (Option Val)) (n : ℕ) (it : Val) → n < length row
    → slot_of (slice_set row n (Some it)) n ≡ Some it
put_here row n it h =
    let old = item_below row n h in ap option_flatten (get_set row n (Some it) old.0 old.1)

pub put_past : (row : List (Option Val)) (n : ℕ) (it : Val) → length row ≤ n
    → slot_of (slice_set row n (Some it)) n ≡ None
put_past row n it h =
    ap option_flatten (slice_get_past (slice_set row n (Some it)) n (omega (arith, length_set row n (Some it))))

pub put_other : (row : List (Option Val)) (n i : ℕ) (it : Val) → (i ≡ n → ⊥)
    → slot_of (slice_set row n (Some it)) i ≡ slot_of row i
put_other row n i it other = ap option_flatten (get_set_other row n i (Some it) other)

-- ---- the slots of frames, of which the top one is written

pub top_with : (slots : List (List (Option Val))) (slot : ℕ) (it : Val)
    → top_of (with_slot slot it slots) ≡ slice_set (top_of slots) slot (Some it)
top_with [] slot it = refl
top_with (top ∷ below) slot it = refl

pub below_with : (slots : List (List (Option Val))) (slot : ℕ) (it : Val)
    → below_top (with_slot slot it slots) ≡ below_top slots
below_with [] slot it = refl
below_with (top ∷ below) slot it = refl

-- ---- frames with the same values

pub record HaveSameValues (frame frame' : codes.Frame) : Type 0 where
  pub parameters : frame'.parameters ≡ frame.parameters
  pub free : frame'.free ≡ frame.free
  pub registers : frame'.registers ≡ frame.registers

pub slots_as : (function : Function) (marks : Marks) (frame frame' : codes.Frame) (row : List (Option Val))
    → HaveSameValues frame frame' → HasSlots function marks frame row → HasSlots function marks frame' row
slots_as function marks frame frame' row same has =
    record {
      parameters = ap length same.parameters ∙ has.parameters;
      frees = ap length same.free ∙ has.frees;
      registers = ap length same.registers ∙ has.registers;
      count = has.count;
      parameter = λ n h. has.parameter n h ∙ ap (λ (its : List Val). slice_get its n) (sym same.parameters);
      free = λ n h. has.free n h ∙ ap (λ (its : List Val). slice_get its n) (sym same.free);
      register = λ n h.
          has.register n h ∙ ap (λ (its : List (Option Val)). option_flatten (slice_get its n)) (sym same.registers);
    }

pub held_as : (marks : Marks) (store : Stored) (frame frame' : codes.Frame) (register cell : ℕ)
    → frame'.registers ≡ frame.registers → IsHeld marks store frame register cell
    → IsHeld marks store frame' register cell
held_as marks store frame frame' register cell same is =
    record {
      late = is.late;
      is_cell = is.is_cell;
      slotted = is.slotted;
      at = is.at;
      it = is.it;
      points = ap (λ (its : List (Option Val)). option_flatten (slice_get its cell)) same ∙ is.points;
      loads = is.loads;
      held = ap (λ (its : List (Option Val)). option_flatten (slice_get its register)) same ∙ is.held;
    }

pub pending_as : (marks : Marks) (store : Stored) (pending : Pending) (frame frame' : codes.Frame)
    → frame'.registers ≡ frame.registers → ArePending marks store pending frame → ArePending marks store pending frame'
pending_as marks store pending frame frame' same are register cell h =
    held_as marks store frame frame' register cell same (are register cell h)

-- where nothing is pending
pub none_pending : (marks : Marks) (store : Stored) (frame : codes.Frame) → ArePending marks store [] frame
none_pending marks store frame register cell h = absurd (none-some cell h)

-- ---- a register is written

pub slots_with : (function : Function) (marks : Marks) (frame : codes.Frame) (row : List (Option Val))
    → HasSlots function marks frame row → (register : ℕ) (it : Val)
    → HasSlots function marks (codes.with_register register it frame)
    (slice_set row (register_slot function register) (Some it))
slots_with function marks frame row has register it =
    record {
      parameters = has.parameters;
      frees = has.frees;
      registers = length_set frame.registers register (Some it) ∙ has.registers;
      count = length_set row (register_slot function register) (Some it) ∙ has.count;
      parameter = λ n h.
          put_other row (register_slot function register) n it (λ same. absurd (omega arith)) ∙ has.parameter n h;
      free = λ n h.
          put_other row (register_slot function register) (free_slot function n) it (λ same. absurd (omega arith))
          ∙ has.free n h;
      register = λ n on_time. written n on_time (one_or_other n register);
    }
  where
    here : (n : ℕ) → n ≡ register → (n < length frame.registers) ⊎ (length frame.registers ≤ n)
        → slot_of (slice_set row (register_slot function register) (Some it)) (register_slot function n)
        ≡ register_of (codes.with_register register it frame) n
    here n same (inl within) =
        ap (slot_of (slice_set row (register_slot function register) (Some it))) (ap (register_slot function) same)
        ∙ put_here row (register_slot function register) it (omega (arith, has.count, has.registers, same))
        ∙ sym (ap (register_of (codes.with_register register it frame)) same
        ∙ put_here frame.registers register it (omega arith))
    here n same (inr past) =
        ap (slot_of (slice_set row (register_slot function register) (Some it))) (ap (register_slot function) same)
        ∙ put_past row (register_slot function register) it (omega (arith, has.count, has.registers, same))
        ∙ sym (ap (register_of (codes.with_register register it frame)) same
        ∙ put_past frame.registers register it (omega arith))

    written : (n : ℕ) → marks.late n ≡ false → (n ≡ register) ⊎ (n ≡ register → ⊥)
        → slot_of (slice_set row (register_slot function register) (Some it)) (register_slot function n)
        ≡ register_of (codes.with_register register it frame) n
    written n on_time (inl same) = here n same (within_or_past n (length frame.registers))
    written n on_time (inr other) =
        put_other row (register_slot function register) (register_slot function n) it (λ same. other (omega arith))
        ∙ has.register n on_time
        ∙ sym (put_other frame.registers register n it other)

whole_or_not : (pending : Pending) (it : Val) (is_cell : Bool) → is_cell ≡ true → MayPoint is_cell pending it
    → IsWholeWhere (Some it)
whole_or_not pending it true same may = may.0
whole_or_not pending it false same may = absurd (true≢false (sym same))

pub cells_with : (marks : Marks) (pending : Pending) (frame : codes.Frame) → HasCells marks frame → (register : ℕ)
    → (it : Val) → MayPoint (marks.cell register) pending it → HasCells marks (codes.with_register register it frame)
cells_with marks pending frame has register it may n is = written (one_or_other n register)
  where
    got : ℕ → Option Val
    got place = option_flatten (slice_get (slice_set frame.registers register (Some it)) place)

    here : (n < length frame.registers) ⊎ (length frame.registers ≤ n) → n ≡ register → IsWholeWhere (got n)
    here (inl within) same =
        subst IsWholeWhere (sym (ap got same ∙ put_here frame.registers register it (omega arith)))
        (whole_or_not pending it (marks.cell register) (ap marks.cell (sym same) ∙ is) may)
    here (inr past) same =
        subst IsWholeWhere (sym (ap got same ∙ put_past frame.registers register it (omega arith))) tt

    written : (n ≡ register) ⊎ (n ≡ register → ⊥) → IsWholeWhere (got n)
    written (inl same) = here (within_or_past n (length frame.registers)) same
    written (inr other) = subst IsWholeWhere (sym (put_other frame.registers register n it other)) (has n is)

nothing_pending : (is_cell : Bool) (pending : Pending) (it : Val) → is_cell ≡ true → MayPoint is_cell pending it
    → pending ≡ []
nothing_pending true pending it same may = may.1
nothing_pending false pending it same may = absurd (true≢false (sym same))

-- a register that is written is not loaded late, and is no cell while loads are pending
pub pending_with : (marks : Marks) (store : Stored) (pending : Pending) (frame : codes.Frame)
    → ArePending marks store pending frame → (register : ℕ) (it : Val) → marks.late register ≡ false
    → MayPoint (marks.cell register) pending it
    → ArePending marks store pending (codes.with_register register it frame)
pending_with marks store pending frame are written it on_time may register cell h =
    record {
      late = is.late;
      is_cell = is.is_cell;
      slotted = is.slotted;
      at = is.at;
      it = is.it;
      points = put_other frame.registers written cell it is_other_cell ∙ is.points;
      loads = is.loads;
      held = put_other frame.registers written register it is_other ∙ is.held;
    }
  where
    is : IsHeld marks store frame register cell
    is = are register cell h

    is_other : register ≡ written → ⊥
    is_other same = true≢false (sym is.late ∙ ap marks.late same ∙ on_time)

    is_other_cell : cell ≡ written → ⊥
    is_other_cell same =
        none-some cell (sym (ap (λ (its : Pending). late_at its register)
        (nothing_pending (marks.cell written) pending it (ap marks.cell (sym same) ∙ is.is_cell) may)) ∙ h)

-- ---- where frames stand

pub record StandAlike (frame frame' : codes.Frame) : Type 0 where
  pub function : frame'.function ≡ frame.function
  pub block : frame'.block ≡ frame.block
  pub place : frame'.place ≡ frame.place

pub record ArePlannedAlike (planned planned' : plans.Frame) : Type 0 where
  pub function : planned'.function ≡ planned.function
  pub block : planned'.block ≡ planned.block
  pub steps : planned'.steps ≡ planned.steps
  pub step : planned'.step ≡ planned.step

at_as : (k : Known) (function : Function) (pending : Pending) (frame frame' : codes.Frame) (planned planned' : plans.Frame)
    → StandAlike frame frame' → ArePlannedAlike planned planned' → IsAt k function pending frame planned
    → IsAt k function pending frame' planned'
at_as k function pending frame frame' planned planned' same alike at =
    record {
      same = alike.block ∙ at.same ∙ sym same.block;
      block = at.block;
      is =
          ap (λ (it : PlannedFunction). slice_get it.blocks.items frame'.block) alike.function
          ∙ ap (slice_get planned.function.blocks.items) same.block ∙ at.is;
      steps = alike.steps ∙ at.steps;
      last = at.last;
      goes =
          subst₂ (λ (instrs : List Instr) (steps : List Step).
          Goes k.code function (k.marks frame'.function.number) pending instrs steps at.last)
          (ap₂ (λ (place block : ℕ). drop place (instrs_at function block)) (sym same.place) (sym same.block))
          (ap₂ (λ (step : ℕ) (steps : List Step). drop step steps) (sym alike.step) (sym alike.steps))
          (subst (λ (id : FuncId). Goes k.code function (k.marks id.number) pending
          (drop frame.place (instrs_at function frame.block)) (drop planned.step planned.steps) at.last)
          (sym same.function) at.goes);
    }

on_way_as : (function : Function) (frame frame' : codes.Frame) (planned planned' : plans.Frame)
    → StandAlike frame frame' → ArePlannedAlike planned planned' → IsOnWay function frame planned
    → IsOnWay function frame' planned'
on_way_as function frame frame' planned planned' same alike on =
    record {
      first = same.place ∙ on.first;
      number = on.number;
      next =
          ap (λ (block : ℕ). option_map (λ it. it.number) (next_of (instrs_at function block))) same.block ∙ on.next;
      phis = on.phis;
      leads = subst (LeadsOn function on.number) (sym alike.block) on.leads;
      block = on.block;
      is =
          ap₂ (λ (it : PlannedFunction) (block : ℕ). slice_get it.blocks.items block) alike.function alike.block ∙ on.is;
      steps = alike.steps ∙ on.steps;
      begin = alike.step ∙ on.begin;
    }

pub placed_as : (k : Known) (function : Function) (pending : Pending) (frame frame' : codes.Frame)
    (planned planned' : plans.Frame) → StandAlike frame frame' → ArePlannedAlike planned planned'
    → IsPlaced k function pending frame planned → IsPlaced k function pending frame' planned'
placed_as k function pending frame frame' planned planned' same alike (standing _ _ _ at) =
    standing pending frame' planned' (at_as k function pending frame frame' planned planned' same alike at)
placed_as k function pending frame frame' planned planned' same alike (on_way _ _ on) =
    on_way frame' planned' (on_way_as function frame frame' planned planned' same alike on)

pub stand_alike : (frame : codes.Frame) → StandAlike frame frame
stand_alike frame = record { function = refl; block = refl; place = refl }

pub are_planned_alike : (planned : plans.Frame) → ArePlannedAlike planned planned
are_planned_alike planned = record { function = refl; block = refl; steps = refl; step = refl }

-- the values of a frame do not count for where it stands
pub placed_with : (k : Known) (function : Function) (pending : Pending) (frame : codes.Frame) (planned : plans.Frame)
    → (registers : List (Option Val)) → IsPlaced k function pending frame planned
    → IsPlaced k function pending (record frame { registers = registers }) planned
placed_with k function pending frame planned registers placed =
    placed_as k function pending frame (record frame { registers = registers }) planned planned
    (record { function = refl; block = refl; place = refl }) (are_planned_alike planned) placed
