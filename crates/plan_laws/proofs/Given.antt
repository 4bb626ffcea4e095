-- A register of a frame gets a value, and the slot of the planned frame.
use Rattle.std.proofs.Common.{◌≡◌, ℕ, pred, Bool, true, false, List, [], ◌∷◌, Option, Some, None, ap, refl, sym, subst, ◌∙◌}
use Rattle.std.specs.Prelude.{filter, if◌then◌else◌, length}
use Rattle.std.specs.Option.{option_and_then, option_map, option_map_or}
use Rattle.code_plan.specs.Registers.{Pending, register_slot}
use Rattle.go_value.specs.Values.{Val}
use Rattle.plan_laws.proofs.Acting.{MayPoint}
use Rattle.plan_laws.proofs.Alike.{Known, IsFrame, HasSlots, IsPlaced, standing, on_way, AreBelow, GetsResult, IsResult, MayGet, sources_in}
use Rattle.plan_laws.proofs.Lists.{same_count}
use Rattle.plan_laws.proofs.Slots.{top_with, below_with, slots_with, cells_with}
use Rattle.plan_mean.specs.Slots.{top_of, below_top, with_slot}
use Rattle.plan_mean.specs.State as plans
use Rattle.ssa_ir.specs.declared.code.Function.{Function}
use Rattle.ssa_mean.specs.Operands.{function_at}
use Rattle.ssa_mean.specs.State as codes
use Rattle.ssa_mean.specs.Unwinding.{is_source, is_source_kind}

-- the slots where one of the top frame gets a value
abbrev pub slots_after : Option ℕ → Option Val → List (List (Option Val)) → List (List (Option Val))
slots_after (Some slot) (Some it) slots = with_slot slot it slots
slots_after _ _ slots = slots

pub result_slots : (slot : Option ℕ) (it : Option Val) (q : plans.Machine)
    → plans.with_result slot it q ≡ plans.with_slots (slots_after slot it q.current.slots) q
result_slots (Some slot) (Some it) q = refl
result_slots (Some slot) None q = refl
result_slots None (Some it) q = refl
result_slots None None q = refl

pub below_after : (slot : Option ℕ) (it : Option Val) (slots : List (List (Option Val)))
    → below_top (slots_after slot it slots) ≡ below_top slots
below_after (Some slot) (Some it) slots = below_with slots slot it
below_after (Some slot) None slots = refl
below_after None (Some it) slots = refl
below_after None None slots = refl

-- a register that may get a result
frame_with : (k : Known) (function : Function) (frame : codes.Frame) (slots : List (List (Option Val))) (planned : plans.Frame)
    → IsFrame k function frame (top_of slots) planned → (register : ℕ) (it : Val)
    → MayGet (k.marks frame.function.number) (Some register)
    → IsFrame k function (codes.with_register register it frame)
    (top_of (with_slot (register_slot function register) it slots)) planned
frame_with k function frame slots planned is register it may =
    record {
      there = is.there;
      planned_there = is.planned_there;
      slots = subst (λ row. HasSlots function (k.marks frame.function.number) (codes.with_register register it frame) row)
          (sym (top_with slots (register_slot function register) it))
          (slots_with function (k.marks frame.function.number) frame (top_of slots) is.slots register it);
      cells = cells_with (k.marks frame.function.number) [] frame is.cells register it
          (subst (λ b. MayPoint b [] it) (sym may.1) tt);
      deferred = is.deferred;
      state = is.state;
      chain = is.chain;
      passed = is.passed;
      defers = is.defers;
      recovers = is.recovers;
    }

pub frame_given : (k : Known) (function : Function) (frame : codes.Frame) (slots : List (List (Option Val))) (planned : plans.Frame)
    → IsFrame k function frame (top_of slots) planned → (register : Option ℕ) (it : Option Val)
    → MayGet (k.marks frame.function.number) register
    → IsFrame k function (codes.with_result register it frame)
    (top_of (slots_after (option_map (register_slot function) register) it slots)) planned
frame_given k function frame slots planned is (Some register) (Some it) may =
    frame_with k function frame slots planned is register it may
frame_given k function frame slots planned is (Some register) None may = is
frame_given k function frame slots planned is None (Some it) may = is
frame_given k function frame slots planned is None None may = is

-- it stands where it stood
placed_given : (k : Known) (function : Function) (frame : codes.Frame) (planned : plans.Frame)
    → IsPlaced k function [] frame planned → (register : Option ℕ) (it : Option Val)
    → IsPlaced k function [] (codes.with_result register it frame) planned
placed_given k function frame planned is (Some register) (Some it) = placed_with is
  where
    placed_with : {pending : Pending} → IsPlaced k function pending frame planned
        → IsPlaced k function pending (codes.with_register register it frame) planned
    placed_with (standing pending f p at) =
        standing pending _ _ (record {
          same = at.same;
          block = at.block;
          is = at.is;
          steps = at.steps;
          last = at.last;
          goes = at.goes;
        })
    placed_with (on_way f p way) =
        on_way _ _ (record {
          first = way.first;
          number = way.number;
          next = way.next;
          phis = way.phis;
          leads = way.leads;
          block = way.block;
          is = way.is;
          steps = way.steps;
          begin = way.begin;
        })
placed_given k function frame planned is (Some register) None = is
placed_given k function frame planned is None (Some it) = is
placed_given k function frame planned is None None = is

same_function : (register : Option ℕ) (it : Option Val) (frame : codes.Frame)
    → (codes.with_result register it frame).function ≡ frame.function
same_function (Some register) (Some it) frame = refl
same_function (Some register) None frame = refl
same_function None (Some it) frame = refl
same_function None None frame = refl

same_result : (register : Option ℕ) (it : Option Val) (frame : codes.Frame)
    → (codes.with_result register it frame).result ≡ frame.result
same_result (Some register) (Some it) frame = refl
same_result (Some register) None frame = refl
same_result None (Some it) frame = refl
same_result None None frame = refl

-- ---- the frame below gets a result

abbrev pub frames_given : Option ℕ → Option Val → List codes.Frame → List codes.Frame
frames_given register it [] = []
frames_given register it (frame ∷ below) = codes.with_result register it frame ∷ below

slot_is : (k : Known) (register slot : Option ℕ) (caller : codes.Frame) → IsResult k register slot caller
    → (function : Function) → function_at k.code caller.function ≡ Some function
    → option_map (register_slot function) register ≡ slot
slot_is k register slot caller is function there =
    subst (λ (found : Option Function). option_and_then (λ f. option_map (register_slot f) register) found ≡ slot) there is.goes_to

no_result : (slot : Option ℕ) (it : Option Val) (rows : List (List (Option Val))) → slot ≡ None → slots_after slot it rows ≡ rows
no_result None it rows none = none_after it
  where
    none_after : (it : Option Val) → slots_after None it rows ≡ rows
    none_after None = refl
    none_after (Some it) = refl
no_result (Some slot) it rows none = let clash : Some slot ≡ None = none in absurd cc

pub below_given : (k : Known) (frames : List codes.Frame) (rows : List (List (Option Val))) (others : List plans.Frame)
    → AreBelow k frames rows others → (register slot : Option ℕ) → GetsResult k register slot frames → (it : Option Val)
    → AreBelow k (frames_given register it frames) (slots_after slot it rows) others
below_given k [] rows [] alike register slot gets it = tt
below_given k [] rows (planned ∷ others) alike register slot gets it = absurd alike
below_given k (frame ∷ below) rows [] alike register slot gets it = absurd alike
below_given k (frame ∷ below) rows (planned ∷ others) alike register slot gets it =
    subst (λ slot. AreBelow k (codes.with_result register it frame ∷ below) (slots_after slot it rows) (planned ∷ others))
    (slot_is k register slot frame gets alike.0.function alike.0.is.there) (
      record {
        function = alike.0.function;
        is = frame_given k alike.0.function frame rows planned alike.0.is register it gets.may;
        placed = placed_given k alike.0.function frame planned alike.0.placed register it;
        result = subst (λ result. GetsResult k result planned.result below) (sym (same_result register it frame))
            alike.0.result;
      },
      subst (λ rows. AreBelow k below rows others)
          (sym (below_after (option_map (register_slot alike.0.function) register) it rows)) alike.1,
    )

-- ---- how many frames of source functions there are

pub sources_given : (k : Known) (register : Option ℕ) (it : Option Val) (frames : List codes.Frame)
    → sources_in k (frames_given register it frames) ≡ sources_in k frames
sources_given k register it [] = refl
sources_given k register it (frame ∷ below) =
    same_count (is_source k.code) (codes.with_result register it frame) frame below
    (ap (λ id. option_map_or (λ function. is_source_kind function.kind) (function_at k.code id) false)
    (same_function register it frame))

without_first : (b : Bool) (frame : codes.Frame) (frames : List codes.Frame)
    → (if b then pred (length (if b then frame ∷ frames else frames)) else length (if b then frame ∷ frames else frames))
    ≡ length frames
without_first true frame frames = refl
without_first false frame frames = refl

-- without the top frame
pub sources_below : (k : Known) (frame : codes.Frame) (below : List codes.Frame) (count : ℕ) (source : Bool)
    → source ≡ is_source k.code frame → count ≡ sources_in k (frame ∷ below)
    → (if source then pred count else count) ≡ sources_in k below
sources_below k frame below count source same all =
    ap (λ (b : Bool). if b then pred count else count) same
    ∙ ap (λ n. if is_source k.code frame then pred n else n) all
    ∙ without_first (is_source k.code frame) frame (filter (is_source k.code) below)
