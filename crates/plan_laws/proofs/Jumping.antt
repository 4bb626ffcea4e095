-- Jumps: all phis are read before one is written.
use Rattle.std.proofs.Common.{◌≡◌, arith, ℕ, suc, Bool, true, false, List, [], ◌∷◌, Option, Some, None, ap, refl, sym, subst, ◌∙◌}
use Rattle.std.proofs.lemmas.Option.{none-some}
use Rattle.std.specs.Prelude.{◌==◌, ◌&&◌, not, if◌then◌else◌, slice_get}
use Rattle.std.specs.List.{AllZip, find}
use Rattle.std.specs.Option.{option_and_then, option_map}
use Rattle.code_plan.specs.Forms.{LeadsOn, here, on, next_of, jump_of}
use Rattle.code_plan.specs.Plans.{IsPhi, IsEdge, AreEdges}
use Rattle.code_plan.specs.Registers as registers
use Rattle.code_plan.specs.Registers.{Marks, behind, may_give, register_slot}
use Rattle.code_plan.specs.declared.steps.PlannedBlock.{PlannedBlock}
use Rattle.code_plan.specs.declared.steps.PlannedEdge.{PlannedEdge}
use Rattle.code_plan.specs.declared.steps.PlannedFunction.{PlannedFunction}
use Rattle.code_plan.specs.declared.steps.PlannedPhi.{PlannedPhi}
use Rattle.code_plan.specs.declared.steps.Step.{Step}
use Rattle.code_plan.specs.declared.steps.Step.TheVariants as act
use Rattle.go_base.specs.declared.ids.BlockId.{BlockId}
use Rattle.go_value.specs.Values.{Val, truth}
use Rattle.plan_laws.proofs.Acting.{Acting, IsActing, site_of, plan_site, acting_on}
use Rattle.plan_laws.proofs.Alike.{Known, IsKnown, IsFrame, IsPlaced, standing, on_way, placed, Follows, AreBelow, MayGet, IsMachine}
use Rattle.plan_laws.proofs.Blocks.{function_of, planned_block, begins, BlockAt}
use Rattle.plan_laws.proofs.Given.{frame_given}
use Rattle.plan_laws.proofs.Giving.{follows_stuck}
use Rattle.plan_laws.proofs.Frames.{frame_moved}
use Rattle.plan_laws.proofs.Lists.{same_count, some_same}
use Rattle.plan_laws.proofs.Throwing.{at_there}
use Rattle.plan_laws.proofs.Unwinding.{machine_with}
use Rattle.plan_laws.proofs.Reading.{one_value}
use Rattle.plan_laws.proofs.Slots.{none_pending, below_with}
use Rattle.plan_laws.proofs.Values.{IsAlike}
use Rattle.plan_mean.specs.Operands.{look}
use Rattle.plan_mean.specs.Slots.{top_of, below_top, with_slot}
use Rattle.plan_mean.specs.State as plans
use Rattle.plan_mean.specs.Step as planned
use Rattle.plan_mean.specs.Unwinding as planned_unwinding
use Rattle.ssa_ir.specs.Blocks.{instrs_at, instrs_in}
use Rattle.ssa_ir.specs.declared.code.Code.{Code}
use Rattle.ssa_ir.specs.declared.code.Function.{Function}
use Rattle.ssa_ir.specs.declared.operands.Operand.{Operand}
use Rattle.ssa_ir.specs.declared.ops.Instr.{Instr}
use Rattle.ssa_ir.specs.declared.ops.Op.{Op}
use Rattle.ssa_ir.specs.declared.ops.Op.TheVariants as op
use Rattle.ssa_ir.specs.declared.ops.PhiEdge.{PhiEdge}
use Rattle.ssa_mean.specs.Operands.{value_of}
use Rattle.ssa_mean.specs.State as codes
use Rattle.ssa_mean.specs.Step as steps
use Rattle.ssa_mean.specs.Unwinding as steps_of
use Rattle.ssa_mean.specs.Unwinding.{is_phi, phis_first}

-- ---- the place where nothing is pending

abbrev pub settled_at : Acting → Acting
settled_at a = record a { pending = [] }

pub acting_settled : (k : Known) (a : Acting) (step : Step) → IsActing k a step → behind step a.pending ≡ [] → behind step [] ≡ []
    → IsActing k (settled_at a) step
acting_settled k a step acting none none' =
    record {
      top = record {
        is = acting.top.is;
        result = acting.top.result;
        below = acting.top.below;
        around = acting.top.around;
        there = acting.top.there;
        frames = acting.top.frames;
        begin = acting.top.begin;
        fault = acting.top.fault;
        sources = acting.top.sources;
      };
      runs = acting.runs;
      held = none_pending (k.marks a.frame.function.number) a.m.store a.frame;
      place = subst (λ pending. IsPlaced k a.function pending (codes.advanced a.frame) (plans.advanced a.planned))
          (none ∙ sym none') acting.place;
    }

-- ---- phis: the edge from the block that the frame leaves

same_edge : (k : Known) (a : Acting) (step : Step) → IsActing k (settled_at a) step
    → (edges : List PhiEdge) (its : List PlannedEdge) → AllZip (IsEdge (plan_site k (settled_at a))) edges its
    → option_and_then (λ edge. look (acting_on a) edge.value) (find (λ edge. edge.from == a.frame.block) its)
    ≡ option_and_then (λ edge. value_of k.code a.frame edge.value) (find (λ edge. edge.from.number == a.frame.block) edges)
same_edge k a step acting [] [] are = refl
same_edge k a step acting [] (it ∷ its) are = absurd are
same_edge k a step acting (edge ∷ edges) [] are = absurd are
same_edge k a step acting (edge ∷ edges) (it ∷ its) are =
    ap (λ from. option_and_then (λ (e : PlannedEdge). look (acting_on a) e.value)
    (if from == a.frame.block then Some it else find (λ e. e.from == a.frame.block) its)) are.0.source
    ∙ either_edge (edge.from.number == a.frame.block) (λ e. look (acting_on a) e.value) (λ e. value_of k.code a.frame e.value)
    it edge (find (λ e. e.from == a.frame.block) its) (find (λ e. e.from.number == a.frame.block) edges)
    (one_value k (settled_at a) step acting edge.value it.value are.0.value)
    (same_edge k a step acting edges its are.1)
  where
    either_edge : (b : Bool) (f : PlannedEdge → Option Val) (g : PhiEdge → Option Val) (x : PlannedEdge) (y : PhiEdge)
        (xs : Option PlannedEdge) (ys : Option PhiEdge) → f x ≡ g y → option_and_then f xs ≡ option_and_then g ys
        → option_and_then f (if b then Some x else xs) ≡ option_and_then g (if b then Some y else ys)
    either_edge true f g x y xs ys same others = same
    either_edge false f g x y xs ys same others = others

same_phi : (k : Known) (a : Acting) (step : Step) → IsActing k (settled_at a) step → (it : Op) (edges : List PlannedEdge)
    → AreEdges (plan_site k (settled_at a)) it edges
    → option_and_then (λ edge. look (acting_on a) edge.value) (find (λ edge. edge.from == a.frame.block) edges)
    ≡ steps.phi_value (site_of k a) it
same_phi k a step acting (op.Phi edges) its are = same_edge k a step acting edges its are
same_phi k a step acting _ its are = absurd are

-- ---- phis: the frame and the slots with their values

-- a machine with other slots, and a frame with other registers
pub record ArePhis (k : Known) (a : Acting) (base : plans.Machine) (frame : codes.Frame) (q : plans.Machine) : Type 0 where
  pub slots : List (List (Option Val))
  pub machine : q ≡ plans.with_slots slots base
  pub is : IsFrame k a.function frame (top_of slots) a.planned
  pub lower : below_top slots ≡ below_top a.q.current.slots
  pub kept : frame ≡ record (a.frame) { registers = frame.registers }

abbrev pub PhisFollow : Known → Acting → plans.Machine → Option codes.Frame → Option plans.Machine → Type 0
PhisFollow k a base None q = Unit {0}
PhisFollow k a base frame None = Unit {0}
PhisFollow k a base (Some frame) (Some q) = ArePhis k a base frame q

-- the machine over which phis are read: of the frames nothing is read
abbrev pub with_top : Acting → plans.Frame → plans.Machine
with_top a top = plans.with_frames (top ∷ a.others) a.q

one_phi : (k : Known) (a : Acting) (base : plans.Machine) (register : Option ℕ) (slot : ℕ)
    → option_map (register_slot a.function) register ≡ Some slot
    → MayGet (k.marks a.frame.function.number) register → (it : Val) (frame : codes.Frame) (q : plans.Machine)
    → ArePhis k a base frame q
    → ArePhis k a base (codes.with_result register (Some it) frame) (plans.with_value slot it q)
one_phi k a base None slot to may it frame q are = absurd (none-some slot to)
one_phi k a base (Some register) slot to may it frame q are =
    subst (λ slot. ArePhis k a base (codes.with_register register it frame) (plans.with_value slot it q))
    (some_same (register_slot a.function register) slot to)
    (subst (λ q. ArePhis k a base (codes.with_register register it frame)
    (plans.with_value (register_slot a.function register) it q)) (sym are.machine)
    (record {
      slots = with_slot (register_slot a.function register) it are.slots;
      machine = refl;
      is = frame_given k a.function frame are.slots a.planned are.is (Some register) (Some it)
          (subst (λ (f : codes.Frame). MayGet (k.marks f.function.number) (Some register)) (sym are.kept) may);
      lower = below_with are.slots (register_slot a.function register) it ∙ are.lower;
      kept = ap (codes.with_register register it) are.kept;
    }))

both_phis : (k : Known) (a : Acting) (base : plans.Machine) (register : Option ℕ) (slot : ℕ)
    → option_map (register_slot a.function) register ≡ Some slot
    → MayGet (k.marks a.frame.function.number) register → (it it' : Option Val) → it' ≡ it
    → (frame : Option codes.Frame) (q : Option plans.Machine) → PhisFollow k a base frame q
    → PhisFollow k a base (option_and_then (λ it. option_map (codes.with_result register (Some it)) frame) it)
    (option_and_then (λ it. option_map (plans.with_value slot it) q) it')
both_phis k a base register slot to may it it' same frame q are =
    subst (λ it'. PhisFollow k a base (option_and_then (λ it. option_map (codes.with_result register (Some it)) frame) it)
    (option_and_then (λ it. option_map (plans.with_value slot it) q) it')) (sym same) (by_value it frame q are)
  where
    by_value : (it : Option Val) (frame : Option codes.Frame) (q : Option plans.Machine) → PhisFollow k a base frame q
        → PhisFollow k a base (option_and_then (λ it. option_map (codes.with_result register (Some it)) frame) it)
        (option_and_then (λ it. option_map (plans.with_value slot it) q) it)
    by_value None frame q are = tt
    by_value (Some it) None q are = tt
    by_value (Some it) (Some frame) None are = tt
    by_value (Some it) (Some frame) (Some q) are = one_phi k a base register slot to may it frame q are

may_get : (marks : Marks) (it : Op) (register : Option ℕ) → is_phi it ≡ true → may_give marks it register ≡ true
    → MayGet marks register
may_get marks (op.Phi edges) None phi may = tt
may_get marks (op.Phi edges) (Some register) phi may = both_false (marks.late register) (marks.cell register) may
  where
    both_false : (a b : Bool) → (not a && not b) ≡ true → (a ≡ false) × (b ≡ false)
    both_false false false h = (refl, refl)
    both_false true b h = let clash : false ≡ true = h in absurd cc
    both_false false true h = let clash : false ≡ true = h in absurd cc
may_get marks _ register phi may = let clash : false ≡ true = phi in absurd cc

is_phi_of : (s : registers.Site) (it : Op) (edges : List PlannedEdge) → AreEdges s it edges → is_phi it ≡ true
is_phi_of s (op.Phi edges) its are = refl
is_phi_of s _ its are = absurd are

all_phis : (k : Known) (a : Acting) (step : Step) → IsActing k (settled_at a) step → (top : plans.Frame)
    → (phis : List Instr) (its : List PlannedPhi) → AllZip (IsPhi (plan_site k (settled_at a))) phis its
    → PhisFollow k a (with_top a top) (steps.with_phis (site_of k a) phis a.frame)
    (planned.with_phis (with_top a top) a.frame.block its (with_top a top))
all_phis k a step acting top [] [] are =
    record { slots = a.q.current.slots; machine = refl; is = acting.top.is; lower = refl; kept = refl }
all_phis k a step acting top [] (it ∷ its) are = absurd are
all_phis k a step acting top (phi ∷ phis) [] are = absurd are
all_phis k a step acting top (phi ∷ phis) (it ∷ its) are =
    both_phis k a (with_top a top) phi.register it.to are.0.to
    (may_get (k.marks a.frame.function.number) phi.op phi.register
    (is_phi_of (plan_site k (settled_at a)) phi.op it.edges.items are.0.edges) are.0.given)
    (steps.phi_value (site_of k a) phi.op) (planned.edge_value (with_top a top) a.frame.block it)
    (same_phi k a step acting phi.op it.edges.items are.0.edges)
    (steps.with_phis (site_of k a) phis a.frame) (planned.with_phis (with_top a top) a.frame.block its (with_top a top))
    (all_phis k a step acting top phis its are.1)

-- ---- what stands first in blocks that do nothing but jump

jump_phi : (it : Op) (next : BlockId) → jump_of it ≡ Some next → is_phi it ≡ false
jump_phi (op.Phi edges) next h = absurd (none-some next h)
jump_phi _ next h = refl

jump_no_phis : (instrs : List Instr) (next : BlockId) → next_of instrs ≡ Some next → phis_first instrs ≡ 0
jump_no_phis [] next h = refl
jump_no_phis (only ∷ []) next h = ap (λ b. if b then 1 else 0) (jump_phi only.op next h)
jump_no_phis (first ∷ second ∷ others) next h = absurd (none-some next h)

pub no_front : (instrs : List Instr) → phis_first instrs ≡ 0 → steps.front_phis instrs ≡ []
no_front [] h = refl
no_front (instr ∷ instrs) h = by_kind (is_phi instr.op) h
  where
    by_kind : (b : Bool) → (if b then suc (phis_first instrs) else 0) ≡ 0
        → (if b then instr ∷ steps.front_phis instrs else []) ≡ []
    by_kind true h = absurd (omega arith)
    by_kind false h = refl

leads_no_phis : (function : Function) (n to : ℕ) → LeadsOn function n to → phis_first (instrs_at function n) ≡ 0
    → phis_first (instrs_at function to) ≡ 0
leads_no_phis function n to (here m) none = none
leads_no_phis function n to (on m to' next jumps phis leads) none = leads_no_phis function next.number to' leads phis

no_phis : {A B : Type 0} (R : A → B → Type 0) (its : List B) → AllZip R [] its → its ≡ []
no_phis R [] are = refl
no_phis R (it ∷ its) are = absurd are

planned_no_phis : (code : Code) (marks : Marks) (function : Function) (planned : PlannedFunction) (n : ℕ)
    → (at : BlockAt code marks function planned n) → phis_first (instrs_at function n) ≡ 0 → at.it.phis.items ≡ []
planned_no_phis code marks function planned n at none =
    no_phis (IsPhi (record { code = code; function = function; marks = marks; pending = [] })) at.it.phis.items
    (subst (λ phis. AllZip (IsPhi (record { code = code; function = function; marks = marks; pending = [] })) phis at.it.phis.items)
    (no_front at.block.instrs (ap phis_first (sym (ap instrs_in at.there)) ∙ none)) at.is.phis)

-- ---- entering a block

-- the frame at a block, with what the phis gave
entered_machine : (k : Known) → IsKnown k → (a : Acting) (step : Step) → IsActing k (settled_at a) step → (n : ℕ)
    → (at : BlockAt k.code (k.marks a.frame.function.number) a.function a.planned.function n)
    → (frame : codes.Frame) (q : plans.Machine)
    → ArePhis k a (with_top a (record (plans.advanced a.planned) { block = n; steps = at.it.steps.items; step = 0 })) frame q
    → IsMachine k [] (codes.with_frames a.g (steps_of.at_block a.function n frame ∷ a.below) a.m) q
entered_machine k known a step acting n at frame q are =
    subst (λ (f : codes.Frame). IsMachine k [] (codes.with_frames a.g (steps_of.at_block a.function n f ∷ a.below) a.m) q)
    (sym are.kept)
    (subst (λ q. IsMachine k [] (codes.with_frames a.g (steps_of.at_block a.function n (kept_frame) ∷ a.below) a.m) q)
    (sym are.machine)
    (machine_with k a.m a.q acting.top.around a.g acting.top.there (steps_of.at_block a.function n kept_frame ∷ a.below)
    (record (a.q.current) { frames = top ∷ a.others; slots = are.slots }) (
      record {
        function = a.function;
        is = frame_moved k a.function kept_frame (top_of are.slots) a.planned is n (phis_first (instrs_at a.function n))
            a.frame.state a.frame.defers n at.it.steps.items 0 a.planned.state a.planned.defers acting.top.is.state
            acting.top.is.defers acting.top.is.recovers;
        top = placed (standing [] _ _ (record {
          same = refl;
          block = at.it;
          is = at.planned_there;
          steps = refl;
          last = at.is.last;
          goes = begins k.code (k.marks a.frame.function.number) a.function a.planned.function n at;
        }));
        result = acting.top.result;
      },
      subst (λ rows. AreBelow k a.below rows a.others) (sym are.lower) acting.top.below,
    )
    acting.top.begin acting.top.fault
    (acting.top.sources
    ∙ same_count (steps_of.is_source k.code) a.frame (steps_of.at_block a.function n kept_frame) a.below refl)))
  where
    kept_frame : codes.Frame
    kept_frame = record (a.frame) { registers = frame.registers }

    top : plans.Frame
    top = record (plans.advanced a.planned) { block = n; steps = at.it.steps.items; step = 0 }

    is : IsFrame k a.function kept_frame (top_of are.slots) a.planned
    is = subst (λ (f : codes.Frame). IsFrame k a.function f (top_of are.slots) a.planned) are.kept are.is

-- where the phis were read
entered_where : (k : Known) → IsKnown k → (a : Acting) (step : Step) → IsActing k (settled_at a) step → (n : ℕ)
    → (at : BlockAt k.code (k.marks a.frame.function.number) a.function a.planned.function n)
    → (frame : Option codes.Frame) (q : Option plans.Machine)
    → PhisFollow k a (with_top a (record (plans.advanced a.planned) { block = n; steps = at.it.steps.items; step = 0 })) frame q
    → Follows k
    (codes.where_there (λ frame. codes.goes (codes.with_frames a.g (steps_of.at_block a.function n frame ∷ a.below) a.m)) frame)
    (plans.where_there plans.goes q)
entered_where k known a step acting n at None q are = tt
entered_where k known a step acting n at (Some frame) None are = tt
entered_where k known a step acting n at (Some frame) (Some q) are =
    ([], entered_machine k known a step acting n at frame q are)

-- the plan stands at the block that the code enters
block_entered : (k : Known) → IsKnown k → (a : Acting) (step : Step) → IsActing k (settled_at a) step
    → a.planned.block ≡ a.frame.block → (n : ℕ)
    → (at : BlockAt k.code (k.marks a.frame.function.number) a.function a.planned.function n)
    → Follows k
    (codes.where_there (λ frame. codes.goes (codes.with_frames a.g (steps_of.at_block a.function n frame ∷ a.below) a.m))
    (steps.with_phis (site_of k a) (steps.front_phis (instrs_at a.function n)) a.frame))
    (planned.enters_block a.planned.block at.it
    (with_top a (planned_unwinding.at_block n (plans.advanced a.planned))))
block_entered k known a step acting same n at =
    let top : plans.Frame = record (plans.advanced a.planned) { block = n; steps = at.it.steps.items; step = 0 } in
    subst (λ (t : plans.Frame). Follows k
    (codes.where_there (λ frame. codes.goes (codes.with_frames a.g (steps_of.at_block a.function n frame ∷ a.below) a.m))
    (steps.with_phis (site_of k a) (steps.front_phis (instrs_at a.function n)) a.frame))
    (planned.enters_block a.planned.block at.it (with_top a t)))
    (sym (at_there (plans.advanced a.planned) n at.it at.planned_there))
    (subst (λ (from : ℕ). Follows k
    (codes.where_there (λ frame. codes.goes (codes.with_frames a.g (steps_of.at_block a.function n frame ∷ a.below) a.m))
    (steps.with_phis (site_of k a) (steps.front_phis (instrs_at a.function n)) a.frame))
    (planned.enters_block from at.it (with_top a top)))
    (sym same)
    (entered_where k known a step acting n at _ _
    (all_phis k a step acting top (steps.front_phis (instrs_at a.function n)) at.it.phis.items
    (subst (λ (instrs : List Instr). AllZip (IsPhi (plan_site k (settled_at a))) (steps.front_phis instrs) at.it.phis.items)
    (sym (ap instrs_in at.there)) at.is.phis))))

-- the plan stands behind blocks that do nothing but jump, of which the code enters the first
way_entered : (k : Known) → IsKnown k → (a : Acting) (step : Step) → IsActing k (settled_at a) step → (n to : ℕ) (next : BlockId)
    → next_of (instrs_at a.function n) ≡ Some next → phis_first (instrs_at a.function next.number) ≡ 0
    → LeadsOn a.function next.number to
    → (at : BlockAt k.code (k.marks a.frame.function.number) a.function a.planned.function to)
    → Follows k
    (codes.where_there (λ frame. codes.goes (codes.with_frames a.g (steps_of.at_block a.function n frame ∷ a.below) a.m))
    (steps.with_phis (site_of k a) (steps.front_phis (instrs_at a.function n)) a.frame))
    (planned.enters_block a.planned.block at.it
    (with_top a (planned_unwinding.at_block to (plans.advanced a.planned))))
way_entered k known a step acting n to next jumps phis leads at =
    subst (λ (t : plans.Frame). Follows k
    (codes.where_there (λ frame. codes.goes (codes.with_frames a.g (steps_of.at_block a.function n frame ∷ a.below) a.m))
    (steps.with_phis (site_of k a) (steps.front_phis (instrs_at a.function n)) a.frame))
    (planned.enters_block a.planned.block at.it (with_top a t)))
    (sym (at_there (plans.advanced a.planned) to at.it at.planned_there))
    (subst (λ (front : List Instr). Follows k
    (codes.where_there (λ frame. codes.goes (codes.with_frames a.g (steps_of.at_block a.function n frame ∷ a.below) a.m))
    (steps.with_phis (site_of k a) front a.frame))
    (planned.enters_block a.planned.block at.it (with_top a top)))
    (sym (no_front (instrs_at a.function n) (jump_no_phis (instrs_at a.function n) next jumps)))
    (subst (λ (its : List PlannedPhi). Follows k
    (codes.goes (codes.with_frames a.g (steps_of.at_block a.function n a.frame ∷ a.below) a.m))
    (plans.where_there plans.goes (planned.with_phis (with_top a top) a.planned.block its (with_top a top))))
    (sym (planned_no_phis k.code (k.marks a.frame.function.number) a.function a.planned.function to at
    (leads_no_phis a.function next.number to leads phis))) (
      [],
      machine_with k a.m a.q acting.top.around a.g acting.top.there (steps_of.at_block a.function n a.frame ∷ a.below)
          (record (a.q.current) { frames = top ∷ a.others }) (
            record {
              function = a.function;
              is = frame_moved k a.function a.frame (top_of a.q.current.slots) a.planned acting.top.is n (phis_first (instrs_at a.function n))
                  a.frame.state a.frame.defers to at.it.steps.items 0 a.planned.state a.planned.defers acting.top.is.state
                  acting.top.is.defers acting.top.is.recovers;
              top = placed (on_way _ _ (record {
                first = jump_no_phis (instrs_at a.function n) next jumps;
                number = next.number;
                next = ap (option_map (λ it. it.number)) jumps;
                phis = phis;
                leads = leads;
                block = at.it;
                is = at.planned_there;
                steps = refl;
                begin = refl;
              }));
              result = acting.top.result;
            },
            acting.top.below,
          )
          acting.top.begin acting.top.fault
          (acting.top.sources
          ∙ same_count (steps_of.is_source k.code) a.frame (steps_of.at_block a.function n a.frame) a.below refl),
    )))
  where
    top : plans.Frame
    top = record (plans.advanced a.planned) { block = to; steps = at.it.steps.items; step = 0 }

-- either way
leads_entered : (k : Known) → IsKnown k → (a : Acting) (step : Step) → IsActing k (settled_at a) step
    → a.planned.block ≡ a.frame.block → (n to : ℕ) → LeadsOn a.function n to
    → (at : BlockAt k.code (k.marks a.frame.function.number) a.function a.planned.function to)
    → Follows k
    (codes.where_there (λ frame. codes.goes (codes.with_frames a.g (steps_of.at_block a.function n frame ∷ a.below) a.m))
    (steps.with_phis (site_of k a) (steps.front_phis (instrs_at a.function n)) a.frame))
    (planned.enters_block a.planned.block at.it
    (with_top a (planned_unwinding.at_block to (plans.advanced a.planned))))
leads_entered k known a step acting same n to (here m) at = block_entered k known a step acting same m at
leads_entered k known a step acting same n to (on m to' next jumps phis leads) at =
    way_entered k known a step acting m to' next jumps phis leads at

-- the block at which the plan stands then is there, or the plan is stuck
where_found : (k : Known) (it : codes.Next) (found : Option PlannedBlock) (next : PlannedBlock → plans.Next)
    → ((block : PlannedBlock) → found ≡ Some block → Follows k it (next block))
    → Follows k it (plans.where_there next found)
where_found k it None next h = follows_stuck k it
where_found k it (Some block) next h = h block refl

pub jumps_alike : (k : Known) → IsKnown k → (a : Acting) (step : Step) → IsActing k (settled_at a) step
    → a.planned.block ≡ a.frame.block → (block : BlockId) (to : ℕ) → LeadsOn a.function block.number to
    → Follows k (steps.jumps (site_of k a) block) (planned.jumps to (acting_on a))
jumps_alike k known a step acting same block to leads =
    where_found k (steps.jumps (site_of k a) block) (slice_get a.planned.function.blocks.items to)
    (λ it. planned.enters_block a.planned.block it (with_top a (planned_unwinding.at_block to (plans.advanced a.planned))))
    (λ it there.
    let at = planned_block k.code (k.marks a.frame.function.number) a.function a.planned.function
    (function_of k known a.function a.frame (top_of a.q.current.slots) a.planned acting.top.is) to it there in
    subst (λ (it : PlannedBlock). Follows k (steps.jumps (site_of k a) block)
    (planned.enters_block a.planned.block it (with_top a (planned_unwinding.at_block to (plans.advanced a.planned)))))
    (some_same at.it it (sym at.planned_there ∙ there))
    (leads_entered k known a step acting same block.number to leads at))

-- a frame that acts stands in the block in which its planned frame stands
acting_block : (k : Known) (function : Function) (frame : codes.Frame) (it : plans.Frame) {pending : _}
    → IsPlaced k function pending (codes.advanced frame) (plans.advanced it) → it.block ≡ frame.block
acting_block k function frame it (standing pending f p at) = at.same
acting_block k function frame it (on_way f p way) = absurd (zero_suc way.first)
  where
    zero_suc : suc frame.place ≡ 0 → ⊥
    zero_suc h = omega arith

pub jump_alike : (block : BlockId) → IsAlike (op.Jump block)
unfolding steps.acts planned.acts
jump_alike block k known a register (act.Jump to) may is acting =
    jumps_alike k known a (act.Jump to) (acting_settled k a (act.Jump to) acting refl refl)
    (acting_block k a.function a.frame a.planned acting.place) block to is
jump_alike block k known a register _ may is acting = absurd is

branches_alike : (k : Known) → IsKnown k → (a : Acting) (step : Step) → IsActing k (settled_at a) step
    → a.planned.block ≡ a.frame.block → (one other : BlockId) (to to' : ℕ) → LeadsOn a.function one.number to
    → LeadsOn a.function other.number to' → (it : Option Val)
    → Follows k (codes.where_there (steps.branches (site_of k a) one other) it)
    (plans.where_there (planned.branches (acting_on a) to to') it)
branches_alike k known a step acting same one other to to' leads leads' None = tt
branches_alike k known a step acting same one other to to' leads leads' (Some (truth b)) = by_test b
  where
    by_test : (b : Bool)
        → Follows k (if b then steps.jumps (site_of k a) one else steps.jumps (site_of k a) other)
        (if b then planned.jumps to (acting_on a) else planned.jumps to' (acting_on a))
    by_test true = jumps_alike k known a step acting same one to leads
    by_test false = jumps_alike k known a step acting same other to' leads'
branches_alike k known a step acting same one other to to' leads leads' (Some _) = tt

pub if_alike : (test : Operand) (one other : BlockId) → IsAlike (op.If test one other)
unfolding steps.acts planned.acts
if_alike test one other k known a register (act.If arg to to') may is acting =
    subst (λ it. Follows k (codes.where_there (steps.branches (site_of k a) one other) (value_of k.code a.frame test))
    (plans.where_there (planned.branches (acting_on a) to to') it))
    (sym (one_value k a (act.If arg to to') acting test arg is.0))
    (branches_alike k known a (act.If arg to to') (acting_settled k a (act.If arg to to') acting refl refl)
    (acting_block k a.function a.frame a.planned acting.place) one other to to' is.1 is.2 (value_of k.code a.frame test))
if_alike test one other k known a register _ may is acting = absurd is
