-- The turns of ranges: two registers get values, the range its new state and another what the turn gives.
use Rattle.std.proofs.Common.{ℕ, ◌≡◌, Bool, true, false, List, ◌∷◌, Option, Some, None, refl, sym, ap, subst}
use Rattle.std.proofs.Common.{subst₂, ◌∙◌}
use Rattle.std.proofs.Common.{filter, option_map, length, if◌then◌else◌, nat_lt}
use Rattle.std.proofs.lemmas.Option.{none-some, same_Some}
use Rattle.std.specs.Prelude.{slice_set}
use Rattle.std.specs.Global.{Box}
use Rattle.std.specs.Option.{option_and_then}
use Rattle.code_plan.specs.Forms.{IsRange}
use Rattle.code_plan.specs.Operands.{IsTo, IsZero}
use Rattle.code_plan.specs.Registers.{Marks, may_give, behind, register_slot}
use Rattle.code_plan.specs.declared.steps.Step.{Step}
use Rattle.code_plan.specs.declared.steps.Step.TheVariants as act
use Rattle.go_base.specs.declared.ids.MapId.{MapId}
use Rattle.go_maps.specs.Entries.{Map, Pair, entry_at}
use Rattle.go_sched.specs.Choices.{is_spent, picked}
use Rattle.go_sched.specs.Goroutines.{State}
use Rattle.go_type.specs.declared.term.TypeTerm.{TypeTerm}
use Rattle.go_value.specs.Values.{Val, text_range, map_range}
use Rattle.go_value.specs.Values.{value_of as held_value}
use Rattle.go_value.specs.declared.values.Value.{Value}
use Rattle.plan_laws.proofs.Acting.{Acting, IsActing, Change, IsChange, MayHold, MayPoint, site_of, plan_site}
use Rattle.plan_laws.proofs.Acting.{acting_on, code_with, plan_with}
use Rattle.plan_laws.proofs.Alike.{Known, IsKnown, Follows, HasSlots, IsMachine, register_of, slot_of}
use Rattle.plan_laws.proofs.Giving.{plan_at, IsAlikeSettled, alike_from, may_hold, kept_behind}
use Rattle.plan_laws.proofs.Going.{machine_with}
use Rattle.plan_laws.proofs.Outcomes.{picked_kept}
use Rattle.plan_laws.proofs.Slots.{slots_with, cells_with, pending_with, top_with, below_with}
use Rattle.plan_laws.proofs.Values.{IsAlike}
use Rattle.plan_mean.specs.Ranges as planned_ranges
use Rattle.plan_mean.specs.Slots.{top_of, with_slot, slot_in}
use Rattle.plan_mean.specs.State as plans
use Rattle.plan_mean.specs.Step as planned
use Rattle.plan_mean.specs.Step.{acts as planned_acts}
use Rattle.ssa_ir.specs.declared.operands.Operand.{Operand}
use Rattle.ssa_ir.specs.declared.operands.Operand.TheVariants as operand
use Rattle.ssa_ir.specs.declared.ops.Op.TheVariants as op
use Rattle.ssa_mean.specs.MapCalls.{entries_of}
use Rattle.ssa_mean.specs.Operands.{term_of}
use Rattle.ssa_mean.specs.Ranges.{Turn, drawn, entry_turn, is_standing, next_turn, ranged, key_in, sched_after, turn_with, value_in}
use Rattle.ssa_mean.specs.State as codes
use Rattle.ssa_mean.specs.Step as steps
use Rattle.ssa_mean.specs.Step.{acts}
use Rattle.ssa_mean.specs.Zeros.{zero_where}

-- ---- two registers are written, one after another

twice_written : (k : Known) (a : Acting) (step : Step) → IsActing k a step → (c : Change) → IsChange k a step c
    → (one other : ℕ) (it more : Val)
    → MayHold (k.marks a.frame.function.number) (behind step a.pending) (Some one) (Some it)
    → MayHold (k.marks a.frame.function.number) (behind step a.pending) (Some other) (Some more)
    → IsMachine k (behind step a.pending)
    (codes.with_frames a.g
    (codes.advanced (codes.with_register other more (codes.with_register one it a.frame)) ∷ a.below) (code_with c a.m))
    (plans.with_value (register_slot a.function other) more
    (plans.with_value (register_slot a.function one) it (plan_with c (acting_on a))))
twice_written k a step acting c change one other it more may may' =
    machine_with k a step acting c change (slice_set (slice_set a.frame.registers one (Some it)) other (Some more))
    (with_slot (register_slot a.function other) more slots)
    (subst (HasSlots a.function marks (codes.with_register other more frame))
    (sym (top_with slots (register_slot a.function other) more))
    (slots_with a.function marks frame (top_of slots) has other more))
    (cells_with marks (behind step a.pending) frame
    (cells_with marks (behind step a.pending) a.frame acting.top.is.cells one it may.1) other more may'.1)
    (pending_with marks c.store (behind step a.pending) frame
    (pending_with marks c.store (behind step a.pending) a.frame change.kept one it may.0 may.1) other more may'.0 may'.1)
    (below_with slots (register_slot a.function other) more
    ∙ below_with a.q.current.slots (register_slot a.function one) it)
  where
    marks : Marks
    marks = k.marks a.frame.function.number

    frame : codes.Frame
    frame = codes.with_register one it a.frame

    slots : List (List (Option Val))
    slots = with_slot (register_slot a.function one) it a.q.current.slots

    has : HasSlots a.function marks frame (top_of slots)
    has =
        subst (HasSlots a.function marks frame) (sym (top_with a.q.current.slots (register_slot a.function one) it))
        (slots_with a.function marks a.frame (top_of a.q.current.slots) acting.top.is.slots one it)

-- ---- a turn

turned : (k : Known) (a : Acting) (step : Step) → IsActing k a step → (n : ℕ) (register : Option ℕ) (range slot : ℕ)
    → IsRange (plan_site k a) (operand.Register n) range → IsTo (plan_site k a) register slot
    → may_give (k.marks a.frame.function.number) op.Tick register ≡ true → (it : Turn)
    → it.sched.current ≡ a.m.sched.current
    → Follows k (steps.turns (site_of k a) register n it) (planned.turns (plan_at a) range slot it)
turned k a step acting n None range slot is same may it current = absurd (none-some slot same)
turned k a step acting n (Some register) range slot is same may it current = (
  behind step a.pending,
  subst₂ (λ (range slot : ℕ). IsMachine k (behind step a.pending)
      (codes.with_frames a.g
      (codes.advanced (codes.with_register register it.value (codes.with_register n it.range a.frame)) ∷ a.below)
      (code_with c a.m))
      (plans.with_value slot it.value (plans.with_value range it.range (plan_with c (acting_on a)))))
      (sym is.0) (same_Some (register_slot a.function register) slot same)
      (twice_written k a step acting c
      (record { current = current; kept = kept_behind k a step acting })
      n register it.range it.value
      (is.1, subst (λ is_cell. MayPoint is_cell (behind step a.pending) it.range) (sym is.2) tt)
      (may_hold (k.marks a.frame.function.number) (behind step a.pending) (Some register) it.value may)),
)
  where
    c : Change
    c = record { store = a.m.store; sched = it.sched; ticks = a.m.ticks; output = a.m.output }

-- the turns of both are one, where each has one
abbrev AreOneTurn : Acting → Option Turn → Option Turn → Type 0
AreOneTurn a (Some it) (Some it') = (it' ≡ it) × (it.sched.current ≡ a.m.sched.current)
AreOneTurn a _ _ = Unit {0}

turns_alike : (k : Known) (a : Acting) (step : Step) → IsActing k a step → (n : ℕ) (register : Option ℕ)
    (range slot : ℕ)
    → IsRange (plan_site k a) (operand.Register n) range → IsTo (plan_site k a) register slot
    → may_give (k.marks a.frame.function.number) op.Tick register ≡ true → (x y : Option Turn) → AreOneTurn a x y
    → Follows k (codes.where_there (steps.turns (site_of k a) register n) x)
    (plans.where_there (planned.turns (plan_at a) range slot) y)
turns_alike k a step acting n register range slot is same may None y one = tt
turns_alike k a step acting n register range slot is same may (Some it) None one = tt
turns_alike k a step acting n register range slot is same may (Some it) (Some it') one =
    subst (λ given. Follows k (steps.turns (site_of k a) register n it) (planned.turns (plan_at a) range slot given))
    (sym one.0) (turned k a step acting n register range slot is same may it one.1)

-- the state of the range is one
range_read : (k : Known) (a : Acting) (step : Step) → IsActing k a step → (n range : ℕ)
    → IsRange (plan_site k a) (operand.Register n) range
    → slot_in a.q.current.slots range ≡ register_of a.frame n
range_read k a step acting n range is =
    ap (slot_of (top_of a.q.current.slots)) is.0 ∙ acting.top.is.slots.register n is.1

no_turn : (a : Acting) (x : Option Turn) → AreOneTurn a x None
no_turn a None = tt
no_turn a (Some it) = tt

no_turn_there : (a : Acting) (y : Option Turn) → AreOneTurn a None y
no_turn_there a None = tt
no_turn_there a (Some it) = tt

-- ---- over texts

sched_of_either : (b : Bool) (x y : Turn) (sched : State) → x.sched ≡ sched → y.sched ≡ sched
    → (if b then x else y).sched ≡ sched
sched_of_either true x y sched is is' = is
sched_of_either false x y sched is is' = is'

texts_turn : (k : Known) (a : Acting) (over : Option TypeTerm) (v : Val)
    → AreOneTurn a (next_turn k.code a.m.store a.m.sched over v) (planned_ranges.next_of_text a.m.sched v)
texts_turn k a over (text_range bytes next) = (
  refl,
  ap (λ (sched : State). sched.current)
      (sched_of_either (nat_lt next (length bytes)) _ _ a.m.sched refl refl),
)
texts_turn k a over v = no_turn a (next_turn k.code a.m.store a.m.sched over v)

text_settled : (k : Known) → IsKnown k → (a : Acting) (register : Option ℕ) (it : Operand) (range slot : ℕ)
    → may_give (k.marks a.frame.function.number) op.Tick register ≡ true
    → IsRange (plan_site k a) it range → IsTo (plan_site k a) register slot → IsActing k a (act.NextText range slot)
    → Follows k (steps.next_of (site_of k a) register it)
    (plans.where_there (planned.turns (plan_at a) range slot)
    (option_and_then (planned_ranges.next_of_text a.m.sched) (slot_in a.q.current.slots range)))
text_settled k known a register (operand.Register n) range slot may is same acting =
    turns_alike k a (act.NextText range slot) acting n register range slot is same may
    (option_and_then (next_turn k.code a.m.store a.m.sched over) (register_of a.frame n))
    (option_and_then (planned_ranges.next_of_text a.m.sched) (slot_in a.q.current.slots range))
    (subst (λ found. AreOneTurn a
    (option_and_then (next_turn k.code a.m.store a.m.sched over) (register_of a.frame n))
    (option_and_then (planned_ranges.next_of_text a.m.sched) found))
    (sym (range_read k a (act.NextText range slot) acting n range is)) (of_value (register_of a.frame n)))
  where
    over : Option TypeTerm
    over = ranged k.code (term_of k.code a.function (operand.Register n))

    of_value : (found : Option Val)
        → AreOneTurn a (option_and_then (next_turn k.code a.m.store a.m.sched over) found)
        (option_and_then (planned_ranges.next_of_text a.m.sched) found)
    of_value None = tt
    of_value (Some v) = texts_turn k a over v
text_settled k known a register _ range slot may is same acting = absurd is

-- ---- over maps

-- an entry is drawn as the code draws it; the last turn has zero values
same_turn : (sched : State) (id : Option MapId) (entries : Map) (key it : Val) (entry : Option ℕ) (left : List ℕ)
    → planned_ranges.turn_with sched id entries key it (record { entry = entry; left = left })
    ≡ turn_with sched id entries (Some key) (Some it) (record { entry = entry; left = left })
same_turn sched id entries key it None left = refl
same_turn sched id entries key it (Some n) left = refl

sched_kept : (sched : State) (entries : Map) (left : List ℕ) → (sched_after sched entries left).current ≡ sched.current
sched_kept sched entries left = by_spent (is_spent sched)
  where
    by_spent : (spent : Bool)
        → (if spent then sched else picked (length (filter (is_standing entries) left)) sched).current ≡ sched.current
    by_spent true = refl
    by_spent false = picked_kept (length (filter (is_standing entries) left)) sched

-- a turn of the code leaves the goroutine that runs
turn_current : (a : Acting) (sched : State) (id : Option MapId) (entries : Map) (key it : Val) (entry : Option ℕ) (left : List ℕ)
    → sched.current ≡ a.m.sched.current
    → AreOneTurn a (turn_with sched id entries (Some key) (Some it) (record { entry = entry; left = left }))
    (turn_with sched id entries (Some key) (Some it) (record { entry = entry; left = left }))
turn_current a sched id entries key it None left same = (refl, same)
turn_current a sched id entries key it (Some n) left same = by_pair (entry_at entries n)
  where
    by_pair : (pair : Option Pair)
        → AreOneTurn a (option_map (entry_turn sched id left) pair) (option_map (entry_turn sched id left) pair)
    by_pair None = tt
    by_pair (Some pair) = (refl, same)

maps_turn : (k : Known) (a : Acting) → (over : Option TypeTerm) (key it : Val)
    → zero_where k.code (key_in over) ≡ Some key → zero_where k.code (value_in over) ≡ Some it → (v : Val)
    → AreOneTurn a (next_turn k.code a.m.store a.m.sched over v) (planned_ranges.map_turn a.m.store a.m.sched key it v)
maps_turn k a over key it is_key is_value (map_range id left) =
    let entries = entries_of a.m.store id in
    let sched = sched_after a.m.sched entries left in
    let found = drawn a.m.sched entries left in
    subst₂ (λ key' it'. AreOneTurn a (turn_with sched id entries key' it' found)
    (planned_ranges.turn_with sched id entries key it found)) (sym is_key) (sym is_value)
    (subst (AreOneTurn a (turn_with sched id entries (Some key) (Some it) found))
    (sym (same_turn sched id entries key it found.entry found.left))
    (turn_current a sched id entries key it found.entry found.left (sched_kept a.m.sched entries left)))
maps_turn k a over key it is_key is_value v = no_turn a (next_turn k.code a.m.store a.m.sched over v)

map_settled : (k : Known) → IsKnown k → (a : Acting) (register : Option ℕ) (on : Operand) (range slot : ℕ)
    (key it : Box Value)
    → may_give (k.marks a.frame.function.number) op.Tick register ≡ true → IsRange (plan_site k a) on range
    → IsZero (plan_site k a) (key_in (ranged k.code (term_of k.code a.function on))) key.value
    → IsZero (plan_site k a) (value_in (ranged k.code (term_of k.code a.function on))) it.value
    → IsTo (plan_site k a) register slot → IsActing k a (act.NextMap range key it slot)
    → Follows k (steps.next_of (site_of k a) register on)
    (plans.where_there (planned.turns (plan_at a) range slot)
    (option_and_then (planned_ranges.map_turn a.m.store a.m.sched (held_value key.value) (held_value it.value))
    (slot_in a.q.current.slots range)))
map_settled k known a register (operand.Register n) range slot key it may is is_key is_value same acting =
    turns_alike k a (act.NextMap range key it slot) acting n register range slot is same may
    (option_and_then (next_turn k.code a.m.store a.m.sched over) (register_of a.frame n))
    (option_and_then turn (slot_in a.q.current.slots range))
    (subst (λ found. AreOneTurn a
    (option_and_then (next_turn k.code a.m.store a.m.sched over) (register_of a.frame n)) (option_and_then turn found))
    (sym (range_read k a (act.NextMap range key it slot) acting n range is)) (of_value (register_of a.frame n)))
  where
    over : Option TypeTerm
    over = ranged k.code (term_of k.code a.function (operand.Register n))

    turn : Val → Option Turn
    turn = planned_ranges.map_turn a.m.store a.m.sched (held_value key.value) (held_value it.value)

    of_value : (found : Option Val)
        → AreOneTurn a (option_and_then (next_turn k.code a.m.store a.m.sched over) found) (option_and_then turn found)
    of_value None = tt
    of_value (Some v) =
        maps_turn k a over (held_value key.value) (held_value it.value) is_key is_value v
map_settled k known a register _ range slot key it may is is_key is_value same acting = absurd is

next_settled : (it : Operand) → IsAlikeSettled (op.Next it)
unfolding acts planned_acts
next_settled it k known a register (act.NextText range slot) may is acting =
    text_settled k known a register it range slot may is.0 is.1 acting
next_settled it k known a register (act.NextMap range key value slot) may is acting =
    map_settled k known a register it range slot key value may is.0 is.1 is.2 is.3 acting
next_settled it k known a register _ may is acting = absurd is

pub next_alike : (it : Operand) → IsAlike (op.Next it)
next_alike it = alike_from (op.Next it) (next_settled it)
