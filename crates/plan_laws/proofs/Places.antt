-- Instructions on cells and on parts of values.
use Rattle.std.proofs.Common.{ℕ, ◌≡◌, ℤ, Bool, true, false, Option, Some, None, refl, sym, ap}
use Rattle.std.specs.Prelude.{is_none, if◌then◌else◌}
use Rattle.code_plan.specs.Forms.{IsCut}
use Rattle.code_plan.specs.Operands.{IsArg, IsArgWhere, AreBounds}
use Rattle.code_plan.specs.Registers.{Site}
use Rattle.code_plan.specs.declared.steps.Arg.{Arg}
use Rattle.code_plan.specs.declared.steps.Bounds as planned_bounds
use Rattle.code_plan.specs.declared.steps.CutForm.{CutForm}
use Rattle.code_plan.specs.declared.steps.CutForm.TheVariants as cut
use Rattle.code_plan.specs.declared.steps.Step.{Step}
use Rattle.code_plan.specs.declared.steps.Step.TheVariants as act
use Rattle.go_store.specs.Stores.{put_in}
use Rattle.go_value.specs.Values.{Val, number, text, pointer, slice}
use Rattle.go_value.specs.declared.address.Pointer.{Pointer}
use Rattle.go_value.specs.declared.faults.Fault.TheVariants as fault
use Rattle.plan_laws.proofs.Acting.{Acting, IsActing, Agree, site_of, plan_site}
use Rattle.plan_laws.proofs.Agreeing.{one_read, one_agrees, two_agree, agree_nowhere, agree_same}
use Rattle.plan_laws.proofs.Agreeing.{gives_one, gives_two, holds_of_two, both_bounds}
use Rattle.plan_laws.proofs.Alike.{Known}
use Rattle.plan_laws.proofs.Giving.{plan_at, IsAlikeSettled, alike_from, gives_alike, changes_alike, ChangesWell}
use Rattle.plan_laws.proofs.Slots.{none_pending}
use Rattle.plan_laws.proofs.Values.{IsAlike}
use Rattle.plan_mean.specs.Operands.{look, with_bound}
use Rattle.plan_mean.specs.Step as planned
use Rattle.plan_mean.specs.Step.{acts as planned_acts}
use Rattle.ssa_ir.specs.declared.operands.Operand.{Operand}
use Rattle.ssa_ir.specs.declared.ops.Op.TheVariants as op
use Rattle.ssa_mean.specs.Comes.{Comes, to, faults, where_some}
use Rattle.ssa_mean.specs.Operands.{value_of, pointed_length}
use Rattle.ssa_mean.specs.Places.{Bounds, load, assigned, field_of, field_address, index_of, index_address, part_between}
use Rattle.ssa_mean.specs.Step as steps
use Rattle.ssa_mean.specs.Step.{acts}

-- ---- cells

load_settled : (at : Operand) → IsAlikeSettled (op.Load at)
unfolding acts planned_acts
load_settled at k known a register (act.Load arg slot) may is acting =
    gives_one k known a (act.Load arg slot) acting register slot is.1 may at arg is.0 (load a.m.store) (load a.m.store)
    (λ v. agree_same (load a.m.store v) (load a.m.store v) refl)
load_settled at k known a register _ may is acting = absurd is

pub load_alike : (at : Operand) → IsAlike (op.Load at)
load_alike at = alike_from (op.Load at) (load_settled at)

put_well : (k : Known) (a : Acting) (one other : Arg) → IsActing k a (act.Store one other) → (it : Val)
    → (at : Pointer) (is_nil : Bool) → ChangesWell k a (act.Store one other)
    (if is_nil then faults fault.NilPointer else to (put_in it a.m.store at))
put_well k a one other acting it at true = tt
put_well k a one other acting it at false =
    record {
      kept = none_pending (k.marks a.frame.function.number) (put_in it a.m.store at) a.frame;
      may = tt;
    }

assigned_well : (k : Known) (a : Acting) (one other : Arg) → IsActing k a (act.Store one other) → (at it : Val)
    → ChangesWell k a (act.Store one other) (assigned a.m.store at it)
assigned_well k a one other acting (pointer at) it = put_well k a one other acting it at (is_none at.cell)
assigned_well k a one other acting _ it = tt

store_settled : (at it : Operand) → IsAlikeSettled (op.Store at it)
unfolding acts planned_acts
store_settled at it k known a register (act.Store one other) may is acting =
    changes_alike k known a (act.Store one other) acting
    (where_some (λ u. where_some (λ v. assigned a.m.store u v) (value_of k.code a.frame it)) (value_of k.code a.frame at))
    (where_some (λ u. where_some (λ v. assigned a.m.store u v) (look (plan_at a) other)) (look (plan_at a) one))
    (two_agree (assigned a.m.store) (assigned a.m.store)
    (λ u v. agree_same (assigned a.m.store u v) (assigned a.m.store u v) refl)
    (value_of k.code a.frame at) (value_of k.code a.frame it) (look (plan_at a) one) (look (plan_at a) other)
    (one_read k a (act.Store one other) acting at one is.0) (one_read k a (act.Store one other) acting it other is.1))
    (holds_of_two (ChangesWell k a (act.Store one other)) (assigned a.m.store) tt
    (assigned_well k a one other acting) (value_of k.code a.frame at) (value_of k.code a.frame it))
store_settled at it k known a register _ may is acting = absurd is

pub store_alike : (at it : Operand) → IsAlike (op.Store at it)
store_alike at it = alike_from (op.Store at it) (store_settled at it)

-- ---- fields, and parts of tuples

-- the number of the field is the same
field_agrees : (f : Val → ℕ → Comes Val) (field n : ℕ) → n ≡ field → (v : Val) → Agree (f v field) (f v n)
field_agrees f field n same v = agree_same (f v field) (f v n) (ap (f v) same)

field_settled : (it : Operand) (field : ℕ) → IsAlikeSettled (op.Field it field)
unfolding acts planned_acts
field_settled it field k known a register (act.Field arg n slot) may is acting =
    gives_one k known a (act.Field arg n slot) acting register slot is.2 may it arg is.0 (λ v. field_of v field)
    (λ v. field_of v n) (field_agrees field_of field n is.1)
field_settled it field k known a register _ may is acting = absurd is

pub field_alike : (it : Operand) (field : ℕ) → IsAlike (op.Field it field)
field_alike it field = alike_from (op.Field it field) (field_settled it field)

extract_settled : (it : Operand) (part : ℕ) → IsAlikeSettled (op.Extract it part)
unfolding acts planned_acts
extract_settled it part k known a register (act.Extract arg n slot) may is acting =
    gives_one k known a (act.Extract arg n slot) acting register slot is.2 may it arg is.0 (λ v. field_of v part)
    (λ v. field_of v n) (field_agrees field_of part n is.1)
extract_settled it part k known a register _ may is acting = absurd is

pub extract_alike : (it : Operand) (part : ℕ) → IsAlike (op.Extract it part)
extract_alike it part = alike_from (op.Extract it part) (extract_settled it part)

field_address_settled : (it : Operand) (field : ℕ) → IsAlikeSettled (op.FieldAddress it field)
unfolding acts planned_acts
field_address_settled it field k known a register (act.FieldAddress arg n slot) may is acting =
    gives_one k known a (act.FieldAddress arg n slot) acting register slot is.2 may it arg is.0
    (λ v. field_address v field) (λ v. field_address v n) (field_agrees field_address field n is.1)
field_address_settled it field k known a register _ may is acting = absurd is

pub field_address_alike : (it : Operand) (field : ℕ) → IsAlike (op.FieldAddress it field)
field_address_alike it field = alike_from (op.FieldAddress it field) (field_address_settled it field)

-- ---- elements

index_settled : (it index : Operand) → IsAlikeSettled (op.Index it index)
unfolding acts planned_acts
index_settled it index k known a register (act.Byte one other slot) may is acting =
    gives_two k known a (act.Byte one other slot) acting register slot is.2 may it index one other is.0 is.1 index_of
    index_of (λ u v. agree_same (index_of u v) (index_of u v) refl)
index_settled it index k known a register (act.Element one other slot) may is acting =
    gives_two k known a (act.Element one other slot) acting register slot is.2 may it index one other is.0 is.1 index_of
    index_of (λ u v. agree_same (index_of u v) (index_of u v) refl)
index_settled it index k known a register _ may is acting = absurd is

pub index_alike : (it index : Operand) → IsAlike (op.Index it index)
index_alike it index = alike_from (op.Index it index) (index_settled it index)

-- an element of a slice, where the code knows no length of an array, or one
slice_element_agrees : (len : Option ℕ) (u v : Val) → Agree (index_address len u v) (index_address None u v)
slice_element_agrees len (slice it) (number n) =
    agree_same (index_address len (slice it) (number n)) (index_address None (slice it) (number n)) refl
slice_element_agrees len u (number n) = agree_nowhere (index_address len u (number n))
slice_element_agrees len u v = agree_nowhere (index_address len u v)

array_element_agrees : (found : Option ℕ) (len : ℕ) → found ≡ Some len → (u v : Val)
    → Agree (index_address found u v) (index_address (Some len) u v)
array_element_agrees found len same u v =
    agree_same (index_address found u v) (index_address (Some len) u v) (ap (λ len. index_address len u v) (sym same))

index_address_settled : (it index : Operand) → IsAlikeSettled (op.IndexAddress it index)
unfolding acts planned_acts
index_address_settled it index k known a register (act.ArrayElement one other len slot) may is acting =
    gives_two k known a (act.ArrayElement one other len slot) acting register slot is.3 may it index one other is.1 is.2
    (index_address (pointed_length k.code a.function it)) (index_address (Some len))
    (array_element_agrees (pointed_length k.code a.function it) len is.0)
index_address_settled it index k known a register (act.SliceElement one other slot) may is acting =
    gives_two k known a (act.SliceElement one other slot) acting register slot is.2 may it index one other is.0 is.1
    (index_address (pointed_length k.code a.function it)) (index_address None)
    (slice_element_agrees (pointed_length k.code a.function it))
index_address_settled it index k known a register _ may is acting = absurd is

pub index_address_alike : (it index : Operand) → IsAlike (op.IndexAddress it index)
index_address_alike it index = alike_from (op.IndexAddress it index) (index_address_settled it index)

-- ---- slice expressions

-- by the length of an array that is pointed to, or by none
part_agrees : (s : Site) (it : Operand) (form : CutForm) → IsCut s it form → (whole : Val) (bounds : Bounds)
    → Agree (part_between (pointed_length s.code s.function it) whole bounds)
    (part_between (planned.length_of_cut form) whole bounds)
part_agrees s it (cut.Array len) is whole bounds =
    agree_same (part_between (pointed_length s.code s.function it) whole bounds) (part_between (Some len) whole bounds)
    (ap (λ len. part_between len whole bounds) (sym is))
part_agrees s it form is (text bytes) bounds =
    agree_same (part_between (pointed_length s.code s.function it) (text bytes) bounds)
    (part_between (planned.length_of_cut form) (text bytes) bounds) refl
part_agrees s it form is (slice of) bounds =
    agree_same (part_between (pointed_length s.code s.function it) (slice of) bounds)
    (part_between (planned.length_of_cut form) (slice of) bounds) refl
part_agrees s it form is whole bounds =
    agree_nowhere (part_between (pointed_length s.code s.function it) whole bounds)

-- the last of the places
with_max : (k : Known) (a : Acting) (step : Step) → IsActing k a step → (it : Operand) (form : CutForm)
    → IsCut (plan_site k a) it form → (max : Option Operand) (arg : Option Arg) → IsArgWhere (plan_site k a) max arg
    → (whole : Val) (low high : Option ℤ)
    → Agree
    (steps.with_bound (site_of k a) max (λ max. part_between (pointed_length k.code a.function it) whole
    (record { low = low; high = high; max = max })))
    (with_bound (plan_at a) arg (λ max. part_between (planned.length_of_cut form) whole
    (record { low = low; high = high; max = max })))
with_max k a step acting it form is_cut max arg is whole low high =
    both_bounds k a step acting max arg is
    (λ max. part_between (pointed_length k.code a.function it) whole (record { low = low; high = high; max = max }))
    (λ max. part_between (planned.length_of_cut form) whole (record { low = low; high = high; max = max }))
    (λ max. part_agrees (plan_site k a) it form is_cut whole (record { low = low; high = high; max = max }))

slice_agrees : (k : Known) (a : Acting) (step : Step) → IsActing k a step → (it : Operand) (low high max : Option Operand)
    → (form : CutForm) (arg : Arg) (bounds : planned_bounds.Bounds) → IsCut (plan_site k a) it form
    → IsArg (plan_site k a) it arg → AreBounds (plan_site k a) low high max bounds
    → Agree (steps.slice_part (site_of k a) it low high max) (planned.cut_of (plan_at a) form arg bounds)
slice_agrees k a step acting it low high max form arg bounds is_cut is are =
    one_agrees
    (λ whole. steps.with_bound (site_of k a) low (λ low. steps.with_bound (site_of k a) high (λ high.
    steps.with_bound (site_of k a) max (λ max. part_between (pointed_length k.code a.function it) whole
    (record { low = low; high = high; max = max })))))
    (λ whole. with_bound (plan_at a) bounds.low (λ low. with_bound (plan_at a) bounds.high (λ high.
    with_bound (plan_at a) bounds.max (λ max. part_between (planned.length_of_cut form) whole
    (record { low = low; high = high; max = max })))))
    (λ whole. both_bounds k a step acting low bounds.low are.0 _ _
    (λ one. both_bounds k a step acting high bounds.high are.1 _ _
    (λ other. with_max k a step acting it form is_cut max bounds.max are.2 whole one other)))
    (value_of k.code a.frame it) (look (plan_at a) arg) (one_read k a step acting it arg is)

slice_settled : (it : Operand) (low high max : Option Operand) → IsAlikeSettled (op.Slice it low high max)
unfolding acts planned_acts
slice_settled it low high max k known a register (act.Cut form arg bounds slot) may is acting =
    gives_alike k known a (act.Cut form arg bounds slot) acting register slot is.3 may
    (steps.slice_part (site_of k a) it low high max) (planned.cut_of (plan_at a) form arg bounds.value)
    (slice_agrees k a (act.Cut form arg bounds slot) acting it low high max form arg bounds.value is.0 is.1 is.2)
slice_settled it low high max k known a register _ may is acting = absurd is

pub slice_alike : (it : Operand) (low high max : Option Operand) → IsAlike (op.Slice it low high max)
slice_alike it low high max = alike_from (op.Slice it low high max) (slice_settled it low high max)
