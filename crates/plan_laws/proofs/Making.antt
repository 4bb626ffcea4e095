-- Instructions that make cells, function values, channels and slices.
use Rattle.std.proofs.Common.{ℕ, ◌≡◌, ◌≤◌, ◌<◌, min, max, ℤ, pos, int_lt, Bool, true, false, ◌||◌, [], Option, Some, None}
use Rattle.std.proofs.Common.{refl, sym, ap, subst, ◌∙◌, arith, true≢false, not, if◌then◌else◌, ◌⊎◌, inl, inr, length}
use Rattle.std.proofs.Math.Nat.{div-eq_of_lt}
use Rattle.std.proofs.lemmas.Option.{none-some, same_Some}
use Rattle.std.specs.Prelude.{unsigned_abs}
use Rattle.std.specs.Option.{option_and_then, option_map}
use Rattle.code_plan.specs.Calls.{counted_leaves}
use Rattle.code_plan.specs.Forms.{HasLeaves}
use Rattle.code_plan.specs.Operands.{IsArg}
use Rattle.code_plan.specs.Registers.{Marks, may_give, behind}
use Rattle.code_plan.specs.declared.steps.Arg.{Arg}
use Rattle.code_plan.specs.declared.steps.Step.{Step}
use Rattle.code_plan.specs.declared.steps.Step.TheVariants as act
use Rattle.go_base.specs.declared.ids.TypeId.{TypeId}
use Rattle.go_sched.specs.Goroutines.{State, with_new_chan}
use Rattle.go_store.specs.Slices.{most_elements, make_fault, with_zeros, slice_of_new}
use Rattle.go_store.specs.MapCalls.{made_map}
use Rattle.go_store.specs.Stores.{Stored, made}
use Rattle.go_value.specs.Values.{Val, number, pointer, slice, chan_number}
use Rattle.go_value.specs.Values.{value_of as held_value}
use Rattle.go_value.specs.declared.faults.Fault.{Fault}
use Rattle.go_value.specs.declared.faults.Fault.TheVariants as fault
use Rattle.plan_laws.proofs.Acting.{Acting, IsActing, Agree, MayHold, MayPoint, site_of, plan_site}
use Rattle.plan_laws.proofs.Agreeing.{agree_same, both_integers}
use Rattle.plan_laws.proofs.Agreeing.{holds_of_one}
use Rattle.plan_laws.proofs.Alike.{Known, ArePending}
use Rattle.plan_laws.proofs.Giving.{plan_at, IsAlikeSettled, alike_from, gives_stored_alike, StoresWell}
use Rattle.plan_laws.proofs.Giving.{gives_channel_alike, ChannelWell, may_hold}
use Rattle.plan_laws.proofs.Slots.{none_pending, within_or_past}
use Rattle.plan_laws.proofs.Values.{IsAlike}
use Rattle.plan_mean.specs.Operands.{look, on_integer, with_integer}
use Rattle.plan_mean.specs.Step as planned
use Rattle.plan_mean.specs.Step.{acts as planned_acts}
use Rattle.ssa_ir.specs.declared.operands.Operand.{Operand}
use Rattle.ssa_ir.specs.declared.ops.Op.TheVariants as op
use Rattle.ssa_mean.specs.Comes.{Comes, to, faults, nowhere, of_option, then_to, where_some}
use Rattle.ssa_mean.specs.Conversions.{Stores}
use Rattle.ssa_mean.specs.Making.{is_no_size, leaves_of, made_chan, made_slice, made_where}
use Rattle.ssa_mean.specs.Operands.{element_in, under}
use Rattle.ssa_mean.specs.Places.{new_pointer}
use Rattle.ssa_mean.specs.Step as steps
use Rattle.ssa_mean.specs.Step.{acts}
use Rattle.ssa_mean.specs.Zeros.{zero_of, zero_where}

-- ---- cells

-- a register that points to cells gets pointers to new ones
points : (marks : Marks) (of : TypeId) (register : Option ℕ) (store : Stored)
    → may_give marks (op.New of) register ≡ true → MayHold marks [] register (Some (pointer (new_pointer store)))
points marks of None store may = tt
points marks of (Some register) store may = (on_time (marks.late register) may, whole (marks.cell register))
  where
    on_time : (late : Bool) → not late ≡ true → late ≡ false
    on_time false h = refl
    on_time true h = absurd (true≢false (sym h))

    whole : (is_cell : Bool) → MayPoint is_cell [] (pointer (new_pointer store))
    whole true = (refl, refl)
    whole false = tt

cell_agrees : (store : Stored) (found : Option Val) (zero : Val) → found ≡ Some zero
    → Agree {A = Stores}
    (then_to (λ it. record { value = pointer (new_pointer store); store = made store it }) (of_option found))
    (to (record { value = pointer (new_pointer store); store = made store zero }))
cell_agrees store found zero is =
    agree_same
    (then_to (λ it. record { value = pointer (new_pointer store); store = made store it }) (of_option found))
    (to (record { value = pointer (new_pointer store); store = made store zero }))
    (ap (λ found. then_to (λ it. record { value = pointer (new_pointer store); store = made store it }) (of_option found))
    (sym is))

new_settled : (of : TypeId) → IsAlikeSettled (op.New of)
unfolding acts planned_acts
new_settled of k known a register (act.New zero slot) may is acting =
    gives_stored_alike k known a (act.New zero slot) acting register slot is.1 (steps.new_cell (site_of k a) of)
    (to (planned.new_cell (plan_at a) zero))
    (cell_agrees a.m.store (zero_of k.code of) (held_value zero.value) is.0)
    (record {
      kept = none_pending (k.marks a.frame.function.number) (made a.m.store (held_value zero.value)) a.frame;
      may = points (k.marks a.frame.function.number) of register a.m.store may;
    })
new_settled of k known a register _ may is acting = absurd is

pub new_alike : (of : TypeId) → IsAlike (op.New of)
new_alike of = alike_from (op.New of) (new_settled of)

make_map_settled : (of : TypeId) → IsAlikeSettled (op.MakeMap of)
unfolding acts planned_acts
make_map_settled of k known a register (act.MakeMap slot) may is acting =
    gives_stored_alike k known a (act.MakeMap slot) acting register slot is (to (steps.new_map (site_of k a)))
    (to (planned.new_map (plan_at a)))
    (agree_same (to (steps.new_map (site_of k a))) (to (planned.new_map (plan_at a))) refl)
    (record {
      kept = none_pending (k.marks a.frame.function.number) (made_map a.m.store) a.frame;
      may =
          may_hold (k.marks a.frame.function.number) [] register (planned.new_map (plan_at a)).value may;
    })
make_map_settled of k known a register _ may is acting = absurd is

pub make_map_alike : (of : TypeId) → IsAlike (op.MakeMap of)
make_map_alike of = alike_from (op.MakeMap of) (make_map_settled of)

-- ---- more leaves than a slice has are as many

pub most_same : (n : ℕ) → most_elements (counted_leaves n) ≡ most_elements n
most_same n = by_count (within_or_past n 16777217)
  where
    by_count : (n < 16777217) ⊎ (16777217 ≤ n) → most_elements (counted_leaves n) ≡ most_elements n
    by_count (inl below) = ap most_elements (omega arith)
    by_count (inr past) =
        let counted : 16777216 < max (min 16777217 n) 1 = omega arith in
        let all : 16777216 < max n 1 = omega arith in
        div-eq_of_lt counted ∙ sym (div-eq_of_lt all)

-- ---- channels

chan_same : (n : ℕ) (sched : State) (size : ℤ) → made_chan (counted_leaves n) sched size ≡ made_chan n sched size
chan_same n sched size =
    ap (λ most. if int_lt size (pos 0) || int_lt (pos most) size then faults fault.MakeChan
    else to (record {
      value = chan_number (Some (record { number = length sched.channels }));
      sched = with_new_chan (unsigned_abs size) sched;
    })) (most_same n)

-- an operation on a type's elements that is made by their leaves, where they count alike
by_leaves : {A : Type 0} (k : Known) (found : Option TypeId) (leaves : ℕ)
    → option_map (λ elem. counted_leaves (leaves_of k.code.types elem)) found ≡ Some leaves
    → (f : TypeId → Comes A) (g : ℕ → Comes A)
    → ((elem : TypeId) → found ≡ Some elem → Agree (f elem) (g (counted_leaves (leaves_of k.code.types elem))))
    → Agree (where_some f found) (g leaves)
by_leaves k None leaves is f g agree = absurd (none-some leaves is)
by_leaves k (Some elem) leaves is f g agree =
    subst (λ leaves. Agree (f elem) (g leaves))
    (same_Some (counted_leaves (leaves_of k.code.types elem)) leaves is) (agree elem refl)

chan_agrees : (k : Known) (a : Acting) (step : Step) → IsActing k a step → (of : TypeId) (size : Operand) (arg : Arg)
    → IsArg (plan_site k a) size arg → (leaves : ℕ) → HasLeaves (plan_site k a) of leaves
    → Agree (steps.make_chan (site_of k a) of size) (with_integer (plan_at a) arg (made_chan leaves a.m.sched))
chan_agrees k a step acting of size arg is leaves has =
    by_leaves k (element_in (under k.code (Some of))) leaves has
    (λ elem. steps.with_integer (site_of k a) size (made_chan (leaves_of k.code.types elem) a.m.sched))
    (λ leaves. with_integer (plan_at a) arg (made_chan leaves a.m.sched))
    (λ elem there. both_integers k a step acting size arg is (made_chan (leaves_of k.code.types elem) a.m.sched)
    (made_chan (counted_leaves (leaves_of k.code.types elem)) a.m.sched)
    (λ n. agree_same (made_chan (leaves_of k.code.types elem) a.m.sched n)
    (made_chan (counted_leaves (leaves_of k.code.types elem)) a.m.sched n)
    (chan_same (leaves_of k.code.types elem) a.m.sched n)))

chan_well : (a : Acting) (leaves : ℕ) (v : Val) → ChannelWell a (on_integer (made_chan leaves a.m.sched) v)
chan_well a leaves (number n) = of_size (is_no_size leaves n)
  where
    of_size : (none : Bool)
        → ChannelWell a (if none then faults fault.MakeChan
        else to (record {
          value = chan_number (Some (record { number = length a.m.sched.channels }));
          sched = with_new_chan (unsigned_abs n) a.m.sched;
        }))
    of_size true = tt
    of_size false = refl
chan_well a leaves _ = tt

make_chan_settled : (of : TypeId) (size : Operand) → IsAlikeSettled (op.MakeChan of size)
unfolding acts planned_acts
make_chan_settled of size k known a register (act.MakeChan leaves arg slot) may is acting =
    gives_channel_alike k known a (act.MakeChan leaves arg slot) acting register slot is.2 may
    (steps.make_chan (site_of k a) of size) (with_integer (plan_at a) arg (made_chan leaves a.m.sched))
    (chan_agrees k a (act.MakeChan leaves arg slot) acting of size arg is.1 leaves is.0)
    (holds_of_one (ChannelWell a) (on_integer (made_chan leaves a.m.sched)) tt (chan_well a leaves)
    (look (plan_at a) arg))
make_chan_settled of size k known a register _ may is acting = absurd is

pub make_chan_alike : (of : TypeId) (size : Operand) → IsAlike (op.MakeChan of size)
make_chan_alike of size = alike_from (op.MakeChan of size) (make_chan_settled of size)

-- ---- slices

fault_same : (n : ℕ) (len cap : ℤ) → make_fault (counted_leaves n) len cap ≡ make_fault n len cap
fault_same n len cap =
    ap (λ most. if int_lt len (pos 0) || int_lt (pos most) len then Some fault.MakeSliceLen
    else (if int_lt cap len || int_lt (pos most) cap then Some fault.MakeSliceCap else None)) (most_same n)

-- with the zero value of the elements, where the code has one
sized_agrees : (k : Known) (a : Acting) (step : Step) → IsActing k a step → (len cap : Operand) (one other : Arg)
    → IsArg (plan_site k a) len one → IsArg (plan_site k a) cap other → (leaves : ℕ) (zero : Val)
    → Agree
    (steps.with_integer (site_of k a) len (λ n. steps.with_integer (site_of k a) cap (λ m.
    made_slice leaves a.m.store zero n m)))
    (planned.with_integers (plan_at a) one other (made_slice (counted_leaves leaves) a.m.store zero))
sized_agrees k a step acting len cap one other is is' leaves zero =
    both_integers k a step acting len one is
    (λ n. steps.with_integer (site_of k a) cap (λ m. made_slice leaves a.m.store zero n m))
    (λ n. with_integer (plan_at a) other (λ m. made_slice (counted_leaves leaves) a.m.store zero n m))
    (λ n. both_integers k a step acting cap other is' (made_slice leaves a.m.store zero n)
    (made_slice (counted_leaves leaves) a.m.store zero n)
    (λ m. agree_same (made_slice leaves a.m.store zero n m) (made_slice (counted_leaves leaves) a.m.store zero n m)
    (ap (λ found. made_where found (record {
      value = slice (slice_of_new a.m.store (unsigned_abs n) (unsigned_abs m));
      store = with_zeros a.m.store zero m;
    })) (fault_same leaves n m))))

zeros_agree : {A : Type 0} (found : Option Val) (zero : Val) → found ≡ Some zero → (f : Val → Comes A) (y : Comes A)
    → Agree (f zero) y → Agree (where_some f found) y
zeros_agree found zero is f y agree = subst (λ found. Agree (where_some f found) y) (sym is) agree

make_slice_agrees : (k : Known) (a : Acting) (step : Step) → IsActing k a step → (of : TypeId) (len cap : Operand)
    → (one other : Arg) → IsArg (plan_site k a) len one → IsArg (plan_site k a) cap other → (leaves : ℕ)
    → HasLeaves (plan_site k a) of leaves → (zero : Val)
    → zero_where k.code (element_in (under k.code (Some of))) ≡ Some zero
    → Agree (steps.make_slice (site_of k a) of len cap)
    (planned.with_integers (plan_at a) one other (made_slice leaves a.m.store zero))
make_slice_agrees k a step acting of len cap one other is is' leaves has zero is_zero =
    by_leaves k (element_in (under k.code (Some of))) leaves has
    (λ elem. where_some (λ zero. steps.with_integer (site_of k a) len (λ n. steps.with_integer (site_of k a) cap (λ m.
    made_slice (leaves_of k.code.types elem) a.m.store zero n m))) (zero_of k.code elem))
    (λ leaves. planned.with_integers (plan_at a) one other (made_slice leaves a.m.store zero))
    (λ elem there. zeros_agree (zero_of k.code elem) zero
    (sym (ap (option_and_then (zero_of k.code)) there) ∙ is_zero)
    (λ zero. steps.with_integer (site_of k a) len (λ n. steps.with_integer (site_of k a) cap (λ m.
    made_slice (leaves_of k.code.types elem) a.m.store zero n m)))
    (planned.with_integers (plan_at a) one other
    (made_slice (counted_leaves (leaves_of k.code.types elem)) a.m.store zero))
    (sized_agrees k a step acting len cap one other is is' (leaves_of k.code.types elem) zero))

slice_well : (k : Known) (a : Acting) (step : Step) → IsActing k a step → behind step a.pending ≡ []
    → (register : Option ℕ) → may_give (k.marks a.frame.function.number) op.Tick register ≡ true → (zero : Val)
    → (n m : ℤ) (found : Option Fault)
    → StoresWell k a step register
    (made_where found (record {
      value = slice (slice_of_new a.m.store (unsigned_abs n) (unsigned_abs m));
      store = with_zeros a.m.store zero m;
    }))
slice_well k a step acting nothing register may zero n m (Some it) = tt
slice_well k a step acting nothing register may zero n m None =
    record {
      kept =
          subst (λ pending. ArePending (k.marks a.frame.function.number) (with_zeros a.m.store zero m) pending a.frame)
          (sym nothing) (none_pending (k.marks a.frame.function.number) (with_zeros a.m.store zero m) a.frame);
      may =
          may_hold (k.marks a.frame.function.number) (behind step a.pending) register
          (slice (slice_of_new a.m.store (unsigned_abs n) (unsigned_abs m))) may;
    }

holds_of_integer : {A : Type 0} (P : Comes A → Type 0) (g : ℤ → Comes A) → P nowhere → ((n : ℤ) → P (g n))
    → (x : Option Val) → P (where_some (on_integer g) x)
holds_of_integer P g none each x = holds_of_one P (on_integer g) none of_value x
  where
    of_value : (v : Val) → P (on_integer g v)
    of_value (number n) = each n
    of_value _ = none

make_slice_settled : (of : TypeId) (len cap : Operand) → IsAlikeSettled (op.MakeSlice of len cap)
unfolding acts planned_acts
make_slice_settled of len cap k known a register (act.MakeSlice zero leaves one other slot) may is acting =
    gives_stored_alike k known a (act.MakeSlice zero leaves one other slot) acting register slot is.4
    (steps.make_slice (site_of k a) of len cap)
    (planned.with_integers (plan_at a) one other (made_slice leaves a.m.store (held_value zero.value)))
    (make_slice_agrees k a (act.MakeSlice zero leaves one other slot) acting of len cap one other is.2 is.3 leaves is.1
    (held_value zero.value) is.0)
    (holds_of_integer (StoresWell k a (act.MakeSlice zero leaves one other slot) register)
    (λ n. with_integer (plan_at a) other (λ m. made_slice leaves a.m.store (held_value zero.value) n m)) tt
    (λ n. holds_of_integer (StoresWell k a (act.MakeSlice zero leaves one other slot) register)
    (λ m. made_slice leaves a.m.store (held_value zero.value) n m) tt
    (λ m. slice_well k a (act.MakeSlice zero leaves one other slot) acting refl register may (held_value zero.value) n m
    (make_fault leaves n m)) (look (plan_at a) other)) (look (plan_at a) one))
make_slice_settled of len cap k known a register _ may is acting = absurd is

pub make_slice_alike : (of : TypeId) (len cap : Operand) → IsAlike (op.MakeSlice of len cap)
make_slice_alike of len cap = alike_from (op.MakeSlice of len cap) (make_slice_settled of len cap)
