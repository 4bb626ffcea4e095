-- Conversions, values in interfaces, and values that stay as they are.
use Rattle.std.proofs.Common.{ℕ, ◌≡◌, ℤ, Bool, true, false, List, [], Option, Some, None, Result, Ok, Err, refl, sym, ap}
use Rattle.std.proofs.Common.{subst, ◌∙◌, length, map}
use Rattle.code_plan.specs.Operands.{IsArg, IsTo}
use Rattle.code_plan.specs.Registers.{may_give, behind}
use Rattle.code_plan.specs.declared.steps.Arg.{Arg}
use Rattle.code_plan.specs.declared.steps.ConvertForm.TheVariants as convert
use Rattle.code_plan.specs.declared.steps.Step.{Step}
use Rattle.code_plan.specs.declared.steps.Step.TheVariants as act
use Rattle.go_base.specs.declared.ids.TypeId.{TypeId}
use Rattle.go_store.specs.Arrays.{array_of}
use Rattle.go_store.specs.Conversions.{numbers_of, new_slice}
use Rattle.go_store.specs.Slices.{elements_of}
use Rattle.go_store.specs.Stores.{Stored, made}
use Rattle.go_type.specs.Kinds.{kind_of}
use Rattle.go_type.specs.Table.{Table}
use Rattle.go_type.specs.declared.kinds.IntKind.{IntKind}
use Rattle.go_type.specs.declared.term.TypeTerm.{TypeTerm}
use Rattle.go_value.specs.Interfaces.{converted}
use Rattle.go_value.specs.Values.{Val, number, text, slice, dynamic}
use Rattle.go_value.specs.Values.{value_of as held_value}
use Rattle.go_value.specs.Ints.{wrapped}
use Rattle.go_value.specs.Runes as runes
use Rattle.go_value.specs.declared.address.SliceValue.{SliceValue}
use Rattle.go_value.specs.declared.faults.Fault.{Fault}
use Rattle.plan_laws.proofs.Acting.{Acting, IsActing, Agree, site_of, plan_site}
use Rattle.plan_laws.proofs.Agreeing.{one_read, agree_nowhere, agree_same, gives_one, one_agrees, holds_of_one}
use Rattle.plan_laws.proofs.Agreeing.{integer_agrees}
use Rattle.plan_laws.proofs.Alike.{Known, IsKnown, Follows, ArePending}
use Rattle.plan_laws.proofs.Giving.{plan_at, IsAlikeSettled, alike_from, gives_stored_alike, StoresWell}
use Rattle.plan_laws.proofs.Giving.{kept_behind, may_hold}
use Rattle.plan_laws.proofs.Slots.{none_pending}
use Rattle.plan_laws.proofs.Values.{IsAlike}
use Rattle.plan_mean.specs.Operands.{look, on_integer, with_integer}
use Rattle.plan_mean.specs.State as plans
use Rattle.plan_mean.specs.Step as planned
use Rattle.plan_mean.specs.Step.{acts as planned_acts}
use Rattle.ssa_ir.specs.declared.operands.Operand.{Operand}
use Rattle.ssa_ir.specs.declared.ops.Op.TheVariants as op
use Rattle.ssa_mean.specs.Answers.{Answers}
use Rattle.ssa_mean.specs.Comes.{Comes, to, faults, nowhere, of_result, then_to, where_some}
use Rattle.ssa_mean.specs.Conversions.{kept, conversion, converted_int, are_bytes, text_of_items, slice_of_text}
use Rattle.ssa_mean.specs.Making.{held_as, assertion}
use Rattle.ssa_mean.specs.Operands.{value_of, type_of, term_of, element_in, under_in}
use Rattle.ssa_mean.specs.Runes.{runes_of}
use Rattle.ssa_mean.specs.Step as steps
use Rattle.ssa_mean.specs.Step.{acts}
use Rattle.ssa_mean.specs.Zeros.{zero_of}

-- ---- values that stay as they are

change_type_settled : (of : TypeId) (it : Operand) → IsAlikeSettled (op.ChangeType of it)
unfolding acts planned_acts
change_type_settled of it k known a register (act.Keep arg slot) may is acting =
    gives_one k known a (act.Keep arg slot) acting register slot is.1 may it arg is.0 to to (λ v. refl)
change_type_settled of it k known a register _ may is acting = absurd is

pub change_type_alike : (of : TypeId) (it : Operand) → IsAlike (op.ChangeType of it)
change_type_alike of it = alike_from (op.ChangeType of it) (change_type_settled of it)

change_interface_settled : (of : TypeId) (it : Operand) → IsAlikeSettled (op.ChangeInterface of it)
unfolding acts planned_acts
change_interface_settled of it k known a register (act.Keep arg slot) may is acting =
    gives_one k known a (act.Keep arg slot) acting register slot is.1 may it arg is.0 to to (λ v. refl)
change_interface_settled of it k known a register _ may is acting = absurd is

pub change_interface_alike : (of : TypeId) (it : Operand) → IsAlike (op.ChangeInterface of it)
change_interface_alike of it = alike_from (op.ChangeInterface of it) (change_interface_settled of it)

-- ---- values in interfaces

-- the plan's world has the types of the code
same_types : (k : Known) → IsKnown k → k.w.naming.types ≡ k.code.types
same_types k known = ap (λ naming. naming.types) (sym known.naming)

converted_agrees : (types types' : Table) → types' ≡ types → (found : Option TypeId) (of : TypeId) → found ≡ Some of
    → (v : Val)
    → Agree (where_some (λ of. of_result (converted types of v)) found) (of_result (converted types' of v))
converted_agrees types types' same found of is v =
    agree_same (where_some (λ of. of_result (converted types of v)) found) (of_result (converted types' of v))
    (ap (λ types. of_result (converted types of v)) same
    ∙ ap (where_some (λ of. of_result (converted types of v))) (sym is))

make_interface_settled : (of : TypeId) (it : Operand) → IsAlikeSettled (op.MakeInterface of it)
unfolding acts planned_acts
make_interface_settled of it k known a register (act.MakeInterface from arg slot) may is acting =
    gives_one k known a (act.MakeInterface from arg slot) acting register slot is.2 may it arg is.1
    (λ v. where_some (λ of. of_result (converted k.code.types of v)) (type_of k.code a.function it))
    (λ v. of_result (converted k.w.naming.types from v))
    (converted_agrees k.code.types k.w.naming.types (same_types k known) (type_of k.code a.function it) from is.0)
make_interface_settled of it k known a register _ may is acting = absurd is

pub make_interface_alike : (of : TypeId) (it : Operand) → IsAlike (op.MakeInterface of it)
make_interface_alike of it = alike_from (op.MakeInterface of it) (make_interface_settled of it)

-- ---- "Type assertions"

held_same : (w : plans.World) (v : Val) (wanted : TypeId)
    → planned.held_as w v wanted ≡ held_as w.naming.types w.answers v wanted
held_same w (dynamic of it) wanted = refl
held_same w _ wanted = refl

asserted : (types : Table) (answers : Answers) (comma_ok : Bool) (v : Val) (of : TypeId) → Val → Comes Val
asserted types answers comma_ok v of other = assertion comma_ok v of (held_as types answers v of) other

asserted_agrees : (w : plans.World) (types : Table) → w.naming.types ≡ types → (comma_ok comma_ok' : Bool)
    → comma_ok' ≡ comma_ok → (of wanted : TypeId) → wanted ≡ of → (found : Option Val) (other : Val) → found ≡ Some other
    → (v : Val)
    → Agree (where_some (assertion comma_ok v of (held_as types w.answers v of)) found)
    (assertion comma_ok' v wanted (planned.held_as w v wanted) other)
unfolding asserted
asserted_agrees w types same comma_ok comma_ok' ok of wanted is found other is_zero v =
    agree_same (where_some (assertion comma_ok v of (held_as types w.answers v of)) found)
    (assertion comma_ok' v wanted (planned.held_as w v wanted) other)
    (ap (λ held. assertion comma_ok' v wanted held other) (held_same w v wanted)
    ∙ ap (λ types. asserted types w.answers comma_ok' v wanted other) same
    ∙ ap (λ ok. asserted types w.answers ok v wanted other) ok
    ∙ ap (λ of. asserted types w.answers comma_ok v of other) is
    ∙ ap (where_some (asserted types w.answers comma_ok v of)) (sym is_zero))

assert_settled : (it : Operand) (of : TypeId) (comma_ok : Bool) → IsAlikeSettled (op.TypeAssert it of comma_ok)
unfolding acts planned_acts
assert_settled it of comma_ok k known a register (act.Assert arg wanted zero with_ok slot) may is acting =
    gives_one k known a (act.Assert arg wanted zero with_ok slot) acting register slot is.4 may it arg is.0
    (λ v. where_some (assertion comma_ok v of (held_as k.code.types k.w.answers v of)) (zero_of k.code of))
    (λ v. assertion with_ok v wanted (planned.held_as k.w v wanted) (held_value zero.value))
    (asserted_agrees k.w k.code.types (same_types k known) comma_ok with_ok is.3 of wanted is.1 (zero_of k.code of)
    (held_value zero.value) is.2)
assert_settled it of comma_ok k known a register _ may is acting = absurd is

pub assert_alike : (it : Operand) (of : TypeId) (comma_ok : Bool) → IsAlike (op.TypeAssert it of comma_ok)
assert_alike it of comma_ok = alike_from (op.TypeAssert it of comma_ok) (assert_settled it of comma_ok)

-- ---- conversions to a number or to a text: the store stays as it is

then_of_one : {A B : Type 0} (f : A → B) (g : Val → Comes A) (x : Option Val)
    → then_to f (where_some g x) ≡ where_some (λ v. then_to f (g v)) x
then_of_one f g None = refl
then_of_one f g (Some v) = refl

int_agrees : (types : Table) (store : Stored) (from : Option TypeTerm) (of : TypeId) (kind : IntKind)
    → kind_of types of ≡ Some kind → (n : ℤ)
    → Agree (conversion types store from of (number n)) (to (kept store (number (wrapped kind n))))
int_agrees types store from of kind is n = ap (λ kind. kept store (converted_int kind n)) (sym is)

rune_agrees : (types : Table) (store : Stored) (from : Option TypeTerm) (of : TypeId)
    → kind_of types of ≡ None → (n : ℤ)
    → Agree (conversion types store from of (number n)) (to (kept store (text (runes.rune_bytes n))))
rune_agrees types store from of is n = ap (λ kind. kept store (converted_int kind n)) (sym is)

text_agrees : (types : Table) (store : Stored) (from : Option TypeTerm) (of : TypeId) (bytes : Bool)
    → are_bytes types (element_in from) ≡ bytes → (v : Val)
    → Agree (conversion types store from of v) (then_to (kept store) (planned.text_of_slice store bytes v))
text_agrees types store from of bytes is (slice it) =
    agree_same (conversion types store from of (slice it))
    (then_to (kept store) (planned.text_of_slice store bytes (slice it)))
    (ap (λ bytes. then_to (kept store) (where_some (text_of_items bytes) (elements_of store it))) (sym is))
text_agrees types store from of bytes is v = agree_nowhere (conversion types store from of v)

slice_agrees : (types : Table) (store : Stored) (from : Option TypeTerm) (of : TypeId) (bytes : Bool)
    → are_bytes types (element_in (under_in types (Some of))) ≡ bytes → (v : Val)
    → Agree (conversion types store from of v) (planned.slice_of store bytes v)
slice_agrees types store from of bytes is (text it) =
    agree_same (conversion types store from of (text it)) (planned.slice_of store bytes (text it))
    (ap (λ bytes. slice_of_text store bytes it) (sym is))
slice_agrees types store from of bytes is v = agree_nowhere (conversion types store from of v)

-- what is kept is well, and a new array is where nothing is pending
kept_well : (k : Known) (a : Acting) (step : Step) → IsActing k a step → (register : Option ℕ)
    → may_give (k.marks a.frame.function.number) op.Tick register ≡ true → (it : Val)
    → StoresWell k a step register (to (kept a.m.store it))
kept_well k a step acting register may it =
    record {
      kept = kept_behind k a step acting;
      may = may_hold (k.marks a.frame.function.number) (behind step a.pending) register it may;
    }

then_kept_well : (k : Known) (a : Acting) (step : Step) → IsActing k a step → (register : Option ℕ)
    → may_give (k.marks a.frame.function.number) op.Tick register ≡ true → (x : Comes Val)
    → StoresWell k a step register (then_to (kept a.m.store) x)
then_kept_well k a step acting register may (to it) = kept_well k a step acting register may it
then_kept_well k a step acting register may (faults it) = tt
then_kept_well k a step acting register may nowhere = tt

int_well : (k : Known) (a : Acting) (step : Step) → IsActing k a step → (register : Option ℕ)
    → may_give (k.marks a.frame.function.number) op.Tick register ≡ true → (f : ℤ → Val) → (v : Val)
    → StoresWell k a step register (on_integer (λ n. to (kept a.m.store (f n))) v)
int_well k a step acting register may f (number n) = kept_well k a step acting register may (f n)
int_well k a step acting register may f _ = tt

made_well : (k : Known) (a : Acting) (step : Step) → IsActing k a step → behind step a.pending ≡ []
    → (register : Option ℕ) → may_give (k.marks a.frame.function.number) op.Tick register ≡ true → (ints : List ℤ)
    → (made_slice : Result SliceValue Fault)
    → StoresWell k a step register
    (then_to (λ it. record { value = slice it; store = made a.m.store (array_of (map number ints)) })
    (of_result made_slice))
made_well k a step acting nothing register may ints (Ok it) =
    record {
      kept =
          subst (λ pending. ArePending (k.marks a.frame.function.number) (made a.m.store (array_of (map number ints)))
          pending a.frame) (sym nothing)
          (none_pending (k.marks a.frame.function.number) (made a.m.store (array_of (map number ints))) a.frame);
      may = may_hold (k.marks a.frame.function.number) (behind step a.pending) register (slice it) may;
    }
made_well k a step acting nothing register may ints (Err it) = tt

slice_well : (k : Known) (a : Acting) (step : Step) → IsActing k a step → behind step a.pending ≡ []
    → (register : Option ℕ) → may_give (k.marks a.frame.function.number) op.Tick register ≡ true → (bytes : Bool)
    → (v : Val) → StoresWell k a step register (planned.slice_of a.m.store bytes v)
slice_well k a step acting nothing register may true (text it) =
    made_well k a step acting nothing register may (numbers_of it)
    (new_slice a.m.store (length (numbers_of it)))
slice_well k a step acting nothing register may false (text it) =
    made_well k a step acting nothing register may (numbers_of (runes_of it))
    (new_slice a.m.store (length (numbers_of (runes_of it))))
slice_well k a step acting nothing register may bytes _ = tt

-- ---- the forms of conversions

-- a number in the place of another
number_converts : (k : Known) → IsKnown k → (a : Acting) (step : Step) → IsActing k a step → (register : Option ℕ)
    (slot : ℕ) → IsTo (plan_site k a) register slot
    → may_give (k.marks a.frame.function.number) op.Tick register ≡ true → (of : TypeId) (it : Operand) (arg : Arg)
    → IsArg (plan_site k a) it arg → (f : ℤ → Val)
    → ((n : ℤ) → Agree (conversion k.code.types a.m.store (term_of k.code a.function it) of (number n))
    (to (kept a.m.store (f n))))
    → Follows k (steps.gives_stored (site_of k a) register (steps.convert (site_of k a) of it))
    (planned.gives_stored k.w (plan_at a) slot (with_integer (plan_at a) arg (λ n. to (kept a.m.store (f n)))))
number_converts k known a step acting register slot same may of it arg is f agree =
    gives_stored_alike k known a step acting register slot same (steps.convert (site_of k a) of it)
    (with_integer (plan_at a) arg (λ n. to (kept a.m.store (f n))))
    (integer_agrees (conversion k.code.types a.m.store (term_of k.code a.function it) of)
    (λ n. to (kept a.m.store (f n))) agree (value_of k.code a.frame it) (look (plan_at a) arg)
    (one_read k a step acting it arg is))
    (holds_of_one (StoresWell k a step register) (on_integer (λ n. to (kept a.m.store (f n)))) tt
    (int_well k a step acting register may f) (look (plan_at a) arg))

-- a slice as a text
text_converts : (k : Known) → IsKnown k → (a : Acting) (step : Step) → IsActing k a step → (register : Option ℕ)
    (slot : ℕ) → IsTo (plan_site k a) register slot
    → may_give (k.marks a.frame.function.number) op.Tick register ≡ true → (of : TypeId) (it : Operand) (arg : Arg)
    → IsArg (plan_site k a) it arg → (bytes : Bool)
    → are_bytes k.code.types (element_in (term_of k.code a.function it)) ≡ bytes
    → Follows k (steps.gives_stored (site_of k a) register (steps.convert (site_of k a) of it))
    (planned.gives_stored k.w (plan_at a) slot
    (then_to (kept a.m.store) (where_some (planned.text_of_slice a.m.store bytes) (look (plan_at a) arg))))
text_converts k known a step acting register slot same may of it arg is bytes are =
    subst (λ y. Follows k (steps.gives_stored (site_of k a) register (steps.convert (site_of k a) of it))
    (planned.gives_stored k.w (plan_at a) slot y))
    (sym (then_of_one (kept a.m.store) (planned.text_of_slice a.m.store bytes) (look (plan_at a) arg)))
    (gives_stored_alike k known a step acting register slot same (steps.convert (site_of k a) of it)
    (where_some (λ v. then_to (kept a.m.store) (planned.text_of_slice a.m.store bytes v)) (look (plan_at a) arg))
    (one_agrees (conversion k.code.types a.m.store (term_of k.code a.function it) of)
    (λ v. then_to (kept a.m.store) (planned.text_of_slice a.m.store bytes v))
    (text_agrees k.code.types a.m.store (term_of k.code a.function it) of bytes are)
    (value_of k.code a.frame it) (look (plan_at a) arg) (one_read k a step acting it arg is))
    (holds_of_one (StoresWell k a step register)
    (λ v. then_to (kept a.m.store) (planned.text_of_slice a.m.store bytes v)) tt
    (λ v. then_kept_well k a step acting register may (planned.text_of_slice a.m.store bytes v))
    (look (plan_at a) arg)))

-- a text as a slice
slice_converts : (k : Known) → IsKnown k → (a : Acting) (step : Step) → IsActing k a step → behind step a.pending ≡ []
    → (register : Option ℕ) (slot : ℕ) → IsTo (plan_site k a) register slot
    → may_give (k.marks a.frame.function.number) op.Tick register ≡ true → (of : TypeId) (it : Operand) (arg : Arg)
    → IsArg (plan_site k a) it arg → (bytes : Bool)
    → are_bytes k.code.types (element_in (under_in k.code.types (Some of))) ≡ bytes
    → Follows k (steps.gives_stored (site_of k a) register (steps.convert (site_of k a) of it))
    (planned.gives_stored k.w (plan_at a) slot
    (where_some (planned.slice_of a.m.store bytes) (look (plan_at a) arg)))
slice_converts k known a step acting nothing register slot same may of it arg is bytes are =
    gives_stored_alike k known a step acting register slot same (steps.convert (site_of k a) of it)
    (where_some (planned.slice_of a.m.store bytes) (look (plan_at a) arg))
    (one_agrees (conversion k.code.types a.m.store (term_of k.code a.function it) of)
    (planned.slice_of a.m.store bytes)
    (slice_agrees k.code.types a.m.store (term_of k.code a.function it) of bytes are)
    (value_of k.code a.frame it) (look (plan_at a) arg) (one_read k a step acting it arg is))
    (holds_of_one (StoresWell k a step register) (planned.slice_of a.m.store bytes) tt
    (slice_well k a step acting nothing register may bytes) (look (plan_at a) arg))

convert_settled : (of : TypeId) (it : Operand) → IsAlikeSettled (op.Convert of it)
unfolding acts planned_acts
convert_settled of it k known a register (act.Convert (convert.Int kind) arg slot) may is acting =
    number_converts k known a (act.Convert (convert.Int kind) arg slot) acting register slot is.2 may of it arg is.1
    (λ n. number (wrapped kind n))
    (int_agrees k.code.types a.m.store (term_of k.code a.function it) of kind is.0)
convert_settled of it k known a register (act.Convert convert.IntToText arg slot) may is acting =
    number_converts k known a (act.Convert convert.IntToText arg slot) acting register slot is.2 may of it arg is.1
    (λ n. text (runes.rune_bytes n))
    (rune_agrees k.code.types a.m.store (term_of k.code a.function it) of is.0)
convert_settled of it k known a register (act.Convert convert.BytesToText arg slot) may is acting =
    text_converts k known a (act.Convert convert.BytesToText arg slot) acting register slot is.2 may of it arg is.1 true
    is.0
convert_settled of it k known a register (act.Convert convert.RunesToText arg slot) may is acting =
    text_converts k known a (act.Convert convert.RunesToText arg slot) acting register slot is.2 may of it arg is.1 false
    is.0
convert_settled of it k known a register (act.Convert convert.TextToBytes arg slot) may is acting =
    slice_converts k known a (act.Convert convert.TextToBytes arg slot) acting refl register slot is.2 may of it arg is.1
    true is.0
convert_settled of it k known a register (act.Convert convert.TextToRunes arg slot) may is acting =
    slice_converts k known a (act.Convert convert.TextToRunes arg slot) acting refl register slot is.2 may of it arg is.1
    false is.0
convert_settled of it k known a register _ may is acting = absurd is

pub convert_alike : (of : TypeId) (it : Operand) → IsAlike (op.Convert of it)
convert_alike of it = alike_from (op.Convert of it) (convert_settled of it)
