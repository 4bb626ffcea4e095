-- What an instruction on integers gives is what the machine gives.
use Rattle.std.proofs.Common.{◌≡◌, ◌∙◌, ℕ, ◌+◌, ◌<◌, List, ◌∷◌, ℤ, Option, Some, None, Bool, true, false, refl, sym, ap}
use Rattle.std.proofs.Common.{length, arith}
use Rattle.std.specs.Prelude.{if◌then◌else◌, is_none, nat_lt, slice_set}
use Rattle.std.specs.Option.{option_and_then}
use Rattle.std.proofs.lemmas.Bool.{ltb-true}
use Rattle.go_base.specs.declared.ids.TypeId.{TypeId}
use Rattle.go_store.specs.Cells.{integer_in}
use Rattle.go_store.specs.Stores.{Stored, loaded}
use Rattle.go_type.specs.Kinds.{kind_of}
use Rattle.go_type.specs.declared.kinds.IntKind.{IntKind}
use Rattle.go_value.specs.Values.{Val, number, pointer}
use Rattle.go_value.specs.declared.address.Pointer.{Pointer}
use Rattle.go_value.specs.declared.faults.Fault.{Fault}
use Rattle.go_value.specs.declared.faults.Fault.TheVariants as fault
use Rattle.int_steps.specs.Laws.{GoesOn, IntsAct, IsFrameOf, state_at}
use Rattle.int_steps.specs.Steps as meant
use Rattle.int_steps.specs.Steps.{State, as_pointer, converted, held, int_assigned, int_does, int_given, int_loaded}
use Rattle.int_steps.specs.Steps.{integer_of, on_two, pointer_of, with_value}
use Rattle.plan_mean.specs.Slots.{slot_in}
use Rattle.ssa_ir.specs.declared.operands.ConstValue.{ConstValue}
use Rattle.ssa_ir.specs.declared.operands.ConstValue.TheVariants as constant
use Rattle.ssa_ir.specs.declared.operands.Operand.{Operand}
use Rattle.ssa_ir.specs.declared.operands.Operand.TheVariants as operand
use Rattle.ssa_ir.specs.declared.ops.Infix.{Infix}
use Rattle.ssa_ir.specs.declared.ops.Infix.TheVariants as infix_of
use Rattle.ssa_ir.specs.declared.ops.Op.{Op}
use Rattle.ssa_ir.specs.declared.ops.Op.TheVariants as op
use Rattle.ssa_mean.specs.Answers.{Answers}
use Rattle.ssa_mean.specs.Arithmetic.{binary, negated_in, unary_of}
use Rattle.ssa_mean.specs.Comes.{Comes, to, faults, nowhere, of_option, then_to, where_some}
use Rattle.ssa_mean.specs.Conversions.{conversion, converted_int, kept}
use Rattle.ssa_mean.specs.Operands.{term_of}
use Rattle.ssa_mean.specs.Places.{assigned, load}
use Rattle.ssa_mean.specs.Slots.{SlotsTell, slot_at, slots_of}
use Rattle.ssa_mean.specs.State.{with_result}
use Rattle.ssa_mean.specs.Step.{Site, acts, changes_store, gives_stored, gives_value, goes_behind, kind_at}
use Rattle.ssa_mean.specs.Step.{convert, value, with_one, with_two}
use Rattle.ssa_mean.specs.Unwinding.{meets}

-- ---- operands

-- what a slot holds that there is where a test says so
there : (slots : List (List (Option Val))) (slot : ℕ) (test : Bool) (v : Val)
    → option_and_then (slot_in slots) (if test then Some slot else None) ≡ Some v
    → (test ≡ true) × (slot_in slots slot ≡ Some v)
there slots slot true v is = (refl, is)
there slots slot false v is = let no : ⊥ = cc in absurd no

held_is : SlotsTell → (s : Site) (below : List (List (Option Val))) (it : Operand) (v : Val)
    → IsFrameOf s.function s.frame → held s.function (slots_of s.frame ∷ below) it ≡ Some v → value s it ≡ Some v
held_is tell s below (operand.Param n) v frame is =
    let found = there (slots_of s.frame ∷ below) n (nat_lt n (length s.function.params)) v is in
    let small : n < length s.function.params = ltb-true n (length s.function.params) found.0 in
    let within : n < length s.frame.parameters = omega (arith, small, frame.0) in
    sym (tell.parameter s.code s.frame n within) ∙ found.1
held_is tell s below (operand.Free n) v frame is =
    let found =
    there (slots_of s.frame ∷ below) (length s.function.params + n) (nat_lt n (length s.function.free)) v is in
    let small : n < length s.function.free = ltb-true n (length s.function.free) found.0 in
    let within : n < length s.frame.free = omega (arith, small, frame.1) in
    sym (tell.free s.code s.frame n within) ∙ ap (λ k. slot_at s.frame (k + n)) frame.0 ∙ found.1
held_is tell s below (operand.Register n) v frame is =
    sym (tell.register s.code s.frame n)
    ∙ ap (λ k. slot_at s.frame (k + (length s.frame.free + n))) frame.0
    ∙ ap (λ k. slot_at s.frame (length s.function.params + (k + n))) frame.1 ∙ is
held_is tell s below _ v frame is = let no : ⊥ = cc in absurd no

number_there : (v : Option Val) (n : ℤ) → integer_in v ≡ Some n → v ≡ Some (number n)
number_there (Some (number m)) n is = let same : m ≡ n = cc in ap (λ n. Some (number n)) same
number_there _ n is = let no : ⊥ = cc in absurd no

pointer_there : (v : Option Val) (at : Pointer) → option_and_then as_pointer v ≡ Some at → v ≡ Some (pointer at)
pointer_there (Some (pointer it)) at is = let same : it ≡ at = cc in ap (λ at. Some (pointer at)) same
pointer_there _ at is = let no : ⊥ = cc in absurd no

constant_is : (s : Site) (it : ConstValue) (of : _) (n : ℤ) → meant.constant_integer it ≡ Some n
    → value s (operand.Constant it of) ≡ Some (number n)
constant_is s (constant.Int m) of n is = let same : m ≡ n = cc in ap (λ n. Some (number n)) same
constant_is s _ of n is = let no : ⊥ = cc in absurd no

integer_is : SlotsTell → (s : Site) (below : List (List (Option Val))) (it : Operand) (n : ℤ)
    → IsFrameOf s.function s.frame → integer_of s.function (slots_of s.frame ∷ below) it ≡ Some n
    → value s it ≡ Some (number n)
integer_is tell s below (operand.Constant it of) n frame is = constant_is s it of n is
integer_is tell s below it n frame is =
    held_is tell s below it (number n) frame
    (number_there (held s.function (slots_of s.frame ∷ below) it) n is)

pointer_is : SlotsTell → (s : Site) (below : List (List (Option Val))) (it : Operand) (at : Pointer)
    → IsFrameOf s.function s.frame → pointer_of s.function (slots_of s.frame ∷ below) it ≡ Some at
    → value s it ≡ Some (pointer at)
pointer_is tell s below it at frame is =
    held_is tell s below it (pointer at) frame
    (pointer_there (held s.function (slots_of s.frame ∷ below) it) at is)

kind_is : (s : Site) (slots : List (List (Option Val))) (it : Operand) (n : ℤ)
    → integer_of s.function slots it ≡ Some n → kind_at s it ≡ meant.kind_at s.code.types s.function it
kind_is s slots (operand.Param n) m is = refl
kind_is s slots (operand.Free n) m is = refl
kind_is s slots (operand.Register n) m is = refl
kind_is s slots (operand.Constant it of) m is = refl
kind_is s slots _ m is = let no : ⊥ = cc in absurd no

-- ---- the value that an instruction gives

binary_is : (answers : Answers) (kind : Option IntKind) (o : Infix) (a b : ℤ)
    → binary answers kind o (number a) (number b) ≡ on_two kind o a b
binary_is answers kind (infix_of.Operate o) a b = refl
binary_is answers kind (infix_of.Compare o) a b = refl

two_give : SlotsTell → (s : Site) (below : List (List (Option Val))) (o : Infix) (left right : Operand) (x : Comes Val)
    (p q : Option ℤ) → IsFrameOf s.function s.frame → (x ≡ nowhere → ⊥)
    → integer_of s.function (slots_of s.frame ∷ below) left ≡ p
    → integer_of s.function (slots_of s.frame ∷ below) right ≡ q
    → where_some (λ a. where_some (on_two (meant.kind_at s.code.types s.function left) o a) q) p ≡ x
    → with_two s left right (binary s.answers (kind_at s left) o) ≡ x
two_give tell s below o left right x None q frame some l r is = absurd (some (sym is))
two_give tell s below o left right x (Some a) None frame some l r is = absurd (some (sym is))
two_give tell s below o left right x (Some a) (Some b) frame some l r is =
    ap (λ p. where_some (λ a. where_some (λ b. binary s.answers (kind_at s left) o a b) (value s right)) p)
    (integer_is tell s below left a frame l)
    ∙ ap (λ q. where_some (λ b. binary s.answers (kind_at s left) o (number a) b) q)
    (integer_is tell s below right b frame r)
    ∙ binary_is s.answers (kind_at s left) o a b
    ∙ ap (λ kind. on_two kind o a b) (kind_is s (slots_of s.frame ∷ below) left a l) ∙ is

one_gives : SlotsTell → (s : Site) (below : List (List (Option Val))) (o : _) (it : Operand) (x : Comes Val)
    (p : Option ℤ) → IsFrameOf s.function s.frame → (x ≡ nowhere → ⊥)
    → integer_of s.function (slots_of s.frame ∷ below) it ≡ p
    → where_some (negated_in (meant.kind_at s.code.types s.function it) o) p ≡ x
    → with_one s it (unary_of (kind_at s it) o) ≡ x
one_gives tell s below o it x None frame some l is = absurd (some (sym is))
one_gives tell s below o it x (Some a) frame some l is =
    ap (λ p. where_some (unary_of (kind_at s it) o) p) (integer_is tell s below it a frame l)
    ∙ ap (λ kind. negated_in kind o a) (kind_is s (slots_of s.frame ∷ below) it a l) ∙ is

conversion_is : (s : Site) (from of : _) (a : ℤ) (kind : Option IntKind) (x : Comes Val) → (x ≡ nowhere → ⊥)
    → kind_of s.code.types of ≡ kind → converted kind a ≡ x
    → conversion s.code.types s.machine.store from of (number a) ≡ then_to (kept s.machine.store) x
conversion_is s from of a None x some k is = absurd (some (sym is))
conversion_is s from of a (Some kind) x some k is =
    ap (λ kind. to (kept s.machine.store (converted_int kind a))) k
    ∙ ap (then_to (kept s.machine.store)) is

loaded_is : (store : Stored) (at : Pointer) (nil : Bool) (there : Option Val) (x : Comes Val) → (x ≡ nowhere → ⊥)
    → (if nil then faults fault.NilPointer else then_to number (of_option (integer_in there))) ≡ x
    → (if nil then faults fault.NilPointer else of_option there) ≡ x
loaded_is store at true there x some is = is
loaded_is store at false (Some (number n)) x some is = is
loaded_is store at false _ x some is = absurd (some (sym is))

converted_gives : SlotsTell → (s : Site) (below : List (List (Option Val))) (of : TypeId) (it : Operand) (x : Comes Val)
    (p : Option ℤ) → IsFrameOf s.function s.frame → (x ≡ nowhere → ⊥)
    → integer_of s.function (slots_of s.frame ∷ below) it ≡ p
    → where_some (converted (kind_of s.code.types of)) p ≡ x → convert s of it ≡ then_to (kept s.machine.store) x
converted_gives tell s below of it x None frame some l is = absurd (some (sym is))
converted_gives tell s below of it x (Some a) frame some l is =
    ap (where_some (conversion s.code.types s.machine.store (term_of s.code s.function it) of))
    (integer_is tell s below it a frame l)
    ∙ conversion_is s (term_of s.code s.function it) of a (kind_of s.code.types of) x some refl is

load_gives : SlotsTell → (s : Site) (below : List (List (Option Val))) (it : Operand) (x : Comes Val)
    (p : Option Pointer) → IsFrameOf s.function s.frame → (x ≡ nowhere → ⊥)
    → pointer_of s.function (slots_of s.frame ∷ below) it ≡ p
    → where_some (int_loaded s.machine.store) p ≡ x → with_one s it (load s.machine.store) ≡ x
load_gives tell s below it x None frame some l is = absurd (some (sym is))
load_gives tell s below it x (Some at) frame some l is =
    ap (where_some (load s.machine.store)) (pointer_is tell s below it at frame l)
    ∙ loaded_is s.machine.store at (is_none at.cell) (loaded s.machine.store at) x some is

-- what an instruction on integers gives, the machine gives
given_acts : SlotsTell → (s : Site) (below : List (List (Option Val))) (register : Option ℕ) (o : Op) (x : Comes Val)
    → IsFrameOf s.function s.frame → (x ≡ nowhere → ⊥)
    → int_given s.code.types s.function (state_at s below) o ≡ x → acts s register o ≡ gives_value s register x
unfolding acts
given_acts tell s below register (op.Binary o left right) x frame some is =
    ap (gives_value s register)
    (two_give tell s below o left right x (integer_of s.function (slots_of s.frame ∷ below) left)
    (integer_of s.function (slots_of s.frame ∷ below) right) frame some refl refl is)
given_acts tell s below register (op.Unary o it) x frame some is =
    ap (gives_value s register)
    (one_gives tell s below o it x (integer_of s.function (slots_of s.frame ∷ below) it) frame some refl is)
given_acts tell s below register (op.Convert of it) x frame some is =
    ap (gives_stored s register)
    (converted_gives tell s below of it x (integer_of s.function (slots_of s.frame ∷ below) it) frame some refl is)
given_acts tell s below register (op.Load at) x frame some is =
    ap (gives_value s register)
    (load_gives tell s below at x (pointer_of s.function (slots_of s.frame ∷ below) at) frame some refl is)
given_acts tell s below register _ x frame some is = absurd (some (sym is))

-- ---- where it goes on

value_somewhere : (A : Type 0) (it : A) → to it ≡ nowhere → ⊥
value_somewhere A it is = cc

fault_somewhere : (A : Type 0) (it : Fault) (x : Comes A) → x ≡ faults it → x ≡ nowhere → ⊥
fault_somewhere A it x is none = cc

written : SlotsTell → (s : Site) (below : List (List (Option Val))) (register : Option ℕ) (it : Val)
    → IsFrameOf s.function s.frame
    → with_value s.function register it (slots_of s.frame ∷ below)
    ≡ slots_of (with_result register (Some it) s.frame) ∷ below
written tell s below None it frame = refl
written tell s below (Some n) it frame =
    ap (λ k. slice_set (slots_of s.frame) (k + (length s.function.free + n)) (Some it) ∷ below) (sym frame.0)
    ∙ ap (λ k. slice_set (slots_of s.frame) (length s.frame.parameters + (k + n)) (Some it) ∷ below) (sym frame.1)
    ∙ ap (λ slots. slots ∷ below) (sym (tell.written s.frame n it))

value_goes : SlotsTell → (s : Site) (below : List (List (Option Val))) (register : Option ℕ) (o : Op) (x : Comes Val)
    (new : State) → IsFrameOf s.function s.frame → ((x ≡ nowhere → ⊥) → acts s register o ≡ gives_value s register x)
    → then_to (λ it. record (state_at s below) {
      slots = with_value s.function register it (slots_of s.frame ∷ below);
    }) x ≡ to new
    → GoesOn s below register o new
value_goes tell s below register o (to it) new frame does is =
    let same : record (state_at s below) {
      slots = with_value s.function register it (slots_of s.frame ∷ below);
    } ≡ new = cc in
    record {
      value = Some it;
      slots = sym (ap (λ (st : State). st.slots) same) ∙ written tell s below register it frame;
      acts_so = does (value_somewhere Val it)
          ∙ ap (λ (st : State). goes_behind s register (Some it) (record (s.machine) { store = st.store })) same;
    }
value_goes tell s below register o (faults it) new frame does is = let no : ⊥ = cc in absurd no
value_goes tell s below register o nowhere new frame does is = let no : ⊥ = cc in absurd no

value_meets : (s : Site) (below : List (List (Option Val))) (register : Option ℕ) (o : Op) (x : Comes Val)
    (it : Fault) → ((x ≡ nowhere → ⊥) → acts s register o ≡ gives_value s register x)
    → then_to (λ it. record (state_at s below) {
      slots = with_value s.function register it (slots_of s.frame ∷ below);
    }) x ≡ faults it
    → acts s register o ≡ meets s.code s.machine it
value_meets s below register o (to v) it does is = let no : ⊥ = cc in absurd no
value_meets s below register o (faults met) it does is =
    let same : met ≡ it = cc in
    does (fault_somewhere Val met (faults met) refl) ∙ ap (meets s.code s.machine) same
value_meets s below register o nowhere it does is = let no : ⊥ = cc in absurd no

-- ---- an integer is stored

store_acts : SlotsTell → (s : Site) (below : List (List (Option Val))) (register : Option ℕ) (at it : Operand)
    (x : Comes Stored) (p : Option Pointer) (q : Option ℤ) → IsFrameOf s.function s.frame → (x ≡ nowhere → ⊥)
    → pointer_of s.function (slots_of s.frame ∷ below) at ≡ p
    → integer_of s.function (slots_of s.frame ∷ below) it ≡ q
    → where_some (λ at. where_some (λ n. assigned s.machine.store (pointer at) (number n)) q) p ≡ x
    → acts s register (op.Store at it) ≡ changes_store s x
unfolding acts
store_acts tell s below register at it x None q frame some l r is = absurd (some (sym is))
store_acts tell s below register at it x (Some to_part) None frame some l r is = absurd (some (sym is))
store_acts tell s below register at it x (Some to_part) (Some n) frame some l r is =
    ap (changes_store s)
    (ap (λ p. where_some (λ at. where_some (λ n. assigned s.machine.store at n) (value s it)) p)
    (pointer_is tell s below at to_part frame l)
    ∙ ap (λ q. where_some (λ n. assigned s.machine.store (pointer to_part) n) q) (integer_is tell s below it n frame r)
    ∙ is)

unwritten : (s : Site) (register : Option ℕ) → with_result register None s.frame ≡ s.frame
unwritten s None = refl
unwritten s (Some n) = refl

store_goes : (s : Site) (below : List (List (Option Val))) (register : Option ℕ) (at it : Operand)
    (x : Comes Stored) (new : State)
    → ((x ≡ nowhere → ⊥) → acts s register (op.Store at it) ≡ changes_store s x)
    → then_to (λ store. record (state_at s below) { store = store }) x ≡ to new
    → GoesOn s below register (op.Store at it) new
store_goes s below register at it (to store) new does is =
    let same : record (state_at s below) { store = store } ≡ new = cc in
    record {
      value = None;
      slots = sym (ap (λ (st : State). st.slots) same)
          ∙ ap (λ frame. slots_of frame ∷ below) (sym (unwritten s register));
      acts_so = does (value_somewhere Stored store)
          ∙ ap (λ (st : State). goes_behind s None None (record (s.machine) { store = st.store })) same
          ∙ behind s register (record (s.machine) { store = new.store });
    }
  where
    behind : (s : Site) (register : Option ℕ) (m : _) → goes_behind s None None m ≡ goes_behind s register None m
    behind s None m = refl
    behind s (Some n) m = refl
store_goes s below register at it (faults met) new does is = let no : ⊥ = cc in absurd no
store_goes s below register at it nowhere new does is = let no : ⊥ = cc in absurd no

store_meets : (s : Site) (below : List (List (Option Val))) (register : Option ℕ) (at it : Operand)
    (x : Comes Stored) (met : Fault)
    → ((x ≡ nowhere → ⊥) → acts s register (op.Store at it) ≡ changes_store s x)
    → then_to (λ store. record (state_at s below) { store = store }) x ≡ faults met
    → acts s register (op.Store at it) ≡ meets s.code s.machine met
store_meets s below register at it (to store) met does is = let no : ⊥ = cc in absurd no
store_meets s below register at it (faults first) met does is =
    let same : first ≡ met = cc in
    does (fault_somewhere Stored first (faults first) refl) ∙ ap (meets s.code s.machine) same
store_meets s below register at it nowhere met does is = let no : ⊥ = cc in absurd no

-- ---- the instruction

goes_on : SlotsTell → (s : Site) (below : List (List (Option Val))) (register : Option ℕ) (o : Op) (new : State)
    → IsFrameOf s.function s.frame
    → int_does s.code.types s.function register o (state_at s below) ≡ to new → GoesOn s below register o new
goes_on tell s below register (op.Store at it) new frame is =
    store_goes s below register at it (int_assigned s.function (state_at s below) at it) new
    (λ some. store_acts tell s below register at it _ _ _ frame some refl refl refl) is
goes_on tell s below register o new frame is =
    value_goes tell s below register o (int_given s.code.types s.function (state_at s below) o) new frame
    (λ some. given_acts tell s below register o _ frame some refl) is

meets_it : SlotsTell → (s : Site) (below : List (List (Option Val))) (register : Option ℕ) (o : Op) (it : Fault)
    → IsFrameOf s.function s.frame
    → int_does s.code.types s.function register o (state_at s below) ≡ faults it
    → acts s register o ≡ meets s.code s.machine it
meets_it tell s below register (op.Store at it) met frame is =
    store_meets s below register at it (int_assigned s.function (state_at s below) at it) met
    (λ some. store_acts tell s below register at it _ _ _ frame some refl refl refl) is
meets_it tell s below register o met frame is =
    value_meets s below register o (int_given s.code.types s.function (state_at s below) o) met
    (λ some. given_acts tell s below register o _ frame some refl) is

pub ints_act_lem : SlotsTell → IntsAct
ints_act_lem tell = record { goes = goes_on tell; met = meets_it tell }
