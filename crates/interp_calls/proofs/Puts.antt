-- Values that are put into slots one by one, and results that are read one by one.
use Rattle.std.proofs.Common.{◌≡◌, ◌∙◌, ◌≤◌, ◌<◌, ◌+◌, ℕ, ℤ, suc, List, [], ◌∷◌, ◌++◌, Option, Some, None}
use Rattle.std.proofs.Common.{refl, sym, ap, subst, arith, false, get_or, length, map, take, pos}
use Rattle.std.proofs.lemmas.List.{length-map, length-take-le, map-append}
use Rattle.std.specs.Int.{int_rem_euclid}
use Rattle.std.specs.Prelude.{Result, Ok, Err, IfOk, slice_get, unsigned_abs}
use Rattle.code_plan.specs.declared.steps.Arg.{Arg}
use Rattle.go_base.specs.declared.ending.Ending.TheVariants as ending
use Rattle.go_base.specs.declared.memory.NoMemory.{NoMemory}
use Rattle.go_store.specs.Arrays.{array_of, elements}
use Rattle.go_value.specs.Values.{Val, Field, number, parts, parts_of, pointer, value_of, part}
use Rattle.go_value.specs.declared.address.Pointer.{Pointer}
use Rattle.go_value.specs.declared.values.Value.{Value}
use Rattle.go_value.specs.declared.values.Value.TheVariants as values
use Rattle.interp_calls.proofs.Entries.{ends_by}
use Rattle.interp_calls.proofs.Slots.{last_first, last_last}
use Rattle.interp_calls.specs.Ways.{on_way, plain}
use Rattle.interp_state.specs.Machines.{machine_of}
use Rattle.interp_state.specs.States.{looked}
use Rattle.interp_state.specs.Turns.{Steps}
use Rattle.interp_state.specs.declared.machine.Machine.{Machine}
use Rattle.interp_state.specs.declared.machine.Turn.{Turn}
use Rattle.interp_state.specs.declared.machine.Turn.TheVariants as turn
use Rattle.plan_mean.specs.Calls.{exits}
use Rattle.plan_mean.specs.Operands.{look, look_at_all}
use Rattle.plan_mean.specs.Slots.{with_slot, with_slots_from}
use Rattle.plan_mean.specs.State as meant
use Rattle.plan_mean.specs.State.{ends}
use Rattle.ssa_mean.specs.Calls.{results_of}
use Rattle.ssa_mean.specs.Operands.{with_value}

-- ---- arguments and captured variables

-- the last one on the way is put into its slot, and the others then into theirs
pub put_last : (before after : List Value) (value : Value) (slot : ℕ) (slots now whole : List (List (Option Val)))
    → before ≡ after ++ value ∷ [] → slot ≡ length after → now ≡ with_slot slot (value_of value) slots
    → with_slots_from 0 (map value_of before) slots ≡ whole → with_slots_from 0 (map value_of after) now ≡ whole
put_last before after value slot slots now whole popped here put so_far =
    let even : length (map value_of after) ≡ length after = length-map after value_of in
    let place : slot ≡ 0 + length (map value_of after) = omega arith in
    ap (with_slots_from 0 (map value_of after)) (put ∙ ap (λ n. with_slot n (value_of value) slots) place)
    ∙ sym (last_first 0 (map value_of after) (value_of value) slots)
    ∙ sym (ap (λ its. with_slots_from 0 its slots)
    (ap (map value_of) popped ∙ map-append value_of after (value ∷ []))) ∙ so_far

pub one_less : (before after : List Value) (value : Value) → before ≡ after ++ value ∷ []
    → length before ≡ suc (length after)
one_less before after value popped = ap length popped ∙ longer after
  where
    longer : (xs : List Value) → length (xs ++ value ∷ []) ≡ suc (length xs)
    longer [] = refl
    longer (x ∷ xs) = ap suc (longer xs)

-- one captured variable more is put
pub put_more : (first i slot : ℕ) (all more : List Pointer) (at : Pointer) (slots now after : List (List (Option Val)))
    → i ≤ length all → more ≡ take i all ++ at ∷ [] → slot ≡ first + i
    → now ≡ with_slots_from first (map pointer (take i all)) slots → after ≡ with_slot slot (pointer at) now
    → after ≡ with_slots_from first (map pointer more) slots
put_more first i slot all more at slots now after within longer here so_far put =
    let front = take i all in
    let many : length (map pointer front) ≡ i = length-map front pointer ∙ length-take-le i all within in
    put ∙ ap (with_slot slot (pointer at)) so_far
    ∙ ap (λ n. with_slot n (pointer at) (with_slots_from first (map pointer front) slots))
    (here ∙ sym (ap (λ n. first + n) many))
    ∙ sym (last_last first (map pointer front) (pointer at) slots)
    ∙ sym (ap (λ its. with_slots_from first its slots) (ap (map pointer) longer ∙ map-append pointer front (at ∷ [])))

-- ---- results

look_more : (m : meant.Machine) (args : List Arg) (arg : Arg) (its : List Val) (it : Val)
    → look_at_all m args ≡ Some its → look m arg ≡ Some it → look_at_all m (args ++ arg ∷ []) ≡ Some (its ++ it ∷ [])
look_more m [] arg its it all one =
    let none : [] ≡ its = cc in
    ap (λ found. with_value found (Some [])) one ∙ ap (λ its. Some (its ++ it ∷ [])) none
look_more m (first ∷ args) arg its it all one =
    by_first (look m first) (look_at_all m args) refl refl (λ b rest. look_more m args arg b it rest one)
  where
    by_first : (a : Option Val) (b : Option (List Val)) → look m first ≡ a → look_at_all m args ≡ b
        → ((b : List Val) → look_at_all m args ≡ Some b → look_at_all m (args ++ arg ∷ []) ≡ Some (b ++ it ∷ []))
        → look_at_all m ((first ∷ args) ++ arg ∷ []) ≡ Some (its ++ it ∷ [])
    by_first (Some a) (Some b) here rest more =
        let whole : Some (a ∷ b) ≡ Some its =
        sym (ap (λ o. with_value o (look_at_all m args)) here ∙ ap (with_value (Some a)) rest) ∙ all in
        let parts : a ∷ b ≡ its = cc in
        ap (λ o. with_value o (look_at_all m (args ++ arg ∷ []))) here
        ∙ ap (with_value (Some a)) (more b rest)
        ∙ ap (λ its. Some (its ++ it ∷ [])) parts
    by_first (Some a) None here rest more =
        let no : None ≡ Some its =
        sym (ap (λ o. with_value o (look_at_all m args)) here ∙ ap (with_value (Some a)) rest) ∙ all in
        absurd cc
    by_first None b here rest more =
        let no : None ≡ Some its = sym (ap (λ o. with_value o (look_at_all m args)) here) ∙ all in
        absurd cc

-- one operand more is a part
pub part_more : (m : Machine) (args more : List Arg) (arg : Arg) (value : Value) (one : Field) (before after : List Field)
    (its : List Val) → more ≡ args ++ arg ∷ [] → looked m arg ≡ Some (value_of value)
    → one ≡ record { value = value_of value; blank = false } → after ≡ before ++ one ∷ []
    → look_at_all (machine_of m) args ≡ Some its → before ≡ map plain its
    → (its : List Val) × ((look_at_all (machine_of m) more ≡ Some its) × (after ≡ map plain its))
part_more m args more arg value one before after its longer read is pushed so_far are = (
  its ++ value_of value ∷ [],
  (
    ap (look_at_all (machine_of m)) longer ∙ look_more (machine_of m) args arg its (value_of value) so_far read,
    pushed ∙ ap (λ front. front ++ one ∷ []) are ∙ ap (λ (last : Field). map plain its ++ last ∷ []) is
        ∙ sym (map-append plain its (value_of value ∷ [])),
  ),
)

parts_are : (its : List Val) → parts_of (map plain its) ≡ elements its
parts_are [] = refl
parts_are (it ∷ its) = ap (part it false) (parts_are its)

-- the parts that were read are a tuple
pub tuple_made : (made : Result Value NoMemory) (m : Machine) (args some : List Arg) (items : List Field)
    (its : List Val) → some ≡ args → look_at_all (machine_of m) some ≡ Some its → items ≡ map plain its
    → IfOk made (λ value. value_of value ≡ parts (parts_of items))
    → IfOk made (λ it. (its : List Val) × ((look_at_all (machine_of m) args ≡ Some its) × (value_of it ≡ array_of its)))
tuple_made (Ok value) m args some items its whole read are is = (
  its,
  (
    ap (look_at_all (machine_of m)) (sym whole) ∙ read,
    is ∙ ap (λ fields. parts (parts_of fields)) are ∙ ap parts (parts_are its),
  ),
)
tuple_made (Err e) m args some items its whole read are is = tt

alone : (args : List Arg) (arg : Arg) → 0 < length args → length args < 2 → arg ≡ get_or args 0 arg → args ≡ arg ∷ []
alone [] arg some few is = let no : ⊥ = omega arith in absurd no
alone (first ∷ []) arg some few is = ap (λ (it : Arg). it ∷ []) (sym is)
alone (first ∷ second ∷ args) arg some few is = let no : ⊥ = omega arith in absurd no

-- one result
pub one_result : (m : Machine) (args : List Arg) (arg : Arg) (value : Value) → 0 < length args → length args < 2
    → arg ≡ get_or args 0 arg → looked m arg ≡ Some (value_of value)
    → (its : List Val) × ((look_at_all (machine_of m) args ≡ Some its) × (results_of its ≡ Some (value_of value)))
one_result m args arg value some few is read = (
  value_of value ∷ [],
  (ap (look_at_all (machine_of m)) (alone args arg some few is) ∙ ap (λ found. with_value found (Some [])) read, refl),
)

-- as many values as operands
looked_many : (m : meant.Machine) (args : List Arg) (its : List Val) → look_at_all m args ≡ Some its
    → length its ≡ length args
looked_many m [] its all = let none : [] ≡ its = cc in sym (ap length none)
looked_many m (first ∷ args) its all =
    by_first (look m first) (look_at_all m args) refl refl (λ b rest. looked_many m args b rest)
  where
    by_first : (a : Option Val) (b : Option (List Val)) → look m first ≡ a → look_at_all m args ≡ b
        → ((b : List Val) → look_at_all m args ≡ Some b → length b ≡ length args) → length its ≡ suc (length args)
    by_first (Some a) (Some b) here rest more =
        let whole : Some (a ∷ b) ≡ Some its =
        sym (ap (λ o. with_value o (look_at_all m args)) here ∙ ap (with_value (Some a)) rest) ∙ all in
        let parts : a ∷ b ≡ its = cc in
        sym (ap length parts) ∙ ap suc (more b rest)
    by_first (Some a) None here rest more =
        let no : None ≡ Some its =
        sym (ap (λ o. with_value o (look_at_all m args)) here ∙ ap (with_value (Some a)) rest) ∙ all in
        absurd cc
    by_first None b here rest more =
        let no : None ≡ Some its = sym (ap (λ o. with_value o (look_at_all m args)) here) ∙ all in
        absurd cc

several : (its : List Val) → 2 ≤ length its → results_of its ≡ Some (array_of its)
several [] many = let no : ⊥ = omega arith in absurd no
several (it ∷ []) many = let no : ⊥ = omega arith in absurd no
several (it ∷ other ∷ its) many = refl

-- several results
pub many_results : (m : Machine) (args : List Arg) (value : Value) → 2 ≤ length args
    → (its : List Val) × ((look_at_all (machine_of m) args ≡ Some its) × (value_of value ≡ array_of its))
    → (its : List Val) × ((look_at_all (machine_of m) args ≡ Some its) × (results_of its ≡ Some (value_of value)))
many_results m args value many made =
    let same : length made.0 ≡ length args = looked_many (machine_of m) args made.0 made.1.0 in
    let enough : 2 ≤ length made.0 = omega arith in
    (made.0, (made.1.0, several made.0 enough ∙ ap (λ (it : Val). Some it) (sym made.1.1)))

-- ---- `os.Exit`

first_is : (xs : List Value) (status : ℤ) → Some (values.Int status) ≡ slice_get xs 0
    → (others : List Val) × (map value_of xs ≡ number status ∷ others)
first_is [] status is = let no : Some (values.Int status) ≡ None = is in absurd cc
first_is (x ∷ xs) status is =
    let same : Some (values.Int status) ≡ Some x = is in
    let one : values.Int status ≡ x = cc in (
      map value_of xs,
      ap (λ it. value_of it ∷ map value_of xs) (sym one),
    )

pub exits_with : (result : Turn) (old new : Machine) (first : Value) (status : ℤ) (code : ℕ)
    → Some first ≡ slice_get old.waiting.items 0 → first ≡ values.Int status
    → code ≡ unsigned_abs (int_rem_euclid status (pos 256)) → result ≡ turn.Ends
    → new ≡ record old { ending = Some (ending.Exited code) }
    → Steps result old new (λ w. exits (machine_of old) (on_way old))
exits_with result old new first status code there is rest ended same =
    let found = first_is old.waiting.items status (ap (λ it. Some it) (sym is) ∙ there) in
    subst (λ (its : List Val). Steps result old new (λ w. exits (machine_of old) its)) (sym found.1)
    (subst (λ (code : ℕ). Steps result old new (λ w. ends (ending.Exited code) (machine_of old).output)) rest
    (ends_by result old new (ending.Exited code) ended same))
