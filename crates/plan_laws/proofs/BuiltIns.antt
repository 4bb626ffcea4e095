-- Built-in functions give the same in both machines.
use Rattle.std.proofs.Common.{◌≡◌, ℕ, ◌+◌, ◌-◌, ◌*◌, ◌/◌, min, max, List, [], ◌∷◌, ◌++◌}
use Rattle.std.proofs.Common.{Some, None, ◌<◌, ◌≤◌, ◌⊎◌, inl, inr, ap, refl, sym, subst, ◌∙◌, arith}
use Rattle.std.proofs.lemmas.Nat.{div_below}
use Rattle.std.specs.Prelude.{if◌then◌else◌, ◌==◌, ◌||◌, length, nat_le, replicate, unwrap_or}
use Rattle.code_plan.specs.Calls.{counted_leaves, meant_by, with_counted}
use Rattle.code_plan.specs.declared.steps.BuiltinForm.{BuiltinForm}
use Rattle.code_plan.specs.declared.steps.BuiltinForm.TheVariants as form
use Rattle.go_sched.specs.Goroutines.{State}
use Rattle.go_store.specs.Arrays.{array_of}
use Rattle.go_store.specs.Slices.{later, has_room, elements_of, with_run_in, append_fault, appended_slice}
use Rattle.go_store.specs.Slices.{grown_array}
use Rattle.go_store.specs.Slices.{most_elements, slice_of_new}
use Rattle.go_store.specs.Stores.{Stored, made}
use Rattle.go_type.specs.declared.operators.Builtin.{Builtin}
use Rattle.go_type.specs.declared.operators.Builtin.TheVariants as builtin
use Rattle.go_value.specs.Values as vals
use Rattle.go_value.specs.Values.{Val, value_of}
use Rattle.go_value.specs.Zeros.{zeroed}
use Rattle.go_value.specs.declared.address.SliceValue.{SliceValue}
use Rattle.go_value.specs.declared.faults.Fault.TheVariants as fault
use Rattle.plan_laws.proofs.Acting.{Agree}
use Rattle.plan_laws.proofs.Slots.{within_or_past}
use Rattle.plan_mean.specs.BuiltIns as planned
use Rattle.ssa_mean.specs.Answers.{Answers}
use Rattle.ssa_mean.specs.BuiltIns as built_ins
use Rattle.ssa_mean.specs.BuiltIns.{Done, append, append_all, append_where, appended, changes, overwritten_from}
use Rattle.ssa_mean.specs.Comes.{Comes, to, faults, nowhere, where_some}
use Rattle.ssa_mean.specs.State.{BuiltIn, appends_items, appends_slice, appends_text, clears_slice, plain}

-- ---- what gives the same agrees

pub agree_same : {A : Type 0} → (it : Comes A) → Agree it it
agree_same (to a) = refl
agree_same (faults fault) = refl
agree_same nowhere = tt

pub agree_by : {A : Type 0} → (one other : Comes A) → one ≡ other → Agree one other
agree_by one other same = subst (λ x. Agree one x) same (agree_same one)

-- ---- which function a form is made of

pub plain_of : (it : BuiltIn) (of : Builtin) → with_counted it ≡ plain of → it ≡ plain of
plain_of (plain other) of same = same
plain_of _ of same = cc

clears_of : (it : BuiltIn) (zero_value : Val) → with_counted it ≡ clears_slice zero_value → it ≡ clears_slice zero_value
clears_of (clears_slice other) zero_value same = same
clears_of _ zero_value same = cc

leaves_in : BuiltIn → ℕ
leaves_in (appends_items leaves) = leaves
leaves_in (appends_slice leaves) = leaves
leaves_in (appends_text leaves) = leaves
leaves_in _ = 0

-- what appends, with leaves that are counted
abbrev HasCounted : (ℕ → BuiltIn) → BuiltIn → ℕ → Type 0
HasCounted made it leaves = (all : ℕ) × ((it ≡ made all) × (counted_leaves all ≡ leaves))

items_of : (it : BuiltIn) (leaves : ℕ) → with_counted it ≡ appends_items leaves → HasCounted appends_items it leaves
unfolding leaves_in
items_of (appends_items all) leaves same = (all, (refl, ap leaves_in same))
items_of _ leaves same = cc

slice_of : (it : BuiltIn) (leaves : ℕ) → with_counted it ≡ appends_slice leaves → HasCounted appends_slice it leaves
unfolding leaves_in
slice_of (appends_slice all) leaves same = (all, (refl, ap leaves_in same))
slice_of _ leaves same = cc

text_of : (it : BuiltIn) (leaves : ℕ) → with_counted it ≡ appends_text leaves → HasCounted appends_text it leaves
unfolding leaves_in
text_of (appends_text all) leaves same = (all, (refl, ap leaves_in same))
text_of _ leaves same = cc

-- ---- leaves: of more than a slice can have there are as many

divided_by_more : (n k : ℕ) → n < k → n / k ≡ 0
divided_by_more n k h =
    let few : n / k < 1 = div_below n k 1 (omega arith) (omega arith) in
    omega arith

many_leaves : (leaves : ℕ) → 16777217 ≤ leaves → most_elements leaves ≡ 0
many_leaves leaves h = divided_by_more 16777216 (max leaves 1) (omega arith)

pub same_most : (leaves : ℕ) → most_elements leaves ≡ most_elements (counted_leaves leaves)
same_most leaves = of_both (within_or_past leaves 16777217)
  where
    of_both : (leaves < 16777217) ⊎ (16777217 ≤ leaves) → most_elements leaves ≡ most_elements (counted_leaves leaves)
    of_both (inl few) =
        let same : leaves ≡ counted_leaves leaves = omega arith in
        ap most_elements same
    of_both (inr many) =
        let same : counted_leaves leaves ≡ 16777217 = omega arith in
        let none : most_elements (counted_leaves leaves) ≡ 0 = many_leaves (counted_leaves leaves) (omega arith) in
        many_leaves leaves many ∙ sym none

same_fault : (leaves other : ℕ) → most_elements leaves ≡ most_elements other → (it : SliceValue) (count : ℕ)
    → append_fault leaves it count ≡ append_fault other it count
same_fault leaves other same it count =
    ap (λ (most : ℕ). if (count == 0) || has_room it count || nat_le (it.len + count) most then None else Some fault.GrowSlice) same

same_slice : (leaves other : ℕ) → most_elements leaves ≡ most_elements other → (store : Stored) (it : SliceValue) (count : ℕ)
    → appended_slice leaves store it count ≡ appended_slice other store it count
same_slice leaves other same store it count =
    ap (λ (most : ℕ). if count == 0 then it
    else (if has_room it count then record { at = it.at; len = it.len + count; cap = it.cap }
    else slice_of_new store (it.len + count) (min (max (it.len + count) (it.cap * 2)) most))) same

same_array : (leaves other : ℕ) → most_elements leaves ≡ most_elements other → (store : Stored) (it : SliceValue)
    → (items : List Val) (zero_value : Val)
    → grown_array leaves store it items zero_value ≡ grown_array other store it items zero_value
same_array leaves other same store it items zero_value =
    ap (λ (most : ℕ). array_of (unwrap_or (elements_of store it) [] ++ items
    ++ replicate (min (max (it.len + length items) (it.cap * 2)) most - (it.len + length items)) zero_value)) same

same_store : (leaves other : ℕ) → most_elements leaves ≡ most_elements other → (store : Stored) (it : SliceValue)
    → (items : List Val) → appended leaves store it items ≡ appended other store it items
same_store leaves other same store it [] = refl
same_store leaves other same store it (first ∷ items) =
    ap (λ (array : Val). if has_room it (length (first ∷ items))
    then with_run_in (array_of (first ∷ items)) store (later it.at it.len)
    else made store array) (same_array leaves other same store it (first ∷ items) (zeroed first))

same_append : (leaves other : ℕ) → most_elements leaves ≡ most_elements other → (store : Stored) (it : SliceValue)
    → (items : List Val) → append leaves store it items ≡ append other store it items
same_append leaves other same store it items =
    λ i. append_where (same_fault leaves other same it (length items) i)
    (record {
      value = Some (vals.slice (same_slice leaves other same store it (length items) i));
      store = same_store leaves other same store it items i;
      written = [];
    })

same_items : (leaves other : ℕ) → most_elements leaves ≡ most_elements other → (store : Stored) (arguments : List Val)
    → built_ins.append_items leaves store arguments ≡ built_ins.append_items other store arguments
same_items leaves other same store (vals.slice it ∷ items) = same_append leaves other same store it items
same_items leaves other same store _ = refl

same_all : (leaves other : ℕ) → most_elements leaves ≡ most_elements other → (store : Stored) (it : SliceValue) (more : Val)
    → append_all leaves store it more ≡ append_all other store it more
same_all leaves other same store it (vals.slice more) =
    λ i. where_some (λ items. same_append leaves other same store it items i) (elements_of store more)
same_all leaves other same store it (vals.text bytes) = same_append leaves other same store it _
same_all leaves other same store it _ = refl

same_elements : (leaves other : ℕ) → most_elements leaves ≡ most_elements other → (store : Stored) (arguments : List Val)
    → built_ins.append_elements leaves store arguments ≡ built_ins.append_elements other store arguments
same_elements leaves other same store (vals.slice it ∷ more ∷ []) = same_all leaves other same store it more
same_elements leaves other same store _ = refl

same_delete : (answers : Answers) (store : Stored) (arguments : List Val)
    → built_ins.delete answers store arguments ≡ planned.delete answers store arguments
same_delete answers store (vals.map_number id ∷ key ∷ []) = refl
same_delete answers store _ = refl

-- ---- all of them

by_leaves : (call : ℕ → Stored → List Val → Comes Done)
    → ((leaves other : ℕ) → most_elements leaves ≡ most_elements other → (store : Stored) (arguments : List Val)
    → call leaves store arguments ≡ call other store arguments)
    → (store : Stored) (arguments : List Val) (all leaves : ℕ) → counted_leaves all ≡ leaves
    → Agree (call all store arguments) (call leaves store arguments)
by_leaves call same store arguments all leaves p =
    agree_by _ _ (same all leaves (same_most all ∙ ap most_elements p) store arguments)

called_plain : (answers : Answers) (store : Stored) (sched : State) (it : BuiltIn) (of : Builtin) → with_counted it ≡ plain of
    → (arguments : List Val)
    → built_ins.built_in_call answers store sched it arguments ≡ built_ins.plain_call answers store sched of arguments
called_plain answers store sched it of same arguments =
    ap (λ (x : BuiltIn). built_ins.built_in_call answers store sched x arguments) (plain_of it of same)

pub built_ins_agree : (answers : Answers) (store : Stored) (sched : State) → (it : BuiltIn)
    → (of : BuiltinForm) → with_counted it ≡ meant_by of → (arguments : List Val)
    → Agree (built_ins.built_in_call answers store sched it arguments)
    (planned.built_in_call answers store sched of arguments)
built_ins_agree answers store sched it (form.Append leaves) same arguments =
    let made = items_of it leaves same in
    subst (λ (x : BuiltIn). Agree (built_ins.built_in_call answers store sched x arguments)
    (built_ins.append_items leaves store arguments)) (sym made.1.0)
    (by_leaves built_ins.append_items same_items store arguments made.0 leaves made.1.1)
built_ins_agree answers store sched it (form.AppendSlice leaves) same arguments =
    let made = slice_of it leaves same in
    subst (λ (x : BuiltIn). Agree (built_ins.built_in_call answers store sched x arguments)
    (built_ins.append_elements leaves store arguments)) (sym made.1.0)
    (by_leaves built_ins.append_elements same_elements store arguments made.0 leaves made.1.1)
built_ins_agree answers store sched it (form.AppendText leaves) same arguments =
    let made = text_of it leaves same in
    subst (λ (x : BuiltIn). Agree (built_ins.built_in_call answers store sched x arguments)
    (built_ins.append_elements leaves store arguments)) (sym made.1.0)
    (by_leaves built_ins.append_elements same_elements store arguments made.0 leaves made.1.1)
built_ins_agree answers store sched it (form.ClearSlice of_zero) same arguments =
    agree_by _ _ (ap (λ (x : BuiltIn). built_ins.built_in_call answers store sched x arguments)
    (clears_of it (value_of of_zero.value) same))
built_ins_agree answers store sched it form.Delete same arguments =
    agree_by _ _ (called_plain answers store sched it builtin.Delete same arguments ∙ same_delete answers store arguments)
built_ins_agree answers store sched it form.Cap same arguments =
    agree_by _ _ (called_plain answers store sched it builtin.Cap same arguments)
built_ins_agree answers store sched it form.Len same arguments =
    agree_by _ _ (called_plain answers store sched it builtin.Len same arguments)
built_ins_agree answers store sched it form.ClearMap same arguments =
    agree_by _ _ (called_plain answers store sched it builtin.Clear same arguments)
built_ins_agree answers store sched it form.Copy same arguments =
    agree_by _ _ (called_plain answers store sched it builtin.Copy same arguments)
built_ins_agree answers store sched it form.CopyText same arguments =
    agree_by _ _ (called_plain answers store sched it builtin.Copy same arguments)
built_ins_agree answers store sched it form.Max same arguments =
    agree_by _ _ (called_plain answers store sched it builtin.Max same arguments)
built_ins_agree answers store sched it form.Min same arguments =
    agree_by _ _ (called_plain answers store sched it builtin.Min same arguments)
built_ins_agree answers store sched it form.Print same arguments =
    agree_by _ _ (called_plain answers store sched it builtin.Print same arguments)
built_ins_agree answers store sched it form.Println same arguments =
    agree_by _ _ (called_plain answers store sched it builtin.Println same arguments)
built_ins_agree answers store sched it _ same arguments = tt
