-- What the cases of a `select` give, one by one.
use Rattle.std.proofs.Common.{◌≡◌, ◌∙◌, ◌<◌, ap, sym, refl, ℕ, suc, List, [], ◌∷◌, ◌++◌, Bool, true, false}
use Rattle.std.proofs.Common.{Option, Some, None}
use Rattle.std.proofs.Common.{arith, eqb-true, ne_eqb, ◌≢◌}
use Rattle.std.specs.Global.{Box}
use Rattle.code_plan.specs.declared.steps.Arg.{Arg}
use Rattle.code_plan.specs.declared.steps.PlannedCase.{PlannedCase}
use Rattle.code_plan.specs.declared.steps.PlannedCase.TheVariants as case
use Rattle.std.proofs.Common.{IfOk, Result, Ok, Err, is_some, option_map, subst, ℤ}
use Rattle.go_value.specs.Values.{Val, Field, Parts, none, number, part, parts, parts_of, truth, value_of}
use Rattle.go_value.specs.declared.values.Value.{Value}
use Rattle.interp_builtins.specs.Received.{behind}
use Rattle.plan_mean.specs.Channels.{received_parts, selected}
use Rattle.ssa_mean.specs.Channels.{case_number, is_chosen, value_if}
use Rattle.ssa_mean.specs.Making.{value_or}

pub behind_none : (fields : List Field) → behind fields none ≡ parts_of fields
behind_none [] = refl
behind_none (field ∷ fields) = ap (part field.value field.blank) (behind_none fields)

pub behind_more : (fields : List Field) (it : Field) (rest : Parts)
    → behind (fields ++ it ∷ []) rest ≡ behind fields (part it.value it.blank rest)
behind_more [] it rest = refl
behind_more (field ∷ fields) it rest = ap (part field.value field.blank) (behind_more fields it rest)

not_chosen : (index chosen : ℕ) → chosen < index → is_chosen index (Some chosen) ≡ false
not_chosen index chosen below = let other : index ≢ chosen = omega (arith, below) in ne_eqb index chosen other

-- behind the case that was chosen nothing is received
passed : (cases : List PlannedCase) (index chosen : ℕ) (one other : Option Val) → chosen < index
    → received_parts index (Some chosen) one cases ≡ received_parts index (Some chosen) other cases
passed [] index chosen one other below = refl
passed (case.Send channel value ∷ cases) index chosen one other below =
    let next : chosen < suc index = omega (arith, below) in passed cases (suc index) chosen one other next
passed (case.Receive channel zero ∷ cases) index chosen one other below =
    let next : chosen < suc index = omega (arith, below) in
    ap (λ b. part (value_or false (value_if b one) (value_of zero.value)) false
    (received_parts (suc index) (Some chosen) one cases)) (not_chosen index chosen below)
    ∙ ap (λ rest. part (value_or false None (value_of zero.value)) false rest) (passed cases
    (suc index) chosen one other next)
    ∙ sym (ap (λ b. part (value_or false (value_if b other) (value_of zero.value)) false
    (received_parts (suc index) (Some chosen) other cases)) (not_chosen index chosen below))

left_over : (cases : List PlannedCase) (index : ℕ) (picked : Option ℕ) (b : Bool) (before after : Option Val)
    → is_chosen index picked ≡ b → (b ≡ false → after ≡ before)
    → received_parts (suc index) picked after cases ≡ received_parts (suc index) picked before cases
left_over cases index picked false before after is kept =
    ap (λ it. received_parts (suc index) picked it cases) (kept refl)
left_over cases index None true before after is kept = cc
left_over cases index (Some chosen) true before after is kept =
    let same : index ≡ chosen = eqb-true index chosen is in
    let below : chosen < suc index = omega (arith, same) in passed cases (suc index) chosen after before below

pub case_received : (fields : List Field) (channel : Arg) (zero : Box Value) (cases : List PlannedCase) (index : ℕ)
    (picked : Option ℕ) (chosen : Bool) (before after : Option Val) (given : Val) → chosen ≡ is_chosen index picked
    → given ≡ value_or false (value_if chosen before) (value_of zero.value) → (chosen ≡ false → after ≡ before)
    → behind (fields ++ record { value = given; blank = false } ∷ []) (received_parts (suc index) picked after cases)
    ≡ behind fields (received_parts index picked before (case.Receive channel zero ∷ cases))
case_received fields channel zero cases index picked chosen before after given is gives kept =
    behind_more fields (record { value = given; blank = false }) (received_parts (suc index) picked after cases)
    ∙ ap (λ rest. behind fields (part given false rest)) (left_over cases index picked chosen before after
    (sym is) kept)
    ∙ ap (λ it. behind fields (part it false (received_parts (suc index) picked before cases))) gives
    ∙ ap (λ b. behind fields (part (value_or false (value_if b before) (value_of zero.value)) false
    (received_parts (suc index) picked before cases))) is

-- ---- the tuple of a `select`

seen_some : (it : Option Value) → is_some it ≡ is_some (option_map value_of it)
seen_some None = refl
seen_some (Some it) = refl

pub if_ok : {A E : Type 0} (P Q : A → Type 0) (r : Result A E) → IfOk r P → ((it : A) → P it → Q it) → IfOk r Q
if_ok P Q (Ok it) h f = f it h
if_ok P Q (Err e) h f = h

pub at_ok : {A E : Type 0} (P : A → Type 0) (r : Result A E) (it : A) → IfOk r P → r ≡ Ok it → P it
at_ok {A} {E} P r it h is = subst (λ (r : Result A E). IfOk r P) is h

two_first : (one two : List Field) (first second : Field) (z : ℤ) (ok : Bool) (rest : Parts) → two ≡ one ++ second ∷ []
    → one ≡ [] ++ first ∷ [] → first ≡ record { value = number z; blank = false }
    → second ≡ record { value = truth ok; blank = false }
    → behind two rest ≡ part (number z) false (part (truth ok) false rest)
two_first one two first second z ok rest more some is other =
    ap (λ them. behind them rest) (more ∙ ap (λ them. them ++ second ∷ []) some)
    ∙ ap (λ (it : Field). part it.value it.blank (part second.value second.blank rest))
    is
    ∙ ap (λ (it : Field). part (number z) false (part it.value it.blank rest))
    other

pub tuple_is : {E : Type 0} (result : Result Value E) (cases : List PlannedCase) (chosen : Option ℕ)
    (value : Option Value)
    (final made one two : List Field) (first second : Field) (z : ℤ) (ok : Bool)
    → IfOk result (λ it. value_of it ≡ parts (parts_of final))
    → parts_of final ≡ behind two (received_parts 0 chosen
    (option_map value_of value) cases)
    → two ≡ one ++ second ∷ [] → one ≡ made ++ first ∷ [] → made ≡ []
    → first ≡ record { value = number z; blank = false }
    → second ≡ record { value = truth ok; blank = false } → z ≡ case_number chosen → ok ≡ is_some value
    → IfOk result (λ it. value_of it ≡ selected cases chosen (option_map value_of value))
tuple_is result cases chosen value final made one two first second z ok holds all more some empty is other same there =
    let rest = received_parts 0 chosen (option_map value_of value) cases in
    if_ok (λ it. value_of it ≡ parts (parts_of final))
    (λ it. value_of it ≡ selected cases chosen (option_map value_of value)) result holds
    (λ it holds. holds ∙ ap parts (all
    ∙ two_first one two first second z ok rest more (some ∙ ap (λ them. them ++ first ∷ []) empty) is other
    ∙ ap (λ z. part (number z) false (part (truth ok) false rest)) same
    ∙ ap (λ ok. part (number (case_number chosen)) false (part (truth ok) false rest)) (there ∙ seen_some value)))
