use Rattle.std.proofs.Common.{◌≡◌, ℕ, ◌-◌, suc, List, ◌++◌, length, Some, slice_get, codes, decimal, arith, refl, ap, sym, ◌∙◌, append_assoc}
use Rattle.std.proofs.lemmas.Option.{slice_get_read}
use Rattle.std.proofs.lemmas.Result.{IfOk-equal}
use Rattle.tree_facts.specs.FunctionNames.{literal_number, name_to}
use Rattle.tree_facts.proofs.FunctionNames.{name_to-literal, name_to-outer}
use Rattle.tree_facts.proofs.naming.+push_function.Goals as goal

joined : (old front back whole middle : List ℕ) → middle ≡ old ++ front → whole ≡ front ++ back → middle ++ back ≡ old ++ whole
joined old front back whole middle p q = ap (λ (l : List ℕ). l ++ back) p ∙ (append_assoc old front back ∙ ap (λ (l : List ℕ). old ++ l) (sym q))

pub returns-in_ok-push_function-in-Literal : goal.returns-in_ok-push_function-in-Literal
returns-in_ok-push_function-in-Literal t c =
    let functions = c.args.functions.now in
    let declared = c.in-Some.declared.now in
    let more : c.args.depth ≡ suc (c.args.depth - 1) = omega arith in
    let found : slice_get functions c.args.function.number ≡ Some declared =
    slice_get_read functions (length functions) c.args.function.number declared refl c.in-Some.ensures.lookup.3.0 c.in-Some.ensures.lookup.1 in
    let whole = name_to-literal c.args.depth (c.args.depth - 1) c.args.namer.now functions c.args.function.number declared c.in-Literal.within more found c.in-Literal.is in
    let front = name_to (c.args.depth - 1) c.args.namer.now functions c.in-Literal.within.number in
    let back = codes "$" ++ decimal (literal_number functions c.in-Literal.within.number declared.at) in
    IfOk-equal _ _ _ _ c.push_literal.ensures (joined c.args.text.now.items front back _ _ c.in_ok-push_function-in-Literal.ensures whole)

pub returns-in_default-form : goal.returns-in_default-form
returns-in_default-form t c =
    let functions = c.args.functions.now in
    let declared = c.in-Some.declared.now in
    let more : c.args.depth ≡ suc (c.args.depth - 1) = omega arith in
    let found : slice_get functions c.args.function.number ≡ Some declared =
    slice_get_read functions (length functions) c.args.function.number declared refl c.in-Some.ensures.lookup.3.0 c.in-Some.ensures.lookup.1 in
    let whole = name_to-outer c.args.depth (c.args.depth - 1) c.args.namer.now functions c.args.function.number declared more found c.in_default-form.not-Literal in
    IfOk-equal _ _ _ _ c.push_outer.ensures (ap (λ (l : List ℕ). c.args.text.now.items ++ l) (sym whole))
