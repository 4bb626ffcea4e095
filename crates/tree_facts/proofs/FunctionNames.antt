-- What a function is called, by its form.
use Rattle.std.proofs.Common.{◌≡◌, ℕ, suc, List, ◌++◌, Some, None, refl, ap, ◌∙◌}
use Rattle.std.specs.Prelude.{codes, decimal, slice_get}
use Rattle.go_base.specs.declared.ids.FuncId.{FuncId}
use Rattle.go_tree.specs.declared.functions.FunctionDecl.{FunctionDecl}
use Rattle.go_tree.specs.declared.functions.FunctionForm.{FunctionForm}
use Rattle.go_tree.specs.declared.functions.FunctionForm.TheVariants as form
use Rattle.go_text.specs.Naming.{Naming}
use Rattle.tree_facts.specs.FunctionNames.{within_of, literal_number, outer_text, text_within, text_of_function, name_to}

-- what no literal stands in
none_within : (f : FunctionForm) → ((within : FuncId) → f ≡ form.Literal within → ⊥) → within_of f ≡ None
none_within form.Function other = refl
none_within form.Method other = refl
none_within form.Init other = refl
none_within form.PackageInit other = refl
none_within (form.Literal within) other = absurd (other within refl)

one_deeper : (depth : ℕ) (n : Naming) (functions : List FunctionDecl) (function : ℕ) → name_to (suc depth) n functions function ≡ text_of_function n functions (name_to depth n functions) function (slice_get functions function)
unfolding name_to
one_deeper depth n functions function = refl

-- where a function is declared, one less deep
deeper : (depth less : ℕ) (n : Naming) (functions : List FunctionDecl) (function : ℕ) (declared : FunctionDecl) → depth ≡ suc less → slice_get functions function ≡ Some declared → name_to depth n functions function ≡ text_within n functions (name_to less n functions) function declared (within_of declared.form)
deeper depth less n functions function declared e at =
    ap (λ (d : ℕ). name_to d n functions function) e ∙ (one_deeper less n functions function ∙ ap (text_of_function n functions (name_to less n functions) function) at)

pub name_to-literal : (depth less : ℕ) (n : Naming) (functions : List FunctionDecl) (function : ℕ) (declared : FunctionDecl) (within : FuncId) → depth ≡ suc less → slice_get functions function ≡ Some declared → declared.form ≡ form.Literal within → name_to depth n functions function ≡ name_to less n functions within.number ++ (codes "$" ++ decimal (literal_number functions within.number declared.at))
name_to-literal depth less n functions function declared within e at literal =
    deeper depth less n functions function declared e at ∙ ap (λ (f : FunctionForm). text_within n functions (name_to less n functions) function declared (within_of f)) literal

pub name_to-outer : (depth less : ℕ) (n : Naming) (functions : List FunctionDecl) (function : ℕ) (declared : FunctionDecl) → depth ≡ suc less → slice_get functions function ≡ Some declared → ((within : FuncId) → declared.form ≡ form.Literal within → ⊥) → name_to depth n functions function ≡ outer_text n functions function declared
name_to-outer depth less n functions function declared e at other =
    deeper depth less n functions function declared e at ∙ ap (text_within n functions (name_to less n functions) function declared) (none_within declared.form other)
