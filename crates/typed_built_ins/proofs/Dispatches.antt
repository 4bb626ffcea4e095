-- What becomes of calls of each function.
use Rattle.std.proofs.Common.{◌≡◌, refl, sym, ap, ◌∙◌, subst, List, [], ◌∷◌, Bool, Option, Some, None, Result}
use Rattle.std.specs.Option.{option_flatten}
use Rattle.go_base.specs.declared.memory.NoMemory.{NoMemory}
use Rattle.go_tree.specs.declared.exprs.TypedExpr.{TypedExpr}
use Rattle.go_type.specs.declared.operators.Builtin.{Builtin}
use Rattle.go_type.specs.declared.operators.Builtin.TheVariants as builtin
use Rattle.typed_parts.specs.declared.ground.Ground.{Ground}
use Rattle.typed_parts.specs.declared.meaning.Given.{Given}
use Rattle.typed_parts.specs.declared.meaning.Seen.{Seen}
use Rattle.typed_built_ins.specs.declared.built_ins.BuiltInCall.{BuiltInCall}
use Rattle.typed_built_ins.specs.BuiltIns.{argument}
use Rattle.typed_built_ins.specs.Dispatch.{IsBuiltIn, IsBuiltInBy, IsOfOne, IsOfTwo, IsPlain, takes_type}
use Rattle.typed_built_ins.specs.Measuring.{IsLength}
use Rattle.typed_built_ins.specs.Moving.{IsDelete}
use Rattle.typed_parts.specs.Turning.{Soundly, Turns}

pub one_by : (old new : Ground) (call : BuiltInCall) (x : Given) (b : Builtin) (result : Result (Option TypedExpr) NoMemory)
    → call.builtin ≡ b → Turns old new result (IsOfOne b call x) → Turns old new result (IsOfOne call.builtin call x)
one_by old new call x b result e h = subst (λ (c : Builtin). Turns old new result (IsOfOne c call x)) (sym e) h

pub one_else : (old new : Ground) (call : BuiltInCall) (x : Given) (b : Builtin) (result : Result (Option TypedExpr) NoMemory)
    → (b ≡ builtin.Clear → ⊥) → (b ≡ builtin.Close → ⊥) → (b ≡ builtin.Panic → ⊥)
    → Turns old new result (IsLength call x) → Turns old new result (IsOfOne b call x)
one_else old new call x builtin.Clear result clear close panic h = absurd (clear refl)
one_else old new call x builtin.Close result clear close panic h = absurd (close refl)
one_else old new call x builtin.Panic result clear close panic h = absurd (panic refl)
one_else old new call x builtin.Append result clear close panic h = h
one_else old new call x builtin.Cap result clear close panic h = h
one_else old new call x builtin.Copy result clear close panic h = h
one_else old new call x builtin.Delete result clear close panic h = h
one_else old new call x builtin.Len result clear close panic h = h
one_else old new call x builtin.Make result clear close panic h = h
one_else old new call x builtin.Max result clear close panic h = h
one_else old new call x builtin.Min result clear close panic h = h
one_else old new call x builtin.New result clear close panic h = h
one_else old new call x builtin.Print result clear close panic h = h
one_else old new call x builtin.Println result clear close panic h = h
one_else old new call x builtin.Recover result clear close panic h = h

-- ---- of two

pub two_by : (old new : Ground) (call : BuiltInCall) (x y : Option Given) (b : Builtin) (result : Result (Option TypedExpr) NoMemory)
    → call.builtin ≡ b → Turns old new result (IsOfTwo b call x y) → Turns old new result (IsOfTwo call.builtin call x y)
two_by old new call x y b result e h = subst (λ (c : Builtin). Turns old new result (IsOfTwo c call x y)) (sym e) h

pub two_else : (old new : Ground) (call : BuiltInCall) (x y : Option Given) (b : Builtin) (result : Result (Option TypedExpr) NoMemory)
    → (b ≡ builtin.Copy → ⊥) → Turns old new result (IsDelete call x y) → Turns old new result (IsOfTwo b call x y)
two_else old new call x y builtin.Copy result copy h = absurd (copy refl)
two_else old new call x y builtin.Append result copy h = h
two_else old new call x y builtin.Cap result copy h = h
two_else old new call x y builtin.Clear result copy h = h
two_else old new call x y builtin.Close result copy h = h
two_else old new call x y builtin.Delete result copy h = h
two_else old new call x y builtin.Len result copy h = h
two_else old new call x y builtin.Make result copy h = h
two_else old new call x y builtin.Max result copy h = h
two_else old new call x y builtin.Min result copy h = h
two_else old new call x y builtin.New result copy h = h
two_else old new call x y builtin.Panic result copy h = h
two_else old new call x y builtin.Print result copy h = h
two_else old new call x y builtin.Println result copy h = h
two_else old new call x y builtin.Recover result copy h = h

-- ---- of values

pub plain_by : (old new : Ground) (call : BuiltInCall) (xs : List (Option Given)) (b : Builtin) (result : Result (Option TypedExpr) NoMemory)
    → call.builtin ≡ b → Turns old new result (IsPlain b call xs) → Turns old new result (IsPlain call.builtin call xs)
plain_by old new call xs b result e h = subst (λ (c : Builtin). Turns old new result (IsPlain c call xs)) (sym e) h

abbrev TakesOne : Builtin → Type 0
TakesOne b =
    (b ≡ builtin.Append → ⊥)
    × (b ≡ builtin.Max → ⊥)
    × (b ≡ builtin.Min → ⊥)
    × (b ≡ builtin.Print → ⊥)
    × (b ≡ builtin.Println → ⊥)
    × (b ≡ builtin.Recover → ⊥)
    × (b ≡ builtin.Copy → ⊥)
    × (b ≡ builtin.Delete → ⊥)

pub plain_else : (old new : Ground) (call : BuiltInCall) (xs : List (Option Given)) (b : Builtin) (result : Result (Option TypedExpr) NoMemory)
    → TakesOne b → Turns old new result (Soundly (IsOfOne b call) (argument xs 0)) → Turns old new result (IsPlain b call xs)
plain_else old new call xs builtin.Append result not_so h = absurd (not_so.0 refl)
plain_else old new call xs builtin.Cap result not_so h = h
plain_else old new call xs builtin.Clear result not_so h = h
plain_else old new call xs builtin.Close result not_so h = h
plain_else old new call xs builtin.Copy result not_so h = absurd (not_so.6 refl)
plain_else old new call xs builtin.Delete result not_so h = absurd (not_so.7 refl)
plain_else old new call xs builtin.Len result not_so h = h
plain_else old new call xs builtin.Make result not_so h = h
plain_else old new call xs builtin.Max result not_so h = absurd (not_so.1 refl)
plain_else old new call xs builtin.Min result not_so h = absurd (not_so.2 refl)
plain_else old new call xs builtin.New result not_so h = h
plain_else old new call xs builtin.Panic result not_so h = h
plain_else old new call xs builtin.Print result not_so h = absurd (not_so.3 refl)
plain_else old new call xs builtin.Println result not_so h = absurd (not_so.4 refl)
plain_else old new call xs builtin.Recover result not_so h = absurd (not_so.5 refl)

pub built_in_by : (old new : Ground) (call : BuiltInCall) (parts : List Seen) (b told : Bool) (result : Result (Option TypedExpr) NoMemory)
    → told ≡ takes_type call.builtin → told ≡ b → Turns old new result (IsBuiltInBy b call parts) → Turns old new result (IsBuiltIn call parts)
built_in_by old new call parts b told result t e h =
    subst (λ (c : Bool). Turns old new result (IsBuiltInBy c call parts)) (sym (sym t ∙ e)) h
