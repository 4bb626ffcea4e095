-- Selectors, method values and method expressions. Go specification, "Selectors", "Method sets", "Method values",
-- "Method expressions" and "Calls".
use Rattle.std.specs.Prelude.{◌≡◌, ℕ, ◌||◌, ◌==◌, not, is_some, Bool, true, false, if◌then◌else◌, List, [], ◌∷◌}
use Rattle.std.specs.Prelude.{Option, Some, None, Ok, Err, unwrap_or}
use Rattle.std.specs.Global.{Box}
use Rattle.go_base.specs.declared.ids.FuncId.{FuncId}
use Rattle.go_base.specs.declared.ids.TypeId.{TypeId}
use Rattle.go_base.specs.declared.place.Pos.{Pos}
use Rattle.go_base.specs.declared.rule.Rule.TheVariants.{AmbiguousSelector, BadBuiltInCall, NoSuchFieldOrMethod}
use Rattle.go_base.specs.declared.rule.Rule.TheVariants.{ReceiverNotAddressable}
use Rattle.go_rules.specs.Untyped.{kind_at}
use Rattle.go_tree.specs.declared.exprs.ExprKind.{ExprKind}
use Rattle.go_tree.specs.declared.exprs.ExprKind.TheVariants.{MethodExpr, MethodValue}
use Rattle.go_tree.specs.declared.exprs.Method.{Method}
use Rattle.go_tree.specs.declared.exprs.Method.TheVariants as method
use Rattle.go_tree.specs.declared.exprs.TypedExpr.{TypedExpr}
use Rattle.go_type.specs.declared.members.Member.{Member}
use Rattle.go_type.specs.declared.members.Wanted.{Wanted}
use Rattle.go_type.specs.declared.methods.MethodEntry.{MethodEntry}
use Rattle.go_type.specs.declared.methods.Selection.{Selection}
use Rattle.go_type.specs.declared.methods.SelectionKind.{SelectionKind}
use Rattle.go_type.specs.declared.methods.SelectionKind.TheVariants as kind
use Rattle.go_type.specs.declared.methods.SelectError.TheVariants as error
use Rattle.go_type.specs.declared.term.Signature.{Signature}
use Rattle.go_type.specs.declared.term.TypeTerm.TheVariants.{Func}
use Rattle.go_type.specs.Assignable.{underlying_term_of}
use Rattle.go_type.specs.MethodSets.{HasMember}
use Rattle.go_type.specs.Selector.{SelectsFrom}
use Rattle.go_type.specs.Table.{Table, definition_at, is_blank}
use Rattle.typed_parts.specs.declared.meaning.Given.{Given}
use Rattle.typed_parts.specs.declared.meaning.Meaning.{Meaning}
use Rattle.typed_parts.specs.declared.meaning.Meaning.TheVariants as meaning
use Rattle.typed_parts.specs.declared.meaning.Seen.{Seen}
use Rattle.typed_parts.specs.Judged.{IsFine, Judged, breaks, fine, unsound}
use Rattle.typed_parts.specs.Limits.{Basis, IsLimited}
use Rattle.typed_parts.specs.Looks.{is_place}
use Rattle.typed_parts.specs.Meanings.{single}
use Rattle.typed_parts.specs.Nodes.{node}
use Rattle.typed_parts.specs.Shapes.{pointed}
use Rattle.typed_parts.specs.Turning.{Asks, IsHeld, IsThenSoundly, Keeps}
use Rattle.typed_primaries.specs.declared.selecting.Selected.{Selected}
use Rattle.typed_parts.specs.Made.{IsOnOne}
use Rattle.typed_primaries.specs.Steps.{IsAddressed, IsAlong, IsDereferenced}

-- a name, with the package that it belongs to
abbrev pub wanted : Selected → Wanted
wanted it = record { name = it.name; «package» = it.package }

-- ---- what a name selects of a type

-- the blank identifier selects nothing, and nothing is selected of an untyped constant
abbrev pub is_nameless : Table → TypeId → Selected → Bool
is_nameless types of it = is_some (kind_at types of) || is_blank types it.name

-- "x.f denotes the field or method at the shallowest depth in T where there is such an f. If there is not exactly one f
-- with shallowest depth, the selector expression is illegal."
pub data IsSelection (types : Table) (of : TypeId) (it : Selected) : Judged Selection → Type 0 where
  selects : (selection : Selection) → is_nameless types of it ≡ false
      → SelectsFrom types (wanted it) of (Ok selection) → IsSelection types of it (fine selection)
  nameless : is_nameless types of it ≡ true → IsSelection types of it (breaks it.at NoSuchFieldOrMethod)
  absent : is_nameless types of it ≡ false → SelectsFrom types (wanted it) of (Err error.Absent)
      → IsSelection types of it (breaks it.at NoSuchFieldOrMethod)
  ambiguous : (first second : List ℕ) → is_nameless types of it ≡ false
      → SelectsFrom types (wanted it) of (Err (error.Ambiguous first second))
      → IsSelection types of it (breaks it.at AmbiguousSelector)

-- ---- methods of values

abbrev pub value_form : Method → Box TypedExpr → ExprKind
value_form method receiver = MethodValue receiver method

-- "x.m": a function value with the receiver, which has the signature of the method
abbrev pub IsMethodValue : TypeId → Method → TypedExpr → Basis → Basis → Judged TypedExpr → Type 0
IsMethodValue signature method x before after result =
    Keeps (λ types. IsFine (IsOnOne x.at signature (value_form method) x)) before after result

abbrev pub is_of : FuncId → SelectionKind → Bool
is_of function (kind.Method other) = other.number == function.number
is_of function _ = false

-- whether a method, among those that are declared of a type, has a pointer as its receiver
abbrev pub by_pointer_in : List MethodEntry → FuncId → Bool
by_pointer_in [] function = false
by_pointer_in (entry ∷ entries) function =
    if is_of function entry.kind then entry.pointer else by_pointer_in entries function

-- the type that declares the methods of a value: its own, or what it points to
abbrev pub owner_of : Table → TypeId → TypeId
owner_of types of = unwrap_or (pointed types of) of

abbrev pub by_pointer : Table → TypeId → FuncId → Bool
by_pointer types of function = by_pointer_in (definition_at types (owner_of types of)).methods function

-- a pointer, or a value that is addressable
abbrev pub has_address : Table → TypedExpr → Bool
has_address types x = is_some (pointed types x.of) || is_place x

-- "if x is addressable and &x's method set contains m, x.m() is shorthand for (&x).m()"
abbrev pub receiver_asked : Table → Pos → FuncId → TypedExpr → Judged TypedExpr
receiver_asked types at function x =
    if not (by_pointer types x.of function) || has_address types x then fine x else breaks at ReceiverNotAddressable

abbrev pub IsReceiverOf : Bool → TypedExpr → Basis → Basis → Judged TypedExpr → Type 0
IsReceiverOf true x before after result = IsAddressed x before after result
IsReceiverOf false x before after result = Keeps (λ types. IsFine (IsDereferenced types x)) before after result

-- "with a value receiver using a pointer will automatically dereference that pointer"; "with a pointer receiver using
-- an addressable value will automatically take the address of that value"
abbrev pub IsReceiver : FuncId → TypedExpr → Basis → Basis → Judged TypedExpr → Type 0
IsReceiver function x before after result =
    IsReceiverOf (by_pointer before.types x.of function) x before after result

abbrev pub IsBoundMethod : FuncId → TypeId → TypedExpr → Basis → Basis → Judged TypedExpr → Type 0
IsBoundMethod function signature x before after result =
    IsThenSoundly (IsReceiver function x) (IsMethodValue signature (method.Concrete function)) before after result

abbrev pub IsConcreteMethod : Pos → FuncId → TypeId → TypedExpr → Basis → Basis → Judged TypedExpr → Type 0
IsConcreteMethod at function signature x before after result =
    IsThenSoundly (Asks (λ types. receiver_asked types at function x)) (IsBoundMethod function signature) before after
    result

-- ---- fields and methods of values

-- at the end of the path, which for a field leads to it: the field, or the method of the value that the path leads to
abbrev pub IsSelectedOf : Selected → SelectionKind → TypeId → TypedExpr → Basis → Basis → Judged TypedExpr → Type 0
IsSelectedOf it kind.Field of x before after result = Asks (λ types. fine x) before after result
IsSelectedOf it (kind.Method function) of x before after result =
    IsConcreteMethod it.at function of x before after result
IsSelectedOf it kind.InterfaceMethod of x before after result =
    IsMethodValue of (method.Interface it.name it.package) x before after result

abbrev pub IsSelectedBy : Selected → TypedExpr → Selection → Basis → Basis → Judged TypedExpr → Type 0
IsSelectedBy it x selection before after result =
    IsThenSoundly (Keeps (λ types. IsFine (IsAlong types x selection.path)))
    (IsSelectedOf it selection.kind selection.result) before after result

abbrev pub IsFieldOrMethod : Selected → Given → Basis → Basis → Judged TypedExpr → Type 0
IsFieldOrMethod it x before after result =
    IsThenSoundly (Keeps (λ types. IsSelection types x.expr.of it)) (IsSelectedBy it x.expr) before after result

-- ---- methods of types

abbrev pub HasMethod : Table → TypeId → Selected → Type 0
HasMethod types of it = (member : Member) × HasMember types of (wanted it) member

-- "if m is in the method set of type T"
pub data IsInMethodSet (types : Table) (of : TypeId) (it : Selected) (selection : Selection)
    : Judged Selection → Type 0 where
  has : HasMethod types of it → IsInMethodSet types of it selection (fine selection)
  lacks : (HasMethod types of it → ⊥) → IsInMethodSet types of it selection (breaks it.at NoSuchFieldOrMethod)

-- "the same arguments as m prefixed by an additional argument that is the receiver"
abbrev pub with_first : TypeId → Signature → Signature
with_first receiver s = record { params = receiver ∷ s.params; results = s.results; variadic = s.variadic }

pub record IsPrefixed (receiver function : TypeId) (before after : Basis) (result : Judged TypeId) : Type 0 where
  pub signature : Signature
  pub was : underlying_term_of before.types function ≡ Some (Func signature)
  pub held : IsHeld (Func (with_first receiver signature)) before after result

abbrev pub expression_of : Pos → TypeId → Selected → TypeId → TypedExpr
expression_of at of it function = node at function (MethodExpr of it.name it.package)

abbrev pub IsExpressionOf : Pos → TypeId → Selected → TypeId → Unit {0} → Basis → Basis → Judged TypedExpr → Type 0
IsExpressionOf at of it function fits before after result =
    Asks (λ types. fine (expression_of at of it function)) before after result

abbrev pub IsLimitedExpression : Pos → TypeId → Selected → TypeId → Basis → Basis → Judged TypedExpr → Type 0
IsLimitedExpression at of it function before after result =
    IsThenSoundly (IsLimited at function) (IsExpressionOf at of it function) before after result

abbrev pub IsMethodOf : Pos → TypeId → Selected → Selection → Basis → Basis → Judged TypedExpr → Type 0
IsMethodOf at of it selection before after result =
    IsThenSoundly (IsPrefixed of selection.result) (IsLimitedExpression at of it) before after result

abbrev pub IsOfMethodSet : Pos → TypeId → Selected → Selection → Basis → Basis → Judged TypedExpr → Type 0
IsOfMethodSet at of it selection before after result =
    IsThenSoundly (Keeps (λ types. IsInMethodSet types of it selection)) (IsMethodOf at of it) before after result

-- "T.m is a function that is callable as a regular function"
abbrev pub IsMethodExpression : Pos → TypeId → Selected → Basis → Basis → Judged TypedExpr → Type 0
IsMethodExpression at of it before after result =
    IsThenSoundly (Keeps (λ types. IsSelection types of it)) (IsOfMethodSet at of it) before after result

-- ---- all

abbrev pub IsOfValue : Selected → Given → Basis → Basis → Judged TypedExpr → Type 0
IsOfValue it x before after result =
    IsThenSoundly (Asks (λ types. single types x)) (IsFieldOrMethod it) before after result

-- "x.f": of a value or a type
abbrev pub IsSelectorOf : Pos → Option Meaning → Selected → Basis → Basis → Judged TypedExpr → Type 0
IsSelectorOf at (Some (meaning.Value expr)) it before after result =
    IsOfValue it (record { at = at; expr = expr }) before after result
IsSelectorOf at (Some (meaning.Type of)) it before after result = IsMethodExpression at of it before after result
IsSelectorOf at (Some (meaning.Builtin builtin)) it before after result =
    Asks (λ types. breaks at BadBuiltInCall) before after result
IsSelectorOf at None it before after result = Asks (λ types. unsound) before after result

abbrev pub IsSelector : Seen → Selected → Basis → Basis → Judged TypedExpr → Type 0
IsSelector x it before after result = IsSelectorOf x.at x.meaning it before after result
