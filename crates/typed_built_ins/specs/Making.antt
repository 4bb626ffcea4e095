-- The built-in functions `make` and `new`. Go specification, "Making slices, maps and channels" and "Allocation".
use Rattle.std.specs.Prelude.{◌≡◌, ℕ, ℤ, ◌&&◌, ◌||◌, not, nat_le, nat_eq, int_lt, Bool, true, false, is_some}
use Rattle.std.specs.Prelude.{if◌then◌else◌, List, [], ◌∷◌, ◌++◌, length, Option, Some, None}
use Rattle.std.specs.List.{list_all}
use Rattle.go_base.specs.declared.ids.TypeId.{TypeId}
use Rattle.go_base.specs.declared.place.Pos.{Pos}
use Rattle.go_base.specs.declared.rule.Rule.TheVariants.{BadBuiltInCall, BadUseOfDots, WrongNumberOfValues}
use Rattle.go_tree.specs.declared.exprs.TypedExpr.{TypedExpr}
use Rattle.go_type.specs.declared.operators.Builtin.{Builtin}
use Rattle.go_type.specs.declared.operators.Builtin.TheVariants as builtin
use Rattle.go_type.specs.declared.term.TypeTerm.{TypeTerm}
use Rattle.go_type.specs.declared.term.TypeTerm.TheVariants.{Pointer, Slice, Map, Chan}
use Rattle.go_type.specs.Assignable.{underlying_term_of}
use Rattle.go_type.specs.Table.{Table}
use Rattle.typed_parts.specs.declared.meaning.Given.{Given}
use Rattle.typed_parts.specs.declared.meaning.Seen.{Seen}
use Rattle.typed_parts.specs.Joining.{only}
use Rattle.typed_parts.specs.Judged.{Broken, Judged, breaks, fine, unsound}
use Rattle.typed_parts.specs.Meanings.{one_value, type_of}
use Rattle.typed_parts.specs.Numbers.{integer_of}
use Rattle.typed_parts.specs.Wholes.{IsWhole}
use Rattle.typed_built_ins.specs.declared.built_ins.BuiltInCall.{BuiltInCall}
use Rattle.typed_built_ins.specs.declared.making.Shaped.{Shaped}
use Rattle.typed_built_ins.specs.BuiltIns.{IsCallNode, broken_in, values_in}
use Rattle.typed_parts.specs.Turning.{Asks, IsEach, IsHeld, IsThenSoundly, Keeps}
use Rattle.typed_parts.specs.Limits.{Basis, IsLimited}

-- the arguments: first a type, and then values; where none is written there is no place of a type
pub record Form : Type 0 where
  pub is_written : Bool
  pub at : Pos
  pub form : Option TypeId
  pub sizes : List (Option Given)

abbrev pub form_in : Table → Pos → List Seen → Form
form_in types at [] = record { is_written = false; at = at; form = None; sizes = [] }
form_in types at (form ∷ sizes) =
    record { is_written = true; at = form.at; form = (type_of form).sound; sizes = values_in types sizes }

abbrev pub form_broken : Table → List Seen → List Broken
form_broken types [] = []
form_broken types (form ∷ sizes) = (type_of form).broken ++ broken_in types sizes

-- the form that arguments have
abbrev pub formed : Table → Pos → List Seen → Judged Form
formed types at parts = record { sound = Some (form_in types at parts); broken = form_broken types parts }

-- one more argument
abbrev pub added_to : Table → Form → Seen → Bool → Form
added_to types form part true = record {
  is_written = true;
  at = form.at;
  form = form.form;
  sizes = form.sizes ++ (one_value types part).sound ∷ [];
}
added_to types form part false =
    record { is_written = true; at = part.at; form = (type_of part).sound; sizes = form.sizes }

abbrev pub added : Table → Form → Seen → Form
added types form part = added_to types form part form.is_written

abbrev pub added_broken : Table → Bool → Seen → List Broken
added_broken types true part = (one_value types part).broken
added_broken types false part = (type_of part).broken

abbrev pub form_of : Shaped → Form
form_of formed =
    record { is_written = formed.has_form; at = formed.form_at; form = formed.form; sizes = formed.sizes.items }

-- how many sizes `make` takes at least and at most
abbrev pub sizes_of_term : Option TypeTerm → Option (ℕ × ℕ)
sizes_of_term (Some (Slice elem)) = Some (1, 2)
sizes_of_term (Some (Map key elem)) = Some (0, 1)
sizes_of_term (Some (Chan dir elem)) = Some (0, 1)
sizes_of_term _ = None

abbrev pub sizes_of : Table → TypeId → Option (ℕ × ℕ)
sizes_of types form = sizes_of_term (underlying_term_of types form)

abbrev pub all_sound : List (Option Given) → Bool
all_sound sizes = list_all is_some sizes

abbrev pub is_sound : Form → Bool
is_sound formed = is_some formed.form && all_sound formed.sizes

-- "new": a type alone
abbrev pub new_asked : Form → TypeId → Bool → Judged TypeId
new_asked formed form true =
    if nat_eq (length formed.sizes) 0 then fine form else breaks formed.at WrongNumberOfValues
new_asked formed form false = unsound

abbrev pub number_asked : Form → TypeId → Bool → Bool → Judged TypeId
number_asked formed form true sound = fine form
number_asked formed form false true = breaks formed.at WrongNumberOfValues
number_asked formed form false false = unsound

-- "make(T, n)", "make(T, n, m)": of slices with a length, of maps and channels also without
abbrev pub make_asked : Form → TypeId → Option (ℕ × ℕ) → Bool → Judged TypeId
make_asked formed form None sound = breaks formed.at BadBuiltInCall
make_asked formed form (Some (least, most)) sound =
    number_asked formed form (nat_le least (length formed.sizes) && nat_le (length formed.sizes) most) sound

abbrev pub is_new : Builtin → Bool
is_new builtin.New = true
is_new _ = false

abbrev pub form_asked : Table → Builtin → Form → Option TypeId → Judged TypeId
form_asked types builtin formed None = unsound
form_asked types builtin formed (Some form) =
    if is_new builtin then new_asked formed form (is_sound formed)
    else make_asked formed form (sizes_of types form) (is_sound formed)

abbrev pub written_asked : Table → BuiltInCall → Form → Bool → Judged TypeId
written_asked types call formed true = form_asked types call.builtin formed formed.form
written_asked types call formed false = breaks call.at WrongNumberOfValues

abbrev pub dots_asked : Table → BuiltInCall → Form → Option Pos → Judged TypeId
dots_asked types call formed None = written_asked types call formed formed.is_written
dots_asked types call formed (Some dots) =
    if is_sound formed || not formed.is_written then breaks dots BadUseOfDots else unsound

-- the type, where it and the number of sizes are what the function takes, and there is no `...`
abbrev pub asked_form : Table → BuiltInCall → Form → Judged TypeId
asked_form types call formed = dots_asked types call formed call.dots

-- ---- sizes

abbrev pub first_at : List (Option Given) → Option Pos
first_at (Some size ∷ sizes) = Some size.at
first_at _ = None

abbrev pub exceeds : Option ℤ → Option ℤ → Bool
exceeds (Some len) (Some cap) = int_lt cap len
exceeds _ _ = false

abbrev pub order_broken : Pos → Bool → List Broken
order_broken at true = record { at = at; rule = BadBuiltInCall } ∷ []
order_broken at false = []

-- "if both n and m are constant, then n must be no larger than m"
abbrev pub ordered : Option Pos → List TypedExpr → Judged (List TypedExpr)
ordered (Some at) (len ∷ cap ∷ []) = record {
  sound = only (Some (len ∷ cap ∷ [])) (not (exceeds (integer_of len) (integer_of cap)));
  broken = order_broken at (exceeds (integer_of len) (integer_of cap));
}
ordered at sizes = fine sizes

abbrev pub IsSize : ℕ → Option Given → Basis → Basis → Judged TypedExpr → Type 0
IsSize number size before after result = Keeps (λ types. IsWhole types size BadBuiltInCall) before after result

-- the sizes are whole numbers in order
abbrev pub IsMake : BuiltInCall → TypeId → List (Option Given) → Basis → Basis → Judged TypedExpr → Type 0
IsMake call form sizes before after result =
    IsThenSoundly (IsEach IsSize sizes)
    (λ (exprs : List TypedExpr).
    IsThenSoundly (Asks (λ types. ordered (first_at sizes) exprs))
    (λ (these : List TypedExpr). IsCallNode call form (Some form) these false)) before after result

-- "new(T)": a value of a pointer type, which has to be within the limits
abbrev pub IsNew : BuiltInCall → TypeId → Basis → Basis → Judged TypedExpr → Type 0
IsNew call form before after result =
    IsThenSoundly (IsHeld (Pointer form))
    (λ (pointer : TypeId).
    IsThenSoundly (IsLimited call.at pointer)
    (λ (fits : Unit {0}). IsCallNode call pointer (Some form) [] false)) before after result

abbrev pub IsMadeBy : Bool → BuiltInCall → TypeId → List (Option Given) → Basis → Basis → Judged TypedExpr → Type 0
IsMadeBy true call form sizes before after result = IsNew call form before after result
IsMadeBy false call form sizes before after result = IsMake call form sizes before after result

-- `make` or `new`
abbrev pub IsFormed : BuiltInCall → List Seen → Basis → Basis → Judged TypedExpr → Type 0
IsFormed call arguments before after result =
    IsThenSoundly (Asks (λ types. formed types call.at arguments))
    (λ (these : Form). IsThenSoundly (Asks (λ types. asked_form types call these))
    (λ (form : TypeId). IsMadeBy (is_new call.builtin) call form these.sizes)) before after result
