-- The built-in functions `clear`, `close`, `copy` and `delete`. Go specification, "Clear", "Close", "Appending to and
-- copying slices" and "Deletion of map elements".
use Rattle.std.specs.Prelude.{◌≡◌, Bool, true, false, is_some, [], ◌∷◌, Option, Some, None, IsTrue}
use Rattle.std.specs.Option.{option_zip}
use Rattle.go_base.specs.declared.ids.TypeId.{TypeId}
use Rattle.go_base.specs.declared.rule.Rule.{Rule}
use Rattle.go_base.specs.declared.rule.Rule.TheVariants.{BadBuiltInCall}
use Rattle.go_rules.specs.Untyped.{is_text_type}
use Rattle.go_tree.specs.declared.exprs.TypedExpr.{TypedExpr}
use Rattle.go_type.specs.declared.term.Basic.TheVariants as basic
use Rattle.go_type.specs.declared.term.Dir.{Dir}
use Rattle.go_type.specs.declared.term.Dir.TheVariants as dir
use Rattle.go_type.specs.declared.term.TypeTerm.{TypeTerm}
use Rattle.go_type.specs.declared.term.TypeTerm.TheVariants.{Slice, Map, Chan}
use Rattle.go_type.specs.Assignable.{underlying_term_of}
use Rattle.go_type.specs.Identity.{Identical}
use Rattle.go_type.specs.Table.{Table, basic_id}
use Rattle.typed_parts.specs.declared.meaning.Given.{Given}
use Rattle.typed_parts.specs.declared.shapes.Shape.{Shape}
use Rattle.typed_parts.specs.declared.shapes.Shape.TheVariants as shape
use Rattle.typed_parts.specs.Joining.{asked}
use Rattle.typed_parts.specs.Judged.{IsRest, Judged, breaks, fine, judged}
use Rattle.typed_parts.specs.Shapes.{elem_of, shape_of}
use Rattle.typed_parts.specs.Wholes.{IsTextTyped}
use Rattle.typed_parts.specs.Adapting.{IsAssignedTo}
use Rattle.typed_built_ins.specs.declared.built_ins.BuiltInCall.{BuiltInCall}
use Rattle.typed_built_ins.specs.BuiltIns.{IsAction, IsCallNode}
use Rattle.typed_parts.specs.Turning.{Asks, IsFollowed, IsThenSoundly, Keeps, Soundly}
use Rattle.typed_parts.specs.Limits.{Basis}

-- "takes an argument of map [or] slice .. type"
abbrev pub cleared_term : Option TypeTerm → Bool
cleared_term (Some (Slice elem)) = true
cleared_term (Some (Map key elem)) = true
cleared_term _ = false

abbrev pub sends : Dir → Bool
sends dir.Both = true
sends dir.Send = true
sends dir.Receive = false

-- "an argument of channel type"; "an error if ch is a receive-only channel"
abbrev pub closed_term : Option TypeTerm → Bool
closed_term (Some (Chan dir elem)) = sends dir
closed_term _ = false

-- a call of one argument that has to be one that the function takes
abbrev pub IsTaken : BuiltInCall → Given → (Table → Bool) → Basis → Basis → Judged TypedExpr → Type 0
IsTaken call x takes before after result =
    IsThenSoundly (Asks (λ types. asked x (takes types) BadBuiltInCall)) (λ (y : Given). IsAction call (y.expr ∷ []))
    before after result

abbrev pub IsClear : BuiltInCall → Given → Basis → Basis → Judged TypedExpr → Type 0
IsClear call x before after result =
    IsTaken call x (λ types. cleared_term (underlying_term_of types x.expr.of)) before after result

abbrev pub IsClose : BuiltInCall → Given → Basis → Basis → Judged TypedExpr → Type 0
IsClose call x before after result =
    IsTaken call x (λ types. closed_term (underlying_term_of types x.expr.of)) before after result

-- ---- delete

abbrev pub shape_key : Option Shape → Option TypeId
shape_key (Some (shape.Map key elem)) = Some key
shape_key _ = None

abbrev pub key_of : Table → TypeId → Option TypeId
key_of types of = shape_key (shape_of types of)

-- the type of the keys of a map
abbrev pub key_type : Table → Option Given → Option TypeId
key_type types (Some m) = key_of types m.expr.of
key_type types None = None

-- what is deleted from has to be a map
abbrev pub deleted_from : Table → Option Given → Judged Given
deleted_from types m =
    judged m (λ (given : Given). asked given (is_some (key_of types given.expr.of)) BadBuiltInCall)

abbrev pub IsDeletion : BuiltInCall → Given × TypedExpr → Basis → Basis → Judged TypedExpr → Type 0
IsDeletion call (m, k) before after result = IsAction call (m.expr ∷ k ∷ []) before after result

-- "the value k must be assignable to the key type of m"
abbrev pub IsDeletedFrom : BuiltInCall → Option Given → Option Given → Basis → Basis → Judged TypedExpr → Type 0
IsDeletedFrom call key m before after result =
    IsFollowed (Keeps (λ types. IsAssignedTo types key (key_type types m)))
    (λ (k : Option TypedExpr). Soundly (IsDeletion call) (option_zip m k)) before after result

abbrev pub IsDelete : BuiltInCall → Option Given → Option Given → Basis → Basis → Judged TypedExpr → Type 0
IsDelete call m key before after result =
    IsFollowed (Asks (λ types. deleted_from types m)) (IsDeletedFrom call key) before after result

-- ---- copy

-- "The core types of both arguments must be slices with identical element type"; "a special case that also accepts a
-- source argument of string type" where the elements are bytes
abbrev pub MayCopyFrom : Table → TypeId → TypeId → Option TypeId → Type 0
MayCopyFrom types elem from (Some other) = Identical types elem other
MayCopyFrom types elem from None =
    IsTrue (is_text_type types from) × Identical types elem (basic_id basic.Uint8)

abbrev pub MayCopy : Table → TypeId → TypeId → Type 0
MayCopy types elem from = MayCopyFrom types elem from (elem_of types from)

-- what is copied to has to be a slice
abbrev pub copied_to : Table → Option Given → Judged Given
copied_to types to =
    judged to (λ (given : Given). asked given (is_some (elem_of types given.expr.of)) BadBuiltInCall)

abbrev pub elem_in : Table → Option Given → Option TypeId
elem_in types (Some slice) = elem_of types slice.expr.of
elem_in types None = None

-- a value of which something was asked that is no test
pub data IsAsked (P : Type 0) (x : Given) (rule : Rule) : Judged Given → Type 0 where
  holds : P → IsAsked P x rule (fine x)
  fails : (P → ⊥) → IsAsked P x rule (breaks x.at rule)

abbrev pub IsSource : Table → TypeId × Given → Judged Given → Type 0
IsSource types (elem, from) result = IsAsked (MayCopy types elem from.expr.of) from BadBuiltInCall result

-- what is copied, where it is known to what
abbrev pub IsCopiedFrom : Table → Option Given → Option Given → Judged Given → Type 0
IsCopiedFrom types to from result = IsRest (option_zip (elem_in types to) from) (IsSource types) result

abbrev pub IsCopyOf : BuiltInCall → Given × Given → Basis → Basis → Judged TypedExpr → Type 0
IsCopyOf call (to, from) before after result =
    IsCallNode call (basic_id basic.Int) None (to.expr ∷ from.expr ∷ []) false before after result

abbrev pub IsCopyTo : BuiltInCall → Option Given → Option Given → Basis → Basis → Judged TypedExpr → Type 0
IsCopyTo call from to before after result =
    IsFollowed (Keeps (λ types. IsCopiedFrom types to from))
    (λ (source : Option Given). Soundly (IsCopyOf call) (option_zip to source)) before after result

abbrev pub IsCopyAfter : BuiltInCall → Option Given → Option Given → Basis → Basis → Judged TypedExpr → Type 0
IsCopyAfter call to source before after result =
    IsFollowed (Asks (λ types. copied_to types to)) (IsCopyTo call source) before after result

-- an untyped string is one of type `string` first
abbrev pub IsCopy : BuiltInCall → Option Given → Option Given → Basis → Basis → Judged TypedExpr → Type 0
IsCopy call to from before after result =
    IsFollowed (Keeps (λ types. IsTextTyped types from)) (IsCopyAfter call to) before after result
