-- What becomes of steps along fields and pointers.
use Rattle.std.proofs.Common.{◌≡◌, ℕ, ◌+◌, ◌<◌, refl, sym, ap, ◌∙◌, subst, List, length, get_or, take, Option, Some, None}
use Rattle.std.proofs.Common.{Result, Ok, Err}
use Rattle.std.proofs.lemmas.List.{take_more}
use Rattle.std.proofs.Math.Seq.{take-length}
use Rattle.std.specs.Prelude.{IfOk}
use Rattle.std.specs.Global.{Box}
use Rattle.go_base.specs.declared.ids.TypeId.{TypeId}
use Rattle.go_base.specs.declared.memory.NoMemory.{NoMemory}
use Rattle.go_tree.specs.declared.exprs.ExprKind.TheVariants.{AddressOf, Deref, FieldOf}
use Rattle.go_tree.specs.declared.exprs.TypedExpr.{TypedExpr}
use Rattle.go_type.specs.declared.term.TypeTerm.TheVariants.{Pointer}
use Rattle.go_type.specs.Table.{Table}
use Rattle.typed_parts.specs.declared.ground.Ground.{Ground}
use Rattle.typed_parts.specs.Joining.{beside}
use Rattle.typed_parts.specs.Judged.{fine}
use Rattle.typed_parts.specs.Nodes.{node}
use Rattle.typed_parts.specs.Shapes.{pointed}
use Rattle.typed_parts.specs.Limits.{basis}
use Rattle.typed_parts.specs.Turning.{IsHeld, Turned, Turns}
use Rattle.typed_parts.proofs.Turns.{came, first_came, second_stays, stays, then_soundly}
use Rattle.typed_primaries.specs.Steps.{IsAddress, IsAddressOf, IsAddressed, IsAlong, IsBehind, IsDereferenced, IsFieldOf}
use Rattle.typed_primaries.specs.Steps.{IsPointerTo, field_type}

pub behind_pointer : (types : Table) (x made : TypedExpr) (o : Option TypeId) (base : TypeId) (b : Box TypedExpr)
    → o ≡ pointed types x.of → o ≡ Some base → b.value ≡ x → made ≡ node x.at base (Deref b) → IsDereferenced types x made
behind_pointer types x made o base b e is v m =
    subst (λ (p : Option TypeId). IsBehind p x made) (sym is ∙ e) (b, (v, m))

pub as_it_is : (types : Table) (x : TypedExpr) (o : Option TypeId) → o ≡ pointed types x.of → o ≡ None
    → IsDereferenced types x x
as_it_is types x o e is = subst (λ (p : Option TypeId). IsBehind p x x) (sym is ∙ e) refl

-- a pointer is its own address
pub is_pointer : (old : Ground) (x : TypedExpr) (base : TypeId) → pointed old.types x.of ≡ Some base
    → Turns old old (came (Some x)) (IsAddressed x)
is_pointer old x base e =
    let is = subst (λ (p : Option TypeId). IsPointerTo p x (basis old) (basis old) (fine x)) (sym e) (refl, refl) in
    record { judged = fine x; is = is; answers = refl; reports = refl }

pub no_pointer : (old new : Ground) (x : TypedExpr) (result : Result (Option TypedExpr) NoMemory)
    → pointed old.types x.of ≡ None → Turns old new result (IsAddress x) → Turns old new result (IsAddressed x)
no_pointer old new x (Err error) e h = tt
no_pointer old new x (Ok answer) e h =
    let is = subst (λ (p : Option TypeId). IsPointerTo p x (basis old) (basis new) h.judged) (sym e) h.is in
    record { judged = h.judged; is = is; answers = h.answers; reports = h.reports }

-- the address of a place
pub address_made : (old new : Ground) (x : TypedExpr) (pointer : TypeId) (b : Box TypedExpr) (made : TypedExpr)
    → Turned old new (Some pointer) (IsHeld (Pointer x.of)) → b.value ≡ x → made ≡ node x.at pointer (AddressOf b)
    → Turns old new (came (Some made)) (IsAddress x)
address_made old new x pointer b made h v m =
    then_soundly old new new (IsHeld (Pointer x.of)) (IsAddressOf x) (Some pointer) pointer (came (Some made)) refl h
    (stays new (IsAddressOf x pointer) made (refl, (made, ((b, (v, m)), refl))))

-- a field of what a pointer points to
pub field_made : (types : Table) (x whole other made : TypedExpr) (number : ℕ) (came : Result TypeId NoMemory) (of : TypeId)
    (b : Box TypedExpr) → IsDereferenced types x whole
    → IfOk came (λ (id : TypeId). field_type types whole.of number ≡ Some id)
    → beside came whole ≡ Ok (of, other) → b.value ≡ other → made ≡ node other.at of (FieldOf b number)
    → IsFieldOf types x number made
field_made types x whole other made number came of b d h w v m =
    let same : other ≡ whole = sym (second_stays of other came whole w) in
    record {
      whole = whole;
      of = of;
      behind = d;
      typed = subst (λ (r : Result TypeId NoMemory). IfOk r (λ (id : TypeId). field_type types whole.of number ≡ Some id))
          (first_came of other came whole w) h;
      is = (b, (v ∙ same, m ∙ ap (λ (y : TypedExpr). node y.at of (FieldOf b number)) same));
    }

-- one step more, and all of them
pub along_more : (types : Table) (x whole made : TypedExpr) (steps : List ℕ) (i : ℕ) → i < length steps
    → IsAlong types x (take i steps) whole → IsFieldOf types whole (get_or steps i 0) made
    → IsAlong types x (take (i + 1) steps) made
along_more types x whole made steps i h a f =
    subst (λ (p : List ℕ). IsAlong types x p made) (sym (take_more steps i 0 h))
    (IsAlong.further (take i steps) (get_or steps i 0) whole made a f)

pub along_all : (types : Table) (x made : TypedExpr) (steps : List ℕ) (i : ℕ) → i ≡ length steps
    → IsAlong types x (take i steps) made → IsAlong types x steps made
along_all types x made steps i e a =
    subst (λ (p : List ℕ). IsAlong types x p made) (ap (λ (n : ℕ). take n steps) e ∙ take-length steps) a
