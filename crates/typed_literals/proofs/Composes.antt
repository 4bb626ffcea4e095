-- What becomes of the nodes of literals.
use Rattle.std.proofs.Common.{◌≡◌, refl, sym, ap, subst, Option, Some, None, Result, Ok, Err}
use Rattle.std.specs.Global.{Box}
use Rattle.std.specs.Prelude.{IfOk}
use Rattle.go_base.specs.declared.ids.TypeId.{TypeId}
use Rattle.go_base.specs.declared.memory.NoMemory.{NoMemory}
use Rattle.go_base.specs.declared.place.Pos.{Pos}
use Rattle.go_tree.specs.declared.exprs.ExprKind.TheVariants.{AddressOf}
use Rattle.go_tree.specs.declared.exprs.TypedExpr.{TypedExpr}
use Rattle.go_type.specs.declared.term.TypeTerm.TheVariants.{Pointer}
use Rattle.go_type.specs.Table.{Table}
use Rattle.typed_parts.specs.declared.ground.Ground.{Ground}
use Rattle.typed_parts.specs.Adapting.{IsMade}
use Rattle.typed_parts.specs.Joining.{sound}
use Rattle.typed_parts.specs.Judged.{IsFine, fine}
use Rattle.typed_parts.specs.Nodes.{node}
use Rattle.typed_parts.specs.Turning.{IsHeld, Keeps, Turned, Turns}
use Rattle.typed_parts.proofs.Turns.{came, stays, then_soundly}
use Rattle.typed_literals.specs.Composing.{IsAddressAs, IsNodeFor}

pub node_plain : (old : Ground) (pointer : Option TypeId) (brace : Pos) (literal made : TypedExpr) → pointer ≡ None
    → made ≡ literal → Turns old old (came (Some made)) (IsNodeFor pointer brace literal)
node_plain old pointer brace literal made p m =
    subst (λ (o : Option TypeId). Turns old old (came (Some made)) (IsNodeFor o brace literal)) (sym p)
    (record { judged = fine made; is = (refl, ap (λ (x : TypedExpr). fine x) m); answers = refl; reports = refl })

address_made : (g : Ground) (to id : TypeId) (brace : Pos) (literal : TypedExpr) (b : Box TypedExpr)
    (result : Result TypedExpr NoMemory) → b.value ≡ literal → IfOk result (IsMade g.types (node brace id (AddressOf b)) to)
    → Turns g g (sound result) (Keeps (λ types. IsFine (IsAddressAs types brace literal id to)))
address_made g to id brace literal b (Err error) v m = tt
address_made g to id brace literal b (Ok x) v m =
    stays g (Keeps (λ (types : Table). IsFine (IsAddressAs types brace literal id to))) x (refl, (x, ((b, (v, m)), refl)))

pub node_address : (old mid : Ground) (pointer : Option TypeId) (to id : TypeId) (brace : Pos) (literal : TypedExpr)
    (b : Box TypedExpr) (result : Result TypedExpr NoMemory) → pointer ≡ Some to
    → Turned old mid (Some id) (IsHeld (Pointer literal.of)) → b.value ≡ literal
    → IfOk result (IsMade mid.types (node brace id (AddressOf b)) to)
    → Turns old mid (sound result) (IsNodeFor pointer brace literal)
node_address old mid pointer to id brace literal b result p h v m =
    subst (λ (o : Option TypeId). Turns old mid (sound result) (IsNodeFor o brace literal)) (sym p)
    (then_soundly old mid mid (IsHeld (Pointer literal.of))
    (λ (pointed : TypeId). Keeps (λ (types : Table). IsFine (IsAddressAs types brace literal pointed to))) (Some id) id (sound result) refl h
    (address_made mid to id brace literal b result v m))
