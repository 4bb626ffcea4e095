-- What becomes of values of which something is asked, and of types that are held.
use Rattle.std.proofs.Common.{◌≡◌, ℕ, refl, sym, ap, ◌∙◌, subst, List, [], ◌∷◌, ◌++◌, Bool, true, false}
use Rattle.std.proofs.Common.{Option, Some, None, Result, Ok, Err}
use Rattle.std.specs.Prelude.{IfOk, OnOk, IsTrue, ◌↔◌}
use Rattle.std.specs.Global.{Vec}
use Rattle.go_base.specs.declared.ids.TypeId.{TypeId}
use Rattle.go_base.specs.declared.memory.NoMemory.{NoMemory}
use Rattle.go_base.specs.declared.rule.Rule.{Rule}
use Rattle.go_base.specs.declared.rule.Rule.TheVariants.{BadBuiltInCall}
use Rattle.go_tree.specs.declared.exprs.TypedExpr.{TypedExpr}
use Rattle.go_type.specs.declared.term.TypeTerm.{TypeTerm}
use Rattle.go_type.specs.Table.{Table, term_at, with_term}
use Rattle.typed_parts.specs.declared.ground.Ground.{Ground}
use Rattle.typed_parts.specs.declared.meaning.Given.{Given}
use Rattle.typed_parts.specs.Joining.{asked, beside, items_of, with_last}
use Rattle.typed_parts.specs.Judged.{Comes, Judged, Outcome, fine, reported}
use Rattle.typed_built_ins.specs.declared.built_ins.BuiltInCall.{BuiltInCall}
use Rattle.typed_built_ins.specs.BuiltIns.{IsCallNode, IsNode, built_in_node}
use Rattle.typed_built_ins.specs.Moving.{IsAsked}
use Rattle.typed_parts.specs.Turning.{Asks, IsHeld, Keeps, Soundly, Turned, Turns}
use Rattle.typed_parts.proofs.Turns.{asks, came, keeps, of_some, stays}
use Rattle.typed_parts.specs.Limits.{Basis}

-- what is said of what came
pub if_came : {A : Type 0} (came : Result A NoMemory) (P : A → Type 0) (x : A) → came ≡ Ok x → IfOk came P → P x
if_came {A} came P x e h = subst (λ (r : Result A NoMemory). IfOk r P) e h

pub on_came : {A : Type 0} (came : Result A NoMemory) (P : Type 0) (x : A) → came ≡ Ok x → OnOk came P → P
on_came {A} came P x e h = subst (λ (r : Result A NoMemory). OnOk r P) e h

-- the node of a call
pub node_made : (old : Ground) (call : BuiltInCall) (of : TypeId) (form : Option TypeId) (arguments : List TypedExpr)
    (spread : Bool) (v : Vec TypedExpr) (made : TypedExpr) → v.items ≡ arguments
    → made ≡ built_in_node call of form v spread
    → Turns old old (came (Some made)) (IsCallNode call of form arguments spread)
node_made old call of form arguments spread v made e m =
    stays old (IsCallNode call of form arguments spread) made (refl, (made, ((v, (e, m)), refl)))

-- of arguments that are there
pub listed_rule : {B : Type 0} (old new : Ground) (Is : List TypedExpr → Basis → Basis → Judged B → Type 0)
    (arguments : Option (Vec TypedExpr)) (xs : List TypedExpr) (result : Result (Option B) NoMemory)
    → items_of arguments ≡ Some xs → Turns old new result (Soundly Is (items_of arguments)) → Turns old new result (Is xs)
listed_rule old new Is arguments xs result e h = of_some old new Is (items_of arguments) xs result e h

pub asked_fact : (x : Given) (holds : Bool) (rule : Rule) (P : Type 0) → (IsTrue holds ↔ P) → IsAsked P x rule (asked x holds rule)
asked_fact x true rule P d = IsAsked.holds (d.0 refl)
asked_fact x false rule P d = IsAsked.fails (λ (p : P). let e : false ≡ true = d.1 p in cc)

pub vec_items : (o : Option (Vec TypedExpr)) (v : Vec TypedExpr) (xs : List TypedExpr) → o ≡ Some v → items_of o ≡ Some xs
    → v.items ≡ xs
vec_items o v xs e i = let f : Some v.items ≡ Some xs = sym (ap items_of e) ∙ i in cc

-- one value is the list of one
pub one_listed : {B : Type 0} (old new : Ground) (Is : List TypedExpr → Basis → Basis → Judged B → Type 0)
    (items : Option (List TypedExpr)) (o : Option TypedExpr) (result : Result (Option B) NoMemory)
    → items ≡ with_last (Some []) o → Turns old new result (Soundly Is items)
    → Turns old new result (Soundly (λ (x : TypedExpr). Is (x ∷ [])) o)
one_listed {B} old new Is items None result e h =
    subst (λ (xs : Option (List TypedExpr)). Turns old new result (Soundly Is xs)) e h
one_listed {B} old new Is items (Some x) result e h =
    subst (λ (xs : Option (List TypedExpr)). Turns old new result (Soundly Is xs)) e h
