-- What becomes of index expressions.
use Rattle.std.proofs.Common.{◌≡◌, sym, ap, ◌∙◌, subst, false, Option, Some, None, Result, Ok, Err}
use Rattle.std.specs.Prelude.{ℤ, IfOk}
use Rattle.std.specs.Global.{Box}
use Rattle.std.specs.Option.{option_zip}
use Rattle.go_base.specs.declared.ids.TypeId.{TypeId}
use Rattle.go_base.specs.declared.memory.NoMemory.{NoMemory}
use Rattle.go_base.specs.declared.place.Pos.{Pos}
use Rattle.go_base.specs.declared.rule.Rule.TheVariants.{BadIndex}
use Rattle.go_tree.specs.declared.exprs.ExprKind.TheVariants.{IndexOf, MapIndex}
use Rattle.go_tree.specs.declared.exprs.IndexBase.{IndexBase}
use Rattle.go_tree.specs.declared.exprs.TypedExpr.{TypedExpr}
use Rattle.go_type.specs.Table.{Table}
use Rattle.typed_parts.specs.declared.ground.Ground.{Ground}
use Rattle.typed_parts.specs.declared.meaning.Given.{Given}
use Rattle.typed_parts.specs.declared.meaning.Seen.{Seen}
use Rattle.typed_parts.specs.declared.shapes.Shape.{Shape}
use Rattle.typed_parts.specs.Adapting.{IsAssignedTo}
use Rattle.typed_parts.specs.Joining.{beside}
use Rattle.typed_parts.specs.Judged.{Comes, Judged, judged, reported}
use Rattle.typed_parts.specs.Limits.{Basis, basis}
use Rattle.typed_parts.specs.Meanings.{one_value}
use Rattle.typed_parts.specs.Nodes.{node}
use Rattle.typed_parts.specs.Turning.{Asks, Keeps, Soundly, Turned, Turns}
use Rattle.typed_parts.specs.Wholes.{IsTextTyped, IsWhole}
use Rattle.typed_parts.proofs.Turns.{asks, came, first_came, followed, keeps, nothing, nothing_came, outcome_of, second_stays, something}
use Rattle.typed_primaries.specs.Indexing.{IsAt, IsElement, IsElementAt, IsElementBy, IsElementOf, IsIndex, IsIndexExpression, IsIndexed, IsIndexedAfter}
use Rattle.typed_primaries.specs.Indexing.{IsIndexedBy, IsMapElement, IsNumbered, IsOfMap, index_below, indexed}
use Rattle.typed_primaries.specs.Indexing.{known_length, map_form, map_types, numbered}
use Rattle.typed_parts.specs.Made.{IsOnTwo}
use Rattle.typed_primaries.specs.Steps.{IsDereferenced}
use Rattle.typed_primaries.proofs.Follows.{asks_then, fine_stays}

-- ---- all

-- what is indexed, its shape, and the index
abbrev pub IsElementOfAll : (Given × Shape) × Given → Basis → Basis → Judged TypedExpr → Type 0
IsElementOfAll ((x, of), i) before after result = IsElementAt x of i before after result

at_shape : (old new : Ground) (i : Option Given) (x : Given) (of : Option Shape) (result : Result (Option TypedExpr) NoMemory)
    → Turns old new result (Soundly IsElementOfAll (option_zip (option_zip (Some x) of) i))
    → Turns old new result (Soundly (IsAt i x) of)
at_shape old new None x None result h = h
at_shape old new (Some i) x None result h = h
at_shape old new None x (Some of) result h = h
at_shape old new (Some i) x (Some of) result h = h

after_text : (old mid new : Ground) (x i : Option Given) (of : Option Shape) (result : Result (Option TypedExpr) NoMemory)
    → of ≡ (judged x (indexed old.types)).sound → mid ≡ reported old (judged x (indexed old.types)).broken
    → Turns mid new result (Soundly IsElementOfAll (option_zip (option_zip x of) i))
    → Turns old new result (Soundly (IsIndexed i) x)
after_text old mid new (Some x) i of result a r h =
    asks_then old mid new (λ (types : Table). indexed types x) (Soundly (IsAt i x)) of result a r
    (at_shape mid new i x of result h)
after_text old mid new None None None result a r h =
    subst (λ (g : Ground). Turns g new result (Soundly (IsIndexed None) None)) r h
after_text old mid new None (Some i) None result a r h =
    subst (λ (g : Ground). Turns g new result (Soundly (IsIndexed (Some i)) None)) r h
after_text old mid new None i (Some of) result a r h = cc

pub indexes : (old one two three four new : Ground) (x i : Seen) (ox oi tx ti : Option Given) (of : Option Shape)
    (came : Result (Option Given) NoMemory) (result : Result (Option TypedExpr) NoMemory)
    → ox ≡ (one_value old.types x).sound → one ≡ reported old (one_value old.types x).broken
    → oi ≡ (one_value one.types i).sound → two ≡ reported one (one_value one.types i).broken
    → Comes two three came (IsTextTyped two.types ox) → beside came oi ≡ Ok (tx, ti)
    → of ≡ (judged tx (indexed three.types)).sound → four ≡ reported three (judged tx (indexed three.types)).broken
    → Turns four new result (Soundly IsElementOfAll (option_zip (option_zip tx of) ti))
    → Turns old new result (IsIndexExpression x i)
indexes old one two three four new x i ox oi tx ti of came result ax rx ai ri text b a r h =
    let same : ti ≡ oi = sym (second_stays tx ti came oi b) in
    let here = subst (λ (o : Option Given). Turns four new result (Soundly IsElementOfAll (option_zip (option_zip tx of) o))) same h in
    asks_then old one new (λ (types : Table). one_value types x) (IsIndexedAfter i) ox result ax rx
    (asks_then one two new (λ (types : Table). one_value types i) (IsIndexedBy ox) oi result ai ri
    (followed two three new (Keeps (λ (types : Table). IsTextTyped types ox)) (Soundly (IsIndexed oi)) tx result
    (keeps two three (λ (types : Table). IsTextTyped types ox) tx
    (outcome_of two three (IsTextTyped two.types ox) came tx (first_came tx ti came oi b) text))
    (after_text three four new tx oi of result a r here)))

-- ---- by the shape

pub by_key : (old new : Ground) (x i : Given) (of : Shape) (o : Option (TypeId × TypeId)) (key elem : TypeId)
    (result : Result (Option TypedExpr) NoMemory) → o ≡ map_types of → o ≡ Some (key, elem)
    → Turns old new result (IsOfMap x key elem i) → Turns old new result (IsElementAt x of i)
by_key old new x i of o key elem (Err error) e is h = tt
by_key old new x i of o key elem (Ok answer) e is h =
    record {
      judged = h.judged;
      is = subst (λ (p : Option (TypeId × TypeId)). IsElementBy p x of i (basis old) (basis new) h.judged) (sym is ∙ e) h.is;
      answers = h.answers;
      reports = h.reports;
    }

pub by_number : (old new : Ground) (x i : Given) (of : Shape) (o : Option (TypeId × TypeId))
    (result : Result (Option TypedExpr) NoMemory) → o ≡ map_types of → o ≡ None
    → Turns old new result (IsNumbered x of i) → Turns old new result (IsElementAt x of i)
by_number old new x i of o (Err error) e is h = tt
by_number old new x i of o (Ok answer) e is h =
    record {
      judged = h.judged;
      is = subst (λ (p : Option (TypeId × TypeId)). IsElementBy p x of i (basis old) (basis new) h.judged) (sym is ∙ e) h.is;
      answers = h.answers;
      reports = h.reports;
    }

-- ---- maps

-- a key that came, and the map
abbrev pub IsMapElementOf : TypeId → TypedExpr × Given → Basis → Basis → Judged TypedExpr → Type 0
IsMapElementOf elem (key, x) before after result = IsMapElement x elem key before after result

key_there : (old new : Ground) (elem : TypeId) (k : Option TypedExpr) (x : Given) (result : Result (Option TypedExpr) NoMemory)
    → Turns old new result (Soundly (IsMapElementOf elem) (option_zip k (Some x)))
    → Turns old new result (Soundly (IsMapElement x elem) k)
key_there old new elem None x result h = h
key_there old new elem (Some key) x result h = h

pub maps : (old mid new : Ground) (x y i : Given) (key elem : TypeId) (came : Result (Option TypedExpr) NoMemory)
    (k : Option TypedExpr) (result : Result (Option TypedExpr) NoMemory)
    → Comes old mid came (IsAssignedTo old.types (Some i) (Some key)) → beside came x ≡ Ok (k, y)
    → Turns mid new result (Soundly (IsMapElementOf elem) (option_zip k (Some y)))
    → Turns old new result (IsOfMap x key elem i)
maps old mid new x y i key elem came k result h b go =
    let same : y ≡ x = sym (second_stays k y came x b) in
    followed old mid new (Keeps (λ (types : Table). IsAssignedTo types (Some i) (Some key))) (Soundly (IsMapElement x elem)) k result
    (keeps old mid (λ (types : Table). IsAssignedTo types (Some i) (Some key)) k
    (outcome_of old mid (IsAssignedTo old.types (Some i) (Some key)) came k (first_came k y came x b) h))
    (key_there mid new elem k x result
    (subst (λ (z : Given). Turns mid new result (Soundly (IsMapElementOf elem) (option_zip k (Some z)))) same go))

pub map_element_made : (old : Ground) (x : Given) (elem : TypeId) (key : TypedExpr) (b c : Box TypedExpr) (made : TypedExpr)
    → b.value ≡ x.expr → c.value ≡ key → made ≡ node x.at elem (MapIndex b c false)
    → Turns old old (came (Some made)) (IsMapElement x elem key)
map_element_made old x elem key b c made v w m =
    fine_stays old (λ (types : Table). IsOnTwo x.at elem map_form x.expr key) made (b, (c, (v, (w, m))))

-- ---- elements by their number

-- an index that came, and what is indexed
abbrev pub IsElementIn : Shape → TypedExpr × Given → Basis → Basis → Judged TypedExpr → Type 0
IsElementIn of (index, x) before after result = IsElement x of index before after result

index_there : (old new : Ground) (of : Shape) (k : Option TypedExpr) (x : Given) (result : Result (Option TypedExpr) NoMemory)
    → Turns old new result (Soundly (IsElementIn of) (option_zip k (Some x)))
    → Turns old new result (Soundly (IsElement x of) k)
index_there old new of None x result h = h
index_there old new of (Some key) x result h = h

came_index : (old mid : Ground) (len : Option ℤ) (i : Given) (came : Result (Option TypedExpr) NoMemory) (k : Option TypedExpr)
    → came ≡ Ok k → Turns old mid came (IsIndex len i) → Turned old mid k (IsIndex len i)
came_index old mid len i came k e h =
    subst (λ (r : Result (Option TypedExpr) NoMemory). Turns old mid r (IsIndex len i)) e h

pub numbers : (old mid new : Ground) (x y i : Given) (of : Shape) (len : Option ℤ) (came : Result (Option TypedExpr) NoMemory)
    (k : Option TypedExpr) (result : Result (Option TypedExpr) NoMemory)
    → len ≡ known_length of x.expr → Turns old mid came (IsIndex len i) → beside came x ≡ Ok (k, y)
    → Turns mid new result (Soundly (IsElementIn of) (option_zip k (Some y)))
    → Turns old new result (IsNumbered x of i)
numbers old mid new x y i of len came k result l h b go =
    let same : y ≡ x = sym (second_stays k y came x b) in
    followed old mid new (IsIndex (known_length of x.expr) i) (Soundly (IsElement x of)) k result
    (subst (λ (n : Option ℤ). Turned old mid k (IsIndex n i)) l
    (came_index old mid len i came k (first_came k y came x b) h))
    (index_there mid new of k x result
    (subst (λ (z : Given). Turns mid new result (Soundly (IsElementIn of) (option_zip k (Some z)))) same go))

-- an index, and what is asked of it
pub index_asked : (old mid new : Ground) (len : Option ℤ) (i : Given) (o : Option TypedExpr) (index : TypedExpr) (at : Pos)
    (answer : Option TypedExpr) → at ≡ i.at → o ≡ Some index
    → Comes old mid (came o) (IsWhole old.types (Some i) BadIndex)
    → answer ≡ (index_below at len index).sound → new ≡ reported mid (index_below at len index).broken
    → Turns old new (came answer) (IsIndex len i)
index_asked old mid new len i o index at answer p e h a r =
    followed old mid new (Keeps (λ (types : Table). IsWhole types (Some i) BadIndex))
    (Soundly (λ (value : TypedExpr). Asks (λ (types : Table). index_below i.at len value))) o (came answer)
    (keeps old mid (λ (types : Table). IsWhole types (Some i) BadIndex) o h)
    (something mid new (λ (value : TypedExpr). Asks (λ (types : Table). index_below i.at len value)) o index (came answer) e
    (asks mid new (λ (types : Table). index_below i.at len index) answer
    (subst (λ (q : Pos). answer ≡ (index_below q len index).sound) p a)
    (subst (λ (q : Pos). new ≡ reported mid (index_below q len index).broken) p r)))

pub no_index : (old mid : Ground) (len : Option ℤ) (i : Given) (o : Option TypedExpr) → o ≡ None
    → Comes old mid (came o) (IsWhole old.types (Some i) BadIndex) → Turns old mid (nothing_came {A = TypedExpr}) (IsIndex len i)
no_index old mid len i o e h =
    followed old mid mid (Keeps (λ (types : Table). IsWhole types (Some i) BadIndex))
    (Soundly (λ (value : TypedExpr). Asks (λ (types : Table). index_below i.at len value))) o (nothing_came {A = TypedExpr})
    (keeps old mid (λ (types : Table). IsWhole types (Some i) BadIndex) o h)
    (nothing mid (λ (value : TypedExpr). Asks (λ (types : Table). index_below i.at len value)) o e)

pub element_made : (types : Table) (at : Pos) (expr : TypedExpr) (of : Shape) (index : TypedExpr)
    (first : Result (IndexBase × TypeId) NoMemory) (base : IndexBase) (elem : TypeId) (operand other : TypedExpr) (index1 index2 : TypedExpr)
    (second : Result TypedExpr NoMemory) (b c : Box TypedExpr) (made : TypedExpr)
    → IfOk first (λ (p : IndexBase × TypeId). numbered of ≡ Some p)
    → beside {B = TypedExpr × TypedExpr} first (expr, index) ≡ Ok ((base, elem), (operand, index1))
    → IfOk second (IsDereferenced types operand)
    → beside second index1 ≡ Ok (other, index2)
    → b.value ≡ other → c.value ≡ index2 → made ≡ node at elem (IndexOf base b c)
    → IsElementOf types (record { at = at; expr = expr }) of index made
element_made types at expr of index first base elem operand other index1 index2 second b c made n e d f v w m =
    let is_first : first ≡ Ok (base, elem) = first_came (base, elem) (operand, index1) first (expr, index) e in
    let pair : (expr, index) ≡ (operand, index1) = second_stays (base, elem) (operand, index1) first (expr, index) e in
    let same : expr ≡ operand = ap (λ (p : TypedExpr × TypedExpr). p.0) pair in
    let index_same : index ≡ index1 = ap (λ (p : TypedExpr × TypedExpr). p.1) pair in
    let is_second : second ≡ Ok other = first_came other index2 second index1 f in
    let again : index1 ≡ index2 = second_stays other index2 second index1 f in
    let behind = subst (λ (r : Result TypedExpr NoMemory). IfOk r (IsDereferenced types operand)) is_second d in
    record {
      base = base;
      elem = elem;
      operand = other;
      has = subst (λ (r : Result (IndexBase × TypeId) NoMemory). IfOk r (λ (p : IndexBase × TypeId). numbered of ≡ Some p)) is_first n;
      behind = subst (λ (y : TypedExpr). IsDereferenced types y other) (sym same) behind;
      is = (b, (c, (v, (w ∙ sym (index_same ∙ again), m))));
    }
