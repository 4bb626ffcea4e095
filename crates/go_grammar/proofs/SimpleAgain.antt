-- Simple statements are read again.
use Rattle.std.proofs.Common.{◌≡◌, ℕ, ◌≤◌, ◌<◌, Bool, true, false, List, [], ◌∷◌, ◌++◌, length, Some, refl, ap, ◌∙◌, subst, arith}
use Rattle.std.proofs.lemmas.List.{append-nil, length-append}
use Rattle.std.specs.Prelude.{◌&&◌, not}
use Rattle.go_ast.specs.declared.token.Kind.{Kind}
use Rattle.go_ast.specs.declared.token.Kind.TheVariants as kinds
use Rattle.go_ast.specs.declared.token.Token.{Token}
use Rattle.go_grammar.specs.Forests as forms
use Rattle.go_grammar.specs.Forests.{Forest, empty, leaf, node, append, yield}
use Rattle.go_grammar.specs.Shapes as shapes
use Rattle.go_grammar.specs.Shapes.{Shape, Fits, is, ◌⨟◌}
use Rattle.go_grammar.specs.Grammar as sorts
use Rattle.go_grammar.specs.Grammar.{Sort, Context, grammar, is_assign, is_step, is_semicolon}
use Rattle.go_grammar.specs.Reading.{is_next, Then}
use Rattle.go_grammar.specs.Tests as plans
use Rattle.go_grammar.specs.Tests.{begins, goes_on}
use Rattle.go_grammar.specs.TypeReading.{Place, Plain, Header, Parsers}
use Rattle.go_grammar.specs.StmtReading.{at_part, expr, exprs, exprs_in, is_single, simple_rest_in, simple_in, is_range_assign, begins_range}
use Rattle.go_grammar.proofs.Forests.{yield-append, append-empty}
use Rattle.go_grammar.proofs.Nodes.{expr_node}
use Rattle.go_grammar.proofs.SameKinds.{is_same}
use Rattle.go_grammar.proofs.Again.{AreChosen, IsChosen, run_again, regroup}
use Rattle.go_grammar.proofs.Cuts.{implied}
use Rattle.go_grammar.proofs.Fronts.{IsFirst}
use Rattle.go_grammar.proofs.Choices.{first_behind, next_is_not}
use Rattle.go_grammar.proofs.Plans.{flip, unpart}
use Rattle.go_grammar.proofs.TypeChoices.{anything}
use Rattle.go_grammar.proofs.Rereads.{Rereads, ends_operand}
use Rattle.go_grammar.proofs.DeclChoices.{ends_expr, expr_sort, more_items, item_goes_on, goes_not_on}
use Rattle.go_grammar.proofs.DeclAgain.{Ends, ends_first}

abbrev pub place_of : Context → Place
place_of sorts.Plain = Plain
place_of sorts.Header = Header

pub filled_rest : {place : Place} {rest : List Token} → Ends place rest → IsFirst anything rest
filled_rest {place} {rest} h = go rest h.operand
  where
    go : (rest : List Token) → ends_operand place rest ≡ true → IsFirst anything rest
    go [] h = absurd cc
    go (token ∷ others) h = record { token = token; others = others; all = refl; kind = refl }

-- ---- what may stand behind simple statements

-- no expression goes on, and nothing that makes another statement of it
pub record EndsSimple (context : Context) (rest : List Token) : Type 0 where
  pub ends : Ends (place_of context) rest
  pub comma : begins kinds.Comma rest ≡ false
  pub assign : is_next is_assign rest ≡ false
  pub define : begins kinds.Define rest ≡ false
  pub arrow : begins kinds.Arrow rest ≡ false
  pub step : is_next is_step rest ≡ false

comma_ends : (kind : Kind) → is kind kinds.Comma ≡ true → ends_expr kind ≡ true
comma_ends kind h = implied (λ kind. is kind kinds.Comma) ends_expr refl kind h

no_range_assign : (kind : Kind) → is_assign kind ≡ false → is kind kinds.Define ≡ false → is_range_assign kind ≡ false
no_range_assign kinds.Assign h k = absurd cc
no_range_assign kinds.Define h k = absurd cc
no_range_assign _ h k = refl

and_false : (a b : Bool) → b ≡ false → (a && b) ≡ false
and_false true b h = h
and_false false b h = refl

first_false : (a b : Bool) → a ≡ false → (a && b) ≡ false
first_false false b h = refl
first_false true b h = absurd cc

no_range : (rest : List Token) → is_next is_assign rest ≡ false → begins kinds.Define rest ≡ false → begins_range rest ≡ false
no_range [] h k = refl
no_range (token ∷ rest) h k = first_false (is_range_assign token.kind) _ (no_range_assign token.kind h k)

pub record StepKind (kind : Kind) : Type 0 where
  pub assign : is_assign kind ≡ false
  pub define : is kind kinds.Define ≡ false
  pub arrow : is kind kinds.Arrow ≡ false

step_kind : (kind : Kind) → is_step kind ≡ true → StepKind kind
step_kind kinds.Increment h = record { assign = refl; define = refl; arrow = refl }
step_kind kinds.Decrement h = record { assign = refl; define = refl; arrow = refl }
step_kind _ h = absurd cc

-- ---- lists of expressions

list_ends : (context : Context) {tree : Forest} {rest : List Token} → Fits grammar (more_items (sorts.Expr context)) tree rest → Ends (place_of context) rest → Ends (place_of context) (yield tree ++ rest)
list_ends context shapes.done h = h
list_ends context (shapes.more (shapes.both (shapes.sign {token = comma} c) e) y) h = ends_first (place_of context) comma _ (comma_ends comma.kind c)

pub single_list : (context : Context) {tree : Forest} {rest : List Token} → Fits grammar (sorts.Expr context) tree rest → Fits grammar (sorts.exprs context) tree rest
single_list context {tree} {rest} x = subst (λ (t : Forest). Fits grammar (sorts.exprs context) t rest) (append-empty tree) (shapes.both x shapes.done)

pub single_expr : (context : Context) {tree : Forest} {rest : List Token} → Fits grammar (sorts.Expr context) tree rest → is_single tree ≡ true
single_expr context x = let n = expr_node context x in ap is_single n.all

-- a list is no `range`
list_no_range : (context : Context) {tree : Forest} {rest : List Token} → Fits grammar (sorts.exprs context) tree rest → IsFirst anything rest → begins kinds.RangeWord (yield tree ++ rest) ≡ false
list_no_range context {tree} {rest} x f = next_is_not (λ kind. is kind kinds.RangeWord) (sorts.exprs context) anything refl tree rest x f

-- the tokens of a node, in two pieces
node_text : {A : Type 0} (read : List Token → A) (trees left : Forest) (middle rest : List Token) → yield trees ++ rest ≡ yield left ++ middle → read ((yield trees ++ []) ++ rest) ≡ read (yield left ++ middle)
node_text read trees left middle rest e = ap (λ (front : List Token). read (front ++ rest)) (append-nil (yield trees)) ∙ ap read e

module _ (p : Parsers) (depth : ℕ) (r : Rereads p depth) where
  abbrev IsRead : Sort → Forest → List Token → Type 0
  IsRead sort tree rest = at_part p sort (yield tree ++ rest) ≡ Some (tree, rest)

  pub expr_again : (context : Context) (tree : Forest) (rest : List Token) → Fits grammar (sorts.Expr context) tree rest → Ends (place_of context) rest → length (yield tree) < depth → at_part p (expr_sort context) (yield tree ++ rest) ≡ Some (tree, rest)
  expr_again sorts.Plain tree rest x h le = r.expr Plain 1 tree rest (omega arith) (omega arith) x h.operand h.operator le
  expr_again sorts.Header tree rest x h le = r.expr Header 1 tree rest (omega arith) (omega arith) x h.operand h.operator le

  more_chosen : (context : Context) {tree : Forest} {rest : List Token} (x : Fits grammar (more_items (sorts.Expr context)) tree rest) → Ends (place_of context) rest → begins kinds.Comma rest ≡ false → length (yield tree) ≤ depth
      → AreChosen grammar IsRead goes_on (λ tree rest y. IsChosen grammar IsRead (Then (plans.word kinds.Comma) (expr context)) y) x
  more_chosen context (shapes.done {rest = rest}) h c le = goes_not_on rest c
  more_chosen context (shapes.more {right = right} {rest = rest} (shapes.both {right = item} (shapes.sign {token = comma} k) e) y) h c le =
      let f = first_behind anything y (filled_rest h) in
      let f' : IsFirst anything (yield right ++ rest) = record { token = f.token; others = f.others; all = f.all; kind = refl } in
      let all = length-append (comma ∷ yield item) (yield right) in
      let split = ap length (yield-append (leaf comma item) right) in (
        item_goes_on (sorts.Expr context) anything refl (leaf comma item) (yield right ++ rest) (shapes.both (shapes.sign k) e) f',
        omega arith,
        (tt, expr_again context item (yield right ++ rest) e (list_ends context y h) (omega (arith, le, all, split))),
        more_chosen context y h c (omega (arith, le, all, split)),
      )

  pub exprs_again : (context : Context) (tree : Forest) (rest : List Token) → Fits grammar (sorts.exprs context) tree rest → Ends (place_of context) rest → begins kinds.Comma rest ≡ false → length (yield tree) < depth → exprs_in p context (yield tree ++ rest) ≡ Some (tree, rest)
  exprs_again context tree rest x h c le = run_again grammar IsRead (at_part p) (λ sort tree rest x h. h) (exprs context) x (all_chosen x h c le)
    where
      all_chosen : {tree : Forest} {rest : List Token} (x : Fits grammar (sorts.exprs context) tree rest) → Ends (place_of context) rest → begins kinds.Comma rest ≡ false → length (yield tree) < depth → IsChosen grammar IsRead (exprs context) x
      all_chosen (shapes.both {left = left} {right = right} {rest = rest} x y) h c le =
          let all = length-append (yield left) (yield right) in
          let split = ap length (yield-append left right) in
          (expr_again context left (yield right ++ rest) x (list_ends context y h) (omega (arith, le, all, split)), more_chosen context y h c (omega (arith, le, all, split)))

  -- ---- in two steps

  -- the first expressions, and what follows them
  pub record SimpleRead (context : Context) (tree : Forest) (tokens rest : List Token) : Type 0 where
    pub targets : Forest
    pub middle : List Token
    pub list : exprs_in p context tokens ≡ Some (targets, middle)
    pub others : simple_rest_in p context targets middle ≡ Some (tree, rest)
    pub no_range : begins_range middle ≡ false

  expr_read : (context : Context) (tree : Forest) (rest : List Token) → Fits grammar (sorts.Expr context) tree rest → EndsSimple context rest → length (yield (node forms.ExprForm tree empty)) < depth
      → SimpleRead context (node forms.ExprForm tree empty) (yield (node forms.ExprForm tree empty) ++ rest) rest
  expr_read context tree rest x h le =
      let same = append-nil (yield tree) in
      let single = single_expr context x in
      let a = h.assign in
      let d = h.define in
      let w = h.arrow in
      let s = h.step in
      record {
        targets = tree;
        middle = rest;
        list = ap (λ (front : List Token). exprs_in p context (front ++ rest)) same ∙ exprs_again context tree rest (single_list context x) h.ends h.comma (omega (arith, le, ap length same));
        others = rw (a, d, single, w, s) refl;
        no_range = no_range rest h.assign h.define;
      }

  send_read : (context : Context) (tree : Forest) (arrow : Token) (value : Forest) (rest : List Token) → Fits grammar (sorts.Expr context) tree (arrow ∷ (yield value ++ rest)) → is arrow.kind kinds.Arrow ≡ true → Fits grammar (sorts.Expr context) value rest → EndsSimple context rest
      → length (yield (node forms.SendForm (append tree (leaf arrow value)) empty)) < depth
      → SimpleRead context (node forms.SendForm (append tree (leaf arrow value)) empty) (yield (node forms.SendForm (append tree (leaf arrow value)) empty) ++ rest) rest
  send_read context tree arrow value rest x e v h le =
      let same : arrow.kind ≡ kinds.Arrow = is_same arrow.kind kinds.Arrow e in
      let split = ap length (yield-append tree (leaf arrow value)) in
      let all = length-append (yield tree) (arrow ∷ yield value) in
      let whole = ap length (append-nil (yield (append tree (leaf arrow value)))) in
      let single = single_expr context x in
      let read = expr_again context value rest v h.ends (omega (arith, le, split, all, whole)) in
      let front : Ends (place_of context) (arrow ∷ (yield value ++ rest)) = ends_first (place_of context) arrow _ (implied (λ kind. is kind kinds.Arrow) ends_expr refl arrow.kind e) in
      record {
        targets = tree;
        middle = arrow ∷ (yield value ++ rest);
        list = node_text (exprs_in p context) (append tree (leaf arrow value)) tree (arrow ∷ (yield value ++ rest)) rest (regroup tree (leaf arrow value) rest) ∙ exprs_again context tree (arrow ∷ (yield value ++ rest)) (single_list context x) front (rw same refl) (omega (arith, le, split, all, whole));
        others = rw (same, single, read) refl;
        no_range = rw same refl;
      }

  step_read : (context : Context) (tree : Forest) (step : Token) (rest : List Token) → Fits grammar (sorts.Expr context) tree (step ∷ rest) → is_step step.kind ≡ true
      → length (yield (node forms.StepForm (append tree (leaf step empty)) empty)) < depth
      → SimpleRead context (node forms.StepForm (append tree (leaf step empty)) empty) (yield (node forms.StepForm (append tree (leaf step empty)) empty) ++ rest) rest
  step_read context tree step rest x e le =
      let k = step_kind step.kind e in
      let a = k.assign in
      let d = k.define in
      let w = k.arrow in
      let split = ap length (yield-append tree (leaf step empty)) in
      let all = length-append (yield tree) (step ∷ []) in
      let whole = ap length (append-nil (yield (append tree (leaf step empty)))) in
      let single = single_expr context x in
      let front : Ends (place_of context) (step ∷ rest) = ends_first (place_of context) step _ (implied is_step ends_expr refl step.kind e) in
      let no_comma : is step.kind kinds.Comma ≡ false = flip (is step.kind kinds.Comma) (implied is_step (λ kind. not (is kind kinds.Comma)) refl step.kind e) in
      record {
        targets = tree;
        middle = step ∷ rest;
        list = node_text (exprs_in p context) (append tree (leaf step empty)) tree (step ∷ rest) rest (regroup tree (leaf step empty) rest) ∙ exprs_again context tree (step ∷ rest) (single_list context x) front no_comma (omega (arith, le, split, all, whole));
        others = rw (a, d, single, w, e) refl;
        no_range = no_range (step ∷ rest) a d;
      }

  assign_read : (context : Context) (tree : Forest) (operator : Token) (values : Forest) (rest : List Token) → Fits grammar (sorts.exprs context) tree (operator ∷ (yield values ++ rest)) → is_assign operator.kind ≡ true → Fits grammar (sorts.exprs context) values rest → EndsSimple context rest
      → length (yield (node forms.AssignForm (append tree (leaf operator values)) empty)) < depth
      → SimpleRead context (node forms.AssignForm (append tree (leaf operator values)) empty) (yield (node forms.AssignForm (append tree (leaf operator values)) empty) ++ rest) rest
  assign_read context tree operator values rest x e v h le =
      let split = ap length (yield-append tree (leaf operator values)) in
      let all = length-append (yield tree) (operator ∷ yield values) in
      let whole = ap length (append-nil (yield (append tree (leaf operator values)))) in
      let read = exprs_again context values rest v h.ends h.comma (omega (arith, le, split, all, whole)) in
      let front : Ends (place_of context) (operator ∷ (yield values ++ rest)) = ends_first (place_of context) operator _ (implied is_assign ends_expr refl operator.kind e) in
      let no_comma : is operator.kind kinds.Comma ≡ false = flip (is operator.kind kinds.Comma) (implied is_assign (λ kind. not (is kind kinds.Comma)) refl operator.kind e) in
      record {
        targets = tree;
        middle = operator ∷ (yield values ++ rest);
        list = node_text (exprs_in p context) (append tree (leaf operator values)) tree (operator ∷ (yield values ++ rest)) rest (regroup tree (leaf operator values) rest) ∙ exprs_again context tree (operator ∷ (yield values ++ rest)) x front no_comma (omega (arith, le, split, all, whole));
        others = rw (e, read) refl;
        no_range = and_false (is_range_assign operator.kind) _ (list_no_range context v (filled_rest h.ends));
      }

  define_read : (context : Context) (tree : Forest) (operator : Token) (values : Forest) (rest : List Token) → Fits grammar (sorts.exprs context) tree (operator ∷ (yield values ++ rest)) → is operator.kind kinds.Define ≡ true → Fits grammar (sorts.exprs context) values rest → EndsSimple context rest
      → length (yield (node forms.DefineForm (append tree (leaf operator values)) empty)) < depth
      → SimpleRead context (node forms.DefineForm (append tree (leaf operator values)) empty) (yield (node forms.DefineForm (append tree (leaf operator values)) empty) ++ rest) rest
  define_read context tree operator values rest x e v h le =
      let same : operator.kind ≡ kinds.Define = is_same operator.kind kinds.Define e in
      let split = ap length (yield-append tree (leaf operator values)) in
      let all = length-append (yield tree) (operator ∷ yield values) in
      let whole = ap length (append-nil (yield (append tree (leaf operator values)))) in
      let read = exprs_again context values rest v h.ends h.comma (omega (arith, le, split, all, whole)) in
      let front : Ends (place_of context) (operator ∷ (yield values ++ rest)) = ends_first (place_of context) operator _ (implied (λ kind. is kind kinds.Define) ends_expr refl operator.kind e) in
      record {
        targets = tree;
        middle = operator ∷ (yield values ++ rest);
        list = node_text (exprs_in p context) (append tree (leaf operator values)) tree (operator ∷ (yield values ++ rest)) rest (regroup tree (leaf operator values) rest) ∙ exprs_again context tree (operator ∷ (yield values ++ rest)) x front (rw same refl) (omega (arith, le, split, all, whole));
        others = rw (same, read) refl;
        no_range = and_false (is_range_assign operator.kind) _ (list_no_range context v (filled_rest h.ends));
      }

  pub simple_read : (context : Context) (tree : Forest) (rest : List Token) → Fits grammar (shapes.Part (sorts.Simple context)) tree rest → EndsSimple context rest → length (yield tree) < depth → SimpleRead context tree (yield tree ++ rest) rest
  simple_read context tree rest x h le = go (unpart x) h le
    where
      go : {tree : Forest} {rest : List Token} → Fits grammar (grammar (sorts.Simple context)) tree rest → EndsSimple context rest → length (yield tree) < depth → SimpleRead context tree (yield tree ++ rest) rest
      go (shapes.first (shapes.first (shapes.below {trees = expr} {rest = rest} x))) h le = expr_read context expr rest x h le
      go (shapes.first (shapes.second (shapes.first (shapes.below {rest = rest} (shapes.both {left = tree} x (shapes.both {right = value} (shapes.sign {token = arrow} e) v)))))) h le = send_read context tree arrow value rest x e v h le
      go (shapes.first (shapes.second (shapes.second (shapes.first (shapes.below {rest = rest} (shapes.both {left = tree} x (shapes.sign {token = step} e))))))) h le = step_read context tree step rest x e le
      go (shapes.first (shapes.second (shapes.second (shapes.second (shapes.below {rest = rest} (shapes.both {left = tree} x (shapes.both {right = values} (shapes.sign {token = operator} e) v))))))) h le = assign_read context tree operator values rest x e v h le
      go (shapes.second (shapes.below {rest = rest} (shapes.both {left = tree} x (shapes.both {right = values} (shapes.sign {token = operator} e) v)))) h le = define_read context tree operator values rest x e v h le

  pub simple_again : (context : Context) (tree : Forest) (rest : List Token) → Fits grammar (shapes.Part (sorts.Simple context)) tree rest → EndsSimple context rest → length (yield tree) < depth → simple_in p context (yield tree ++ rest) ≡ Some (tree, rest)
  simple_again context tree rest x h le =
      let s = simple_read context tree rest x h le in
      let list = s.list in
      rw list s.others
