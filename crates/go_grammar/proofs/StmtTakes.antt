-- What is read of statements fits, and stands at the front.
use Rattle.std.proofs.Common.{◌≡◌, Bool, true, false, cond, List, [], ◌∷◌, ◌++◌, Some, None, refl, sym, ap, ◌∙◌, subst, arith}
use Rattle.std.proofs.lemmas.List.{append-nil}
use Rattle.std.specs.Prelude.{not, ◌&&◌, ◌||◌}
use Rattle.go_ast.specs.declared.token.Kind.{Kind}
use Rattle.go_ast.specs.declared.token.Kind.TheVariants as kinds
use Rattle.go_ast.specs.declared.token.Token.{Token}
use Rattle.go_grammar.specs.Forests.{Form, Forest, empty, leaf, node, append, yield}
use Rattle.go_grammar.specs.Forests as forms
use Rattle.go_grammar.specs.Shapes as shapes
use Rattle.go_grammar.specs.Shapes.{Shape, Fits, part, below, first, second, both, sign, nothing, done, more, is}
use Rattle.go_grammar.specs.Grammar as sorts
use Rattle.go_grammar.specs.Grammar.{Sort, Context, grammar, is_assign, is_step, is_semicolon}
use Rattle.go_grammar.specs.Reading.{run, is_next, sign_in, Sign}
use Rattle.go_grammar.specs.Tests.{begins, begins_semicolon, ◌⨟◌, word}
use Rattle.go_grammar.specs.TypeReading.{Header, Parsers, params_in}
use Rattle.go_grammar.specs.StmtReading.{at_part, expr, exprs, const_spec_plan, type_spec_plan, var_spec_plan, at_spec, decl_plan, decl_in, is_single, rest_of, simple_rest_in, exprs_in, simple_in, optional_simple_in, HeaderParts, header_in, expr_of, if_rest_in, is_primary, primary_of, bound_of, guard_by, guard_of, tag_of, is_comm, is_one_assigned, is_one_defined, behind_list}
use Rattle.go_grammar.proofs.Outcome.{Yields, yields_some, yields_none, yields_bind, yields_if}
use Rattle.go_grammar.proofs.Takes.{run_takes}
use Rattle.go_grammar.proofs.TypeTakes.{Had, Got, got_of, yields_part, Sound, plain_of, expr_takes, any_takes, signature_takes}
use Rattle.go_grammar.proofs.SameKinds.{is_same}
use Rattle.go_grammar.proofs.Pieces.{word_takes, then_had, node_had, first_had, second_had, none_had, had_as}
use Rattle.go_grammar.proofs.ExprTakes.{item_takes, block_takes}
use Rattle.go_grammar.proofs.Nodes.{expr_node, single_fits, primary_fits, listed_primary, name_token, behind_exprs, not_primary}

some_is : {A : Type 0} (x y : A) → Some x ≡ Some y → x ≡ y
some_is x y e = cc

pub sign_takes : (test : Kind → Bool) (tokens : List Token) → Yields (sign_in test tokens) (Had (shapes.Sign test) tokens)
sign_takes test [] = yields_none
sign_takes test (token ∷ rest) = yields_if (test token.kind) (λ t. yields_some (record { text = refl; fine = sign t })) (λ t. yields_none)

-- ---- the expression that is a statement

expr_of_is : (tree expr : Forest) → expr_of tree ≡ Some expr → tree ≡ node forms.ExprForm expr empty
expr_of_is empty expr e = absurd cc
expr_of_is (leaf token behind) expr e = absurd cc
expr_of_is (node form inner behind) expr e = go form behind e
  where
    go : (form : Form) (behind : Forest) → expr_of (node form inner behind) ≡ Some expr → node form inner behind ≡ node forms.ExprForm expr empty
    go forms.ExprForm empty e = ap (λ (t : Forest). node forms.ExprForm t empty) (some_is inner expr e)
    go forms.ExprForm (leaf token behind) e = absurd cc
    go forms.ExprForm (node f i b) e = absurd cc
    go _ behind e = absurd cc

simple_expr : (context : Context) {expr : Forest} {rest : List Token} → Fits grammar (shapes.Part (sorts.Simple context)) (node forms.ExprForm expr empty) rest → Fits grammar (sorts.Expr context) expr rest
simple_expr context (part (first (first (below x)))) = x
simple_expr context (part (first (second (first x)))) = elim x [ ]
simple_expr context (part (first (second (second (first x))))) = elim x [ ]
simple_expr context (part (first (second (second (second x))))) = elim x [ ]
simple_expr context (part (second x)) = elim x [ ]

maybe_expr : {expr : Forest} {rest : List Token} → Fits grammar (shapes.maybe (shapes.Part (sorts.Simple sorts.Header))) (node forms.ExprForm expr empty) rest → Fits grammar (sorts.Expr sorts.Header) expr rest
maybe_expr (first x) = simple_expr sorts.Header x
maybe_expr (second x) = elim x [ ]

-- what was read as a statement was an expression
pub expr_had : (tree expr : Forest) (tokens rest : List Token) → Had (shapes.maybe (shapes.Part (sorts.Simple sorts.Header))) tokens (tree, rest) → expr_of tree ≡ Some expr → Had (sorts.Expr sorts.Header) tokens (expr, rest)
expr_had tree expr tokens rest h e =
    let h' : Had (shapes.maybe (shapes.Part (sorts.Simple sorts.Header))) tokens (node forms.ExprForm expr empty, rest) = had_as (expr_of_is tree expr e) h in
    record { text = h'.text ∙ ap (λ (front : List Token). front ++ rest) (append-nil (yield expr)); fine = maybe_expr h'.fine }

pub tag_had : (tree tag : Forest) (tokens rest : List Token) → Had (shapes.maybe (shapes.Part (sorts.Simple sorts.Header))) tokens (tree, rest) → tag_of tree ≡ Some tag → Had (shapes.maybe (sorts.Expr sorts.Header)) tokens (tag, rest)
tag_had empty tag tokens rest h e = subst (λ (t : Forest). Had (shapes.maybe (sorts.Expr sorts.Header)) tokens (t, rest)) (some_is empty tag e) (record { text = h.text; fine = second nothing })
tag_had (leaf token behind) tag tokens rest h e = absurd cc
tag_had (node form inner behind) tag tokens rest h e = first_had (expr_had (node form inner behind) tag tokens rest h e)

-- what stands in a header, and what stands between
pub record GotHeader (tokens : List Token) (x : HeaderParts × List Token) : Type 0 where
  pub middle : List Token
  pub init : Had sorts.init tokens (x.0.init, middle)
  pub last : Had (shapes.maybe (shapes.Part (sorts.Simple sorts.Header))) middle (x.0.last, x.1)

module _ (p : Parsers) (s : Sound p) (params_takes : (tokens : List Token) → Yields (params_in p true tokens) (Got sorts.Params tokens)) (results_takes : (tokens : List Token) → Yields (params_in p false tokens) (Got sorts.Results tokens)) where
  header_expr_takes : (tokens : List Token) → Yields (p.expr Header 1 tokens) (Got (sorts.Binary sorts.Disjunction sorts.Header) tokens)
  header_expr_takes tokens = record { given = λ x e. (plain_of Header 1 tokens x refl ((s.expr Header 1 tokens (omega arith) (omega arith)).given x e)).0 }

  pub at_part_takes : (sort : Sort) (tokens : List Token) → Yields (at_part p sort tokens) (Got sort tokens)
  at_part_takes (sorts.Binary sorts.Disjunction sorts.Plain) tokens = expr_takes p s params_takes results_takes tokens
  at_part_takes (sorts.Binary sorts.Disjunction sorts.Header) tokens = header_expr_takes tokens
  at_part_takes sorts.Item tokens = item_takes p s tokens
  at_part_takes sorts.AnyType tokens = any_takes p s params_takes results_takes tokens
  at_part_takes sorts.Signature tokens = signature_takes p s params_takes results_takes tokens
  at_part_takes sorts.Block tokens = block_takes p s params_takes results_takes tokens
  at_part_takes sorts.Lines tokens = s.statements tokens
  at_part_takes _ tokens = yields_none

  -- ---- declarations

  at_spec_takes : (sort : Sort) (tokens : List Token) → Yields (at_spec p sort tokens) (Got sort tokens)
  at_spec_takes sorts.ConstSpec tokens = yields_part sorts.ConstSpec tokens _ (run_takes grammar (at_part p) at_part_takes const_spec_plan tokens)
  at_spec_takes sorts.TypeSpec tokens = yields_part sorts.TypeSpec tokens _ (run_takes grammar (at_part p) at_part_takes type_spec_plan tokens)
  at_spec_takes sorts.VarSpec tokens = yields_part sorts.VarSpec tokens _ (run_takes grammar (at_part p) at_part_takes var_spec_plan tokens)
  at_spec_takes _ tokens = yields_none

  pub decl_takes : (tokens : List Token) → Yields (decl_in p tokens) (Got sorts.LocalDecl tokens)
  decl_takes tokens = yields_part sorts.LocalDecl tokens _ (run_takes grammar (at_spec p) at_spec_takes decl_plan tokens)

  -- ---- simple statements

  pub exprs_takes : (context : Context) (tokens : List Token) → Yields (exprs_in p context tokens) (Had (sorts.exprs context) tokens)
  exprs_takes context tokens = run_takes grammar (at_part p) at_part_takes (exprs context) tokens

  pub simple_rest_takes : (context : Context) (tokens : List Token) (targets : Forest × List Token) → Had (sorts.exprs context) tokens targets → Yields (simple_rest_in p context targets.0 targets.1) (Got (sorts.Simple context) tokens)
  simple_rest_takes context tokens targets g =
      yields_if (is_next is_assign targets.1)
      (λ t. yields_bind (run_takes grammar (at_part p) at_part_takes (Sign is_assign ⨟ exprs context) targets.1) (λ x h.
      yields_some (got_of (sorts.Simple context) tokens _ (first_had (second_had (second_had (second_had (node_had forms.AssignForm (then_had g h)))))))))
      (λ f. yields_if (begins kinds.Define targets.1)
      (λ t. yields_bind (run_takes grammar (at_part p) at_part_takes (word kinds.Define ⨟ exprs context) targets.1) (λ x h.
      yields_some (got_of (sorts.Simple context) tokens _ (second_had (node_had forms.DefineForm (then_had g h))))))
      (λ f. single (is_single targets.0) refl))
    where
      after_one : Had (sorts.Expr context) tokens targets
          → Yields (cond (begins kinds.Arrow targets.1) (rest_of forms.SendForm targets.0 (run (at_part p) (word kinds.Arrow ⨟ expr context)) targets.1)
          (cond (is_next is_step targets.1) (rest_of forms.StepForm targets.0 (sign_in is_step) targets.1) (Some (node forms.ExprForm targets.0 empty, targets.1)))) (Got (sorts.Simple context) tokens)
      after_one g =
          yields_if (begins kinds.Arrow targets.1)
          (λ t. yields_bind (run_takes grammar (at_part p) at_part_takes (word kinds.Arrow ⨟ expr context) targets.1) (λ x h.
          yields_some (got_of (sorts.Simple context) tokens _ (first_had (second_had (first_had (node_had forms.SendForm (then_had g h))))))))
          (λ f. yields_if (is_next is_step targets.1)
          (λ t. yields_bind (sign_takes is_step targets.1) (λ x h.
          yields_some (got_of (sorts.Simple context) tokens _ (first_had (second_had (second_had (first_had (node_had forms.StepForm (then_had g h)))))))))
          (λ f. yields_some (got_of (sorts.Simple context) tokens _ (first_had (first_had (node_had forms.ExprForm g))))))

      single : (b : Bool) → is_single targets.0 ≡ b
          → Yields (cond (not b) None (cond (begins kinds.Arrow targets.1) (rest_of forms.SendForm targets.0 (run (at_part p) (word kinds.Arrow ⨟ expr context)) targets.1)
          (cond (is_next is_step targets.1) (rest_of forms.StepForm targets.0 (sign_in is_step) targets.1) (Some (node forms.ExprForm targets.0 empty, targets.1))))) (Got (sorts.Simple context) tokens)
      single false e = yields_none
      single true e = after_one (record { text = g.text; fine = single_fits context g.fine e })

  pub simple_takes : (context : Context) (tokens : List Token) → Yields (simple_in p context tokens) (Got (sorts.Simple context) tokens)
  simple_takes context tokens = yields_bind (exprs_takes context tokens) (λ targets g. simple_rest_takes context tokens targets g)

  pub optional_simple_takes : (tokens : List Token) → Yields (optional_simple_in p tokens) (Had (shapes.maybe (shapes.Part (sorts.Simple sorts.Header))) tokens)
  optional_simple_takes tokens =
      yields_if (begins_semicolon tokens || begins kinds.OpenBrace tokens)
      (λ t. yields_some (second_had none_had))
      (λ f. record { given = λ x e. first_had ((simple_takes sorts.Header tokens).given x e) })

  -- ---- headers

  pub header_takes : (tokens : List Token) → Yields (header_in p tokens) (GotHeader tokens)
  header_takes tokens =
      yields_bind (optional_simple_takes tokens) (λ x g.
      yields_if (begins_semicolon x.1)
      (λ t. yields_bind (sign_takes is_semicolon x.1) (λ ended e.
      yields_bind (optional_simple_takes ended.1) (λ y h.
      yields_some (record { middle = ended.1; init = first_had (then_had g e); last = h }))))
      (λ f. yields_some (record { middle = tokens; init = second_had none_had; last = g })))

  pub if_rest_takes : (tokens : List Token) → Yields (if_rest_in p tokens) (Got sorts.IfRest tokens)
  if_rest_takes tokens =
      yields_bind (word_takes kinds.IfWord tokens) (λ opened o.
      yields_bind (header_takes opened.1) (λ parts g.
      yields_bind {P = λ condition. expr_of parts.0.last ≡ Some condition} (record { given = λ condition e. e }) (λ condition e.
      yields_bind (block_takes p s params_takes results_takes parts.1) (λ body b.
      yields_some (got_of sorts.IfRest tokens _ (then_had o (then_had g.init (then_had (expr_had parts.0.last condition g.middle parts.1 g.last e) b))))))))

-- ---- guards

-- the name that is bound and the operand of a guard
pub record GotGuard (tokens : List Token) (guard : Forest) (rest : List Token) : Type 0 where
  pub middle : List Token
  pub name : Forest
  pub operand : Forest
  pub named : Had (shapes.maybe (shapes.Then (shapes.word kinds.Name) (shapes.word kinds.Define))) tokens (name, middle)
  pub primary : Had (shapes.Part (sorts.Primary sorts.Header)) middle (operand, rest)
  pub all : append name operand ≡ guard

simple_define : {inner : Forest} {rest : List Token} → Fits grammar (shapes.maybe (shapes.Part (sorts.Simple sorts.Header))) (node forms.DefineForm inner empty) rest
    → Fits grammar (shapes.Then (sorts.exprs sorts.Header) (shapes.Then (shapes.word kinds.Define) (sorts.exprs sorts.Header))) inner rest
simple_define (first (part (second (below x)))) = x
simple_define (first (part (first (first x)))) = elim x [ ]
simple_define (first (part (first (second (first x))))) = elim x [ ]
simple_define (first (part (first (second (second (first x)))))) = elim x [ ]
simple_define (first (part (first (second (second (second x)))))) = elim x [ ]
simple_define (second x) = elim x [ ]

primary_guard : (tree guard : Forest) (tokens rest : List Token) → Had (sorts.Expr sorts.Header) tokens (tree, rest) → primary_of tree ≡ Some guard → GotGuard tokens guard rest
primary_guard tree guard tokens rest h e = go (is_primary tree) refl e
  where
    go : (b : Bool) → is_primary tree ≡ b → cond b (Some tree) None ≡ Some guard → GotGuard tokens guard rest
    go false p e = absurd cc
    go true p e = record { middle = tokens; name = empty; operand = tree; named = second_had none_had; primary = record { text = h.text; fine = primary_fits sorts.Header h.fine p }; all = some_is tree guard e }

bound_guard : {inner : Forest} {rest : List Token} → Fits grammar (shapes.Then (sorts.exprs sorts.Header) (shapes.Then (shapes.word kinds.Define) (sorts.exprs sorts.Header))) inner rest → (guard : Forest) → bound_of inner ≡ Some guard → (tokens : List Token) → tokens ≡ yield inner ++ rest → GotGuard tokens guard rest
bound_guard {rest = rest} (both (both {left = target} x done) (both {right = values} (sign {token = define} e) v)) guard b tokens text =
    let n = expr_node sorts.Header x in
    go n.form n.inner (subst (λ (t : Forest). Fits grammar (sorts.Expr sorts.Header) t (define ∷ (yield values ++ rest))) n.all x)
    (subst (λ (t : Forest). bound_of (append (append t empty) (leaf define values)) ≡ Some guard) n.all b)
    (subst (λ (t : Forest). tokens ≡ yield (append (append t empty) (leaf define values)) ++ rest) n.all text)
  where
    bound : (name : Token) → is name.kind kinds.Name ≡ true → (c : Bool) → is_primary values ≡ c → cond c (Some (leaf name (leaf define values))) None ≡ Some guard → tokens ≡ name ∷ define ∷ (yield values ++ rest) → GotGuard tokens guard rest
    bound name i false p b text = absurd cc
    bound name i true p b text = record {
      middle = yield values ++ rest;
      name = leaf name (leaf define empty);
      operand = values;
      named = record { text = text; fine = first (both (sign i) (sign e)) };
      primary = record { text = refl; fine = listed_primary sorts.Header v p };
      all = some_is (leaf name (leaf define values)) guard b;
    }

    go : (form : Form) (inner : Forest) → Fits grammar (sorts.Expr sorts.Header) (node form inner empty) (define ∷ (yield values ++ rest)) → bound_of (node form inner (leaf define values)) ≡ Some guard → tokens ≡ yield (node form inner (leaf define values)) ++ rest → GotGuard tokens guard rest
    go forms.NameForm (leaf name empty) x b text = bound name (name_token name x) (is_primary values) refl b text
    go forms.NameForm (leaf name (leaf t i)) x b text = absurd cc
    go forms.NameForm (leaf name (node f t i)) x b text = absurd cc
    go forms.NameForm empty x b text = absurd cc
    go forms.NameForm (node f t i) x b text = absurd cc
    go _ inner x b text = absurd cc
bound_guard {rest = rest} (both (both {left = target} x (more {right = others} (both {right = other} (sign {token = comma} c) y) z)) (both {right = values} (sign {token = define} e) v)) guard b tokens text =
    let n = expr_node sorts.Header x in
    absurd (go n.form n.inner (subst (λ (t : Forest). bound_of (append (append t (leaf comma (append other others))) (leaf define values)) ≡ Some guard) n.all b))
  where
    by : (inner : Forest) → bound_of (node forms.NameForm inner (leaf comma (append (append other others) (leaf define values)))) ≡ Some guard → ⊥
    by empty b = absurd cc
    by (node f t i) b = absurd cc
    by (leaf name (leaf t i)) b = absurd cc
    by (leaf name (node f t i)) b = absurd cc
    by (leaf name empty) b = named (is_primary (append (append other others) (leaf define values))) refl b
      where
        named : (d : Bool) → is_primary (append (append other others) (leaf define values)) ≡ d → cond d (Some (leaf name (leaf comma (append (append other others) (leaf define values))))) None ≡ Some guard → ⊥
        named false p b = absurd cc
        named true p b = not_primary (append other others) define values p

    go : (form : Form) (inner : Forest) → bound_of (node form inner (leaf comma (append (append other others) (leaf define values)))) ≡ Some guard → ⊥
    go forms.NameForm inner b = by inner b
    go _ inner b = absurd cc

pub guard_had : (tree guard : Forest) (tokens rest : List Token) → Had (shapes.maybe (shapes.Part (sorts.Simple sorts.Header))) tokens (tree, rest) → guard_of tree ≡ Some guard → GotGuard tokens guard rest
guard_had empty guard tokens rest h e = absurd cc
guard_had (leaf token behind) guard tokens rest h e = absurd cc
guard_had (node form inner (leaf token behind)) guard tokens rest h e = absurd cc
guard_had (node form inner (node f i b)) guard tokens rest h e = absurd cc
guard_had (node form inner empty) guard tokens rest h e = go form h e
  where
    go : (form : Form) → Had (shapes.maybe (shapes.Part (sorts.Simple sorts.Header))) tokens (node form inner empty, rest) → guard_by form inner ≡ Some guard → GotGuard tokens guard rest
    go forms.ExprForm h e = primary_guard inner guard tokens rest (expr_had (node forms.ExprForm inner empty) inner tokens rest h refl) e
    go forms.DefineForm h e = bound_guard (simple_define h.fine) guard e tokens (h.text ∙ ap (λ (front : List Token). front ++ rest) (append-nil (yield inner)))
    go _ h e = absurd cc

-- ---- what may stand behind `case` in a `select`

no_comma : (kind : Kind) → is_assign kind ≡ true → is kind kinds.Comma ≡ false
no_comma kinds.Comma h = absurd cc
no_comma _ h = refl

both_true : (a b : Bool) → (a && b) ≡ true → (a ≡ true) × (b ≡ true)
both_true true true h = (refl, refl)
both_true true false h = absurd cc
both_true false b h = absurd cc

pub comm_fits : {tree : Forest} {rest : List Token} → Fits grammar (shapes.Part (sorts.Simple sorts.Plain)) tree rest → is_comm tree ≡ true → Fits grammar (shapes.Part sorts.Comm) tree rest
comm_fits (part (first (first (below x)))) h = part (second (second (second (below x))))
comm_fits (part (first (second (first (below x))))) h = part (first (below x))
comm_fits (part (first (second (second (first (below x)))))) h = absurd cc
comm_fits (part (first (second (second (second (below (both {left = targets} t (both {right = values} (sign {token = operator} e) v)))))))) h =
    let one = behind_exprs sorts.Plain t (leaf operator values) in
    let found : behind_list (append targets (leaf operator values)) ≡ Some (operator, values) = one ∙ rw (no_comma operator.kind e) refl in
    let k : is_one_assigned (Some (operator, values)) ≡ true = ap is_one_assigned (sym found) ∙ h in
    let b = both_true (is operator.kind kinds.Assign) (is_single values) k in
    part (second (first (below (both t (both (sign b.0) (single_fits sorts.Plain v b.1))))))
comm_fits (part (second (below (both {left = targets} t (both {right = values} (sign {token = operator} e) v))))) h =
    let one = behind_exprs sorts.Plain t (leaf operator values) in
    let same : operator.kind ≡ kinds.Define = is_same operator.kind kinds.Define e in
    let other : is operator.kind kinds.Comma ≡ false = rw same refl in
    let found : behind_list (append targets (leaf operator values)) ≡ Some (operator, values) = one ∙ rw other refl in
    let k : is_single values ≡ true = ap is_one_defined (sym found) ∙ h in
    part (second (second (first (below (both t (both (sign e) (single_fits sorts.Plain v k)))))))
