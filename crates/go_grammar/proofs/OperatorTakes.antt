-- What is read with operators fits.
use Rattle.std.proofs.Common.{◌≡◌, ℕ, zero, suc, ◌≤◌, ◌<◌, ◌+◌, Bool, true, false, cond, List, [], ◌∷◌, ◌++◌, length, Option, Some, None, refl, sym, ap, ◌∙◌, subst, append_assoc, arith}
use Rattle.std.proofs.lemmas.List.{append-nil, length-append}
use Rattle.std.proofs.Common.{ltb, leb}
use Rattle.std.proofs.lemmas.Bool.{ltb-true, ltb-false, leb-true, leb-false}
use Rattle.std.specs.Prelude.{◌&&◌, ◌==◌}
use Rattle.go_ast.specs.declared.token.Kind.{Kind}
use Rattle.go_ast.specs.declared.token.Kind.TheVariants as kinds
use Rattle.go_ast.specs.declared.token.Token.{Token}
use Rattle.go_grammar.specs.Forests.{Form, Forest, empty, leaf, node, append, yield}
use Rattle.go_grammar.specs.Forests as forms
use Rattle.go_grammar.specs.Shapes as shapes
use Rattle.go_grammar.specs.Shapes.{Shape, Fits, part, below, first, second, both, sign, is}
use Rattle.go_grammar.specs.Grammar as sorts
use Rattle.go_grammar.specs.Grammar.{Sort, Context, Level, grammar, precedence, number, tighter, is_sign}
use Rattle.go_grammar.specs.Reading.{◌>>=◌}
use Rattle.go_grammar.specs.Tests.{begins}
use Rattle.go_grammar.specs.TypeReading.{Place, Plain, Header, Item, Parsers, params_in}
use Rattle.go_grammar.specs.ExprReading.{context_of, of_operand, is_item, is_type_only, only_by, unary_of, starred, begins_sign_by, unary_by, unary_in, primary_in, operator_at, binary_by, binary_turn, binary_in, value_in}
use Rattle.go_grammar.proofs.Outcome.{Yields, yields_some, yields_none, yields_bind, yields_if, yields_repeat, AfterTurn}
use Rattle.go_grammar.proofs.TypeTakes.{Got, got_of, Sound, GotExpr, type_operand, level_sort, tight, plain_of}
use Rattle.go_grammar.proofs.Forests.{yield-append}
use Rattle.go_grammar.proofs.SameKinds.{true_not_false}
use Rattle.go_grammar.proofs.Pieces.{node_had, first_had, second_had}
use Rattle.go_grammar.proofs.ExprTakes.{braces_takes}
use Rattle.go_grammar.proofs.SuffixTakes.{primary_takes}

-- ---- levels

abbrev pub FitsLevel : Context → ℕ → Forest → List Token → Type 0
FitsLevel context n = Fits grammar (shapes.Part (level_sort context n))

looser : (context : Context) (n : ℕ) {tree : Forest} {rest : List Token} → FitsLevel context (suc n) tree rest → FitsLevel context n tree rest
looser context zero x = x
looser context (suc zero) x = part (second x)
looser context (suc (suc zero)) x = part (second x)
looser context (suc (suc (suc zero))) x = part (second x)
looser context (suc (suc (suc (suc zero)))) x = part (second x)
looser context (suc (suc (suc (suc (suc zero))))) x = part (second x)
looser context (suc (suc (suc (suc (suc (suc n)))))) x = x

-- what binds more tightly binds tightly enough
pub loose : (context : Context) (m n : ℕ) → m ≤ n → {tree : Forest} {rest : List Token} → FitsLevel context n tree rest → FitsLevel context m tree rest
loose context m zero le {tree} {rest} x = let e : zero ≡ m = omega arith in subst (λ (k : ℕ). FitsLevel context k tree rest) e x
loose context m (suc n) le {tree} {rest} x = by_last (leb m n) refl (λ h. loose context m n h (looser context n x))
  where
    by_last : (b : Bool) → leb m n ≡ b → (m ≤ n → FitsLevel context m tree rest) → FitsLevel context m tree rest
    by_last true h go = go (leb-true m n h)
    by_last false h go = let e : suc n ≡ m = omega (arith, leb-false m n h) in subst (λ (k : ℕ). FitsLevel context k tree rest) e x

record LevelOf (n : ℕ) : Type 0 where
  level : Level
  is_it : number level ≡ n

level_of : (n : ℕ) → 1 ≤ n → n ≤ 5 → LevelOf n
level_of zero h k = absurd (omega arith)
level_of (suc zero) h k = record { level = sorts.Disjunction; is_it = refl }
level_of (suc (suc zero)) h k = record { level = sorts.Conjunction; is_it = refl }
level_of (suc (suc (suc zero))) h k = record { level = sorts.Comparison; is_it = refl }
level_of (suc (suc (suc (suc zero)))) h k = record { level = sorts.Addition; is_it = refl }
level_of (suc (suc (suc (suc (suc zero))))) h k = record { level = sorts.Multiplication; is_it = refl }
level_of (suc (suc (suc (suc (suc (suc n)))))) h k = absurd (omega arith)

at_level : (level : Level) (context : Context) → level_sort context (number level) ≡ sorts.Binary level context
at_level sorts.Disjunction context = refl
at_level sorts.Conjunction context = refl
at_level sorts.Comparison context = refl
at_level sorts.Addition context = refl
at_level sorts.Multiplication context = refl

pub above_level : (level : Level) (context : Context) → level_sort context (number level + 1) ≡ tighter level context
above_level sorts.Disjunction context = refl
above_level sorts.Conjunction context = refl
above_level sorts.Comparison context = refl
above_level sorts.Addition context = refl
above_level sorts.Multiplication context = refl

same_number : (level : Level) → (number level == number level) ≡ true
same_number sorts.Disjunction = refl
same_number sorts.Conjunction = refl
same_number sorts.Comparison = refl
same_number sorts.Addition = refl
same_number sorts.Multiplication = refl

pub precedence_small : (kind : Kind) → precedence kind ≤ 5
precedence_small kinds.OrOr = omega arith
precedence_small kinds.AndAnd = omega arith
precedence_small kinds.Equal = omega arith
precedence_small kinds.NotEqual = omega arith
precedence_small kinds.Less = omega arith
precedence_small kinds.LessEqual = omega arith
precedence_small kinds.Greater = omega arith
precedence_small kinds.GreaterEqual = omega arith
precedence_small kinds.Plus = omega arith
precedence_small kinds.Minus = omega arith
precedence_small kinds.Pipe = omega arith
precedence_small kinds.Caret = omega arith
precedence_small kinds.Star = omega arith
precedence_small kinds.Slash = omega arith
precedence_small kinds.Percent = omega arith
precedence_small kinds.ShiftLeft = omega arith
precedence_small kinds.ShiftRight = omega arith
precedence_small kinds.Ampersand = omega arith
precedence_small kinds.AndNot = omega arith
precedence_small _ = omega arith

-- an operator between what binds as tightly as it does and what binds more tightly
pub operation : (context : Context) (operator : Token) (left right : Forest) (rest : List Token) → 1 ≤ precedence operator.kind → FitsLevel context (precedence operator.kind) left (operator ∷ (yield right ++ rest))
    → FitsLevel context (precedence operator.kind + 1) right rest → FitsLevel context (precedence operator.kind) (node forms.BinaryForm (append left (leaf operator right)) empty) rest
operation context operator left right rest h x y =
    let l = level_of (precedence operator.kind) h (precedence_small operator.kind) in
    let e : precedence operator.kind ≡ number l.level = sym l.is_it in
    let at : level_sort context (precedence operator.kind) ≡ sorts.Binary l.level context = ap (level_sort context) e ∙ at_level l.level context in
    let over : level_sort context (precedence operator.kind + 1) ≡ tighter l.level context = ap (λ (n : ℕ). level_sort context (n + 1)) e ∙ above_level l.level context in
    let x' = subst (λ (sort : Sort). Fits grammar (shapes.Part sort) left (operator ∷ (yield right ++ rest))) at x in
    let y' = subst (λ (sort : Sort). Fits grammar (shapes.Part sort) right rest) over y in
    let signed : (precedence operator.kind == number l.level) ≡ true = ap (λ (n : ℕ). n == number l.level) e ∙ same_number l.level in
    subst (λ (sort : Sort). Fits grammar (shapes.Part sort) (node forms.BinaryForm (append left (leaf operator right)) empty) rest) (sym at) (part (first (below (both x' (both (sign signed) y')))))

-- ---- signs

pub record GotUnary (place : Place) (tokens : List Token) (x : Forest × List Token) : Type 0 where
  pub text : tokens ≡ yield x.0 ++ x.1
  pub plain : is_type_only x.0 ≡ false → FitsLevel (context_of place) 6 x.0 x.1
  pub only : is_type_only x.0 ≡ true → (is_item place ≡ true) × Fits grammar type_operand x.0 x.1

signed_takes : (place : Place) (token : Token) (rest : List Token) (x : Forest × List Token) → is_sign token.kind ≡ true → rest ≡ yield x.0 ++ x.1 → FitsLevel (context_of place) 6 x.0 x.1 → GotUnary place (token ∷ rest) (unary_of token x.0, x.1)
signed_takes place token rest x e text fine = record {
  text = ap (λ (ws : List Token). token ∷ ws) (text ∙ ap (λ (front : List Token). front ++ x.1) (sym (append-nil (yield x.0))));
  plain = λ o. part (first (below (both (sign e) fine)));
  only = λ o. absurd cc;
}

-- a type that is no expression, behind `*`
pointer_fits : (token : Token) (form : Form) (base behind : Forest) (rest : List Token) → is token.kind kinds.Star ≡ true → Fits grammar type_operand (node form base behind) rest
    → Fits grammar type_operand (node forms.TypeOperandForm (node forms.PointerForm (leaf token base) empty) empty) rest × (yield (node form base behind) ≡ yield base)
pointer_fits token form base behind rest e (below x) = (below (part (first (below (both (sign e) x)))), append-nil (yield base))

starred_takes : (place : Place) (token : Token) (rest : List Token) (x : Forest × List Token) → is token.kind kinds.Star ≡ true → is_sign token.kind ≡ true → rest ≡ yield x.0 ++ x.1
    → (is_type_only x.0 ≡ false → FitsLevel (context_of place) 6 x.0 x.1) → (is_type_only x.0 ≡ true → (is_item place ≡ true) × Fits grammar type_operand x.0 x.1) → GotUnary place (token ∷ rest) (starred token x.0, x.1)
starred_takes place token rest x e e' text plain only = go x.0 text plain only
  where
    by : (form : Form) (base behind : Forest) → rest ≡ yield (node form base behind) ++ x.1 → (is_type_only (node form base behind) ≡ false → FitsLevel (context_of place) 6 (node form base behind) x.1)
        → (is_type_only (node form base behind) ≡ true → (is_item place ≡ true) × Fits grammar type_operand (node form base behind) x.1)
        → (b : Bool) → only_by form base ≡ b
        → GotUnary place (token ∷ rest) (cond b (node forms.TypeOperandForm (node forms.PointerForm (leaf token base) empty) empty) (unary_of token (node form base behind)), x.1)
    by form base behind text plain only false o = signed_takes place token rest (node form base behind, x.1) e' text (plain o)
    by form base behind text plain only true o =
        let k = only o in
        let f = pointer_fits token form base behind x.1 e k.1 in
        record {
          text = ap (λ (ws : List Token). token ∷ ws) (text ∙ ap (λ (front : List Token). front ++ x.1) (f.1 ∙ sym (append-nil (yield base)) ∙ sym (append-nil (yield base ++ []))));
          plain = λ o. absurd cc;
          only = λ o. (k.0, f.0);
        }

    go : (tree : Forest) → rest ≡ yield tree ++ x.1 → (is_type_only tree ≡ false → FitsLevel (context_of place) 6 tree x.1) → (is_type_only tree ≡ true → (is_item place ≡ true) × Fits grammar type_operand tree x.1) → GotUnary place (token ∷ rest) (starred token tree, x.1)
    go empty text plain only = signed_takes place token rest (empty, x.1) e' text (plain refl)
    go (leaf t behind) text plain only = signed_takes place token rest (leaf t behind, x.1) e' text (plain refl)
    go (node form base behind) text plain only = by form base behind text plain only (only_by form base) refl

-- ---- operators

-- which operator stands at the front
abbrev pub OperatorSays : ℕ → List Token → Option (Token × List Token) → Type 0
OperatorSays min tokens None = tight tokens < min
OperatorSays min tokens (Some operator) = (tokens ≡ operator.0 ∷ operator.1) × (1 ≤ precedence operator.0.kind) × (min ≤ precedence operator.0.kind)

pub operator_says : (min : ℕ) (tokens : List Token) → 1 ≤ min → OperatorSays min tokens (operator_at min tokens)
operator_says min [] h = omega arith
operator_says min (token ∷ rest) h = go (ltb 0 (precedence token.kind)) (leb min (precedence token.kind)) refl refl
  where
    go : (a b : Bool) → ltb 0 (precedence token.kind) ≡ a → leb min (precedence token.kind) ≡ b → OperatorSays min (token ∷ rest) (cond (a && b) (Some (token, rest)) None)
    go true true e f = (refl, ltb-true 0 (precedence token.kind) e, leb-true min (precedence token.kind) f)
    go true false e f = leb-false min (precedence token.kind) f
    go false b e f = omega (arith, ltb-false 0 (precedence token.kind) e)

-- what a loop over operators keeps
record Keeps (place : Place) (min : ℕ) (tokens : List Token) (n : ℕ) (x : Forest × List Token) : Type 0 where
  text : tokens ≡ yield x.0 ++ x.1
  plain : is_type_only x.0 ≡ false
  high : ℕ
  fits : FitsLevel (context_of place) high x.0 x.1
  enough : min ≤ high
  next : tight x.1 ≤ high
  room : length x.1 ≤ n

pub tight_small : (tokens : List Token) → tight tokens ≤ 5
tight_small [] = omega arith
tight_small (token ∷ rest) = precedence_small token.kind

operand_place : (place : Place) → context_of (of_operand place) ≡ context_of place
operand_place Plain = refl
operand_place Header = refl
operand_place Item = refl

operand_item : (place : Place) → is_item (of_operand place) ≡ false
operand_item Plain = refl
operand_item Header = refl
operand_item Item = refl

module _ (p : Parsers) (s : Sound p) (params_takes : (tokens : List Token) → Yields (params_in p true tokens) (Got sorts.Params tokens)) (results_takes : (tokens : List Token) → Yields (params_in p false tokens) (Got sorts.Results tokens)) where
  from_primary : (place : Place) (tokens : List Token) → Yields (primary_in p place tokens) (GotUnary place tokens)
  from_primary place tokens = record {
    given = λ x e.
        let g = (primary_takes p s params_takes results_takes place tokens).given x e in
        record { text = g.text; plain = λ o. part (second (g.plain o)); only = g.only };
  }

  -- what stands behind an operator or a sign
  right_takes : (place : Place) (min : ℕ) (tokens : List Token) → 1 ≤ min → min ≤ 6 → Yields (p.expr (of_operand place) min tokens) (λ x. (tokens ≡ yield x.0 ++ x.1) × FitsLevel (context_of place) min x.0 x.1 × (tight x.1 < min))
  right_takes place min tokens h k = record {
    given = λ x e.
        let g = plain_of (of_operand place) min tokens x (operand_item place) ((s.expr (of_operand place) min tokens h k).given x e) in
        let fine : FitsLevel (context_of place) min x.0 x.1 = subst (λ (context : Context). FitsLevel context min x.0 x.1) (operand_place place) g.0.fine in
        (g.0.text, fine, g.1);
  }

  pub unary_takes : (place : Place) (tokens : List Token) → Yields (unary_in p place tokens) (GotUnary place tokens)
  unary_takes place [] = yields_none
  unary_takes place (token ∷ rest) = go token.kind refl
    where
      signed : (k : Kind) → token.kind ≡ k → (begins_sign_by k rest ≡ true → is_sign k ≡ true)
          → Yields (cond (begins_sign_by k rest) (p.expr (of_operand place) 6 rest >>= λ x. Some (unary_of token x.0, x.1)) (primary_in p place (token ∷ rest))) (GotUnary place (token ∷ rest))
      signed k e signs =
          yields_if (begins_sign_by k rest)
          (λ t. yields_bind (right_takes place 6 rest (omega arith) (omega arith)) (λ x g. yields_some (signed_takes place token rest x (ap is_sign e ∙ signs t) g.0 g.1)))
          (λ f. from_primary place (token ∷ rest))

      go : (k : Kind) → token.kind ≡ k → Yields (unary_by p place k token rest) (GotUnary place (token ∷ rest))
      go kinds.Star e =
          yields_bind (s.expr place 6 rest (omega arith) (omega arith)) (λ x g.
          yields_some (starred_takes place token rest x (rw e refl) (rw e refl) g.text (λ o. (g.plain o).0) g.only))
      go kinds.Arrow e = signed kinds.Arrow e (λ t. refl)
      go k e = signed k e (λ t. t)

  binary_turn_takes : (place : Place) (min : ℕ) (tokens : List Token) → 1 ≤ min → (n : ℕ) (x : Forest × List Token) → Keeps place min tokens (suc n) x → Yields (binary_turn p place min x) (AfterTurn (Keeps place min tokens n) (GotExpr place min tokens))
  binary_turn_takes place min tokens h n x k = go (operator_at min x.1) (operator_says min x.1 h)
    where
      go : (o : Option (Token × List Token)) → OperatorSays min x.1 o → Yields (binary_by p place x o) (AfterTurn (Keeps place min tokens n) (GotExpr place min tokens))
      go None t = yields_some (record { text = k.text; plain = λ o. (loose (context_of place) min k.high k.enough k.fits, t); only = λ o. true_not_false o k.plain })
      go (Some operator) t =
          yields_bind (right_takes place (precedence operator.0.kind + 1) operator.1 (omega arith) (omega (arith, precedence_small operator.0.kind))) (λ right g.
          let next : tight x.1 ≡ precedence operator.0.kind = ap tight t.0 in
          let here : FitsLevel (context_of place) k.high x.0 (operator.0 ∷ (yield right.0 ++ right.1)) = subst (λ (rest : List Token). FitsLevel (context_of place) k.high x.0 rest) (t.0 ∙ ap (λ (rest : List Token). operator.0 ∷ rest) g.0) k.fits in
          let left : FitsLevel (context_of place) (precedence operator.0.kind) x.0 (operator.0 ∷ (yield right.0 ++ right.1)) = loose (context_of place) (precedence operator.0.kind) k.high (omega (arith, k.next, next)) here in
          yields_some (record {
            text = k.text ∙ ap (λ (rest : List Token). yield x.0 ++ rest) (t.0 ∙ ap (λ (rest : List Token). operator.0 ∷ rest) g.0) ∙ sym (append_assoc (yield x.0) (operator.0 ∷ yield right.0) right.1)
                ∙ ap (λ (front : List Token). front ++ right.1) (sym (append-nil (yield (append x.0 (leaf operator.0 right.0))) ∙ yield-append x.0 (leaf operator.0 right.0)));
            plain = refl;
            high = precedence operator.0.kind;
            fits = operation (context_of place) operator.0 x.0 right.0 right.1 t.1 left g.1;
            enough = t.2;
            next = omega (arith, g.2);
            room = omega (arith, k.room, ap length (t.0 ∙ ap (λ (rest : List Token). operator.0 ∷ rest) g.0), length-append (yield right.0) right.1);
          }))

  pub binary_takes : (place : Place) (min : ℕ) (tokens : List Token) → 1 ≤ min → min ≤ 6 → Yields (binary_in p place min tokens) (GotExpr place min tokens)
  binary_takes place min tokens h h' =
      yields_bind (unary_takes place tokens) (λ x g.
      yields_if (is_type_only x.0)
      (λ t. yields_some (record { text = g.text; plain = λ f. true_not_false t f; only = g.only }))
      (λ f. yields_repeat (binary_turn p place min) (Keeps place min tokens) (GotExpr place min tokens) last (binary_turn_takes place min tokens h)
      (length x.1) x (record { text = g.text; plain = f; high = 6; fits = g.plain f; enough = h'; next = omega (arith, tight_small x.1); room = omega arith })))
    where
      none_left : (rest : List Token) → length rest ≤ 0 → tight rest < min
      none_left [] e = omega arith
      none_left (token ∷ rest) e = absurd (omega arith)

      last : (x : Forest × List Token) → Keeps place min tokens zero x → GotExpr place min tokens x
      last x k = record { text = k.text; plain = λ o. (loose (context_of place) min k.high k.enough k.fits, none_left x.1 k.room); only = λ o. true_not_false o k.plain }

  pub value_takes : (tokens : List Token) → Yields (value_in p tokens) (Got sorts.Value tokens)
  value_takes tokens =
      yields_if (begins kinds.OpenBrace tokens)
      (λ t. yields_bind (braces_takes p s params_takes results_takes tokens) (λ x g. yields_some (got_of sorts.Value tokens _ (second_had (node_had forms.CompositeForm g)))))
      (λ f. record {
        given = λ x e.
            let g = (plain_of Plain 1 tokens x refl ((binary_takes Plain 1 tokens (omega arith) (omega arith)).given x e)).0 in
            got_of sorts.Value tokens x (first_had g);
      })
