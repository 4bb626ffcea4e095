-- What is read of operands fits, and stands at the front.
use Rattle.std.proofs.Common.{◌≡◌, Bool, true, false, List, [], ◌∷◌, ◌++◌, Some, None, refl, sym, ap, ◌∙◌, subst}
use Rattle.std.proofs.lemmas.List.{append-nil}
use Rattle.std.specs.Prelude.{not, ◌&&◌, ◌||◌}
use Rattle.go_ast.specs.declared.token.Kind.{Kind}
use Rattle.go_ast.specs.declared.token.Kind.TheVariants as kinds
use Rattle.go_ast.specs.declared.token.Token.{Token}
use Rattle.go_grammar.specs.Forests.{Form, Forest, empty, leaf, node, append, yield}
use Rattle.go_grammar.specs.Forests as forms
use Rattle.go_grammar.specs.Shapes as shapes
use Rattle.go_grammar.specs.Shapes.{Shape, Fits, part, below, first, second, both, sign, before, is, IsNext}
use Rattle.go_grammar.specs.Grammar as sorts
use Rattle.go_grammar.specs.Grammar.{Sort, Context, grammar, is_dot}
use Rattle.go_grammar.specs.Reading.{is_next}
use Rattle.go_grammar.specs.Tests.{begins, begins_both}
use Rattle.go_grammar.specs.TypeReading.{Place, Plain, Header, Item, Parsers, params_in, begins_bare, at_type}
use Rattle.go_grammar.specs.ExprReading.{context_of, is_item, is_header, is_type_only, is_only_a_type, is_name, literal_type, is_literal_type, function_in, open_array_plan, open_array_in, type_operand_in, operand_by, operand_in}
use Rattle.go_grammar.proofs.Outcome.{Yields, yields_some, yields_none, yields_bind, yields_if}
use Rattle.go_grammar.proofs.Takes.{run_takes}
use Rattle.go_grammar.proofs.TypeTakes.{Had, Got, got_of, Sound, type_operand, signature_takes, bare_takes, chan_takes, at_type_takes}
use Rattle.go_grammar.proofs.Forests.{append-empty}
use Rattle.go_grammar.proofs.SameKinds.{true_not_false, brace_no_dot, no_brace}
use Rattle.go_grammar.proofs.Pieces.{word_takes, then_had, node_had, first_had, second_had}
use Rattle.go_grammar.proofs.ExprTakes.{item_takes, block_takes}

some_is : {A : Type 0} (x y : A) → Some x ≡ Some y → x ≡ y
some_is x y e = cc

-- the type of a literal, with the same tokens
pub record Formed (context : Context) (left form : Forest) (rest : List Token) : Type 0 where
  pub same : yield form ≡ yield left
  pub composite : (braces : Forest) (behind : List Token) → rest ≡ yield braces ++ behind → Fits grammar (shapes.Part sorts.Braces) braces behind → Fits grammar (shapes.Part (sorts.Operand context)) (node forms.CompositeForm (append form braces) empty) behind

abbrev pub is_bare : Forest → Bool
is_bare (node forms.TypeOperandForm _ _) = true
is_bare _ = false

pub record IsNamed (left : Forest) : Type 0 where
  pub token : Token
  pub all : left ≡ node forms.NameForm (leaf token empty) empty
  pub kind : is token.kind kinds.Name ≡ true

-- What was read of an operand: a primary expression, where no braces follow a type.
pub record Front (place : Place) (left : Forest) (rest : List Token) : Type 0 where
  pub only : is_type_only left ≡ false
  pub whole : (is_bare left ≡ true → begins kinds.OpenBrace rest ≡ false) → Fits grammar (shapes.Part (sorts.Primary (context_of place))) left rest
  pub form : (form : Forest) → literal_type left ≡ Some form → begins kinds.OpenBrace rest ≡ true → is_literal_type place left ≡ true → Formed (context_of place) left form rest
  pub name : is_name left ≡ true → IsNamed left

pub record GotOperand (place : Place) (tokens : List Token) (x : Forest × List Token) : Type 0 where
  pub text : tokens ≡ yield x.0 ++ x.1
  pub front : is_type_only x.0 ≡ false → Front place x.0 x.1
  pub only : is_type_only x.0 ≡ true → (is_item place ≡ true) × Fits grammar type_operand x.0 x.1

pub operand_part : (context : Context) {tree : Forest} {rest : List Token} → Fits grammar sorts.operand tree rest → Fits grammar (shapes.Part (sorts.Operand context)) tree rest
operand_part sorts.Plain x = part (first x)
operand_part sorts.Header x = part x

-- an operand that is no name and no type
pub plain_front : (place : Place) (left : Forest) (rest : List Token) → is_type_only left ≡ false → literal_type left ≡ None → is_name left ≡ false → Fits grammar sorts.operand left rest → Front place left rest
plain_front place left rest only none not_name x = record {
  only = only;
  whole = λ h. part (first (operand_part (context_of place) x));
  form = λ form e b l. let clash : Some form ≡ None = sym e ∙ none in absurd cc;
  name = λ e. true_not_false e not_name;
}

pub got_plain : (place : Place) (tokens : List Token) (x : Forest × List Token) → is_type_only x.0 ≡ false → literal_type x.0 ≡ None → is_name x.0 ≡ false → Had sorts.operand tokens x → GotOperand place tokens x
got_plain place tokens x only none not_name h = record {
  text = h.text;
  front = λ e. plain_front place x.0 x.1 only none not_name h.fine;
  only = λ e. true_not_false e only;
}

named_fits : (token : Token) (rest : List Token) → is token.kind kinds.Name ≡ true → begins kinds.OpenBrace rest ≡ true → Fits grammar (shapes.Part sorts.TypeName) (node forms.TypeNameForm (leaf token empty) empty) rest
named_fits token rest e b = part (below (both (sign e) (second (before (brace_no_dot rest b)))))

name_formed : (place : Place) (token : Token) (rest : List Token) (form : Forest) → is token.kind kinds.Name ≡ true → Some (node forms.TypeNameForm (leaf token empty) empty) ≡ Some form → begins kinds.OpenBrace rest ≡ true → not (is_header place) ≡ true
    → Formed (context_of place) (node forms.NameForm (leaf token empty) empty) form rest
name_formed place token rest form e f b l = subst (λ (t : Forest). Formed (context_of place) (node forms.NameForm (leaf token empty) empty) t rest) (some_is _ form f) (go place l)
  where
    fine : (braces : Forest) (behind : List Token) → rest ≡ yield braces ++ behind → Fits grammar (shapes.Part sorts.Braces) braces behind → Fits grammar (shapes.Part (sorts.Operand sorts.Plain)) (node forms.CompositeForm (append (node forms.TypeNameForm (leaf token empty) empty) braces) empty) behind
    fine braces behind e' x = part (second (below (both (subst (λ (r : List Token). Fits grammar (shapes.Part sorts.TypeName) (node forms.TypeNameForm (leaf token empty) empty) r) e' (named_fits token rest e b)) x)))

    go : (place : Place) → not (is_header place) ≡ true → Formed (context_of place) (node forms.NameForm (leaf token empty) empty) (node forms.TypeNameForm (leaf token empty) empty) rest
    go Plain l = record { same = refl; composite = fine }
    go Item l = record { same = refl; composite = fine }
    go Header l = absurd cc

name_front : (place : Place) (token : Token) (rest : List Token) → is token.kind kinds.Name ≡ true → Front place (node forms.NameForm (leaf token empty) empty) rest
name_front place token rest e = record {
  only = refl;
  whole = λ h. part (first (operand_part (context_of place) (second (second (second (first (below (sign e))))))));
  form = λ form f b l. name_formed place token rest form e f b l;
  name = λ n. record { token = token; all = refl; kind = e };
}

-- no form of the bare types is one of the types that are no expressions
bare_not_only : {tree : Forest} {rest : List Token} → Fits grammar sorts.bare_type tree rest → is_only_a_type tree ≡ false
bare_not_only (first (below x)) = refl
bare_not_only (second (first (below x))) = refl
bare_not_only (second (second (first (below x)))) = refl
bare_not_only (second (second (second (first (below x))))) = refl
bare_not_only (second (second (second (second (below x))))) = refl

pub bare_part_only : {tree : Forest} {rest : List Token} → Fits grammar (shapes.Part sorts.BareType) tree rest → is_only_a_type tree ≡ false
bare_part_only (part x) = bare_not_only x

pub open_not_only : {tree : Forest} {rest : List Token} → Fits grammar sorts.open_array tree rest → is_only_a_type tree ≡ false
open_not_only (below x) = refl

-- a type as an operand
bare_front : (place : Place) (tree : Forest) (rest : List Token) → is_only_a_type tree ≡ false → Fits grammar (shapes.Part sorts.LiteralType) tree rest
    → (begins kinds.OpenBrace rest ≡ false → Fits grammar (shapes.Part sorts.BareType) tree rest) → Front place (node forms.TypeOperandForm tree empty) rest
bare_front place tree rest only literal bare = record {
  only = only;
  whole = λ h.
      let none : begins kinds.OpenBrace rest ≡ false = h refl in
      let x : Fits grammar (shapes.Then (shapes.Part sorts.BareType) (shapes.not_before sorts.opens_braces)) (append tree empty) rest = both (bare none) (before (no_brace rest none)) in
      let y : Fits grammar (shapes.Then (shapes.Part sorts.BareType) (shapes.not_before sorts.opens_braces)) tree rest = rw append-empty at x in
      part (first (operand_part (context_of place) (second (second (second (second (second (second (first (below y))))))))));
  form = λ form f b l. subst (λ (t : Forest). Formed (context_of place) (node forms.TypeOperandForm tree empty) t rest) (some_is tree form f) (record {
    same = sym (append-nil (yield tree));
    composite = λ braces behind e x. operand_part (context_of place) (second (second (second (second (second (second (second (below (both (subst (λ (r : List Token). Fits grammar (shapes.Part sorts.LiteralType) tree r) e literal) x)))))))));
  });
  name = λ e. absurd cc;
}

module _ (p : Parsers) (s : Sound p) (params_takes : (tokens : List Token) → Yields (params_in p true tokens) (Got sorts.Params tokens)) (results_takes : (tokens : List Token) → Yields (params_in p false tokens) (Got sorts.Results tokens)) where
  function_takes : (place : Place) (tokens : List Token) → Yields (function_in p place tokens) (GotOperand place tokens)
  function_takes place tokens =
      yields_bind (word_takes kinds.FuncWord tokens) (λ opened o.
      yields_bind (signature_takes p s params_takes results_takes opened.1) (λ signature g.
      yields_if (begins kinds.OpenBrace signature.1)
      (λ t. yields_bind (block_takes p s params_takes results_takes signature.1) (λ body b.
      yields_some (got_plain place tokens _ refl refl refl
      (second_had (second_had (second_had (second_had (second_had (first_had (node_had forms.LiteralFunctionForm (then_had o (then_had g b))))))))))))
      (λ f. yields_if (is_item place)
      (λ i. yields_some (only_function opened signature o g f i))
      (λ i. yields_none))))
    where
      only_function : (opened signature : Forest × List Token) → Had (shapes.word kinds.FuncWord) tokens opened → Got sorts.Signature opened.1 signature → begins kinds.OpenBrace signature.1 ≡ false → is_item place ≡ true
          → GotOperand place tokens (node forms.TypeOperandForm (node forms.FunctionForm (append opened.0 signature.0) empty) empty, signature.1)
      only_function opened signature o g f i =
          let ended : Had (shapes.not_before sorts.opens_braces) signature.1 (empty, signature.1) = record { text = refl; fine = before (no_brace signature.1 f) } in
          let whole = node_had forms.FunctionForm (then_had o (then_had g ended)) in
          let plain : Had (shapes.Node forms.FunctionForm (shapes.Then (shapes.word kinds.FuncWord) (shapes.Then (shapes.Part sorts.Signature) (shapes.not_before sorts.opens_braces)))) tokens (node forms.FunctionForm (append opened.0 signature.0) empty, signature.1) = rw append-empty at whole in
          let all : Had type_operand tokens (node forms.TypeOperandForm (node forms.FunctionForm (append opened.0 signature.0) empty) empty, signature.1) = node_had forms.TypeOperandForm (got_of sorts.TypeOnly tokens _ (second_had (second_had plain))) in
          record { text = all.text; front = λ e. absurd cc; only = λ e. (i, all.fine) }

  open_array_takes : (tokens : List Token) → Yields (open_array_in p tokens) (λ x. Had sorts.open_array tokens x × (begins kinds.OpenBrace x.1 ≡ true))
  open_array_takes tokens =
      yields_bind (run_takes grammar (at_type p) (at_type_takes p s params_takes results_takes) open_array_plan tokens) (λ x g.
      yields_if (begins kinds.OpenBrace x.1) (λ t. yields_some (g, t)) (λ t. yields_none))

  chan_not_only : {tree : Forest} {rest : List Token} → Fits grammar sorts.chan_type tree rest → is_only_a_type tree ≡ true
  chan_not_only (first (below x)) = refl
  chan_not_only (second (below x)) = refl

  type_operand_takes : (place : Place) (tokens : List Token) → Yields (type_operand_in p place tokens) (GotOperand place tokens)
  type_operand_takes place tokens =
      yields_if (begins_both kinds.OpenBracket kinds.Ellipsis tokens)
      (λ t. yields_bind (open_array_takes tokens) (λ x g.
      let fine : Fits grammar (shapes.Part sorts.LiteralType) x.0 x.1 = part (second g.0.fine) in
      yields_some (record {
        text = g.0.text ∙ ap (λ (front : List Token). front ++ x.1) (sym (append-nil (yield x.0)));
        front = λ e. bare_front place x.0 x.1 (open_not_only g.0.fine) fine (λ b. true_not_false g.1 b);
        only = λ e. true_not_false e (open_not_only g.0.fine);
      })))
      (λ f. yields_if (is_next begins_bare tokens)
      (λ t. yields_bind (bare_takes p s params_takes results_takes tokens) (λ x g.
      let fine : Fits grammar (shapes.Part sorts.LiteralType) x.0 x.1 = part (first g.fine) in
      yields_some (record {
        text = g.text ∙ ap (λ (front : List Token). front ++ x.1) (sym (append-nil (yield x.0)));
        front = λ e. bare_front place x.0 x.1 (bare_part_only g.fine) fine (λ b. g.fine);
        only = λ e. true_not_false e (bare_part_only g.fine);
      })))
      (λ f'. yields_if (is_item place && (begins kinds.ChanWord tokens || begins kinds.Arrow tokens))
      (λ t. yields_bind (chan_takes p s params_takes results_takes tokens) (λ x g.
      let all : Had type_operand tokens (node forms.TypeOperandForm x.0 empty, x.1) = node_had forms.TypeOperandForm (got_of sorts.TypeOnly tokens x (second_had (first_had g))) in
      yields_some (record {
        text = all.text;
        front = λ e. true_not_false (chan_not_only g.fine) e;
        only = λ e. (left_true (is_item place) _ t, all.fine);
      })))
      (λ t. yields_none)))
    where
      left_true : (a b : Bool) → (a && b) ≡ true → a ≡ true
      left_true true b h = refl
      left_true false b h = absurd cc

  pub operand_takes : (place : Place) (tokens : List Token) → Yields (operand_in p place tokens) (GotOperand place tokens)
  operand_takes place [] = yields_none
  operand_takes place (token ∷ rest) = go token.kind refl
    where
      go : (k : Kind) → token.kind ≡ k → Yields (operand_by p place k token rest) (GotOperand place (token ∷ rest))
      go kinds.Int e = yields_some (got_plain place (token ∷ rest) _ refl refl refl (record { text = refl; fine = first (below (sign (rw e refl))) }))
      go kinds.Rune e = yields_some (got_plain place (token ∷ rest) _ refl refl refl (record { text = refl; fine = second (first (below (sign (rw e refl)))) }))
      go kinds.Text e = yields_some (got_plain place (token ∷ rest) _ refl refl refl (record { text = refl; fine = second (second (first (below (sign (rw e refl))))) }))
      go kinds.Name e = yields_some (record { text = refl; front = λ o. name_front place token rest (rw e refl); only = λ o. absurd cc })
      go kinds.OpenParen e =
          let opened : Had (shapes.word kinds.OpenParen) (token ∷ rest) (leaf token empty, rest) = record { text = refl; fine = sign (rw e refl) } in
          yields_bind (item_takes p s rest) (λ inner g.
          yields_bind (word_takes kinds.CloseParen inner.1) (λ closed c.
          yields_some (got_plain place (token ∷ rest) _ refl refl refl (second_had (second_had (second_had (second_had (first_had (node_had forms.ParenForm (then_had opened (then_had g c)))))))))))
      go kinds.FuncWord e = function_takes place (token ∷ rest)
      go _ e = type_operand_takes place (token ∷ rest)
