-- What goes on behind an operand fits.
use Rattle.std.proofs.Common.{◌≡◌, ℕ, zero, suc, ◌≤◌, ◌<◌, Bool, true, false, List, [], ◌∷◌, ◌++◌, length, Some, None, refl, sym, ap, ◌∙◌, subst, append_assoc, arith}
use Rattle.std.proofs.lemmas.List.{append-nil, length-append}
use Rattle.std.specs.Prelude.{◌&&◌}
use Rattle.go_ast.specs.declared.token.Kind.{Kind}
use Rattle.go_ast.specs.declared.token.Kind.TheVariants as kinds
use Rattle.go_ast.specs.declared.token.Token.{Token}
use Rattle.go_grammar.specs.Forests.{Form, Forest, empty, leaf, node, append, yield}
use Rattle.go_grammar.specs.Forests as forms
use Rattle.go_grammar.specs.Shapes as shapes
use Rattle.go_grammar.specs.Shapes.{Shape, Fits, part, below, first, second, both, sign, before, is, IsNext}
use Rattle.go_grammar.specs.Grammar as sorts
use Rattle.go_grammar.specs.Grammar.{Sort, Context, grammar, is_dot}
use Rattle.go_grammar.specs.Reading.{◌>>=◌}
use Rattle.go_grammar.specs.Tests.{begins}
use Rattle.go_grammar.specs.TypeReading.{Place, Plain, Header, Item, Parsers, params_in}
use Rattle.go_grammar.specs.ExprReading.{context_of, is_item, is_type_only, is_name, only_by, literal_type, literal_type_by, literal_by, is_literal_type, literal_in, selector_in, slice_in, index_in, call_in, suffix_by, suffix_at, suffix_in, begins_suffix, suffix_turn, primary_in}
use Rattle.go_grammar.proofs.Outcome.{Yields, yields_some, yields_none, yields_bind, yields_if, yields_repeat, AfterTurn}
use Rattle.go_grammar.proofs.TypeTakes.{Had, Got, Sound, type_operand, expr_takes, any_takes}
use Rattle.go_grammar.proofs.Forests.{yield-append}
use Rattle.go_grammar.proofs.SameKinds.{true_not_false, begins_other}
use Rattle.go_grammar.proofs.Pieces.{word_takes, then_had, first_had, second_had, none_had, long_word}
use Rattle.go_grammar.proofs.ExprTakes.{arguments_takes, braces_takes}
use Rattle.go_grammar.proofs.OperandTakes.{Formed, Front, IsNamed, is_bare, operand_takes}

-- a longer operand, with what it takes more
pub record Grows (place : Place) (left : Forest) (tokens : List Token) (x : Forest × List Token) : Type 0 where
  pub more : List Token
  pub text : tokens ≡ more ++ x.1
  pub long : 0 < length more
  pub same : yield x.0 ≡ yield left ++ more
  pub front : Front place x.0 x.1

-- what stands behind an operand, from its first token on
abbrev pub tail : Kind → Shape Sort → Shape Sort
tail kind shape = shapes.Then (shapes.word kind) shape

module _ (place : Place) (left : Forest) (tokens : List Token) (h : Front place left tokens) where
  -- an operand with no literal behind it
  whole_left : (kind : Kind) → is kind kinds.OpenBrace ≡ false → begins kind tokens ≡ true → Fits grammar (shapes.Part (sorts.Primary (context_of place))) left tokens
  whole_left kind other b = h.whole (λ e. begins_other kind kinds.OpenBrace tokens other b)

  behind_left : (kind : Kind) {shape : Shape Sort} {y : Forest × List Token} → is kind kinds.OpenBrace ≡ false → begins kind tokens ≡ true → Had (tail kind shape) tokens y
      → Fits grammar (shapes.Then (shapes.Part (sorts.Primary (context_of place))) (tail kind shape)) (append left y.0) y.1
  behind_left kind {shape} {y} other b g = both (subst (λ (rest : List Token). Fits grammar (shapes.Part (sorts.Primary (context_of place))) left rest) g.text (whole_left kind other b)) g.fine

  -- a form that is no type, no name and no selector
  grown : (kind : Kind) {shape : Shape Sort} {y : Forest × List Token} (form : Form) → only_by form (append left y.0) ≡ false → literal_type_by form (append left y.0) ≡ None → is_name (node form (append left y.0) empty) ≡ false
      → Had (tail kind shape) tokens y → Fits grammar (sorts.suffixed (sorts.Primary (context_of place))) (node form (append left y.0) empty) y.1 → Grows place left tokens (node form (append left y.0) empty, y.1)
  grown kind {shape} {y} form only none not_name g fine = record {
    more = yield y.0;
    text = g.text;
    long = long_word g.fine;
    same = append-nil (yield (append left y.0)) ∙ yield-append left y.0;
    front = record {
      only = only;
      whole = λ e. part (second fine);
      form = λ f e b l. let clash : Some f ≡ None = sym e ∙ none in absurd cc;
      name = λ e. true_not_false e not_name;
    };
  }

  grown_as : {x : Forest × List Token} {tree : Forest} → tree ≡ x.0 → Grows place left tokens (tree, x.1) → Grows place left tokens x
  grown_as {x} {tree} e g = subst (λ (t : Forest). Grows place left tokens (t, x.1)) e g

-- a selector of a name is that of a type in a package
selector_name : (left : Forest) (dot name : Token) → is_name (append left (leaf dot (leaf name empty))) ≡ true → is_name left ≡ true
selector_name empty dot name e = absurd cc
selector_name (leaf token behind) dot name e = absurd cc
selector_name (node form inner behind) dot name e = go form e
  where
    go : (form : Form) → is_name (node form inner (append behind (leaf dot (leaf name empty)))) ≡ true → is_name (node form inner behind) ≡ true
    go forms.NameForm e = refl
    go _ e = absurd cc

some_is : {A : Type 0} (x y : A) → Some x ≡ Some y → x ≡ y
some_is x y e = cc

imported_fits : (token dot name : Token) (rest : List Token) → is token.kind kinds.Name ≡ true → is dot.kind kinds.Dot ≡ true → is name.kind kinds.Name ≡ true
    → Fits grammar (shapes.Part sorts.TypeName) (node forms.TypeNameForm (leaf token (leaf dot (leaf name empty))) empty) rest
imported_fits token dot name rest e d n = part (below (both (sign e) (first (both (sign d) (sign n)))))

selector_formed : (place : Place) (left : Forest) (dot name : Token) (rest : List Token) (form : Forest) → (is_name left ≡ true → IsNamed left) → is dot.kind kinds.Dot ≡ true → is name.kind kinds.Name ≡ true
    → literal_type_by forms.SelectorForm (append left (leaf dot (leaf name empty))) ≡ Some form → literal_by place forms.SelectorForm (append left (leaf dot (leaf name empty))) ≡ true
    → Formed (context_of place) (node forms.SelectorForm (append left (leaf dot (leaf name empty))) empty) form rest
selector_formed place left dot name rest form named d n e l = go place l
  where
    both_true : (a b : Bool) → (a && b) ≡ true → (a ≡ true) × (b ≡ true)
    both_true true true h = (refl, refl)
    both_true true false h = absurd cc
    both_true false b h = absurd cc

    fine : is_name (append left (leaf dot (leaf name empty))) ≡ true → Formed sorts.Plain (node forms.SelectorForm (append left (leaf dot (leaf name empty))) empty) form rest
    fine i =
        let k = named (selector_name left dot name i) in
        let tree = node forms.TypeNameForm (leaf k.token (leaf dot (leaf name empty))) empty in
        let e' : Some tree ≡ Some form = (rw k.all at e) in
        let whole : Formed sorts.Plain (node forms.SelectorForm (append (node forms.NameForm (leaf k.token empty) empty) (leaf dot (leaf name empty))) empty) tree rest = record {
          same = refl;
          composite = λ braces behind f x. part (second (below (both (imported_fits k.token dot name (yield braces ++ behind) k.kind d n) x)));
        } in
        subst (λ (t : Forest). Formed sorts.Plain (node forms.SelectorForm (append left (leaf dot (leaf name empty))) empty) t rest) (some_is tree form e')
        (subst (λ (l : Forest). Formed sorts.Plain (node forms.SelectorForm (append l (leaf dot (leaf name empty))) empty) tree rest) (sym k.all) whole)

    go : (place : Place) → literal_by place forms.SelectorForm (append left (leaf dot (leaf name empty))) ≡ true → Formed (context_of place) (node forms.SelectorForm (append left (leaf dot (leaf name empty))) empty) form rest
    go Plain l = fine l
    go Item l = fine l
    go Header l = absurd cc

module _ (p : Parsers) (s : Sound p) (params_takes : (tokens : List Token) → Yields (params_in p true tokens) (Got sorts.Params tokens)) (results_takes : (tokens : List Token) → Yields (params_in p false tokens) (Got sorts.Results tokens)) where
  module _ (place : Place) (left : Forest) (tokens : List Token) (h : Front place left tokens) where
    selector_front : (dot name : Token) (rest : List Token) → begins kinds.Dot tokens ≡ true → Had (tail kinds.Dot (shapes.word kinds.Name)) tokens (leaf dot (leaf name empty), rest) → is dot.kind kinds.Dot ≡ true → is name.kind kinds.Name ≡ true
        → Grows place left tokens (node forms.SelectorForm (append left (leaf dot (leaf name empty))) empty, rest)
    selector_front dot name rest b g d n =
        let fine : Fits grammar (sorts.suffixed (sorts.Primary (context_of place))) (node forms.SelectorForm (append left (leaf dot (leaf name empty))) empty) rest = first (below (behind_left place left tokens h kinds.Dot refl b g)) in
        record {
          more = dot ∷ name ∷ [];
          text = g.text;
          long = omega arith;
          same = append-nil (yield (append left (leaf dot (leaf name empty)))) ∙ yield-append left (leaf dot (leaf name empty));
          front = record {
            only = refl;
            whole = λ e. part (second fine);
            form = λ f e b l. selector_formed place left dot name rest f h.name d n e l;
            name = λ e. absurd cc;
          };
        }

    selector_of : (dot name : Forest × List Token) → begins kinds.Dot tokens ≡ true → Had (shapes.word kinds.Dot) tokens dot → Had (shapes.word kinds.Name) dot.1 name → Grows place left tokens (node forms.SelectorForm (append left (append dot.0 name.0)) empty, name.1)
    selector_of dot name b d n = go dot.0 name.0 (then_had d n) d.fine n.fine
      where
        go : (x y : Forest) → Had (tail kinds.Dot (shapes.word kinds.Name)) tokens (append x y, name.1) → Fits grammar (shapes.word kinds.Dot) x dot.1 → Fits grammar (shapes.word kinds.Name) y name.1 → Grows place left tokens (node forms.SelectorForm (append left (append x y)) empty, name.1)
        go x y g (sign {token = t} e) (sign {token = t'} e') = selector_front t t' name.1 b g e e'

    selector_takes : begins kinds.Dot tokens ≡ true → Yields (selector_in p left tokens) (Grows place left tokens)
    selector_takes b =
        yields_bind (word_takes kinds.Dot tokens) (λ dot d.
        yields_if (begins kinds.OpenParen dot.1)
        (λ t. yields_bind (word_takes kinds.OpenParen dot.1) (λ opened o.
        yields_bind (any_takes p s params_takes results_takes opened.1) (λ form g.
        yields_bind (word_takes kinds.CloseParen form.1) (λ closed c.
        let all = then_had d (then_had o (then_had g c)) in
        yields_some (grown place left tokens h kinds.Dot forms.AssertionForm refl refl refl all (second (first (below (behind_left place left tokens h kinds.Dot refl b all)))))))))
        (λ f. yields_bind (word_takes kinds.Name dot.1) (λ name n. yields_some (selector_of dot name b d n))))

    slice_takes : begins kinds.OpenBracket tokens ≡ true → (opened low : Forest × List Token) → Had (shapes.word kinds.OpenBracket) tokens opened → Had (shapes.maybe (sorts.Expr sorts.Plain)) opened.1 low → Yields (slice_in p left opened.0 low.0 low.1) (Grows place left tokens)
    slice_takes b opened low o g =
        yields_bind (word_takes kinds.Colon low.1) (λ colon c.
        yields_if (begins kinds.CloseBracket colon.1)
        (λ t. yields_bind (word_takes kinds.CloseBracket colon.1) (λ closed k.
        let none : Had (shapes.maybe (sorts.Expr sorts.Plain)) colon.1 (empty, colon.1) = second_had none_had in
        let all = then_had o (then_had g (then_had c (then_had none k))) in
        yields_some (grown place left tokens h kinds.OpenBracket forms.SliceExprForm refl refl refl all (second (second (second (first (below (behind_left place left tokens h kinds.OpenBracket refl b all)))))))))
        (λ f. yields_bind (expr_takes p s params_takes results_takes colon.1) (λ high e.
        yields_if (begins kinds.CloseBracket high.1)
        (λ t. yields_bind (word_takes kinds.CloseBracket high.1) (λ closed k.
        let some : Had (shapes.maybe (sorts.Expr sorts.Plain)) colon.1 high = first_had e in
        let all = then_had o (then_had g (then_had c (then_had some k))) in
        yields_some (grown place left tokens h kinds.OpenBracket forms.SliceExprForm refl refl refl all (second (second (second (first (below (behind_left place left tokens h kinds.OpenBracket refl b all)))))))))
        (λ f'. yields_bind (word_takes kinds.Colon high.1) (λ colon' c'.
        yields_bind (expr_takes p s params_takes results_takes colon'.1) (λ max m.
        yields_bind (word_takes kinds.CloseBracket max.1) (λ closed k.
        let all = then_had o (then_had g (then_had c (then_had e (then_had c' (then_had m k))))) in
        yields_some (grown place left tokens h kinds.OpenBracket forms.FullSliceForm refl refl refl all (second (second (second (second (first (below (behind_left place left tokens h kinds.OpenBracket refl b all)))))))))))))))

    index_takes : begins kinds.OpenBracket tokens ≡ true → Yields (index_in p left tokens) (Grows place left tokens)
    index_takes b =
        yields_bind (word_takes kinds.OpenBracket tokens) (λ opened o.
        yields_if (begins kinds.Colon opened.1)
        (λ t. slice_takes b opened (empty, opened.1) o (second_had none_had))
        (λ f. yields_bind (expr_takes p s params_takes results_takes opened.1) (λ index e.
        yields_if (begins kinds.Colon index.1)
        (λ t. slice_takes b opened index o (first_had e))
        (λ f'. yields_bind (word_takes kinds.CloseBracket index.1) (λ closed k.
        let all = then_had o (then_had e k) in
        yields_some (grown place left tokens h kinds.OpenBracket forms.IndexForm refl refl refl all (second (second (first (below (behind_left place left tokens h kinds.OpenBracket refl b all)))))))))))

    call_takes : begins kinds.OpenParen tokens ≡ true → Yields (call_in p left tokens) (Grows place left tokens)
    call_takes b =
        yields_bind (arguments_takes p s params_takes results_takes tokens) (λ x g.
        yields_some (grown place left tokens h kinds.OpenParen forms.CallForm refl refl refl g (second (second (second (second (second (below (behind_left place left tokens h kinds.OpenParen refl b g)))))))))

    composite_takes : begins kinds.OpenBrace tokens ≡ true → is_literal_type place left ≡ true → Yields (literal_type left >>= λ form. literal_in p form tokens) (Grows place left tokens)
    composite_takes b l =
        yields_bind {P = λ form. literal_type left ≡ Some form} (record { given = λ form e. e }) (λ form e.
        yields_bind (braces_takes p s params_takes results_takes tokens) (λ x g.
        let formed = h.form form e b l in
        let fine : Fits grammar (shapes.Part (sorts.Operand (context_of place))) (node forms.CompositeForm (append form x.0) empty) x.1 = formed.composite x.0 x.1 g.text g.fine in
        yields_some (record {
          more = yield x.0;
          text = g.text;
          long = braces_long g.fine;
          same = append-nil (yield (append form x.0)) ∙ yield-append form x.0 ∙ ap (λ (front : List Token). front ++ yield x.0) formed.same;
          front = record {
            only = refl;
            whole = λ e. part (first fine);
            form = λ f e b l. absurd cc;
            name = λ e. absurd cc;
          };
        })))
      where
        braces_long : {tree : Forest} {rest : List Token} → Fits grammar (shapes.Part sorts.Braces) tree rest → 0 < length (yield tree)
        braces_long (part x) = long_word x

  suffix_takes : (place : Place) (left : Forest) (tokens : List Token) → Front place left tokens → begins_suffix place left tokens ≡ true → Yields (suffix_in p left tokens) (Grows place left tokens)
  suffix_takes place left [] h b = yields_none
  suffix_takes place left (token ∷ rest) h b = go token.kind refl b
    where
      go : (k : Kind) → token.kind ≡ k → suffix_by place left k rest ≡ true → Yields (suffix_at p left k (token ∷ rest)) (Grows place left (token ∷ rest))
      go kinds.Dot e b = selector_takes place left (token ∷ rest) h (rw e refl)
      go kinds.OpenBracket e b = index_takes place left (token ∷ rest) h (rw e refl)
      go kinds.OpenParen e b = call_takes place left (token ∷ rest) h (rw e refl)
      go kinds.OpenBrace e b = composite_takes place left (token ∷ rest) h (rw e refl) b
      go _ e b = yields_none

  -- ---- primary expressions

  record Keeps (place : Place) (tokens : List Token) (n : ℕ) (x : Forest × List Token) : Type 0 where
    text : tokens ≡ yield x.0 ++ x.1
    front : Front place x.0 x.1
    room : length x.1 ≤ n

  -- a primary expression at the front, or a type that is no expression
  pub record GotPrimary (place : Place) (tokens : List Token) (x : Forest × List Token) : Type 0 where
    pub text : tokens ≡ yield x.0 ++ x.1
    pub plain : is_type_only x.0 ≡ false → Fits grammar (shapes.Part (sorts.Primary (context_of place))) x.0 x.1
    pub only : is_type_only x.0 ≡ true → (is_item place ≡ true) × Fits grammar type_operand x.0 x.1

  ended : (place : Place) (tokens : List Token) (x : Forest × List Token) → tokens ≡ yield x.0 ++ x.1 → Front place x.0 x.1 → (is_bare x.0 ≡ true → begins kinds.OpenBrace x.1 ≡ false) → GotPrimary place tokens x
  ended place tokens x text h e = record { text = text; plain = λ o. h.whole e; only = λ o. true_not_false o h.only }

  bare_goes_on : (place : Place) (left : Forest) (rest : List Token) → begins_suffix place left rest ≡ false → is_bare left ≡ true → begins kinds.OpenBrace rest ≡ false
  bare_goes_on place left [] b e = refl
  bare_goes_on place left (token ∷ rest) b e = go token.kind b
    where
      literal : (left : Forest) → is_bare left ≡ true → is_literal_type place left ≡ true
      literal empty e = absurd cc
      literal (leaf token behind) e = absurd cc
      literal (node form inner behind) e = at form e
        where
          at : (form : Form) → is_bare (node form inner behind) ≡ true → literal_by place form inner ≡ true
          at forms.TypeOperandForm e = refl
          at _ e = absurd cc

      go : (k : Kind) → suffix_by place left k rest ≡ false → is k kinds.OpenBrace ≡ false
      go kinds.OpenBrace b = true_not_false (literal left e) b
      go _ b = refl

  turn_takes : (place : Place) (tokens : List Token) (n : ℕ) (x : Forest × List Token) → Keeps place tokens (suc n) x → Yields (suffix_turn p place x) (AfterTurn (Keeps place tokens n) (GotPrimary place tokens))
  turn_takes place tokens n x k =
      yields_if (begins_suffix place x.0 x.1)
      (λ b. yields_bind (suffix_takes place x.0 x.1 k.front b) (λ y g.
      yields_some (record {
        text = k.text ∙ ap (λ (rest : List Token). yield x.0 ++ rest) g.text ∙ sym (append_assoc (yield x.0) g.more y.1) ∙ ap (λ (front : List Token). front ++ y.1) (sym g.same);
        front = g.front;
        room = omega (arith, k.room, ap length g.text, length-append g.more y.1, g.long);
      })))
      (λ b. yields_some (ended place tokens x k.text k.front (bare_goes_on place x.0 x.1 b)))

  pub primary_takes : (place : Place) (tokens : List Token) → Yields (primary_in p place tokens) (GotPrimary place tokens)
  primary_takes place tokens =
      yields_bind (operand_takes p s params_takes results_takes place tokens) (λ x g.
      yields_if (is_type_only x.0)
      (λ t. yields_some (record { text = g.text; plain = λ f. true_not_false t f; only = g.only }))
      (λ f. yields_repeat (suffix_turn p place) (Keeps place tokens) (GotPrimary place tokens) last (turn_takes place tokens)
      (length x.1) x (record { text = g.text; front = g.front f; room = omega arith })))
    where
      none_left : (rest : List Token) → length rest ≤ 0 → begins kinds.OpenBrace rest ≡ false
      none_left [] e = refl
      none_left (token ∷ rest) e = absurd (omega arith)

      last : (x : Forest × List Token) → Keeps place tokens zero x → GotPrimary place tokens x
      last x k = ended place tokens x k.text k.front (λ b. none_left x.1 k.room)
