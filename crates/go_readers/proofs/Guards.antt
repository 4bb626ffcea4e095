-- What is read before the braces of a `switch`.
use Rattle.std.proofs.Common.{◌≡◌, true, List, Option, Some, None, refl, sym, ap, ◌∙◌}
use Rattle.go_ast.specs.declared.token.Token.{Token}
use Rattle.go_ast.specs.declared.token.Kind.TheVariants as kinds
use Rattle.go_grammar.specs.Forests as forms
use Rattle.go_grammar.specs.Forests.{Forest, empty, node, append}
use Rattle.go_grammar.specs.Reading.{Reader, ◌>>=◌, then_in, run}
use Rattle.go_grammar.specs.Tests.{begins, word_in}
use Rattle.go_grammar.specs.TypeReading.{Parsers}
use Rattle.go_grammar.specs.ExprReading.{Left}
use Rattle.go_grammar.specs.StmtReading.{HeaderParts, at_clauses, guard_of, guard_plan, switch_rest_in, switch_in, header_in}
use Rattle.go_grammar.specs.View.{one, tree}
use Rattle.go_grammar.proofs.Forests.{append-assoc}
use Rattle.go_fragments.specs.Statements.{suffix_in}
use Rattle.go_readers.specs.Statements.{clauses_in}
use Rattle.go_fragments.proofs.Loops.{behind}
use Rattle.go_fragments.specs.declared.stop.Stop.{Stop}
use Rattle.go_fragments.specs.declared.stop.Stop.TheVariants as stops
use Rattle.go_fragments.specs.Giving.{Fails}
use Rattle.go_readers.proofs.Statements.{below_node, then_assoc}

then_same : (a b c : Reader) (tokens : List Token) → ((rest : List Token) → b rest ≡ c rest) → then_in a b tokens ≡ then_in a c tokens
then_same a b c tokens same = go (a tokens)
  where
    go : (o : Option Left) → (o >>= (λ x. behind x.0 (b x.1))) ≡ (o >>= (λ x. behind x.0 (c x.1)))
    go None = refl
    go (Some x) = ap (behind x.0) (same x.1)

four_and_one : (a b c d e : Reader) (tokens : List Token) → then_in a (then_in b (then_in c (then_in d e))) tokens ≡ then_in (then_in a (then_in b (then_in c d))) e tokens
four_and_one a b c d e tokens =
    then_same a (then_in b (then_in c (then_in d e))) (then_in b (then_in (then_in c d) e)) tokens (λ rest. then_same b (then_in c (then_in d e)) (then_in (then_in c d) e) rest (then_assoc c d e))
    ∙ then_same a (then_in b (then_in (then_in c d) e)) (then_in (then_in b (then_in c d)) e) tokens (then_assoc b (then_in c d) e)
    ∙ then_assoc a (then_in b (then_in c d)) e tokens

-- ---- guards

guard_parts : (p : Parsers) (tokens : List Token) → run (at_clauses p) guard_plan tokens ≡ then_in suffix_in (clauses_in p) tokens
guard_parts p tokens = four_and_one (word_in kinds.Dot) (word_in kinds.OpenParen) (word_in kinds.TypeWord) (word_in kinds.CloseParen) (clauses_in p) tokens

module _ (p : Parsers) (opened : Forest) (parts : HeaderParts) (tokens : List Token) where
  pub switch_guarded : (guard : Forest) → begins kinds.Dot tokens ≡ true → guard_of parts.last ≡ Some guard → switch_rest_in p opened parts tokens ≡ below_node forms.TypeSwitchForm (append opened (append parts.init guard)) (then_in suffix_in (clauses_in p) tokens)
  switch_guarded guard d g = rw (d, g) (go (run (at_clauses p) guard_plan tokens) ∙ ap (below_node forms.TypeSwitchForm (append opened (append parts.init guard))) (guard_parts p tokens))
    where
      go : (o : Option Left) → (o >>= λ x. Some (node forms.TypeSwitchForm (append opened (append parts.init (append guard x.0))) empty, x.1)) ≡ below_node forms.TypeSwitchForm (append opened (append parts.init guard)) o
      go None = refl
      go (Some x) = ap (λ (tree : Forest). Some (node forms.TypeSwitchForm tree empty, x.1)) (sym (append-assoc opened (append parts.init guard) x.0 ∙ ap (append opened) (append-assoc parts.init guard x.0)))

then_step : (a b : Reader) (tokens : List Token) (o : Option Left) → a tokens ≡ o → then_in a b tokens ≡ (o >>= λ x. behind x.0 (b x.1))
then_step a b tokens o h = ap (λ (read : Option Left). read >>= λ x. behind x.0 (b x.1)) h

-- a `switch` behind its header
module _ (p : Parsers) (tokens rest after : List Token) (word : Token) (parts : HeaderParts) (w : word_in kinds.SwitchWord tokens ≡ Some (one word, rest)) (h : header_in p rest ≡ Some (parts, after)) where
  switched : switch_in p tokens ≡ switch_rest_in p (one word) parts after
  switched = rw (w, h) refl

  pub guarded : (guard suffix body : Forest) (next last : List Token) → begins kinds.Dot after ≡ true → guard_of parts.last ≡ Some guard → suffix_in after ≡ Some (suffix, next) → clauses_in p next ≡ Some (body, last)
      → switch_in p tokens ≡ Some (node forms.TypeSwitchForm (append (one word) (append parts.init (append guard (append suffix body)))) empty, last)
  guarded guard suffix body next last d g s b =
      let front : Forest = append (one word) (append parts.init guard) in
      let read : then_in suffix_in (clauses_in p) after ≡ Some (append suffix body, last) = then_step suffix_in (clauses_in p) after (Some (suffix, next)) s ∙ ap (behind suffix) b in
      switched ∙ switch_guarded p (one word) parts after guard d g ∙ ap (below_node forms.TypeSwitchForm front) read
      ∙ ap (λ (below : Forest). Some (node forms.TypeSwitchForm below empty, last)) (append-assoc (one word) (append parts.init guard) (append suffix body) ∙ ap (append (one word)) (append-assoc parts.init guard (append suffix body)))

  pub no_guard : (stop : Stop) → begins kinds.Dot after ≡ true → Fails stop (guard_of parts.last) → Fails stop (switch_in p tokens)
  no_guard stops.Memory d g = tt
  no_guard stops.Unexpected d g = switched ∙ rw (d, g) refl

  pub no_suffix : (stop : Stop) (guard : Forest) → begins kinds.Dot after ≡ true → guard_of parts.last ≡ Some guard → Fails stop (suffix_in after) → Fails stop (switch_in p tokens)
  no_suffix stops.Memory guard d g s = tt
  no_suffix stops.Unexpected guard d g s =
      switched ∙ switch_guarded p (one word) parts after guard d g ∙ ap (below_node forms.TypeSwitchForm (append (one word) (append parts.init guard))) (then_step suffix_in (clauses_in p) after None s)

  pub no_clauses : (stop : Stop) (guard suffix : Forest) (next : List Token) → begins kinds.Dot after ≡ true → guard_of parts.last ≡ Some guard → suffix_in after ≡ Some (suffix, next) → Fails stop (clauses_in p next) → Fails stop (switch_in p tokens)
  no_clauses stops.Memory guard suffix next d g s b = tt
  no_clauses stops.Unexpected guard suffix next d g s b =
      switched ∙ switch_guarded p (one word) parts after guard d g ∙ ap (below_node forms.TypeSwitchForm (append (one word) (append parts.init guard))) (then_step suffix_in (clauses_in p) after (Some (suffix, next)) s ∙ ap (behind suffix) b)
