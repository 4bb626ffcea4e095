-- Headers are read again.
use Rattle.std.proofs.Common.{◌≡◌, ℕ, ◌≤◌, ◌<◌, Bool, true, false, List, [], ◌∷◌, ◌++◌, length, Some, refl, sym, ap, ◌∙◌, subst, arith}
use Rattle.std.proofs.lemmas.List.{append-nil, length-append}
use Rattle.std.specs.Prelude.{◌||◌}
use Rattle.go_ast.specs.declared.token.Kind.{Kind}
use Rattle.go_ast.specs.declared.token.Kind.TheVariants as kinds
use Rattle.go_ast.specs.declared.token.Token.{Token}
use Rattle.go_grammar.specs.Forests as forms
use Rattle.go_grammar.specs.Forests.{Forest, empty, leaf, node, append, yield}
use Rattle.go_grammar.specs.Shapes as shapes
use Rattle.go_grammar.specs.Shapes.{Shape, Fits, is}
use Rattle.go_grammar.specs.Grammar as sorts
use Rattle.go_grammar.specs.Grammar.{Sort, Context, grammar, is_assign, is_step, is_semicolon}
use Rattle.go_grammar.specs.Tests.{begins, begins_semicolon}
use Rattle.go_grammar.specs.TypeReading.{Plain, Parsers}
use Rattle.go_grammar.specs.StmtReading.{optional_simple_in, header_in, if_rest_in}
use Rattle.go_grammar.proofs.Forests.{yield-append}
use Rattle.go_grammar.proofs.Again.{regroup}
use Rattle.go_grammar.proofs.Cuts.{implies, implied}
use Rattle.go_grammar.proofs.Fronts.{IsFirst}
use Rattle.go_grammar.proofs.Choices.{first_behind, behind, behind_is_not, next_is_not}
use Rattle.go_grammar.proofs.Plans.{unpart}
use Rattle.go_grammar.proofs.TypeChoices.{anything}
use Rattle.go_grammar.proofs.ExprAgain.{block_again}
use Rattle.go_grammar.proofs.Rereads.{Rereads}
use Rattle.go_grammar.proofs.DeclChoices.{ends_expr, ends_header}
use Rattle.go_grammar.proofs.DeclAgain.{ends_all, ends_head}
use Rattle.go_grammar.proofs.SimpleAgain.{EndsSimple, filled_rest, simple_again}

pub narrowed : (test other : Kind → Bool) → implies test other ≡ true → (rest : List Token) → IsFirst test rest → IsFirst other rest
narrowed test other h rest f = record { token = f.token; others = f.others; all = f.all; kind = implied test other h f.token.kind f.kind }

-- what may stand behind a statement, or behind one of a clause
abbrev pub ends_stmt : Kind → Bool
ends_stmt kind = is_semicolon kind || is kind kinds.CloseBrace || is kind kinds.Colon

-- what may stand behind a statement in a header
abbrev pub ends_header_stmt : Kind → Bool
ends_header_stmt kind = is_semicolon kind || is kind kinds.OpenBrace

pub plain_ends : (rest : List Token) → IsFirst ends_stmt rest → EndsSimple sorts.Plain rest
plain_ends rest f = record {
  ends = ends_all Plain rest (narrowed ends_stmt ends_expr refl rest f);
  comma = behind_is_not (λ kind. is kind kinds.Comma) ends_stmt refl rest f;
  assign = behind_is_not is_assign ends_stmt refl rest f;
  define = behind_is_not (λ kind. is kind kinds.Define) ends_stmt refl rest f;
  arrow = behind_is_not (λ kind. is kind kinds.Arrow) ends_stmt refl rest f;
  step = behind_is_not is_step ends_stmt refl rest f;
}

pub header_ends : (rest : List Token) → IsFirst ends_header_stmt rest → EndsSimple sorts.Header rest
header_ends rest f = record {
  ends = ends_head rest (narrowed ends_header_stmt ends_header refl rest f);
  comma = behind_is_not (λ kind. is kind kinds.Comma) ends_header_stmt refl rest f;
  assign = behind_is_not is_assign ends_header_stmt refl rest f;
  define = behind_is_not (λ kind. is kind kinds.Define) ends_header_stmt refl rest f;
  arrow = behind_is_not (λ kind. is kind kinds.Arrow) ends_header_stmt refl rest f;
  step = behind_is_not is_step ends_header_stmt refl rest f;
}

-- before a semicolon or a brace there is no statement
abbrev pub stops : List Token → Bool
stops tokens = begins_semicolon tokens || begins kinds.OpenBrace tokens

or_false : (a b : Bool) → a ≡ false → b ≡ false → (a || b) ≡ false
or_false false b h k = k
or_false true b h k = absurd cc

or_left : (a b : Bool) → a ≡ true → (a || b) ≡ true
or_left true b h = refl
or_left false b h = absurd cc

or_right : (a b : Bool) → b ≡ true → (a || b) ≡ true
or_right true b h = refl
or_right false b h = h

goes_on_here : (tree : Forest) (rest : List Token) → Fits grammar (shapes.Part (sorts.Simple sorts.Header)) tree rest → IsFirst anything rest → stops (yield tree ++ rest) ≡ false
goes_on_here tree rest x f = or_false (begins_semicolon (yield tree ++ rest)) (begins kinds.OpenBrace (yield tree ++ rest)) (next_is_not is_semicolon _ anything refl tree rest x f) (next_is_not (λ kind. is kind kinds.OpenBrace) _ anything refl tree rest x f)

pub brace_stops : (rest : List Token) → begins kinds.OpenBrace rest ≡ true → stops rest ≡ true
brace_stops rest h = or_right (begins_semicolon rest) (begins kinds.OpenBrace rest) h

pub semicolon_stops : (rest : List Token) → begins_semicolon rest ≡ true → stops rest ≡ true
semicolon_stops rest h = or_left (begins_semicolon rest) (begins kinds.OpenBrace rest) h

pub semicolon_ends : (token : Token) (rest : List Token) → is_semicolon token.kind ≡ true → EndsSimple sorts.Header (token ∷ rest)
semicolon_ends token rest h = header_ends (token ∷ rest) (record { token = token; others = rest; all = refl; kind = or_left (is_semicolon token.kind) (is token.kind kinds.OpenBrace) h })

pub braced_ends : (rest : List Token) → IsFirst (λ kind. is kind kinds.OpenBrace) rest → EndsSimple sorts.Header rest
braced_ends rest f = header_ends rest (narrowed (λ kind. is kind kinds.OpenBrace) ends_header_stmt refl rest f)

pub block_brace : {tree : Forest} {rest : List Token} → Fits grammar (shapes.Part sorts.Block) tree rest → IsFirst anything rest → IsFirst (λ kind. is kind kinds.OpenBrace) (yield tree ++ rest)
block_brace {tree} {rest} x f = narrowed (behind (shapes.Part sorts.Block) anything) (λ kind. is kind kinds.OpenBrace) refl (yield tree ++ rest) (first_behind anything x f)

-- an expression as a statement
pub expr_stmt : (tree : Forest) (rest : List Token) → Fits grammar (sorts.Expr sorts.Header) tree rest → Fits grammar (shapes.Part (sorts.Simple sorts.Header)) (node forms.ExprForm tree empty) rest
expr_stmt tree rest x = shapes.part (shapes.first (shapes.first (shapes.below x)))

-- the tokens of an expression as a statement, with what stands behind it
pub expr_text : (expr body : Forest) (rest : List Token) → yield (node forms.ExprForm expr empty) ++ (yield body ++ rest) ≡ yield (append expr body) ++ rest
expr_text expr body rest = ap (λ (front : List Token). front ++ (yield body ++ rest)) (append-nil (yield expr)) ∙ sym (regroup expr body rest)

module _ (p : Parsers) (depth : ℕ) (r : Rereads p depth) where
  pub optional_some : (tree : Forest) (rest : List Token) → Fits grammar (shapes.Part (sorts.Simple sorts.Header)) tree rest → EndsSimple sorts.Header rest → length (yield tree) < depth → optional_simple_in p (yield tree ++ rest) ≡ Some (tree, rest)
  optional_some tree rest x h le =
      let no : stops (yield tree ++ rest) ≡ false = goes_on_here tree rest x (filled_rest h.ends) in
      rw no (simple_again p depth r sorts.Header tree rest x h le)

  pub optional_none : (rest : List Token) → stops rest ≡ true → optional_simple_in p rest ≡ Some (empty, rest)
  optional_none rest h = rw h refl

  pub header_again : (init last : Forest) (rest : List Token) → Fits grammar sorts.init init (yield last ++ rest) → optional_simple_in p (yield last ++ rest) ≡ Some (last, rest) → begins_semicolon rest ≡ false → length (yield init) < depth
      → header_in p (yield init ++ (yield last ++ rest)) ≡ Some (record { init = init; last = last }, rest)
  header_again init last rest x read h le = go x refl read le
    where
      go : {init : Forest} {tokens : List Token} → Fits grammar sorts.init init tokens → tokens ≡ yield last ++ rest → optional_simple_in p (yield last ++ rest) ≡ Some (last, rest) → length (yield init) < depth → header_in p (yield init ++ tokens) ≡ Some (record { init = init; last = last }, rest)
      go {tokens = tokens} (shapes.first (shapes.both {left = stmt} (shapes.first x) (shapes.sign {token = semicolon} s))) e read le =
          let one = optional_some stmt (semicolon ∷ tokens) x (semicolon_ends semicolon tokens s) (omega (arith, le, ap length (yield-append stmt (leaf semicolon empty)), length-append (yield stmt) (semicolon ∷ []))) in
          let two : optional_simple_in p tokens ≡ Some (last, rest) = ap (optional_simple_in p) e ∙ read in
          rw (regroup stmt (leaf semicolon empty) tokens, one, s, two) refl
      go {tokens = tokens} (shapes.first (shapes.both (shapes.second shapes.nothing) (shapes.sign {token = semicolon} s))) e read le =
          let one = optional_none (semicolon ∷ tokens) (semicolon_stops (semicolon ∷ tokens) s) in
          let two : optional_simple_in p tokens ≡ Some (last, rest) = ap (optional_simple_in p) e ∙ read in
          rw (one, s, two) refl
      go {tokens = tokens} (shapes.second shapes.nothing) e read le =
          let two : optional_simple_in p tokens ≡ Some (last, rest) = ap (optional_simple_in p) e ∙ read in
          rw (two, h) refl

  pub if_rest_again : (tree : Forest) (rest : List Token) → Fits grammar (shapes.Part sorts.IfRest) tree rest → IsFirst anything rest → length (yield tree) ≤ depth → if_rest_in p (yield tree ++ rest) ≡ Some (tree, rest)
  if_rest_again tree rest x f le = go (unpart x) f le
    where
      go : {tree : Forest} {rest : List Token} → Fits grammar (grammar sorts.IfRest) tree rest → IsFirst anything rest → length (yield tree) ≤ depth → if_rest_in p (yield tree ++ rest) ≡ Some (tree, rest)
      go (shapes.both (shapes.sign {token = word} w) (shapes.both {left = init} i (shapes.both {left = condition} {right = body} {rest = rest} c b))) f le =
          let brace = block_brace b f in
          let last = node forms.ExprForm condition empty in
          let text : yield last ++ (yield body ++ rest) ≡ yield (append condition body) ++ rest = expr_text condition body rest in
          let i' = subst (λ (behind : List Token). Fits grammar sorts.init init behind) (sym text) i in
          let long = ap length (append-nil (yield condition)) in
          let all = length-append (yield init) (yield (append condition body)) in
          let split = ap length (yield-append init (append condition body)) in
          let inner = ap length (yield-append condition body) in
          let two = length-append (yield condition) (yield body) in
          let opt = optional_some last (yield body ++ rest) (expr_stmt condition (yield body ++ rest) c) (braced_ends (yield body ++ rest) brace) (omega (arith, le, all, split, inner, two, long)) in
          let header = header_again init last (yield body ++ rest) i' opt (behind_is_not is_semicolon (λ kind. is kind kinds.OpenBrace) refl (yield body ++ rest) brace) (omega (arith, le, all, split, inner, two)) in
          let block = block_again p depth r body rest b (omega (arith, le, all, split, inner, two)) in
          let read : if_rest_in p (word ∷ (yield init ++ (yield last ++ (yield body ++ rest)))) ≡ Some (leaf word (append init (append condition body)), rest) = rw (w, header, block) refl in
          ap (λ (ws : List Token). if_rest_in p (word ∷ ws)) (regroup init (append condition body) rest ∙ ap (λ (ws : List Token). yield init ++ ws) (sym text)) ∙ read
