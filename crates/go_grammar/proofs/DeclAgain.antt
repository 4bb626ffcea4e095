-- Declarations and imports are read again.
use Rattle.std.proofs.Common.{◌≡◌, ℕ, ◌≤◌, ◌<◌, Bool, true, false, List, [], ◌∷◌, ◌++◌, length, Some, None, refl, ap, ◌∙◌, arith}
use Rattle.std.proofs.lemmas.Bool.{eqb-true}
use Rattle.std.specs.Prelude.{◌&&◌, ◌||◌, not, ◌==◌}
use Rattle.go_ast.specs.declared.token.Kind.{Kind}
use Rattle.go_ast.specs.declared.token.Kind.TheVariants as kinds
use Rattle.go_ast.specs.declared.token.Token.{Token}
use Rattle.go_grammar.specs.Forests.{Forest, yield}
use Rattle.go_grammar.specs.Shapes as shapes
use Rattle.go_grammar.specs.Shapes.{Fits, is}
use Rattle.go_grammar.specs.Grammar as sorts
use Rattle.go_grammar.specs.Grammar.{Sort, Context, grammar, precedence, is_semicolon}
use Rattle.go_grammar.specs.Tests.{begins_semicolon}
use Rattle.go_grammar.specs.TypeReading.{Place, Plain, Header, Item, Parsers}
use Rattle.go_grammar.specs.StmtReading.{ends_statements, at_part, const_spec_plan, type_spec_plan, var_spec_plan, at_spec, decl_plan, decl_in, import_spec_plan, at_import, import_plan}
use Rattle.go_grammar.proofs.TypeTakes.{tight}
use Rattle.go_grammar.proofs.SameKinds.{is_same}
use Rattle.go_grammar.proofs.Fronts.{IsFirst}
use Rattle.go_grammar.proofs.Choices.{IsRoomy}
use Rattle.go_grammar.proofs.Plans.{unpart, plan_again}
use Rattle.go_grammar.proofs.TypeAgain.{signature_again}
use Rattle.go_grammar.proofs.ExprAgain.{block_again}
use Rattle.go_grammar.proofs.Rereads.{Rereads, ends_by, ends_operand}
use Rattle.go_grammar.proofs.DeclChoices.{extends, ends_expr, ends_header, ends_lines, follow_part, deficit_part, ends_spec, follow_spec, follow_import, deficit_spec, ends_decl, const_spec_sure, type_spec_sure, var_spec_sure, decl_sure, import_spec_sure, import_sure}
use Rattle.go_grammar.proofs.FirstBad.{ReadAgain}

-- ---- what ends an expression

-- no operand goes on, and no operator binds
pub record Ends (place : Place) (rest : List Token) : Type 0 where
  pub operand : ends_operand place rest ≡ true
  pub operator : tight rest < 1

ends_by_kind : (place : Place) (kind : Kind) (others : List Token) → extends kind ≡ false → ends_by place kind others ≡ true
ends_by_kind place kinds.Dot others h = absurd cc
ends_by_kind place kinds.OpenBracket others h = absurd cc
ends_by_kind place kinds.OpenParen others h = absurd cc
ends_by_kind place kinds.OpenBrace others h = absurd cc
ends_by_kind place _ others h = refl

and_parts : (a b : Bool) → (a && b) ≡ true → (a ≡ true) × (b ≡ true)
and_parts true true h = (refl, refl)
and_parts true false h = absurd cc
and_parts false b h = absurd cc

not_true : (b : Bool) → not b ≡ true → b ≡ false
not_true false h = refl
not_true true h = absurd cc

pub ends_first : (place : Place) (token : Token) (others : List Token) → ends_expr token.kind ≡ true → Ends place (token ∷ others)
ends_first place token others h =
    let b = and_parts (not (extends token.kind)) (precedence token.kind == 0) h in
    record { operand = ends_by_kind place token.kind others (not_true (extends token.kind) b.0); operator = omega (arith, eqb-true (precedence token.kind) 0 b.1) }

pub ends_all : (place : Place) (rest : List Token) → IsFirst ends_expr rest → Ends place rest
ends_all place rest f = rw f.all (ends_first place f.token f.others f.kind)

brace_first : (token : Token) (others : List Token) → token.kind ≡ kinds.OpenBrace → Ends Header (token ∷ others)
brace_first token others e = record { operand = rw e refl; operator = rw e (omega arith) }

pub ends_head : (rest : List Token) → IsFirst ends_header rest → Ends Header rest
ends_head rest f = rw f.all (go (is f.token.kind kinds.OpenBrace) refl)
  where
    go : (b : Bool) → is f.token.kind kinds.OpenBrace ≡ b → Ends Header (f.token ∷ f.others)
    go true e = brace_first f.token f.others (is_same f.token.kind kinds.OpenBrace e)
    go false e = ends_first Header f.token f.others (rw e at f.kind)

pub lines_end : (rest : List Token) → IsFirst ends_lines rest → ends_statements rest ≡ true
lines_end rest f = ap ends_statements f.all ∙ f.kind

-- ---- parts

module _ (p : Parsers) (depth : ℕ) (r : Rereads p depth) where
  pub at_part_again : (sort : Sort) (tree : Forest) (rest : List Token) → Fits grammar (shapes.Part sort) tree rest → IsRoomy follow_part deficit_part depth sort tree rest → at_part p sort (yield tree ++ rest) ≡ Some (tree, rest)
  at_part_again (sorts.Binary sorts.Disjunction sorts.Plain) tree rest x room =
      let le = room.fits in
      let ends = ends_all Plain rest room.next in
      r.expr Plain 1 tree rest (omega arith) (omega arith) x ends.operand ends.operator (omega (arith, le))
  at_part_again (sorts.Binary sorts.Disjunction sorts.Header) tree rest x room =
      let le = room.fits in
      let ends = ends_head rest room.next in
      r.expr Header 1 tree rest (omega arith) (omega arith) x ends.operand ends.operator (omega (arith, le))
  at_part_again sorts.Item tree rest x room =
      let le = room.fits in
      let ends = ends_all Item rest room.next in
      r.expr Item 1 tree rest (omega arith) (omega arith) (unpart x) ends.operand ends.operator (omega (arith, le))
  at_part_again sorts.AnyType tree rest x room = let le = room.fits in r.type_expr tree rest x room.next (omega (arith, le))
  at_part_again sorts.Signature tree rest x room = let le = room.fits in signature_again p depth r tree rest x room.next (omega (arith, le))
  at_part_again sorts.Block tree rest x room = let le = room.fits in block_again p depth r tree rest x (omega (arith, le))
  at_part_again sorts.Lines tree rest x room = let le = room.fits in r.statements tree rest x (lines_end rest room.next) (omega (arith, le))
  at_part_again _ tree rest x room = let clash : false ≡ true = room.next.kind in absurd cc

  -- ---- declarations

  at_spec_again : (sort : Sort) (tree : Forest) (rest : List Token) → Fits grammar (shapes.Part sort) tree rest → IsRoomy follow_spec deficit_spec depth sort tree rest → at_spec p sort (yield tree ++ rest) ≡ Some (tree, rest)
  at_spec_again sorts.ConstSpec tree rest x room = plan_again follow_part deficit_part depth (at_part p) at_part_again const_spec_plan ends_spec 0 const_spec_sure (unpart x) room.next room.fits
  at_spec_again sorts.TypeSpec tree rest x room = plan_again follow_part deficit_part depth (at_part p) at_part_again type_spec_plan ends_spec 0 type_spec_sure (unpart x) room.next room.fits
  at_spec_again sorts.VarSpec tree rest x room = plan_again follow_part deficit_part depth (at_part p) at_part_again var_spec_plan ends_spec 0 var_spec_sure (unpart x) room.next room.fits
  at_spec_again _ tree rest x room = let clash : false ≡ true = room.next.kind in absurd cc

  pub decl_again : (tree : Forest) (rest : List Token) → Fits grammar (shapes.Part sorts.LocalDecl) tree rest → IsFirst ends_decl rest → length (yield tree) ≤ depth → decl_in p (yield tree ++ rest) ≡ Some (tree, rest)
  decl_again tree rest x f le = plan_again follow_spec deficit_spec depth (at_spec p) at_spec_again decl_plan ends_decl 0 decl_sure (unpart x) f (omega (arith, le))

-- ---- imports

abbrev no_sort : Sort → Kind → Bool
no_sort sort kind = false

at_import_again : (room : ℕ) (sort : Sort) (tree : Forest) (rest : List Token) → Fits grammar (shapes.Part sort) tree rest → IsRoomy follow_import deficit_spec room sort tree rest → at_import sort (yield tree ++ rest) ≡ Some (tree, rest)
at_import_again room sorts.ImportSpec tree rest x k = plan_again no_sort deficit_spec room (λ sort tokens. None) (λ sort tree rest y r. let clash : false ≡ true = r.next.kind in absurd cc) import_spec_plan ends_spec 0 (import_spec_sure no_sort deficit_spec) (unpart x) k.next k.fits
at_import_again room _ tree rest x k = let clash : false ≡ true = k.next.kind in absurd cc

or_left : (a b : Bool) → a ≡ true → (a || b) ≡ true
or_left true b h = refl
or_left false b h = absurd cc

pub semicolon_first : (rest : List Token) → begins_semicolon rest ≡ true → IsFirst ends_decl rest
semicolon_first [] h = absurd cc
semicolon_first (token ∷ rest) h = record { token = token; others = rest; all = refl; kind = or_left (is_semicolon token.kind) (is token.kind kinds.CloseBrace) h }

pub import_again : (p : Parsers) (depth : ℕ) → ReadAgain p depth sorts.Import
import_again p depth tree rest x h le = plan_again follow_import deficit_spec depth at_import (at_import_again depth) import_plan ends_decl 0 import_sure (unpart x) (semicolon_first rest h) (omega (arith, le))
