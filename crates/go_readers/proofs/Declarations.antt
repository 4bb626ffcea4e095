-- Which declaration is read, by its first token.
use Rattle.std.proofs.Common.{◌≡◌, refl, ◌∙◌, List, Bool, true, false, if◌then◌else◌}
use Rattle.std.specs.Prelude.{not}
use Rattle.go_ast.specs.declared.token.Kind.TheVariants as kinds
use Rattle.go_ast.specs.declared.token.Token.{Token}
use Rattle.go_grammar.specs.Shapes.{is}
use Rattle.go_grammar.specs.Forests as forms
use Rattle.go_grammar.specs.Grammar as sorts
use Rattle.go_grammar.specs.Grammar.{Sort}
use Rattle.go_grammar.specs.Tests.{begins}
use Rattle.go_grammar.specs.TypeReading.{Parsers}
use Rattle.go_grammar.specs.StmtReading.{decl_in, at_spec}
use Rattle.go_readers.specs.Specs.{group_in, parens_in, declaration_in}

-- ---- choices

if_true : {A : Type 0} (test : Bool) (x y : A) → test ≡ true → (if test then x else y) ≡ x
if_true true x y h = refl
if_true false x y h = absurd cc

if_false : {A : Type 0} (test : Bool) (x y : A) → test ≡ false → (if test then x else y) ≡ y
if_false false x y h = refl
if_false true x y h = absurd cc

if_not : {A : Type 0} (test : Bool) (x y : A) → test ≡ false → (if not test then x else y) ≡ x
if_not false x y h = refl
if_not true x y h = absurd cc

unless : {A : Type 0} (test : Bool) (x y : A) → test ≡ true → (if not test then x else y) ≡ y
unless true x y h = refl
unless false x y h = absurd cc

pub group_parens : (p : Parsers) (sort : Sort) (tokens : List Token) → begins kinds.OpenParen tokens ≡ true → group_in p sort tokens ≡ parens_in p sort tokens
group_parens p sort tokens h = unless (begins kinds.OpenParen tokens) (at_spec p sort tokens) (parens_in p sort tokens) h

pub group_alone : (p : Parsers) (sort : Sort) (tokens : List Token) → begins kinds.OpenParen tokens ≡ false → group_in p sort tokens ≡ at_spec p sort tokens
group_alone p sort tokens h = if_not (begins kinds.OpenParen tokens) (at_spec p sort tokens) (parens_in p sort tokens) h

pub decl_const : (p : Parsers) (tokens : List Token) → begins kinds.ConstWord tokens ≡ true → decl_in p tokens ≡ declaration_in p forms.ConstForm kinds.ConstWord sorts.ConstSpec tokens
decl_const p tokens h = if_true (begins kinds.ConstWord tokens) (declaration_in p forms.ConstForm kinds.ConstWord sorts.ConstSpec tokens) _ h

pub decl_type : (p : Parsers) (tokens : List Token) → begins kinds.ConstWord tokens ≡ false → begins kinds.TypeWord tokens ≡ true → decl_in p tokens ≡ declaration_in p forms.TypeDeclForm kinds.TypeWord sorts.TypeSpec tokens
decl_type p tokens g h =
    if_false (begins kinds.ConstWord tokens) (declaration_in p forms.ConstForm kinds.ConstWord sorts.ConstSpec tokens) _ g
    ∙ if_true (begins kinds.TypeWord tokens) (declaration_in p forms.TypeDeclForm kinds.TypeWord sorts.TypeSpec tokens) _ h

pub decl_var : (p : Parsers) (tokens : List Token) → begins kinds.ConstWord tokens ≡ false → begins kinds.TypeWord tokens ≡ false → decl_in p tokens ≡ declaration_in p forms.VarForm kinds.VarWord sorts.VarSpec tokens
decl_var p tokens g h =
    if_false (begins kinds.ConstWord tokens) (declaration_in p forms.ConstForm kinds.ConstWord sorts.ConstSpec tokens) _ g
    ∙ if_false (begins kinds.TypeWord tokens) (declaration_in p forms.TypeDeclForm kinds.TypeWord sorts.TypeSpec tokens) (declaration_in p forms.VarForm kinds.VarWord sorts.VarSpec tokens) h
