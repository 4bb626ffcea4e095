-- Files that are the same have the same package name and the same imports.
use Rattle.std.proofs.Common.{◌≡◌, ℕ, min, List, [], ◌∷◌, ◌++◌, length, map, Option, Some, None, refl, sym, ap, ◌∙◌, append_assoc}
use Rattle.std.specs.List.{flat_map}
use Rattle.go_ast.specs.declared.token.Token.{Token}
use Rattle.go_base.specs.declared.rule.Rule.{Rule}
use Rattle.go_grammar.proofs.Views.{view_decl_const, view_decl_type_decl, view_decl_var, view_decl_func, view_func_decl_made}
use Rattle.go_grammar.specs.Forests as forms
use Rattle.go_grammar.specs.Forests.{Form, Forest, empty, leaf, node, append}
use Rattle.go_grammar.specs.View.{one, tree, ◌⊕◌, each, token_if, view_import_spec, view_import, view_line, view_decl, view_func_decl, view_file}
use Rattle.go_finding.specs.Imports.{Import, written_path, import_of, imports_of_decl}
use Rattle.go_finding.specs.Modules.{Broken}
use Rattle.load_laws.specs.OneReading.{IsSameFile}
use Rattle.go_finding.specs.Programs.{File, broken_at, imports_in, name_of}
use Rattle.go_sources.specs.Packages.{text_in}
use Rattle.go_sources.specs.Places.{place_in}
use Rattle.go_syntax.specs.declared.decls.Decl.{Decl}
use Rattle.go_syntax.specs.declared.decls.Decl.TheOpen as layers
use Rattle.go_syntax.specs.declared.decls.Decl.TheOpen.{Decl-F}
use Rattle.go_syntax.specs.declared.exprs.Expr.{Expr}
use Rattle.go_syntax.specs.declared.stmts.Stmt.{Stmt}
use Rattle.go_syntax.specs.declared.type_exprs.ElementLine.{ElementLine}
use Rattle.go_syntax.specs.declared.type_exprs.FieldLine.{FieldLine}
use Rattle.go_syntax.specs.declared.type_exprs.ResultForm.{ResultForm}
use Rattle.go_syntax.specs.declared.type_exprs.TypeExpr.{TypeExpr}
use Rattle.go_syntax.specs.declared.decls.TypeSpec.{TypeSpec}
use Rattle.go_syntax.specs.declared.decls.ValueSpec.{ValueSpec}
use Rattle.go_syntax.specs.declared.exprs.Element.{Element}
use Rattle.go_syntax.specs.declared.exprs.ListedExpr.{ListedExpr}
use Rattle.go_syntax.specs.declared.stmts.Block.{Block}
use Rattle.go_syntax.specs.declared.stmts.CaseClause.{CaseClause}
use Rattle.go_syntax.specs.declared.stmts.CommClause.{CommClause}
use Rattle.go_syntax.specs.declared.stmts.ForStmt.{ForStmt}
use Rattle.go_syntax.specs.declared.stmts.IfArm.{IfArm}
use Rattle.go_syntax.specs.declared.stmts.RangeStmt.{RangeStmt}
use Rattle.go_syntax.specs.declared.stmts.StmtLine.{StmtLine}
use Rattle.go_syntax.specs.declared.stmts.SwitchStmt.{SwitchStmt}
use Rattle.go_syntax.specs.declared.stmts.TypeSwitchStmt.{TypeSwitchStmt}
use Rattle.go_syntax.specs.declared.type_exprs.Param.{Param}
use Rattle.go_syntax.specs.declared.type_exprs.Params.{Params}
use Rattle.go_syntax.specs.declared.type_exprs.Signature.{Signature}
use Rattle.go_syntax.specs.declared.decls.Decl.TheVariants as decls
use Rattle.go_syntax.specs.declared.decls.Decl.TheViews.{out-Decl, out-FuncDecl, roll-Decl, roll-out-Decl, roll-out-FuncDecl}
use Rattle.go_syntax.specs.declared.decls.DeclLine.{DeclLine}
use Rattle.go_syntax.specs.declared.decls.FileTree.{FileTree}
use Rattle.go_syntax.specs.declared.decls.FuncDecl.{FuncDecl}
use Rattle.go_syntax.specs.declared.decls.ImportDecl.{ImportDecl}
use Rattle.go_syntax.specs.declared.decls.ImportSpec.{ImportSpec}

-- ---- what nodes at the top of a forest hold

abbrev collect : (Form → Forest → List Token) → Forest → List Token
collect pick empty = []
collect pick (leaf token behind) = collect pick behind
collect pick (node form below behind) = pick form below ++ collect pick behind

collect_append : (pick : Form → Forest → List Token) (a b : Forest) → collect pick (append a b) ≡ collect pick a ++ collect pick b
collect_append pick empty b = refl
collect_append pick (leaf token behind) b = collect_append pick behind b
collect_append pick (node form below behind) b =
    ap (λ (tokens : List Token). pick form below ++ tokens) (collect_append pick behind b)
    ∙ sym (append_assoc (pick form below) (collect pick behind) (collect pick b))

-- the path of an import specification: its last token
abbrev spec_path : Forest → List Token
spec_path empty = []
spec_path (leaf token empty) = token ∷ []
spec_path (leaf token (leaf path behind)) = path ∷ []
spec_path (leaf token (node form below behind)) = []
spec_path (node form below behind) = []

abbrev pick_spec : Form → Forest → List Token
pick_spec forms.ImportSpecForm below = spec_path below
pick_spec _ below = []

abbrev pick_import : Form → Forest → List Token
pick_import forms.ImportForm below = collect pick_spec below
pick_import _ below = []

abbrev paths_of : ImportDecl → List Token
paths_of decl = flat_map (λ (spec : ImportSpec). spec.path ∷ []) decl.specs.items

token_none : (pick : Form → Forest → List Token) (token : Option Token) → collect pick (token_if token) ≡ []
token_none pick None = refl
token_none pick (Some token) = refl

each_collect : {A : Type 0} (pick : Form → Forest → List Token) (view : A → Forest) (got : A → List Token) → ((x : A) → collect pick (view x) ≡ got x) → (xs : List A) → collect pick (each view xs) ≡ flat_map got xs
each_collect pick view got h [] = refl
each_collect pick view got h (x ∷ xs) =
    collect_append pick (view x) (each view xs)
    ∙ ap (λ (tokens : List Token). tokens ++ collect pick (each view xs)) (h x)
    ∙ ap (λ (tokens : List Token). got x ++ tokens) (each_collect pick view got h xs)

spec_seen : (name : Option Token) (path : Token) (semicolon : Option Token) → collect pick_spec (tree forms.ImportSpecForm (token_if name ⊕ one path) ⊕ token_if semicolon) ≡ path ∷ []
spec_seen None path None = refl
spec_seen None path (Some semicolon) = refl
spec_seen (Some name) path None = refl
spec_seen (Some name) path (Some semicolon) = refl

view_spec_seen : (spec : ImportSpec) → collect pick_spec (view_import_spec spec) ≡ spec.path ∷ []
view_spec_seen spec = spec_seen spec.name spec.path spec.semicolon

append_none : (xs : List Token) → xs ++ [] ≡ xs
append_none [] = refl
append_none (x ∷ xs) = ap (λ (tokens : List Token). x ∷ tokens) (append_none xs)

-- behind what holds nothing
behind_none : (pick : Form → Forest → List Token) (token : Option Token) (rest : Forest) → collect pick (token_if token ⊕ rest) ≡ collect pick rest
behind_none pick None rest = refl
behind_none pick (Some token) rest = refl

before_none : (pick : Form → Forest → List Token) (front : Forest) (token : Option Token) → collect pick (front ⊕ token_if token) ≡ collect pick front
before_none pick front token =
    collect_append pick front (token_if token)
    ∙ ap (λ (tokens : List Token). collect pick front ++ tokens) (token_none pick token)
    ∙ append_none (collect pick front)

import_seen : (decl : ImportDecl) → collect pick_import (view_import decl) ≡ paths_of decl
import_seen decl =
    append_none (collect pick_spec (token_if decl.«open» ⊕ each view_import_spec decl.specs.items ⊕ token_if decl.close))
    ∙ behind_none pick_spec decl.«open» (each view_import_spec decl.specs.items ⊕ token_if decl.close)
    ∙ before_none pick_spec (each view_import_spec decl.specs.items) decl.close
    ∙ each_collect pick_spec view_import_spec (λ (spec : ImportSpec). spec.path ∷ []) view_spec_seen decl.specs.items

func_seen : (func : FuncDecl) → collect pick_import (view_func_decl func) ≡ []
func_seen func =
    ap (λ (f : FuncDecl). collect pick_import (view_func_decl f)) (sym (roll-out-FuncDecl func))
    ∙ ap (collect pick_import) (view_func_decl_made (out-FuncDecl func))

laid_seen : (decl : Decl-F Decl Expr Stmt ElementLine FieldLine ResultForm TypeExpr FuncDecl TypeSpec ValueSpec Element ListedExpr Block CaseClause CommClause ForStmt IfArm RangeStmt StmtLine SwitchStmt TypeSwitchStmt Param Params Signature) → collect pick_import (view_decl (roll-Decl decl)) ≡ []
laid_seen (layers.Decl-F.Const word «open» specs close) = ap (λ (d : Decl). collect pick_import (view_decl d)) (decls.rolls-Const word «open» specs close) ∙ ap (collect pick_import) (view_decl_const word «open» specs close)
laid_seen (layers.Decl-F.TypeDecl word «open» specs close) = ap (λ (d : Decl). collect pick_import (view_decl d)) (decls.rolls-TypeDecl word «open» specs close) ∙ ap (collect pick_import) (view_decl_type_decl word «open» specs close)
laid_seen (layers.Decl-F.Var word «open» specs close) = ap (λ (d : Decl). collect pick_import (view_decl d)) (decls.rolls-Var word «open» specs close) ∙ ap (collect pick_import) (view_decl_var word «open» specs close)
laid_seen (layers.Decl-F.Func decl) = ap (λ (d : Decl). collect pick_import (view_decl d)) (decls.rolls-Func decl) ∙ ap (collect pick_import) (view_decl_func decl) ∙ func_seen decl.value

decl_seen : (decl : Decl) → collect pick_import (view_decl decl) ≡ []
decl_seen decl = ap (λ (d : Decl). collect pick_import (view_decl d)) (sym (roll-out-Decl decl)) ∙ laid_seen (out-Decl decl)

line_seen : (line : DeclLine) → collect pick_import (view_line line) ≡ []
line_seen line =
    collect_append pick_import (view_decl line.decl) (one line.semicolon)
    ∙ append_none (collect pick_import (view_decl line.decl))
    ∙ decl_seen line.decl

abbrev no_tokens : List Token
no_tokens = []

none_of : {A : Type 0} (xs : List A) → flat_map (λ (x : A). no_tokens) xs ≡ no_tokens
none_of [] = refl
none_of (x ∷ xs) = none_of xs

-- ---- whole files

abbrev below_top : Forest → Forest
below_top empty = empty
below_top (leaf token behind) = empty
below_top (node form below behind) = below

abbrev behind_first : Forest → Forest
behind_first empty = empty
behind_first (leaf token behind) = behind
behind_first (node form below behind) = behind

abbrev first_token : Forest → Option Token
first_token empty = None
first_token (leaf token behind) = Some token
first_token (node form below behind) = None

abbrev name_seen : Forest → Option Token
name_seen forest = first_token (behind_first (below_top forest))

abbrev paths_seen : Forest → List Token
paths_seen forest = collect pick_import (below_top forest)

all_paths : (file : FileTree) → paths_seen (view_file file) ≡ flat_map paths_of file.imports.items
all_paths file =
    collect_append pick_import (each view_import file.imports.items) (each view_line file.decls.items)
    ∙ ap (λ (tokens : List Token). collect pick_import (each view_import file.imports.items) ++ tokens) (each_collect pick_import view_line (λ (line : DeclLine). no_tokens) line_seen file.decls.items ∙ none_of file.decls.items)
    ∙ append_none (collect pick_import (each view_import file.imports.items))
    ∙ each_collect pick_import view_import paths_of import_seen file.imports.items

same_paths : (a b : FileTree) → view_file a ≡ view_file b → flat_map paths_of a.imports.items ≡ flat_map paths_of b.imports.items
same_paths a b e = sym (all_paths a) ∙ ap paths_seen e ∙ all_paths b

some_same : {A : Type 0} (a b : A) → Some a ≡ Some b → a ≡ b
some_same a b e = cc e

same_tree_name : (a b : FileTree) → view_file a ≡ view_file b → a.name ≡ b.name
same_tree_name a b e = some_same a.name b.name (ap name_seen e)

abbrev import_at : List ℕ → Token → Import
import_at bytes token = record { literal = token; path = written_path (text_in bytes token) }

map_append : {A B : Type 0} (f : A → B) (xs ys : List A) → map f (xs ++ ys) ≡ map f xs ++ map f ys
map_append f [] ys = refl
map_append f (x ∷ xs) ys = ap (λ zs. f x ∷ zs) (map_append f xs ys)

specs_at : (bytes : List ℕ) (specs : List ImportSpec) → map (import_of bytes) specs ≡ map (import_at bytes) (flat_map (λ (spec : ImportSpec). spec.path ∷ []) specs)
specs_at bytes [] = refl
specs_at bytes (spec ∷ specs) = ap (λ (imports : List Import). import_of bytes spec ∷ imports) (specs_at bytes specs)

decls_at : (bytes : List ℕ) (all : List ImportDecl) → flat_map (imports_of_decl bytes) all ≡ map (import_at bytes) (flat_map paths_of all)
decls_at bytes [] = refl
decls_at bytes (decl ∷ all) =
    ap (λ (imports : List Import). imports ++ flat_map (imports_of_decl bytes) all) (specs_at bytes decl.specs.items)
    ∙ ap (λ (imports : List Import). map (import_at bytes) (paths_of decl) ++ imports) (decls_at bytes all)
    ∙ sym (map_append (import_at bytes) (paths_of decl) (flat_map paths_of all))

pub same_imports : (a b : File) → IsSameFile a b → imports_in a ≡ imports_in b
same_imports a b h =
    decls_at a.bytes a.tree.imports.items
    ∙ ap (λ (bytes : List ℕ). map (import_at bytes) (flat_map paths_of a.tree.imports.items)) h.bytes
    ∙ ap (map (import_at b.bytes)) (same_paths a.tree b.tree h.tree)
    ∙ sym (decls_at b.bytes b.tree.imports.items)

pub same_token : (a b : File) → IsSameFile a b → a.tree.name ≡ b.tree.name
same_token a b h = same_tree_name a.tree b.tree h.tree

pub same_name : (a b : File) → IsSameFile a b → name_of a ≡ name_of b
same_name a b h = ap (λ (bytes : List ℕ). text_in bytes a.tree.name) h.bytes ∙ ap (text_in b.bytes) (same_token a b h)

abbrev broken_with : List ℕ → List ℕ → Token → Rule → Broken
broken_with path bytes token rule = record { place = place_in path bytes (min token.start (length bytes)); rule = rule }

pub same_broken : (a b : File) (token : Token) (rule : Rule) → IsSameFile a b → broken_at a token rule ≡ broken_at b token rule
same_broken a b token rule h =
    ap (λ (path : List ℕ). broken_with path a.bytes token rule) h.path
    ∙ ap (λ (bytes : List ℕ). broken_with b.path bytes token rule) h.bytes
