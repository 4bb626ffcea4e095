-- The literals of imports.
use Rattle.std.proofs.Common.{◌≡◌, ℕ, List, [], ◌∷◌, ◌++◌, map, refl, ap, sym, ◌∙◌}
use Rattle.std.specs.List.{flat_map}
use Rattle.std.proofs.lemmas.List.{map-append}
use Rattle.go_ast.specs.declared.token.Token.{Token}
use Rattle.go_syntax.specs.declared.decls.ImportDecl.{ImportDecl}
use Rattle.go_syntax.specs.declared.decls.ImportSpec.{ImportSpec}
use Rattle.go_finding.specs.Imports.{Import, import_of, imports_of_decl}

abbrev pub literals_of_decl : ImportDecl → List Token
literals_of_decl decl = map (λ spec. spec.path) decl.specs.items

abbrev literal : Import → Token
literal import = import.literal

literals_of_specs : (bytes : List ℕ) (specs : List ImportSpec) → map (λ spec. spec.path) specs ≡ map literal (map (import_of bytes) specs)
literals_of_specs bytes [] = refl
literals_of_specs bytes (spec ∷ specs) = ap (λ literals. spec.path ∷ literals) (literals_of_specs bytes specs)

pub literals_of_decls : (bytes : List ℕ) (decls : List ImportDecl) → flat_map literals_of_decl decls ≡ map (λ import. import.literal) (flat_map (imports_of_decl bytes) decls)
literals_of_decls bytes [] = refl
literals_of_decls bytes (decl ∷ decls) =
    ap (λ literals. literals ++ flat_map literals_of_decl decls) (literals_of_specs bytes decl.specs.items)
    ∙ ap (λ literals. map literal (imports_of_decl bytes decl) ++ literals) (literals_of_decls bytes decls)
    ∙ sym (map-append literal (imports_of_decl bytes decl) (flat_map (imports_of_decl bytes) decls))
