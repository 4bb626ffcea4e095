-- What the imports of a file name. Go specification, "Import declarations".
use Rattle.std.specs.Prelude.{ℕ, Bool, true, false, not, ◌&&◌, ◌||◌, ◌==◌, if◌then◌else◌, List, [], length, drop, map}
use Rattle.std.specs.Prelude.{Option, Some, None, is_none, unwrap_or, codes, bytes_eq, nat_eq}
use Rattle.std.specs.List.{flat_map, list_all, slice_split, starts_with}
use Rattle.std.specs.Option.{option_and_then}
use Rattle.go_ast.specs.declared.token.Kind.{Kind}
use Rattle.go_ast.specs.declared.token.Kind.TheVariants as kinds
use Rattle.go_ast.specs.declared.token.Token.{Token}
use Rattle.go_ast.specs.Literals.{string_value}
use Rattle.go_ast.specs.Pieces.{is_piece, kind_of, fault_of}
use Rattle.go_base.specs.Devices.{rest_below}
use Rattle.go_syntax.specs.declared.decls.FileTree.{FileTree}
use Rattle.go_syntax.specs.declared.decls.ImportDecl.{ImportDecl}
use Rattle.go_syntax.specs.declared.decls.ImportSpec.{ImportSpec}
use Rattle.go_sources.specs.Packages.{text_in}
use Rattle.go_finding.specs.GoMod.{utf8_text}
use Rattle.go_finding.specs.Modules.{Module}
use Rattle.go_finding.specs.Paths.{path_in, with_slash}

-- an import: the literal that stands in the file, and the path that it writes
pub record Import : Type 0 where
  pub literal : Token
  pub path : Option (List ℕ)

abbrev pub is_text_kind : Option Kind → Bool
is_text_kind (Some kinds.Text) = true
is_text_kind _ = false

-- whether a text is a string literal
abbrev pub is_string_literal : List ℕ → Bool
is_string_literal text = is_piece text && (is_text_kind (kind_of text) && is_none (fault_of text))

-- the path that a literal writes, where that is UTF-8
abbrev pub written_path : List ℕ → Option (List ℕ)
written_path text = if is_string_literal text then utf8_text (string_value text) else None

abbrev pub import_of : List ℕ → ImportSpec → Import
import_of bytes spec = record { literal = spec.path; path = written_path (text_in bytes spec.path) }

abbrev pub imports_of_decl : List ℕ → ImportDecl → List Import
imports_of_decl bytes decl = map (import_of bytes) decl.specs.items

-- the imports of a file with these bytes, in order
abbrev pub imports_of : List ℕ → FileTree → List Import
imports_of bytes tree = flat_map (imports_of_decl bytes) tree.imports.items

-- the path of an import, and the empty one where it writes none
abbrev pub import_path : Import → List ℕ
import_path import = unwrap_or import.path []

-- ---- what paths name

-- what follows a front in a text
abbrev pub after : List ℕ → List ℕ → Option (List ℕ)
after front text = if starts_with nat_eq text front then Some (drop (length front) text) else None

abbrev pub is_slash : ℕ → Bool
is_slash byte = byte == 47

abbrev pub is_plain_component : List ℕ → Bool
is_plain_component component =
    not (bytes_eq component [] || (bytes_eq component (codes ".") || bytes_eq component (codes "..")))

-- whether a path has no component that is empty, `.` or `..`
abbrev pub is_plain : List ℕ → Bool
is_plain path = list_all is_plain_component (slice_split is_slash path)

-- what an import path has after the path of a module and a slash
abbrev pub import_rest : List ℕ → List ℕ → Option (List ℕ)
import_rest front path = option_and_then (after (codes "/")) (after front path)

abbrev pub plain_dir : List ℕ → List ℕ → Option (List ℕ)
plain_dir dir rest = if is_plain rest then Some (path_in dir rest) else None

-- the directory that an import path of a module names
abbrev pub import_dir : Module → List ℕ → Option (List ℕ)
import_dir root path =
    if bytes_eq path root.path then Some root.dir
    else option_and_then (plain_dir root.dir) (import_rest root.path path)

-- the import path of a directory at or below that of the module
abbrev pub dir_path : Module → List ℕ → List ℕ
dir_path root dir =
    if bytes_eq dir root.dir then root.path else with_slash root.path (unwrap_or (rest_below root.dir dir) dir)
