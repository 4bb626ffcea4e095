-- The names of packages.
use Rattle.std.specs.Prelude.{nat_le, ◌&&◌, if◌then◌else◌, slice_range, ℕ, List, [], length}
use Rattle.go_ast.specs.declared.token.Token.{Token}
use Rattle.go_sources.specs.declared.sources.SourceFile.{SourceFile}

-- the bytes of a token, where it lies in the text
abbrev pub text_in : List ℕ → Token → List ℕ
text_in bytes token =
    if nat_le token.start token.end && nat_le token.end (length bytes) then slice_range bytes token.start token.end
    else []

-- the name in a file's package clause
abbrev pub package_name : SourceFile → List ℕ
package_name file = text_in file.bytes file.tree.name
