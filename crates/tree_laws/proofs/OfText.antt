-- The bytes of a file have one tree.
use Rattle.std.proofs.Common.{◌≡◌, ℕ, List, subst}
use Rattle.go_ast.proofs.CutLaws.{one-token-list}
use Rattle.go_ast.specs.declared.token.Token.{Token}
use Rattle.go_grammar.proofs.AllAgain.{same_tree}
use Rattle.go_grammar.specs.Files.{IsTreeOf}
use Rattle.go_grammar.specs.View.{view_file}
use Rattle.go_sources.specs.Reading.{HasTree}
use Rattle.go_syntax.specs.declared.decls.FileTree.{FileTree}
use Rattle.tree_laws.proofs.Whole.{one_tree}
use Rattle.tree_laws.specs.Fields.{fields_of_file}

one_view : (bytes : List ℕ) (a b : FileTree) → HasTree bytes a → HasTree bytes b → view_file a ≡ view_file b
one_view bytes a b h k =
    let same : h.tokens ≡ k.tokens = one-token-list bytes h.tokens k.tokens h.list k.list in
    same_tree k.tokens (view_file a) (view_file b) (subst (λ (tokens : List Token). IsTreeOf tokens (view_file a)) same h.verdict.1)
    k.verdict.1

pub one_of_text : (bytes : List ℕ) (a b : FileTree) → HasTree bytes a → HasTree bytes b
    → fields_of_file a ≡ fields_of_file b
one_of_text bytes a b h k = one_tree a b (one_view bytes a b h k) h.roles k.roles
