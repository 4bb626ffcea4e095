use Rattle.go_ast.proofs.TokenLaws.{token-in}
use Rattle.go_ast.proofs.laws.spelled_tokens.Goals as goal

pub returns : goal.returns
returns c = token-in
