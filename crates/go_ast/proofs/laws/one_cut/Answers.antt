use Rattle.go_ast.proofs.CutLaws.{one-cut, one-token-list, one-fault, cut-or-fault}
use Rattle.go_ast.proofs.laws.one_cut.Goals as goal

pub returns : goal.returns
returns c = record { cut = one-cut; tokens = one-token-list; fault = one-fault; not_both = cut-or-fault }
