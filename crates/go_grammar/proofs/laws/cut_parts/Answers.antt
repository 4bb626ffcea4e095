use Rattle.std.proofs.Common.{refl}
use Rattle.go_grammar.specs.Grammar.{Import, PackageDecl}
use Rattle.go_grammar.proofs.Cuts.{cut_behind}
use Rattle.go_grammar.proofs.laws.cut_parts.Goals as goal

pub returns : goal.returns
returns c = record {
  import = λ tree semicolon behind rest x h. cut_behind Import tree semicolon behind rest refl x h;
  decl = λ tree semicolon behind rest x h. cut_behind PackageDecl tree semicolon behind rest refl x h;
}
