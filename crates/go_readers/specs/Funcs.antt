-- Reading functions and methods.
use Rattle.go_ast.specs.declared.token.Kind.TheVariants as kinds
use Rattle.go_grammar.specs.Forests as forms
use Rattle.go_grammar.specs.Grammar as sorts
use Rattle.go_grammar.specs.Grammar.{Sort}
use Rattle.go_grammar.specs.Reading.{Reader, Plan, Part, Node, run}
use Rattle.go_grammar.specs.Tests.{begins, ◌⨟◌, word, maybe}
use Rattle.go_grammar.specs.TypeReading.{Parsers}
use Rattle.go_grammar.specs.StmtReading.{at_package}

abbrev pub func_plan : Plan Sort
func_plan =
    Node forms.FuncForm
    (word kinds.FuncWord ⨟ maybe (begins kinds.OpenParen) (Part sorts.Receiver) ⨟ word kinds.Name ⨟ Part sorts.Signature
    ⨟ maybe (begins kinds.OpenBrace) (Part sorts.Block))

-- a function or a method
abbrev pub func_in : Parsers → Reader
func_in p = run (at_package p) func_plan
