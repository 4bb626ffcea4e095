use Rattle.std.proofs.Common.{◌≡◌, ◌-◌, length}
use Rattle.go_ast.specs.declared.token.Kind.TheVariants.{ImportWord}
use Rattle.go_grammar.specs.PartReading.{parts_in}
use Rattle.go_grammar.specs.Tests.{begins}
use Rattle.go_grammar.specs.View.{each, view_import}
use Rattle.go_parse.specs.FileParts.{at_index, import_in, imports_in}
use Rattle.go_parse.proofs.parser.imports.Given as goal

abbrev pub invariant-loop : goal.invariant-loop
invariant-loop l = at_index (length l.tokens) (parts_in (begins ImportWord) import_in (l.end - l.counter) (each view_import l.imports.items) l.rest) ≡ at_index (length l.tokens) (imports_in (length l.tokens) l.fn.rest)
