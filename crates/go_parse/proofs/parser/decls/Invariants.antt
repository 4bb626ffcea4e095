use Rattle.std.proofs.Common.{◌≡◌, ◌-◌, length}
use Rattle.go_grammar.specs.FileReading.{parsers}
use Rattle.go_grammar.specs.Forests.{empty}
use Rattle.go_grammar.specs.PartReading.{parts_in}
use Rattle.go_grammar.specs.StmtReading.{is_more}
use Rattle.go_grammar.specs.View.{each, view_line}
use Rattle.go_parse.specs.FileParts.{at_index, decl_line_in}
use Rattle.go_parse.proofs.parser.decls.Given as goal

abbrev pub invariant-loop : goal.invariant-loop
invariant-loop l =
    at_index (length l.tokens) (parts_in is_more (decl_line_in (parsers (length l.tokens))) (l.end - l.counter) (each view_line l.decls.items) l.rest)
    ≡ at_index (length l.tokens) (parts_in is_more (decl_line_in (parsers (length l.tokens))) (length l.tokens) empty l.fn.rest)
