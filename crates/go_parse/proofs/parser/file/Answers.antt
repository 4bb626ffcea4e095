use Rattle.std.proofs.Common.{rules, length}
use Rattle.go_grammar.specs.FileReading.{parsers}
use Rattle.go_grammar.specs.PartReading.{file_by_parts}
use Rattle.go_grammar.specs.View.{each, view_import, view_line}
use Rattle.go_parse.specs.FileParts.{IsStopped, view_clause}
use Rattle.go_parse.proofs.FileParts.{file_stops, file_stops_later, file_read}
use Rattle.go_parse.proofs.parser.file.Goals as goal

pub returns-in_err-imports-in-Some : goal.returns-in_err-imports-in-Some
returns-in_err-imports-in-Some c =
    let stops : IsStopped (length c.args.tokens.now) c.in_err-imports-in-Some.field-0.0 (file_by_parts (parsers (length c.args.tokens.now)) c.args.tokens.now) =
    file_stops (parsers (length c.args.tokens.now)) c.args.tokens.now c.in-Some.rest.now (view_clause c.in-Some.clause) c.in-Some.ensures c.in_err-imports-in-Some.field-0.0 c.in_err-imports-in-Some.ensures in
    search rules

pub returns-in_err-decls-in-Some : goal.returns-in_err-decls-in-Some
returns-in_err-decls-in-Some c =
    let stops : IsStopped (length c.args.tokens.now) c.in_err-decls-in-Some.field-0.0 (file_by_parts (parsers (length c.args.tokens.now)) c.args.tokens.now) =
    file_stops_later (parsers (length c.args.tokens.now)) c.args.tokens.now c.in-Some.rest.now (view_clause c.in-Some.clause) c.in-Some.ensures c.in_err-decls-in-Some.field-0.0
    (each view_import c.in_ok-imports-in-Some.imports.items) c.in_ok-imports-in-Some.rest.now c.in_ok-imports-in-Some.ensures c.in_err-decls-in-Some.ensures in
    search rules

pub returns-in_ok-decls-in-Some : goal.returns-in_ok-decls-in-Some
returns-in_ok-decls-in-Some c =
    file_read (parsers (length c.args.tokens.now)) c.args.tokens.now c.in-Some.rest.now (view_clause c.in-Some.clause) c.in-Some.ensures (each view_import c.in_ok-imports-in-Some.imports.items)
    (each view_line c.in_ok-decls-in-Some.decls.items) c.in_ok-imports-in-Some.rest.now c.in_ok-imports-in-Some.ensures c.in_ok-decls-in-Some.ensures
