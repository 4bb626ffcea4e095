use Rattle.std.proofs.Common.{◌≡◌, ◌-◌, List, length, Bool, true, false, sym, ap, ◌∙◌}
use Rattle.std.specs.Prelude.{Err, Result, not}
use Rattle.go_ast.specs.declared.token.Token.{Token}
use Rattle.go_grammar.specs.FileReading.{parsers}
use Rattle.go_grammar.specs.Forests.{Forest, empty}
use Rattle.go_grammar.specs.PartReading.{parts_in}
use Rattle.go_grammar.specs.StmtReading.{is_more}
use Rattle.go_grammar.specs.View.{each, view_line}
use Rattle.go_fragments.proofs.Loops.{each_push}
use Rattle.go_parse.specs.FileParts.{at_index, decl_line_in, decls_in}
use Rattle.go_parse.proofs.FileParts.{parts_on, parts_done, parts_over, parts_fail, refused, not_read, trees_done, trees_fail, more_is}
use Rattle.go_parse.proofs.parser.decls.Goals as goal

pub returns-then-is_empty : goal.returns-then-is_empty
returns-then-is_empty c =
    let n = length c.args.tokens.now in
    let line = decl_line_in (parsers n) in
    let whole = parts_in is_more line n empty c.args.rest.now in
    trees_done n whole (each view_line c.loop.decls.items) c.loop.rest.now
    (parts_done n is_more line (n - c.loop.counter) (each view_line c.loop.decls.items) c.loop.rest.now (at_index n whole) (more_is c.loop.rest.now c.is_empty.result c.is_empty.ensures ∙ ap not c.if-is_empty.true) c.loop.invariant)

pub returns : goal.returns
returns c =
    let n = length c.args.tokens.now in
    let line = decl_line_in (parsers n) in
    let whole = parts_in is_more line n empty c.args.rest.now in
    trees_done n whole (each view_line c.loop.decls.items) c.loop.rest.now
    (parts_over n is_more line n c.loop.counter (each view_line c.loop.decls.items) c.loop.rest.now (at_index n whole) c.loop-test.false c.loop.invariant)

pub returns-in-Err : goal.returns-in-Err
returns-in-Err c =
    let n = length c.args.tokens.now in
    let line = decl_line_in (parsers n) in
    let whole = parts_in is_more line n empty c.args.rest.now in
    refused n c.index_of.result c.in-Err.stop c.refusal.result (decls_in (parsers n) n c.args.rest.now) c.refusal.ensures
    (λ e. trees_fail n c.index_of.result whole
    (parts_fail n is_more line n c.loop.counter (each view_line c.loop.decls.items) c.loop.rest.now (at_index n whole) c.loop-test.true
    (more_is c.loop.rest.now c.is_empty.result c.is_empty.ensures ∙ ap not c.if-is_empty.false) (not_read c.in-Err.stop (line c.loop.rest.now) c.in-Err.ensures e) c.loop.invariant
    ∙ ap Err (sym c.index_of.ensures)))

pub loop-preserved : goal.loop-preserved
loop-preserved c =
    let n = length c.args.tokens.now in
    let line = decl_line_in (parsers n) in
    let whole = parts_in is_more line n empty c.args.rest.now in
    parts_on n is_more line n c.loop.counter (each view_line c.loop.decls.items) (each view_line c.push.new.self.items) (view_line c.in-Ok.decl) c.loop.rest.now c.in-Ok.after.now (at_index n whole) c.loop-test.true
    (more_is c.loop.rest.now c.is_empty.result c.is_empty.ensures ∙ ap not c.if-is_empty.false) c.in-Ok.ensures
    (ap (each view_line) c.in_ok-push-in-Ok.ensures.items ∙ each_push view_line c.loop.decls.items c.in-Ok.decl) c.loop.invariant
