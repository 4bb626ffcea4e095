use Rattle.std.proofs.Common.{◌-◌, length, sym, ap, ◌∙◌}
use Rattle.std.specs.Prelude.{not}
use Rattle.go_ast.specs.declared.token.Kind.TheVariants.{CloseParen}
use Rattle.go_grammar.specs.Tests.{not_closed}
use Rattle.go_grammar.specs.View.{each, view_import_spec}
use Rattle.go_fragments.proofs.Loops.{many_start, many_on, many_done, many_over, many_fails, each_push}
use Rattle.go_fragments.specs.declared.stop.Stop.TheVariants as stops
use Rattle.go_parse.specs.FileParts.{import_line_in, import_lines_in}
use Rattle.go_parse.proofs.parser.import_lines.Goals as goal

pub loop-preserved : goal.loop-preserved
loop-preserved c =
    many_on (not_closed CloseParen) import_line_in (length c.args.tokens.now) c.loop.counter (each view_import_spec c.loop.specs.items) (each view_import_spec c.push.new.self.items)
    (view_import_spec c.in-Some.spec) c.loop.rest.now c.in-Some.after.now (import_lines_in c.args.tokens.now) c.loop-test.true (ap not (sym c.begins_with.ensures ∙ c.if-begins_with.false))
    c.in-Some.ensures (ap (each view_import_spec) c.in_ok-push.ensures.items ∙ each_push view_import_spec c.loop.specs.items c.in-Some.spec) c.loop.invariant

pub returns-then-begins_with : goal.returns-then-begins_with
returns-then-begins_with c =
    many_done (not_closed CloseParen) import_line_in (length c.args.tokens.now - c.loop.counter) (each view_import_spec c.loop.specs.items) c.loop.rest.now (import_lines_in c.args.tokens.now)
    (ap not (sym c.begins_with.ensures ∙ c.if-begins_with.true)) c.loop.invariant

pub returns : goal.returns
returns c = many_over (not_closed CloseParen) import_line_in (length c.args.tokens.now) c.loop.counter (each view_import_spec c.loop.specs.items) c.loop.rest.now (import_lines_in c.args.tokens.now) c.loop-test.false c.loop.invariant

pub returns-in_default : goal.returns-in_default
returns-in_default c =
    many_fails (not_closed CloseParen) import_line_in stops.Unexpected (length c.args.tokens.now) c.loop.counter (each view_import_spec c.loop.specs.items) c.loop.rest.now (import_lines_in c.args.tokens.now)
    c.loop-test.true (ap not (sym c.begins_with.ensures ∙ c.if-begins_with.false)) c.in_default.ensures c.loop.invariant
