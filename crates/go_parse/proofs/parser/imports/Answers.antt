use Rattle.std.proofs.Common.{◌-◌, length, sym, ap, ◌∙◌}
use Rattle.std.specs.Prelude.{Err}
use Rattle.go_ast.specs.declared.token.Kind.TheVariants.{ImportWord}
use Rattle.go_grammar.specs.Tests.{begins}
use Rattle.go_grammar.specs.View.{each, view_import}
use Rattle.go_fragments.proofs.Loops.{each_push}
use Rattle.go_parse.specs.FileParts.{at_index, import_in, imports_in}
use Rattle.go_parse.proofs.FileParts.{parts_on, parts_done, parts_over, parts_fail, refused, not_read}
use Rattle.go_parse.proofs.parser.imports.Goals as goal

pub returns-then-not-begins_with : goal.returns-then-not-begins_with
returns-then-not-begins_with c =
    parts_done (length c.args.tokens.now) (begins ImportWord) import_in (length c.args.tokens.now - c.loop.counter) (each view_import c.loop.imports.items) c.loop.rest.now
    (at_index (length c.args.tokens.now) (imports_in (length c.args.tokens.now) c.args.rest.now)) (sym c.begins_with.ensures ∙ c.if-not-begins_with.true) c.loop.invariant

pub returns-in-Err : goal.returns-in-Err
returns-in-Err c =
    refused (length c.args.tokens.now) c.index_of.result c.in-Err.stop c.refusal.result (imports_in (length c.args.tokens.now) c.args.rest.now) c.refusal.ensures
    (λ e. parts_fail (length c.args.tokens.now) (begins ImportWord) import_in (length c.args.tokens.now) c.loop.counter (each view_import c.loop.imports.items) c.loop.rest.now
    (at_index (length c.args.tokens.now) (imports_in (length c.args.tokens.now) c.args.rest.now)) c.loop-test.true (sym c.begins_with.ensures ∙ c.if-not-begins_with.false)
    (not_read c.in-Err.stop (import_in c.loop.rest.now) c.in-Err.ensures e) c.loop.invariant
    ∙ ap Err (sym c.index_of.ensures))

pub loop-preserved : goal.loop-preserved
loop-preserved c =
    parts_on (length c.args.tokens.now) (begins ImportWord) import_in (length c.args.tokens.now) c.loop.counter (each view_import c.loop.imports.items) (each view_import c.push.new.self.items)
    (view_import c.in-Ok.import) c.loop.rest.now c.in-Ok.after.now (at_index (length c.args.tokens.now) (imports_in (length c.args.tokens.now) c.args.rest.now)) c.loop-test.true
    (sym c.begins_with.ensures ∙ c.if-not-begins_with.false) c.in-Ok.ensures
    (ap (each view_import) c.in_ok-push-in-Ok.ensures.items ∙ each_push view_import c.loop.imports.items c.in-Ok.import) c.loop.invariant
