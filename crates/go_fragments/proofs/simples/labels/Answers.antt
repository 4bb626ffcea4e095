use Rattle.std.proofs.Common.{rules, refl, sym, ap, ◌∙◌, ◌-◌, length}
use Rattle.go_ast.specs.declared.token.Kind.TheVariants.{Colon, Name}
use Rattle.go_grammar.specs.Tests.{begins_both}
use Rattle.go_grammar.specs.View.{each, view_label}
use Rattle.go_fragments.specs.declared.stop.Stop.TheVariants as stops
use Rattle.go_fragments.specs.Statements.{label_in, labels_in}
use Rattle.go_fragments.proofs.Loops.{each_push, many_on, many_done, many_over, many_fails}
use Rattle.go_fragments.proofs.Statements.{first_start, first_push}
use Rattle.go_fragments.proofs.simples.labels.Goals as goal

pub loop-init : goal.loop-init
loop-init c = first_start (begins_both Name Colon) label_in label_in (each view_label c.push.new.self.items) (view_label c.in-Some.first) c.args.tokens.now c.in-Some.rest.now (length c.in-Some.rest.now) 0 c.in-Some.ensures (first_push view_label c.new-labels.result.items c.push.new.self.items c.in-Some.first c.in_ok-push.ensures.items c.new-labels.ensures.items) refl refl

pub loop-preserved : goal.loop-preserved
loop-preserved c =
    many_on (begins_both Name Colon) label_in (length c.in-Some.rest.now) c.loop.counter (each view_label c.loop.labels.items) (each view_label c.push-in-loop.new.self.items) (view_label c.in-Some-label.next) c.loop.rest.now c.in-Some-label.after.now (labels_in c.args.tokens.now)
    c.loop-test.true (sym c.begins_with_both.ensures ∙ c.if-not-begins_with_both.false) c.in-Some-label.ensures (ap (each view_label) c.in_ok-push-2.ensures.items ∙ each_push view_label c.loop.labels.items c.in-Some-label.next) c.loop.invariant

pub returns-then-not-begins_with_both : goal.returns-then-not-begins_with_both
returns-then-not-begins_with_both c = many_done (begins_both Name Colon) label_in (length c.in-Some.rest.now - c.loop.counter) (each view_label c.loop.labels.items) c.loop.rest.now (labels_in c.args.tokens.now) (sym c.begins_with_both.ensures ∙ c.if-not-begins_with_both.true) c.loop.invariant

pub returns : goal.returns
returns c = many_over (begins_both Name Colon) label_in (length c.in-Some.rest.now) c.loop.counter (each view_label c.loop.labels.items) c.loop.rest.now (labels_in c.args.tokens.now) c.loop-test.false c.loop.invariant

pub returns-in_default-label : goal.returns-in_default-label
returns-in_default-label c =
    many_fails (begins_both Name Colon) label_in stops.Unexpected (length c.in-Some.rest.now) c.loop.counter (each view_label c.loop.labels.items) c.loop.rest.now (labels_in c.args.tokens.now)
    c.loop-test.true (sym c.begins_with_both.ensures ∙ c.if-not-begins_with_both.false) c.in_default-label.ensures c.loop.invariant
