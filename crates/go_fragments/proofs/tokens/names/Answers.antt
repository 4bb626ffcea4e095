use Rattle.std.proofs.Common.{rules, refl, sym, ◌∙◌, ◌-◌, length, Some, None}
use Rattle.go_ast.specs.declared.token.Kind.TheVariants.{Comma, Name}
use Rattle.go_grammar.specs.Forests.{append}
use Rattle.go_grammar.specs.Reading.{then_in}
use Rattle.go_grammar.specs.Tests.{begins, word_in}
use Rattle.go_grammar.specs.View.{each, one, view_listed_name}
use Rattle.go_fragments.specs.declared.stop.Stop.TheVariants as stops
use Rattle.go_fragments.specs.Words.{names_in}
use Rattle.go_fragments.proofs.Loops.{many_on, many_fails, list_done, list_over, list_on}
use Rattle.go_fragments.proofs.tokens.names.Goals as goal

pub loop-preserved : goal.loop-preserved
loop-preserved c =
    many_on (begins Comma) (then_in (word_in Comma) (word_in Name)) (length c.in-Some.rest.now) c.loop.counter
    (append (each view_listed_name c.loop.names.items) (one c.loop.name)) (append (each view_listed_name c.push-in-loop.new.self.items) (one c.in-Some-next_name.next))
    (append (one c.in-Some-next_name.comma) (one c.in-Some-next_name.next)) c.loop.rest.now c.in-Some-next_name.after.now (names_in c.args.tokens.now)
    c.loop-test.true (sym c.begins_with.ensures ∙ c.if-not-begins_with.false) c.in-Some-next_name.ensures
    (list_on view_listed_name c.loop.names.items c.push-in-loop.new.self.items (record { name = c.loop.name; comma = Some c.in-Some-next_name.comma }) _ _ (one c.loop.name) (one c.in-Some-next_name.comma) (one c.in-Some-next_name.next)
    c.in_ok-push-2.ensures.items refl refl refl)
    c.loop.invariant

pub returns-then-not-begins_with : goal.returns-then-not-begins_with
returns-then-not-begins_with c =
    list_done view_listed_name c.loop.names.items c.push.new.self.items (record { name = c.loop.name; comma = None }) (begins Comma) (then_in (word_in Comma) (word_in Name)) (length c.in-Some.rest.now - c.loop.counter)
    (append (each view_listed_name c.loop.names.items) (one c.loop.name)) c.loop.rest.now (names_in c.args.tokens.now) (sym c.begins_with.ensures ∙ c.if-not-begins_with.true) c.in_ok-push.ensures.items refl c.loop.invariant

pub returns : goal.returns
returns c =
    list_over view_listed_name c.loop.names.items c.push-2.new.self.items (record { name = c.loop.name; comma = None }) (begins Comma) (then_in (word_in Comma) (word_in Name)) (length c.in-Some.rest.now) c.loop.counter
    (append (each view_listed_name c.loop.names.items) (one c.loop.name)) c.loop.rest.now (names_in c.args.tokens.now) c.loop-test.false c.in_ok-push-3.ensures.items refl c.loop.invariant

pub returns-in_default-next_name : goal.returns-in_default-next_name
returns-in_default-next_name c =
    many_fails (begins Comma) (then_in (word_in Comma) (word_in Name)) stops.Unexpected (length c.in-Some.rest.now) c.loop.counter (append (each view_listed_name c.loop.names.items) (one c.loop.name)) c.loop.rest.now (names_in c.args.tokens.now)
    c.loop-test.true (sym c.begins_with.ensures ∙ c.if-not-begins_with.false) c.in_default-next_name.ensures c.loop.invariant
