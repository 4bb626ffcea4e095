use Rattle.go_fragments.proofs.Statements.{else_seen}
use Rattle.go_fragments.proofs.simples.with_else.Goals as goal

pub returns : goal.returns
returns c = else_seen c.in_ok-boxed-2.field-0.value c.args.arms c.args.else_word c.in_ok-boxed.field-0 c.args.otherwise c.in_ok-boxed-2.ensures.ok c.in_ok-boxed.ensures.ok
