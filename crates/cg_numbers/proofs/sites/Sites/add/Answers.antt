use Rattle.std.proofs.Common.{Result, Ok, Err, sym, subst}
use Rattle.std.specs.Prelude.{OnOk}
use Rattle.go_base.specs.declared.memory.NoMemory.{NoMemory}
use Rattle.cg_nodes.specs.declared.nodes.Mention.{Mention}
use Rattle.cg_numbers.specs.Sites.{Adds}
use Rattle.cg_numbers.proofs.sites.Sites.add.Goals as goal

weaker : (r : Result (Unit {0}) NoMemory) (P Q : Type 0) → (P → Q) → OnOk r P → OnOk r Q
weaker (Ok x) P Q f h = f h
weaker (Err e) P Q f h = h

pub returns-in-Flow : goal.returns-in-Flow
returns-in-Flow c = weaker c.add_flow.result _ _ (λ h. subst (λ (m : Mention). Adds c.args.self.now c.add_flow.new.self c.args.function m) (sym c.in-Flow.is) (h c.args.function)) c.add_flow.ensures
