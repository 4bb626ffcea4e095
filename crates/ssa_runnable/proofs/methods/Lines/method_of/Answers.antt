use Rattle.std.proofs.Common.{◌∙◌}
use Rattle.ssa_runnable.proofs.Looking.{looked_up}
use Rattle.ssa_runnable.proofs.methods.Lines.method_of.Goals as goal

pub returns : goal.returns
returns c =
    looked_up c.args.self.now.code.now.methods c.args.self.now.all.now.entries
    (record {
      receiver = c.args.of;
      name = c.args.method.now.name;
      «package» = c.args.method.now.package;
    }) c.copied.result c.args.self.now.known (c.copied.ensures ∙ c.get.ensures.value)
