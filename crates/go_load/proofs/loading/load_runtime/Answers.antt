use Rattle.std.proofs.Common.{rules, arith, ◌≡◌, ◌+◌, ◌-◌, true, false, length, refl}
use Rattle.go_load.proofs.Finishing.{runtime_added, runtime_kept}
use Rattle.go_load.proofs.loading.load_runtime.Goals as goal

pub returns-then-not-branch-clause-exact : goal.returns-then-not-branch-clause-exact
returns-then-not-branch-clause-exact g c =
    let absent : c.in_ok-add_runtime.field-0 ≡ false = search rules in
    runtime_kept (g.F.Files.tree c.args.files.now) c.args.loader.now c.add_runtime.new.self c.in_ok-add_runtime.field-0 absent c.in_ok-add_runtime.ensures.exact

pub returns-clause-exact : goal.returns-clause-exact
returns-clause-exact g c =
    let added : c.in_ok-add_runtime.field-0 ≡ true = search rules in
    let longer : length c.add_runtime.new.self.entries.items ≡ length c.args.loader.now.found.entries.items + 1 = search (rules, c.in_ok-add_runtime.ensures.last) in
    let count : c.len-last.result ≡ length c.add_runtime.new.self.entries.items = search rules in
    runtime_added (g.F.Files.tree c.args.files.now) (g.F.Files.tree c.args.files.now) (c.len-last.result - 1) c.args.loader.now c.load_package.new.self c.add_runtime.new.self c.in_ok-add_runtime.field-0 c.load_package.result refl added c.in_ok-add_runtime.ensures.exact (omega arith) c.load_package.ensures.exact
