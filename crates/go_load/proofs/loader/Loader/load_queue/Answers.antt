use Rattle.std.proofs.Common.{rules, arith, ◌≡◌, ◌∙◌, length}
use Rattle.std.proofs.lemmas.Result.{err_from_is_err_and}
use Rattle.go_load.proofs.QueueLoading.{at_next, ended, stopped}
use Rattle.go_load.proofs.loader.Loader.load_queue.Goals as goal

pub returns-then-number-len-clause-exact : goal.returns-then-number-len-clause-exact
returns-then-number-len-clause-exact g c =
    let number : c.len-number.result ≡ length c.packages.self.packages.items = search rules in
    let count : c.len.result ≡ length c.packages.self.found.entries.items = search rules in
    ended (g.F.Files.tree c.args.files.now) c.len-number.result c.args.self.now c.packages.self number (omega arith) c.packages.invariant.keeps

pub returns-in_err-load_package-clause-exact : goal.returns-in_err-load_package-clause-exact
returns-in_err-load_package-clause-exact g c =
    let p = err_from_is_err_and c.from_residual.result c.from_residual.ensures.1 in
    let number : c.len-number.result ≡ length c.packages.self.packages.items = search rules in
    rw (p.1, p.2) (stopped (g.F.Files.tree c.args.files.now) (g.F.Files.tree c.packages.files) c.len-number.result c.args.self.now c.packages.self c.load_package.new.self c.load_package.new.self c.in_err-load_package.field-0.0 c.packages.invariant.same number c.packages.invariant.keeps c.in_err-load_package.ensures.exact)

pub packages-preserved : goal.packages-preserved
packages-preserved g c =
    let number : c.len-number.result ≡ length c.packages.self.packages.items = search rules in
    record {
      later = search (rules, c.packages.invariant.later, c.in_ok-load_package.ensures.later);
      told = λ told. rw c.packages.invariant.same at (c.in_ok-load_package.ensures.told (rw (← c.packages.invariant.same) at (c.packages.invariant.told told)));
      same = c.in_ok-load_package.ensures.same ∙ c.packages.invariant.same;
      keeps = at_next (g.F.Files.tree c.args.files.now) (g.F.Files.tree c.packages.files) c.len-number.result c.args.self.now c.packages.self c.load_package.new.self c.packages.invariant.same number c.packages.invariant.keeps c.in_ok-load_package.ensures.exact;
    }
