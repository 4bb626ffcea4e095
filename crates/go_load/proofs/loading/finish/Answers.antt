use Rattle.std.proofs.lemmas.Result.{err_from_is_err_and}
use Rattle.go_sources.specs.Sources.{AreTold}
use Rattle.go_load.proofs.Finishing.{all_loaded, imports_stopped, queue_stopped, runtime_stopped}
use Rattle.go_load.proofs.loading.finish.Goals as goal

pub returns-in_err-load_queue-clause-exact : goal.returns-in_err-load_queue-clause-exact
returns-in_err-load_queue-clause-exact g c =
    let p = err_from_is_err_and c.from_residual.result c.from_residual.ensures.1 in
    rw (p.1, p.2) (queue_stopped (g.F.Files.tree c.args.files.now) c.args.loader c.load_queue.new.self c.in_err-load_queue.field-0.0 c.in_err-load_queue.ensures.exact)

pub returns-in_err-check_imports-clause-exact : goal.returns-in_err-check_imports-clause-exact
returns-in_err-check_imports-clause-exact g c =
    let p = err_from_is_err_and c.from_residual-in_err-check_imports.result c.from_residual-in_err-check_imports.ensures.1 in
    rw (p.1, p.2) (imports_stopped (g.F.Files.tree c.args.files.now) c.args.loader c.load_queue.new.self c.in_err-check_imports.field-0.0 c.in_ok-load_queue.ensures.exact c.in_err-check_imports.ensures.exact)

pub returns-in_err-check_imports-clause-why : goal.returns-in_err-check_imports-clause-why
returns-in_err-check_imports-clause-why g c =
    let p = err_from_is_err_and c.from_residual-in_err-check_imports.result c.from_residual-in_err-check_imports.ensures.1 in
    rw (p.1, p.2) (c.in_err-check_imports.ensures.why (g.F.Files.tree c.args.files.now))

pub returns-in_err-load_runtime-clause-exact : goal.returns-in_err-load_runtime-clause-exact
returns-in_err-load_runtime-clause-exact g c =
    let p = err_from_is_err_and c.from_residual-in_err-load_runtime.result c.from_residual-in_err-load_runtime.ensures.1 in
    rw (p.1, p.2) (runtime_stopped (g.F.Files.tree c.args.files.now) (g.F.Files.tree c.load_queue.new.files) c.args.loader c.load_queue.new.self c.load_runtime.new.loader c.in_err-load_runtime.field-0.0 c.in_ok-load_queue.ensures.same c.in_ok-load_queue.ensures.exact c.in_ok-check_imports.ensures.exact c.in_err-load_runtime.ensures.exact)

pub returns-clause-exact : goal.returns-clause-exact
returns-clause-exact g c =
    all_loaded (g.F.Files.tree c.args.files.now) (g.F.Files.tree c.load_queue.new.files) c.args.loader c.load_queue.new.self c.load_runtime.new.loader c.in_ok-into_sources.field-0 c.in_ok-load_queue.ensures.same c.in_ok-load_queue.ensures.exact c.in_ok-check_imports.ensures.exact c.in_ok-load_runtime.ensures.exact
    c.in_ok-into_sources.ensures.files c.in_ok-into_sources.ensures.packages c.in_ok-into_sources.ensures.imports c.in_ok-into_sources.ensures.minor

pub returns-clause-told : goal.returns-clause-told
returns-clause-told g c = λ told.
    let same = c.in_ok-load_queue.ensures.same in
    let first : AreTold (g.F.Files.tree c.load_queue.new.files) c.load_queue.new.self.files.items = rw same (c.in_ok-load_queue.ensures.told told) in
    let last : AreTold (g.F.Files.tree c.load_queue.new.files) c.load_runtime.new.loader.files.items = c.in_ok-load_runtime.ensures.told first in
    let there : AreTold (g.F.Files.tree c.args.files.now) c.load_runtime.new.loader.files.items = rw same at last in
    rw c.in_ok-into_sources.ensures.files there
