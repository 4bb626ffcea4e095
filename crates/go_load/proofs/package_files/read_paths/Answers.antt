use Rattle.std.proofs.Common.{rules, ◌≡◌, ◌++◌, [], ◌∷◌}
use Rattle.std.proofs.Math.ListN.{drop_of_length-le}
use Rattle.std.proofs.lemmas.Result.{err_from_is_err_and}
use Rattle.go_load.proofs.FileLaws.{tells_absent, tells_read, tells_stop, tells_all, told_next, of_next}
use Rattle.go_load.proofs.package_files.read_paths.Goals as goal
use Rattle.go_load.proofs.package_files.read_paths.Goals.{in-Some+in_ok-push, in_default}

pub returns-in_err-source-clause-answer : goal.returns-in_err-source-clause-answer
returns-in_err-source-clause-answer g c =
    let p = err_from_is_err_and c.from_residual.result c.from_residual.ensures.1 in
    rw (p.1, p.2) (tells_stop (g.F.Files.tree c.args.files.now) (g.F.Files.tree c.paths.files) c.args.paths.now c.args.room c.paths.left c.paths.path-index c.paths.sources.items c.path-item.result c.as_str.result.now c.in_err-source.field-0.0 c.paths.invariant.same c.as_str.ensures.value c.paths-test.true c.path-item.is c.in_err-source.ensures.answer c.paths.invariant.behind)

pub paths-preserved : goal.paths-preserved
paths-preserved g c =
    elim c.match-branch-2.branch [
      | in-Some+in_ok-push w ↦ (
          let all : c.match-branch-2.sources.items ≡ c.paths.sources.items ++ w.in-Some.source ∷ [] = (cc (w.sources-is, w.in_ok-push.ensures.items)) in
          record {
            later = search rules;
            same = search rules;
            told = told_next (g.F.Files.tree c.args.files.now) (g.F.Files.tree c.paths.files) c.paths.sources.items c.match-branch-2.sources.items c.in_ok-source.field-0 w.in-Some.source c.paths.invariant.same w.in-Some.is c.in_ok-source.ensures.told all c.paths.invariant.told;
            slot = of_next c.args.slot.«package» c.paths.sources.items c.match-branch-2.sources.items c.in_ok-source.field-0 w.in-Some.source w.in-Some.is c.in_ok-source.ensures.slot all c.paths.invariant.slot;
            behind = tells_read (g.F.Files.tree c.args.files.now) (g.F.Files.tree c.paths.files) c.args.paths.now c.args.room c.paths.left c.match-branch-2.left c.paths.path-index c.paths.sources.items c.match-branch-2.sources.items c.path-item.result c.as_str.result.now c.in_ok-source.field-0 w.in-Some.source c.paths.invariant.same c.as_str.ensures.value w.in-Some.is c.paths-test.true c.path-item.is c.in_ok-source.ensures.answer all (search rules) c.paths.invariant.behind;
          })
      | in_default w ↦ record {
        later = search rules;
        same = search rules;
        told = rw w.sources-is c.paths.invariant.told;
        slot = rw w.sources-is c.paths.invariant.slot;
        behind = rw (w.sources-is, w.left-is) (tells_absent (g.F.Files.tree c.args.files.now) (g.F.Files.tree c.paths.files) c.args.paths.now c.args.room c.paths.left c.paths.path-index c.paths.sources.items c.path-item.result c.as_str.result.now c.in_ok-source.field-0 c.paths.invariant.same c.as_str.ensures.value (cc) c.paths-test.true c.path-item.is c.in_ok-source.ensures.answer c.paths.invariant.behind);
      }
    ]

pub returns-clause-answer : goal.returns-clause-answer
returns-clause-answer g c =
    tells_all (g.F.Files.tree c.args.files.now) c.args.paths.now c.args.room c.paths.left c.paths.path-index c.paths.sources (drop_of_length-le c.args.paths.now c.paths-test.false) c.paths.invariant.behind
