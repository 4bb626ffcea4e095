use Rattle.std.proofs.Common.{◌∙◌, [], ◌∷◌, ◌++◌, None, refl, ap}
use Rattle.go_base.specs.NameTable.{with_text}
use Rattle.go_finding.specs.declared.found.Entry.{Entry}
use Rattle.go_finding.specs.declared.found.Origin.TheVariants as code
use Rattle.go_finding.proofs.found.Found.new.Goals as goal

pub returns : goal.returns
returns c =
    let entry : Entry = record { path = c.in_ok-from_str.field-0; origin = code.Paths c.args.files; asker = None } in
    record {
      same = refl;
      paths = c.in_ok-intern.ensures.held ∙ ap (with_text c.args.path.now) c.new-paths.ensures;
      entry = entry;
      entries = c.in_ok-push.ensures.items ∙ ap (λ entries. entries ++ entry ∷ []) c.new-entries.ensures.items;
      path_is = c.in_ok-from_str.ensures.ok;
      origin = refl;
      asker = refl;
    }
