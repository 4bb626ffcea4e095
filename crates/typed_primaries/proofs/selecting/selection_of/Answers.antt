use Rattle.std.proofs.Common.{refl, sym, ap, ◌∙◌}
use Rattle.std.specs.Prelude.{is_some}
use Rattle.go_type.specs.declared.methods.SelectError.TheVariants as error
use Rattle.go_type.specs.Table.{is_blank}
use Rattle.typed_parts.specs.Judged.{breaks, fine}
use Rattle.go_base.specs.declared.rule.Rule.TheVariants.{AmbiguousSelector, NoSuchFieldOrMethod}
use Rattle.typed_primaries.specs.Selecting.{IsSelection}
use Rattle.typed_primaries.proofs.Selects.{error_as, selection_absent, selection_ambiguous, selection_found, untyped_nameless}
use Rattle.typed_primaries.proofs.selecting.selection_of.Goals as goal

pub returns-then-is_some : goal.returns-then-is_some
returns-then-is_some c =
    let types = c.args.ground.now.types in
    let it = c.args.selected in
    record {
      judged = breaks it.at NoSuchFieldOrMethod;
      is = IsSelection.nameless (untyped_nameless types c.args.of it (ap is_some (sym c.untyped_kind.ensures) ∙ (sym c.is_some.ensures ∙ c.if-is_some.true)));
      answers = refl;
      reports = c.report.ensures;
    }

pub returns-in-Ok : goal.returns-in-Ok
returns-in-Ok c =
    let types = c.args.ground.now.types in
    let it = c.args.selected in
    record {
      judged = fine c.in-Ok.selection;
      is = selection_found types c.args.of it (is_blank types it.name) c.find_selector.result c.in-Ok.selection refl c.find_selector.ensures.blank
          c.find_selector.ensures.found (ap is_some (sym c.untyped_kind.ensures) ∙ (sym c.is_some.ensures ∙ c.if-is_some.false)) c.in-Ok.is;
      answers = refl;
      reports = refl;
    }

pub returns-in-Err-Absent : goal.returns-in-Err-Absent
returns-in-Err-Absent c =
    let types = c.args.ground.now.types in
    let it = c.args.selected in
    record {
      judged = breaks it.at NoSuchFieldOrMethod;
      is = selection_absent types c.args.of it (is_blank types it.name) c.find_selector.result refl c.find_selector.ensures.found
          (ap is_some (sym c.untyped_kind.ensures) ∙ (sym c.is_some.ensures ∙ c.if-is_some.false)) (error_as c.find_selector.result c.in-Err-Absent.field-0 error.Absent c.in-Err-Absent.is c.in-Err-Absent.field-0-is);
      answers = refl;
      reports = c.report-in-Err-Absent.ensures;
    }

pub returns-in-Err-Ambiguous : goal.returns-in-Err-Ambiguous
returns-in-Err-Ambiguous c =
    let types = c.args.ground.now.types in
    let it = c.args.selected in
    record {
      judged = breaks it.at AmbiguousSelector;
      is = selection_ambiguous types c.args.of it (is_blank types it.name) c.find_selector.result c.in-Err-Ambiguous.field-0-0 c.in-Err-Ambiguous.field-0-1 refl
          c.find_selector.ensures.blank c.find_selector.ensures.found
          (ap is_some (sym c.untyped_kind.ensures) ∙ (sym c.is_some.ensures ∙ c.if-is_some.false)) (error_as c.find_selector.result c.in-Err-Ambiguous.field-0
          (error.Ambiguous c.in-Err-Ambiguous.field-0-0 c.in-Err-Ambiguous.field-0-1) c.in-Err-Ambiguous.is c.in-Err-Ambiguous.field-0-is);
      answers = refl;
      reports = c.report-in-Err-Ambiguous.ensures;
    }
