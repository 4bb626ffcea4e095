use Rattle.std.proofs.Common.{◌∙◌, get_or, take, arith, rules}
use Rattle.std.proofs.lemmas.List.{get_or_default, take_all}
use Rattle.std.proofs.lemmas.Result.{err_from_is_err_and}
use Rattle.go_ast.specs.declared.token.Kind.TheVariants as kinds
use Rattle.go_ast.specs.declared.token.Token.{Token}
use Rattle.go_finding.proofs.FindingSteps.{found_next, import_broken, imports_found}
use Rattle.go_finding.proofs.found.Found.find_imports.Goals as goal

abbrev no_token : Token
no_token = record { kind = kinds.BreakWord; start = 0; end = 0 }

pub returns-in_err-package-clause-told : goal.returns-in_err-package-clause-told
returns-in_err-package-clause-told g c =
    let literals = c.as_slice-literal-items.result.now in
    let index = c.literals.literal-index in
    let literal = get_or literals index no_token in
    let p = err_from_is_err_and c.from_residual-in_err-package.result c.from_residual-in_err-package.ensures.1 in
    rw (p.1, p.2) (import_broken (g.F.Files.tree c.args.files.now) (g.F.Files.tree c.literals.files) c.args.self.now c.literals.self c.find_import.new.self c.find_import.new.self c.args.source.now literals c.literals.imports.items index literal c.in_err-package.field-0.0
    c.literals.invariant.1 (omega arith) (get_or_default literals index no_token literal (omega arith)) (c.as_slice-literal-items.ensures.value ∙ c.in_ok-literals.ensures c.args.source.now.bytes) c.literals.invariant.2 c.in_err-package.ensures.told)

pub literals-preserved : goal.literals-preserved
literals-preserved g c =
    let literals = c.as_slice-literal-items.result.now in
    let index = c.literals.literal-index in
    let literal = get_or literals index no_token in (
      search rules,
      search rules,
      found_next (g.F.Files.tree c.args.files.now) (g.F.Files.tree c.literals.files) c.args.self.now c.literals.self c.find_import.new.self c.args.source.now literals c.literals.imports.items c.push.new.self.items index literal c.in_ok-package.package
          c.literals.invariant.1 (omega arith) (get_or_default literals index no_token literal (omega arith)) c.in_ok-push.ensures.items c.literals.invariant.2 c.in_ok-package.ensures.told,
    )

pub returns-clause-told : goal.returns-clause-told
returns-clause-told g c =
    let literals = c.as_slice-literal-items.result.now in
    imports_found (g.F.Files.tree c.args.files.now) c.args.self.now c.literals.self c.args.source.now literals (take c.literals.literal-index literals) c.literals.imports
    (c.as_slice-literal-items.ensures.value ∙ c.in_ok-literals.ensures c.args.source.now.bytes) (take_all c.literals.literal-index literals (omega arith)) c.literals.invariant.2
