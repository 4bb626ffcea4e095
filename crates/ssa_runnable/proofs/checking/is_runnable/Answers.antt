use Rattle.std.proofs.Common.{ap, sym, ◌∙◌}
use Rattle.ssa_runnable.specs.Tests.{externals_fit, fits_error}
use Rattle.ssa_runnable.proofs.Runnable.{error_back, externals_back, interfaces_back, is_whole, never, run_back}
use Rattle.ssa_runnable.proofs.checking.is_runnable.Goals as goal

pub returns-then-not-externals_fit : goal.returns-then-not-externals_fit
returns-then-not-externals_fit c =
    never c.args.code.now c.externals_fit.result c.if-not-externals_fit.true
    (λ it. c.externals_fit.ensures ∙ ap (externals_fit c.args.code.now.types) c.as_slice.ensures
    ∙ externals_back c.args.code.now it)

pub returns-then-not-fits_error : goal.returns-then-not-fits_error
returns-then-not-fits_error c =
    never c.args.code.now c.fits_error.result c.if-not-fits_error.true
    (λ it. c.fits_error.ensures ∙ ap (fits_error c.args.code.now.types) c.error_string.ensures
    ∙ error_back c.args.code.now it)

pub returns-then-not-interfaces_fit : goal.returns-then-not-interfaces_fit
returns-then-not-interfaces_fit c =
    never c.args.code.now c.interfaces_fit.result c.if-not-interfaces_fit.true
    (λ it. c.interfaces_fit.ensures.1 (interfaces_back c.args.code.now it))

pub returns-then-not-branch : goal.returns-then-not-branch
returns-then-not-branch c =
    never c.args.code.now c.in_ok-functions_run.field-0 c.if-not-branch.true
    (λ it. c.in_ok-functions_run.ensures ∙ run_back c.args.code.now it)

pub returns : goal.returns
returns c =
    let types = c.args.code.now.types in (
      λ h. is_whole c.args.code.now
          (sym (c.externals_fit.ensures ∙ ap (externals_fit types) c.as_slice.ensures) ∙ c.if-not-externals_fit.false)
          (sym (c.fits_error.ensures ∙ ap (fits_error types) c.error_string.ensures) ∙ c.if-not-fits_error.false)
          (c.interfaces_fit.ensures.0 c.if-not-interfaces_fit.false)
          (sym c.in_ok-functions_run.ensures ∙ c.if-not-branch.false) (c.in_ok-has.ensures.0 h),
      λ it. c.in_ok-has.ensures.1 it.methods,
    )
