use Rattle.interp_calls.proofs.Readied.{func_called}
use Rattle.interp_calls.proofs.function_values.called_by.Goals as goal

pub returns-in-Func : goal.returns-in-Func
returns-in-Func c =
    func_called c.called_by_function.result c.args.value.now c.in-Func.function c.deref.result.now c.in-Func.is
    c.deref.ensures c.called_by_function.ensures
