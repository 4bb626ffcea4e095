use Rattle.std.proofs.Common.{◌≡◌, ◌<◌, length, ap, ◌∙◌, arith}
use Rattle.std.specs.Prelude.{take_while}
use Rattle.go_type.specs.Table.{term_at}
use Rattle.ssa_print.specs.Codes.{is_declared_in}
use Rattle.ssa_print.specs.Operands.{Setting}
use Rattle.ssa_print.proofs.Runs.{packages-turn, left-turn}
use Rattle.ssa_print.proofs.codes.push_packages.Goals as goal

pub loop-number-preserved : goal.loop-number-preserved
loop-number-preserved c =
    let s = c.args.setting.now in
    let number = c.loop-number.number in
    let types = c.loop-number.types.now in
    let count : c.count_types.result ≡ length (take_while (λ id. is_declared_in number (term_at s.naming.types id)) types) =
    c.count_types.ensures.value ∙ ap (λ (v : Setting). length (take_while (λ id. is_declared_in number (term_at v.naming.types id)) types)) c.setting.view_is
    in
    let ends : c.len-number-end.result ≡ length s.naming.labels = c.len-number-end.ensures ∙ ap (λ (v : Setting). length v.naming.labels) c.setting.view_is in
    let within : number < length s.naming.labels = omega arith in
    record {
      text =
          packages-turn s (length s.naming.labels) number types c.split_at.result.0.now c.split_at.result.1.now c.loop-number.methods.now c.in_ok-methods.methods.now c.count_types.result
          within count c.split_at.ensures.front c.split_at.ensures.back c.in_ok-methods.ensures.left
          c.loop-number.variables.now c.split_at-in-loop-number.result.0.now c.split_at-in-loop-number.result.1.now c.count_variables.result
          c.loop-number.text.items c.push_package_line.new.text.items c.push_types.new.text.items c.push_variables.new.text.items _
          c.count_variables.ensures.value c.split_at-in-loop-number.ensures.front c.split_at-in-loop-number.ensures.back
          c.in_ok-push_package_line.ensures c.in_ok-methods.ensures.text c.in_ok-push_variables.ensures c.loop-number.invariant.text;
      left =
          left-turn s (length s.naming.labels) number types c.split_at.result.0.now c.split_at.result.1.now c.loop-number.methods.now c.in_ok-methods.methods.now c.count_types.result
          within count c.split_at.ensures.front c.split_at.ensures.back c.in_ok-methods.ensures.left _ c.loop-number.invariant.left;
    }
