use Rattle.std.proofs.Common.{◌+◌, ◌∙◌, ap, drop}
use Rattle.ssa_mean.proofs.Decoded.{first_is}
use Rattle.interp_values.proofs.ranging.character_at.Goals as goal

pub returns : goal.returns
returns c =
    let is = first_is (drop c.args.at c.args.text.now) c.decode_rune-point.result.0 c.decode_rune-point.result.1
    c.decode_rune-point.ensures in
    record {
      within = c.if-at-text.false;
      point = is.0;
      behind = ap (λ n. c.args.at + n) (c.from.ensures ∙ is.1);
      end = tt;
    }
