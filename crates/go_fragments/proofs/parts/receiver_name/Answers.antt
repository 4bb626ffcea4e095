use Rattle.go_fragments.proofs.Receivers.{receiver_name_read}
use Rattle.go_fragments.proofs.parts.receiver_name.Goals as goal

pub returns : goal.returns
returns c = receiver_name_read c.args.tokens.now c.param_name.result.0 c.param_name.result.1.now c.param_name.ensures
