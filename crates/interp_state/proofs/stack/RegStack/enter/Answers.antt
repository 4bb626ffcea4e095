use Rattle.std.proofs.Common.{◌∙◌}
use Rattle.interp_state.proofs.SlotFrames.{enters}
use Rattle.interp_state.proofs.stack.RegStack.enter.Goals as goal

pub returns-clause-frames : goal.returns-clause-frames
returns-clause-frames c =
    let slots = c.args.self.now.slots in
    enters slots.items c.args.slots c.args.self.now.base c.len-base.result c.args.self.now.bases.items
    c.push_reserved.new.self.items c.push_unset.new.slots.items (c.len-base.ensures ∙ slots.ok.0)
    c.push_unset.ensures.items c.push_reserved.ensures.items
