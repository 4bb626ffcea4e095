use Rattle.std.proofs.Common.{arith}
use Rattle.interp_state.specs.Frames.{seen}
use Rattle.interp_state.proofs.SlotFrames.{depth_is}
use Rattle.interp_state.proofs.stack.RegStack.depth.Goals as goal

pub returns : goal.returns
returns c =
    omega (
      arith,
      c.len.ensures,
      c.args.self.now.bases.ok.0,
      depth_is (seen c.args.self.now.slots.items) c.args.self.now.base c.args.self.now.bases.items,
    )
