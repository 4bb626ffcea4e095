use mathlib.Core.Logic.{inl, inr}
use Rattle.std.proofs.Common.{◌≡◌, ◌∙◌, ◌+◌, ◌-◌, ◌≤◌, Some, ap, arith, length, sym}
use Rattle.interp_state.specs.Frames.{seen}
use Rattle.interp_state.proofs.SlotFrames.{depth_is, left_to, nothing, none_left, spared}
use Rattle.interp_state.proofs.stack.RegStack.leave.Goals as goal
use Rattle.interp_state.proofs.stack.RegStack.leave.Goals.{in-Some, in_default-2, in_default}

pub returns-clause-frames : goal.returns-clause-frames
returns-clause-frames c =
    left_to c.args.self.now.slots.items c.truncate.new.self.items c.args.self.now.base c.match-below.self
    c.args.self.now.bases.items c.pop-below.new.self.items c.pop-below.result c.truncate.ensures.items c.pop-below.ensures.items
    (elim c.match-below.branch [
      | in-Some w ↦ inr (w.in-Some.is ∙ ap Some (sym w.self-is))
      | in_default-2 w ↦ inl (nothing c.pop-below.new.self.items _ w.is_empty.result c.pop-below.new.self.ok.0 w.is_empty.ensures w.if-not-is_empty.false)
      | in_default w ↦ inl (none_left c.pop-below.result c.pop-below.new.self.items _ _ c.pop-below.ensures.cases c.pop-below.new.self.ok.0 w.in_default.is)
    ])

pub returns-clause-spare_frames : goal.returns-clause-spare_frames
returns-clause-spare_frames c =
    let old = c.args.self.now in
    let before = depth_is (seen old.slots.items) old.base old.bases.items in
    let after = depth_is (seen c.truncate.new.self.items) c.match-below.self c.pop-below.new.self.items in
    omega (
      arith,
      before,
      after,
      old.bases.ok.0,
      old.bases.ok.1,
      c.pop-below.new.self.ok.0,
      c.pop-below.ensures.len,
      c.pop-below.ensures.capacity,
    )

pub returns-clause-spare_slots : goal.returns-clause-spare_slots
returns-clause-spare_slots c =
    let old = c.args.self.now in
    let slots = old.slots in
    let cut = c.truncate.new.self in
    let within : length slots.items ≤ slots.cap = omega (arith, slots.ok.0, slots.ok.1) in
    let is : length cut.items + (length slots.items - old.base) ≡ length slots.items =
    omega (arith, slots.ok.0, cut.ok.0, c.truncate.ensures.len) in
    ap (λ cap. cap - length cut.items) c.truncate.ensures.capacity
    ∙ spared slots.items cut.items old.base old.bases.items slots.cap within slots.small is old.empty
