use Rattle.std.proofs.Common.{◌≡◌, ◌+◌, ◌∙◌, ap, ℕ, List, length, Some, below_more}
use Rattle.std.specs.Prelude.{slice_get}
use Rattle.ssa_sane.specs.Places.{registers_at}
use Rattle.ssa_sane.proofs.Pushed.{push_kept, push_here}
use Rattle.std.proofs.lemmas.List.{length_push}
use Rattle.ssa_sane.proofs.availability.Available.new.Goals as goal

pub loop-block-preserved : goal.loop-block-preserved
loop-block-preserved c =
    let old = c.loop-block.blocks.items in
    let more = c.in_ok-push.ensures.items in
    record {
      size = ap length more ∙ length_push old c.in_ok-new.field-0 ∙ ap (λ n. n + 1) c.loop-block.invariant.size;
      lists = below_more (λ b. slice_get c.push.new.self.items b ≡ Some (registers_at c.in_ok-places.places.value b)) c.loop-block.block
          (λ b l. ap (λ (l : List (List ℕ)). slice_get l b) more ∙ push_kept old c.in_ok-new.field-0 b _ (c.loop-block.invariant.lists b l))
          (ap (λ (l : List (List ℕ)). slice_get l c.loop-block.block) more ∙ (push_here old c.in_ok-new.field-0 c.loop-block.block c.loop-block.invariant.size ∙ ap Some c.in_ok-new.ensures));
    }
