use Rattle.std.proofs.Common.{◌≡◌, ◌↔◌, ◌∙◌, true, List, ℕ, subst}
use Rattle.ssa_sane.proofs.Rising.{row_iff}
use Rattle.ssa_sane.proofs.blocks.Check.is_row.Goals as goal

pub returns : goal.returns
returns c =
    row_iff c.args.self.now.function.now c.args.number c.args.numbers.now.items c.sort_unstable.new.self.items c.row.result.now
    c.sort_unstable.ensures.permutation c.sort_unstable.ensures.sorted (c.row.ensures ∙ c.requires.rows c.args.number) c.are_same.result
    (subst (λ (l : List ℕ). (c.are_same.result ≡ true) ↔ (l ≡ c.row.result.now)) c.as_slice.ensures.value c.are_same.ensures)
