use Rattle.std.proofs.Common.{ℕ, ◌≡◌, ◌++◌, ◌∷◌, [], inl, inr, sym, subst, get_or, take, arith}
use Rattle.std.proofs.lemmas.List.{take_more}
use Rattle.cg_solve.specs.Lists.{Has}
use Rattle.cg_solve.proofs.Members.{Has-cases}
use Rattle.cg_solve.specs.Tables.{row}
use Rattle.cg_sets.specs.Asking.{Gives}
use Rattle.cg_sets.proofs.asking.given_of.Goals as goal

pub loop-answer-preserved : goal.loop-answer-preserved
loop-answer-preserved c =
    let items = c.as_slice-answer-items.result.now in
    let i = c.loop-answer.answer-index in
    let grown = c.in_ok-put_given.ensures.given in
    record {
      clear = c.in_ok-put_given.ensures.clear;
      sound = grown.sound c.loop-answer.invariant.sound;
      whole = λ answer h f d. elim (Has-cases (take i items) (get_or items i 0 ∷ []) answer (subst (λ l. Has l answer) (take_more items i 0 (omega arith)) h)) [
        | inl g ↦ grown.kept answer f (c.loop-answer.invariant.whole answer g f d)
        | inr (inl e) ↦ subst (λ a. Has (row c.put_given.new.given a) f) e (grown.whole f (subst (λ a. Gives c.args.rules.now a f) (sym e) d))
        | inr (inr g) ↦ absurd g
      ];
    }
