use Rattle.std.proofs.Common.{◌≡◌, ℕ, ◌++◌, ap, sym, subst, ◌∙◌, append_assoc, flat_map, get_or, inl, inr, arith, eq-eqb, refl}
use Rattle.std.specs.Prelude.{◌==◌}
use Rattle.std.proofs.lemmas.List.{append-nil, drop_all}
use Rattle.cg_solve.specs.declared.solving.Rule.{Rule}
use Rattle.cg_solve.specs.Lists.{Has, when}
use Rattle.cg_solve.specs.Tables.{row}
use Rattle.cg_solve.specs.LeastSets.{premise}
use Rattle.cg_solve.proofs.Members.{flat_step, Has-flat_map, from_flat_map, Has-left, Has-right, Has-cases, Has-when, when_has}
use Rattle.cg_solve.proofs.solving.index.Goals as goal

pub loop-rule-preserved : goal.loop-rule-preserved
loop-rule-preserved c = λ k.
    let d : Rule = record { left = 0; right = 0; then = 0 } in
    let r : Rule = get_or c.args.rules.now c.loop-rule.rule-index d in
    flat_step (premise k) c.args.rules.now c.loop-rule.rule-index d (row c.loop-rule.table k) (row c.put-in-loop-rule.new.self k) (flat_map (premise k) c.args.rules.now) (omega arith)
    (c.in_ok-put-2.ensures k ∙ (ap (λ l. l ++ when (r.right == k) r) (c.in_ok-put.ensures k) ∙ append_assoc (row c.loop-rule.table k) (when (r.left == k) r) (when (r.right == k) r)))
    (c.loop-rule.invariant k)

pub returns : goal.returns
returns c = record {
  sound = λ k r h. sound k r (subst (λ l. Has l r) (whole k) h);
  left = λ r h. subst (λ l. Has l r) (sym (whole r.left)) (Has-flat_map (premise r.left) c.args.rules.now r r h (Has-left (when (r.left == r.left) r) _ r (when_has (r.left == r.left) r (eq-eqb r.left r.left refl))));
  right = λ r h. subst (λ l. Has l r) (sym (whole r.right)) (Has-flat_map (premise r.right) c.args.rules.now r r h (Has-right (when (r.left == r.right) r) _ r (when_has (r.right == r.right) r (eq-eqb r.right r.right refl))));
}
  where
    whole : (k : ℕ) → row c.loop-rule.table k ≡ flat_map (premise k) c.args.rules.now
    whole k = sym (append-nil (row c.loop-rule.table k)) ∙ (ap (λ l. row c.loop-rule.table k ++ flat_map (premise k) l) (sym (drop_all c.loop-rule.rule-index c.args.rules.now (omega arith))) ∙ c.loop-rule.invariant k)

    of_premise : (k : ℕ) (q r : Rule) → Has (premise k q) r → q ≡ r
    of_premise k q r h = elim (Has-cases (when (q.left == k) q) (when (q.right == k) q) r h) [ inl g ↦ (Has-when (q.left == k) q r g).1 | inr g ↦ (Has-when (q.right == k) q r g).1 ]

    sound : (k : ℕ) (r : Rule) → Has (flat_map (premise k) c.args.rules.now) r → Has c.args.rules.now r
    sound k r h = let f = from_flat_map (premise k) c.args.rules.now r h in subst (Has c.args.rules.now) (of_premise k f.0 r f.2) f.1
