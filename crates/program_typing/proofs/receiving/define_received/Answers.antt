use Rattle.std.proofs.Common.{◌≡◌, ℕ, zero, suc, refl, ◌∙◌, ap, sym, List, [], ◌∷◌, length}
use Rattle.go_base.specs.declared.ids.TypeId.{TypeId}
use Rattle.go_type.specs.Table.{basic_id}
use Rattle.go_type.specs.declared.term.Basic.TheVariants as basic
use Rattle.expr_typing.specs.Telling.{at_tests}
use Rattle.typed_trees.specs.Around.{Around}
use Rattle.typed_trees.specs.Targets.{define_all, first_types}
use Rattle.program_typing.proofs.receiving.define_received.Goals as goal

both_types : (a : Around) (n : ℕ) (elem : TypeId) → (n ≡ 1 → ⊥) → first_types a n elem ≡ elem ∷ basic_id basic.Bool ∷ []
both_types a zero elem ne = refl
both_types a (suc zero) elem ne = absurd (ne refl)
both_types a (suc (suc n)) elem ne = refl

pub returns-then-targets-eq1 : goal.returns-then-targets-eq1
returns-then-targets-eq1 c = λ told. c.define_all.ensures told ∙ ap (λ (n : ℕ). define_all (at_tests c.args.around told.tests) c.args.targets.now (first_types (at_tests c.args.around told.tests) n c.args.elem)) (sym c.if-targets-eq1.true)

pub returns : goal.returns
returns c = λ told.
    c.define_all-2.ensures told
    ∙ (ap (λ (b : TypeId). define_all (at_tests c.args.around told.tests) c.args.targets.now (c.args.elem ∷ b ∷ [])) c.basic.ensures
    ∙ ap (λ (ts : List TypeId). define_all (at_tests c.args.around told.tests) c.args.targets.now ts) (sym (both_types (at_tests c.args.around told.tests) (length c.args.targets.now) c.args.elem c.if-targets-eq1.false)))
