use Rattle.std.proofs.Common.{◌≡◌, ◌&&◌, ◌∙◌, List, Bool, Option, map, refl, sym, rules}
use Rattle.std.specs.Prelude.{is_none}
use Rattle.go_base.specs.declared.ids.TypeId.{TypeId}
use Rattle.go_type.specs.declared.operators.Builtin.{Builtin}
use Rattle.go_type.specs.declared.operators.Builtin.TheVariants as builtin
use Rattle.typed_trees.specs.Around.{Around}
use Rattle.typed_trees.specs.BuiltIns.{takes, fits_built_in}
use Rattle.typed_trees.specs.Nodes.{Seen}
use Rattle.expr_typing.specs.Telling.{at_tests}
use Rattle.expr_typing.specs.Trees.{typed_as}
use Rattle.expr_typing.proofs.builtins.fits_built_in.Goals as goal

others : (a : Around) (b : Builtin) (form : Option TypeId) (spread : Bool) (xs : List Seen) (of : TypeId) → (b ≡ builtin.Make → ⊥) → (b ≡ builtin.New → ⊥) → fits_built_in a b form spread xs of ≡ is_none form && takes a b spread xs of
others a builtin.Make form spread xs of h k = absurd (h refl)
others a builtin.New form spread xs of h k = absurd (k refl)
others a builtin.Append form spread xs of h k = refl
others a builtin.Cap form spread xs of h k = refl
others a builtin.Clear form spread xs of h k = refl
others a builtin.Close form spread xs of h k = refl
others a builtin.Copy form spread xs of h k = refl
others a builtin.Delete form spread xs of h k = refl
others a builtin.Len form spread xs of h k = refl
others a builtin.Max form spread xs of h k = refl
others a builtin.Min form spread xs of h k = refl
others a builtin.Panic form spread xs of h k = refl
others a builtin.Print form spread xs of h k = refl
others a builtin.Println form spread xs of h k = refl
others a builtin.Recover form spread xs of h k = refl

pub returns-in_default : goal.returns-in_default
returns-in_default c = λ tests.
    let none : c.is_none.result ≡ is_none c.args.form = search rules in
    (λ i. none i && c.takes.ensures tests i)
    ∙ sym (others (at_tests c.args.around tests) c.args.builtin c.args.form c.args.spread (map typed_as c.args.arguments.now) c.args.of c.in_default.not-Make c.in_default.not-New)
