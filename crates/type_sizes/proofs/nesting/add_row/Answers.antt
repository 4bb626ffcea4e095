use Rattle.std.proofs.Common.{◌∙◌, ◌∷◌, [], ap, subst, ℕ, List, Vec, Global, map}
use Rattle.std.proofs.lemmas.List.{map-append}
use Rattle.go_base.specs.declared.ids.TypeId.{TypeId}
use Rattle.type_sizes.specs.Nesting.{IsRow}
use Rattle.type_sizes.proofs.nesting.add_row.Goals as goal

pub returns : goal.returns
returns c = (
  c.in_ok-row.row.items,
  (
    subst (λ (l : List TypeId). IsRow l c.args.reached.now.keys c.row_of.new.reached.keys c.in_ok-row.row.items) (c.as_slice.ensures.value ∙ c.in_ok-parts.ensures) c.in_ok-row.ensures,
    ap (map (λ (r : Vec ℕ Global). r.items)) c.in_ok-push.ensures.items ∙ map-append (λ (r : Vec ℕ Global). r.items) c.args.graph.now.items (c.in_ok-row.row ∷ []),
  ),
)
