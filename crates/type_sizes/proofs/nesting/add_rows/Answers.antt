use Rattle.std.proofs.Common.{◌≡◌, ◌∙◌, ◌+◌, ◌∷◌, [], ◌++◌, cond, sym, ap, subst, refl, ℕ, List, Some, Vec, Global, length, map, slice_get, length-append}
use Rattle.go_type.specs.Levels.{is_seen}
use Rattle.type_sizes.specs.Nesting.{IsPartGraphTo, whole_parts}
use Rattle.type_sizes.proofs.PartGraphs.{graph_none, graph_more}
use Rattle.type_sizes.proofs.nesting.add_rows.Goals as goal

pub places-init : goal.places-init
places-init c =
    let none : map (λ (r : Vec ℕ Global). r.items) c.args.graph.now.items ≡ [] = ap (map (λ (r : Vec ℕ Global). r.items)) c.requires.graph in
    let first : c.insert.new.self.keys ≡ c.args.id ∷ [] = c.in_ok-insert.ensures.keys ∙ ap (λ l. cond (is_seen l c.args.id) l (l ++ c.args.id ∷ [])) c.requires.reached in
    record {
      graph = subst (λ (l : List (List ℕ)). IsPartGraphTo c.args.types.now c.args.id c.insert.new.self.keys l) (sym none) (graph_none c.args.types.now c.args.id c.insert.new.self.keys first);
      count = ap length none;
    }

pub places-preserved : goal.places-preserved
places-preserved c =
    let rows = map (λ (r : Vec ℕ Global). r.items) c.places.graph.items in
    let row = c.in_ok-add_row.ensures.0 in
    let more = c.in_ok-add_row.ensures.1 in
    let at : slice_get c.places.reached.keys (length rows) ≡ Some c.in-Some.part =
    ap (slice_get c.places.reached.keys) c.places.invariant.count ∙ sym c.get_index.ensures.key ∙ sym c.copied.ensures ∙ c.in-Some.is in
    record {
      graph = subst (λ (l : List (List ℕ)). IsPartGraphTo c.args.types.now c.args.id c.add_row.new.reached.keys l) (sym more.1)
          (graph_more c.args.types.now c.args.id c.in-Some.part c.places.reached.keys c.add_row.new.reached.keys (whole_parts c.args.types.now c.in-Some.part) rows row c.places.invariant.graph at refl more.0);
      count = ap length more.1 ∙ length-append rows (row ∷ []) ∙ ap (λ n. n + 1) c.places.invariant.count;
    }
