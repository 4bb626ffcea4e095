use Rattle.std.proofs.Common.{◌∙◌, ◌++◌, List, refl, sym, subst, map, take, get_or, append-nil}
use Rattle.cg_nodes.specs.declared.nodes.Mention.{Mention}
use Rattle.cg_nodes.specs.declared.nodes.Mention.TheVariants as mention
use Rattle.cg_nodes.specs.declared.nodes.Value.TheVariants as value_of
use Rattle.cg_numbers.specs.Sites.{Collects, Among, Met, met_in}
use Rattle.cg_numbers.proofs.Collecting.{collects_more, map_push}
use Rattle.cg_numbers.proofs.sites.Sites.add_all.Goals as goal

pub loop-mention-init : goal.loop-mention-init
loop-mention-init c = record {
  types = refl;
  met = λ met all. subst (λ (l : List Met). Collects (Among l) c.args.self.now) (sym (append-nil met)) all;
}

pub loop-mention-preserved : goal.loop-mention-preserved
loop-mention-preserved c =
    let f = c.args.function in
    let ms = c.args.mentions.now in
    let i = c.loop-mention.mention-index in
    let d : Mention = mention.Seed (value_of.Class (record { number = 0 })) in
    let adds = c.in_ok-add.ensures in
    record {
      types = adds.extends.likeness ∙ c.loop-mention.invariant.types;
      met = λ met all. subst (λ (l : List Met). Collects (Among l) c.add.new.self) (map_push f met ms i d c.loop-mention-test.true) (collects_more c.loop-mention.self c.add.new.self (met ++ map (met_in f) (take i ms)) f (get_or ms i d) adds (c.loop-mention.invariant.met met all));
    }
