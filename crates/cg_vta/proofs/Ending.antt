-- What was met, with numbers that were given later.
use Rattle.std.proofs.Common.{◌≡◌, ◌∙◌, List, sym, ap, subst}
use Rattle.go_base.specs.declared.ids.TypeId.{TypeId}
use Rattle.go_tree.specs.declared.program.Program.{Program}
use Rattle.cg_nodes.specs.declared.nodes.Mention.TheVariants as mention
use Rattle.cg_nodes.specs.declared.nodes.Node.TheVariants as node_of
use Rattle.cg_nodes.specs.declared.nodes.Value.TheVariants as value_of
use Rattle.cg_numbers.specs.Alike.{like_value}
use Rattle.cg_numbers.specs.Numbered.{Extends}
use Rattle.cg_numbers.specs.Sites.{Collects, Stands}
use Rattle.cg_numbers.specs.declared.likeness.Likeness.{Likeness}
use Rattle.cg_numbers.specs.declared.numbers.Numbers.{Numbers}
use Rattle.cg_numbers.specs.declared.sites.Seed.{Seed}
use Rattle.cg_numbers.specs.declared.sites.Site.{Site}
use Rattle.cg_numbers.specs.declared.sites.Sites.{Sites}
use Rattle.cg_numbers.proofs.Collecting.{flow_later, node_later, seed_later, site_later, value_later}
use Rattle.cg_sets.specs.Answering.{ListsMade}
use Rattle.cg_sets.specs.Rules.{AreSeeds, AreSites}
use Rattle.cg_solve.specs.Lists.{Has}
use Rattle.cg_vta.specs.Facts.{AreStarts}
use Rattle.cg_vta.specs.Passing.{AreFlows}
use Rattle.cg_vta.specs.declared.facts.Starts.{Starts}

module _ (p : Program) (m n : Numbers) (e : Extends m n) where
  pub made_later : n.values ≡ m.values → ListsMade p m → ListsMade p n
  made_later same h = record {
    only = λ v k. (let r = h.only v (subst (λ s. Has s.keys v) same k) in (r.0, r.1, r.2, r.3 ∙ ap (λ (l : Likeness). like_value l.types l.bares r.1) (sym e.likeness)));
    whole = λ f u stands. (let r = h.whole f u stands in (r.0, value_later m n e r.0 u r.1));
  }

  pub sites_later : (sites : List Site) → AreSites p m sites → AreSites p n sites
  sites_later sites h = record {
    only = λ x k. (let r = h.only x k in (r.0, r.1, r.2, r.3, site_later m n e x r.0 r.1 r.2 r.4));
    whole = λ f at c stands. (let r = h.whole f at c stands in (r.0, r.1, site_later m n e r.0 f at c r.2));
  }

  pub seeds_later : (seeds : List Seed) → AreSeeds p m seeds → AreSeeds p n seeds
  seeds_later seeds h = record {
    only = λ x k. (let r = h.only x k in (r.0, r.1, r.2, seed_later m n e x r.0 r.1 r.3));
    whole = λ f v stands. (let r = h.whole f v stands in (r.0, r.1, seed_later m n e r.0 f v r.2));
  }

pub starts_later : (m n : Numbers) → Extends m n → (fault : TypeId) (starts : Starts) → AreStarts m fault starts → AreStarts n fault starts
starts_later m n e fault starts h = record {
  faults = value_later m n e starts.fault (value_of.Class fault) h.faults;
  recovers = node_later m n e starts.recover node_of.Recover h.recovers;
  empty = node_later m n e starts.nothing node_of.Nothing h.empty;
}

pub flows_met : (p : Program) (s : Sites) → Collects (Stands p) s → (n : Numbers) → Extends s.numbers n → AreFlows p n s.flows.items
flows_met p s met n e = record {
  only = λ x h. (let r = met.flows x h in (r.0, r.1, r.2, r.3, flow_later s.numbers n e x r.1 r.2 r.4));
  whole = λ f a b stands. (let r = met.whole f (mention.Flow a b) stands in (r.0, r.1, flow_later s.numbers n e r.0 a b r.2));
}
