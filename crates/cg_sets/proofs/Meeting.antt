-- The calls and the values that were met, with numbers that were given later.
use Rattle.std.proofs.Common.{◌≡◌, List, map, refl}
use Rattle.go_base.specs.declared.ids.FuncId.{FuncId}
use Rattle.go_tree.specs.declared.program.Program.{Program}
use Rattle.cg_nodes.specs.declared.nodes.Mention.TheVariants as mention
use Rattle.cg_numbers.specs.Numbered.{Extends}
use Rattle.cg_numbers.specs.Sites.{Collects, Stands}
use Rattle.cg_numbers.specs.declared.numbers.Numbers.{Numbers}
use Rattle.cg_numbers.specs.declared.sites.Site.{Site}
use Rattle.cg_numbers.specs.declared.sites.Sites.{Sites}
use Rattle.cg_numbers.proofs.Collecting.{seed_later, site_later}
use Rattle.cg_sets.specs.Answering.{ListsMade}
use Rattle.cg_sets.specs.Graphs.{Always}
use Rattle.cg_sets.specs.Rules.{AreSeeds, AreSites, question_of}
use Rattle.cg_sets.proofs.Calling.{AreQuestions}
use Rattle.cg_solve.specs.Lists.{Has}
use Rattle.cg_solve.proofs.Members.{Has-map, from_map}

module _ (p : Program) (s : Sites) (met : Collects (Stands p) s) where
  pub lists_made : ListsMade p s.numbers
  lists_made = record { only = met.values; whole = λ f v stands. (let r = met.whole f (mention.Seed v) stands in (r.0.value, r.2.value)) }

  pub sites_met : (n : Numbers) → Extends s.numbers n → AreSites p n s.sites.items
  sites_met n e = record {
    only = λ x h. (let r = met.sites x h in (r.0, r.1, r.2, r.3, site_later s.numbers n e x r.0 r.1 r.2 r.4));
    whole = λ f at c stands. (let r = met.whole f (mention.Call at c) stands in (r.0, r.1, site_later s.numbers n e r.0 f at c r.2));
  }

  pub seeds_met : (n : Numbers) → Extends s.numbers n → AreSeeds p n s.seeds.items
  seeds_met n e = record {
    only = λ x h. (let r = met.seeds x h in (r.0, r.1, r.2, seed_later s.numbers n e x r.0 r.1 r.3));
    whole = λ f v stands. (let r = met.whole f (mention.Seed v) stands in (r.0, r.1, seed_later s.numbers n e r.0 f v r.2));
  }

pub all_asked : (p : Program) (types : _) (bares : _) (sites : List Site) → AreQuestions sites (Always p types bares) (map question_of sites)
all_asked p types bares sites = record { only = λ q h. (let r = from_map question_of sites q h in (r.0, r.1, tt, r.2)); whole = λ x h runs. Has-map question_of sites x h }
