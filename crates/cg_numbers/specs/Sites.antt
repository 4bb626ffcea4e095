-- What was met in the bodies of a program, by numbers.
use Rattle.std.specs.Prelude.{◌≡◌, ◌⊎◌, ℕ, List, [], ◌∷◌, ◌++◌, map, length}
use Rattle.std.specs.List.{Contains}
use Rattle.go_base.specs.declared.ids.FuncId.{FuncId}
use Rattle.go_base.specs.declared.place.Pos.{Pos}
use Rattle.go_tree.specs.declared.program.Program.{Program}
use Rattle.cg_nodes.specs.declared.nodes.Called.{Called}
use Rattle.cg_nodes.specs.declared.nodes.Called.TheVariants as called
use Rattle.cg_nodes.specs.declared.nodes.Mention.{Mention}
use Rattle.cg_nodes.specs.declared.nodes.Mention.TheVariants as mention
use Rattle.cg_nodes.specs.declared.nodes.Node.{Node}
use Rattle.cg_nodes.specs.declared.nodes.Node.TheVariants as node_of
use Rattle.cg_nodes.specs.declared.nodes.Value.{Value}
use Rattle.cg_numbers.specs.declared.numbers.Numbers.{Numbers}
use Rattle.cg_numbers.specs.declared.sites.Call.{Call}
use Rattle.cg_numbers.specs.declared.sites.Call.TheVariants as call
use Rattle.cg_numbers.specs.declared.sites.Flow.{Flow}
use Rattle.cg_numbers.specs.declared.sites.Seed.{Seed}
use Rattle.cg_numbers.specs.declared.sites.Site.{Site}
use Rattle.cg_numbers.specs.declared.sites.Sites.{Sites}
use Rattle.cg_numbers.specs.Alike.{like_value}
use Rattle.cg_numbers.specs.Numbered.{NodeAt, ValueAt, GroupAt, Extends}
use Rattle.cg_solve.specs.Lists.{Has, each_below}
use Rattle.cg_uses.specs.Bodies.{uses}

-- ---- what numbers stand for

abbrev pub CallAt : Numbers → Called → Call → Type 0
CallAt n (called.Fixed f) (call.Fixed g) = f ≡ g
CallAt n (called.Fixed f) (call.Chosen i j k) = ⊥
CallAt n (called.Chosen of first group) (call.Fixed g) = ⊥
CallAt n (called.Chosen of first group) (call.Chosen i j k) = NodeAt n i of × NodeAt n j first × GroupAt n k group

pub record SiteAt (n : Numbers) (x : Site) (f : FuncId) (place : Pos) (c : Called) : Type 0 where
  pub caller : x.caller ≡ f
  pub at : x.at ≡ place
  pub call : CallAt n c x.call

pub record SeedAt (n : Numbers) (x : Seed) (f : FuncId) (v : Value) : Type 0 where
  pub function : x.function ≡ f
  pub value : ValueAt n x.value v
  pub node : NodeAt n x.node (node_of.Made v)

pub record FlowAt (n : Numbers) (x : Flow) (from to : Node) : Type 0 where
  pub source : NodeAt n x.from from
  pub target : NodeAt n x.to to

-- ---- what was met is kept, and nothing else

abbrev pub Keeps : Sites → FuncId → Mention → Type 0
Keeps s f (mention.Seed v) = (x : Seed) × Has s.seeds.items x × SeedAt s.numbers x f v
Keeps s f (mention.Flow from to) = (x : Flow) × Has s.flows.items x × FlowAt s.numbers x from to
Keeps s f (mention.Call at c) = (x : Site) × Has s.sites.items x × SiteAt s.numbers x f at c

-- P says what stands in which function
pub record Collects (P : FuncId → Mention → Type 0) (s : Sites) : Type 0 where
  pub whole : (f : FuncId) (m : Mention) → P f m → Keeps s f m
  pub sites : (x : Site) → Has s.sites.items x
      → (f : FuncId) × (at : Pos) × (c : Called) × P f (mention.Call at c) × SiteAt s.numbers x f at c
  pub seeds : (x : Seed) → Has s.seeds.items x
      → (f : FuncId) × (v : Value) × P f (mention.Seed v) × SeedAt s.numbers x f v
  pub flows : (x : Flow) → Has s.flows.items x
      → (f : FuncId) × (from : Node) × (to : Node) × P f (mention.Flow from to) × FlowAt s.numbers x from to
  pub values : (v : Value) → Has s.numbers.values.keys v
      → (f : FuncId) × (u : Value) × P f (mention.Seed u)
      × (v ≡ like_value s.numbers.likeness.types s.numbers.likeness.bares u)

abbrev pub Stands : Program → FuncId → Mention → Type 0
Stands p f m = Contains (uses p f) m

-- ---- one after another

-- something that stands in a function
pub record Met : Type 0 where
  pub function : FuncId
  pub mention : Mention

abbrev pub met_in : FuncId → Mention → Met
met_in f m = record { function = f; mention = m }

abbrev pub Among : List Met → FuncId → Mention → Type 0
Among met f m = Has met (met_in f m)

abbrev pub met_of : Program → ℕ → List Met
met_of p n = map (met_in (record { number = n })) (uses p (record { number = n }))

abbrev pub all_met : Program → List Met
all_met p = each_below (met_of p) (length p.functions)

-- what is put down for something that was met
abbrev pub Puts : Sites → Sites → FuncId → Mention → Type 0
Puts old new f (mention.Seed v) =
    (x : Seed) × SeedAt new.numbers x f v × (new.seeds.items ≡ old.seeds.items ++ x ∷ [])
    × (new.sites.items ≡ old.sites.items) × (new.flows.items ≡ old.flows.items)
Puts old new f (mention.Flow from to) =
    (x : Flow) × FlowAt new.numbers x from to × (new.flows.items ≡ old.flows.items ++ x ∷ [])
    × (new.sites.items ≡ old.sites.items) × (new.seeds.items ≡ old.seeds.items)
Puts old new f (mention.Call at c) =
    (x : Site) × SiteAt new.numbers x f at c × (new.sites.items ≡ old.sites.items ++ x ∷ [])
    × (new.seeds.items ≡ old.seeds.items) × (new.flows.items ≡ old.flows.items)

abbrev pub IsMade : Numbers → Mention → Value → Type 0
IsMade n (mention.Seed u) v = v ≡ like_value n.likeness.types n.likeness.bares u
IsMade n (mention.Flow from to) v = ⊥
IsMade n (mention.Call at c) v = ⊥

pub record Adds (old new : Sites) (f : FuncId) (m : Mention) : Type 0 where
  pub extends : Extends old.numbers new.numbers
  pub puts : Puts old new f m
  pub values : (v : Value) → Has new.numbers.values.keys v → Has old.numbers.values.keys v ⊎ IsMade old.numbers m v
