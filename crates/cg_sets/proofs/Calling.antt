-- The edges of the calls that were met, of the values that count and in the functions that run.
use Rattle.std.proofs.Common.{◌≡◌, ◌∙◌, ℕ, List, sym, ap, subst, map}
use Rattle.go_base.specs.declared.ids.FuncId.{FuncId}
use Rattle.go_base.specs.declared.ids.TypeId.{TypeId}
use Rattle.go_base.specs.declared.place.Pos.{Pos}
use Rattle.go_tree.specs.declared.program.Program.{Program}
use Rattle.go_type.specs.Table.{Table}
use Rattle.cg_nodes.specs.declared.nodes.Called.{Called}
use Rattle.cg_nodes.specs.declared.nodes.Called.TheVariants as called
use Rattle.cg_nodes.specs.declared.nodes.Mention.TheVariants as mention
use Rattle.cg_nodes.specs.declared.nodes.Node.{Node}
use Rattle.cg_nodes.specs.declared.nodes.Value.{Value}
use Rattle.cg_numbers.specs.Alike.{like_group}
use Rattle.cg_numbers.specs.Numbered.{IsAt}
use Rattle.cg_numbers.specs.Sites.{Stands, CallAt}
use Rattle.cg_numbers.specs.declared.numbers.Numbers.{Numbers}
use Rattle.cg_numbers.specs.declared.sites.Call.{Call}
use Rattle.cg_numbers.specs.declared.sites.Call.TheVariants as call
use Rattle.cg_numbers.specs.declared.sites.Site.{Site}
use Rattle.cg_sets.specs.Answering.{AreAnswers}
use Rattle.cg_sets.specs.Asking.{HasEdge, Calls}
use Rattle.cg_sets.specs.Graphs.{CalledBy, IsEdge}
use Rattle.cg_sets.specs.Rules.{AreRules, AreSites, asked_by, question_of}
use Rattle.cg_sets.specs.declared.asking.Question.{Question}
use Rattle.cg_sets.specs.declared.candidates.Candidate.{Candidate}
use Rattle.cg_sets.specs.declared.edges.Edge.{Edge}
use Rattle.cg_sets.proofs.Leading.{leads_given, gives_led, derives_led, exact}
use Rattle.cg_solve.specs.Lists.{Has}
use Rattle.cg_solve.specs.declared.solving.Rule.{Rule}

-- the questions of the calls in functions of R
pub record AreQuestions (sites : List Site) (R : FuncId → Type 0) (questions : List Question) : Type 0 where
  pub only : (q : Question) → Has questions q → (x : Site) × Has sites x × R x.caller × (question_of x ≡ q)
  pub whole : (x : Site) → Has sites x → R x.caller → Has questions (question_of x)

module _ (p : Program) (n : Numbers) (sites : List Site) (rows : ℕ → List Candidate) (rules : List Rule) (questions : List Question) (K : Value → Type 0) (Kept : Candidate → Type 0) (R : FuncId → Type 0)
    (met : AreSites p n sites) (answers : AreAnswers p n rows) (are : AreRules rows Kept rules) (asks : AreQuestions sites R questions)
    (keeps : (c : Candidate) (v : Value) → IsAt n.values.keys c.value v → Kept c → K v) (kept : (c : Candidate) (v : Value) → IsAt n.values.keys c.value v → K v → Kept c) where
  abbrev types : Table
  types = n.likeness.types

  abbrev bares : List TypeId
  bares = n.likeness.bares

  abbrev P : Node → Value → Type 0
  P node v = K v

  -- a call by numbers calls what the call does
  to_called : (c : Called) (x : Call) (f : FuncId) → CallAt n c x → Calls rules (asked_by x) f → CalledBy p types bares P c f
  to_called (called.Fixed g) (call.Fixed h) f at calls = at ∙ calls
  to_called (called.Fixed g) (call.Chosen i j k) f at calls = absurd at
  to_called (called.Chosen node first group) (call.Fixed h) f at calls = absurd at
  to_called (called.Chosen node first group) (call.Chosen i j k) f at calls =
      gives_led p types bares K node first group f (derives_led p n rows answers K Kept keeps kept rules are (like_group types bares group) k f at.2 calls)

  from_called : (c : Called) (x : Call) (f : FuncId) → CallAt n c x → CalledBy p types bares P c f → Calls rules (asked_by x) f
  from_called (called.Fixed g) (call.Fixed h) f at calls = sym at ∙ calls
  from_called (called.Fixed g) (call.Chosen i j k) f at calls = absurd at
  from_called (called.Chosen node first group) (call.Fixed h) f at calls = absurd at
  from_called (called.Chosen node first group) (call.Chosen i j k) f at calls =
      exact p n rows answers K Kept keeps kept rules are (like_group types bares group) k f at.2 (leads_given p types bares K node first group f calls)

  pub is_edge : (e : Edge) → HasEdge questions rules e → IsEdge p types bares P R e
  is_edge e h =
      let site = asks.only h.question h.stands in
      let r = met.only site.0 site.1 in
      let place_of : site.0.caller ≡ e.caller = ap (λ (q : Question). q.caller) site.3 ∙ h.caller in
      let caller : r.0 ≡ e.caller = sym r.4.caller ∙ place_of in
      let place : r.1 ≡ e.site = sym r.4.at ∙ (ap (λ (q : Question). q.at) site.3 ∙ h.site) in
      record {
        runs = subst R place_of site.2;
        callee_of = r.2;
        stands = subst (λ (f : FuncId). Stands p f (mention.Call e.site r.2)) caller (subst (λ (at : Pos). Stands p r.0 (mention.Call at r.2)) place r.3);
        calls = to_called r.2 site.0.call e.callee r.4.call (subst (λ (q : Question). Calls rules q.asked e.callee) (sym site.3) h.calls);
      }

  pub has_edge : (e : Edge) → IsEdge p types bares P R e → HasEdge questions rules e
  has_edge e h =
      let x = met.whole e.caller e.site h.callee_of h.stands in
      record {
        question = question_of x.0;
        stands = asks.whole x.0 x.1 (subst R (sym x.2.caller) h.runs);
        caller = x.2.caller;
        site = x.2.at;
        calls = from_called h.callee_of x.0.call e.callee x.2.call h.calls;
      }
