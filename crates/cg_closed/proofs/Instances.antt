-- The three graphs' parameters are closed.
use Rattle.std.proofs.Common.{List, Some, None, subst}
use Rattle.go_base.specs.declared.ids.FuncId.{FuncId}
use Rattle.go_base.specs.declared.ids.TypeId.{TypeId}
use Rattle.go_base.specs.declared.place.Pos.{Pos}
use Rattle.go_tree.specs.declared.program.Program.{Program}
use Rattle.go_type.specs.Table.{Table}
use Rattle.cg_nodes.specs.declared.nodes.Called.{Called}
use Rattle.cg_nodes.specs.declared.nodes.Called.TheVariants as called
use Rattle.cg_nodes.specs.declared.nodes.Group.{Group}
use Rattle.cg_nodes.specs.declared.nodes.Mention.TheVariants as mention
use Rattle.cg_nodes.specs.declared.nodes.Node.{Node}
use Rattle.cg_nodes.specs.declared.nodes.Value.{Value}
use Rattle.cg_numbers.specs.Alike.{like_group}
use Rattle.cg_numbers.specs.Sites.{Stands}
use Rattle.cg_sets.specs.Graphs.{Gives, CalledBy, Anywhere, Always, Reached, Known, Asked, Rta}
use Rattle.cg_vta.specs.Flows.{IsCalled, Vta}
use Rattle.cg_closed.specs.Closed.{IsAsked, IsClosed}

module _ (p : Program) (types : Table) (bares : List TypeId) where
  pub cha_closed : IsClosed p types bares (Anywhere p types bares) (Always p types bares)
  cha_closed = record {
    start = λ f d here form. tt;
    main = λ f is. tt;
    made = λ f v runs stands. tt;
    fault = tt;
    flow = λ f n m v runs stands there. tt;
    enter = λ e edge. tt;
    argument = λ n first g c i v met there. tt;
    receiver = λ n first g c f v met aim there. tt;
    result = λ n first g c i v met there. tt;
  }

  -- ---- by what is reached

  abbrev AnyMade : Node → Value → Type 0
  AnyMade n v = Rta p types bares (Known v)

  abbrev IsReached : FuncId → Type 0
  IsReached f = Rta p types bares (Reached f)

  -- what the values of a group that is asked for stand for is reached
  gives_reached : (n first : Node) (g : Group) (f : FuncId) → Rta p types bares (Asked (like_group types bares g)) → Gives p types bares AnyMade n first g f → IsReached f
  gives_reached _ _ _ _ asked (Gives.calls n first g c f answers there aim) = Rta.chooses (like_group types bares g) c f asked there answers aim
  gives_reached _ _ _ _ asked (Gives.asks n first m g h c f answers there aim more) = gives_reached _ _ h f (Rta.hands_on (like_group types bares g) h c (Some m) asked there answers aim) more
  gives_reached _ _ _ _ asked (Gives.asks_first n first g h c f answers there aim more) = gives_reached _ _ h f (Rta.hands_on (like_group types bares g) h c None asked there answers aim) more

  called_reached : (f : FuncId) (at : Pos) (c : Called) (g : FuncId) → IsReached f → Stands p f (mention.Call at c) → CalledBy p types bares AnyMade c g → IsReached g
  called_reached f at (called.Fixed h) g runs stands calls = Rta.calls f (record { caller = f; site = at; callee = g }) runs (subst (λ k. Stands p f (mention.Call at (called.Fixed k))) calls stands)
  called_reached f at (called.Chosen n first group) g runs stands calls = gives_reached n first group g (Rta.asks f g (record { caller = f; site = at; callee = g }) n first group runs stands) calls

  pub rta_closed : IsClosed p types bares AnyMade IsReached
  rta_closed = record {
    start = λ f d here form. Rta.start f d here form;
    main = λ f is. Rta.main f is;
    made = λ f v runs stands. Rta.makes f v runs stands;
    fault = Rta.fault;
    flow = λ f n m v runs stands there. there;
    enter = λ e edge. called_reached e.caller e.site edge.callee_of e.callee edge.runs edge.stands edge.calls;
    argument = λ n first g c i v met there. there;
    receiver = λ n first g c f v met aim there. there;
    result = λ n first g c i v met there. there;
  }

  -- ---- by flows

  asked_called : (n first : Node) (g : Group) → IsAsked p types bares (Vta p types bares) (Always p types bares) n first g → IsCalled p types bares (like_group types bares g)
  asked_called _ _ _ (IsAsked.by_call f at n first g runs stands) = IsCalled.by_call f at n first g stands
  asked_called _ _ _ (IsAsked.in_turn n first m g h c asked answers there aim) = IsCalled.through (like_group types bares g) h c (Some m) (asked_called n first g asked) answers aim
  asked_called _ _ _ (IsAsked.of_first n first g h c asked answers there aim) = IsCalled.through (like_group types bares g) h c None (asked_called n first g asked) answers aim

  pub vta_closed : IsClosed p types bares (Vta p types bares) (Always p types bares)
  vta_closed = record {
    start = λ f d here form. tt;
    main = λ f is. tt;
    made = λ f v runs stands. Vta.made f v stands;
    fault = Vta.fault;
    flow = λ f n m v runs stands there. Vta.flow f n m v stands there;
    enter = λ e edge. tt;
    argument = λ n first g c i v met there. Vta.argument (like_group types bares g) c i v (asked_called n first g met.asked) met.answers there;
    receiver = λ n first g c f v met aim there. Vta.receiver (like_group types bares g) c f v (asked_called n first g met.asked) met.answers aim there;
    result = λ n first g c i v met there. Vta.result (like_group types bares g) c i v (asked_called n first g met.asked) met.answers there;
  }
