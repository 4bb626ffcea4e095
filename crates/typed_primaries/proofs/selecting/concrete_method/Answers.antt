use Rattle.go_type.specs.Table.{Table}
use Rattle.typed_primaries.specs.Selecting.{IsBoundMethod, receiver_asked}
use Rattle.typed_primaries.proofs.Follows.{asks_nothing, asks_soundly}
use Rattle.typed_primaries.proofs.selecting.concrete_method.Goals as goal

pub returns-in-Some : goal.returns-in-Some
returns-in-Some c =
    asks_soundly c.args.ground.now c.ask_receiver.new.ground c.bound_method.new.ground
    (λ (types : Table). receiver_asked types c.args.name_at c.args.function c.args.expr) (IsBoundMethod c.args.function c.args.signature)
    c.ask_receiver.result c.in-Some.expr c.bound_method.result c.ask_receiver.ensures.answer c.ask_receiver.ensures.broken c.in-Some.is
    c.bound_method.ensures

pub returns-in-None : goal.returns-in-None
returns-in-None c =
    asks_nothing c.args.ground.now c.ask_receiver.new.ground (λ (types : Table). receiver_asked types c.args.name_at c.args.function c.args.expr)
    (IsBoundMethod c.args.function c.args.signature) c.ask_receiver.result c.ask_receiver.ensures.answer c.ask_receiver.ensures.broken c.in-None.is
