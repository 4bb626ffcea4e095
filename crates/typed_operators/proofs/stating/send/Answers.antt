use Rattle.typed_operators.proofs.Compared.{send_comes}
use Rattle.typed_operators.proofs.stating.send.Goals as goal

pub returns : goal.returns
returns c =
    send_comes c.args.ground.now c.args.channel c.args.value c.one_value-channel.new.ground c.one_value-value.new.ground c.sent_to-channel.new.ground c.assigned.new.ground
    c.one_value-channel.result c.one_value-value.result c.sent_to-channel.result c.elem_sent-elem.result c.in_ok-sent.sent c.sent_of.result
    c.one_value-channel.ensures.answer c.one_value-channel.ensures.broken c.one_value-value.ensures.answer c.one_value-value.ensures.broken
    c.sent_to-channel.ensures.answer c.sent_to-channel.ensures.broken c.elem_sent-elem.ensures c.in_ok-sent.ensures c.sent_of.ensures
