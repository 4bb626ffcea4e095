use Rattle.std.proofs.Common.{◌∙◌, ap, sym, map}
use Rattle.std.proofs.lemmas.List.{map-append}
use Rattle.go_sched.specs.Channels.{sending_of}
use Rattle.go_sched.specs.Operations.{woken_of, with_firsts, closed_receiver, closed_sender}
use Rattle.go_sched.proofs.Served.{both_served}
use Rattle.go_sched.proofs.serving.served_in.Goals as goal

pub returns : goal.returns
returns c =
    let it = c.args.channel.now in
    let receivers = both_served closed_receiver c.as_slices.result.0.now c.as_slices.result.1.now it.receivers.items (map woken_of c.new-wakes.result) (map woken_of c.push_receivers.new.wakes) (map woken_of c.push_receivers-2.new.wakes) c.as_slices.ensures.items c.in_ok-push_receivers.ensures c.in_ok-push_receivers-2.ensures in
    let front = c.as_slices-2.result.0.now in
    let back = c.as_slices-2.result.1.now in
    both_served closed_sender (map sending_of front) (map sending_of back) (map sending_of it.senders.items) (map woken_of c.push_receivers-2.new.wakes) (map woken_of c.push_senders.new.wakes) (map woken_of c.push_senders-2.new.wakes) (sym (map-append sending_of front back) ∙ ap (map sending_of) c.as_slices-2.ensures.items) c.in_ok-push_senders.ensures c.in_ok-push_senders-2.ensures
    ∙ ap (with_firsts (map closed_sender (map sending_of it.senders.items))) (receivers ∙ ap (λ ws. with_firsts (map closed_receiver it.receivers.items) (map woken_of ws)) c.new-wakes.ensures)
