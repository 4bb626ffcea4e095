use Rattle.std.proofs.Common.{rules, ◌≡◌, ◌∙◌, ap, List, map}
use Rattle.std.specs.List.{filter}
use Rattle.std.proofs.lemmas.Fn.{filter_same}
use Rattle.go_sched.specs.Channels.{Sending, chan_of, sending_of, is_other}
use Rattle.go_sched.specs.declared.channels.Receiver.{Receiver}
use Rattle.go_sched.specs.declared.channels.Sender.{Sender}
use Rattle.go_sched.proofs.Reached.{map_filter}
use Rattle.go_sched.proofs.channels.Channel.forget.Goals as goal

pub returns : goal.returns
returns c =
    let n = c.args.goroutine.number in
    let old = c.args.self.now in
    let senders : c.retain.new.self.items ≡ filter (λ (it : Sender). is_other n it.goroutine) old.senders.items = filter_same _ (λ (it : Sender). is_other n it.goroutine) _ (λ x b f' k. search rules) _ _ c.retain.ensures.filtered in
    let receivers : c.retain-2.new.self.items ≡ filter (λ (it : Receiver). is_other n it.goroutine) old.receivers.items = filter_same _ (λ (it : Receiver). is_other n it.goroutine) _ (λ x b f' k. search rules) _ _ c.retain-2.ensures.filtered in
    ap (λ (ss : List Sending). record (chan_of old) { senders = ss; receivers = c.retain-2.new.self.items }) (ap (map sending_of) senders ∙ map_filter (λ (it : Sending). is_other n it.goroutine) sending_of old.senders.items)
    ∙ ap (λ (rs : List Receiver). record (chan_of old) { senders = filter (λ (it : Sending). is_other n it.goroutine) (map sending_of old.senders.items); receivers = rs }) receivers
