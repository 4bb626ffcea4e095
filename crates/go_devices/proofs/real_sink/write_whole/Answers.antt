use Rattle.go_devices.proofs.Streams.{wrote_more}
use Rattle.go_devices.proofs.real_sink.write_whole.Goals as goal

pub loop-rest-preserved : goal.loop-rest-preserved
loop-rest-preserved g c =
    wrote_more (g.W.Write.contents c.args.writer.now) (g.W.Write.contents c.loop-rest.writer) (g.W.Write.contents c.write_some.new.writer) c.args.bytes.now
    c.loop-rest.rest.now c.in_ok-count.count c.loop-rest.invariant c.in_ok-count.ensures.bytes
