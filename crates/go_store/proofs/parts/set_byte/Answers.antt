use Rattle.go_store.proofs.Reached.{byte_set, byte_there, empty_list}
use Rattle.go_store.proofs.parts.set_byte.Goals as goal

pub returns-clause-ok : goal.returns-clause-ok
returns-clause-ok c = byte_set c.args.bytes.now c.args.step c.args.rest.now c.args.byte (empty_list c.args.rest.now c.is_empty.result c.is_empty.ensures c.if-not-is_empty.false) c.if-step-bytes.false

pub returns-clause-there : goal.returns-clause-there
returns-clause-there c = byte_there c.args.bytes.now c.args.step c.args.rest.now (empty_list c.args.rest.now c.is_empty.result c.is_empty.ensures c.if-not-is_empty.false) c.if-step-bytes.false
