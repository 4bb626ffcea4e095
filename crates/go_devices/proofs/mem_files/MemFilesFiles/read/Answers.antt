use Rattle.std.proofs.Common.{◌≡◌, Some, option_copied, option_map, ap, sym, ◌∙◌, arith}
use Rattle.go_base.specs.Devices.{file_at}
use Rattle.go_devices.proofs.Trees.{file_at_got}
use Rattle.go_devices.proofs.mem_files.MemFilesFiles.read.Goals.{In-Some}
use Rattle.go_devices.proofs.mem_files.MemFilesFiles.read.Goals as goal

pub returns-in_default-clause-answer : goal.returns-in_default-clause-answer
returns-in_default-clause-answer c =
    file_at_got c.self.inside.files.entries c.args.self.now.files c.args.path.now (option_copied c.get.result) c.self.invariant
    (ap (λ state. state.files) c.self.view_is) c.get.ensures.value
    ∙ ap (λ got. option_map (λ bytes. bytes.items) (option_copied got)) c.in_default.is

at_some : (c : In-Some) → file_at c.args.self.now.files c.args.path.now ≡ Some c.in-Some.bytes.now.items
at_some c =
    file_at_got c.self.inside.files.entries c.args.self.now.files c.args.path.now (option_copied c.get.result) c.self.invariant
    (ap (λ state. state.files) c.self.view_is) c.get.ensures.value
    ∙ ap (λ got. option_map (λ bytes. bytes.items) (option_copied got)) c.in-Some.is

pub returns-then-len-limit-clause-answer : goal.returns-then-len-limit-clause-answer
returns-then-len-limit-clause-answer c = (c.in-Some.bytes.now.items, at_some (goal.at.returns-then-len-limit-clause-answer c).In-Some, omega (arith, c.in-Some.bytes.now.ok.0))

pub returns-clause-answer : goal.returns-clause-answer
returns-clause-answer c =
    let copied : c.in_ok-copy.copy.items ≡ c.in-Some.bytes.now.items = c.in_ok-copy.ensures.items ∙ c.deref.ensures.value in
    (at_some (goal.at.returns-clause-answer c).In-Some ∙ ap Some (sym copied), rw copied (omega (arith, c.in-Some.bytes.now.ok.0)))
