use Rattle.std.proofs.Common.{◌≡◌, ◌∙◌, ap, sym, [], Some, List}
use Rattle.std.proofs.lemmas.Bool.{eqb-true, not-false}
use Rattle.std.proofs.lemmas.List.{nil_from_length}
use Rattle.go_sched.specs.Channels.{Chan}
use Rattle.go_sched.specs.Goroutines.{state_of}
use Rattle.go_sched.specs.Standing.{lists_of}
use Rattle.go_sched.proofs.Held.{left_nothing, left_absent, map_get, map_past}
use Rattle.go_sched.proofs.Reached.{got, past}
use Rattle.go_sched.proofs.scheduling.Sched.is_waiting.Goals as goal

pub returns-in-Some : goal.returns-in-Some
returns-in-Some c none =
    let s = c.args.self.now in
    let n = s.current.number in
    let here = got s.waits.items c.deref.result.now n c.in-Some.waits.now c.deref.ensures.value c.in-Some.ensures.lookup.3.0 c.in-Some.ensures.lookup.1 in
    let nothing : c.in-Some.waits.now.items ≡ [] = sym c.as_slice.ensures.value ∙ nil_from_length c.as_slice.result.now (eqb-true _ _ (sym c.is_empty.ensures ∙ not-false c.is_empty.result none)) in
    let there = map_get (λ v. v.items) s.waits.items n c.in-Some.waits.now here ∙ ap Some nothing in
    ap (λ (cs : List Chan). record (state_of s) { channels = cs }) (left_nothing (state_of s).channels (lists_of s.waits.items) n s.standing there)

pub returns-in-None : goal.returns-in-None
returns-in-None c none =
    let s = c.args.self.now in
    let n = s.current.number in
    let there = map_past (λ v. v.items) s.waits.items n (past s.waits.items c.deref.result.now n c.deref.ensures.value c.in-None.ensures.lookup.3) in
    ap (λ (cs : List Chan). record (state_of s) { channels = cs }) (left_absent (state_of s).channels (lists_of s.waits.items) n s.standing there)
