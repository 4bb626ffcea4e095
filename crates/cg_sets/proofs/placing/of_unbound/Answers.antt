use Rattle.std.proofs.Common.{◌≡◌, ◌∙◌, false, sym, subst, List}
use Rattle.std.specs.List.{list_any}
use Rattle.go_type.specs.MethodSets.{IsMethod}
use Rattle.go_type.specs.declared.methods.MethodEntry.{MethodEntry}
use Rattle.cg_numbers.proofs.Collecting.{extends_self}
use Rattle.cg_sets.specs.Answering.{is_selected}
use Rattle.cg_sets.proofs.Standings.{method_unplaced, none_selected}
use Rattle.cg_solve.specs.Lists.{Has}
use Rattle.cg_solve.proofs.Members.{Contains-Has, Has-all}
use Rattle.cg_sets.proofs.placing.of_unbound.Goals as goal

pub returns-then-is_interface-clause-placed : goal.returns-then-is_interface-clause-placed
returns-then-is_interface-clause-placed c = λ v listed. c.of_first.ensures.placed c.args.program.now v listed (sym c.is_interface.ensures ∙ c.if-is_interface.true)

pub returns-in_default-clause-placed : goal.returns-in_default-clause-placed
returns-in_default-clause-placed c = λ v listed.
    let s = c.args.selector in
    let n = c.args.numbers.now in
    let set = c.in_ok-set.set in
    let none : list_any (is_selected s) set ≡ false = subst (λ (l : List MethodEntry). list_any (is_selected s) l ≡ false) c.as_slice.ensures (c.entry_of.ensures.none c.in_default.is) in
    method_unplaced c.args.program.now n s c.args.signature (sym c.is_interface.ensures ∙ c.if-is_interface.false) (none_selected n.likeness.types s set (λ e is. Contains-Has set e (c.in_ok-set.ensures.complete e is)) none)

pub returns-in_default-clause-extends : goal.returns-in_default-clause-extends
returns-in_default-clause-extends c = extends_self c.args.numbers.now

pub returns-clause-placed : goal.returns-clause-placed
returns-clause-placed c = λ v listed.
    let s = c.args.selector in
    let types = c.args.numbers.now.likeness.types in
    let set = c.in_ok-set.set in
    let e = c.in-Some.entry.now in
    let has : Has set e = subst (λ (l : List MethodEntry). Has l e) c.as_slice.ensures (Contains-Has c.as_slice.result.now e c.in-Some.ensures.some) in
    c.of_method.ensures.placed v listed (sym c.is_interface.ensures ∙ c.if-is_interface.false) (Has-all (IsMethod types s.of) set c.in_ok-set.ensures.sound e has) c.in-Some.ensures.named
