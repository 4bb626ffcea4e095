-- Phis are read, and then written from the last to the first.
use Rattle.std.proofs.Common.{◌≡◌, ◌∙◌, ℕ, zero, suc, List, [], ◌∷◌, ◌++◌, Option, Some, None, Result, Ok, Err, length, map, ap, sym, refl, subst, arith, cond, Bool, true, false, drop, ◌+◌, ◌<◌, add-one, length-append}
use Rattle.std.specs.Prelude.{OnOk, slice_get, slice_index_or}
use Rattle.std.specs.List.{find}
use Rattle.std.proofs.lemmas.List.{length-map, map-append}
use Rattle.std.specs.Option.{option_and_then, option_map}
use Rattle.code_plan.specs.declared.steps.PlannedBlock.{PlannedBlock}
use Rattle.code_plan.specs.declared.steps.PlannedPhi.{PlannedPhi}
use Rattle.go_interp.specs.Phis.{phi_values, PushesPhi, with_written}
use Rattle.go_value.specs.Values.{Val, value_of}
use Rattle.interp_state.specs.Machines.{machine_of}
use Rattle.interp_state.specs.Turns.{IsIn, Steps}
use Rattle.go_value.specs.declared.values.Value.{Value}
use Rattle.interp_state.specs.States.{Wrote}
use Rattle.interp_state.proofs.Turns.{wrote_is}
use Rattle.interp_state.specs.declared.machine.Machine.{Machine}
use Rattle.interp_state.specs.declared.machine.Turn.TheVariants as turn
use Rattle.plan_mean.specs.State as meant
use Rattle.plan_mean.specs.State.{goes, where_there, with_value}
use Rattle.plan_mean.specs.Step.{edge_value, enters_block, with_phis}
use Rattle.ssa_mean.specs.Operands as operands

-- ---- the first edge that passes a test

find_next : {A : Type 0} (test : A → Bool) (xs : List A) (i : ℕ) (x : A) → slice_get xs i ≡ Some x → test x ≡ false
    → find test (drop (suc i) xs) ≡ find test (drop i xs)
find_next test [] i x h fails = absurd cc
find_next test (y ∷ ys) zero x h fails =
    let one : y ≡ x = cc in
    sym (ap (λ b. cond b (Some y) (find test ys)) (ap test one ∙ fails))
find_next test (y ∷ ys) (suc i) x h fails = find_next test ys i x h fails

pub next_tested : {A : Type 0} (test : A → Bool) (xs : List A) (i : ℕ) (x : A) → slice_get xs i ≡ Some x → test x ≡ false
    → find test (drop (i + 1) xs) ≡ find test (drop i xs)
next_tested test xs i x h fails = ap (λ k. find test (drop k xs)) (add-one i) ∙ find_next test xs i x h fails

pub found_at : {A : Type 0} (test : A → Bool) (xs : List A) (i : ℕ) (x : A) → slice_get xs i ≡ Some x → test x ≡ true
    → find test (drop i xs) ≡ Some x
found_at test [] i x h passes = absurd cc
found_at test (y ∷ ys) zero x h passes =
    let one : y ≡ x = cc in
    ap (λ b. cond b (Some y) (find test ys)) (ap test one ∙ passes) ∙ ap Some one
found_at test (y ∷ ys) (suc i) x h passes = found_at test ys i x h passes

pub item_at : {A : Type 0} (xs : List A) (i : ℕ) (d : A) → i < length xs → slice_get xs i ≡ Some (slice_index_or xs i d)
item_at [] i d h = let no : ⊥ = omega arith in absurd no
item_at (x ∷ xs) zero d h = refl
item_at (x ∷ xs) (suc i) d h = let below : i < length xs = omega arith in item_at xs i d below

-- ---- values that were read

pub one_more_value : (before : meant.Machine) (from : ℕ) (phis : List PlannedPhi) (phi : PlannedPhi) (its : List Val) (it : Val)
    → phi_values before from phis ≡ Some its → edge_value before from phi ≡ Some it
    → phi_values before from (phis ++ phi ∷ []) ≡ Some (its ++ it ∷ [])
one_more_value before from [] phi its it all one =
    let none : [] ≡ its = cc in
    ap (λ found. operands.with_value found (Some [])) one ∙ ap (λ its. Some (its ++ it ∷ [])) none
one_more_value before from (first ∷ phis) phi its it all one =
    by_first (edge_value before from first) (phi_values before from phis) refl refl
    (λ b rest. one_more_value before from phis phi b it rest one)
  where
    by_first : (a : Option Val) (b : Option (List Val)) → edge_value before from first ≡ a → phi_values before from phis ≡ b
        → ((b : List Val) → phi_values before from phis ≡ Some b → phi_values before from (phis ++ phi ∷ []) ≡ Some (b ++ it ∷ []))
        → phi_values before from ((first ∷ phis) ++ phi ∷ []) ≡ Some (its ++ it ∷ [])
    by_first (Some a) (Some b) here rest more =
        let whole : Some (a ∷ b) ≡ Some its = sym (ap (λ o. operands.with_value o (phi_values before from phis)) here ∙ ap (operands.with_value (Some a)) rest) ∙ all in
        let parts : a ∷ b ≡ its = cc in
        ap (λ o. operands.with_value o (phi_values before from (phis ++ phi ∷ []))) here
        ∙ ap (operands.with_value (Some a)) (more b rest)
        ∙ ap (λ its. Some (its ++ it ∷ [])) parts
    by_first (Some a) None here rest more =
        let no : None ≡ Some its = sym (ap (λ o. operands.with_value o (phi_values before from phis)) here ∙ ap (operands.with_value (Some a)) rest) ∙ all in
        absurd cc
    by_first None b here rest more =
        let no : None ≡ Some its = sym (ap (λ o. operands.with_value o (phi_values before from phis)) here) ∙ all in
        absurd cc

-- one phi more was read, from a machine of which only what is on its way is other
pub read_more : (first now : Machine) (from : ℕ) (phis more : List PlannedPhi) (phi : PlannedPhi) (mid after : List Value)
    → machine_of now ≡ machine_of first → more ≡ phis ++ phi ∷ [] → PushesPhi (machine_of now) from phi mid after
    → phi_values (machine_of first) from phis ≡ Some (map value_of mid)
    → phi_values (machine_of first) from more ≡ Some (map value_of after)
read_more first now from phis more phi mid after same longer one are =
    ap (phi_values (machine_of first) from) longer
    ∙ one_more_value (machine_of first) from phis phi (map value_of mid) (value_of one.value) are
    (ap (λ (m : meant.Machine). edge_value m from phi) (sym same) ∙ one.read)
    ∙ ap Some (sym (ap (map value_of) one.pushed ∙ map-append value_of mid (one.value ∷ [])))

-- phis with values: the machine in which they are written, and how many there are
pub record ArePhis (before : meant.Machine) (from : ℕ) (phis : List PlannedPhi) (its : List Val) : Type 0 where
  pub written : (m : meant.Machine) → with_phis before from phis m ≡ Some (with_written phis its m)
  pub count : length phis ≡ length its

pub phis_are : (before : meant.Machine) (from : ℕ) (phis : List PlannedPhi) (its : List Val)
    → phi_values before from phis ≡ Some its → ArePhis before from phis its
phis_are before from [] [] all = record { written = λ m. refl; count = refl }
phis_are before from [] (it ∷ its) all = absurd cc
phis_are before from (first ∷ phis) its all =
    by_first (edge_value before from first) (phi_values before from phis) refl refl (λ b rest. phis_are before from phis b rest)
  where
    by_first : (a : Option Val) (b : Option (List Val)) → edge_value before from first ≡ a → phi_values before from phis ≡ b
        → ((b : List Val) → phi_values before from phis ≡ Some b → ArePhis before from phis b)
        → ArePhis before from (first ∷ phis) its
    by_first (Some a) (Some b) here rest are =
        let whole : Some (a ∷ b) ≡ Some its = sym (ap (λ o. operands.with_value o (phi_values before from phis)) here ∙ ap (operands.with_value (Some a)) rest) ∙ all in
        let parts : a ∷ b ≡ its = cc in
        let others = are b rest in
        subst (λ (its : List Val). ArePhis before from (first ∷ phis) its) parts
        (record {
          written = λ m.
              ap (option_and_then (λ it. option_map (with_value first.to it) (with_phis before from phis m))) here
              ∙ ap (option_map (with_value first.to a)) (others.written m);
          count = ap suc others.count;
        })
    by_first (Some a) None here rest are =
        let no : None ≡ Some its = sym (ap (λ o. operands.with_value o (phi_values before from phis)) here ∙ ap (operands.with_value (Some a)) rest) ∙ all in
        absurd cc
    by_first None b here rest are =
        let no : None ≡ Some its = sym (ap (λ o. operands.with_value o (phi_values before from phis)) here) ∙ all in
        absurd cc

-- ---- values that are written

pub last_written : (phis : List PlannedPhi) (phi : PlannedPhi) (its : List Val) (it : Val) (m : meant.Machine)
    → length phis ≡ length its
    → with_written (phis ++ phi ∷ []) (its ++ it ∷ []) m ≡ with_written phis its (with_value phi.to it m)
last_written [] phi [] it m same = refl
last_written [] phi (other ∷ its) it m same = absurd cc
last_written (first ∷ phis) phi [] it m same = absurd cc
last_written (first ∷ phis) phi (other ∷ its) it m same =
    ap (with_value first.to other) (last_written phis phi its it m cc)

-- what is left to be written leads to the same machine as before
pub record LeadsOn (left : List PlannedPhi) (m : Machine) (phis : List PlannedPhi) (first : Machine) : Type 0 where
  pub count : length left ≡ length m.waiting.items
  pub leads :
      with_written left (map value_of m.waiting.items) (machine_of m)
      ≡ with_written phis (map value_of first.waiting.items) (machine_of first)

-- the last phi that is left was written
pub one_written : (first old mid new : Machine) (phis left front : List PlannedPhi) (phi : PlannedPhi) (it : Value)
    → left ≡ front ++ phi ∷ [] → old.waiting.items ≡ mid.waiting.items ++ it ∷ [] → machine_of mid ≡ machine_of old
    → Wrote phi.to (value_of it) mid new → LeadsOn left old phis first → LeadsOn front new phis first
one_written first old mid new phis left front phi it last popped same wrote on =
    let kept : new.waiting ≡ mid.waiting = ap (λ (m : Machine). m.waiting) wrote.others in
    let values : map value_of old.waiting.items ≡ map value_of mid.waiting.items ++ value_of it ∷ [] =
    ap (map value_of) popped ∙ map-append value_of mid.waiting.items (it ∷ []) in
    let sizes : length front + 1 ≡ length mid.waiting.items + 1 =
    sym (length-append front (phi ∷ [])) ∙ ap length (sym last) ∙ on.count ∙ ap length popped
    ∙ length-append mid.waiting.items (it ∷ []) in
    let count : length front ≡ length mid.waiting.items = omega arith in
    record {
      count = count ∙ ap (λ waiting. length waiting.items) (sym kept);
      leads =
          ap (λ waiting. with_written front (map value_of waiting.items) (machine_of new)) kept
          ∙ ap (with_written front (map value_of mid.waiting.items)) (wrote_is phi.to (value_of it) mid new wrote)
          ∙ sym (last_written front phi (map value_of mid.waiting.items) (value_of it) (machine_of mid)
          (count ∙ sym (length-map mid.waiting.items value_of)))
          ∙ ap (λ its. with_written (front ++ phi ∷ []) its (machine_of mid)) (sym values)
          ∙ ap (λ phis. with_written phis (map value_of old.waiting.items) (machine_of mid)) (sym last)
          ∙ ap (with_written left (map value_of old.waiting.items)) same
          ∙ on.leads;
    }

-- all but the slots and what is on its way is as at first
pub other_phis : (first old mid new : Machine)
    → old ≡ record first { current = record (first.current) { stack = old.current.stack }; waiting = old.waiting }
    → mid ≡ record old { waiting = mid.waiting }
    → new ≡ record mid { current = record (mid.current) { stack = new.current.stack } }
    → new ≡ record first { current = record (first.current) { stack = new.current.stack }; waiting = new.waiting }
other_phis first old mid new was same wrote =
    let kept : new.waiting ≡ mid.waiting = ap (λ (m : Machine). m.waiting) wrote in
    wrote
    ∙ ap (λ (m : Machine). record m { current = record (m.current) { stack = new.current.stack } }) same
    ∙ ap (λ (m : Machine). record m { current = record (m.current) { stack = new.current.stack }; waiting = mid.waiting }) was
    ∙ ap (λ waiting. record first { current = record (first.current) { stack = new.current.stack }; waiting = waiting })
    (sym kept)

-- ---- blocks

-- a block without phis
pub no_phis : (old : Machine) (from : ℕ) (block : PlannedBlock) → block.phis.items ≡ []
    → Steps turn.Goes old old (λ w. enters_block from block (machine_of old))
no_phis old from block none =
    record {
      comes = λ w within. (within, ap (λ phis. where_there goes (with_phis (machine_of old) from phis (machine_of old))) none);
    }

-- a block whose phis are written
pub phis_written : (old new : Machine) (from : ℕ) (block : PlannedBlock)
    → with_phis (machine_of old) from block.phis.items (machine_of old) ≡ Some (machine_of new)
    → new ≡ record old { current = record (old.current) { stack = new.current.stack }; waiting = new.waiting }
    → Steps turn.Goes old new (λ w. enters_block from block (machine_of old))
phis_written old new from block are others =
    record {
      comes = λ w within. (
        subst (λ (m : Machine). IsIn w m) (sym others)
            (record { plan = within.plan; naming = within.naming; answers = within.answers; asked = within.asked }),
        ap (where_there goes) are,
      );
    }

-- what was read is written, where that succeeds
pub then_written : {E : Type 0} (outcome : Result Unit E) (old mid new : Machine) (from : ℕ) (phis some : List PlannedPhi)
    → machine_of mid ≡ machine_of old → some ≡ phis
    → phi_values (machine_of old) from some ≡ Some (map value_of mid.waiting.items)
    → (length phis ≡ length mid.waiting.items
    → OnOk outcome (machine_of new ≡ with_written phis (map value_of mid.waiting.items) (machine_of mid)))
    → OnOk outcome (with_phis (machine_of old) from phis (machine_of old) ≡ Some (machine_of new))
then_written {E = E} outcome old mid new from phis some same whole read written =
    let are = phis_are (machine_of old) from phis (map value_of mid.waiting.items)
    (ap (phi_values (machine_of old) from) (sym whole) ∙ read) in
    by_outcome outcome (written (are.count ∙ length-map mid.waiting.items value_of))
  where
    by_outcome : (outcome : Result Unit E)
        → OnOk outcome (machine_of new ≡ with_written phis (map value_of mid.waiting.items) (machine_of mid))
        → OnOk outcome (with_phis (machine_of old) from phis (machine_of old) ≡ Some (machine_of new))
    by_outcome (Ok it) is =
        let are = phis_are (machine_of old) from phis (map value_of mid.waiting.items)
        (ap (phi_values (machine_of old) from) (sym whole) ∙ read) in
        are.written (machine_of old)
        ∙ ap Some (ap (with_written phis (map value_of mid.waiting.items)) (sym same) ∙ sym is)
    by_outcome (Err it) is = tt
