-- Turns of ranges, by what their parts give.
use Rattle.std.proofs.Common.{◌≡◌, ◌∙◌, ◌<◌, ◌-◌, ℕ, zero, suc, List, [], ◌∷◌, ◌++◌, map, length, reverse}
use Rattle.std.proofs.Common.{drop, take, Bool, true, false, sym, ap, subst}
use Rattle.std.proofs.Common.{refl, Option, Some, None, option_map, arith}
use Rattle.std.proofs.lemmas.List.{reverse-append, reverse-reverse}
use Rattle.std.specs.Option.{option_and_then}
use Rattle.std.specs.List.{filter}
use Rattle.std.specs.Prelude.{IfOk, Result, Ok, Err, slice_index, slice_set}
use Rattle.go_base.specs.declared.ids.MapId.{MapId}
use Rattle.go_maps.specs.Entries.{entry_at, numbered, pair_made}
use Rattle.go_maps.specs.Maps.{Map, Pair}
use Rattle.go_maps.specs.declared.listed.Entry.{Entry}
use Rattle.go_sched.specs.Choices.{chosen, picked, is_spent}
use Rattle.go_sched.specs.Goroutines.{State, state_of}
use Rattle.go_store.specs.Stores.{Stored, stored}
use Rattle.go_value.specs.Values.{Val, number, text, pointer, slice, map_number, chan_number, nil_function, closure}
use Rattle.go_value.specs.Values.{bound}
use Rattle.go_value.specs.Values.{truth, expression, nil_interface, dynamic, parts, text_range, map_range, value_of}
use Rattle.go_value.specs.Values.{Field, parts_of}
use Rattle.go_value.specs.declared.values.Value.TheVariants as values
use Rattle.go_value.specs.declared.values.Value.{Value}
use Rattle.interp_state.proofs.Turns.{goes_to, wrote_is, wrote_in}
use Rattle.interp_state.specs.Frames.{without_slot}
use Rattle.interp_state.specs.Machines.{machine_of}
use Rattle.interp_state.specs.States.{slots_of, Wrote}
use Rattle.interp_state.specs.Turns.{IsIn, Steps}
use Rattle.interp_state.specs.declared.machine.Machine.{Machine}
use Rattle.interp_state.specs.declared.machine.Turn.TheVariants as turn
use Rattle.interp_state.specs.declared.machine.Turn.{Turn}
use Rattle.interp_values.specs.Made.{IsTurn, IsDrawn, character_turn, entry_turn}
use Rattle.plan_mean.specs.Channels.{with_sched}
use Rattle.plan_mean.specs.Ranges.{Drawn, drawn, first_drawn, drawn_among, is_standing, sched_after, turn_with}
use Rattle.plan_mean.specs.Ranges.{map_turn, next_of_text}
use Rattle.plan_mean.specs.Slots.{slot_in, with_slot}
use Rattle.plan_mean.specs.State.{World, goes, where_there, with_value, with_slots}
use Rattle.plan_mean.specs.Step.{turns}
use Rattle.ssa_mean.specs.MapCalls.{entries_of}
use Rattle.ssa_mean.specs.Ranges.{turn_of}
use Rattle.ssa_mean.specs.Ranges as meant

-- ---- a slot that was taken is written

set_again : {A : Type 0} (xs : List A) (n : ℕ) (a b : A) → slice_set (slice_set xs n a) n b ≡ slice_set xs n b
set_again [] n a b = refl
set_again (x ∷ xs) zero a b = refl
set_again (x ∷ xs) (suc n) a b = ap (λ rest. x ∷ rest) (set_again xs n a b)

pub slot_again : {A : Type 0} (slot : ℕ) (it : A) (frames : List (List (Option A)))
    → with_slot slot it (without_slot slot frames) ≡ with_slot slot it frames
slot_again slot it [] = refl
slot_again slot it (top ∷ below) = ap (λ top. top ∷ below) (set_again top slot None (Some it))

-- another state of the range stands in its slot, and the choices are others
pub record Restates (range : ℕ) (state : Val) (old new : Machine) : Type 0 where
  pub slots : slots_of new ≡ with_slot range state (slots_of old)
  pub others : new ≡ record old { current = record (old.current) { stack = new.current.stack }; sched = new.sched }

pub restated : (range : ℕ) (state : Val) (old mid next new : Machine)
    → slots_of mid ≡ without_slot range (slots_of old)
    → mid ≡ record old { current = record (old.current) { stack = mid.current.stack } }
    → next ≡ record mid { sched = next.sched } → Wrote range state next new
    → Restates range state old new
restated range state old mid next new taken mid_is next_is wrote =
    let slots : slots_of next ≡ without_slot range (slots_of old) = ap slots_of next_is ∙ taken in
    let sched : next.sched ≡ new.sched = sym (ap (λ (m : Machine). m.sched) wrote.others) in
    record {
      slots = wrote.slots ∙ ap (with_slot range state) slots ∙ slot_again range state (slots_of old);
      others = wrote.others
          ∙ ap (λ (m : Machine). record m { current = record (m.current) { stack = new.current.stack } }) next_is
          ∙ ap (λ (m : Machine). record m {
            current = record (m.current) { stack = new.current.stack };
            sched =
                next.sched;
          }) mid_is
          ∙ ap (λ sched. record old { current = record (old.current) { stack = new.current.stack }; sched = sched })
          sched;
    }

-- a range that stands in its slot makes a turn
pub is_turn : (range : ℕ) (value : Value) (before state : Val) (old new : Machine)
    (next : Val → Option meant.Turn) → Some before ≡ slot_in (slots_of old) range
    → next before ≡ Some (record { value = value_of value; range = state; sched = state_of new.sched })
    → Restates range state old new → IsTurn range value old new (option_and_then next (slot_in (slots_of old) range))
is_turn range value before state old new next held turns restates =
    record {
      state = state;
      turn = ap (option_and_then next) (sym held) ∙ turns;
      slots = restates.slots;
      others = restates.others;
    }

pub steps_turn : (range slot : ℕ) (it : Value) (result : Turn) (old mid new : Machine) (wanted : Option meant.Turn)
    → IsTurn range it old mid wanted → result ≡ turn.Goes → Wrote slot (value_of it) mid new
    → Steps result old new (λ w. where_there (turns (machine_of old) range slot) wanted)
steps_turn range slot it result old mid new wanted is goes_on wrote =
    let between : machine_of mid ≡ with_value range is.state (with_sched (state_of mid.sched) (machine_of old)) =
    ap machine_of is.others ∙ ap (λ slots. with_slots slots (with_sched (state_of mid.sched) (machine_of old)))
    is.slots in
    let leads : machine_of new
    ≡ with_value slot (value_of it) (with_value range is.state (with_sched (state_of mid.sched) (machine_of old))) =
    wrote_is slot (value_of it) mid new wrote ∙ ap (with_value slot (value_of it)) between in
    record {
      comes = λ w within. goes_to w result new (where_there (turns (machine_of old) range slot) wanted) goes_on
          (wrote_in w slot (value_of it) mid new wrote (in_mid w within))
          (ap (where_there (turns (machine_of old) range slot)) is.turn ∙ ap goes (sym leads));
    }
  where
    in_mid : (w : World) → IsIn w old → IsIn w mid
    in_mid w within =
        subst (λ (m : Machine). IsIn w m) (sym is.others)
        (record { plan = within.plan; naming = within.naming; answers = within.answers; asked = within.asked })

-- ---- texts

pub text_turned : (range : ℕ) (before after : Val) (found : Option (ℕ × ℕ)) (value : Value) (old mid new : Machine)
    → Some before ≡ slot_in (slots_of old) range
    → slots_of mid ≡ without_slot range (slots_of old)
    → mid ≡ record old { current = record (old.current) { stack = mid.current.stack } }
    → ((sched : State) → next_of_text sched before
    ≡ Some (record { value = character_turn found; range = after; sched = sched }))
    → Wrote range after mid new → value_of value ≡ character_turn found
    → IsTurn range value old new (option_and_then (next_of_text (state_of old.sched)) (slot_in (slots_of old) range))
text_turned range before after found value old mid new held taken mid_is next wrote is =
    let same : old.sched ≡ new.sched =
    sym (ap (λ (m : Machine). m.sched) wrote.others ∙ ap (λ (m : Machine). m.sched) mid_is) in
    is_turn range value before after old new (next_of_text (state_of old.sched)) held
    (next (state_of old.sched)
    ∙ ap (λ it. Some (record { value = it; range = after; sched = state_of old.sched })) (sym is)
    ∙ ap (λ sched. Some (record { value = value_of value; range = after; sched = state_of sched })) same)
    (restated range after old mid mid new taken mid_is refl wrote)

-- ---- entries of maps

pub entry_is : (entry : Entry) (found : Option Pair) (n : ℕ) (value : Val) → Some (pair_made entry) ≡ option_map
    (numbered n) found
    → value ≡ turn_of true (value_of entry.key) (value_of entry.value)
    → option_map (λ entry. turn_of true entry.key entry.value) found ≡ Some value
entry_is entry None n value found_is is = cc
entry_is entry (Some pair) n value found_is is =
    let same : pair_made entry ≡ numbered n pair = cc in
    ap (λ (t : ℕ × Val × Val). Some (turn_of true t.1 t.2)) (sym same) ∙ ap (λ (v : Val). Some v) (sym is)

mapped : {A B C : Type 0} (f : B → C) (g : A → B) (found : Option A) → option_map (λ it. f (g it)) found ≡ option_map
    f (option_map g found)
mapped f g None = refl
mapped f g (Some it) = refl

of_entry : (sched : State) (id : Option MapId) (entries : Map) (key it : Val) (entry : Option ℕ) (left : List ℕ)
    → turn_with sched id entries key it (record { entry = entry; left = left })
    ≡ option_map (λ value. record { value = value; range = map_range id left; sched = sched })
    (entry_turn entries key it entry)
of_entry sched id entries key it None left = refl
of_entry sched id entries key it (Some n) left =
    mapped (λ value. record { value = value; range = map_range id left; sched = sched })
    (λ (entry : Pair). turn_of true entry.key entry.value) (entry_at entries n)

pub drawn_turn : (store : Stored) (sched after : State) (v key it value state : Val) (map : Option MapId)
    (entry : Option ℕ)
    → IsDrawn store sched v map entry state after → entry_turn (entries_of store map) key it entry ≡ Some value
    → map_turn store sched key it v ≡ Some (record { value = value; range = state; sched = after })
drawn_turn store sched after (map_range id left) key it value state map entry is turned =
    let entries = entries_of store id in
    let d : Drawn = drawn sched entries left in
    of_entry (sched_after sched entries left) id entries key it d.entry d.left
    ∙ ap (λ entry. option_map (λ value. record {
      value = value;
      range = map_range id d.left;
      sched = sched_after sched
          entries left;
    })
    (entry_turn entries key it entry)) (sym is.1.entry_is)
    ∙ ap (λ id'. option_map (λ value. record {
      value = value;
      range = map_range id d.left;
      sched = sched_after sched
          entries left;
    })
    (entry_turn (entries_of store id') key it entry)) (sym is.0)
    ∙ ap (option_map (λ value. record {
      value = value;
      range = map_range id d.left;
      sched = sched_after sched entries
          left;
    })) turned
    ∙ ap (λ state. Some (record { value = value; range = state; sched = sched_after sched entries left }))
    (sym is.1.state_is)
    ∙ ap (λ after. Some (record { value = value; range = state; sched = after })) (sym is.1.after_is)
drawn_turn store sched after (truth _) key it value state map entry is turned = absurd is
drawn_turn store sched after (number _) key it value state map entry is turned = absurd is
drawn_turn store sched after (text _) key it value state map entry is turned = absurd is
drawn_turn store sched after (pointer _) key it value state map entry is turned = absurd is
drawn_turn store sched after (slice _) key it value state map entry is turned = absurd is
drawn_turn store sched after (map_number _) key it value state map entry is turned = absurd is
drawn_turn store sched after (chan_number _) key it value state map entry is turned = absurd is
drawn_turn store sched after nil_function key it value state map entry is turned = absurd is
drawn_turn store sched after (closure _ _) key it value state map entry is turned = absurd is
drawn_turn store sched after (bound _ _) key it value state map entry is turned = absurd is
drawn_turn store sched after (expression _ _ _) key it value state map entry is turned = absurd is
drawn_turn store sched after nil_interface key it value state map entry is turned = absurd is
drawn_turn store sched after (dynamic _ _) key it value state map entry is turned = absurd is
drawn_turn store sched after (parts _) key it value state map entry is turned = absurd is
drawn_turn store sched after (text_range _ _) key it value state map entry is turned = absurd is

pub map_turned : (range : ℕ) (before after : Val) (key it : Val) (map : Option MapId) (entry : Option ℕ) (value : Value)
    (old mid next new : Machine)
    → Some before ≡ slot_in (slots_of old) range
    → slots_of mid ≡ without_slot range (slots_of old)
    → mid ≡ record old { current = record (old.current) { stack = mid.current.stack } }
    → IsDrawn (stored mid.store) (state_of mid.sched) before map entry after (state_of next.sched)
    → next ≡ record mid { sched = next.sched } → Wrote range after next new
    → entry_turn (entries_of (stored new.store) map) key it entry ≡ Some (value_of value)
    → IsTurn range value old new (option_and_then (map_turn (stored old.store) (state_of old.sched) key it)
    (slot_in (slots_of old) range))
map_turned range before after key it map entry value old mid next new held taken mid_is draws next_is wrote turned =
    let store : old.store ≡ new.store =
    sym (ap (λ (m : Machine). m.store) wrote.others ∙ ap (λ (m : Machine). m.store) next_is ∙ ap
    (λ (m : Machine). m.store) mid_is) in
    let sched : next.sched ≡ new.sched = sym (ap (λ (m : Machine). m.sched) wrote.others) in
    let first : IsDrawn (stored old.store) (state_of old.sched) before map entry after (state_of next.sched) =
    subst (λ (m : Machine). IsDrawn (stored m.store) (state_of m.sched) before map entry after
    (state_of next.sched)) mid_is draws in
    let second : IsDrawn (stored old.store) (state_of old.sched) before map entry after (state_of new.sched) =
    subst (λ s. IsDrawn (stored old.store) (state_of old.sched) before map entry after (state_of s)) sched first in
    is_turn range value before after old new (map_turn (stored old.store) (state_of old.sched) key it) held
    (drawn_turn (stored old.store) (state_of old.sched) (state_of new.sched) before key it (value_of value)
    after map entry second
    (ap (λ store. entry_turn (entries_of (stored store) map) key it entry) store ∙ turned))
    (restated range after old mid next new taken mid_is next_is wrote)

-- ---- drawing

-- the last number is that of the first entry
pub first_last : (entries : Map) (left : List ℕ) (n : ℕ) → is_standing entries n ≡ true
    → first_drawn entries (reverse (left ++ n ∷ [])) ≡ record { entry = Some n; left = left }
first_last entries left n stands =
    ap (first_drawn entries) (reverse-append left (n ∷ [])) ∙ rw stands
    (ap (λ them. record { entry = Some n; left = them }) (reverse-reverse left))

pub next_last : (entries : Map) (left : List ℕ) (n : ℕ) → is_standing entries n ≡ false
    → first_drawn entries (reverse (left ++ n ∷ [])) ≡ first_drawn entries (reverse left)
next_last entries left n stands = ap (first_drawn entries) (reverse-append left (n ∷ [])) ∙ rw stands refl

-- what is drawn among those that stand
pub drawn_is : (sched : State) (items left : List ℕ) (place taken : ℕ) → place < length items
    → place ≡ (length items - 1) - chosen (length items) sched → taken ≡ slice_index items place
    → left ≡ take place items ++ drop (suc place) items
    → record { entry = Some taken; left = left } ≡ drawn_among sched items
drawn_is sched [] left place taken within at taken_is left_is = let no : ⊥ = omega arith in absurd no
drawn_is sched (n ∷ others) left place taken within at taken_is left_is =
    ap (λ (k : ℕ). record { entry = Some k; left = left }) taken_is
    ∙ ap (λ (them : List ℕ). record { entry = Some (slice_index (n ∷ others) place); left = them }) left_is
    ∙ ap (λ k. record {
      entry = Some (slice_index (n ∷ others) k);
      left = take k (n ∷ others) ++ drop (suc k)
          (n ∷ others);
    }) at

-- where choices are left, one of those that stand is drawn
pub drawn_spared : (sched : State) (entries : Map) (left standing : List ℕ) → is_spent sched ≡ false
    → standing ≡ filter (is_standing entries) left → drawn_among sched standing ≡ drawn sched entries left
drawn_spared sched entries left standing spent is = rw spent (ap (drawn_among sched) is)

pub sched_spared : (sched : State) (entries : Map) (left standing : List ℕ) → is_spent sched ≡ false
    → standing ≡ filter (is_standing entries) left → picked (length standing) sched ≡ sched_after sched entries left
sched_spared sched entries left standing spent is = rw spent (ap (λ (them : List ℕ). picked (length them) sched) is)

pub on_ok : {A E : Type 0} (given : Result A E) (P Q : A → Type 0) → IfOk given P → ((it : A) → P it → Q it) → IfOk
    given Q
on_ok (Ok it) P Q is next = next it is
on_ok (Err e) P Q is next = tt

-- ---- values of three parts

abbrev pub plain : Value → Field
plain it = record { value = value_of it; blank = false }

pub triple_is : (there : Bool) (key it : Value) (items : List Field)
    → items ≡ plain (values.Truth there) ∷ plain key ∷ plain it ∷ []
    → parts (parts_of items) ≡ turn_of there (value_of key) (value_of it)
triple_is there key it items is =
    ap (λ (items : List Field). parts (parts_of items)) is

pub told : {E : Type 0} (given : Result Value E) (it other : Val) → it ≡ other → IfOk given (λ made. value_of made ≡ it)
    → IfOk given (λ made. value_of made ≡ other)
told (Ok made) it other is h = h ∙ is
told (Err e) it other is h = tt
