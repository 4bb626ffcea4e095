-- Ranges over strings and maps.
use Rattle.std.proofs.Common.{◌≡◌, ℕ, ℤ, pos, zero, suc, ◌+◌, ◌-◌, ◌<◌, Bool, true, false, ◌&&◌, cond, List, [], ◌∷◌, reverse, length, Option, Some, None, refl, sym, subst, ap, ◌∙◌, inl, slice_get, is_some, if◌then◌else◌, nat_lt, nat_le, arith}
use Rattle.std.proofs.lemmas.Option.{none-some, get_or_from_slice_get}
use Rattle.std.specs.Prelude.{drop, slice_index, option_map, ◌++◌}
use Rattle.std.specs.List.{filter}
use Rattle.std.specs.Option.{option_and_then}
use Rattle.code_safety.proofs.Forms.{number_fits, text_in, map_in}
use Rattle.code_safety.proofs.Lists as lists
use Rattle.code_safety.proofs.Machines.{ValueComes}
use Rattle.code_safety.proofs.Mapping.{numbered_fits}
use Rattle.code_safety.proofs.Operands.{held_is, held_value, shape_is, shape_value, held_type_is}
use Rattle.code_safety.proofs.Sames.{under_plain}
use Rattle.code_safety.proofs.Sites.{Reads}
use Rattle.code_safety.proofs.Terms.{never, there, same_is, each_passes, basic_term, truth_fits, tuple_term}
use Rattle.code_safety.proofs.Values.{Typing, Fits, IsOf, MapFits, TextFits, TextRangeFits, MapRangeFits, MapNumberFits, IsStore, under_of}
use Rattle.code_safety.proofs.Zeros.{zero_fits}
use Rattle.ssa_runnable.specs.Runnable.{has_turns}
use Rattle.go_base.specs.declared.ids.FuncId.{FuncId}
use Rattle.go_base.specs.declared.ids.MapId.{MapId}
use Rattle.go_base.specs.declared.ids.TypeId.{TypeId}
use Rattle.go_maps.specs.Entries.{Pair, entry_at}
use Rattle.go_maps.specs.Maps.{Map}
use Rattle.go_sched.specs.Choices.{chosen, picked, noted, used_up, is_spent}
use Rattle.go_sched.specs.Goroutines.{State}
use Rattle.go_store.specs.Stores.{Stored}
use Rattle.go_type.specs.Held.{IsHeld}
use Rattle.go_type.specs.Representable.{term_has}
use Rattle.go_type.specs.declared.constants.Const.TheVariants as const
use Rattle.go_type.specs.Kinds.{kind_of_term}
use Rattle.go_type.specs.Same.{both, same_id}
use Rattle.go_type.specs.Table.{term_at, basic_id}
use Rattle.go_type.specs.declared.term.Basic.{Basic}
use Rattle.go_type.specs.declared.term.Basic.TheVariants as basic
use Rattle.go_type.specs.declared.term.TypeTerm.{TypeTerm}
use Rattle.go_type.specs.declared.term.TypeTerm.TheVariants as term
use Rattle.go_value.specs.Values.{Val, truth, number, text, pointer, slice, map_number, chan_number, nil_function}
use Rattle.go_value.specs.Values.{closure, bound, expression, nil_interface, dynamic, parts, text_range, map_range}
use Rattle.ssa_ir.specs.declared.code.Code.{Code}
use Rattle.ssa_ir.specs.declared.code.CodeVariable.{CodeVariable}
use Rattle.ssa_ir.specs.declared.code.Function.{Function}
use Rattle.ssa_ir.specs.declared.operands.ConstValue.{ConstValue}
use Rattle.ssa_ir.specs.declared.operands.ConstValue.TheVariants as constant
use Rattle.ssa_ir.specs.declared.operands.Operand.{Operand}
use Rattle.ssa_ir.specs.declared.operands.Operand.TheVariants as operand
use Rattle.ssa_ir.specs.declared.ops.Op.TheVariants as op
use Rattle.ssa_mean.specs.Comes.{of_option, where_some}
use Rattle.ssa_mean.specs.MapCalls.{entries_of}
use Rattle.ssa_mean.specs.Operands.{function_at, term_of, under}
use Rattle.ssa_mean.specs.Ranges.{Turn, range_of, ranged, next_turn, turn_of, text_turn, is_standing, first_drawn, drawn_among, drawn, sched_after, turn_with, map_turn}
use Rattle.ssa_mean.specs.Runes.{first_rune}
use Rattle.ssa_mean.specs.Step.{Site, value, with_one}
use Rattle.ssa_mean.specs.Zeros.{zero_of}
use Rattle.ssa_typed.specs.Forms.{FitsGiving, fits_giving, is_ranged, is_iter_of, steps, steps_over, has_steps, has_items}
use Rattle.ssa_typed.specs.Operands.{known, held_type, shape, is_known, is_value, has_constant, address_of}
use Rattle.ssa_typed.specs.Operands.{type_of as typed_type, value_of as known_function}
use Rattle.ssa_typed.specs.Typed.{IsTypedFunction, are_value_types}
use Rattle.ssa_typed.specs.declared.known.Known.TheVariants as known_as
use Rattle.type_shapes.specs.Shapes as shapes
use Rattle.type_shapes.specs.Shapes.{is_value_type, is_text, is_truth, has_nil, parts_of}

-- ---- the state of a range as it begins

range_term : (s : Site) → IsHeld s.code.types → (it : Operand) (of : TypeId)
    → is_iter_of s.code s.function (term_at s.code.types of) it ≡ true
    → (over : TypeId) × ((under_of s.code of ≡ Some (term.Iter over)) × (is_known s.code (known s.code s.function it) over ≡ true))
range_term s held it of h = by (term_at s.code.types of) refl h
  where
    by : (found : Option TypeTerm) → term_at s.code.types of ≡ found → is_iter_of s.code s.function found it ≡ true
        → (over : TypeId)
        × ((under_of s.code of ≡ Some (term.Iter over)) × (is_known s.code (known s.code s.function it) over ≡ true))
    by (Some (term.Iter over)) e h = (over, (under_plain s.code.types held of (term.Iter over) e refl, h))
    by _ e h = never h

pub range_comes : (t : Typing) (s : Site) (it : Operand) → Reads t s (op.Range it) → (of : TypeId)
    → FitsGiving s.code s.function (op.Range it) of
    → ValueComes s.code t of (with_one s it (λ it. of_option (range_of s.machine.store it)))
unfolding FitsGiving fits_giving
range_comes t s it reads of typed =
    by (shape s.code s.function it) refl
    (both (is_ranged (shape s.code s.function it)) (is_iter_of s.code s.function (term_at s.code.types of) it) typed).0
  where
    is : (over : TypeId) × ((under_of s.code of ≡ Some (term.Iter over)) × (is_known s.code (known s.code s.function it) over ≡ true))
    is =
        range_term s reads.safe.held it of
        (both (is_ranged (shape s.code s.function it)) (is_iter_of s.code s.function (term_at s.code.types of) it) typed).1

    -- what is ranged over is the operand's type
    over_term : (u : TypeTerm) → shape s.code s.function it ≡ Some u → under_of s.code is.0 ≡ Some u
    over_term u e =
        let from = shape_is s.code s.function it u e in
        let same = same_is from.0 is.0 (subst (λ k. is_known s.code k is.0 ≡ true) from.1.0 is.1.1) in
        subst (λ of. under_of s.code of ≡ Some u) same from.1.1

    by : (u : Option TypeTerm) → shape s.code s.function it ≡ u → is_ranged u ≡ true
        → ValueComes s.code t of (with_one s it (λ it. of_option (range_of s.machine.store it)))
    by (Some (term.Basic basic.Text)) e h =
        let found = shape_value t s it (reads.values it (inl refl)) (term.Basic basic.Text) e in
        let bytes = text_in s.code t found.0 found.1.1 in
        subst (λ found. ValueComes s.code t of (where_some (λ it. of_option (range_of s.machine.store it)) found))
        (sym (found.1.0 ∙ ap Some bytes.1))
        (subst (TextRangeFits s.code) (sym is.1.0) (subst TextFits (sym (over_term (term.Basic basic.Text) e)) tt))
    by (Some (term.Map key elem)) e h =
        let found = shape_value t s it (reads.values it (inl refl)) (term.Map key elem) e in
        let id = map_in s.code t found.0 key elem found.1.1 in
        subst (λ found. ValueComes s.code t of (where_some (λ it. of_option (range_of s.machine.store it)) found))
        (sym (found.1.0 ∙ ap Some id.1.0))
        (subst (MapRangeFits s.code t id.0) (sym is.1.0)
        (subst (MapNumberFits s.code t id.0) (sym (over_term (term.Map key elem) e)) id.1.1))
    by _ e h = never h

-- ---- turns

-- choices alone are different
pub record SameSched (old new : State) : Type 0 where
  pub channels : new.channels ≡ old.channels
  pub goroutines : new.goroutines ≡ old.goroutines
  pub runnable : new.runnable ≡ old.runnable
  pub current : new.current ≡ old.current

same_sched : (sched : State) → SameSched sched sched
same_sched sched = record { channels = refl; goroutines = refl; runnable = refl; current = refl }

noted_same : (n : ℕ) (old sched : State) → SameSched old sched → SameSched old (noted n sched)
noted_same n old sched same = by (sched.records && nat_lt 0 sched.spare)
  where
    by : (b : Bool) → SameSched old (if b then record sched { taken = sched.taken ++ n ∷ []; spare = sched.spare - 1 } else sched)
    by true = record { channels = same.channels; goroutines = same.goroutines; runnable = same.runnable; current = same.current }
    by false = same

picked_same : (n : ℕ) (sched : State) → SameSched sched (picked n sched)
picked_same n sched = by (nat_le n 1)
  where
    by : (b : Bool) → SameSched sched (if b then sched else noted (chosen n sched) (used_up sched))
    by true = same_sched sched
    by false =
        noted_same (chosen n sched) sched (used_up sched)
        (record { channels = refl; goroutines = refl; runnable = refl; current = refl })

after_same : (sched : State) (entries : Map) (left : List ℕ) → SameSched sched (sched_after sched entries left)
after_same sched entries left = by (is_spent sched)
  where
    by : (b : Bool) → SameSched sched (if b then sched else picked (length (filter (is_standing entries) left)) sched)
    by true = same_sched sched
    by false = picked_same (length (filter (is_standing entries) left)) sched

-- ---- the entry that is drawn stands

module _ (entries : Map) where
  first_stands : (left : List ℕ) (n : ℕ) → (first_drawn entries left).entry ≡ Some n → is_standing entries n ≡ true
  first_stands [] n h = absurd (none-some n h)
  first_stands (k ∷ others) n h = by (is_standing entries k) refl (first_stands others n) h
    where
      by : (b : Bool) → is_standing entries k ≡ b
          → ((first_drawn entries others).entry ≡ Some n → is_standing entries n ≡ true)
          → (if b then record { entry = Some k; left = reverse others } else first_drawn entries others).entry ≡ Some n
          → is_standing entries n ≡ true
      by true e rest h = subst (λ n. is_standing entries n ≡ true) (lists.some_same k n h) e
      by false e rest h = rest h

  filter_passes : (test : ℕ → Bool) (items : List ℕ) (n it : ℕ) → slice_get (filter test items) n ≡ Some it → test it ≡ true
  filter_passes test [] n it h = absurd (none-some it h)
  filter_passes test (x ∷ items) n it h = by n (test x) refl (λ n. filter_passes test items n it) h
    where
      by : (n : ℕ) (b : Bool) → test x ≡ b → ((n : ℕ) → slice_get (filter test items) n ≡ Some it → test it ≡ true)
          → slice_get (cond b (x ∷ filter test items) (filter test items)) n ≡ Some it → test it ≡ true
      by zero true e rest h = subst (λ x. test x ≡ true) (lists.some_same x it h) e
      by (suc n) true e rest h = rest n h
      by n false e rest h = rest n h

  among_stands : (sched : State) (standing : List ℕ)
      → ((n it : ℕ) → slice_get standing n ≡ Some it → is_standing entries it ≡ true) → (n : ℕ)
      → (drawn_among sched standing).entry ≡ Some n → is_standing entries n ≡ true
  among_stands sched [] each n h = absurd (none-some n h)
  among_stands sched (k ∷ others) each n h =
      let left : ℕ = chosen (length (k ∷ others)) sched in
      let place : ℕ = (length (k ∷ others) - 1) - left in
      let below : place < length (k ∷ others) = omega arith in
      let found = lists.below_get (k ∷ others) place below in
      let same : found.0 ≡ n =
      sym (get_or_from_slice_get (k ∷ others) place found.0 0 found.1)
      ∙ lists.some_same (slice_index (k ∷ others) place) n h in
      subst (λ n. is_standing entries n ≡ true) same (each place found.0 found.1)

  drawn_stands : (sched : State) (left : List ℕ) (n : ℕ) → (drawn sched entries left).entry ≡ Some n
      → is_standing entries n ≡ true
  drawn_stands sched left n h = by (is_spent sched) h
    where
      by : (b : Bool)
          → (if b then first_drawn entries (reverse left) else drawn_among sched (filter (is_standing entries) left)).entry
          ≡ Some n
          → is_standing entries n ≡ true
      by true h = first_stands (reverse left) n h
      by false h =
          among_stands sched (filter (is_standing entries) left) (filter_passes (is_standing entries) left) n h

-- ---- a turn gives a tuple of the types, and keeps the state of its type

pub record TurnFits (c : Code) (t : Typing) (of state : TypeId) (sched : State) (turn : Turn) : Type 0 where
  pub value : IsOf c t turn.value of
  pub range : IsOf c t turn.range state
  pub same : SameSched sched turn.sched

-- whether there is more, a key and a value
pub record IsTuple (c : Code) (of more first second : TypeId) : Type 0 where
  pub is : under_of c of ≡ Some (term.Tuple (more ∷ first ∷ second ∷ []))
  pub truth : more ≡ basic_id basic.Bool

module _ (c : Code) (t : Typing) (held : IsHeld c.types) (of more first second : TypeId) (tuple : IsTuple c of more first second)
  where
    turn_fits : (was : Bool) (key it : Val) → IsOf c t key first → IsOf c t it second → IsOf c t (turn_of was key it) of
    turn_fits was key it key_is it_is =
        subst (Fits c t (turn_of was key it)) (sym tuple.is) (
          more ∷ first ∷ second ∷ [],
          (refl, (subst (IsOf c t (truth was)) (sym tuple.truth) (truth_fits c t held was), (key_is, (it_is, tt)))),
        )

    -- strings: a place and a code point
    module _ (state over : TypeId) (is : under_of c state ≡ Some (term.Iter over)) (is_text : TextFits (under_of c over))
        (place : first ≡ basic_id basic.Int) (point : second ≡ basic_id basic.Int32) where
      integer : (n : ℤ) (kind : Basic) → is_some (kind_of_term (Some (term.Basic kind))) ≡ true → IsOf c t (number n) (basic_id kind)
      integer n kind h =
          number_fits c t n (under_of c (basic_id kind))
          (subst (λ u. is_some (kind_of_term u) ≡ true) (sym (basic_term c.types held kind)) h)

      text_turns : (sched : State) (bytes : List ℕ) (next : ℕ) → TurnFits c t of state sched (text_turn sched bytes next)
      text_turns sched bytes next = by (nat_lt next (length bytes))
        where
          range_is : (next : ℕ) → IsOf c t (text_range bytes next) state
          range_is next = subst (TextRangeFits c) (sym is) is_text

          number_is : (was : Bool) (a b : ℕ) → IsOf c t (turn_of was (number (pos a)) (number (pos b))) of
          number_is was a b =
              turn_fits was (number (pos a)) (number (pos b))
              (subst (IsOf c t (number (pos a))) (sym place) (integer (pos a) basic.Int refl))
              (subst (IsOf c t (number (pos b))) (sym point) (integer (pos b) basic.Int32 refl))

          by : (b : Bool) → TurnFits c t of state sched
              (if b then record {
                value = turn_of true (number (pos next)) (number (pos (first_rune (drop next bytes)).point));
                range = text_range bytes (next + (first_rune (drop next bytes)).width);
                sched = sched;
              }
              else record {
                value = turn_of false (number (pos 0)) (number (pos 0));
                range = text_range bytes next;
                sched = sched;
              })
          by true = record {
            value = number_is true next (first_rune (drop next bytes)).point;
            range = range_is (next + (first_rune (drop next bytes)).width);
            same = same_sched sched;
          }
          by false = record { value = number_is false 0 0; range = range_is next; same = same_sched sched }

    -- maps: a key and its value
    module _ (store : Stored) (is_store : IsStore c t store) (state over : TypeId)
        (is : under_of c state ≡ Some (term.Iter over)) (is_map : under_of c over ≡ Some (term.Map first second)) (id : Option MapId)
        (fits : MapFits c t id first second) (key it : Val) (key_is : IsOf c t key first) (it_is : IsOf c t it second) where
      range_fits : (left : List ℕ) → IsOf c t (map_range id left) state
      range_fits left =
          subst (MapRangeFits c t id) (sym is) (subst (MapNumberFits c t id) (sym is_map) fits)

      drawn_turns : (old sched : State) → SameSched old sched → (entry : Option ℕ) (left : List ℕ)
          → ((n : ℕ) → entry ≡ Some n → is_standing (entries_of store id) n ≡ true)
          → (turn : Turn)
          × ((turn_with sched id (entries_of store id) (Some key) (Some it) (record { entry = entry; left = left }) ≡ Some turn)
          × TurnFits c t of state old turn)
      drawn_turns old sched same None left stands = (
        record { value = turn_of false key it; range = map_range id left; sched = sched },
        (refl, record { value = turn_fits false key it key_is it_is; range = range_fits left; same = same }),
      )
      drawn_turns old sched same (Some n) left stands =
          let pair = there (entry_at (entries_of store id) n) (stands n refl) in
          let pair_is = numbered_fits c t store is_store id first second fits n pair.0 pair.1 in (
            record { value = turn_of true pair.0.key pair.0.value; range = map_range id left; sched = sched },
            (
              ap (option_map (λ (entry : Pair). record { value = turn_of true entry.key entry.value; range = map_range id left; sched = sched }))
                  pair.1,
              record { value = turn_fits true pair.0.key pair.0.value pair_is.0 pair_is.1; range = range_fits left; same = same },
            ),
          )

      map_turns : (sched : State) (left : List ℕ)
          → (turn : Turn)
          × ((map_turn id (entries_of store id) (Some key) (Some it) sched left ≡ Some turn) × TurnFits c t of state sched turn)
      map_turns sched left =
          drawn_turns sched (sched_after sched (entries_of store id) left) (after_same sched (entries_of store id) left)
          (drawn sched (entries_of store id) left).entry (drawn sched (entries_of store id) left).left
          (drawn_stands (entries_of store id) sched left)

-- ---- registers alone hold states of ranges

module _ (c : Code) (f : Function) (typed : IsTypedFunction c f) (state over : TypeId)
    (is_term : term_at c.types state ≡ Some (term.Iter over)) (is : under_of c state ≡ Some (term.Iter over)) where
  given_type : (of : Option TypeId) → held_type (typed_type of) ≡ Some state → of ≡ Some state
  given_type None h = absurd (none-some state h)
  given_type (Some of) h = h

  no_value : (ids : List TypeId) → are_value_types c.types ids ≡ true → (n : ℕ) → slice_get ids n ≡ Some state → ⊥
  no_value ids values n h =
      never (subst (λ u. is_value_type u ≡ true) is_term
      (each_passes (λ of. is_value_type (term_at c.types of)) ids values n state h))

  no_function : (id : FuncId) (found : Option Function) → held_type (known_function id found) ≡ Some state → ⊥
  no_function id None h = none-some state h
  no_function id (Some g) h = by (is_value g.kind g.free) h
    where
      by : (b : Bool) → held_type (if b then Some (known_as.Function id) else None) ≡ Some state → ⊥
      by true h = none-some state h
      by false h = none-some state h

  no_variable : (found : Option CodeVariable) → held_type (address_of found) ≡ Some state → ⊥
  no_variable None h = none-some state h
  no_variable (Some it) h = none-some state h

  none_of_state : (it : ConstValue) → has_constant c.types it state ≡ true → ⊥
  none_of_state (constant.Int z) h = never (subst (λ u. term_has u (const.Int z) ≡ true) is h)
  none_of_state (constant.Truth b) h = never (subst (λ u. is_truth u ≡ true) is h)
  none_of_state (constant.Text bytes) h = never (subst (λ u. is_text u ≡ true) is h)
  none_of_state constant.Nil h = never (subst (λ u. has_nil u ≡ true) is h)
  none_of_state constant.Zero h = never (subst (λ u. shapes.has_zero u ≡ true) is h)

  no_constant : (it : ConstValue) (of : TypeId) (b : Bool) → has_constant c.types it of ≡ b
      → held_type (if b then Some (known_as.Held of) else None) ≡ Some state → ⊥
  no_constant it of true e h =
      none_of_state it (subst (λ of. has_constant c.types it of ≡ true) (lists.some_same of state h) e)
  no_constant it of false e h = none-some state h

  register_state : (it : Operand) → held_type (known c f it) ≡ Some state
      → (range : ℕ) × ((it ≡ operand.Register range) × (slice_get f.registers range ≡ Some state))
  register_state (operand.Param n) h =
      absurd (no_value f.params (both (are_value_types c.types f.params) _ typed.header).0 n
      (given_type (slice_get f.params n) h))
  register_state (operand.Free n) h =
      let rest = both (are_value_types c.types f.params) _ typed.header in
      absurd (no_value f.free (both (are_value_types c.types f.free) _ rest.1).0 n (given_type (slice_get f.free n) h))
  register_state (operand.Register n) h = (n, (refl, given_type (slice_get f.registers n) h))
  register_state (operand.Function id) h = absurd (no_function id (function_at c id) h)
  register_state (operand.Variable variable) h = absurd (no_variable (slice_get c.variables variable.number) h)
  register_state (operand.Constant it of) h = absurd (no_constant it of (has_constant c.types it of) refl h)

-- ---- what a state of a range is

pub data IsState (c : Code) (t : Typing) (over : Option TypeTerm) : Val → Type 0 where
  of_text : (bytes : List ℕ) (next : ℕ) → TextFits over → IsState c t over (text_range bytes next)
  of_map : (id : Option MapId) (left : List ℕ) → MapNumberFits c t id over → IsState c t over (map_range id left)

state_in : (c : Code) (t : Typing) (v : Val) (over : TypeId) → Fits c t v (Some (term.Iter over)) → IsState c t (under_of c over) v
state_in c t (text_range bytes next) over h = of_text bytes next h
state_in c t (map_range id left) over h = of_map id left h
state_in c t (truth it) over h = absurd h
state_in c t (number it) over h = absurd h
state_in c t (text it) over h = absurd h
state_in c t (pointer at) over h = absurd h
state_in c t (slice it) over h = absurd h
state_in c t (map_number id) over h = absurd h
state_in c t (chan_number id) over h = absurd h
state_in c t nil_function over h = absurd h
state_in c t (closure id captured) over h = absurd h
state_in c t (bound target receiver) over h = absurd h.1.0
state_in c t (expression receiver name package_number) over h = absurd h
state_in c t nil_interface over h = absurd h
state_in c t (dynamic from it) over h = absurd h.0
state_in c t (parts it) over h = absurd (none-some h.0 h.1.0)

-- ---- turns of an operand

record IsTurn (t : Typing) (s : Site) (it : Operand) (of state : TypeId) : Type 0 where
  pub turn : Turn
  pub comes : option_and_then (next_turn s.code s.machine.store s.machine.sched (ranged s.code (term_of s.code s.function it)))
      (value s it) ≡ Some turn
  pub fits : TurnFits s.code t of state s.machine.sched turn

module _ (t : Typing) (s : Site) (it : Operand) (reads : Reads t s (op.Next it)) (of more first second state over : TypeId)
    (tuple : IsTuple s.code of more first second) (is : under_of s.code state ≡ Some (term.Iter over))
    (is_ranged_over : ranged s.code (term_of s.code s.function it) ≡ under_of s.code over) where
  turns_text : (bytes : List ℕ) (next : ℕ) → value s it ≡ Some (text_range bytes next) → (u : Option TypeTerm)
      → under_of s.code over ≡ u → TextFits u → has_items u first second ≡ true → IsTurn t s it of state
  turns_text bytes next e (Some (term.Basic basic.Text)) is_over fits h =
      let split = both (same_id first (basic_id basic.Int)) (same_id second (basic_id basic.Int32)) h in
      record {
        turn = text_turn s.machine.sched bytes next;
        comes =
            ap (option_and_then (next_turn s.code s.machine.store s.machine.sched
            (ranged s.code (term_of s.code s.function it)))) e;
        fits =
            text_turns s.code t reads.safe.held of more first second tuple state over is
            (subst TextFits (sym is_over) fits) (same_is first (basic_id basic.Int) split.0)
            (same_is second (basic_id basic.Int32) split.1) s.machine.sched bytes next;
      }
  turns_text bytes next e (Some (term.Map key elem)) is_over fits h = absurd fits
  turns_text bytes next e _ is_over fits h = never h

  turns_map : (id : Option MapId) (left : List ℕ) → value s it ≡ Some (map_range id left) → (u : Option TypeTerm)
      → under_of s.code over ≡ u → MapNumberFits s.code t id u → has_items u first second ≡ true → IsTurn t s it of state
  turns_map id left e (Some (term.Map key elem)) is_over fits h =
      let split = both (same_id key first) (same_id elem second) h in
      let is_map : Some (term.Map key elem) ≡ Some (term.Map first second) =
      λ i. Some (term.Map (same_is key first split.0 i) (same_is elem second split.1 i)) in
      let over_map : under_of s.code over ≡ Some (term.Map first second) = is_over ∙ is_map in
      let ready : has_turns s.code (Some (term.Map first second)) ≡ true =
      subst (λ u. has_turns s.code u ≡ true) (is_ranged_over ∙ over_map)
      (both (has_turns s.code (ranged s.code (term_of s.code s.function it))) _ reads.runnable).0 in
      let zeros = both (is_some (zero_of s.code first)) (is_some (zero_of s.code second)) ready in
      let one = there (zero_of s.code first) zeros.0 in
      let two = there (zero_of s.code second) zeros.1 in
      let turn = map_turns s.code t reads.safe.held of more first second tuple s.machine.store reads.store state over is over_map
      id (subst (MapNumberFits s.code t id) is_map fits) one.0 two.0 (zero_fits s.code t first one.0 one.1)
      (zero_fits s.code t second two.0 two.1) s.machine.sched left in
      record {
        turn = turn.0;
        comes =
            ap (option_and_then (next_turn s.code s.machine.store s.machine.sched
            (ranged s.code (term_of s.code s.function it)))) e
            ∙ ap (λ u. next_turn s.code s.machine.store s.machine.sched u (map_range id left)) (is_ranged_over ∙ over_map)
            ∙ ap (λ key. map_turn id (entries_of s.machine.store id) key (zero_of s.code second) s.machine.sched left) one.1
            ∙ ap (λ elem. map_turn id (entries_of s.machine.store id) (Some one.0) elem s.machine.sched left) two.1
            ∙ turn.1.0;
        fits = turn.1.1;
      }
  turns_map id left e _ is_over fits h = absurd fits

  turns_of : (v : Val) → value s it ≡ Some v → IsState s.code t (under_of s.code over) v
      → has_items (under_of s.code over) first second ≡ true → IsTurn t s it of state
  turns_of v e (of_text bytes next fits) h = turns_text bytes next e (under_of s.code over) refl fits h
  turns_of v e (of_map id left fits) h = turns_map id left e (under_of s.code over) refl fits h

pub record TurnComes (t : Typing) (s : Site) (it : Operand) (of : TypeId) : Type 0 where
  pub range : ℕ
  pub is : it ≡ operand.Register range
  pub turn : Turn
  pub comes : option_and_then (next_turn s.code s.machine.store s.machine.sched (ranged s.code (term_of s.code s.function (operand.Register range))))
      (value s (operand.Register range)) ≡ Some turn
  pub value_fits : IsOf s.code t turn.value of
  pub state : TypeId
  pub held : slice_get s.function.registers range ≡ Some state
  pub range_fits : IsOf s.code t turn.range state
  pub same : SameSched s.machine.sched turn.sched

-- parameters and free variables are no states of ranges
pub next_comes : (t : Typing) (s : Site) (it : Operand) → Reads t s (op.Next it) → (of : TypeId)
    → FitsGiving s.code s.function (op.Next it) of → TurnComes t s it of
unfolding FitsGiving fits_giving
next_comes t s it reads of typed = by (held_type (known s.code s.function it)) refl typed
  where
    function : IsTypedFunction s.code s.function
    function =
        reads.safe.typed reads.number s.function
        (lists.get_below s.code.functions reads.number s.function reads.there) reads.there

    by_parts : (state over : TypeId) → held_type (known s.code s.function it) ≡ Some state
        → term_at s.code.types state ≡ Some (term.Iter over) → (parts : Option (List TypeId))
        → parts_of (term_at s.code.types of) ≡ parts → has_steps (under_of s.code over) parts ≡ true → TurnComes t s it of
    by_parts state over e is_term (Some (more ∷ first ∷ second ∷ [])) are h =
        let split = both (same_id more (basic_id basic.Bool)) (has_items (under_of s.code over) first second) h in
        let is = under_plain s.code.types reads.safe.held state (term.Iter over) is_term refl in
        let tuple : IsTuple s.code of more first second = record {
          is = tuple_term s.code.types reads.safe.held of (more ∷ first ∷ second ∷ []) are;
          truth = same_is more (basic_id basic.Bool) split.0;
        } in
        let found = held_value t s it (reads.values it (inl refl)) state e in
        let ranged_over : ranged s.code (term_of s.code s.function it) ≡ under_of s.code over =
        ap (λ of. ranged s.code (under s.code of))
        (held_type_is s.code s.function it state (held_is s.code s.function it state e))
        ∙ ap (ranged s.code) is in
        let register = register_state s.code s.function function state over is_term is it e in
        let turn = turns_of t s it reads of more first second state over tuple is ranged_over found.0 found.1.0
        (state_in s.code t found.0 over (subst (Fits s.code t found.0) is found.1.1)) split.1 in
        record {
          range = register.0;
          is = register.1.0;
          turn = turn.turn;
          comes =
              subst (λ it. option_and_then (next_turn s.code s.machine.store s.machine.sched
              (ranged s.code (term_of s.code s.function it))) (value s it) ≡ Some turn.turn) register.1.0 turn.comes;
          value_fits = turn.fits.value;
          state = state;
          held = register.1.1;
          range_fits = turn.fits.range;
          same = turn.fits.same;
        }
    by_parts state over e is_term _ are h = never h

    by_term : (state : TypeId) → held_type (known s.code s.function it) ≡ Some state → (u : Option TypeTerm)
        → term_at s.code.types state ≡ u → steps_over s.code.types u of ≡ true → TurnComes t s it of
    by_term state e (Some (term.Iter over)) is h = by_parts state over e is (parts_of (term_at s.code.types of)) refl h
    by_term state e _ is h = never h

    by : (held : Option TypeId) → held_type (known s.code s.function it) ≡ held → steps s.code.types held of ≡ true
        → TurnComes t s it of
    by None e h = never h
    by (Some state) e h = by_term state e (term_at s.code.types state) refl h
