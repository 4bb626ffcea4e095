-- Calls of built-in functions: their operands are what the machine takes, whatever the store comes to hold.
use Rattle.std.proofs.Common.{◌≡◌, ◌⊎◌, inl, inr, ℕ, ℤ, pos, suc, ◌||◌, ◌&&◌, Bool, true, false, List, [], ◌∷◌, Option, Some, None, refl, sym, subst, ap, ◌∙◌, is_some, if◌then◌else◌, true≢false, length, map, replicate, take, min}
use Rattle.std.proofs.lemmas.Option.{none-some}
use Rattle.std.specs.List.{list_all}
use Rattle.std.specs.Option.{option_map}
use Rattle.code_safety.proofs.Appending.{all_same, all_more, append_comes, overwrites, overwrites_front, copies}
use Rattle.code_safety.proofs.Converting.{numbers_fit}
use Rattle.code_safety.proofs.Forms.{number_fits, text_in, slice_in, map_in, chan_in}
use Rattle.code_safety.proofs.Growing.{grows_self, fits_grow}
use Rattle.code_safety.proofs.Lists as lists
use Rattle.code_safety.proofs.Machines.{BuiltInFits, closes, panics, recovers, works, GivesOf, DoneComes, StoreComes}
use Rattle.code_safety.proofs.Mapping.{clears_map, deleted_comes}
use Rattle.code_safety.proofs.Operands.{known_of, operand_value, shape_value, shape_term, held_type_is, held_value, type_fits, any_value, all_are}
use Rattle.code_safety.proofs.Sames.{under_plain}
use Rattle.code_safety.proofs.Stores.{elements_are}
use Rattle.code_safety.proofs.Sites.{HasValue, Among, KnownFits}
use Rattle.code_safety.proofs.Terms.{never, either, there, same_is, any_term, pointer_term, basic_term}
use Rattle.code_safety.proofs.Values.{Typing, Grows, Fits, IsOf, AllOf, Slices, IsStore, MapFits, under_of}
use Rattle.code_safety.proofs.Zeros.{zero_fits}
use Rattle.ssa_runnable.specs.Runnable.{runs_builtin, has_length}
use Rattle.code_safety.specs.Safety.{IsSafe}
use Rattle.go_base.specs.declared.ids.FuncId.{FuncId}
use Rattle.go_base.specs.declared.ids.MapId.{MapId}
use Rattle.go_base.specs.declared.ids.TypeId.{TypeId}
use Rattle.go_sched.specs.Goroutines.{State, meant, queue_length, size_of}
use Rattle.go_store.specs.Conversions.{numbers_of}
use Rattle.go_store.specs.Slices.{copy_count, copied}
use Rattle.go_maps.specs.Entries.{cleared, count_in}
use Rattle.go_store.specs.Stores.{Stored}
use Rattle.go_type.specs.Assignable.{underlying_term_of}
use Rattle.go_type.specs.Held.{IsHeld}
use Rattle.go_type.specs.Kinds.{kind_of_term}
use Rattle.go_type.specs.Same.{both, same_id, same_id-Decides}
use Rattle.go_type.specs.Table.{term_at, basic_id}
use Rattle.go_type.specs.declared.operators.Builtin.{Builtin}
use Rattle.go_type.specs.declared.operators.Builtin.TheVariants as builtin
use Rattle.go_type.specs.declared.term.Basic.TheVariants as basic
use Rattle.go_type.specs.declared.term.TypeTerm.{TypeTerm}
use Rattle.go_type.specs.declared.term.TypeTerm.TheVariants as term
use Rattle.go_value.specs.Values.{Val, number, text, slice, pointer, closure, map_number, chan_number}
use Rattle.go_value.specs.declared.address.Pointer.{Pointer}
use Rattle.go_value.specs.declared.address.SliceValue.{SliceValue}
use Rattle.ssa_ir.specs.declared.code.Code.{Code}
use Rattle.ssa_ir.specs.declared.code.Function.{Function}
use Rattle.ssa_ir.specs.declared.operands.Operand.{Operand}
use Rattle.ssa_mean.specs.Answers.{Answers}
use Rattle.ssa_mean.specs.BuiltIns.{built_in_of, built_in_call, clear_of, append_of, append_to, append, overwritten_from, writes, changes, is_less, least_of, greatest_of}
use Rattle.ssa_mean.specs.Comes.{Comes, to, faults, nowhere, then_to, where_some}
use Rattle.ssa_mean.specs.Conversions.{are_bytes, is_byte_term}
use Rattle.ssa_mean.specs.Making.{leaves_of}
use Rattle.ssa_mean.specs.MapCalls.{entries_of, map_changed, deleted}
use Rattle.ssa_mean.specs.Operands.{values_of, with_value, type_of, term_of, under, element_in}
use Rattle.ssa_mean.specs.State.{BuiltIn, appends_items, appends_slice, appends_text, clears_slice, plain}
use Rattle.ssa_mean.specs.Step.{Site, value}
use Rattle.ssa_mean.specs.Texts.{printed_all, printed_line}
use Rattle.ssa_mean.specs.Zeros.{zero_of}
use Rattle.ssa_typed.specs.Calls.{fits_builtin, fits_deferred_builtin, fits_effect, fits_value, is_cleared, is_closed, deletes, copies_from, is_run_of, is_printed, is_printed_type, appends, appends_elems, is_ordered, has_own_cap, has_own_len, points_to_array}
use Rattle.ssa_typed.specs.Operands as typed_operands
use Rattle.ssa_typed.specs.Operands.{function_at, known, held_type, shape, is_operand, is_known, is_function_type, pointee_of}
use Rattle.ssa_typed.specs.declared.known.Known.{Known}
use Rattle.ssa_typed.specs.declared.known.Known.TheVariants as known_as
use Rattle.type_shapes.specs.Shapes.{is_slice, is_byte, base_of}

-- what a call of a built-in function is readied to
pub record BuiltInReadied (t : Typing) (s : Site) (called : Builtin) (arguments : List Operand) (of : Option TypeId) : Type 0
  where
    pub it : BuiltIn
    pub is : built_in_of s.code s.function called arguments ≡ Some it
    pub items : List Val
    pub are : values_of s.code s.frame arguments ≡ Some items
    pub fits : BuiltInFits s.code t it items of

-- ---- what is done

-- a call gives what is wanted, whatever the store comes to hold
abbrev Works : Code → Typing → BuiltIn → List Val → Option TypeId → Type 0
Works c t called items of =
    (t' : Typing) → Grows t t' → (answers : Answers) (store : Stored) (sched : State) → IsStore c t' store
    → DoneComes c t' of (built_in_call answers store sched called items)

done : (c : Code) (t : Typing) (of : Option TypeId) (it : Option Val) (store : Stored) (written : List ℕ) → IsStore c t store
    → GivesOf c t it of → DoneComes c t of (to (record { value = it; store = store; written = written }))
done c t of it store written is gives = record { typing = t; grows = grows_self t; chans = refl; is_store = is; is_of = gives }

stored : (c : Code) (t : Typing) (it : Comes Stored) → StoreComes c t it → DoneComes c t None (then_to changes it)
stored c t (to store) h = done c t None None store [] h tt
stored c t (faults it) h = tt
stored c t nowhere h = absurd h

module _ (c : Code) (t t' : Typing) (g : Grows t t') where
  slices_grow : (it : SliceValue) (elem : TypeId) → Slices c t it elem → Slices c t' it elem
  slices_grow it elem h = fits_grow c t t' g (slice it) (Some (term.Slice elem)) h

  map_grows : (id : Option MapId) (key elem : TypeId) → MapFits c t id key elem → MapFits c t' id key elem
  map_grows id key elem h = fits_grow c t t' g (map_number id) (Some (term.Map key elem)) h

  all_grow : (items : List Val) (elem : TypeId) → AllOf c t items elem → AllOf c t' items elem
  all_grow items elem all n v h = fits_grow c t t' g v (under_of c elem) (all n v h)

-- ---- operands

module _ (s : Site) where
  more_of : (it : Operand) (others : List Operand) (v : Val) (items : List Val) → value s it ≡ Some v
      → values_of s.code s.frame others ≡ Some items → values_of s.code s.frame (it ∷ others) ≡ Some (v ∷ items)
  more_of it others v items e h = λ i. with_value (e i) (h i)

  one_of : (it : Operand) (v : Val) → value s it ≡ Some v → values_of s.code s.frame (it ∷ []) ≡ Some (v ∷ [])
  one_of it v e = more_of it [] v [] e refl

  two_of : (it other : Operand) (v w : Val) → value s it ≡ Some v → value s other ≡ Some w
      → values_of s.code s.frame (it ∷ other ∷ []) ≡ Some (v ∷ w ∷ [])
  two_of it other v w e h = more_of it (other ∷ []) v (w ∷ []) e (one_of other w h)

each_among : (test : Operand → Bool) (its : List Operand) → list_all test its ≡ true → (it : Operand) → Among it its
    → test it ≡ true
each_among test [] h it among = absurd among
each_among test (other ∷ others) h it (inl same) =
    subst (λ it. test it ≡ true) same (both (test other) (list_all test others) h).0
each_among test (other ∷ others) h it (inr among) =
    each_among test others (both (test other) (list_all test others) h).1 it among

byte_term : (of : Option TypeTerm) → is_byte of ≡ true → of ≡ Some (term.Basic basic.Uint8)
byte_term (Some (term.Basic basic.Uint8)) h = refl
byte_term _ h = never h

machine_byte : (of : Option TypeTerm) → is_byte_term of ≡ true → of ≡ Some (term.Basic basic.Uint8)
machine_byte (Some (term.Basic basic.Uint8)) h = refl
machine_byte _ h = never h

kept_some : {A B : Type 0} (f : A → B) (it : Option A) → is_some (option_map f it) ≡ true → is_some it ≡ true
kept_some f None h = never h
kept_some f (Some x) h = refl

-- ---- those without a result

module _ (t : Typing) (s : Site) (safe : IsSafe s.code) where
  clear_fits : (one : Operand) → HasValue t s one → runs_builtin s.code s.function builtin.Clear (one ∷ []) ≡ true
      → is_cleared (shape s.code s.function one) ≡ true → BuiltInReadied t s builtin.Clear (one ∷ []) None
  clear_fits one has runnable h = by (shape s.code s.function one) refl h
    where
      by : (u : Option TypeTerm) → shape s.code s.function one ≡ u → is_cleared u ≡ true
          → BuiltInReadied t s builtin.Clear (one ∷ []) None
      by (Some (term.Map key elem)) e h =
          let found = shape_value t s one has (term.Map key elem) e in
          let id = map_in s.code t found.0 key elem found.1.1 in
          record {
            it = plain builtin.Clear;
            is = ap (clear_of s.code) (shape_term s.code s.function one (term.Map key elem) e);
            items = found.0 ∷ [];
            are = one_of s one found.0 found.1.0;
            fits =
                subst (λ v. BuiltInFits s.code t (plain builtin.Clear) (v ∷ []) None) (sym id.1.0)
                (works (plain builtin.Clear) (map_number id.0 ∷ []) None (λ t' g answers store sched is.
                done s.code t' None None (map_changed cleared store id.0) []
                (clears_map s.code t' store is answers.comparable key elem id.0 (map_grows s.code t t' g id.0 key elem id.1.1)) tt));
          }
      by (Some (term.Slice elem)) e h =
          let found = shape_value t s one has (term.Slice elem) e in
          let it = slice_in s.code t found.0 elem found.1.1 in
          let is_term = shape_term s.code s.function one (term.Slice elem) e in
          let unheld = there (zero_of s.code elem) (kept_some clears_slice (zero_of s.code elem)
          (subst (λ u. is_some (clear_of s.code u) ≡ true) is_term runnable)) in
          record {
            it = clears_slice unheld.0;
            is = ap (clear_of s.code) is_term ∙ ap (option_map clears_slice) unheld.1;
            items = found.0 ∷ [];
            are = one_of s one found.0 found.1.0;
            fits =
                subst (λ v. BuiltInFits s.code t (clears_slice unheld.0) (v ∷ []) None) (sym it.1.0)
                (works (clears_slice unheld.0) (slice it.0 ∷ []) None (λ t' g answers store sched is.
                done s.code t' None None (overwritten_from store it.0 (replicate it.0.len unheld.0)) []
                (overwrites s.code t' elem store is it.0 (slices_grow s.code t t' g it.0 elem it.1.1)
                (replicate it.0.len unheld.0)
                (all_same s.code t' elem it.0.len unheld.0 (zero_fits s.code t' elem unheld.0 unheld.1))) tt));
          }
      by _ e h = never h

  close_fits : (one : Operand) → HasValue t s one → is_closed (shape s.code s.function one) ≡ true
      → BuiltInReadied t s builtin.Close (one ∷ []) None
  close_fits one has h = by (shape s.code s.function one) refl h
    where
      by : (u : Option TypeTerm) → shape s.code s.function one ≡ u → is_closed u ≡ true
          → BuiltInReadied t s builtin.Close (one ∷ []) None
      by (Some (term.Chan way elem)) e h =
          let found = shape_value t s one has (term.Chan way elem) e in
          let id = chan_in s.code t found.0 way elem found.1.1 in
          record {
            it = plain builtin.Close;
            is = refl;
            items = found.0 ∷ [];
            are = one_of s one found.0 found.1.0;
            fits = subst (λ v. BuiltInFits s.code t (plain builtin.Close) (v ∷ []) None) (sym id.1.0) (closes id.0);
          }
      by _ e h = never h

  delete_fits : (one by : Operand) → HasValue t s one → HasValue t s by
      → deletes s.code s.function (shape s.code s.function one) by ≡ true
      → BuiltInReadied t s builtin.Delete (one ∷ by ∷ []) None
  delete_fits one by has has' h = at (shape s.code s.function one) refl h
    where
      at : (u : Option TypeTerm) → shape s.code s.function one ≡ u → deletes s.code s.function u by ≡ true
          → BuiltInReadied t s builtin.Delete (one ∷ by ∷ []) None
      at (Some (term.Map key elem)) e h =
          let found = shape_value t s one has (term.Map key elem) e in
          let id = map_in s.code t found.0 key elem found.1.1 in
          let index = operand_value t s safe.held by has' key h in
          record {
            it = plain builtin.Delete;
            is = refl;
            items = found.0 ∷ index.0 ∷ [];
            are = two_of s one by found.0 index.0 found.1.0 index.1.0;
            fits =
                subst (λ v. BuiltInFits s.code t (plain builtin.Delete) (v ∷ index.0 ∷ []) None) (sym id.1.0)
                (works (plain builtin.Delete) (map_number id.0 ∷ index.0 ∷ []) None (λ t' g answers store sched is.
                stored s.code t' (deleted answers.comparable store id.0 index.0)
                (deleted_comes s.code t' store is answers.comparable key elem id.0 (map_grows s.code t t' g id.0 key elem id.1.1)
                index.0)));
          }
      at _ e h = never h

  -- values that are printed
  printed_values : (its : List Operand) → ((it : Operand) → Among it its → HasValue t s it)
      → list_all (is_printed s.code s.function) its ≡ true
      → (items : List Val) × (values_of s.code s.frame its ≡ Some items)
  printed_values [] has h = ([], refl)
  printed_values (it ∷ its) has h =
      let split = both (is_printed s.code s.function it) (list_all (is_printed s.code s.function) its) h in
      let rest = printed_values its (λ other among. has other (inr among)) split.1 in
      let first = printed_value it (has it (inl refl)) (held_type (known s.code s.function it)) refl split.0 in
      (first.0 ∷ rest.0, more_of s it its first.0 rest.0 first.1 rest.1)
    where
      printed_value : (it : Operand) → HasValue t s it → (of : Option TypeId) → held_type (known s.code s.function it) ≡ of
          → is_printed_type s.code.types of ≡ true → (v : Val) × (value s it ≡ Some v)
      printed_value it has None e h = never h
      printed_value it has (Some of) e h = let found = held_value t s it has of e in (found.0, found.1.0)

  print_fits : (called : Builtin) (its : List Operand) (written : List Val → List ℕ)
      → ((it : Operand) → Among it its → HasValue t s it)
      → list_all (is_printed s.code s.function) its ≡ true
      → built_in_of s.code s.function called its ≡ Some (plain called)
      → ((answers : Answers) (store : Stored) (sched : State) (items : List Val)
      → built_in_call answers store sched (plain called) items ≡ to (writes store (written items)))
      → BuiltInReadied t s called its None
  print_fits called its written has h is does =
      let found = printed_values its has h in
      record {
        it = plain called;
        is = is;
        items = found.0;
        are = found.1;
        fits =
            works (plain called) found.0 None (λ t' g answers store sched is.
            subst (DoneComes s.code t' None) (sym (does answers store sched found.0))
            (done s.code t' None None store (written found.0) is tt));
      }

  effect_fits : (called : Builtin) (arguments : List Operand) → ((it : Operand) → Among it arguments → HasValue t s it)
      → runs_builtin s.code s.function called arguments ≡ true → fits_effect s.code s.function called arguments ≡ true
      → BuiltInReadied t s called arguments None
  effect_fits builtin.Clear (one ∷ []) has runnable h = clear_fits one (has one (inl refl)) runnable h
  effect_fits builtin.Close (one ∷ []) has runnable h = close_fits one (has one (inl refl)) h
  effect_fits builtin.Delete (one ∷ by ∷ []) has runnable h =
      delete_fits one by (has one (inl refl)) (has by (inr (inl refl))) h
  effect_fits builtin.Print arguments has runnable h =
      print_fits builtin.Print arguments printed_all has h refl (λ answers store sched items. refl)
  effect_fits builtin.Println arguments has runnable h =
      print_fits builtin.Println arguments printed_line has h refl (λ answers store sched items. refl)
  effect_fits _ arguments has runnable h = never h

-- ---- lengths and capacities

closure_sized : (c : Code) (t : Typing) (id : FuncId) (of : Option TypeTerm) → Fits c t (closure id []) of → has_length of ≡ true → ⊥
closure_sized c t id (Some (term.Func signature)) fits h = never h
closure_sized c t id _ fits h = absurd fits

pointer_sized : (c : Code) (t : Typing) (at : Pointer) (of : Option TypeTerm) → Fits c t (pointer at) of → has_length of ≡ true → ⊥
pointer_sized c t at (Some (term.Pointer base)) fits h = never h
pointer_sized c t at _ fits h = absurd fits

int_fits : (c : Code) (t : Typing) → IsHeld c.types → (of : TypeId) → same_id of (basic_id basic.Int) ≡ true → (n : ℤ)
    → IsOf c t (number n) of
int_fits c t held of same n =
    subst (IsOf c t (number n)) (sym (same_is of (basic_id basic.Int) same))
    (number_fits c t n (under_of c (basic_id basic.Int))
    (subst (λ u. is_some (kind_of_term u) ≡ true) (sym (basic_term c.types held basic.Int)) refl))

-- what has a length is held
record Sized (c : Code) (t : Typing) (f : Function) (it : Operand) (v : Val) : Type 0 where
  pub of : TypeId
  pub is : known c f it ≡ Some (known_as.Held of)
  pub fits : IsOf c t v of
  pub sized : has_length (under_of c of) ≡ true

module _ (c : Code) (t : Typing) (held : IsHeld c.types) (f : Function) (it : Operand) where
  sized_is : (k : Known) → known c f it ≡ Some k → (v : Val) → KnownFits c t k v → has_length (term_of c f it) ≡ true
      → Sized c t f it v
  sized_is k e v fits h = by (type_of c f it) refl h
    where
      by_known : (k : Known) → known c f it ≡ Some k → KnownFits c t k v → (of : TypeId) → type_of c f it ≡ Some of
          → IsOf c t v of → has_length (under_of c of) ≡ true → Sized c t f it v
      by_known (known_as.Held from) e fits of is fits' h =
          let same = lists.some_same of from (sym is ∙ held_type_is c f it from e) in
          record { of = from; is = e; fits = fits; sized = subst (λ of. has_length (under_of c of) ≡ true) same h }
      by_known (known_as.Function id) e fits of is fits' h =
          absurd (closure_sized c t id (under_of c of) (subst (λ v. IsOf c t v of) fits.0 fits') h)
      by_known (known_as.Address base) e fits of is fits' h =
          absurd (pointer_sized c t fits.0 (under_of c of) (subst (λ v. IsOf c t v of) fits.1.0 fits') h)

      by : (of : Option TypeId) → type_of c f it ≡ of → has_length (under c of) ≡ true → Sized c t f it v
      by None is h = never h
      by (Some of) is h = by_known k e fits of is (type_fits c t held f it k of v e is fits) h

module _ (c : Code) (t : Typing) (held : IsHeld c.types) (of : TypeId) (int : same_id of (basic_id basic.Int) ≡ true) where
  count_is : (t' : Typing) (store : Stored) (n : ℕ) → IsStore c t' store
      → DoneComes c t' (Some of) (to (record { value = Some (number (pos n)); store = store; written = [] }))
  count_is t' store n is =
      done c t' (Some of) (Some (number (pos n))) store [] is (int_fits c t' held of int (pos n))

  length_fits : (v : Val) (u : Option TypeTerm) → Fits c t v u → has_length u ≡ true
      → BuiltInFits c t (plain builtin.Len) (v ∷ []) (Some of)
  length_fits v (Some (term.Basic basic.Text)) fits h =
      let it = text_in c t v fits in
      subst (λ v. BuiltInFits c t (plain builtin.Len) (v ∷ []) (Some of)) (sym it.1)
      (works (plain builtin.Len) (text it.0 ∷ []) (Some of) (λ t' g answers store sched is.
      count_is t' store (length it.0) is))
  length_fits v (Some (term.Slice elem)) fits h =
      let it = slice_in c t v elem fits in
      subst (λ v. BuiltInFits c t (plain builtin.Len) (v ∷ []) (Some of)) (sym it.1.0)
      (works (plain builtin.Len) (slice it.0 ∷ []) (Some of) (λ t' g answers store sched is.
      count_is t' store it.0.len is))
  length_fits v (Some (term.Map key elem)) fits h =
      let it = map_in c t v key elem fits in
      subst (λ v. BuiltInFits c t (plain builtin.Len) (v ∷ []) (Some of)) (sym it.1.0)
      (works (plain builtin.Len) (map_number it.0 ∷ []) (Some of) (λ t' g answers store sched is.
      count_is t' store (count_in (entries_of store it.0)) is))
  length_fits v (Some (term.Chan way elem)) fits h =
      let it = chan_in c t v way elem fits in
      subst (λ v. BuiltInFits c t (plain builtin.Len) (v ∷ []) (Some of)) (sym it.1.0)
      (works (plain builtin.Len) (chan_number it.0 ∷ []) (Some of) (λ t' g answers store sched is.
      count_is t' store (queue_length (meant sched it.0)) is))
  length_fits v _ fits h = never h

  capacity_fits : (v : Val) (u : Option TypeTerm) → Fits c t v u → has_length u ≡ true
      → has_own_cap u || points_to_array c.types (base_of u) ≡ true
      → BuiltInFits c t (plain builtin.Cap) (v ∷ []) (Some of)
  capacity_fits v (Some (term.Slice elem)) fits h typed =
      let it = slice_in c t v elem fits in
      subst (λ v. BuiltInFits c t (plain builtin.Cap) (v ∷ []) (Some of)) (sym it.1.0)
      (works (plain builtin.Cap) (slice it.0 ∷ []) (Some of) (λ t' g answers store sched is.
      count_is t' store it.0.cap is))
  capacity_fits v (Some (term.Chan way elem)) fits h typed =
      let it = chan_in c t v way elem fits in
      subst (λ v. BuiltInFits c t (plain builtin.Cap) (v ∷ []) (Some of)) (sym it.1.0)
      (works (plain builtin.Cap) (chan_number it.0 ∷ []) (Some of) (λ t' g answers store sched is.
      count_is t' store (size_of (meant sched it.0)) is))
  capacity_fits v (Some (term.Basic basic.Text)) fits h typed = never typed
  capacity_fits v (Some (term.Map key elem)) fits h typed = never typed
  capacity_fits v _ fits h typed = never h

-- what is known has a capacity of its own, or is what points to an array
abbrev cap_known : Code → Option Known → Bool
cap_known c k =
    has_own_cap (typed_operands.term_of c.types (held_type k)) || points_to_array c.types (pointee_of c.types k)

abbrev len_known : Code → Option Known → Bool
len_known c k = cap_known c k || has_own_len (typed_operands.term_of c.types (held_type k))

module _ (t : Typing) (s : Site) (safe : IsSafe s.code) (of : TypeId) where
  cap_fits : (one : Operand) → HasValue t s one → has_length (term_of s.code s.function one) ≡ true
      → fits_value s.code s.function builtin.Cap (one ∷ []) of ≡ true
      → BuiltInReadied t s builtin.Cap (one ∷ []) (Some of)
  cap_fits one has runnable h = by (known s.code s.function one) refl split.1
    where
      split : (same_id of (basic_id basic.Int) ≡ true) × (cap_known s.code (known s.code s.function one) ≡ true)
      split = both (same_id of (basic_id basic.Int)) (cap_known s.code (known s.code s.function one)) h

      by : (k : Option Known) → known s.code s.function one ≡ k → cap_known s.code k ≡ true
          → BuiltInReadied t s builtin.Cap (one ∷ []) (Some of)
      by None e h = never h
      by (Some k) e h =
          let found = has k e in
          let sized = sized_is s.code t safe.held s.function one k e found.it found.fits runnable in
          record {
            it = plain builtin.Cap;
            is = refl;
            items = found.it ∷ [];
            are = one_of s one found.it found.is;
            fits =
                capacity_fits s.code t safe.held of split.0 found.it (under_of s.code sized.of) sized.fits sized.sized
                (subst (λ k. cap_known s.code k ≡ true) (sym e ∙ sized.is) h);
          }

  len_fits : (one : Operand) → HasValue t s one → has_length (term_of s.code s.function one) ≡ true
      → fits_value s.code s.function builtin.Len (one ∷ []) of ≡ true
      → BuiltInReadied t s builtin.Len (one ∷ []) (Some of)
  len_fits one has runnable h = by (known s.code s.function one) refl split.1
    where
      split : (same_id of (basic_id basic.Int) ≡ true) × (len_known s.code (known s.code s.function one) ≡ true)
      split = both (same_id of (basic_id basic.Int)) (len_known s.code (known s.code s.function one)) h

      by : (k : Option Known) → known s.code s.function one ≡ k → len_known s.code k ≡ true
          → BuiltInReadied t s builtin.Len (one ∷ []) (Some of)
      by None e h = never h
      by (Some k) e h =
          let found = has k e in
          let sized = sized_is s.code t safe.held s.function one k e found.it found.fits runnable in
          record {
            it = plain builtin.Len;
            is = refl;
            items = found.it ∷ [];
            are = one_of s one found.it found.is;
            fits =
                length_fits s.code t safe.held of split.0 found.it (under_of s.code sized.of) sized.fits sized.sized;
          }

-- ---- copy

module _ (c : Code) (t : Typing) (of : Option TypeId) (gives : (t' : Typing) (n : ℤ) → GivesOf c t' (Some (number n)) of)
    (elem : TypeId) (into : SliceValue) (slices : Slices c t into elem) where
  copy_slice_fits : (from : SliceValue) → Slices c t from elem
      → BuiltInFits c t (plain builtin.Copy) (slice into ∷ slice from ∷ []) of
  copy_slice_fits from slices' =
      works (plain builtin.Copy) (slice into ∷ slice from ∷ []) of (λ t' g answers store sched is.
      done c t' of (Some (number (pos (copy_count into from)))) (copied store into from) []
      (copies c t' elem store is into from (slices_grow c t t' g into elem slices) (slices_grow c t t' g from elem slices'))
      (gives t' (pos (copy_count into from))))

  copy_text_fits : (bytes : List ℕ) → is_some (kind_of_term (under_of c elem)) ≡ true
      → BuiltInFits c t (plain builtin.Copy) (slice into ∷ text bytes ∷ []) of
  copy_text_fits bytes kind =
      works (plain builtin.Copy) (slice into ∷ text bytes ∷ []) of (λ t' g answers store sched is.
      done c t' of (Some (number (pos (min into.len (length bytes)))))
      (overwritten_from store into (take into.len (map number (numbers_of bytes)))) []
      (overwrites_front c t' elem store is into (slices_grow c t t' g into elem slices) into.len
      (map number (numbers_of bytes)) (numbers_fit c t' elem kind (numbers_of bytes)))
      (gives t' (pos (min into.len (length bytes)))))

module _ (t : Typing) (s : Site) (of : Option TypeId) (gives : (t' : Typing) (n : ℤ) → GivesOf s.code t' (Some (number n)) of)
  where
    copy_fits : (one from : Operand) → HasValue t s one → HasValue t s from
        → copies_from s.code s.function (shape s.code s.function one) from ≡ true
        → BuiltInReadied t s builtin.Copy (one ∷ from ∷ []) of
    copy_fits one from has has' h = by (shape s.code s.function one) refl h
      where
        readied : (v w : Val) → value s one ≡ Some v → value s from ≡ Some w
            → BuiltInFits s.code t (plain builtin.Copy) (v ∷ w ∷ []) of → BuiltInReadied t s builtin.Copy (one ∷ from ∷ []) of
        readied v w e e' fits =
            record { it = plain builtin.Copy; is = refl; items = v ∷ w ∷ []; are = two_of s one from v w e e'; fits = fits }

        by_source : (elem : TypeId) (v : Val) → value s one ≡ Some v → (into : SliceValue) → v ≡ slice into
            → Slices s.code t into elem → (u : Option TypeTerm) → shape s.code s.function from ≡ u
            → is_run_of s.code.types u elem ≡ true → BuiltInReadied t s builtin.Copy (one ∷ from ∷ []) of
        by_source elem v e into is slices (Some (term.Slice other)) e' h =
            let found = shape_value t s from has' (term.Slice other) e' in
            let it = slice_in s.code t found.0 other found.1.1 in
            readied v found.0 e found.1.0
            (subst (λ v. BuiltInFits s.code t (plain builtin.Copy) (v ∷ found.0 ∷ []) of) (sym is)
            (subst (λ w. BuiltInFits s.code t (plain builtin.Copy) (slice into ∷ w ∷ []) of) (sym it.1.0)
            (copy_slice_fits s.code t of gives elem into slices it.0
            (subst (Slices s.code t it.0) (same_is other elem h) it.1.1))))
        by_source elem v e into is slices (Some (term.Basic basic.Text)) e' h =
            let found = shape_value t s from has' (term.Basic basic.Text) e' in
            let it = text_in s.code t found.0 found.1.1 in
            readied v found.0 e found.1.0
            (subst (λ v. BuiltInFits s.code t (plain builtin.Copy) (v ∷ found.0 ∷ []) of) (sym is)
            (subst (λ w. BuiltInFits s.code t (plain builtin.Copy) (slice into ∷ w ∷ []) of) (sym it.1)
            (copy_text_fits s.code t of gives elem into slices it.0
            (ap (λ u. is_some (kind_of_term u)) (byte_term (under_of s.code elem) h)))))
        by_source elem v e into is slices _ e' h = never h

        by : (u : Option TypeTerm) → shape s.code s.function one ≡ u → copies_from s.code s.function u from ≡ true
            → BuiltInReadied t s builtin.Copy (one ∷ from ∷ []) of
        by (Some (term.Slice elem)) e h =
            let found = shape_value t s one has (term.Slice elem) e in
            let it = slice_in s.code t found.0 elem found.1.1 in
            by_source elem found.0 found.1.0 it.0 it.1.0 it.1.1 (shape s.code s.function from) refl h
        by _ e h = never h

-- ---- the least and the greatest

module _ (c : Code) (t : Typing) (of : TypeId) where
  either_fits : (b : Bool) (v w : Val) → IsOf c t v of → IsOf c t w of → IsOf c t (if b then v else w) of
  either_fits true v w fits fits' = fits
  either_fits false v w fits fits' = fits'

  least_fits : (best : Val) (items : List Val) → IsOf c t best of → AllOf c t items of → IsOf c t (least_of best items) of
  least_fits best [] fits all = fits
  least_fits best (it ∷ items) fits all =
      least_fits (if is_less it best then it else best) items
      (either_fits (is_less it best) it best (all 0 it refl) fits) (λ n. all (suc n))

  greatest_fits : (best : Val) (items : List Val) → IsOf c t best of → AllOf c t items of → IsOf c t (greatest_of best items) of
  greatest_fits best [] fits all = fits
  greatest_fits best (it ∷ items) fits all =
      greatest_fits (if is_less best it then it else best) items
      (either_fits (is_less best it) it best (all 0 it refl) fits) (λ n. all (suc n))

module _ (t : Typing) (s : Site) (safe : IsSafe s.code) (of : TypeId) where
  extreme_fits : (called : Builtin) (best : Val → List Val → Val) (one : Operand) (rest : List Operand)
      → ((it : Operand) → Among it (one ∷ rest) → HasValue t s it)
      → is_ordered s.code.types of && list_all (λ item. is_operand s.code s.function item of) (one ∷ rest) ≡ true
      → built_in_of s.code s.function called (one ∷ rest) ≡ Some (plain called)
      → ((answers : Answers) (store : Stored) (sched : State) (first : Val) (items : List Val)
      → built_in_call answers store sched (plain called) (first ∷ items)
      ≡ to (record { value = Some (best first items); store = store; written = [] }))
      → ((t' : Typing) (first : Val) (items : List Val) → IsOf s.code t' first of → AllOf s.code t' items of
      → IsOf s.code t' (best first items) of)
      → BuiltInReadied t s called (one ∷ rest) (Some of)
  extreme_fits called best one rest has h is does best_fits =
      let each = (both (is_ordered s.code.types of)
      (list_all (λ item. is_operand s.code s.function item of) (one ∷ rest)) h).1 in
      let split = both (is_operand s.code s.function one of)
      (list_all (λ item. is_operand s.code s.function item of) rest) each in
      let first = operand_value t s safe.held one (has one (inl refl)) of split.0 in
      let others = all_are t s safe.held rest of (λ it among. has it (inr among))
      (each_among (λ item. is_operand s.code s.function item of) rest split.1) in
      record {
        it = plain called;
        is = is;
        items = first.0 ∷ others.0;
        are = more_of s one rest first.0 others.0 first.1.0 others.1.0;
        fits =
            works (plain called) (first.0 ∷ others.0) (Some of) (λ t' g answers store sched is.
            subst (DoneComes s.code t' (Some of)) (sym (does answers store sched first.0 others.0))
            (done s.code t' (Some of) (Some (best first.0 others.0)) store [] is
            (best_fits t' first.0 others.0 (fits_grow s.code t t' g first.0 (under_of s.code of) first.1.1)
            (all_grow s.code t t' g others.0 of others.1.1))));
      }

-- ---- append

-- an operand of a slice type is held
module _ (c : Code) (held : IsHeld c.types) (f : Function) (it : Operand) (of elem : TypeId)
    (is_term : under_of c of ≡ Some (term.Slice elem)) where
  no_slice : (u : TypeTerm) → under_of c of ≡ Some u → is_slice (Some u) ≡ false → ⊥
  no_slice u is none = true≢false (ap is_slice (sym is_term ∙ is) ∙ none)

  no_function : (u : Option TypeTerm) → term_at c.types of ≡ u → (g : Option Function) → is_function_type u g ≡ true → ⊥
  no_function (Some (term.Func signature)) e (Some g) h =
      no_slice (term.Func signature) (under_plain c.types held of (term.Func signature) e refl) refl
  no_function _ e _ h = true≢false (sym h)

  slice_held : (k : Option Known) → known c f it ≡ k → is_known c k of ≡ true → known c f it ≡ Some (known_as.Held of)
  slice_held (Some (known_as.Held id)) e h = e ∙ ap (λ id. Some (known_as.Held id)) (same_is id of h)
  slice_held (Some (known_as.Function id)) e h =
      absurd (no_function (term_at c.types of) refl (function_at c id) h)
  slice_held (Some (known_as.Address base)) e h =
      absurd (no_slice (term.Pointer base) (under_plain c.types held of (term.Pointer base)
      (pointer_term (term_at c.types of) base h) refl) refl)
  slice_held None e h = never h

-- what is appended works
module _ (c : Code) (t : Typing) (of elem : TypeId) (is_term : under_of c of ≡ Some (term.Slice elem)) (leaves : ℕ)
    (it : SliceValue) (slices : Slices c t it elem) where
  items_append : (items : List Val) → AllOf c t items elem
      → BuiltInFits c t (appends_items leaves) (slice it ∷ items) (Some of)
  items_append items all =
      works (appends_items leaves) (slice it ∷ items) (Some of) (λ t' g answers store sched is.
      append_comes c t' store is of elem is_term leaves it (slices_grow c t t' g it elem slices) items
      (all_grow c t t' g items elem all))

  slice_appends : (more : SliceValue) → Slices c t more elem
      → BuiltInFits c t (appends_slice leaves) (slice it ∷ slice more ∷ []) (Some of)
  slice_appends more slices' =
      works (appends_slice leaves) (slice it ∷ slice more ∷ []) (Some of) (λ t' g answers store sched is.
      let found = elements_are c t' store is more elem (slices_grow c t t' g more elem slices') in
      subst (λ found. DoneComes c t' (Some of) (where_some (append leaves store it) found)) (sym found.1.0)
      (append_comes c t' store is of elem is_term leaves it (slices_grow c t t' g it elem slices) found.0 found.1.1.1))

  text_appends : (bytes : List ℕ) → is_some (kind_of_term (under_of c elem)) ≡ true
      → BuiltInFits c t (appends_text leaves) (slice it ∷ text bytes ∷ []) (Some of)
  text_appends bytes kind =
      works (appends_text leaves) (slice it ∷ text bytes ∷ []) (Some of) (λ t' g answers store sched is.
      append_comes c t' store is of elem is_term leaves it (slices_grow c t t' g it elem slices)
      (map number (numbers_of bytes)) (numbers_fit c t' elem kind (numbers_of bytes)))

  -- by the type that the machine has for the second operand
  one_appends : (u : Option TypeTerm) (v : Val) → Fits c t v u → IsOf c t v elem
      → BuiltInFits c t (append_of c elem leaves u) (slice it ∷ v ∷ []) (Some of)
  one_appends (Some (term.Slice other)) v fits is_of = by (same_id elem other) refl
    where
      by : (b : Bool) → same_id elem other ≡ b
          → BuiltInFits c t (if b then appends_slice leaves else appends_items leaves) (slice it ∷ v ∷ []) (Some of)
      by true e =
          let more = slice_in c t v other fits in
          subst (λ v. BuiltInFits c t (appends_slice leaves) (slice it ∷ v ∷ []) (Some of)) (sym more.1.0)
          (slice_appends more.0 (subst (Slices c t more.0) (sym (same_is elem other e)) more.1.1))
      by false e = items_append (v ∷ []) (all_more c t elem v [] is_of (λ n w h. absurd (none-some w h)))
  one_appends (Some (term.Basic basic.Text)) v fits is_of = by (are_bytes c.types (Some elem)) refl
    where
      by : (b : Bool) → are_bytes c.types (Some elem) ≡ b
          → BuiltInFits c t (if b then appends_text leaves else appends_items leaves) (slice it ∷ v ∷ []) (Some of)
      by true e =
          let bytes = text_in c t v fits in
          subst (λ v. BuiltInFits c t (appends_text leaves) (slice it ∷ v ∷ []) (Some of)) (sym bytes.1)
          (text_appends bytes.0 (ap (λ u. is_some (kind_of_term u)) (machine_byte (under_of c elem) e)))
      by false e = items_append (v ∷ []) (all_more c t elem v [] is_of (λ n w h. absurd (none-some w h)))
  one_appends _ v fits is_of =
      items_append (v ∷ []) (all_more c t elem v [] is_of (λ n w h. absurd (none-some w h)))

  -- one more slice of the elements, or a string to bytes
  run_appends : (u : Option TypeTerm) (v : Val) → Fits c t v u → is_run_of c.types u elem ≡ true
      → BuiltInFits c t (append_of c elem leaves u) (slice it ∷ v ∷ []) (Some of)
  run_appends (Some (term.Slice other)) v fits h =
      let more = slice_in c t v other fits in
      let same = same_is other elem h in
      subst (λ b. BuiltInFits c t (if b then appends_slice leaves else appends_items leaves) (slice it ∷ v ∷ []) (Some of))
      (sym ((same_id-Decides elem other).1 (sym same)))
      (subst (λ v. BuiltInFits c t (appends_slice leaves) (slice it ∷ v ∷ []) (Some of)) (sym more.1.0)
      (slice_appends more.0 (subst (Slices c t more.0) same more.1.1)))
  run_appends (Some (term.Basic basic.Text)) v fits h =
      let bytes = text_in c t v fits in
      let is_byte = byte_term (under_of c elem) h in
      subst (λ b. BuiltInFits c t (if b then appends_text leaves else appends_items leaves) (slice it ∷ v ∷ []) (Some of))
      (sym (ap is_byte_term is_byte))
      (subst (λ v. BuiltInFits c t (appends_text leaves) (slice it ∷ v ∷ []) (Some of)) (sym bytes.1)
      (text_appends bytes.0 (ap (λ u. is_some (kind_of_term u)) is_byte)))
  run_appends _ v fits h = never h

module _ (t : Typing) (s : Site) (safe : IsSafe s.code) (of elem : TypeId)
    (is_term : under_of s.code of ≡ Some (term.Slice elem)) (first : Operand) (has : HasValue t s first)
    (typed : is_operand s.code s.function first of ≡ true) where
  found_slice : (v : Val) × ((value s first ≡ Some v) × IsOf s.code t v of)
  found_slice = operand_value t s safe.held first has of typed

  the_slice : (it : SliceValue) × ((found_slice.0 ≡ slice it) × Slices s.code t it elem)
  the_slice = slice_in s.code t found_slice.0 elem (subst (Fits s.code t found_slice.0) is_term found_slice.1.1)

  -- the machine has the type of the elements
  is_elem : element_in (term_of s.code s.function first) ≡ Some elem
  is_elem =
      ap (λ of. element_in (under s.code of))
      (held_type_is s.code s.function first of
      (slice_held s.code safe.held s.function first of elem is_term (known s.code s.function first) refl typed))
      ∙ ap element_in is_term

  append_readied : (others : List Operand) (items : List Val) → values_of s.code s.frame others ≡ Some items
      → BuiltInFits s.code t (append_to s.code s.function elem (first ∷ others)) (slice the_slice.0 ∷ items) (Some of)
      → BuiltInReadied t s builtin.Append (first ∷ others) (Some of)
  append_readied others items are fits =
      record {
        it = append_to s.code s.function elem (first ∷ others);
        is = ap (option_map (λ elem. append_to s.code s.function elem (first ∷ others))) is_elem;
        items = found_slice.0 ∷ items;
        are = more_of s first others found_slice.0 items found_slice.1.0 are;
        fits =
            subst (λ v. BuiltInFits s.code t (append_to s.code s.function elem (first ∷ others)) (v ∷ items) (Some of))
            (sym the_slice.1.0) fits;
      }

  -- a second operand of the machine's type
  machine_term : (one : Operand) (v : Val) (k : Known) → known s.code s.function one ≡ Some k → KnownFits s.code t k v
      → IsOf s.code t v elem
      → BuiltInFits s.code t (append_of s.code elem (leaves_of s.code.types elem) (term_of s.code s.function one))
      (slice the_slice.0 ∷ v ∷ []) (Some of)
  machine_term one v k e fits is_of = by (type_of s.code s.function one) refl
    where
      by : (found : Option TypeId) → type_of s.code s.function one ≡ found
          → BuiltInFits s.code t (append_of s.code elem (leaves_of s.code.types elem) (under s.code found))
          (slice the_slice.0 ∷ v ∷ []) (Some of)
      by None is =
          items_append s.code t of elem is_term (leaves_of s.code.types elem) the_slice.0 the_slice.1.1 (v ∷ [])
          (all_more s.code t elem v [] is_of (λ n w h. absurd (none-some w h)))
      by (Some other) is =
          one_appends s.code t of elem is_term (leaves_of s.code.types elem) the_slice.0 the_slice.1.1
          (under_of s.code other) v (type_fits s.code t safe.held s.function one k other v e is fits) is_of

  append_one : (one : Operand) → HasValue t s one
      → is_run_of s.code.types (shape s.code s.function one) elem || is_operand s.code s.function one elem ≡ true
      → BuiltInReadied t s builtin.Append (first ∷ one ∷ []) (Some of)
  append_one one has' h =
      at (either (is_run_of s.code.types (shape s.code s.function one) elem) (is_operand s.code s.function one elem) h)
    where
      by_shape : (u : Option TypeTerm) → shape s.code s.function one ≡ u → is_run_of s.code.types u elem ≡ true
          → BuiltInReadied t s builtin.Append (first ∷ one ∷ []) (Some of)
      by_shape None e run = never run
      by_shape (Some u) e run =
          let found = shape_value t s one has' u e in
          append_readied (one ∷ []) (found.0 ∷ []) (one_of s one found.0 found.1.0)
          (subst (λ u. BuiltInFits s.code t (append_of s.code elem (leaves_of s.code.types elem) u)
          (slice the_slice.0 ∷ found.0 ∷ []) (Some of)) (sym (shape_term s.code s.function one u e))
          (run_appends s.code t of elem is_term (leaves_of s.code.types elem) the_slice.0 the_slice.1.1 (Some u) found.0
          found.1.1 run))

      at : (is_run_of s.code.types (shape s.code s.function one) elem ≡ true) ⊎ (is_operand s.code s.function one elem ≡ true)
          → BuiltInReadied t s builtin.Append (first ∷ one ∷ []) (Some of)
      at (inl run) = by_shape (shape s.code s.function one) refl run
      at (inr item) =
          let found = operand_value t s safe.held one has' elem item in
          let k = known_of s.code s.function one elem item in
          let what = has' k.0 k.1.0 in
          let same : what.it ≡ found.0 = lists.some_same what.it found.0 (sym what.is ∙ found.1.0) in
          append_readied (one ∷ []) (found.0 ∷ []) (one_of s one found.0 found.1.0)
          (machine_term one found.0 k.0 k.1.0 (subst (KnownFits s.code t k.0) same what.fits) found.1.1)

  append_fits : (others : List Operand) → ((it : Operand) → Among it others → HasValue t s it)
      → appends_elems s.code s.function elem others ≡ true → BuiltInReadied t s builtin.Append (first ∷ others) (Some of)
  append_fits [] has' h =
      append_readied [] [] refl
      (items_append s.code t of elem is_term (leaves_of s.code.types elem) the_slice.0 the_slice.1.1 []
      (λ n w h. absurd (none-some w h)))
  append_fits (one ∷ []) has' h = append_one one (has' one (inl refl)) h
  append_fits (one ∷ two ∷ rest) has' h =
      let all = all_are t s safe.held (one ∷ two ∷ rest) elem has'
      (each_among (λ item. is_operand s.code s.function item elem) (one ∷ two ∷ rest) h) in
      append_readied (one ∷ two ∷ rest) all.0 all.1.0
      (items_append s.code t of elem is_term (leaves_of s.code.types elem) the_slice.0 the_slice.1.1 all.0 all.1.1)

-- ---- all

module _ (t : Typing) (s : Site) (safe : IsSafe s.code) where
  no_result : (t' : Typing) (n : ℤ) → GivesOf s.code t' (Some (number n)) None
  no_result t' n = tt

  value_fits : (called : Builtin) (arguments : List Operand) → ((it : Operand) → Among it arguments → HasValue t s it)
      → runs_builtin s.code s.function called arguments ≡ true → (of : TypeId)
      → fits_value s.code s.function called arguments of ≡ true → BuiltInReadied t s called arguments (Some of)
  value_fits builtin.Append (first ∷ items) has runnable of h =
      let split = both (is_operand s.code s.function first of)
      (appends s.code s.function (underlying_term_of s.code.types of) items) h in
      by_term (under_of s.code of) refl split.0 split.1
    where
      by_term : (u : Option TypeTerm) → under_of s.code of ≡ u → is_operand s.code s.function first of ≡ true
          → appends s.code s.function u items ≡ true → BuiltInReadied t s builtin.Append (first ∷ items) (Some of)
      by_term (Some (term.Slice elem)) e typed h =
          append_fits t s safe of elem e first (has first (inl refl)) typed items (λ it among. has it (inr among)) h
      by_term _ e typed h = never h
  value_fits builtin.Cap (one ∷ []) has runnable of h = cap_fits t s safe of one (has one (inl refl)) runnable h
  value_fits builtin.Len (one ∷ []) has runnable of h = len_fits t s safe of one (has one (inl refl)) runnable h
  value_fits builtin.Copy (one ∷ from ∷ []) has runnable of h =
      let split = both (same_id of (basic_id basic.Int))
      (copies_from s.code s.function (shape s.code s.function one) from) h in
      copy_fits t s (Some of) (λ t' n. int_fits s.code t' safe.held of split.0 n) one from (has one (inl refl))
      (has from (inr (inl refl))) split.1
  value_fits builtin.Max (one ∷ rest) has runnable of h =
      extreme_fits t s safe of builtin.Max greatest_of one rest has h refl (λ answers store sched first items. refl)
      (λ t' first items. greatest_fits s.code t' of first items)
  value_fits builtin.Min (one ∷ rest) has runnable of h =
      extreme_fits t s safe of builtin.Min least_of one rest has h refl (λ answers store sched first items. refl)
      (λ t' first items. least_fits s.code t' of first items)
  value_fits builtin.Recover [] has runnable of h =
      record {
        it = plain builtin.Recover;
        is = refl;
        items = [];
        are = refl;
        fits =
            recovers [] (Some of) (λ id same.
            subst (λ id. under_of s.code id ≡ Some (term.Interface [])) (lists.some_same of id same)
            (under_plain s.code.types safe.held of (term.Interface []) (any_term (term_at s.code.types of) h) refl));
      }
  value_fits _ arguments has runnable of h = never h

pub built_in_fits : (t : Typing) (s : Site) → IsSafe s.code → (called : Builtin) (arguments : List Operand)
    → ((it : Operand) → Among it arguments → HasValue t s it) → runs_builtin s.code s.function called arguments ≡ true
    → (of : Option TypeId) → fits_builtin s.code s.function called arguments of ≡ true
    → BuiltInReadied t s called arguments of
built_in_fits t s safe called arguments has runnable None typed = effect_fits t s safe called arguments has runnable typed
built_in_fits t s safe called arguments has runnable (Some of) typed =
    value_fits t s safe called arguments has runnable of typed

-- one whose result is let go
pub deferred_fits : (t : Typing) (s : Site) → IsSafe s.code → (called : Builtin) (arguments : List Operand)
    → ((it : Operand) → Among it arguments → HasValue t s it) → runs_builtin s.code s.function called arguments ≡ true
    → fits_deferred_builtin s.code s.function called arguments ≡ true → BuiltInReadied t s called arguments None
deferred_fits t s safe builtin.Panic (item ∷ []) has runnable typed =
    let found = any_value t s safe.held item (has item (inl refl)) typed in
    record {
      it = plain builtin.Panic;
      is = refl;
      items = found.0 ∷ [];
      are = one_of s item found.0 found.1.0;
      fits = panics found.0 found.1.1;
    }
deferred_fits t s safe builtin.Copy (one ∷ from ∷ []) has runnable typed =
    copy_fits t s None (no_result t s safe) one from (has one (inl refl)) (has from (inr (inl refl))) typed
deferred_fits t s safe builtin.Recover [] has runnable typed =
    record {
      it = plain builtin.Recover;
      is = refl;
      items = [];
      are = refl;
      fits = recovers [] None (λ id same. absurd (none-some id same));
    }
deferred_fits t s safe called arguments has runnable typed = effect_fits t s safe called arguments has runnable typed
