-- Conversions, interfaces and closures.
use Rattle.std.proofs.Common.{◌≡◌, ◌⊎◌, inl, inr, ◌&&◌, ◌||◌, ◌==◌, not, ℕ, ℤ, zero, suc, Bool, true, false, List, [], ◌∷◌, ◌++◌, Option, Some, None, Ok, Err, refl, sym, subst, subst₂, ap, ◌∙◌, slice_get, is_some, length, map, replicate, nat_lt, nat_le, if◌then◌else◌, arith}
use Rattle.std.proofs.lemmas.Option.{none-some, get_or_from_slice_get}
use Rattle.std.specs.Cmp.{unsigned_Decides}
use Rattle.std.specs.Cmp.Lexicographic.{pointwise}
use Rattle.std.specs.List.{All, AllZip, list_all, flat_map}
use Rattle.std.specs.Option.{option_map, option_and_then, option_map_or}
use Rattle.code_safety.proofs.Forms.{number_in, number_fits, text_in, slice_in, pointer_in, interface_in, IsInterfaceValue, is_nil, is_dynamic}
use Rattle.code_safety.proofs.Growing.{grows_self}
use Rattle.code_safety.proofs.Lists as lists
use Rattle.code_safety.proofs.Machines.{ValueComes, StoresCome}
use Rattle.code_safety.proofs.Operands.{held_is, held_type_is, held_value, type_fits, values_are}
use Rattle.code_safety.proofs.Sames.{fits_alike, is_of_alike, under_plain, under_twice, same_alike, changed_alike}
use Rattle.code_safety.proofs.Shapes.{Like, Alike, alike_under, alike_from}
use Rattle.code_safety.proofs.Sites.{Reads, KnownFits}
use Rattle.code_safety.proofs.Stores.{with_home, home_grows, makes, new_slices, array_fits, elements_are}
use Rattle.code_safety.proofs.Terms.{never, either, same_is, same_list, alike_lists, alike_all, no_items, one_item, each_passes, there, text_term, interface_term, any_term, character_kind, characters_term, ok_fits}
use Rattle.code_safety.proofs.Values.{Typing, Home, many, Fits, IsOf, AreOf, Points, PointsAs, IsStore, HasMethod, HasAll, HasSignature, BoxFits, BinderFits, under_of}
use Rattle.code_safety.proofs.Zeros.{zero_fits}
use Rattle.code_safety.specs.Safety.{IsSafe}
use Rattle.ssa_runnable.specs.Runnable.{IsBoxed, by_instr, has_method, is_method, captures}
use Rattle.go_base.specs.declared.ids.FuncId.{FuncId}
use Rattle.go_base.specs.declared.ids.TypeId.{TypeId}
use Rattle.go_store.specs.Arrays.{array_of}
use Rattle.go_store.specs.Conversions.{most_bytes, numbers_of}
use Rattle.go_store.specs.Slices.{most_leaves, slice_of_new}
use Rattle.go_store.specs.Stores.{Stored, made}
use Rattle.go_type.specs.Assignable.{Implements, HasMethodsOf, HasMethodOf, underlying_term_of}
use Rattle.go_type.proofs.IdenticalTypes.{identical_is}
use Rattle.go_type.specs.Held.{IsHeld}
use Rattle.go_type.specs.Kinds.{kind_of, kind_of_term}
use Rattle.go_type.specs.Same.{both, same_id, same_ids}
use Rattle.go_type.specs.Selector.{is_pointer, is_interface, Place, Finds, is_wanted, signature_named, method_named, members_named, members_below, embedded_of, base_by}
use Rattle.go_type.specs.Table.{Table, term_at, definition_at, underlying_of, id_of}
use Rattle.go_type.specs.declared.kinds.IntKind.{IntKind}
use Rattle.go_type.specs.declared.members.Member.{Member}
use Rattle.go_type.specs.declared.members.Wanted.{Wanted}
use Rattle.go_type.specs.declared.methods.SelectionKind.TheVariants as selected
use Rattle.go_type.specs.declared.term.MethodType.{MethodType}
use Rattle.go_type.specs.declared.term.Signature.{Signature}
use Rattle.go_type.specs.declared.term.TypeTerm.{TypeTerm}
use Rattle.go_type.specs.declared.term.TypeTerm.TheVariants as term
use Rattle.go_value.specs.Depths.{depth}
use Rattle.go_value.specs.Ints.{wrapped}
use Rattle.go_value.specs.Interfaces.{is_interface_type, converted, not_too_deep, bound_to}
use Rattle.go_value.specs.Runes.{rune_bytes}
use Rattle.go_value.specs.Values.{Val, number, text, slice, pointer, closure, bound, dynamic}
use Rattle.go_value.specs.declared.address.Pointer.{Pointer}
use Rattle.go_value.specs.declared.faults.Fault.TheVariants as fault
use Rattle.go_value.specs.declared.values.BoundTarget.TheVariants as target
use Rattle.ssa_ir.specs.declared.code.Code.{Code}
use Rattle.ssa_ir.specs.declared.code.CodeVariable.{CodeVariable}
use Rattle.ssa_ir.specs.declared.code.Function.{Function}
use Rattle.ssa_ir.specs.declared.code.FunctionKind.{FunctionKind}
use Rattle.ssa_ir.specs.declared.code.FunctionKind.TheVariants as kind
use Rattle.ssa_ir.specs.declared.operands.Operand.{Operand}
use Rattle.ssa_ir.specs.declared.operands.Operand.TheVariants as operand
use Rattle.ssa_ir.specs.declared.ops.Op.TheVariants as op
use Rattle.ssa_mean.specs.Answers.{Answers, AreAnswers}
use Rattle.ssa_mean.specs.Calls.{method_of}
use Rattle.ssa_mean.specs.Comes.{to, faults, of_result, then_to, where_some}
use Rattle.ssa_mean.specs.Conversions.{kept, conversion, converted_int, slice_of_ints, slice_of_text, text_of_items, spelling, are_bytes}
use Rattle.ssa_mean.specs.Making.{held_as, assertion, pointers_of, is_nil_of, bound_method, binds_interface, closed_over}
use Rattle.ssa_mean.specs.Operands.{values_of, type_of, term_of, under_in, element_in, function_at}
use Rattle.ssa_mean.specs.Runes.{runes_of}
use Rattle.ssa_mean.specs.Zeros.{zero_of}
use Rattle.ssa_mean.specs.Step.{Site, with_one, convert, make_interface, make_closure, assert_type}
use Rattle.ssa_typed.specs.Conversions.{converts, converts_type, changes, changes_pointer, same_below}
use Rattle.ssa_typed.specs.Forms.{FitsGiving, fits_giving, Boxes, ImplementsWhere, Widens, Asserts, gives, closes}
use Rattle.ssa_typed.specs.Operands.{known, held_type, is_function_type, is_operand, is_signature, has_constant, address_of, is_value}
use Rattle.ssa_typed.specs.Operands.{type_of as typed_type, value_of as known_function}
use Rattle.ssa_typed.specs.declared.known.Known.{Known}
use Rattle.ssa_typed.specs.declared.known.Known.TheVariants as known_as
use Rattle.type_shapes.specs.Shapes as shapes
use Rattle.type_shapes.specs.Shapes.{is_text, is_any, is_characters, is_state}

-- ---- conversions

kept_fits : (c : Code) (t : Typing) (store : Stored) → IsStore c t store → (of : TypeId) (v : Val) → IsOf c t v of
    → StoresCome c t of (to (kept store v))
kept_fits c t store is of v fits = record { typing = t; grows = grows_self t; chans = refl; is_store = is; is_of = fits }

text_fits : (c : Code) (t : Typing) (bytes : List ℕ) (of : Option TypeTerm) → is_text of ≡ true → Fits c t (text bytes) of
text_fits c t bytes of h = subst (Fits c t (text bytes)) (sym (text_term of h)) tt

-- integers become integers, or strings
int_fits : (c : Code) (t : Typing) (n : ℤ) (of : Option TypeTerm) (kind : Option IntKind) → kind_of_term of ≡ kind
    → is_some kind || is_text of ≡ true → Fits c t (converted_int kind n) of
int_fits c t n of (Some kind) e h = number_fits c t (wrapped kind n) of (ap is_some e)
int_fits c t n of None e h = text_fits c t (rune_bytes n) of h

length_map : {A B : Type 0} (f : A → B) (items : List A) → length (map f items) ≡ length items
length_map f [] = refl
length_map f (it ∷ items) = ap suc (length_map f items)

pub numbers_fit : (c : Code) (t : Typing) (elem : TypeId) → is_some (kind_of_term (under_of c elem)) ≡ true → (ints : List ℤ) (n : ℕ)
    (v : Val) → slice_get (map number ints) n ≡ Some v → IsOf c t v elem
numbers_fit c t elem kind [] n v is = absurd (none-some v is)
numbers_fit c t elem kind (x ∷ ints) zero v is =
    subst (λ v. IsOf c t v elem) (lists.some_same (number x) v is) (number_fits c t x (under_of c elem) kind)
numbers_fit c t elem kind (x ∷ ints) (suc n) v is = numbers_fit c t elem kind ints n v is

module _ (c : Code) (t : Typing) (store : Stored) (is : IsStore c t store) (of : TypeId) where
  ints_come : (elem : TypeId) → under_of c of ≡ Some (term.Slice elem) → is_some (kind_of_term (under_of c elem)) ≡ true
      → (ints : List ℤ) → StoresCome c t of (slice_of_ints store ints)
  ints_come elem is_slice kind ints = by (nat_lt most_leaves (length ints))
    where
      count : ℕ
      count = length ints

      home : Home
      home = many (replicate count elem)

      by : (long : Bool) → StoresCome c t of (then_to (λ it. record { value = slice it; store = made store (array_of (map number ints)) })
          (of_result (if long then Err fault.MakeSliceLen else Ok (slice_of_new store count count))))
      by true = tt
      by false = record {
        typing = with_home home t;
        grows = home_grows t home;
        chans = refl;
        is_store =
            makes c t store is (array_of (map number ints)) home
            (array_fits c t (map number ints) elem count (length_map number ints) (numbers_fit c t elem kind ints));
        is_of =
            subst (Fits c (with_home home t) (slice (slice_of_new store count count))) (sym is_slice)
            (new_slices c t store is elem count count (omega arith));
      }

  -- strings become slices of bytes or of code points
  slices_come : (elem : TypeId) → under_of c of ≡ Some (term.Slice elem) → is_some (kind_of_term (under_of c elem)) ≡ true
      → (bytes : List ℕ) (are : Bool) → StoresCome c t of (slice_of_text store are bytes)
  slices_come elem is_slice kind bytes true = ints_come elem is_slice kind (numbers_of bytes)
  slices_come elem is_slice kind bytes false = ints_come elem is_slice kind (numbers_of (runes_of bytes))

  -- and these become strings
  texts_come : is_text (under_of c of) ≡ true → (are : Bool) (items : List Val)
      → StoresCome c t of (then_to (kept store) (text_of_items are items))
  texts_come h are items = by (nat_lt most_bytes (length bytes))
    where
      bytes : List ℕ
      bytes = flat_map (spelling are) items

      by : (long : Bool)
          → StoresCome c t of (then_to (kept store) (then_to text (of_result (if long then Err fault.TextTooLong else Ok bytes))))
      by true = tt
      by false = kept_fits c t store is of (text bytes) (text_fits c t bytes (under_of c of) h)

  module _ (from : TypeId) (v : Val) (fits : IsOf c t v from) where
    from_int : is_some (kind_of c.types from) ≡ true → is_some (kind_of c.types of) || is_text (under_of c of) ≡ true
        → StoresCome c t of (conversion c.types store (under_of c from) of v)
    from_int kind h =
        let found = number_in c t v (under_of c from) kind fits in
        subst (λ v. StoresCome c t of (conversion c.types store (under_of c from) of v)) (sym found.1)
        (kept_fits c t store is of (converted_int (kind_of c.types of) found.0)
        (int_fits c t found.0 (under_of c of) (kind_of c.types of) refl h))

    from_text : is_text (under_of c from) && is_characters c.types (under_of c of) ≡ true
        → StoresCome c t of (conversion c.types store (under_of c from) of v)
    from_text h =
        let split = both (is_text (under_of c from)) (is_characters c.types (under_of c of)) h in
        let found = text_in c t v (subst (Fits c t v) (text_term (under_of c from) split.0) fits) in
        let is_slice = characters_term c.types (under_of c of) split.1 in
        subst (λ v. StoresCome c t of (conversion c.types store (under_of c from) of v)) (sym found.1)
        (slices_come is_slice.0 is_slice.1.0 (character_kind (under_of c is_slice.0) is_slice.1.1) found.0
        (are_bytes c.types (element_in (under_in c.types (Some of)))))

    to_text : is_text (under_of c of) && is_characters c.types (under_of c from) ≡ true
        → StoresCome c t of (conversion c.types store (under_of c from) of v)
    to_text h =
        let split = both (is_text (under_of c of)) (is_characters c.types (under_of c from)) h in
        let is_slice = characters_term c.types (under_of c from) split.1 in
        let found = slice_in c t v is_slice.0 (subst (Fits c t v) is_slice.1.0 fits) in
        let items = elements_are c t store is found.0 is_slice.0 found.1.1 in
        let are = are_bytes c.types (element_in (under_of c from)) in
        subst (λ v. StoresCome c t of (conversion c.types store (under_of c from) of v)) (sym found.1.0)
        (subst (λ found. StoresCome c t of (then_to (kept store) (where_some (text_of_items are) found))) (sym items.1.0)
        (texts_come split.0 are items.0))

    by_kind : (kind : Bool) → is_some (kind_of c.types from) ≡ kind
        → (if kind then is_some (kind_of c.types of) || is_text (under_of c of)
        else (is_text (under_of c from) && is_characters c.types (under_of c of))
        || (is_text (under_of c of) && is_characters c.types (under_of c from)))
        ≡ true
        → StoresCome c t of (conversion c.types store (under_of c from) of v)
    by_kind true e h = from_int e h
    by_kind false e h =
        elim (either (is_text (under_of c from) && is_characters c.types (under_of c of))
        (is_text (under_of c of) && is_characters c.types (under_of c from)) h)
        as (λ _. StoresCome c t of (conversion c.types store (under_of c from) of v))
        [ inl one ↦ from_text one | inr other ↦ to_text other ]

    converted_comes : converts_type c.types from of ≡ true
        → StoresCome c t of (conversion c.types store (under_of c from) of v)
    converted_comes h = by_kind (is_some (kind_of c.types from)) refl h

pub convert_comes : (t : Typing) (s : Site) (into : TypeId) (it : Operand) → Reads t s (op.Convert into it) → (of : TypeId)
    → FitsGiving s.code s.function (op.Convert into it) of → StoresCome s.code t of (convert s into it)
unfolding FitsGiving fits_giving
convert_comes t s into it reads of typed =
    let split = both (same_id into of) (converts s.code.types (held_type (known s.code s.function it)) of) typed in
    subst (λ into. StoresCome s.code t of (convert s into it)) (sym (same_is into of split.0))
    (by (held_type (known s.code s.function it)) refl split.1)
  where
    by : (held : Option TypeId) → held_type (known s.code s.function it) ≡ held → converts s.code.types held of ≡ true
        → StoresCome s.code t of (convert s of it)
    by None e h = never h
    by (Some from) e h =
        let found = held_value t s it (reads.values it (inl refl)) from e in
        let is_from = held_type_is s.code s.function it from (held_is s.code s.function it from e) in
        subst (λ found. StoresCome s.code t of (where_some (conversion s.code.types s.machine.store (term_of s.code s.function it) of) found))
        (sym found.1.0)
        (subst (λ from. StoresCome s.code t of (conversion s.code.types s.machine.store (under_in s.code.types from) of found.0))
        (sym is_from)
        (converted_comes s.code t s.machine.store reads.store of from found.0 found.1.1 h))

-- ---- function values

signature_has : (c : Code) (f : Function) (signature : Signature) → is_signature signature f ≡ true → HasSignature c f signature
signature_has c f signature h =
    let params = both (same_ids signature.params f.params) _ h in
    let results = both (same_ids signature.results f.results) _ params.1 in
    record {
      params = alike_lists c.types signature.params f.params params.0;
      results =
          subst (λ ids. AllZip (Alike c.types) f.results ids)
          (sym (same_list signature.results f.results results.0)) (alike_all c.types f.results);
    }

-- a function without free variables has a function type
pub function_fits : (c : Code) (t : Typing) (id : FuncId) (f : Function) → function_at c id ≡ Some f → f.free ≡ []
    → (of : Option TypeTerm) → is_function_type of (Some f) ≡ true → Fits c t (closure id []) of
function_fits c t id f is free (Some (term.Func signature)) h =
    record {
      function = f;
      there = is;
      free = subst (λ ids. AllZip (λ at of. PointsAs c t at (under_of c of)) [] ids) (sym free) tt;
      has = signature_has c f signature h;
    }
function_fits c t id f is free _ h = never h

-- ---- changes of type

module _ (types : Table) (held : IsHeld types) where
  below_alike : (a b : TypeId) → same_below types a b ≡ true → Alike types a b
  below_alike a b h =
      alike_from types a b
      (subst₂ (λ (a b : Option TypeTerm). Like (Alike types) a b) (under_twice types held a) (under_twice types held b)
      (alike_under types (underlying_of types a) (underlying_of types b)
      (same_alike types held (underlying_of types a) (underlying_of types b) h)))

module _ (c : Code) (t : Typing) (held : IsHeld c.types) where
  pointer_changed : (at : Pointer) (base : TypeId) → Points c t at base → (of : Option TypeTerm)
      → changes_pointer c.types base of ≡ true → Fits c t (pointer at) of
  pointer_changed at base points (Some (term.Pointer other)) h =
      fits_alike c t (pointer at) (Some (term.Pointer base)) (Some (term.Pointer other)) (below_alike c.types held base other h)
      points
  pointer_changed at base points _ h = never h

  changed_fits : (k : Known) (of : TypeId) (v : Val) → changes c (Some k) of ≡ true → KnownFits c t k v → IsOf c t v of
  changed_fits (known_as.Held from) of v h fits = is_of_alike c t v from of (changed_alike c.types held from of h) fits
  changed_fits (known_as.Function id) of v h fits =
      subst (λ v. IsOf c t v of) (sym fits.0)
      (function_fits c t id fits.1.0 fits.1.1.0 fits.1.1.1 (under_of c of)
      (subst (λ f. is_function_type (under_of c of) f ≡ true) fits.1.1.0 h))
  changed_fits (known_as.Address base) of v h fits =
      subst (λ v. IsOf c t v of) (sym fits.1.0) (pointer_changed fits.0 base fits.1.1 (under_of c of) h)

pub change_type_comes : (t : Typing) (s : Site) (into : TypeId) (it : Operand) → Reads t s (op.ChangeType into it) → (of : TypeId)
    → FitsGiving s.code s.function (op.ChangeType into it) of → ValueComes s.code t of (with_one s it to)
unfolding FitsGiving fits_giving
change_type_comes t s into it reads of typed =
    by (known s.code s.function it) refl (both (same_id into of) (changes s.code (known s.code s.function it) of) typed).1
  where
    by : (k : Option Known) → known s.code s.function it ≡ k → changes s.code k of ≡ true
        → ValueComes s.code t of (with_one s it to)
    by None e h = never h
    by (Some k) e h =
        let found = reads.values it (inl refl) k e in
        subst (λ found. ValueComes s.code t of (where_some to found)) (sym found.is)
        (changed_fits s.code t reads.safe.held k of found.it h found.fits)

-- ---- methods of what interfaces hold

module _ (c : Code) (held : IsHeld c.types) (of : TypeId) where
  method_has : (method : MethodType) → has_method c of method ≡ true → HasMethod c of method
  method_has method h = found (method_of c of method.name method.«package») refl h
    where
      typed : (id : FuncId) → method_of c of method.name method.«package» ≡ Some id → (u : Option TypeTerm)
          → term_at c.types method.of ≡ u → (f : Option Function) → function_at c id ≡ f → is_method of u f ≡ true
          → HasMethod c of method
      typed id e (Some (term.Func signature)) is_term (Some f) is_function h =
          let free = both (length f.free == 0) _ h in
          let params = both (same_ids f.params (of ∷ signature.params)) _ free.1 in
          record {
            id = id;
            found = e;
            function = f;
            there = is_function;
            free = no_items f.free ((unsigned_Decides (length f.free) 0).0 free.0);
            params = signature.params;
            takes = same_list f.params (of ∷ signature.params) params.0;
            signature = signature;
            is_signature = under_plain c.types held method.of (term.Func signature) is_term refl;
            each = alike_all c.types signature.params;
            results = alike_lists c.types f.results signature.results params.1;
          }
      typed id e _ is_term _ is_function h = never h

      found : (id : Option FuncId) → method_of c of method.name method.«package» ≡ id
          → option_map_or (λ id. is_method of (term_at c.types method.of) (function_at c id)) id false ≡ true
          → HasMethod c of method
      found None e h = never h
      found (Some id) e h = typed id e (term_at c.types method.of) refl (function_at c id) refl h

  methods_have : (methods : List MethodType) → list_all (has_method c of) methods ≡ true → HasAll c of methods
  methods_have methods h n method is = method_has method (each_passes (has_method c of) methods h n method is)

-- what implements an interface, of which it has the methods then
pub implements_term : (types : Table) (from : TypeId) (of : Option TypeTerm) → HasMethodsOf types from of
    → (methods : List MethodType) × (of ≡ Some (term.Interface methods))
implements_term types from (Some (term.Interface methods)) h = (methods, refl)
implements_term types from _ h = absurd h

-- a boxed type has the methods of each interface that it implements
pub boxed_fits : (c : Code) (t : Typing) → IsSafe c → (from of : TypeId) (v : Val) → IsBoxed c from → Implements c.types from of
    → IsOf c t v from → IsOf c t (dynamic from v) of
boxed_fits c t safe from of v boxed implements fits =
    let is = implements_term c.types from (under_of c of) implements in (
      subst (BoxFits c from) (sym is.1)
          (boxed, methods_have c safe.held from is.0 (safe.runnable.methods from of is.0 boxed implements is.1)),
      fits,
    )

-- ---- values put into interfaces

address_in : Option Known → Option TypeId
address_in (Some (known_as.Address base)) = Some base
address_in _ = None

-- addresses are those of package variables
address_type : (c : Code) (f : Function) (it : Operand) (base : TypeId) → known c f it ≡ Some (known_as.Address base)
    → type_of c f it ≡ id_of (term.Pointer base) c.types
unfolding address_in
address_type c f it base h = by it (ap address_in h)
  where
    no_type : (of : Option TypeId) → address_in (typed_type of) ≡ None
    no_type None = refl
    no_type (Some of) = refl

    no_function : (id : FuncId) (f : Option Function) → address_in (known_function id f) ≡ None
    no_function id None = refl
    no_function id (Some f) = by (is_value f.kind f.free)
      where
        by : (b : Bool) → address_in (if b then Some (known_as.Function id) else None) ≡ None
        by true = refl
        by false = refl

    no_constant : (of : TypeId) (b : Bool) → address_in (if b then Some (known_as.Held of) else None) ≡ None
    no_constant of true = refl
    no_constant of false = refl

    of_variable : (found : Option CodeVariable) → address_in (address_of found) ≡ Some base
        → option_and_then (λ base. id_of (term.Pointer base) c.types) (option_map (λ it. it.of) found)
        ≡ id_of (term.Pointer base) c.types
    of_variable None h = absurd (none-some base h)
    of_variable (Some it) h = ap (λ base. id_of (term.Pointer base) c.types) (lists.some_same it.of base h)

    by : (it : Operand) → address_in (known c f it) ≡ Some base → type_of c f it ≡ id_of (term.Pointer base) c.types
    by (operand.Param n) h = absurd (none-some base (sym (no_type (slice_get f.params n)) ∙ h))
    by (operand.Free n) h = absurd (none-some base (sym (no_type (slice_get f.free n)) ∙ h))
    by (operand.Register n) h = absurd (none-some base (sym (no_type (slice_get f.registers n)) ∙ h))
    by (operand.Function id) h = absurd (none-some base (sym (no_function id (function_at c id)) ∙ h))
    by (operand.Variable variable) h = of_variable (slice_get c.variables variable.number) h
    by (operand.Constant it of) h = absurd (none-some base (sym (no_constant of (has_constant c.types it of)) ∙ h))

no_interface : (of : Option TypeTerm) → not (shapes.is_interface of) ≡ true → is_interface of ≡ false
no_interface (Some (term.Interface methods)) h = never h
no_interface _ h = refl

closure_is_none : (c : Code) (t : Typing) (id : FuncId) (of : Option TypeTerm) → Fits c t (closure id []) of → is_interface of ≡ false
closure_is_none c t id (Some (term.Interface methods)) h = absurd h
closure_is_none c t id _ h = refl

pointer_is_none : (c : Code) (t : Typing) (at : Pointer) (of : Option TypeTerm) → Fits c t (pointer at) of → is_interface of ≡ false
pointer_is_none c t at (Some (term.Interface methods)) h = absurd h
pointer_is_none c t at _ h = refl

module _ (c : Code) (t : Typing) (held : IsHeld c.types) (f : Function) (it : Operand) (of from : TypeId) (v : Val)
    (is : type_of c f it ≡ Some from) (fits : IsOf c t v from) where
  -- what is put into an interface is none, and implements it, which may have no methods
  boxes : (k : Known) → known c f it ≡ Some k → KnownFits c t k v → Boxes c.types (Some k) of
      → (is_interface_type c.types from ≡ false) × (Implements c.types from of ⊎ (is_any (under_of c of) ≡ true))
  boxes (known_as.Held given) e same box =
      let one : given ≡ from = lists.some_same given from (sym (held_type_is c f it given e) ∙ is) in (
        no_interface (under_of c from)
            (subst (λ given. not (shapes.is_interface (under_of c given)) ≡ true) one
            (both (not (shapes.is_interface (under_of c given))) (not (is_state (under_of c given))) box.0).0),
        inl (subst (λ given. Implements c.types given of) one box.1),
      )
  boxes (known_as.Function id) e same box =
      (closure_is_none c t id (under_of c from) (subst (λ v. IsOf c t v from) same.0 fits), inr box)
  boxes (known_as.Address base) e same (inl box) =
      (pointer_is_none c t same.0 (under_of c from) (subst (λ v. IsOf c t v from) same.1.0 fits), inr box)
  boxes (known_as.Address base) e same (inr box) = (
    pointer_is_none c t same.0 (under_of c from) (subst (λ v. IsOf c t v from) same.1.0 fits),
    inl (subst (λ from. ImplementsWhere c.types from of) (sym (address_type c f it base e) ∙ is) box),
  )

-- the code puts the operand's type into interfaces
pub make_interface_comes : (t : Typing) (s : Site) (into : TypeId) (it : Operand) → Reads t s (op.MakeInterface into it)
    → (of : TypeId) → FitsGiving s.code s.function (op.MakeInterface into it) of
    → ValueComes s.code t of (make_interface s it)
unfolding FitsGiving
make_interface_comes t s into it reads of typed = by (known s.code s.function it) refl typed.1
  where
    from : (x : TypeId) × (type_of s.code s.function it ≡ Some x)
    from =
        there (type_of s.code s.function it)
        (both (is_some (type_of s.code s.function it)) _ reads.runnable).0

    boxed : is_interface_type s.code.types from.0 ≡ false → IsBoxed s.code from.0
    boxed plain =
        by_instr s.function reads.number reads.block reads.place reads.instr into from.0 it reads.there reads.stands
        reads.is_op from.1 plain

    into_fits : (v : Val) → IsOf s.code t v from.0 → IsBoxed s.code from.0
        → Implements s.code.types from.0 of ⊎ (is_any (under_of s.code of) ≡ true) → IsOf s.code t (dynamic from.0 v) of
    into_fits v fits boxed (inl implements) = boxed_fits s.code t reads.safe from.0 of v boxed implements fits
    into_fits v fits boxed (inr any) = (
      subst (BoxFits s.code from.0) (sym (any_term (under_of s.code of) any))
          (boxed, λ n method is. absurd (none-some method is)),
      fits,
    )

    by_depth : (v : Val) → IsOf s.code t (dynamic from.0 v) of → (deep : Bool)
        → ValueComes s.code t of (of_result (if deep then Err fault.TooDeep else Ok (dynamic from.0 v)))
    by_depth v fits true = tt
    by_depth v fits false = fits

    by : (k : Option Known) → known s.code s.function it ≡ k → Boxes s.code.types k of
        → ValueComes s.code t of (make_interface s it)
    by None e box = absurd box
    by (Some k) e box =
        let found = reads.values it (inl refl) k e in
        let fits = type_fits s.code t reads.safe.held s.function it k from.0 found.it e from.1 found.fits in
        let is = boxes s.code t reads.safe.held s.function it of from.0 found.it from.1 fits k e found.fits box in
        subst (λ found. ValueComes s.code t of (where_some (λ inner. where_some (λ of. of_result (converted s.code.types of inner))
        (type_of s.code s.function it)) found)) (sym found.is)
        (subst (λ of'. ValueComes s.code t of (where_some (λ of. of_result (converted s.code.types of found.it)) of'))
        (sym from.1)
        (subst (λ is. ValueComes s.code t of
        (of_result (if is then Ok found.it else not_too_deep found.it (dynamic from.0 found.it)))) (sym is.0)
        (by_depth found.it (into_fits found.it fits (boxed is.0) is.1) (nat_le 10000 (depth found.it)))))

-- ---- interfaces become others

is_empty : {A : Type 0} → List A → Type 0
is_empty [] = Unit {0}
is_empty (it ∷ items) = ⊥

none_first : {A : Type 0} (it : A) (items : List A) → [] ≡ it ∷ items → ⊥
unfolding is_empty
none_first it items h = subst is_empty h tt

first_or : {A : Type 0} → A → List A → A
first_or it [] = it
first_or it (first ∷ items) = first

same_first : {A : Type 0} (a b : A) (others items : List A) → a ∷ others ≡ b ∷ items → a ≡ b
unfolding first_or
same_first a b others items h = ap (first_or b) h

-- the method that is selected by its name
pub record IsNamed (wanted : Wanted) (methods : List MethodType) (member : Member) : Type 0 where
  pub n : ℕ
  pub method : MethodType
  pub is : slice_get methods n ≡ Some method
  pub named : is_wanted wanted method.name method.«package» ≡ true
  pub of : method.of ≡ member.of

named_by : (wanted : Wanted) (methods : List MethodType) (member : Member)
    → flat_map (signature_named wanted [] false) methods ≡ member ∷ [] → IsNamed wanted methods member
named_by wanted [] member h = absurd (none_first member [] h)
named_by wanted (method ∷ methods) member h =
    by (is_wanted wanted method.name method.«package») refl h (named_by wanted methods member)
  where
    made : Member
    made = record { path = []; kind = selected.InterfaceMethod; of = method.of; pointer = false; indirect = false }

    others : List Member
    others = flat_map (signature_named wanted [] false) methods

    by : (b : Bool) → is_wanted wanted method.name method.«package» ≡ b
        → (if b then made ∷ [] else []) ++ others ≡ member ∷ []
        → (others ≡ member ∷ [] → IsNamed wanted methods member) → IsNamed wanted (method ∷ methods) member
    by true e h rest =
        record {
          n = 0;
          method = method;
          is = refl;
          named = e;
          of = ap (λ (it : Member). it.of) (same_first made member others [] h);
        }
    by false e h rest =
        let found = rest h in
        record { n = suc found.n; method = found.method; is = found.is; named = found.named; of = found.of }

module _ (types : Table) (held : IsHeld types) (from : TypeId) (methods : List MethodType)
    (is : underlying_term_of types from ≡ Some (term.Interface methods)) (bare : (definition_at types from).methods ≡ []) where
  -- an interface has no methods but its own
  selects_own : (wanted : Wanted) (member : Member) → Finds types wanted from (Ok member) → IsNamed wanted methods member
  unfolding members_below
  selects_own wanted member finds =
      by finds.0
      (subst (λ u. members_below finds.0 types wanted (record { of = base_by types u from; path = []; indirect = is_pointer u })
      ≡ member ∷ [])
      is finds.1)
    where
      place : Place
      place = record { of = from; path = []; indirect = false }

      by : (n : ℕ) → members_below n types wanted place ≡ member ∷ [] → IsNamed wanted methods member
      by zero h =
          named_by wanted methods member
          (subst (λ u. members_named wanted [] false u ≡ member ∷ []) is
          (subst (λ own. flat_map (method_named wanted [] false) own ++ members_named wanted [] false (underlying_term_of types from)
          ≡ member ∷ []) bare h))
      by (suc n) h =
          absurd (none_first member []
          (subst (λ u. flat_map (members_below n types wanted) (embedded_of types [] false u) ≡ member ∷ []) is h))

  -- so it has those of what it implements
  inherits : (method : MethodType) → HasMethodOf types from method → (n : ℕ) × (slice_get methods n ≡ Some method)
  inherits method has =
      let wanted : Wanted = record { name = method.name; «package» = method.package } in
      let found = selects_own wanted has.0 has.1.0.0 in
      let named = both (method.name.number == found.method.name.number) (method.package == found.method.package) found.named in
      let same : found.method ≡ method = λ i. record {
        name = record { number = sym ((unsigned_Decides method.name.number found.method.name.number).0 named.0) i };
        «package» = sym ((unsigned_Decides method.package found.method.package).0 named.1) i;
        of = (found.of ∙ identical_is types held.distinct has.1.1.0 has.0.of method.of has.1.1.1) i;
      } in
      (found.n, found.is ∙ ap Some same)

all_at : {A : Type 0} (P : A → Type 0) (items : List A) → All P items → (n : ℕ) (it : A) → slice_get items n ≡ Some it → P it
all_at P items h n it is =
    subst P (get_or_from_slice_get items n it it is) (h n it (lists.get_below items n it is))

widened : (c : Code) (t : Typing) (methods wanted : List MethodType)
    → ((n : ℕ) (method : MethodType) → slice_get wanted n ≡ Some method → (k : ℕ) × (slice_get methods k ≡ Some method))
    → (v : Val) → IsInterfaceValue c t methods v → Fits c t v (Some (term.Interface wanted))
widened c t methods wanted each v is_nil = tt
widened c t methods wanted each v (is_dynamic of it boxed has fits) =
    ((boxed, λ n method is. let found = each n method is in has found.0 method found.1), fits)

pub change_interface_comes : (t : Typing) (s : Site) (into : TypeId) (it : Operand) → Reads t s (op.ChangeInterface into it)
    → (of : TypeId) → FitsGiving s.code s.function (op.ChangeInterface into it) of → ValueComes s.code t of (with_one s it to)
unfolding FitsGiving
change_interface_comes t s into it reads of typed = by (held_type (known s.code s.function it)) refl typed.1
  where
    by : (held : Option TypeId) → held_type (known s.code s.function it) ≡ held → Widens s.code.types held of
        → ValueComes s.code t of (with_one s it to)
    by None e widens = absurd widens
    by (Some from) e widens =
        let found = held_value t s it (reads.values it (inl refl)) from e in
        let own = interface_term (under_of s.code from) widens.0 in
        let wanted = implements_term s.code.types from (under_of s.code of) widens.1 in
        let bare = reads.safe.runnable.interfaces from (ap is_interface own.1) in
        let has = subst (HasMethodsOf s.code.types from) wanted.1 widens.1 in
        subst (λ found. ValueComes s.code t of (where_some to found)) (sym found.1.0)
        (subst (Fits s.code t found.0) (sym wanted.1)
        (widened s.code t own.0 wanted.0
        (λ n method is. inherits s.code.types reads.safe.held from own.0 own.1 bare method
        (all_at (HasMethodOf s.code.types from) wanted.0 has n method is))
        found.0 (interface_in s.code t found.0 own.0 (subst (Fits s.code t found.0) own.1 found.1.1))))

-- ---- assertions

module _ (c : Code) (t : Typing) (safe : IsSafe c) (answers : Answers) (told : AreAnswers c.types answers) (wanted : TypeId) where
  module _ (from : TypeId) (v : Val) (boxed : IsBoxed c from) (fits : IsOf c t v from) (found : Val) where
    -- an interface that is implemented
    held_as_interface : (b i : Bool) → answers.implements from wanted ≡ i
        → (if b then (if i then Some (dynamic from v) else None) else None) ≡ Some found → IsOf c t found wanted
    held_as_interface true true e h =
        subst (λ v. IsOf c t v wanted) (lists.some_same (dynamic from v) found h)
        (boxed_fits c t safe from wanted v boxed ((told.implements from wanted).0 e) fits)
    held_as_interface true false e h = absurd (none-some found h)
    held_as_interface false i e h = absurd (none-some found h)

    held_as_itself : (same : Bool) → same_id from wanted ≡ same
        → (if same then Some v
        else (if is_interface_type c.types wanted
        then (if answers.implements from wanted then Some (dynamic from v) else None) else None))
        ≡ Some found
        → IsOf c t found wanted
    held_as_itself true e h =
        subst (λ v. IsOf c t v wanted) (lists.some_same v found h) (subst (IsOf c t v) (same_is from wanted e) fits)
    held_as_itself false e h =
        held_as_interface (is_interface_type c.types wanted) (answers.implements from wanted) refl h

  -- what is held as the type that is wanted is of it
  held_fits : (methods : List MethodType) (v found : Val) → IsInterfaceValue c t methods v
      → held_as c.types answers v wanted ≡ Some found → IsOf c t found wanted
  held_fits methods v found is_nil h = absurd (none-some found h)
  held_fits methods v found (is_dynamic from it boxed has fits) h =
      held_as_itself from it boxed fits found (same_id from wanted) refl h

  asserted : (of : TypeId) (comma_ok : Bool) → gives c.types of wanted comma_ok ≡ true → (v other : Val)
      → IsOf c t other wanted → (found : Option Val) → ((it : Val) → found ≡ Some it → IsOf c t it wanted)
      → ValueComes c t of (assertion comma_ok v wanted found other)
  asserted of comma_ok typed v other unheld (Some it) fits = ok_fits c t safe.held of wanted comma_ok typed it true (fits it refl)
  asserted of true typed v other unheld None fits = ok_fits c t safe.held of wanted true typed other false unheld
  asserted of false typed v other unheld None fits = tt

pub assert_comes : (t : Typing) (s : Site) (it : Operand) (wanted : TypeId) (comma_ok : Bool)
    → Reads t s (op.TypeAssert it wanted comma_ok) → (of : TypeId)
    → FitsGiving s.code s.function (op.TypeAssert it wanted comma_ok) of
    → ValueComes s.code t of (assert_type s it wanted comma_ok)
unfolding FitsGiving
assert_comes t s it wanted comma_ok reads of typed = by (held_type (known s.code s.function it)) refl typed.0
  where
    other : (v : Val) × (zero_of s.code wanted ≡ Some v)
    other = there (zero_of s.code wanted) (both (is_some (zero_of s.code wanted)) _ reads.runnable).0

    by : (held : Option TypeId) → held_type (known s.code s.function it) ≡ held → Asserts s.code.types held wanted
        → ValueComes s.code t of (assert_type s it wanted comma_ok)
    by None e asserts = absurd asserts
    by (Some from) e asserts =
        let found = held_value t s it (reads.values it (inl refl)) from e in
        let own = interface_term (under_of s.code from) asserts.0 in
        let is = interface_in s.code t found.0 own.0 (subst (Fits s.code t found.0) own.1 found.1.1) in
        subst (λ found. ValueComes s.code t of (where_some (λ it. where_some (assertion comma_ok it wanted
        (held_as s.code.types s.answers it wanted)) (zero_of s.code wanted)) found)) (sym found.1.0)
        (subst (λ other. ValueComes s.code t of (where_some (assertion comma_ok found.0 wanted
        (held_as s.code.types s.answers found.0 wanted)) other)) (sym other.1)
        (asserted s.code t reads.safe s.answers reads.told wanted of comma_ok typed.1 found.0 other.0
        (zero_fits s.code t wanted other.0 other.1) (held_as s.code.types s.answers found.0 wanted)
        (λ it h. held_fits s.code t reads.safe s.answers reads.told wanted own.0 found.0 it is h)))

-- ---- closures

pointer_of : (of : Option TypeTerm) → is_pointer of ≡ true → (base : TypeId) × (of ≡ Some (term.Pointer base))
pointer_of (Some (term.Pointer base)) h = (base, refl)
pointer_of _ h = never h

function_term : (of : Option TypeTerm) (f : Function) → is_function_type of (Some f) ≡ true
    → (signature : Signature) × ((of ≡ Some (term.Func signature)) × (is_signature signature f ≡ true))
function_term (Some (term.Func signature)) f h = (signature, (refl, h))
function_term _ f h = never h

module _ (c : Code) (t : Typing) where
  -- pointers that are captured
  pointers_are : (items : List Val) (ids : List TypeId) → AreOf c t items ids
      → list_all (λ of. is_pointer (underlying_term_of c.types of)) ids ≡ true
      → (all : List Pointer)
      × ((pointers_of items ≡ Some all) × AllZip (λ at of. PointsAs c t at (under_of c of)) all ids)
  pointers_are [] [] are h = ([], (refl, tt))
  pointers_are (v ∷ items) (of ∷ ids) are h =
      let split = both (is_pointer (under_of c of)) (list_all (λ of. is_pointer (underlying_term_of c.types of)) ids) h in
      let base = pointer_of (under_of c of) split.0 in
      let one = pointer_in c t v base.0 (subst (Fits c t v) base.1 are.0) in
      let rest = pointers_are items ids are.1 split.1 in (
        one.0 ∷ rest.0,
        (
          subst (λ v. pointers_of (v ∷ items) ≡ Some (one.0 ∷ rest.0)) (sym one.1.0)
              (ap (option_map (λ all. one.0 ∷ all)) rest.1.0),
          (subst (PointsAs c t one.0) (sym base.1) one.1.1, rest.1.1),
        ),
      )
  pointers_are [] (of ∷ ids) are h = absurd are
  pointers_are (v ∷ items) [] are h = absurd are

  module _ (id : FuncId) (f : Function) (is : function_at c id ≡ Some f) (signature : Signature) (of : TypeId)
      (is_term : under_of c of ≡ Some (term.Func signature)) (has : HasSignature c f signature) (binds : Bool) where
    -- a method with its receiver
    bound_comes : (receiver : TypeId) → f.free ≡ receiver ∷ [] → (items : List Val) → AreOf c t items (receiver ∷ [])
        → ValueComes c t of (bound_method id binds items)
    bound_comes receiver free (v ∷ []) are = by_nil (is_nil_of binds v)
      where
        by_depth : (deep : Bool)
            → ValueComes c t of (of_result (if deep then Err fault.TooDeep else Ok (bound (target.Function id) v)))
        by_depth true = tt
        by_depth false = (
          receiver,
          (
            subst (BinderFits c receiver (target.Function id)) (sym is_term)
                (record { function = f; there = is; free = free; has = has }),
            are.0,
          ),
        )

        by_nil : (b : Bool)
            → ValueComes c t of (if b then faults fault.NilPointer else of_result (bound_to (target.Function id) v))
        by_nil true = tt
        by_nil false = by_depth (nat_le 10000 (depth v))
    bound_comes receiver free [] are = absurd are
    bound_comes receiver free (v ∷ other ∷ items) are = absurd are.1

    -- a function with pointers
    captured_comes : (items : List Val) → AreOf c t items f.free
        → list_all (λ of. is_pointer (underlying_term_of c.types of)) f.free ≡ true
        → ValueComes c t of (where_some (λ all. to (closure id all)) (pointers_of items))
    captured_comes items are h =
        let all = pointers_are items f.free are h in
        subst (λ found. ValueComes c t of (where_some (λ all. to (closure id all)) found)) (sym all.1.0)
        (subst (Fits c t (closure id all.0)) (sym is_term)
        (record { function = f; there = is; free = all.1.1; has = has }))

  closed_comes : (id : FuncId) (f : Function) → function_at c id ≡ Some f → (signature : Signature) (of : TypeId)
      → under_of c of ≡ Some (term.Func signature) → HasSignature c f signature → (items : List Val) → AreOf c t items f.free
      → (kind : FunctionKind) → captures c.types kind f.free ≡ true
      → ValueComes c t of (closed_over c.types id f kind items)
  closed_comes id f is signature of is_term has items are kind.Wrapper h =
      let free = one_item f.free ((unsigned_Decides (length f.free) 1).0 h) in
      bound_comes id f is signature of is_term has (binds_interface c.types f) free.0 free.1 items
      (subst (AreOf c t items) free.1 are)
  closed_comes id f is signature of is_term has items are _ h =
      captured_comes id f is signature of is_term has true items are h

pub make_closure_comes : (t : Typing) (s : Site) (id : FuncId) (captured : List Operand) → Reads t s (op.MakeClosure id captured)
    → (of : TypeId) → FitsGiving s.code s.function (op.MakeClosure id captured) of
    → ValueComes s.code t of (make_closure s id captured)
unfolding FitsGiving fits_giving
make_closure_comes t s id captured reads of typed =
    by (function_at s.code id) refl typed (both (option_map_or captures_of (function_at s.code id) false) _ reads.runnable).0
  where
    captures_of : Function → Bool
    captures_of f = captures s.code.types f.kind f.free

    by : (found : Option Function) → function_at s.code id ≡ found → closes s.code s.function found captured of ≡ true
        → option_map_or captures_of found false ≡ true → ValueComes s.code t of (make_closure s id captured)
    by None e h free = never h
    by (Some f) e h free =
        let parts = both (not (length captured == 0)) _ h in
        let split = both (pointwise (is_operand s.code s.function) captured f.free)
        (is_function_type (term_at s.code.types of) (Some f)) parts.1 in
        let is_term = function_term (term_at s.code.types of) f split.1 in
        let items = values_are t s reads.safe.held captured f.free reads.values split.0 in
        subst (λ found. ValueComes s.code t of (where_some (λ f. where_some (closed_over s.code.types id f f.kind)
        (values_of s.code s.frame captured)) found)) (sym e)
        (subst (λ items. ValueComes s.code t of (where_some (closed_over s.code.types id f f.kind) items)) (sym items.1.0)
        (closed_comes s.code t id f e is_term.0 of
        (under_plain s.code.types reads.safe.held of (term.Func is_term.0) is_term.1.0 refl)
        (signature_has s.code f is_term.0 is_term.1.1) items.0 items.1.1 f.kind free))
