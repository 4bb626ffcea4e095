-- What operands are, from what typed code says of them.
use Rattle.std.proofs.Common.{◌≡◌, inl, inr, ℕ, ℤ, zero, suc, Bool, true, false, true≢false, List, [], ◌∷◌, Option, Some, None, refl, sym, subst, ap, ◌∙◌, slice_get, is_some, if◌then◌else◌, option_map}
use Rattle.std.proofs.lemmas.Option.{none-some, cond_some, option_and_then_some}
use Rattle.std.specs.Cmp.{booleans_Decides}
use Rattle.std.specs.Cmp.Lexicographic.{pointwise}
use Rattle.std.specs.List.{AllZip}
use Rattle.std.specs.Option.{option_and_then}
use Rattle.code_safety.proofs.Forms.{truth_in, number_in, pointer_in}
use Rattle.code_safety.proofs.Lists.{some_same}
use Rattle.code_safety.proofs.Machines.{IsThrown}
use Rattle.code_safety.proofs.Sames.{under_plain, held_id, zip_tested, same_id_alike}
use Rattle.code_safety.proofs.Shapes.{Alike, alike_sym, zip_turned}
use Rattle.code_safety.proofs.Sites.{Among, KnownFits, Valued, HasValue}
use Rattle.code_safety.proofs.Terms.{truth_term, any_term}
use Rattle.code_safety.proofs.Values.{Typing, Fits, IsOf, AreOf, Points, PointsAs, HasSignature, under_of}
use Rattle.go_base.specs.declared.ids.FuncId.{FuncId}
use Rattle.go_base.specs.declared.ids.TypeId.{TypeId}
use Rattle.go_type.specs.Held.{IsHeld}
use Rattle.go_type.specs.Kinds.{kind_of, kind_of_term}
use Rattle.go_type.specs.Same.{both, each, same_id, same_id-Decides, same_ids, same_ids-Decides}
use Rattle.go_type.specs.Sizes.{is_declared}
use Rattle.go_type.specs.Table.{Table, term_at}
use Rattle.go_type.specs.declared.term.Basic.TheVariants as basic
use Rattle.go_type.specs.declared.term.Signature.{Signature}
use Rattle.go_type.specs.declared.term.TypeTerm.{TypeTerm}
use Rattle.go_type.specs.declared.term.TypeTerm.TheVariants as term
use Rattle.go_value.specs.Values.{Val, truth, number, pointer, closure}
use Rattle.go_value.specs.declared.address.Pointer.{Pointer}
use Rattle.ssa_ir.specs.declared.code.Code.{Code}
use Rattle.ssa_ir.specs.declared.code.CodeVariable.{CodeVariable}
use Rattle.ssa_ir.specs.declared.code.Function.{Function}
use Rattle.ssa_ir.specs.declared.operands.Operand.{Operand}
use Rattle.ssa_ir.specs.declared.operands.Operand.TheVariants as operand
use Rattle.ssa_mean.specs.Operands as means
use Rattle.ssa_mean.specs.Step.{Site, value}
use Rattle.ssa_typed.specs.Operands.{known, is_known, is_operand, shape, held_type, is_integer_operand, is_truth_operand, is_any_operand, pointee}
use Rattle.ssa_typed.specs.Operands.{is_function_type, is_signature, is_value, type_of, address_of, value_of, has_constant, term_of, is_integer_type, is_any_type, pointee_of}
use Rattle.ssa_typed.specs.declared.known.Known.{Known}
use Rattle.ssa_typed.specs.declared.known.Known.TheVariants as known_as
use Rattle.type_shapes.specs.Shapes.{is_pointer_to, base_of}

-- something is known of an operand of a type
pub known_of : (c : Code) (f : Function) (it : Operand) (of : TypeId) → is_operand c f it of ≡ true
    → (k : Known) × ((known c f it ≡ Some k) × (is_known c (Some k) of ≡ true))
known_of c f it of h = by (known c f it) refl h
  where
    by : (found : Option Known) → known c f it ≡ found → is_known c found of ≡ true
        → (k : Known) × ((known c f it ≡ Some k) × (is_known c (Some k) of ≡ true))
    by None e h = absurd (true≢false (sym h))
    by (Some k) e h = (k, (e, h))

-- ---- values of what is known

-- lists of types that are the same
ids_alike : (types : Table) → IsHeld types → (xs ys : List TypeId) → same_ids xs ys ≡ true → AllZip (Alike types) xs ys
ids_alike types held xs ys h = zip_tested same_id (Alike types) (same_id_alike types held) xs ys h

signature_has : (c : Code) → IsHeld c.types → (f : Function) (signature : Signature) → is_signature signature f ≡ true
    → HasSignature c f signature
signature_has c held f signature h =
    let k = both (same_ids signature.params f.params) _ h in
    let l = both (same_ids signature.results f.results) _ k.1 in
    record {
      params = ids_alike c.types held signature.params f.params k.0;
      results =
          zip_turned (Alike c.types) (Alike c.types) (alike_sym c.types) signature.results f.results
          (ids_alike c.types held signature.results f.results l.0);
    }

function_fits : (c : Code) (t : Typing) → IsHeld c.types → (id : FuncId) (of : TypeId) (it : Val)
    → is_known c (Some (known_as.Function id)) of ≡ true → KnownFits c t (known_as.Function id) it → IsOf c t it of
function_fits c t held id of it h fits = by (term_at c.types of) refl h
  where
    by : (found : Option TypeTerm) → term_at c.types of ≡ found → is_function_type found (means.function_at c id) ≡ true → IsOf c t it of
    by (Some (term.Func signature)) e h =
        let has = signature_has c held fits.1.0 signature (sym (ap (is_function_type (Some (term.Func signature))) fits.1.1.0) ∙ h) in
        subst (λ v. IsOf c t v of) (sym fits.0)
        (subst (λ term. Fits c t (closure id []) term) (sym (under_plain c.types held of (term.Func signature) e refl))
        (record {
          function = fits.1.0;
          there = fits.1.1.0;
          free = subst (λ free. AllZip (λ at of. PointsAs c t at (under_of c of)) [] free) (sym fits.1.1.1) tt;
          has = has;
        }))
    by _ e h = absurd (true≢false (sym h))

address_fits : (c : Code) (t : Typing) → IsHeld c.types → (base of : TypeId) (it : Val)
    → is_known c (Some (known_as.Address base)) of ≡ true → KnownFits c t (known_as.Address base) it → IsOf c t it of
address_fits c t held base of it h fits = by (term_at c.types of) refl h
  where
    by : (found : Option TypeTerm) → term_at c.types of ≡ found → is_pointer_to found base ≡ true → IsOf c t it of
    by (Some (term.Pointer to)) e h =
        subst (λ v. IsOf c t v of) (sym fits.1.0)
        (subst (λ term. Fits c t (pointer fits.0) term) (sym (under_plain c.types held of (term.Pointer to) e refl))
        (subst (λ base. Points c t fits.0 base) (sym ((same_id-Decides to base).0 h)) fits.1.1))
    by _ e h = absurd (true≢false (sym h))

pub known_fits : (c : Code) (t : Typing) → IsHeld c.types → (k : Known) (of : TypeId) (it : Val) → is_known c (Some k) of ≡ true
    → KnownFits c t k it → IsOf c t it of
known_fits c t held (known_as.Held id) of it h fits = subst (λ of. IsOf c t it of) ((same_id-Decides id of).0 h) fits
known_fits c t held (known_as.Function id) of it h fits = function_fits c t held id of it h fits
known_fits c t held (known_as.Address base) of it h fits = address_fits c t held base of it h fits

-- ---- types in the machine

held_from : (c : Code) (t : Typing) (k : Known) (of : TypeId) (v : Val) (found : Option TypeId) → type_of found ≡ Some k → found ≡ Some of
    → KnownFits c t k v → IsOf c t v of
held_from c t k of v found is type_is fits =
    subst (λ k. KnownFits c t k v) (some_same k (known_as.Held of) (sym is ∙ ap type_of type_is)) fits

signature_of : Function → Signature
signature_of f = record { params = f.params; results = f.results; variadic = f.variadic }

signature_itself : (f : Function) → is_signature (signature_of f) f ≡ true
unfolding signature_of
signature_itself f =
    each _ _ ((same_ids-Decides f.params f.params).1 refl)
    (each _ _ ((same_ids-Decides f.results f.results).1 refl) ((booleans_Decides f.variadic f.variadic).1 refl))

-- what is known of an operand that has a type in the machine too
pub type_fits : (c : Code) (t : Typing) → IsHeld c.types → (f : Function) (it : Operand) (k : Known) (of : TypeId) (v : Val)
    → known c f it ≡ Some k → means.type_of c f it ≡ Some of → KnownFits c t k v → IsOf c t v of
unfolding signature_of
type_fits c t held f (operand.Param n) k of v is type_is fits = held_from c t k of v (slice_get f.params n) is type_is fits
type_fits c t held f (operand.Free n) k of v is type_is fits = held_from c t k of v (slice_get f.free n) is type_is fits
type_fits c t held f (operand.Register n) k of v is type_is fits = held_from c t k of v (slice_get f.registers n) is type_is fits
type_fits c t held f (operand.Function id) k of v is type_is fits =
    option_and_then_some (means.function_type c) (means.function_at c id) of type_is
    (λ function there type_is.
    let chosen = cond_some (is_value function.kind function.free) (known_as.Function id) k (sym (ap (value_of id) there) ∙ is) in
    known_fits c t held (known_as.Function id) of v
    (ap (λ term. is_function_type term (means.function_at c id)) (held_id c.types of (term.Func (signature_of function)) type_is)
    ∙ ap (is_function_type (Some (term.Func (signature_of function)))) there ∙ signature_itself function)
    (subst (λ k. KnownFits c t k v) (sym chosen.1) fits))
type_fits c t held f (operand.Variable variable) k of v is type_is fits = by (slice_get c.variables variable.number) is type_is
  where
    by : (found : Option CodeVariable) → address_of found ≡ Some k
        → option_and_then (means.pointer_type c) (option_map (λ it. it.of) found) ≡ Some of → IsOf c t v of
    by None is type_is = absurd (none-some k is)
    by (Some found) is type_is =
        known_fits c t held (known_as.Address found.of) of v
        (ap (λ term. is_pointer_to term found.of) (held_id c.types of (term.Pointer found.of) type_is)
        ∙ (same_id-Decides found.of found.of).1 refl)
        (subst (λ k. KnownFits c t k v) (sym (some_same (known_as.Address found.of) k is)) fits)
type_fits c t held f (operand.Constant it other) k of v is type_is fits =
    subst (λ of. IsOf c t v of) (some_same other of type_is)
    (subst (λ k. KnownFits c t k v) (sym (cond_some (has_constant c.types it other) (known_as.Held other) k is).1) fits)

pub operand_value : (t : Typing) (s : Site) → IsHeld s.code.types → (it : Operand) → HasValue t s it → (of : TypeId)
    → is_operand s.code s.function it of ≡ true → (v : Val) × ((value s it ≡ Some v) × IsOf s.code t v of)
operand_value t s held it has of h =
    let k = known_of s.code s.function it of h in
    let v = has k.0 k.1.0 in
    (v.it, (v.is, known_fits s.code t held k.0 of v.it k.1.1 v.fits))

-- ---- what is held

-- an operand with an underlying term is held
pub shape_is : (c : Code) (f : Function) (it : Operand) (term : TypeTerm) → shape c f it ≡ Some term
    → (of : TypeId) × ((known c f it ≡ Some (known_as.Held of)) × (under_of c of ≡ Some term))
shape_is c f it term h = by (known c f it) refl h
  where
    by : (found : Option Known) → known c f it ≡ found → term_of c.types (held_type found) ≡ Some term
        → (of : TypeId) × ((known c f it ≡ Some (known_as.Held of)) × (under_of c of ≡ Some term))
    by (Some (known_as.Held of)) e h = (of, (e, h))
    by _ e h = absurd (none-some term h)

pub held_is : (c : Code) (f : Function) (it : Operand) (of : TypeId) → held_type (known c f it) ≡ Some of
    → known c f it ≡ Some (known_as.Held of)
held_is c f it of h = by (known c f it) h
  where
    by : (found : Option Known) → held_type found ≡ Some of → found ≡ Some (known_as.Held of)
    by (Some (known_as.Held id)) h = ap (λ id. Some (known_as.Held id)) (some_same id of h)
    by _ h = absurd (none-some of h)

held_found : (of : TypeId) (found : Option TypeId) → type_of found ≡ Some (known_as.Held of) → found ≡ Some of
held_found of None h = absurd (none-some (known_as.Held of) h)
held_found of (Some id) h = ap held_type h

-- the machine has the same type for it
pub held_type_is : (c : Code) (f : Function) (it : Operand) (of : TypeId) → known c f it ≡ Some (known_as.Held of)
    → means.type_of c f it ≡ Some of
held_type_is c f (operand.Param n) of h = held_found of (slice_get f.params n) h
held_type_is c f (operand.Free n) of h = held_found of (slice_get f.free n) h
held_type_is c f (operand.Register n) of h = held_found of (slice_get f.registers n) h
held_type_is c f (operand.Function id) of h = by (means.function_at c id) (ap held_type h)
  where
    chosen : (b : Bool) → held_type (if b then Some (known_as.Function id) else None) ≡ Some of → ⊥
    chosen true h = none-some of h
    chosen false h = none-some of h

    by : (found : Option Function) → held_type (value_of id found) ≡ Some of
        → option_and_then (means.function_type c) (means.function_at c id) ≡ Some of
    by None h = absurd (none-some of h)
    by (Some function) h = absurd (chosen (is_value function.kind function.free) h)
held_type_is c f (operand.Variable variable) of h = by (slice_get c.variables variable.number) (ap held_type h)
  where
    by : (found : Option CodeVariable) → held_type (address_of found) ≡ Some of
        → option_and_then (means.pointer_type c) (means.variable_type c variable) ≡ Some of
    by None h = absurd (none-some of h)
    by (Some found) h = absurd (none-some of h)
held_type_is c f (operand.Constant it other) of h = ap held_type (ap Some (cond_some (has_constant c.types it other) (known_as.Held other) (known_as.Held of) h).1)

pub shape_term : (c : Code) (f : Function) (it : Operand) (term : TypeTerm) → shape c f it ≡ Some term
    → means.term_of c f it ≡ Some term
shape_term c f it term h =
    let is = shape_is c f it term h in
    ap (means.under c) (held_type_is c f it is.0 is.1.0) ∙ is.1.1

pub shape_value : (t : Typing) (s : Site) (it : Operand) → HasValue t s it → (term : TypeTerm)
    → shape s.code s.function it ≡ Some term → (v : Val) × ((value s it ≡ Some v) × Fits s.code t v (Some term))
shape_value t s it has term h =
    let is = shape_is s.code s.function it term h in
    let v = has (known_as.Held is.0) is.1.0 in
    (v.it, (v.is, subst (λ term. Fits s.code t v.it term) is.1.1 v.fits))

pub held_value : (t : Typing) (s : Site) (it : Operand) → HasValue t s it → (of : TypeId)
    → held_type (known s.code s.function it) ≡ Some of → (v : Val) × ((value s it ≡ Some v) × IsOf s.code t v of)
held_value t s it has of h =
    let v = has (known_as.Held of) (held_is s.code s.function it of h) in
    (v.it, (v.is, v.fits))

-- the type of an operand of integers
pub integer_type : (c : Code) (f : Function) (it : Operand) → is_integer_operand c f it ≡ true
    → (of : TypeId) × ((held_type (known c f it) ≡ Some of) × (is_some (kind_of c.types of) ≡ true))
integer_type c f it h = by (held_type (known c f it)) refl h
  where
    by : (found : Option TypeId) → held_type (known c f it) ≡ found → is_integer_type c.types found ≡ true
        → (of : TypeId) × ((held_type (known c f it) ≡ Some of) × (is_some (kind_of c.types of) ≡ true))
    by None e h = absurd (true≢false (sym h))
    by (Some of) e h = (of, (e, h))

pub integer_value : (t : Typing) (s : Site) (it : Operand) → HasValue t s it
    → is_integer_operand s.code s.function it ≡ true → (n : ℤ) × (value s it ≡ Some (number n))
integer_value t s it has h =
    let of = integer_type s.code s.function it h in
    let v = held_value t s it has of.0 of.1.0 in
    let n = number_in s.code t v.0 (under_of s.code of.0) of.1.1 v.1.1 in
    (n.0, v.1.0 ∙ ap Some n.1)

-- the machine has the type of an operand of a type of integers
pub integer_kind : (c : Code) → IsHeld c.types → (f : Function) (it : Operand) (of : TypeId) → is_operand c f it of ≡ true
    → is_some (kind_of c.types of) ≡ true → means.type_of c f it ≡ Some of
integer_kind c held f it of h kind = let k = known_of c f it of h in by k.0 k.1.0 k.1.1
  where
    no_kind : (term : TypeTerm) → term_at c.types of ≡ Some term → is_declared (Some term) ≡ false → is_some (kind_of_term (Some term)) ≡ false → ⊥
    no_kind term is plain none =
        true≢false (sym kind ∙ ap (λ term. is_some (kind_of_term term)) (under_plain c.types held of term is plain) ∙ none)

    no_function : (found : Option TypeTerm) (function : Option Function) → term_at c.types of ≡ found
        → is_function_type found function ≡ true → ⊥
    no_function (Some (term.Func signature)) function is h = no_kind (term.Func signature) is refl refl
    no_function _ function is h = true≢false (sym h)

    no_address : (found : Option TypeTerm) (base : TypeId) → term_at c.types of ≡ found → is_pointer_to found base ≡ true → ⊥
    no_address (Some (term.Pointer to)) base is h = no_kind (term.Pointer to) is refl refl
    no_address _ base is h = true≢false (sym h)

    by : (k : Known) → known c f it ≡ Some k → is_known c (Some k) of ≡ true → means.type_of c f it ≡ Some of
    by (known_as.Held id) is h = held_type_is c f it id is ∙ ap Some ((same_id-Decides id of).0 h)
    by (known_as.Function id) is h = absurd (no_function (term_at c.types of) (means.function_at c id) refl h)
    by (known_as.Address base) is h = absurd (no_address (term_at c.types of) base refl h)

pub truth_value : (t : Typing) (s : Site) (it : Operand) → HasValue t s it
    → is_truth_operand s.code s.function it ≡ true → (b : Bool) × (value s it ≡ Some (truth b))
truth_value t s it has h =
    let v = shape_value t s it has (term.Basic basic.Bool) (truth_term (shape s.code s.function it) h) in
    let b = truth_in s.code t v.0 v.1.1 in
    (b.0, v.1.0 ∙ ap Some b.1)

pub any_value : (t : Typing) (s : Site) → IsHeld s.code.types → (it : Operand) → HasValue t s it
    → is_any_operand s.code s.function it ≡ true → (v : Val) × ((value s it ≡ Some v) × IsThrown s.code t v)
any_value t s held it has h = by (held_type (known s.code s.function it)) refl h
  where
    by : (found : Option TypeId) → held_type (known s.code s.function it) ≡ found → is_any_type s.code.types found ≡ true
        → (v : Val) × ((value s it ≡ Some v) × IsThrown s.code t v)
    by None e h = absurd (true≢false (sym h))
    by (Some of) e h =
        let v = held_value t s it has of e in (
          v.0,
          (
            v.1.0,
            subst (λ term. Fits s.code t v.0 term)
                (under_plain s.code.types held of (term.Interface []) (any_term (term_at s.code.types of) h) refl) v.1.1,
          ),
        )

-- ---- pointers

base_is : (of : Option TypeTerm) (base : TypeId) → base_of of ≡ Some base → of ≡ Some (term.Pointer base)
base_is (Some (term.Pointer other)) base h = ap (λ id. Some (term.Pointer id)) (some_same other base h)
base_is _ base h = absurd (none-some base h)

pub pointee_value : (t : Typing) (s : Site) (it : Operand) → HasValue t s it → (base : TypeId)
    → pointee s.code s.function it ≡ Some base
    → (at : Pointer) × ((value s it ≡ Some (pointer at)) × Points s.code t at base)
pointee_value t s it has base h = by (known s.code s.function it) has h
  where
    by : (found : Option Known) → ((k : Known) → found ≡ Some k → Valued s.code t k (value s it))
        → pointee_of s.code.types found ≡ Some base
        → (at : Pointer) × ((value s it ≡ Some (pointer at)) × Points s.code t at base)
    by (Some (known_as.Held id)) has h =
        let v = has (known_as.Held id) refl in
        let at = pointer_in s.code t v.it base (subst (λ term. Fits s.code t v.it term) (base_is (under_of s.code id) base h) v.fits) in
        (at.0, (v.is ∙ ap Some at.1.0, at.1.1))
    by (Some (known_as.Address other)) has h =
        let v = has (known_as.Address other) refl in
        (v.fits.0, (v.is ∙ ap Some v.fits.1.0, subst (λ base. Points s.code t v.fits.0 base) (some_same other base h) v.fits.1.1))
    by _ has h = absurd (none-some base h)

base_found : (c : Code) (base : TypeId) (found : Option TypeId) → pointee_of c.types (type_of found) ≡ Some base
    → means.base_of (means.under c found) ≡ Some base
base_found c base None h = absurd (none-some base h)
base_found c base (Some id) h = ap means.base_of (base_is (under_of c id) base h)

-- the machine has the same type for what is pointed to
pub pointee_is : (c : Code) (f : Function) (it : Operand) (base : TypeId) → pointee c f it ≡ Some base
    → means.pointed_type c f it ≡ Some base
pointee_is c f (operand.Param n) base h = base_found c base (slice_get f.params n) h
pointee_is c f (operand.Free n) base h = base_found c base (slice_get f.free n) h
pointee_is c f (operand.Register n) base h = base_found c base (slice_get f.registers n) h
pointee_is c f (operand.Function id) base h = by (means.function_at c id) h
  where
    chosen : (b : Bool) → pointee_of c.types (if b then Some (known_as.Function id) else None) ≡ Some base → ⊥
    chosen true h = none-some base h
    chosen false h = none-some base h

    by : (found : Option Function) → pointee_of c.types (value_of id found) ≡ Some base
        → means.base_of (means.term_of c f (operand.Function id)) ≡ Some base
    by None h = absurd (none-some base h)
    by (Some function) h = absurd (chosen (is_value function.kind function.free) h)
pointee_is c f (operand.Variable variable) base h = by (slice_get c.variables variable.number) h
  where
    by : (found : Option CodeVariable) → pointee_of c.types (address_of found) ≡ Some base
        → option_map (λ it. it.of) found ≡ Some base
    by None h = absurd (none-some base h)
    by (Some found) h = h
pointee_is c f (operand.Constant it of) base h = by (has_constant c.types it of) h
  where
    by : (b : Bool) → pointee_of c.types (if b then Some (known_as.Held of) else None) ≡ Some base
        → means.base_of (under_of c of) ≡ Some base
    by true h = ap means.base_of (base_is (under_of c of) base h)
    by false h = absurd (none-some base h)

-- ---- lists of operands

with_values : (first : Option Val) (others : Option (List Val)) (v : Val) (items : List Val) → first ≡ Some v → others ≡ Some items
    → means.with_value first others ≡ Some (v ∷ items)
with_values first others v items is are =
    ap (λ first. means.with_value first others) is ∙ ap (means.with_value (Some v)) are

pub values_are : (t : Typing) (s : Site) → IsHeld s.code.types → (its : List Operand) (ids : List TypeId)
    → ((it : Operand) → Among it its → HasValue t s it) → pointwise (is_operand s.code s.function) its ids ≡ true
    → (items : List Val) × ((means.values_of s.code s.frame its ≡ Some items) × AreOf s.code t items ids)
values_are t s held [] [] has h = ([], (refl, tt))
values_are t s held [] (of ∷ ids) has h = absurd (true≢false (sym h))
values_are t s held (it ∷ its) [] has h = absurd (true≢false (sym h))
values_are t s held (it ∷ its) (of ∷ ids) has h =
    let k = both (is_operand s.code s.function it of) (pointwise (is_operand s.code s.function) its ids) h in
    let v = operand_value t s held it (has it (inl refl)) of k.0 in
    let rest = values_are t s held its ids (λ other among. has other (inr among)) k.1 in
    (v.0 ∷ rest.0, (with_values (value s it) (means.values_of s.code s.frame its) v.0 rest.0 v.1.0 rest.1.0, (v.1.1, rest.1.1)))

all_of : (c : Code) (t : Typing) (v : Val) (items : List Val) (of : TypeId) → IsOf c t v of
    → ((n : ℕ) (v : Val) → slice_get items n ≡ Some v → IsOf c t v of) → (n : ℕ) (it : Val) → slice_get (v ∷ items) n ≡ Some it
    → IsOf c t it of
all_of c t v items of first rest zero it is = subst (λ v. IsOf c t v of) (some_same v it is) first
all_of c t v items of first rest (suc n) it is = rest n it is

-- operands that are all of one type
pub all_are : (t : Typing) (s : Site) → IsHeld s.code.types → (its : List Operand) (of : TypeId)
    → ((it : Operand) → Among it its → HasValue t s it)
    → ((it : Operand) → Among it its → is_operand s.code s.function it of ≡ true)
    → (items : List Val) × ((means.values_of s.code s.frame its ≡ Some items)
    × ((n : ℕ) (v : Val) → slice_get items n ≡ Some v → IsOf s.code t v of))
all_are t s held [] of has h = ([], (refl, λ n v is. absurd (none-some v is)))
all_are t s held (it ∷ its) of has h =
    let v = operand_value t s held it (has it (inl refl)) of (h it (inl refl)) in
    let rest = all_are t s held its of (λ other among. has other (inr among)) (λ other among. h other (inr among)) in (
      v.0 ∷ rest.0,
      (
        with_values (value s it) (means.values_of s.code s.frame its) v.0 rest.0 v.1.0 rest.1.0,
        all_of s.code t v.0 rest.0 of v.1.1 rest.1.1,
      ),
    )
