-- Calls that are readied: what is called takes the arguments, and its results fit the register.
use Rattle.std.proofs.Common.{◌≡◌, inl, inr, arith, ℕ, suc, Bool, true, false, ◌&&◌, ◌==◌, if◌then◌else◌, List, [], ◌∷◌, length, map, Option, Some, None, is_some, refl, sym, subst, ap, ◌∙◌, slice_get, true≢false}
use Rattle.std.proofs.lemmas.Option.{none-some}
use Rattle.std.specs.Cmp.{unsigned_Decides}
use Rattle.std.specs.Cmp.Lexicographic.{pointwise}
use Rattle.std.specs.List.{AllZip, list_all}
use Rattle.std.specs.Option.{option_and_then}
use Rattle.ssa_runnable.specs.Runnable.{operands_of, operands_of_call, runs_op, runs_call, has_meaning}
use Rattle.code_safety.proofs.BuiltIns.{BuiltInReadied, built_in_fits, deferred_fits}
use Rattle.code_safety.proofs.Forms.{IsFunctionValue, nil_value, is_nil, is_closure, is_bound, IsInterfaceValue, is_dynamic, function_in, interface_in}
use Rattle.code_safety.proofs.Lists.{some_same}
use Rattle.code_safety.proofs.Machines.{FunctionFits, CallFits, ResultsFitWhere}
use Rattle.code_safety.proofs.Members.{both}
use Rattle.code_safety.proofs.Operands.{shape_value, values_are}
use Rattle.code_safety.proofs.Sames.{is_of_alike, under_plain}
use Rattle.code_safety.proofs.Shapes.{Alike, alike_of, alike_trans, zip_joined}
use Rattle.code_safety.proofs.Sites.{Reads, Among, HasValue}
use Rattle.code_safety.proofs.Values.{Typing, Fits, IsOf, AreOf, PointsAs, BindsFor, HasMethod, under_of}
use Rattle.go_base.specs.declared.ids.FuncId.{FuncId}
use Rattle.go_base.specs.declared.ids.NameId.{NameId}
use Rattle.go_base.specs.declared.ids.TypeId.{TypeId}
use Rattle.go_type.specs.Held.{IsHeld}
use Rattle.go_type.specs.Same.{same_id-Decides, same_ids-Decides}
use Rattle.go_type.specs.Table.{Table, term_at}
use Rattle.go_type.specs.declared.operators.Builtin.{Builtin}
use Rattle.go_type.specs.declared.term.MethodType.{MethodType}
use Rattle.go_type.specs.declared.term.Signature.{Signature}
use Rattle.go_type.specs.declared.term.TypeTerm.{TypeTerm}
use Rattle.go_type.specs.declared.term.TypeTerm.TheVariants as term
use Rattle.go_value.specs.Values as vals
use Rattle.go_value.specs.Values.{Val, pointer, closure, dynamic}
use Rattle.go_value.specs.declared.address.Pointer.{Pointer}
use Rattle.go_value.specs.declared.values.BoundTarget.{BoundTarget}
use Rattle.go_value.specs.declared.values.BoundTarget.TheVariants as target
use Rattle.ssa_ir.specs.declared.code.Code.{Code}
use Rattle.ssa_ir.specs.declared.code.Function.{Function}
use Rattle.ssa_ir.specs.declared.code.FunctionKind.{FunctionKind}
use Rattle.ssa_ir.specs.declared.code.FunctionKind.TheVariants as kind
use Rattle.ssa_ir.specs.declared.operands.Operand.{Operand}
use Rattle.ssa_ir.specs.declared.ops.Call.{Call}
use Rattle.ssa_ir.specs.declared.ops.Call.TheVariants as call
use Rattle.ssa_ir.specs.declared.ops.Op.{Op}
use Rattle.ssa_mean.specs.Calls.{readied, later, invoked, called_value, method_of, passed_on, passed_by_invoke}
use Rattle.ssa_mean.specs.Comes.{Comes, to, faults, nowhere, then_to, where_some, of_option}
use Rattle.ssa_mean.specs.Operands.{function_at, values_of}
use Rattle.ssa_mean.specs.State.{BuiltIn, Callee, of_function, of_built_in, of_nil, Later}
use Rattle.ssa_mean.specs.Step.{Site, value}
use Rattle.ssa_typed.specs.Calls.{fits_call, fits_deferred, results_of, gives_list, gives_results, are_parts, function_results, signature_results, static_results, dynamic_results, method_named, method_type, term_where}
use Rattle.ssa_typed.specs.Operands.{known, shape, is_operand, is_value}
use Rattle.ssa_typed.specs.declared.known.Known.{Known}
use Rattle.ssa_typed.specs.declared.known.Known.TheVariants as known_as
use Rattle.type_shapes.specs.Shapes.{parts_of}

-- ---- results

parts_are : (of : Option TypeTerm) (results : List TypeId) → are_parts results (parts_of of) ≡ true
    → of ≡ Some (term.Tuple results)
parts_are (Some (term.Tuple ids)) results h = ap (λ ids. Some (term.Tuple ids)) ((same_ids-Decides ids results).0 h)
parts_are None results h = absurd (true≢false (sym h))
parts_are _ results h = absurd (true≢false (sym h))

all_alike : (types : Table) (ids : List TypeId) → AllZip (Alike types) ids ids
all_alike types [] = tt
all_alike types (of ∷ ids) = (alike_of types of of refl, all_alike types ids)

-- results that correspond to those that a register is given for
results_fit : (c : Code) → IsHeld c.types → (own results : List TypeId) → AllZip (Alike c.types) own results
    → (of : Option TypeId) → gives_list c.types results of ≡ true → ResultsFitWhere c own of
results_fit c held own results alike None h = tt
results_fit c held [] [] alike (Some of) h = absurd (true≢false (sym h))
results_fit c held (mine ∷ []) (first ∷ []) alike (Some of) h =
    alike_trans c.types mine first of alike.0 (alike_of c.types first of ((same_id-Decides first of).0 h))
results_fit c held (mine ∷ other ∷ own) (first ∷ second ∷ rest) alike (Some of) h = (
  first ∷ second ∷ rest,
  (
    under_plain c.types held of (term.Tuple (first ∷ second ∷ rest))
        (parts_are (term_at c.types of) (first ∷ second ∷ rest) h) refl,
    alike,
  ),
)
results_fit c held [] (first ∷ rest) alike (Some of) h = absurd alike
results_fit c held (mine ∷ []) [] alike (Some of) h = absurd alike
results_fit c held (mine ∷ []) (first ∷ second ∷ rest) alike (Some of) h = absurd alike.1
results_fit c held (mine ∷ other ∷ own) [] alike (Some of) h = absurd alike
results_fit c held (mine ∷ other ∷ own) (first ∷ []) alike (Some of) h = absurd alike.1

-- ---- what is called, with the results that it is known to give

abbrev pub ReadiedTo : Code → Typing → List TypeId → Callee → List Val → Type 0
ReadiedTo c t results (of_function id free) arguments =
    (fits : FunctionFits c t id free arguments) × AllZip (Alike c.types) fits.function.results results
ReadiedTo c t results (of_built_in called) arguments = ⊥
ReadiedTo c t results of_nil arguments = Unit {0}

abbrev pub ReadyComes : Code → Typing → List TypeId → Comes Later → Type 0
ReadyComes c t results (to it) = ReadiedTo c t results it.callee it.arguments
ReadyComes c t results (faults it) = Unit {0}
ReadyComes c t results nowhere = ⊥

-- arguments of the parameters of a signature are those of what is alike
are_alike : (c : Code) (t : Typing) (items : List Val) (ids others : List TypeId) → AreOf c t items ids
    → AllZip (Alike c.types) ids others → AreOf c t items others
are_alike c t items ids others are alike =
    zip_joined (IsOf c t) (Alike c.types) (IsOf c t) (λ it a b h k. is_of_alike c t it a b k h) items ids others are alike

captured_are : (c : Code) (t : Typing) (captured : List Pointer) (free : List TypeId)
    → AllZip (λ at of. PointsAs c t at (under_of c of)) captured free → AreOf c t (map pointer captured) free
captured_are c t [] [] h = tt
captured_are c t (at ∷ captured) (of ∷ free) h = (h.0, captured_are c t captured free h.1)
captured_are c t [] (of ∷ free) h = absurd h
captured_are c t (at ∷ captured) [] h = absurd h

-- a function value that is called with arguments
record Calls (c : Code) (t : Typing) (results : List TypeId) (items : List Val) (found : Option Callee) : Type 0 where
  callee : Callee
  is : found ≡ Some callee
  fits : ReadiedTo c t results callee items

binder_calls : (c : Code) (t : Typing) (signature : Signature) (items : List Val) → AreOf c t items signature.params
    → (binder : BoundTarget) (receiver : Val) (of : TypeId) → BindsFor c of signature binder → IsOf c t receiver of
    → Calls c t signature.results items (called_value (vals.bound binder receiver))
binder_calls c t signature items are (target.Function id) receiver of binds h =
    record {
      callee = of_function id (receiver ∷ []);
      is = refl;
      fits = (
        record {
          function = binds.function;
          there = binds.there;
          frees = subst (AreOf c t (receiver ∷ [])) (sym binds.free) (h, tt);
          takes = are_alike c t items signature.params binds.function.params are binds.has.params;
        },
        binds.has.results,
      );
    }
binder_calls c t signature items are _ receiver of binds h = absurd binds

value_calls : (c : Code) (t : Typing) (signature : Signature) (items : List Val) → AreOf c t items signature.params → (it : Val)
    → IsFunctionValue c t signature it → Calls c t signature.results items (called_value it)
value_calls c t signature items are it nil_value = record { callee = of_nil; is = refl; fits = tt }
value_calls c t signature items are it (is_closure id captured closes) =
    record {
      callee = of_function id (map pointer captured);
      is = refl;
      fits = (
        record {
          function = closes.function;
          there = closes.there;
          frees = captured_are c t captured closes.function.free closes.free;
          takes = are_alike c t items signature.params closes.function.params are closes.has.params;
        },
        closes.has.results,
      );
    }
value_calls c t signature items are it (is_bound binder receiver of binds h) =
    binder_calls c t signature items are binder receiver of binds h

-- ---- what typed code says of calls

record IsStatic (c : Code) (f : Function) (arguments : List Operand) (results : List TypeId) (found : Option Function) : Type 0
  where
    function : Function
    there : found ≡ Some function
    value : is_value function.kind function.free ≡ true
    each : pointwise (is_operand c f) arguments function.params ≡ true
    gives : function.results ≡ results

function_of : (c : Code) (f : Function) (arguments : List Operand) (results : List TypeId) (function : Function)
    → function_results c f arguments (Some function) ≡ Some results
    → (pointwise (is_operand c f) arguments function.params ≡ true) × (function.results ≡ results)
function_of c f arguments results function h = by (pointwise (is_operand c f) arguments function.params) refl h
  where
    by : (b : Bool) → pointwise (is_operand c f) arguments function.params ≡ b
        → (if b then Some function.results else None) ≡ Some results
        → (pointwise (is_operand c f) arguments function.params ≡ true) × (function.results ≡ results)
    by true e h = (e, some_same function.results results h)
    by false e h = absurd (none-some results h)

static_of : (c : Code) (f : Function) (arguments : List Operand) (results : List TypeId) (found : Option Function)
    → static_results c f arguments found ≡ Some results → IsStatic c f arguments results found
static_of c f arguments results None h = absurd (none-some results h)
static_of c f arguments results (Some function) h = by (is_value function.kind function.free) refl h
  where
    by : (b : Bool) → is_value function.kind function.free ≡ b
        → (if b then function_results c f arguments (Some function) else None) ≡ Some results
        → IsStatic c f arguments results (Some function)
    by true e h =
        let is = function_of c f arguments results function h in
        record { function = function; there = refl; value = e; each = is.0; gives = is.1 }
    by false e h = absurd (none-some results h)

record HasParams (c : Code) (f : Function) (arguments : List Operand) (results : List TypeId) (of : Option TypeTerm) : Type 0
  where
    signature : Signature
    is : of ≡ Some (term.Func signature)
    each : pointwise (is_operand c f) arguments signature.params ≡ true
    gives : signature.results ≡ results

signature_of : (c : Code) (f : Function) (arguments : List Operand) (results : List TypeId) (of : Option TypeTerm)
    → signature_results c f arguments of ≡ Some results → HasParams c f arguments results of
signature_of c f arguments results (Some (term.Func signature)) h =
    by (pointwise (is_operand c f) arguments signature.params) refl h
  where
    by : (b : Bool) → pointwise (is_operand c f) arguments signature.params ≡ b
        → (if b then Some signature.results else None) ≡ Some results
        → HasParams c f arguments results (Some (term.Func signature))
    by true e h = record { signature = signature; is = refl; each = e; gives = some_same signature.results results h }
    by false e h = absurd (none-some results h)
signature_of c f arguments results None h = absurd (none-some results h)
signature_of c f arguments results _ h = absurd (none-some results h)

no_frees : (kind : FunctionKind) (free : List TypeId) → is_value kind free ≡ true → free ≡ []
no_frees kind.Init free h = absurd (true≢false (sym h))
no_frees _ [] h = refl
no_frees _ (of ∷ free) h = absurd (let e = (unsigned_Decides (length (of ∷ free)) 0).0 h in omega arith)

-- ---- the calls

ready : (c : Code) (t : Typing) (results : List TypeId) (callee : Callee) (chain : ℕ) (found : Option (List Val)) (items : List Val)
    → found ≡ Some items → ReadiedTo c t results callee items
    → ReadyComes c t results (then_to (later callee chain) (of_option found))
ready c t results callee chain found items is fits =
    subst (λ found. ReadyComes c t results (then_to (later callee chain) (of_option found))) (sym is) fits

static_comes : (t : Typing) (s : Site) → IsHeld s.code.types → (id : FuncId) (arguments : List Operand)
    → ((it : Operand) → Among it arguments → HasValue t s it) → (results : List TypeId)
    → static_results s.code s.function arguments (function_at s.code id) ≡ Some results
    → ReadyComes s.code t results (readied s.code s.function s.frame (call.Static id arguments))
static_comes t s held id arguments has results h =
    let is = static_of s.code s.function arguments results (function_at s.code id) h in
    let items = values_are t s held arguments is.function.params has is.each in
    ready s.code t results (of_function id []) (passed_on s.function s.frame) (values_of s.code s.frame arguments) items.0
    items.1.0 (
      record {
        function = is.function;
        there = is.there;
        frees = subst (AreOf s.code t []) (sym (no_frees is.function.kind is.function.free is.value)) tt;
        takes = items.1.1;
      },
      subst (AllZip (Alike s.code.types) is.function.results) is.gives (all_alike s.code.types is.function.results),
    )

dynamic_of : (t : Typing) (s : Site) (callee : Operand) (arguments : List Operand) (results : List TypeId) (it : Val)
    (items : List Val) → value s callee ≡ Some it → values_of s.code s.frame arguments ≡ Some items
    → Calls s.code t results items (called_value it)
    → ReadyComes s.code t results (readied s.code s.function s.frame (call.Dynamic callee arguments))
dynamic_of t s callee arguments results it items is are calls =
    subst (λ (found : Option Callee). ReadyComes s.code t results
    (where_some (λ called. then_to (later called 0) (of_option (values_of s.code s.frame arguments))) found))
    (sym (ap (option_and_then called_value) is ∙ calls.is))
    (ready s.code t results calls.callee 0 (values_of s.code s.frame arguments) items are calls.fits)

dynamic_comes : (t : Typing) (s : Site) → IsHeld s.code.types → (callee : Operand) (arguments : List Operand)
    → HasValue t s callee → ((it : Operand) → Among it arguments → HasValue t s it) → (results : List TypeId)
    → dynamic_results s.code s.function arguments (known s.code s.function callee) ≡ Some results
    → ReadyComes s.code t results (readied s.code s.function s.frame (call.Dynamic callee arguments))
dynamic_comes t s held callee arguments called has results h = by (known s.code s.function callee) refl h
  where
    by : (k : Option Known) → known s.code s.function callee ≡ k → dynamic_results s.code s.function arguments k ≡ Some results
        → ReadyComes s.code t results (readied s.code s.function s.frame (call.Dynamic callee arguments))
    by None e h = absurd (none-some results h)
    by (Some (known_as.Held of)) e h =
        let v = called (known_as.Held of) e in
        let is = signature_of s.code s.function arguments results (under_of s.code of) h in
        let items = values_are t s held arguments is.signature.params has is.each in
        let calls = value_calls s.code t is.signature items.0 items.1.1 v.it
        (function_in s.code t v.it is.signature (subst (Fits s.code t v.it) is.is v.fits)) in
        dynamic_of t s callee arguments results v.it items.0 v.is items.1.0
        (subst (λ results. Calls s.code t results items.0 (called_value v.it)) is.gives calls)
    by (Some (known_as.Function id)) e h =
        let v = called (known_as.Function id) e in
        let found = v.fits.1 in
        let is = function_of s.code s.function arguments results found.0
        (sym (ap (function_results s.code s.function arguments) found.1.0) ∙ h) in
        let items = values_are t s held arguments found.0.params has is.0 in
        dynamic_of t s callee arguments results (closure id []) items.0 (v.is ∙ ap Some v.fits.0) items.1.0
        (record {
          callee = of_function id [];
          is = refl;
          fits = (
            record {
              function = found.0;
              there = found.1.0;
              frees = subst (AreOf s.code t []) (sym found.1.1) tt;
              takes = items.1.1;
            },
            subst (AllZip (Alike s.code.types) found.0.results) is.1 (all_alike s.code.types found.0.results),
          );
        })
    by (Some (known_as.Address base)) e h = absurd (none-some results h)

-- ---- methods

record IsNamed (name : NameId) (number : ℕ) (methods : List MethodType) (of : TypeId) : Type 0 where
  place : ℕ
  method : MethodType
  there : slice_get methods place ≡ Some method
  has_name : method.name ≡ name
  has_package : method.«package» ≡ number
  has_type : method.of ≡ of

named : (name : NameId) (number : ℕ) (methods : List MethodType) (of : TypeId) → method_named name number methods ≡ Some of
    → IsNamed name number methods of
named name number [] of h = absurd (none-some of h)
named name number (method ∷ methods) of h =
    by ((method.name.number == name.number) && (method.«package» == number)) refl h (named name number methods of)
  where
    by : (b : Bool) → ((method.name.number == name.number) && (method.«package» == number)) ≡ b
        → (if b then Some method.of else method_named name number methods) ≡ Some of
        → (method_named name number methods ≡ Some of → IsNamed name number methods of)
        → IsNamed name number (method ∷ methods) of
    by true e h rest =
        let is = both (method.name.number == name.number) (method.«package» == number) e in
        record {
          place = 0;
          method = method;
          there = refl;
          has_name = λ i. record { number = (unsigned_Decides method.name.number name.number).0 is.0 i };
          has_package = (unsigned_Decides method.«package» number).0 is.1;
          has_type = some_same method.of of h;
        }
    by false e h rest =
        let r = rest h in
        record {
          place = suc r.place;
          method = r.method;
          there = r.there;
          has_name = r.has_name;
          has_package = r.has_package;
          has_type = r.has_type;
        }

record IsMethodOf (name : NameId) (number : ℕ) (of : TypeId) (it : Option TypeTerm) : Type 0 where
  methods : List MethodType
  is : it ≡ Some (term.Interface methods)
  named : IsNamed name number methods of

method_in : (name : NameId) (number : ℕ) (it : Option TypeTerm) (of : TypeId) → method_type name number it ≡ Some of
    → IsMethodOf name number of it
method_in name number (Some (term.Interface methods)) of h =
    record { methods = methods; is = refl; named = named name number methods of h }
method_in name number None of h = absurd (none-some of h)
method_in name number _ of h = absurd (none-some of h)

-- the type of the method, which is there
where_held : (types : Table) (found : Option TypeId) (it : TypeTerm) → term_where types found ≡ Some it
    → (of : TypeId) × ((found ≡ Some of) × (term_at types of ≡ Some it))
where_held types None it h = absurd (none-some it h)
where_held types (Some of) it h = (of, (refl, h))

signature_in : Option TypeTerm → Signature → Signature
signature_in (Some (term.Func signature)) other = signature
signature_in _ other = other

-- a method that a dynamic value has is called with it
method_ready : (c : Code) (t : Typing) → IsHeld c.types → (name : NameId) (number : ℕ) (of id : TypeId) (it : Val) (chain : ℕ)
    (methods : List MethodType) (signature : Signature) (items : List Val) → IsOf c t it of
    → (is : IsNamed name number methods id) → HasMethod c of is.method → term_at c.types id ≡ Some (term.Func signature)
    → AreOf c t items signature.params
    → ReadyComes c t signature.results
    (then_to (λ id. later (of_function id []) chain (it ∷ items)) (of_option (method_of c of name number)))
unfolding signature_in
method_ready c t held name number of id it chain methods signature items fits is has term_is are =
    let found : method_of c of name number ≡ Some has.id =
    sym (ap (λ (name : NameId). method_of c of name number) is.has_name) ∙ ap (λ (home : ℕ). method_of c of is.method.name home) (sym is.has_package)
    ∙ has.found in
    let under : under_of c is.method.of ≡ Some (term.Func signature) =
    ap (under_of c) is.has_type ∙ under_plain c.types held id (term.Func signature) term_is refl in
    let same : has.signature ≡ signature =
    ap (λ it. signature_in it signature) (sym has.is_signature ∙ under) in
    subst (λ (found : Option FuncId). ReadyComes c t signature.results
    (then_to (λ id. later (of_function id []) chain (it ∷ items)) (of_option found))) (sym found) (
      record {
        function = has.function;
        there = has.there;
        frees = subst (AreOf c t []) (sym has.free) tt;
        takes = subst (AreOf c t (it ∷ items)) (sym has.takes) (
          fits,
          are_alike c t items signature.params has.params are
              (subst (λ signature. AllZip (Alike c.types) signature.params has.params) same has.each),
        );
      },
      subst (λ (signature : Signature). AllZip (Alike c.types) has.function.results signature.results) same has.results,
    )

invoke_of : (c : Code) (t : Typing) → IsHeld c.types → (name : NameId) (number chain : ℕ) (id : TypeId) (methods : List MethodType)
    (signature : Signature) (items : List Val) → IsNamed name number methods id → term_at c.types id ≡ Some (term.Func signature)
    → AreOf c t items signature.params → (it : Val) → IsInterfaceValue c t methods it
    → ReadyComes c t signature.results (invoked c chain name number items it)
invoke_of c t held name number chain id methods signature items is term_is are it is_nil = tt
invoke_of c t held name number chain id methods signature items is term_is are it (is_dynamic of v boxed all fits) =
    method_ready c t held name number of id v chain methods signature items fits is (all is.place is.method is.there) term_is are

invoke_comes : (t : Typing) (s : Site) → IsHeld s.code.types → (receiver : Operand) (name : NameId) (number : ℕ)
    (arguments : List Operand) → HasValue t s receiver → ((it : Operand) → Among it arguments → HasValue t s it)
    → (results : List TypeId)
    → signature_results s.code s.function arguments
    (term_where s.code.types (method_type name number (shape s.code s.function receiver))) ≡ Some results
    → ReadyComes s.code t results (readied s.code s.function s.frame (call.Invoke receiver name number arguments))
invoke_comes t s held receiver name number arguments called has results h =
    let is = signature_of s.code s.function arguments results
    (term_where s.code.types (method_type name number (shape s.code s.function receiver))) h in
    let type_is = where_held s.code.types (method_type name number (shape s.code s.function receiver)) (term.Func is.signature) is.is in
    let method = method_in name number (shape s.code s.function receiver) type_is.0 type_is.1.0 in
    let v = shape_value t s receiver called (term.Interface method.methods) method.is in
    let items = values_are t s held arguments is.signature.params has is.each in
    subst (λ results. ReadyComes s.code t results (readied s.code s.function s.frame (call.Invoke receiver name number arguments)))
    is.gives
    (subst (λ (found : Option (List Val)). ReadyComes s.code t is.signature.results
    (where_some (λ arguments. where_some (invoked s.code (passed_by_invoke s.function s.frame) name number arguments) (value s receiver))
    found)) (sym items.1.0)
    (subst (λ (found : Option Val). ReadyComes s.code t is.signature.results
    (where_some (invoked s.code (passed_by_invoke s.function s.frame) name number items.0) found)) (sym v.1.0)
    (invoke_of s.code t held name number (passed_by_invoke s.function s.frame) type_is.0 method.methods is.signature items.0
    method.named type_is.1.1 items.1.1 v.0 (interface_in s.code t v.0 method.methods v.1.1))))

-- ---- all but calls of built-in functions

abbrev pub is_builtin : Call → Bool
is_builtin (call.Builtin called arguments) = true
is_builtin _ = false

called_comes : (t : Typing) (s : Site) → IsHeld s.code.types → (it : Call)
    → ((operand : Operand) → Among operand (operands_of_call it) → HasValue t s operand) → (results : List TypeId)
    → results_of s.code s.function it ≡ Some results → ReadyComes s.code t results (readied s.code s.function s.frame it)
called_comes t s held (call.Static id arguments) has results h = static_comes t s held id arguments has results h
called_comes t s held (call.Dynamic callee arguments) has results h =
    dynamic_comes t s held callee arguments (has callee (inl refl)) (λ it among. has it (inr among)) results h
called_comes t s held (call.Invoke receiver name number arguments) has results h =
    invoke_comes t s held receiver name number arguments (has receiver (inl refl)) (λ it among. has it (inr among)) results h
called_comes t s held (call.Builtin called arguments) has results h = absurd (none-some results h)

-- ---- with the type of a register

abbrev pub LaterComes : Code → Typing → Option TypeId → Comes Later → Type 0
LaterComes c t of (to it) = CallFits c t of it.callee it.arguments
LaterComes c t of (faults it) = Unit {0}
LaterComes c t of nowhere = ⊥

for_register : (c : Code) (t : Typing) → IsHeld c.types → (results : List TypeId) (of : Option TypeId)
    → gives_list c.types results of ≡ true → (it : Comes Later) → ReadyComes c t results it → LaterComes c t of it
for_register c t held results of gives (to it) h = by it.callee it.arguments h
  where
    by : (callee : Callee) (items : List Val) → ReadiedTo c t results callee items → CallFits c t of callee items
    by (of_function id free) items h = (h.0, results_fit c held h.0.function.results results h.1 of gives)
    by (of_built_in called) items h = absurd h
    by of_nil items h = tt
for_register c t held results of gives (faults it) h = tt
for_register c t held results of gives nowhere h = absurd h

for_none : (c : Code) (t : Typing) (results : List TypeId) (it : Comes Later) → ReadyComes c t results it → LaterComes c t None it
for_none c t results (to it) h = by it.callee it.arguments h
  where
    by : (callee : Callee) (items : List Val) → ReadiedTo c t results callee items → CallFits c t None callee items
    by (of_function id free) items h = (h.0, tt)
    by (of_built_in called) items h = absurd h
    by of_nil items h = tt
for_none c t results (faults it) h = tt
for_none c t results nowhere h = absurd h

-- the operands of a call are those of its instruction
call_values : (t : Typing) (s : Site) (at : Op) (it : Call) → Reads t s at → operands_of at ≡ operands_of_call it
    → (operand : Operand) → Among operand (operands_of_call it) → HasValue t s operand
call_values t s at it reads same operand among =
    reads.values operand (subst (λ its. Among operand its) (sym same) among)

call_runs : (t : Typing) (s : Site) (at : Op) (it : Call) → Reads t s at → runs_op s.code s.function at ≡ runs_call s.code s.function it
    → runs_call s.code s.function it ≡ true
call_runs t s at it reads same =
    sym same ∙ (both (runs_op s.code s.function at) (list_all (has_meaning s.code) (operands_of at)) reads.runnable).0

-- a built-in function
built_in_comes : (t : Typing) (s : Site) (called : Builtin) (arguments : List Operand) (of : Option TypeId)
    → BuiltInReadied t s called arguments of
    → LaterComes s.code t of (readied s.code s.function s.frame (call.Builtin called arguments))
built_in_comes t s called arguments of is =
    subst (λ (found : Option BuiltIn). LaterComes s.code t of
    (where_some (λ called. then_to (later (of_built_in called) 0) (of_option (values_of s.code s.frame arguments))) found))
    (sym is.is)
    (subst (λ (found : Option (List Val)). LaterComes s.code t of (then_to (later (of_built_in is.it) 0) (of_option found)))
    (sym is.are) is.fits)

readied_some : (c : Code) (results : Option (List TypeId)) (of : Option TypeId) → gives_results c.types results of ≡ true
    → (its : List TypeId) × ((results ≡ Some its) × (gives_list c.types its of ≡ true))
readied_some c None of h = absurd (true≢false (sym h))
readied_some c (Some its) of h = (its, (refl, h))

other_comes : (t : Typing) (s : Site) (at : Op) (it : Call) → Reads t s at → operands_of at ≡ operands_of_call it
    → (of : Option TypeId) → gives_results s.code.types (results_of s.code s.function it) of ≡ true
    → LaterComes s.code t of (readied s.code s.function s.frame it)
other_comes t s at it reads same of typed =
    let is = readied_some s.code (results_of s.code s.function it) of typed in
    for_register s.code t reads.safe.held is.0 of is.1.1 (readied s.code s.function s.frame it)
    (called_comes t s reads.safe.held it (call_values t s at it reads same) is.0 is.1.0)

pub readied_comes : (t : Typing) (s : Site) (at : Op) (it : Call) → Reads t s at → operands_of at ≡ operands_of_call it
    → runs_op s.code s.function at ≡ runs_call s.code s.function it → (of : Option TypeId)
    → fits_call s.code s.function it of ≡ true → LaterComes s.code t of (readied s.code s.function s.frame it)
readied_comes t s at (call.Builtin called arguments) reads same runnable of typed =
    built_in_comes t s called arguments of
    (built_in_fits t s reads.safe called arguments (call_values t s at (call.Builtin called arguments) reads same)
    (call_runs t s at (call.Builtin called arguments) reads runnable) of typed)
readied_comes t s at (call.Static id arguments) reads same runnable of typed =
    other_comes t s at (call.Static id arguments) reads same of typed
readied_comes t s at (call.Dynamic callee arguments) reads same runnable of typed =
    other_comes t s at (call.Dynamic callee arguments) reads same of typed
readied_comes t s at (call.Invoke receiver name number arguments) reads same runnable of typed =
    other_comes t s at (call.Invoke receiver name number arguments) reads same of typed

is_there : {A : Type 0} (found : Option A) → is_some found ≡ true → (it : A) × (found ≡ Some it)
is_there None h = absurd (true≢false (sym h))
is_there (Some it) h = (it, refl)

let_go : (t : Typing) (s : Site) (at : Op) (it : Call) → Reads t s at → operands_of at ≡ operands_of_call it
    → is_some (results_of s.code s.function it) ≡ true → LaterComes s.code t None (readied s.code s.function s.frame it)
let_go t s at it reads same typed =
    let is = is_there (results_of s.code s.function it) typed in
    for_none s.code t is.0 (readied s.code s.function s.frame it)
    (called_comes t s reads.safe.held it (call_values t s at it reads same) is.0 is.1)

-- one whose result is let go
pub deferred_comes : (t : Typing) (s : Site) (at : Op) (it : Call) → Reads t s at → operands_of at ≡ operands_of_call it
    → runs_op s.code s.function at ≡ runs_call s.code s.function it → fits_deferred s.code s.function it ≡ true
    → LaterComes s.code t None (readied s.code s.function s.frame it)
deferred_comes t s at (call.Builtin called arguments) reads same runnable typed =
    built_in_comes t s called arguments None
    (deferred_fits t s reads.safe called arguments (call_values t s at (call.Builtin called arguments) reads same)
    (call_runs t s at (call.Builtin called arguments) reads runnable) typed)
deferred_comes t s at (call.Static id arguments) reads same runnable typed =
    let_go t s at (call.Static id arguments) reads same typed
deferred_comes t s at (call.Dynamic callee arguments) reads same runnable typed =
    let_go t s at (call.Dynamic callee arguments) reads same typed
deferred_comes t s at (call.Invoke receiver name number arguments) reads same runnable typed =
    let_go t s at (call.Invoke receiver name number arguments) reads same typed
