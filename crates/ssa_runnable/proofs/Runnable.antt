-- The tests of a whole code tell that it is runnable.
use Rattle.std.proofs.Common.{◌≡◌, ℕ, get_or, IsTrue, ◌↔◌, ◌<◌, ◌≤◌, inl, inr, arith, Bool, true, false, List, [], ◌∷◌, Contains, length, sym, ap, ◌∙◌, refl, subst, true≢false}
use Rattle.std.specs.Prelude.{Option, Some, None, slice_get, not, ◌||◌, ◌==◌}
use Rattle.std.specs.Cmp.{unsigned_Decides}
use Rattle.std.proofs.lemmas.Bool.{cases_lt}
use Rattle.std.specs.List.{All}
use Rattle.go_base.specs.declared.ids.TypeId.{TypeId}
use Rattle.go_type.specs.Assignable.{underlying_term_of}
use Rattle.go_type.specs.Table.{Table, definition_at}
use Rattle.go_type.specs.declared.methods.MethodEntry.{MethodEntry}
use Rattle.go_type.specs.declared.term.Basic.TheVariants as basic
use Rattle.go_type.specs.declared.term.TypeTerm.{TypeTerm}
use Rattle.go_type.specs.declared.term.TypeTerm.TheVariants as term
use Rattle.go_value.specs.Interfaces.{is_interface_type}
use Rattle.ssa_ir.specs.Blocks.{instrs_at, instrs_in}
use Rattle.ssa_ir.specs.declared.code.Block.{Block}
use Rattle.ssa_ir.specs.declared.code.Code.{Code}
use Rattle.ssa_ir.specs.declared.code.Function.{Function}
use Rattle.ssa_ir.specs.declared.ops.Instr.{Instr}
use Rattle.ssa_mean.specs.BuiltIns.{is_text_term}
use Rattle.ssa_mean.specs.Faults.{error_string}
use Rattle.ssa_runnable.specs.Boxed.{boxed_of}
use Rattle.ssa_runnable.specs.Methods.{AllHave, HasAll}
use Rattle.ssa_runnable.specs.Runnable.{HasMethods, IsRunnable, runs, fits_external}
use Rattle.ssa_runnable.specs.Tests.{all_run, blocks_run, functions_run, externals_fit, fits_error, fits_interface}
use Rattle.ssa_runnable.proofs.Boxing.{boxed_only, boxed_there}
use Rattle.ssa_runnable.proofs.Lists.{all_at, all_from}
use Rattle.ssa_runnable.proofs.Nesting.{no_term}

in_block : (c : Code) (f : Function) (block place : ℕ) (instr : Instr) (o : Option Block) → slice_get f.blocks block ≡ o
    → slice_get (instrs_in o) place ≡ Some instr → blocks_run c f f.blocks ≡ true → runs c f instr.op ≡ true
in_block c f block place instr None e at h = cc
in_block c f block place instr (Some it) e at h =
    all_at (λ (i : Instr). runs c f i.op) it.instrs place instr
    (all_at (λ (b : Block). all_run c f b.instrs) f.blocks block it h e) at

instr_runs : (c : Code) → functions_run c c.functions ≡ true → (number block place : ℕ) (f : Function) (instr : Instr)
    → slice_get c.functions number ≡ Some f → slice_get (instrs_at f block) place ≡ Some instr
    → runs c f instr.op ≡ true
instr_runs c h number block place f instr at_f at_i =
    in_block c f block place instr (slice_get f.blocks block) refl at_i
    (all_at (λ (g : Function). blocks_run c g g.blocks) c.functions number f h at_f)

text_is : (it : Option TypeTerm) → is_text_term it ≡ true → it ≡ Some (term.Basic basic.Text)
text_is (Some (term.Basic basic.Text)) h = refl
text_is other h = absurd (true≢false (sym h))

none_is : (methods : List MethodEntry) → (length methods == 0) ≡ true → methods ≡ []
none_is methods h = empty methods ((unsigned_Decides (length methods) 0).0 h)
  where
    empty : (methods : List MethodEntry) → length methods ≡ 0 → methods ≡ []
    empty [] e = refl
    empty (method ∷ methods) e = cc

no_methods : (is_one : Bool) (methods : List MethodEntry) → is_one ≡ true
    → not is_one || (length methods == 0) ≡ true → methods ≡ []
no_methods true methods e h = none_is methods h
no_methods false methods e h = absurd (true≢false (sym e))

error_fits : (types : Table) (o : Option TypeId) (of : TypeId) → o ≡ Some of → fits_error types o ≡ true
    → underlying_term_of types of ≡ Some (term.Basic basic.Text)
error_fits types o of e h = text_is (underlying_term_of types of) (sym (ap (fits_error types) e) ∙ h)

-- ---- methods

pub methods_stand : (c : Code) (boxed keys : List TypeId) → boxed ≡ boxed_of c → All (Contains keys) boxed
    → ((of : TypeId) → AllHave c keys of) → HasMethods c
methods_stand c boxed keys e there all of interface methods is_boxed implements is =
    let within : Contains (boxed_of c) of = boxed_there c of is_boxed in
    let found : Contains keys of =
    subst (Contains keys) within.2 (subst (λ l. All (Contains keys) l) e there within.0 of within.1) in
    let has : HasAll c interface methods of =
    subst (HasAll c interface methods) found.2 (all interface methods is found.0 of found.1) in
    has implements

past_all : (c : Code) (types : List TypeId) (of : TypeId) → length c.types.terms ≤ of.number
    → length c.types.definitions ≡ length c.types.terms → AllHave c types of
past_all c types of l e methods is = absurd (none (sym (no_term c.types of l e) ∙ is))
  where
    none : ◌≡◌ {A = Option TypeTerm} None (Some (term.Interface methods)) → ⊥
    none p = cc

-- what holds of each type that is held holds of all
pub everywhere : (c : Code) (types : List TypeId) (n : ℕ) → length c.types.terms ≤ n
    → length c.types.definitions ≡ length c.types.terms
    → ((k : ℕ) → k < n → AllHave c types (record { number = k })) → (of : TypeId) → AllHave c types of
everywhere c types n l e before of = elim (cases_lt of.number n) [
  | inl w ↦ before of.number w
  | inr w ↦ past_all c types of (omega (arith, l, w)) e
]

pub is_whole : (c : Code) → externals_fit c.types c.functions ≡ true → fits_error c.types (error_string c) ≡ true
    → ((of : TypeId) → fits_interface c.types of ≡ true) → functions_run c c.functions ≡ true → HasMethods c
    → IsRunnable c
is_whole c externals error interfaces run methods = record {
  instrs = instr_runs c run;
  externals = λ number f at. all_at (λ (g : Function). fits_external c.types g g.kind) c.functions number f externals at;
  errors = λ of e. error_fits c.types (error_string c) of e error;
  interfaces = λ of e. no_methods (is_interface_type c.types of) (definition_at c.types of).methods e (interfaces of);
  methods = methods;
}

-- ---- and runnable code passes them

-- what runnable code passes, and this code does not, tells that it is not
pub never : (c : Code) (b : Bool) → b ≡ false → (IsRunnable c → b ≡ true) → IsTrue false ↔ IsRunnable c
never c b fails passes = (λ f. absurd (true≢false (sym f)), λ it. sym fails ∙ passes it)

pub externals_back : (c : Code) → IsRunnable c → externals_fit c.types c.functions ≡ true
externals_back c it = all_from (λ (g : Function). fits_external c.types g g.kind) c.functions it.externals

error_of : (types : Table) (o : Option TypeId)
    → ((of : TypeId) → o ≡ Some of → underlying_term_of types of ≡ Some (term.Basic basic.Text))
    → fits_error types o ≡ true
error_of types None h = refl
error_of types (Some of) h = ap is_text_term (h of refl)

pub error_back : (c : Code) → IsRunnable c → fits_error c.types (error_string c) ≡ true
error_back c it = error_of c.types (error_string c) it.errors

none_own : (is_one : Bool) (methods : List MethodEntry) → (is_one ≡ true → methods ≡ [])
    → not is_one || (length methods == 0) ≡ true
none_own true methods h = ap (λ (l : List MethodEntry). length l == 0) (h refl)
none_own false methods h = refl

pub interfaces_back : (c : Code) → IsRunnable c → (of : TypeId) → fits_interface c.types of ≡ true
interfaces_back c it of =
    none_own (is_interface_type c.types of) (definition_at c.types of).methods (it.interfaces of)

pub run_back : (c : Code) → IsRunnable c → functions_run c c.functions ≡ true
run_back c it =
    all_from (λ (g : Function). blocks_run c g g.blocks) c.functions (λ number f at_f.
    all_from (λ (b : Block). all_run c f b.instrs) f.blocks (λ block b at_b.
    all_from (λ (i : Instr). runs c f i.op) b.instrs (λ place instr at_i.
    it.instrs number block place f instr at_f (ap (λ o. slice_get (instrs_in o) place) at_b ∙ at_i))))

pub methods_back : (c : Code) (boxed keys : List TypeId) → boxed ≡ boxed_of c → All (Contains boxed) keys
    → HasMethods c → (of : TypeId) → AllHave c keys of
methods_back c boxed keys e within has interface methods is k d w implements =
    has (get_or keys k d) interface methods
    (boxed_only c (get_or keys k d) (subst (λ l. Contains l (get_or keys k d)) e (within k d w))) implements is
