-- Instructions that give a value, or change the store, and go on behind themselves.
use Rattle.std.proofs.Common.{◌≡◌, ◌⊎◌, inl, inr, ⊎_elim, ◌<◌, arith, ℕ, ℤ, suc, Bool, true, false, if◌then◌else◌, List, [], ◌∷◌, ◌++◌, length, length-append, Option, Some, None, is_some, refl, sym, subst, ap, ◌∙◌, slice_get, slice_set, true≢false}
use Rattle.std.proofs.lemmas.Option.{none-some}
use Rattle.std.specs.Cmp.{unsigned_Decides}
use Rattle.std.specs.List.{list_all}
use Rattle.std.specs.Option.{option_flatten}
use Rattle.ssa_runnable.specs.Runnable.{runs_op, operands_of, has_meaning}
use Rattle.code_safety.proofs.Available.{operand_written, no_phi, next_stands, begun_at, fresh_next, begun_with}
use Rattle.code_safety.proofs.Growing.{grows_self, frame_grows, below_grow, later_where_grows, goroutine_grows, cells_grow, maps_grow, channel_grows}
use Rattle.code_safety.proofs.Lists.{zip_right, some_same, get_below, below_get, get_set, get_set_other, length_set, get_front, get_within, get_either}
use Rattle.code_safety.proofs.Machines.{OpenFits, HasVariables, ChannelFits, FrameFits, Stands, IsBegun, IsFresh, IsWritten, TopStands, fresh, begun, Takes, AreBelow, StoresCome, ValueComes, StoreComes, GivesOf, DoneComes, AreFrames, Safe}
use Rattle.code_safety.proofs.Making.{ChannelComes, with_chan_home}
use Rattle.code_safety.proofs.Members.{both, either, same_or_other}
use Rattle.code_safety.proofs.Opening.{store_changed, frames_closed}
use Rattle.code_safety.proofs.Shapes.{alike_self}
use Rattle.code_safety.proofs.Sites.{SiteFits, Reads, Among, HasValue, Valued, KnownFits, IsRegister}
use Rattle.code_safety.proofs.Throwing.{MayThrow, meets_safe, moved_fits, begun_as}
use Rattle.code_safety.proofs.Values.{Typing, Grows, one, IsOf, AreOf, NumberFits, TruthFits, TextFits, is_numbers, under_of}
use Rattle.code_safety.proofs.Zeros.{zero_fits}
use Rattle.go_base.specs.declared.ids.FuncId.{FuncId}
use Rattle.go_base.specs.declared.ids.TypeId.{TypeId}
use Rattle.go_base.specs.declared.ids.VarId.{VarId}
use Rattle.go_sched.specs.Channels.{Chan, empty_chan}
use Rattle.go_sched.specs.Goroutines.{State, with_new_chan}
use Rattle.go_store.specs.Stores.{Stored}
use Rattle.go_type.specs.Representable.{has_integer, term_has}
use Rattle.go_type.specs.declared.constants.Const.TheVariants as const
use Rattle.go_type.specs.declared.term.Basic.{Basic}
use Rattle.go_type.specs.declared.term.Basic.TheVariants as basic
use Rattle.go_type.specs.declared.term.TypeTerm.{TypeTerm}
use Rattle.go_type.specs.declared.term.TypeTerm.TheVariants as term
use Rattle.go_value.specs.Values.{Val, truth, number, text, pointer, closure}
use Rattle.go_value.specs.declared.faults.Fault.{Fault}
use Rattle.ssa_ir.specs.Blocks.{instrs_at, is_end_op}
use Rattle.ssa_ir.specs.declared.code.Code.{Code}
use Rattle.ssa_ir.specs.declared.code.CodeVariable.{CodeVariable}
use Rattle.ssa_ir.specs.declared.code.Function.{Function}
use Rattle.ssa_ir.specs.declared.code.FunctionKind.{FunctionKind}
use Rattle.ssa_ir.specs.declared.code.FunctionKind.TheVariants as kind
use Rattle.ssa_ir.specs.declared.operands.ConstValue.{ConstValue}
use Rattle.ssa_ir.specs.declared.operands.ConstValue.TheVariants as constant
use Rattle.ssa_ir.specs.declared.operands.Operand.{Operand}
use Rattle.ssa_ir.specs.declared.operands.Operand.TheVariants as operand
use Rattle.ssa_ir.specs.declared.ops.Instr.{Instr}
use Rattle.ssa_mean.specs.BuiltIns.{Done}
use Rattle.ssa_mean.specs.Comes.{Comes, to, faults, nowhere, then_to}
use Rattle.ssa_mean.specs.Conversions.{Stores, kept}
use Rattle.ssa_mean.specs.Making.{Channels}
use Rattle.ssa_mean.specs.Operands.{constant_value, function_at, variable_cell}
use Rattle.ssa_mean.specs.State.{Frame, Goroutine, Machine, advanced, with_result}
use Rattle.ssa_mean.specs.Step.{Site, gives_stored, gives_value, changes_store, gives_channel, goes_behind, finishes}
use Rattle.ssa_mean.specs.Unwinding.{is_phi, meets}
use Rattle.ssa_sane.specs.Sane.{IsInstr, is_new}
use Rattle.ssa_typed.specs.Operands as typed_operands
use Rattle.ssa_typed.specs.Operands.{type_of, address_of, has_constant, is_value}
use Rattle.ssa_typed.specs.declared.known.Known.{Known}
use Rattle.ssa_typed.specs.declared.known.Known.TheVariants as known_as
use Rattle.type_shapes.specs.Shapes.{is_truth, is_text}

-- ---- constants and other operands

number_kind : (kind : Basic) (z : ℤ) → has_integer kind z ≡ true → is_numbers kind ≡ true
number_kind basic.Bool z h = h
number_kind basic.Text z h = h
number_kind basic.UntypedBool z h = h
number_kind basic.UntypedText z h = h
number_kind basic.UntypedNil z h = h
number_kind _ z h = refl

int_fits : (z : ℤ) (of : Option TypeTerm) → term_has of (const.Int z) ≡ true → NumberFits of
int_fits z (Some (term.Basic kind)) h = number_kind kind z h
int_fits z None h = absurd (true≢false (sym h))
int_fits z _ h = absurd (true≢false (sym h))

truth_fits : (of : Option TypeTerm) → is_truth of ≡ true → TruthFits of
truth_fits (Some (term.Basic basic.Bool)) h = tt
truth_fits _ h = absurd (true≢false (sym h))

text_fits : (of : Option TypeTerm) → is_text of ≡ true → TextFits of
text_fits (Some (term.Basic basic.Text)) h = tt
text_fits _ h = absurd (true≢false (sym h))

constant_fits : (c : Code) (t : Typing) (it : ConstValue) (of : TypeId) (v : Val) → has_constant c.types it of ≡ true
    → constant_value c it of ≡ Some v → IsOf c t v of
constant_fits c t (constant.Int z) of v h is =
    subst (λ v. IsOf c t v of) (some_same (number z) v is) (int_fits z (under_of c of) h)
constant_fits c t (constant.Truth b) of v h is =
    subst (λ v. IsOf c t v of) (some_same (truth b) v is) (truth_fits (under_of c of) h)
constant_fits c t (constant.Text bytes) of v h is =
    subst (λ v. IsOf c t v of) (some_same (text bytes) v is) (text_fits (under_of c of) h)
constant_fits c t constant.Nil of v h is = zero_fits c t of v is
constant_fits c t constant.Zero of v h is = zero_fits c t of v is

is_there : {A : Type 0} (found : Option A) → is_some found ≡ true → (it : A) × (found ≡ Some it)
is_there None h = absurd (true≢false (sym h))
is_there (Some it) h = (it, refl)

meant : (c : Code) (its : List Operand) (it : Operand) → Among it its → list_all (has_meaning c) its ≡ true
    → has_meaning c it ≡ true
meant c [] it among all = absurd among
meant c (first ∷ its) it (inl same) all =
    subst (λ o. has_meaning c o ≡ true) same (both (has_meaning c first) (list_all (has_meaning c) its) all).0
meant c (first ∷ its) it (inr among) all =
    meant c its it among (both (has_meaning c first) (list_all (has_meaning c) its) all).1

held_value : (c : Code) (t : Typing) (types : List TypeId) (items : List Val) → AreOf c t items types → (n : ℕ) (k : Known)
    → type_of (slice_get types n) ≡ Some k → Valued c t k (slice_get items n)
held_value c t types items are n k h = by (slice_get types n) refl h
  where
    by : (found : Option TypeId) → slice_get types n ≡ found → type_of found ≡ Some k → Valued c t k (slice_get items n)
    by None e h = absurd (none-some k h)
    by (Some of) e h =
        let found = zip_right (IsOf c t) items types are n of e in
        record {
          it = found.0;
          is = found.1.0;
          fits = subst (λ k. KnownFits c t k found.0) (some_same (known_as.Held of) k h) found.1.1;
        }

no_frees : (kind : FunctionKind) (free : List TypeId) → is_value kind free ≡ true → free ≡ []
no_frees kind.Init free h = absurd (true≢false (sym h))
no_frees _ [] h = refl
no_frees _ (of ∷ free) h = absurd (let e = (unsigned_Decides (length (of ∷ free)) 0).0 h in omega arith)

function_value : (c : Code) (t : Typing) (id : FuncId) (k : Known) (found : Option Function) → function_at c id ≡ found
    → typed_operands.value_of id found ≡ Some k → Valued c t k (Some (closure id []))
function_value c t id k None e h = absurd (none-some k h)
function_value c t id k (Some f) e h = by (is_value f.kind f.free) refl h
  where
    by : (b : Bool) → is_value f.kind f.free ≡ b → (if b then Some (known_as.Function id) else None) ≡ Some k
        → Valued c t k (Some (closure id []))
    by true is h =
        record {
          it = closure id [];
          is = refl;
          fits = subst (λ k. KnownFits c t k (closure id [])) (some_same (known_as.Function id) k h)
              (refl, (f, (e, no_frees f.kind f.free is)));
        }
    by false is h = absurd (none-some k h)

variable_value : (c : Code) (t : Typing) → HasVariables c t → (variable : VarId) (k : Known) (found : Option CodeVariable)
    → slice_get c.variables variable.number ≡ found → address_of found ≡ Some k
    → Valued c t k (Some (pointer (variable_cell variable)))
variable_value c t has variable k None e h = absurd (none-some k h)
variable_value c t has variable k (Some it) e h =
    record {
      it = pointer (variable_cell variable);
      is = refl;
      fits = subst (λ k. KnownFits c t k (pointer (variable_cell variable))) (some_same (known_as.Address it.of) k h) (
        variable_cell variable,
        (
          refl,
          record {
            home = one it.of;
            there = has variable.number it e;
            of = it.of;
            at = refl;
            alike = alike_self c.types it.of;
          },
        ),
      );
    }

constant_operand : (c : Code) (t : Typing) (it : ConstValue) (of : TypeId) (k : Known)
    → is_some (constant_value c it of) ≡ true
    → (if has_constant c.types it of then Some (known_as.Held of) else None) ≡ Some k
    → Valued c t k (constant_value c it of)
constant_operand c t it of k meaning h = by (has_constant c.types it of) refl h
  where
    by : (b : Bool) → has_constant c.types it of ≡ b → (if b then Some (known_as.Held of) else None) ≡ Some k
        → Valued c t k (constant_value c it of)
    by true is h =
        let found = is_there (constant_value c it of) meaning in
        record {
          it = found.0;
          is = found.1;
          fits = subst (λ k. KnownFits c t k found.0) (some_same (known_as.Held of) k h)
              (constant_fits c t it of found.0 is found.1);
        }
    by false is h = absurd (none-some k h)

-- an operand has a value, where its register is written
pub operand_reads : (t : Typing) (s : Site) (instr : Instr) → SiteFits t s instr → (it : Operand)
    → ((register : ℕ) → it ≡ operand.Register register → IsWritten s.frame register) → has_meaning s.code it ≡ true
    → HasValue t s it
operand_reads t s instr site (operand.Param n) written meaning k h =
    held_value s.code t s.function.params s.frame.parameters site.fits.parameters n k h
operand_reads t s instr site (operand.Free n) written meaning k h =
    held_value s.code t s.function.free s.frame.free site.fits.free n k h
operand_reads t s instr site (operand.Register n) written meaning k h = by (slice_get s.function.registers n) refl h
  where
    there : IsWritten s.frame n
    there = written n refl

    by : (found : Option TypeId) → slice_get s.function.registers n ≡ found → type_of found ≡ Some k
        → Valued s.code t k (option_flatten (slice_get s.frame.registers n))
    by None e h = absurd (none-some k h)
    by (Some of) e h =
        record {
          it = there.it;
          is = ap option_flatten there.there;
          fits = subst (λ k. KnownFits s.code t k there.it) (some_same (known_as.Held of) k h)
              (site.fits.registers n there.it of there.there e);
        }
operand_reads t s instr site (operand.Function id) written meaning k h =
    function_value s.code t id k (function_at s.code id) refl h
operand_reads t s instr site (operand.Variable variable) written meaning k h =
    variable_value s.code t site.machine.variables variable k (slice_get s.code.variables variable.number) refl h
operand_reads t s instr site (operand.Constant it of) written meaning k h = constant_operand s.code t it of k meaning h

-- each operand of an instruction that is no phi has a value
operand_has : (t : Typing) (s : Site) (instr : Instr) → SiteFits t s instr → (it : Operand)
    → Among it (operands_of instr.op) → HasValue t s it
operand_has t s instr site it among =
    operand_reads t s instr site it
    (λ register is. operand_written s.function s.frame instr.op site.stands
    (no_phi s.function s.frame instr site.stands site.at site.sane) site.sane.operands it among register is)
    (meant s.code (operands_of instr.op) it among
    (both (runs_op s.code s.function instr.op) (list_all (has_meaning s.code) (operands_of instr.op)) site.runnable).1)

-- operands of an instruction can be read
pub site_reads : (t : Typing) (s : Site) (instr : Instr) → SiteFits t s instr → Reads t s instr.op
site_reads t s instr site =
    record {
      safe = site.safe;
      number = s.frame.function.number;
      there = site.fits.there;
      block = s.frame.block;
      place = s.frame.place;
      instr = instr;
      stands = site.at;
      is_op = refl;
      told = site.told;
      store = site.machine.store;
      values = operand_has t s instr site;
      runnable = site.runnable;
    }

pub site_plain : (t : Typing) (s : Site) (instr : Instr) → SiteFits t s instr → is_phi instr.op ≡ false
site_plain t s instr site = no_phi s.function s.frame instr site.stands site.at site.sane

-- ---- a register that gets a value

pub result_fits : (c : Code) (t : Typing) (f : Function) (frame : Frame) (register : Option ℕ) (it : Option Val) (of : Option TypeId)
    → IsRegister f register of → GivesOf c t it of → FrameFits c t f frame → FrameFits c t f (with_result register it frame)
result_fits c t f frame None it of is gives fits = fits
result_fits c t f frame (Some register) None of is gives fits = absurd (subst (GivesOf c t None) is.1.0 gives)
result_fits c t f frame (Some register) (Some it) of is gives fits =
    record {
      there = fits.there;
      parameters = fits.parameters;
      free = fits.free;
      count = length_set frame.registers register (Some it) ∙ fits.count;
      registers = λ n v id there held.
          ⊎_elim (λ same. within n v id same there held)
          (λ other. fits.registers n v id (sym (get_set_other frame.registers register n (Some it) other) ∙ there) held)
          (same_or_other n register);
      defers = fits.defers;
      recovers = fits.recovers;
      state = fits.state;
    }
  where
    within : (n : ℕ) (v : Val) (id : TypeId) → n ≡ register → slice_get (slice_set frame.registers register (Some it)) n ≡ Some (Some v)
        → slice_get f.registers n ≡ Some id → IsOf c t v id
    within n v id same there held =
        let old = below_get frame.registers register
        (subst (λ count. register < count) (sym fits.count) (get_below f.registers register is.0 is.1.1)) in
        let now : Some it ≡ Some v =
        some_same (Some it) (Some v) (sym (get_set frame.registers register (Some it) old.0 old.1)
        ∙ ap (slice_get (slice_set frame.registers register (Some it))) (sym same) ∙ there) in
        let same_id : is.0 ≡ id = some_same is.0 id (sym is.1.1 ∙ ap (slice_get f.registers) (sym same) ∙ held) in
        subst (λ of. IsOf c t v of) same_id
        (subst (λ v. IsOf c t v is.0) (some_same it v now) (subst (GivesOf c t (Some it)) is.1.0 gives))

pub result_written : (c : Code) (t : Typing) (f : Function) (frame : Frame) (register : Option ℕ) (it : Option Val)
    (of : Option TypeId) → IsRegister f register of → GivesOf c t it of → FrameFits c t f frame → (n : ℕ) → register ≡ Some n
    → IsWritten (with_result register it frame) n
result_written c t f frame None it of is gives fits n e = absurd (none-some n e)
result_written c t f frame (Some register) None of is gives fits n e = absurd (subst (GivesOf c t None) is.1.0 gives)
result_written c t f frame (Some register) (Some it) of is gives fits n e =
    let old = below_get frame.registers register
    (subst (λ count. register < count) (sym fits.count) (get_below f.registers register is.0 is.1.1)) in
    record {
      it = it;
      there = ap (slice_get (slice_set frame.registers register (Some it))) (sym (some_same register n e))
          ∙ get_set frame.registers register (Some it) old.0 old.1;
    }

pub result_same : (register : Option ℕ) (it : Option Val) (frame : Frame) → (with_result register it frame).result ≡ frame.result
result_same (Some register) (Some it) frame = refl
result_same (Some register) None frame = refl
result_same None it frame = refl

-- the frames behind an instruction, where its register gets a value of its type, if it has one
pub frames_behind : (c : Code) (t : Typing) (f : Function) (frame : Frame) (below : List Frame) (instr : Instr) → FrameFits c t f frame
    → Stands f frame None → IsBegun f frame ⊎ IsFresh f frame → Takes c f frame.result below → AreBelow c t frame.result below
    → slice_get (instrs_at f frame.block) frame.place ≡ Some instr → IsInstr f frame.block frame.place instr
    → is_end_op instr.op ≡ false → (it : Option Val) (of : Option TypeId) → IsRegister f instr.register of → GivesOf c t it of
    → AreFrames c t (advanced (with_result instr.register it frame) ∷ below)
frames_behind c t f frame below instr fits stands started takes lower at sane goes_on it of register gives = (
  record {
    function = f;
    fits = moved_fits c t f (with_result instr.register it frame) (with_result instr.register it frame).block
        (suc (with_result instr.register it frame).place) (with_result instr.register it frame).state result result.state;
    stands = top (⊎_elim (λ new. fresh_next f frame instr it started at new)
        (λ old. inl (begun_as f (with_result instr.register it frame) (advanced (with_result instr.register it frame)) refl
        (begun_with f frame instr.register it (begun_at f frame instr stands started at old))))
        (either (is_new instr)));
    takes = subst (λ r. Takes c f r below) (sym (result_same instr.register it frame)) takes;
  },
  subst (λ r. AreBelow c t r below) (sym (result_same instr.register it frame)) lower,
)
  where
    result : FrameFits c t f (with_result instr.register it frame)
    result = result_fits c t f frame instr.register it of register gives fits

    behind : Stands f (advanced (with_result instr.register it frame)) None
    behind =
        next_stands f frame instr stands at sane goes_on it (result_written c t f frame instr.register it of register gives fits)

    top : IsBegun f (advanced (with_result instr.register it frame)) ⊎ IsFresh f (advanced (with_result instr.register it frame))
        → TopStands f (advanced (with_result instr.register it frame))
    top (inl begun_now) = begun behind begun_now
    top (inr new) = fresh behind new

pub behind_fit : (t t' : Typing) (s : Site) (instr : Instr) (site : SiteFits t s instr) → Grows t t'
    → is_end_op instr.op ≡ false → (it : Option Val) → GivesOf s.code t' it site.of
    → AreFrames s.code t' (advanced (with_result instr.register it s.frame) ∷ s.below)
behind_fit t t' s instr site grows goes_on it gives =
    frames_behind s.code t' s.function s.frame s.below instr (frame_grows s.code t t' grows s.function s.frame site.fits) site.stands
    site.started site.takes (below_grow s.code t t' grows s.frame.result s.below site.lower) site.at site.sane goes_on it site.of
    site.register gives

-- the frames of the site may throw where it makes no cell
pub site_throws : (t : Typing) (s : Site) (instr : Instr) → SiteFits t s instr → is_new instr ≡ false
    → MayThrow s.code t (s.frame ∷ s.below)
site_throws t s instr site other =
    record {
      function = s.function;
      fits = site.fits;
      begun = begun_at s.function s.frame instr site.stands site.started site.at other;
      takes = site.takes;
      lower = site.lower;
    }

pub site_meets : (t : Typing) (s : Site) (instr : Instr) → SiteFits t s instr → is_new instr ≡ false → (it : Fault)
    → Safe s.code (meets s.code s.machine it)
site_meets t s instr site other it =
    meets_safe s.code site.safe t s.machine s.goroutine site.machine site.there site.begin site.calm
    (subst (MayThrow s.code t) (sym site.frames) (site_throws t s instr site other)) it

pub goes_behind_safe : (t t' : Typing) (s : Site) (instr : Instr) (site : SiteFits t s instr) → Grows t t'
    → is_end_op instr.op ≡ false → (it : Option Val) (m : Machine) → OpenFits s.code t' m
    → slice_get m.goroutines m.sched.current.number ≡ Some s.goroutine → GivesOf s.code t' it site.of
    → Safe s.code (goes_behind s instr.register it m)
goes_behind_safe t t' s instr site grows goes_on it m fits there gives = (
  t',
  frames_closed s.code t' m s.goroutine (advanced (with_result instr.register it s.frame) ∷ s.below) there fits
      (later_where_grows s.code t t' grows s.goroutine.begin site.begin) site.calm
      (behind_fit t t' s instr site grows goes_on it gives),
)

-- one that makes a cell meets no fault
pub gives_new_safe : (t : Typing) (s : Site) (instr : Instr) (site : SiteFits t s instr) → is_end_op instr.op ≡ false
    → (of : TypeId) → site.of ≡ Some of → (it : Stores) → StoresCome s.code t of (to it)
    → Safe s.code (gives_stored s instr.register (to it))
gives_new_safe t s instr site goes_on of is it comes =
    goes_behind_safe t comes.typing s instr site comes.grows goes_on (Some it.value) (record (s.machine) { store = it.store })
    (store_changed s.code t comes.typing s.machine it.store s.machine.ticks s.machine.output comes.grows comes.chans
    comes.is_store site.machine) site.there
    (subst (GivesOf s.code comes.typing (Some it.value)) (sym is) comes.is_of)

pub gives_stored_safe : (t : Typing) (s : Site) (instr : Instr) (site : SiteFits t s instr) → is_end_op instr.op ≡ false
    → is_new instr ≡ false → (of : TypeId) → site.of ≡ Some of → (it : Comes Stores) → StoresCome s.code t of it
    → Safe s.code (gives_stored s instr.register it)
gives_stored_safe t s instr site goes_on other of is (to it) comes = gives_new_safe t s instr site goes_on of is it comes
gives_stored_safe t s instr site goes_on other of is (faults it) comes = site_meets t s instr site other it
gives_stored_safe t s instr site goes_on other of is nowhere comes = absurd comes

pub gives_value_safe : (t : Typing) (s : Site) (instr : Instr) (site : SiteFits t s instr) → is_end_op instr.op ≡ false
    → is_new instr ≡ false → (of : TypeId) → site.of ≡ Some of → (it : Comes Val) → ValueComes s.code t of it
    → Safe s.code (gives_value s instr.register it)
gives_value_safe t s instr site goes_on other of is it comes =
    gives_stored_safe t s instr site goes_on other of is (then_to (kept s.machine.store) it) (stored it comes)
  where
    stored : (it : Comes Val) → ValueComes s.code t of it → StoresCome s.code t of (then_to (kept s.machine.store) it)
    stored (to it) h =
        record { typing = t; grows = grows_self t; chans = refl; is_store = site.machine.store; is_of = h }
    stored (faults it) h = tt
    stored nowhere h = h

-- an instruction without a register gives nothing
pub no_type : (t : Typing) (s : Site) (instr : Instr) (site : SiteFits t s instr) → instr.register ≡ None → site.of ≡ None
no_type t s instr site none = subst (λ register. IsRegister s.function register site.of) none site.register

pub changes_store_safe : (t : Typing) (s : Site) (instr : Instr) (site : SiteFits t s instr) → is_end_op instr.op ≡ false
    → is_new instr ≡ false → instr.register ≡ None → (it : Comes Stored) → StoreComes s.code t it
    → Safe s.code (changes_store s it)
changes_store_safe t s instr site goes_on other none (to store) comes =
    subst (λ (register : Option ℕ). Safe s.code (goes_behind s register None (record (s.machine) { store = store }))) none
    (goes_behind_safe t t s instr site (grows_self t) goes_on None (record (s.machine) { store = store })
    (store_changed s.code t t s.machine store s.machine.ticks s.machine.output (grows_self t) refl comes site.machine)
    site.there (subst (GivesOf s.code t None) (sym (no_type t s instr site none)) tt))
changes_store_safe t s instr site goes_on other none (faults it) comes = site_meets t s instr site other it
changes_store_safe t s instr site goes_on other none nowhere comes = absurd comes

-- ---- a new channel

last_chan : (c : Code) (t : Typing) (goroutines : List Goroutine) (runnable : List ℕ) (size : ℕ) (chan : Chan) (elem : TypeId)
    → empty_chan size ≡ chan → ChannelFits c t goroutines runnable chan elem
last_chan c t goroutines runnable size chan elem e =
    subst (λ chan. ChannelFits c t goroutines runnable chan elem) e
    (record {
      queue = λ n it is. absurd (none-some it is);
      senders = λ n it is. absurd (none-some it is);
      receivers = λ n it is. absurd (none-some it is);
    })

chan_grows : (t : Typing) (elem : TypeId) → Grows t (with_chan_home elem t)
chan_grows t elem =
    record { cells = λ n home is. is; maps = λ n home is. is; chans = λ n of is. get_front t.chans (elem ∷ []) n of is }

chan_made : (c : Code) (t : Typing) (m : Machine) (elem : TypeId) (size : ℕ) → OpenFits c t m
    → OpenFits c (with_chan_home elem t) (record m { sched = with_new_chan size m.sched })
chan_made c t m elem size fits =
    record {
      others = λ n g is other. goroutine_grows c t (with_chan_home elem t) grows g (fits.others n g is other);
      variables = fits.variables;
      store = record {
        cells = cells_grow c t (with_chan_home elem t) grows m.store.cells t.cells fits.store.cells;
        maps = maps_grow c t (with_chan_home elem t) grows m.store.maps t.maps fits.store.maps;
      };
      sched = record {
        count = fits.sched.count;
        below = fits.sched.below;
        chans = omega (arith, fits.sched.chans, length-append t.chans (elem ∷ []), length-append m.sched.channels (empty_chan size ∷ []));
        channels = λ k chan of there is.
            ⊎_elim (λ old. channel_grows c t (with_chan_home elem t) grows m.goroutines m.sched.runnable chan of
            (fits.sched.channels k chan of old
            (get_within t.chans elem k of
            (subst (λ count. k < count) (sym fits.sched.chans) (get_below m.sched.channels k chan old)) is)))
            (λ e. last_chan c (with_chan_home elem t) m.goroutines m.sched.runnable size chan of e)
            (get_either m.sched.channels (empty_chan size) k chan there);
      };
      current = fits.current;
      starts = fits.starts;
    }
  where
    grows : Grows t (with_chan_home elem t)
    grows = chan_grows t elem

pub gives_channel_safe : (t : Typing) (s : Site) (instr : Instr) (site : SiteFits t s instr) → is_end_op instr.op ≡ false
    → is_new instr ≡ false → (of : TypeId) → site.of ≡ Some of → (it : Comes Channels) → ChannelComes t s of it
    → Safe s.code (gives_channel s instr.register it)
gives_channel_safe t s instr site goes_on other of is (to it) comes =
    goes_behind_safe t (with_chan_home comes.elem t) s instr site (chan_grows t comes.elem) goes_on (Some it.value)
    (record (s.machine) { sched = it.sched })
    (subst (λ sched. OpenFits s.code (with_chan_home comes.elem t) (record (s.machine) { sched = sched })) (sym comes.is_sched)
    (chan_made s.code t s.machine comes.elem comes.size site.machine))
    (ap (λ (sched : State). slice_get s.machine.goroutines sched.current.number) comes.is_sched ∙ site.there)
    (subst (GivesOf s.code (with_chan_home comes.elem t) (Some it.value)) (sym is) comes.fits)
gives_channel_safe t s instr site goes_on other of is (faults it) comes = site_meets t s instr site other it
gives_channel_safe t s instr site goes_on other of is nowhere comes = absurd comes

pub finishes_safe : (t : Typing) (s : Site) (instr : Instr) (site : SiteFits t s instr) → is_end_op instr.op ≡ false
    → is_new instr ≡ false → (it : Comes Done) → DoneComes s.code t site.of it
    → Safe s.code (finishes s instr.register it)
finishes_safe t s instr site goes_on other (to it) comes =
    goes_behind_safe t comes.typing s instr site comes.grows goes_on it.value
    (record (s.machine) { store = it.store; output = s.machine.output ++ it.written })
    (store_changed s.code t comes.typing s.machine it.store s.machine.ticks (s.machine.output ++ it.written) comes.grows
    comes.chans comes.is_store site.machine) site.there comes.is_of
finishes_safe t s instr site goes_on other (faults it) comes = site_meets t s instr site other it
finishes_safe t s instr site goes_on other nowhere comes = absurd comes
