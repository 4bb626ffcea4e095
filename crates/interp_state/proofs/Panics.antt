-- A frame that panics, and a run that ends by a panic.
use Rattle.std.proofs.Common.{◌≡◌, ◌∙◌, ◌∷◌, ◌++◌, ℕ, List, Some, None, ap, sym, subst, Global}
use Rattle.std.specs.Prelude.{codes, Result, Ok, Err, IfOk}
use Rattle.std.specs.declared.rc.Rc.{Rc}
use Rattle.code_plan.specs.declared.steps.Plan.{Plan}
use Rattle.go_base.specs.declared.ids.TypeId.{TypeId}
use Rattle.go_text.specs.Naming.{Naming}
use Rattle.go_value.specs.Values.{Val, Typed, dynamic, text, value_of}
use Rattle.go_value.specs.declared.faults.Fault.{Fault}
use Rattle.go_value.specs.declared.faults.Fault.TheVariants as fault
use Rattle.go_value.specs.declared.values.Value.{Value}
use Rattle.go_value.specs.declared.values.Value.TheVariants as values
use Rattle.interp_state.proofs.Tops.{below_of, frames_are, no_frames, with_top_is, with_current_in}
use Rattle.interp_state.proofs.Turns.{goes_to}
use Rattle.interp_state.specs.Machines.{frame_of, machine_of}
use Rattle.interp_state.specs.Turns.{IsIn, ComesTo, Meets, Steps}
use Rattle.interp_state.specs.declared.frames.Frame.{Frame}
use Rattle.interp_state.specs.declared.machine.Machine.{Machine}
use Rattle.interp_state.specs.declared.machine.Met.TheVariants as met
use Rattle.interp_state.specs.declared.machine.Turn.{Turn}
use Rattle.interp_state.specs.declared.machine.Turn.TheVariants as turn
use Rattle.plan_mean.specs.State as meant
use Rattle.plan_mean.specs.State.{World, Next, goes, with_frames}
use Rattle.plan_mean.specs.Unwinding.{at_recovery, throws, throws_from, panicked, panics_with, shown, thrown_by}
use Rattle.ssa_mean.specs.Faults.{naming_of, thrown_with, value_text}
use Rattle.ssa_mean.specs.Runes.{as_characters}
use Rattle.ssa_mean.specs.Texts.{panic_text}
use Rattle.value_texts.specs.Texts.{fault_string, panic_string}
use Rattle.ssa_mean.specs.State as code

-- the top frame panics
pub threw : (result : Turn) (old new : Machine) (top after : Frame) (thrown : code.Thrown) → result ≡ turn.Goes
    → old.current.top ≡ Some top → new ≡ record old { current = record (old.current) { top = Some after } }
    → frame_of after ≡ record (at_recovery (frame_of top)) { state = code.panicking thrown }
    → Steps result old new (λ w. throws w thrown (machine_of old))
threw result old new top after thrown is was changed stands =
    record {
      comes = λ w within. goes_to w result new (throws w thrown (machine_of old)) is
          (with_current_in w old new (record (old.current) { top = Some after }) changed within)
          (ap (throws_from w thrown (machine_of old)) (frames_are old.current top was)
          ∙ ap (λ frame. goes (with_frames (frame ∷ below_of old.current) (machine_of old))) (sym stands)
          ∙ ap goes (sym (with_top_is old new after changed)));
    }

-- where there is no frame the run ends
pub threw_none : (result : Turn) (old new : Machine) (thrown : code.Thrown) → old.current.top ≡ None
    → Steps result old new (λ w. panicked w thrown (machine_of old))
    → Steps result old new (λ w. throws w thrown (machine_of old))
threw_none result old new thrown none ends =
    record {
      comes = λ w within. subst (λ (next : Next). ComesTo w result new next)
          (sym (ap (throws_from w thrown (machine_of old)) (no_frames old.current none))) (ends.comes w within);
    }

-- ---- what a fault throws

-- a value in an interface
pub interface_of : (it : Rc Typed Global) (of : TypeId) (held : Value) (inner : Val)
    → it.value ≡ record { of = of; value = value_of held } → value_of held ≡ inner
    → value_of (values.Interface it) ≡ dynamic of inner
interface_of it of held inner is holds =
    ap (λ (d : Typed). dynamic d.of d.value) is ∙ ap (dynamic of) holds

-- the string of a fault in a world
words_in : (w : World) (m : Machine) (fault : Fault) (words : List ℕ) → IsIn w m
    → words ≡ fault_string (naming_of m.code.now) fault → words ≡ fault_string w.naming fault
words_in w m fault words within is = is ∙ ap (λ (n : Naming). fault_string n fault) within.naming

pub thrown_value : (w : World) (m : Machine) (fault : Fault) (words : List ℕ) (of : TypeId) (it : Val) → IsIn w m
    → words ≡ fault_string (naming_of m.code.now) fault → m.plan.now.error_string ≡ Some of → it ≡ dynamic of (text words)
    → code.of_value it ≡ thrown_by w fault
thrown_value w m fault words of it within says known is =
    ap code.of_value is
    ∙ ap (λ words. code.of_value (dynamic of (text words))) (words_in w m fault words within says)
    ∙ sym (ap (λ known. shown (thrown_with (fault_string w.naming fault) known))
    (ap (λ (plan : Plan). plan.error_string) (sym within.plan) ∙ known))

pub thrown_text : (w : World) (m : Machine) (fault : Fault) (words bytes it : List ℕ) → IsIn w m
    → words ≡ fault_string (naming_of m.code.now) fault → m.plan.now.error_string ≡ None → bytes ≡ words
    → it ≡ as_characters (codes "runtime error: " ++ bytes) → code.of_text it ≡ thrown_by w fault
thrown_text w m fault words bytes it within says unknown same is =
    ap code.of_text is
    ∙ ap (λ words. code.of_text (as_characters (codes "runtime error: " ++ words)))
    (same ∙ words_in w m fault words within says)
    ∙ sym (ap (λ known. shown (thrown_with (fault_string w.naming fault) known))
    (ap (λ (plan : Plan). plan.error_string) (sym within.plan) ∙ unknown))

-- ---- the text of a panic

line_is : (w : World) (m : Machine) (it : Value) (held : Rc Typed Global) (inner : Typed) (bytes : List ℕ) → IsIn w m
    → it ≡ values.Interface held → inner ≡ held.value
    → bytes ≡ panic_string (naming_of m.code.now) m.plan.now.error_string inner
    → value_text w.naming w.plan.error_string (value_of it) ≡ Some (as_characters bytes)
line_is w m it held inner bytes within is same says =
    let inside : value_of it ≡ dynamic inner.of inner.value = ap value_of is ∙ ap (λ (d : Typed). dynamic d.of d.value) (sym same) in
    let told : bytes ≡ panic_text w.naming w.plan.error_string inner.of inner.value =
    says ∙ ap (λ (n : Naming). panic_string n m.plan.now.error_string inner) within.naming
    ∙ ap (λ (plan : Plan). panic_string w.naming plan.error_string inner) within.plan in
    ap (value_text w.naming w.plan.error_string) inside ∙ ap (λ bytes. Some (as_characters bytes)) (sym told)

pub line_told : {E : Type 0} (given : Result (List ℕ) E) (m : Machine) (it : Value) (held : Rc Typed Global) (inner : Typed)
    (bytes seen : List ℕ) → it ≡ values.Interface held → inner ≡ held.value
    → bytes ≡ panic_string (naming_of m.code.now) m.plan.now.error_string inner → seen ≡ bytes
    → IfOk given (λ line. line ≡ as_characters seen)
    → IfOk given (λ line. (w : World) → IsIn w m → value_text w.naming w.plan.error_string (value_of it) ≡ Some line)
line_told (Ok line) m it held inner bytes seen is same says alike h =
    λ w within. line_is w m it held inner bytes within is same says ∙ ap Some (sym (h ∙ ap as_characters alike))
line_told (Err e) m it held inner bytes seen is same says alike h = h

-- ---- a panic with a value

pub panics_nil : (result : Turn) (old new : Machine) (it : Value) → it ≡ values.NilInterface
    → Meets (met.Fault fault.PanicNil) result old new
    → Steps result old new (λ w. panics_with w (machine_of old) (value_of it))
panics_nil result old new it is step =
    record {
      comes = λ w within. subst (λ (next : Next). ComesTo w result new next)
          (sym (ap (panics_with w (machine_of old)) (ap value_of is))) (step.comes w within);
    }

thrown_so : (w : World) (m : meant.Machine) (it : Val) (of : TypeId) (inner : Val) → it ≡ dynamic of inner
    → panics_with w m it ≡ throws w (code.of_value it) m
thrown_so w m it of inner is =
    ap (panics_with w m) is ∙ sym (ap (λ (it : Val). throws w (code.of_value it) m) is)

pub panics_dynamic : (result : Turn) (old new : Machine) (it : Value) (held : Rc Typed Global)
    → it ≡ values.Interface held → Steps result old new (λ w. throws w (code.of_value (value_of it)) (machine_of old))
    → Steps result old new (λ w. panics_with w (machine_of old) (value_of it))
panics_dynamic result old new it held is step =
    record {
      comes = λ w within. subst (λ (next : Next). ComesTo w result new next)
          (sym (thrown_so w (machine_of old) (value_of it) held.value.of held.value.value
          (ap value_of is)))
          (step.comes w within);
    }
