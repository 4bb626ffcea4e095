-- Panics, switch points, and endings. Go specification, "Handling panics", "Run-time panics" and "Go statements".
use Rattle.std.specs.Prelude.{ℕ, zero, suc, ◌&&◌, Bool, true, false, List, [], ◌∷◌, Option, Some, None, map}
use Rattle.std.specs.Prelude.{slice_get}
use Rattle.std.specs.Option.{option_map_or}
use Rattle.go_base.specs.declared.ending.Ending.TheVariants as ending
use Rattle.go_base.specs.declared.ids.FuncId.{FuncId}
use Rattle.go_base.specs.declared.ids.GoId.{GoId}
use Rattle.go_sched.specs.Choices.{next_at, switched}
use Rattle.go_sched.specs.declared.scheduling.Point.{Point}
use Rattle.go_text.specs.Naming.{Naming}
use Rattle.go_tree.specs.declared.functions.FunctionDecl.{FunctionDecl}
use Rattle.go_tree.specs.declared.functions.FunctionForm.{FunctionForm}
use Rattle.go_tree.specs.declared.functions.FunctionForm.TheVariants as form
use Rattle.go_tree.specs.declared.packages.Package.{Package}
use Rattle.go_tree.specs.declared.program.Program.{Program}
use Rattle.go_value.specs.Values.{Val, text, dynamic, nil_interface}
use Rattle.go_value.specs.declared.faults.Fault.{Fault}
use Rattle.go_value.specs.declared.faults.Fault.TheVariants as fault
use Rattle.ssa_mean.specs.Faults.{value_text}
use Rattle.ssa_mean.specs.State.{panicking, Thrown, of_value, of_text}
use Rattle.ssa_mean.specs.Unwinding.{recovered_state, recovered_value}
use Rattle.value_texts.specs.Texts.{fault_string}
use Rattle.go_mean.specs.State.{Setting, Frame, Goroutine, Machine, Next, goes, ends, where_there, current}
use Rattle.go_mean.specs.State.{with_current, with_frames}

-- ---- functions

abbrev pub function_at : Program → FuncId → Option FunctionDecl
function_at p id = slice_get p.functions id.number

-- functions, methods and literals are functions of the source; what initialises a package is none
abbrev pub is_source_form : FunctionForm → Bool
is_source_form form.PackageInit = false
is_source_form _ = true

abbrev pub is_source : Program → Frame → Bool
is_source p frame = option_map_or (λ declared. is_source_form declared.form) (function_at p frame.function) false

abbrev pub naming_of : Program → Naming
naming_of p =
    record { names = p.names; labels = map (λ (it : Package). it.label) p.packages; types = p.types }

-- ---- panics

-- the text of what a panic carries
abbrev pub thrown_text : Program → Thrown → Option (List ℕ)
thrown_text p (of_value it) = value_text (naming_of p) (Some p.error_string) it
thrown_text p (of_text words) = None

-- the run ends where there is no frame
abbrev pub panicked : Setting → Machine → Thrown → Next
panicked s m thrown = where_there (λ words. ends (ending.Panicked words) m) (thrown_text s.program thrown)

-- the top frame panics: what is left of its body is not done any more
abbrev pub throws_from : Setting → Machine → Goroutine → List Frame → Thrown → Next
throws_from s m g [] thrown = panicked s m thrown
throws_from s m g (top ∷ below) thrown =
    goes (with_frames g (record top { state = panicking thrown; work = []; later = []; found = [] } ∷ below) m)

abbrev pub throws : Setting → Machine → Thrown → Next
throws s m thrown = where_there (λ g. throws_from s m g g.frames thrown) (current m)

-- a run-time fault in the current goroutine: a value of the type `errorString` of package `runtime`
abbrev pub fault_value : Program → Fault → Val
fault_value p it = dynamic p.error_string (text (fault_string (naming_of p) it))

abbrev pub meets : Setting → Machine → Fault → Next
meets s m it = throws s m (of_value (fault_value s.program it))

-- a panic with a value; one of a nil interface is a fault
abbrev pub panics_with : Setting → Machine → Val → Next
panics_with s m nil_interface = meets s m fault.PanicNil
panics_with s m it = throws s m (of_value it)

-- ---- ticks and switch points

-- a tick is spent; where none is left the run ends
abbrev pub with_tick : ℕ → Machine → (Machine → Next) → Next
with_tick zero m onward = ends ending.Bound m
with_tick (suc n) m onward = onward (record m { ticks = n })

abbrev pub spends : Machine → (Machine → Next) → Next
spends m onward = with_tick m.ticks m onward

-- a goroutine that goes on meets the fault that waits for it
abbrev pub goes_with : Setting → Machine → Goroutine → Option Fault → Next
goes_with s m g None = goes m
goes_with s m g (Some it) = meets s (with_current (record g { fault = None }) m) it

abbrev pub goes_on : Setting → Machine → Next
goes_on s m = where_there (λ g. goes_with s m g g.fault) (current m)

abbrev pub chosen : Setting → Option GoId → Machine → Next
chosen s None m = ends ending.Deadlock m
chosen s (Some it) m = goes_on s m

-- a tick is spent, and a goroutine is chosen; where none may run, all are asleep
abbrev pub switches : Setting → Point → Machine → Next
switches s point m =
    spends m (λ m. chosen s (next_at point m.sched) (record m { sched = switched point m.sched }))

-- ---- `recover`: it acts in a function of the source that was started as a deferred call of a frame that panics

abbrev pub may_recover : Program → Frame → Bool
may_recover p top = top.deferred && is_source p top

-- what the frame below gives; it returns then
abbrev pub recovered : List Frame → Val
recovered [] = nil_interface
recovered (frame ∷ frames) = recovered_value frame.state

abbrev pub recovering : List Frame → List Frame
recovering [] = []
recovering (frame ∷ frames) = record frame { state = recovered_state frame.state } ∷ frames
