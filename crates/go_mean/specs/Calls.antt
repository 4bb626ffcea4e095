-- Calls. Go specification, "Calls", "Method sets", "Method values", "Method expressions", "Defer statements", "Go
-- statements" and "Return statements".
use Rattle.std.specs.Prelude.{ℕ, zero, suc, ◌==◌, ◌&&◌, Bool, true, false, not, List, [], ◌∷◌, ◌++◌, pos}
use Rattle.std.specs.Prelude.{Option, Some, None, nat_le, length, slice_get, unsigned_abs, if◌then◌else◌, codes}
use Rattle.std.specs.Int.{int_rem_euclid}
use Rattle.std.specs.List.{filter}
use Rattle.std.specs.Option.{option_and_then, option_flatten}
use Rattle.std.specs.Str.{bytes_eq}
use Rattle.go_base.specs.declared.ending.Ending.TheVariants as ending
use Rattle.go_base.specs.declared.ids.FuncId.{FuncId}
use Rattle.go_base.specs.declared.ids.NameId.{NameId}
use Rattle.go_base.specs.declared.ids.TypeId.{TypeId}
use Rattle.go_base.specs.declared.ids.VarId.{VarId}
use Rattle.go_base.specs.declared.place.Pos.{Pos}
use Rattle.go_sched.specs.Goroutines.{spawned}
use Rattle.go_sched.specs.declared.scheduling.Point.TheVariants as point
use Rattle.go_store.specs.Cells.{value_at}
use Rattle.go_store.specs.Stores.{Stored}
use Rattle.go_tree.specs.declared.functions.FunctionDecl.{FunctionDecl}
use Rattle.go_tree.specs.declared.functions.FunctionForm.{FunctionForm}
use Rattle.go_tree.specs.declared.functions.FunctionForm.TheVariants as form
use Rattle.go_tree.specs.declared.program.Body.{Body}
use Rattle.go_tree.specs.declared.program.InitStep.{InitStep}
use Rattle.go_tree.specs.declared.program.Program.{Program}
use Rattle.go_type.specs.MethodSets.{entry_of}
use Rattle.go_type.specs.Selector.{is_pointer, is_declared_pointer, selected_at}
use Rattle.go_type.specs.Table.{Table, term_at, is_blank}
use Rattle.go_type.specs.declared.members.Member.{Member}
use Rattle.go_type.specs.declared.members.Wanted.{Wanted}
use Rattle.go_type.specs.declared.methods.MethodEntry.{MethodEntry}
use Rattle.go_type.specs.declared.methods.SelectionKind.{SelectionKind}
use Rattle.go_type.specs.declared.methods.SelectionKind.TheVariants as kind
use Rattle.go_type.specs.declared.term.Field.{Field}
use Rattle.go_type.specs.declared.term.TypeTerm.{TypeTerm}
use Rattle.go_type.specs.declared.term.TypeTerm.TheVariants as term
use Rattle.go_value.specs.Address.{part_of}
use Rattle.go_value.specs.Interfaces.{is_interface_type}
use Rattle.go_value.specs.Values.{Val, number, pointer, nil_function, closure, bound, expression, nil_interface}
use Rattle.go_value.specs.Values.{dynamic}
use Rattle.go_value.specs.Values.{parts, none}
use Rattle.go_value.specs.declared.address.Pointer.{Pointer}
use Rattle.go_value.specs.declared.faults.Fault.{Fault}
use Rattle.go_value.specs.declared.faults.Fault.TheVariants as fault
use Rattle.go_value.specs.declared.values.BoundTarget.TheVariants as target
use Rattle.ssa_mean.specs.Comes.{Comes, to, faults, nowhere, then_to, of_option}
use Rattle.ssa_mean.specs.Operands.{under_in}
use Rattle.ssa_mean.specs.Places.{load, followed}
use Rattle.ssa_mean.specs.State.{running}
use Rattle.tree_facts.specs.FunctionNames.{function_text}
use Rattle.go_mean.specs.Places.{Changed, begun, begun_zeros, bound as binds}
use Rattle.go_mean.specs.State.{Setting, Callee, of_function, of_method, of_expression, of_nil, Readied}
use Rattle.go_mean.specs.State.{Later, rest, initialise, start, Binding, in_cell, Frame, Goroutine}
use Rattle.go_mean.specs.State.{Machine}
use Rattle.go_mean.specs.State.{Next, goes, ends, stuck, where_there, current, with_frames}
use Rattle.go_mean.specs.Unwinding.{is_source, naming_of, meets, spends, switches}

-- ---- "Method sets": the method of a name, at the shallowest depth where there is one

abbrev pub or_else : List Member → List Member → List Member
or_else [] others = others
or_else (member ∷ members) others = member ∷ members

abbrev pub shallowest : ℕ → ℕ → Table → Wanted → TypeId → List Member
shallowest zero depth types wanted of = []
shallowest (suc more) depth types wanted of =
    or_else (selected_at depth types wanted of) (shallowest more (suc depth) types wanted of)

-- fields lead through no type twice on the way to a shallowest method
abbrev pub members_of : Table → Wanted → TypeId → List Member
members_of types wanted of = shallowest (suc (length types.terms)) 0 types wanted of

abbrev pub is_field_kind : SelectionKind → Bool
is_field_kind kind.Field = true
is_field_kind _ = false

-- one with a pointer receiver is in the set where the type is a pointer or an embedded pointer leads to it
abbrev pub is_in_set : Member → Bool
is_in_set member = not (is_field_kind member.kind) && (if member.pointer then member.indirect else true)

abbrev pub entry_among : Wanted → List Member → Option MethodEntry
entry_among wanted (member ∷ []) = if is_in_set member then Some (entry_of wanted member) else None
entry_among wanted _ = None

abbrev pub has_methods : Table → TypeId → Bool
has_methods types of = not (is_declared_pointer types of)

-- the method of a name in the method set of a type
unfoldable pub method_of : Table → TypeId → Wanted → Option MethodEntry
method_of types of wanted =
    if has_methods types of && not (is_blank types wanted.name) then entry_among wanted (members_of types wanted of)
    else None

-- ---- the receiver: the value in an interface, or a part of it to which embedded fields lead; embedded pointers are
-- followed

pub data Receiver : Type 0 where
  held_value : Val → Receiver
  held_at : Pointer → Receiver

pub record Standing : Type 0 where
  pub receiver : Receiver
  pub of : TypeId

-- what a selection comes to: a function with its receiver; a fault; more embedded interfaces than a run passes
pub data Selected : Type 0 where
  selects : FuncId → Val → Selected
  selects_fault : Fault → Selected
  selects_too_deep : Selected
  selects_nothing : Selected

abbrev pub where_comes : {A : Type 0} → (A → Selected) → Comes A → Selected
where_comes onward (to it) = onward it
where_comes onward (faults it) = selects_fault it
where_comes onward nowhere = selects_nothing

abbrev pub where_found : {A : Type 0} → (A → Selected) → Option A → Selected
where_found onward (Some it) = onward it
where_found onward None = selects_nothing

-- a value of a pointer type is what it points to
abbrev pub begins_as : Option TypeTerm → TypeId → Val → Standing
begins_as (Some (term.Pointer base)) of (pointer at) = record { receiver = held_at at; of = base }
begins_as _ of it = record { receiver = held_value it; of = of }

abbrev pub loaded_as : Table → TypeId → Val → Standing
loaded_as types of it = begins_as (term_at types of) of it

abbrev pub field_in : Option TypeTerm → ℕ → Option Field
field_in (Some (term.Struct fields)) n = slice_get fields n
field_in _ n = None

-- where a field of a type is
abbrev pub at_field : Table → Stored → Receiver → ℕ → TypeId → Comes Standing
at_field types store (held_value it) n of = then_to (loaded_as types of) (of_option (value_at it n))
at_field types store (held_at at) n of =
    if is_pointer (term_at types of) then then_to (loaded_as types of) (load store (pointer (part_of at n)))
    else followed at (to (record { receiver = held_at (part_of at n); of = of }))

abbrev pub along : Table → Stored → List ℕ → Standing → (Standing → Selected) → Selected
along types store [] at onward = onward at
along types store (n ∷ path) at onward =
    where_found (λ (field : Field).
    where_comes (λ inner. along types store path inner onward) (at_field types store at.receiver n field.of))
    (field_in (under_in types (Some at.of)) n)

-- the value there is
abbrev pub value_held : Stored → Receiver → Comes Val
value_held store (held_value it) = to it
value_held store (held_at at) = load store (pointer at)

-- the receiver of a method with a pointer receiver is the address
abbrev pub receiver_of : Stored → Bool → Receiver → Comes Val
receiver_of store true (held_at at) = to (pointer at)
receiver_of store true (held_value it) = nowhere
receiver_of store false receiver = value_held store receiver

-- ---- "Selectors": which function a method of a value is. One that is promoted through an embedded interface is a
-- method of the value in that interface; a selection passes at most 100,000 of them

abbrev pub most_passed : ℕ
most_passed = 100000

abbrev pub selected_by : Stored → (Val → Selected) → MethodEntry → SelectionKind → Standing → Selected
selected_by store pass entry (kind.Method function) at =
    where_comes (selects function) (receiver_of store entry.pointer at.receiver)
selected_by store pass entry kind.InterfaceMethod at = where_comes pass (value_held store at.receiver)
selected_by store pass entry kind.Field at = selects_nothing

abbrev pub selected_with : Table → Stored → (Val → Selected) → TypeId → Val → MethodEntry → Selected
selected_with types store pass of it entry =
    along types store entry.path (loaded_as types of it) (selected_by store pass entry entry.kind)

-- the method of an interface value; n more interfaces may be passed
abbrev pub selected_to : ℕ → Table → Stored → Wanted → Val → Selected
selected_to n types store wanted nil_interface = selects_fault fault.NilPointer
selected_to zero types store wanted (dynamic of it) =
    where_found (selected_with types store (λ inner. selects_too_deep) of it) (method_of types of wanted)
selected_to (suc n) types store wanted (dynamic of it) =
    where_found (selected_with types store (selected_to n types store wanted) of it) (method_of types of wanted)
selected_to n types store wanted _ = selects_nothing

unfoldable pub selected : Table → Stored → Wanted → Val → Selected
selected types store wanted it = selected_to most_passed types store wanted it

-- "Method expressions": the method of the value of a type, which may be an interface
abbrev pub selected_of : Table → Stored → Wanted → TypeId → Val → Selected
selected_of types store wanted of it =
    if is_interface_type types of then selected types store wanted it
    else selected types store wanted (dynamic of it)

abbrev pub wanted : NameId → ℕ → Wanted
wanted name package_number = record { name = name; «package» = package_number }

-- ---- what is called

-- a function value with its arguments: nil; a function; a method with its receiver; a method expression
abbrev pub with_callee : FuncId → Pos → Callee → List Val → Readied
with_callee caller site callee arguments =
    record { callee = callee; arguments = arguments; caller = caller; site = site }

abbrev pub called_value : Val → List Val → Option (Callee × List Val)
called_value nil_function arguments = Some (of_nil, arguments)
called_value (closure id captured) arguments = Some (of_function id captured, arguments)
called_value (bound (target.Function id) receiver) arguments = Some (of_function id [], receiver ∷ arguments)
called_value (bound (target.Interface name package_number) receiver) arguments =
    Some (of_method name package_number, receiver ∷ arguments)
called_value (expression of name package_number) arguments = Some (of_expression of name package_number, arguments)
called_value _ arguments = None

-- ---- the entry of a function

abbrev pub body_at : Program → FuncId → Option Body
body_at p id = option_flatten (slice_get p.bodies id.number)

-- captured variables are in the cells that the function value holds
abbrev pub capturing : List VarId → List Pointer → List Binding → Option (List Binding)
capturing [] [] env = Some env
capturing (v ∷ vs) (at ∷ cells) env = capturing vs cells (binds v (in_cell at) env)
capturing _ _ env = None

-- parameters have the values of the arguments
abbrev pub passing : Program → FuncId → List VarId → List Val → Changed → Option Changed
passing p id [] [] at = Some at
passing p id (v ∷ vs) (it ∷ arguments) at = passing p id vs arguments (begun p id v it at.store at.env)
passing p id _ _ at = None

-- results begin with the zero values of their types
abbrev pub begun_body : Program → FuncId → Body → List Pointer → List Val → Stored → Option Changed
begun_body p id body captured arguments store =
    option_and_then (passing p id body.params arguments)
    (option_and_then (λ env. begun_zeros p id store env body.results) (capturing body.captured captured []))

abbrev pub new_frame : FuncId → List Binding → List Later → Bool → Frame
new_frame id env later deferred =
    record {
      function = id;
      env = env;
      work = [];
      later = later;
      found = [];
      tuple = parts none;
      defers = [];
      state = running;
      deferred = deferred;
    }

-- a frame on top
abbrev pub pushed : Frame → Machine → Next
pushed frame m = where_there (λ g. goes (with_frames g (frame ∷ g.frames) m)) (current m)

abbrev pub enters_with : FuncId → Body → Bool → Machine → Changed → Next
enters_with id body deferred m at =
    pushed (new_frame id at.env (rest body.block.statements.items ∷ []) deferred) (record m { store = at.store })

-- a goroutine holds at most 100,000 frames of functions of the source
abbrev pub most_frames : ℕ
most_frames = 100000

abbrev pub is_full : Program → Goroutine → Bool
is_full p g = nat_le most_frames (length (filter (is_source p) g.frames))

-- the limit is asked first, and then a tick is spent
abbrev pub enters_body : Setting → Machine → FuncId → Body → List Pointer → List Val → Bool → Goroutine → Next
enters_body s m id body captured arguments deferred g =
    if is_full s.program g then ends ending.StackOverflow m
    else spends m (λ m. where_there (enters_with id body deferred m)
    (begun_body s.program id body captured arguments m.store))

-- `os.Exit`: its argument modulo 256
abbrev pub exits : Machine → List Val → Next
exits m (number status ∷ []) = ends (ending.Exited (unsigned_abs (int_rem_euclid status (pos 256)))) m
exits m _ = stuck

-- `os.Exit` and `runtime.Gosched` have no bodies
abbrev pub enters_built_in : Setting → Machine → List ℕ → List Val → Next
enters_built_in s m name arguments =
    if bytes_eq name (codes "os.Exit") then exits m arguments
    else (if bytes_eq name (codes "runtime.Gosched") then switches s point.Yield m else stuck)

abbrev pub enters_function : Setting → Machine → FuncId → Option Body → List Pointer → List Val → Bool → Next
enters_function s m id None captured arguments deferred =
    enters_built_in s m (function_text (naming_of s.program) s.program.functions id.number) arguments
enters_function s m id (Some body) captured arguments deferred =
    where_there (enters_body s m id body captured arguments deferred) (current m)

unfoldable pub enters : Setting → Machine → FuncId → List Pointer → List Val → Bool → Next
enters s m id captured arguments deferred =
    enters_function s m id (body_at s.program id) captured arguments deferred

-- a call is noted before it is made
abbrev pub noted : FuncId → Readied → Machine → Machine
noted id it m = record m { calls = m.calls ++ record { caller = it.caller; site = it.site; callee = id } ∷ [] }

abbrev pub calls : Setting → Machine → Readied → Bool → FuncId → List Pointer → List Val → Next
calls s m it deferred id captured arguments = enters s (noted id it m) id captured arguments deferred

abbrev pub calls_selected : Setting → Machine → Readied → Bool → List Val → Selected → Next
calls_selected s m it deferred arguments (selects id receiver) = calls s m it deferred id [] (receiver ∷ arguments)
calls_selected s m it deferred arguments (selects_fault fault) = meets s m fault
calls_selected s m it deferred arguments selects_too_deep = ends ending.StackOverflow m
calls_selected s m it deferred arguments selects_nothing = stuck

-- a method of the first argument
abbrev pub calls_method : Setting → Machine → Readied → Bool → (Val → Selected) → List Val → Next
calls_method s m it deferred select [] = stuck
calls_method s m it deferred select (receiver ∷ arguments) =
    calls_selected s m it deferred arguments (select receiver)

-- ---- what initialises a package: its variables, and then its functions named `init`

abbrev pub is_init_form : FunctionForm → Bool
is_init_form form.Init = true
is_init_form _ = false

abbrev pub is_init_of : ℕ → FunctionDecl → Bool
is_init_of package_number declared = is_init_form declared.form && (declared.«package» == package_number)

abbrev pub inits_from : ℕ → ℕ → List FunctionDecl → List Later
inits_from n package_number [] = []
inits_from n package_number (declared ∷ others) =
    if is_init_of package_number declared
    then start (record { number = n }) declared.at ∷ inits_from (suc n) package_number others
    else inits_from (suc n) package_number others

abbrev pub init_steps : ℕ → List InitStep → List Later
init_steps package_number [] = []
init_steps package_number (step ∷ steps) =
    if step.«package» == package_number then initialise step ∷ init_steps package_number steps
    else init_steps package_number steps

abbrev pub initialising : Program → ℕ → List Later
initialising p package_number = init_steps package_number p.initialisers ++ inits_from 0 package_number p.functions

-- what goroutine 0 calls: what initialises a package spends no tick
abbrev pub starts_with : Setting → Machine → FuncId → FunctionDecl → FunctionForm → Next
starts_with s m id declared form.PackageInit =
    pushed (new_frame id [] (initialising s.program declared.«package») false) m
starts_with s m id declared _ = enters s m id [] [] false

-- ---- goroutines

-- a new goroutine, which begins with a call
abbrev pub with_new : Readied → Machine → Machine
with_new it m =
    record m {
      goroutines = m.goroutines ++ record { frames = []; begin = Some it; fault = None } ∷ [];
      sched = spawned m.sched;
    }
