-- The steps of instructions: of each the form that its types ask for.
use Rattle.std.specs.Prelude.{ℕ, Bool, true, false, List, [], ◌∷◌, Option, Some, None, is_some}
use Rattle.std.specs.Prelude.{◌≡◌}
use Rattle.std.specs.List.{AllZip}
use Rattle.std.specs.Option.{option_and_then, option_map}
use Rattle.code_plan.specs.Calls.{IsCall, counted_leaves}
use Rattle.code_plan.specs.Operands.{IsArg, AreArgs, AreBounds, IsTo, IsZero}
use Rattle.code_plan.specs.Registers.{Site, register_slot}
use Rattle.code_plan.specs.declared.steps.Arg.{Arg}
use Rattle.code_plan.specs.declared.steps.ConvertForm.{ConvertForm}
use Rattle.code_plan.specs.declared.steps.ConvertForm.TheVariants as convert
use Rattle.code_plan.specs.declared.steps.CutForm.{CutForm}
use Rattle.code_plan.specs.declared.steps.CutForm.TheVariants as cut
use Rattle.code_plan.specs.declared.steps.PlannedCase.{PlannedCase}
use Rattle.code_plan.specs.declared.steps.PlannedCase.TheVariants as planned_case
use Rattle.code_plan.specs.declared.steps.Step.{Step}
use Rattle.code_plan.specs.declared.steps.Step.TheVariants as act
use Rattle.go_base.specs.declared.ids.BlockId.{BlockId}
use Rattle.go_base.specs.declared.ids.FuncId.{FuncId}
use Rattle.go_base.specs.declared.ids.TypeId.{TypeId}
use Rattle.go_type.specs.Kinds.{kind_of}
use Rattle.go_type.specs.Operators.{int_op_of, shift_of}
use Rattle.go_type.specs.declared.kinds.IntKind.{IntKind}
use Rattle.go_type.specs.declared.operators.BinaryOp.{BinaryOp}
use Rattle.go_type.specs.declared.operators.BinaryOp.TheVariants as binary
use Rattle.go_type.specs.declared.operators.CompareOp.{CompareOp}
use Rattle.go_type.specs.declared.operators.CompareOp.TheVariants as comparison
use Rattle.go_type.specs.declared.operators.UnaryOp.{UnaryOp}
use Rattle.go_type.specs.declared.operators.UnaryOp.TheVariants as unary
use Rattle.go_value.specs.declared.values.BoundTarget.TheVariants as target
use Rattle.ssa_ir.specs.Blocks.{instrs_at}
use Rattle.ssa_ir.specs.declared.code.Function.{Function}
use Rattle.ssa_ir.specs.declared.operands.Operand.{Operand}
use Rattle.ssa_ir.specs.declared.operands.Operand.TheVariants as operand
use Rattle.ssa_ir.specs.declared.ops.Infix.{Infix}
use Rattle.ssa_ir.specs.declared.ops.Infix.TheVariants as infix_of
use Rattle.ssa_ir.specs.declared.ops.Instr.{Instr}
use Rattle.ssa_ir.specs.declared.ops.Op.{Op}
use Rattle.ssa_ir.specs.declared.ops.Op.TheVariants as op
use Rattle.ssa_ir.specs.declared.ops.SelectCase.{SelectCase}
use Rattle.ssa_ir.specs.declared.ops.SelectCase.TheVariants as case
use Rattle.ssa_mean.specs.Conversions.{are_bytes}
use Rattle.ssa_mean.specs.Making.{binds_interface, leaves_of}
use Rattle.ssa_mean.specs.Operands.{function_at, type_of, under, under_in, term_of, pointed_length, element_in}
use Rattle.ssa_mean.specs.Operands.{element_type}
use Rattle.ssa_mean.specs.Ranges.{ranged, key_in, value_in}
use Rattle.ssa_mean.specs.Unwinding.{is_wrapper_kind, phis_first}

-- ---- operators

abbrev pub kind_at : Site → Operand → Option IntKind
kind_at s it = option_and_then (kind_of s.code.types) (type_of s.code s.function it)

-- one on integers in the kind of the left operand, or the sum of two texts
abbrev pub IsOperation : Site → Option ℕ → BinaryOp → Operand → Operand → Step → Type 0
IsOperation s register o left right (act.Shift is_left kind it count slot) =
    (kind_at s left ≡ Some kind) × (shift_of o ≡ Some is_left) × IsArg s left it × IsArg s right count
    × IsTo s register slot
IsOperation s register o left right (act.Arithmetic int_op kind one other slot) =
    (kind_at s left ≡ Some kind) × (shift_of o ≡ None) × (int_op_of o ≡ Some int_op) × IsArg s left one
    × IsArg s right other × IsTo s register slot
IsOperation s register o left right (act.Join one other slot) =
    (o ≡ binary.Add) × IsArg s left one × IsArg s right other × IsTo s register slot
IsOperation s register o left right _ = ⊥

-- whether equal values are asked for, or different ones
abbrev pub wants_equal : CompareOp → Option Bool
wants_equal comparison.Equal = Some true
wants_equal comparison.NotEqual = Some false
wants_equal _ = None

abbrev pub IsComparison : Site → Option ℕ → CompareOp → Operand → Operand → Step → Type 0
IsComparison s register o left right (act.CompareInts o' one other slot) =
    (o' ≡ o) × IsArg s left one × IsArg s right other × IsTo s register slot
IsComparison s register o left right (act.CompareTexts o' one other slot) =
    (o' ≡ o) × IsArg s left one × IsArg s right other × IsTo s register slot
IsComparison s register o left right (act.Equal wanted one other slot) =
    (wants_equal o ≡ Some wanted) × IsArg s left one × IsArg s right other × IsTo s register slot
IsComparison s register o left right _ = ⊥

abbrev pub IsBinary : Site → Option ℕ → Infix → Operand → Operand → Step → Type 0
IsBinary s register (infix_of.Operate o) left right step = IsOperation s register o left right step
IsBinary s register (infix_of.Compare o) left right step = IsComparison s register o left right step

abbrev pub IsUnary : Site → Option ℕ → UnaryOp → Operand → Step → Type 0
IsUnary s register unary.Not it (act.Not arg slot) = IsArg s it arg × IsTo s register slot
IsUnary s register unary.Negate it (act.Negate kind arg slot) =
    (kind_at s it ≡ Some kind) × IsArg s it arg × IsTo s register slot
IsUnary s register unary.Complement it (act.Complement kind arg slot) =
    (kind_at s it ≡ Some kind) × IsArg s it arg × IsTo s register slot
IsUnary s register o it _ = ⊥

-- ---- places

abbrev pub IsIndex : Site → Option ℕ → Operand → Operand → Step → Type 0
IsIndex s register it index (act.Byte whole at slot) = IsArg s it whole × IsArg s index at × IsTo s register slot
IsIndex s register it index (act.Element whole at slot) = IsArg s it whole × IsArg s index at × IsTo s register slot
IsIndex s register it index _ = ⊥

abbrev pub IsIndexAddress : Site → Option ℕ → Operand → Operand → Step → Type 0
IsIndexAddress s register it index (act.ArrayElement whole at len slot) =
    (pointed_length s.code s.function it ≡ Some len) × IsArg s it whole × IsArg s index at × IsTo s register slot
IsIndexAddress s register it index (act.SliceElement whole at slot) =
    IsArg s it whole × IsArg s index at × IsTo s register slot
IsIndexAddress s register it index _ = ⊥

-- what a pointer to an array of a length points to is cut by that length
abbrev pub IsCut : Site → Operand → CutForm → Type 0
IsCut s it (cut.Array len) = pointed_length s.code s.function it ≡ Some len
IsCut s it _ = Unit {0}

-- ---- conversions

abbrev pub IsConversion : Site → TypeId → Operand → ConvertForm → Type 0
IsConversion s of it (convert.Int kind) = kind_of s.code.types of ≡ Some kind
IsConversion s of it convert.IntToText = kind_of s.code.types of ≡ None
IsConversion s of it convert.BytesToText =
    are_bytes s.code.types (element_in (term_of s.code s.function it)) ≡ true
IsConversion s of it convert.RunesToText =
    are_bytes s.code.types (element_in (term_of s.code s.function it)) ≡ false
IsConversion s of it convert.TextToBytes =
    are_bytes s.code.types (element_in (under_in s.code.types (Some of))) ≡ true
IsConversion s of it convert.TextToRunes =
    are_bytes s.code.types (element_in (under_in s.code.types (Some of))) ≡ false

-- ---- what is made

-- whether a function is a wrapper, where there is one
abbrev pub wraps : Site → FuncId → Option Bool
wraps s id = option_map (λ made. is_wrapper_kind made.kind) (function_at s.code id)

abbrev pub binds : Site → FuncId → Option Bool
binds s id = option_map (binds_interface s.code.types) (function_at s.code id)

-- the first of what is captured
abbrev pub IsFirstArg : Site → List Operand → Arg → Type 0
IsFirstArg s [] arg = ⊥
IsFirstArg s (first ∷ others) arg = IsArg s first arg

-- a wrapper binds a receiver; any other function is a closure over what it captures
abbrev pub IsClosure : Site → Option ℕ → FuncId → List Operand → Step → Type 0
IsClosure s register id captured (act.Closure made args slot) =
    (wraps s id ≡ Some false) × (made ≡ id) × AreArgs s captured args.items × IsTo s register slot
IsClosure s register id captured (act.Bind bound is_interface receiver slot) =
    (wraps s id ≡ Some true) × (bound ≡ target.Function id) × (binds s id ≡ Some is_interface)
    × IsFirstArg s captured receiver × IsTo s register slot
IsClosure s register id captured _ = ⊥

-- the leaves of the elements of a type
abbrev pub HasLeaves : Site → TypeId → ℕ → Type 0
HasLeaves s of leaves =
    option_map (λ elem. counted_leaves (leaves_of s.code.types elem)) (element_in (under s.code (Some of)))
    ≡ Some leaves

-- ---- channels and ranges

abbrev pub IsCase : Site → SelectCase → PlannedCase → Type 0
IsCase s (case.Send channel value) (planned_case.Send to it) = IsArg s channel to × IsArg s value it
IsCase s (case.Receive channel) (planned_case.Receive from zero) =
    IsArg s channel from × IsZero s (element_type s.code s.function channel) zero.value
IsCase s _ _ = ⊥

-- the register in which the state of a range is kept
abbrev pub IsRange : Site → Operand → ℕ → Type 0
IsRange s (operand.Register n) slot =
    (slot ≡ register_slot s.function n) × (s.marks.late n ≡ false) × (s.marks.cell n ≡ false)
IsRange s _ slot = ⊥

abbrev pub IsNext : Site → Option ℕ → Operand → Step → Type 0
IsNext s register it (act.NextText range slot) = IsRange s it range × IsTo s register slot
IsNext s register it (act.NextMap range key value slot) =
    IsRange s it range × IsZero s (key_in (ranged s.code (term_of s.code s.function it))) key.value
    × IsZero s (value_in (ranged s.code (term_of s.code s.function it))) value.value × IsTo s register slot
IsNext s register it _ = ⊥

-- ---- blocks: one that does nothing but jump is passed over, where no phi asks from where the block behind it is
-- entered

abbrev pub jump_of : Op → Option BlockId
jump_of (op.Jump to) = Some to
jump_of _ = None

abbrev pub next_of : List Instr → Option BlockId
next_of (only ∷ []) = jump_of only.op
next_of _ = None

pub data LeadsOn (function : Function) : ℕ → ℕ → Type 0 where
  here : (block : ℕ) → LeadsOn function block block
  on : (block to : ℕ) (next : BlockId) → next_of (instrs_at function block) ≡ Some next
      → phis_first (instrs_at function next.number) ≡ 0 → LeadsOn function next.number to
      → LeadsOn function block to

-- ---- the steps of instructions that are no phis

abbrev pub IsToWhere : Site → Option ℕ → Option ℕ → Type 0
IsToWhere s register slot = option_map (register_slot s.function) register ≡ slot

abbrev pub IsStep : Site → Option ℕ → Op → Step → Type 0
IsStep s register (op.New of) (act.New zero slot) = IsZero s (Some of) zero.value × IsTo s register slot
IsStep s register (op.Binary o left right) step = IsBinary s register o left right step
IsStep s register (op.Unary o it) step = IsUnary s register o it step
IsStep s register (op.Load at) (act.Load arg slot) = IsArg s at arg × IsTo s register slot
IsStep s register (op.Store at it) (act.Store to value) = IsArg s at to × IsArg s it value
IsStep s register (op.Field it field) (act.Field arg n slot) = IsArg s it arg × (n ≡ field) × IsTo s register slot
IsStep s register (op.FieldAddress it field) (act.FieldAddress arg n slot) =
    IsArg s it arg × (n ≡ field) × IsTo s register slot
IsStep s register (op.Index it index) step = IsIndex s register it index step
IsStep s register (op.IndexAddress it index) step = IsIndexAddress s register it index step
IsStep s register (op.Lookup it key comma_ok) (act.Lookup table arg zero with_ok slot) =
    IsArg s it table × IsArg s key arg × IsZero s (element_type s.code s.function it) zero.value
    × (with_ok ≡ comma_ok) × IsTo s register slot
IsStep s register (op.Update it key new) (act.Update table arg value) =
    IsArg s it table × IsArg s key arg × IsArg s new value
IsStep s register (op.Slice it low high max) (act.Cut form whole bounds slot) =
    IsCut s it form × IsArg s it whole × AreBounds s low high max bounds.value × IsTo s register slot
IsStep s register (op.Convert of it) (act.Convert form arg slot) =
    IsConversion s of it form × IsArg s it arg × IsTo s register slot
IsStep s register (op.ChangeType of it) (act.Keep arg slot) = IsArg s it arg × IsTo s register slot
IsStep s register (op.ChangeInterface of it) (act.Keep arg slot) = IsArg s it arg × IsTo s register slot
IsStep s register (op.MakeInterface to it) (act.MakeInterface of arg slot) =
    (type_of s.code s.function it ≡ Some of) × IsArg s it arg × IsTo s register slot
IsStep s register (op.MakeClosure id captured) step = IsClosure s register id captured step
IsStep s register (op.MakeMap of) (act.MakeMap slot) = IsTo s register slot
IsStep s register (op.MakeChan of size) (act.MakeChan leaves arg slot) =
    HasLeaves s of leaves × IsArg s size arg × IsTo s register slot
IsStep s register (op.MakeSlice of len cap) (act.MakeSlice zero leaves one other slot) =
    IsZero s (element_in (under s.code (Some of))) zero.value × HasLeaves s of leaves × IsArg s len one
    × IsArg s cap other × IsTo s register slot
IsStep s register (op.TypeAssert it of comma_ok) (act.Assert arg wanted zero with_ok slot) =
    IsArg s it arg × (wanted ≡ of) × IsZero s (Some of) zero.value × (with_ok ≡ comma_ok) × IsTo s register slot
IsStep s register (op.Call call) (act.Call planned slot) = IsCall s call planned × IsToWhere s register slot
IsStep s register (op.Go call) (act.Go planned) = IsCall s call planned
IsStep s register (op.Defer call) (act.Defer planned) =
    IsCall s call planned × (is_some s.function.recover ≡ true)
IsStep s register op.RunDefers act.RunDefers = Unit {0}
IsStep s register (op.Send channel it) (act.Send to value) = IsArg s channel to × IsArg s it value
IsStep s register (op.Receive channel comma_ok) (act.Receive from zero with_ok slot) =
    IsArg s channel from × IsZero s (element_type s.code s.function channel) zero.value × (with_ok ≡ comma_ok)
    × IsTo s register slot
IsStep s register (op.Select blocking cases) (act.Select blocks planned slot) =
    (blocks ≡ blocking) × AllZip (IsCase s) cases planned.items × IsTo s register slot
IsStep s register (op.Range it) (act.Range arg slot) = IsArg s it arg × IsTo s register slot
IsStep s register (op.Next it) step = IsNext s register it step
IsStep s register (op.Extract it part) (act.Extract arg n slot) =
    IsArg s it arg × (n ≡ part) × IsTo s register slot
IsStep s register op.Tick act.Tick = Unit {0}
IsStep s register (op.Jump to) (act.Jump block) = LeadsOn s.function to.number block
IsStep s register (op.If test then_to else_to) (act.If arg one other) =
    IsArg s test arg × LeadsOn s.function then_to.number one × LeadsOn s.function else_to.number other
IsStep s register (op.Return results) (act.Return args) = AreArgs s results args.items
IsStep s register (op.Panic it) (act.Panic arg) = IsArg s it arg
IsStep s register _ _ = ⊥
