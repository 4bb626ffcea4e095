-- What receives and selects give, and how those that waited go on.
use Rattle.std.proofs.Common.{◌≡◌, ◌⊎◌, inl, inr, ⊎_elim, ◌+◌, ◌==◌, ℕ, suc, Bool, true, false, true≢false, List, [], ◌∷◌, Option, Some, None, is_some, refl, sym, subst, ap, ◌∙◌, slice_get, slice_set, option_map, arith}
use Rattle.std.proofs.lemmas.Option.{none-some, cond_some}
use Rattle.std.specs.Cmp.{unsigned_Decides}
use Rattle.std.specs.List.{list_all}
use Rattle.std.specs.Option.{option_and_then}
use Rattle.ssa_runnable.specs.Runnable.{runs_op, has_zero, receives_zero}
use Rattle.code_safety.specs.Safety.{IsSafe}
use Rattle.code_safety.proofs.Available.{sane_of, typed_of, begun_at}
use Rattle.code_safety.proofs.Forms.{number_fits}
use Rattle.code_safety.proofs.Going.{frames_behind, result_same}
use Rattle.code_safety.proofs.Lists.{some_same, get_set, get_set_other}
use Rattle.code_safety.proofs.Machines.{OpenFits, GoroutineFits, WaitsAt, MaySend, MayReceive, ReceivesFrom}
use Rattle.code_safety.proofs.Machines.{GoOn, GivesOf, FrameFits, Stands, IsBegun, IsFresh, TopStands, fresh, begun, lost, Takes, AreBelow, AreFrames, is_panicking}
use Rattle.code_safety.proofs.Members.{both, same_or_other}
use Rattle.code_safety.proofs.Opening.{sched_with, waits_with}
use Rattle.code_safety.proofs.Operands.{shape_term}
use Rattle.code_safety.proofs.Outcomes.{HowFits, WokenFits, IsOther, AreWoken}
use Rattle.code_safety.proofs.Sames.{is_of_alike}
use Rattle.code_safety.proofs.Sites.{IsRegister}
use Rattle.code_safety.proofs.Terms.{never, same_is, basic_term, tuple_term, truth_fits, ok_fits, there}
use Rattle.code_safety.proofs.Throwing.{moved_fits, begun_as}
use Rattle.code_safety.proofs.Places.{id_is}
use Rattle.code_safety.proofs.Values.{Typing, Fits, PartsFit, IsOf, under_of}
use Rattle.code_safety.proofs.Zeros.{zero_fits}
use Rattle.go_base.specs.declared.ids.TypeId.{TypeId}
use Rattle.go_sched.specs.Operations as operations
use Rattle.go_sched.specs.Operations.{How, Woken, receives, selects}
use Rattle.go_type.specs.Kinds.{kind_of_term}
use Rattle.go_type.specs.Same.{same_id, same_id-Decides}
use Rattle.go_type.specs.Table.{term_at, basic_id}
use Rattle.go_type.specs.declared.term.Basic.TheVariants as basic
use Rattle.go_type.specs.declared.term.Dir.{Dir}
use Rattle.go_type.specs.declared.term.TypeTerm.{TypeTerm}
use Rattle.go_type.specs.declared.term.TypeTerm.TheVariants as term
use Rattle.go_value.specs.Values.{Val, Parts, none, part, truth, number, parts}
use Rattle.go_value.specs.declared.faults.Fault.{Fault}
use Rattle.go_value.specs.declared.faults.Fault.TheVariants as fault
use Rattle.ssa_ir.specs.Blocks.{instrs_at, is_end_op}
use Rattle.ssa_ir.specs.declared.code.Code.{Code}
use Rattle.ssa_ir.specs.declared.code.Function.{Function}
use Rattle.ssa_ir.specs.declared.operands.Operand.{Operand}
use Rattle.ssa_ir.specs.declared.ops.Instr.{Instr}
use Rattle.ssa_ir.specs.declared.ops.Op.{Op}
use Rattle.ssa_ir.specs.declared.ops.Op.TheVariants as op
use Rattle.ssa_ir.specs.declared.ops.SelectCase.{SelectCase}
use Rattle.ssa_ir.specs.declared.ops.SelectCase.TheVariants as case
use Rattle.ssa_mean.specs.Channels.{received, received_parts, selected, value_if, is_chosen, with_received, case_number, given_by, gone_behind, where_running, woken_frame, woken_frames, woken_goroutine, woken, fault_after, instr_at, all_woken}
use Rattle.ssa_mean.specs.Making.{value_or}
use Rattle.ssa_mean.specs.Operands.{function_at, element_type, element_in}
use Rattle.ssa_mean.specs.State.{Frame, running, Goroutine, Machine, with_goroutine, with_result, advanced}
use Rattle.ssa_mean.specs.Step.{value}
use Rattle.ssa_mean.specs.Zeros.{zero_where}
use Rattle.ssa_sane.specs.Sane.{IsInstr, is_new}
use Rattle.ssa_typed.specs.Forms.{FitsGiving, FitsOp, fits_giving, fits_alone, gives, gives_received, selects as selects_typed, takes_cases}
use Rattle.ssa_typed.specs.Operands.{shape}
use Rattle.ssa_typed.specs.Typed.{FitsRegister, FitsTyped}
use Rattle.type_shapes.specs.Shapes.{received_elem, sent_elem, may_receive, may_send, is_id, parts_of}

-- ---- what receives and selects give

-- a value of the elements of a channel, or none
abbrev pub ReceivedFits : Code → Typing → Function → Operand → Option Val → Type 0
ReceivedFits c t f channel None = Unit {0}
ReceivedFits c t f channel (Some it) = (elem : TypeId) × (ReceivesFrom c f channel elem × IsOf c t it elem)

pub received_term : (of : Option TypeTerm) (elem : TypeId) → received_elem of ≡ Some elem → (way : Dir) × (of ≡ Some (term.Chan way elem))
received_term (Some (term.Chan way other)) elem h =
    (way, ap (λ elem. Some (term.Chan way elem)) (cond_some (may_receive way) other elem h).1)
received_term _ elem h = absurd (none-some elem h)

pub sent_term : (of : Option TypeTerm) (elem : TypeId) → sent_elem of ≡ Some elem → (way : Dir) × (of ≡ Some (term.Chan way elem))
sent_term (Some (term.Chan way other)) elem h =
    (way, ap (λ elem. Some (term.Chan way elem)) (cond_some (may_send way) other elem h).1)
sent_term _ elem h = absurd (none-some elem h)

-- the elements of a channel that is received from
pub element_is : (c : Code) (f : Function) (channel : Operand) (elem : TypeId) → received_elem (shape c f channel) ≡ Some elem
    → element_type c f channel ≡ Some elem
element_is c f channel elem h =
    let is = received_term (shape c f channel) elem h in
    ap element_in (shape_term c f channel (term.Chan is.0 elem) is.1)

received_comes : (c : Code) → IsSafe c → (t : Typing) (f : Function) (channel : Operand) (comma_ok : Bool) (of elem : TypeId)
    → received_elem (shape c f channel) ≡ Some elem → gives c.types of elem comma_ok ≡ true → has_zero c (element_type c f channel) ≡ true
    → (it : Option Val) → ReceivedFits c t f channel it
    → (v : Val) × ((received c f channel comma_ok it ≡ Some v) × IsOf c t v of)
received_comes c safe t f channel comma_ok of elem shaped typed runnable it fits =
    let element = element_is c f channel elem shaped in
    let blank = there (zero_where c (element_type c f channel)) runnable in
    let blank_is : IsOf c t blank.0 elem = zero_fits c t elem blank.0 (sym (ap (zero_where c) element) ∙ blank.1) in
    (value_or comma_ok it blank.0, (ap (option_map (value_or comma_ok it)) blank.1, by it fits blank.0 blank_is element))
  where
    by : (it : Option Val) → ReceivedFits c t f channel it → (blank : Val) → IsOf c t blank elem → element_type c f channel ≡ Some elem
        → IsOf c t (value_or comma_ok it blank) of
    by None fits blank blank_is element = ok_fits c t safe.held of elem comma_ok typed blank false blank_is
    by (Some v) fits blank blank_is element =
        let same = some_same fits.1.0.of elem (sym fits.1.0.is ∙ element) in
        ok_fits c t safe.held of elem comma_ok typed v true
        (subst (IsOf c t v) same (is_of_alike c t v fits.0 fits.1.0.of fits.1.0.alike fits.1.1))

pub received_fits : (c : Code) → IsSafe c → (t : Typing) (f : Function) (channel : Operand) (comma_ok : Bool) (of : TypeId)
    → FitsGiving c f (op.Receive channel comma_ok) of → runs_op c f (op.Receive channel comma_ok) ≡ true
    → (it : Option Val) → ReceivedFits c t f channel it
    → (v : Val) × ((received c f channel comma_ok it ≡ Some v) × IsOf c t v of)
unfolding FitsGiving fits_giving
received_fits c safe t f channel comma_ok of typed runnable it fits = by (received_elem (shape c f channel)) refl typed
  where
    by : (found : Option TypeId) → received_elem (shape c f channel) ≡ found → gives_received c.types of comma_ok found ≡ true
        → (v : Val) × ((received c f channel comma_ok it ≡ Some v) × IsOf c t v of)
    by None e h = never h
    by (Some elem) e h = received_comes c safe t f channel comma_ok of elem e h runnable it fits

-- the case that is chosen got a value where it receives, and none else
abbrev pub SelectedFits : Code → Typing → Function → List SelectCase → Option ℕ → Option Val → Type 0
SelectedFits c t f cases chosen None = Unit {0}
SelectedFits c t f cases None (Some it) = ⊥
SelectedFits c t f cases (Some index) (Some it) =
    (channel : Operand) × ((slice_get cases index ≡ Some (case.Receive channel)) × ReceivedFits c t f channel (Some it))

received_parts_fit : (c : Code) → IsSafe c → (t : Typing) (f : Function) (chosen : Option ℕ) (it : Option Val) (n : ℕ)
    (cases : List SelectCase) (ids : List TypeId) → takes_cases c f cases ids ≡ true → list_all (receives_zero c f) cases ≡ true
    → ((k : ℕ) (channel : Operand) → slice_get cases k ≡ Some (case.Receive channel)
    → ReceivedFits c t f channel (value_if (is_chosen (n + k) chosen) it))
    → (its : Parts) × ((received_parts c f n chosen it cases ≡ Some its) × PartsFit c t its ids)
received_parts_fit c safe t f chosen it n [] [] typed runnable each = (none, (refl, tt))
received_parts_fit c safe t f chosen it n [] (of ∷ ids) typed runnable each = never typed
received_parts_fit c safe t f chosen it n (case.Send channel item ∷ cases) ids typed runnable each =
    received_parts_fit c safe t f chosen it (suc n) cases ids (both _ (takes_cases c f cases ids) typed).1 runnable
    (λ k other is. subst (λ m. ReceivedFits c t f other (value_if (is_chosen m chosen) it)) (omega arith) (each (suc k) other is))
received_parts_fit c safe t f chosen it n (case.Receive channel ∷ cases) [] typed runnable each = never typed
received_parts_fit c safe t f chosen it n (case.Receive channel ∷ cases) (of ∷ ids) typed runnable each =
    let k = both (is_id (received_elem (shape c f channel)) of) (takes_cases c f cases ids) typed in
    let r = both (has_zero c (element_type c f channel)) (list_all (receives_zero c f) cases) runnable in
    let first = received_comes c safe t f channel false of of (id_is (received_elem (shape c f channel)) of k.0)
    ((same_id-Decides of of).1 refl) r.0 (value_if (is_chosen n chosen) it)
    (subst (λ m. ReceivedFits c t f channel (value_if (is_chosen m chosen) it)) (omega arith) (each 0 channel refl)) in
    let rest = received_parts_fit c safe t f chosen it (suc n) cases ids k.1 r.1
    (λ k other is. subst (λ m. ReceivedFits c t f other (value_if (is_chosen m chosen) it)) (omega arith) (each (suc k) other is)) in (
      part first.0 false rest.0,
      (
        ap (λ first. with_received first (received_parts c f (suc n) chosen it cases)) first.1.0
            ∙ ap (option_map (part first.0 false)) rest.1.0,
        (first.1.1, rest.1.1),
      ),
    )

received_channel : Operand → Option SelectCase → Operand
received_channel it (Some (case.Receive channel)) = channel
received_channel it _ = it

-- what each case gets
case_gets : (c : Code) (t : Typing) (f : Function) (cases : List SelectCase) (chosen : Option ℕ) (it : Option Val)
    → SelectedFits c t f cases chosen it → (k : ℕ) (channel : Operand) → slice_get cases k ≡ Some (case.Receive channel)
    → ReceivedFits c t f channel (value_if (is_chosen k chosen) it)
unfolding received_channel
case_gets c t f cases chosen None fits k channel is = by (is_chosen k chosen)
  where
    by : (b : Bool) → ReceivedFits c t f channel (value_if b None)
    by true = tt
    by false = tt
case_gets c t f cases None (Some it) fits k channel is = absurd fits
case_gets c t f cases (Some index) (Some it) fits k channel is = by (k == index) refl
  where
    by : (b : Bool) → (k == index) ≡ b → ReceivedFits c t f channel (value_if b (Some it))
    by false e = tt
    by true e =
        subst (λ channel. ReceivedFits c t f channel (Some it))
        (ap (received_channel channel) (sym fits.1.0 ∙ ap (slice_get cases) (sym ((unsigned_Decides k index).0 e)) ∙ is)) fits.1.1

pub selected_fits : (c : Code) → IsSafe c → (t : Typing) (f : Function) (blocking : Bool) (cases : List SelectCase) (of : TypeId)
    → FitsGiving c f (op.Select blocking cases) of → runs_op c f (op.Select blocking cases) ≡ true
    → (chosen : Option ℕ) (it : Option Val) → SelectedFits c t f cases chosen it
    → (v : Val) × ((selected c f cases chosen it ≡ Some v) × IsOf c t v of)
unfolding FitsGiving fits_giving
selected_fits c safe t f blocking cases of typed runnable chosen it fits = by (parts_of (term_at c.types of)) refl typed
  where
    by : (found : Option (List TypeId)) → parts_of (term_at c.types of) ≡ found → selects_typed c f cases found ≡ true
        → (v : Val) × ((selected c f cases chosen it ≡ Some v) × IsOf c t v of)
    by (Some (index ∷ ok ∷ rest)) e h =
        let k = both (same_id index (basic_id basic.Int)) _ h in
        let l = both (same_id ok (basic_id basic.Bool)) _ k.1 in
        let m = both _ (takes_cases c f cases rest) l.1 in
        let its = received_parts_fit c safe t f chosen it 0 cases rest m.1 runnable
        (λ k channel is.
        subst (λ m. ReceivedFits c t f channel (value_if (is_chosen m chosen) it)) (omega arith)
        (case_gets c t f cases chosen it fits k channel is)) in
        let v = parts (part (number (case_number chosen)) false (part (truth (is_some it)) false its.0)) in (
          v,
          (
            ap (option_map (λ rest. parts (part (number (case_number chosen)) false (part (truth (is_some it)) false rest)))) its.1.0,
            subst (Fits c t v) (sym (tuple_term c.types safe.held of (index ∷ ok ∷ rest) e)) (
              index ∷ ok ∷ rest,
              (
                refl,
                (
                  subst (IsOf c t (number (case_number chosen))) (sym (same_is index (basic_id basic.Int) k.0))
                      (number_fits c t (case_number chosen) (under_of c (basic_id basic.Int))
                      (ap (λ of. is_some (kind_of_term of)) (basic_term c.types safe.held basic.Int))),
                  (
                    subst (IsOf c t (truth (is_some it))) (sym (same_is ok (basic_id basic.Bool) l.0)) (truth_fits c t safe.held (is_some it)),
                    its.1.1,
                  ),
                ),
              ),
            ),
          ),
        )
    by _ e h = never h

-- ---- those that waited go on

-- the type of the register that a typed instruction gives
fits_register : (c : Code) (f : Function) (it : Op) (given : List ℕ) (register : Option ℕ) → FitsRegister c f it given register
    → (of : Option TypeId) × (IsRegister f register of × FitsOp c f it of)
fits_register c f it given None h = (None, (refl, h))
fits_register c f it given (Some register) h = by (slice_get f.registers register) refl h.0
  where
    by : (found : Option TypeId) → slice_get f.registers register ≡ found → FitsTyped c f it found
        → (of : Option TypeId) × (IsRegister f (Some register) of × FitsOp c f it of)
    by None e h = absurd h
    by (Some of) e h = (Some of, ((of, (refl, e)), h))

-- what one that waited gets, where it meets no fault
record Gets (c : Code) (t : Typing) (f : Function) (index : ℕ) (how : How) (it : Op) (of : Option TypeId) : Type 0 where
  value : Option Val
  is : given_by c f index how it ≡ Some value
  gives : GivesOf c t value of

send_gets : (c : Code) (t : Typing) (f : Function) (channel it : Operand) (of : Option TypeId)
    → FitsOp c f (op.Send channel it) of → GivesOf c t None of
unfolding FitsGiving fits_giving
send_gets c t f channel it None typed = tt
send_gets c t f channel it (Some of) typed = never typed

pub receive_gets : (c : Code) → IsSafe c → (t : Typing) (f : Function) (channel : Operand) (comma_ok : Bool) (of : Option TypeId)
    → FitsOp c f (op.Receive channel comma_ok) of → runs_op c f (op.Receive channel comma_ok) ≡ true → (it : Option Val)
    → ReceivedFits c t f channel it → (v : Val) × ((received c f channel comma_ok it ≡ Some v) × GivesOf c t (Some v) of)
unfolding fits_alone
receive_gets c safe t f channel comma_ok None typed runnable it fits = never typed
receive_gets c safe t f channel comma_ok (Some of) typed runnable it fits =
    received_fits c safe t f channel comma_ok of typed runnable it fits

pub select_gets : (c : Code) → IsSafe c → (t : Typing) (f : Function) (blocking : Bool) (cases : List SelectCase) (of : Option TypeId)
    → FitsOp c f (op.Select blocking cases) of → runs_op c f (op.Select blocking cases) ≡ true → (chosen : Option ℕ) (it : Option Val)
    → SelectedFits c t f cases chosen it → (v : Val) × ((selected c f cases chosen it ≡ Some v) × GivesOf c t (Some v) of)
unfolding fits_alone
select_gets c safe t f blocking cases None typed runnable chosen it fits = never typed
select_gets c safe t f blocking cases (Some of) typed runnable chosen it fits =
    selected_fits c safe t f blocking cases of typed runnable chosen it fits

sent_gets : (c : Code) → IsSafe c → (t : Typing) (f : Function) (index : ℕ) (it : Op) (of : Option TypeId) → MaySend it
    → FitsOp c f it of → runs_op c f it ≡ true → Gets c t f index operations.sent it of
sent_gets c safe t f index (op.Send channel value) of may typed runnable =
    record { value = None; is = refl; gives = send_gets c t f channel value of typed }
sent_gets c safe t f index (op.Select blocking cases) of may typed runnable =
    let v = select_gets c safe t f blocking cases of typed runnable (Some index) None tt in
    record { value = Some v.0; is = ap (option_map Some) v.1.0; gives = v.1.1 }
sent_gets c safe t f index _ of may typed runnable = absurd may

none_gets : (c : Code) → IsSafe c → (t : Typing) (f : Function) (index : ℕ) (elem : TypeId) (it : Op) (of : Option TypeId)
    → MayReceive c f index elem it → FitsOp c f it of → runs_op c f it ≡ true → Gets c t f index (operations.received None) it of
none_gets c safe t f index elem (op.Receive channel comma_ok) of may typed runnable =
    let v = receive_gets c safe t f channel comma_ok of typed runnable None tt in
    record { value = Some v.0; is = ap (option_map Some) v.1.0; gives = v.1.1 }
none_gets c safe t f index elem (op.Select blocking cases) of may typed runnable =
    let v = select_gets c safe t f blocking cases of typed runnable (Some index) None tt in
    record { value = Some v.0; is = ap (option_map Some) v.1.0; gives = v.1.1 }
none_gets c safe t f index elem _ of may typed runnable = absurd may

value_gets : (c : Code) → IsSafe c → (t : Typing) (f : Function) (index : ℕ) (elem : TypeId) (v : Val) (it : Op) (of : Option TypeId)
    → MayReceive c f index elem it → IsOf c t v elem → FitsOp c f it of → runs_op c f it ≡ true
    → Gets c t f index (operations.received (Some v)) it of
value_gets c safe t f index elem v (op.Receive channel comma_ok) of may fits typed runnable =
    let w = receive_gets c safe t f channel comma_ok of typed runnable (Some v) (elem, (may, fits)) in
    record { value = Some w.0; is = ap (option_map Some) w.1.0; gives = w.1.1 }
value_gets c safe t f index elem v (op.Select blocking cases) of may fits typed runnable =
    let w = select_gets c safe t f blocking cases of typed runnable (Some index) (Some v) (may.0, (may.1.0, (elem, (may.1.1, fits)))) in
    record { value = Some w.0; is = ap (option_map Some) w.1.0; gives = w.1.1 }
value_gets c safe t f index elem v _ of may fits typed runnable = absurd may

-- where a goroutine waits, its instruction ends no block and makes no cell
pub record Plain (it : Instr) : Type 0 where
  pub goes_on : is_end_op it.op ≡ false
  pub other : is_new it ≡ false

pub send_plain : (it : Instr) (o : Op) → it.op ≡ o → MaySend o → Plain it
send_plain it (op.Send channel value) is h =
    record { goes_on = ap is_end_op is; other = ap (λ o. is_new (record it { op = o })) is }
send_plain it (op.Select blocking cases) is h =
    record { goes_on = ap is_end_op is; other = ap (λ o. is_new (record it { op = o })) is }
send_plain it _ is h = absurd h

pub receive_plain : (c : Code) (f : Function) (index : ℕ) (elem : TypeId) (it : Instr) (o : Op) → it.op ≡ o
    → MayReceive c f index elem o → Plain it
receive_plain c f index elem it (op.Receive channel comma_ok) is h =
    record { goes_on = ap is_end_op is; other = ap (λ o. is_new (record it { op = o })) is }
receive_plain c f index elem it (op.Select blocking cases) is h =
    record { goes_on = ap is_end_op is; other = ap (λ o. is_new (record it { op = o })) is }
receive_plain c f index elem it _ is h = absurd h

how_plain : (c : Code) (t : Typing) (f : Function) (index : ℕ) (how : How) (it : Instr) → HowFits c t f index it.op how → Plain it
how_plain c t f index operations.sent it h = send_plain it it.op refl h
how_plain c t f index (operations.received None) it h = receive_plain c f index h.0 it it.op refl h.1
how_plain c t f index (operations.received (Some v)) it h = receive_plain c f index h.0 it it.op refl h.1.0
how_plain c t f index operations.send_on_closed it h = send_plain it it.op refl h

-- the top frame of one that waits
stands_of : (f : Function) (top : Frame) → TopStands f top → top.state ≡ running
    → Stands f top None × (IsBegun f top ⊎ IsFresh f top)
stands_of f top (fresh stands new) is = (stands, inr new)
stands_of f top (begun stands old) is = (stands, inl old)
stands_of f top (lost panicking recover defers) is = absurd (true≢false (sym panicking ∙ ap is_panicking is))

-- one that waited, as it goes on
record Wakes (c : Code) (t : Typing) (m : Machine) (it : Woken) : Type 0 where
  new : Goroutine
  is : woken c it m ≡ Some (with_goroutine it.goroutine.number new m)
  fits : GoroutineFits c t new

-- the machine with it, by what it gets
wakes_with : (c : Code) (m : Machine) (it : Woken) → (w : WaitsAt c m.goroutines it.goroutine.number) → (value : Option Val)
    → given_by c w.function it.index it.how w.instr.op ≡ Some value
    → woken c it m
    ≡ Some (with_goroutine it.goroutine.number
    (record (w.g) { frames = advanced (with_result w.instr.register value w.top) ∷ w.below; fault = fault_after it.how w.g.fault }) m)
wakes_with c m it w value is =
    let top : woken_frame c it w.top ≡ Some (advanced (with_result w.instr.register value w.top)) =
    ap (λ state. where_running state
    (option_and_then (λ function. option_and_then (gone_behind c function it w.top) (instr_at function w.top))
    (function_at c w.top.function))) w.runs
    ∙ ap (option_and_then (λ function. option_and_then (gone_behind c function it w.top) (instr_at function w.top))) w.is_function
    ∙ ap (option_and_then (gone_behind c w.function it w.top)) w.at
    ∙ ap (option_map (λ value. advanced (with_result w.instr.register value w.top))) is in
    let frames : woken_frames c it w.g.frames ≡ Some (advanced (with_result w.instr.register value w.top) ∷ w.below) =
    ap (woken_frames c it) w.frames ∙ ap (option_map (λ (top : Frame). top ∷ w.below)) top in
    ap (λ found. option_map (λ (g : Goroutine). with_goroutine it.goroutine.number g m) (option_and_then (woken_goroutine c it) found)) w.there
    ∙ ap (λ frames. option_map (λ (g : Goroutine). with_goroutine it.goroutine.number g m)
    (option_map (λ (frames : List Frame). record (w.g) { frames = frames; fault = fault_after it.how w.g.fault }) frames)) frames

with_none : (register : Option ℕ) (frame : Frame) → with_result register None frame ≡ frame
with_none (Some register) frame = refl
with_none None frame = refl

-- all that is known of the frames of one that waits
record Waiter (c : Code) (t : Typing) (f : Function) (top : Frame) (below : List Frame) (instr : Instr) : Type 0 where
  fits : FrameFits c t f top
  stands : Stands f top None
  started : IsBegun f top ⊎ IsFresh f top
  takes : Takes c f top.result below
  lower : AreBelow c t top.result below
  at : slice_get (instrs_at f top.block) top.place ≡ Some instr
  sane : IsInstr f top.block top.place instr
  of : Option TypeId
  register : IsRegister f instr.register of
  typed : FitsOp c f instr.op of
  runnable : runs_op c f instr.op ≡ true

waiter : (c : Code) → IsSafe c → (t : Typing) (goroutines : List Goroutine) (place : ℕ) → (w : WaitsAt c goroutines place)
    → GoroutineFits c t w.g → Waiter c t w.function w.top w.below w.instr
waiter c safe t goroutines place w fits =
    let are : AreFrames c t (w.top ∷ w.below) =
    subst (λ (frames : List Frame). AreFrames c t frames) w.frames
    (subst (λ (f : Option Fault). GoOn c t f w.g.frames) w.calm fits.frames) in
    let same = some_same are.0.function w.function (sym are.0.fits.there ∙ w.is_function) in
    let stands = stands_of w.function w.top (subst (λ f. TopStands f w.top) same are.0.stands) w.runs in
    let n = w.top.function.number in
    let typed = fits_register c w.function w.instr.op _ w.instr.register
    ((typed_of c safe n w.function w.is_function).instrs w.top.block w.top.place w.instr w.at).1 in
    record {
      fits = subst (λ f. FrameFits c t f w.top) same are.0.fits;
      stands = stands.0;
      started = stands.1;
      takes = subst (λ f. Takes c f w.top.result w.below) same are.0.takes;
      lower = are.1;
      at = w.at;
      sane = (sane_of c safe n w.function w.is_function).instrs w.top.block w.top.place w.instr w.at;
      of = typed.0;
      register = typed.1.0;
      typed = typed.1.1;
      runnable =
          (both (runs_op c w.function w.instr.op) _
          (safe.runnable.instrs n w.top.block w.top.place w.function w.instr w.is_function w.at)).0;
    }

closed_given : (c : Code) (f : Function) (index : ℕ) (it : Op) → MaySend it → given_by c f index operations.send_on_closed it ≡ Some None
closed_given c f index (op.Send channel value) may = refl
closed_given c f index (op.Select blocking cases) may = refl
closed_given c f index _ may = absurd may

wakes : (c : Code) → IsSafe c → (t : Typing) (m : Machine) (current : ℕ) (runnable : List ℕ) (it : Woken)
    → (woke : WokenFits c t m.goroutines current runnable it) → GoroutineFits c t woke.waits.g → Wakes c t m it
wakes c safe t m current runnable it woke fits = by it.how refl woke.fits
  where
    w : WaitsAt c m.goroutines it.goroutine.number
    w = woke.waits

    top : Waiter c t woke.waits.function woke.waits.top woke.waits.below woke.waits.instr
    top = waiter c safe t m.goroutines it.goroutine.number woke.waits fits

    -- one that gets what its instruction gives
    gets : Gets c t woke.waits.function it.index it.how woke.waits.instr.op top.of → Plain woke.waits.instr
        → fault_after it.how woke.waits.g.fault ≡ None → Wakes c t m it
    gets got plain calm =
        record {
          new = record (w.g) {
            frames = advanced (with_result w.instr.register got.value w.top) ∷ w.below;
            fault = fault_after it.how w.g.fault;
          };
          is = wakes_with c m it w got.value got.is;
          fits = record {
            frames =
                subst (λ (f : Option Fault). GoOn c t f (advanced (with_result w.instr.register got.value w.top) ∷ w.below)) (sym calm)
                (frames_behind c t w.function w.top w.below w.instr top.fits top.stands top.started top.takes top.lower top.at top.sane
                plain.goes_on got.value top.of top.register got.gives);
            begin = fits.begin;
          };
        }

    -- one whose channel was closed as it sent
    meets : fault_after it.how woke.waits.g.fault ≡ Some fault.SendOnClosed
        → given_by c woke.waits.function it.index it.how woke.waits.instr.op ≡ Some None → Plain woke.waits.instr → Wakes c t m it
    meets faulty given plain =
        let old = begun_at w.function w.top w.instr top.stands top.started top.at plain.other in
        let same = with_none w.instr.register w.top in
        record {
          new = record (w.g) {
            frames = advanced (with_result w.instr.register None w.top) ∷ w.below;
            fault = fault_after it.how w.g.fault;
          };
          is = wakes_with c m it w None given;
          fits = record {
            frames =
                subst (λ (f : Option Fault). GoOn c t f (advanced (with_result w.instr.register None w.top) ∷ w.below)) (sym faulty)
                (record {
                  function = w.function;
                  fits = moved_fits c t w.function (with_result w.instr.register None w.top)
                      (with_result w.instr.register None w.top).block (suc (with_result w.instr.register None w.top).place)
                      (with_result w.instr.register None w.top).state
                      (subst (λ (frame : Frame). FrameFits c t w.function frame) (sym same) top.fits)
                      (subst (λ (frame : Frame). FrameFits c t w.function frame) (sym same) top.fits).state;
                  begun = begun_as w.function w.top (advanced (with_result w.instr.register None w.top))
                      (ap (λ (frame : Frame). frame.registers) same) old;
                  takes = subst (λ r. Takes c w.function r w.below) (sym (result_same w.instr.register None w.top)) top.takes;
                  lower = subst (λ r. AreBelow c t r w.below) (sym (result_same w.instr.register None w.top)) top.lower;
                });
            begin = fits.begin;
          };
        }

    by : (how : How) → it.how ≡ how → HowFits c t woke.waits.function it.index woke.waits.instr.op how → Wakes c t m it
    by operations.sent e h =
        gets
        (subst (λ how. Gets c t w.function it.index how w.instr.op top.of) (sym e)
        (sent_gets c safe t w.function it.index w.instr.op top.of h top.typed top.runnable))
        (send_plain w.instr w.instr.op refl h) (ap (λ how. fault_after how w.g.fault) e ∙ w.calm)
    by (operations.received None) e h =
        gets
        (subst (λ how. Gets c t w.function it.index how w.instr.op top.of) (sym e)
        (none_gets c safe t w.function it.index h.0 w.instr.op top.of h.1 top.typed top.runnable))
        (receive_plain c w.function it.index h.0 w.instr w.instr.op refl h.1) (ap (λ how. fault_after how w.g.fault) e ∙ w.calm)
    by (operations.received (Some v)) e h =
        gets
        (subst (λ how. Gets c t w.function it.index how w.instr.op top.of) (sym e)
        (value_gets c safe t w.function it.index h.0 v w.instr.op top.of h.1.0 h.1.1 top.typed top.runnable))
        (receive_plain c w.function it.index h.0 w.instr w.instr.op refl h.1.0) (ap (λ how. fault_after how w.g.fault) e ∙ w.calm)
    by operations.send_on_closed e h =
        meets (ap (λ how. fault_after how w.g.fault) e)
        (ap (λ how. given_by c w.function it.index how w.instr.op) e ∙ closed_given c w.function it.index w.instr.op h)
        (send_plain w.instr w.instr.op refl h)

-- those that go on, where another has gone on
woken_others : (c : Code) (t : Typing) (goroutines : List Goroutine) (current : ℕ) (runnable : List ℕ) (n : ℕ) (new : Goroutine)
    (others : List Woken) → IsOther n others → AreWoken c t goroutines current runnable others
    → AreWoken c t (slice_set goroutines n new) current runnable others
woken_others c t goroutines current runnable n new [] apart are = tt
woken_others c t goroutines current runnable n new (it ∷ others) apart are = (
  record {
    waits = waits_with c goroutines n it.goroutine.number new apart.0 are.0.waits;
    fits = are.0.fits;
    other = are.0.other;
    runs = are.0.runs;
  },
  (are.1.0, woken_others c t goroutines current runnable n new others apart.1 are.1.1),
)

pub all_woken_fit : (c : Code) → IsSafe c → (t : Typing) (m : Machine) (others : List Woken) → OpenFits c t m
    → AreWoken c t m.goroutines m.sched.current.number m.sched.runnable others
    → (next : Machine) × ((all_woken c others m ≡ Some next) × (OpenFits c t next
    × ((slice_get next.goroutines m.sched.current.number ≡ slice_get m.goroutines m.sched.current.number)
    × (next.sched ≡ m.sched))))
all_woken_fit c safe t m [] fits woken = (m, (refl, (fits, (refl, refl))))
all_woken_fit c safe t m (it ∷ others) fits are =
    let n = it.goroutine.number in
    let first = wakes c safe t m m.sched.current.number m.sched.runnable it are.0
    (fits.others n are.0.waits.g are.0.waits.there are.0.other) in
    let next : Machine = with_goroutine n first.new m in
    let opened : OpenFits c t next =
    record {
      others = λ k g is other.
          ⊎_elim
          (λ same. subst (GoroutineFits c t)
          (some_same first.new g (sym (get_set m.goroutines n first.new are.0.waits.g are.0.waits.there)
          ∙ ap (slice_get (slice_set m.goroutines n first.new)) (sym same) ∙ is)) first.fits)
          (λ apart. fits.others k g (sym (get_set_other m.goroutines n k first.new apart) ∙ is) other)
          (same_or_other k n);
      variables = fits.variables;
      store = fits.store;
      sched = sched_with c t m.goroutines m.sched n first.new are.0.runs fits.sched;
      current = fits.current;
      starts = fits.starts;
    } in
    let rest = all_woken_fit c safe t next others opened
    (woken_others c t m.goroutines m.sched.current.number m.sched.runnable n first.new others are.1.0 are.1.1) in (
      rest.0,
      (
        ap (option_and_then (all_woken c others)) first.is ∙ rest.1.0,
        (
          rest.1.1.0,
          (rest.1.1.1.0 ∙ get_set_other m.goroutines n m.sched.current.number first.new (λ e. are.0.other (sym e)), rest.1.1.1.1),
        ),
      ),
    )
