-- What the code puts into interfaces is in the list of those types.
use Rattle.std.proofs.Common.{◌≡◌, ℕ, zero, suc, ◌<◌, Bool, true, arith, inl, inr, get_or, false, [], ◌∷◌, Contains, sym, ap, ◌∙◌, refl, subst}
use Rattle.std.specs.Prelude.{Option, Some, None, slice_get, if◌then◌else◌}
use Rattle.std.proofs.lemmas.List.Elements.{Contains-append_cases, Contains-append_left, Contains-append_right, Contains-push}
use Rattle.go_base.specs.declared.ids.TypeId.{TypeId}
use Rattle.go_type.specs.Table.{Table}
use Rattle.go_value.specs.Interfaces.{is_interface_type}
use Rattle.ssa_ir.specs.Blocks.{instrs_in}
use Rattle.ssa_ir.specs.declared.code.Block.{Block}
use Rattle.ssa_ir.specs.declared.code.Code.{Code}
use Rattle.ssa_ir.specs.declared.code.Function.{Function}
use Rattle.ssa_ir.specs.declared.operands.Operand.{Operand}
use Rattle.ssa_ir.specs.declared.ops.Instr.{Instr}
use Rattle.ssa_ir.specs.declared.ops.Op.{Op}
use Rattle.ssa_ir.specs.declared.ops.Op.TheVariants as op
use Rattle.ssa_mean.specs.Faults.{error_string}
use Rattle.ssa_mean.specs.Operands.{type_of}
use Rattle.ssa_runnable.specs.Boxed.{types_where, boxed_by, boxed_all, boxed_blocks, boxed_functions, types_if, boxed_of}
use Rattle.ssa_runnable.specs.Runnable.{IsBoxed}
use Rattle.ssa_runnable.specs.Runnable.{by_instr, by_fault}
use Rattle.ssa_runnable.proofs.Lists.{flat_at, flat_from, none_in}

module _ (c : Code) (f : Function) where
  -- the type that an instruction boxes
  by_op : (instr : Instr) (to of : TypeId) (it : Operand) → instr.op ≡ op.MakeInterface to it
      → type_of c f it ≡ Some of → is_interface_type c.types of ≡ false → Contains (boxed_by c f instr.op) of
  by_op instr to of it is_op is_type plain =
      let one : types_where c.types (type_of c f it) ≡ of ∷ [] =
      ap (types_where c.types) is_type ∙ ap (λ b. if b then [] else of ∷ []) plain in
      subst (λ l. Contains l of) (sym (ap (boxed_by c f) is_op ∙ one)) (Contains-push [] of)

  in_blocks : (block place : ℕ) (instr : Instr) (of : TypeId) (o : Option Block) → slice_get f.blocks block ≡ o
      → slice_get (instrs_in o) place ≡ Some instr → Contains (boxed_by c f instr.op) of
      → Contains (boxed_blocks c f f.blocks) of
  in_blocks block place instr of None e at h = cc
  in_blocks block place instr of (Some it) e at h =
      flat_at (λ (b : Block). boxed_all c f b.instrs) f.blocks block it of e
      (flat_at (λ (i : Instr). boxed_by c f i.op) it.instrs place instr of at h)

pub boxed_there : (c : Code) (of : TypeId) → IsBoxed c of → Contains (boxed_of c) of
boxed_there c _ (by_instr f number block place instr to of it at_f at_i is_op is_type plain) =
    Contains-append_left (boxed_functions c c.functions) (types_if (error_string c)) of
    (flat_at (λ (g : Function). boxed_blocks c g g.blocks) c.functions number f of at_f
    (in_blocks c f block place instr of (slice_get f.blocks block) refl at_i
    (by_op c f instr to of it is_op is_type plain)))
boxed_there c _ (by_fault of e) =
    Contains-append_right (boxed_functions c c.functions) (types_if (error_string c)) of
    (subst (λ l. Contains l of) (sym (ap types_if e)) (Contains-push [] of))

-- ---- and nothing else is

only : (it other : TypeId) → Contains (it ∷ []) other → it ≡ other
only it other k = by_place k.0 k.1 k.2
  where
    by_place : (n : ℕ) → n < 1 → get_or (it ∷ []) n other ≡ other → it ≡ other
    by_place zero l e = e
    by_place (suc n) l e = absurd (let no : suc n < 1 = l in omega (arith, no))

at_most_one : (types : Table) (o : Option TypeId) (of : TypeId) → Contains (types_where types o) of
    → (o ≡ Some of) × (is_interface_type types of ≡ false)
at_most_one types None of h = absurd (none_in of h)
at_most_one types (Some it) of h = by (is_interface_type types it) refl h
  where
    by : (b : Bool) → is_interface_type types it ≡ b → Contains (if b then [] else it ∷ []) of
        → (◌≡◌ {A = Option TypeId} (Some it) (Some of)) × (is_interface_type types of ≡ false)
    by true e k = absurd (none_in of k)
    by false e k =
        let same : it ≡ of = only it of k in
        (ap Some same, ap (is_interface_type types) (sym same) ∙ e)

-- an instruction that boxes a type
pub record Boxes (c : Code) (f : Function) (it : Op) (of : TypeId) : Type 0 where
  pub to : TypeId
  pub operand : Operand
  pub is_op : it ≡ op.MakeInterface to operand
  pub is_type : type_of c f operand ≡ Some of
  pub plain : is_interface_type c.types of ≡ false

boxes : (c : Code) (f : Function) (it : Op) (of : TypeId) → Contains (boxed_by c f it) of → Boxes c f it of
boxes c f (op.MakeInterface to it) of h =
    let it_is = at_most_one c.types (type_of c f it) of h in
    record { to = to; operand = it; is_op = refl; is_type = it_is.0; plain = it_is.1 }
boxes c f other of h = absurd (none_in of h)

in_function : (c : Code) (f : Function) (number : ℕ) (of : TypeId) → slice_get c.functions number ≡ Some f
    → Contains (boxed_blocks c f f.blocks) of → IsBoxed c of
in_function c f number of at h =
    let block = flat_from (λ (b : Block). boxed_all c f b.instrs) f.blocks of h in
    let instr = flat_from (λ (i : Instr). boxed_by c f i.op) block.item.instrs of block.has in
    let it = boxes c f instr.item.op of instr.has in
    by_instr f number block.place instr.place instr.item it.to of it.operand at
    (ap (λ o. slice_get (instrs_in o) instr.place) block.stands ∙ instr.stands) it.is_op it.is_type it.plain

by_error : (c : Code) (o : Option TypeId) (of : TypeId) → error_string c ≡ o → Contains (types_if o) of → IsBoxed c of
by_error c None of e h = absurd (none_in of h)
by_error c (Some it) of e h = by_fault of (e ∙ ap Some (only it of h))

pub boxed_only : (c : Code) (of : TypeId) → Contains (boxed_of c) of → IsBoxed c of
boxed_only c of h =
    elim (Contains-append_cases (boxed_functions c c.functions) (types_if (error_string c)) of h) [
      | inl found ↦
          let f = flat_from (λ (g : Function). boxed_blocks c g g.blocks) c.functions of found in
          in_function c f.item f.place of f.stands f.has
      | inr found ↦ by_error c (error_string c) of refl found
    ]
