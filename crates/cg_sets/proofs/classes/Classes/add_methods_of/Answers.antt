use Rattle.std.proofs.Common.{◌≡◌, ◌∙◌, List, Some, None, get_or, refl, subst, sym, take, arith}
use Rattle.std.proofs.lemmas.List.{take_all}
use Rattle.std.proofs.lemmas.Option.{slice_get-get_or}
use Rattle.go_base.specs.declared.ids.TypeId.{TypeId}
use Rattle.go_type.specs.MethodSets.{IsMethod}
use Rattle.go_type.specs.declared.methods.MethodEntry.{MethodEntry}
use Rattle.cg_numbers.specs.Numbered.{IsAt}
use Rattle.cg_numbers.proofs.Collecting.{extends_on, extends_self}
use Rattle.cg_numbers.proofs.Lists.{has_at}
use Rattle.cg_sets.specs.Classes.{HasMethods, PutsMethod}
use Rattle.cg_sets.specs.declared.class_list.ClassList.{ClassList}
use Rattle.cg_sets.proofs.ClassMethods.{UpTo, is_method_before, is_method_later, methods_next, methods_past, methods_row, methods_start}
use Rattle.cg_solve.specs.Lists.{Has}
use Rattle.cg_solve.proofs.Members.{Contains-Has, Has-all}
use Rattle.cg_sets.proofs.classes.Classes.add_methods_of.Goals as goal

nothing_at : {A : Type 0} (x : A) → ◌≡◌ {A = _} None (Some x) → ⊥
nothing_at x h = cc

pub returns-in_default : goal.returns-in_default
returns-in_default c = record {
  list = refl;
  extends = extends_self c.args.numbers.now;
  methods = λ h. methods_past c.args.program.now c.args.numbers.now c.args.self.now c.args.class (λ id at. nothing_at id (sym c.in_default.is ∙ (c.at.ensures ∙ at))) h;
}

pub loop-entry-init : goal.loop-entry-init
loop-entry-init c = record { list = refl; extends = extends_self c.args.numbers.now; methods = λ h. methods_start c.args.program.now c.args.numbers.now c.args.self.now c.args.class h }

pub loop-entry-preserved : goal.loop-entry-preserved
loop-entry-preserved c =
    let p = c.args.program.now in
    let n0 = c.args.numbers.now in
    let m = c.loop-entry.numbers in
    let n = c.add_method.new.numbers in
    let old = c.loop-entry.self in
    let new = c.add_method.new.self in
    let k = c.args.class in
    let of = c.in-Some.of in
    let items = c.as_slice-entry-items.result.now in
    let i = c.loop-entry.entry-index in
    let d = c.entry-item.result in
    let inv = c.loop-entry.invariant in
    let e = c.in_ok-add_method.ensures in
    let there : IsAt old.list.types.keys k of = subst (λ (l : ClassList). IsAt l.types.keys k of) (sym inv.list) (sym c.at.ensures ∙ c.in-Some.is) in
    let has : Has c.in_ok-set.set (get_or items i d) = subst (λ (l : List MethodEntry). Has l (get_or items i d)) c.as_slice-entry-items.ensures (has_at items i (get_or items i d) (slice_get-get_or items i d c.loop-entry-test.true)) in
    let is : IsMethod n0.likeness.types of (get_or items i d) = Has-all (IsMethod n0.likeness.types of) c.in_ok-set.set c.in_ok-set.ensures.sound (get_or items i d) has in
    let puts : PutsMethod p.functions n old new k of (get_or items i d) = subst (PutsMethod p.functions n old new k of) c.entry-item.is e.puts in
    record {
      list = e.list ∙ inv.list;
      extends = extends_on inv.extends e.extends;
      methods = λ h. methods_next p m n e.extends old new k of items i d c.loop-entry-test.true e.list there (is_method_later n0 m inv.extends of (get_or items i d) is) puts (inv.methods h);
    }

pub returns : goal.returns
returns c =
    let p = c.args.program.now in
    let n0 = c.args.numbers.now in
    let n = c.loop-entry.numbers in
    let s = c.loop-entry.self in
    let k = c.args.class in
    let of = c.in-Some.of in
    let items = c.as_slice-entry-items.result.now in
    let inv = c.loop-entry.invariant in
    let there : IsAt s.list.types.keys k of = subst (λ (l : ClassList). IsAt l.types.keys k of) (sym inv.list) (sym c.at.ensures ∙ c.in-Some.is) in
    record {
      list = inv.list;
      extends = inv.extends;
      methods = λ h. methods_row p n s k of items there
          (λ e is. subst (λ (l : List MethodEntry). Has l e) (sym c.as_slice-entry-items.ensures) (Contains-Has c.in_ok-set.set e (c.in_ok-set.ensures.complete e (is_method_before n0 n inv.extends of e is))))
          (subst (λ (l : List MethodEntry). HasMethods p n s (UpTo k l)) (take_all c.loop-entry.entry-index items c.loop-entry-test.false) (inv.methods h));
    }
