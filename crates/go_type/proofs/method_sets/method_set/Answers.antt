use Rattle.std.proofs.Common.{◌≡◌, ◌<◌, List, [], ◌∷◌, length, true, false, true≢false, refl, sym, arith}
use Rattle.go_type.proofs.MethodsFound.{set_start, with_option, sound_all, complete_all}
use Rattle.go_type.proofs.method_sets.method_set.Goals as goal

no_names : {X : Type 0} (names : List X) → (0 < length names → false ≡ true) → names ≡ []
no_names [] h = refl
no_names (x ∷ names) h = absurd (true≢false (sym (h (omega arith))))

pub loop-name-init : goal.loop-name-init
loop-name-init c = set_start c.args.types.now c.args.a c.new-set.result c.in_ok-names.names.keys c.new-set.ensures c.in_ok-names.ensures

pub loop-name-preserved : goal.loop-name-preserved
loop-name-preserved c =
    with_option c.args.types.now c.args.a c.loop-name.set c.add_entry.new.set c.in-Some.name c.loop-name.names.keys c.pop_first.new.self.keys c.in_ok-entry.entry c.loop-name.invariant
    c.in-Some.ensures.removal c.in_ok-entry.ensures c.in-Some.ensures.all_above c.in_ok-add_entry.ensures

pub returns-clause-sound : goal.returns-clause-sound
returns-clause-sound c = sound_all c.args.types.now c.args.a c.loop-name.set c.loop-name.names.keys c.loop-name.invariant

pub returns-clause-complete : goal.returns-clause-complete
returns-clause-complete c = complete_all c.args.types.now c.args.a c.loop-name.set c.loop-name.names.keys c.loop-name.invariant (no_names c.loop-name.names.keys c.in_default.ensures.variant.1)
