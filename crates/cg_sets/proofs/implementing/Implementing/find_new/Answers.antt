use Rattle.std.proofs.Common.{◌≡◌, ◌∙◌, ◌++◌, ◌∷◌, [], ℕ, List, ap, length, refl, subst, sym}
use Rattle.std.specs.Prelude.{◌==◌}
use Rattle.go_base.specs.declared.ids.TypeId.{TypeId}
use Rattle.cg_sets.specs.Implementing.{AreImplementers, if_so}
use Rattle.cg_sets.specs.declared.implementing.Implementing.{Implementing}
use Rattle.cg_numbers.specs.Numbered.{IsAt}
use Rattle.cg_sets.proofs.ClassLists.{at_push}
use Rattle.cg_sets.proofs.Founds.{found_more, keys_more}
use Rattle.cg_solve.specs.Tables.{row}
use Rattle.cg_sets.proofs.implementing.Implementing.find_new.Goals as goal

pub returns-clause-found : goal.returns-clause-found
returns-clause-found c = λ fresh p classes h.
    let n = c.args.numbers.now in
    let cs = c.args.classes.now in
    let old = c.args.self.now in
    let new : Implementing = record { interfaces = c.insert_full.new.self; classes = c.put_all.new.self.classes } in
    let list = c.as_slice.result.now in
    let same : c.put_all.new.self.interfaces.keys ≡ old.interfaces.keys = ap (λ s. s.keys) c.in_ok-put_all.ensures.same in
    let keys : new.interfaces.keys ≡ old.interfaces.keys ++ c.args.interface ∷ [] = keys_more old.interfaces.keys c.put_all.new.self.interfaces.keys new.interfaces.keys c.args.interface same c.in_ok-insert_full.ensures.keys fresh in
    let all : AreImplementers p n cs c.args.interface list = subst (AreImplementers p n cs c.args.interface) (sym c.as_slice.ensures.value) (c.in_ok-found.ensures p n refl classes) in
    found_more p n cs old new c.args.interface list keys
    (λ k. subst (λ (j : ℕ). row new.classes k ≡ row old.classes k ++ if_so (j == k) list) c.len-place.ensures.len (c.in_ok-put_all.ensures.rows k)) all h

pub returns-clause-place : goal.returns-clause-place
returns-clause-place c = λ fresh.
    let old = c.args.self.now.interfaces.keys in
    let new = c.insert_full.new.self.keys in
    let interface = c.args.interface in
    let same : c.put_all.new.self.interfaces.keys ≡ old = ap (λ s. s.keys) c.in_ok-put_all.ensures.same in
    let keys : new ≡ old ++ interface ∷ [] = keys_more old c.put_all.new.self.interfaces.keys new interface same c.in_ok-insert_full.ensures.keys fresh in
    subst (λ (l : List TypeId). IsAt l c.len-place.result interface) (sym keys) (subst (λ (j : ℕ). IsAt (old ++ interface ∷ []) j interface) (sym c.len-place.ensures.len) (at_push old interface))
