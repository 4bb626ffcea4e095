use Rattle.std.proofs.Common.{◌≡◌, ℕ, suc, ◌+◌, Bool, true, false, List, [], ◌∷◌, Option, Some, None, cond, ap, ◌∙◌, add-one}
use Rattle.std.proofs.lemmas.Cmp.{nat_list_eq_equiv}
use Rattle.std.specs.List.{position_from}
use Rattle.std.specs.Prelude.{codes, option_map, if◌then◌else◌}
use Rattle.std.specs.Str.{bytes_eq}
use Rattle.std.proofs.lemmas.Iterator.Adapters.{position_from-zero}
use Rattle.go_base.specs.declared.ids.NameId.{NameId}
use Rattle.ssa_mean.specs.Zeros.{blank_from}
use Rattle.code_plan.proofs.planner.Planner.new.Goals as goal

abbrev numbered : Option NameId → Option ℕ
numbered it = option_map (λ id. id.number) it

is_some : (n : ℕ) (it : Option NameId) → numbered it ≡ Some n → it ≡ Some (record { number = n })
is_some n None e = cc
is_some n (Some id) e = let k : id.number ≡ n = cc in λ i. Some (record { number = k i })

is_none : (it : Option NameId) → numbered it ≡ None → it ≡ None
is_none None e = cc
is_none (Some id) e = cc

-- the first place of a text among names, the first having a number
by_test : (n : ℕ) (it : Option NameId) (b c : Bool) (rest : Option NameId) (place : Option ℕ) → b ≡ c
    → numbered it ≡ cond b (Some n) place → (numbered it ≡ place → it ≡ rest)
    → it ≡ (if c then Some (record { number = n }) else rest)
by_test n it true true rest place e h next = is_some n it h
by_test n it false false rest place e h next = next h
by_test n it true false rest place e h next = cc
by_test n it false true rest place e h next = cc

is_blank : (n : ℕ) (names : List (List ℕ)) (it : Option NameId)
    → numbered it ≡ position_from (bytes_eq (codes "_")) n names → it ≡ blank_from n names
is_blank n [] it h = is_none it h
is_blank n (name ∷ names) it h =
    by_test n it (bytes_eq (codes "_") name) (bytes_eq name (codes "_")) (blank_from (suc n) names)
    (position_from (bytes_eq (codes "_")) (n + 1) names) (nat_list_eq_equiv.symm (codes "_") name) h
    (λ e. is_blank (suc n) names it (e ∙ ap (λ k. position_from (bytes_eq (codes "_")) k names) (add-one n)))

pub invariant_of-result : goal.invariant_of-result
invariant_of-result c =
    record {
      blank_is = is_blank 0 c.args.code.now.names c.find.result
          (c.find.ensures ∙ position_from-zero (bytes_eq (codes "_")) c.args.code.now.names);
    }
