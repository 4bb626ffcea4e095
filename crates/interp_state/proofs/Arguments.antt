-- Operands that are read one after another.
use Rattle.std.proofs.Common.{◌≤◌, ◌+◌, zero, suc, length, take, add-one, take_all}
use Rattle.std.specs.Prelude.{slice_get}
use Rattle.std.proofs.Common.{◌≡◌, ◌∙◌, ℕ, List, [], ◌∷◌, ◌++◌, Option, Some, None, map, ap, sym, refl, subst, append_assoc, append-nil}
use Rattle.code_plan.specs.declared.steps.Arg.{Arg}
use Rattle.go_value.specs.Values.{Val, value_of}
use Rattle.go_value.specs.declared.values.Value.{Value}
use Rattle.interp_state.specs.Machines.{machine_of}
use Rattle.interp_state.specs.States.{PushesRead}
use Rattle.interp_state.specs.declared.machine.Machine.{Machine}
use Rattle.plan_mean.specs.Operands.{look, look_at_all}
use Rattle.plan_mean.specs.State as meant
use Rattle.ssa_mean.specs.Operands.{with_value}
use Rattle.std.proofs.lemmas.List.{map-append}

-- operands that were read have these values, which stand behind the others
pub record AreRead (m : meant.Machine) (args : List Arg) (before after : List Value) : Type 0 where
  pub its : List Val
  pub read : look_at_all m args ≡ Some its
  pub behind : map value_of after ≡ map value_of before ++ its

look_more : (m : meant.Machine) (args : List Arg) (arg : Arg) (its : List Val) (it : Val)
    → look_at_all m args ≡ Some its → look m arg ≡ Some it → look_at_all m (args ++ arg ∷ []) ≡ Some (its ++ it ∷ [])
look_more m [] arg its it all one =
    let none : [] ≡ its = cc in
    ap (λ found. with_value found (Some [])) one ∙ ap (λ its. Some (its ++ it ∷ [])) none
look_more m (first ∷ args) arg its it all one =
    by_first (look m first) (look_at_all m args) refl refl (λ b rest. look_more m args arg b it rest one)
  where
    by_first : (a : Option Val) (b : Option (List Val)) → look m first ≡ a → look_at_all m args ≡ b
        → ((b : List Val) → look_at_all m args ≡ Some b → look_at_all m (args ++ arg ∷ []) ≡ Some (b ++ it ∷ []))
        → look_at_all m ((first ∷ args) ++ arg ∷ []) ≡ Some (its ++ it ∷ [])
    by_first (Some a) (Some b) here rest more =
        let whole : Some (a ∷ b) ≡ Some its = sym (ap (λ o. with_value o (look_at_all m args)) here ∙ ap (with_value (Some a)) rest) ∙ all in
        let parts : a ∷ b ≡ its = cc in
        ap (λ o. with_value o (look_at_all m (args ++ arg ∷ []))) here
        ∙ ap (with_value (Some a)) (more b rest)
        ∙ ap (λ its. Some (its ++ it ∷ [])) parts
    by_first (Some a) None here rest more =
        let no : None ≡ Some its = sym (ap (λ o. with_value o (look_at_all m args)) here ∙ ap (with_value (Some a)) rest) ∙ all in
        absurd cc
    by_first None b here rest more =
        let no : None ≡ Some its = sym (ap (λ o. with_value o (look_at_all m args)) here) ∙ all in
        absurd cc

pub none_read : (m : meant.Machine) (waiting : List Value) → AreRead m [] waiting waiting
none_read m waiting = record { its = []; read = refl; behind = sym (append-nil (map value_of waiting)) }

pub one_read : (m : meant.Machine) (args : List Arg) (arg : Arg) (before mid after : List Value) (it : Value)
    → AreRead m args before mid → look m arg ≡ Some (value_of it) → after ≡ mid ++ it ∷ []
    → AreRead m (args ++ arg ∷ []) before after
one_read m args arg before mid after it are one pushed =
    record {
      its = are.its ++ value_of it ∷ [];
      read = look_more m args arg are.its (value_of it) are.read one;
      behind = ap (map value_of) pushed ∙ map-append value_of mid (it ∷ []) ∙ ap (λ front. front ++ value_of it ∷ []) are.behind
          ∙ append_assoc (map value_of before) are.its (value_of it ∷ []);
    }

-- one operand more was read, from a machine of which only what is on its way is other
pub read_more : (first now : Machine) (args more : List Arg) (arg : Arg) (before mid after : List Value)
    → machine_of now ≡ machine_of first → more ≡ args ++ arg ∷ [] → PushesRead now arg mid after
    → AreRead (machine_of first) args before mid → AreRead (machine_of first) more before after
read_more first now args more arg before mid after same longer one are =
    subst (λ (more : List Arg). AreRead (machine_of first) more before after) (sym longer)
    (one_read (machine_of first) args arg before mid after one.value are
    (ap (λ (m : meant.Machine). look m arg) (sym same) ∙ one.read) one.pushed)

-- all were read
pub all_read : (m : meant.Machine) (args some : List Arg) (before after : List Value) → some ≡ args → AreRead m some before after
    → (its : List Val) × ((look_at_all m args ≡ Some its) × (map value_of after ≡ map value_of before ++ its))
all_read m args some before after whole are =
    (are.its, (ap (look_at_all m) (sym whole) ∙ are.read, are.behind))

-- one item more of a list
next_item : {A : Type 0} (xs : List A) (i : ℕ) (x : A) → slice_get xs i ≡ Some x → take (suc i) xs ≡ take i xs ++ x ∷ []
next_item [] i x h = let no : None ≡ Some x = h in absurd cc
next_item (y ∷ ys) zero x h = let same : Some y ≡ Some x = h in let one : y ≡ x = cc in ap (λ y. y ∷ []) one
next_item (y ∷ ys) (suc i) x h = ap (λ rest. y ∷ rest) (next_item ys i x h)

pub item_more : {A : Type 0} (xs : List A) (i : ℕ) (x : A) → slice_get xs i ≡ Some x → take (i + 1) xs ≡ take i xs ++ x ∷ []
item_more xs i x h = ap (λ n. take n xs) (add-one i) ∙ next_item xs i x h

pub all_items : {A : Type 0} (xs : List A) (i : ℕ) → length xs ≤ i → take i xs ≡ xs
all_items xs i h = take_all i xs h
