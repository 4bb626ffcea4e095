-- The functions that methods are: of those with one name the first counts.
use Rattle.std.proofs.Common.{◌≡◌, ℕ, ◌+◌, ◌<◌, ◌≤◌, Bool, true, false, List, [], ◌∷◌, ◌++◌, Option, Some, None, cond, refl, sym, ap, ◌∙◌}
use Rattle.std.proofs.Common.{Bor, get_or, length, subst, take}
use Rattle.std.proofs.lemmas.Cmp.{nat_eq_equiv}
use Rattle.std.proofs.lemmas.List.{take_all, take_more}
use Rattle.std.specs.Cmp.{unsigned_Decides}
use Rattle.std.specs.List.{find}
use Rattle.std.specs.Map.{lookup}
use Rattle.std.specs.Option.{option_copied}
use Rattle.std.specs.Prelude.{◌&&◌, ◌==◌, if◌then◌else◌, is_some, option_map}
use Rattle.indexmap.specs.IndexMap.{insert_entry}
use Rattle.ssa_runnable.specs.Methods.{is_same}
use Rattle.ssa_runnable.specs.Methods.{KnowsMethods, function_among, function_in, method_in, with_method}
use Rattle.ssa_runnable.specs.contracts.methods.MethodOfPartialEq.TheImpl as generated
use Rattle.ssa_runnable.specs.declared.methods.MethodOf.{MethodOf}
use Rattle.go_base.specs.declared.ids.FuncId.{FuncId}
use Rattle.go_type.specs.Same.{both, same_id, same_id-Decides}
use Rattle.ssa_ir.specs.declared.code.MethodLine.{MethodLine}
use Rattle.ssa_mean.specs.Calls.{is_method_line}

-- ---- what a map of methods holds

pick : {A B : Type 0} (b : Bool) (e : A × B) (x : Option B) (y : Option (A × B)) → x ≡ option_map (λ line. line.1) y
    → cond b (Some e.1) x ≡ option_map (λ line. line.1) (cond b (Some e) y)
pick true e x y h = refl
pick false e x y h = h

function_is : (it : MethodOf) (entries : List (MethodOf × FuncId))
    → lookup (generated.ghosts.eq it) entries ≡ function_in entries it
function_is it [] = refl
function_is it (line ∷ lines) =
    pick (is_same it line.0) line (lookup (generated.ghosts.eq it) lines) (find (λ line. is_same it line.0) lines)
    (function_is it lines)

-- ---- an entry more

one_more : (b : Bool) (k : MethodOf) (v : FuncId) (entry : MethodOf × FuncId) (entries more : List (MethodOf × FuncId))
    → cond b (Some entry.1) (lookup (generated.ghosts.eq k) entries) ≡ None
    → (lookup (generated.ghosts.eq k) entries ≡ None → more ≡ entries ++ (k, v) ∷ [])
    → (if b then (entry.0, v) ∷ entries else entry ∷ more) ≡ entry ∷ (entries ++ (k, v) ∷ [])
one_more true k v entry entries more h next = cc
one_more false k v entry entries more h next = ap (λ l. entry ∷ l) (next h)

insert_last : (k : MethodOf) (v : FuncId) (entries : List (MethodOf × FuncId)) → lookup (generated.ghosts.eq k) entries ≡ None
    → insert_entry generated.ghosts.eq entries k v ≡ entries ++ (k, v) ∷ []
insert_last k v [] h = refl
insert_last k v (entry ∷ entries) h =
    one_more (generated.ghosts.eq k entry.0) k v entry entries (insert_entry generated.ghosts.eq entries k v) h
    (insert_last k v entries)

was_none : (it : Option (Bor FuncId)) → is_some it ≡ false → option_copied it ≡ None
was_none None h = refl
was_none (Some x) h = cc

was_some : (it : Option (Bor FuncId)) (other : Option FuncId) → is_some it ≡ true → option_copied it ≡ other → is_some other ≡ true
was_some None other h k = cc
was_some (Some x) other h k = ap is_some (sym k)

pub inserted : (line : MethodLine) (entries more : List (MethodOf × FuncId)) (function : FuncId) (found : Option (Bor FuncId))
    → more ≡ insert_entry generated.ghosts.eq entries (method_in line) function
    → option_copied found ≡ lookup (generated.ghosts.eq (method_in line)) entries → is_some found ≡ false
    → function ≡ line.function → more ≡ with_method line entries
inserted line entries more function found e g h k =
    let none : lookup (generated.ghosts.eq (method_in line)) entries ≡ None = sym g ∙ was_none found h in
    let absent : function_in entries (method_in line) ≡ None = sym (function_is (method_in line) entries) ∙ none in
    e ∙ insert_last (method_in line) function entries none
    ∙ ap (λ (n : FuncId). entries ++ (method_in line, n) ∷ []) k
    ∙ sym (ap (λ (b : Bool). if b then entries else entries ++ (method_in line, line.function) ∷ [])
    (ap is_some absent))

pub kept : (line : MethodLine) (entries : List (MethodOf × FuncId)) (found : Option (Bor FuncId))
    → option_copied found ≡ lookup (generated.ghosts.eq (method_in line)) entries → is_some found ≡ true
    → entries ≡ with_method line entries
kept line entries found g h =
    let there : is_some (function_in entries (method_in line)) ≡ true =
    was_some found (function_in entries (method_in line)) h (g ∙ function_is (method_in line) entries) in
    sym (ap (λ (b : Bool). if b then entries else entries ++ (method_in line, line.function) ∷ []) there)

-- ---- lines, one more at a time

abbrev or_else : {A : Type 0} → Option A → Option A → Option A
or_else None other = other
or_else (Some it) other = Some it

found_push : {A : Type 0} (b : Bool) (x : A) (whole front last : Option A) → whole ≡ or_else front last
    → cond b (Some x) whole ≡ or_else (cond b (Some x) front) last
found_push true x whole front last h = refl
found_push false x whole front last h = h

find_push : {A : Type 0} (test : A → Bool) (xs : List A) (x : A)
    → find test (xs ++ x ∷ []) ≡ or_else (find test xs) (cond (test x) (Some x) None)
find_push test [] x = refl
find_push test (y ∷ xs) x =
    found_push (test y) y (find test (xs ++ x ∷ [])) (find test xs) (cond (test x) (Some x) None) (find_push test xs x)

map_or : {A B : Type 0} (f : A → B) (front : Option A) (b : Bool) (x : A)
    → option_map f (or_else front (cond b (Some x) None)) ≡ or_else (option_map f front) (cond b (Some (f x)) None)
map_or f None true x = refl
map_or f None false x = refl
map_or f (Some y) b x = refl

-- whether a line is for a method
abbrev fits : MethodOf → MethodLine → Bool
fits it line = is_method_line it.receiver it.name it.«package» line

among_push : (lines : List MethodLine) (line : MethodLine) (it : MethodOf)
    → function_among (lines ++ line ∷ []) it
    ≡ or_else (function_among lines it) (cond (fits it line) (Some line.function) None)
among_push lines line it =
    ap (option_map (λ l. l.function)) (find_push (fits it) lines line)
    ∙ map_or (λ l. l.function) (find (fits it) lines) (fits it line) line

in_push : (entries : List (MethodOf × FuncId)) (method : MethodOf) (function : FuncId) (it : MethodOf)
    → function_in (entries ++ (method, function) ∷ []) it
    ≡ or_else (function_in entries it) (cond (is_same it method) (Some function) None)
in_push entries method function it =
    ap (option_map (λ l. l.1)) (find_push (λ l. is_same it l.0) entries (method, function))
    ∙ map_or (λ l. l.1) (find (λ l. is_same it l.0) entries) (is_same it method) (method, function)

fits_by : (it : MethodOf) (line : MethodLine) → is_same it (method_in line) ≡ fits it line
fits_by it line =
    ap (λ b. same_id it.receiver line.receiver && b)
    (ap (λ b. b && (it.«package» == line.«package»)) (nat_eq_equiv.symm it.name.number line.name.number)
    ∙ ap (λ b. (line.name.number == it.name.number) && b)
    (nat_eq_equiv.symm it.«package» line.«package»))

-- a line that fits is one for the method itself
is_one : (it : MethodOf) (line : MethodLine) → fits it line ≡ true → it ≡ method_in line
is_one it line h =
    let first = both (same_id it.receiver line.receiver) _ h in
    let second = both (line.name.number == it.name.number) _ first.1 in
    let receiver = (same_id-Decides it.receiver line.receiver).0 first.0 in
    let name = (unsigned_Decides line.name.number it.name.number).0 second.0 in
    let in_package = (unsigned_Decides line.«package» it.«package»).0 second.1 in
    λ i. record {
      receiver = receiver i;
      name = record { number = sym name i };
      «package» = sym in_package i;
    }

there_already : (front last : Option FuncId) → is_some front ≡ true → front ≡ or_else front last
there_already None last h = cc
there_already (Some x) last h = refl

-- where the method has an entry already, the line changes nothing
same_where : (it : MethodOf) (line : MethodLine) (entries : List (MethodOf × FuncId)) (b : Bool) → fits it line ≡ b
    → is_some (function_in entries (method_in line)) ≡ true
    → function_in entries it ≡ or_else (function_in entries it) (cond b (Some line.function) None)
same_where it line entries true e h =
    there_already (function_in entries it) (Some line.function)
    (ap (λ (m : MethodOf). is_some (function_in entries m)) (is_one it line e) ∙ h)
same_where it line entries false e h = none_behind (function_in entries it)
  where
    none_behind : (front : Option FuncId) → front ≡ or_else front None
    none_behind None = refl
    none_behind (Some x) = refl

with_more : (it : MethodOf) (line : MethodLine) (entries : List (MethodOf × FuncId)) (b : Bool)
    → is_some (function_in entries (method_in line)) ≡ b
    → function_in (if b then entries else entries ++ (method_in line, line.function) ∷ []) it
    ≡ or_else (function_in entries it) (cond (fits it line) (Some line.function) None)
with_more it line entries true h = same_where it line entries (fits it line) refl h
with_more it line entries false h =
    in_push entries (method_in line) line.function it
    ∙ ap (λ b. or_else (function_in entries it) (cond b (Some line.function) None)) (fits_by it line)

push_line : (lines : List MethodLine) (line : MethodLine) (entries : List (MethodOf × FuncId)) → KnowsMethods lines entries
    → KnowsMethods (lines ++ line ∷ []) (with_method line entries)
push_line lines line entries h it =
    with_more it line entries (is_some (function_in entries (method_in line))) refl
    ∙ ap (λ front. or_else front (cond (fits it line) (Some line.function) None)) (h it)
    ∙ sym (among_push lines line it)

pub knows_more : (lines : List MethodLine) (i : ℕ) (d : MethodLine) (entries more : List (MethodOf × FuncId))
    → i < length lines → KnowsMethods (take i lines) entries → more ≡ with_method (get_or lines i d) entries
    → KnowsMethods (take (i + 1) lines) more
knows_more lines i d entries more l h e =
    subst (λ (xs : List MethodLine). KnowsMethods xs more) (sym (take_more lines i d l))
    (subst (KnowsMethods (take i lines ++ get_or lines i d ∷ [])) (sym e)
    (push_line (take i lines) (get_or lines i d) entries h))

pub knows_whole : (lines lines' : List MethodLine) (i : ℕ) (entries : List (MethodOf × FuncId)) → lines ≡ lines'
    → length lines ≤ i → KnowsMethods (take i lines) entries → KnowsMethods lines' entries
knows_whole lines lines' i entries e l h =
    subst (λ (xs : List MethodLine). KnowsMethods xs entries) (take_all i lines l ∙ e) h

pub knows_none : (entries : List (MethodOf × FuncId)) → entries ≡ [] → KnowsMethods [] entries
knows_none entries e = subst (KnowsMethods []) (sym e) (λ it. refl)

-- ---- looking up

-- what a map of methods gives is the function of the first line
pub looked_up : (lines : List MethodLine) (entries : List (MethodOf × FuncId)) (it : MethodOf) (found : Option FuncId)
    → KnowsMethods lines entries → found ≡ lookup (generated.ghosts.eq it) entries → found ≡ function_among lines it
looked_up lines entries it found h e = e ∙ function_is it entries ∙ h it
