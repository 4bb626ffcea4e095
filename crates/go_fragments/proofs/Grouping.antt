-- Entries one after the other, as the definitions of their groups have them from the right.
use Rattle.std.proofs.Common.{◌≡◌, ℕ, ◌≤◌, length, arith, refl, sym, ap, ◌∙◌, List, [], ◌∷◌, ◌++◌, Option, Some, None, Bool, true, false, ◌&&◌, if◌then◌else◌}
use Rattle.go_ast.specs.declared.token.Token.{Token}
use Rattle.go_grammar.specs.Forests as forms
use Rattle.go_grammar.specs.Forests.{Forest, empty, leaf, node, append}
use Rattle.go_grammar.specs.Reading.{◌>>=◌}
use Rattle.go_grammar.specs.TypeReading.{Entry, name_of_type, is_none, param_of, groups_of, types_of}
use Rattle.go_grammar.proofs.Forests.{append-assoc, append-empty}
use Rattle.go_fragments.specs.declared.groups.Entry.{Entry as Read}
use Rattle.go_syntax.specs.declared.type_exprs.ListedName.{ListedName}
use Rattle.go_syntax.specs.declared.type_exprs.Param.{Param}
use Rattle.go_grammar.specs.View.{view_listed_name, view_param, view_type_expr, each}
use Rattle.go_fragments.proofs.Loops.{each_push}
use Rattle.go_fragments.specs.declared.stop.Stop.{Stop}
use Rattle.go_fragments.specs.declared.stop.Stop.TheVariants as reasons
use Rattle.go_fragments.specs.Giving.{Fails}
use Rattle.go_fragments.specs.Entries.{so_far, view_entry, entries, group_turn, closed_groups, groups_from, local_name, listed_name, type_turn, types_from, are_dots_allowed}

some_same : {A : Type 0} (x y : A) → Some x ≡ Some y → x ≡ y
some_same x y h = cc

-- ---- a name that was read as a type

pub name_by_parts : (ellipsis : Option Token) (form : Forest) (comma : Option Token) → name_of_type ellipsis form comma ≡ listed_name ellipsis (local_name form) comma
name_by_parts (Some dots) form comma = refl
name_by_parts None (node forms.TypeNameForm (leaf name empty) behind) (Some comma) = refl
name_by_parts None (node forms.TypeNameForm (leaf name empty) behind) None = refl
name_by_parts None _ _ = refl

-- ---- groups

name_on : (variadic : Bool) (params names params' names' : Forest) (more : List Entry) (name : Option Forest)
    → (name >>= λ n. so_far params (append names n)) ≡ Some (params', names')
    → ((name >>= λ n. groups_of variadic (append names n) more) >>= λ later. Some (append params later)) ≡ groups_from variadic params' names' more
name_on variadic params names params' names' more None h = cc
name_on variadic params names params' names' more (Some n) h =
    let pair = some_same {A = Forest × Forest} (params, append names n) (params', names') h in
    let e : params' ≡ params = sym (ap (λ (x : Forest × Forest). x.0) pair) in let f : names' ≡ append names n = sym (ap (λ (x : Forest × Forest). x.1) pair) in rw (e, f) refl

closed_on : (params group : Forest) (later : Option Forest)
    → ((later >>= λ more. Some (append group more)) >>= λ more. Some (append params more)) ≡ (later >>= λ more. Some (append (append params group) more))
closed_on params group None = refl
closed_on params group (Some more) = ap Some (sym (append-assoc params group more))

on : (variadic : Bool) (params names params' names' : Forest) (next : Entry) (more : List Entry) (name ellipsis : Option Token) (form : Forest) (comma : Option Token)
    → group_turn false params names (record { name = name; ellipsis = ellipsis; form = form; comma = comma }) ≡ Some (params', names')
    → groups_from variadic params names (record { name = name; ellipsis = ellipsis; form = form; comma = comma } ∷ next ∷ more) ≡ groups_from variadic params' names' (next ∷ more)
on variadic params names params' names' next more None ellipsis form comma h =
    name_on variadic params names params' names' (next ∷ more) (name_of_type ellipsis form comma) h
on variadic params names params' names' next more (Some token) None form comma h =
    let group = param_of (append names (leaf token empty)) (record { name = Some token; ellipsis = None; form = form; comma = comma }) in
    let pair = some_same {A = Forest × Forest} (append params group, empty) (params', names') h in
    let e : params' ≡ append params group = sym (ap (λ (x : Forest × Forest). x.0) pair) in let f : names' ≡ empty = sym (ap (λ (x : Forest × Forest). x.1) pair) in
    rw (e, f) (closed_on params group (groups_of variadic empty (next ∷ more)))
on variadic params names params' names' next more (Some token) (Some dots) form comma h = cc

-- an entry that is not the last
pub group_on : (variadic : Bool) (params names params' names' : Forest) (entry next : Entry) (more : List Entry)
    → group_turn false params names entry ≡ Some (params', names')
    → groups_from variadic params names (entry ∷ next ∷ more) ≡ groups_from variadic params' names' (next ∷ more)
group_on variadic params names params' names' entry next more h =
    on variadic params names params' names' next more entry.name entry.ellipsis entry.form entry.comma h

name_stops : (variadic : Bool) (params names : Forest) (more : List Entry) (name : Option Forest)
    → (name >>= λ n. so_far params (append names n)) ≡ None
    → ((name >>= λ n. groups_of variadic (append names n) more) >>= λ later. Some (append params later)) ≡ None
name_stops variadic params names more None h = refl
name_stops variadic params names more (Some n) h = cc

stops : (variadic : Bool) (params names : Forest) (next : Entry) (more : List Entry) (name ellipsis : Option Token) (form : Forest) (comma : Option Token)
    → group_turn false params names (record { name = name; ellipsis = ellipsis; form = form; comma = comma }) ≡ None
    → groups_from variadic params names (record { name = name; ellipsis = ellipsis; form = form; comma = comma } ∷ next ∷ more) ≡ None
stops variadic params names next more None ellipsis form comma h = name_stops variadic params names (next ∷ more) (name_of_type ellipsis form comma) h
stops variadic params names next more (Some token) None form comma h = cc
stops variadic params names next more (Some token) (Some dots) form comma h = refl

pub group_stops : (variadic : Bool) (params names : Forest) (entry next : Entry) (more : List Entry)
    → group_turn false params names entry ≡ None → groups_from variadic params names (entry ∷ next ∷ more) ≡ None
group_stops variadic params names entry next more h = stops variadic params names next more entry.name entry.ellipsis entry.form entry.comma h

-- ---- the last entry of groups

closed : (is_closed : Bool) (params : Forest)
    → ((if is_closed then Some empty else None) >>= λ later. Some (append params later)) ≡ (if is_closed then Some params else None)
closed true params = ap Some (append-empty params)
closed false params = refl

name_last : (variadic : Bool) (params names params' names' : Forest) (name : Option Forest)
    → (name >>= λ n. so_far params (append names n)) ≡ Some (params', names')
    → ((name >>= λ n. groups_of variadic (append names n) []) >>= λ later. Some (append params later)) ≡ closed_groups params' names'
name_last variadic params names params' names' None h = cc
name_last variadic params names params' names' (Some n) h =
    let pair = some_same {A = Forest × Forest} (params, append names n) (params', names') h in
    let e : params' ≡ params = sym (ap (λ (x : Forest × Forest). x.0) pair) in let f : names' ≡ append names n = sym (ap (λ (x : Forest × Forest). x.1) pair) in rw (e, f) (closed (is_none (append names n)) params)

group_by : (is_fine : Bool) (params group params' names' : Forest)
    → (if is_fine then so_far (append params group) empty else None) ≡ Some (params', names')
    → ((if is_fine then Some (append group empty) else None) >>= λ later. Some (append params later)) ≡ closed_groups params' names'
group_by true params group params' names' h =
    let pair = some_same {A = Forest × Forest} (append params group, empty) (params', names') h in
    let e : params' ≡ append params group = sym (ap (λ (x : Forest × Forest). x.0) pair) in let f : names' ≡ empty = sym (ap (λ (x : Forest × Forest). x.1) pair) in rw (e, f) (ap (λ (x : Forest). Some (append params x)) (append-empty group))
group_by false params group params' names' h = cc

last_entry : (variadic : Bool) (params names params' names' : Forest) (name ellipsis : Option Token) (form : Forest) (comma : Option Token)
    → group_turn variadic params names (record { name = name; ellipsis = ellipsis; form = form; comma = comma }) ≡ Some (params', names')
    → groups_from variadic params names (record { name = name; ellipsis = ellipsis; form = form; comma = comma } ∷ []) ≡ closed_groups params' names'
last_entry variadic params names params' names' None ellipsis form comma h = name_last variadic params names params' names' (name_of_type ellipsis form comma) h
last_entry variadic params names params' names' (Some token) None form comma h =
    group_by true params (param_of (append names (leaf token empty)) (record { name = Some token; ellipsis = None; form = form; comma = comma })) params' names' h
last_entry variadic params names params' names' (Some token) (Some dots) form comma h =
    group_by (variadic && is_none names) params (param_of (append names (leaf token empty)) (record { name = Some token; ellipsis = Some dots; form = form; comma = comma })) params' names' h

pub group_last : (variadic : Bool) (params names params' names' : Forest) (entry : Entry)
    → group_turn variadic params names entry ≡ Some (params', names')
    → groups_from variadic params names (entry ∷ []) ≡ closed_groups params' names'
group_last variadic params names params' names' entry h = last_entry variadic params names params' names' entry.name entry.ellipsis entry.form entry.comma h

group_none : (is_fine : Bool) (params group : Forest)
    → (if is_fine then so_far (append params group) empty else None) ≡ None
    → ((if is_fine then Some (append group empty) else None) >>= λ later. Some (append params later)) ≡ None
group_none true params group h = cc
group_none false params group h = refl

last_stops : (variadic : Bool) (params names : Forest) (name ellipsis : Option Token) (form : Forest) (comma : Option Token)
    → group_turn variadic params names (record { name = name; ellipsis = ellipsis; form = form; comma = comma }) ≡ None
    → groups_from variadic params names (record { name = name; ellipsis = ellipsis; form = form; comma = comma } ∷ []) ≡ None
last_stops variadic params names None ellipsis form comma h = name_stops variadic params names [] (name_of_type ellipsis form comma) h
last_stops variadic params names (Some token) None form comma h = cc
last_stops variadic params names (Some token) (Some dots) form comma h =
    group_none (variadic && is_none names) params (param_of (append names (leaf token empty)) (record { name = Some token; ellipsis = Some dots; form = form; comma = comma })) h

pub group_last_stops : (variadic : Bool) (params names : Forest) (entry : Entry)
    → group_turn variadic params names entry ≡ None → groups_from variadic params names (entry ∷ []) ≡ None
group_last_stops variadic params names entry h = last_stops variadic params names entry.name entry.ellipsis entry.form entry.comma h

-- ---- types alone

types_on : (variadic : Bool) (params param : Forest) (next : Entry) (more : List Entry) (name ellipsis : Option Token) (form : Forest) (comma : Option Token)
    → type_turn false (record { name = name; ellipsis = ellipsis; form = form; comma = comma }) ≡ Some param
    → types_from variadic params (record { name = name; ellipsis = ellipsis; form = form; comma = comma } ∷ next ∷ more) ≡ types_from variadic (append params param) (next ∷ more)
types_on variadic params param next more name None form comma h =
    let e : param ≡ param_of empty (record { name = name; ellipsis = None; form = form; comma = comma }) = cc in rw e (closed_on params _ (types_of variadic (next ∷ more)))
types_on variadic params param next more name (Some dots) form comma h = cc

pub type_on : (variadic : Bool) (params param : Forest) (entry next : Entry) (more : List Entry)
    → type_turn false entry ≡ Some param → types_from variadic params (entry ∷ next ∷ more) ≡ types_from variadic (append params param) (next ∷ more)
type_on variadic params param entry next more h = types_on variadic params param next more entry.name entry.ellipsis entry.form entry.comma h

types_stop : (variadic : Bool) (params : Forest) (next : Entry) (more : List Entry) (name ellipsis : Option Token) (form : Forest) (comma : Option Token)
    → type_turn false (record { name = name; ellipsis = ellipsis; form = form; comma = comma }) ≡ None
    → types_from variadic params (record { name = name; ellipsis = ellipsis; form = form; comma = comma } ∷ next ∷ more) ≡ None
types_stop variadic params next more name None form comma h = cc
types_stop variadic params next more name (Some dots) form comma h = refl

pub type_stops : (variadic : Bool) (params : Forest) (entry next : Entry) (more : List Entry)
    → type_turn false entry ≡ None → types_from variadic params (entry ∷ next ∷ more) ≡ None
type_stops variadic params entry next more h = types_stop variadic params next more entry.name entry.ellipsis entry.form entry.comma h

type_by : (is_fine : Bool) (params group param : Forest)
    → (if is_fine then Some group else None) ≡ Some param
    → ((if is_fine then Some (append group empty) else None) >>= λ later. Some (append params later)) ≡ Some (append params param)
type_by true params group param h = let e : param ≡ group = cc in rw e (ap (λ (x : Forest). Some (append params x)) (append-empty group))
type_by false params group param h = cc

types_last : (variadic : Bool) (params param : Forest) (name ellipsis : Option Token) (form : Forest) (comma : Option Token)
    → type_turn variadic (record { name = name; ellipsis = ellipsis; form = form; comma = comma }) ≡ Some param
    → types_from variadic params (record { name = name; ellipsis = ellipsis; form = form; comma = comma } ∷ []) ≡ Some (append params param)
types_last variadic params param name None form comma h = type_by true params (param_of empty (record { name = name; ellipsis = None; form = form; comma = comma })) param h
types_last variadic params param name (Some dots) form comma h =
    type_by variadic params (param_of empty (record { name = name; ellipsis = Some dots; form = form; comma = comma })) param h

pub type_last : (variadic : Bool) (params param : Forest) (entry : Entry)
    → type_turn variadic entry ≡ Some param → types_from variadic params (entry ∷ []) ≡ Some (append params param)
type_last variadic params param entry h = types_last variadic params param entry.name entry.ellipsis entry.form entry.comma h

type_none : (is_fine : Bool) (params group : Forest)
    → (if is_fine then Some group else None) ≡ None
    → ((if is_fine then Some (append group empty) else None) >>= λ later. Some (append params later)) ≡ None
type_none true params group h = cc
type_none false params group h = refl

types_last_stops : (variadic : Bool) (params : Forest) (name ellipsis : Option Token) (form : Forest) (comma : Option Token)
    → type_turn variadic (record { name = name; ellipsis = ellipsis; form = form; comma = comma }) ≡ None
    → types_from variadic params (record { name = name; ellipsis = ellipsis; form = form; comma = comma } ∷ []) ≡ None
types_last_stops variadic params name None form comma h = cc
types_last_stops variadic params name (Some dots) form comma h =
    type_none variadic params (param_of empty (record { name = name; ellipsis = Some dots; form = form; comma = comma })) h

pub type_last_stops : (variadic : Bool) (params : Forest) (entry : Entry)
    → type_turn variadic entry ≡ None → types_from variadic params (entry ∷ []) ≡ None
type_last_stops variadic params entry h = types_last_stops variadic params entry.name entry.ellipsis entry.form entry.comma h

-- ---- turns of the loops over entries before the last

group_before : (variadic : Bool) (params names params' names' : Forest) (x last : Read) (after : List Read)
    → group_turn false params names (view_entry x) ≡ Some (params', names')
    → groups_from variadic params names (entries (x ∷ after ++ last ∷ [])) ≡ groups_from variadic params' names' (entries (after ++ last ∷ []))
group_before variadic params names params' names' x last [] h = group_on variadic params names params' names' (view_entry x) (view_entry last) [] h
group_before variadic params names params' names' x last (y ∷ after) h =
    group_on variadic params names params' names' (view_entry x) (view_entry y) (entries (after ++ last ∷ [])) h

group_before_stops : (variadic : Bool) (params names : Forest) (x last : Read) (after : List Read)
    → group_turn false params names (view_entry x) ≡ None → groups_from variadic params names (entries (x ∷ after ++ last ∷ [])) ≡ None
group_before_stops variadic params names x last [] h = group_stops variadic params names (view_entry x) (view_entry last) [] h
group_before_stops variadic params names x last (y ∷ after) h = group_stops variadic params names (view_entry x) (view_entry y) (entries (after ++ last ∷ [])) h

pub groups_go_on : (variadic : Bool) (params names params' names' : Forest) (before after : List Read) (x last : Read) (total : Option Forest)
    → before ≡ x ∷ after → group_turn false params names (view_entry x) ≡ Some (params', names')
    → groups_from variadic params names (entries (before ++ last ∷ [])) ≡ total → groups_from variadic params' names' (entries (after ++ last ∷ [])) ≡ total
groups_go_on variadic params names params' names' before after x last total e h so_far =
    sym (group_before variadic params names params' names' x last after h) ∙ ap (λ (list : List Read). groups_from variadic params names (entries (list ++ last ∷ []))) (sym e) ∙ so_far

pub groups_fail : (stop : Stop) (variadic : Bool) (params names : Forest) (before after : List Read) (x last : Read) (total : Option Forest)
    → before ≡ x ∷ after → Fails stop (group_turn false params names (view_entry x))
    → groups_from variadic params names (entries (before ++ last ∷ [])) ≡ total → Fails stop total
groups_fail reasons.Memory variadic params names before after x last total e h so_far = tt
groups_fail reasons.Unexpected variadic params names before after x last total e h so_far =
    sym so_far ∙ ap (λ (list : List Read). groups_from variadic params names (entries (list ++ last ∷ []))) e ∙ group_before_stops variadic params names x last after h

type_before : (variadic : Bool) (params param : Forest) (x last : Read) (after : List Read)
    → type_turn false (view_entry x) ≡ Some param
    → types_from variadic params (entries (x ∷ after ++ last ∷ [])) ≡ types_from variadic (append params param) (entries (after ++ last ∷ []))
type_before variadic params param x last [] h = type_on variadic params param (view_entry x) (view_entry last) [] h
type_before variadic params param x last (y ∷ after) h = type_on variadic params param (view_entry x) (view_entry y) (entries (after ++ last ∷ [])) h

type_before_stops : (variadic : Bool) (params : Forest) (x last : Read) (after : List Read)
    → type_turn false (view_entry x) ≡ None → types_from variadic params (entries (x ∷ after ++ last ∷ [])) ≡ None
type_before_stops variadic params x last [] h = type_stops variadic params (view_entry x) (view_entry last) [] h
type_before_stops variadic params x last (y ∷ after) h = type_stops variadic params (view_entry x) (view_entry y) (entries (after ++ last ∷ [])) h

pub types_go_on : (variadic : Bool) (ps qs : List Param) (p : Param) (before after : List Read) (x last : Read) (total : Option Forest)
    → before ≡ x ∷ after → type_turn false (view_entry x) ≡ Some (view_param p) → qs ≡ ps ++ p ∷ []
    → types_from variadic (each view_param ps) (entries (before ++ last ∷ [])) ≡ total → types_from variadic (each view_param qs) (entries (after ++ last ∷ [])) ≡ total
types_go_on variadic ps qs p before after x last total e h q so_far =
    ap (λ (front : Forest). types_from variadic front (entries (after ++ last ∷ []))) (ap (each view_param) q ∙ each_push view_param ps p)
    ∙ sym (type_before variadic (each view_param ps) (view_param p) x last after h)
    ∙ ap (λ (list : List Read). types_from variadic (each view_param ps) (entries (list ++ last ∷ []))) (sym e) ∙ so_far

pub types_fail : (stop : Stop) (variadic : Bool) (params : Forest) (before after : List Read) (x last : Read) (total : Option Forest)
    → before ≡ x ∷ after → Fails stop (type_turn false (view_entry x))
    → types_from variadic params (entries (before ++ last ∷ [])) ≡ total → Fails stop total
types_fail reasons.Memory variadic params before after x last total e h so_far = tt
types_fail reasons.Unexpected variadic params before after x last total e h so_far =
    sym so_far ∙ ap (λ (list : List Read). types_from variadic params (entries (list ++ last ∷ []))) e ∙ type_before_stops variadic params x last after h

-- ---- one entry, as the code adds it

by_name : (allowed : Bool) (params names : Forest) (name ellipsis : Option Token) (form : Forest) (comma : Option Token) (token : Token)
    → name ≡ Some token → are_dots_allowed (allowed && is_none names) ellipsis ≡ true
    → group_turn allowed params names (record { name = name; ellipsis = ellipsis; form = form; comma = comma })
    ≡ Some (append params (param_of (append names (leaf token empty)) (record { name = name; ellipsis = ellipsis; form = form; comma = comma })), empty)
by_name allowed params names None ellipsis form comma token h g = cc
by_name allowed params names (Some other) ellipsis form comma token h g = let e : other ≡ token = cc in rw (e, g) refl

by_name_stops : (allowed : Bool) (params names : Forest) (name ellipsis : Option Token) (form : Forest) (comma : Option Token) (token : Token)
    → name ≡ Some token → are_dots_allowed (allowed && is_none names) ellipsis ≡ false
    → group_turn allowed params names (record { name = name; ellipsis = ellipsis; form = form; comma = comma }) ≡ None
by_name_stops allowed params names None ellipsis form comma token h g = cc
by_name_stops allowed params names (Some other) ellipsis form comma token h g = rw g refl

-- a parameter with its last name
pub param_turn : (allowed : Bool) (ps qs : List Param) (ns ms left : List ListedName) (token : Token) (x : Read) (p : Param)
    → x.name ≡ Some token → true ≡ are_dots_allowed (allowed && is_none (each view_listed_name ns)) x.ellipsis
    → ms ≡ ns ++ record { name = token; comma = None } ∷ [] → view_param p ≡ param_of (each view_listed_name ms) (view_entry x) → qs ≡ ps ++ p ∷ [] → left ≡ []
    → group_turn allowed (each view_param ps) (each view_listed_name ns) (view_entry x) ≡ Some (each view_param qs, each view_listed_name left)
param_turn allowed ps qs ns ms left token x p h g m v q l =
    let named : each view_listed_name ms ≡ append (each view_listed_name ns) (leaf token empty) = ap (each view_listed_name) m ∙ each_push view_listed_name ns (record { name = token; comma = None }) in
    let last : each view_param qs ≡ append (each view_param ps) (param_of (append (each view_listed_name ns) (leaf token empty)) (view_entry x)) =
    ap (each view_param) q ∙ each_push view_param ps p ∙ ap (append (each view_param ps)) (v ∙ ap (λ (front : Forest). param_of front (view_entry x)) named) in
    let none : each view_listed_name left ≡ empty = ap (each view_listed_name) l in
    by_name allowed (each view_param ps) (each view_listed_name ns) x.name x.ellipsis (view_type_expr x.form.value) x.comma token h (sym g)
    ∙ ap (λ (front : Forest). so_far front empty) (sym last) ∙ ap (λ (names : Forest). so_far (each view_param qs) names) (sym none)

pub param_turn_stops : (allowed : Bool) (params : Forest) (ns : List ListedName) (token : Token) (x : Read)
    → x.name ≡ Some token → false ≡ are_dots_allowed (allowed && is_none (each view_listed_name ns)) x.ellipsis
    → group_turn allowed params (each view_listed_name ns) (view_entry x) ≡ None
param_turn_stops allowed params ns token x h g =
    by_name_stops allowed params (each view_listed_name ns) x.name x.ellipsis (view_type_expr x.form.value) x.comma token h (sym g)

unnamed : (allowed : Bool) (params names : Forest) (name ellipsis : Option Token) (form : Forest) (comma : Option Token)
    → name ≡ None
    → group_turn allowed params names (record { name = name; ellipsis = ellipsis; form = form; comma = comma })
    ≡ (name_of_type ellipsis form comma >>= λ more. so_far params (append names more))
unnamed allowed params names None ellipsis form comma h = refl
unnamed allowed params names (Some token) ellipsis form comma h = cc

-- a name of a later parameter
pub name_turn : (allowed : Bool) (params : Forest) (ns ms : List ListedName) (x : Read) (n : ListedName)
    → x.name ≡ None → name_of_type x.ellipsis (view_type_expr x.form.value) x.comma ≡ Some (view_listed_name n) → ms ≡ ns ++ n ∷ []
    → group_turn allowed params (each view_listed_name ns) (view_entry x) ≡ Some (params, each view_listed_name ms)
name_turn allowed params ns ms x n h g m =
    let named : each view_listed_name ms ≡ append (each view_listed_name ns) (view_listed_name n) = ap (each view_listed_name) m ∙ each_push view_listed_name ns n in
    unnamed allowed params (each view_listed_name ns) x.name x.ellipsis (view_type_expr x.form.value) x.comma h
    ∙ ap (λ (read : Option Forest). read >>= λ more. so_far params (append (each view_listed_name ns) more)) g ∙ ap (λ (names : Forest). so_far params names) (sym named)

pub name_turn_fails : (stop : Stop) (allowed : Bool) (params names : Forest) (x : Read)
    → x.name ≡ None → Fails stop (name_of_type x.ellipsis (view_type_expr x.form.value) x.comma) → Fails stop (group_turn allowed params names (view_entry x))
name_turn_fails reasons.Memory allowed params names x h g = tt
name_turn_fails reasons.Unexpected allowed params names x h g =
    unnamed allowed params names x.name x.ellipsis (view_type_expr x.form.value) x.comma h ∙ ap (λ (read : Option Forest). read >>= λ more. so_far params (append names more)) g

-- some name is left
pub a_name_left : (ns : List ListedName) → 1 ≤ length ns → false ≡ is_none (each view_listed_name ns)
a_name_left [] h = absurd (omega arith)
a_name_left (n ∷ ns) h = refl

-- ---- the start and the end of the loops

nothing_left : (list : List Read) (n : ℕ) → n ≡ length list → n ≡ 0 → list ≡ []
nothing_left [] n h e = refl
nothing_left (x ∷ xs) n h e = absurd (omega arith)

unchanged : (read : Option Forest) → (read >>= λ later. Some (append empty later)) ≡ read
unchanged None = refl
unchanged (Some later) = refl

pub groups_start : (variadic : Bool) (ps : List Param) (ns : List ListedName) (whole front before : List Read) (last : Read)
    → ps ≡ [] → ns ≡ [] → whole ≡ front ++ last ∷ [] → before ≡ front
    → groups_from variadic (each view_param ps) (each view_listed_name ns) (entries (before ++ last ∷ [])) ≡ groups_of variadic empty (entries whole)
groups_start variadic ps ns whole front before last p n w b = rw (p, n, w, b) (unchanged (groups_of variadic empty (entries (front ++ last ∷ []))))

-- groups with the last entry, where no name is left
pub groups_end : (variadic : Bool) (params names params' names' : Forest) (before : List Read) (last : Read) (n : ℕ) (total : Option Forest)
    → n ≡ length before → n ≡ 0 → group_turn variadic params names (view_entry last) ≡ Some (params', names')
    → groups_from variadic params names (entries (before ++ last ∷ [])) ≡ total → total ≡ closed_groups params' names'
groups_end variadic params names params' names' before last n total h e turn so_far =
    sym so_far ∙ ap (λ (list : List Read). groups_from variadic params names (entries (list ++ last ∷ []))) (nothing_left before n h e)
    ∙ group_last variadic params names params' names' (view_entry last) turn

pub groups_end_fails : (stop : Stop) (variadic : Bool) (params names : Forest) (before : List Read) (last : Read) (n : ℕ) (total : Option Forest)
    → n ≡ length before → n ≡ 0 → Fails stop (group_turn variadic params names (view_entry last))
    → groups_from variadic params names (entries (before ++ last ∷ [])) ≡ total → Fails stop total
groups_end_fails reasons.Memory variadic params names before last n total h e turn so_far = tt
groups_end_fails reasons.Unexpected variadic params names before last n total h e turn so_far =
    sym so_far ∙ ap (λ (list : List Read). groups_from variadic params names (entries (list ++ last ∷ []))) (nothing_left before n h e)
    ∙ group_last_stops variadic params names (view_entry last) turn

pub types_start : (variadic : Bool) (ps : List Param) (whole front before : List Read) (last : Read)
    → ps ≡ [] → whole ≡ front ++ last ∷ [] → before ≡ front
    → types_from variadic (each view_param ps) (entries (before ++ last ∷ [])) ≡ types_of variadic (entries whole)
types_start variadic ps whole front before last p w b = rw (p, w, b) (unchanged (types_of variadic (entries (front ++ last ∷ []))))

pub types_end : (variadic : Bool) (ps qs : List Param) (p : Param) (before : List Read) (last : Read) (n : ℕ) (total : Option Forest)
    → n ≡ length before → n ≡ 0 → type_turn variadic (view_entry last) ≡ Some (view_param p) → qs ≡ ps ++ p ∷ []
    → types_from variadic (each view_param ps) (entries (before ++ last ∷ [])) ≡ total → total ≡ Some (each view_param qs)
types_end variadic ps qs p before last n total h e turn q so_far =
    sym so_far ∙ ap (λ (list : List Read). types_from variadic (each view_param ps) (entries (list ++ last ∷ []))) (nothing_left before n h e)
    ∙ type_last variadic (each view_param ps) (view_param p) (view_entry last) turn
    ∙ ap Some (sym (ap (each view_param) q ∙ each_push view_param ps p))

pub types_end_fails : (stop : Stop) (variadic : Bool) (params : Forest) (before : List Read) (last : Read) (n : ℕ) (total : Option Forest)
    → n ≡ length before → n ≡ 0 → Fails stop (type_turn variadic (view_entry last))
    → types_from variadic params (entries (before ++ last ∷ [])) ≡ total → Fails stop total
types_end_fails reasons.Memory variadic params before last n total h e turn so_far = tt
types_end_fails reasons.Unexpected variadic params before last n total h e turn so_far =
    sym so_far ∙ ap (λ (list : List Read). types_from variadic params (entries (list ++ last ∷ []))) (nothing_left before n h e)
    ∙ type_last_stops variadic params (view_entry last) turn

pub types_end_none : (variadic : Bool) (params : Forest) (before : List Read) (last : Read) (n : ℕ) (total : Option Forest)
    → n ≡ length before → n ≡ 0 → type_turn variadic (view_entry last) ≡ None
    → types_from variadic params (entries (before ++ last ∷ [])) ≡ total → total ≡ None
types_end_none variadic params before last n total h e turn so_far =
    types_end_fails reasons.Unexpected variadic params before last n total h e turn so_far
