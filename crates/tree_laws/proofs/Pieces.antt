-- Pieces of trees, whose fields are told.
use Rattle.std.proofs.Common.{◌≡◌, refl, sym, ap, ◌∙◌, List, [], ◌∷◌, map, Option, Some, None, rules}
use Rattle.std.specs.Prelude.{Bool, true, false, ◌&&◌}
use Rattle.go_ast.specs.contracts.token.Kind.{the_type}
use Rattle.go_ast.specs.declared.token.Kind.{Kind}
use Rattle.go_ast.specs.declared.token.Kind.TheVariants as kinds
use Rattle.go_ast.specs.declared.token.Token.{Token}
use Rattle.go_syntax.specs.declared.stmts.Binding.{Binding}
use Rattle.go_syntax.specs.declared.stmts.Label.{Label}
use Rattle.go_syntax.specs.declared.type_exprs.ListedName.{ListedName}
use Rattle.go_syntax.specs.declared.type_exprs.NamedType.{NamedType}
use Rattle.go_syntax.specs.declared.type_exprs.NamedType.TheVariants as named
use Rattle.go_grammar.specs.Forests as forms
use Rattle.go_grammar.specs.Forests.{Form, Forest}
use Rattle.go_grammar.specs.Grammar.{is_semicolon}
use Rattle.go_grammar.specs.Shapes.{is}
use Rattle.go_grammar.specs.View as view
use Rattle.tree_roles.specs.Tokens.{is_kind, passes_if, is_filled, in_turn, every, between, ends, are_names, are_labels, is_named, is_binding_if, InList}
use Rattle.tree_laws.specs.Fields as fields
use Rattle.tree_laws.specs.Fields.{Field, Marked, fields_of_named, fields_of_listed_name, fields_of_label, fields_of_binding}
use Rattle.tree_laws.proofs.Told.{field, begins, mark, Plain, same_before}
use denote.Enum.Bare.{same_true}

-- ---- facts of roles, one by one

pub and2 : (a b : Bool) → (a && b) ≡ true → (a ≡ true) × (b ≡ true)
and2 true b h = (refl, h)
and2 false b h = (cc, cc)

pub and3 : (a b c : Bool) → (a && b && c) ≡ true → (a ≡ true) × (b ≡ true) × (c ≡ true)
and3 a b c h = let l = and2 (a && b) c h in let k = and2 a b l.0 in (k.0, k.1, l.1)

pub and4 : (a b c d : Bool) → (a && b && c && d) ≡ true → (a ≡ true) × (b ≡ true) × (c ≡ true) × (d ≡ true)
and4 a b c d h = let l = and2 (a && b && c) d h in let k = and3 a b c l.0 in (k.0, k.1, k.2, l.1)

pub and5 : (a b c d e : Bool) → (a && b && c && d && e) ≡ true → (a ≡ true) × (b ≡ true) × (c ≡ true) × (d ≡ true) × (e ≡ true)
and5 a b c d e h = let l = and2 (a && b && c && d) e h in let k = and4 a b c d l.0 in (k.0, k.1, k.2, k.3, l.1)

pub and6 : (a b c d e f : Bool) → (a && b && c && d && e && f) ≡ true → (a ≡ true) × (b ≡ true) × (c ≡ true) × (d ≡ true) × (e ≡ true) × (f ≡ true)
and6 a b c d e f h = let l = and2 (a && b && c && d && e) f h in let k = and5 a b c d e l.0 in (k.0, k.1, k.2, k.3, k.4, l.1)

pub and7 : (a b c d e f g : Bool) → (a && b && c && d && e && f && g) ≡ true → (a ≡ true) × (b ≡ true) × (c ≡ true) × (d ≡ true) × (e ≡ true) × (f ≡ true) × (g ≡ true)
and7 a b c d e f g h = let l = and2 (a && b && c && d && e && f) g h in let k = and6 a b c d e f l.0 in (k.0, k.1, k.2, k.3, k.4, k.5, l.1)

pub and8 : (a b c d e f g i : Bool) → (a && b && c && d && e && f && g && i) ≡ true → (a ≡ true) × (b ≡ true) × (c ≡ true) × (d ≡ true) × (e ≡ true) × (f ≡ true) × (g ≡ true) × (i ≡ true)
and8 a b c d e f g i h = let l = and2 (a && b && c && d && e && f && g) i h in let k = and7 a b c d e f g l.0 in (k.0, k.1, k.2, k.3, k.4, k.5, k.6, l.1)

never : {A : Type 0} → false ≡ true → A
never h = let no : ⊥ = cc in absurd no

pub kind_is : (kind : Kind) (token : Token) → is_kind kind token ≡ true → token.kind ≡ kind
kind_is kind token h = same_true the_type (search rules) _ _ h

-- ---- lists side by side

append_empty : (f : Forest) → forms.append f forms.empty ≡ f
append_empty forms.empty = refl
append_empty (forms.leaf token behind) = ap (λ (g : Forest). forms.leaf token g) (append_empty behind)
append_empty (forms.node form below behind) = ap (λ (g : Forest). forms.node form below g) (append_empty behind)

append_assoc : (f g h : Forest) → forms.append (forms.append f g) h ≡ forms.append f (forms.append g h)
append_assoc forms.empty g h = refl
append_assoc (forms.leaf token behind) g h = ap (λ (k : Forest). forms.leaf token k) (append_assoc behind g h)
append_assoc (forms.node form below behind) g h = ap (λ (k : Forest). forms.node form below k) (append_assoc behind g h)

append_none : (f : Marked) → fields.append f fields.empty ≡ f
append_none fields.empty = refl
append_none (fields.leaf field token behind) = ap (λ (g : Marked). fields.leaf field token g) (append_none behind)
append_none (fields.node form below behind) = ap (λ (g : Marked). fields.node form below g) (append_none behind)

append_all : (f g h : Marked) → fields.append (fields.append f g) h ≡ fields.append f (fields.append g h)
append_all fields.empty g h = refl
append_all (fields.leaf field token behind) g h = ap (λ (k : Marked). fields.leaf field token k) (append_all behind g h)
append_all (fields.node form below behind) g h = ap (λ (k : Marked). fields.node form below k) (append_all behind g h)

-- ---- pieces

-- what stands within a node of a form, where it does not matter what stands beside it
pub record Part (form : Form) (trees : Forest) (marked : Marked) : Type 0 where
  pub reads : (before : Bool) (rest : Forest) → mark form before (forms.append trees rest) ≡ fields.append marked (mark form false rest)

-- a node, wherever it stands
pub record IsTree (trees : Forest) (marked : Marked) : Type 0 where
  pub reads : (form : Form) (before : Bool) (rest : Forest) → mark form before (forms.append trees rest) ≡ fields.append marked (mark form true rest)
  pub first : (rest : Forest) → begins (forms.append trees rest) ≡ true

pub nothing : {form : Form} → Plain form → Part form forms.empty fields.empty
nothing {form = form} fine = record { reads = λ before rest. elim before as (λ (b : Bool). mark form b rest ≡ mark form false rest) [ true ↦ same_before form fine rest | false ↦ refl ] }

pub under : {form : Form} {trees : Forest} {marked : Marked} → Plain form → IsTree trees marked → Part form trees marked
under {form = form} {trees = trees} {marked = marked} fine t = record { reads = λ before rest. t.reads form before rest ∙ ap (λ (m : Marked). fields.append marked m) (same_before form fine rest) }

pub token : (form : Form) (f : Field) (t : Token) → ((before after : Bool) → field form before after t.kind ≡ f) → Part form (view.one t) (fields.one f t)
token form f t says = record { reads = λ before rest. ap (λ (g : Field). fields.leaf g t (mark form false rest)) (says before (begins rest)) }

pub token_is : (form : Form) (f : Field) (kind : Kind) (t : Token) → ((before after : Bool) → field form before after kind ≡ f) → is_kind kind t ≡ true → Part form (view.one t) (fields.one f t)
token_is form f kind t says h = token form f t (λ before after. ap (λ (k : Kind). field form before after k) (kind_is kind t h) ∙ says before after)

pub token_of : (form : Form) (f : Field) (test : Kind → Bool) (t : Token) → ((before after : Bool) (kind : Kind) → test kind ≡ true → field form before after kind ≡ f) → test t.kind ≡ true → Part form (view.one t) (fields.one f t)
token_of form f test t says h = token form f t (λ before after. says before after t.kind h)

pub maybe_of : (form : Form) (f : Field) (test : Kind → Bool) (t : Option Token) → Plain form → ((before after : Bool) (kind : Kind) → test kind ≡ true → field form before after kind ≡ f) → passes_if test t ≡ true → Part form (view.token_if t) (fields.token_if f t)
maybe_of form f test None fine says h = nothing fine
maybe_of form f test (Some t) fine says h = token_of form f test t says h

pub maybe_is : (form : Form) (f : Field) (kind : Kind) (t : Option Token) → Plain form → ((before after : Bool) → field form before after kind ≡ f) → passes_if (λ other. is other kind) t ≡ true → Part form (view.token_if t) (fields.token_if f t)
maybe_is form f kind None fine says h = nothing fine
maybe_is form f kind (Some t) fine says h = token_is form f kind t says h

infixr 30 ◌⊗◌
pub ◌⊗◌ : {form : Form} {a b : Forest} {m n : Marked} → Part form a m → Part form b n → Part form (forms.append a b) (fields.append m n)
◌⊗◌ {form = form} {a = a} {b = b} {m = m} {n = n} p q = record {
  reads = λ before rest.
      ap (λ (f : Forest). mark form before f) (append_assoc a b rest) ∙ p.reads before (forms.append b rest)
      ∙ ap (λ (k : Marked). fields.append m k) (q.reads false rest) ∙ sym (append_all m n (mark form false rest));
}

pub whole : {form : Form} {a : Forest} {m : Marked} → Part form a m → mark form false a ≡ m
whole {form = form} {a = a} {m = m} p = ap (λ (f : Forest). mark form false f) (sym (append_empty a)) ∙ p.reads false forms.empty ∙ append_none m

pub made_of : {form : Form} {a : Forest} {m : Marked} → mark form false a ≡ m → IsTree (view.tree form a) (fields.tree form m)
made_of {form = form} {a = a} {m = m} e = record { reads = λ outer before rest. ap (λ (k : Marked). fields.node form k (mark outer true rest)) e; first = λ rest. refl }

pub made : {form : Form} {a : Forest} {m : Marked} → Part form a m → IsTree (view.tree form a) (fields.tree form m)
made p = made_of (whole p)

pub carry : {a b : Forest} {m n : Marked} → b ≡ a → n ≡ m → IsTree a m → IsTree b n
carry e d t = rw (e, d) t

-- ---- an item, and the token behind it

-- a token behind it may be left out
pub record Ended (test : Kind → Bool) (f : Field) (trees : Forest) (marked : Marked) : Type 0 where
  pub part : (form : Form) → Plain form → ((before after : Bool) (kind : Kind) → test kind ≡ true → field form before after kind ≡ f) → Part form trees marked

pub ended : (test : Kind → Bool) (f : Field) (t : Option Token) (more : Bool) {a : Forest} {m : Marked} → IsTree a m → ends test t more ≡ true → Ended test f (forms.append a (view.token_if t)) (fields.append m (fields.token_if f t))
ended test f None more t h = record { part = λ form fine says. under fine t ⊗ nothing fine }
ended test f (Some token) more t h = record { part = λ form fine says. under fine t ⊗ token_of form f test token says h }

pub carry_ended : {test : Kind → Bool} {f : Field} {a b : Forest} {m n : Marked} → b ≡ a → n ≡ m → Ended test f a m → Ended test f b n
carry_ended e d t = rw (e, d) t

pub each_ended : {A : Type 0} (test : Kind → Bool) (f : Field) (roles : A → InList) (view_of : A → Forest) (fields_of : A → Marked) (xs : List ((x : A) × ((more : Bool) → roles x more ≡ true → Ended test f (view_of x) (fields_of x)))) → in_turn (map roles (map (λ e. e.0) xs)) ≡ true → Ended test f (view.all (map view_of (map (λ e. e.0) xs))) (fields.all (map fields_of (map (λ e. e.0) xs)))
each_ended test f roles view_of fields_of [] h = record { part = λ form fine says. nothing fine }
each_ended {A = A} test f roles view_of fields_of (x ∷ xs) h =
    let more = is_filled (map roles (map (λ e. e.0) xs)) in
    let hs = and2 (roles x.0 more) (in_turn (map roles (map (λ e. e.0) xs))) h in
    record { part = λ form fine says. (x.1 more hs.0).part form fine says ⊗ (each_ended test f roles view_of fields_of xs hs.1).part form fine says }

-- ---- an expression of a list, and the comma behind it, which stands before another

pub record Listed (more : Bool) (trees : Forest) (marked : Marked) : Type 0 where
  pub reads : (form : Form) → Plain form → ((before : Bool) → field form before true kinds.Comma ≡ fields.Comma) → (before : Bool) (rest : Forest) → (more ≡ true → begins rest ≡ true) → mark form before (forms.append trees rest) ≡ fields.append marked (mark form false rest)
  pub first : (rest : Forest) → begins (forms.append trees rest) ≡ true

pub listed : (t : Option Token) (more : Bool) {a : Forest} {m : Marked} → IsTree a m → between t more ≡ true → Listed more (forms.append a (view.token_if t)) (fields.append m (fields.token_if fields.Comma t))
listed None more {a = a} {m = m} t h = record { reads = λ form fine says before rest follows. (under fine t ⊗ nothing fine).reads before rest; first = λ rest. ap begins (append_assoc a forms.empty rest) ∙ t.first rest }
listed (Some token) more {a = a} {m = m} t h =
    let hs = and2 more (is_kind kinds.Comma token) h in
    record {
      reads = λ form fine says before rest follows.
          ap (λ (g : Forest). mark form before g) (append_assoc a (view.one token) rest)
          ∙ t.reads form before (forms.leaf token rest)
          ∙ ap (λ (g : Field). fields.append m (fields.leaf g token (mark form false rest))) (ap (λ (b : Bool). field form true b token.kind) (follows hs.0) ∙ ap (λ (k : Kind). field form true true k) (kind_is kinds.Comma token hs.1) ∙ says true)
          ∙ sym (append_all m (fields.one fields.Comma token) (mark form false rest));
      first = λ rest. ap begins (append_assoc a (view.one token) rest) ∙ t.first (forms.leaf token rest);
    }

pub carry_listed : {more : Bool} {a b : Forest} {m n : Marked} → b ≡ a → n ≡ m → Listed more a m → Listed more b n
carry_listed e d t = rw (e, d) t

abbrev ListedP : (A : Type 0) (roles : A → InList) (view_of : A → Forest) (fields_of : A → Marked) → Type 0
ListedP A roles view_of fields_of = (x : A) × ((more : Bool) → roles x more ≡ true → Listed more (view_of x) (fields_of x))

first_listed : {A : Type 0} (roles : A → InList) (view_of : A → Forest) (fields_of : A → Marked) (x : ListedP A roles view_of fields_of) (xs : List (ListedP A roles view_of fields_of)) → in_turn (map roles (map (λ e. e.0) (x ∷ xs))) ≡ true → (form : Form) → Plain form → ((before : Bool) → field form before true kinds.Comma ≡ fields.Comma) → Part form (view.all (map view_of (map (λ e. e.0) (x ∷ xs)))) (fields.all (map fields_of (map (λ e. e.0) (x ∷ xs))))
first_listed roles view_of fields_of x [] h form fine says =
    let hs = and2 (roles x.0 false) true h in
    record {
      reads = λ before rest.
          ap (λ (f : Forest). mark form before (forms.append f rest)) (append_empty (view_of x.0))
          ∙ (x.1 false hs.0).reads form fine says before rest (λ no. cc)
          ∙ ap (λ (m : Marked). fields.append m (mark form false rest)) (sym (append_none (fields_of x.0)));
    }
first_listed roles view_of fields_of x (y ∷ ys) h form fine says =
    let hs = and2 (roles x.0 true) (in_turn (map roles (map (λ e. e.0) (y ∷ ys)))) h in
    let behind = first_listed roles view_of fields_of y ys hs.1 form fine says in
    let more = is_filled (map roles (map (λ e. e.0) ys)) in
    let ks = and2 (roles y.0 more) (in_turn (map roles (map (λ e. e.0) ys))) hs.1 in
    let a = view_of x.0 in
    let b = view.all (map view_of (map (λ e. e.0) (y ∷ ys))) in
    let m = fields_of x.0 in
    let n = fields.all (map fields_of (map (λ e. e.0) (y ∷ ys))) in
    record {
      reads = λ before rest.
          ap (λ (f : Forest). mark form before f) (append_assoc a b rest)
          ∙ (x.1 true hs.0).reads form fine says before (forms.append b rest) (λ yes. ap begins (append_assoc (view_of y.0) (view.all (map view_of (map (λ e. e.0) ys))) rest) ∙ (y.1 more ks.0).first (forms.append (view.all (map view_of (map (λ e. e.0) ys))) rest))
          ∙ ap (λ (k : Marked). fields.append m k) (behind.reads false rest)
          ∙ sym (append_all m n (mark form false rest));
    }

pub each_listed : {A : Type 0} (roles : A → InList) (view_of : A → Forest) (fields_of : A → Marked) (xs : List (ListedP A roles view_of fields_of)) → in_turn (map roles (map (λ e. e.0) xs)) ≡ true → (form : Form) → Plain form → ((before : Bool) → field form before true kinds.Comma ≡ fields.Comma) → Part form (view.all (map view_of (map (λ e. e.0) xs))) (fields.all (map fields_of (map (λ e. e.0) xs)))
each_listed roles view_of fields_of [] h form fine says = nothing fine
each_listed roles view_of fields_of (x ∷ xs) h form fine says = first_listed roles view_of fields_of x xs h form fine says

-- ---- nodes in a list

pub each_tree : {A : Type 0} (roles : A → Bool) (view_of : A → Forest) (fields_of : A → Marked) (xs : List ((x : A) × (roles x ≡ true → IsTree (view_of x) (fields_of x)))) → every (map roles (map (λ e. e.0) xs)) ≡ true → (form : Form) → Plain form → Part form (view.all (map view_of (map (λ e. e.0) xs))) (fields.all (map fields_of (map (λ e. e.0) xs)))
each_tree roles view_of fields_of [] h form fine = nothing fine
each_tree roles view_of fields_of (x ∷ xs) h form fine =
    let hs = and2 (roles x.0) (every (map roles (map (λ e. e.0) xs))) h in
    under fine (x.1 hs.0) ⊗ each_tree roles view_of fields_of xs hs.1 form fine

pub each_in_turn : {A : Type 0} (roles : A → InList) (view_of : A → Forest) (fields_of : A → Marked) (xs : List ((x : A) × ((more : Bool) → roles x more ≡ true → IsTree (view_of x) (fields_of x)))) → in_turn (map roles (map (λ e. e.0) xs)) ≡ true → (form : Form) → Plain form → Part form (view.all (map view_of (map (λ e. e.0) xs))) (fields.all (map fields_of (map (λ e. e.0) xs)))
each_in_turn roles view_of fields_of [] h form fine = nothing fine
each_in_turn roles view_of fields_of (x ∷ xs) h form fine =
    let more = is_filled (map roles (map (λ e. e.0) xs)) in
    let hs = and2 (roles x.0 more) (in_turn (map roles (map (λ e. e.0) xs))) h in
    under fine (x.1 more hs.0) ⊗ each_in_turn roles view_of fields_of xs hs.1 form fine

-- ---- lines of a struct or an interface, where an empty one is a semicolon alone

pub record HasLines (form : Form) : Type 0 where
  pub behind : (after : Bool) (kind : Kind) → is_semicolon kind ≡ true → field form true after kind ≡ fields.Semicolon
  pub alone : (after : Bool) (kind : Kind) → is_semicolon kind ≡ true → field form false after kind ≡ fields.Only

pub record Line (more : Bool) (trees : Forest) (marked : Marked) : Type 0 where
  pub reads : (form : Form) → HasLines form → (rest : Forest) → (more ≡ false → mark form true rest ≡ mark form false rest) → mark form false (forms.append trees rest) ≡ fields.append marked (mark form false rest)

pub line : (t : Option Token) (more : Bool) {a : Forest} {m : Marked} → IsTree a m → ends is_semicolon t more ≡ true → Line more (forms.append a (view.token_if t)) (fields.append m (fields.token_if fields.Semicolon t))
line None true {a = a} {m = m} t h = never h
line None false {a = a} {m = m} t h = record {
  reads = λ form has rest same.
      ap (λ (g : Forest). mark form false g) (append_assoc a forms.empty rest) ∙ t.reads form false rest
      ∙ ap (λ (k : Marked). fields.append m k) (same refl) ∙ ap (λ (k : Marked). fields.append k (mark form false rest)) (sym (append_none m));
}
line (Some token) more {a = a} {m = m} t h = record {
  reads = λ form has rest same.
      ap (λ (g : Forest). mark form false g) (append_assoc a (view.one token) rest) ∙ t.reads form false (forms.leaf token rest)
      ∙ ap (λ (g : Field). fields.append m (fields.leaf g token (mark form false rest))) (has.behind (begins rest) token.kind h)
      ∙ sym (append_all m (fields.one fields.Semicolon token) (mark form false rest));
}

pub empty_line : (token : Token) (more : Bool) → is_semicolon token.kind ≡ true → Line more (view.one token) (fields.one fields.Only token)
empty_line token more h = record { reads = λ form has rest same. ap (λ (g : Field). fields.leaf g token (mark form false rest)) (has.alone (begins rest) token.kind h) }

pub carry_line : {more : Bool} {a b : Forest} {m n : Marked} → b ≡ a → n ≡ m → Line more a m → Line more b n
carry_line e d t = rw (e, d) t

abbrev LineP : (A : Type 0) (roles : A → InList) (view_of : A → Forest) (fields_of : A → Marked) → Type 0
LineP A roles view_of fields_of = (x : A) × ((more : Bool) → roles x more ≡ true → Line more (view_of x) (fields_of x))

first_line : {A : Type 0} (roles : A → InList) (view_of : A → Forest) (fields_of : A → Marked) (x : LineP A roles view_of fields_of) (xs : List (LineP A roles view_of fields_of)) → in_turn (map roles (map (λ e. e.0) (x ∷ xs))) ≡ true → (form : Form) → HasLines form → (rest : Forest) → mark form true rest ≡ mark form false rest → mark form false (forms.append (view.all (map view_of (map (λ e. e.0) (x ∷ xs)))) rest) ≡ fields.append (fields.all (map fields_of (map (λ e. e.0) (x ∷ xs)))) (mark form false rest)
first_line roles view_of fields_of x [] h form has rest same =
    let hs = and2 (roles x.0 false) true h in
    ap (λ (f : Forest). mark form false (forms.append f rest)) (append_empty (view_of x.0))
    ∙ (x.1 false hs.0).reads form has rest (λ no. same)
    ∙ ap (λ (m : Marked). fields.append m (mark form false rest)) (sym (append_none (fields_of x.0)))
first_line roles view_of fields_of x (y ∷ ys) h form has rest same =
    let hs = and2 (roles x.0 true) (in_turn (map roles (map (λ e. e.0) (y ∷ ys)))) h in
    let a = view_of x.0 in
    let b = view.all (map view_of (map (λ e. e.0) (y ∷ ys))) in
    let m = fields_of x.0 in
    let n = fields.all (map fields_of (map (λ e. e.0) (y ∷ ys))) in
    ap (λ (f : Forest). mark form false f) (append_assoc a b rest)
    ∙ (x.1 true hs.0).reads form has (forms.append b rest) (λ no. never (sym no))
    ∙ ap (λ (k : Marked). fields.append m k) (first_line roles view_of fields_of y ys hs.1 form has rest same)
    ∙ sym (append_all m n (mark form false rest))

pub each_line : {A : Type 0} (roles : A → InList) (view_of : A → Forest) (fields_of : A → Marked) (xs : List (LineP A roles view_of fields_of)) → in_turn (map roles (map (λ e. e.0) xs)) ≡ true → (form : Form) → HasLines form → (rest : Forest) → mark form true rest ≡ mark form false rest → mark form false (forms.append (view.all (map view_of (map (λ e. e.0) xs))) rest) ≡ fields.append (fields.all (map fields_of (map (λ e. e.0) xs))) (mark form false rest)
each_line roles view_of fields_of [] h form has rest same = refl
each_line roles view_of fields_of (x ∷ xs) h form has rest same = first_line roles view_of fields_of x xs h form has rest same

-- ---- what holds no tree

comma_behind : (form : Form) → Plain form → ((before after : Bool) → field form before after kinds.Comma ≡ fields.Comma) → (t : Option Token) (more : Bool) → between t more ≡ true → Part form (view.token_if t) (fields.token_if fields.Comma t)
comma_behind form fine says None more h = nothing fine
comma_behind form fine says (Some t) more h = token_is form fields.Comma kinds.Comma t says (and2 more (is_kind kinds.Comma t) h).1

pub names : (form : Form) → Plain form → ((before after : Bool) → field form before after kinds.Name ≡ fields.Name) → ((before after : Bool) → field form before after kinds.Comma ≡ fields.Comma) → (xs : List ListedName) → are_names xs ≡ true → Part form (view.each view.view_listed_name xs) (fields.each fields_of_listed_name xs)
names form fine name comma [] h = nothing fine
names form fine name comma (x ∷ xs) h =
    let hs = and3 (is_kind kinds.Name x.name) (between x.comma (is_filled xs)) (are_names xs) h in
    (token_is form fields.Name kinds.Name x.name name hs.0 ⊗ comma_behind form fine comma x.comma (is_filled xs) hs.1) ⊗ names form fine name comma xs hs.2

pub labels : (xs : List Label) → are_labels xs ≡ true → Part forms.LabeledForm (view.each view.view_label xs) (fields.each fields_of_label xs)
labels [] h = nothing (λ after kind. refl)
labels (x ∷ xs) h =
    let hs = and3 (is_kind kinds.Name x.name) (is_kind kinds.Colon x.colon) (are_labels xs) h in
    (token_is forms.LabeledForm fields.Name kinds.Name x.name (λ before after. refl) hs.0 ⊗ token_is forms.LabeledForm fields.Colon kinds.Colon x.colon (λ before after. refl) hs.1) ⊗ labels xs hs.2

pub named_type : (x : NamedType) → is_named x ≡ true → IsTree (view.view_named x) (fields_of_named x)
named_type (named.Local name) h = made (token_is forms.TypeNameForm fields.Name kinds.Name name (λ before after. refl) h)
named_type (named.Imported package_name dot name) h =
    let hs = and3 (is_kind kinds.Name package_name) (is_kind kinds.Dot dot) (is_kind kinds.Name name) h in
    made (token_is forms.TypeNameForm fields.Name kinds.Name package_name (λ before after. refl) hs.0 ⊗ token_is forms.TypeNameForm fields.Dot kinds.Dot dot (λ before after. refl) hs.1 ⊗ token_is forms.TypeNameForm fields.Name kinds.Name name (λ before after. refl) hs.2)

pub binding : (x : Option Binding) → is_binding_if x ≡ true → Part forms.TypeSwitchForm (view.if_some view.view_binding x) (fields.if_some fields_of_binding x)
binding None h = nothing (λ after kind. refl)
binding (Some x) h =
    let hs = and2 (is_kind kinds.Name x.name) (is_kind kinds.Define x.define) h in
    token_is forms.TypeSwitchForm fields.Name kinds.Name x.name (λ before after. refl) hs.0 ⊗ token_is forms.TypeSwitchForm fields.Define kinds.Define x.define (λ before after. refl) hs.1
