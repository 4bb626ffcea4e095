-- What is read of parameters fits, and stands at the front.
use Rattle.std.proofs.Common.{◌≡◌, ℕ, zero, suc, Bool, true, false, cond, List, [], ◌∷◌, ◌++◌, length, Option, Some, None, refl, sym, ap, ◌∙◌, subst, append_assoc}
use Rattle.std.proofs.lemmas.List.{append-nil}
use Rattle.std.specs.Prelude.{◌&&◌, ◌||◌}
use Rattle.go_ast.specs.declared.token.Kind.{Kind}
use Rattle.go_ast.specs.declared.token.Kind.TheVariants as kinds
use Rattle.go_ast.specs.declared.token.Token.{Token}
use Rattle.go_grammar.specs.Forests.{Form, Forest, empty, leaf, node, append, yield}
use Rattle.go_grammar.specs.Forests as forms
use Rattle.go_grammar.specs.Shapes as shapes
use Rattle.go_grammar.specs.Shapes.{Shape, Fits, part, below, first, second, both, sign, nothing, done, more, is}
use Rattle.go_grammar.specs.Grammar as sorts
use Rattle.go_grammar.specs.Grammar.{Sort, grammar}
use Rattle.go_grammar.specs.Tests.{begins, begins_type_at}
use Rattle.go_grammar.specs.Reading.{◌>>=◌}
use Rattle.go_grammar.specs.TypeReading.{Parsers, Entry, token_if, optional_in, param_name_in, separator_in, entry_in, entries_in, has_names, are_dots_fine, param_of, types_of, name_of_type, is_none, groups_of, params_of, params_in}
use Rattle.go_grammar.proofs.Outcome.{Yields, yields_some, yields_none, yields_bind, yields_if}
use Rattle.go_grammar.proofs.TypeTakes.{Had, Got, got_of, Sound}
use Rattle.go_grammar.proofs.Forests.{append-assoc, append-empty, yield-append}
use Rattle.go_grammar.proofs.Pieces.{word_takes, then_had, node_had}

some_is : {A : Type 0} (x y : A) → Some x ≡ Some y → x ≡ y
some_is x y e = cc

-- ---- entries

-- a token that may be there, of a kind
abbrev pub IsWord : Kind → Option Token → Type 0
IsWord kind None = Unit {0}
IsWord kind (Some token) = is token.kind kind ≡ true

abbrev pub entry_tree : Entry → Forest
entry_tree entry = append (token_if entry.name) (append (token_if entry.ellipsis) (append entry.form (token_if entry.comma)))

abbrev pub entries_text : List Entry → List Token
entries_text [] = []
entries_text (entry ∷ entries) = yield (entry_tree entry) ++ entries_text entries

pub record IsEntry (entry : Entry) (entries : List Entry) (rest : List Token) : Type 0 where
  pub name : IsWord kinds.Name entry.name
  pub ellipsis : IsWord kinds.Ellipsis entry.ellipsis
  pub form : Fits grammar (shapes.Part sorts.AnyType) entry.form (yield (token_if entry.comma) ++ (entries_text entries ++ rest))
  pub comma : IsWord kinds.Comma entry.comma
  pub last : entry.comma ≡ None → entries ≡ []

abbrev pub AreEntries : List Entry → List Token → Type 0
AreEntries [] rest = Unit {0}
AreEntries (entry ∷ entries) rest = IsEntry entry entries rest × AreEntries entries rest

-- a token that was read where one might be
pub record GotWord (kind : Kind) (tokens : List Token) (x : Option Token × List Token) : Type 0 where
  pub text : tokens ≡ yield (token_if x.0) ++ x.1
  pub fine : IsWord kind x.0

optional_takes : (kind : Kind) (tokens : List Token) → GotWord kind tokens (optional_in kind tokens)
optional_takes kind [] = record { text = refl; fine = tt }
optional_takes kind (token ∷ rest) = go (is token.kind kind) refl
  where
    go : (b : Bool) → is token.kind kind ≡ b → GotWord kind (token ∷ rest) (cond b (Some token, rest) (None, token ∷ rest))
    go true e = record { text = refl; fine = e }
    go false e = record { text = refl; fine = tt }

param_name_takes : (tokens : List Token) → GotWord kinds.Name tokens (param_name_in tokens)
param_name_takes [] = record { text = refl; fine = tt }
param_name_takes (token ∷ rest) = go (is token.kind kinds.Name) (begins_type_at rest || begins kinds.Ellipsis rest) refl
  where
    go : (a b : Bool) → is token.kind kinds.Name ≡ a → GotWord kinds.Name (token ∷ rest) (cond (a && b) (Some token, rest) (None, token ∷ rest))
    go true true e = record { text = refl; fine = e }
    go true false e = record { text = refl; fine = tt }
    go false b e = record { text = refl; fine = tt }

pub record GotSeparator (tokens : List Token) (x : Option Token × List Token) : Type 0 where
  pub word : GotWord kinds.Comma tokens x
  pub last : x.0 ≡ None → begins kinds.CloseParen x.1 ≡ true

separator_takes : (tokens : List Token) → Yields (separator_in kinds.CloseParen tokens) (GotSeparator tokens)
separator_takes [] = yields_none
separator_takes (token ∷ rest) =
    yields_if (is token.kind kinds.CloseParen)
    (λ t. yields_some (record { word = record { text = refl; fine = tt }; last = λ e. t }))
    (λ f. yields_if (is token.kind kinds.Comma)
    (λ t. yields_some (record { word = record { text = refl; fine = t }; last = λ e. absurd cc }))
    (λ t. yields_none))

-- no entry before a closing parenthesis
entries_end : (p : Parsers) (n : ℕ) (tokens : List Token) (x : List Entry × List Token) → entries_in p n tokens ≡ Some x → begins kinds.CloseParen tokens ≡ true → x.0 ≡ []
entries_end p zero tokens x e b = ap (λ (y : List Entry × List Token). y.0) (sym (some_is ([], tokens) x e))
entries_end p (suc n) tokens x e b = ap (λ (y : List Entry × List Token). y.0) (sym (some_is ([], tokens) x (rw b at e)))

module _ (p : Parsers) (s : Sound p) where
  -- an entry, where these are read behind it
  pub record GotEntry (tokens : List Token) (x : Entry × List Token) : Type 0 where
    pub text : tokens ≡ yield (entry_tree x.0) ++ x.1
    pub name : IsWord kinds.Name x.0.name
    pub ellipsis : IsWord kinds.Ellipsis x.0.ellipsis
    pub form : Fits grammar (shapes.Part sorts.AnyType) x.0.form (yield (token_if x.0.comma) ++ x.1)
    pub comma : IsWord kinds.Comma x.0.comma
    pub last : x.0.comma ≡ None → begins kinds.CloseParen x.1 ≡ true

  entry_takes : (tokens : List Token) → Yields (entry_in p tokens) (GotEntry tokens)
  entry_takes tokens =
      let named = param_name_in tokens in
      let dots = optional_in kinds.Ellipsis named.1 in
      let n = param_name_takes tokens in
      let d = optional_takes kinds.Ellipsis named.1 in
      yields_bind (s.type_expr dots.1) (λ form g.
      yields_bind (separator_takes form.1) (λ comma c.
      yields_some (record {
        text = n.text ∙ ap (λ (ws : List Token). yield (token_if named.0) ++ ws) (d.text ∙ ap (λ (ws : List Token). yield (token_if dots.0) ++ ws) (g.any.text ∙ ap (λ (ws : List Token). yield form.0 ++ ws) c.word.text))
            ∙ sym (regroup4 (token_if named.0) (token_if dots.0) form.0 (token_if comma.0) comma.1);
        name = n.fine;
        ellipsis = d.fine;
        form = subst (λ (rest : List Token). Fits grammar (shapes.Part sorts.AnyType) form.0 rest) c.word.text g.any.fine;
        comma = c.word.fine;
        last = c.last;
      })))
    where
      regroup4 : (a b c d : Forest) (rest : List Token) → yield (append a (append b (append c d))) ++ rest ≡ yield a ++ (yield b ++ (yield c ++ (yield d ++ rest)))
      regroup4 a b c d rest = simp (yield-append, append_assoc) refl

  entries_takes : (n : ℕ) (tokens : List Token) → Yields (entries_in p n tokens) (λ x. (tokens ≡ entries_text x.0 ++ x.1) × AreEntries x.0 x.1)
  entries_takes zero tokens = yields_some (refl, tt)
  entries_takes (suc n) tokens =
      yields_if (begins kinds.CloseParen tokens)
      (λ t. yields_some (refl, tt))
      (λ f. yields_bind (entry_takes tokens) (λ entry g.
      yields_bind {P = λ more. (entries_in p n entry.1 ≡ Some more) × (entry.1 ≡ entries_text more.0 ++ more.1) × AreEntries more.0 more.1} (record { given = λ more e. let h = (entries_takes n entry.1).given more e in (e, h.0, h.1) }) (λ more h.
      yields_some (
        g.text ∙ ap (λ (ws : List Token). yield (entry_tree entry.0) ++ ws) h.1 ∙ sym (append_assoc (yield (entry_tree entry.0)) (entries_text more.0) more.1),
        (
          record {
            name = g.name;
            ellipsis = g.ellipsis;
            form = subst (λ (rest : List Token). Fits grammar (shapes.Part sorts.AnyType) entry.0.form (yield (token_if entry.0.comma) ++ rest)) h.1 g.form;
            comma = g.comma;
            last = λ e. entries_end p n entry.1 more h.0 (g.last e);
          },
          h.2,
        ),
      ))))

-- ---- parameters of entries

abbrev pub list_shape : Shape Sort → Shape Sort → Shape Sort
list_shape item last = shapes.Then (sorts.listed item last) (shapes.maybe (shapes.word kinds.Comma))

comma_fits : (comma : Option Token) {rest : List Token} → IsWord kinds.Comma comma → Fits grammar (shapes.maybe (shapes.word kinds.Comma)) (token_if comma) rest
comma_fits None h = second nothing
comma_fits (Some token) h = first (sign h)

-- the last of a list
last_fits : {item last : Shape Sort} {tree : Forest} {rest : List Token} (comma : Option Token) → IsWord kinds.Comma comma → Fits grammar last tree (yield (token_if comma) ++ rest) → Fits grammar (list_shape item last) (append (node forms.ParamForm tree empty) (token_if comma)) rest
last_fits comma h x = both (both done (below x)) (comma_fits comma h)

-- one before others
one_fits : {item last : Shape Sort} {tree others : Forest} {rest : List Token} (comma : Token) → is comma.kind kinds.Comma ≡ true → Fits grammar item tree (comma ∷ (yield others ++ rest)) → Fits grammar (list_shape item last) others rest
    → Fits grammar (list_shape item last) (append (append (node forms.ParamForm tree empty) (leaf comma empty)) others) rest
one_fits {item} {last} {tree} {rest = rest} comma h x (both {left = front} {right = k} (both {left = m} {right = l} y z) w) =
    let all : yield (append (append m l) k) ++ rest ≡ yield m ++ (yield l ++ (yield k ++ rest)) = simp (yield-append, append_assoc) refl in
    let x' : Fits grammar item tree (comma ∷ (yield m ++ (yield l ++ (yield k ++ rest)))) = subst (λ (ws : List Token). Fits grammar item tree (comma ∷ ws)) all x in
    let new : Fits grammar (list_shape item last) (append (append (append (append (node forms.ParamForm tree empty) (leaf comma empty)) m) l) k) rest = both (both (more (both (below x') (sign h)) y) z) w in
    new

-- what a parameter is made of, without a name
type_last : (variadic : Bool) (ellipsis : Option Token) {form : Forest} {rest : List Token} → IsWord kinds.Ellipsis ellipsis → are_dots_fine variadic ellipsis [] ≡ true → Fits grammar (shapes.Part sorts.AnyType) form rest
    → Fits grammar (sorts.last_type variadic) (append (token_if ellipsis) form) rest
type_last true None h d x = both (second nothing) x
type_last true (Some token) h d x = both (first (sign h)) x
type_last false None h d x = x
type_last false (Some token) h d x = absurd cc

param_text : (name : Forest) (entry : Entry) → yield (param_of name entry) ≡ yield name ++ yield (append (token_if entry.ellipsis) (append entry.form (token_if entry.comma)))
param_text name entry = simp (yield-append, append_assoc) refl

-- what was made of entries
pub record GotList (item last : Shape Sort) (front : List Token) (entries : List Entry) (rest : List Token) (tree : Forest) : Type 0 where
  pub text : yield tree ≡ front ++ entries_text entries
  pub fine : Fits grammar (list_shape item last) tree rest

if_some : {A : Type 0} (b : Bool) (o : Option A) (x : A) → cond b o None ≡ Some x → (b ≡ true) × (o ≡ Some x)
if_some true o x e = (refl, e)
if_some false o x e = absurd cc

bind_some : {A B : Type 0} (o : Option A) (f : A → Option B) (y : B) → (o >>= f) ≡ Some y → (x : A) × (o ≡ Some x) × (f x ≡ Some y)
bind_some None f y e = absurd cc
bind_some (Some x) f y e = (x, refl, e)

no_dots : (variadic : Bool) (ellipsis : Option Token) (entry : Entry) (entries : List Entry) → are_dots_fine variadic ellipsis (entry ∷ entries) ≡ true → ellipsis ≡ None
no_dots variadic None entry entries h = refl
no_dots variadic (Some token) entry entries h = absurd cc

comma_there : (comma : Option Token) (entry : Entry) (entries : List Entry) → (comma ≡ None → (entry ∷ entries) ≡ []) → (token : Token) × (comma ≡ Some token)
comma_there None entry entries h = let clash = h refl in absurd cc
comma_there (Some token) entry entries h = (token, refl)

-- an entry behind which others stand
middle_fits : {item last : Shape Sort} (name : Forest) (entry next : Entry) (entries : List Entry) (rest : List Token) (others : Forest) → IsEntry entry (next ∷ entries) rest → GotList item last [] (next ∷ entries) rest others
    → Fits grammar item (append name entry.form) (yield (token_if entry.comma) ++ (entries_text (next ∷ entries) ++ rest)) → entry.ellipsis ≡ None → Fits grammar (list_shape item last) (append (param_of name entry) others) rest
middle_fits {item} {last} name entry next entries rest others h g x d =
    let c = comma_there entry.comma next entries h.last in
    let k : is c.0.kind kinds.Comma ≡ true = subst (IsWord kinds.Comma) c.1 h.comma in
    let x' : Fits grammar item (append name entry.form) (c.0 ∷ (yield others ++ rest)) =
    subst (λ (ws : List Token). Fits grammar item (append name entry.form) ws) (ap (λ (o : Option Token). yield (token_if o) ++ (entries_text (next ∷ entries) ++ rest)) c.1 ∙ ap (λ (ws : List Token). c.0 ∷ (ws ++ rest)) (sym g.text)) x in
    let new = one_fits {item = item} {last = last} c.0 k x' g.fine in
    let same : append (node forms.ParamForm (append name entry.form) empty) (leaf c.0 empty) ≡ param_of name entry =
    ap (λ (o : Option Token). append (node forms.ParamForm (append name entry.form) empty) (token_if o)) (sym c.1) ∙ ap (λ (o : Option Token). append (node forms.ParamForm (append name (append (token_if o) entry.form)) empty) (token_if entry.comma)) (sym d) in
    subst (λ (t : Forest). Fits grammar (list_shape item last) (append t others) rest) same new

abbrev pub type_list : Bool → List Token → List Entry → List Token → Forest → Type 0
type_list variadic = GotList (shapes.Part sorts.AnyType) (sorts.last_type variadic)

entry_text : (entry : Entry) → entry.name ≡ None → yield (param_of empty entry) ≡ yield (entry_tree entry)
entry_text entry e = param_text empty entry ∙ ap (λ (o : Option Token). yield (append (token_if o) (append (token_if entry.ellipsis) (append entry.form (token_if entry.comma))))) (sym e)

unnamed : (entry : Entry) (entries : List Entry) → has_names (entry ∷ entries) ≡ false → (entry.name ≡ None) × (has_names entries ≡ false)
unnamed entry entries h = go entry.name refl
  where
    go : (o : Option Token) → entry.name ≡ o → (entry.name ≡ None) × (has_names entries ≡ false)
    go None e = (e, rw e at h)
    go (Some token) e = let clash : true ≡ false = rw e at h in absurd cc

types_fit : (variadic : Bool) (entry : Entry) (entries : List Entry) (rest : List Token) (tree : Forest) → AreEntries (entry ∷ entries) rest → has_names (entry ∷ entries) ≡ false → types_of variadic (entry ∷ entries) ≡ Some tree → type_list variadic [] (entry ∷ entries) rest tree
types_fit variadic entry [] rest tree h n e =
    let i = if_some (are_dots_fine variadic entry.ellipsis []) (Some (append (param_of empty entry) empty)) tree e in
    let same : append (param_of empty entry) empty ≡ tree = some_is (append (param_of empty entry) empty) tree i.1 in
    let plain : param_of empty entry ≡ tree = sym (append-empty (param_of empty entry)) ∙ same in
    let all : Fits grammar (list_shape (shapes.Part sorts.AnyType) (sorts.last_type variadic)) (param_of empty entry) rest = last_fits entry.comma h.0.comma (type_last variadic entry.ellipsis h.0.ellipsis i.0 h.0.form) in
    record {
      text = ap yield (sym plain) ∙ entry_text entry (unnamed entry [] n).0 ∙ sym (append-nil (yield (entry_tree entry)));
      fine = subst (λ (t : Forest). Fits grammar (list_shape (shapes.Part sorts.AnyType) (sorts.last_type variadic)) t rest) plain all;
    }
types_fit variadic entry (next ∷ entries) rest tree h n e =
    let i = if_some (are_dots_fine variadic entry.ellipsis (next ∷ entries)) (types_of variadic (next ∷ entries) >>= λ more. Some (append (param_of empty entry) more)) tree e in
    let b = bind_some (types_of variadic (next ∷ entries)) (λ more. Some (append (param_of empty entry) more)) tree i.1 in
    let u = unnamed entry (next ∷ entries) n in
    let g = types_fit variadic next entries rest b.0 h.1 u.1 b.1 in
    let same : append (param_of empty entry) b.0 ≡ tree = some_is (append (param_of empty entry) b.0) tree b.2 in
    let all = middle_fits empty entry next entries rest b.0 h.0 g h.0.form (no_dots variadic entry.ellipsis next entries i.0) in
    record {
      text = ap yield (sym same) ∙ yield-append (param_of empty entry) b.0 ∙ ap (λ (ws : List Token). ws ++ yield b.0) (entry_text entry u.0) ∙ ap (λ (ws : List Token). yield (entry_tree entry) ++ ws) g.text;
      fine = subst (λ (t : Forest). Fits grammar (list_shape (shapes.Part sorts.AnyType) (sorts.last_type variadic)) t rest) same all;
    }

-- ---- parameters with names

-- names with commas behind them, before others
pub record Pending (names : Forest) : Type 0 where
  pub goes_on : (tail : Forest) (rest : List Token) → Fits grammar sorts.names tail rest → Fits grammar sorts.names (append names tail) rest

pending_none : Pending empty
pending_none = record { goes_on = λ tail rest x. x }

named_before : (name comma : Token) {tail : Forest} {rest : List Token} → is name.kind kinds.Name ≡ true → is comma.kind kinds.Comma ≡ true → Fits grammar sorts.names tail rest → Fits grammar sorts.names (leaf name (leaf comma tail)) rest
named_before name comma n c (both (sign e) m) = both (sign n) (more (both (sign c) (sign e)) m)

pending_more : (names : Forest) (name comma : Token) → is name.kind kinds.Name ≡ true → is comma.kind kinds.Comma ≡ true → Pending names → Pending (append names (leaf name (leaf comma empty)))
pending_more names name comma n c h = record {
  goes_on = λ tail rest x. subst (λ (t : Forest). Fits grammar sorts.names t rest) (sym (append-assoc names (leaf name (leaf comma empty)) tail)) (h.goes_on (leaf name (leaf comma tail)) rest (named_before name comma n c x));
}

pending_last : (names : Forest) (name : Token) (rest : List Token) → is name.kind kinds.Name ≡ true → Pending names → Fits grammar sorts.names (append names (leaf name empty)) rest
pending_last names name rest n h = h.goes_on (leaf name empty) rest (both (sign n) done)

not_none : (names : Forest) (token : Token) (behind : Forest) → is_none (append names (leaf token behind)) ≡ false
not_none empty token behind = refl
not_none (leaf t b) token behind = refl
not_none (node f i b) token behind = refl

-- the name that was read as a type
pub record IsNameType (ellipsis : Option Token) (form : Forest) (comma : Option Token) (tree : Forest) : Type 0 where
  pub name : Token
  pub behind : Forest
  pub separator : Token
  pub no_ellipsis : ellipsis ≡ None
  pub is_form : form ≡ node forms.TypeNameForm (leaf name empty) behind
  pub is_comma : comma ≡ Some separator
  pub is_tree : leaf name (leaf separator empty) ≡ tree

name_type : (ellipsis : Option Token) (form : Forest) (comma : Option Token) (tree : Forest) → name_of_type ellipsis form comma ≡ Some tree → IsNameType ellipsis form comma tree
name_type (Some token) form comma tree e = absurd cc
name_type None empty comma tree e = absurd cc
name_type None (leaf token behind) comma tree e = absurd cc
name_type None (node form inner behind) comma tree e = go form inner comma e
  where
    go : (form : Form) (inner : Forest) (comma : Option Token) → name_of_type None (node form inner behind) comma ≡ Some tree → IsNameType None (node form inner behind) comma tree
    go forms.TypeNameForm (leaf name empty) (Some separator) e = record { name = name; behind = behind; separator = separator; no_ellipsis = refl; is_form = refl; is_comma = refl; is_tree = some_is _ tree e }
    go forms.TypeNameForm (leaf name empty) None e = absurd cc
    go forms.TypeNameForm (leaf name (leaf t b)) comma e = absurd cc
    go forms.TypeNameForm (leaf name (node f i b)) comma e = absurd cc
    go forms.TypeNameForm empty comma e = absurd cc
    go forms.TypeNameForm (node f i b) comma e = absurd cc
    go _ inner comma e = absurd cc

type_name_inner : {inner behind : Forest} {rest : List Token} → Fits grammar (shapes.Part sorts.AnyType) (node forms.TypeNameForm inner behind) rest
    → (behind ≡ empty) × Fits grammar (shapes.Then (shapes.word kinds.Name) (shapes.Either (shapes.Then (shapes.word kinds.Dot) (shapes.word kinds.Name)) (shapes.not_before sorts.is_dot))) inner rest
type_name_inner (part (first (part (first (part (below x)))))) = (refl, x)
type_name_inner (part (first (part (second (first x))))) = elim x [ ]
type_name_inner (part (first (part (second (second (first (part (first x)))))))) = elim x [ ]
type_name_inner (part (first (part (second (second (first (part (second (first x))))))))) = elim x [ ]
type_name_inner (part (first (part (second (second (first (part (second (second (first x)))))))))) = elim x [ ]
type_name_inner (part (first (part (second (second (first (part (second (second (second (first x))))))))))) = elim x [ ]
type_name_inner (part (first (part (second (second (first (part (second (second (second (second x))))))))))) = elim x [ ]
type_name_inner (part (first (part (second (second (second (first (first x)))))))) = elim x [ ]
type_name_inner (part (first (part (second (second (second (first (second x)))))))) = elim x [ ]
type_name_inner (part (first (part (second (second (second (second x))))))) = elim x [ ]
type_name_inner (part (second x)) = elim x [ ]

head_of : Forest → Option Token
head_of (leaf token behind) = Some token
head_of _ = None

head_kind : (kind : Kind) {shape : Shape Sort} {tree : Forest} {rest : List Token} → Fits grammar (shapes.Then (shapes.word kind) shape) tree rest → (token : Token) (behind : Forest) → tree ≡ leaf token behind → is token.kind kind ≡ true
unfolding head_of
head_kind kind (both (sign {token = t} h) y) token behind e = let same : t ≡ token = some_is t token (ap head_of e) in subst (λ (w : Token). is w.kind kind ≡ true) same h

abbrev pub group_list : Bool → List Token → List Entry → List Token → Forest → Type 0
group_list variadic = GotList (shapes.Then sorts.names (shapes.Part sorts.AnyType)) (sorts.last_group variadic)

group_last : (variadic : Bool) (names : Forest) (name : Token) (ellipsis : Option Token) {form : Forest} {rest : List Token} → Pending names → is name.kind kinds.Name ≡ true → IsWord kinds.Ellipsis ellipsis → are_dots_fine (variadic && is_none names) ellipsis [] ≡ true → Fits grammar (shapes.Part sorts.AnyType) form rest
    → Fits grammar (sorts.last_group variadic) (append (append names (leaf name empty)) (append (token_if ellipsis) form)) rest
group_last true names name None {form} {rest} p n h d x = first (both (pending_last names name (yield form ++ rest) n p) x)
group_last false names name None {form} {rest} p n h d x = both (pending_last names name (yield form ++ rest) n p) x
group_last true empty name (Some token) p n h d x = second (both (sign n) (both (sign h) x))
group_last true (leaf t b) name (Some token) p n h d x = absurd cc
group_last true (node f i b) name (Some token) p n h d x = absurd cc
group_last false names name (Some token) p n h d x = absurd cc

-- what an entry whose name is a type adds to the names
record NamesMore (names : Forest) (entry : Entry) (more : Forest) : Type 0 where
  pending : Pending (append names more)
  some : is_none (append names more) ≡ false
  text : yield (append names more) ≡ yield names ++ yield (entry_tree entry)

names_more : (names : Forest) (entry : Entry) (entries : List Entry) (rest : List Token) (more : Forest) → Pending names → IsEntry entry entries rest → entry.name ≡ None → name_of_type entry.ellipsis entry.form entry.comma ≡ Some more → NamesMore names entry more
names_more names entry entries rest added p h none e =
    let k = name_type entry.ellipsis entry.form entry.comma added e in
    let x = type_name_inner (subst (λ (t : Forest). Fits grammar (shapes.Part sorts.AnyType) t (yield (token_if entry.comma) ++ (entries_text entries ++ rest))) k.is_form h.form) in
    let n : is k.name.kind kinds.Name ≡ true = head_kind kinds.Name x.1 k.name empty refl in
    let c : is k.separator.kind kinds.Comma ≡ true = subst (IsWord kinds.Comma) k.is_comma h.comma in
    let form : entry.form ≡ node forms.TypeNameForm (leaf k.name empty) empty = k.is_form ∙ ap (λ (b : Forest). node forms.TypeNameForm (leaf k.name empty) b) x.0 in
    let tree : entry_tree entry ≡ append (node forms.TypeNameForm (leaf k.name empty) empty) (leaf k.separator empty) =
    ap (λ (o : Option Token). append (token_if o) (append (token_if entry.ellipsis) (append entry.form (token_if entry.comma)))) none
    ∙ ap (λ (o : Option Token). append (token_if o) (append entry.form (token_if entry.comma))) k.no_ellipsis
    ∙ ap (λ (o : Option Token). append entry.form (token_if o)) k.is_comma
    ∙ ap (λ (t : Forest). append t (leaf k.separator empty)) form in
    let whole : NamesMore names entry (leaf k.name (leaf k.separator empty)) = record {
      pending = pending_more names k.name k.separator n c p;
      some = not_none names k.name (leaf k.separator empty);
      text = yield-append names (leaf k.name (leaf k.separator empty)) ∙ ap (λ (ws : List Token). yield names ++ ws) (ap yield (sym tree));
    } in
    subst (NamesMore names entry) k.is_tree whole

group_text : (names : Forest) (name : Token) (entry : Entry) → entry.name ≡ Some name → yield (param_of (append names (leaf name empty)) entry) ≡ yield names ++ yield (entry_tree entry)
group_text names name entry e =
    param_text (append names (leaf name empty)) entry ∙ ap (λ (ws : List Token). ws ++ yield (append (token_if entry.ellipsis) (append entry.form (token_if entry.comma)))) (yield-append names (leaf name empty))
    ∙ append_assoc (yield names) (name ∷ []) (yield (append (token_if entry.ellipsis) (append entry.form (token_if entry.comma))))
    ∙ ap (λ (o : Option Token). yield names ++ yield (append (token_if o) (append (token_if entry.ellipsis) (append entry.form (token_if entry.comma))))) (sym e)

groups_fit : (variadic : Bool) (names : Forest) (entry : Entry) (entries : List Entry) (rest : List Token) (tree : Forest) → Pending names → AreEntries (entry ∷ entries) rest → groups_of variadic names (entry ∷ entries) ≡ Some tree → group_list variadic (yield names) (entry ∷ entries) rest tree
groups_fit variadic names entry [] rest tree p h e = go entry.name refl
  where
    go : (o : Option Token) → entry.name ≡ o → group_list variadic (yield names) (entry ∷ []) rest tree
    go None none =
        let e' : (name_of_type entry.ellipsis entry.form entry.comma >>= λ name. groups_of variadic (append names name) []) ≡ Some tree = rw none at e in
        let b = bind_some (name_of_type entry.ellipsis entry.form entry.comma) (λ name. groups_of variadic (append names name) []) tree e' in
        let m = names_more names entry [] rest b.0 p h.0 none b.1 in
        let clash : None ≡ Some tree = rw m.some at b.2 in
        absurd cc
    go (Some name) some =
        let e' : cond (are_dots_fine (variadic && is_none names) entry.ellipsis []) (Some (append (param_of (append names (leaf name empty)) entry) empty)) None ≡ Some tree = rw some at e in
        let i = if_some (are_dots_fine (variadic && is_none names) entry.ellipsis []) (Some (append (param_of (append names (leaf name empty)) entry) empty)) tree e' in
        let n : is name.kind kinds.Name ≡ true = subst (IsWord kinds.Name) some h.0.name in
        let plain : param_of (append names (leaf name empty)) entry ≡ tree = sym (append-empty (param_of (append names (leaf name empty)) entry)) ∙ some_is _ tree i.1 in
        let all : Fits grammar (list_shape (shapes.Then sorts.names (shapes.Part sorts.AnyType)) (sorts.last_group variadic)) (param_of (append names (leaf name empty)) entry) rest =
        last_fits entry.comma h.0.comma (group_last variadic names name entry.ellipsis p n h.0.ellipsis i.0 h.0.form) in
        record {
          text = ap yield (sym plain) ∙ group_text names name entry some ∙ ap (λ (ws : List Token). yield names ++ ws) (sym (append-nil (yield (entry_tree entry))));
          fine = subst (λ (t : Forest). Fits grammar (list_shape (shapes.Then sorts.names (shapes.Part sorts.AnyType)) (sorts.last_group variadic)) t rest) plain all;
        }
groups_fit variadic names entry (next ∷ entries) rest tree p h e = go entry.name refl (λ more q f. groups_fit variadic more next entries rest tree q h.1 f) (λ others f. groups_fit variadic empty next entries rest others pending_none h.1 f)
  where
    go : (o : Option Token) → entry.name ≡ o
        → ((more : Forest) → Pending more → groups_of variadic more (next ∷ entries) ≡ Some tree → group_list variadic (yield more) (next ∷ entries) rest tree)
        → ((others : Forest) → groups_of variadic empty (next ∷ entries) ≡ Some others → group_list variadic [] (next ∷ entries) rest others)
        → group_list variadic (yield names) (entry ∷ next ∷ entries) rest tree
    go None none again closed =
        let e' : (name_of_type entry.ellipsis entry.form entry.comma >>= λ name. groups_of variadic (append names name) (next ∷ entries)) ≡ Some tree = rw none at e in
        let b = bind_some (name_of_type entry.ellipsis entry.form entry.comma) (λ name. groups_of variadic (append names name) (next ∷ entries)) tree e' in
        let m = names_more names entry (next ∷ entries) rest b.0 p h.0 none b.1 in
        let g = again (append names b.0) m.pending b.2 in
        record { text = g.text ∙ ap (λ (ws : List Token). ws ++ entries_text (next ∷ entries)) m.text ∙ append_assoc (yield names) (yield (entry_tree entry)) (entries_text (next ∷ entries)); fine = g.fine }
    go (Some name) some again closed =
        let e' : cond (are_dots_fine (variadic && is_none names) entry.ellipsis (next ∷ entries)) (groups_of variadic empty (next ∷ entries) >>= λ more. Some (append (param_of (append names (leaf name empty)) entry) more)) None ≡ Some tree = rw some at e in
        let i = if_some (are_dots_fine (variadic && is_none names) entry.ellipsis (next ∷ entries)) (groups_of variadic empty (next ∷ entries) >>= λ more. Some (append (param_of (append names (leaf name empty)) entry) more)) tree e' in
        let b = bind_some (groups_of variadic empty (next ∷ entries)) (λ more. Some (append (param_of (append names (leaf name empty)) entry) more)) tree i.1 in
        let n : is name.kind kinds.Name ≡ true = subst (IsWord kinds.Name) some h.0.name in
        let g = closed b.0 b.1 in
        let rest' = yield (token_if entry.comma) ++ (entries_text (next ∷ entries) ++ rest) in
        let one : Fits grammar (shapes.Then sorts.names (shapes.Part sorts.AnyType)) (append (append names (leaf name empty)) entry.form) rest' = both (pending_last names name (yield entry.form ++ rest') n p) h.0.form in
        let all = middle_fits (append names (leaf name empty)) entry next entries rest b.0 h.0 g one (no_dots (variadic && is_none names) entry.ellipsis next entries i.0) in
        let same : append (param_of (append names (leaf name empty)) entry) b.0 ≡ tree = some_is _ tree b.2 in
        record {
          text = ap yield (sym same) ∙ yield-append (param_of (append names (leaf name empty)) entry) b.0 ∙ ap (λ (ws : List Token). ws ++ yield b.0) (group_text names name entry some)
              ∙ append_assoc (yield names) (yield (entry_tree entry)) (yield b.0) ∙ ap (λ (ws : List Token). yield names ++ (yield (entry_tree entry) ++ ws)) g.text;
          fine = subst (λ (t : Forest). Fits grammar (list_shape (shapes.Then sorts.names (shapes.Part sorts.AnyType)) (sorts.last_group variadic)) t rest) same all;
        }

-- ---- lists of parameters

abbrev pub both_lists : Bool → Shape Sort
both_lists variadic = shapes.maybe (shapes.Then (shapes.Either (sorts.listed (shapes.Part sorts.AnyType) (sorts.last_type variadic)) (sorts.listed (shapes.Then sorts.names (shapes.Part sorts.AnyType)) (sorts.last_group variadic))) (shapes.maybe (shapes.word kinds.Comma)))

-- one of two lists
either_first : {a b c : Shape Sort} {tree : Forest} {rest : List Token} → Fits grammar (shapes.Then a c) tree rest → Fits grammar (shapes.Then (shapes.Either a b) c) tree rest
either_first (both x y) = both (first x) y

either_second : {a b c : Shape Sort} {tree : Forest} {rest : List Token} → Fits grammar (shapes.Then b c) tree rest → Fits grammar (shapes.Then (shapes.Either a b) c) tree rest
either_second (both x y) = both (second x) y

params_fit : (variadic : Bool) (entries : List Entry) (rest : List Token) (tree : Forest) → AreEntries entries rest → params_of variadic entries ≡ Some tree → (yield tree ≡ entries_text entries) × Fits grammar (both_lists variadic) tree rest
params_fit variadic [] rest tree h e = subst (λ (t : Forest). (yield t ≡ []) × Fits grammar (both_lists variadic) t rest) (some_is empty tree e) (refl, second nothing)
params_fit variadic (entry ∷ entries) rest tree h e = go (has_names (entry ∷ entries)) refl
  where
    go : (b : Bool) → has_names (entry ∷ entries) ≡ b → (yield tree ≡ entries_text (entry ∷ entries)) × Fits grammar (both_lists variadic) tree rest
    go false n = let g = types_fit variadic entry entries rest tree h n (rw n at e) in (g.text, first (either_first g.fine))
    go true n = let g = groups_fit variadic empty entry entries rest tree pending_none h (rw n at e) in (g.text, first (either_second g.fine))

module _ (p : Parsers) (s : Sound p) where
  list_takes : (variadic : Bool) (tokens : List Token) → Yields (params_in p variadic tokens) (Had (sorts.params_of variadic) tokens)
  list_takes variadic tokens =
      yields_bind (word_takes kinds.OpenParen tokens) (λ opened o.
      yields_bind (entries_takes p s (length opened.1) opened.1) (λ entries g.
      yields_bind (word_takes kinds.CloseParen entries.1) (λ closed c.
      yields_bind {P = λ params. params_of variadic entries.0 ≡ Some params} (record { given = λ params e. e }) (λ params e.
      let f = params_fit variadic entries.0 entries.1 params g.1 e in
      let list : Had (both_lists variadic) opened.1 (params, entries.1) = record { text = g.0 ∙ ap (λ (ws : List Token). ws ++ entries.1) (sym f.0); fine = f.1 } in
      yields_some (node_had forms.ParamsForm (then_had o (then_had list c)))))))

  pub params_takes : (tokens : List Token) → Yields (params_in p true tokens) (Got sorts.Params tokens)
  params_takes tokens = record { given = λ x e. got_of sorts.Params tokens x ((list_takes true tokens).given x e) }

  pub results_takes : (tokens : List Token) → Yields (params_in p false tokens) (Got sorts.Results tokens)
  results_takes tokens = record { given = λ x e. got_of sorts.Results tokens x ((list_takes false tokens).given x e) }
