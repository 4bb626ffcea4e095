-- Parameters are read again: entries of each tree of them, and the tree of these entries.
use Rattle.std.proofs.Common.{◌≡◌, ℕ, ◌≤◌, Bool, true, false, List, [], ◌∷◌, ◌++◌, length, Option, Some, None, refl, sym, ap, ◌∙◌, subst, append_assoc, arith}
use Rattle.std.proofs.lemmas.List.{append-nil, length-append}
use Rattle.std.specs.Prelude.{◌&&◌, not}
use Rattle.go_ast.specs.declared.token.Kind.{Kind}
use Rattle.go_ast.specs.declared.token.Kind.TheVariants as kinds
use Rattle.go_ast.specs.declared.token.Token.{Token}
use Rattle.go_grammar.specs.Forests as forms
use Rattle.go_grammar.specs.Forests.{Forest, empty, leaf, node, append, yield}
use Rattle.go_grammar.specs.Shapes as shapes
use Rattle.go_grammar.specs.Shapes.{Shape, Fits, part, below, both, first, second, sign, nothing, before, done, more, is}
use Rattle.go_grammar.specs.Grammar as sorts
use Rattle.go_grammar.specs.Grammar.{Sort, grammar, is_dot}
use Rattle.go_grammar.specs.TypeReading.{Parsers, Entry, token_if, has_names, are_dots_fine, types_of, is_none, groups_of, params_of, params_in}
use Rattle.go_grammar.proofs.Forests.{yield-append, append-assoc, append-empty}
use Rattle.go_grammar.proofs.Fronts.{IsFirst}
use Rattle.go_grammar.proofs.SameKinds.{is_same}
use Rattle.go_grammar.proofs.Plans.{unpart}
use Rattle.go_grammar.proofs.TypeChoices.{anything}
use Rattle.go_grammar.proofs.ParamTakes.{IsWord, entries_text, AreEntries, both_lists}
use Rattle.go_grammar.proofs.Rereads.{Rereads}
use Rattle.go_grammar.proofs.EntryAgain.{entries_again}

-- ---- parameters without names

-- the entries of parameters without names
record OfTypes (variadic : Bool) (tree : Forest) (rest : List Token) : Type 0 where
  entries : List Entry
  text : entries_text entries ≡ yield tree
  are : AreEntries entries rest
  no_names : has_names entries ≡ false
  made : types_of variadic entries ≡ Some tree

-- the text of a parameter, and of what it was read from
param_text : (names form : Forest) (dots comma : Option Token) → yield (append names (append (token_if dots) (append form (token_if comma)))) ≡ yield (append (node forms.ParamForm (append names (append (token_if dots) form)) empty) (token_if comma))
param_text names form dots comma = simp (yield-append, append_assoc) refl

of_last_type : (variadic : Bool) (dots comma : Option Token) (form : Forest) (rest : List Token) → IsWord kinds.Ellipsis dots → IsWord kinds.Comma comma → are_dots_fine variadic dots [] ≡ true → Fits grammar (shapes.Part sorts.AnyType) form (yield (token_if comma) ++ rest)
    → OfTypes variadic (append (node forms.ParamForm (append (token_if dots) form) empty) (token_if comma)) rest
of_last_type variadic dots comma form rest d c fine x = record {
  entries = record { name = None; ellipsis = dots; form = form; comma = comma } ∷ [];
  text = append-nil (yield (append (token_if dots) (append form (token_if comma)))) ∙ param_text empty form dots comma;
  are = (record { name = tt; ellipsis = d; form = x; comma = c; last = λ e. refl }, tt);
  no_names = refl;
  made = rw fine (ap Some (append-empty (append (node forms.ParamForm (append (token_if dots) form) empty) (token_if comma))));
}

types_last : (variadic : Bool) (comma : Option Token) {tree : Forest} (rest : List Token) → IsWord kinds.Comma comma → Fits grammar (shapes.Node forms.ParamForm (sorts.last_type variadic)) tree (yield (token_if comma) ++ rest) → OfTypes variadic (append tree (token_if comma)) rest
types_last true comma rest c (below (both (first (sign {token = dots} d)) x)) = of_last_type true (Some dots) comma _ rest d c refl x
types_last true comma rest c (below (both (second nothing) x)) = of_last_type true None comma _ rest tt c refl x
types_last false comma rest c (below x) = of_last_type false None comma _ rest tt c refl x

one_type : (variadic : Bool) (form : Forest) (comma : Token) (others : Forest) (rest : List Token) → is comma.kind kinds.Comma ≡ true → Fits grammar (shapes.Part sorts.AnyType) form (comma ∷ (yield others ++ rest)) → OfTypes variadic others rest → OfTypes variadic (node forms.ParamForm form (leaf comma others)) rest
one_type variadic form comma others rest c x b = record {
  entries = record { name = None; ellipsis = None; form = form; comma = Some comma } ∷ b.entries;
  text = ap (λ (ws : List Token). ws ++ entries_text b.entries) (yield-append form (leaf comma empty)) ∙ append_assoc (yield form) (comma ∷ []) (entries_text b.entries) ∙ ap (λ (ws : List Token). yield form ++ (comma ∷ ws)) b.text;
  are = (
    record {
      name = tt;
      ellipsis = tt;
      form = subst (λ (ws : List Token). Fits grammar (shapes.Part sorts.AnyType) form (comma ∷ (ws ++ rest))) (sym b.text) x;
      comma = c;
      last = λ e. absurd cc;
    },
    b.are,
  );
  no_names = b.no_names;
  made = rw b.made refl;
}

-- what stands behind one of a list, where others and the end of the list follow
behind_one : (right tail : Forest) (behind rest : List Token) → behind ≡ yield tail ++ rest → yield right ++ behind ≡ yield (append right tail) ++ rest
behind_one right tail behind rest e = ap (λ (ws : List Token). yield right ++ ws) e ∙ sym (append_assoc (yield right) (yield tail) rest) ∙ ap (λ (ws : List Token). ws ++ rest) (sym (yield-append right tail))

types_many : (variadic : Bool) {trees : Forest} {behind : List Token} → Fits grammar (shapes.Many (shapes.Then (shapes.Node forms.ParamForm (shapes.Part sorts.AnyType)) (shapes.word kinds.Comma))) trees behind
    → (tail : Forest) (rest : List Token) → behind ≡ yield tail ++ rest → OfTypes variadic tail rest → OfTypes variadic (append trees tail) rest
types_many variadic done tail rest e b = b
types_many variadic {behind = behind} (more {right = right} (both (below {trees = form} x) (sign {token = comma} c)) y) tail rest e b =
    let x' = subst (λ (ws : List Token). Fits grammar (shapes.Part sorts.AnyType) form (comma ∷ ws)) (behind_one right tail behind rest e) x in
    one_type variadic form comma (append right tail) rest c x' (types_many variadic y tail rest e b)

types_back : (variadic : Bool) (comma : Option Token) {tree : Forest} (rest : List Token) → IsWord kinds.Comma comma → Fits grammar (sorts.listed (shapes.Part sorts.AnyType) (sorts.last_type variadic)) tree (yield (token_if comma) ++ rest) → OfTypes variadic (append tree (token_if comma)) rest
types_back variadic comma rest c (both {left = front} {right = last} x z) =
    let split : yield last ++ (yield (token_if comma) ++ rest) ≡ yield (append last (token_if comma)) ++ rest = sym (append_assoc (yield last) (yield (token_if comma)) rest) ∙ ap (λ (ws : List Token). ws ++ rest) (sym (yield-append last (token_if comma))) in
    subst (λ (t : Forest). OfTypes variadic t rest) (sym (append-assoc front last (token_if comma))) (types_many variadic x (append last (token_if comma)) rest split (types_last variadic comma rest c z))

-- ---- parameters with names

-- the entries of what stands behind a parameter
record Behind (variadic : Bool) (tree : Forest) (rest : List Token) : Type 0 where
  entries : List Entry
  text : entries_text entries ≡ yield tree
  are : AreEntries entries rest
  made : groups_of variadic empty entries ≡ Some tree

-- the entries of parameters with names, where these names were read before
record OfGroups (variadic : Bool) (names : Forest) (tree : Forest) (rest : List Token) : Type 0 where
  entries : List Entry
  text : yield names ++ entries_text entries ≡ yield tree
  are : AreEntries entries rest
  some_names : has_names entries ≡ true
  made : groups_of variadic names entries ≡ Some tree

behind_of : (variadic : Bool) (tree : Forest) (rest : List Token) → OfGroups variadic empty tree rest → Behind variadic tree rest
behind_of variadic tree rest b = record { entries = b.entries; text = b.text; are = b.are; made = b.made }

abbrev behind_none : (variadic : Bool) (rest : List Token) → Behind variadic empty rest
behind_none variadic rest = record { entries = []; text = refl; are = tt; made = refl }

-- a parameter, and others behind it
abbrev with_others : Forest → Forest → Option Token → Option Token → Forest → Forest
with_others names form dots comma others = append (append (node forms.ParamForm (append names (append (token_if dots) form)) empty) (token_if comma)) others

-- the last of the names, and its type
last_name : (variadic : Bool) (names : Forest) (name : Token) (dots comma : Option Token) (form others : Forest) (rest : List Token) → is name.kind kinds.Name ≡ true → IsWord kinds.Ellipsis dots → IsWord kinds.Comma comma → (b : Behind variadic others rest)
    → are_dots_fine (variadic && is_none names) dots b.entries ≡ true → (comma ≡ None → b.entries ≡ []) → Fits grammar (shapes.Part sorts.AnyType) form (yield (token_if comma) ++ (yield others ++ rest))
    → OfGroups variadic names (with_others (append names (leaf name empty)) form dots comma others) rest
last_name variadic names name dots comma form others rest n d c b fine last x = record {
  entries = record { name = Some name; ellipsis = dots; form = form; comma = comma } ∷ b.entries;
  text = whole;
  are = (
    record {
      name = n;
      ellipsis = d;
      form = subst (λ (ws : List Token). Fits grammar (shapes.Part sorts.AnyType) form (yield (token_if comma) ++ (ws ++ rest))) (sym b.text) x;
      comma = c;
      last = last;
    },
    b.are,
  );
  some_names = refl;
  made = rw (fine, b.made) refl;
}
  where
    parts : yield (with_others (append names (leaf name empty)) form dots comma others) ≡ yield names ++ (name ∷ (yield (append (token_if dots) (append form (token_if comma))) ++ yield others))
    parts = simp (yield-append, append_assoc) (ap (λ (ws : List Token). yield names ++ (name ∷ (yield (token_if dots) ++ (yield form ++ ws)))) (yield-append (token_if comma) others))

    whole : yield names ++ ((name ∷ yield (append (token_if dots) (append form (token_if comma)))) ++ entries_text b.entries) ≡ yield (with_others (append names (leaf name empty)) form dots comma others)
    whole = ap (λ (ws : List Token). yield names ++ (name ∷ (yield (append (token_if dots) (append form (token_if comma))) ++ ws))) b.text ∙ sym parts

-- a name with a comma is no type of another package
comma_no_dot : (kind : Kind) → is kind kinds.Comma ≡ true → not (is_dot kind) ≡ true
comma_no_dot kind h = let e = is_same kind kinds.Comma h in rw e refl

name_type : (name comma : Token) (rest : List Token) → is name.kind kinds.Name ≡ true → is comma.kind kinds.Comma ≡ true → Fits grammar (shapes.Part sorts.AnyType) (node forms.TypeNameForm (leaf name empty) empty) (comma ∷ rest)
name_type name comma rest n c = part (first (part (first (part (below (both (sign n) (second (before (comma_no_dot comma.kind c)))))))))

-- a name before others
one_name : (variadic : Bool) (names : Forest) (name comma : Token) (tree : Forest) (rest : List Token) → is name.kind kinds.Name ≡ true → is comma.kind kinds.Comma ≡ true → OfGroups variadic (append names (leaf name (leaf comma empty))) tree rest → OfGroups variadic names tree rest
one_name variadic names name comma tree rest n c b = record {
  entries = record { name = None; ellipsis = None; form = node forms.TypeNameForm (leaf name empty) empty; comma = Some comma } ∷ b.entries;
  text = sym (append_assoc (yield names) (name ∷ comma ∷ []) (entries_text b.entries)) ∙ ap (λ (ws : List Token). ws ++ entries_text b.entries) (sym (yield-append names (leaf name (leaf comma empty)))) ∙ b.text;
  are = (
    record { name = tt; ellipsis = tt; form = name_type name comma (entries_text b.entries ++ rest) n c; comma = c; last = λ e. absurd cc },
    b.are,
  );
  some_names = b.some_names;
  made = b.made;
}

names_back : (variadic : Bool) (form others : Forest) (comma : Option Token) (rest : List Token) → IsWord kinds.Comma comma → (b : Behind variadic others rest) → (comma ≡ None → b.entries ≡ []) → Fits grammar (shapes.Part sorts.AnyType) form (yield (token_if comma) ++ (yield others ++ rest))
    → {trees : Forest} {behind : List Token} → Fits grammar (shapes.Many (shapes.Then (shapes.word kinds.Comma) (shapes.word kinds.Name))) trees behind
    → (names : Forest) (name : Token) → is name.kind kinds.Name ≡ true → OfGroups variadic names (with_others (append names (leaf name trees)) form None comma others) rest
names_back variadic form others comma rest c b last x done names name n = last_name variadic names name None comma form others rest n tt c b refl last x
names_back variadic form others comma rest c b last x (more {right = right} (both (sign {token = separator} s) (sign {token = next} m)) y) names name n =
    let again = names_back variadic form others comma rest c b last x y (append names (leaf name (leaf separator empty))) next m in
    let same = append-assoc names (leaf name (leaf separator empty)) (leaf next right) in
    one_name variadic names name separator _ rest n s (subst (λ (t : Forest). OfGroups variadic (append names (leaf name (leaf separator empty))) (with_others t form None comma others) rest) same again)

groups_last : (variadic : Bool) (comma : Option Token) {tree : Forest} (rest : List Token) → IsWord kinds.Comma comma → Fits grammar (shapes.Node forms.ParamForm (sorts.last_group variadic)) tree (yield (token_if comma) ++ rest) → OfGroups variadic empty (append tree (token_if comma)) rest
groups_last variadic comma rest c x = subst (λ (t : Forest). OfGroups variadic empty t rest) (append-empty _) (go variadic x)
  where
    named : (variadic : Bool) {tree : Forest} → Fits grammar (shapes.Then sorts.names (shapes.Part sorts.AnyType)) tree (yield (token_if comma) ++ rest) → OfGroups variadic empty (append (append (node forms.ParamForm tree empty) (token_if comma)) empty) rest
    named variadic (both {right = form} (both {right = trees} (sign {token = name} n) m) x) =
        names_back variadic form empty comma rest c (behind_none variadic rest) (λ e. refl) x m empty name n

    go : (variadic : Bool) {tree : Forest} → Fits grammar (shapes.Node forms.ParamForm (sorts.last_group variadic)) tree (yield (token_if comma) ++ rest) → OfGroups variadic empty (append (append tree (token_if comma)) empty) rest
    go true (below (first x)) = named true x
    go true (below (second (both (sign {token = name} n) (both {right = form} (sign {token = dots} d) x)))) = last_name true empty name (Some dots) comma form empty rest n d c (behind_none true rest) refl (λ e. refl) x
    go false (below x) = named false x

groups_many : (variadic : Bool) {trees : Forest} {behind : List Token} → Fits grammar (shapes.Many (shapes.Then (shapes.Node forms.ParamForm (shapes.Then sorts.names (shapes.Part sorts.AnyType))) (shapes.word kinds.Comma))) trees behind
    → (tail : Forest) (rest : List Token) → behind ≡ yield tail ++ rest → OfGroups variadic empty tail rest → OfGroups variadic empty (append trees tail) rest
groups_many variadic done tail rest e b = b
groups_many variadic {behind = behind} (more {right = right} (both (below (both {right = form} (both {right = trees} (sign {token = name} n) m) x)) (sign {token = comma} c)) y) tail rest e b =
    let x' = subst (λ (ws : List Token). Fits grammar (shapes.Part sorts.AnyType) form (comma ∷ ws)) (behind_one right tail behind rest e) x in
    let others = behind_of variadic (append right tail) rest (groups_many variadic y tail rest e b) in
    names_back variadic form (append right tail) (Some comma) rest c others (λ e. absurd cc) x' m empty name n

groups_back : (variadic : Bool) (comma : Option Token) {tree : Forest} (rest : List Token) → IsWord kinds.Comma comma → Fits grammar (sorts.listed (shapes.Then sorts.names (shapes.Part sorts.AnyType)) (sorts.last_group variadic)) tree (yield (token_if comma) ++ rest) → OfGroups variadic empty (append tree (token_if comma)) rest
groups_back variadic comma rest c (both {left = front} {right = last} x z) =
    let split : yield last ++ (yield (token_if comma) ++ rest) ≡ yield (append last (token_if comma)) ++ rest = sym (append_assoc (yield last) (yield (token_if comma)) rest) ∙ ap (λ (ws : List Token). ws ++ rest) (sym (yield-append last (token_if comma))) in
    subst (λ (t : Forest). OfGroups variadic empty t rest) (sym (append-assoc front last (token_if comma))) (groups_many variadic x (append last (token_if comma)) rest split (groups_last variadic comma rest c z))

-- ---- lists of parameters

record OfParams (variadic : Bool) (tree : Forest) (rest : List Token) : Type 0 where
  entries : List Entry
  text : entries_text entries ≡ yield tree
  are : AreEntries entries rest
  made : params_of variadic entries ≡ Some tree

of_types : (variadic : Bool) (tree : Forest) (rest : List Token) → OfTypes variadic tree rest → OfParams variadic tree rest
of_types variadic tree rest b = record { entries = b.entries; text = b.text; are = b.are; made = rw b.no_names b.made }

of_groups : (variadic : Bool) (tree : Forest) (rest : List Token) → OfGroups variadic empty tree rest → OfParams variadic tree rest
of_groups variadic tree rest b = record { entries = b.entries; text = b.text; are = b.are; made = rw b.some_names b.made }

params_back : (variadic : Bool) {tree : Forest} (rest : List Token) → Fits grammar (both_lists variadic) tree rest → OfParams variadic tree rest
params_back variadic rest (first (both (first x) (first (sign {token = comma} c)))) = of_types variadic _ rest (types_back variadic (Some comma) rest c x)
params_back variadic rest (first (both (first x) (second nothing))) = of_types variadic _ rest (types_back variadic None rest tt x)
params_back variadic rest (first (both (second x) (first (sign {token = comma} c)))) = of_groups variadic _ rest (groups_back variadic (Some comma) rest c x)
params_back variadic rest (first (both (second x) (second nothing))) = of_groups variadic _ rest (groups_back variadic None rest tt x)
params_back variadic rest (second nothing) = record { entries = []; text = refl; are = tt; made = refl }

module _ (p : Parsers) (depth : ℕ) (r : Rereads p depth) where
  list_again : (variadic : Bool) (tree : Forest) (rest : List Token) → Fits grammar (sorts.params_of variadic) tree rest → length (yield tree) ≤ depth → params_in p variadic (yield tree ++ rest) ≡ Some (tree, rest)
  list_again variadic tree rest (below (both (sign {token = opened} o) (both {left = params} x (sign {token = closed} c)))) le =
      let b = params_back variadic (closed ∷ rest) x in
      let text : (yield (append params (leaf closed empty)) ++ []) ++ rest ≡ entries_text b.entries ++ (closed ∷ rest) =
      ap (λ (ws : List Token). ws ++ rest) (append-nil (yield (append params (leaf closed empty))) ∙ yield-append params (leaf closed empty)) ∙ append_assoc (yield params) (closed ∷ []) rest ∙ ap (λ (ws : List Token). ws ++ (closed ∷ rest)) (sym b.text) in
      let size = ap length (append-nil (yield (append params (leaf closed empty))) ∙ yield-append params (leaf closed empty) ∙ ap (λ (ws : List Token). ws ++ closed ∷ []) (sym b.text)) in
      let entries = entries_again p depth r b.entries (closed ∷ rest) (length (entries_text b.entries ++ (closed ∷ rest))) b.are c (omega (arith, le, size, length-append {A = Token})) (omega (arith, length-append {A = Token})) in
      rw (text, o, entries, c, b.made) refl

  pub params_again : (tree : Forest) (rest : List Token) → Fits grammar (shapes.Part sorts.Params) tree rest → IsFirst anything rest → length (yield tree) ≤ depth → params_in p true (yield tree ++ rest) ≡ Some (tree, rest)
  params_again tree rest x f le = list_again true tree rest (unpart x) le

  pub results_again : (tree : Forest) (rest : List Token) → Fits grammar (shapes.Part sorts.Results) tree rest → IsFirst anything rest → length (yield tree) ≤ depth → params_in p false (yield tree ++ rest) ≡ Some (tree, rest)
  results_again tree rest x f le = list_again false tree rest (unpart x) le
