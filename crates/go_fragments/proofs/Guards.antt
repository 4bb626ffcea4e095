-- The front of a guard, with a name that is bound.
use Rattle.std.proofs.Common.{◌≡◌, Bool, true, false, Some, None, refl, ap, ◌∙◌}
use Rattle.go_ast.specs.declared.token.Token.{Token}
use Rattle.go_grammar.specs.Forests as forms
use Rattle.go_grammar.specs.Forests.{Form, Forest, empty, leaf, node, append}
use Rattle.go_grammar.specs.StmtReading.{bound_of, is_primary, primary_of, is_single}
use Rattle.go_grammar.specs.View.{one, tree}
use Rattle.go_grammar.proofs.Nodes.{primary_single}
use Rattle.go_fragments.specs.Expressions.{single_of, name_token}
use Rattle.go_fragments.proofs.SimpleStmts.{single_by, single_not}

name_is : (tree : Forest) (name : Token) → name_token tree ≡ Some (one name) → tree ≡ node forms.NameForm (leaf name empty) empty
name_is (node forms.NameForm (leaf token empty) empty) name h = let same : token ≡ name = cc in ap (λ (t : Token). node forms.NameForm (leaf t empty) empty) same
name_is _ name h = absurd cc

not_a_name : (form : Form) (below : Forest) (define : Token) (values : Forest) → name_token (node form below empty) ≡ None → bound_of (node form below (leaf define values)) ≡ None
not_a_name forms.NameForm (leaf token empty) define values h = absurd cc
not_a_name _ _ define values h = refl

not_an_operand : (form : Form) (below : Forest) (define : Token) (values : Forest) → is_primary values ≡ false → bound_of (node form below (leaf define values)) ≡ None
not_an_operand forms.NameForm (leaf token empty) define values h = rw h refl
not_an_operand _ _ define values h = refl

not_followed : (form : Form) (below : Forest) (next : Form) (inner rest : Forest) → bound_of (node form below (node next inner rest)) ≡ None
not_followed forms.NameForm (leaf token empty) next inner rest = refl
not_followed _ _ next inner rest = refl

not_primary_at : (tree : Forest) (token : Token) (rest : Forest) → is_primary (append tree (leaf token rest)) ≡ false
not_primary_at empty token rest = refl
not_primary_at (leaf t b) token rest = refl
not_primary_at (node form below empty) token rest = refl
not_primary_at (node form below (leaf t b)) token rest = refl
not_primary_at (node form below (node f i b)) token rest = refl

module _ (define : Token) (values : Forest) where
  pub bound_many : (targets : Forest) → single_of targets ≡ None → bound_of (append targets (leaf define values)) ≡ None
  bound_many empty h = refl
  bound_many (leaf token rest) h = refl
  bound_many (node form below empty) h = absurd cc
  bound_many (node form below (leaf token rest)) h = not_an_operand form below token (append rest (leaf define values)) (not_primary_at rest define values)
  bound_many (node form below (node f i b)) h = not_followed form below f i (append b (leaf define values))

  pub bound_unnamed : (targets tree : Forest) → single_of targets ≡ Some tree → name_token tree ≡ None → bound_of (append targets (leaf define values)) ≡ None
  bound_unnamed empty tree s h = refl
  bound_unnamed (leaf token rest) tree s h = refl
  bound_unnamed (node form below empty) tree s h =
      let same : node form below empty ≡ tree = cc in
      let e : name_token (node form below empty) ≡ None = ap name_token same ∙ h in
      not_a_name form below define values e
  bound_unnamed (node form below (leaf token rest)) tree s h = absurd cc
  bound_unnamed (node form below (node f i b)) tree s h = absurd cc

  bound_unprimary : (targets tree : Forest) → single_of targets ≡ Some tree → is_primary values ≡ false → bound_of (append targets (leaf define values)) ≡ None
  bound_unprimary empty tree s h = refl
  bound_unprimary (leaf token rest) tree s h = refl
  bound_unprimary (node form below empty) tree s h = not_an_operand form below define values h
  bound_unprimary (node form below (leaf token rest)) tree s h = absurd cc
  bound_unprimary (node form below (node f i b)) tree s h = absurd cc

  pub bound_lists : (targets tree : Forest) → single_of targets ≡ Some tree → single_of values ≡ None → bound_of (append targets (leaf define values)) ≡ None
  bound_lists targets tree s h = bound_unprimary targets tree s (go (is_primary values) refl)
    where
      many : is_single values ≡ false
      many = single_not (is_single values) values h

      go : (b : Bool) → is_primary values ≡ b → is_primary values ≡ false
      go true e = let one_tree : is_single values ≡ true = primary_single values e in absurd cc
      go false e = e

  pub bound_operation : (targets tree operand : Forest) → single_of targets ≡ Some tree → single_of values ≡ Some operand → primary_of operand ≡ None → bound_of (append targets (leaf define values)) ≡ None
  bound_operation targets tree operand s v h =
      let same = single_by (is_single values) values operand v in
      bound_unprimary targets tree s (ap is_primary same.1 ∙ single_not (is_primary operand) operand h)

  pub bound_is : (targets tree operand operand' : Forest) (name : Token) → single_of targets ≡ Some tree → name_token tree ≡ Some (one name) → single_of values ≡ Some operand → primary_of operand ≡ Some operand' → bound_of (append targets (leaf define values)) ≡ Some (leaf name (leaf define operand'))
  bound_is targets tree operand operand' name s n v o =
      let t = single_by (is_single targets) targets tree s in
      let w = single_by (is_single values) values operand v in
      let q = single_by (is_primary operand) operand operand' o in
      let e : targets ≡ node forms.NameForm (leaf name empty) empty = t.1 ∙ name_is tree name n in
      let primary : is_primary values ≡ true = ap is_primary w.1 ∙ q.0 in
      let same : values ≡ operand' = w.1 ∙ q.1 in
      ap (λ (trees : Forest). bound_of (append trees (leaf define values))) e ∙ rw primary (ap (λ (tree : Forest). Some (leaf name (leaf define tree))) same)

pub ruleset bounds = (bound_many, bound_unnamed, bound_lists, bound_operation, bound_is)
