use Rattle.std.proofs.Common.{◌≡◌, ◌++◌, List, ap, sym, ◌∙◌, append_assoc}
use Rattle.std.specs.Prelude.{flat_map}
use Rattle.std.proofs.lemmas.Result.{IfOk-equal}
use Rattle.go_tree.specs.declared.stmts.TypedClause.{TypedClause}
use Rattle.go_tree.specs.declared.stmts.TypeClause.{TypeClause}
use Rattle.cg_nodes.specs.declared.nodes.Mention.{Mention}
use Rattle.cg_uses.specs.Settings.{setting_of}
use Rattle.cg_uses.specs.Statements.{uses_in_stmt, clause_uses, type_clause_uses}
use Rattle.cg_uses.proofs.StmtForms.{switch_uses, type_switch_uses}
use Rattle.cg_uses.proofs.statements.+statement_uses.Goals as goal

-- three parts that were added one after another
three_parts : (old first second a b d whole : List Mention) → first ≡ old ++ a → second ≡ first ++ b → whole ≡ a ++ (b ++ d) → second ++ d ≡ old ++ whole
three_parts old first second a b d whole p q r =
    ap (λ (l : List Mention). l ++ d) q ∙ (ap (λ (l : List Mention). (l ++ b) ++ d) p ∙ (append_assoc (old ++ a) b d ∙ (append_assoc old a (b ++ d) ∙ ap (λ (l : List Mention). old ++ l) (sym r))))

pub in_statement-returns-in_ok-in_optional_expr-in-Switch :
    goal.in_statement-returns-in_ok-in_optional_expr-in-Switch
in_statement-returns-in_ok-in_optional_expr-in-Switch t c =
    let s = setting_of c.args.around.now in
    let i = c.in-Switch in
    let whole = ap (uses_in_stmt s) i.is ∙ switch_uses s i.at i.init i.tag i.clauses i.«end» in
    IfOk-equal _ _ _ _ c.in_clauses.ensures
    (ap (λ (xs : List TypedClause). c.in_optional_expr.new.out.items ++ flat_map (clause_uses s i.tag) xs) c.deref-in-Switch.ensures.value
    ∙ three_parts _ _ _ _ _ _ _ c.in_ok-in_optional-in-Switch.ensures c.in_ok-in_optional_expr-in-Switch.ensures whole)

pub in_statement-returns-in_ok-in_expr-in-TypeSwitch :
    goal.in_statement-returns-in_ok-in_expr-in-TypeSwitch
in_statement-returns-in_ok-in_expr-in-TypeSwitch t c =
    let s = setting_of c.args.around.now in
    let i = c.in-TypeSwitch in
    let whole = ap (uses_in_stmt s) i.is ∙ type_switch_uses s i.at i.init i.operand i.clauses i.«end» in
    IfOk-equal _ _ _ _ c.in_type_clauses.ensures
    (ap (λ (xs : List TypeClause). c.in_expr-in-TypeSwitch.new.out.items ++ flat_map (type_clause_uses s i.operand) xs) c.deref-in-TypeSwitch.ensures.value
    ∙ three_parts _ _ _ _ _ _ _ c.in_ok-in_optional-in-TypeSwitch.ensures c.in_ok-in_expr-in-TypeSwitch.ensures whole)
