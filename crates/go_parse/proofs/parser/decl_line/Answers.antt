use Rattle.std.proofs.Common.{◌≡◌, Some, sym, ap, ◌∙◌}
use Rattle.go_grammar.specs.FileReading.{parsers}
use Rattle.go_grammar.specs.Forests.{Forest, append}
use Rattle.go_grammar.specs.View.{one, view_decl, view_func_decl}
use Rattle.go_grammar.proofs.Views.{view_decl_func}
use Rattle.go_syntax.specs.declared.decls.Decl.TheVariants as decls
use Rattle.go_parse.proofs.FileParts.{func_line_read}
use Rattle.go_parse.proofs.parser.decl_line.Goals as goal

pub returns-then-begins_with : goal.returns-then-begins_with
returns-then-begins_with c =
    let seen : view_decl (decls.Func c.in_ok-new.field-0) ≡ view_func_decl c.in_ok-func.func = view_decl_func c.in_ok-new.field-0 ∙ ap view_func_decl c.in_ok-new.ensures.ok in
    func_line_read (parsers c.args.depth) c.args.tokens.now c.in_ok-func.rest.now c.in-Some.rest.now (view_func_decl c.in_ok-func.func) (one c.in-Some.semicolon)
    (sym c.begins_with.ensures ∙ c.if-begins_with.true) c.in_ok-func.ensures c.in-Some.ensures
    ∙ ap (λ (tree : Forest). Some (append tree (one c.in-Some.semicolon), c.in-Some.rest.now)) (sym seen)
