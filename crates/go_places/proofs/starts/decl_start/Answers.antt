use Rattle.std.proofs.Common.{ap, sym, ◌∙◌}
use Rattle.go_syntax.specs.declared.decls.Decl.{Decl}
use Rattle.go_syntax.specs.declared.decls.FuncDecl.{FuncDecl}
use Rattle.go_grammar.specs.View.{view_decl, view_func_decl}
use Rattle.go_grammar.proofs.Views.{view_decl_func}
use Rattle.go_places.specs.Begins.{start_of}
use Rattle.go_places.proofs.Fronts.{func_first}
use Rattle.go_places.proofs.starts.decl_start.Goals as goal

pub returns-in-Func : goal.returns-in-Func
returns-in-Func c =
    ap (λ (d : Decl). start_of (view_decl d)) c.in-Func.is ∙ ap start_of (view_decl_func c.in-Func.func)
    ∙ ap (λ (f : FuncDecl). start_of (view_func_decl f)) (sym c.deref.ensures) ∙ func_first c.deref.result.now
