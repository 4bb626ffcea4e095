use Rattle.std.proofs.Common.{◌≡◌, sym, subst, List, ◌++◌, ◌∷◌, []}
use Rattle.go_base.specs.declared.ids.TypeId.{TypeId}
use Rattle.type_bare.specs.Stripped.{AreBare, KeepsBare}
use Rattle.type_bare.proofs.Known.{bare_stays, bare_added, keeps_pushed}
use Rattle.type_bare.proofs.bare.Bare.add.Goals as goal

pub returns-in_err-bare-clause-known : goal.returns-in_err-bare-clause-known
returns-in_err-bare-clause-known c = λ known. bare_stays c.args.self.now c.args.types.now c.find.new.types known c.find.ensures.grows

pub returns-in_err-push-clause-known : goal.returns-in_err-push-clause-known
returns-in_err-push-clause-known c = λ known.
    subst (λ (l : List TypeId). AreBare l c.find.new.types) (sym c.in_err-push.ensures.items)
    (subst (λ (l : List TypeId). AreBare l c.find.new.types) (sym c.self.view_is) (bare_stays c.args.self.now c.args.types.now c.find.new.types known c.find.ensures.grows))

pub returns-clause-known : goal.returns-clause-known
returns-clause-known c = λ known.
    let b = c.in_ok-bare.bare in
    let more = bare_added c.args.self.now b c.args.types.now c.find.new.types c.args.id c.requires c.in_ok-bare.ensures.held known c.in_ok-bare.ensures.grows c.laws.ensures c.in_ok-bare.ensures.ok in
    subst (λ (l : List TypeId). AreBare l c.find.new.types) (sym c.in_ok-push.ensures.items)
    (subst (λ (l : List TypeId). AreBare (l ++ b ∷ []) c.find.new.types) (sym c.self.view_is) more)

pub returns-clause-keeps : goal.returns-clause-keeps
returns-clause-keeps c =
    let b = c.in_ok-bare.bare in
    subst (KeepsBare c.args.self.now) (sym c.in_ok-push.ensures.items)
    (subst (λ (l : List TypeId). KeepsBare c.args.self.now (l ++ b ∷ [])) (sym c.self.view_is) (keeps_pushed c.args.self.now b))
