use Rattle.std.proofs.Common.{◌≡◌, ℕ, List, map, string_bytes, Option, sym, ◌∙◌, ap}
use Rattle.std.specs.List.{position}
use Rattle.std.specs.Str.{bytes_eq}
use Rattle.go_base.specs.declared.names.Names.TheInside.{Inside}
use Rattle.go_base.proofs.Texts.{position-map}
use Rattle.go_base.proofs.names.Names.find.Goals as goal

found : (t : List ℕ) (a : Inside) (texts : List (List ℕ)) (o : Option ℕ) → map string_bytes a.texts.keys ≡ texts
    → o ≡ position (λ x. bytes_eq t (string_bytes x)) a.texts.keys → o ≡ position (bytes_eq t) texts
found t a texts o is h = h ∙ sym (position-map string_bytes t a.texts.keys) ∙ ap (position (bytes_eq t)) is

pub returns-in-Some : goal.returns-in-Some
returns-in-Some c = found c.args.text.now c.self.inside c.args.self.now _ c.self.view_is c.in-Some.ensures.index

pub returns-in-None : goal.returns-in-None
returns-in-None c = found c.args.text.now c.self.inside c.args.self.now _ c.self.view_is c.in-None.ensures.index
