use Rattle.std.proofs.Common.{refl, sym, ◌∙◌, inl, inr}
use Rattle.std.specs.Prelude.{IsTrue}
use Rattle.std.proofs.lemmas.Bool.{false≢true}
use Rattle.go_type.specs.Assignable.{Assignable}
use Rattle.typed_calls.specs.Converting.{AreLike, converts_plainly}
use Rattle.typed_calls.proofs.Converts.{converts_if_like, grows_same}
use Rattle.typed_calls.proofs.converting.may_convert.Goals as goal

pub returns-then-may_pass : goal.returns-then-may_pass
returns-then-may_pass c = record {
  may = (λ t. inl (c.may_pass.ensures.0 c.if-may_pass.true), λ s. refl);
  grows = grows_same c.args.ground.now.types;
  definitions = λ id. refl;
  keeps = refl;
}

pub returns-then-converts_plainly : goal.returns-then-converts_plainly
returns-then-converts_plainly c = record {
  may = (λ t. inr (inl (sym c.converts_plainly.ensures ∙ c.if-converts_plainly.true)), λ s. refl);
  grows = grows_same c.args.ground.now.types;
  definitions = λ id. refl;
  keeps = refl;
}

pub returns : goal.returns
returns c = record {
  may = converts_if_like (Assignable c.args.ground.now.types c.args.from c.args.to) (IsTrue (converts_plainly c.args.ground.now.types c.args.from c.args.to))
      (AreLike c.args.ground.now.types c.is_same_but_tags.new.ground.types c.args.from c.args.to) c.is_same_but_tags.result
      (λ (a : Assignable c.args.ground.now.types c.args.from c.args.to). false≢true (sym c.if-may_pass.false ∙ c.may_pass.ensures.1 a))
      (λ (p : IsTrue (converts_plainly c.args.ground.now.types c.args.from c.args.to)). false≢true (sym c.if-converts_plainly.false ∙ (c.converts_plainly.ensures ∙ p)))
      c.is_same_but_tags.ensures.like;
  grows = c.is_same_but_tags.ensures.grows;
  definitions = c.is_same_but_tags.ensures.definitions;
  keeps = c.is_same_but_tags.ensures.keeps;
}
