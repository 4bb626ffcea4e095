-- What is kept of constant keys.
use Rattle.std.proofs.Common.{◌≡◌, ℕ, ℤ, refl, sym, ap, ◌∙◌, List, [], ◌∷◌, ◌++◌, true, false}
use Rattle.std.proofs.Common.{Option, Some, None}
use Rattle.std.specs.List.{list_any}
use Rattle.go_base.specs.declared.ids.TypeId.{TypeId}
use Rattle.go_type.specs.declared.constants.Const.TheVariants as constant
use Rattle.typed_literals.specs.declared.maps.Keys.{Keys}
use Rattle.typed_literals.specs.declared.maps.NumberKey.{NumberKey}
use Rattle.typed_literals.specs.declared.maps.TextKey.{TextKey}
use Rattle.typed_literals.specs.Maps.{AreKeys, IsAdded, TypedConst, is_again, is_const, same_number, same_text}
use Rattle.typed_literals.proofs.Gathering.{any_other}

-- a key that is another
apart : (before : List (Option TypedConst)) (key : TypedConst) (known : Option TypedConst) → is_const key known ≡ false
    → is_again before (Some key) ≡ is_again (before ++ known ∷ []) (Some key)
apart before key known e = sym (any_other (is_const key) before known e)

pub no_keys : (keys : Keys) → keys.numbers.keys ≡ [] → keys.texts.keys ≡ [] → AreKeys [] keys
no_keys keys n t = record {
  numbers = λ (of : TypeId) (number : ℤ). ap (λ (ks : List NumberKey). list_any (same_number (record { of = of; number = number })) ks) n;
  texts = λ (of : TypeId) (bytes : List ℕ). ap (λ (ks : List TextKey). list_any (same_text (record { of = of; text = bytes })) ks) t;
}

-- what is no constant
pub none_added : (before : List (Option TypedConst)) (keys : Keys) → AreKeys before keys → IsAdded before None keys true
none_added before keys are = record {
  new = refl;
  kept = record {
    numbers = λ (of : TypeId) (number : ℤ). are.numbers of number ∙ apart before (of, constant.Int number) None refl;
    texts = λ (of : TypeId) (bytes : List ℕ). are.texts of bytes ∙ apart before (of, constant.Text bytes) None refl;
  };
}
