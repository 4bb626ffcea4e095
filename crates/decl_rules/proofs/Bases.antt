-- What is found of receivers and of what is embedded is what is said of them.
use Rattle.std.proofs.Common.{◌≡◌, ◌⊎◌, ◌↔◌, ◌∙◌, inl, inr, sym, refl, ap, subst, ℕ, Bool, true, false, ◌&&◌, ◌||◌, not, List, Option, Some, None, get_or, slice_get}
use Rattle.go_type.specs.Table.{Table}
use Rattle.decl_nodes.specs.declared.nodes.Kind.{Kind}
use Rattle.decl_nodes.specs.declared.nodes.Kind.TheVariants.{Pointer}
use Rattle.decl_nodes.specs.declared.nodes.Node.{Node}
use Rattle.decl_nodes.specs.Numbered.{kind_at}
use Rattle.decl_rules.specs.declared.denoting.Denoted.{Denoted}
use Rattle.decl_rules.specs.declared.denoting.Denoted.TheVariants.{Declared, Form}
use Rattle.decl_rules.specs.declared.denoting.Denoted.TheVariants as denoted
use Rattle.decl_rules.specs.declared.denoting.Denoting.{Denoting}
use Rattle.decl_rules.specs.declared.receivers.Receiver.{Receiver}
use Rattle.decl_rules.specs.Denoting.{AreDenoted, Denotes}
use Rattle.decl_rules.specs.Receivers.{IsBadEmbedded, IsBadReceiver, IsBase, bad_base, bad_embedded, bad_receiver, bad_under, base_by, elsewhere, is_interface, is_pointer, itself, of_bad_type, pointed, pointed_base, pointed_by, same_package, without_base}

either : (a b : Bool) → (a || b) ≡ true → (a ≡ true) ⊎ (b ≡ true)
either true b h = inl refl
either false b h = inr h

of_either : (a b : Bool) → (a ≡ true) ⊎ (b ≡ true) → (a || b) ≡ true
of_either true b h = refl
of_either false b (inl e) = cc
of_either false b (inr e) = e

both : (a b : Bool) → (a && b) ≡ true → (a ≡ true) × (b ≡ true)
both true b h = (refl, h)
both false b h = cc

of_both : (a b : Bool) → a ≡ true → b ≡ true → (a && b) ≡ true
of_both true b p q = q
of_both false b p q = cc

not_true : (a : Bool) → not a ≡ true → a ≡ false
not_true true h = cc
not_true false h = refl

module _ (list : List Node) (found : Denoting) (are : AreDenoted list found) where
  base_found : (form : ℕ) (r : Receiver) → base_by list found (get_or found.denoted.items form None) ≡ Some r → IsBase list form r
  base_found form r h = by_type (get_or found.denoted.items form None) refl h
    where
      by_type : (o : Option Denoted) → get_or found.denoted.items form None ≡ o → base_by list found o ≡ Some r → IsBase list form r
      by_type None e h = cc
      by_type (Some (Declared d)) e h =
          let same : record { declared = d; pointer = false } ≡ r = cc in
          subst (IsBase list form) same (itself d ((are.denoted form (Declared d)).0 e))
      by_type (Some (denoted.Predeclared of)) e h = cc
      by_type (Some (Form p)) e h = by_kind (kind_at list p) refl h
        where
          by_kind : (k : Option Kind) → kind_at list p ≡ k → pointed_base found k ≡ Some r → IsBase list form r
          by_kind (Some (Pointer to)) is h = by_target (get_or found.denoted.items to None) refl h
            where
              by_target : (o : Option Denoted) → get_or found.denoted.items to None ≡ o → pointed_by o ≡ Some r → IsBase list form r
              by_target (Some (Declared d)) at h =
                  let same : record { declared = d; pointer = true } ≡ r = cc in
                  subst (IsBase list form) same (pointed d p to ((are.denoted form (Form p)).0 e) is ((are.denoted to (Declared d)).0 at))
              by_target _ at h = cc
          by_kind _ is h = cc

  found_base : (form : ℕ) (r : Receiver) → IsBase list form r → base_by list found (get_or found.denoted.items form None) ≡ Some r
  found_base form r (itself d h) = ap (base_by list found) ((are.denoted form (Declared d)).1 h)
  found_base form r (pointed d p to h is t) =
      ap (base_by list found) ((are.denoted form (Form p)).1 h) ∙ ap (pointed_base found) is ∙ ap pointed_by ((are.denoted to (Declared d)).1 t)

  pub base_is : (form : ℕ) (r : Receiver) → (base_by list found (get_or found.denoted.items form None) ≡ Some r) ↔ IsBase list form r
  base_is form r = (base_found form r, found_base form r)

  module _ (types : Table) where
    pub embedded_is : (name : ℕ) (by_pointer : Bool) → (bad_embedded list types by_pointer (get_or found.under.items name None) ≡ true) ↔ IsBadEmbedded list types name by_pointer
    embedded_is name by_pointer = (by_under (get_or found.under.items name None) refl, back)
      where
        by_under : (o : Option Denoted) → get_or found.under.items name None ≡ o → bad_embedded list types by_pointer o ≡ true → IsBadEmbedded list types name by_pointer
        by_under None e h = cc
        by_under (Some u) e h = record {
          under = u;
          has_under = (are.under name u).0 e;
          is_bad = elim (either (is_pointer list u) (by_pointer && is_interface list types u) h) [
            | inl a ↦ inl a
            | inr b ↦ inr (both by_pointer (is_interface list types u) b)
          ];
        }

        back : IsBadEmbedded list types name by_pointer → bad_embedded list types by_pointer (get_or found.under.items name None) ≡ true
        back bad =
            ap (bad_embedded list types by_pointer) ((are.under name bad.under).1 bad.has_under)
            ∙ of_either (is_pointer list bad.under) (by_pointer && is_interface list types bad.under) (elim bad.is_bad [
              | inl a ↦ inl a
              | inr b ↦ inr (of_both by_pointer (is_interface list types bad.under) b.0 b.1)
            ])

    module _ (receiver form : ℕ) where
      abbrev own : Receiver → Bool
      own r = same_package (slice_get list r.declared) (slice_get list receiver)

      under_bad : (r : Receiver) (o : Option Denoted) → get_or found.under.items r.declared None ≡ o → IsBase list form r → bad_under list types (own r) o ≡ true → IsBadReceiver list types receiver form
      under_bad r None e base h = cc
      under_bad r (Some u) e base h =
          let has = (are.under r.declared u).0 e in
          elim (either (not (own r)) (is_pointer list u || is_interface list types u) h) [
            | inl a ↦ elsewhere r u base has (not_true (own r) a)
            | inr b ↦ of_bad_type r u base has (either (is_pointer list u) (is_interface list types u) b)
          ]

      base_bad : (t : Denoted) → Denotes list form t → (o : Option Receiver) → base_by list found (get_or found.denoted.items form None) ≡ o → bad_base list types found receiver o ≡ true → IsBadReceiver list types receiver form
      base_bad t has None e h = without_base t has (λ r base. none_some (sym e ∙ found_base form r base))
        where
          none_some : {r : Receiver} → None ≡ Some r → ⊥
          none_some e = cc
      base_bad t has (Some r) e h = under_bad r (get_or found.under.items r.declared None) refl (base_found form r e) h

      is_bad : (o : Option Denoted) → get_or found.denoted.items form None ≡ o → bad_receiver list types found receiver o ≡ true → IsBadReceiver list types receiver form
      is_bad None e h = cc
      is_bad (Some t) e h = base_bad t ((are.denoted form t).0 e) (base_by list found (Some t)) (ap (base_by list found) e) h

      -- a receiver whose base is known
      with_base : (r : Receiver) → IsBase list form r → bad_base list types found receiver (Some r) ≡ true → (o : Option Denoted) → get_or found.denoted.items form None ≡ o → bad_receiver list types found receiver o ≡ true
      with_base r base h None e = none_some (ap (base_by list found) (sym e) ∙ found_base form r base)
        where
          none_some : base_by list found None ≡ Some r → bad_receiver list types found receiver None ≡ true
          none_some e = cc
      with_base r base h (Some t) e = ap (bad_base list types found receiver) (ap (base_by list found) (sym e) ∙ found_base form r base) ∙ h

      base_less : ((r : Receiver) → IsBase list form r → ⊥) → (o : Option Receiver) → base_by list found (get_or found.denoted.items form None) ≡ o → bad_base list types found receiver o ≡ true
      base_less none None e = refl
      base_less none (Some r) e = absurd (none r (base_found form r e))

      bad_is : IsBadReceiver list types receiver form → bad_receiver list types found receiver (get_or found.denoted.items form None) ≡ true
      bad_is (without_base t has none) =
          let at = (are.denoted form t).1 has in
          ap (bad_receiver list types found receiver) at ∙ base_less none (base_by list found (Some t)) (ap (base_by list found) at)
      bad_is (elsewhere r u base has other) =
          with_base r base
          (ap (bad_under list types (own r)) ((are.under r.declared u).1 has)
          ∙ of_either (not (own r)) (is_pointer list u || is_interface list types u) (inl (ap not other)))
          (get_or found.denoted.items form None) refl
      bad_is (of_bad_type r u base has bad) =
          with_base r base
          (ap (bad_under list types (own r)) ((are.under r.declared u).1 has)
          ∙ of_either (not (own r)) (is_pointer list u || is_interface list types u) (inr (of_either (is_pointer list u) (is_interface list types u) bad)))
          (get_or found.denoted.items form None) refl

      pub receiver_is : (bad_receiver list types found receiver (get_or found.denoted.items form None) ≡ true) ↔ IsBadReceiver list types receiver form
      receiver_is = (is_bad (get_or found.denoted.items form None) refl, bad_is)
