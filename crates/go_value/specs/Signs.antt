-- A value as a list of signs that gives it back, by which the prover tells values apart.
use Rattle.std.specs.Prelude.{ℕ, ℤ, List, [], ◌∷◌, ◌++◌, Bool, Option, ◌≡◌, refl}
use Rattle.std.proofs.Common.{ap, ◌∙◌, append_assoc}
use Rattle.std.specs.Coded.{Coded, code_by, coded×, coded_bool}
use Rattle.go_base.specs.declared.ids.ChanId.{ChanId}
use Rattle.go_base.specs.declared.ids.FuncId.{FuncId}
use Rattle.go_base.specs.declared.ids.MapId.{MapId}
use Rattle.go_base.specs.declared.ids.NameId.{NameId}
use Rattle.go_base.specs.declared.ids.TypeId.{TypeId}
use Rattle.go_value.specs.declared.address.Pointer.{Pointer}
use Rattle.go_value.specs.declared.address.SliceValue.{SliceValue}
use Rattle.go_value.specs.declared.values.BoundTarget.{BoundTarget}
use Rattle.go_value.specs.Plain.{Val, Parts, Field, Typed}
use Rattle.go_value.specs.Plain as vals

-- a value without values in it, or what stands before those in it
pub data Sign : Type 0 where
  a_truth : Bool → Sign
  a_number : ℤ → Sign
  a_text : List ℕ → Sign
  a_pointer : Pointer → Sign
  a_slice : SliceValue → Sign
  a_map_number : Option MapId → Sign
  a_chan_number : Option ChanId → Sign
  a_nil_function : Sign
  a_closure : FuncId → List Pointer → Sign
  a_expression : TypeId → NameId → ℕ → Sign
  a_nil_interface : Sign
  a_text_range : List ℕ → ℕ → Sign
  a_map_range : Option MapId → List ℕ → Sign
  before_bound : BoundTarget → Sign
  before_dynamic : TypeId → Sign
  before_parts : Sign
  before_part : Bool → Sign
  no_part : Sign

abbrev mutual
  pub signs : Val → List Sign
  signs (vals.truth it) = a_truth it ∷ []
  signs (vals.number it) = a_number it ∷ []
  signs (vals.text it) = a_text it ∷ []
  signs (vals.pointer it) = a_pointer it ∷ []
  signs (vals.slice it) = a_slice it ∷ []
  signs (vals.map_number it) = a_map_number it ∷ []
  signs (vals.chan_number it) = a_chan_number it ∷ []
  signs vals.nil_function = a_nil_function ∷ []
  signs (vals.closure function captured) = a_closure function captured ∷ []
  signs (vals.expression receiver name package_number) = a_expression receiver name package_number ∷ []
  signs vals.nil_interface = a_nil_interface ∷ []
  signs (vals.text_range bytes next) = a_text_range bytes next ∷ []
  signs (vals.map_range map left) = a_map_range map left ∷ []
  signs (vals.bound target it) = before_bound target ∷ signs it
  signs (vals.dynamic of it) = before_dynamic of ∷ signs it
  signs (vals.parts it) = before_parts ∷ signs_of_parts it

  pub signs_of_parts : Parts → List Sign
  signs_of_parts vals.none = no_part ∷ []
  signs_of_parts (vals.part it blank rest) = before_part blank ∷ signs it ++ signs_of_parts rest

-- what is read, the last first: values, and parts before which others may come
pub data Read : Type 0 where
  nothing : Read
  read_value : Val → Read → Read
  read_parts : Parts → Read → Read

abbrev pub read : Sign → Read → Read
read (a_truth it) before = read_value (vals.truth it) before
read (a_number it) before = read_value (vals.number it) before
read (a_text it) before = read_value (vals.text it) before
read (a_pointer it) before = read_value (vals.pointer it) before
read (a_slice it) before = read_value (vals.slice it) before
read (a_map_number it) before = read_value (vals.map_number it) before
read (a_chan_number it) before = read_value (vals.chan_number it) before
read a_nil_function before = read_value vals.nil_function before
read (a_closure function captured) before = read_value (vals.closure function captured) before
read (a_expression receiver name package_number) before = read_value (vals.expression receiver name package_number) before
read a_nil_interface before = read_value vals.nil_interface before
read (a_text_range bytes next) before = read_value (vals.text_range bytes next) before
read (a_map_range map left) before = read_value (vals.map_range map left) before
read (before_bound target) (read_value it before) = read_value (vals.bound target it) before
read (before_dynamic of) (read_value it before) = read_value (vals.dynamic of it) before
read before_parts (read_parts it before) = read_value (vals.parts it) before
read (before_part blank) (read_value it (read_parts rest before)) = read_parts (vals.part it blank rest) before
read no_part before = read_parts vals.none before
read _ before = before

abbrev pub read_all : List Sign → Read
read_all [] = nothing
read_all (sign ∷ after) = read sign (read_all after)

abbrev pub first : Read → Val
first (read_value it _) = it
first _ = vals.nil_interface

abbrev pub back : List Sign → Val
back all = first (read_all all)

mutual
  reads_value : (it : Val) (after : List Sign) → read_all (signs it ++ after) ≡ read_value it (read_all after)
  reads_value (vals.truth it) after = refl
  reads_value (vals.number it) after = refl
  reads_value (vals.text it) after = refl
  reads_value (vals.pointer it) after = refl
  reads_value (vals.slice it) after = refl
  reads_value (vals.map_number it) after = refl
  reads_value (vals.chan_number it) after = refl
  reads_value vals.nil_function after = refl
  reads_value (vals.closure function captured) after = refl
  reads_value (vals.expression receiver name package_number) after = refl
  reads_value vals.nil_interface after = refl
  reads_value (vals.text_range bytes next) after = refl
  reads_value (vals.map_range map left) after = refl
  reads_value (vals.bound target it) after = ap (read (before_bound target)) (reads_value it after)
  reads_value (vals.dynamic of it) after = ap (read (before_dynamic of)) (reads_value it after)
  reads_value (vals.parts it) after = ap (read before_parts) (reads_parts it after)

  reads_parts : (it : Parts) (after : List Sign) → read_all (signs_of_parts it ++ after) ≡ read_parts it (read_all after)
  reads_parts vals.none after = refl
  reads_parts (vals.part it blank rest) after =
      ap (λ all. read (before_part blank) (read_all all)) (append_assoc (signs it) (signs_of_parts rest) after)
      ∙ (ap (read (before_part blank)) (reads_value it (signs_of_parts rest ++ after))
      ∙ ap (λ x. read (before_part blank) (read_value it x)) (reads_parts rest after))

mutual
  ends_value : (it : Val) → read_all (signs it) ≡ read_value it nothing
  ends_value (vals.truth it) = refl
  ends_value (vals.number it) = refl
  ends_value (vals.text it) = refl
  ends_value (vals.pointer it) = refl
  ends_value (vals.slice it) = refl
  ends_value (vals.map_number it) = refl
  ends_value (vals.chan_number it) = refl
  ends_value vals.nil_function = refl
  ends_value (vals.closure function captured) = refl
  ends_value (vals.expression receiver name package_number) = refl
  ends_value vals.nil_interface = refl
  ends_value (vals.text_range bytes next) = refl
  ends_value (vals.map_range map left) = refl
  ends_value (vals.bound target it) = ap (read (before_bound target)) (ends_value it)
  ends_value (vals.dynamic of it) = ap (read (before_dynamic of)) (ends_value it)
  ends_value (vals.parts it) = ap (read before_parts) (ends_parts it)

  ends_parts : (it : Parts) → read_all (signs_of_parts it) ≡ read_parts it nothing
  ends_parts vals.none = refl
  ends_parts (vals.part it blank rest) =
      ap (read (before_part blank)) (reads_value it (signs_of_parts rest))
      ∙ ap (λ x. read (before_part blank) (read_value it x)) (ends_parts rest)

pub gives_back : (it : Val) → back (signs it) ≡ it
gives_back it = ap first (ends_value it)

abbrev pub value_code : Coded (List Sign) → Coded Val
value_code code = code_by (List Sign) code signs back gives_back

abbrev pub typed_code : Coded TypeId → Coded (List Sign) → Coded Typed
typed_code of code =
    code_by (TypeId × Val) (coded× of (value_code code)) (λ t. (t.of, t.value))
    (λ p. record { of = p.0; value = p.1 }) (λ _. refl)

abbrev pub field_code : Coded (List Sign) → Coded Field
field_code code =
    code_by (Val × Bool) (coded× (value_code code) coded_bool) (λ f. (f.value, f.blank))
    (λ p. record { value = p.0; blank = p.1 }) (λ _. refl)
