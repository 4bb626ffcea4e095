-- What becomes of the entries of maps.
use Rattle.std.proofs.Common.{◌≡◌, refl, sym, ap, ◌∙◌, subst, List, [], ◌∷◌, ◌++◌, Bool, true, false}
use Rattle.std.proofs.Common.{Option, Some, None, Result, Ok, Err}
use Rattle.std.specs.Global.{Vec}
use Rattle.std.specs.Option.{option_map, option_zip}
use Rattle.std.specs.Prelude.{if◌then◌else◌, not}
use Rattle.go_base.specs.declared.ids.TypeId.{TypeId}
use Rattle.go_base.specs.declared.memory.NoMemory.{NoMemory}
use Rattle.go_base.specs.declared.place.Pos.{Pos}
use Rattle.go_base.specs.declared.rule.Rule.TheVariants.{BadCompositeLiteral}
use Rattle.go_tree.specs.declared.exprs.Elements.TheVariants.{Entries}
use Rattle.go_tree.specs.declared.exprs.EntryInit.{EntryInit}
use Rattle.go_tree.specs.declared.exprs.TypedExpr.{TypedExpr}
use Rattle.go_type.specs.Table.{Table}
use Rattle.typed_parts.specs.declared.ground.Ground.{Ground}
use Rattle.typed_parts.specs.declared.meaning.Seen.{Seen}
use Rattle.typed_parts.specs.Joining.{beside, both, items_of, only}
use Rattle.typed_parts.specs.Judged.{Comes, Judged, Outcome, breaks, reported}
use Rattle.typed_parts.specs.Meanings.{is_constant}
use Rattle.typed_parts.specs.Turning.{Keeps, Turns}
use Rattle.typed_parts.proofs.Reports.{reported_after}
use Rattle.typed_parts.proofs.Turns.{asks, first_came, keeps, nothing_came, second_stays, then_nothing, then_soundly, weaker}
use Rattle.typed_literals.specs.declared.composing.Entry.{Entry}
use Rattle.typed_literals.specs.declared.composing.Literal.{Literal}
use Rattle.typed_literals.specs.declared.maps.Keys.{Keys}
use Rattle.typed_literals.specs.declared.maps.MapLiteral.{MapLiteral}
use Rattle.typed_literals.specs.Composing.{IsNode, broken_where, values_alone, values_broken}
use Rattle.typed_literals.specs.InOrder.{Taught, Teaches}
use Rattle.typed_literals.specs.Maps.{Adds, AreEntries, AreKeys, IsAdded, IsEntriesNode, IsEntry, IsMap, IsMapLiteral, IsMapWhere, IsNewKey, IsPart}
use Rattle.typed_literals.specs.Maps.{TypedConst, entry_of, is_again, known_const, known_in, map_of}
use Rattle.typed_literals.proofs.Constants.{none_added}
use Rattle.typed_literals.proofs.Gathering.{KnownSoFar, same_types}

abbrev pub Kept : List (Option TypedConst) → Keys → Option TypedConst → Type 0
Kept before keys known = AreKeys (before ++ known ∷ []) keys

-- an element without a key
pub no_key : (old new : Ground) (at : Pos) (part : Option Seen) (of : TypeId) (before : List (Option TypedConst)) (keys : Keys)
    → part ≡ None → AreKeys before keys → new ≡ reported old (record { at = at; rule = BadCompositeLiteral } ∷ [])
    → Taught old new None (IsNewKey old.types at part of before) (Kept before keys)
no_key old new at part of before keys p are r =
    subst (λ (o : Option Seen). Taught old new None (IsNewKey old.types at o of before) (Kept before keys)) (sym p)
    (record {
      known = None;
      judged = breaks at BadCompositeLiteral;
      is = record { key = breaks at BadCompositeLiteral; is = refl; knows = refl; whole = refl };
      knows = (none_added before keys are).kept;
      answers = refl;
      reports = r;
    })

again_of : (told again : Bool) → told ≡ not again → not told ≡ again
again_of told true e = ap not e
again_of told false e = ap not e

-- a key, which may be a constant that was one before
pub new_key : (old mid last : Ground) (at : Pos) (part : Option Seen) (x : Seen) (of : TypeId) (before : List (Option TypedConst))
    (key answer : Option TypedExpr) (known : Option TypedConst) (keys : Keys) (told : Bool)
    → part ≡ Some x → Outcome old mid key (IsPart old.types x of) → known ≡ known_const (Some x) key
    → IsAdded before known keys told → last ≡ reported mid (broken_where at (not told)) → answer ≡ only key told
    → Taught old last answer (IsNewKey old.types at part of before) (Kept before keys)
new_key old mid last at part x of before key answer known keys told p h k added r a =
    let again = is_again before known in
    let here : last ≡ reported mid (broken_where at again) = r ∙ ap (λ (b : Bool). reported mid (broken_where at b)) (again_of told again added.new) in
    subst (λ (o : Option Seen). Taught old last answer (IsNewKey old.types at o of before) (Kept before keys)) (sym p)
    (record {
      known = known;
      judged = record { sound = only h.judged.sound (not again); broken = h.judged.broken ++ broken_where at again };
      is = record {
        key = h.judged;
        is = h.is;
        knows = k ∙ ap (known_const (Some x)) h.answers;
        whole = refl;
      };
      knows = added.kept;
      answers = a ∙ (ap (λ (o : Option TypedExpr). only o told) h.answers ∙ ap (λ (b : Bool). only h.judged.sound b) added.new);
      reports = here ∙ (ap (λ (g : Ground). reported g (broken_where at again)) h.reports ∙ reported_after old h.judged.broken (broken_where at again));
    })

added_came : (before : List (Option TypedConst)) (known : Option TypedConst) (keys : Keys) (result : Result Bool NoMemory) (told : Bool)
    → result ≡ Ok told → Adds before known keys result → IsAdded before known keys told
added_came before known keys result told e h = subst (λ (r : Result Bool NoMemory). Adds before known keys r) e h

-- a key of what came
pub key_came : (old mid last : Ground) (at : Pos) (part : Option Seen) (x : Seen) (of : TypeId) (before : List (Option TypedConst))
    (key other answer : Option TypedExpr) (keys : Keys) (is_one : Bool) (came_new : Result Bool NoMemory) (is_new told : Bool)
    → part ≡ Some x → Outcome old mid key (IsPart old.types x of) → is_one ≡ is_constant x.meaning
    → Adds before (if is_one then known_in key else None) keys came_new → beside came_new key ≡ Ok (is_new, other)
    → told ≡ is_new → last ≡ reported mid (broken_where at (not is_new)) → answer ≡ only other told
    → Taught old last answer (IsNewKey old.types at part of before) (Kept before keys)
key_came old mid last at part x of before key other answer keys is_one came_new is_new told p h c added b t r a =
    let same : other ≡ key = sym (second_stays is_new other came_new key b) in
    new_key old mid last at part x of before key answer (if is_one then known_in key else None) keys is_new p h
    (ap (λ (d : Bool). if d then known_in key else None) c)
    (added_came before (if is_one then known_in key else None) keys came_new is_new (first_came is_new other came_new key b) added)
    r (a ∙ (ap (λ (o : Option TypedExpr). only o told) same ∙ ap (only key) t))

-- a key and a value
pub entry_made : (old mid new : Ground) (element : Entry) (key_type elem : TypeId) (before : List (Option TypedConst))
    (keys : Keys) (key value : Option TypedExpr) (answer : Option EntryInit)
    → Taught old mid key (IsNewKey old.types element.at element.key key_type before) (Kept before keys)
    → Outcome mid new value (IsPart mid.types element.value elem) → answer ≡ entry_of key value
    → Taught old new answer (IsEntry old.types key_type elem before element) (Kept before keys)
entry_made old mid new element key_type elem before keys key value answer h v e = record {
  known = h.known;
  judged = record { sound = entry_of h.judged.sound v.judged.sound; broken = h.judged.broken ++ v.judged.broken };
  is = record {
    key = h.judged;
    value = v.judged;
    is_key = h.is;
    is_value = subst (λ (types : Table). IsPart types element.value elem v.judged) (same_types old mid h.judged.broken h.reports) v.is;
    whole = refl;
  };
  knows = h.knows;
  answers = e ∙ (ap (λ (o : Option TypedExpr). entry_of o value) h.answers ∙ ap (entry_of h.judged.sound) v.answers);
  reports = v.reports ∙ (ap (λ (g : Ground). reported g v.judged.broken) h.reports ∙ reported_after old h.judged.broken v.judged.broken);
}

abbrev pub entry_in : TypedExpr × TypedExpr → EntryInit
entry_in (key, value) = record { key = key; value = value }

entry_zip : (key value : Option TypedExpr) → option_map entry_in (option_zip key value) ≡ entry_of key value
entry_zip (Some key) (Some value) = refl
entry_zip (Some key) None = refl
entry_zip None value = refl

-- an entry of what came
pub entry_came : (old mid new : Ground) (element : Entry) (key_type elem : TypeId) (before : List (Option TypedConst))
    (keys : Keys) (came_key came_value : Result (Option TypedExpr) NoMemory) (pair : Option (TypedExpr × TypedExpr)) (answer : Option EntryInit)
    → Teaches old mid came_key (IsNewKey old.types element.at element.key key_type before) (Kept before keys)
    → Comes mid new came_value (IsPart mid.types element.value elem) → both came_key came_value ≡ Ok pair
    → answer ≡ option_map entry_in pair
    → Taught old new answer (IsEntry old.types key_type elem before element) (Kept before keys)
entry_came old mid new element key_type elem before keys (Err error) came_value pair answer h v e a = cc
entry_came old mid new element key_type elem before keys (Ok key) (Err error) pair answer h v e a = cc
entry_came old mid new element key_type elem before keys (Ok key) (Ok value) pair answer h v e a =
    let zipped : option_zip key value ≡ pair = cc in
    entry_made old mid new element key_type elem before keys key value answer h v
    (a ∙ (ap (option_map entry_in) (sym zipped) ∙ entry_zip key value))

-- ---- entries

abbrev pub IsEntryAt : TypeId → TypeId → Table → List (Option TypedConst) → Entry → Option TypedConst → Judged EntryInit → Type 0
IsEntryAt key_type elem types before element known result = IsEntry types key_type elem before element known result

abbrev pub AreKeysIn : Keys → List (Option TypedConst) → Type 0
AreKeysIn keys known = AreKeys known keys

pub entries_are : (old new : Ground) (key_type elem : TypeId) (elements : List Entry) (keys : Keys) (made : Option (List EntryInit))
    → KnownSoFar old new (IsEntryAt key_type elem) (AreKeysIn keys) elements made
    → Outcome old new made (AreEntries key_type elem elements old.types)
entries_are old new key_type elem elements keys made h =
    record { judged = h.far.each; is = (h.known, h.far.are); answers = h.far.answers; reports = h.far.reports }

-- ---- a literal of its entries

entries_node : (mid new : Ground) (literal : Literal) (v : Vec EntryInit) (result : Result (Option TypedExpr) NoMemory)
    → Turns mid new result (IsNode literal literal.of (Entries v)) → Turns mid new result (IsEntriesNode literal v.items)
entries_node mid new literal v result h =
    weaker mid new (IsNode literal literal.of (Entries v)) (IsEntriesNode literal v.items) result (λ (one : Judged TypedExpr) is. (v, (refl, is))) h

pub map_made : (old mid new : Ground) (map : MapLiteral) (elements : List Entry) (o : Option (Vec EntryInit)) (v : Vec EntryInit)
    (result : Result (Option TypedExpr) NoMemory)
    → Outcome old mid (items_of o) (AreEntries map.key map.elem elements old.types) → o ≡ Some v
    → Turns mid new result (IsNode map.literal map.literal.of (Entries v)) → Turns old new result (IsMap map elements)
map_made old mid new map elements o v result h e go =
    then_soundly old mid new (Keeps (AreEntries map.key map.elem elements)) (IsEntriesNode map.literal) (items_of o) v.items result (ap items_of e)
    (keeps old mid (AreEntries map.key map.elem elements) (items_of o) h) (entries_node mid new map.literal v result go)

pub map_nothing : (old mid : Ground) (map : MapLiteral) (elements : List Entry) (o : Option (Vec EntryInit))
    → Outcome old mid (items_of o) (AreEntries map.key map.elem elements old.types) → o ≡ None
    → Turns old mid (nothing_came {A = TypedExpr}) (IsMap map elements)
map_nothing old mid map elements o h e =
    then_nothing old mid (Keeps (AreEntries map.key map.elem elements)) (IsEntriesNode map.literal) (items_of o) (ap items_of e)
    (keeps old mid (AreEntries map.key map.elem elements) (items_of o) h)

-- ---- a literal, where its type is sound

pub map_by : (old new : Ground) (given : Option Literal) (o : Option MapLiteral) (map : MapLiteral) (elements : List Entry)
    (result : Result (Option TypedExpr) NoMemory) → o ≡ map_of given → o ≡ Some map → Turns old new result (IsMap map elements)
    → Turns old new result (IsMapLiteral given elements)
map_by old new given o map elements result e is h =
    subst (λ (l : Option MapLiteral). Turns old new result (IsMapWhere l elements)) (sym is ∙ e) h

pub map_unsound : (old new : Ground) (given : Option Literal) (o : Option MapLiteral) (elements : List Entry) → o ≡ map_of given → o ≡ None
    → new ≡ reported old (values_broken old.types elements) → Turns old new (nothing_came {A = TypedExpr}) (IsMapLiteral given elements)
map_unsound old new given o elements e is r =
    subst (λ (l : Option MapLiteral). Turns old new (nothing_came {A = TypedExpr}) (IsMapWhere l elements)) (sym is ∙ e)
    (asks old new (λ (types : Table). values_alone types elements) None refl r)
