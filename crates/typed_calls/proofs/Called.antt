-- What becomes of calls of functions.
use Rattle.std.proofs.Common.{◌≡◌, ℕ, suc, ◌+◌, get_or, refl, sym, ap, ◌∙◌, subst, List, [], ◌∷◌, ◌++◌, length}
use Rattle.std.proofs.Common.{Option, Some, None, Result, Ok, Err, append-nil, arith}
use Rattle.std.specs.Global.{Vec}
use Rattle.std.specs.Option.{option_flatten, option_to_list, option_zip}
use Rattle.std.specs.Prelude.{IfOk, MatchOption, OnOk}
use Rattle.std.proofs.lemmas.Grind.{flat_map-append}
use Rattle.std.proofs.lemmas.List.{map-append}
use Rattle.go_base.specs.declared.ids.TypeId.{TypeId}
use Rattle.go_base.specs.declared.memory.NoMemory.{NoMemory}
use Rattle.go_base.specs.declared.place.Pos.{Pos}
use Rattle.go_base.specs.declared.rule.Rule.TheVariants.{NotAFunction}
use Rattle.go_tree.specs.declared.exprs.Callee.{Callee}
use Rattle.go_tree.specs.declared.exprs.Callee.TheOpen as layers
use Rattle.go_tree.specs.declared.exprs.Callee.TheOpen.{ExprKind-F}
use Rattle.go_tree.specs.declared.exprs.Callee.TheViews.{out-ExprKind, roll-ExprKind, roll-out-ExprKind}
use Rattle.go_tree.specs.declared.exprs.Elements.{Elements}
use Rattle.go_tree.specs.declared.exprs.EntryInit.{EntryInit}
use Rattle.go_tree.specs.declared.exprs.ExprKind.{ExprKind}
use Rattle.go_tree.specs.declared.exprs.ExprKind.TheVariants as kinds
use Rattle.go_tree.specs.declared.exprs.FieldInit.{FieldInit}
use Rattle.go_tree.specs.declared.exprs.ItemInit.{ItemInit}
use Rattle.go_tree.specs.declared.exprs.TypedExpr.{TypedExpr}
use Rattle.go_tree.specs.declared.exprs.Values.{Values}
use Rattle.go_type.specs.declared.term.Signature.{Signature}
use Rattle.go_type.specs.declared.term.TypeTerm.TheVariants.{Tuple}
use Rattle.go_type.specs.Table.{Table, term_at, with_term}
use Rattle.typed_parts.specs.declared.ground.Ground.{Ground}
use Rattle.typed_parts.specs.declared.meaning.Given.{Given}
use Rattle.typed_parts.specs.declared.meaning.Meaning.{Meaning}
use Rattle.typed_parts.specs.declared.meaning.Meaning.TheVariants as meaning
use Rattle.typed_parts.specs.declared.meaning.Seen.{Seen}
use Rattle.typed_parts.specs.Joining.{sound}
use Rattle.typed_parts.specs.Judged.{Broken, IsFine, Judged, and_then, breaks, fine, reported}
use Rattle.typed_parts.specs.Limits.{Basis, basis}
use Rattle.typed_parts.specs.Meanings.{meant_value, one_value, single, value_of}
use Rattle.typed_parts.specs.Nodes.{node}
use Rattle.typed_parts.specs.Several.{several}
use Rattle.typed_parts.specs.Turning.{Asks, Keeps, Soundly, Turned, Turns}
use Rattle.typed_parts.proofs.Steps as steps
use Rattle.typed_parts.proofs.Turns.{asks, followed, held, keeps_comes, nothing_came, then_nothing, then_soundly, weaker}
use Rattle.typed_built_ins.proofs.Grows.{no_first, same_some, some_is_there, zip_first, zip_second}
use Rattle.typed_built_ins.proofs.Makes.{reports_more}
use Rattle.typed_calls.specs.declared.calling.Arguments.{Arguments}
use Rattle.typed_calls.specs.declared.calling.CallSite.{CallSite}
use Rattle.typed_calls.specs.declared.calling.NumberBreach.{NumberBreach}
use Rattle.typed_calls.specs.declared.packing.Plan.{Plan}
use Rattle.typed_calls.specs.Calling.{AreArguments, ArePassedAs, ArePassedBy, IsCall, IsCallBy, IsCallNode, IsCallOf, IsCallee}
use Rattle.typed_calls.specs.Calling.{IsCalleeBy, IsFunctionCall, IsNumbered, IsResult, IsResulting, IsSignatureCall, IsValueCall, IsValueCallBy, IsValueCallee}
use Rattle.typed_calls.specs.Calling.{are_singles, arguments_asked, one_of, seen_broken, seen_values, singles, singles_broken, site_of, sole_by, sole_written}
use Rattle.typed_calls.specs.Calling.{written_as}
use Rattle.typed_calls.specs.Passing.{Written, breach_broken, number_breach, place, plan, signature_of, written}

-- ---- the arguments

pub seen_values_more : (xs : List Seen) (x : Seen) → seen_values (xs ++ x ∷ []) ≡ seen_values xs ++ (value_of x).sound ∷ []
seen_values_more xs x = map-append (λ (part : Seen). (value_of part).sound) xs (x ∷ [])

pub seen_broken_more : (xs : List Seen) (x : Seen) → seen_broken (xs ++ x ∷ []) ≡ seen_broken xs ++ (value_of x).broken
seen_broken_more xs x =
    flat_map-append (λ (part : Seen). (value_of part).broken) xs (x ∷ [])
    ∙ ap (λ (rest : List Broken). seen_broken xs ++ rest) (append-nil (value_of x).broken)

pub singles_more : (types : Table) (xs : List (Option Given)) (x : Option Given)
    → singles types (xs ++ x ∷ []) ≡ singles types xs ++ (one_of types x).sound ∷ []
singles_more types xs x = map-append (λ (value : Option Given). (one_of types value).sound) xs (x ∷ [])

pub singles_broken_more : (types : Table) (xs : List (Option Given)) (x : Option Given)
    → singles_broken types (xs ++ x ∷ []) ≡ singles_broken types xs ++ (one_of types x).broken
singles_broken_more types xs x =
    flat_map-append (λ (value : Option Given). (one_of types value).broken) xs (x ∷ [])
    ∙ ap (λ (rest : List Broken). singles_broken types xs ++ rest) (append-nil (one_of types x).broken)

pub not_sole : (types : Table) (xs : List (Option Given)) → (length xs ≡ 1 → ⊥) → written_as types xs ≡ are_singles types xs
not_sole types [] e = refl
not_sole types (x ∷ []) e = absurd (e refl)
not_sole types (x ∷ y ∷ xs) e = refl

-- what is taken of the one that there is
pub one_taken : (xs rest : List (Option Given)) (o : Option (Option Given)) → xs ≡ rest ++ option_to_list o → length xs ≡ 1
    → (o ≡ None → ⊥) → xs ≡ option_flatten o ∷ []
one_taken xs rest None e one there = absurd (there refl)
one_taken xs [] (Some x) e one there = e
one_taken xs (y ∷ rest) (Some x) e one there =
    let long : length (y ∷ (rest ++ x ∷ [])) ≡ 1 = sym (ap (λ (l : List (Option Given)). length l) e) ∙ one in
    let longer = one_longer rest x in
    absurd (omega arith)
  where
    one_longer : {A : Type 0} (xs : List A) (x : A) → length (xs ++ x ∷ []) ≡ suc (length xs)
    one_longer [] x = refl
    one_longer (y ∷ xs) x = ap (λ (n : ℕ). suc n) (one_longer xs x)

-- what is seen of them, and what they come to
pub argued : (old mid new : Ground) (parts : List Seen) (values : List (Option Given)) (one : Judged Written) (given : Arguments)
    → values ≡ seen_values parts → mid ≡ reported old (seen_broken parts) → one ≡ written_as mid.types values
    → Some (written given) ≡ one.sound → new ≡ reported mid one.broken
    → (Some (written given) ≡ (arguments_asked old.types parts).sound) × (new ≡ reported old (arguments_asked old.types parts).broken)
argued old mid new parts values one given v r o s n =
    let types : mid.types ≡ old.types = ap (λ (g : Ground). g.types) r in
    let same : one ≡ written_as old.types (seen_values parts) =
    o ∙ (ap (λ (t : Table). written_as t values) types ∙ ap (written_as old.types) v) in (
      s ∙ ap (λ (j : Judged Written). j.sound) same,
      reports_more old mid new (seen_broken parts) one.broken (arguments_asked old.types parts).broken r n
          (ap (λ (j : Judged Written). seen_broken parts ++ j.broken) (sym same)),
    )

abbrev all_asked : List Seen → Table → Judged Written
all_asked parts types = arguments_asked types parts

pub function_called : (old mid new : Ground) (call : CallSite) (parts : List Seen) (f : Option Given) (given : Arguments)
    (result : Result (Option TypedExpr) NoMemory) → Some (written given) ≡ (arguments_asked old.types parts).sound
    → mid ≡ reported old (arguments_asked old.types parts).broken
    → Turns mid new result (Soundly (IsCallOf call) (option_zip f (Some (written given))))
    → Turns old new result (IsFunctionCall call parts f)
function_called old mid new call parts f given result s r k =
    followed old mid new (Asks (all_asked parts)) (λ (w : Option Written). Soundly (IsCallOf call) (option_zip f w)) (Some (written given)) result
    (asks old mid (all_asked parts) (Some (written given)) s r) k

pub both_there : (o : Option Given) (a b : Arguments) (x : Given) → option_zip o (Some a) ≡ Some (x, b)
    → option_zip o (Some (written a)) ≡ Some (x, written b)
both_there o a b x e =
    let second : a ≡ b = same_some a b (zip_second o (Some a) x b e) in
    ap (λ (p : Option Given). option_zip p (Some (written a))) (zip_first o (Some a) x b e)
    ∙ ap (λ (c : Arguments). Some (x, written c)) second

pub not_both : (o : Option Given) (a : Arguments) → option_zip o (Some a) ≡ None → option_zip o (Some (written a)) ≡ None
not_both o a e = ap (λ (p : Option Given). option_zip p (Some (written a))) (no_first o a e)

-- ---- a call of a value

pub value_called : (old new : Ground) (call : CallSite) (expr : TypedExpr) (given : Written) (found : Option Signature)
    (result : Result (Option TypedExpr) NoMemory) → signature_of old.types expr.of ≡ found
    → Turns old new result (IsValueCallBy found call expr given) → Turns old new result (IsValueCall call expr given)
value_called old new call expr given found result e h =
    weaker old new (IsValueCallBy found call expr given) (IsValueCall call expr given) result
    (λ one is. subst (λ (s : Option Signature). IsValueCallBy s call expr given (basis old) (basis new) one) (sym e) is) h

pub no_function : (old new : Ground) (call : CallSite) (expr : TypedExpr) (given : Written) (found : Option Signature)
    → signature_of old.types expr.of ≡ found → found ≡ None
    → new ≡ reported old (record { at = call.at; rule = NotAFunction } ∷ [])
    → Turns old new (nothing_came {A = TypedExpr}) (IsValueCall call expr given)
no_function old new call expr given found e none r =
    value_called old new call expr given None (nothing_came {A = TypedExpr}) (e ∙ none)
    (asks old new (λ (types : Table). breaks call.at NotAFunction) None refl r)

-- what came
pub turned : {A : Type 0} (old new : Ground) (Is : Basis → Basis → Judged A → Type 0) (came : Result (Option A) NoMemory)
    (answer : Option A) → came ≡ Ok answer → Turns old new came Is → Turned old new answer Is
turned {A} old new Is came answer e h = subst (λ (r : Result (Option A) NoMemory). Turns old new r Is) e h

pub resulted : (old new : Ground) (call : CallSite) (results : List TypeId) (expr : TypedExpr) (values : Values) (of : TypeId)
    (came : Result TypeId NoMemory) (made : Result TypedExpr NoMemory) (result : Result (Option TypedExpr) NoMemory)
    → came ≡ Ok of → Turns old new (sound came) (IsResult results) → IfOk made (IsCallNode call of expr values)
    → result ≡ sound made → Turns old new result (IsResulting call results expr values)
resulted old new call results expr values of came made result e h k s =
    then_soundly old new new (IsResult results) (λ (t : TypeId). Keeps (λ types. IsFine (IsCallNode call t expr values))) (Some of) of result refl
    (turned old new (IsResult results) (sound came) (Some of) (ap sound e) h)
    (keeps_comes new new (λ (types : Table). IsFine (IsCallNode call of expr values)) result
    (steps.fine_made new (IsCallNode call of expr values) made result k s))

pub signature_called : (old mid new : Ground) (call : CallSite) (signature : Signature) (expr : TypedExpr) (given : Written)
    (came : Result (Option Values) NoMemory) (answer : Option Values) (values : Values) (result : Result (Option TypedExpr) NoMemory)
    → came ≡ Ok answer → answer ≡ Some values → Turns old mid came (AreArguments call signature given)
    → Turns mid new result (IsResulting call signature.results expr values)
    → Turns old new result (IsSignatureCall call signature expr given)
signature_called old mid new call signature expr given came answer values result e s h k =
    then_soundly old mid new (AreArguments call signature given) (IsResulting call signature.results expr) answer values result s
    (turned old mid (AreArguments call signature given) came answer e h) k

pub signature_refused : (old mid : Ground) (call : CallSite) (signature : Signature) (expr : TypedExpr) (given : Written)
    (came : Result (Option Values) NoMemory) (answer : Option Values) → came ≡ Ok answer → answer ≡ None
    → Turns old mid came (AreArguments call signature given)
    → Turns old mid (nothing_came {A = TypedExpr}) (IsSignatureCall call signature expr given)
signature_refused old mid call signature expr given came answer e s h =
    then_nothing old mid (AreArguments call signature given) (IsResulting call signature.results expr) answer s
    (turned old mid (AreArguments call signature given) came answer e h)

-- ---- the arguments of a call

pub numbered_as : (old new : Ground) (call : CallSite) (signature : Signature) (given : Written) (found : Option NumberBreach)
    (result : Result (Option Values) NoMemory) → number_breach call signature given ≡ found
    → Turns old new result (IsNumbered found call signature given) → Turns old new result (AreArguments call signature given)
numbered_as old new call signature given found result e h =
    subst (λ (b : Option NumberBreach). Turns old new result (IsNumbered b call signature given)) (sym e) h

pub misnumbered : (old new : Ground) (call : CallSite) (signature : Signature) (given : Written) (breach : NumberBreach)
    → number_breach call signature given ≡ Some breach → new ≡ reported old (breach_broken breach call.dots (place given call.at))
    → Turns old new (nothing_came {A = Values}) (AreArguments call signature given)
misnumbered old new call signature given breach e r =
    numbered_as old new call signature given (Some breach) (nothing_came {A = Values}) e
    (asks old new (λ (types : Table). record { sound = None; broken = breach_broken breach call.dots (place given call.at) }) None refl r)

pub planned : (old new : Ground) (call : CallSite) (signature : Signature) (given : Arguments) (these : Arguments) (found : Plan)
    (result : Result (Option Values) NoMemory) → given ≡ these → found ≡ plan old.types call signature
    → Turns old new result (ArePassedBy found signature (written these))
    → Turns old new result (ArePassedAs call signature (written given))
planned old new call signature given these found result e p h =
    weaker old new (ArePassedBy found signature (written these)) (ArePassedAs call signature (written given)) result
    (λ one is. subst (λ (q : Plan). ArePassedBy q signature (written given) (basis old) (basis new) one) p
    (subst (λ (a : Arguments). ArePassedBy found signature (written a) (basis old) (basis new) one) (sym e) is)) h

-- ---- the rule

pub called_by : (old new : Ground) (f : Seen) (means : Option Meaning) (parenthesis : Pos) (parts : List Seen) (dots : Option Pos)
    (result : Result (Option TypedExpr) NoMemory) → f.meaning ≡ means
    → Turns old new result (IsCallBy means f parenthesis parts dots) → Turns old new result (IsCall f parenthesis parts dots)
called_by old new f means parenthesis parts dots result e h =
    subst (λ (m : Option Meaning). Turns old new result (IsCallBy m f parenthesis parts dots)) (sym e) h

abbrev callee_asked : Seen → Table → Judged Given
callee_asked f types = one_value types f

pub value_is_called : (old mid new : Ground) (f : Seen) (expr : TypedExpr) (parenthesis : Pos) (parts : List Seen) (dots : Option Pos)
    (x : Option Given) (result : Result (Option TypedExpr) NoMemory) → f.meaning ≡ Some (meaning.Value expr)
    → x ≡ (single old.types (record { at = f.at; expr = expr })).sound
    → mid ≡ reported old (single old.types (record { at = f.at; expr = expr })).broken
    → Turns mid new result (IsFunctionCall (site_of f parenthesis dots) parts x)
    → Turns old new result (IsCall f parenthesis parts dots)
value_is_called old mid new f expr parenthesis parts dots x result e a r k =
    called_by old new f (Some (meaning.Value expr)) parenthesis parts dots result e
    (followed old mid new (Asks (callee_asked f)) (IsFunctionCall (site_of f parenthesis dots) parts) x result
    (asks old mid (callee_asked f) x
    (subst (λ (m : Option Meaning). x ≡ (and_then (meant_value f.at m) (single old.types)).sound) (sym e) a)
    (subst (λ (m : Option Meaning). mid ≡ reported old (and_then (meant_value f.at m) (single old.types)).broken) (sym e) r)) k)

pub unsound_is_called : (old new : Ground) (f : Seen) (parenthesis : Pos) (parts : List Seen) (dots : Option Pos)
    (result : Result (Option TypedExpr) NoMemory) → f.meaning ≡ None
    → Turns old new result (IsFunctionCall (site_of f parenthesis dots) parts None)
    → Turns old new result (IsCall f parenthesis parts dots)
unsound_is_called old new f parenthesis parts dots result e k =
    called_by old new f None parenthesis parts dots result e
    (followed old old new (Asks (callee_asked f)) (IsFunctionCall (site_of f parenthesis dots) parts) None result
    (asks old old (callee_asked f) None
    (subst (λ (m : Option Meaning). None ≡ (and_then (meant_value f.at m) (single old.types)).sound) (sym e) refl)
    (subst (λ (m : Option Meaning). old ≡ reported old (and_then (meant_value f.at m) (single old.types)).broken) (sym e) refl)) k)

-- ---- the parts of the rule

pub one_result : (old : Ground) (results : List TypeId) (only : TypeId) → results ≡ only ∷ []
    → Turned old old (Some only) (IsResult results)
one_result old results only e =
    subst (λ (l : List TypeId). Turned old old (Some only) (IsResult l)) (sym e)
    (asks old old (λ (types : Table). fine only) (Some only) refl refl)

pub result_alone : (old : Ground) (results : List TypeId) → length results ≡ 1
    → Turned old old (Some (get_or results 0 (record { number = 0 }))) (IsResult results)
result_alone old [] e = absurd (omega arith)
result_alone old (only ∷ []) e = one_result old (only ∷ []) only refl
result_alone old (x ∷ y ∷ xs) e = absurd (omega arith)

pub several_results : (old new : Ground) (results : List TypeId) (came : Result TypeId NoMemory) → (length results ≡ 1 → ⊥)
    → IfOk came (λ (id : TypeId). term_at new.types id ≡ Some (Tuple results))
    → OnOk came (new ≡ record old { types = with_term (Tuple results) old.types })
    → Turns old new (sound came) (IsResult results)
several_results old new results (Err error) e n h = tt
several_results old new [] (Ok id) e n h = held old new (Tuple []) (Ok id) id refl n h
several_results old new (x ∷ []) (Ok id) e n h = absurd (e refl)
several_results old new (x ∷ y ∷ xs) (Ok id) e n h = held old new (Tuple (x ∷ y ∷ xs)) (Ok id) id refl n h

abbrev Layer : Type 0
Layer = ExprKind-F Callee Elements ExprKind Values EntryInit FieldInit ItemInit TypedExpr

pub callee_by : (expr : TypedExpr) (kind form : ExprKind) (layer : Layer) (made : Callee) → kind ≡ expr.kind → kind ≡ form
    → out-ExprKind form ≡ layer → IsCalleeBy expr layer made → IsCallee expr made
callee_by expr kind form layer made is_kind is out h =
    subst (λ (y : Layer). IsCalleeBy expr y made) (sym out ∙ ap out-ExprKind (sym is ∙ is_kind)) h

else_layer : (expr : TypedExpr) (y : Layer) (made : Callee)
    → ((function : _) → roll-ExprKind y ≡ kinds.FunctionOf function → ⊥)
    → ((function : _) → roll-ExprKind y ≡ kinds.LiteralOf function → ⊥)
    → ((receiver method : _) → roll-ExprKind y ≡ kinds.MethodValue receiver method → ⊥)
    → IsValueCallee expr made → IsCalleeBy expr y made
else_layer expr (layers.ExprKind-F.FunctionOf function) made f l m h = absurd (f function (kinds.rolls-FunctionOf function))
else_layer expr (layers.ExprKind-F.LiteralOf function) made f l m h = absurd (l function (kinds.rolls-LiteralOf function))
else_layer expr (layers.ExprKind-F.MethodValue receiver method) made f l m h =
    absurd (m receiver method (kinds.rolls-MethodValue receiver method))
else_layer expr _ made f l m h = h

-- the value of a function type
pub other_callee : (expr : TypedExpr) (at : Pos) (of : TypeId) (kind : ExprKind) (value : TypedExpr) (came : Result Callee NoMemory)
    → at ≡ expr.at → of ≡ expr.of → kind ≡ expr.kind
    → ((function : _) → kind ≡ kinds.FunctionOf function → ⊥) → ((function : _) → kind ≡ kinds.LiteralOf function → ⊥)
    → ((receiver method : _) → kind ≡ kinds.MethodValue receiver method → ⊥)
    → value ≡ node at of kind → IfOk came (IsValueCallee value) → IfOk came (IsCallee expr)
other_callee expr at of kind value (Err error) is_at is_of is_kind f l m e h = tt
other_callee expr at of kind value (Ok made) is_at is_of is_kind f l m e h =
    let rolled : roll-ExprKind (out-ExprKind expr.kind) ≡ expr.kind = roll-out-ExprKind expr.kind in
    let whole : value ≡ expr =
    e ∙ (ap (λ (p : Pos). node p of kind) is_at ∙ (ap (λ (t : TypeId). node expr.at t kind) is_of ∙ ap (λ (k : ExprKind). node expr.at expr.of k) is_kind)) in
    else_layer expr (out-ExprKind expr.kind) made
    (λ function q. f function (is_kind ∙ (sym rolled ∙ q)))
    (λ function q. l function (is_kind ∙ (sym rolled ∙ q)))
    (λ receiver method q. m receiver method (is_kind ∙ (sym rolled ∙ q)))
    (subst (λ (x : TypedExpr). IsValueCallee x made) whole h)

pub argued_came : (old mid new : Ground) (parts : List Seen) (values : List (Option Given)) (one : Judged Written)
    (came : Result Arguments NoMemory) → values ≡ seen_values parts → mid ≡ reported old (seen_broken parts)
    → one ≡ written_as mid.types values → IfOk came (λ (made : Arguments). Some (written made) ≡ one.sound)
    → OnOk came (new ≡ reported mid one.broken)
    → IfOk came (λ (made : Arguments). Some (written made) ≡ (arguments_asked old.types parts).sound)
    × OnOk came (new ≡ reported old (arguments_asked old.types parts).broken)
argued_came old mid new parts values one (Err error) v r o s n = (tt, tt)
argued_came old mid new parts values one (Ok given) v r o s n = argued old mid new parts values one given v r o s n

-- a sole argument that is no call of several
pub alone : (old new : Ground) (value : Given) (one : Option Given) (came : Result Arguments NoMemory)
    → several (term_at old.types value.expr.of) ≡ None → one ≡ (single old.types value).sound
    → new ≡ reported old (single old.types value).broken → IfOk came (λ (made : Arguments). written made ≡ Written.each (one ∷ []))
    → IfOk came (λ (made : Arguments). Some (written made) ≡ (sole_written old.types (Some value)).sound)
    × OnOk came (new ≡ reported old (sole_written old.types (Some value)).broken)
alone old new value one (Err error) none a r h = (tt, tt)
alone old new value one (Ok given) none a r h =
    let same : sole_written old.types (Some value) ≡ are_singles old.types (Some value ∷ []) = ap (sole_by old.types value) none in (
      ap (λ (w : Written). Some w) h ∙ (ap (λ (o : Option Given). Some (Written.each (o ∷ []))) a ∙ sym (ap (λ (j : Judged Written). j.sound) same)),
      r ∙ (ap (λ (b : List Broken). reported old b) (sym (append-nil (single old.types value).broken))
          ∙ sym (ap (λ (j : Judged Written). reported old j.broken) same)),
    )

pub several_alone : (types : Table) (value : Given) (parts : Vec TypeId) → several (term_at types value.expr.of) ≡ Some parts.items
    → sole_written types (Some value) ≡ fine (Written.spread value parts.items)
several_alone types value parts e = ap (sole_by types value) e

pub popped : (o : Option (Option Given)) (before after : ℕ) → MatchOption o ((before ≡ 0) × (after ≡ 0)) (λ _. after + 1 ≡ before)
    → before ≡ 1 → o ≡ None → ⊥
popped None before after h one e = let none : before ≡ 0 = h.0 in omega arith
popped (Some x) before after h one e = some_is_there x e

-- a sole argument, and any other number of them
pub sole_argued : (old mid new : Ground) (parts : List Seen) (v rest : Vec (Option Given)) (o : Option (Option Given)) (value : Option Given)
    (size : ℕ) (came : Result Arguments NoMemory) → v.items ≡ seen_values parts → mid ≡ reported old (seen_broken parts)
    → v.items ≡ rest.items ++ option_to_list o → size ≡ length v.items → size ≡ 1 → (o ≡ None → ⊥) → value ≡ option_flatten o
    → IfOk came (λ (made : Arguments). Some (written made) ≡ (sole_written mid.types value).sound)
    → OnOk came (new ≡ reported mid (sole_written mid.types value).broken)
    → IfOk came (λ (made : Arguments). Some (written made) ≡ (arguments_asked old.types parts).sound)
    × OnOk came (new ≡ reported old (arguments_asked old.types parts).broken)
sole_argued old mid new parts v rest o value size came e r p long one there is s n =
    let alone : v.items ≡ option_flatten o ∷ [] = one_taken v.items rest.items o p (sym long ∙ one) there in
    argued_came old mid new parts v.items (sole_written mid.types value) came e r
    (ap (sole_written mid.types) is ∙ sym (ap (written_as mid.types) alone)) s n

pub each_argued : (old mid new : Ground) (parts : List Seen) (v : Vec (Option Given)) (size : ℕ) (came : Result Arguments NoMemory)
    → v.items ≡ seen_values parts → mid ≡ reported old (seen_broken parts) → size ≡ length v.items → (size ≡ 1 → ⊥)
    → IfOk came (λ (made : Arguments). Some (written made) ≡ (are_singles mid.types v.items).sound)
    → OnOk came (new ≡ reported mid (are_singles mid.types v.items).broken)
    → IfOk came (λ (made : Arguments). Some (written made) ≡ (arguments_asked old.types parts).sound)
    × OnOk came (new ≡ reported old (arguments_asked old.types parts).broken)
each_argued old mid new parts v size came e r long other s n =
    argued_came old mid new parts v.items (are_singles mid.types v.items) came e r
    (sym (not_sole mid.types v.items (λ (one : length v.items ≡ 1). other (long ∙ one)))) s n
