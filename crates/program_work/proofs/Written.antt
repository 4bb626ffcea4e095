-- What was written of right outputs, part after part.
use Rattle.std.proofs.Common.{◌∙◌, ℕ, Bool, false, List, [], ◌++◌, Option, Result, Ok, Err, IsErr, refl, sym, ap, inl, inr, append_assoc}
use Rattle.std.proofs.lemmas.List.{append-nil}
use Rattle.std.proofs.KnownBytes.{Appends-nil, Appends-trans}
use Rattle.std.specs.Io.KnownBytes.{Appends}
use Rattle.go_base.specs.Devices.{AppendsFront}
use Rattle.program_work.specs.declared.stop.Stop.{Stop}
use Rattle.program_work.specs.Outputs.{Does, Finishes, IsUnfinished}

-- all that was written
pub whole_front : (old new : Option (List ℕ)) (output : List ℕ) → Appends old new output → AppendsFront old new output
whole_front old new output appends = record { front = output; rest = []; parts = sym (append-nil output); appends = appends }

-- more was to come
pub front_before : (old new : Option (List ℕ)) (a b : List ℕ) → Appends old new a → AppendsFront old new (a ++ b)
front_before old new a b appends = record { front = a; rest = b; parts = refl; appends = appends }

-- a front of something is a front of more
pub front_longer : (old new : Option (List ℕ)) (a b : List ℕ) → AppendsFront old new a → AppendsFront old new (a ++ b)
front_longer old new a b first = record {
  front = first.front;
  rest = first.rest ++ b;
  parts = ap (λ l. l ++ b) first.parts ∙ append_assoc first.front first.rest b;
  appends = first.appends;
}

-- a front of what comes behind
pub front_behind : (old mid new : Option (List ℕ)) (a b : List ℕ) → Appends old mid a → AppendsFront mid new b → AppendsFront old new (a ++ b)
front_behind old mid new a b first then = record {
  front = a ++ then.front;
  rest = then.rest;
  parts = ap (λ l. a ++ l) then.parts ∙ sym (append_assoc a then.front then.rest);
  appends = Appends-trans old mid new a then.front first then.appends;
}

-- nothing was written
pub nothing_yet : {A : Type 0} (right : A → List ℕ → Type 0) (known : Option (List ℕ)) → IsUnfinished right known known
nothing_yet right known = inl (Appends-nil known)

pub finished : {A : Type 0} (right : A → List ℕ → Type 0) (value : A) (output : List ℕ) (old new : Option (List ℕ)) → right value output → Appends old new output → Finishes right value old new
finished right value output old new is appends = record { output = output; is_right = is; appends = appends }

pub stopped : {A : Type 0} (right : A → List ℕ → Type 0) (value : A) (output : List ℕ) (old new : Option (List ℕ)) → right value output → AppendsFront old new output → IsUnfinished right old new
stopped right value output old new is appends = inr (record { value = value; output = output; is_right = is; appends = appends })

-- what is finished is a front of itself
pub finished_stops : {A : Type 0} (right : A → List ℕ → Type 0) (value : A) (old new : Option (List ℕ)) → Finishes right value old new → IsUnfinished right old new
finished_stops right value old new f = stopped right value f.output old new f.is_right (whole_front old new f.output f.appends)

-- right for one reason, and so for another
pub finishes_as : {A B : Type 0} (P : A → List ℕ → Type 0) (Q : B → List ℕ → Type 0) (value : A) (other : B) (old new : Option (List ℕ)) → ((output : List ℕ) → P value output → Q other output) → Finishes P value old new → Finishes Q other old new
finishes_as P Q value other old new turns f = record { output = f.output; is_right = turns f.output f.is_right; appends = f.appends }

pub unfinished_as : {A B : Type 0} (P : A → List ℕ → Type 0) (Q : B → List ℕ → Type 0) (f : A → B) (old new : Option (List ℕ)) → ((value : A) (output : List ℕ) → P value output → Q (f value) output) → IsUnfinished P old new → IsUnfinished Q old new
unfinished_as P Q f old new turns (inl nothing) = inl nothing
unfinished_as P Q f old new turns (inr s) = inr (record { value = f s.value; output = s.output; is_right = turns s.value s.output s.is_right; appends = s.appends })

-- where a step has failed, the work has
pub does_stop : {A : Type 0} (right : Bool → A → List ℕ → Type 0) (result : Result A Stop) (old new : Option (List ℕ)) → IsErr result → IsUnfinished (right false) old new → Does right result old new
does_stop right (Ok value) old new failed u = cc
does_stop right (Err stop) old new failed u = u
