-- Types that have the same values: their underlying types have one form, but for tags, names and directions of
-- channels, at every depth.
use Rattle.std.proofs.Common.{◌≡◌, ℕ, zero, suc, List, [], ◌∷◌, Option, Some, None, refl, sym, subst, ◌∙◌}
use Rattle.std.specs.List.{AllZip}
use Rattle.go_base.specs.declared.ids.TypeId.{TypeId}
use Rattle.go_type.specs.Assignable.{underlying_term_of}
use Rattle.go_type.specs.Table.{Table}
use Rattle.go_type.specs.declared.term.Field.{Field}
use Rattle.go_type.specs.declared.term.MethodType.{MethodType}
use Rattle.go_type.specs.declared.term.TypeTerm.{TypeTerm}
use Rattle.go_type.specs.declared.term.TypeTerm.TheVariants.{Basic as Plain, Declared, Pointer, Slice, Array, Map}
use Rattle.go_type.specs.declared.term.TypeTerm.TheVariants.{Chan, Func, Struct, Interface, Tuple, Iter}

-- ---- one step

abbrev pub LikeField : (TypeId → TypeId → Type 0) → Field → Field → Type 0
LikeField R a b = R a.of b.of

pub record LikeMethod (R : TypeId → TypeId → Type 0) (a b : MethodType) : Type 0 where
  pub name : a.name.number ≡ b.name.number
  pub «package» : a.«package» ≡ b.«package»
  pub of : R a.of b.of

abbrev pub LikeTerm : (TypeId → TypeId → Type 0) → TypeTerm → TypeTerm → Type 0
LikeTerm R (Plain a) (Plain b) = a ≡ b
LikeTerm R (Declared a) (Declared b) = Unit {0}
LikeTerm R (Pointer a) (Pointer b) = R a b
LikeTerm R (Slice a) (Slice b) = R a b
LikeTerm R (Array n a) (Array m b) = (n ≡ m) × R a b
LikeTerm R (Map k a) (Map l b) = R k l × R a b
LikeTerm R (Chan d a) (Chan e b) = R a b
LikeTerm R (Func a) (Func b) = AllZip R a.params b.params × AllZip R a.results b.results
LikeTerm R (Struct a) (Struct b) = AllZip (LikeField R) a b
LikeTerm R (Interface a) (Interface b) = AllZip (LikeMethod R) a b
LikeTerm R (Tuple a) (Tuple b) = AllZip R a b
LikeTerm R (Iter a) (Iter b) = R a b
LikeTerm R _ _ = ⊥

abbrev pub Like : (TypeId → TypeId → Type 0) → Option TypeTerm → Option TypeTerm → Type 0
Like R (Some a) (Some b) = LikeTerm R a b
Like R None None = Unit {0}
Like R _ _ = ⊥

-- ---- every number of steps

abbrev pub AlikeTo : ℕ → Table → TypeId → TypeId → Type 0
AlikeTo zero types a b = Unit {0}
AlikeTo (suc n) types a b = Like (AlikeTo n types) (underlying_term_of types a) (underlying_term_of types b)

-- two types have the same values
abbrev pub Alike : Table → TypeId → TypeId → Type 0
Alike types a b = (n : ℕ) → AlikeTo n types a b

-- ---- lists

zip_all : {A : Type 0} (R : A → A → Type 0) → ((a : A) → R a a) → (xs : List A) → AllZip R xs xs
zip_all R each [] = tt
zip_all R each (x ∷ xs) = (each x, zip_all R each xs)

pub zip_turned : {A B : Type 0} (R : A → B → Type 0) (S : B → A → Type 0) → ((a : A) (b : B) → R a b → S b a) → (xs : List A)
    (ys : List B) → AllZip R xs ys → AllZip S ys xs
zip_turned R S turn [] [] h = tt
zip_turned R S turn (x ∷ xs) (y ∷ ys) h = (turn x y h.0, zip_turned R S turn xs ys h.1)
zip_turned R S turn _ _ h = absurd h

pub zip_joined : {A B C : Type 0} (R : A → B → Type 0) (S : B → C → Type 0) (T : A → C → Type 0)
    → ((a : A) (b : B) (c : C) → R a b → S b c → T a c) → (xs : List A) (ys : List B) (zs : List C) → AllZip R xs ys
    → AllZip S ys zs → AllZip T xs zs
zip_joined R S T join [] [] [] h k = tt
zip_joined R S T join (x ∷ xs) (y ∷ ys) (z ∷ zs) h k = (join x y z h.0 k.0, zip_joined R S T join xs ys zs h.1 k.1)
zip_joined R S T join [] [] (z ∷ zs) h k = absurd k
zip_joined R S T join (x ∷ xs) (y ∷ ys) [] h k = absurd k
zip_joined R S T join [] (y ∷ ys) zs h k = absurd h
zip_joined R S T join (x ∷ xs) [] zs h k = absurd h

pub zip_map : {A B : Type 0} (R S : A → B → Type 0) → ((a : A) (b : B) → R a b → S a b) → (xs : List A) (ys : List B)
    → AllZip R xs ys → AllZip S xs ys
zip_map R S each [] [] h = tt
zip_map R S each (x ∷ xs) (y ∷ ys) h = (each x y h.0, zip_map R S each xs ys h.1)
zip_map R S each _ _ h = absurd h

-- ---- one step keeps what relations have

module _ (R : TypeId → TypeId → Type 0) (each : (a : TypeId) → R a a) where
  like_itself : (t : TypeTerm) → LikeTerm R t t
  like_itself (Plain a) = refl
  like_itself (Declared a) = tt
  like_itself (Pointer a) = each a
  like_itself (Slice a) = each a
  like_itself (Array n a) = (refl, each a)
  like_itself (Map k a) = (each k, each a)
  like_itself (Chan d a) = each a
  like_itself (Func a) = (zip_all R each a.params, zip_all R each a.results)
  like_itself (Struct a) = zip_all (LikeField R) (λ f. each f.of) a
  like_itself (Interface a) = zip_all (LikeMethod R) (λ m. record { name = refl; «package» = refl; of = each m.of }) a
  like_itself (Tuple a) = zip_all R each a
  like_itself (Iter a) = each a

  pub like_self : (t : Option TypeTerm) → Like R t t
  like_self None = tt
  like_self (Some t) = like_itself t

module _ (R S : TypeId → TypeId → Type 0) (turn : (a b : TypeId) → R a b → S b a) where
  turned_method : (a b : MethodType) → LikeMethod R a b → LikeMethod S b a
  turned_method a b h = record { name = sym h.name; «package» = sym h.«package»; of = turn a.of b.of h.of }

  like_turned : (s t : TypeTerm) → LikeTerm R s t → LikeTerm S t s
  like_turned (Plain a) (Plain b) h = sym h
  like_turned (Declared a) (Declared b) h = tt
  like_turned (Pointer a) (Pointer b) h = turn a b h
  like_turned (Slice a) (Slice b) h = turn a b h
  like_turned (Array n a) (Array m b) h = (sym h.0, turn a b h.1)
  like_turned (Map k a) (Map l b) h = (turn k l h.0, turn a b h.1)
  like_turned (Chan d a) (Chan e b) h = turn a b h
  like_turned (Func a) (Func b) h =
      (zip_turned R S turn a.params b.params h.0, zip_turned R S turn a.results b.results h.1)
  like_turned (Struct a) (Struct b) h = zip_turned (LikeField R) (LikeField S) (λ f g. turn f.of g.of) a b h
  like_turned (Interface a) (Interface b) h = zip_turned (LikeMethod R) (LikeMethod S) turned_method a b h
  like_turned (Tuple a) (Tuple b) h = zip_turned R S turn a b h
  like_turned (Iter a) (Iter b) h = turn a b h
  like_turned _ _ h = absurd h

  pub turned : (s t : Option TypeTerm) → Like R s t → Like S t s
  turned (Some s) (Some t) h = like_turned s t h
  turned None None h = tt
  turned _ _ h = absurd h

module _ (R S T : TypeId → TypeId → Type 0) (join : (a b c : TypeId) → R a b → S b c → T a c) where
  joined_method : (a b c : MethodType) → LikeMethod R a b → LikeMethod S b c → LikeMethod T a c
  joined_method a b c h k =
      record { name = h.name ∙ k.name; «package» = h.«package» ∙ k.«package»; of = join a.of b.of c.of h.of k.of }

  like_joined : (s t u : TypeTerm) → LikeTerm R s t → LikeTerm S t u → LikeTerm T s u
  like_joined (Plain a) (Plain b) (Plain c) h k = h ∙ k
  like_joined (Plain a) (Plain b) _ h k = absurd k
  like_joined (Declared a) (Declared b) (Declared c) h k = tt
  like_joined (Declared a) (Declared b) _ h k = absurd k
  like_joined (Pointer a) (Pointer b) (Pointer c) h k = join a b c h k
  like_joined (Pointer a) (Pointer b) _ h k = absurd k
  like_joined (Slice a) (Slice b) (Slice c) h k = join a b c h k
  like_joined (Slice a) (Slice b) _ h k = absurd k
  like_joined (Array n a) (Array m b) (Array o c) h k = (h.0 ∙ k.0, join a b c h.1 k.1)
  like_joined (Array n a) (Array m b) _ h k = absurd k
  like_joined (Map d a) (Map e b) (Map f c) h k = (join d e f h.0 k.0, join a b c h.1 k.1)
  like_joined (Map d a) (Map e b) _ h k = absurd k
  like_joined (Chan d a) (Chan e b) (Chan f c) h k = join a b c h k
  like_joined (Chan d a) (Chan e b) _ h k = absurd k
  like_joined (Func a) (Func b) (Func c) h k =
      (zip_joined R S T join a.params b.params c.params h.0 k.0, zip_joined R S T join a.results b.results c.results h.1 k.1)
  like_joined (Func a) (Func b) _ h k = absurd k
  like_joined (Struct a) (Struct b) (Struct c) h k =
      zip_joined (LikeField R) (LikeField S) (LikeField T) (λ f g e. join f.of g.of e.of) a b c h k
  like_joined (Struct a) (Struct b) _ h k = absurd k
  like_joined (Interface a) (Interface b) (Interface c) h k =
      zip_joined (LikeMethod R) (LikeMethod S) (LikeMethod T) joined_method a b c h k
  like_joined (Interface a) (Interface b) _ h k = absurd k
  like_joined (Tuple a) (Tuple b) (Tuple c) h k = zip_joined R S T join a b c h k
  like_joined (Tuple a) (Tuple b) _ h k = absurd k
  like_joined (Iter a) (Iter b) (Iter c) h k = join a b c h k
  like_joined (Iter a) (Iter b) _ h k = absurd k
  like_joined _ _ _ h k = absurd h

  pub joined : (s t u : Option TypeTerm) → Like R s t → Like S t u → Like T s u
  joined (Some s) (Some t) (Some u) h k = like_joined s t u h k
  joined (Some s) (Some t) None h k = absurd k
  joined None None None h k = tt
  joined None None (Some u) h k = absurd k
  joined (Some s) None u h k = absurd h
  joined None (Some t) u h k = absurd h

-- ---- an equivalence

alike_to_self : (n : ℕ) (types : Table) (a : TypeId) → AlikeTo n types a a
alike_to_self zero types a = tt
alike_to_self (suc n) types a = like_self (AlikeTo n types) (alike_to_self n types) (underlying_term_of types a)

pub alike_self : (types : Table) (a : TypeId) → Alike types a a
alike_self types a n = alike_to_self n types a

alike_to_sym : (n : ℕ) (types : Table) (a b : TypeId) → AlikeTo n types a b → AlikeTo n types b a
alike_to_sym zero types a b h = tt
alike_to_sym (suc n) types a b h =
    turned (AlikeTo n types) (AlikeTo n types) (alike_to_sym n types) (underlying_term_of types a) (underlying_term_of types b) h

pub alike_sym : (types : Table) (a b : TypeId) → Alike types a b → Alike types b a
alike_sym types a b h n = alike_to_sym n types a b (h n)

alike_to_trans : (n : ℕ) (types : Table) (a b c : TypeId) → AlikeTo n types a b → AlikeTo n types b c → AlikeTo n types a c
alike_to_trans zero types a b c h k = tt
alike_to_trans (suc n) types a b c h k =
    joined (AlikeTo n types) (AlikeTo n types) (AlikeTo n types) (alike_to_trans n types) (underlying_term_of types a)
    (underlying_term_of types b) (underlying_term_of types c) h k

pub alike_trans : (types : Table) (a b c : TypeId) → Alike types a b → Alike types b c → Alike types a c
alike_trans types a b c h k n = alike_to_trans n types a b c (h n) (k n)

-- equal types are alike
pub alike_of : (types : Table) (a b : TypeId) → a ≡ b → Alike types a b
alike_of types a b e = subst (λ c. Alike types a c) e (alike_self types a)

-- ---- underlying terms of types that are alike have parts that are alike

-- lists that are related at every number of steps
zip_every : {A B : Type 0} (R : ℕ → A → B → Type 0) (xs : List A) (ys : List B) → ((n : ℕ) → AllZip (R n) xs ys)
    → AllZip (λ a b. (n : ℕ) → R n a b) xs ys
zip_every R [] [] h = tt
zip_every R (x ∷ xs) (y ∷ ys) h = (λ n. (h n).0, zip_every R xs ys (λ n. (h n).1))
zip_every R [] (y ∷ ys) h = absurd (h 0)
zip_every R (x ∷ xs) [] h = absurd (h 0)

module _ (types : Table) where
  every_method : (a b : MethodType) → ((n : ℕ) → LikeMethod (AlikeTo n types) a b) → LikeMethod (Alike types) a b
  every_method a b h = record { name = (h 0).name; «package» = (h 0).«package»; of = λ n. (h n).of }

  like_every : (s t : TypeTerm) → ((n : ℕ) → LikeTerm (AlikeTo n types) s t) → LikeTerm (Alike types) s t
  like_every (Plain a) (Plain b) h = h 0
  like_every (Declared a) (Declared b) h = tt
  like_every (Pointer a) (Pointer b) h = h
  like_every (Slice a) (Slice b) h = h
  like_every (Array n a) (Array m b) h = ((h 0).0, λ k. (h k).1)
  like_every (Map k a) (Map l b) h = (λ n. (h n).0, λ n. (h n).1)
  like_every (Chan d a) (Chan e b) h = h
  like_every (Func a) (Func b) h = (
    zip_every (λ n. AlikeTo n types) a.params b.params (λ n. (h n).0),
    zip_every (λ n. AlikeTo n types) a.results b.results (λ n. (h n).1),
  )
  like_every (Struct a) (Struct b) h = zip_every (λ n. LikeField (AlikeTo n types)) a b h
  like_every (Interface a) (Interface b) h =
      zip_map (λ a b. (n : ℕ) → LikeMethod (AlikeTo n types) a b) (LikeMethod (Alike types)) every_method a b
      (zip_every (λ n. LikeMethod (AlikeTo n types)) a b h)
  like_every (Tuple a) (Tuple b) h = zip_every (λ n. AlikeTo n types) a b h
  like_every (Iter a) (Iter b) h = h
  like_every _ _ h = absurd (h 0)

  every : (s t : Option TypeTerm) → ((n : ℕ) → Like (AlikeTo n types) s t) → Like (Alike types) s t
  every (Some s) (Some t) h = like_every s t h
  every None None h = tt
  every (Some s) None h = absurd (h 0)
  every None (Some t) h = absurd (h 0)

  pub alike_under : (a b : TypeId) → Alike types a b
      → Like (Alike types) (underlying_term_of types a) (underlying_term_of types b)
  alike_under a b h = every (underlying_term_of types a) (underlying_term_of types b) (λ n. h (suc n))

  -- one step more
  under_to : (n : ℕ) (a b : TypeId) → Like (Alike types) (underlying_term_of types a) (underlying_term_of types b)
      → AlikeTo n types a b
  under_to zero a b h = tt
  under_to (suc n) a b h =
      joined (λ c d. c ≡ d) (Alike types) (AlikeTo n types) (λ c d e same k. subst (λ c. AlikeTo n types c e) (sym same) (k n))
      (underlying_term_of types a) (underlying_term_of types a) (underlying_term_of types b)
      (like_self (λ c d. c ≡ d) (λ c. refl) (underlying_term_of types a)) h

  pub alike_from : (a b : TypeId) → Like (Alike types) (underlying_term_of types a) (underlying_term_of types b)
      → Alike types a b
  alike_from a b h n = under_to n a b h
