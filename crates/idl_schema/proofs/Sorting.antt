-- Members that are put in the order of their tags.
use Rattle.std.proofs.Common.{◌≡◌, ◌⊎◌, inl, inr, subst, ◌≢◌, ℕ, ◌+◌, ◌<◌, Bool, true, false, cond, List, [], ◌∷◌, ◌++◌, map, fold, refl, sym, ap, ◌∙◌, arith}
use Rattle.std.proofs.lemmas.Bool.{ltb-true}
use Rattle.std.proofs.lemmas.Bool.Decides.{nat_tests}
use Rattle.std.specs.Prelude.{nat_lt}
use Rattle.std.specs.List.{AllByRecursion}
use Rattle.tars_model.specs.Members.{IsBelowNext, HaveRisingTags}
use Rattle.tars_model.specs.Schemas.{add_up, NamesMember}
use Rattle.tars_model.specs.Types.{greater, type_depth, deepest}
use Rattle.tars_model.specs.declared.member.Member.{Member}
use Rattle.idl_schema.specs.SchemaOf.{put_member, in_tag_order}
use Rattle.idl_schema.proofs.Parts.{each_weaker, Apart}

abbrev put_by : Bool → Member → Member → List Member → List Member → List Member
put_by b m other ms rest = cond b (m ∷ other ∷ ms) (other ∷ rest)

-- what holds of each member
pub put_each : (P : Member → Type 0) (m : Member) (ms : List Member) → P m → AllByRecursion P ms → AllByRecursion P (put_member m ms)
put_each P m [] here each = (here, tt)
put_each P m (other ∷ ms) here each = by_test (nat_lt m.tag other.tag) (put_member m ms) (put_each P m ms here each.1)
  where
    by_test : (b : Bool) (rest : List Member) → AllByRecursion P rest → AllByRecursion P (put_by b m other ms rest)
    by_test true rest r = (here, each)
    by_test false rest r = (each.0, r)

-- ---- sums and depths

pub put_sum : (f : Member → ℕ) (m : Member) (ms : List Member) → add_up (map f (put_member m ms)) ≡ f m + add_up (map f ms)
put_sum f m [] = refl
put_sum f m (other ∷ ms) = by_test (nat_lt m.tag other.tag) (put_member m ms) (put_sum f m ms)
  where
    by_test : (b : Bool) (rest : List Member) → add_up (map f rest) ≡ f m + add_up (map f ms) → add_up (map f (put_by b m other ms rest)) ≡ f m + (f other + add_up (map f ms))
    by_test true rest r = refl
    by_test false rest r = omega arith

swapped : (a b c : ℕ) → greater a (greater b c) ≡ greater b (greater a c)
swapped a b c = grind (arith, nat_tests)

pub put_deepest : (depths : List ℕ) (m : Member) (ms : List Member) → deepest depths (put_member m ms) ≡ greater (type_depth depths m.ty) (deepest depths ms)
put_deepest depths m [] = refl
put_deepest depths m (other ∷ ms) = by_test (nat_lt m.tag other.tag) (put_member m ms) (put_deepest depths m ms)
  where
    by_test : (b : Bool) (rest : List Member) → deepest depths rest ≡ greater (type_depth depths m.ty) (deepest depths ms)
        → deepest depths (put_by b m other ms rest) ≡ greater (type_depth depths m.ty) (greater (type_depth depths other.ty) (deepest depths ms))
    by_test true rest r = refl
    by_test false rest r = ap (greater (type_depth depths other.ty)) r ∙ swapped (type_depth depths other.ty) (type_depth depths m.ty) (deepest depths ms)

-- ---- tags and names that differ

abbrev pub OtherTag : Member → Member → Type 0
OtherTag a b = a.tag ≢ b.tag

abbrev pub OtherName : Member → Member → Type 0
OtherName a b = b.name ≢ a.name

put_next : (tag : ℕ) (m : Member) (ms : List Member) → tag < m.tag → IsBelowNext tag ms → IsBelowNext tag (put_member m ms)
put_next tag m [] less next = less
put_next tag m (other ∷ ms) less next = by_test (nat_lt m.tag other.tag)
  where
    by_test : (b : Bool) → IsBelowNext tag (put_by b m other ms (put_member m ms))
    by_test true = less
    by_test false = next

put_rising : (m : Member) (ms : List Member) → AllByRecursion (λ e. OtherTag e m) ms → HaveRisingTags ms → HaveRisingTags (put_member m ms)
put_rising m [] other rising = (tt, tt)
put_rising m (o ∷ ms) other rising = by_test (nat_lt m.tag o.tag) refl (put_member m ms) (λ less. put_next o.tag m ms less rising.0) (put_rising m ms other.1 rising.1)
  where
    by_test : (b : Bool) → nat_lt m.tag o.tag ≡ b → (rest : List Member) → (o.tag < m.tag → IsBelowNext o.tag rest) → HaveRisingTags rest → HaveRisingTags (put_by b m o ms rest)
    by_test true e rest next r = (ltb-true m.tag o.tag e, rising)
    by_test false e rest next r =
        let above : o.tag ≢ m.tag = other.0 in
        let less : o.tag < m.tag = grind (arith, nat_tests) in
        (next less, r)

put_apart : (m : Member) (ms : List Member) → AllByRecursion (λ e. OtherName e m) ms → Apart OtherName ms → Apart OtherName (put_member m ms)
put_apart m [] other apart = (tt, tt)
put_apart m (o ∷ ms) other apart =
    by_test (nat_lt m.tag o.tag) (put_member m ms) (put_each (OtherName o) m ms other.0 apart.0) (put_apart m ms other.1 apart.1)
  where
    back : (x : Member) → OtherName x m → OtherName m x
    back x e = λ is. e (sym is)

    by_test : (b : Bool) (rest : List Member) → AllByRecursion (OtherName o) rest → Apart OtherName rest → Apart OtherName (put_by b m o ms rest)
    by_test true rest each r = ((back o other.0, each_weaker (λ e. OtherName e m) (OtherName m) back ms other.1), apart)
    by_test false rest each r = (each, r)

-- ---- all of them

abbrev put_all : List Member → List Member → List Member
put_all sorted ms = fold (λ sorted m. put_member m sorted) sorted ms

all_each : (P : Member → Type 0) (sorted ms : List Member) → AllByRecursion P sorted → AllByRecursion P ms → AllByRecursion P (put_all sorted ms)
all_each P sorted [] s each = s
all_each P sorted (m ∷ ms) s each = all_each P (put_member m sorted) ms (put_each P m sorted each.0 s) each.1

pub sorted_each : (P : Member → Type 0) (ms : List Member) → AllByRecursion P ms → AllByRecursion P (in_tag_order ms)
sorted_each P ms each = all_each P [] ms tt each

all_sum : (f : Member → ℕ) (sorted ms : List Member) → add_up (map f (put_all sorted ms)) ≡ add_up (map f sorted) + add_up (map f ms)
all_sum f sorted [] = omega arith
all_sum f sorted (m ∷ ms) = let rest = all_sum f (put_member m sorted) ms in let here = put_sum f m sorted in omega arith

pub sorted_sum : (f : Member → ℕ) (ms : List Member) → add_up (map f (in_tag_order ms)) ≡ add_up (map f ms)
sorted_sum f ms = let all = all_sum f [] ms in omega arith

joined : (a b c : ℕ) → greater (greater a b) c ≡ greater b (greater a c)
joined a b c = grind (arith, nat_tests)

all_deepest : (depths : List ℕ) (sorted ms : List Member) → deepest depths (put_all sorted ms) ≡ greater (deepest depths sorted) (deepest depths ms)
all_deepest depths sorted [] = nothing (deepest depths sorted)
  where
    nothing : (a : ℕ) → a ≡ greater a 0
    nothing a = grind (arith, nat_tests)
all_deepest depths sorted (m ∷ ms) =
    all_deepest depths (put_member m sorted) ms ∙ ap (λ d. greater d (deepest depths ms)) (put_deepest depths m sorted)
    ∙ joined (type_depth depths m.ty) (deepest depths sorted) (deepest depths ms)

pub sorted_deepest : (depths : List ℕ) (ms : List Member) → deepest depths (in_tag_order ms) ≡ deepest depths ms
sorted_deepest depths ms = all_deepest depths [] ms ∙ nothing (deepest depths ms)
  where
    nothing : (a : ℕ) → greater 0 a ≡ a
    nothing a = grind (arith, nat_tests)

heads : (R : Member → Member → Type 0) (m : Member) (ms sorted : List Member) → AllByRecursion (λ e. AllByRecursion (R e) (m ∷ ms)) sorted → AllByRecursion (λ e. R e m) sorted
heads R m ms sorted each = each_weaker (λ e. AllByRecursion (R e) (m ∷ ms)) (λ e. R e m) (λ e all. all.0) sorted each

tails : (R : Member → Member → Type 0) (m : Member) (ms sorted : List Member) → AllByRecursion (λ e. AllByRecursion (R e) (m ∷ ms)) sorted → AllByRecursion (λ e. AllByRecursion (R e) ms) sorted
tails R m ms sorted each = each_weaker (λ e. AllByRecursion (R e) (m ∷ ms)) (λ e. AllByRecursion (R e) ms) (λ e all. all.1) sorted each

all_rising : (sorted ms : List Member) → AllByRecursion (λ e. AllByRecursion (OtherTag e) ms) sorted → Apart OtherTag ms → HaveRisingTags sorted → HaveRisingTags (put_all sorted ms)
all_rising sorted [] across apart rising = rising
all_rising sorted (m ∷ ms) across apart rising =
    all_rising (put_member m sorted) ms (put_each (λ e. AllByRecursion (OtherTag e) ms) m sorted apart.0 (tails OtherTag m ms sorted across)) apart.1
    (put_rising m sorted (heads OtherTag m ms sorted across) rising)

pub sorted_rising : (ms : List Member) → Apart OtherTag ms → HaveRisingTags (in_tag_order ms)
sorted_rising ms apart = all_rising [] ms tt apart tt

all_apart : (sorted ms : List Member) → AllByRecursion (λ e. AllByRecursion (OtherName e) ms) sorted → Apart OtherName ms → Apart OtherName sorted → Apart OtherName (put_all sorted ms)
all_apart sorted [] across apart so_far = so_far
all_apart sorted (m ∷ ms) across apart so_far =
    all_apart (put_member m sorted) ms (put_each (λ e. AllByRecursion (OtherName e) ms) m sorted apart.0 (tails OtherName m ms sorted across)) apart.1
    (put_apart m sorted (heads OtherName m ms sorted across) so_far)

pub sorted_apart : (ms : List Member) → Apart OtherName ms → Apart OtherName (in_tag_order ms)
sorted_apart ms apart = all_apart [] ms tt apart tt

-- ---- names that members have

has_here : (m : Member) (ms : List Member) → NamesMember (m ∷ ms) m.name
has_here m ms = ([], ms, m, refl, refl)

has_later : (x : Member) (ms : List Member) (name : List ℕ) → NamesMember ms name → NamesMember (x ∷ ms) name
has_later x ms name has = (x ∷ has.0, has.1, has.2, ap (λ (l : List Member). x ∷ l) has.3, has.4)

here_or_later : (x : Member) (ms : List Member) (name : List ℕ) → NamesMember (x ∷ ms) name → (x.name ≡ name) ⊎ NamesMember ms name
here_or_later x ms name ([], later, m, is, named) = inl (ap (λ (m : Member). m.name) (first_same is) ∙ named)
  where
    first_same : x ∷ ms ≡ m ∷ later → x ≡ m
    first_same e = cc
here_or_later x ms name (y ∷ earlier, later, m, is, named) = inr (earlier, later, m, rest_same is, named)
  where
    rest_same : x ∷ ms ≡ y ∷ (earlier ++ m ∷ later) → ms ≡ earlier ++ m ∷ later
    rest_same e = cc

put_here : (m : Member) (ms : List Member) → NamesMember (put_member m ms) m.name
put_here m [] = has_here m []
put_here m (other ∷ ms) = by_test (nat_lt m.tag other.tag) (put_member m ms) (put_here m ms)
  where
    by_test : (b : Bool) (rest : List Member) → NamesMember rest m.name → NamesMember (put_by b m other ms rest) m.name
    by_test true rest r = has_here m (other ∷ ms)
    by_test false rest r = has_later other rest m.name r

put_keeps : (m : Member) (ms : List Member) (name : List ℕ) → NamesMember ms name → NamesMember (put_member m ms) name
put_keeps m [] name has = has_later m [] name has
put_keeps m (other ∷ ms) name has = by_test (nat_lt m.tag other.tag) (put_member m ms) (put_keeps m ms name)
  where
    by_place : (rest : List Member) → (NamesMember ms name → NamesMember rest name) → (other.name ≡ name) ⊎ NamesMember ms name → NamesMember (other ∷ rest) name
    by_place rest r (inl here) = subst (NamesMember (other ∷ rest)) here (has_here other rest)
    by_place rest r (inr later) = has_later other rest name (r later)

    by_test : (b : Bool) (rest : List Member) → (NamesMember ms name → NamesMember rest name) → NamesMember (put_by b m other ms rest) name
    by_test true rest r = has_later m (other ∷ ms) name has
    by_test false rest r = by_place rest r (here_or_later other ms name has)

all_keeps : (sorted ms : List Member) (name : List ℕ) → NamesMember sorted name → NamesMember (put_all sorted ms) name
all_keeps sorted [] name has = has
all_keeps sorted (m ∷ ms) name has = all_keeps (put_member m sorted) ms name (put_keeps m sorted name has)

all_have : (sorted ms : List Member) → AllByRecursion (λ (m : Member). NamesMember (put_all sorted ms) m.name) ms
all_have sorted [] = tt
all_have sorted (m ∷ ms) = (all_keeps (put_member m sorted) ms m.name (put_here m sorted), all_have (put_member m sorted) ms)

pub sorted_have : (ms : List Member) → AllByRecursion (λ (m : Member). NamesMember (in_tag_order ms) m.name) ms
sorted_have ms = all_have [] ms
