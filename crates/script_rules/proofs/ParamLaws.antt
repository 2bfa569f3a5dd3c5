-- The parameters that are not `out`, and the search for one of a name.
use Rattle.std.proofs.Common.{◌≡◌, ◌≢◌, ◌≤◌, ◌+◌, ℕ, zero, suc, Bool, true, false, cond, not, Some, List, [], ◌∷◌, map, length, slice_get, refl, sym, ap, ◌∙◌, subst, arith, bytes_eq, true≢false}
use Rattle.std.specs.List.{All}
use Rattle.std.proofs.lemmas.List.Elements.{All-head, All-tail}
use Rattle.std.proofs.lemmas.Slice.Eq.{bytes_eq-Decides}
use Rattle.tars_model.specs.Members.{required, params_from, arguments_of}
use Rattle.tars_model.specs.Names.{AllDiffer}
use Rattle.tars_model.specs.declared.func_desc.FuncDesc.{FuncDesc}
use Rattle.tars_model.specs.declared.func_desc.Param.{Param}
use Rattle.tars_model.specs.declared.member.Member.{Member}
use Rattle.tars_model.specs.declared.ty.Ty.{Ty}
use Rattle.script_rules.specs.Functions.{AreParams}
use Rattle.script_rules.specs.Rules.{NamedAt}
use Rattle.script_rules.proofs.Names.{some_is}

-- those that are not `out`
abbrev pub ins : List Param → List Param
ins [] = []
ins (p ∷ ps) = cond p.out (ins ps) (p ∷ ins ps)

-- ---- the members that stand for them

-- a member stands for a parameter
abbrev StandsFor : Member → Param → Type 0
StandsFor m p = (m.name ≡ p.name) × (m.ty ≡ p.ty)

module _ {D : Type 0} (members_from : ℕ → D → List Param → List Member) (direction : D)
    (none_left : (from : ℕ) → members_from from direction [] ≡ [])
    (next : (from : ℕ) (p : Param) (ps : List Param) → members_from from direction (p ∷ ps)
    ≡ cond (not p.out) (required from p.ty p.name ∷ members_from (from + 1) direction ps) (members_from (from + 1) direction ps))
  where
    member_for : (from : ℕ) (ps : List Param) (k : ℕ) (p : Param) → slice_get (ins ps) k ≡ Some p
        → (m : Member) × (slice_get (members_from from direction ps) k ≡ Some m) × StandsFor m p
    member_for from [] k p found = absurd cc
    member_for from (q ∷ ps) k p found = rw (next from q ps) (by_test q.out k (λ j. member_for (from + 1) ps j p) found)
      where
        by_test : (out : Bool) (k : ℕ) → ((j : ℕ) → slice_get (ins ps) j ≡ Some p → (m : Member) × (slice_get (members_from (from + 1) direction ps) j ≡ Some m) × StandsFor m p)
            → slice_get (cond out (ins ps) (q ∷ ins ps)) k ≡ Some p
            → (m : Member) × (slice_get (cond (not out) (required from q.ty q.name ∷ members_from (from + 1) direction ps) (members_from (from + 1) direction ps)) k ≡ Some m) × StandsFor m p
        by_test true k later found = later k found
        by_test false zero later found = (required from q.ty q.name, refl, (ap (λ (r : Param). r.name) (some_is found), ap (λ (r : Param). r.ty) (some_is found)))
        by_test false (suc k) later found = later k found

    param_for : (from : ℕ) (ps : List Param) (k : ℕ) (m : Member) → slice_get (members_from from direction ps) k ≡ Some m
        → (p : Param) × (slice_get (ins ps) k ≡ Some p) × StandsFor m p
    param_for from [] k m found = absurd (nothing (subst (λ (ms : List Member). slice_get ms k ≡ Some m) (none_left from) found))
      where
        nothing : slice_get [] k ≡ Some m → ⊥
        nothing e = cc
    param_for from (q ∷ ps) k m found = by_test q.out k (λ j. param_for (from + 1) ps j m) (subst (λ (ms : List Member). slice_get ms k ≡ Some m) (next from q ps) found)
      where
        by_test : (out : Bool) (k : ℕ) → ((j : ℕ) → slice_get (members_from (from + 1) direction ps) j ≡ Some m → (p : Param) × (slice_get (ins ps) j ≡ Some p) × StandsFor m p)
            → slice_get (cond (not out) (required from q.ty q.name ∷ members_from (from + 1) direction ps) (members_from (from + 1) direction ps)) k ≡ Some m
            → (p : Param) × (slice_get (cond out (ins ps) (q ∷ ins ps)) k ≡ Some p) × StandsFor m p
        by_test true k later found = later k found
        by_test false zero later found = (q, refl, (ap (λ (r : Member). r.name) (sym (some_is found)), ap (λ (r : Member). r.ty) (sym (some_is found))))
        by_test false (suc k) later found = later k found

module _ (func : FuncDesc) where
  argument_for : (k : ℕ) (p : Param) → slice_get (ins func.params) k ≡ Some p → (m : Member) × (slice_get (arguments_of func) k ≡ Some m) × StandsFor m p
  argument_for k p found = member_for params_from _ (λ from. refl) (λ from p ps. refl) 1 func.params k p found

  param_of : (k : ℕ) (m : Member) → slice_get (arguments_of func) k ≡ Some m → (p : Param) × (slice_get (ins func.params) k ≡ Some p) × StandsFor m p
  param_of k m found = param_for params_from _ (λ from. refl) (λ from p ps. refl) 1 func.params k m found

  module _ (name : List ℕ) (place : ℕ) (P : Ty → Type 0) where
    pub named_from : (p : Param) → slice_get (ins func.params) place ≡ Some p → p.name ≡ name → P p.ty → NamedAt func name place P
    named_from p found named holds = let m = argument_for place p found in (m.0, m.1, m.2.0 ∙ named, subst P (sym m.2.1) holds)

    pub named_to : NamedAt func name place P → (p : Param) × (slice_get (ins func.params) place ≡ Some p) × (p.name ≡ name) × P p.ty
    named_to (m, found, named, holds) = let p = param_of place m found in (p.0, p.1, sym p.2.0 ∙ named, subst P p.2.1 holds)

-- ---- names

abbrev name_of : Param → List ℕ
name_of p = p.name

in_all : (P : List ℕ → Type 0) (ps : List Param) (k : ℕ) (p : Param) → All P (map name_of ps) → slice_get (ins ps) k ≡ Some p → P p.name
in_all P [] k p all found = absurd cc
in_all P (q ∷ ps) k p all found = by_test q.out k (λ j. in_all P ps j p (All-tail P q.name (map name_of ps) all)) found
  where
    by_test : (out : Bool) (k : ℕ) → ((j : ℕ) → slice_get (ins ps) j ≡ Some p → P p.name) → slice_get (cond out (ins ps) (q ∷ ins ps)) k ≡ Some p → P p.name
    by_test true k later found = later k found
    by_test false zero later found = subst (λ (r : Param). P r.name) (some_is found) (All-head P q.name (map name_of ps) all)
    by_test false (suc k) later found = later k found

one_in : (ps : List Param) (i j : ℕ) (a b : Param) → AllDiffer (map name_of ps) → slice_get (ins ps) i ≡ Some a → slice_get (ins ps) j ≡ Some b → a.name ≡ b.name → i ≡ j
one_in [] i j a b differ at_i at_j same = absurd cc
one_in (q ∷ ps) i j a b differ at_i at_j same = by_test q.out i j (λ m n left right. one_in ps m n a b differ.1 left right same) at_i at_j
  where
    by_test : (out : Bool) (i j : ℕ) → ((m n : ℕ) → slice_get (ins ps) m ≡ Some a → slice_get (ins ps) n ≡ Some b → m ≡ n)
        → slice_get (cond out (ins ps) (q ∷ ins ps)) i ≡ Some a → slice_get (cond out (ins ps) (q ∷ ins ps)) j ≡ Some b → i ≡ j
    by_test true i j later at_i at_j = later i j at_i at_j
    by_test false zero zero later at_i at_j = refl
    by_test false zero (suc j) later at_i at_j =
        absurd (in_all (λ other. other ≢ q.name) ps j b differ.0 at_j (sym same ∙ ap name_of (sym (some_is at_i))))
    by_test false (suc i) zero later at_i at_j =
        absurd (in_all (λ other. other ≢ q.name) ps i a differ.0 at_i (same ∙ ap name_of (sym (some_is at_j))))
    by_test false (suc i) (suc j) later at_i at_j = ap suc (later i j at_i at_j)

-- the parameters of one name are one
pub one_named : (func : FuncDesc) (name : List ℕ) (i j : ℕ) (P Q : Ty → Type 0) → AreParams func.params → NamedAt func name i P → NamedAt func name j Q → i ≡ j
one_named func name i j P Q params left right =
    let a = named_to func name i P left in
    let b = named_to func name j Q right in
    one_in func.params i j a.0 b.0 params.names_differ a.1 b.1 (a.2 ∙ sym b.2)

-- ---- the search

-- of all parameters these are left, so many that are not `out` come before them, and none of those has the name
pub record Sought (all left : List Param) (name : List ℕ) (place : ℕ) : Type 0 where
  pub back : (k : ℕ) (p : Param) → slice_get (ins left) k ≡ Some p → slice_get (ins all) (place + k) ≡ Some p
  pub forth : (n : ℕ) (p : Param) → slice_get (ins all) n ≡ Some p → p.name ≡ name → (k : ℕ) × (n ≡ place + k) × (slice_get (ins left) k ≡ Some p)
  pub few : place + length left ≤ length all

from_nothing : (n : ℕ) → n ≡ 0 + n
from_nothing n = omega arith

nothing_more : (n : ℕ) → n + 0 ≡ n
nothing_more n = omega arith

one_more : (n k : ℕ) → n + suc k ≡ (n + 1) + k
one_more n k = omega arith

pub sought_from : (all : List Param) (name : List ℕ) → Sought all all name 0
sought_from all name = record {
  back = λ k p found. subst (λ (n : ℕ). slice_get (ins all) n ≡ Some p) (from_nothing k) found;
  forth = λ n p found named. (n, from_nothing n, found);
  few = omega arith;
}

module _ (all left : List Param) (p : Param) (name : List ℕ) (place : ℕ) where
  ins_out : p.out ≡ true → ins (p ∷ left) ≡ ins left
  ins_out out = ap (λ (b : Bool). cond b (ins left) (p ∷ ins left)) out

  ins_in : p.out ≡ false → ins (p ∷ left) ≡ p ∷ ins left
  ins_in goes = ap (λ (b : Bool). cond b (ins left) (p ∷ ins left)) goes

  pub sought_out : p.out ≡ true → Sought all (p ∷ left) name place → Sought all left name place
  sought_out out s = record {
    back = λ k q found. s.back k q (subst (λ (qs : List Param). slice_get qs k ≡ Some q) (sym (ins_out out)) found);
    forth = λ n q found named. let f = s.forth n q found named in (f.0, f.1, subst (λ (qs : List Param). slice_get qs f.0 ≡ Some q) (ins_out out) f.2);
    few = let few = s.few in omega (arith, few);
  }

  pub found_here : p.out ≡ false → Sought all (p ∷ left) name place → slice_get (ins all) place ≡ Some p
  found_here goes s =
      subst (λ (n : ℕ). slice_get (ins all) n ≡ Some p) (nothing_more place)
      (s.back 0 p (subst (λ (qs : List Param). slice_get qs 0 ≡ Some p) (sym (ins_in goes)) refl))

  pub sought_other : p.out ≡ false → p.name ≢ name → Sought all (p ∷ left) name place → Sought all left name (place + 1)
  sought_other goes other s = record {
    back = λ k q found. subst (λ (n : ℕ). slice_get (ins all) n ≡ Some q) (one_more place k)
        (s.back (suc k) q (subst (λ (qs : List Param). slice_get qs (suc k) ≡ Some q) (sym (ins_in goes)) found));
    forth = λ n q found named. let f = s.forth n q found named in next n q f.0 f.1 named (subst (λ (qs : List Param). slice_get qs f.0 ≡ Some q) (ins_in goes) f.2);
    few = let few = s.few in omega (arith, few);
  }
    where
      next : (n : ℕ) (q : Param) (k : ℕ) → n ≡ place + k → q.name ≡ name → slice_get (p ∷ ins left) k ≡ Some q → (k : ℕ) × (n ≡ (place + 1) + k) × (slice_get (ins left) k ≡ Some q)
      next n q zero at named found = absurd (other (ap name_of (some_is found) ∙ named))
      next n q (suc k) at named found = (k, omega (arith, at), found)

pub not_there : (all left : List Param) (name : List ℕ) (place n : ℕ) (p : Param) → left ≡ [] → Sought all left name place → slice_get (ins all) n ≡ Some p → p.name ≡ name → ⊥
not_there all left name place n p none s found named =
    let f = s.forth n p found named in nothing f.0 (subst (λ (ps : List Param). slice_get (ins ps) f.0 ≡ Some p) none f.2)
  where
    nothing : (k : ℕ) → slice_get [] k ≡ Some p → ⊥
    nothing k e = cc

module _ (func : FuncDesc) (name : List ℕ) where
  -- the parameter that comes next has the name
  pub found_named : (items left : List Param) (p : Param) (place : ℕ) (bytes : List ℕ) → items ≡ func.params → Sought items (p ∷ left) name place
      → p.out ≡ false → bytes ≡ p.name → bytes_eq bytes name ≡ true → (slice_get (ins func.params) place ≡ Some p) × (p.name ≡ name)
  found_named items left p place bytes are s goes is same = (
    subst (λ (ps : List Param). slice_get (ins ps) place ≡ Some p) are (found_here items left p name place goes s),
    sym is ∙ (bytes_eq-Decides bytes name).0 same,
  )

  pub found_only : (p : Param) (here : ℕ) → AreParams func.params → slice_get (ins func.params) here ≡ Some p → p.name ≡ name
      → (place : ℕ) (t : Ty) → NamedAt func name place (λ taken. taken ≡ t) → (here ≡ place) × (p.ty ≡ t)
  found_only p here params found named place t at =
      let q = named_to func name place (λ taken. taken ≡ t) at in
      let same = one_in func.params here place p q.0 params.names_differ found q.1 (named ∙ sym q.2) in
      (same, ap (λ (r : Param). r.ty) (some_is (sym found ∙ subst (λ (n : ℕ). slice_get (ins func.params) n ≡ Some q.0) (sym same) q.1)) ∙ q.3)

  pub found_none : (items left : List Param) (place : ℕ) → items ≡ func.params → left ≡ [] → Sought items left name place
      → (n : ℕ) (t : Ty) → ¬ (NamedAt func name n (λ taken. taken ≡ t))
  found_none items left place are none s n t at =
      let q = named_to func name n (λ taken. taken ≡ t) at in
      not_there items left name place n q.0 none s (subst (λ (ps : List Param). slice_get (ins ps) n ≡ Some q.0) (sym are) q.1) q.2

-- the parameter that comes next has another name
pub named_other : (p : Param) (name bytes : List ℕ) → bytes ≡ p.name → bytes_eq bytes name ≡ false → p.name ≢ name
named_other p name bytes is other same = true≢false (sym ((bytes_eq-Decides bytes name).1 (is ∙ same)) ∙ other)
