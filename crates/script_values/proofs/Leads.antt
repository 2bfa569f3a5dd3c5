-- How the values that were read and the text that is left lead to all arguments.
use Rattle.std.proofs.Common.{◌≡◌, ◌≤◌, ℕ, true, List, [], ◌∷◌, ◌++◌, length, refl, sym, ap, subst, ◌∙◌, append_assoc, append-nil, arith}
use Rattle.std.specs.List.{list_all}
use Rattle.std.proofs.lemmas.Bool.{and_from}
use Rattle.std.proofs.lemmas.List.Folds.{list_all-append}
use Rattle.tars_model.specs.Declarations.{Declared}
use Rattle.tars_model.specs.Values.{fits, fit_members}
use Rattle.tars_model.specs.declared.member.Member.{Member}
use Rattle.tars_model.specs.declared.ty.Ty.{Ty}
use Rattle.tars_model.specs.declared.value.Value.{Value}
use Rattle.value_text.specs.Printed.{has_bytes}
use Rattle.value_text.specs.Spelling.{Spells}
use Rattle.script_values.specs.Args.{past_spaces, IsApart, SaysArgs}

-- values were read of the text for the first members, and the rest of it is to say the values of those that are left
pub record Leads (d : Declared) (members left : List Member) (text rest : List ℕ) (values : List Value) : Type 0 where
  pub back : (more : List Value) → SaysArgs d left more rest → SaysArgs d members (values ++ more) text
  pub forth : (all : List Value) → SaysArgs d members all text → (more : List Value) × (all ≡ values ++ more) × SaysArgs d left more rest
  pub fit : (more : List Value) → fit_members d left more ≡ true → fit_members d members (values ++ more) ≡ true
  pub short : length rest ≤ length text

pub leads_from : (d : Declared) (members : List Member) (text : List ℕ) → Leads d members members text text []
leads_from d members text = record {
  back = λ more says. says;
  forth = λ all says. (all, refl, says);
  fit = λ more fit. fit;
  short = omega arith;
}

-- a text begins with one value of a type at most
abbrev pub OneValue : Type 0
OneValue = (d : Declared) (t : Ty) (text r s : List ℕ) (v w : Value) → Spells d t v text r → Spells d t w text s → (v ≡ w) × (r ≡ s)

module _ (one : OneValue) (d : Declared) (members ms : List Member) (m : Member) (text rest after : List ℕ) (values : List Value) (v : Value) where
  -- the next value was read
  pub leads_next : Leads d members (m ∷ ms) text rest values → Spells d m.ty v (past_spaces rest) after → IsApart after → fits d m.ty v ≡ true
      → length after ≤ length rest → Leads d members ms text after (values ++ v ∷ [])
  leads_next leads spells apart fit less = record {
    back = λ more says. subst (λ (all : List Value). SaysArgs d members all text) (sym (append_assoc values (v ∷ []) more)) (leads.back (v ∷ more) (after, spells, apart, says));
    forth = λ all says. let f = leads.forth all says in next f.0 f.1 f.2;
    fit = λ more fits. subst (λ (all : List Value). fit_members d members all ≡ true) (sym (append_assoc values (v ∷ []) more)) (leads.fit (v ∷ more) (and_from _ _ fit fits));
    short = let before = leads.short in omega (arith, before, less);
  }
    where
      next : {all : List Value} (more : List Value) → all ≡ values ++ more → SaysArgs d (m ∷ ms) more rest → (ws : List Value) × (all ≡ (values ++ v ∷ []) ++ ws) × SaysArgs d ms ws after
      next [] same says = absurd says
      next (w ∷ ws) same says =
          let is = one d m.ty (past_spaces rest) after says.0 v w spells says.1 in
          (ws, same ∙ ap (λ (x : Value). values ++ x ∷ ws) (sym is.0) ∙ sym (append_assoc values (v ∷ []) ws), subst (SaysArgs d ms ws) (sym is.1) says.3)

-- the value that comes next, where a text is the same as another
pub one_next : OneValue → (d : Declared) (t : Ty) (text from r s : List ℕ) (v w : Value) → text ≡ from → Spells d t v text r → Spells d t w from s → (v ≡ w) × (r ≡ s)
one_next one d t text from r s v w same first other = one d t text r s v w first (subst (λ (x : List ℕ). Spells d t w x s) (sym same) other)

module _ (d : Declared) (members left : List Member) (text rest : List ℕ) (values : List Value) where
  -- no member is left, and nothing but spaces
  pub says_all : Leads d members left text rest values → left ≡ [] → past_spaces rest ≡ [] → SaysArgs d members values text
  says_all leads none blank =
      subst (λ (all : List Value). SaysArgs d members all text) (append-nil values)
      (leads.back [] (subst (λ (ms : List Member). SaysArgs d ms [] rest) (sym none) blank))

  pub fits_all : Leads d members left text rest values → left ≡ [] → fit_members d members values ≡ true
  fits_all leads none =
      subst (λ (all : List Value). fit_members d members all ≡ true) (append-nil values)
      (leads.fit [] (subst (λ (ms : List Member). fit_members d ms [] ≡ true) (sym none) refl))

-- the texts of the next value are bytes too
pub bytes_next : (values : List Value) (v : Value) → list_all has_bytes values ≡ true → has_bytes v ≡ true → list_all has_bytes (values ++ v ∷ []) ≡ true
bytes_next values v before this = list_all-append has_bytes values (v ∷ []) ∙ and_from _ _ before (and_from _ _ this refl)
