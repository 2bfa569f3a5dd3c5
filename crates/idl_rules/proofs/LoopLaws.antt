-- One part more in a loop over parts.
use Rattle.std.proofs.Common.{◌≡◌, subst, ℕ, ◌+◌, ◌<◌, Option, List, [], ◌∷◌, ◌++◌, length, get_or, take, refl, sym, ap, ◌∙◌, append-nil, fold, map}
use Rattle.std.specs.List.{flat_map}
use Rattle.std.proofs.lemmas.Grind.{flat_map-append}
use Rattle.std.proofs.lemmas.List.{take_more, map-append}
use Rattle.least_fault.specs.Conditions.{Condition, found_after}
use Rattle.least_fault.specs.Least.{Notes}
use Rattle.least_fault.proofs.Together.{notes_next}
use Rattle.idl_parse.specs.declared.tree.func.ParamTree.{ParamTree}
use Rattle.idl_parse.specs.declared.tree.type_tree.TypeTree.{TypeTree}
use Rattle.idl_scene.specs.Faults.{is_below}
use Rattle.idl_scene.specs.Known.{Scene}
use Rattle.idl_scene.specs.declared.check_fault.Fault.{Fault}
use Rattle.idl_scene.proofs.FaultLaws.{order, noted_both}
use Rattle.idl_rules.specs.JudgeSteps.{type_faults, types_faults, list_faults, lists_faults, param_faults, params_faults}
use Rattle.idl_rules.specs.Parts.{NameList}

pub next_part : {A : Type 0} (xs : List A) (i : ℕ) (x : A) → i < length xs → x ≡ get_or xs i x → take (i + 1) xs ≡ take i xs ++ x ∷ []
next_part xs i x within is = take_more xs i x within ∙ ap (λ e. take i xs ++ (e ∷ [])) (sym is)

pub map_more : {A B : Type 0} (f : A → B) (xs : List A) (i : ℕ) (x : A) → i < length xs → x ≡ get_or xs i x → map f (take (i + 1) xs) ≡ map f (take i xs) ++ f x ∷ []
map_more f xs i x within is = ap (map f) (next_part xs i x within is) ∙ map-append f (take i xs) (x ∷ [])

fold_next : {A B : Type 0} (f : B → A → B) (start : B) (xs : List A) (x : A) → fold f start (xs ++ x ∷ []) ≡ f (fold f start xs) x
fold_next f start [] x = refl
fold_next f start (y ∷ xs) x = fold_next f (f start y) xs x

-- what a loop keeps by a fold
pub fold_more : {A B : Type 0} (f : B → A → B) (start : B) (xs : List A) (i : ℕ) (x : A) → i < length xs → x ≡ get_or xs i x → fold f start (take (i + 1) xs) ≡ f (fold f start (take i xs)) x
fold_more f start xs i x within is = ap (fold f start) (next_part xs i x within is) ∙ fold_next f start (take i xs) x

module _ {A : Type 0} {old mid new : Option Fault} (xs : List A) (i : ℕ) (x : A) (within : i < length xs) (is : x ≡ get_or xs i x) where
  -- what a condition finds
  pub found_more : (condition : Condition A Fault) → Notes is_below old mid (found_after condition [] (take i xs)) → Notes is_below mid new (condition (take i xs) x) → Notes is_below old new (found_after condition [] (take (i + 1) xs))
  found_more condition so_far here = subst (λ l. Notes is_below old new (found_after condition [] l)) (sym (next_part xs i x within is)) (notes_next is_below order condition (take i xs) x so_far here)

  -- what is found in each part
  pub flat_more : (f : A → List Fault) → Notes is_below old mid (flat_map f (take i xs)) → Notes is_below mid new (f x) → Notes is_below old new (flat_map f (take (i + 1) xs))
  flat_more f so_far here =
      subst (λ l. Notes is_below old new l)
      (ap (λ l. flat_map f (take i xs) ++ l) (sym (append-nil (f x))) ∙ sym (flat_map-append f (take i xs) (x ∷ [])) ∙ ap (flat_map f) (sym (next_part xs i x within is)))
      (noted_both so_far here)

  -- what is found in the types of each part
  pub types_more : (s : Scene) (f : A → List TypeTree) → Notes is_below old mid (types_faults s (flat_map f (take i xs))) → Notes is_below mid new (types_faults s (f x)) → Notes is_below old new (types_faults s (flat_map f (take (i + 1) xs)))
  types_more s f so_far here =
      subst (λ l. Notes is_below old new l)
      (sym (flat_map-append (type_faults s) (flat_map f (take i xs)) (f x))
      ∙ ap (types_faults s) (ap (λ l. flat_map f (take i xs) ++ l) (sym (append-nil (f x))) ∙ sym (flat_map-append f (take i xs) (x ∷ [])) ∙ ap (flat_map f) (sym (next_part xs i x within is))))
      (noted_both so_far here)

  -- what is found in a list of names of each part
  pub lists_more : (s : Scene) (f : A → NameList) → Notes is_below old mid (lists_faults s (map f (take i xs))) → Notes is_below mid new (list_faults s (f x)) → Notes is_below old new (lists_faults s (map f (take (i + 1) xs)))
  lists_more s f so_far here =
      subst (λ l. Notes is_below old new l)
      (ap (λ l. lists_faults s (map f (take i xs)) ++ l) (sym (append-nil (list_faults s (f x)))) ∙ sym (flat_map-append (list_faults s) (map f (take i xs)) (f x ∷ [])) ∙ ap (lists_faults s) (sym (map_more f xs i x within is)))
      (noted_both so_far here)

  -- what is found in the parameters of each part
  pub params_more : (s : Scene) (f : A → List ParamTree) → Notes is_below old mid (params_faults s (flat_map f (take i xs))) → Notes is_below mid new (params_faults s (f x)) → Notes is_below old new (params_faults s (flat_map f (take (i + 1) xs)))
  params_more s f so_far here =
      subst (λ l. Notes is_below old new l)
      (sym (flat_map-append (param_faults s) (flat_map f (take i xs)) (f x))
      ∙ ap (params_faults s) (ap (λ l. flat_map f (take i xs) ++ l) (sym (append-nil (f x))) ∙ sym (flat_map-append f (take i xs) (x ∷ [])) ∙ ap (flat_map f) (sym (next_part xs i x within is))))
      (noted_both so_far here)
