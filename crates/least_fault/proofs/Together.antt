-- All conditions at one item after the other find the same least fault as one condition after the other.
use Rattle.std.proofs.Common.{◌≡◌, subst, cond, true, false, Bool, Option, Some, None, List, [], ◌∷◌, ◌++◌, refl, sym, ap, ◌∙◌}
use Rattle.least_fault.specs.Conditions.{Condition, found_after, found_by, together}
use Rattle.least_fault.specs.Least.{IsOrder, lesser, least_of, Notes}
use Rattle.least_fault.proofs.Lesser.{lesser_none, lesser_assoc, lesser_across, least_append, none_empty}
use Rattle.least_fault.proofs.Walks.{found_next}

module _ {Item Fault : Type 0} (below : Fault → Fault → Bool) (order : IsOrder below) where
  nothing_found : (before items : List Item) → found_after {Fault = Fault} (together []) before items ≡ []
  nothing_found before [] = refl
  nothing_found before (item ∷ items) = nothing_found (before ++ item ∷ []) items

  one_apart : (c : Condition Item Fault) (cs : List (Condition Item Fault)) (before items : List Item)
      → least_of below (found_after (together (c ∷ cs)) before items) ≡ lesser below (least_of below (found_after c before items)) (least_of below (found_after (together cs) before items))
  one_apart c cs before [] = refl
  one_apart c cs before (item ∷ items) =
      least_append below order (c before item ++ together cs before item) (found_after (together (c ∷ cs)) (before ++ item ∷ []) items)
      ∙ ap (λ o. lesser below o (least_of below (found_after (together (c ∷ cs)) (before ++ item ∷ []) items))) (least_append below order (c before item) (together cs before item))
      ∙ ap (lesser below (lesser below (least_of below (c before item)) (least_of below (together cs before item)))) (one_apart c cs (before ++ item ∷ []) items)
      ∙ lesser_across below order (least_of below (c before item)) (least_of below (together cs before item)) (least_of below (found_after c (before ++ item ∷ []) items)) (least_of below (found_after (together cs) (before ++ item ∷ []) items))
      ∙ ap (λ o. lesser below o (lesser below (least_of below (together cs before item)) (least_of below (found_after (together cs) (before ++ item ∷ []) items)))) (sym (least_append below order (c before item) (found_after c (before ++ item ∷ []) items)))
      ∙ ap (lesser below (least_of below (found_after c before (item ∷ items)))) (sym (least_append below order (together cs before item) (found_after (together cs) (before ++ item ∷ []) items)))

  pub least_together : (conditions : List (Condition Item Fault)) (items : List Item) → least_of below (found_by conditions items) ≡ least_of below (found_after (together conditions) [] items)
  least_together [] items = ap (least_of below) (sym (nothing_found [] items))
  least_together (c ∷ cs) items =
      least_append below order (found_after c [] items) (found_by cs items)
      ∙ ap (lesser below (least_of below (found_after c [] items))) (least_together cs items)
      ∙ sym (one_apart c cs [] items)

-- ---- a running least

module _ {Fault : Type 0} (below : Fault → Fault → Bool) (order : IsOrder below) where
  pub notes_nothing : (old : Option Fault) → Notes below old old []
  notes_nothing old = record { kept = sym (lesser_none below old) }

  pub notes_both : {old mid new : Option Fault} {xs ys : List Fault} → Notes below old mid xs → Notes below mid new ys → Notes below old new (xs ++ ys)
  notes_both {old} {mid} {new} {xs} {ys} one two = record {
    kept = two.kept ∙ ap (λ o. lesser below o (least_of below ys)) one.kept ∙ lesser_assoc below order old (least_of below xs) (least_of below ys) ∙ ap (lesser below old) (sym (least_append below order xs ys));
  }

  none_kept : (old : Option Fault) (o : Option Fault) → lesser below old o ≡ None → (old ≡ None) × (o ≡ None)
  none_kept None o e = (refl, e)
  none_kept (Some x) None e = cc
  none_kept (Some x) (Some y) e = by_test (below y x) e
    where
      by_test : (b : Bool) → cond b (Some y) (Some x) ≡ None → (Some x ≡ None) × (Some y ≡ None)
      by_test true e = cc
      by_test false e = cc

  -- where the running least stays None, nothing was found
  pub nothing_noted : {old new : Option Fault} {found : List Fault} → Notes below old new found → new ≡ None → (old ≡ None) × (found ≡ [])
  nothing_noted {old} {new} {found} notes e =
      let p = none_kept old (least_of below found) (sym notes.kept ∙ e) in
      (p.0, none_empty below order found p.1)

module _ {Item Fault : Type 0} (below : Fault → Fault → Bool) (order : IsOrder below) where
  -- one item more of a walk
  pub notes_next : {old mid new : Option Fault} (condition : Condition Item Fault) (items : List Item) (item : Item) → Notes below old mid (found_after condition [] items) → Notes below mid new (condition items item) → Notes below old new (found_after condition [] (items ++ item ∷ []))
  notes_next {old} {mid} {new} condition items item one two =
      subst (λ f. Notes below old new f) (sym (found_next condition [] items item)) (notes_both below order one two)
