-- Links by their nodes, and what becomes of one where another changes.
use Rattle.std.proofs.Common.{◌≡◌, ◌⊎◌, inl, inr, ℕ, zero, suc, pred, List, [], ◌∷◌, Some, refl, sym, ap, ◌∙◌, subst}
use Rattle.std.specs.Prelude.{slice_get}
use Rattle.run_course.specs.Courses.{Link, link_of, at_node, changed_at}
use Rattle.run_course.proofs.Lists.{same_or_other, some_same, none_some}

-- the link of a node, before and after that of a node changed
pub data Changed (j k : ℕ) (change : Link → Link) (link : Link) : Link → Type 0 where
  this : j ≡ k → Changed j k change link (change link)
  another : (j ≡ k → ⊥) → Changed j k change link link

place_on : (k j : ℕ) (change : Link → Link) (links : List Link) (link : Link) → slice_get links j ≡ Some link
    → (next : Link) × (slice_get (changed_at k change links) j ≡ Some next) × Changed (suc j) (suc k) change link next
place_on k j change [] link e = absurd (none_some link e)
place_on zero zero change (first ∷ links) link e = (change link, ap (λ l. Some (change l)) (some_same first link e), this refl)
place_on zero (suc j) change (first ∷ links) link e = (link, e, another (λ same. cc same))
place_on (suc k) zero change (first ∷ links) link e = (link, e, another (λ same. cc same))
place_on (suc k) (suc j) change (first ∷ links) link e = go (place_on k j change links link e)
  where
    deeper : (next : Link) → Changed (suc j) (suc k) change link next → Changed (suc (suc j)) (suc (suc k)) change link next
    deeper next (this same) = this (ap suc same)
    deeper next (another other) = another (λ same. other (ap pred same))

    go : ((next : Link) × (slice_get (changed_at k change links) j ≡ Some next) × Changed (suc j) (suc k) change link next)
        → (next : Link) × (slice_get (changed_at k change links) j ≡ Some next) × Changed (suc (suc j)) (suc (suc k)) change link next
    go found = (found.0, found.1, deeper found.0 found.2)

pub link_on : (k j : ℕ) (change : Link → Link) (links : List Link) (link : Link) → link_of j links ≡ Some link
    → (next : Link) × (link_of j (at_node k change links) ≡ Some next) × Changed j k change link next
link_on k zero change links link e = absurd (none_some link e)
link_on zero (suc j) change links link e = (link, e, another (λ same. cc same))
link_on (suc k) (suc j) change links link e = place_on k j change links link e

place_back : (k j : ℕ) (change : Link → Link) (links : List Link) (next : Link) → slice_get (changed_at k change links) j ≡ Some next
    → (link : Link) × (slice_get links j ≡ Some link)
place_back k j change [] next e = absurd (none_some next e)
place_back zero zero change (first ∷ links) next e = (first, refl)
place_back zero (suc j) change (first ∷ links) next e = (next, e)
place_back (suc k) zero change (first ∷ links) next e = (first, refl)
place_back (suc k) (suc j) change (first ∷ links) next e = place_back k j change links next e

pub link_back : (k j : ℕ) (change : Link → Link) (links : List Link) (next : Link) → link_of j (at_node k change links) ≡ Some next
    → (link : Link) × (link_of j links ≡ Some link)
link_back k zero change links next e = absurd (none_some next e)
link_back zero (suc j) change links next e = (next, e)
link_back (suc k) (suc j) change links next e = place_back k j change links next e

-- something holds of each link, by its node
abbrev pub Each : (ℕ → Link → Type 0) → List Link → Type 0
Each P links = (j : ℕ) (link : Link) → link_of j links ≡ Some link → P j link

-- and goes over where the changed one gets it
pub each_goes : (P Q : ℕ → Link → Type 0) (k : ℕ) (change : Link → Link) (links : List Link) → Each P links
    → ((j : ℕ) (link : Link) → (j ≡ k → ⊥) → P j link → Q j link) → ((link : Link) → link_of k links ≡ Some link → P k link → Q k (change link)) → Each Q (at_node k change links)
each_goes P Q k change links each others here j next e = go (link_back k j change links next e)
  where
    by_case : (link after : Link) → link_of j links ≡ Some link → Changed j k change link after → Q j after
    by_case link after found (this same) = subst (λ i. Q i (change link)) (sym same) (here link (subst (λ i. link_of i links ≡ Some link) same found) (subst (λ i. P i link) same (each j link found)))
    by_case link after found (another other) = others j link other (each j link found)

    moved : (link : Link) → link_of j links ≡ Some link → ((after : Link) × (link_of j (at_node k change links) ≡ Some after) × Changed j k change link after) → Q j next
    moved link found on = subst (λ (l : Link). Q j l) (some_same on.0 next (sym on.1 ∙ e)) (by_case link on.0 found on.2)

    go : ((link : Link) × (link_of j links ≡ Some link)) → Q j next
    go found = moved found.0 found.1 (link_on k j change links found.0 found.1)

pub each_kept : (P : ℕ → Link → Type 0) (k : ℕ) (change : Link → Link) (links : List Link) → Each P links
    → ((link : Link) → P k link → P k (change link)) → Each P (at_node k change links)
each_kept P k change links each here = each_goes P P k change links each (λ j link other p. p) (λ link found p. here link p)

-- the changed link, and the others
place_here : (k : ℕ) (change : Link → Link) (links : List Link) (link : Link) → slice_get links k ≡ Some link → slice_get (changed_at k change links) k ≡ Some (change link)
place_here k change [] link e = absurd (none_some link e)
place_here zero change (first ∷ links) link e = ap (λ l. Some (change l)) (some_same first link e)
place_here (suc k) change (first ∷ links) link e = place_here k change links link e

pub link_here : (k : ℕ) (change : Link → Link) (links : List Link) (link : Link) → link_of k links ≡ Some link → link_of k (at_node k change links) ≡ Some (change link)
link_here zero change links link e = absurd (none_some link e)
link_here (suc k) change links link e = place_here k change links link e

place_there : (k j : ℕ) (change : Link → Link) (links : List Link) → (j ≡ k → ⊥) → slice_get (changed_at k change links) j ≡ slice_get links j
place_there k j change [] other = refl
place_there zero zero change (first ∷ links) other = absurd (other refl)
place_there zero (suc j) change (first ∷ links) other = refl
place_there (suc k) zero change (first ∷ links) other = refl
place_there (suc k) (suc j) change (first ∷ links) other = place_there k j change links (λ same. other (ap suc same))

pub link_there : (k j : ℕ) (change : Link → Link) (links : List Link) → (j ≡ k → ⊥) → link_of j (at_node k change links) ≡ link_of j links
link_there zero j change links other = refl
link_there (suc k) zero change links other = refl
link_there (suc k) (suc j) change links other = place_there k j change links (λ same. other (ap suc same))

-- one link in the place of another
pub each_put : (P Q : ℕ → Link → Type 0) (k : ℕ) (was old new : Link) (links : List Link) → link_of k links ≡ Some was → Each P (at_node k (λ l. old) links)
    → ((j : ℕ) (link : Link) → P j link → Q j link) → (P k old → Q k new) → Each Q (at_node k (λ l. new) links)
each_put P Q k was old new links found each others here j next e = go (same_or_other j k)
  where
    go : (j ≡ k) ⊎ (j ≡ k → ⊥) → Q j next
    go (inl same) =
        subst (λ (l : Link). Q j l) (some_same new next (sym (link_here k (λ l. new) links was found) ∙ subst (λ i. link_of i (at_node k (λ l. new) links) ≡ Some next) same e))
        (subst (λ i. Q i new) (sym same) (here (each k old (link_here k (λ l. old) links was found))))
    go (inr other) = others j next (each j next (link_there k j (λ l. old) links other ∙ (sym (link_there k j (λ l. new) links other) ∙ e)))
