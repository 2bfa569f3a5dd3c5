-- A text that is written piece by piece: what was written, and what is still owed.
use Rattle.std.proofs.Common.{◌≡◌, ℕ, List, [], ◌++◌, take, drop, Option, refl, sym, ap, ◌∙◌, subst, append_assoc, append-nil, take-append-drop}
use Rattle.std.proofs.KnownBytes.{Appends-nil, Appends-trans, Appends-kept}
use Rattle.tars_base.specs.Contents.{Appends, Keeps, AppendsPrefix}

-- some prefix of the text was appended, and the rest is owed
pub record Owes (old now : Option (List ℕ)) (text rest : List ℕ) : Type 0 where
  pub prefix : List ℕ
  pub split : prefix ++ rest ≡ text
  pub grown : Appends old now prefix

pub owes_all : (old : Option (List ℕ)) (text : List ℕ) → Owes old old text text
owes_all old text = record { prefix = []; split = refl; grown = Appends-nil old }

pub owes_less : (old now next : Option (List ℕ)) (text rest : List ℕ) (n : ℕ) → Owes old now text rest → Appends now next (take n rest) → Owes old next text (drop n rest)
owes_less old now next text rest n owes more = record {
  prefix = owes.prefix ++ take n rest;
  split = append_assoc owes.prefix (take n rest) (drop n rest) ∙ ap (λ l. owes.prefix ++ l) (take-append-drop n rest) ∙ owes.split;
  grown = Appends-trans old now next owes.prefix (take n rest) owes.grown more;
}

pub owes_nothing : (old now : Option (List ℕ)) (text : List ℕ) → Owes old now text [] → Appends old now text
owes_nothing old now text owes =
    subst (λ (l : List ℕ). Appends old now l) (sym (append-nil owes.prefix) ∙ owes.split) owes.grown

pub owes_rest : (old now next : Option (List ℕ)) (text rest : List ℕ) → Owes old now text rest → Keeps now next → AppendsPrefix old next text
owes_rest old now next text rest owes kept =
    (owes.prefix, rest, owes.split, Appends-kept old now next owes.prefix owes.grown kept)
