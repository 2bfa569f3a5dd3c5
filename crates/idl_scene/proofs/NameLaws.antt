-- What is found in the table of names is what is found in the list of its entries.
use Rattle.std.proofs.Common.{◌≡◌, ℕ, Bool, true, false, cond, ◌&&◌, Option, Some, None, List, [], ◌∷◌, ◌++◌, map, refl, ap, ◌∙◌}
use Rattle.std.proofs.lemmas.List.{map-append}
use Rattle.std.specs.Str.{bytes_eq}
use Rattle.std.specs.Borrow.{Bor}
use Rattle.std.specs.Map.{lookup}
use Rattle.std.specs.Option.{option_copied}
use Rattle.idl_scene.specs.Known.{Known, Meaning, find}
use Rattle.idl_scene.specs.KnownSteps.{meant, kept_meaning, known_entry}
use Rattle.idl_scene.specs.declared.known.Key.{Key}
use Rattle.idl_scene.specs.declared.known.Meaning.{Meaning as Kept}

abbrev pub known_of : Key × Kept → Known
known_of e = known_entry e.0.home.now e.0.name.now e.1

abbrev pub meant_now : Option Kept → Option Meaning
meant_now None = None
meant_now (Some kept) = Some (kept_meaning kept)

pub meant_copied : (o : Option (Bor Kept)) → meant o ≡ meant_now (option_copied o)
meant_copied None = refl
meant_copied (Some k) = refl

chosen : (b : Bool) (x : Kept) (o : Option Kept) (p : Option Meaning) → meant_now o ≡ p → meant_now (cond b (Some x) o) ≡ cond b (Some (kept_meaning x)) p
chosen true x o p e = refl
chosen false x o p e = e

pub found_in_table : (home name : List ℕ) (test : Key → Bool) → ((k : Key) → test k ≡ (bytes_eq home k.home.now && bytes_eq name k.name.now)) → (entries : List (Key × Kept))
    → meant_now (lookup test entries) ≡ find home name (map known_of entries)
found_in_table home name test same [] = refl
found_in_table home name test same (e ∷ entries) =
    chosen (test e.0) e.1 (lookup test entries) _ (found_in_table home name test same entries)
    ∙ ap (λ b. cond b (Some (kept_meaning e.1)) (find home name (map known_of entries))) (same e.0)

no_meaning : (o : Option Kept) → meant_now o ≡ None → o ≡ None
no_meaning None e = refl
no_meaning (Some x) e = cc

-- a name that is not found is not in the table
pub absent_in_table : (home name : List ℕ) (test : Key → Bool) → ((k : Key) → test k ≡ (bytes_eq home k.home.now && bytes_eq name k.name.now)) → (entries : List (Key × Kept))
    → find home name (map known_of entries) ≡ None → lookup test entries ≡ None
absent_in_table home name test same entries e = no_meaning (lookup test entries) (found_in_table home name test same entries ∙ e)

-- one entry more
pub known_next : (entries all : List (Key × Kept)) (e : Key × Kept) (known : List Known) → map known_of entries ≡ known → all ≡ entries ++ e ∷ [] → map known_of all ≡ known ++ known_of e ∷ []
known_next entries all e known is more = ap (map known_of) more ∙ map-append known_of entries (e ∷ []) ∙ ap (λ l. l ++ known_of e ∷ []) is
