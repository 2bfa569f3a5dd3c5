-- Three interfaces may be declared, one after the other.
use Rattle.std.proofs.Common.{◌≡◌, ◌≢◌, ◌<◌, ◌++◌, ◌||◌, ℕ, Bool, true, false, get_or, List, [], ◌∷◌, length, refl, sym, ap, subst, arith, codes, length-append}
use Rattle.std.specs.Prelude.{not, ◌==◌}
use Rattle.std.specs.Char.{is_ascii_alphabetic, is_ascii_alphanumeric}
use Rattle.std.specs.List.{All, list_all}
use Rattle.std.proofs.lemmas.List.Elements.{All-nil, All-weaker, All-from_recursion}
use Rattle.std.proofs.lemmas.Bool.{eqb-false}
use Rattle.std.proofs.lemmas.List.Sums.{AllPass-from_list_all}
use Rattle.tars_model.specs.Declarations.{Declared, nothing_declared, with_interface}
use Rattle.tars_model.specs.Names.{IsName, keywords}
use Rattle.tars_model.specs.Schemas.{InterfaceFits, FuncFits, declared_names}
use Rattle.law_tables.specs.Interfaces.{plain_interface}

-- of another length than a letter's
abbrev is_longer : List ℕ → Bool
is_longer word = not (length word == 1)

unlike : (b : ℕ) (keyword : List ℕ) → is_longer keyword ≡ true → b ∷ [] ≢ keyword
unlike b keyword longer is = false_true (subst (λ (word : List ℕ). is_longer word ≡ true) (sym is) longer)
  where
    false_true : false ≡ true → ⊥
    false_true e = absurd cc

-- a letter is a name
letter_name : (b : ℕ) → is_ascii_alphabetic b ≡ true → list_all (λ b. is_ascii_alphanumeric b || b == 95) (b ∷ []) ≡ true → IsName (b ∷ [])
letter_name b letter bytes = record {
  identifier = record {
    letter = letter;
    bytes = bytes;
    no_keyword = All-weaker (λ keyword. is_longer keyword ≡ true) (λ keyword. b ∷ [] ≢ keyword) (unlike b) keywords (AllPass-from_list_all is_longer keywords refl);
  };
  not_reserved = λ before after is.
      let lengths : 1 ≡ length (before ++ (codes "tars_" ++ after)) = ap (λ (word : List ℕ). length word) is in
      let sizes = simp length-append at lengths in absurd (omega arith);
}

module_name : IsName (codes "M")
module_name = letter_name 77 refl refl

-- a letter as a name in the module
abbrev in_module : ℕ → List ℕ × List ℕ
in_module b = (codes "M", b ∷ [])

-- a declared name is another
abbrev Unlike : ℕ → List ℕ × List ℕ → Type 0
Unlike b declared = declared ≢ in_module b

plain_fits : (d : Declared) (b : ℕ) → IsName (b ∷ []) → All (Unlike b) (declared_names d) → length d.interfaces < 256 → InterfaceFits d (plain_interface (b ∷ []))
plain_fits d b name unused room = record {
  name = record { home_is_name = module_name; is_name = name; is_new = unused };
  funcs = All-nil (FuncFits d);
  names_differ = tt;
  few = omega arith;
  room = room;
}

pub first_fits : (d : Declared) → d ≡ nothing_declared → InterfaceFits d (plain_interface (codes "A"))
first_fits d is = subst (λ (d : Declared). InterfaceFits d (plain_interface (codes "A"))) (sym is) (plain_fits nothing_declared 65 (letter_name 65 refl refl) (All-nil _) (omega arith))

-- a schema with one interface more
abbrev with_plain : Declared → List ℕ → Declared
with_plain d name = with_interface d (plain_interface name)

abbrev one_declared : Declared
one_declared = with_plain nothing_declared (codes "A")

abbrev two_declared : Declared
two_declared = with_plain one_declared (codes "B")

apart : (a b : ℕ) → (a == b) ≡ false → in_module a ≢ in_module b
apart a b differ e = eqb-false a b differ (ap (λ (name : List ℕ × List ℕ). get_or name.1 0 0) e)

second : InterfaceFits one_declared (plain_interface (codes "B"))
second = plain_fits one_declared 66 (letter_name 66 refl refl) (All-from_recursion (Unlike 66) (declared_names one_declared) (apart 65 66 refl, tt)) (omega arith)

third : InterfaceFits two_declared (plain_interface (codes "C"))
third = plain_fits two_declared 67 (letter_name 67 refl refl) (All-from_recursion (Unlike 67) (declared_names two_declared) (apart 65 67 refl, (apart 66 67 refl, tt))) (omega arith)

pub second_fits : (d e : Declared) → d ≡ nothing_declared → e ≡ with_plain d (codes "A") → InterfaceFits e (plain_interface (codes "B"))
second_fits d e is added = rw (added, is) second

pub third_fits : (d e f : Declared) → d ≡ nothing_declared → e ≡ with_plain d (codes "A") → f ≡ with_plain e (codes "B") → InterfaceFits f (plain_interface (codes "C"))
third_fits d e f is added again = rw (again, added, is) third
