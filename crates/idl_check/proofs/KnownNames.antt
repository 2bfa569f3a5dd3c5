-- What is known of names while declarations that may be made follow each other: no name but those that are declared, and
-- of each struct the names of its members.
use Rattle.std.proofs.Common.{◌≡◌, ◌≢◌, ◌<◌, ℕ, Bool, true, false, ◌&&◌, cond, Option, Some, None, is_some, List, [], ◌∷◌, ◌++◌, length, map, refl, sym, ap, ◌∙◌, subst}
use Rattle.std.specs.List.{AllByRecursion}
use Rattle.std.specs.Prelude.{slice_get}
use Rattle.std.specs.Str.{bytes_eq}
use Rattle.tars_model.specs.Declarations.{Declared, nothing_declared, with_struct, with_enum, with_const, with_interface, members_at, struct_members}
use Rattle.tars_model.specs.Schemas.{declared_names}
use Rattle.tars_model.specs.declared.const_desc.ConstDesc.{ConstDesc}
use Rattle.tars_model.specs.declared.enum_desc.EnumDesc.{EnumDesc}
use Rattle.tars_model.specs.declared.interface_desc.InterfaceDesc.{InterfaceDesc}
use Rattle.tars_model.specs.declared.member.Member.{Member}
use Rattle.tars_model.specs.declared.struct_desc.StructDesc.{StructDesc}
use Rattle.idl_lex.specs.declared.span.Span.{Span}
use Rattle.idl_scene.specs.Items.{word}
use Rattle.idl_scene.specs.Known.{Meaning, a_struct, an_enum, no_type, Known, Scene, find, is_struct, is_enum, members_of, each_once}
use Rattle.idl_scene.specs.Types.{is_type}
use Rattle.idl_rules.specs.Conditions.{known_with}
use Rattle.idl_schema.specs.Agreement.{MeansIn, struct_meant, enum_meant, no_type_meant, Agrees}
use Rattle.idl_schema.specs.SchemaOf.{struct_number, enum_number}
use Rattle.idl_schema.proofs.Growing.{or_new, find_more, get_kept, get_new}
use Rattle.idl_schema.proofs.Parts.{each_append, each_parts, each_mapped, each_of_map}
use Rattle.idl_check.proofs.Numbered.{Name, EachName, each_name, same_name, other_name, struct_names, enum_names, const_names, interface_names, struct_number_more}

-- the names of a struct's members
abbrev pub member_names : Declared → ℕ → List (List ℕ)
member_names d number = map (λ (m : Member). m.name) (members_at d number)

-- names that are not declared are not known, and the names of members are those that are declared
pub record Knows (known : List Known) (d : Declared) : Type 0 where
  pub free : (home name : List ℕ) → AllByRecursion (λ n. n ≢ (home, name)) (declared_names d) → find home name known ≡ None
  pub members : (home name : List ℕ) (number : ℕ) → struct_number d home name ≡ Some number → members_of (find home name known) ≡ each_once (member_names d number)

pub nothing_known : Knows [] nothing_declared
nothing_known = record { free = λ home name each. refl; members = λ home name number e. cc }

-- ---- what is meant by a number

clash : {A X : Type 0} (o : Option X) (x : X) → o ≡ Some x → o ≡ None → A
clash None x a b = absurd cc
clash (Some y) x a b = absurd cc

module _ (d : Declared) (m : Option Meaning) (sn en : Option ℕ) (number : ℕ) where
  pub means_struct : MeansIn d m sn en → sn ≡ Some number → is_struct m ≡ true
  means_struct (struct_meant is_m is_s st) e = ap is_struct is_m
  means_struct (enum_meant is_m none is_e enum) e = clash sn number e none
  means_struct (no_type_meant no_m none no_e) e = clash sn number e none

  pub means_enum : MeansIn d m sn en → sn ≡ None → en ≡ Some number → is_enum m ≡ true
  means_enum (struct_meant {number = k} is_m is_s st) none e = clash sn k is_s none
  means_enum (enum_meant is_m none is_e enum) n e = ap is_enum is_m
  means_enum (no_type_meant no_m none no_e) n e = clash en number e no_e

pub struct_is_type : (m : Option Meaning) → is_struct m ≡ true → is_type m ≡ true
struct_is_type None e = cc
struct_is_type (Some (a_struct depth size names)) e = refl
struct_is_type (Some (an_enum names)) e = cc
struct_is_type (Some no_type) e = cc

pub enum_is_type : (m : Option Meaning) → is_enum m ≡ true → is_type m ≡ true
enum_is_type None e = cc
enum_is_type (Some (a_struct depth size names)) e = cc
enum_is_type (Some (an_enum names)) e = refl
enum_is_type (Some no_type) e = cc

-- what a struct's name means stays so
stays : (m : Option Meaning) (b : Bool) (x : Meaning) → is_struct m ≡ true → or_new m b x ≡ m
stays None b x e = cc
stays (Some y) b x e = refl

-- ---- one name more

-- not the name `n` of the module `h`
abbrev pub IsOther : List ℕ → List ℕ → Name → Type 0
IsOther h n m = m ≢ (h, n)

-- the second declarations are the first ones and one of that name beside them
pub record OneMore (d e : Declared) (home name : List ℕ) : Type 0 where
  pub before : (h n : List ℕ) → AllByRecursion (IsOther h n) (declared_names e) → AllByRecursion (IsOther h n) (declared_names d)
  pub last : (h n : List ℕ) → AllByRecursion (IsOther h n) (declared_names e) → IsOther h n (home, name)

-- of each sort, and of all
all_names : (P : Name → Type 0) (d : Declared) → EachName P d → AllByRecursion P (declared_names d)
all_names P d each =
    each_append P (struct_names d ++ enum_names d ++ const_names d) (interface_names d)
    (each_append P (struct_names d ++ enum_names d) (const_names d) (each_append P (struct_names d) (enum_names d) each.structs each.enums) each.consts) each.interfaces

but_last : {X : Type 0} (of : X → Name) (P : Name → Type 0) (xs : List X) (x : X) → AllByRecursion P (map of (xs ++ x ∷ [])) → AllByRecursion P (map of xs) × P (of x)
but_last of P xs x each =
    let parts = each_parts (λ x. P (of x)) xs (x ∷ []) (each_of_map P of (xs ++ x ∷ []) each) in
    (each_mapped P of xs parts.0, parts.1.0)

module _ (d : Declared) where
  pub one_struct : (x : StructDesc) → OneMore d (with_struct d x) x.«module» x.name
  one_struct x = record {
    before = λ h n all. let each = each_name (IsOther h n) (with_struct d x) all in
        all_names (IsOther h n) d (record { structs = (but_last (λ (s : StructDesc). (s.«module», s.name)) (IsOther h n) d.structs x each.structs).0; enums = each.enums; consts = each.consts; interfaces = each.interfaces });
    last = λ h n all. (but_last (λ (s : StructDesc). (s.«module», s.name)) (IsOther h n) d.structs x (each_name (IsOther h n) (with_struct d x) all).structs).1;
  }

  pub one_enum : (x : EnumDesc) → OneMore d (with_enum d x) x.«module» x.name
  one_enum x = record {
    before = λ h n all. let each = each_name (IsOther h n) (with_enum d x) all in
        all_names (IsOther h n) d (record { structs = each.structs; enums = (but_last (λ (s : EnumDesc). (s.«module», s.name)) (IsOther h n) d.enums x each.enums).0; consts = each.consts; interfaces = each.interfaces });
    last = λ h n all. (but_last (λ (s : EnumDesc). (s.«module», s.name)) (IsOther h n) d.enums x (each_name (IsOther h n) (with_enum d x) all).enums).1;
  }

  pub one_const : (x : ConstDesc) → OneMore d (with_const d x) x.«module» x.name
  one_const x = record {
    before = λ h n all. let each = each_name (IsOther h n) (with_const d x) all in
        all_names (IsOther h n) d (record { structs = each.structs; enums = each.enums; consts = (but_last (λ (s : ConstDesc). (s.«module», s.name)) (IsOther h n) d.consts x each.consts).0; interfaces = each.interfaces });
    last = λ h n all. (but_last (λ (s : ConstDesc). (s.«module», s.name)) (IsOther h n) d.consts x (each_name (IsOther h n) (with_const d x) all).consts).1;
  }

  pub one_interface : (x : InterfaceDesc) → OneMore d (with_interface d x) x.«module» x.name
  one_interface x = record {
    before = λ h n all. let each = each_name (IsOther h n) (with_interface d x) all in
        all_names (IsOther h n) d (record { structs = each.structs; enums = each.enums; consts = each.consts; interfaces = (but_last (λ (s : InterfaceDesc). (s.«module», s.name)) (IsOther h n) d.interfaces x each.interfaces).0 });
    last = λ h n all. (but_last (λ (s : InterfaceDesc). (s.«module», s.name)) (IsOther h n) d.interfaces x (each_name (IsOther h n) (with_interface d x) all).interfaces).1;
  }

-- the same names
pub one_renamed : {d e : Declared} {home name h n : List ℕ} → h ≡ home → n ≡ name → OneMore d e home name → OneMore d e h n
one_renamed {d} {e} {home} {name} {h} {n} same_home same_name more = subst (λ m. OneMore d e h m) (sym same_name) (subst (λ m. OneMore d e m name) (sym same_home) more)

module _ (s : Scene) (d : Declared) (knows : Knows s.known d) (name : Span) (absent : is_some (find s.home (word s.text name) s.known) ≡ false) where
  abbrev entry : Meaning → Known
  entry meaning = record { home = s.home; name = word s.text name; meaning = meaning }

  added : (meaning : Meaning) → known_with s.text s.home s.known meaning (Some name) ≡ s.known ++ entry meaning ∷ []
  added meaning = ap (λ b. cond b s.known (s.known ++ entry meaning ∷ [])) absent

  abbrev is_it : List ℕ → List ℕ → Bool
  is_it h n = bytes_eq h s.home && bytes_eq n (word s.text name)

  found_then : (meaning : Meaning) (h n : List ℕ) → find h n (known_with s.text s.home s.known meaning (Some name)) ≡ or_new (find h n s.known) (is_it h n) meaning
  found_then meaning h n = ap (find h n) (added meaning) ∙ find_more h n s.known (entry meaning)

  free_then : (meaning : Meaning) (e : Declared) → OneMore d e s.home (word s.text name) → (h n : List ℕ) → AllByRecursion (IsOther h n) (declared_names e)
      → find h n (known_with s.text s.home s.known meaning (Some name)) ≡ None
  free_then meaning e more h n each =
      found_then meaning h n ∙ ap (λ o. or_new o (is_it h n) meaning) (knows.free h n (more.before h n each))
      ∙ ap (λ b. or_new None b meaning) (other_name h n (s.home, word s.text name) (more.last h n each))

  -- of what is no struct
  pub knows_then : (agrees : Agrees (record { known = s.known; room = s.room }) d) (meaning : Meaning) (e : Declared) → OneMore d e s.home (word s.text name) → e.structs ≡ d.structs
      → Knows (known_with s.text s.home s.known meaning (Some name)) e
  knows_then agrees meaning e more same = record {
    free = free_then meaning e more;
    members = λ h n number is.
        let was : struct_number d h n ≡ Some number = ap (λ l. struct_number (record d { structs = l }) h n) (sym same) ∙ is in
        ap members_of (found_then meaning h n ∙ stays (find h n s.known) (is_it h n) meaning (means_struct d (find h n s.known) (struct_number d h n) (enum_number d h n) number (agrees.means h n) was))
        ∙ knows.members h n number was ∙ ap (λ l. each_once (map (λ (m : Member). m.name) (struct_members (slice_get l number)))) (sym same);
  }

  -- of a struct
  module _ (agrees : Agrees (record { known = s.known; room = s.room }) d) (x : StructDesc) (home_is : x.«module» ≡ s.home) (name_is : x.name ≡ word s.text name) (depth size : ℕ) where
    abbrev names : List (List ℕ)
    names = each_once (map (λ (m : Member). m.name) x.members)

    abbrev meant : Meaning
    meant = a_struct depth size names

    only_new : (h n : List ℕ) → is_it h n ≡ true → find h n s.known ≡ None
    only_new h n e =
        let two = same_name h n s.home (word s.text name) e in
        ap (λ h. find h n s.known) two.0 ∙ ap (λ n. find s.home n s.known) two.1 ∙ none_of (find s.home (word s.text name) s.known) absent
      where
        none_of : (m : Option Meaning) → is_some m ≡ false → m ≡ None
        none_of None e = refl
        none_of (Some x) e = cc

    -- the members of the struct of a number, where it is found among those before or is the new one
    members_found : (h n : List ℕ) (number : ℕ) (sn : Option ℕ) (m : Option Meaning) (b : Bool) → (sn ≡ Some number → is_struct m ≡ true) → (sn ≡ Some number → members_of m ≡ each_once (member_names (with_struct d x) number)) → (b ≡ true → m ≡ None)
        → or_new sn b (length d.structs) ≡ Some number → members_of (or_new m b meant) ≡ each_once (member_names (with_struct d x) number)
    members_found h n number (Some k) m b is old new e = ap members_of (stays m b meant (is e)) ∙ old e
    members_found h n number None m true is old new e =
        let at : length d.structs ≡ number = same_number e in
        ap (λ m. members_of (or_new m true meant)) (new refl)
        ∙ ap (λ (ms : List Member). each_once (map (λ (m : Member). m.name) ms)) (sym (ap struct_members (get_new d.structs x)))
        ∙ ap (λ n. each_once (member_names (with_struct d x) n)) at
      where
        same_number : Some (length d.structs) ≡ Some number → length d.structs ≡ number
        same_number e = cc
    members_found h n number None m false is old new e = cc

    kept : (h n : List ℕ) (number : ℕ) → struct_number d h n ≡ Some number → members_of (find h n s.known) ≡ each_once (member_names (with_struct d x) number)
    kept h n number e =
        knows.members h n number e ∙ ap (λ (ms : List Member). each_once (map (λ (m : Member). m.name) ms)) (sym (ap struct_members (get_kept d.structs x number (within (agrees.means h n)))))
      where
        within : MeansIn d (find h n s.known) (struct_number d h n) (enum_number d h n) → number < length d.structs
        within (struct_meant {number = k} is_m is_s st) = subst (λ (k : ℕ). k < length d.structs) (same_number (sym is_s ∙ e)) st.within
          where
            same_number : Some k ≡ Some number → k ≡ number
            same_number e = cc
        within (enum_meant is_m none is_e enum) = clash (struct_number d h n) number e none
        within (no_type_meant no_m none no_e) = clash (struct_number d h n) number e none

    pub knows_struct : OneMore d (with_struct d x) s.home (word s.text name) → Knows (known_with s.text s.home s.known meant (Some name)) (with_struct d x)
    knows_struct more = record {
      free = free_then meant (with_struct d x) more;
      members = λ h n number is.
          let number_then : or_new (struct_number d h n) (is_it h n) (length d.structs) ≡ Some number =
          ap (λ b. or_new (struct_number d h n) b (length d.structs)) (sym (ap (λ m. bytes_eq h m && bytes_eq n x.name) home_is ∙ ap (λ m. bytes_eq h s.home && bytes_eq n m) name_is))
          ∙ sym (struct_number_more d x h n) ∙ is in
          ap members_of (found_then meant h n)
          ∙ members_found h n number (struct_number d h n) (find h n s.known) (is_it h n) (λ e. means_struct d (find h n s.known) (struct_number d h n) (enum_number d h n) number (agrees.means h n) e) (kept h n number) (only_new h n) number_then;
    }
