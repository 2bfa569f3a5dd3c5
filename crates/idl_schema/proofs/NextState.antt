-- What is known and what is declared agree after one declaration more.
use Rattle.std.proofs.Common.{◌≡◌, ◌+◌, ◌-◌, ℕ, Bool, true, false, ◌&&◌, cond, Option, Some, None, is_some, List, [], ◌∷◌, ◌++◌, length, map, refl, sym, ap, ◌∙◌, subst, arith, length-append}
use Rattle.std.proofs.lemmas.Bool.Decides.{nat_tests}
use Rattle.std.proofs.lemmas.Slice.Eq.{bytes_eq-Decides}
use Rattle.std.specs.List.{AllByRecursion}
use Rattle.std.specs.Prelude.{nat_eq}
use Rattle.std.specs.Str.{bytes_eq}
use Rattle.tars_model.specs.Declarations.{Declared, with_struct, with_enum, with_const, with_key, with_interface}
use Rattle.tars_model.specs.Schemas.{declared_names}
use Rattle.tars_model.specs.declared.const_desc.ConstDesc.{ConstDesc}
use Rattle.tars_model.specs.declared.enum_desc.EnumDesc.{EnumDesc}
use Rattle.tars_model.specs.declared.interface_desc.InterfaceDesc.{InterfaceDesc}
use Rattle.tars_model.specs.declared.struct_desc.StructDesc.{StructDesc}
use Rattle.idl_lex.specs.declared.span.Span.{Span}
use Rattle.idl_scene.specs.Items.{word}
use Rattle.idl_scene.specs.Known.{Meaning, a_struct, an_enum, no_type, Known, Scene, find}
use Rattle.idl_rules.specs.Conditions.{known_with}
use Rattle.idl_schema.specs.Agreement.{StructIs, EnumIs, MeansIn, Agrees}
use Rattle.idl_schema.specs.SchemaOf.{struct_number, enum_number}
use Rattle.idl_schema.proofs.Agreeing.{SameTypes, means_struct, means_enum, means_other, means_same}
use Rattle.idl_schema.proofs.Growing.{or_new, position_more, find_more}
use Rattle.idl_schema.proofs.Parts.{each_weaker, each_parts, each_append, each_mapped, each_of_map}

-- ---- rooms

abbrev Some_left : ℕ → Type 0
Some_left left = nat_eq left 0 ≡ false

less_room : (left count longer most : ℕ) → nat_eq left 0 ≡ false → longer ≡ count + 1 → left + count ≡ most → (left - 1) + longer ≡ most
less_room left count longer most some is all = grind (arith, nat_tests)

-- ---- names that are taken

abbrev Taken : List Known → List ℕ × List ℕ → Type 0
Taken known n = is_some (find n.0 n.1 known) ≡ true

some_kept : (m : Option Meaning) (b : Bool) (x : Meaning) → is_some m ≡ true → is_some (or_new m b x) ≡ true
some_kept None b x e = cc
some_kept (Some y) b x e = refl

some_new : (m : Option Meaning) (b : Bool) (x : Meaning) → b ≡ true → is_some (or_new m b x) ≡ true
some_new None true x e = refl
some_new None false x e = cc
some_new (Some y) b x e = refl

both_are : (a b : Bool) → a ≡ true → b ≡ true → (a && b) ≡ true
both_are true b x y = y
both_are false b x y = cc

both_true : (a b : Bool) → (a && b) ≡ true → (a ≡ true) × (b ≡ true)
both_true true b e = (refl, e)
both_true false b e = cc

same_bytes : (a : List ℕ) → bytes_eq a a ≡ true
same_bytes a = (bytes_eq-Decides a a).1 refl

taken_kept : (known : List Known) (k : Known) (n : List ℕ × List ℕ) → Taken known n → Taken (known ++ k ∷ []) n
taken_kept known k n taken = ap is_some (find_more n.0 n.1 known k) ∙ some_kept (find n.0 n.1 known) _ k.meaning taken

taken_new : (known : List Known) (k : Known) → Taken (known ++ k ∷ []) (k.home, k.name)
taken_new known k =
    ap is_some (find_more k.home k.name known k) ∙ some_new (find k.home k.name known) _ k.meaning (both_are (bytes_eq k.home k.home) (bytes_eq k.name k.name) (same_bytes k.home) (same_bytes k.name))

record Four {N : Type 0} (P : N → Type 0) (a b c e : List N) : Type 0 where
  structs : AllByRecursion P a
  enums : AllByRecursion P b
  consts : AllByRecursion P c
  interfaces : AllByRecursion P e

four : {N : Type 0} (P : N → Type 0) (a b c e : List N) → AllByRecursion P (a ++ b ++ c ++ e) → Four P a b c e
four P a b c e all =
    let one = each_parts P (a ++ b ++ c) e all in
    let two = each_parts P (a ++ b) c one.0 in
    let three = each_parts P a b two.0 in
    record { structs = three.0; enums = three.1; consts = two.1; interfaces = one.1 }

of_four : {N : Type 0} (P : N → Type 0) (a b c e : List N) → Four P a b c e → AllByRecursion P (a ++ b ++ c ++ e)
of_four P a b c e all = each_append P (a ++ b ++ c) e (each_append P (a ++ b) c (each_append P a b all.structs all.enums) all.consts) all.interfaces

map_more : {X N : Type 0} (P : N → Type 0) (f : X → N) (xs : List X) (x : X) → AllByRecursion P (map f xs) → P (f x) → AllByRecursion P (map f (xs ++ x ∷ []))
map_more P f xs x all here = each_mapped P f (xs ++ x ∷ []) (each_append (λ y. P (f y)) xs (x ∷ []) (each_of_map P f xs all) (here, tt))

abbrev struct_names : Declared → List (List ℕ × List ℕ)
struct_names d = map (λ (s : StructDesc). (s.«module», s.name)) d.structs

abbrev enum_names : Declared → List (List ℕ × List ℕ)
enum_names d = map (λ (e : EnumDesc). (e.«module», e.name)) d.enums

abbrev const_names : Declared → List (List ℕ × List ℕ)
const_names d = map (λ (c : ConstDesc). (c.«module», c.name)) d.consts

abbrev interface_names : Declared → List (List ℕ × List ℕ)
interface_names d = map (λ (i : InterfaceDesc). (i.«module», i.name)) d.interfaces

-- ---- one name more

module _ (s : Scene) (d : Declared) (agrees : Agrees (record { known = s.known; room = s.room }) d) (name : Span) (absent : is_some (find s.home (word s.text name) s.known) ≡ false) where
  abbrev entry : Meaning → Known
  entry meaning = record { home = s.home; name = word s.text name; meaning = meaning }

  added : (meaning : Meaning) → known_with s.text s.home s.known meaning (Some name) ≡ s.known ++ entry meaning ∷ []
  added meaning = ap (λ b. cond b s.known (s.known ++ entry meaning ∷ [])) absent

  abbrev is_it : List ℕ → List ℕ → Bool
  is_it h n = bytes_eq h s.home && bytes_eq n (word s.text name)

  none_of : (m : Option Meaning) → is_some m ≡ false → m ≡ None
  none_of None e = refl
  none_of (Some x) e = cc

  only_new : (h n : List ℕ) → is_it h n ≡ true → find h n s.known ≡ None
  only_new h n e =
      let two = both_true (bytes_eq h s.home) (bytes_eq n (word s.text name)) e in
      ap (λ h. find h n s.known) ((bytes_eq-Decides h s.home).0 two.0) ∙ ap (λ n. find s.home n s.known) ((bytes_eq-Decides n (word s.text name)).0 two.1)
      ∙ none_of (find s.home (word s.text name) s.known) absent

  abbrev old_four : Four (Taken s.known) (struct_names d) (enum_names d) (const_names d) (interface_names d)
  old_four = four (Taken s.known) (struct_names d) (enum_names d) (const_names d) (interface_names d) agrees.taken

  later : (meaning : Meaning) (ns : List (List ℕ × List ℕ)) → AllByRecursion (Taken s.known) ns → AllByRecursion (Taken (s.known ++ entry meaning ∷ [])) ns
  later meaning ns all = each_weaker (Taken s.known) (Taken (s.known ++ entry meaning ∷ [])) (taken_kept s.known (entry meaning)) ns all

  zero_more : (n : ℕ) → 0 + n ≡ n
  zero_more n = omega arith

  module _ (x : StructDesc) (home_is : x.«module» ≡ s.home) (name_is : x.name ≡ word s.text name) (depth size : ℕ) (names : List (List ℕ)) (new : StructIs (with_struct d x) (length d.structs) depth size names)
      (left : nat_eq s.room.structs 0 ≡ false) where
    struct_means : (h n : List ℕ) → MeansIn (with_struct d x) (find h n (s.known ++ entry (a_struct depth size names) ∷ [])) (struct_number (with_struct d x) h n) (enum_number (with_struct d x) h n)
    struct_means h n =
        let here : struct_number (with_struct d x) h n ≡ or_new (struct_number d h n) (is_it h n) (length d.structs) =
        position_more (λ (s : StructDesc). bytes_eq h s.«module» && bytes_eq n s.name) 0 d.structs x
        ∙ ap (λ b. or_new (struct_number d h n) b (0 + length d.structs)) (ap (λ m. bytes_eq h m && bytes_eq n x.name) home_is ∙ ap (λ m. bytes_eq h s.home && bytes_eq n m) name_is)
        ∙ ap (or_new (struct_number d h n) (is_it h n)) (zero_more (length d.structs)) in
        subst (λ (m : Option Meaning). MeansIn (with_struct d x) m (struct_number (with_struct d x) h n) (enum_number (with_struct d x) h n)) (sym (find_more h n s.known (entry (a_struct depth size names))))
        (subst (λ (o : Option ℕ). MeansIn (with_struct d x) (or_new (find h n s.known) (is_it h n) (a_struct depth size names)) o (enum_number (with_struct d x) h n)) (sym here)
        (means_struct d x depth size names new (find h n s.known) (struct_number d h n) (enum_number d h n) (is_it h n) (only_new h n) (agrees.means h n)))

    struct_taken : AllByRecursion (Taken (s.known ++ entry (a_struct depth size names) ∷ [])) (declared_names (with_struct d x))
    struct_taken =
        let k = s.known ++ entry (a_struct depth size names) ∷ [] in
        let old = old_four in
        let here : Taken k (x.«module», x.name) = subst (λ (n : List ℕ × List ℕ). Taken k n) (sym (ap (λ m. (m, x.name)) home_is ∙ ap (λ m. (s.home, m)) name_is)) (taken_new s.known (entry (a_struct depth size names))) in
        of_four (Taken k) (struct_names (with_struct d x)) (enum_names d) (const_names d) (interface_names d)
        (record {
          structs = map_more (Taken k) (λ (s : StructDesc). (s.«module», s.name)) d.structs x (later (a_struct depth size names) (struct_names d) old.structs) here;
          enums = later (a_struct depth size names) (enum_names d) old.enums;
          consts = later (a_struct depth size names) (const_names d) old.consts;
          interfaces = later (a_struct depth size names) (interface_names d) old.interfaces;
        })

    pub struct_next : Agrees (record { known = known_with s.text s.home s.known (a_struct depth size names) (Some name); room = record s.room { structs = s.room.structs - 1 } }) (with_struct d x)
    struct_next =
        let longer : length (d.structs ++ x ∷ []) ≡ length d.structs + 1 = length-append d.structs (x ∷ []) in
        subst (λ (known : List Known). Agrees (record { known = known; room = record s.room { structs = s.room.structs - 1 } }) (with_struct d x)) (sym (added (a_struct depth size names)))
        (record {
          means = struct_means;
          taken = struct_taken;
          structs = less_room s.room.structs (length d.structs) (length (d.structs ++ x ∷ [])) 1024 left longer agrees.structs;
          enums = agrees.enums;
          consts = agrees.consts;
          interfaces = agrees.interfaces;
        })

  module _ (x : EnumDesc) (home_is : x.«module» ≡ s.home) (name_is : x.name ≡ word s.text name) (names : List (List ℕ)) (new : EnumIs (with_enum d x) (length d.enums) names) (left : nat_eq s.room.enums 0 ≡ false) where
    enum_means : (h n : List ℕ) → MeansIn (with_enum d x) (find h n (s.known ++ entry (an_enum names) ∷ [])) (struct_number (with_enum d x) h n) (enum_number (with_enum d x) h n)
    enum_means h n =
        let here : enum_number (with_enum d x) h n ≡ or_new (enum_number d h n) (is_it h n) (length d.enums) =
        position_more (λ (s : EnumDesc). bytes_eq h s.«module» && bytes_eq n s.name) 0 d.enums x
        ∙ ap (λ b. or_new (enum_number d h n) b (0 + length d.enums)) (ap (λ m. bytes_eq h m && bytes_eq n x.name) home_is ∙ ap (λ m. bytes_eq h s.home && bytes_eq n m) name_is)
        ∙ ap (or_new (enum_number d h n) (is_it h n)) (zero_more (length d.enums)) in
        subst (λ (m : Option Meaning). MeansIn (with_enum d x) m (struct_number (with_enum d x) h n) (enum_number (with_enum d x) h n)) (sym (find_more h n s.known (entry (an_enum names))))
        (subst (λ (o : Option ℕ). MeansIn (with_enum d x) (or_new (find h n s.known) (is_it h n) (an_enum names)) (struct_number (with_enum d x) h n) o) (sym here)
        (means_enum d x names new (find h n s.known) (struct_number d h n) (enum_number d h n) (is_it h n) (only_new h n) (agrees.means h n)))

    enum_taken : AllByRecursion (Taken (s.known ++ entry (an_enum names) ∷ [])) (declared_names (with_enum d x))
    enum_taken =
        let k = s.known ++ entry (an_enum names) ∷ [] in
        let old = old_four in
        let here : Taken k (x.«module», x.name) = subst (λ (n : List ℕ × List ℕ). Taken k n) (sym (ap (λ m. (m, x.name)) home_is ∙ ap (λ m. (s.home, m)) name_is)) (taken_new s.known (entry (an_enum names))) in
        of_four (Taken k) (struct_names d) (enum_names (with_enum d x)) (const_names d) (interface_names d)
        (record {
          structs = later (an_enum names) (struct_names d) old.structs;
          enums = map_more (Taken k) (λ (e : EnumDesc). (e.«module», e.name)) d.enums x (later (an_enum names) (enum_names d) old.enums) here;
          consts = later (an_enum names) (const_names d) old.consts;
          interfaces = later (an_enum names) (interface_names d) old.interfaces;
        })

    pub enum_next : Agrees (record { known = known_with s.text s.home s.known (an_enum names) (Some name); room = record s.room { enums = s.room.enums - 1 } }) (with_enum d x)
    enum_next =
        let longer : length (d.enums ++ x ∷ []) ≡ length d.enums + 1 = length-append d.enums (x ∷ []) in
        subst (λ (known : List Known). Agrees (record { known = known; room = record s.room { enums = s.room.enums - 1 } }) (with_enum d x)) (sym (added (an_enum names)))
        (record {
          means = enum_means;
          taken = enum_taken;
          structs = agrees.structs;
          enums = less_room s.room.enums (length d.enums) (length (d.enums ++ x ∷ [])) 1024 left longer agrees.enums;
          consts = agrees.consts;
          interfaces = agrees.interfaces;
        })

  -- of a declaration that is no type
  other_means : (e : Declared) → SameTypes d e → (h n : List ℕ) → MeansIn e (find h n (s.known ++ entry no_type ∷ [])) (struct_number d h n) (enum_number d h n)
  other_means e same h n =
      subst (λ (m : Option Meaning). MeansIn e m (struct_number d h n) (enum_number d h n)) (sym (find_more h n s.known (entry no_type)))
      (means_other d e same (find h n s.known) (struct_number d h n) (enum_number d h n) (is_it h n) (agrees.means h n))

  module _ (x : ConstDesc) (home_is : x.«module» ≡ s.home) (name_is : x.name ≡ word s.text name) (left : nat_eq s.room.consts 0 ≡ false) where
    const_taken : AllByRecursion (Taken (s.known ++ entry no_type ∷ [])) (declared_names (with_const d x))
    const_taken =
        let k = s.known ++ entry no_type ∷ [] in
        let old = old_four in
        let here : Taken k (x.«module», x.name) = subst (λ (n : List ℕ × List ℕ). Taken k n) (sym (ap (λ m. (m, x.name)) home_is ∙ ap (λ m. (s.home, m)) name_is)) (taken_new s.known (entry no_type)) in
        of_four (Taken k) (struct_names d) (enum_names d) (const_names (with_const d x)) (interface_names d)
        (record {
          structs = later no_type (struct_names d) old.structs;
          enums = later no_type (enum_names d) old.enums;
          consts = map_more (Taken k) (λ (c : ConstDesc). (c.«module», c.name)) d.consts x (later no_type (const_names d) old.consts) here;
          interfaces = later no_type (interface_names d) old.interfaces;
        })

    pub const_next : Agrees (record { known = known_with s.text s.home s.known no_type (Some name); room = record s.room { consts = s.room.consts - 1 } }) (with_const d x)
    const_next =
        let longer : length (d.consts ++ x ∷ []) ≡ length d.consts + 1 = length-append d.consts (x ∷ []) in
        subst (λ (known : List Known). Agrees (record { known = known; room = record s.room { consts = s.room.consts - 1 } }) (with_const d x)) (sym (added no_type))
        (record {
          means = other_means (with_const d x) (record { structs = refl; enums = refl });
          taken = const_taken;
          structs = agrees.structs;
          enums = agrees.enums;
          consts = less_room s.room.consts (length d.consts) (length (d.consts ++ x ∷ [])) 1024 left longer agrees.consts;
          interfaces = agrees.interfaces;
        })

  module _ (x : InterfaceDesc) (home_is : x.«module» ≡ s.home) (name_is : x.name ≡ word s.text name) (left : nat_eq s.room.interfaces 0 ≡ false) where
    interface_taken : AllByRecursion (Taken (s.known ++ entry no_type ∷ [])) (declared_names (with_interface d x))
    interface_taken =
        let k = s.known ++ entry no_type ∷ [] in
        let old = old_four in
        let here : Taken k (x.«module», x.name) = subst (λ (n : List ℕ × List ℕ). Taken k n) (sym (ap (λ m. (m, x.name)) home_is ∙ ap (λ m. (s.home, m)) name_is)) (taken_new s.known (entry no_type)) in
        of_four (Taken k) (struct_names d) (enum_names d) (const_names d) (interface_names (with_interface d x))
        (record {
          structs = later no_type (struct_names d) old.structs;
          enums = later no_type (enum_names d) old.enums;
          consts = later no_type (const_names d) old.consts;
          interfaces = map_more (Taken k) (λ (i : InterfaceDesc). (i.«module», i.name)) d.interfaces x (later no_type (interface_names d) old.interfaces) here;
        })

    pub interface_next : Agrees (record { known = known_with s.text s.home s.known no_type (Some name); room = record s.room { interfaces = s.room.interfaces - 1 } }) (with_interface d x)
    interface_next =
        let longer : length (d.interfaces ++ x ∷ []) ≡ length d.interfaces + 1 = length-append d.interfaces (x ∷ []) in
        subst (λ (known : List Known). Agrees (record { known = known; room = record s.room { interfaces = s.room.interfaces - 1 } }) (with_interface d x)) (sym (added no_type))
        (record {
          means = other_means (with_interface d x) (record { structs = refl; enums = refl });
          taken = interface_taken;
          structs = agrees.structs;
          enums = agrees.enums;
          consts = agrees.consts;
          interfaces = less_room s.room.interfaces (length d.interfaces) (length (d.interfaces ++ x ∷ [])) 256 left longer agrees.interfaces;
        })

-- a key
pub key_next : (s : Scene) (d : Declared) → Agrees (record { known = s.known; room = s.room }) d → (x : _) → Agrees (record { known = s.known; room = s.room }) (with_key d x)
key_next s d agrees x = record {
  means = λ h n. means_same d (with_key d x) (record { structs = refl; enums = refl }) (find h n s.known) (struct_number d h n) (enum_number d h n) (agrees.means h n);
  taken = agrees.taken;
  structs = agrees.structs;
  enums = agrees.enums;
  consts = agrees.consts;
  interfaces = agrees.interfaces;
}
