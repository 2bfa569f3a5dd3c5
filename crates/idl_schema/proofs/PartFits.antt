-- Parts of declarations in which no rule finds anything.
use Rattle.std.proofs.Common.{◌≡◌, ◌≢◌, ◌<◌, ◌^◌, ℕ, ℤ, pos, negsuc, Bool, true, false, ◌&&◌, Option, Some, None, is_some, List, [], ◌∷◌, length, refl, sym, ap, ◌∙◌, arith}
use Rattle.std.proofs.lemmas.List.Elements.{All-from_recursion}
use Rattle.std.proofs.lemmas.Bool.Decides.{Decides-int_eq, nat_tests}
use Rattle.std.specs.List.{AllByRecursion}
use Rattle.std.specs.Ordering.{int_eq}
use Rattle.least_fault.specs.Conditions.{found_after}
use Rattle.tars_model.specs.Declarations.{Declared}
use Rattle.tars_model.specs.Names.{IsName}
use Rattle.tars_model.specs.Schemas.{declared_names, IsNew, IsDefault, absent, literal, MemberFits}
use Rattle.tars_model.specs.Values.{is_unsigned}
use Rattle.idl_parse.specs.Nesting.{MemberNests}
use Rattle.idl_parse.specs.TreeSpans.{IfThere, LiteralIn, TypeIn, MemberIn}
use Rattle.idl_lex.specs.declared.span.Span.{Span}
use Rattle.idl_parse.specs.declared.tree.literal.Literal.{Literal}
use Rattle.idl_parse.specs.declared.tree.member.MemberTree.{MemberTree}
use Rattle.idl_parse.specs.declared.tree.type_tree.TypeTree.{TypeTree, out-TypeTree}
use Rattle.idl_scene.specs.Items.{word}
use Rattle.idl_scene.specs.Known.{Scene, Known, find}
use Rattle.idl_scene.specs.Literals.{fits_literal, literal_start}
use Rattle.idl_scene.specs.Types.{unknown_type, float, bad_key, deep_type, unsigned_bytes, types_in}
use Rattle.idl_scene.specs.declared.check_fault.CheckWhy.TheVariants.{TwiceTag, BadDefault}
use Rattle.idl_rules.specs.Conditions.{at_layer, alone}
use Rattle.idl_rules.specs.Rules.{bad_written, twice_tag, tag_of}
use Rattle.idl_schema.specs.Agreement.{Agrees, place_in}
use Rattle.idl_schema.specs.Faultless.{AreBytes}
use Rattle.idl_schema.specs.SchemaOf.{default_value, member_of, as_tag}
use Rattle.idl_schema.proofs.ListFits.{none_any}
use Rattle.idl_schema.proofs.LiteralFits.{literal_spells}
use Rattle.idl_schema.proofs.Nothing.{passed, holds, alone_nothing}
use Rattle.idl_schema.proofs.Parts.{each_both, each_weaker, Apart, apart_nothing}
use Rattle.idl_schema.proofs.SizeFits.{SoundType}
use Rattle.idl_schema.proofs.TypeFits.{Unfaulted, written, type_fits}

-- ---- names

clash : {A : Type 0} (b : Bool) → b ≡ true → b ≡ false → A
clash true a b = absurd cc
clash false a b = absurd cc

abbrev Found : List Known → List ℕ × List ℕ → Type 0
Found known n = is_some (find n.0 n.1 known) ≡ true

other_name : (known : List Known) (home name : List ℕ) → is_some (find home name known) ≡ false → (n : List ℕ × List ℕ) → Found known n → n ≢ (home, name)
other_name known home name none n found = λ is. clash (is_some (find home name known)) (sym (ap (λ (n : List ℕ × List ℕ). is_some (find n.0 n.1 known)) is) ∙ found) none

pub is_new : (s : Scene) (d : Declared) (name : Span) → AllByRecursion (λ (n : List ℕ × List ℕ). is_some (find n.0 n.1 s.known) ≡ true) (declared_names d)
    → is_some (find s.home (word s.text name) s.known) ≡ false → IsName s.home → IsName (word s.text name) → IsNew d s.home (word s.text name)
is_new s d name taken none home_is name_is = record {
  home_is_name = home_is;
  is_name = name_is;
  is_new = All-from_recursion (λ declared. declared ≢ (s.home, word s.text name)) (declared_names d)
      (each_weaker (Found s.known) (λ declared. declared ≢ (s.home, word s.text name)) (other_name s.known s.home (word s.text name) none) (declared_names d) taken);
}

-- ---- types

unfaulted : (s : Scene) (ts : List TypeTree) → AllByRecursion (λ t. unknown_type s (out-TypeTree t) ≡ []) ts → AllByRecursion (λ t. float s (out-TypeTree t) ≡ []) ts → AllByRecursion (λ t. bad_key s (out-TypeTree t) ≡ []) ts
    → AllByRecursion (λ t. deep_type s t ≡ []) ts → AllByRecursion (λ t. unsigned_bytes s (out-TypeTree t) ≡ []) ts → AllByRecursion (Unfaulted s) ts
unfaulted s [] a b c d e = tt
unfaulted s (t ∷ ts) a b c d e = (record { known = a.0; no_float = b.0; good_key = c.0; shallow = d.0; no_bytes = e.0 }, unfaulted s ts a.1 b.1 c.1 d.1 e.1)

pub types_unfaulted : (s : Scene) (ts : List TypeTree) → found_after (at_layer unknown_type s) [] ts ≡ [] → found_after (at_layer float s) [] ts ≡ [] → found_after (at_layer bad_key s) [] ts ≡ []
    → found_after (alone deep_type s) [] ts ≡ [] → found_after (at_layer unsigned_bytes s) [] ts ≡ [] → AllByRecursion (Unfaulted s) ts
types_unfaulted s ts a b c d e =
    unfaulted s ts (alone_nothing (λ t. unknown_type s (out-TypeTree t)) [] ts a) (alone_nothing (λ t. float s (out-TypeTree t)) [] ts b) (alone_nothing (λ t. bad_key s (out-TypeTree t)) [] ts c)
    (alone_nothing (deep_type s) [] ts d) (alone_nothing (λ t. unsigned_bytes s (out-TypeTree t)) [] ts e)

-- ---- members

module _ (s : Scene) (d : Declared) (agrees : Agrees (record { known = s.known; room = s.room }) d) (short : length s.text < 2 ^ 32) where
  default_fits : AreBytes s.text → {t : TypeTree} → TypeIn s.text t → (o : Option Literal) → IfThere (LiteralIn s.text) o → bad_written s (out-TypeTree t) o ≡ [] → IsDefault d (written s d t) (default_value (place_in d s) (written s d t) o)
  default_fits bytes inside None at e = absent refl
  default_fits bytes {t} inside (Some l) at e =
      let spells = literal_spells s d agrees (Some 255) inside l at short bytes (holds (fits_literal s (Some 255) (out-TypeTree t) l) s.file (literal_start l) BadDefault e) in
      literal spells.is_literal spells.few

  tag_fits : (n : ℤ) → is_unsigned 8 n ≡ true → as_tag n < 256
  tag_fits (pos n) is = grind (arith, nat_tests)
  tag_fits (negsuc n) is = absurd cc

  -- what is known of a member
  pub record GoodMember (m : MemberTree) : Type 0 where
    pub inside : MemberIn s.text m
    pub nested : MemberNests 16 m
    pub types : AllByRecursion (Unfaulted s) (types_in m.typed.ty)
    pub name : IsName (word s.text m.typed.name)
    pub default : bad_written s (out-TypeTree m.typed.ty) m.default ≡ []
    pub tag : is_unsigned 8 (tag_of s m) ≡ true

  pub member_fits : AreBytes s.text → (m : MemberTree) → GoodMember m → MemberFits d (member_of (place_in d s) m)
  member_fits bytes m good = record {
    tag = tag_fits (tag_of s m) good.tag;
    name = good.name;
    ty = type_fits s d agrees good.inside.typed.0 good.nested good.types;
    default = default_fits bytes good.inside.typed.0 m.default good.inside.default good.default;
  }

  pub sound_type : (m : MemberTree) → GoodMember m → SoundType s d agrees m
  sound_type m good = (good.inside.typed.0, good.types)

-- ---- tags

abbrev pub OtherTagAs : Scene → MemberTree → MemberTree → Type 0
OtherTagAs s a b = tag_of s a ≢ tag_of s b

no_both : (b c : Bool) → b ≡ true → (b && c) ≡ false → c ≡ false
no_both true c is e = e
no_both false c is e = cc

other_int : (a b : ℤ) → int_eq a b ≡ false → a ≢ b
other_int a b e = λ is. clash (int_eq a b) ((Decides-int_eq a b).1 is) e

abbrev Unless : Scene → MemberTree → MemberTree → Type 0
Unless s a b = is_unsigned 8 (tag_of s b) ≡ true → OtherTagAs s a b

tag_apart : (s : Scene) (before : List MemberTree) (m : MemberTree) → twice_tag s before m ≡ [] → AllByRecursion (λ e. Unless s e m) before
tag_apart s before m e = by_test (is_unsigned 8 (tag_of s m)) refl
  where
    nothing_said : (b : Bool) (before : List MemberTree) → is_unsigned 8 (tag_of s m) ≡ false → AllByRecursion (λ e. Unless s e m) before
    nothing_said b [] none = tt
    nothing_said b (x ∷ before) none = ((λ is. clash (is_unsigned 8 (tag_of s m)) is none), nothing_said b before none)

    by_test : (b : Bool) → is_unsigned 8 (tag_of s m) ≡ b → AllByRecursion (λ e. Unless s e m) before
    by_test false is = nothing_said false before is
    by_test true is =
        each_weaker (λ (x : MemberTree). int_eq (tag_of s m) (tag_of s x) ≡ false) (λ x. Unless s x m) (λ x no is same. other_int (tag_of s m) (tag_of s x) no (sym same)) before
        (none_any (λ (x : MemberTree). int_eq (tag_of s m) (tag_of s x)) before
        (no_both (is_unsigned 8 (tag_of s m)) _ is (passed _ s.file m.tag.start TwiceTag e)))

-- each tag with those after it
pub tags_apart : (s : Scene) (ms : List MemberTree) → AllByRecursion (λ (m : MemberTree). is_unsigned 8 (tag_of s m) ≡ true) ms → found_after (twice_tag s) [] ms ≡ [] → Apart (OtherTagAs s) ms
tags_apart s ms tags e = strip ms tags (apart_nothing (twice_tag s) (Unless s) (tag_apart s) ms e)
  where
    strip : (ms : List MemberTree) → AllByRecursion (λ (m : MemberTree). is_unsigned 8 (tag_of s m) ≡ true) ms → Apart (Unless s) ms → Apart (OtherTagAs s) ms
    strip [] tags apart = tt
    strip (m ∷ ms) tags apart =
        (each_both (λ (x : MemberTree). is_unsigned 8 (tag_of s x) ≡ true) (Unless s m) (OtherTagAs s m) (λ x is unless. unless is) ms tags.1 apart.0, strip ms tags.1 apart.1)

-- equal tags of two ints that are no bytes' would be equal ints
pub as_tag_apart : (a b : ℤ) → is_unsigned 8 a ≡ true → is_unsigned 8 b ≡ true → a ≢ b → as_tag a ≢ as_tag b
as_tag_apart (pos a) (pos b) is_a is_b other = λ same. other (ap (λ n. pos n) same)
as_tag_apart (negsuc a) b is_a is_b other = absurd cc
as_tag_apart (pos a) (negsuc b) is_a is_b other = absurd cc
