-- Members that say a struct's have no fault, and mean them, in the order of their tags.
use Rattle.std.proofs.Common.{◌≡◌, ◌<◌, ℕ, ℤ, pos, Bool, true, false, ◌&&◌, cond, List, [], ◌∷◌, ◌++◌, map, fold, refl, sym, ap, ◌∙◌, subst, arith, append_assoc, append-nil}
use Rattle.std.proofs.lemmas.Bool.Decides.{nat_tests, Decides-int_eq}
use Rattle.std.specs.List.{AllByRecursion}
use Rattle.std.specs.Ordering.{int_eq}
use Rattle.std.specs.Prelude.{nat_lt}
use Rattle.least_fault.specs.Conditions.{found_after}
use Rattle.tars_model.specs.Declarations.{Declared}
use Rattle.tars_model.specs.Members.{HaveRisingTags, IsBelowNext}
use Rattle.tars_model.specs.Schemas.{MemberFits, NamesMember}
use Rattle.tars_model.specs.Values.{is_unsigned}
use Rattle.tars_model.specs.declared.member.Member.{Member}
use Rattle.canonical_tree.specs.Says.{Pairwise, requirement_of, MemberSays}
use Rattle.idl_parse.specs.TreeSpans.{TypeIn}
use Rattle.idl_lex.specs.Meanings.{whole_number}
use Rattle.idl_parse.specs.declared.tree.member.MemberTree.{MemberTree}
use Rattle.idl_parse.specs.declared.tree.type_tree.TypeTree.{out-TypeTree}
use Rattle.idl_scene.specs.Items.{word}
use Rattle.idl_scene.specs.Known.{Scene}
use Rattle.idl_scene.specs.declared.check_fault.CheckWhy.TheVariants.{TwiceTag}
use Rattle.idl_rules.specs.Parts.{member_types}
use Rattle.idl_rules.specs.Rules.{twice_tag, tag_of, bad_written, array_at, left_out}
use Rattle.idl_schema.specs.Agreement.{place_in}
use Rattle.idl_schema.specs.SchemaOf.{member_of, resolved, default_value, as_tag, is_required, put_member, in_tag_order}
use Rattle.idl_schema.proofs.Parts.{each_weaker, each_append, each_mapped, Apart, apart_of_map}
use Rattle.idl_schema.proofs.SizeFits.{SoundType}
use Rattle.idl_schema.proofs.TypeFits.{Unfaulted}
use Rattle.idl_check.proofs.Finding.{no_fault_if, none_of, apart_finds}
use Rattle.idl_check.proofs.LiteralsSaid.{GoodDefault, default_said}
use Rattle.idl_check.proofs.Pairs.{pairs_with}
use Rattle.idl_check.proofs.TypesSaid.{Here, written_is, unfaulted_said, type_in}

-- ---- each member

requirement_is : (b : Bool) → is_required (requirement_of b) ≡ b
requirement_is true = refl
requirement_is false = refl

byte_tag : (n : ℕ) → n < 256 → is_unsigned 8 (pos n) ≡ true
byte_tag n less = grind (arith, nat_tests)

module _ (s : Scene) (e d : Declared) (here : Here s e d) where
  -- a member without a fault, and what it means
  pub record GoodMember (m : Member) (said : MemberTree) : Type 0 where
    pub means : member_of (place_in e s) said ≡ m
    pub types : AllByRecursion (Unfaulted s) (member_types said)
    pub inside : TypeIn s.text said.typed.ty
    pub default : bad_written s (out-TypeTree said.typed.ty) said.default ≡ []
    pub array : left_out s (array_at said.array) ≡ []
    pub tag : is_unsigned 8 (tag_of s said) ≡ true

  member_means : (m : Member) (said : MemberTree) → MemberFits e m → MemberSays s.text d s.home m said → GoodDefault s e d here m.ty said.typed.ty m.default said.default → member_of (place_in e s) said ≡ m
  member_means m said fits says good = λ i. record {
    tag = tag i;
    require = require i;
    ty = ty i;
    name = name i;
    default = default i;
  }
    where
      tag : as_tag (whole_number (word s.text said.tag)) ≡ m.tag
      tag = ap as_tag says.tag.is

      require : is_required said.requirement ≡ m.require
      require = ap is_required says.requirement ∙ requirement_is m.require

      ty : resolved (place_in e s) said.typed.ty ≡ m.ty
      ty = written_is s e d here says.ty fits.ty.is_type

      name : word s.text said.typed.name ≡ m.name
      name = says.name.is

      default : default_value (place_in e s) (resolved (place_in e s) said.typed.ty) said.default ≡ m.default
      default = ap (λ t. default_value (place_in e s) t said.default) ty ∙ good.means

  good_member : (m : Member) (said : MemberTree) → MemberFits e m → MemberSays s.text d s.home m said → GoodMember m said
  good_member m said fits says =
      let good = default_said s e d here says.ty fits.ty.is_type m.default said.default fits.default says.default in
      record {
        means = member_means m said fits says good;
        types = unfaulted_said s e d here says.ty fits.ty.is_type fits.ty.bounded;
        inside = type_in s e d here says.ty;
        default = good.unfaulted;
        array = ap (λ o. left_out s (array_at o)) says.array;
        tag = ap (is_unsigned 8) says.tag.is ∙ byte_tag m.tag fits.tag;
      }

  pub good_members : (ms : List Member) (said : List MemberTree) → AllByRecursion (MemberFits e) ms → Pairwise (MemberSays s.text d s.home) ms said → Pairwise GoodMember ms said
  good_members ms said fit says = pairs_with (MemberFits e) (MemberSays s.text d s.home) GoodMember good_member ms said fit says

  pub good_sound : (m : Member) (said : MemberTree) → GoodMember m said → SoundType s e here.agrees said
  good_sound m said good = (good.inside, good.types)

-- ---- their tags

abbrev Below : Member → Member → Type 0
Below a b = a.tag < b.tag

below_all : (a b c : ℕ) → a < b → b < c → a < c
below_all a b c x y = omega arith

each_above : (tag : ℕ) (ms : List Member) → IsBelowNext tag ms → HaveRisingTags ms → AllByRecursion (λ (x : Member). tag < x.tag) ms
each_above tag [] next rising = tt
each_above tag (m ∷ ms) next rising =
    (next, each_weaker (λ (x : Member). m.tag < x.tag) (λ (x : Member). tag < x.tag) (λ x above. below_all tag m.tag x.tag next above) ms (each_above m.tag ms rising.0 rising.1))

rising_apart : (ms : List Member) → HaveRisingTags ms → Apart Below ms
rising_apart [] rising = tt
rising_apart (m ∷ ms) rising = (each_above m.tag ms rising.0 rising.1, rising_apart ms rising.1)

no_both : (a b : Bool) → b ≡ false → (a && b) ≡ false
no_both true b e = e
no_both false b e = refl

ints_differ : (a b : ℤ) → as_tag b < as_tag a → int_eq a b ≡ false
ints_differ a b less = by_test (int_eq a b) (Decides-int_eq a b).0
  where
    by_test : (t : Bool) → (t ≡ true → a ≡ b) → t ≡ false
    by_test false same = refl
    by_test true same = absurd (none (as_tag b) (as_tag a) less (ap as_tag (same refl)))
      where
        none : (x y : ℕ) → x < y → y ≡ x → ⊥
        none x y less is = omega arith

-- no tag stands twice
pub none_twice_tagged : (s : Scene) (e : Declared) (said : List MemberTree) (ms : List Member) → map (member_of (place_in e s)) said ≡ ms → HaveRisingTags ms → found_after (twice_tag s) [] said ≡ []
none_twice_tagged s e said ms is rising =
    apart_finds (twice_tag s) (λ a b. as_tag (tag_of s a) < as_tag (tag_of s b)) says said
    (apart_of_map Below (member_of (place_in e s)) said (subst (Apart Below) (sym is) (rising_apart ms rising)))
  where
    says : (before : List MemberTree) (m : MemberTree) → AllByRecursion (λ (x : MemberTree). as_tag (tag_of s x) < as_tag (tag_of s m)) before → twice_tag s before m ≡ []
    says before m each =
        no_fault_if _ s.file m.tag.start TwiceTag (no_both (is_unsigned 8 (tag_of s m)) _ (none_of (λ (x : MemberTree). int_eq (tag_of s m) (tag_of s x)) before
        (each_weaker (λ (x : MemberTree). as_tag (tag_of s x) < as_tag (tag_of s m)) (λ (x : MemberTree). int_eq (tag_of s m) (tag_of s x) ≡ false) (λ x less. ints_differ (tag_of s m) (tag_of s x) less) before each)))

not_above : (a b : ℕ) → a < b → nat_lt b a ≡ false
not_above a b less = grind (arith, nat_tests)

put_last : (m : Member) (sorted : List Member) → AllByRecursion (λ x. Below x m) sorted → put_member m sorted ≡ sorted ++ m ∷ []
put_last m [] each = refl
put_last m (other ∷ sorted) each =
    ap (λ b. cond b (m ∷ other ∷ sorted) (other ∷ put_member m sorted)) (not_above other.tag m.tag each.0) ∙ ap (λ (l : List Member). other ∷ l) (put_last m sorted each.1)

all_last : (sorted ms : List Member) → AllByRecursion (λ x. AllByRecursion (Below x) ms) sorted → Apart Below ms → fold (λ sorted m. put_member m sorted) sorted ms ≡ sorted ++ ms
all_last sorted [] across apart = sym (append-nil sorted)
all_last sorted (m ∷ ms) across apart =
    ap (λ l. fold (λ sorted m. put_member m sorted) l ms) (put_last m sorted (each_weaker (λ x. AllByRecursion (Below x) (m ∷ ms)) (λ x. Below x m) (λ x all. all.0) sorted across))
    ∙ all_last (sorted ++ m ∷ []) ms
    (each_append (λ x. AllByRecursion (Below x) ms) sorted (m ∷ []) (each_weaker (λ x. AllByRecursion (Below x) (m ∷ ms)) (λ x. AllByRecursion (Below x) ms) (λ x all. all.1) sorted across) (apart.0, tt)) apart.1
    ∙ append_assoc sorted (m ∷ []) ms

-- members whose tags rise are in order
pub in_order : (ms : List Member) → HaveRisingTags ms → in_tag_order ms ≡ ms
in_order ms rising = all_last [] ms tt (rising_apart ms rising)

-- each names one
named_from : (front back : List Member) → AllByRecursion (λ (m : Member). NamesMember (front ++ back) m.name) back
named_from front [] = tt
named_from front (m ∷ back) = (
  (front, back, m, refl, refl),
  subst (λ l. AllByRecursion (λ (x : Member). NamesMember l x.name) back) (append_assoc front (m ∷ []) back) (named_from (front ++ m ∷ []) back),
)

pub members_named : (ms : List Member) → AllByRecursion (NamesMember ms) (map (λ (m : Member). m.name) ms)
members_named ms = each_mapped (NamesMember ms) (λ (m : Member). m.name) ms (named_from [] ms)
