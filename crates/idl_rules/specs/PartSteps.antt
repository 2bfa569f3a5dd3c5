-- For the proofs: the tags of members and the numbers of enumerators, as the code keeps them.
use Rattle.std.specs.Prelude.{◌≡◌, ◌<◌, ℕ, nat_eq, if◌then◌else◌, ℤ, pos, ◌+ℤ◌, Option, Some, None, List, [], ◌∷◌, ◌++◌, true, not}
use Rattle.std.specs.List.{list_any}
use Rattle.std.specs.Ordering.{int_eq}
use Rattle.tars_model.specs.Values.{is_signed}
use Rattle.idl_lex.specs.declared.span.Span.{Span}
use Rattle.idl_parse.specs.declared.tree.decl.EnumItem.{EnumItem}
use Rattle.idl_parse.specs.declared.tree.member.MemberTree.{MemberTree}
use Rattle.idl_parse.specs.declared.tree.type_tree.TypeTree.{out-TypeTree}
use Rattle.idl_scene.specs.Faults.{fault_if}
use Rattle.idl_scene.specs.Known.{Scene}
use Rattle.idl_scene.specs.Literals.{number_start}
use Rattle.idl_scene.specs.NumberSteps.{tag_at}
use Rattle.idl_scene.specs.declared.check_fault.CheckWhy.TheVariants.{TwiceTag, TagRange, BadDefault}
use Rattle.idl_scene.specs.declared.check_fault.Fault.{Fault}
use Rattle.idl_rules.specs.Rules.{tag_of, bad_written, left_out, array_at}

-- a tag stands among these numbers just where it stands in the members
pub record HasSameTags (s : Scene) (tags : List ℕ) (members : List MemberTree) : Type 0 where
  pub same : (tag : ℕ) → tag < 256 → list_any (nat_eq tag) tags ≡ list_any (λ m. int_eq (pos tag) (tag_of s m)) members

abbrev pub tags_with : List ℕ → Option ℕ → List ℕ
tags_with tags None = tags
tags_with tags (Some tag) = if list_any (nat_eq tag) tags then tags else tags ++ tag ∷ []

-- what is found at a tag after members with these tags
abbrev pub faults_of_tag : Scene → List ℕ → Span → Option ℕ → List Fault
faults_of_tag s tags span None = fault_if true s.file span.start TagRange
faults_of_tag s tags span (Some tag) = fault_if (not (not (list_any (nat_eq tag) tags))) s.file span.start TwiceTag

-- what is found at a member after members with these tags
abbrev pub faults_of_member : Scene → List ℕ → MemberTree → List Fault
faults_of_member s tags m =
    faults_of_tag s tags m.tag (tag_at s m.tag) ++ (bad_written s (out-TypeTree m.typed.ty) m.default ++ left_out s (array_at m.array))

abbrev pub number_after_int : Option ℤ → ℤ
number_after_int None = pos 0
number_after_int (Some n) = n +ℤ pos 1

-- what is found at an enumerator, of this number
abbrev pub faults_of_number : Scene → EnumItem → ℤ → List Fault
faults_of_number s i n = fault_if (not (is_signed 31 n)) s.file (number_start i i.number) BadDefault
