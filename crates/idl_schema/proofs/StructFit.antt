-- A struct in which no rule finds anything may be declared.
use Rattle.std.proofs.Common.{◌≡◌, ◌<◌, ◌≤◌, ◌^◌, ◌+◌, ℕ, suc, true, false, None, List, [], ◌∷◌, length, map, sym, ap, ◌∙◌, subst, arith}
use Rattle.std.proofs.lemmas.Bool.Decides.{nat_tests}
use Rattle.std.proofs.lemmas.List.Elements.{All-from_recursion, recursion_from_All}
use Rattle.std.specs.List.{AllByRecursion, flat_map}
use Rattle.std.specs.Prelude.{nat_lt, nat_eq}
use Rattle.least_fault.specs.Conditions.{found_after}
use Rattle.tars_model.specs.Declarations.{Declared}
use Rattle.tars_model.specs.Names.{IsName}
use Rattle.tars_model.specs.Members.{HaveRisingTags}
use Rattle.tars_model.specs.Schemas.{MemberFits, StructFits, add_up, value_size, NamesMember}
use Rattle.tars_model.specs.Types.{deepest, depths_of}
use Rattle.tars_model.specs.Values.{is_unsigned}
use Rattle.tars_model.specs.declared.member.Member.{Member}
use Rattle.idl_parse.specs.Nesting.{MemberNests, DeclNests}
use Rattle.idl_parse.specs.TreeSpans.{NameIn, MemberIn, DeclIn}
use Rattle.idl_lex.specs.declared.span.Span.{Span}
use Rattle.idl_parse.specs.declared.tree.decl.DeclTree.TheVariants as decls
use Rattle.idl_parse.specs.declared.tree.decl.StructTree.{StructTree}
use Rattle.idl_parse.specs.declared.tree.member.MemberTree.{MemberTree}
use Rattle.idl_parse.specs.declared.tree.type_tree.TypeTree.{out-TypeTree}
use Rattle.idl_scene.specs.Items.{declared, word}
use Rattle.idl_scene.specs.Known.{Scene}
use Rattle.idl_scene.specs.Structs.{struct_depth, struct_size}
use Rattle.idl_scene.specs.declared.check_fault.CheckWhy.TheVariants.{TwiceName, TooDeep, TooMany, TagRange}
use Rattle.idl_rules.specs.Parts.{NameList, name_list, member_types}
use Rattle.idl_rules.specs.Rules.{twice_declared, reserved_name, deep_struct, too_many, large_default, twice_in_list, reserved_in_list, bad_written, tag_range, tag_of}
use Rattle.idl_schema.specs.Agreement.{Agrees, place_in}
use Rattle.idl_schema.specs.Faultless.{NoFault, AreBytes}
use Rattle.idl_schema.specs.SchemaOf.{member_of, in_tag_order, struct_of}
use Rattle.idl_schema.proofs.ListFits.{free_name, free_names, names_apart, OtherWord}
use Rattle.idl_schema.proofs.Nothing.{passed, holds, alone_nothing}
use Rattle.idl_schema.proofs.PartFits.{is_new, types_unfaulted, GoodMember, member_fits, sound_type, OtherTagAs, tags_apart, as_tag_apart}
use Rattle.idl_schema.proofs.Parts.{each_weaker, each_mapped, each_of_map, each_of_flat, Apart, apart_of_map, apart_mapped, all_differ, Others}
use Rattle.idl_schema.proofs.SizeFits.{SoundType, small_size, small_depth, size_is, depth_is}
use Rattle.idl_schema.proofs.Sorting.{OtherTag, OtherName, sorted_each, sorted_sum, sorted_deepest, sorted_rising, sorted_apart, sorted_have}
use Rattle.idl_schema.proofs.TypeFits.{Unfaulted}

-- room is left
pub room_left : (left count most : ℕ) → nat_eq left 0 ≡ false → left + count ≡ most → count < most
room_left left count most some all = grind (arith, nat_tests)

abbrev BytesTag : Scene → MemberTree → Type 0
BytesTag s m = is_unsigned 8 (tag_of s m) ≡ true

other_tags : (s : Scene) (d : Declared) (m : MemberTree) (ms : List MemberTree) → BytesTag s m → AllByRecursion (BytesTag s) ms → AllByRecursion (OtherTagAs s m) ms
    → AllByRecursion (λ x. OtherTag (member_of (place_in d s) m) (member_of (place_in d s) x)) ms
other_tags s d m [] is tags other = tt
other_tags s d m (x ∷ ms) is tags other = (as_tag_apart (tag_of s m) (tag_of s x) is tags.0 other.0, other_tags s d m ms is tags.1 other.1)

tags_differ : (s : Scene) (d : Declared) (ms : List MemberTree) → AllByRecursion (BytesTag s) ms → Apart (OtherTagAs s) ms → Apart (λ a b. OtherTag (member_of (place_in d s) a) (member_of (place_in d s) b)) ms
tags_differ s d [] tags apart = tt
tags_differ s d (m ∷ ms) tags apart = (other_tags s d m ms tags.0 tags.1 apart.0, tags_differ s d ms tags.1 apart.1)

module _ (s : Scene) (d : Declared) (agrees : Agrees (record { known = s.known; room = s.room }) d) (short : length s.text < 2 ^ 32) where
  abbrev Good : MemberTree → Type 0
  Good m = GoodMember s d agrees short m

  good_members : (ms : List MemberTree) → AllByRecursion (MemberIn s.text) ms → AllByRecursion (MemberNests 16) ms → AllByRecursion (λ m. AllByRecursion (Unfaulted s) (member_types m)) ms
      → AllByRecursion (λ (m : MemberTree). IsName (word s.text m.typed.name)) ms → AllByRecursion (λ (m : MemberTree). bad_written s (out-TypeTree m.typed.ty) m.default ≡ []) ms
      → AllByRecursion (BytesTag s) ms → AllByRecursion Good ms
  good_members [] a b c n e t = tt
  good_members (m ∷ ms) a b c n e t =
      (record { inside = a.0; nested = b.0; types = c.0; name = n.0; default = e.0; tag = t.0 }, good_members ms a.1 b.1 c.1 n.1 e.1 t.1)

  names_of : (ms : List MemberTree) → AllByRecursion (MemberIn s.text) ms → AllByRecursion (NameIn s.text) (map (λ (m : MemberTree). m.typed.name) ms)
  names_of ms inside = each_mapped (NameIn s.text) (λ (m : MemberTree). m.typed.name) ms (each_weaker (MemberIn s.text) (λ (m : MemberTree). NameIn s.text m.typed.name) (λ m is. is.typed.1) ms inside)

  module _ (t : StructTree) (nothing : NoFault s (declared (decls.Struct t))) (inside : DeclIn s.text (decls.Struct t)) (nests : DeclNests 16 (decls.Struct t)) where
    abbrev written_members : List Member
    written_members = map (member_of (place_in d s)) t.members

    abbrev names : List Span
    names = map (λ (m : MemberTree). m.typed.name) t.members

    members_inside : AllByRecursion (MemberIn s.text) t.members
    members_inside = recursion_from_All (MemberIn s.text) t.members inside.1

    tags : AllByRecursion (BytesTag s) t.members
    tags =
        each_weaker (λ m. tag_range s [] m ≡ []) (BytesTag s) (λ m e. holds (is_unsigned 8 (tag_of s m)) s.file m.tag.start TagRange e) t.members
        (alone_nothing (λ m. tag_range s [] m) [] t.members nothing.tag_range)

    members_named : AllByRecursion (λ (m : MemberTree). IsName (word s.text m.typed.name)) t.members
    members_named =
        each_of_map (λ n. IsName (word s.text n)) (λ (m : MemberTree). m.typed.name) t.members
        (free_names s None names (names_of t.members members_inside)
        (alone_nothing (λ (list : NameList). found_after (reserved_in_list s list) [] list.names) [] (name_list true None names ∷ []) nothing.reserved_in_list).0)

    pub good : AllByRecursion Good t.members
    good =
        good_members t.members members_inside (recursion_from_All (MemberNests 16) t.members nests)
        (each_of_flat (Unfaulted s) member_types t.members
        (types_unfaulted s (flat_map member_types t.members) nothing.unknown_type nothing.float nothing.bad_key nothing.deep_type nothing.unsigned_bytes))
        members_named (alone_nothing (λ (m : MemberTree). bad_written s (out-TypeTree m.typed.ty) m.default) [] t.members nothing.bad_default) tags

    rising : HaveRisingTags (in_tag_order written_members)
    rising = sorted_rising written_members (apart_mapped OtherTag (member_of (place_in d s)) t.members (tags_differ s d t.members tags (tags_apart s t.members tags nothing.twice_tag)))

    apart : Apart OtherName (in_tag_order written_members)
    apart =
        sorted_apart written_members (apart_mapped OtherName (member_of (place_in d s)) t.members
        (apart_of_map (OtherWord s) (λ (m : MemberTree). m.typed.name) t.members
        (names_apart s (name_list true None names) names
        (alone_nothing (λ (list : NameList). found_after (twice_in_list s list) [] list.names) [] (name_list true None names ∷ []) nothing.twice_in_list).0)))

    fit_members : AreBytes s.text → AllByRecursion (MemberFits d) written_members
    fit_members bytes = each_mapped (MemberFits d) (member_of (place_in d s)) t.members (each_weaker Good (λ m. MemberFits d (member_of (place_in d s) m)) (member_fits s d agrees short bytes) t.members good)

    sound : AllByRecursion (SoundType s d agrees) t.members
    sound = each_weaker Good (SoundType s d agrees) (sound_type s d agrees short) t.members good

    struct_deep : (suc (deepest (depths_of d.structs) (in_tag_order written_members)) ≤ 32) × (struct_depth s t.members ≡ suc (deepest (depths_of d.structs) (in_tag_order written_members)))
    struct_deep =
        let is = depth_is s d agrees t.members sound in
        let small = small_depth (suc (deepest (depths_of d.structs) written_members)) (subst (λ (n : ℕ). nat_lt 32 n ≡ false) is
        (passed _ s.file t.name.start TooDeep (alone_nothing (deep_struct s) [] (decls.Struct t ∷ []) nothing.deep_struct).0)) in
        let same = sorted_deepest (depths_of d.structs) written_members in
        (subst (λ (n : ℕ). suc n ≤ 32) (sym same) small.0, is ∙ small.1 ∙ ap (λ (n : ℕ). suc n) (sym same))

    abbrev size_of : List Member → ℕ
    size_of ms = suc (add_up (map (λ (m : Member). value_size m.default) ms))

    struct_small : (size_of (in_tag_order written_members) ≤ 1024) × (struct_size s t.members ≡ size_of (in_tag_order written_members))
    struct_small =
        let is = size_is s d agrees t.members sound in
        let small = small_size (size_of written_members) (subst (λ (n : ℕ). nat_lt 1024 n ≡ false) is
        (passed _ s.file t.name.start TooMany (alone_nothing (large_default s) [] (decls.Struct t ∷ []) nothing.large_default).0)) in
        let same = sorted_sum (λ (m : Member). value_size m.default) written_members in
        (subst (λ (n : ℕ). suc n ≤ 1024) (sym same) small.0, is ∙ small.1 ∙ ap (λ (n : ℕ). suc n) (sym same))

    pub struct_fits : AreBytes s.text → IsName s.home → StructFits d (struct_of (place_in d s) t)
    struct_fits bytes home = record {
      name = is_new s d t.name agrees.taken (passed _ s.file t.name.start TwiceName (alone_nothing (twice_declared s) [] (decls.Struct t ∷ []) nothing.twice_declared).0) home
          (free_name s t.name inside.0 (alone_nothing (reserved_name s) [] (decls.Struct t ∷ []) nothing.reserved_name).0);
      rising = rising;
      members = All-from_recursion (MemberFits d) (in_tag_order written_members) (sorted_each (MemberFits d) written_members (fit_members bytes));
      names_differ = all_differ (map (λ (m : Member). m.name) (in_tag_order written_members)) (apart_mapped Others (λ (m : Member). m.name) (in_tag_order written_members) apart);
      bounded = struct_deep.0;
      small = struct_small.0;
      room = room_left s.room.structs (length d.structs) 1024 (passed _ s.file t.name.start TooMany (alone_nothing (too_many s) [] (decls.Struct t ∷ []) nothing.too_many).0) agrees.structs;
    }

    -- the names of its members
    pub struct_names : AllByRecursion (NamesMember (in_tag_order written_members)) (map (λ (m : MemberTree). word s.text m.typed.name) t.members)
    struct_names =
        each_mapped (NamesMember (in_tag_order written_members)) (λ (m : MemberTree). word s.text m.typed.name) t.members
        (each_of_map (λ (m : Member). NamesMember (in_tag_order written_members) m.name) (member_of (place_in d s)) t.members (sorted_have written_members))

    pub depth_counted : (struct_depth s t.members ≡ suc (deepest (depths_of d.structs) (in_tag_order written_members))) × (struct_depth s t.members ≤ 32)
    depth_counted = (struct_deep.1, subst (λ (n : ℕ). n ≤ 32) (sym struct_deep.1) struct_deep.0)

    pub size_counted : struct_size s t.members ≡ suc (add_up (map (λ (m : Member). value_size m.default) (in_tag_order written_members)))
    size_counted = struct_small.1
