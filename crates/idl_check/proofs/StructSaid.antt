-- A struct that says one which may be declared has no fault, and means it.
use Rattle.std.proofs.Common.{◌≡◌, ◌≤◌, ℕ, suc, true, false, None, Some, is_some, List, [], ◌∷◌, length, map, refl, sym, ap, ◌∙◌, subst, arith}
use Rattle.std.proofs.lemmas.Bool.Decides.{nat_tests}
use Rattle.std.proofs.lemmas.List.Elements.{recursion_from_All}
use Rattle.std.specs.List.{AllByRecursion, flat_map}
use Rattle.std.specs.Prelude.{nat_lt, nat_eq}
use Rattle.least_fault.specs.Conditions.{found_after}
use Rattle.tars_model.specs.Declarations.{Declared, with_struct}
use Rattle.tars_model.specs.Names.{IsName, AllDiffer}
use Rattle.tars_model.specs.Schemas.{MemberFits, StructFits, add_up, value_size, NamesMember}
use Rattle.tars_model.specs.Types.{deepest, depths_of}
use Rattle.tars_model.specs.Values.{is_unsigned}
use Rattle.tars_model.specs.declared.member.Member.{Member}
use Rattle.tars_model.specs.declared.struct_desc.StructDesc.{StructDesc}
use Rattle.canonical_tree.specs.Says.{Pairwise, MemberSays, StructSays}
use Rattle.idl_lex.specs.declared.span.Span.{Span}
use Rattle.idl_parse.specs.declared.tree.decl.DeclTree.TheVariants as decls
use Rattle.idl_parse.specs.declared.tree.decl.StructTree.{StructTree}
use Rattle.idl_parse.specs.declared.tree.member.MemberTree.{MemberTree}
use Rattle.idl_parse.specs.declared.tree.type_tree.TypeTree.{out-TypeTree}
use Rattle.idl_scene.specs.Items.{declared, word}
use Rattle.idl_scene.specs.Known.{Scene, a_struct, find, each_once}
use Rattle.idl_scene.specs.Structs as sizes
use Rattle.idl_scene.specs.Structs.{struct_depth, struct_size}
use Rattle.idl_scene.specs.declared.check_fault.CheckWhy.TheVariants.{TwiceName, TooDeep, TooMany, TagRange}
use Rattle.idl_rules.specs.Conditions.{known_with, state_with_what}
use Rattle.idl_rules.specs.Parts.{NameList, name_list, member_types}
use Rattle.idl_rules.specs.Rules.{twice_declared, reserved_name, deep_struct, too_many, large_default, twice_in_list, reserved_in_list, too_many_in_list, tag_range, tag_of, bad_written, array_at, left_out}
use Rattle.idl_schema.specs.Agreement.{Agrees, place_in}
use Rattle.idl_schema.specs.Faultless.{NoFault}
use Rattle.idl_schema.specs.SchemaOf.{member_of, in_tag_order, struct_of}
use Rattle.idl_schema.proofs.Agreeing.{struct_new}
use Rattle.idl_schema.proofs.NextState.{struct_next}
use Rattle.idl_schema.proofs.Once.{once_each}
use Rattle.idl_schema.proofs.Parts.{each_weaker, each_mapped}
use Rattle.idl_schema.proofs.SizeFits.{SoundType, size_is, depth_is}
use Rattle.idl_schema.proofs.TypeFits.{Unfaulted, capped}
use Rattle.idl_check.proofs.Finding.{no_fault_if, no_fault_unless, alone_finds, each_flat, map_twice}
use Rattle.idl_check.proofs.KnownNames.{Knows, one_struct, one_renamed, knows_struct}
use Rattle.idl_check.proofs.MembersSaid.{GoodMember, good_members, good_sound, none_twice_tagged, in_order, members_named}
use Rattle.idl_check.proofs.NamesFree.{none_reserved, none_twice, few_enough, words_at}
use Rattle.idl_check.proofs.Pairs.{pairs_right, pairs_map, pairs_made}
use Rattle.idl_check.proofs.Passing.{Passes, types_pass, absent_here, unreserved_here, room_open, Step}
use Rattle.idl_check.proofs.TypeLayers.{capped_small}
use Rattle.idl_check.proofs.TypesSaid.{Here}

small_size : (n : ℕ) → n ≤ 1024 → sizes.capped n ≡ n
small_size n small = grind (arith, nat_tests)

not_over : (most n : ℕ) → n ≤ most → nat_lt most n ≡ false
not_over most n small = grind (arith, nat_tests)

module _ (s : Scene) (e d : Declared) (here : Here s e d) (x : StructDesc) (fits : StructFits e x) (home_is : x.«module» ≡ s.home) (t : StructTree) (says : StructSays s.text d x t) where
  abbrev Good : Member → MemberTree → Type 0
  Good m said = GoodMember s e d here m said

  good : Pairwise Good x.members t.members
  good =
      good_members s e d here x.members t.members (recursion_from_All (MemberFits e) x.members fits.members)
      (subst (λ h. Pairwise (MemberSays s.text d h) x.members t.members) home_is says.members)

  made : map (member_of (place_in e s)) t.members ≡ x.members
  made = pairs_made Good (member_of (place_in e s)) (λ m said good. good.means) x.members t.members good

  words : map (λ (m : MemberTree). word s.text m.typed.name) t.members ≡ map (λ (m : Member). m.name) x.members
  words = pairs_map Good (λ (m : MemberTree). word s.text m.typed.name) (λ (m : Member). m.name) (λ m said good. ap (λ (m : Member). m.name) good.means) x.members t.members good

  sound : AllByRecursion (SoundType s e here.agrees) t.members
  sound = pairs_right Good (SoundType s e here.agrees) (good_sound s e d here) x.members t.members good

  deep : struct_depth s t.members ≡ suc (deepest (depths_of e.structs) x.members)
  deep = depth_is s e here.agrees t.members sound ∙ ap (λ ms. capped (suc (deepest (depths_of e.structs) ms))) made ∙ capped_small (suc (deepest (depths_of e.structs) x.members)) fits.bounded

  abbrev size_of : List Member → ℕ
  size_of ms = suc (add_up (map (λ (m : Member). value_size m.default) ms))

  sized : struct_size s t.members ≡ size_of x.members
  sized = size_is s e here.agrees t.members sound ∙ ap (λ ms. sizes.capped (size_of ms)) made ∙ small_size (size_of x.members) fits.small

  struct_means : struct_of (place_in e s) t ≡ x
  struct_means = λ i. record { «module» = home i; name = name i; members = members i }
    where
      home : s.home ≡ x.«module»
      home = sym home_is

      name : word s.text t.name ≡ x.name
      name = says.name.is

      members : in_tag_order (map (member_of (place_in e s)) t.members) ≡ x.members
      members = ap in_tag_order made ∙ in_order x.members fits.rising

  -- ---- the rules

  abbrev names : List Span
  names = map (λ (m : MemberTree). m.typed.name) t.members

  abbrev list : NameList
  list = name_list true None names

  names_are : words_at s names ≡ map (λ (m : Member). m.name) x.members
  names_are = map_twice (word s.text) (λ (m : MemberTree). m.typed.name) t.members ∙ words

  names_good : AllByRecursion IsName (words_at s names)
  names_good =
      subst (AllByRecursion IsName) (sym names_are)
      (each_mapped IsName (λ (m : Member). m.name) x.members (each_weaker (MemberFits e) (λ (m : Member). IsName m.name) (λ m fits. fits.name) x.members (recursion_from_All (MemberFits e) x.members fits.members)))

  absent : is_some (find s.home (word s.text t.name) s.known) ≡ false
  absent = absent_here s e d here x.«module» x.name fits.name home_is t.name says.name

  left : nat_eq s.room.structs 0 ≡ false
  left = room_open s.room.structs (length e.structs) 1024 here.agrees.structs fits.room

  unfaulted : AllByRecursion (Unfaulted s) (flat_map member_types t.members)
  unfaulted = each_flat (Unfaulted s) member_types t.members (pairs_right Good (λ said. AllByRecursion (Unfaulted s) (member_types said)) (λ m said good. good.types) x.members t.members good)

  struct_no_fault : NoFault s (declared (decls.Struct t))
  struct_no_fault =
      let types = types_pass s (flat_map member_types t.members) unfaulted in
      record {
        reserved_block = refl;
        twice_declared = alone_finds (twice_declared s) [] (decls.Struct t ∷ []) (no_fault_if _ s.file t.name.start TwiceName absent, tt);
        reserved_name = alone_finds (reserved_name s) [] (decls.Struct t ∷ []) (unreserved_here s e d here x.«module» x.name fits.name home_is t.name says.name, tt);
        deep_struct = alone_finds (deep_struct s) [] (decls.Struct t ∷ [])
            (no_fault_if _ s.file t.name.start TooDeep (ap (nat_lt 32) deep ∙ not_over 32 (suc (deepest (depths_of e.structs) x.members)) fits.bounded), tt);
        too_many = alone_finds (too_many s) [] (decls.Struct t ∷ []) (no_fault_if _ s.file t.name.start TooMany left, tt);
        large_default = alone_finds (large_default s) [] (decls.Struct t ∷ []) (no_fault_if _ s.file t.name.start TooMany (ap (nat_lt 1024) sized ∙ not_over 1024 (size_of x.members) fits.small), tt);
        unknown_type = types.unknown_type;
        float = types.float;
        bad_key = types.bad_key;
        deep_type = types.deep_type;
        unsigned_bytes = types.unsigned_bytes;
        twice_in_list = alone_finds (λ (list : NameList). found_after (twice_in_list s list) [] list.names) [] (list ∷ []) (none_twice s list names (subst AllDiffer (sym names_are) fits.names_differ), tt);
        reserved_in_list = alone_finds (λ (list : NameList). found_after (reserved_in_list s list) [] list.names) [] (list ∷ []) (none_reserved s true None names (λ declares. names_good), tt);
        too_many_in_list = alone_finds (λ (list : NameList). found_after (too_many_in_list s list) [] list.names) [] (list ∷ []) (few_enough s list names tt, tt);
        twice_tag = none_twice_tagged s e t.members x.members made fits.rising;
        tag_range = alone_finds (λ m. tag_range s [] m) [] t.members
            (pairs_right Good (λ m. tag_range s [] m ≡ []) (λ m said good. no_fault_unless (is_unsigned 8 (tag_of s said)) s.file said.tag.start TagRange good.tag) x.members t.members good);
        bad_default = alone_finds (λ (m : MemberTree). bad_written s (out-TypeTree m.typed.ty) m.default) [] t.members
            (pairs_right Good (λ (m : MemberTree). bad_written s (out-TypeTree m.typed.ty) m.default ≡ []) (λ m said good. good.default) x.members t.members good);
        bad_number = refl;
        bad_const = refl;
        unknown_struct = refl;
        unknown_members = refl;
      }

  struct_passes : Passes s (declared (decls.Struct t))
  struct_passes = record {
    no_fault = struct_no_fault;
    no_include = refl;
    array = alone_finds (λ (m : MemberTree). left_out s (array_at m.array)) [] t.members
        (pairs_right Good (λ (m : MemberTree). left_out s (array_at m.array) ≡ []) (λ m said good. good.array) x.members t.members good);
    routekey = refl;
  }

  -- ---- what is known then

  struct_agrees : Agrees (state_with_what s (declared (decls.Struct t))) (with_struct e x)
  struct_agrees =
      struct_next s e here.agrees t.name absent x home_is (sym says.name.is) (struct_depth s t.members) (struct_size s t.members) (each_once (map (λ (m : MemberTree). word s.text m.typed.name) t.members))
      (struct_new e x _ _ _ deep (subst (λ (n : ℕ). n ≤ 32) (sym deep) fits.bounded) sized
      (once_each (NamesMember x.members) _ (subst (AllByRecursion (NamesMember x.members)) (sym words) (members_named x.members)))) left

  struct_known : Knows (state_with_what s (declared (decls.Struct t))).known (with_struct e x)
  struct_known =
      subst (λ ns. Knows (known_with s.text s.home s.known (a_struct (struct_depth s t.members) (struct_size s t.members) (each_once ns)) (Some t.name)) (with_struct e x)) (sym words)
      (knows_struct s e here.knows t.name absent here.agrees x home_is (sym says.name.is) (struct_depth s t.members) (struct_size s t.members)
      (one_renamed (sym home_is) says.name.is (one_struct e x)))

  pub struct_said : Step s e (decls.Struct t) (with_struct e x)
  struct_said = record { passes = struct_passes; means = ap (with_struct e) struct_means; agrees = struct_agrees; knows = struct_known }
