-- Constants, keys and interfaces in which no rule finds anything may be declared.
use Rattle.std.proofs.Common.{◌≡◌, ◌<◌, ◌≤◌, ◌^◌, ℕ, Bool, true, false, Option, Some, None, List, [], ◌∷◌, length, map, refl, sym, ap, ◌∙◌, subst, arith, ◌||◌}
use Rattle.std.proofs.lemmas.List.{length-map}
use Rattle.std.proofs.lemmas.List.Elements.{All-from_recursion, recursion_from_All}
use Rattle.std.proofs.lemmas.Slice.Eq.{bytes_eq-Decides}
use Rattle.std.specs.List.{AllByRecursion, list_any, flat_map}
use Rattle.std.specs.Str.{bytes_eq}
use Rattle.least_fault.specs.Conditions.{found_after}
use Rattle.tars_model.specs.Declarations.{Declared, members_at}
use Rattle.tars_model.specs.Names.{IsName}
use Rattle.tars_model.specs.Schemas.{IsTypeIn, ConstFits, KeyFits, IsReturned, FuncFits, InterfaceFits, NamesMember}
use Rattle.tars_model.specs.declared.func_desc.FuncDesc.{FuncDesc}
use Rattle.tars_model.specs.declared.func_desc.Param.{Param}
use Rattle.idl_parse.specs.Nesting.{IsNested, FuncNests, ParamNests, DeclNests}
use Rattle.idl_parse.specs.TreeSpans.{IfThere, NameIn, TypeIn, ParamIn, FuncIn, DeclIn}
use Rattle.idl_lex.specs.declared.span.Span.{Span}
use Rattle.idl_parse.specs.declared.tree.decl.ConstTree.{ConstTree}
use Rattle.idl_parse.specs.declared.tree.decl.DeclTree.TheVariants as decls
use Rattle.idl_parse.specs.declared.tree.decl.InterfaceTree.{InterfaceTree}
use Rattle.idl_parse.specs.declared.tree.decl.KeyTree.{KeyTree}
use Rattle.idl_parse.specs.declared.tree.func.FuncTree.{FuncTree}
use Rattle.idl_parse.specs.declared.tree.func.ParamTree.{ParamTree}
use Rattle.idl_parse.specs.declared.tree.type_tree.TypeTree.{TypeTree, out-TypeTree}
use Rattle.idl_scene.specs.Items.{declared, word}
use Rattle.idl_scene.specs.Known.{Meaning, Scene, find, is_struct, is_enum, members_of}
use Rattle.idl_scene.specs.Literals.{fits_literal, literal_start}
use Rattle.idl_scene.specs.Types.{is_type, types_in}
use Rattle.idl_scene.specs.declared.check_fault.CheckWhy.TheVariants.{TwiceName, TooMany, BadDefault, UnknownName}
use Rattle.idl_rules.specs.Parts.{NameList, name_list, param_list, func_types, returned_types, param_types}
use Rattle.idl_rules.specs.Rules.{twice_declared, reserved_name, too_many, twice_in_list, reserved_in_list, too_many_in_list, bad_const, unknown_struct, unknown_member, unknown_members}
use Rattle.idl_schema.specs.Agreement.{MeansIn, struct_meant, enum_meant, no_type_meant, Agrees, place_in}
use Rattle.idl_schema.specs.Faultless.{NoFault, AreBytes}
use Rattle.idl_schema.specs.SchemaOf.{const_of, key_of, or_first, param_of, returned_type, func_of, interface_of, struct_number}
use Rattle.idl_schema.proofs.ListFits.{free_name, free_names, names_apart, few_names, OtherWord}
use Rattle.idl_schema.proofs.LiteralFits.{literal_spells}
use Rattle.idl_schema.proofs.Nothing.{passed, holds, alone_nothing}
use Rattle.idl_schema.proofs.PartFits.{is_new, types_unfaulted}
use Rattle.idl_schema.proofs.Parts.{each_parts, each_weaker, each_mapped, each_of_map, each_of_flat, apart_of_map, apart_mapped, all_differ, Others}
use Rattle.idl_schema.proofs.StructFit.{room_left}
use Rattle.idl_schema.proofs.TypeFits.{Unfaulted, type_fits}

clash : {A : Type 0} (b : Bool) → b ≡ true → b ≡ false → A
clash true a b = absurd cc
clash false a b = absurd cc

-- ---- keys

-- a name that stands in names of which each is so
named_so : (P : List ℕ → Type 0) (name : List ℕ) (names : List (List ℕ)) → AllByRecursion P names → list_any (bytes_eq name) names ≡ true → P name
named_so P name [] each e = absurd cc
named_so P name (n ∷ names) each e = by_test (bytes_eq name n) refl e (named_so P name names each.1)
  where
    by_test : (b : Bool) → bytes_eq name n ≡ b → (b || list_any (bytes_eq name) names) ≡ true → (list_any (bytes_eq name) names ≡ true → P name) → P name
    by_test true is e rest = subst P (sym ((bytes_eq-Decides name n).0 is)) each.0
    by_test false is e rest = rest e

record IsKeyOf (d : Declared) (number : Option ℕ) (names : List (List ℕ)) : Type 0 where
  struct : or_first number < length d.structs
  members : AllByRecursion (NamesMember (members_at d (or_first number))) names

key_of_means : (d : Declared) (m : Option Meaning) (sn en : Option ℕ) → MeansIn d m sn en → is_struct m ≡ true → (names : List (List ℕ)) → AllByRecursion (λ name. list_any (bytes_eq name) (members_of m) ≡ true) names → IsKeyOf d sn names
key_of_means d m sn en (struct_meant {number = number} {members = members} is_m is_s st) is names each = record {
  struct = subst (λ (o : Option ℕ). or_first o < length d.structs) (sym is_s) st.within;
  members = subst (λ (o : Option ℕ). AllByRecursion (NamesMember (members_at d (or_first o))) names) (sym is_s)
      (each_weaker (λ name. list_any (bytes_eq name) (members_of m) ≡ true) (NamesMember (members_at d number))
      (λ name e. named_so (NamesMember (members_at d number)) name members st.named (sym (ap (λ o. list_any (bytes_eq name) (members_of o)) is_m) ∙ e)) names each);
}
key_of_means d m sn en (enum_meant is_m no_struct is_e enum) is names each = clash (is_struct m) is (ap is_struct is_m)
key_of_means d m sn en (no_type_meant none a b) is names each = clash (is_type m) (ap (λ b. b || is_enum m) is) none

module _ (s : Scene) (d : Declared) (agrees : Agrees (record { known = s.known; room = s.room }) d) where
  module _ (k : KeyTree) (nothing : NoFault s (declared (decls.Key k))) where
    is_key_of : IsKeyOf d (struct_number d s.home (word s.text k.struct_name)) (map (word s.text) k.members)
    is_key_of =
        let meaning = find s.home (word s.text k.struct_name) s.known in
        key_of_means d meaning _ _ (agrees.means s.home (word s.text k.struct_name))
        (holds (is_struct meaning) s.file k.struct_name.start UnknownName (alone_nothing (λ k. unknown_struct s [] k) [] (k ∷ []) nothing.unknown_struct).0)
        (map (word s.text) k.members)
        (each_mapped (λ name. list_any (bytes_eq name) (members_of meaning) ≡ true) (word s.text) k.members
        (each_weaker (λ name. unknown_member s (members_of meaning) [] name ≡ []) (λ name. list_any (bytes_eq (word s.text name)) (members_of meaning) ≡ true)
        (λ name e. holds (list_any (bytes_eq (word s.text name)) (members_of meaning)) s.file name.start UnknownName e) k.members
        (alone_nothing (λ name. unknown_member s (members_of meaning) [] name) [] k.members
        (alone_nothing (λ k. unknown_members s [] k) [] (k ∷ []) nothing.unknown_members).0)))

    pub key_fits : length d.keys < 2 ^ 32 → KeyFits d (key_of (place_in d s) k)
    key_fits room = record {
      struct = is_key_of.struct;
      members = All-from_recursion (NamesMember (members_at d _)) (map (word s.text) k.members) is_key_of.members;
      differ = all_differ (map (word s.text) k.members) (apart_mapped Others (word s.text) k.members
          (names_apart s (name_list false None k.members) k.members
          (alone_nothing (λ (list : NameList). found_after (twice_in_list s list) [] list.names) [] (name_list false None k.members ∷ []) nothing.twice_in_list).0));
      room = room;
    }

  -- ---- constants

  module _ (c : ConstTree) (short : length s.text < 2 ^ 32) (nothing : NoFault s (declared (decls.Const c))) (inside : DeclIn s.text (decls.Const c)) (nests : DeclNests 16 (decls.Const c)) where
    const_types : AllByRecursion (Unfaulted s) (types_in c.typed.ty)
    const_types = types_unfaulted s (types_in c.typed.ty) nothing.unknown_type nothing.float nothing.bad_key nothing.deep_type nothing.unsigned_bytes

    pub const_fits : AreBytes s.text → IsName s.home → ConstFits d (const_of (place_in d s) c)
    const_fits bytes home = record {
      name = is_new s d c.typed.name agrees.taken (passed _ s.file c.typed.name.start TwiceName (alone_nothing (twice_declared s) [] (decls.Const c ∷ []) nothing.twice_declared).0) home
          (free_name s c.typed.name inside.0.1 (alone_nothing (reserved_name s) [] (decls.Const c ∷ []) nothing.reserved_name).0);
      ty = type_fits s d agrees inside.0.0 nests const_types;
      value = (literal_spells s d agrees None inside.0.0 c.value inside.1 short bytes
          (holds (fits_literal s None (out-TypeTree c.typed.ty) c.value) s.file (literal_start c.value) BadDefault (alone_nothing (λ c. bad_const s [] c) [] (c ∷ []) nothing.bad_const).0)).is_literal;
      room = room_left s.room.consts (length d.consts) 1024 (passed _ s.file c.typed.name.start TooMany (alone_nothing (too_many s) [] (decls.Const c ∷ []) nothing.too_many).0) agrees.consts;
    }

  -- ---- functions

  returned_fits : (o : Option TypeTree) → IfThere (TypeIn s.text) o → IfThere (IsNested 16) o → AllByRecursion (Unfaulted s) (returned_types o) → IsReturned d (returned_type (place_in d s) o)
  returned_fits None inside nests all = tt
  returned_fits (Some t) inside nests all = type_fits s d agrees inside nests all

  params_fit : (ps : List ParamTree) → AllByRecursion (ParamIn s.text) ps → AllByRecursion (ParamNests 16) ps → AllByRecursion (λ p. AllByRecursion (Unfaulted s) (param_types p)) ps
      → AllByRecursion (λ (p : Param). IsTypeIn d p.ty) (map (param_of (place_in d s)) ps)
  params_fit [] inside nests all = tt
  params_fit (p ∷ ps) inside nests all = (type_fits s d agrees inside.0.0 nests.0 all.0, params_fit ps inside.1 nests.1 all.1)

  -- no rule finds anything in a function
  record GoodFunc (f : FuncTree) : Type 0 where
    inside : FuncIn s.text f
    nests : FuncNests 16 f
    types : AllByRecursion (Unfaulted s) (func_types f)
    name : IsName (word s.text f.name)
    twice : found_after (twice_in_list s (param_list f)) [] (param_list f).names ≡ []
    reserved : found_after (reserved_in_list s (param_list f)) [] (param_list f).names ≡ []
    many : found_after (too_many_in_list s (param_list f)) [] (param_list f).names ≡ []

  func_fits : (f : FuncTree) → GoodFunc f → FuncFits d (func_of (place_in d s) f)
  func_fits f good =
      let types = each_parts (Unfaulted s) (returned_types f.ret) (flat_map param_types f.params) good.types in
      let inside = recursion_from_All (ParamIn s.text) f.params good.inside.params in
      let names = map (λ (p : ParamTree). p.typed.name) f.params in
      record {
        name = good.name;
        ret = returned_fits f.ret good.inside.ret good.nests.0 types.0;
        names = All-from_recursion (λ (p : Param). IsName p.name) (map (param_of (place_in d s)) f.params)
            (each_mapped (λ (p : Param). IsName p.name) (param_of (place_in d s)) f.params (each_of_map (λ n. IsName (word s.text n)) (λ (p : ParamTree). p.typed.name) f.params
            (free_names s (Some 64) (map (λ (p : ParamTree). p.typed.name) f.params)
            (each_mapped (NameIn s.text) (λ (p : ParamTree). p.typed.name) f.params (each_weaker (ParamIn s.text) (λ (p : ParamTree). NameIn s.text p.typed.name) (λ p is. is.1) f.params inside)) good.reserved)));
        types = All-from_recursion (λ (p : Param). IsTypeIn d p.ty) (map (param_of (place_in d s)) f.params)
            (params_fit f.params inside (recursion_from_All (ParamNests 16) f.params good.nests.1) (each_of_flat (Unfaulted s) param_types f.params types.1));
        names_differ = all_differ (map (λ (p : Param). p.name) (map (param_of (place_in d s)) f.params))
            (apart_mapped Others (λ (p : Param). p.name) (map (param_of (place_in d s)) f.params)
            (apart_mapped (λ (a b : Param). Others a.name b.name) (param_of (place_in d s)) f.params (apart_of_map (OtherWord s) (λ (p : ParamTree). p.typed.name) f.params
            (names_apart s (param_list f) (map (λ (p : ParamTree). p.typed.name) f.params) good.twice))));
        few =
            let most = few_names s (param_list f) 64 refl (map (λ (p : ParamTree). p.typed.name) f.params) good.many in
            let same : length (map (param_of (place_in d s)) f.params) ≡ length (map (λ (p : ParamTree). p.typed.name) f.params) =
            length-map f.params (param_of (place_in d s)) ∙ sym (length-map f.params (λ (p : ParamTree). p.typed.name)) in
            omega arith;
      }

  good_funcs : (fs : List FuncTree) → AllByRecursion (FuncIn s.text) fs → AllByRecursion (FuncNests 16) fs → AllByRecursion (λ f. AllByRecursion (Unfaulted s) (func_types f)) fs
      → AllByRecursion (λ (f : FuncTree). IsName (word s.text f.name)) fs → AllByRecursion (λ (list : NameList). found_after (twice_in_list s list) [] list.names ≡ []) (map param_list fs)
      → AllByRecursion (λ (list : NameList). found_after (reserved_in_list s list) [] list.names ≡ []) (map param_list fs)
      → AllByRecursion (λ (list : NameList). found_after (too_many_in_list s list) [] list.names ≡ []) (map param_list fs) → AllByRecursion GoodFunc fs
  good_funcs [] a b c n t r m = tt
  good_funcs (f ∷ fs) a b c n t r m =
      (record { inside = a.0; nests = b.0; types = c.0; name = n.0; twice = t.0; reserved = r.0; many = m.0 }, good_funcs fs a.1 b.1 c.1 n.1 t.1 r.1 m.1)

  module _ (i : InterfaceTree) (nothing : NoFault s (declared (decls.Interface i))) (inside : DeclIn s.text (decls.Interface i)) (nests : DeclNests 16 (decls.Interface i)) where
    abbrev names : List Span
    names = map (λ (f : FuncTree). f.name) i.funcs

    abbrev lists : List NameList
    lists = name_list true (Some 256) names ∷ map param_list i.funcs

    abbrev funcs : List FuncDesc
    funcs = map (func_of (place_in d s)) i.funcs

    twice : AllByRecursion (λ (list : NameList). found_after (twice_in_list s list) [] list.names ≡ []) lists
    twice = alone_nothing (λ (list : NameList). found_after (twice_in_list s list) [] list.names) [] lists nothing.twice_in_list

    reserved : AllByRecursion (λ (list : NameList). found_after (reserved_in_list s list) [] list.names ≡ []) lists
    reserved = alone_nothing (λ (list : NameList). found_after (reserved_in_list s list) [] list.names) [] lists nothing.reserved_in_list

    many : AllByRecursion (λ (list : NameList). found_after (too_many_in_list s list) [] list.names ≡ []) lists
    many = alone_nothing (λ (list : NameList). found_after (too_many_in_list s list) [] list.names) [] lists nothing.too_many_in_list

    funcs_inside : AllByRecursion (FuncIn s.text) i.funcs
    funcs_inside = recursion_from_All (FuncIn s.text) i.funcs inside.1

    funcs_named : AllByRecursion (λ (f : FuncTree). IsName (word s.text f.name)) i.funcs
    funcs_named =
        each_of_map (λ n. IsName (word s.text n)) (λ (f : FuncTree). f.name) i.funcs (free_names s (Some 256) names
        (each_mapped (NameIn s.text) (λ (f : FuncTree). f.name) i.funcs (each_weaker (FuncIn s.text) (λ (f : FuncTree). NameIn s.text f.name) (λ f is. is.name) i.funcs funcs_inside)) reserved.0)

    good : AllByRecursion GoodFunc i.funcs
    good =
        good_funcs i.funcs funcs_inside (recursion_from_All (FuncNests 16) i.funcs nests) (each_of_flat (Unfaulted s) func_types i.funcs
        (types_unfaulted s (flat_map func_types i.funcs) nothing.unknown_type nothing.float nothing.bad_key nothing.deep_type nothing.unsigned_bytes)) funcs_named twice.1 reserved.1 many.1

    few : length funcs ≤ 256
    few =
        let most = few_names s (name_list true (Some 256) names) 256 refl names many.0 in
        let same : length funcs ≡ length names = length-map i.funcs (func_of (place_in d s)) ∙ sym (length-map i.funcs (λ (f : FuncTree). f.name)) in
        omega arith

    pub interface_fits : IsName s.home → InterfaceFits d (interface_of (place_in d s) i)
    interface_fits home = record {
      name = is_new s d i.name agrees.taken (passed _ s.file i.name.start TwiceName (alone_nothing (twice_declared s) [] (decls.Interface i ∷ []) nothing.twice_declared).0) home
          (free_name s i.name inside.0 (alone_nothing (reserved_name s) [] (decls.Interface i ∷ []) nothing.reserved_name).0);
      funcs = All-from_recursion (FuncFits d) funcs (each_mapped (FuncFits d) (func_of (place_in d s)) i.funcs (each_weaker GoodFunc (λ f. FuncFits d (func_of (place_in d s) f)) func_fits i.funcs good));
      names_differ = all_differ (map (λ (f : FuncDesc). f.name) funcs)
          (apart_mapped Others (λ (f : FuncDesc). f.name) funcs (apart_mapped (λ (a b : FuncDesc). Others a.name b.name) (func_of (place_in d s)) i.funcs
          (apart_of_map (OtherWord s) (λ (f : FuncTree). f.name) i.funcs (names_apart s (name_list true (Some 256) names) names twice.0))));
      few = few;
      room = room_left s.room.interfaces (length d.interfaces) 256 (passed _ s.file i.name.start TooMany (alone_nothing (too_many s) [] (decls.Interface i ∷ []) nothing.too_many).0) agrees.interfaces;
    }
