-- An interface that says one which may be declared has no fault, and means it.
use Rattle.std.proofs.Common.{◌≡◌, ◌≤◌, ℕ, true, false, Option, Some, None, is_some, List, [], ◌∷◌, length, map, refl, sym, ap, ◌∙◌, subst}
use Rattle.std.proofs.lemmas.List.{length-map}
use Rattle.std.proofs.lemmas.List.Elements.{recursion_from_All}
use Rattle.std.specs.List.{AllByRecursion, flat_map}
use Rattle.std.specs.Prelude.{nat_eq}
use Rattle.least_fault.specs.Conditions.{found_after}
use Rattle.tars_model.specs.Declarations.{Declared, with_interface}
use Rattle.tars_model.specs.Names.{IsName, AllDiffer}
use Rattle.tars_model.specs.Schemas.{IsTypeIn, IsReturned, FuncFits, InterfaceFits}
use Rattle.tars_model.specs.declared.func_desc.FuncDesc.{FuncDesc}
use Rattle.tars_model.specs.declared.func_desc.Param.{Param}
use Rattle.tars_model.specs.declared.interface_desc.InterfaceDesc.{InterfaceDesc}
use Rattle.tars_model.specs.declared.ty.Ty.{Ty}
use Rattle.canonical_tree.specs.Says.{Pairwise, ReturnSays, ParamSays, FuncSays, InterfaceSays}
use Rattle.idl_lex.specs.declared.span.Span.{Span}
use Rattle.idl_parse.specs.declared.tree.decl.DeclTree.TheVariants as decls
use Rattle.idl_parse.specs.declared.tree.decl.InterfaceTree.{InterfaceTree}
use Rattle.idl_parse.specs.declared.tree.func.FuncTree.{FuncTree}
use Rattle.idl_parse.specs.declared.tree.func.ParamTree.{ParamTree}
use Rattle.idl_parse.specs.declared.tree.type_tree.TypeTree.{TypeTree}
use Rattle.idl_scene.specs.Items.{declared, word}
use Rattle.idl_scene.specs.Known.{Scene, no_type, find}
use Rattle.idl_scene.specs.declared.check_fault.CheckWhy.TheVariants.{TwiceName, TooMany}
use Rattle.idl_scene.specs.declared.check_fault.Fault.{Fault}
use Rattle.idl_rules.specs.Conditions.{state_with_what}
use Rattle.idl_rules.specs.Parts.{NameList, name_list, param_list, returned_types, param_types, func_types, func_params}
use Rattle.idl_rules.specs.Rules.{twice_declared, reserved_name, too_many, twice_in_list, reserved_in_list, too_many_in_list, left_out}
use Rattle.idl_schema.specs.Agreement.{Agrees, place_in}
use Rattle.idl_schema.specs.Faultless.{NoFault}
use Rattle.idl_schema.specs.SchemaOf.{resolved, param_of, returned_type, func_of, interface_of}
use Rattle.idl_schema.proofs.NextState.{interface_next}
use Rattle.idl_schema.proofs.Parts.{each_weaker, each_mapped, each_append}
use Rattle.idl_schema.proofs.TypeFits.{Unfaulted}
use Rattle.idl_check.proofs.Finding.{no_fault_if, alone_finds, each_flat, map_twice}
use Rattle.idl_check.proofs.KnownNames.{Knows, one_interface, one_renamed, knows_then}
use Rattle.idl_check.proofs.NamesFree.{none_reserved, none_twice, few_enough, words_at}
use Rattle.idl_check.proofs.Pairs.{pairs_with, pairs_right, pairs_map, pairs_made}
use Rattle.idl_check.proofs.Passing.{Passes, types_pass, absent_here, unreserved_here, room_open, Step}
use Rattle.idl_check.proofs.TypesSaid.{Here, written_is, unfaulted_said}

module _ (s : Scene) (e d : Declared) (here : Here s e d) where
  -- ---- parameters

  -- a parameter without a fault, and what it means
  record GoodParam (p : Param) (said : ParamTree) : Type 0 where
    means : param_of (place_in e s) said ≡ p
    types : AllByRecursion (Unfaulted s) (param_types said)
    routekey : left_out s said.routekey ≡ []

  good_param : (p : Param) (said : ParamTree) → IsTypeIn e p.ty → ParamSays s.text d s.home p said → GoodParam p said
  good_param p said may says = record {
    means = λ i. record { name = name i; ty = ty i; out = out i };
    types = unfaulted_said s e d here says.ty may.is_type may.bounded;
    routekey = ap (left_out s) says.routekey;
  }
    where
      name : word s.text said.typed.name ≡ p.name
      name = says.name.is

      ty : resolved (place_in e s) said.typed.ty ≡ p.ty
      ty = written_is s e d here says.ty may.is_type

      out : said.out ≡ p.out
      out = says.out

  -- ---- functions

  -- so of what is returned
  record GoodReturn (ret : Option Ty) (said : Option TypeTree) : Type 0 where
    means : returned_type (place_in e s) said ≡ ret
    types : AllByRecursion (Unfaulted s) (returned_types said)

  good_return : (ret : Option Ty) (said : Option TypeTree) → IsReturned e ret → ReturnSays s.text d s.home ret said → GoodReturn ret said
  good_return None None may says = record { means = refl; types = tt }
  good_return (Some t) (Some said) may says =
      record { means = ap (λ t. Some t) (written_is s e d here says may.is_type); types = unfaulted_said s e d here says may.is_type may.bounded }
  good_return None (Some said) may says = absurd says
  good_return (Some t) None may says = absurd says

  -- and of a function
  record GoodFunc (f : FuncDesc) (said : FuncTree) : Type 0 where
    means : func_of (place_in e s) said ≡ f
    types : AllByRecursion (Unfaulted s) (func_types said)
    routekeys : AllByRecursion (λ (p : ParamTree). left_out s p.routekey ≡ []) said.params
    twice : found_after (twice_in_list s (param_list said)) [] (param_list said).names ≡ []
    reserved : found_after (reserved_in_list s (param_list said)) [] (param_list said).names ≡ []
    few : found_after (too_many_in_list s (param_list said)) [] (param_list said).names ≡ []

  good_func : (f : FuncDesc) (said : FuncTree) → FuncFits e f → FuncSays s.text d s.home f said → GoodFunc f said
  good_func f said fits says = record {
    means = λ i. record { name = name i; ret = ret i; params = params i };
    types = each_append (Unfaulted s) (returned_types said.ret) (flat_map param_types said.params) returned.types
        (each_flat (Unfaulted s) param_types said.params (pairs_right GoodParam (λ p. AllByRecursion (Unfaulted s) (param_types p)) (λ p said good. good.types) f.params said.params good));
    routekeys = pairs_right GoodParam (λ (p : ParamTree). left_out s p.routekey ≡ []) (λ p said good. good.routekey) f.params said.params good;
    twice = none_twice s (param_list said) names (subst AllDiffer (sym names_are) fits.names_differ);
    reserved = none_reserved s true (Some 64) names (λ declares. subst (AllByRecursion IsName) (sym names_are) (each_mapped IsName (λ (p : Param). p.name) f.params (recursion_from_All (λ (p : Param). IsName p.name) f.params fits.names)));
    few = few_enough s (param_list said) names (subst (λ (n : ℕ). n ≤ 64) (sym (ap length names_are ∙ length-map f.params (λ (p : Param). p.name))) fits.few);
  }
    where
      good : Pairwise GoodParam f.params said.params
      good = pairs_with (λ (p : Param). IsTypeIn e p.ty) (ParamSays s.text d s.home) GoodParam good_param f.params said.params (recursion_from_All (λ (p : Param). IsTypeIn e p.ty) f.params fits.types) says.params

      returned : GoodReturn f.ret said.ret
      returned = good_return f.ret said.ret fits.ret says.ret

      name : word s.text said.name ≡ f.name
      name = says.name.is

      ret : returned_type (place_in e s) said.ret ≡ f.ret
      ret = returned.means

      params : map (param_of (place_in e s)) said.params ≡ f.params
      params = pairs_made GoodParam (param_of (place_in e s)) (λ p said good. good.means) f.params said.params good

      names : List Span
      names = map (λ (p : ParamTree). p.typed.name) said.params

      names_are : words_at s (map (λ (p : ParamTree). p.typed.name) said.params) ≡ map (λ (p : Param). p.name) f.params
      names_are = map_twice (word s.text) (λ (p : ParamTree). p.typed.name) said.params
          ∙ pairs_map GoodParam (λ (p : ParamTree). word s.text p.typed.name) (λ (p : Param). p.name) (λ p said good. ap (λ (p : Param). p.name) good.means) f.params said.params good

module _ (s : Scene) (e d : Declared) (here : Here s e d) (x : InterfaceDesc) (fits : InterfaceFits e x) (home_is : x.«module» ≡ s.home) (t : InterfaceTree) (says : InterfaceSays s.text d x t) where
  abbrev Good : FuncDesc → FuncTree → Type 0
  Good f said = GoodFunc s e d here f said

  good : Pairwise Good x.funcs t.funcs
  good =
      pairs_with (FuncFits e) (FuncSays s.text d s.home) Good (good_func s e d here) x.funcs t.funcs (recursion_from_All (FuncFits e) x.funcs fits.funcs)
      (subst (λ h. Pairwise (FuncSays s.text d h) x.funcs t.funcs) home_is says.funcs)

  interface_means : interface_of (place_in e s) t ≡ x
  interface_means = λ i. record { «module» = home i; name = name i; funcs = funcs i }
    where
      home : s.home ≡ x.«module»
      home = sym home_is

      name : word s.text t.name ≡ x.name
      name = says.name.is

      funcs : map (func_of (place_in e s)) t.funcs ≡ x.funcs
      funcs = pairs_made Good (func_of (place_in e s)) (λ f said good. good.means) x.funcs t.funcs good

  -- ---- the rules

  abbrev names : List Span
  names = map (λ (f : FuncTree). f.name) t.funcs

  abbrev list : NameList
  list = name_list true (Some 256) names

  names_are : words_at s names ≡ map (λ (f : FuncDesc). f.name) x.funcs
  names_are = map_twice (word s.text) (λ (f : FuncTree). f.name) t.funcs ∙ pairs_map Good (λ (f : FuncTree). word s.text f.name) (λ (f : FuncDesc). f.name) (λ f said good. ap (λ (f : FuncDesc). f.name) good.means) x.funcs t.funcs good

  names_good : AllByRecursion IsName (words_at s names)
  names_good =
      subst (AllByRecursion IsName) (sym names_are)
      (each_mapped IsName (λ (f : FuncDesc). f.name) x.funcs (each_weaker (FuncFits e) (λ (f : FuncDesc). IsName f.name) (λ f fits. fits.name) x.funcs (recursion_from_All (FuncFits e) x.funcs fits.funcs)))

  few : length (words_at s names) ≤ 256
  few = subst (λ (n : ℕ). n ≤ 256) (sym (ap length names_are ∙ length-map x.funcs (λ (f : FuncDesc). f.name))) fits.few

  absent : is_some (find s.home (word s.text t.name) s.known) ≡ false
  absent = absent_here s e d here x.«module» x.name fits.name home_is t.name says.name

  left : nat_eq s.room.interfaces 0 ≡ false
  left = room_open s.room.interfaces (length e.interfaces) 256 here.agrees.interfaces fits.room

  -- what a rule finds in the list of functions and in the parameters of each
  in_lists : (found : NameList → List Fault) → found list ≡ [] → ((f : FuncDesc) (said : FuncTree) → Good f said → found (param_list said) ≡ []) → found_after (λ (before : List NameList) list. found list) [] (list ∷ map param_list t.funcs) ≡ []
  in_lists found here each =
      alone_finds found [] (list ∷ map param_list t.funcs)
      (here, each_mapped (λ list. found list ≡ []) param_list t.funcs (pairs_right Good (λ said. found (param_list said) ≡ []) each x.funcs t.funcs good))

  interface_no_fault : NoFault s (declared (decls.Interface t))
  interface_no_fault =
      let types = types_pass s (flat_map func_types t.funcs) (each_flat (Unfaulted s) func_types t.funcs (pairs_right Good (λ f. AllByRecursion (Unfaulted s) (func_types f)) (λ f said good. good.types) x.funcs t.funcs good)) in
      record {
        reserved_block = refl;
        twice_declared = alone_finds (twice_declared s) [] (decls.Interface t ∷ []) (no_fault_if _ s.file t.name.start TwiceName absent, tt);
        reserved_name = alone_finds (reserved_name s) [] (decls.Interface t ∷ []) (unreserved_here s e d here x.«module» x.name fits.name home_is t.name says.name, tt);
        deep_struct = refl;
        too_many = alone_finds (too_many s) [] (decls.Interface t ∷ []) (no_fault_if _ s.file t.name.start TooMany left, tt);
        large_default = refl;
        unknown_type = types.unknown_type;
        float = types.float;
        bad_key = types.bad_key;
        deep_type = types.deep_type;
        unsigned_bytes = types.unsigned_bytes;
        twice_in_list = in_lists (λ (list : NameList). found_after (twice_in_list s list) [] list.names) (none_twice s list names (subst AllDiffer (sym names_are) fits.names_differ)) (λ f said good. good.twice);
        reserved_in_list = in_lists (λ (list : NameList). found_after (reserved_in_list s list) [] list.names) (none_reserved s true (Some 256) names (λ declares. names_good)) (λ f said good. good.reserved);
        too_many_in_list = in_lists (λ (list : NameList). found_after (too_many_in_list s list) [] list.names) (few_enough s list names few) (λ f said good. good.few);
        twice_tag = refl;
        tag_range = refl;
        bad_default = refl;
        bad_number = refl;
        bad_const = refl;
        unknown_struct = refl;
        unknown_members = refl;
      }

  interface_passes : Passes s (declared (decls.Interface t))
  interface_passes = record {
    no_fault = interface_no_fault;
    no_include = refl;
    array = refl;
    routekey = alone_finds (λ (p : ParamTree). left_out s p.routekey) [] (flat_map func_params t.funcs)
        (each_flat (λ (p : ParamTree). left_out s p.routekey ≡ []) func_params t.funcs
        (pairs_right Good (λ (f : FuncTree). AllByRecursion (λ (p : ParamTree). left_out s p.routekey ≡ []) f.params) (λ f said good. good.routekeys) x.funcs t.funcs good));
  }

  -- ---- what is known then

  interface_agrees : Agrees (state_with_what s (declared (decls.Interface t))) (with_interface e x)
  interface_agrees = interface_next s e here.agrees t.name absent x home_is (sym says.name.is) left

  interface_known : Knows (state_with_what s (declared (decls.Interface t))).known (with_interface e x)
  interface_known = knows_then s e here.knows t.name absent here.agrees no_type (with_interface e x) (one_renamed (sym home_is) says.name.is (one_interface e x)) refl

  pub interface_said : Step s e (decls.Interface t) (with_interface e x)
  interface_said = record { passes = interface_passes; means = ap (with_interface e) interface_means; agrees = interface_agrees; knows = interface_known }
