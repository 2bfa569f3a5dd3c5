-- A constant that says one which may be declared has no fault, and means it.
use Rattle.std.proofs.Common.{◌≡◌, false, None, is_some, [], ◌∷◌, length, refl, sym, ap, subst}
use Rattle.std.specs.Prelude.{nat_eq}
use Rattle.tars_model.specs.Declarations.{Declared, with_const}
use Rattle.tars_model.specs.Schemas.{ConstFits}
use Rattle.tars_model.specs.declared.const_desc.ConstDesc.{ConstDesc}
use Rattle.canonical_tree.specs.Says.{TypeSays, ConstSays}
use Rattle.idl_parse.specs.declared.tree.decl.ConstTree.{ConstTree}
use Rattle.idl_parse.specs.declared.tree.decl.DeclTree.TheVariants as decls
use Rattle.idl_parse.specs.declared.tree.type_tree.TypeTree.{out-TypeTree}
use Rattle.idl_scene.specs.Items.{declared, word}
use Rattle.idl_scene.specs.Known.{Scene, no_type, find}
use Rattle.idl_scene.specs.Literals.{fits_literal, literal_start}
use Rattle.idl_scene.specs.Types.{types_in}
use Rattle.idl_scene.specs.declared.check_fault.CheckWhy.TheVariants.{TwiceName, TooMany, BadDefault}
use Rattle.idl_rules.specs.Conditions.{state_with_what}
use Rattle.idl_rules.specs.Rules.{twice_declared, reserved_name, too_many, bad_const}
use Rattle.idl_schema.specs.Agreement.{Agrees, place_in}
use Rattle.idl_schema.specs.Faultless.{NoFault}
use Rattle.idl_schema.specs.SchemaOf.{resolved, literal_value, const_of}
use Rattle.idl_schema.proofs.NextState.{const_next}
use Rattle.idl_check.proofs.Finding.{no_fault_if, no_fault_unless, alone_finds}
use Rattle.idl_check.proofs.KnownNames.{Knows, one_const, one_renamed, knows_then}
use Rattle.idl_check.proofs.LiteralsSaid.{literal_means, literal_fits}
use Rattle.idl_check.proofs.Passing.{Passes, types_pass, absent_here, unreserved_here, room_open, Step}
use Rattle.idl_check.proofs.TypesSaid.{Here, written_is, unfaulted_said}

module _ (s : Scene) (e d : Declared) (here : Here s e d) (x : ConstDesc) (fits : ConstFits e x) (home_is : x.«module» ≡ s.home) (t : ConstTree) (says : ConstSays s.text d x t) where
  type_says : TypeSays s.text d s.home x.ty t.typed.ty
  type_says = subst (λ h. TypeSays s.text d h x.ty t.typed.ty) home_is says.ty

  const_means : const_of (place_in e s) t ≡ x
  const_means = λ i. record { «module» = home i; name = name i; ty = ty i; value = value i }
    where
      home : s.home ≡ x.«module»
      home = sym home_is

      name : word s.text t.typed.name ≡ x.name
      name = says.name.is

      ty : resolved (place_in e s) t.typed.ty ≡ x.ty
      ty = written_is s e d here type_says fits.ty.is_type

      value : literal_value (place_in e s) (resolved (place_in e s) t.typed.ty) t.value ≡ x.value
      value = literal_means s e d here (resolved (place_in e s) t.typed.ty) x.value t.value says.value

  -- ---- the rules

  absent : is_some (find s.home (word s.text t.typed.name) s.known) ≡ false
  absent = absent_here s e d here x.«module» x.name fits.name home_is t.typed.name says.name

  left : nat_eq s.room.consts 0 ≡ false
  left = room_open s.room.consts (length e.consts) 1024 here.agrees.consts fits.room

  const_no_fault : NoFault s (declared (decls.Const t))
  const_no_fault =
      let types = types_pass s (types_in t.typed.ty) (unfaulted_said s e d here type_says fits.ty.is_type fits.ty.bounded) in
      record {
        reserved_block = refl;
        twice_declared = alone_finds (twice_declared s) [] (decls.Const t ∷ []) (no_fault_if _ s.file t.typed.name.start TwiceName absent, tt);
        reserved_name = alone_finds (reserved_name s) [] (decls.Const t ∷ []) (unreserved_here s e d here x.«module» x.name fits.name home_is t.typed.name says.name, tt);
        deep_struct = refl;
        too_many = alone_finds (too_many s) [] (decls.Const t ∷ []) (no_fault_if _ s.file t.typed.name.start TooMany left, tt);
        large_default = refl;
        unknown_type = types.unknown_type;
        float = types.float;
        bad_key = types.bad_key;
        deep_type = types.deep_type;
        unsigned_bytes = types.unsigned_bytes;
        twice_in_list = refl;
        reserved_in_list = refl;
        too_many_in_list = refl;
        twice_tag = refl;
        tag_range = refl;
        bad_default = refl;
        bad_number = refl;
        bad_const = alone_finds (λ c. bad_const s [] c) [] (t ∷ [])
            (no_fault_unless (fits_literal s None (out-TypeTree t.typed.ty) t.value) s.file (literal_start t.value) BadDefault (literal_fits s e d here type_says fits.ty.is_type None x.value t.value says.value fits.value tt), tt);
        unknown_struct = refl;
        unknown_members = refl;
      }

  const_passes : Passes s (declared (decls.Const t))
  const_passes = record { no_fault = const_no_fault; no_include = refl; array = refl; routekey = refl }

  -- ---- what is known then

  const_agrees : Agrees (state_with_what s (declared (decls.Const t))) (with_const e x)
  const_agrees = const_next s e here.agrees t.typed.name absent x home_is (sym says.name.is) left

  const_known : Knows (state_with_what s (declared (decls.Const t))).known (with_const e x)
  const_known = knows_then s e here.knows t.typed.name absent here.agrees no_type (with_const e x) (one_renamed (sym home_is) says.name.is (one_const e x)) refl

  pub const_said : Step s e (decls.Const t) (with_const e x)
  const_said = record { passes = const_passes; means = ap (with_const e) const_means; agrees = const_agrees; knows = const_known }
