-- What no rule finds anything in, and what is shared by declarations that have a name.
use Rattle.std.proofs.Common.{◌≡◌, ◌≢◌, ◌<◌, ◌+◌, ℕ, false, is_some, List, [], sym, ap, ◌∙◌, subst, arith}
use Rattle.std.proofs.lemmas.Bool.Decides.{nat_tests}
use Rattle.std.proofs.lemmas.List.Elements.{recursion_from_All}
use Rattle.std.specs.List.{AllByRecursion}
use Rattle.std.specs.Prelude.{nat_eq}
use Rattle.tars_model.specs.Declarations.{Declared}
use Rattle.tars_model.specs.Names.{IsName}
use Rattle.tars_model.specs.Schemas.{IsNew, declared_names}
use Rattle.idl_lex.specs.declared.span.Span.{Span}
use Rattle.idl_parse.specs.declared.tree.decl.DeclTree.{DeclTree}
use Rattle.idl_parse.specs.declared.tree.type_tree.TypeTree.{TypeTree, out-TypeTree}
use Rattle.canonical_tree.specs.Says.{NameSays}
use Rattle.idl_scene.specs.Items.{What, declared, word}
use Rattle.idl_scene.specs.Known.{Scene, find}
use Rattle.idl_scene.specs.Types.{unknown_type, float, bad_key, deep_type, unsigned_bytes}
use Rattle.idl_rules.specs.Conditions.{alone, at_layer, state_with_what}
use Rattle.idl_rules.specs.Parts.{includes_of, members_of, params_of}
use Rattle.idl_rules.specs.Rules as rule
use Rattle.idl_schema.specs.Agreement.{Agrees, place_in}
use Rattle.idl_schema.specs.Faultless.{Finds, NoFault}
use Rattle.idl_schema.specs.SchemaOf.{with_decl}
use Rattle.idl_schema.proofs.Parts.{each_weaker}
use Rattle.idl_schema.proofs.TypeFits.{Unfaulted}
use Rattle.idl_check.proofs.Finding.{alone_finds}
use Rattle.idl_check.proofs.KnownNames.{Knows}
use Rattle.idl_check.proofs.NamesFree.{free_here}
use Rattle.idl_check.proofs.TypesSaid.{Here}

-- no rule finds anything in what is said, those too that a schema does not need
pub record Passes (s : Scene) (what : What) : Type 0 where
  pub no_fault : NoFault s what
  pub no_include : Finds (alone rule.no_include) s (includes_of what)
  pub array : Finds rule.array s (members_of what)
  pub routekey : Finds rule.routekey s (params_of what)

-- ---- types

-- no rule for types finds anything in them
pub record TypesPass (s : Scene) (ts : List TypeTree) : Type 0 where
  pub unknown_type : Finds (at_layer unknown_type) s ts
  pub float : Finds (at_layer float) s ts
  pub bad_key : Finds (at_layer bad_key) s ts
  pub deep_type : Finds (alone deep_type) s ts
  pub unsigned_bytes : Finds (at_layer unsigned_bytes) s ts

pub types_pass : (s : Scene) (ts : List TypeTree) → AllByRecursion (Unfaulted s) ts → TypesPass s ts
types_pass s ts each = record {
  unknown_type = alone_finds (λ t. unknown_type s (out-TypeTree t)) [] ts (each_weaker (Unfaulted s) (λ t. unknown_type s (out-TypeTree t) ≡ []) (λ t un. un.known) ts each);
  float = alone_finds (λ t. float s (out-TypeTree t)) [] ts (each_weaker (Unfaulted s) (λ t. float s (out-TypeTree t) ≡ []) (λ t un. un.no_float) ts each);
  bad_key = alone_finds (λ t. bad_key s (out-TypeTree t)) [] ts (each_weaker (Unfaulted s) (λ t. bad_key s (out-TypeTree t) ≡ []) (λ t un. un.good_key) ts each);
  deep_type = alone_finds (deep_type s) [] ts (each_weaker (Unfaulted s) (λ t. deep_type s t ≡ []) (λ t un. un.shallow) ts each);
  unsigned_bytes = alone_finds (λ t. unsigned_bytes s (out-TypeTree t)) [] ts (each_weaker (Unfaulted s) (λ t. unsigned_bytes s (out-TypeTree t) ≡ []) (λ t un. un.no_bytes) ts each);
}

-- ---- names

-- a new name where it is said
module _ (s : Scene) (e d : Declared) (here : Here s e d) (home nm : List ℕ) (new : IsNew e home nm) (home_is : home ≡ s.home) (name : Span) (says : NameSays s.text nm name) where
  pub absent_here : is_some (find s.home (word s.text name) s.known) ≡ false
  absent_here =
      ap is_some (ap (λ h. find h (word s.text name) s.known) (sym home_is) ∙ ap (λ n. find home n s.known) says.is
      ∙ here.knows.free home nm (recursion_from_All (λ n. n ≢ (home, nm)) (declared_names e) new.is_new))

  pub unreserved_here : rule.reserved s name ≡ []
  unreserved_here = free_here s name (subst IsName (sym says.is) new.is_name)

pub room_open : (left count most : ℕ) → left + count ≡ most → count < most → nat_eq left 0 ≡ false
room_open left count most all less = grind (arith, nat_tests)

-- a declaration without a fault, and what is declared and known after it
pub record Step (s : Scene) (e : Declared) (decl : DeclTree) (after : Declared) : Type 0 where
  pub passes : Passes s (declared decl)
  pub means : with_decl (place_in e s) decl ≡ after
  pub agrees : Agrees (state_with_what s (declared decl)) after
  pub knows : Knows (state_with_what s (declared decl)).known after
