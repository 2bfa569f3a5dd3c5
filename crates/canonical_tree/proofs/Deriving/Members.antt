-- The pieces of members and parameters derive trees that say them.
use Rattle.std.proofs.Common.{◌≡◌, ◌≤◌, ℕ, Bool, true, false, if◌then◌else◌, Option, Some, None, List, [], ◌∷◌, ◌++◌, refl, sym, subst, arith, decimal, append_assoc}
use Rattle.tars_model.specs.Declarations.{Declared}
use Rattle.tars_model.specs.Names.{IsName}
use Rattle.tars_model.specs.Schemas.{IsTypeIn, MemberFits}
use Rattle.tars_model.specs.declared.func_desc.Param.{Param}
use Rattle.tars_model.specs.declared.member.Member.{Member}
use Rattle.tars_model.specs.declared.ty.Ty.{Ty, out-Ty}
use Rattle.tars_model.specs.declared.value.Value.{Value, out-Value}
use Rattle.canonical_text.specs.Canonical.{is_absent}
use Rattle.idl_parse.specs.Grammar as grammar
use Rattle.idl_parse.specs.Grammar.{Array, LiteralOf, Word, is_there, Mark, TypeOf, Typed}
use Rattle.idl_parse.specs.Rules.{Rel, Gives, ◌⟫◌, Maybe, Means}
use Rattle.idl_parse.specs.Words.{requirement_of}
use Rattle.idl_lex.specs.declared.keyword.Keyword.TheVariants as words
use Rattle.idl_lex.specs.declared.sign.Sign.TheVariants as signs
use Rattle.idl_lex.specs.declared.span.Span.{Span}
use Rattle.idl_lex.specs.declared.token.Token.{Token}
use Rattle.idl_parse.specs.declared.tree.member.Requirement.{Requirement}
use Rattle.idl_parse.specs.declared.tree.member.Requirement.TheVariants.{Require, Optional}
use Rattle.idl_parse.specs.declared.tree.type_tree.TypeTree.{TypeTree}
use Rattle.idl_parse.specs.declared.tree.type_tree.TypedName.{TypedName}
use Rattle.canonical_tree.specs.Pieces.{Piece, mark, ident, number, space, deep_indent, requirement_piece, literal_pieces, default_pieces, member_pieces, direction_pieces, param_pieces, type_pieces}
use Rattle.canonical_tree.specs.Says as says
use Rattle.canonical_tree.specs.Says.{NameSays, TypeSays, DefaultSays, MemberSays, ParamSays}
use Rattle.canonical_tree.proofs.DeclFits.{IsPrefixOf}
use Rattle.canonical_tree.proofs.Deriving.Kit.{WordAt, Derives, Ended, done, past, one, means, spanned, part, last, ended, given, in_left, in_right, regroup, absent, present}
use Rattle.canonical_tree.proofs.Deriving.Literals.{HasLiteral, literal_derives, written_has}
use Rattle.canonical_tree.proofs.Deriving.Types.{IsNamed, type_derives}
use Rattle.canonical_tree.proofs.Deriving.Words.{name_says, decimal_says}

module _ {text : List ℕ} where
  -- a type and a name
  pub typed : {B : Type 0} {E : TypeTree → Type 0} {name : List ℕ} {Q : TypedName → Rel B} {F : B → Type 0} {ps qs : List Piece} (room : ℕ) → Derives text (TypeOf room) E ps → IsName name
      → ((tree : TypedName) → E tree.ty → NameSays text name tree.name → Derives text (Q tree) F qs) → Derives text (Typed room ⟫ Q) F (ps ++ (space ∷ ident name ∷ qs))
  typed room ty is_name later = regroup (part ty (λ tree e. past (regroup (spanned (λ at is. given (later (record { ty = tree; name = at }) e (name_says is_name is)))))))

  requirement : {B : Type 0} {Q : Token × Requirement → Rel B} {F : B → Type 0} {ps : List Piece} (require : Bool) → ((t : Token) → Derives text (Q (t, says.requirement_of require)) F ps)
      → Derives text (Means requirement_of ⟫ Q) F (requirement_piece require ∷ ps)
  requirement true later = means requirement_of Require refl (λ t _. later t)
  requirement false later = means requirement_of Optional refl (λ t _. later t)

  default : (v : Value) (none : Bool) → (none ≡ false → HasLiteral (out-Value v))
      → Derives text (Maybe (Mark signs.Equals ⟫ λ _. LiteralOf)) (DefaultSays text v none) (if none then [] else space ∷ mark signs.Equals ∷ space ∷ literal_pieces v)
  default v true has = in_right (done refl)
  default v false has = past (in_left (regroup (one (λ _ _ _. past (last (literal_derives text v (has refl)) (λ l e. done (l, refl, e)))))))

-- over what is declared, in a module; e was declared before
module _ (text : List ℕ) (d e : Declared) (home : List ℕ) (room : ℕ) (enough : 16 ≤ room) (named : IsNamed d) (before : IsPrefixOf e d) where
  pub typed_as : {B : Type 0} {name : List ℕ} {Q : TypedName → Rel B} {F : B → Type 0} {ps : List Piece} (t : Ty) → IsTypeIn e t → IsName name
      → ((tree : TypedName) → TypeSays text d home t tree.ty → NameSays text name tree.name → Derives text (Q tree) F ps) → Derives text (Typed room ⟫ Q) F (type_pieces d home t ++ (space ∷ ident name ∷ ps))
  typed_as t is is_name later = typed room (type_derives text d e home room t enough named before is) is_name later

  after_requirement : (m : Member) → MemberFits e m → (tag : Span) → WordAt text (decimal m.tag) tag → Derives text
      (Typed room ⟫ λ typed. Maybe Array ⟫ λ array. Maybe (Mark signs.Equals ⟫ λ _. LiteralOf) ⟫ λ default.
      Gives (record { tag = tag; requirement = says.requirement_of m.require; typed = typed; array = array; default = default }))
      (MemberSays text d home m) (type_pieces d home m.ty ++ (space ∷ ident m.name ∷ default_pieces d m))
  unfolding default_pieces
  after_requirement m fits tag is_tag =
      typed_as m.ty fits.ty fits.name (λ tree ty_said name_said. absent (
      last (default m.default (is_absent d (out-Ty m.ty) (out-Value m.default)) (written_has e d m.ty m.default before fits.ty.is_type fits.default)) (λ literal said.
      done (record { tag = decimal_says m.tag (omega (arith, fits.tag)) is_tag; requirement = refl; ty = ty_said; name = name_said; array = refl; default = said }))))

  member_core : (m : Member) → MemberFits e m → Derives text (grammar.Member room) (MemberSays text d home m)
      (deep_indent ∷ number (decimal m.tag) ∷ space ∷ requirement_piece m.require ∷ space ∷ (type_pieces d home m.ty ++ (space ∷ ident m.name ∷ default_pieces d m)))
  member_core m fits = past (spanned (λ tag is_tag. past (requirement m.require (λ t. past (after_requirement m fits tag is_tag)))))

  -- a member, and the semicolon after it
  pub member_derives : (m : Member) → MemberFits e m → Derives text (Ended (grammar.Member room)) (MemberSays text d home m) (member_pieces d home m)
  unfolding member_pieces
  member_derives m fits = ended (member_core m fits)

  direction : {B : Type 0} {Q : Option Token → Rel B} {F : B → Type 0} {ps : List Piece} (out : Bool) → ((t : Option Token) → is_there t ≡ out → Derives text (Q t) F ps)
      → Derives text (Maybe (Word words.Out) ⟫ Q) F (direction_pieces out ++ ps)
  direction true later = present (one (λ t _ _. past (later (Some t) refl)))
  direction false later = absent (later None refl)

  pub param_derives : (p : Param) → IsName p.name → IsTypeIn e p.ty → Derives text (grammar.Param room) (ParamSays text d home p) (param_pieces d home p)
  unfolding param_pieces
  param_derives p is_name is_type =
      subst (Derives text (grammar.Param room) (ParamSays text d home p)) (sym (append_assoc (direction_pieces p.out) (type_pieces d home p.ty) (space ∷ ident p.name ∷ [])))
      (absent (direction p.out (λ t same. typed_as p.ty is_type is_name (λ tree ty_said name_said.
      done (record { routekey = refl; out = same; ty = ty_said; name = name_said })))))
