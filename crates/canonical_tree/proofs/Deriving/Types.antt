-- The pieces of a type derive a tree that says the type.
use Rattle.std.proofs.Common.{◌≡◌, ◌≢◌, ◌<◌, ◌≤◌, ℕ, zero, suc, true, false, Some, List, [], ◌∷◌, ◌++◌, length, refl, ap, ◌∙◌, subst, inl, inr, arith, slice_get, length-append, append_assoc}
use Rattle.std.proofs.lemmas.Bool.{cases_Bool}
use Rattle.std.proofs.lemmas.Bool.Decides.{nat_tests}
use Rattle.std.proofs.lemmas.Slice.Eq.{bytes_eq-Decides}
use Rattle.std.specs.List.{AllByRecursion}
use Rattle.std.specs.Str.{bytes_eq}
use Rattle.tars_model.specs.Declarations.{Declared}
use Rattle.tars_model.specs.Names.{IsName}
use Rattle.tars_model.specs.Schemas.{IsTypeIn}
use Rattle.tars_model.specs.Types.{TyLayer, IsType, plain, enum, struct, vector, map, is_plain, greater, nesting, nesting_layer}
use Rattle.tars_model.specs.declared.enum_desc.EnumDesc.{EnumDesc}
use Rattle.tars_model.specs.declared.struct_desc.StructDesc.{StructDesc}
use Rattle.tars_model.specs.declared.ty.Ty.{Ty, out-Ty, map-Ty, fold_out-Ty}
use Rattle.tars_model.specs.declared.ty.Ty.TheOpen as ty
use Rattle.idl_parse.specs.Grammar.{Scoped, TypeOf}
use Rattle.idl_parse.specs.Words.{basic_of, unsigned_of}
use Rattle.idl_lex.specs.declared.keyword.Keyword.{Keyword}
use Rattle.idl_lex.specs.declared.keyword.Keyword.TheVariants as words
use Rattle.idl_lex.specs.declared.kind.Kind.TheVariants as kinds
use Rattle.idl_lex.specs.declared.sign.Sign.TheVariants as signs
use Rattle.idl_parse.specs.declared.tree.type_tree.BasicType.{BasicType}
use Rattle.idl_parse.specs.declared.tree.type_tree.BasicType.TheVariants as basics
use Rattle.canonical_tree.specs.Pieces.{Piece, word, mark, space, name_pieces, type_pieces, type_piece_layer}
use Rattle.canonical_tree.specs.Says.{ScopedSays, TypeSays, basic_word}
use Rattle.canonical_tree.specs.Says.ScopedSays.{bare, after_module}
use Rattle.canonical_tree.proofs.DeclFits.{IsPrefixOf, Continues, StructNamed, EnumNamed, all_at}
use Rattle.canonical_tree.proofs.Deriving.Kit.{Derives, done, past, one, means, spanned, part, last, in_left, in_right, absent, present, regroup}
use Rattle.canonical_tree.proofs.Deriving.Words.{name_says}

-- ---- names

other_name : (own home : List ℕ) → bytes_eq own home ≡ false → own ≢ home
other_name own home other same = cc ((bytes_eq-Decides own home).1 same)

name_derives : (text home own name : List ℕ) → IsName own → IsName name → Derives text Scoped (ScopedSays text home own name) (name_pieces home own name)
unfolding name_pieces
name_derives text home own name is_own is_name =
    elim (cases_Bool (bytes_eq own home)) [
      | inl same ↦ rw same (spanned (λ at is. absent (done (bare ((bytes_eq-Decides own home).0 same) refl (name_says is_name is)))))
      | inr other ↦
          rw other (spanned (λ scope is_scope. present (regroup (one (λ _ _ _. spanned (λ at is. done (after_module (other_name own home other) refl (name_says is_own is_scope) (name_says is_name is))))))))
    ]

-- ---- types over what is declared

pub there : {T : Type 0} (xs : List T) (k : ℕ) → k < length xs → (x : T) × (slice_get xs k ≡ Some x)
there [] k less = absurd (omega arith)
there (x ∷ xs) zero less = (x, refl)
there (x ∷ xs) (suc k) less = there xs k (omega arith)

pub type_grows : {enums structs : ℕ} {t : Ty} (more_enums more_structs : ℕ) → enums ≤ more_enums → structs ≤ more_structs → IsType enums structs t → IsType more_enums more_structs t
type_grows more_enums more_structs e s (plain is) = plain is
type_grows more_enums more_structs e s (enum is less) = enum is (omega arith)
type_grows more_enums more_structs e s (struct is less) = struct is (omega arith)
type_grows more_enums more_structs e s (vector is other of) = vector is other (type_grows more_enums more_structs e s of)
type_grows more_enums more_structs e s (map is good key to) = map is good (type_grows more_enums more_structs e s key) (type_grows more_enums more_structs e s to)

-- the structs and enums have names
pub record IsNamed (d : Declared) : Type 0 where
  pub structs : AllByRecursion StructNamed d.structs
  pub enums : AllByRecursion EnumNamed d.enums

greater_room : (a b room : ℕ) → suc (greater a b) ≤ suc room → (a ≤ room) × (b ≤ room)
greater_room a b room within = grind (arith, nat_tests)

some_nesting : (l : ty.Ty-F ℕ) → 1 ≤ nesting_layer l
some_nesting (ty.Vector of) = omega arith
some_nesting (ty.Map key to) = omega arith
some_nesting _ = omega arith

module _ (text : List ℕ) (d : Declared) (home : List ℕ) where
  pub pieces_at : (t : Ty) (l : TyLayer) → out-Ty t ≡ l → type_pieces d home t ≡ type_piece_layer d home (map-Ty Ty (List Piece) (type_pieces d home) l)
  unfolding type_pieces
  pieces_at t l is = fold_out-Ty (List Piece) (type_piece_layer d home) t ∙ ap (λ l. type_piece_layer d home (map-Ty Ty (List Piece) (type_pieces d home) l)) is

  nesting_at : (t : Ty) (l : TyLayer) → out-Ty t ≡ l → nesting t ≡ nesting_layer (map-Ty Ty ℕ nesting l)
  nesting_at t l is = fold_out-Ty ℕ nesting_layer t ∙ ap (λ l. nesting_layer (map-Ty Ty ℕ nesting l)) is

  abbrev TypeDerives : ℕ → Ty → Type 0
  TypeDerives room t = Derives text (TypeOf room) (TypeSays text d home t) (type_pieces d home t)

  -- words

  one_word : (room : ℕ) (t : Ty) (keyword : Keyword) (basic : BasicType) → basic_of (kinds.Keyword keyword) ≡ Some basic → basic_word (out-Ty t) ≡ Some basic
      → Derives text (TypeOf (suc room)) (TypeSays text d home t) (word keyword ∷ [])
  one_word room t keyword basic is means_it = in_right (in_right (in_right (in_right (means basic_of basic is (λ _ _. done (TypeSays.basic refl means_it))))))

  after_unsigned : (room : ℕ) (t : Ty) (keyword : Keyword) (basic : BasicType) → unsigned_of (kinds.Keyword keyword) ≡ Some basic → basic_word (out-Ty t) ≡ Some basic
      → Derives text (TypeOf (suc room)) (TypeSays text d home t) (word words.Unsigned ∷ space ∷ word keyword ∷ [])
  after_unsigned room t keyword basic is means_it = in_right (in_right (in_left (one (λ _ _ _. past (means unsigned_of basic is (λ _ _. done (TypeSays.basic refl means_it)))))))

  plain_derives : (room : ℕ) (t : Ty) (l : TyLayer) → out-Ty t ≡ l → is_plain l ≡ true → TypeDerives (suc room) t
  plain_derives room t ty.Bool is p = rw (pieces_at t ty.Bool is) (one_word room t words.Bool basics.Bool refl (ap basic_word is))
  plain_derives room t ty.Byte is p = rw (pieces_at t ty.Byte is) (one_word room t words.Byte basics.Byte refl (ap basic_word is))
  plain_derives room t ty.Short is p = rw (pieces_at t ty.Short is) (one_word room t words.Short basics.Short refl (ap basic_word is))
  plain_derives room t ty.Int is p = rw (pieces_at t ty.Int is) (one_word room t words.Int basics.Int refl (ap basic_word is))
  plain_derives room t ty.Long is p = rw (pieces_at t ty.Long is) (one_word room t words.Long basics.Long refl (ap basic_word is))
  plain_derives room t ty.Text is p = rw (pieces_at t ty.Text is) (one_word room t words.String basics.Text refl (ap basic_word is))
  plain_derives room t ty.UByte is p = rw (pieces_at t ty.UByte is) (after_unsigned room t words.Byte basics.UnsignedByte refl (ap basic_word is))
  plain_derives room t ty.UShort is p = rw (pieces_at t ty.UShort is) (after_unsigned room t words.Short basics.UnsignedShort refl (ap basic_word is))
  plain_derives room t ty.UInt is p = rw (pieces_at t ty.UInt is) (after_unsigned room t words.Int basics.UnsignedInt refl (ap basic_word is))
  plain_derives room t (ty.Enum k) is p = absurd cc
  plain_derives room t (ty.Struct k) is p = absurd cc
  plain_derives room t (ty.Vector of) is p = absurd cc
  plain_derives room t (ty.Map key to) is p = absurd cc

  -- names

  enum_derives : (room : ℕ) (t : Ty) (k : ℕ) (e : EnumDesc) → out-Ty t ≡ ty.Enum k → slice_get d.enums k ≡ Some e → EnumNamed e → TypeDerives (suc room) t
  enum_derives room t k e is found named =
      rw (pieces_at t (ty.Enum k) is, found)
      (in_right (in_right (in_right (in_left (last (name_derives text home e.«module» e.name named.home named.name) (λ name said. done (TypeSays.enum refl is found said)))))))

  struct_derives : (room : ℕ) (t : Ty) (k : ℕ) (s : StructDesc) → out-Ty t ≡ ty.Struct k → slice_get d.structs k ≡ Some s → StructNamed s → TypeDerives (suc room) t
  struct_derives room t k s is found named =
      rw (pieces_at t (ty.Struct k) is, found)
      (in_right (in_right (in_right (in_left (last (name_derives text home s.«module» s.name named.home named.name) (λ name said. done (TypeSays.struct refl is found said)))))))

  -- types of types

  pub vector_pieces : (t of : Ty) → out-Ty t ≡ ty.Vector of → type_pieces d home t ≡ word words.Vector ∷ mark signs.Less ∷ type_pieces d home of ++ mark signs.Greater ∷ []
  vector_pieces t of is = pieces_at t (ty.Vector of) is

  pub map_pieces : (t key to : Ty) → out-Ty t ≡ ty.Map key to
      → type_pieces d home t ≡ word words.Map ∷ mark signs.Less ∷ (type_pieces d home key ++ (mark signs.Comma ∷ space ∷ (type_pieces d home to ++ mark signs.Greater ∷ [])))
  map_pieces t key to is =
      pieces_at t (ty.Map key to) is
      ∙ ap (λ ps. word words.Map ∷ mark signs.Less ∷ ps) (append_assoc (type_pieces d home key) (mark signs.Comma ∷ space ∷ type_pieces d home to) (mark signs.Greater ∷ []))

  vector_derives : (room : ℕ) (t of : Ty) → out-Ty t ≡ ty.Vector of → TypeDerives room of → TypeDerives (suc room) t
  vector_derives room t of is inside =
      rw (vector_pieces t of is)
      (in_left (one (λ _ _ _. one (λ _ _ _. part inside (λ element said. one (λ _ _ _. done (TypeSays.vector refl is said)))))))

  map_derives : (room : ℕ) (t key to : Ty) → out-Ty t ≡ ty.Map key to → TypeDerives room key → TypeDerives room to → TypeDerives (suc room) t
  map_derives room t key to is keys values =
      rw (map_pieces t key to is)
      (in_right (in_left (one (λ _ _ _. one (λ _ _ _. part keys (λ key_tree key_said. one (λ _ _ _. past (part values (λ value_tree value_said.
      one (λ _ _ _. done (TypeSays.map refl is key_said value_said)))))))))))

  all_derive : {t : Ty} (room : ℕ) → IsNamed d → nesting t ≤ room → IsType (length d.enums) (length d.structs) t → TypeDerives room t
  all_derive {t = t} zero named within is = absurd (too_deep (fold_out-Ty ℕ nesting_layer t) (some_nesting (map-Ty Ty ℕ nesting (out-Ty t))))
    where
      too_deep : {n : ℕ} → nesting t ≡ n → 1 ≤ n → ⊥
      too_deep same some = omega arith
  all_derive (suc room) named within (plain {t = t} p) = plain_derives room t (out-Ty t) refl p
  all_derive (suc room) named within (enum {t = t} {number = k} is less) =
      let e = there d.enums k less in enum_derives room t k e.0 is e.1 (all_at EnumNamed d.enums k e.0 named.enums e.1)
  all_derive (suc room) named within (struct {t = t} {number = k} is less) =
      let s = there d.structs k less in struct_derives room t k s.0 is s.1 (all_at StructNamed d.structs k s.0 named.structs s.1)
  all_derive (suc room) named within (vector {t = t} {of = of} is other inside) =
      vector_derives room t of is (all_derive room named (omega (arith, nesting_at t (ty.Vector of) is)) inside)
  all_derive (suc room) named within (map {t = t} {key = key} {value = to} is good keys values) =
      let both = greater_room (nesting key) (nesting to) room (subst (λ n. n ≤ suc room) (nesting_at t (ty.Map key to) is) within) in
      map_derives room t key to is (all_derive room named both.0 keys) (all_derive room named both.1 values)

pub longer : {T : Type 0} (xs ys : List T) → Continues xs ys → length xs ≤ length ys
longer xs ys more = omega (arith, ap length more.1, length-append xs more.0)

-- the pieces of a type that keeps the rules over what was declared before
pub type_derives : (text : List ℕ) (d e : Declared) (home : List ℕ) (room : ℕ) (t : Ty) → 16 ≤ room → IsNamed d → IsPrefixOf e d → IsTypeIn e t
    → Derives text (TypeOf room) (TypeSays text d home t) (type_pieces d home t)
type_derives text d e home room t enough named before is =
    all_derive text d home room named (omega (arith, is.shallow))
    (type_grows (length d.enums) (length d.structs) (longer e.enums d.enums before.enums) (longer e.structs d.structs before.structs) is.is_type)
