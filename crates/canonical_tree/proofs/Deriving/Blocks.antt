-- The pieces of blocks derive entries that say the declarations.
use Rattle.std.proofs.Common.{◌≡◌, ◌≤◌, ℕ, true, false, Some, None, List, [], ◌∷◌, ◌++◌, refl, sym, ap, ◌∙◌, subst, inl, inr}
use Rattle.std.proofs.lemmas.Bool.{cases_Bool}
use Rattle.std.proofs.lemmas.Slice.Eq.{bytes_eq-Decides}
use Rattle.std.specs.List.{AllByRecursion}
use Rattle.std.specs.Str.{bytes_eq}
use Rattle.tars_model.specs.Declarations.{Declared}
use Rattle.tars_model.specs.Names.{IsName}
use Rattle.tars_model.specs.declared.decl.Decl.{Decl}
use Rattle.tars_model.specs.declared.decl.Decl.TheVariants as decl
use Rattle.canonical_text.specs.Canonical.{decl_home, key_home, struct_home}
use Rattle.idl_parse.specs.Grammar as grammar
use Rattle.idl_parse.specs.Grammar.{EntryOf, Ident, Mark, Word}
use Rattle.idl_parse.specs.Rules.{Rel, Gives, ◌⟫◌, Many, more}
use Rattle.idl_lex.specs.declared.keyword.Keyword.TheVariants as words
use Rattle.idl_lex.specs.declared.sign.Sign.TheVariants as signs
use Rattle.idl_lex.specs.declared.token.Token.{Token}
use Rattle.idl_parse.specs.declared.tree.decl.DeclTree.{DeclTree}
use Rattle.idl_parse.specs.declared.tree.module.Entry.{Entry}
use Rattle.idl_parse.specs.declared.tree.module.Entry.TheVariants as entries
use Rattle.canonical_tree.specs.Pieces.{Piece, tokens_at, decl_pieces, turn_pieces, block_start_pieces, block_pieces}
use Rattle.canonical_tree.specs.Says.{Pairwise, HomeSays, EntriesSay, none, block}
use Rattle.canonical_tree.proofs.DeclFits.{DeclFits, StructNamed, all_at}
use Rattle.canonical_tree.proofs.Deriving.Decls.{key_struct, decl_derives}
use Rattle.canonical_tree.proofs.Deriving.Kit.{Derives, Ended, done, past, one, spanned, last, no_more, none_before, one_before}
use Rattle.canonical_tree.proofs.Deriving.Types.{IsNamed}
use Rattle.canonical_tree.proofs.Deriving.Words.{name_says}

pub home_named : (d : Declared) (next : Decl) → IsNamed d → DeclFits d next → IsName (decl_home d next)
home_named d (decl.Struct k) named (s, found, (e, before, fits)) = subst IsName (sym (ap struct_home found)) fits.name.home_is_name
home_named d (decl.Enum k) named (desc, found, (e, before, fits)) = rw found fits.name.home_is_name
home_named d (decl.Const k) named (c, found, (e, before, fits)) = rw found fits.name.home_is_name
home_named d (decl.Key n) named (k, found, (e, before, fits)) =
    let of = key_struct d e k.of before fits.struct in
    let s = all_at StructNamed d.structs k.of of.0 named.structs of.1 in
    subst IsName (sym (ap (key_home d) found ∙ ap struct_home of.1)) s.home
home_named d (decl.Interface k) named (i, found, (e, before, fits)) = rw found fits.name.home_is_name

-- a declaration in its block, and those that follow it
abbrev from_decl : Declared → Decl → List Decl → List Piece
from_decl d next order = decl_pieces d next ++ block_pieces d (Some (decl_home d next)) order

module _ (text : List ℕ) (d : Declared) (room : ℕ) (enough : 16 ≤ room) (named : IsNamed d) where
  -- the rest of a block, and the blocks after it
  abbrev Open : (List DeclTree → List Entry → List Entry) → Rel (List Entry)
  Open f = Many (Ended (grammar.Decl room)) ⟫ λ xs. Mark signs.CloseBrace ⟫ λ _. Mark signs.Semicolon ⟫ λ _. Many (EntryOf room) ⟫ λ later. Gives (f xs later)

  -- what they say
  record OpenSays (home : List ℕ) (order : List Decl) (xs : List DeclTree) (later : List Entry) : Type 0 where
    these : List Decl
    rest : List Decl
    whole : order ≡ these ++ rest
    here : Pairwise (HomeSays text d home) these xs
    after : EntriesSay text d later rest

  abbrev OpenDerives : List ℕ → List Decl → List Piece → Type 1
  OpenDerives home order ps =
      (f : List DeclTree → List Entry → List Entry) (F : List Entry → Type 0) → ((xs : List DeclTree) (later : List Entry) → OpenSays home order xs later → F (f xs later)) → Derives text (Open f) F ps

  -- one declaration more
  one_decl : (home : List ℕ) (next : Decl) (order : List Decl) (ps : List Piece) → decl_home d next ≡ home → DeclFits d next → OpenDerives home order ps
      → OpenDerives home (next ∷ order) (decl_pieces d next ++ ps)
  one_decl home next order ps here fits later f F says =
      one_before (decl_derives text d room enough named next fits) (λ x said. later (λ xs entries. f (x ∷ xs) entries) F (λ xs entries inside.
      says (x ∷ xs) entries (record { these = next ∷ inside.these; rest = inside.rest; whole = ap (λ o. next ∷ o) inside.whole; here = ((here, said), inside.here); after = inside.after })))

  -- a module, and the entries after it
  abbrev Opened : Rel (List Entry)
  Opened = Word words.Module ⟫ λ _. Ident ⟫ λ name. Mark signs.OpenBrace ⟫ λ _. Open (λ xs later. entries.Module (record { name = name; decls = xs }) ∷ later)

  entries_of : (tokens : List Token) (tree : List Entry) (rest : List Token) → Opened tokens tree rest → Many (EntryOf room) tokens tree rest
  entries_of tokens tree rest (t, a, p, (name, b, q, (brace, c, r, (xs, g, ds, (close, h, s, (end, i, u, (later, j, es, (is, ends)))))))) =
      subst (λ tree. Many (EntryOf room) tokens tree rest) is
      (more (inr (t, a, p, (name, b, q, (brace, c, r, (xs, h, (xs, g, ds, (close, h, s, (refl, refl))), (end, i, u, (refl, refl))))))) (subst (λ rest. Many (EntryOf room) i later rest) ends es))

  as_entries : {F : List Entry → Type 0} {ps : List Piece} → Derives text Opened F ps → Derives text (Many (EntryOf room)) F ps
  as_entries {ps = ps} r = record {
    derive = λ at placed. let h = r.derive at placed in record { tree = h.tree; derived = λ rest. entries_of (tokens_at at ps ++ rest) h.tree rest (h.derived rest); tells = h.tells };
  }

  a_module : (home : List ℕ) (order : List Decl) (ps : List Piece) → IsName home → OpenDerives home order ps
      → Derives text (Many (EntryOf room)) (λ tree. EntriesSay text d tree order) (block_start_pieces home ++ ps)
  unfolding block_start_pieces
  a_module home order ps is_name inside =
      as_entries (one (λ _ _ _. past (spanned (λ name is. past (one (λ _ _ _. past (
      inside (λ xs later. entries.Module (record { name = name; decls = xs }) ∷ later) (λ tree. EntriesSay text d tree order) (λ xs later said.
      block said.these said.rest is_name said.whole (name_says is_name is) said.here said.after))))))))

  -- ---- all blocks

  next_block : (home : List ℕ) (next : Decl) (order : List Decl) → bytes_eq home (decl_home d next) ≡ false → DeclFits d next
      → OpenDerives (decl_home d next) (next ∷ order) (from_decl d next order)
      → OpenDerives home (next ∷ order) (block_pieces d (Some home) (next ∷ order))
  unfolding block_pieces turn_pieces block_start_pieces
  next_block home next order other fits inside f F says =
      rw other (none_before (one (λ _ _ _. one (λ _ _ _. past (last (a_module (decl_home d next) (next ∷ order) _ (home_named d next named fits) inside) (λ later said.
      done (says [] later (record { these = []; rest = next ∷ order; whole = refl; here = tt; after = said }))))))))

  same_block : (home : List ℕ) (next : Decl) (order : List Decl) → bytes_eq home (decl_home d next) ≡ true → OpenDerives (decl_home d next) (next ∷ order) (from_decl d next order)
      → OpenDerives home (next ∷ order) (block_pieces d (Some home) (next ∷ order))
  unfolding block_pieces turn_pieces
  same_block home next order same inside =
      rw same (subst (λ h. OpenDerives h (next ∷ order) (from_decl d next order)) (sym ((bytes_eq-Decides home (decl_home d next)).0 same)) inside)

  inside_block : (home : List ℕ) (order : List Decl) → AllByRecursion (DeclFits d) order → OpenDerives home order (block_pieces d (Some home) order)
  unfolding block_pieces
  inside_block home [] all = λ f F says.
      none_before (one (λ _ _ _. one (λ _ _ _. past (none_before (done (says [] [] (record { these = []; rest = []; whole = refl; here = tt; after = none })))))))
  inside_block home (next ∷ order) all =
      let first = one_decl (decl_home d next) next order (block_pieces d (Some (decl_home d next)) order) refl all.0 (inside_block (decl_home d next) order all.1) in
      elim (cases_Bool (bytes_eq home (decl_home d next))) [
        | inl same ↦ same_block home next order same first
        | inr other ↦ next_block home next order other all.0 first
      ]

  pub blocks_derive : (order : List Decl) → AllByRecursion (DeclFits d) order → Derives text (Many (EntryOf room)) (λ tree. EntriesSay text d tree order) (block_pieces d None order)
  unfolding block_pieces turn_pieces block_start_pieces
  blocks_derive [] all = no_more none
  blocks_derive (next ∷ order) all =
      a_module (decl_home d next) (next ∷ order) (from_decl d next order) (home_named d next named all.0)
      (one_decl (decl_home d next) next order (block_pieces d (Some (decl_home d next)) order) refl all.0 (inside_block (decl_home d next) order all.1))
