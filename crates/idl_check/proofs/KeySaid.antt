-- A key that says one which may be declared has no fault, and means it.
use Rattle.std.proofs.Common.{◌≡◌, ℕ, Bool, true, false, ◌||◌, cond, Some, None, List, [], ◌∷◌, ◌++◌, map, fold, refl, sym, ap, ◌∙◌, subst}
use Rattle.std.proofs.lemmas.List.Elements.{recursion_from_All}
use Rattle.std.proofs.lemmas.Slice.Eq.{bytes_eq-Decides}
use Rattle.std.specs.List.{AllByRecursion, list_any}
use Rattle.std.specs.Prelude.{slice_get}
use Rattle.std.specs.Str.{bytes_eq}
use Rattle.least_fault.specs.Conditions.{found_after}
use Rattle.tars_model.specs.Declarations.{Declared, with_key, members_at}
use Rattle.tars_model.specs.Names.{AllDiffer}
use Rattle.tars_model.specs.Schemas.{KeyFits, NamesMember}
use Rattle.tars_model.specs.declared.key_desc.KeyDesc.{KeyDesc}
use Rattle.tars_model.specs.declared.member.Member.{Member}
use Rattle.canonical_text.specs.Canonical.{struct_home}
use Rattle.canonical_tree.specs.Says.{NameSays, KeySays}
use Rattle.idl_lex.specs.declared.span.Span.{Span}
use Rattle.idl_parse.specs.declared.tree.decl.DeclTree.TheVariants as decls
use Rattle.idl_parse.specs.declared.tree.decl.KeyTree.{KeyTree}
use Rattle.idl_scene.specs.Items.{declared, word}
use Rattle.idl_scene.specs.Known.{Scene, find, is_struct, members_of, once_more, each_once}
use Rattle.idl_scene.specs.declared.check_fault.CheckWhy.TheVariants.{UnknownName}
use Rattle.idl_rules.specs.Conditions.{state_with_what}
use Rattle.idl_rules.specs.Parts.{NameList, name_list}
use Rattle.idl_rules.specs.Rules.{twice_in_list, reserved_in_list, too_many_in_list, unknown_struct, unknown_member, unknown_members}
use Rattle.idl_schema.specs.Agreement.{Agrees, place_in}
use Rattle.idl_schema.specs.Faultless.{NoFault}
use Rattle.idl_schema.specs.SchemaOf.{struct_number, or_first, key_of}
use Rattle.idl_schema.proofs.NextState.{key_next}
use Rattle.idl_check.proofs.Finding.{no_fault_unless, alone_finds}
use Rattle.idl_check.proofs.KnownNames.{Knows, means_struct, member_names}
use Rattle.idl_check.proofs.NamesFree.{none_reserved, none_twice, few_enough}
use Rattle.idl_check.proofs.Pairs.{pairs_with, pairs_right, pairs_made}
use Rattle.idl_check.proofs.Passing.{Passes, Step}
use Rattle.idl_check.proofs.TypesSaid.{Here}

-- ---- words that are among others

either : (a b : Bool) → b ≡ true → (a || b) ≡ true
either true b e = refl
either false b e = e

any_first : (sought : List ℕ) (words more : List (List ℕ)) → list_any (bytes_eq sought) words ≡ true → list_any (bytes_eq sought) (words ++ more) ≡ true
any_first sought [] more e = cc
any_first sought (w ∷ words) more e = by_test (bytes_eq sought w) (any_first sought words more) e
  where
    by_test : (b : Bool) → (list_any (bytes_eq sought) words ≡ true → list_any (bytes_eq sought) (words ++ more) ≡ true) → (b || list_any (bytes_eq sought) words) ≡ true → (b || list_any (bytes_eq sought) (words ++ more)) ≡ true
    by_test true rest e = refl
    by_test false rest e = rest e

its_own : (sought : List ℕ) (words more : List (List ℕ)) → list_any (bytes_eq sought) (words ++ sought ∷ more) ≡ true
its_own sought [] more = ap (λ b. b || list_any (bytes_eq sought) more) ((bytes_eq-Decides sought sought).1 refl)
its_own sought (w ∷ words) more = either (bytes_eq sought w) _ (its_own sought words more)

-- a word stays, and is there once it was seen
still_there : (sought new : List ℕ) (words : List (List ℕ)) → list_any (bytes_eq sought) words ≡ true → list_any (bytes_eq sought) (once_more words new) ≡ true
still_there sought new words e = by_test (list_any (bytes_eq new) words)
  where
    by_test : (b : Bool) → list_any (bytes_eq sought) (cond b words (words ++ new ∷ [])) ≡ true
    by_test true = e
    by_test false = any_first sought words (new ∷ []) e

there_then : (sought : List ℕ) (words : List (List ℕ)) → list_any (bytes_eq sought) (once_more words sought) ≡ true
there_then sought words = by_test (list_any (bytes_eq sought) words) refl
  where
    by_test : (b : Bool) → list_any (bytes_eq sought) words ≡ b → list_any (bytes_eq sought) (cond b words (words ++ sought ∷ [])) ≡ true
    by_test true e = e
    by_test false e = its_own sought words []

once_keeps : (sought : List ℕ) (words more : List (List ℕ)) → list_any (bytes_eq sought) words ≡ true → list_any (bytes_eq sought) (fold once_more words more) ≡ true
once_keeps sought words [] e = e
once_keeps sought words (w ∷ more) e = once_keeps sought (once_more words w) more (still_there sought w words e)

once_has : (sought : List ℕ) (words front back : List (List ℕ)) → list_any (bytes_eq sought) (fold once_more words (front ++ sought ∷ back)) ≡ true
once_has sought words [] back = once_keeps sought (once_more words sought) back (there_then sought words)
once_has sought words (w ∷ front) back = once_has sought (once_more words w) front back

map_around : {A B : Type 0} (f : A → B) (front : List A) (x : A) (back : List A) → map f (front ++ x ∷ back) ≡ map f front ++ f x ∷ map f back
map_around f [] x back = refl
map_around f (y ∷ front) x back = ap (λ l. f y ∷ l) (map_around f front x back)

named_found : (ms : List Member) (name : List ℕ) → NamesMember ms name → list_any (bytes_eq name) (each_once (map (λ (m : Member). m.name) ms)) ≡ true
named_found ms name (front, back, m, is, named) =
    ap (λ ms. list_any (bytes_eq name) (each_once (map (λ (m : Member). m.name) ms))) is ∙ ap (λ ns. list_any (bytes_eq name) (each_once ns)) (map_around (λ (m : Member). m.name) front m back)
    ∙ ap (λ n. list_any (bytes_eq name) (each_once (map (λ (m : Member). m.name) front ++ n ∷ map (λ (m : Member). m.name) back))) named
    ∙ once_has name [] (map (λ (m : Member). m.name) front) (map (λ (m : Member). m.name) back)

module _ (s : Scene) (e d : Declared) (here : Here s e d) (x : KeyDesc) (fits : KeyFits e x) (home_is : struct_home (slice_get d.structs x.of) ≡ s.home) (t : KeyTree) (says : KeySays s.text d x t) where
  of_struct : struct_number e s.home (word s.text t.struct_name) ≡ Some x.of
  of_struct =
      ap (λ h. struct_number e h (word s.text t.struct_name)) (sym home_is ∙ ap struct_home says.declared) ∙ ap (struct_number e says.struct.«module») says.name.is
      ∙ here.numbered.structs x.of says.struct (sym (here.structs x.of fits.struct) ∙ says.declared)

  made : map (word s.text) t.members ≡ x.members
  made = pairs_made (NameSays s.text) (word s.text) (λ name span says. says.is) x.members t.members says.members

  key_means : key_of (place_in e s) t ≡ x
  key_means = λ i. record { of = of i; members = members i }
    where
      of : or_first (struct_number e s.home (word s.text t.struct_name)) ≡ x.of
      of = ap or_first of_struct

      members : map (word s.text) t.members ≡ x.members
      members = made

  -- ---- the rules

  abbrev list : NameList
  list = name_list false None t.members

  abbrev Found : List ℕ → Span → Type 0
  Found name span = list_any (bytes_eq (word s.text span)) (members_of (find s.home (word s.text t.struct_name) s.known)) ≡ true

  member_found : (name : List ℕ) (span : Span) → NamesMember (members_at e x.of) name → NameSays s.text name span → Found name span
  member_found name span has says =
      ap (list_any (bytes_eq (word s.text span))) (here.knows.members s.home (word s.text t.struct_name) x.of of_struct) ∙ ap (λ w. list_any (bytes_eq w) (each_once (member_names e x.of))) says.is
      ∙ named_found (members_at e x.of) name has

  members_found : AllByRecursion (λ span. unknown_member s (members_of (find s.home (word s.text t.struct_name) s.known)) [] span ≡ []) t.members
  members_found =
      pairs_right Found (λ span. unknown_member s (members_of (find s.home (word s.text t.struct_name) s.known)) [] span ≡ []) (λ name span found. no_fault_unless _ s.file span.start UnknownName found) x.members t.members
      (pairs_with (NamesMember (members_at e x.of)) (NameSays s.text) Found member_found x.members t.members (recursion_from_All (NamesMember (members_at e x.of)) x.members fits.members) says.members)

  key_no_fault : NoFault s (declared (decls.Key t))
  key_no_fault = record {
    reserved_block = refl;
    twice_declared = refl;
    reserved_name = refl;
    deep_struct = refl;
    too_many = refl;
    large_default = refl;
    unknown_type = refl;
    float = refl;
    bad_key = refl;
    deep_type = refl;
    unsigned_bytes = refl;
    twice_in_list = alone_finds (λ (list : NameList). found_after (twice_in_list s list) [] list.names) [] (list ∷ []) (none_twice s list t.members (subst AllDiffer (sym made) fits.differ), tt);
    reserved_in_list = alone_finds (λ (list : NameList). found_after (reserved_in_list s list) [] list.names) [] (list ∷ []) (none_reserved s false None t.members (λ declares. cc), tt);
    too_many_in_list = alone_finds (λ (list : NameList). found_after (too_many_in_list s list) [] list.names) [] (list ∷ []) (few_enough s list t.members tt, tt);
    twice_tag = refl;
    tag_range = refl;
    bad_default = refl;
    bad_number = refl;
    bad_const = refl;
    unknown_struct = alone_finds (λ k. unknown_struct s [] k) [] (t ∷ []) (
      no_fault_unless (is_struct (find s.home (word s.text t.struct_name) s.known)) s.file t.struct_name.start UnknownName
          (means_struct e _ _ _ x.of (here.agrees.means s.home (word s.text t.struct_name)) of_struct),
      tt,
    );
    unknown_members = alone_finds (λ k. unknown_members s [] k) [] (t ∷ [])
        (alone_finds (λ span. unknown_member s (members_of (find s.home (word s.text t.struct_name) s.known)) [] span) [] t.members members_found, tt);
  }

  key_passes : Passes s (declared (decls.Key t))
  key_passes = record { no_fault = key_no_fault; no_include = refl; array = refl; routekey = refl }

  -- ---- what is known then

  key_agrees : Agrees (state_with_what s (declared (decls.Key t))) (with_key e x)
  key_agrees = key_next s e here.agrees x

  key_known : Knows (state_with_what s (declared (decls.Key t))).known (with_key e x)
  key_known = record { free = here.knows.free; members = here.knows.members }

  pub key_said : Step s e (decls.Key t) (with_key e x)
  key_said = record { passes = key_passes; means = ap (with_key e) key_means; agrees = key_agrees; knows = key_known }
