-- An enum that says one which may be declared has no fault, and means it.
use Rattle.std.proofs.Common.{◌≡◌, ◌≤◌, ℕ, true, false, Some, is_some, List, [], ◌∷◌, ◌++◌, length, map, refl, sym, ap, ◌∙◌, subst}
use Rattle.std.proofs.lemmas.List.{length-map}
use Rattle.std.proofs.lemmas.List.Elements.{recursion_from_All}
use Rattle.std.specs.List.{AllByRecursion}
use Rattle.std.specs.Prelude.{nat_eq}
use Rattle.least_fault.specs.Conditions.{found_after}
use Rattle.tars_model.specs.Declarations.{Declared, with_enum}
use Rattle.tars_model.specs.Names.{IsName, AllDiffer}
use Rattle.tars_model.specs.Schemas.{EnumFits}
use Rattle.tars_model.specs.Values.{is_signed}
use Rattle.tars_model.specs.declared.enum_desc.EnumDesc.{EnumDesc}
use Rattle.tars_model.specs.declared.enum_desc.Item.{Item as Enumerator}
use Rattle.canonical_tree.specs.Says.{Pairwise, ItemSays, EnumSays}
use Rattle.idl_lex.specs.declared.span.Span.{Span}
use Rattle.idl_parse.specs.declared.tree.decl.DeclTree.TheVariants as decls
use Rattle.idl_parse.specs.declared.tree.decl.EnumItem.{EnumItem}
use Rattle.idl_parse.specs.declared.tree.decl.EnumTree.{EnumTree}
use Rattle.idl_scene.specs.Items.{declared, word}
use Rattle.idl_scene.specs.Known.{Scene, find, each_once}
use Rattle.idl_scene.specs.Literals.{number_at, next_number, number_of_item, number_start}
use Rattle.idl_scene.specs.declared.check_fault.CheckWhy.TheVariants.{TwiceName, TooMany, BadDefault}
use Rattle.idl_rules.specs.Conditions.{state_with_what}
use Rattle.idl_rules.specs.Parts.{NameList, name_list}
use Rattle.idl_rules.specs.Rules.{twice_declared, reserved_name, too_many, twice_in_list, reserved_in_list, too_many_in_list, bad_number}
use Rattle.idl_schema.specs.Agreement.{Agrees, place_in}
use Rattle.idl_schema.specs.Faultless.{NoFault}
use Rattle.idl_schema.specs.SchemaOf.{items_after, enum_of}
use Rattle.idl_schema.proofs.Agreeing.{enum_new}
use Rattle.idl_schema.proofs.NextState.{enum_next}
use Rattle.idl_schema.proofs.Parts.{each_mapped}
use Rattle.idl_check.proofs.Finding.{both_nothing, no_fault_if, no_fault_unless, alone_finds, map_twice}
use Rattle.idl_check.proofs.KnownNames.{Knows, one_enum, one_renamed, knows_then}
use Rattle.idl_check.proofs.NamesFree.{none_reserved, none_twice, few_enough, words_at}
use Rattle.idl_check.proofs.Pairs.{pairs_map}
use Rattle.idl_check.proofs.Passing.{Passes, absent_here, unreserved_here, room_open, Step}
use Rattle.idl_check.proofs.TypesSaid.{Here}

-- ---- enumerators

item_number : (text : List ℕ) (before : List EnumItem) (i : Enumerator) (said : EnumItem) → ItemSays text i said → number_of_item text before said ≡ i.number
item_number text before i said says = ap (number_at text (next_number text before)) says.written ∙ says.number.is

item_means : (text : List ℕ) (before : List EnumItem) (i : Enumerator) (said : EnumItem) → ItemSays text i said → record { name = word text said.name; number = number_of_item text before said } ≡ i
item_means text before i said says = λ k. record { name = name k; number = number k }
  where
    name : word text said.name ≡ i.name
    name = says.name.is

    number : number_of_item text before said ≡ i.number
    number = item_number text before i said says

items_mean : (text : List ℕ) (before : List EnumItem) (items : List Enumerator) (said : List EnumItem) → Pairwise (ItemSays text) items said → items_after text before said ≡ items
items_mean text before [] [] pairs = refl
items_mean text before (i ∷ items) (said ∷ rest) pairs =
    ap (λ (x : Enumerator). x ∷ items_after text (before ++ said ∷ []) rest) (item_means text before i said pairs.0) ∙ ap (λ (l : List Enumerator). i ∷ l) (items_mean text (before ++ said ∷ []) items rest pairs.1)
items_mean text before [] (said ∷ rest) pairs = absurd pairs
items_mean text before (i ∷ items) [] pairs = absurd pairs

abbrev IsInt : Enumerator → Type 0
IsInt i = is_signed 31 i.number ≡ true

no_bad_number : (s : Scene) (before : List EnumItem) (items : List Enumerator) (said : List EnumItem) → Pairwise (ItemSays s.text) items said → AllByRecursion IsInt items → found_after (bad_number s) before said ≡ []
no_bad_number s before [] [] pairs ints = refl
no_bad_number s before (i ∷ items) (said ∷ rest) pairs ints =
    both_nothing (bad_number s before said) (found_after (bad_number s) (before ++ said ∷ []) rest)
    (no_fault_unless (is_signed 31 (number_of_item s.text before said)) s.file (number_start said said.number) BadDefault (ap (is_signed 31) (item_number s.text before i said pairs.0) ∙ ints.0))
    (no_bad_number s (before ++ said ∷ []) items rest pairs.1 ints.1)
no_bad_number s before [] (said ∷ rest) pairs ints = absurd pairs
no_bad_number s before (i ∷ items) [] pairs ints = absurd pairs

module _ (s : Scene) (e d : Declared) (here : Here s e d) (x : EnumDesc) (fits : EnumFits e x) (home_is : x.«module» ≡ s.home) (t : EnumTree) (says : EnumSays s.text x t) where
  words : map (λ (i : EnumItem). word s.text i.name) t.items ≡ map (λ (i : Enumerator). i.name) x.items
  words = pairs_map (ItemSays s.text) (λ (i : EnumItem). word s.text i.name) (λ (i : Enumerator). i.name) (λ i said says. says.name.is) x.items t.items says.items

  enum_means : enum_of (place_in e s) t ≡ x
  enum_means = λ i. record { «module» = home i; name = name i; items = items i }
    where
      home : s.home ≡ x.«module»
      home = sym home_is

      name : word s.text t.name ≡ x.name
      name = says.name.is

      items : items_after s.text [] t.items ≡ x.items
      items = items_mean s.text [] x.items t.items says.items

  -- ---- the rules

  abbrev names : List Span
  names = map (λ (i : EnumItem). i.name) t.items

  abbrev list : NameList
  list = name_list true (Some 1024) names

  names_are : words_at s names ≡ map (λ (i : Enumerator). i.name) x.items
  names_are = map_twice (word s.text) (λ (i : EnumItem). i.name) t.items ∙ words

  names_good : AllByRecursion IsName (words_at s names)
  names_good = subst (AllByRecursion IsName) (sym names_are) (each_mapped IsName (λ (i : Enumerator). i.name) x.items (recursion_from_All (λ (i : Enumerator). IsName i.name) x.items fits.items))

  few : length (words_at s names) ≤ 1024
  few = subst (λ (n : ℕ). n ≤ 1024) (sym (ap length names_are ∙ length-map x.items (λ (i : Enumerator). i.name))) fits.few

  absent : is_some (find s.home (word s.text t.name) s.known) ≡ false
  absent = absent_here s e d here x.«module» x.name fits.name home_is t.name says.name

  left : nat_eq s.room.enums 0 ≡ false
  left = room_open s.room.enums (length e.enums) 1024 here.agrees.enums fits.room

  ints : AllByRecursion IsInt x.items
  ints = recursion_from_All IsInt x.items fits.numbers

  enum_no_fault : NoFault s (declared (decls.Enum t))
  enum_no_fault = record {
    reserved_block = refl;
    twice_declared = alone_finds (twice_declared s) [] (decls.Enum t ∷ []) (no_fault_if _ s.file t.name.start TwiceName absent, tt);
    reserved_name = alone_finds (reserved_name s) [] (decls.Enum t ∷ []) (unreserved_here s e d here x.«module» x.name fits.name home_is t.name says.name, tt);
    deep_struct = refl;
    too_many = alone_finds (too_many s) [] (decls.Enum t ∷ []) (no_fault_if _ s.file t.name.start TooMany left, tt);
    large_default = refl;
    unknown_type = refl;
    float = refl;
    bad_key = refl;
    deep_type = refl;
    unsigned_bytes = refl;
    twice_in_list = alone_finds (λ (list : NameList). found_after (twice_in_list s list) [] list.names) [] (list ∷ []) (none_twice s list names (subst AllDiffer (sym names_are) fits.names_differ), tt);
    reserved_in_list = alone_finds (λ (list : NameList). found_after (reserved_in_list s list) [] list.names) [] (list ∷ []) (none_reserved s true (Some 1024) names (λ declares. names_good), tt);
    too_many_in_list = alone_finds (λ (list : NameList). found_after (too_many_in_list s list) [] list.names) [] (list ∷ []) (few_enough s list names few, tt);
    twice_tag = refl;
    tag_range = refl;
    bad_default = refl;
    bad_number = no_bad_number s [] x.items t.items says.items ints;
    bad_const = refl;
    unknown_struct = refl;
    unknown_members = refl;
  }

  enum_passes : Passes s (declared (decls.Enum t))
  enum_passes = record { no_fault = enum_no_fault; no_include = refl; array = refl; routekey = refl }

  -- ---- what is known then

  enum_agrees : Agrees (state_with_what s (declared (decls.Enum t))) (with_enum e x)
  enum_agrees = enum_next s e here.agrees t.name absent x home_is (sym says.name.is) _ (enum_new e x _ (ap each_once (sym words)) ints) left

  enum_known : Knows (state_with_what s (declared (decls.Enum t))).known (with_enum e x)
  enum_known = knows_then s e here.knows t.name absent here.agrees _ (with_enum e x) (one_renamed (sym home_is) says.name.is (one_enum e x)) refl

  pub enum_said : Step s e (decls.Enum t) (with_enum e x)
  enum_said = record { passes = enum_passes; means = ap (with_enum e) enum_means; agrees = enum_agrees; knows = enum_known }
