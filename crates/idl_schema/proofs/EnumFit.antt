-- An enum in which no rule finds anything may be declared.
use Rattle.std.proofs.Common.{◌≡◌, ◌≤◌, ℕ, true, Some, List, [], ◌∷◌, ◌++◌, length, map, refl, sym, ap, ◌∙◌, subst, arith}
use Rattle.std.proofs.lemmas.List.{length-map}
use Rattle.std.proofs.lemmas.List.Elements.{All-from_recursion, recursion_from_All}
use Rattle.std.specs.List.{AllByRecursion}
use Rattle.least_fault.specs.Conditions.{found_after}
use Rattle.least_fault.proofs.Walks.{nothing_in}
use Rattle.tars_model.specs.Declarations.{Declared}
use Rattle.tars_model.specs.Names.{IsName, AllDiffer}
use Rattle.tars_model.specs.Schemas.{EnumFits}
use Rattle.tars_model.specs.Values.{is_signed}
use Rattle.tars_model.specs.declared.enum_desc.Item.{Item as Enumerator}
use Rattle.idl_parse.specs.TreeSpans.{NameIn, ItemIn, DeclIn}
use Rattle.idl_lex.specs.declared.span.Span.{Span}
use Rattle.idl_parse.specs.declared.tree.decl.DeclTree.TheVariants as decls
use Rattle.idl_parse.specs.declared.tree.decl.EnumItem.{EnumItem}
use Rattle.idl_parse.specs.declared.tree.decl.EnumTree.{EnumTree}
use Rattle.idl_scene.specs.Items.{declared, word}
use Rattle.idl_scene.specs.Known.{Scene}
use Rattle.idl_scene.specs.Literals.{number_of_item, number_start}
use Rattle.idl_scene.specs.declared.check_fault.CheckWhy.TheVariants.{TwiceName, TooMany, BadDefault}
use Rattle.idl_rules.specs.Parts.{NameList, name_list}
use Rattle.idl_rules.specs.Rules.{twice_declared, reserved_name, too_many, twice_in_list, reserved_in_list, too_many_in_list, bad_number}
use Rattle.idl_schema.specs.Agreement.{Agrees, place_in}
use Rattle.idl_schema.specs.Faultless.{NoFault}
use Rattle.idl_schema.specs.SchemaOf.{items_after, enum_of}
use Rattle.idl_schema.proofs.ListFits.{free_name, free_names, names_apart, few_names, OtherWord}
use Rattle.idl_schema.proofs.Nothing.{passed, holds, alone_nothing}
use Rattle.idl_schema.proofs.PartFits.{is_new}
use Rattle.idl_schema.proofs.Parts.{each_weaker, each_mapped, each_of_map, apart_of_map, apart_mapped, all_differ, Others}
use Rattle.idl_schema.proofs.StructFit.{room_left}

pub items_named : (text : List ℕ) (before items : List EnumItem) → map (λ (i : Enumerator). i.name) (items_after text before items) ≡ map (λ (i : EnumItem). word text i.name) items
items_named text before [] = refl
items_named text before (i ∷ items) = ap (λ l. word text i.name ∷ l) (items_named text (before ++ i ∷ []) items)

items_ints : (s : Scene) (before items : List EnumItem) → found_after (bad_number s) before items ≡ [] → AllByRecursion (λ (i : Enumerator). is_signed 31 i.number ≡ true) (items_after s.text before items)
items_ints s before [] e = tt
items_ints s before (i ∷ items) e =
    let two = nothing_in (bad_number s before i) (found_after (bad_number s) (before ++ i ∷ []) items) e in
    (holds (is_signed 31 (number_of_item s.text before i)) s.file (number_start i i.number) BadDefault two.0, items_ints s (before ++ i ∷ []) items two.1)

module _ (s : Scene) (d : Declared) (agrees : Agrees (record { known = s.known; room = s.room }) d) where
  module _ (t : EnumTree) (nothing : NoFault s (declared (decls.Enum t))) (inside : DeclIn s.text (decls.Enum t)) where
    abbrev items : List Enumerator
    items = items_after s.text [] t.items

    abbrev names : List Span
    names = map (λ (i : EnumItem). i.name) t.items

    abbrev list : NameList
    list = name_list true (Some 1024) names

    names_inside : AllByRecursion (NameIn s.text) names
    names_inside =
        each_mapped (NameIn s.text) (λ (i : EnumItem). i.name) t.items
        (each_weaker (ItemIn s.text) (λ (i : EnumItem). NameIn s.text i.name) (λ i is. is.0) t.items (recursion_from_All (ItemIn s.text) t.items inside.1))

    words_named : AllByRecursion IsName (map (λ (i : EnumItem). word s.text i.name) t.items)
    words_named =
        each_mapped IsName (λ (i : EnumItem). word s.text i.name) t.items (each_of_map (λ n. IsName (word s.text n)) (λ (i : EnumItem). i.name) t.items
        (free_names s (Some 1024) names names_inside
        (alone_nothing (λ (list : NameList). found_after (reserved_in_list s list) [] list.names) [] (list ∷ []) nothing.reserved_in_list).0))

    few : length items ≤ 1024
    few =
        let most = few_names s list 1024 refl names (alone_nothing (λ (list : NameList). found_after (too_many_in_list s list) [] list.names) [] (list ∷ []) nothing.too_many_in_list).0 in
        let same : length items ≡ length names =
        sym (length-map items (λ (i : Enumerator). i.name)) ∙ ap length (items_named s.text [] t.items) ∙ length-map t.items (λ (i : EnumItem). word s.text i.name) ∙ sym (length-map t.items (λ (i : EnumItem). i.name)) in
        omega arith

    pub enum_ints : AllByRecursion (λ (i : Enumerator). is_signed 31 i.number ≡ true) items
    enum_ints = items_ints s [] t.items nothing.bad_number

    pub enum_fits : IsName s.home → EnumFits d (enum_of (place_in d s) t)
    enum_fits home = record {
      name = is_new s d t.name agrees.taken (passed _ s.file t.name.start TwiceName (alone_nothing (twice_declared s) [] (decls.Enum t ∷ []) nothing.twice_declared).0) home
          (free_name s t.name inside.0 (alone_nothing (reserved_name s) [] (decls.Enum t ∷ []) nothing.reserved_name).0);
      items = All-from_recursion (λ (i : Enumerator). IsName i.name) items
          (each_of_map IsName (λ (i : Enumerator). i.name) items (subst (AllByRecursion IsName) (sym (items_named s.text [] t.items)) words_named));
      numbers = All-from_recursion (λ (i : Enumerator). is_signed 31 i.number ≡ true) items enum_ints;
      names_differ = subst AllDiffer (sym (items_named s.text [] t.items)) (all_differ (map (λ (i : EnumItem). word s.text i.name) t.items)
          (apart_mapped Others (λ (i : EnumItem). word s.text i.name) t.items (apart_of_map (OtherWord s) (λ (i : EnumItem). i.name) t.items
          (names_apart s list names (alone_nothing (λ (list : NameList). found_after (twice_in_list s list) [] list.names) [] (list ∷ []) nothing.twice_in_list).0))));
      few = few;
      room = room_left s.room.enums (length d.enums) 1024 (passed _ s.file t.name.start TooMany (alone_nothing (too_many s) [] (decls.Enum t ∷ []) nothing.too_many).0) agrees.enums;
    }
