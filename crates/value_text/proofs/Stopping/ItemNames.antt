-- The enumerators that a schema declares have words as names.
use Rattle.std.proofs.Common.{ℕ, List, [], ◌∷◌}
use Rattle.std.proofs.lemmas.List.Elements.{recursion_from_All}
use Rattle.std.specs.List.{AllByRecursion}
use Rattle.tars_model.specs.Declarations.{Declared, items_at}
use Rattle.tars_model.specs.Names.{IsName}
use Rattle.tars_model.specs.Schemas.{IsSchema}
use Rattle.tars_model.specs.declared.enum_desc.Item.{Item}
use Rattle.value_text.proofs.Induction.{AllOf}
use Rattle.value_text.proofs.SchemaNames.{letter}
use Rattle.value_text.proofs.SchemaParts.{each_enum}
use Rattle.value_text.proofs.Stopping.Names.{HasWord}

each_word : (items : List Item) → AllByRecursion (λ (i : Item). IsName i.name) items → AllOf HasWord items
each_word [] all = tt
each_word (item ∷ items) all = (record { letter = letter item.name all.0.identifier.letter; bytes = all.0.identifier.bytes }, each_word items all.1)

pub item_names : (d : Declared) → IsSchema d → (k : ℕ) → AllOf HasWord (items_at d k)
item_names = each_enum (AllOf HasWord) tt (λ d e fits. each_word e.items (recursion_from_All (λ (i : Item). IsName i.name) e.items fits.items))
