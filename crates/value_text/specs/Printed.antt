-- How a value is printed (docs/SCRIPTS.md, "Value text").
use Rattle.std.specs.Prelude.{ℕ, nat_lt, Bool, true, ◌&&◌, List, [], ◌∷◌, ◌++◌, map, codes}
use Rattle.std.specs.Fmt.{signed_decimal}
use Rattle.std.specs.List.{list_all}
use Rattle.canonical_text.specs.Canonical.{truth_word, quoted}
use Rattle.hex.specs.Hex.{encode_upper}
use Rattle.tars_model.specs.Declarations.{Declared, members_at}
use Rattle.tars_model.specs.Types.{TyLayer}
use Rattle.tars_model.specs.declared.member.Member.{Member}
use Rattle.tars_model.specs.declared.ty.Ty.{Ty, out-Ty}
use Rattle.tars_model.specs.declared.ty.Ty.TheOpen as ty
use Rattle.tars_model.specs.declared.value.Value.{Value, fold-Value}
use Rattle.tars_model.specs.declared.value.Value.TheOpen as value
use Rattle.tars_model.specs.declared.value.Pair.{Pair, Pair-F, fold-Pair}

-- the text of a value, over what is declared and under its type
abbrev pub Printing : Type 0
Printing = Declared → Ty → List ℕ

-- texts, each after `, ` but for the first, which stands after this
abbrev pub listed : List ℕ → List (List ℕ) → List ℕ
listed before [] = []
listed before (text ∷ texts) = before ++ text ++ listed (codes ", ") texts

-- values of one type
abbrev pub element_texts : Declared → Ty → List Printing → List (List ℕ)
element_texts d of vs = map (λ (v : Printing). v d of) vs

-- an entry's key and value
unfoldable pub entry_text : List ℕ → List ℕ → List ℕ
entry_text key to = key ++ codes ": " ++ to

abbrev pub entry_texts : Declared → Ty → Ty → List (Printing × Printing) → List (List ℕ)
entry_texts d key to ps = map (λ (p : Printing × Printing). entry_text (p.0 d key) (p.1 d to)) ps

-- a member's name and value
unfoldable pub member_text : List ℕ → List ℕ → List ℕ
member_text name text = name ++ codes "=" ++ text

-- a value for each member, after the member's name
abbrev pub member_texts : Declared → List Member → List Printing → List (List ℕ)
member_texts d (m ∷ ms) (v ∷ vs) = member_text m.name (v d m.ty) ∷ member_texts d ms vs
member_texts d _ _ = []

abbrev pub list_text : List Printing → Declared → TyLayer → List ℕ
list_text vs d (ty.Vector of) = codes "[" ++ listed [] (element_texts d of vs) ++ codes "]"
list_text vs d _ = []

abbrev pub map_text : List (Printing × Printing) → Declared → TyLayer → List ℕ
map_text ps d (ty.Map key to) = codes "{" ++ listed [] (entry_texts d key to ps) ++ codes "}"
map_text ps d _ = []

abbrev pub struct_text : List Printing → Declared → TyLayer → List ℕ
struct_text vs d (ty.Struct number) = codes "(" ++ listed [] (member_texts d (members_at d number) vs) ++ codes ")"
struct_text vs d _ = []

-- the bytes of a `vector<byte>`, each as two digits
unfoldable pub blob_text : List ℕ → List ℕ
blob_text bytes = codes "#" ++ encode_upper bytes

-- the text of a value, given the texts of those inside it
abbrev pub printed_layer : value.Value-F Printing (Printing × Printing) → Printing
printed_layer (value.Bool b) d t = truth_word b
printed_layer (value.Num n) d t = signed_decimal n
printed_layer (value.Text bytes) d t = quoted bytes
printed_layer (value.Blob bytes) d t = blob_text bytes
printed_layer (value.List vs) d t = list_text vs d (out-Ty t)
printed_layer (value.Map ps) d t = map_text ps d (out-Ty t)
printed_layer (value.Struct vs) d t = struct_text vs d (out-Ty t)

abbrev pub printed_pair : Pair-F Printing (Printing × Printing) → Printing × Printing
printed_pair p = (p.key, p.value)

-- what is printed for a value
unfoldable pub printing : Value → Printing
printing v = fold-Value Printing (Printing × Printing) printed_layer printed_pair v

-- what is printed for the key and the value of an entry
unfoldable pub entry_printing : Pair → Printing × Printing
entry_printing p = fold-Pair Printing (Printing × Printing) printed_layer printed_pair p

-- the text of a value of a type
abbrev pub printed : Declared → Ty → Value → List ℕ
printed d t v = printing v d t

-- ---- bytes

-- the bytes of a text or blob
abbrev pub are_bytes : List ℕ → Bool
are_bytes bytes = list_all (λ b. nat_lt b 256) bytes

abbrev pub bytes_layer : value.Value-F Bool (Bool × Bool) → Bool
bytes_layer (value.Text bytes) = are_bytes bytes
bytes_layer (value.Blob bytes) = are_bytes bytes
bytes_layer (value.List vs) = list_all (λ b. b) vs
bytes_layer (value.Map ps) = list_all (λ p. p.0 && p.1) ps
bytes_layer (value.Struct vs) = list_all (λ b. b) vs
bytes_layer _ = true

abbrev pub bytes_pair : Pair-F Bool (Bool × Bool) → Bool × Bool
bytes_pair p = (p.key, p.value)

-- each byte of the texts and blobs in a value is below 256, as in every value of the code
unfoldable pub has_bytes : Value → Bool
has_bytes v = fold-Value Bool (Bool × Bool) bytes_layer bytes_pair v

unfoldable pub entry_bytes : Pair → Bool × Bool
entry_bytes p = fold-Pair Bool (Bool × Bool) bytes_layer bytes_pair p
