-- Maps of texts: taken from the last on, as values and back, and where they fit.
use Rattle.std.proofs.Common.{◌≡◌, ◌∙◌, ◌<◌, ◌^◌, ◌&&◌, ◌++◌, Bool, true, false, nat_lt, List, [], ◌∷◌, length, map, reverse, refl, sym, ap, subst, lit<, lt-ltb, ltb-true}
use Rattle.std.specs.List.{AllByRecursion, list_all}
use Rattle.std.proofs.lemmas.Bool.{and_from, and_parts}
use Rattle.std.proofs.lemmas.List.{append_assoc, map-append, length-map, reverse-append}
use Rattle.tars_model.specs.Declarations.{nothing_declared}
use Rattle.tars_model.specs.Types.{TyLayer}
use Rattle.tars_model.specs.Values.{a_text, key_of, keys_rise, entry_key, entry_fits, pairs_fit, fits, is_bool, is_number_of, fits_blob, fits_list, fits_map, fits_struct, told, told_entry}
use Rattle.tars_model.specs.declared.ty.Ty.{Text as TextTy, Map as MapTy}
use Rattle.tars_model.specs.declared.ty.Ty.TheOpen as ty
use Rattle.tars_model.specs.declared.ty.Ty.TheVariants.{outs-Text as outs-TextTy, outs-Map as outs-MapTy}
use Rattle.tars_model.specs.declared.value.Pair.{Pair, Pair-F, out-Pair, out-roll-Pair}
use Rattle.tars_model.specs.declared.value.Value.{Value, Text, out-Value}
use Rattle.tars_model.specs.declared.value.Value.TheOpen as value
use Rattle.tars_model.specs.declared.value.Value.TheVariants.{outs-Text}
use Rattle.tars_model.proofs.ToldLaws.{told_fits_map, map_told, entry_key_is, entry_fits_is}
use Rattle.rpc_packet.specs.Outcomes.{IsShort, AreTexts}
use Rattle.rpc_packet.specs.Packets.{bytes_of_layer, entry_of, texts_value, text_pair, texts_of_layer}
use Rattle.rpc_packet.specs.declared.text_pair.TextPair.{TextPair}
use Rattle.rpc_packet.proofs.MemberLaws.{FitsType, text_fits}
use Rattle.rpc_packet.proofs.MemberValues.{told_of, fits_out, text_within}

-- ---- one more taken from the end

pub one_taken : {A B : Type 0} (f : A → B) (all old new : List A) (last : A) (done : List B) → map f all ≡ map f old ++ reverse done → old ≡ new ++ last ∷ []
    → map f all ≡ map f new ++ reverse (done ++ f last ∷ [])
one_taken f all old new last done so_far is =
    so_far ∙ ap (λ xs. map f xs ++ reverse done) is ∙ ap (λ xs. xs ++ reverse done) (map-append f new (last ∷ []))
    ∙ append_assoc (map f new) (f last ∷ []) (reverse done) ∙ ap (λ xs. map f new ++ xs) (sym (reverse-append done (f last ∷ [])))

-- ---- there and back

opened : (p : TextPair) → out-Pair (entry_of p) ≡ record { key = Text p.key; value = Text p.value }
opened p = out-roll-Pair (record { key = Text p.key; value = Text p.value })

abbrev pair_of_parts : Pair-F Value Pair → TextPair
pair_of_parts parts = record { key = bytes_of_layer (out-Value parts.key); value = bytes_of_layer (out-Value parts.value) }

text_back : (p : TextPair) → text_pair (entry_of p) ≡ p
text_back p = ap pair_of_parts (opened p) ∙ rw (outs-Text p.key, outs-Text p.value) refl

pub texts_back : (texts : List TextPair) → map text_pair (map entry_of texts) ≡ texts
texts_back [] = refl
texts_back (p ∷ texts) = rw (text_back p, texts_back texts) refl

-- ---- texts that fit are a value of the type

key_of_entry : (p : TextPair) → entry_key (entry_of p) ≡ a_text p.key
key_of_entry p =
    entry_key_is (entry_of p) ∙ ap (λ (parts : Pair-F Value Pair). key_of (out-Value parts.key)) (opened p) ∙ ap key_of (outs-Text p.key)

keys_of_entries : (texts : List TextPair) → map entry_key (map entry_of texts) ≡ map (λ (p : TextPair). a_text p.key) texts
keys_of_entries [] = refl
keys_of_entries (p ∷ texts) = rw (key_of_entry p, keys_of_entries texts) refl

entry_fits_so : (p : TextPair) → IsShort p → entry_fits nothing_declared TextTy TextTy (entry_of p) ≡ true
entry_fits_so p short =
    entry_fits_is nothing_declared TextTy TextTy (entry_of p)
    ∙ ap (λ (parts : Pair-F Value Pair). (told parts.key).fits nothing_declared TextTy && (told parts.value).fits nothing_declared TextTy) (opened p)
    ∙ (and_from _ _ (text_fits p.key short.0) (text_fits p.value short.1))

entries_fit : (texts : List TextPair) → AllByRecursion IsShort texts → list_all (entry_fits nothing_declared TextTy TextTy) (map entry_of texts) ≡ true
entries_fit [] short = refl
entries_fit (p ∷ texts) short = and_from _ _ (entry_fits_so p short.0) (entries_fit texts short.1)

-- three tests that are passed
all_three : (a b c : Bool) → a ≡ true → b ≡ true → c ≡ true → (a && b && c) ≡ true
all_three a b c first second third = rw (first, second, third) refl

three_parts : (a b c : Bool) → (a && b && c) ≡ true → (a ≡ true) × (b ≡ true) × (c ≡ true)
three_parts true true true e = (refl, refl, refl)
three_parts true true false e = absurd cc
three_parts true false c e = absurd cc
three_parts false b c e = absurd cc

pub texts_fit : (texts : List TextPair) → AreTexts texts → FitsType (MapTy TextTy TextTy) (texts_value texts)
texts_fit texts are =
    told_fits_map (texts_value texts) nothing_declared (MapTy TextTy TextTy) (map entry_of texts) refl
    ∙ (map_told nothing_declared (MapTy TextTy TextTy) TextTy TextTy (map entry_of texts) refl
    ∙ all_three (nat_lt (length (map entry_of texts)) (2 ^ 31)) (keys_rise (map entry_key (map entry_of texts))) (list_all (entry_fits nothing_declared TextTy TextTy) (map entry_of texts))
    (subst (λ n. nat_lt n (2 ^ 31) ≡ true) (sym (length-map texts entry_of)) (lt-ltb (length texts) (2 ^ 31) are.few))
    (ap keys_rise (keys_of_entries texts) ∙ are.rise) (entries_fit texts are.short))

-- ---- a value of the type says texts that fit

is_no : false ≡ true → ⊥
is_no e = cc

-- a value of the type of texts is a text, and its bytes are its key
key_said : (v : Value) → fits nothing_declared TextTy v ≡ true → a_text (bytes_of_layer (out-Value v)) ≡ key_of (out-Value v)
key_said v fit = by_layer (out-Value v) (fits_out TextTy ty.Text outs-TextTy v fit)
  where
    by_layer : (l : value.Value-F Value Pair) → (told_of l).fits nothing_declared TextTy ≡ true → a_text (bytes_of_layer l) ≡ key_of l
    by_layer (value.Text bytes) e = refl
    by_layer (value.Bool b) e = absurd (is_no (sym (ap is_bool outs-TextTy) ∙ e))
    by_layer (value.Num n) e = absurd (is_no (sym (ap (λ (x : TyLayer). is_number_of x n) outs-TextTy) ∙ e))
    by_layer (value.Blob bytes) e = absurd (is_no (sym (ap (fits_blob (length bytes)) outs-TextTy) ∙ e))
    by_layer (value.List vs) e = absurd (is_no (sym (ap (fits_list (map told vs) nothing_declared) outs-TextTy) ∙ e))
    by_layer (value.Map ps) e = absurd (is_no (sym (ap (fits_map (map told_entry ps) nothing_declared) outs-TextTy) ∙ e))
    by_layer (value.Struct vs) e = absurd (is_no (sym (ap (fits_struct (map told vs) nothing_declared) outs-TextTy) ∙ e))

module _ (p : Pair) (ps : List Pair) (fit : list_all (entry_fits nothing_declared TextTy TextTy) (p ∷ ps) ≡ true) where
  first_fits : ((told (out-Pair p).key).fits nothing_declared TextTy && (told (out-Pair p).value).fits nothing_declared TextTy) ≡ true
  first_fits = sym (entry_fits_is nothing_declared TextTy TextTy p) ∙ (and_parts _ _ fit).0

  others_fit : list_all (entry_fits nothing_declared TextTy TextTy) ps ≡ true
  others_fit = (and_parts _ _ fit).1

  first_key : a_text (text_pair p).key ≡ entry_key p
  first_key = key_said (out-Pair p).key (and_parts _ _ first_fits).0 ∙ sym (entry_key_is p)

  first_short : IsShort (text_pair p)
  first_short = (text_within (out-Pair p).key (and_parts _ _ first_fits).0, text_within (out-Pair p).value (and_parts _ _ first_fits).1)

keys_said : (ps : List Pair) → list_all (entry_fits nothing_declared TextTy TextTy) ps ≡ true → map (λ (p : TextPair). a_text p.key) (map text_pair ps) ≡ map entry_key ps
keys_said [] fit = refl
keys_said (p ∷ ps) fit =
    ap (λ key. key ∷ map (λ (p : TextPair). a_text p.key) (map text_pair ps)) (first_key p ps fit)
    ∙ ap (λ keys. entry_key p ∷ keys) (keys_said ps (others_fit p ps fit))

short_said : (ps : List Pair) → list_all (entry_fits nothing_declared TextTy TextTy) ps ≡ true → AllByRecursion IsShort (map text_pair ps)
short_said [] fit = tt
short_said (p ∷ ps) fit = (first_short p ps fit, short_said ps (others_fit p ps fit))

pub no_texts : AreTexts []
no_texts = record { few = lit< tt; rise = refl; short = tt }

pairs_said : (ps : List Pair) → pairs_fit nothing_declared TextTy TextTy ps ≡ true → AreTexts (map text_pair ps)
pairs_said ps fit =
    let parts = three_parts (nat_lt (length ps) (2 ^ 31)) (keys_rise (map entry_key ps)) (list_all (entry_fits nothing_declared TextTy TextTy) ps) fit in
    record {
      few = subst (λ n. n < 2 ^ 31) (sym (length-map ps text_pair)) (ltb-true (length ps) (2 ^ 31) parts.0);
      rise = ap keys_rise (keys_said ps parts.2) ∙ parts.1;
      short = short_said ps parts.2;
    }

pub texts_said : (v : Value) → FitsType (MapTy TextTy TextTy) v → AreTexts (texts_of_layer (out-Value v))
texts_said v fit = by_layer (out-Value v) (fits_out (MapTy TextTy TextTy) (ty.Map TextTy TextTy) (outs-MapTy TextTy TextTy) v fit)
  where
    by_layer : (l : value.Value-F Value Pair) → (told_of l).fits nothing_declared (MapTy TextTy TextTy) ≡ true → AreTexts (texts_of_layer l)
    by_layer (value.Map ps) e = pairs_said ps (sym (map_told nothing_declared (MapTy TextTy TextTy) TextTy TextTy ps refl) ∙ e)
    by_layer (value.Bool b) e = no_texts
    by_layer (value.Num n) e = no_texts
    by_layer (value.Text bytes) e = no_texts
    by_layer (value.Blob bytes) e = no_texts
    by_layer (value.List vs) e = no_texts
    by_layer (value.Struct vs) e = no_texts
