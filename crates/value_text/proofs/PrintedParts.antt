-- What is printed for maps, structs and so for every value that fits says this value.
use Rattle.std.proofs.Common.{◌≡◌, ℕ, Bool, true, ◌&&◌, List, [], ◌∷◌, ◌++◌, map, refl, sym, ap, ◌∙◌, subst, append_assoc}
use Rattle.std.proofs.lemmas.Bool.{and_parts, and_from}
use Rattle.std.proofs.lemmas.List.{append-nil}
use Rattle.std.specs.Char.{is_ascii_alphabetic}
use Rattle.std.specs.List.{list_all}
use Rattle.idl_lex.specs.Bytes.{begins}
use Rattle.tars_model.specs.Declarations.{Declared, members_at}
use Rattle.tars_model.specs.Values.{told, fit_told, entry_fits, entry_key, keys_rise}
use Rattle.tars_model.specs.declared.member.Member.{Member}
use Rattle.tars_model.specs.declared.ty.Ty.{Ty, out-Ty}
use Rattle.tars_model.specs.declared.ty.Ty.TheOpen as ty
use Rattle.tars_model.specs.declared.value.Pair.{Pair, out-Pair, roll-out-Pair}
use Rattle.tars_model.specs.declared.value.Value.{Value}
use Rattle.tars_model.specs.declared.value.Value.TheOpen as value
use Rattle.tars_model.specs.declared.value.Value.TheVariants as values
use Rattle.tars_model.specs.declared.value.Value.TheVariants.{outs-Map, outs-Struct}
use Rattle.tars_model.proofs.ToldLaws.{told_fits_map, told_fits_struct, entry_fits_is}
use Rattle.value_text.specs.Answers.{IsEnd}
use Rattle.value_text.specs.Printed.{Printing, listed, entry_text, entry_texts, member_text, member_texts, map_text, struct_text, printing, entry_printing, has_bytes, entry_bytes}
use Rattle.value_text.specs.Spelling.{past_gap, Placed, SpellsBy, EntriesBy, EntryBy, MembersBy, ALL}
use Rattle.value_text.specs.Spelling as spelling
use Rattle.value_text.proofs.Induction.{AllOf, OfPair, each_value}
use Rattle.value_text.proofs.Layers.{map_printed, struct_printed, entry_printing_out}
use Rattle.value_text.proofs.Opening.{letter_no_gap}
use Rattle.value_text.proofs.PrintedSpells.{bytes_at, entry_bytes_out, map_type, struct_type, tail, whole, Says, SaysAll, gapless, bool_says, num_says, text_says, blob_says, list_says}
use Rattle.value_text.proofs.SchemaNames.{HasLetter, Named}

-- ---- keys that rise already

rise_front : (xs ys : List Pair) → keys_rise (map entry_key (xs ++ ys)) ≡ true → keys_rise (map entry_key xs) ≡ true
rise_front [] ys rise = refl
rise_front (x ∷ []) ys rise = refl
rise_front (x ∷ z ∷ xs) ys rise =
    let parts = and_parts _ (keys_rise (map entry_key (z ∷ (xs ++ ys)))) rise in
    and_from _ _ parts.0 (rise_front (z ∷ xs) ys parts.1)

one_more : (before ps : List Pair) (p : Pair) → (before ++ p ∷ []) ++ ps ≡ before ++ p ∷ ps
one_more before ps p = append_assoc before (p ∷ []) ps

in_order : (before ps : List Pair) → keys_rise (map entry_key (before ++ ps)) ≡ true → Placed before ps (before ++ ps)
in_order before [] rise = spelling.done (append-nil before)
in_order before (p ∷ ps) rise =
    let all : keys_rise (map entry_key ((before ++ p ∷ []) ++ ps)) ≡ true = subst (λ (l : List Pair). keys_rise (map entry_key l) ≡ true) (sym (one_more before ps p)) rise in
    let rest = in_order (before ++ p ∷ []) ps all in
    spelling.put before [] (sym (append-nil before)) (rise_front (before ++ p ∷ []) ps all)
    (subst (λ (l : List Pair). Placed (before ++ p ∷ []) ps l) (one_more before ps p) rest)

-- ---- maps

abbrev both : Bool × Bool → Bool
both b = b.0 && b.1

abbrev texts_of : Declared → Ty → Ty → List Pair → List (List ℕ)
texts_of d key to ps = entry_texts d key to (map entry_printing ps)

abbrev text_of : Declared → Ty → Ty → Pair → List ℕ
text_of d key to p = entry_text ((entry_printing p).0 d key) ((entry_printing p).1 d to)

entry_glued : (a b c : List ℕ) → entry_text a b ++ c ≡ a ++ 58 ∷ 32 ∷ (b ++ c)
unfolding entry_text
entry_glued a b c = simp append_assoc

member_glued : (a b c : List ℕ) → member_text a b ++ c ≡ a ++ 61 ∷ (b ++ c)
unfolding member_text
member_glued a b c = simp append_assoc

module _ (d : Declared) (key to : Ty) (named : Named d) where
  pair_text : (p : Pair) (next : List ℕ) → text_of d key to p ++ next ≡ printing (out-Pair p).key d key ++ 58 ∷ 32 ∷ (printing (out-Pair p).value d to ++ next)
  pair_text p next =
      ap (λ (e : Printing × Printing). entry_text (e.0 d key) (e.1 d to) ++ next) (entry_printing_out p)
      ∙ entry_glued (printing (out-Pair p).key d key) (printing (out-Pair p).value d to) next

  entry_says : (p : Pair) → OfPair Says p → entry_fits d key to p ≡ true → both (entry_bytes p) ≡ true → (next : List ℕ) → IsEnd next → EntryBy ALL d key to p (text_of d key to p ++ next) next
  entry_says p says fits bytes next ends =
      let k = (out-Pair p).key in
      let v = (out-Pair p).value in
      let fit = and_parts ((told k).fits d key) ((told v).fits d to) (sym (entry_fits_is d key to p) ∙ fits) in
      let octets = and_parts (has_bytes k) (has_bytes v) (ap both (sym (entry_bytes_out p)) ∙ bytes) in
      let start = 32 ∷ (printing v d to ++ next) in
      let value_says = says.1 d to next named fit.1 octets.1 ends in
      subst (λ (b : List ℕ). EntryBy ALL d key to p b next) (sym (pair_text p next))
      (spelling.entry k v (58 ∷ start) start (sym (roll-out-Pair p)) (says.0 d key (58 ∷ start) named fit.0 octets.0 refl) refl
      (subst (λ (b : List ℕ). SpellsBy ALL d to v b next) (sym (gapless value_says)) value_says))

  entry_gapless : {p : Pair} {bytes rest : List ℕ} → EntryBy ALL d key to p bytes rest → past_gap bytes ≡ bytes
  entry_gapless (spelling.entry k v colon start p_is key_is sign value_is) = gapless key_is

  entries_gapless : {ps : List Pair} {bytes rest : List ℕ} → EntriesBy ALL d key to ps bytes rest → past_gap bytes ≡ bytes
  entries_gapless (spelling.last_entry next is closes) = entry_gapless is
  entries_gapless (spelling.more_entries next inside is comma others) = entry_gapless is

  entries_say : (rest : List ℕ) (p : Pair) (ps : List Pair) → OfPair Says p → AllOf (OfPair Says) ps → entry_fits d key to p ≡ true → list_all (entry_fits d key to) ps ≡ true → both (entry_bytes p) ≡ true → list_all both (map entry_bytes ps) ≡ true
      → EntriesBy ALL d key to (p ∷ ps) (text_of d key to p ++ tail 125 rest (texts_of d key to ps)) rest
  entries_say rest p [] says others fits all bytes octets = spelling.last_entry (125 ∷ rest) (entry_says p says fits bytes (125 ∷ rest) refl) refl
  entries_say rest p (q ∷ ps) says others fits all bytes octets =
      let next = tail 125 rest (texts_of d key to (q ∷ ps)) in
      let inside = text_of d key to q ++ tail 125 rest (texts_of d key to ps) in
      let parts = and_parts (entry_fits d key to q) _ all in
      let each = and_parts (both (entry_bytes q)) _ octets in
      let rest_says = entries_say rest q ps others.0 others.1 parts.0 parts.1 each.0 each.1 in
      spelling.more_entries next (32 ∷ inside) (entry_says p says fits bytes next refl) refl (subst (λ (b : List ℕ). EntriesBy ALL d key to (q ∷ ps) b rest) (sym (entries_gapless rest_says)) rest_says)

map_says : (ps : List Pair) → AllOf (OfPair Says) ps → Says (values.Map ps)
map_says ps all d t rest named fits bytes ends =
    let is = map_type d ps (out-Ty t) (sym (told_fits_map (values.Map ps) d t ps refl) ∙ fits) in
    let shown : printing (values.Map ps) d t ≡ map_text (map entry_printing ps) d (ty.Map is.0 is.1) = map_printed (values.Map ps) d t ps refl ∙ ap (map_text (map entry_printing ps) d) is.2 in
    let octets : list_all both (map entry_bytes ps) ≡ true = sym (bytes_at (values.Map ps) (value.Map ps) (outs-Map ps)) ∙ bytes in
    by_entries is.0 is.1 ps all is.2 is.3 is.4 octets shown
  where
    by_entries : (key to : Ty) (qs : List Pair) → AllOf (OfPair Says) qs → out-Ty t ≡ ty.Map key to → keys_rise (map entry_key qs) ≡ true → list_all (entry_fits d key to) qs ≡ true → list_all both (map entry_bytes qs) ≡ true
        → printing (values.Map qs) d t ≡ map_text (map entry_printing qs) d (ty.Map key to) → SpellsBy ALL d t (values.Map qs) (printing (values.Map qs) d t ++ rest) rest
    by_entries key to [] says is rise fit octets shown = spelling.no_entries key to (125 ∷ rest) is refl (ap (λ (l : List ℕ). l ++ rest) shown) refl
    by_entries key to (p ∷ qs) says is rise fit octets shown =
        let parts = and_parts (entry_fits d key to p) _ fit in
        let each = and_parts (both (entry_bytes p)) _ octets in
        let inside = text_of d key to p ++ tail 125 rest (texts_of d key to qs) in
        let inner = entries_say d key to named rest p qs says.0 says.1 parts.0 parts.1 each.0 each.1 in
        spelling.entries key to (p ∷ qs) (p ∷ qs) inside is refl
        (ap (λ (l : List ℕ). l ++ rest) shown ∙ whole 123 125 rest (text_of d key to p) (texts_of d key to qs))
        (subst (λ (b : List ℕ). EntriesBy ALL d key to (p ∷ qs) b rest) (sym (entries_gapless d key to named inner)) inner)
        (in_order [] (p ∷ qs) rise)

-- ---- structs

letter_front : (name more : List ℕ) → begins is_ascii_alphabetic name ≡ true → begins is_ascii_alphabetic (name ++ more) ≡ true
letter_front [] more h = absurd cc
letter_front (b ∷ name) more h = h

module _ (d : Declared) (named : Named d) where
  -- the text of a member that has a value, before what follows
  name_text : (m : Member) (v : Value) (next : List ℕ) → member_text m.name (printing v d m.ty) ++ next ≡ m.name ++ 61 ∷ (printing v d m.ty ++ next)
  name_text m v next = member_glued m.name (printing v d m.ty) next

  name_gapless : (m : Member) (v : Value) (next : List ℕ) → HasLetter m → past_gap (member_text m.name (printing v d m.ty) ++ next) ≡ member_text m.name (printing v d m.ty) ++ next
  name_gapless m v next has = letter_no_gap (member_text m.name (printing v d m.ty) ++ next) (ap (begins is_ascii_alphabetic) (name_text m v next) ∙ letter_front m.name (61 ∷ (printing v d m.ty ++ next)) has)

  members_say : (rest : List ℕ) (m : Member) (ms : List Member) (v : Value) (vs : List Value) → HasLetter m → AllOf HasLetter ms → Says v → SaysAll vs → (told v).fits d m.ty ≡ true → fit_told d ms (map told vs) ≡ true → has_bytes v ≡ true → list_all (λ b. b) (map has_bytes vs) ≡ true
      → MembersBy ALL d (m ∷ ms) (v ∷ vs) (member_text m.name (printing v d m.ty) ++ tail 41 rest (member_texts d ms (map printing vs))) rest
  members_say rest m [] v [] has all says others fits fit bytes octets =
      let next = 41 ∷ rest in
      let start = printing v d m.ty ++ next in
      let value_says = says d m.ty next named fits bytes refl in
      subst (λ (b : List ℕ). MembersBy ALL d (m ∷ []) (v ∷ []) b rest) (sym (name_text m v next))
      (spelling.more_members (61 ∷ start) start next next refl refl (subst (λ (b : List ℕ). SpellsBy ALL d m.ty v b next) (sym (gapless value_says)) value_says) refl (spelling.no_members refl))
  members_say rest m [] v (w ∷ vs) has all says others fits fit bytes octets = absurd cc
  members_say rest m (n ∷ ms) v [] has all says others fits fit bytes octets = absurd cc
  members_say rest m (n ∷ ms) v (w ∷ vs) has all says others fits fit bytes octets =
      let parts = and_parts ((told w).fits d n.ty) _ fit in
      let each = and_parts (has_bytes w) _ octets in
      let inside = member_text n.name (printing w d n.ty) ++ tail 41 rest (member_texts d ms (map printing vs)) in
      let next = 44 ∷ 32 ∷ inside in
      let start = printing v d m.ty ++ next in
      let value_says = says d m.ty next named fits bytes refl in
      let rest_says = members_say rest n ms w vs all.0 all.1 others.0 others.1 parts.0 parts.1 each.0 each.1 in
      let gap = name_gapless n w (tail 41 rest (member_texts d ms (map printing vs))) all.0 in
      subst (λ (b : List ℕ). MembersBy ALL d (m ∷ n ∷ ms) (v ∷ w ∷ vs) b rest) (sym (name_text m v next))
      (spelling.more_members (61 ∷ start) start next (past_gap inside) refl refl (subst (λ (b : List ℕ). SpellsBy ALL d m.ty v b next) (sym (gapless value_says)) value_says) (32 ∷ inside, refl, refl)
      (subst (λ (b : List ℕ). MembersBy ALL d (n ∷ ms) (w ∷ vs) b rest) (sym gap) rest_says))

struct_says : (vs : List Value) → SaysAll vs → Says (values.Struct vs)
struct_says vs all d t rest named fits bytes ends =
    let is = struct_type d vs (out-Ty t) (sym (told_fits_struct (values.Struct vs) d t vs refl) ∙ fits) in
    let shown : printing (values.Struct vs) d t ≡ struct_text (map printing vs) d (ty.Struct is.0) = struct_printed (values.Struct vs) d t vs refl ∙ ap (struct_text (map printing vs) d) is.1 in
    let octets : list_all (λ b. b) (map has_bytes vs) ≡ true = sym (bytes_at (values.Struct vs) (value.Struct vs) (outs-Struct vs)) ∙ bytes in
    let inner = by_members (members_at d is.0) (named is.0) vs all is.2 octets in
    spelling.members is.0 vs inner.0 is.1 refl (ap (λ (l : List ℕ). l ++ rest) shown ∙ inner.1) inner.2
  where
    by_members : (ms : List Member) → AllOf HasLetter ms → (us : List Value) → SaysAll us → fit_told d ms (map told us) ≡ true → list_all (λ b. b) (map has_bytes us) ≡ true
        → (inside : List ℕ) × ((40 ∷ (listed [] (member_texts d ms (map printing us)) ++ 41 ∷ [])) ++ rest ≡ 40 ∷ inside) × MembersBy ALL d ms us (past_gap inside) rest
    by_members [] has [] says fit octets = (41 ∷ rest, refl, spelling.no_members refl)
    by_members [] has (u ∷ us) says fit octets = absurd cc
    by_members (m ∷ ms) has [] says fit octets = absurd cc
    by_members (m ∷ ms) has (u ∷ us) says fit octets =
        let parts = and_parts ((told u).fits d m.ty) _ fit in
        let each = and_parts (has_bytes u) _ octets in
        let texts = member_texts d ms (map printing us) in (
          member_text m.name (printing u d m.ty) ++ tail 41 rest texts,
          whole 40 41 rest (member_text m.name (printing u d m.ty)) texts,
          subst (λ (b : List ℕ). MembersBy ALL d (m ∷ ms) (u ∷ us) b rest) (sym (name_gapless d named m u (tail 41 rest texts) has.0))
              (members_say d named rest m ms u us has.0 has.1 says.0 says.1 parts.0 parts.1 each.0 each.1),
        )

-- what is printed for a value that fits says the value
pub printed_says : (v : Value) → Says v
printed_says v = each_value Says (record { bool = bool_says; num = num_says; text = text_says; blob = blob_says; list = list_says; pairs = map_says; struct = struct_says }) v
