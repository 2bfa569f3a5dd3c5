-- Where a rule is broken, reading stops.
use Rattle.std.proofs.Common.{◌≡◌, ◌≤◌, ◌<◌, ℕ, zero, suc, ℤ, Bool, true, false, ◌==◌, List, [], ◌∷◌, ◌++◌, length, take, drop, map, Some, None, Ok, Err, refl, sym, ap, ◌∙◌, subst, arith, length-append}
use Rattle.std.proofs.lemmas.List.{take-append-drop}
use Rattle.std.specs.List.{Contains, insert}
use Rattle.idl_lex.specs.Bytes.{begins}
use Rattle.tars_model.specs.Declarations.{Declared, members_at}
use Rattle.tars_model.specs.Types.{TyLayer}
use Rattle.tars_model.specs.Values.{Key, key_of, entry_key, is_number_of, is_signed}
use Rattle.tars_model.specs.declared.member.Member.{Member}
use Rattle.tars_model.specs.declared.ty.Ty.{Ty, out-Ty}
use Rattle.tars_model.specs.declared.ty.Ty.TheOpen as ty
use Rattle.tars_model.specs.declared.value.Pair.{Pair}
use Rattle.tars_model.specs.declared.value.Value.{Value, out-Value}
use Rattle.tars_model.specs.declared.value.Value.TheVariants as values
use Rattle.value_text.specs.Faults.{AfterElements, AfterEntries, AfterMembers, OpensKey, Opens, Reaches, BreaksRule}
use Rattle.value_text.specs.Faults as faults
use Rattle.value_text.specs.ReadSteps.{Read, Stop, out_of_range, number_at}
use Rattle.value_text.specs.ValueSteps.{place_at, elements_at, list_at, entry_at, entries_at, map_at, field_at, fields_at, struct_at, value_by, value_at}
use Rattle.value_text.specs.Spelling.{past_gap, has_numbers, SaysNumber, Spells, Entry, FORM, SpellsBy}
use Rattle.value_text.specs.Spelling as spelling
use Rattle.value_text.specs.declared.value_fault.ValueWhy.{ValueWhy}
use Rattle.value_text.specs.declared.value_fault.ValueWhy.TheVariants.{Range, TwiceKey}
use Rattle.value_text.proofs.Complete.{comma_read, a_list, value_is_read, entry_is_read}
use Rattle.value_text.proofs.Keys.{insert_between, place_fits}
use Rattle.value_text.proofs.KeySets.{Kept, OfKind, none_kept, kept_more, spelled_kind, no_place_left, place_open}
use Rattle.value_text.proofs.MapSound.{made_key}
use Rattle.value_text.proofs.NumberReads.{wide_is_out}
use Rattle.value_text.proofs.Opening.{is_closing, value_opens, entry_opens, no_bracket, no_brace, digits_said, name_said, said_is_read, reads_numbers}
use Rattle.value_text.proofs.Reaching.{opens_shorter}
use Rattle.value_text.proofs.Signs.{sign_is_read, word_is_read, comma_is_read, past_gap_shorter}
use Rattle.value_text.proofs.Sizes.{value_shorter, entry_shorter}
use Rattle.value_text.proofs.Stopping.Signs.{stop}

-- ---- one step

module _ (f g : List ℕ → Read Value) (bytes : List ℕ) (s : Stop) where
  element_stops : (count : ℕ) → f bytes ≡ Err s → elements_at f (suc count) bytes ≡ Err s
  unfolding elements_at
  element_stops count h = rw h refl

  later_element_stops : (count : ℕ) (v : Value) (next inside : List ℕ) → f bytes ≡ Ok (v, next) → past_gap next ≡ 44 ∷ inside → elements_at f count (past_gap inside) ≡ Err s → elements_at f (suc count) bytes ≡ Err s
  unfolding elements_at
  later_element_stops count v next inside is comma h = rw (is, comma_is_read 93 next inside refl comma, h) refl

  list_stops : (inside : List ℕ) → bytes ≡ 91 ∷ inside → begins (λ b. b == 93) (past_gap inside) ≡ false → elements_at f (length (past_gap inside)) (past_gap inside) ≡ Err s → list_at f bytes ≡ Err s
  unfolding list_at
  list_stops inside text other h = rw (sign_is_read 91 bytes inside text, other, h) refl

  key_stops : (keys : List Key) → f bytes ≡ Err s → entry_at f g keys bytes ≡ Err s
  unfolding entry_at
  key_stops keys h = rw h refl

  value_stops : (keys : List Key) (k : Value) (colon after : List ℕ) (at : ℕ) → f bytes ≡ Ok (k, colon) → place_at (key_of (out-Value k)) keys ≡ Some at → past_gap colon ≡ 58 ∷ after → g (past_gap after) ≡ Err s → entry_at f g keys bytes ≡ Err s
  unfolding entry_at
  value_stops keys k colon after at is place sign h = rw (is, place, sign_is_read 58 (past_gap colon) after sign, h) refl

  key_is_taken : (keys : List Key) (k : Value) (colon : List ℕ) → f bytes ≡ Ok (k, colon) → place_at (key_of (out-Value k)) keys ≡ None → entry_at f g keys bytes ≡ Err (stop bytes TwiceKey)
  unfolding entry_at
  key_is_taken keys k colon is place = rw (is, place) refl

  entry_stops : (count : ℕ) (pairs : List Pair) → entry_at f g (map entry_key pairs) bytes ≡ Err s → entries_at f g (suc count) pairs bytes ≡ Err s
  unfolding entries_at
  entry_stops count pairs h = rw h refl

  later_entry_stops : (count at : ℕ) (p : Pair) (pairs all : List Pair) (next inside : List ℕ) → entry_at f g (map entry_key pairs) bytes ≡ Ok ((at, p), next) → insert pairs at p ≡ all → past_gap next ≡ 44 ∷ inside
      → entries_at f g count all (past_gap inside) ≡ Err s → entries_at f g (suc count) pairs bytes ≡ Err s
  unfolding entries_at
  later_entry_stops count at p pairs all next inside is put_in comma h = rw (is, comma_is_read 125 next inside refl comma) (ap (λ (l : List Pair). entries_at f g count l (past_gap inside)) put_in ∙ h)

  map_stops : (inside : List ℕ) → bytes ≡ 123 ∷ inside → begins (λ b. b == 125) (past_gap inside) ≡ false → entries_at f g (length (past_gap inside)) [] (past_gap inside) ≡ Err s → map_at f g bytes ≡ Err s
  unfolding map_at
  map_stops inside text other h = rw (sign_is_read 123 bytes inside text, other, h) refl

module _ (f : Ty → List ℕ → Read Value) (m : Member) (ms : List Member) (bytes equals start : List ℕ) (s : Stop) where
  field_stops : bytes ≡ m.name ++ equals → past_gap equals ≡ 61 ∷ start → f m.ty (past_gap start) ≡ Err s → field_at f m bytes ≡ Err s
  unfolding field_at
  field_stops name sign h = rw (word_is_read m.name bytes equals name, sign_is_read 61 (past_gap equals) start sign, h) refl

  first_field_stops : field_at f m bytes ≡ Err s → fields_at f (m ∷ ms) bytes ≡ Err s
  unfolding fields_at
  first_field_stops h = rw h refl

  later_field_stops : (v : Value) (next after : List ℕ) → bytes ≡ m.name ++ equals → past_gap equals ≡ 61 ∷ start → f m.ty (past_gap start) ≡ Ok (v, next) → spelling.Comma ms (past_gap next) after → fields_at f ms after ≡ Err s → fields_at f (m ∷ ms) bytes ≡ Err s
  unfolding fields_at field_at
  later_field_stops v next after name sign is comma h = rw (word_is_read m.name bytes equals name, sign_is_read 61 (past_gap equals) start sign, is, comma_read ms (past_gap next) after comma, h) refl

struct_stops : (f : Ty → List ℕ → Read Value) (ms : List Member) (bytes inside : List ℕ) (s : Stop) → bytes ≡ 40 ∷ inside → fields_at f ms (past_gap inside) ≡ Err s → struct_at f ms bytes ≡ Err s
unfolding struct_at
struct_stops f ms bytes inside s text h = rw (sign_is_read 40 bytes inside text, h) refl

layer_stops : (room : ℕ) (d : Declared) (t : Ty) (bytes : List ℕ) (s : Stop) (l : TyLayer) → out-Ty t ≡ l → value_by d (value_at room d) l bytes ≡ Err s → value_at (suc room) d t bytes ≡ Err s
unfolding value_at
layer_stops room d t bytes s l is h = ap (λ (k : TyLayer). value_by d (value_at room d) k bytes) is ∙ h

-- ---- after what goes well

-- no closing sign stands at the start
abbrev Clear : List ℕ → Type 0
Clear bytes = begins is_closing bytes ≡ false

elements_clear : {d : Declared} {of : Ty} {bytes here : List ℕ} → AfterElements d of bytes here → Clear here → Clear bytes
elements_clear faults.no_element clear = clear
elements_clear (faults.one_element next inside is comma others) clear = value_opens is

entries_clear : {d : Declared} {key to : Ty} {before keys : List Key} {bytes here : List ℕ} → AfterEntries d key to before bytes keys here → Clear here → Clear bytes
entries_clear faults.no_entry clear = clear
entries_clear (faults.one_entry next inside is fresh comma others) clear = entry_opens is

pub entry_kind : {d : Declared} {key to : Ty} {p : Pair} {bytes rest : List ℕ} → Entry d key to p bytes rest → OfKind key (entry_key p)
entry_kind {key = key} {p = p} (spelling.entry k v colon start p_is key_is sign value_is) = subst (OfKind key) (sym (ap entry_key p_is ∙ made_key k v)) (spelled_kind key_is)

-- what follows a comma is shorter
after_comma : (next inside : List ℕ) → past_gap next ≡ 44 ∷ inside → length (past_gap inside) < length next
after_comma next inside comma =
    let gap = past_gap_shorter next in
    let len = ap length comma in
    let gap_in = past_gap_shorter inside in
    omega arith

elements_stop : (room : ℕ) {d : Declared} {of : Ty} {bytes here : List ℕ} (s : Stop) → AfterElements d of bytes here → length bytes ≤ room → (count : ℕ) → length bytes ≤ count → 0 < length here → value_at room d of here ≡ Err s → elements_at (value_at room d of) count bytes ≡ Err s
elements_stop room s faults.no_element within zero few some h = absurd (omega arith)
elements_stop room {d = d} {of = of} {bytes = bytes} s faults.no_element within (suc count) few some h = element_stops (value_at room d of) (value_at room d of) bytes s count h
elements_stop room s (faults.one_element next inside is comma others) within zero few some h = let less = value_shorter is in absurd (omega arith)
elements_stop room {d = d} {of = of} {bytes = bytes} s (faults.one_element {v = v} next inside is comma others) within (suc count) few some h =
    let less = value_shorter is in
    let comma_less = after_comma next inside comma in
    later_element_stops (value_at room d of) (value_at room d of) bytes s count v next inside (value_is_read room is within) comma
    (elements_stop room s others (omega arith) count (omega arith) some h)

entries_stop : (room : ℕ) {d : Declared} {key to : Ty} {before keys : List Key} {bytes here : List ℕ} (s : Stop) → AfterEntries d key to before bytes keys here → (pairs : List Pair) → Kept key before pairs → length bytes ≤ room → (count : ℕ) → length bytes ≤ count → 0 < length here
    → ((pairs : List Pair) → Kept key keys pairs → entry_at (value_at room d key) (value_at room d to) (map entry_key pairs) here ≡ Err s) → entries_at (value_at room d key) (value_at room d to) count pairs bytes ≡ Err s
entries_stop room s faults.no_entry pairs kept within zero few some h = absurd (omega arith)
entries_stop room {d = d} {key = key} {to = to} {bytes = bytes} s faults.no_entry pairs kept within (suc count) few some h = entry_stops (value_at room d key) (value_at room d to) bytes s count pairs (h pairs kept)
entries_stop room s (faults.one_entry next inside is fresh comma others) pairs kept within zero few some h = let less = entry_shorter is in absurd (omega arith)
entries_stop room {d = d} {key = key} {to = to} {bytes = bytes} s (faults.one_entry {p = p} {before = before} next inside is fresh comma others) pairs kept within (suc count) few some h =
    let less = entry_shorter is in
    let comma_less = after_comma next inside comma in
    let place = place_open key before pairs kept (entry_key p) (entry_kind is) fresh in
    let fits = place_fits p pairs place.0 kept.rise place.1 in
    let lower = take place.0 pairs in
    let higher = drop place.0 pairs in
    let split = sym (take-append-drop place.0 pairs) in
    later_entry_stops (value_at room d key) (value_at room d to) bytes s count (length lower) p pairs (lower ++ p ∷ higher) next inside (entry_is_read room is lower higher pairs split fits.rise within)
    (ap (λ (l : List Pair). insert l (length lower) p) split ∙ insert_between lower higher p) comma
    (entries_stop room s others (lower ++ p ∷ higher) (kept_more key before lower higher p (subst (Kept key before) split kept) (entry_kind is) fits.rise) (omega arith) count (omega arith) some h)

pub some_member : {d : Declared} {ms left : List Member} {bytes here : List ℕ} → AfterMembers d ms bytes left here → (m : Member) (others : List Member) → left ≡ m ∷ others → (k : Member) × (ks : List Member) × (ms ≡ k ∷ ks)
some_member faults.no_member m others is = (m, others, is)
some_member (faults.one_member {m = k} {ms = ks} equals start next inside name sign is comma more) m others left_is = (k, ks, refl)

comma_before : {d : Declared} {ms left : List Member} {bytes here : List ℕ} → AfterMembers d ms bytes left here → (m : Member) (others : List Member) → left ≡ m ∷ others → (next inside : List ℕ) → next ≡ 44 ∷ inside → spelling.Comma ms next (past_gap inside)
comma_before more m others left_is next inside comma = let some = some_member more m others left_is in subst (λ (ms : List Member). spelling.Comma ms next (past_gap inside)) (sym some.2) (inside, comma, refl)

members_stop : (room : ℕ) {d : Declared} {ms left : List Member} {bytes here : List ℕ} (s : Stop) → AfterMembers d ms bytes left here → (m : Member) (others : List Member) → left ≡ m ∷ others → length bytes ≤ room → field_at (value_at room d) m here ≡ Err s → fields_at (value_at room d) ms bytes ≡ Err s
members_stop room {d = d} {bytes = bytes} s faults.no_member m others left_is within h =
    subst (λ (ms : List Member). fields_at (value_at room d) ms bytes ≡ Err s) (sym left_is) (first_field_stops (value_at room d) m others bytes [] [] s h)
members_stop room {d = d} {bytes = bytes} s (faults.one_member {m = k} {ms = ks} {v = v} equals start next inside name sign is comma more) m others left_is within h =
    let name_len = ap length name ∙ length-append k.name equals in
    let gap = past_gap_shorter equals in
    let sign_len = ap length sign in
    let gap_in = past_gap_shorter start in
    let less = value_shorter is in
    let comma_less = after_comma next inside comma in
    later_field_stops (value_at room d) k ks bytes equals start s v next (past_gap inside) name sign (value_is_read room is (omega arith)) (comma_before more m others left_is (past_gap next) inside comma)
    (members_stop room s more m others left_is (omega arith) h)

-- ---- one value inside another

keys_stop : (room : ℕ) {d : Declared} {t key to : Ty} {bytes here : List ℕ} {keys : List Key} (s : Stop) → OpensKey d t key to bytes keys here → Clear here → 0 < length here → length bytes ≤ suc room
    → ((pairs : List Pair) → Kept key keys pairs → entry_at (value_at room d key) (value_at room d to) (map entry_key pairs) here ≡ Err s) → value_at (suc room) d t bytes ≡ Err s
keys_stop room {d = d} {t = t} {key = key} {to = to} {bytes = bytes} s o clear some within h =
    let gap = past_gap_shorter o.inside in
    let len = ap length o.text in
    layer_stops room d t bytes s (ty.Map key to) o.is_map
    (map_stops (value_at room d key) (value_at room d to) bytes s o.inside o.text (no_brace (past_gap o.inside) (entries_clear o.entries clear))
    (entries_stop room s o.entries [] (none_kept key) (omega arith) (length (past_gap o.inside)) (omega arith) some h))

opens_stop : (room : ℕ) {d : Declared} {t u : Ty} {bytes here : List ℕ} (s : Stop) → Opens d t bytes u here → Clear here → 0 < length here → length bytes ≤ suc room → value_at room d u here ≡ Err s → value_at (suc room) d t bytes ≡ Err s
opens_stop room {d = d} {t = t} {u = of} {bytes = bytes} s (faults.element inside is other text elements) clear some within h =
    let gap = past_gap_shorter inside in
    let len = ap length text in
    layer_stops room d t bytes s (ty.Vector of) is
    (a_list (value_at room d) of bytes other ∙ list_stops (value_at room d of) (value_at room d of) bytes s inside text (no_bracket (past_gap inside) (elements_clear elements clear))
    (elements_stop room s elements (omega arith) (length (past_gap inside)) (omega arith) some h))
opens_stop room {d = d} {u = key} {here = here} s (faults.key {to = to} o) clear some within h =
    keys_stop room s o clear some within (λ pairs kept. key_stops (value_at room d key) (value_at room d to) here s (map entry_key pairs) h)
opens_stop room {d = d} {u = to} s (faults.value {key = key} {keys = keys} {k = k} start colon after o key_is fresh sign is) clear some within h =
    let less = opens_shorter (faults.key o) in
    let more = value_shorter key_is in
    keys_stop room s o (value_opens key_is) (omega arith) within (λ pairs kept.
    let place = place_open key keys pairs kept (key_of (out-Value k)) (spelled_kind key_is) fresh in
    value_stops (value_at room d key) (value_at room d to) start s (map entry_key pairs) k colon after place.0 (value_is_read room key_is (omega arith)) place.1 sign (ap (value_at room d to) (sym is) ∙ h))
opens_stop room {d = d} {t = t} {bytes = bytes} s (faults.member {m = m} {left = others} number inside start equals after is text members name sign here_is) clear some within h =
    let gap = past_gap_shorter inside in
    let len = ap length text in
    layer_stops room d t bytes s (ty.Struct number) is
    (struct_stops (value_at room d) (members_at d number) bytes inside s text
    (members_stop room s members m others refl (omega arith) (field_stops (value_at room d) m others start equals after s name sign (ap (value_at room d m.ty) (sym here_is) ∙ h))))

opens_clear : {d : Declared} {t u : Ty} {bytes here : List ℕ} → Opens d t bytes u here → Clear bytes
opens_clear (faults.element inside is other text elements) = ap (begins is_closing) text
opens_clear (faults.key o) = ap (begins is_closing) o.text
opens_clear (faults.value start colon after o key_is fresh sign is) = ap (begins is_closing) o.text
opens_clear (faults.member number inside start equals after is text members name sign here_is) = ap (begins is_closing) text

reaches_stop : {d : Declared} {t u : Ty} {bytes here : List ℕ} (room : ℕ) (s : Stop) → Reaches d t bytes u here → Clear here → 0 < length here → length bytes ≤ room
    → ((room : ℕ) → length here ≤ room → value_at room d u here ≡ Err s) → value_at room d t bytes ≡ Err s
reaches_stop room s faults.itself clear some within h = h room within
reaches_stop zero s (faults.deeper opens more) clear some within h = let less = opens_shorter opens in absurd (omega arith)
reaches_stop (suc room) s (faults.deeper opens more) clear some within h =
    let less = opens_shorter opens in
    opens_stop room s opens (reaches_clear more clear) (reaches_some more some) within (reaches_stop room s more clear some (omega arith) h)
  where
    reaches_clear : {d : Declared} {t u : Ty} {bytes here : List ℕ} → Reaches d t bytes u here → Clear here → Clear bytes
    reaches_clear faults.itself clear = clear
    reaches_clear (faults.deeper opens more) clear = opens_clear opens

    reaches_some : {d : Declared} {t u : Ty} {bytes here : List ℕ} → Reaches d t bytes u here → 0 < length here → 0 < length bytes
    reaches_some faults.itself some = some
    reaches_some (faults.deeper opens more) some = let less = opens_shorter opens in omega arith

-- ---- a rule that is not kept

number_is_out : (d : Declared) (l : TyLayer) (n : ℤ) (bytes rest : List ℕ) → SaysNumber d l n bytes rest → is_number_of l n ≡ false → number_at d l bytes ≡ out_of_range bytes
unfolding number_at
number_is_out d l n bytes rest says out = by_size (is_signed 63 n) refl says
  where
    by_size : (long : Bool) → is_signed 63 n ≡ long → SaysNumber d l n bytes rest → number_at d l bytes ≡ out_of_range bytes
    by_size true long says = rw (said_is_read d l n bytes rest long says, out) refl
    by_size false wide (spelling.digits_of is) = rw (digits_said d l n bytes rest is, wide_is_out n bytes rest wide is) refl
    by_size false wide (spelling.name k enum_is is) = rw (name_said d l n bytes rest k enum_is is, out) refl

range_stops : (d : Declared) (u : Ty) (n : ℤ) (here rest : List ℕ) → has_numbers (out-Ty u) ≡ true → SaysNumber d (out-Ty u) n here rest → is_number_of (out-Ty u) n ≡ false → 0 < length here → (room : ℕ) → length here ≤ room → value_at room d u here ≡ Err (stop here Range)
range_stops d u n here rest has says out some zero within = absurd (omega arith)
range_stops d u n here rest has says out some (suc room) within = layer_stops room d u here (stop here Range) (out-Ty u) refl (reads_numbers d (value_at room d) (out-Ty u) here has ∙ number_is_out d (out-Ty u) n here rest says out)

again_stops : {d : Declared} {t key to : Ty} {bytes here colon : List ℕ} {keys : List Key} {k : Value} → OpensKey d t key to bytes keys here → Spells d key k here colon → Contains keys (key_of (out-Value k)) → (room : ℕ) → length bytes ≤ room → value_at room d t bytes ≡ Err (stop here TwiceKey)
again_stops o key_is again zero within = let less = opens_shorter (faults.key o) in absurd (omega arith)
again_stops {d = d} {key = key} {to = to} {here = here} {colon = colon} {keys = keys} {k = k} o key_is again (suc room) within =
    let less = opens_shorter (faults.key o) in
    let more = value_shorter key_is in
    keys_stop room (stop here TwiceKey) o (value_opens key_is) (omega arith) within (λ pairs kept.
    key_is_taken (value_at room d key) (value_at room d to) here (stop here TwiceKey) (map entry_key pairs) k colon (value_is_read room key_is (omega arith)) (no_place_left key keys pairs kept (key_of (out-Value k)) again))

pub broken_stops : (room : ℕ) {d : Declared} {t : Ty} {bytes here : List ℕ} {why : ValueWhy} → BreaksRule d t bytes here why → length bytes ≤ room → value_at room d t bytes ≡ Err (stop here why)
broken_stops room {d = d} {t = t} {bytes = bytes} {here = here} (faults.out_of_range {u = u} {n = n} {rest = rest} why_is reaches has says out) within =
    let form : SpellsBy FORM d u (values.Num n) here rest = spelling.number n has refl says in
    let less = value_shorter form in
    subst (λ (why : ValueWhy). value_at room d t bytes ≡ Err (stop here why)) (sym why_is)
    (reaches_stop room (stop here Range) reaches (value_opens form) (omega arith) within (range_stops d u n here rest has says out (omega arith)))
broken_stops room {d = d} {t = t} {bytes = bytes} {here = here} (faults.key_again why_is reaches o key_is again) within =
    let less = opens_shorter (faults.key o) in
    subst (λ (why : ValueWhy). value_at room d t bytes ≡ Err (stop here why)) (sym why_is)
    (reaches_stop room (stop here TwiceKey) reaches (opens_clear (faults.key o)) (omega arith) within (again_stops o key_is again))
