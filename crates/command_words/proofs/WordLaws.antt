-- What `clap` finds in words is what they ask for, and they ask for one thing.
use Rattle.std.proofs.Common.{◌≡◌, ◌≢◌, ◌⊎◌, inl, inr, ℕ, Bool, true, false, List, [], ◌∷◌, length, map, Option, Some, None, refl, sym, ap, subst, ◌∙◌, codes}
use Rattle.std.specs.Prelude.{Result, Ok, Err, IfOk, IsErr, IsErrAnd, ok_or, MatchOption, MatchResult}
use Rattle.std.specs.Option.{option_map}
use Rattle.std.specs.List.{list_all}
use Rattle.std.specs.Str.{bytes_eq}
use Rattle.std.proofs.lemmas.Bool.{and_parts, and_from}
use Rattle.std.proofs.lemmas.List.Folds.{list_all-map}
use Rattle.std.proofs.lemmas.Slice.Eq.{bytes_eq-Decides}
use Rattle.facts.specs.OptionSteps.{◌>>=◌}
use Rattle.facts.proofs.OptionLaws.{some_is, bind_some}
use Rattle.clap.specs.Kinds.{Kinds}
use Rattle.clap.specs.Walk.{Text, idle, subcommand_met}
use Rattle.clap.specs.Faults.{is_simple_and_free}
use Rattle.clap.specs.Kinds.{FailsBy}
use Rattle.clap.specs.Words.{App, HasMatchesOf, Row, fault_of, is_simple, subcommand_of, subcommand_rows_of}
use Rattle.clap.specs.declared.error.Error.{Error}
use Rattle.clap.specs.declared.parser.matches.ArgMatches.{ArgMatches}
use Rattle.command_words.specs.declared.request.WordsFault.{WordsFault}
use Rattle.command_words.specs.declared.request.WordsFault.TheVariants.{Usage, Memory}
use Rattle.command_words.specs.FormSteps.{forms}
use Rattle.command_words.specs.Words.{AskFor, AskOn, AskForCompat, AreNoForm, is_word}
use Rattle.command_words.specs.Asked.{Asked, check, plan, encode, decode, compat, AreAsked}
use Rattle.command_words.specs.WordSteps.{struct_of, asked_at}
use Rattle.command_words.proofs.FormLaws.{are_simple, Labels, no_words, help_fails, other_fails}
use Rattle.command_words.proofs.StructWords.{struct_found, struct_is, struct_word}
use Rattle.command_words.proofs.CommandLaws.{Found, All, Split, Reads, so_many, no_fault, found_is, by_one, by_three, read_file, read_struct, read_two, encodes, decodes, compares, check_reads, plan_reads, encode_reads, decode_reads, compat_reads}

-- ---- what is asked for is found

abbrev Taken : List Text → Asked → Type 0
Taken words x = All words × (fault_of forms words ≡ []) × (Found words ≡ Some x)

by_form : (name : Text) (count : ℕ) (read : List Text → Option Asked) → Reads name count read → (whole words : List Text) (x : Asked)
    → whole ≡ name ∷ words → is_word name ≡ true → All words → length words ≡ count → read words ≡ Some x → Taken whole x
by_form name count read is whole words x form first all long reads =
    subst (λ (w : List Text). Taken w x) (sym form)
    (and_from _ _ first all, no_fault name count read is words all long, found_is name count read is words all long ∙ reads)

all_three : (a b c : Text) → is_word a ≡ true → is_word b ≡ true → is_word c ≡ true → All (a ∷ b ∷ c ∷ [])
all_three a b c first second third = rw (first, second, third) refl

for_file : (name : Text) (make : Text → Asked) → Reads name 1 (read_file make) → is_word name ≡ true → (words : List Text) (file : Text) → AskFor name words file → Taken words (make file)
for_file name make is first words file ask = by_form name 1 (read_file make) is words (file ∷ []) (make file) ask.form first (rw ask.word refl) refl refl

for_struct : (name : Text) (make : Text → Split → Text → Asked) → Reads name 3 (read_struct make) → is_word name ≡ true
    → (words : List Text) (file home own values : Text) → AskOn name words file home own values → Taken words (make file (home, own) values)
for_struct name make is first words file home own values ask =
    by_form name 3 (read_struct make) is words (file ∷ ask.struct ∷ values ∷ []) (make file (home, own) values) ask.form first
    (all_three file ask.struct values ask.file_is (struct_word ask.struct home own ask.struct_is) ask.values_is) refl
    (ap (λ (o : Option Split). o >>= λ of. Some (make file of values)) (struct_found ask.struct home own ask.struct_is))

for_two : (words : List Text) (old new home own : Text) → AskForCompat words old new home own → Taken words (compat old new home own)
for_two words old new home own ask =
    by_form (codes "compat") 3 (read_two compares) compat_reads words (old ∷ new ∷ ask.struct ∷ []) (compat old new home own) ask.form refl
    (all_three old new ask.struct ask.old_is ask.new_is (struct_word ask.struct home own ask.struct_is)) refl
    (ap (λ (o : Option Split). o >>= λ of. Some (compares old new of)) (struct_found ask.struct home own ask.struct_is))

taken : (words : List Text) (x : Asked) → AreAsked words x → Taken words x
taken words (check file) ask = for_file (codes "check") check check_reads refl words file ask
taken words (plan script) ask = for_file (codes "plan") plan plan_reads refl words script ask
taken words (encode file home name values) ask = for_struct (codes "encode") encodes encode_reads refl words file home name values ask
taken words (decode file home name hex) ask = for_struct (codes "decode") decodes decode_reads refl words file home name hex ask
taken words (compat old new home name) ask = for_two words old new home name ask

-- they ask for one thing
pub one_asked : (words : List Text) (x y : Asked) → AreAsked words x → AreAsked words y → x ≡ y
one_asked words x y first second = some_is x y (sym (taken words x first).2 ∙ (taken words y second).2)

-- ---- what is found is asked for

-- the name of a command, `help`, or neither
data Named : Text → Type 0 where
  is_check : Named (codes "check")
  is_plan : Named (codes "plan")
  is_encode : Named (codes "encode")
  is_decode : Named (codes "decode")
  is_compat : Named (codes "compat")
  is_help : Named (codes "help")
  is_none : {name : Text} → subcommand_met Labels idle name ≡ None → Named name

by_name : (own name : Text) → Named own → (bytes_eq own name ≡ false → Named name) → Named name
by_name own name same other = by_test (bytes_eq own name) refl
  where
    by_test : (t : Bool) → bytes_eq own name ≡ t → Named name
    by_test true is = subst Named ((bytes_eq-Decides own name).0 is) same
    by_test false is = other is

named : (name : Text) → Named name
named name =
    by_name (codes "check") name is_check (λ a. by_name (codes "plan") name is_plan (λ b. by_name (codes "encode") name is_encode (λ c.
    by_name (codes "decode") name is_decode (λ d. by_name (codes "compat") name is_compat (λ e. by_name (codes "help") name is_help (λ f.
    is_none (rw (a, b, c, d, e, f) refl)))))))

file_asked : (name : Text) (make : Text → Asked) → ((words : List Text) (file : Text) → AskFor name words file → AreAsked words (make file)) → Reads name 1 (read_file make)
    → (words : List Text) → All words → fault_of forms (name ∷ words) ≡ [] → (x : Asked) → Found (name ∷ words) ≡ Some x → AreAsked (name ∷ words) x
file_asked name make asks is words all none x found =
    let long = so_many name 1 (read_file make) is words all none in
    by_one (λ words. All words → read_file make words ≡ Some x → AreAsked (name ∷ words) x)
    (λ a all e. subst (AreAsked (name ∷ a ∷ [])) (some_is (make a) x e) (asks (name ∷ a ∷ []) a (record { form = refl; word = (and_parts (is_word a) true all).0 })))
    words long all (sym (found_is name 1 (read_file make) is words all long) ∙ found)

struct_asked : (name : Text) (make : Text → Split → Text → Asked) → ((words : List Text) (file home own values : Text) → AskOn name words file home own values → AreAsked words (make file (home, own) values))
    → Reads name 3 (read_struct make) → (words : List Text) → All words → fault_of forms (name ∷ words) ≡ [] → (x : Asked) → Found (name ∷ words) ≡ Some x → AreAsked (name ∷ words) x
struct_asked name make asks is words all none x found =
    let long = so_many name 3 (read_struct make) is words all none in
    by_three (λ words. All words → read_struct make words ≡ Some x → AreAsked (name ∷ words) x) asked_by
    words long all (sym (found_is name 3 (read_struct make) is words all long) ∙ found)
  where
    asked_by : (a b c : Text) → All (a ∷ b ∷ c ∷ []) → (struct_of b >>= λ of. Some (make a of c)) ≡ Some x → AreAsked (name ∷ a ∷ b ∷ c ∷ []) x
    asked_by a b c all e =
        let first = and_parts (is_word a) (list_all is_word (b ∷ c ∷ [])) all in
        let second = and_parts (is_word b) (list_all is_word (c ∷ [])) first.1 in
        let of = bind_some (struct_of b) (λ of. Some (make a of c)) x e in
        subst (AreAsked (name ∷ a ∷ b ∷ c ∷ [])) (some_is (make a of.0 c) x of.2)
        (asks (name ∷ a ∷ b ∷ c ∷ []) a of.0.0 of.0.1 c
        (record { struct = b; form = refl; file_is = first.0; struct_is = struct_is b of.0 of.1; values_is = (and_parts (is_word c) true second.1).0 }))

two_asked : (words : List Text) → All words → fault_of forms (codes "compat" ∷ words) ≡ [] → (x : Asked) → Found (codes "compat" ∷ words) ≡ Some x → AreAsked (codes "compat" ∷ words) x
two_asked words all none x found =
    let long = so_many (codes "compat") 3 (read_two compares) compat_reads words all none in
    by_three (λ words. All words → read_two compares words ≡ Some x → AreAsked (codes "compat" ∷ words) x) asked_by
    words long all (sym (found_is (codes "compat") 3 (read_two compares) compat_reads words all long) ∙ found)
  where
    asked_by : (a b c : Text) → All (a ∷ b ∷ c ∷ []) → (struct_of c >>= λ of. Some (compares a b of)) ≡ Some x → AreAsked (codes "compat" ∷ a ∷ b ∷ c ∷ []) x
    asked_by a b c all e =
        let first = and_parts (is_word a) (list_all is_word (b ∷ c ∷ [])) all in
        let second = and_parts (is_word b) (list_all is_word (c ∷ [])) first.1 in
        let of = bind_some (struct_of c) (λ of. Some (compares a b of)) x e in
        subst (AreAsked (codes "compat" ∷ a ∷ b ∷ c ∷ [])) (some_is (compares a b of.0) x of.2)
        (record { struct = c; form = refl; old_is = first.0; new_is = second.0; struct_is = struct_is c of.0 of.1 })

asked : (words : List Text) → All words → fault_of forms words ≡ [] → (x : Asked) → Found words ≡ Some x → AreAsked words x
asked [] all none x found = absurd (no_words none)
asked (name ∷ words) all none x found = by_named name (named name) all none found
  where
    by_named : (name : Text) → Named name → All (name ∷ words) → fault_of forms (name ∷ words) ≡ [] → Found (name ∷ words) ≡ Some x → AreAsked (name ∷ words) x
    by_named name is_check all none found = file_asked (codes "check") check (λ w file ask. ask) check_reads words all none x found
    by_named name is_plan all none found = file_asked (codes "plan") plan (λ w file ask. ask) plan_reads words all none x found
    by_named name is_encode all none found = struct_asked (codes "encode") encodes (λ w file home own values ask. ask) encode_reads words all none x found
    by_named name is_decode all none found = struct_asked (codes "decode") decodes (λ w file home own values ask. ask) decode_reads words all none x found
    by_named name is_compat all none found = two_asked words all none x found
    by_named name is_help all none found = absurd (help_fails words none)
    by_named name (is_none other) all none found = absurd (other_fails name words (and_parts (is_word name) (list_all is_word words) all).0 other none)

-- ---- words that are no form

pub no_form_is : (words : List Text) → ((x : Asked) → AreAsked words x → ⊥) → AreNoForm words
no_form_is words none =
    record {
      no_check = λ file. none (check file);
      no_plan = λ script. none (plan script);
      no_encode = λ file home name values. none (encode file home name values);
      no_decode = λ file home name hex. none (decode file home name hex);
      no_compat = λ old new home name. none (compat old new home name);
    }

pub not_none : (words : List Text) (x : Asked) → AreAsked words x → AreNoForm words → ⊥
not_none words (check file) ask none = none.no_check file ask
not_none words (plan script) ask none = none.no_plan script ask
not_none words (encode file home name values) ask none = none.no_encode file home name values ask
not_none words (decode file home name hex) ask none = none.no_decode file home name hex ask
not_none words (compat old new home name) ask none = none.no_compat old new home name ask

pub no_form_of_others : (words : List Text) → list_all is_word words ≡ false → AreNoForm words
no_form_of_others words other = no_form_is words (λ x ask. let both : true ≡ false = sym (taken words x ask).0 ∙ other in cc)

pub no_form_at_fault : (words : List Text) → fault_of forms words ≢ [] → AreNoForm words
no_form_at_fault words fault = no_form_is words (λ x ask. fault (taken words x ask).1)

no_form_at_none : (words : List Text) → Found words ≡ None → AreNoForm words
no_form_at_none words none = no_form_is words (λ x ask. let both : Some x ≡ None = sym (taken words x ask).2 ∙ none in cc)

-- words ask for something, or are no form of a command
abbrev pub Either : List Text → Type 0
Either words = ((x : Asked) × AreAsked words x) ⊎ AreNoForm words

pub asked_or_no_form : (words : List Text) → Either words
asked_or_no_form words = by_words (list_all is_word words) refl
  where
    by_found : All words → fault_of forms words ≡ [] → (o : Option Asked) → Found words ≡ o → Either words
    by_found all none (Some x) e = inl (x, asked words all none x e)
    by_found all none None e = inr (no_form_at_none words e)

    by_fault : All words → (kinds : Kinds) → fault_of forms words ≡ kinds → Either words
    by_fault all [] e = by_found all e (Found words) refl
    by_fault all (k ∷ ks) e = inr (no_form_at_fault words (λ none. let both : k ∷ ks ≡ [] = sym e ∙ none in cc))

    by_words : (t : Bool) → list_all is_word words ≡ t → Either words
    by_words true e = by_fault e (fault_of forms words) refl
    by_words false e = inr (no_form_of_others words e)

-- ---- what the functions return

pub texts_are : {X : Type 0} (bytes : X → Text) (words : List X) (test is : Bool) → test ≡ list_all (λ word. is_word (bytes word)) words → test ≡ is → list_all is_word (map bytes words) ≡ is
texts_are bytes words test is said given = list_all-map is_word bytes words ∙ (sym said ∙ given)

pub matches_taken : {F : Type 0} (Post : Error → F → Type 0) (app : App) (words : List Text) (parsed : Result ArgMatches Error) (result : Result ArgMatches F) → app ≡ forms → IfOk parsed (HasMatchesOf app words)
    → (is_simple_and_free app ≡ true → FailsBy (fault_of app words) parsed) → MatchResult parsed (λ m. result ≡ Ok m) (λ e. IsErrAnd result (Post e))
    → IfOk result (λ m. (fault_of forms words ≡ []) × (subcommand_rows_of m ≡ subcommand_of forms words))
matches_taken {F} Post app words (Ok m) result is matches kinds same =
    subst (λ (r : Result ArgMatches F). IfOk r (λ m. (fault_of forms words ≡ []) × (subcommand_rows_of m ≡ subcommand_of forms words))) (sym same) (
      ap (λ (a : App). fault_of a words) (sym is) ∙ kinds (ap is_simple_and_free is ∙ are_simple),
      (matches (ap is_simple is ∙ (and_parts (is_simple forms) _ are_simple).0)).1 ∙ ap (λ (a : App). subcommand_of a words) is,
    )
matches_taken Post app words (Err e) (Ok m) is matches kinds same = absurd same
matches_taken Post app words (Err e) (Err own) is matches kinds same = tt

pub request_is : {Y : Type 0} (view : Y → Asked) (words : List Text) (met : Option (Text × List Row)) (found : Option Y) → All words → (fault_of forms words ≡ []) × (met ≡ subcommand_of forms words) → option_map view found ≡ asked_at met
    → MatchOption found (AreNoForm words) (λ request. AreAsked words (view request))
request_is view words met None all is found = no_form_at_none words (ap asked_at (sym is.1) ∙ sym found)
request_is view words met (Some request) all is found = asked words all is.0 (view request) (ap asked_at (sym is.1) ∙ sym found)

abbrev pub failed : {A : Type 0} → WordsFault → Result A WordsFault
failed fault = Err fault

-- words that all may stand in a command are not those of which one may not
pub not_others : (P : Type 0) (words : List Text) → All words → list_all is_word words ≡ false → P
not_others P words all other = absurd (let both : true ≡ false = sym all ∙ other in cc)

-- the request that is returned, or why there is none
module _ {Y : Type 0} (view : Y → Asked) (words : List Text) where
  pub usage_failed : {A : Type 0} (fault : WordsFault) (result : Result Y WordsFault) → IsErr result × IsErrAnd result (λ e. e ≡ fault) → (failed {A = A} fault ≡ failed Usage → fault_of forms words ≢ []) → result ≡ Err Usage → AreNoForm words
  usage_failed fault (Ok request) is fails same = absurd cc
  usage_failed fault (Err own) is fails same = let usage : own ≡ Usage = cc in no_form_at_fault words (fails (ap failed (sym is.1 ∙ usage)))

  abbrev Matched : Option Y → Type 0
  Matched found = MatchOption found (AreNoForm words) (λ request. AreAsked words (view request))

  pub asked_found : (found : Option Y) (result : Result Y WordsFault) → result ≡ ok_or found Usage → Matched found → IfOk result (λ request. AreAsked words (view request))
  asked_found found result is given = subst (λ (r : Result Y WordsFault). IfOk r (λ request. AreAsked words (view request))) (sym is) (by_found found given)
    where
      by_found : (found : Option Y) → Matched found → IfOk (ok_or found Usage) (λ request. AreAsked words (view request))
      by_found None given = tt
      by_found (Some request) given = given

  pub usage_found : (found : Option Y) (result : Result Y WordsFault) → result ≡ ok_or found Usage → Matched found → result ≡ Err Usage → AreNoForm words
  usage_found None result is given same = given
  usage_found (Some request) result is given same = absurd (let both : Ok request ≡ Err Usage = sym is ∙ same in cc)

  pub no_form_found : (found : Option Y) (result : Result Y WordsFault) → result ≡ ok_or found Usage → Matched found → AreNoForm words → (result ≡ Err Usage) ⊎ (result ≡ Err Memory)
  no_form_found None result is given none = inl is
  no_form_found (Some request) result is given none = absurd (not_none words (view request) given none)
