-- The words that stood before.
use Rattle.std.proofs.Common.{◌≡◌, ℕ, Bool, true, false, cond, not, ◌||◌, List, [], ◌∷◌, ◌++◌, map, refl, sym, ap, ◌∙◌, subst, arith, Option, length, take, get_or, ◌<◌, ◌+◌, ◌&&◌, append-nil, fold}
use Rattle.std.specs.List.{list_any}
use Rattle.std.proofs.lemmas.List.Folds.{list_any-append}
use Rattle.std.proofs.lemmas.Slice.Eq.{bytes_eq-Decides}
use Rattle.std.specs.Str.{bytes_eq}
use Rattle.std.proofs.lemmas.List.{length-map, length-take-le}
use Rattle.least_fault.specs.Conditions.{found_after}
use Rattle.least_fault.specs.Least.{Notes}
use Rattle.least_fault.proofs.Together.{notes_next}
use Rattle.idl_lex.specs.declared.span.Span.{Span}
use Rattle.idl_scene.specs.Faults.{is_below, fault_if}
use Rattle.idl_scene.specs.Items.{word}
use Rattle.idl_scene.specs.Known.{Scene}
use Rattle.idl_scene.specs.Known.{once_more, each_once}
use Rattle.idl_scene.specs.declared.check_fault.CheckWhy.TheVariants.{TwiceName, BadIdentifier, TooMany}
use Rattle.idl_scene.specs.declared.check_fault.Fault.{Fault}
use Rattle.idl_scene.proofs.FaultLaws.{order, noted_both}
use Rattle.idl_rules.specs.JudgeSteps.{name_faults}
use Rattle.idl_rules.specs.Parts.{NameList}
use Rattle.idl_rules.specs.Rules.{is_reserved, is_full}
use Rattle.idl_rules.specs.SeenSteps.{HasSame, faults_of_name}
use Rattle.idl_rules.proofs.LoopLaws.{map_more}

same_bytes : (a b : List ℕ) → bytes_eq a b ≡ true → a ≡ b
same_bytes a b same = grind (arith, bytes_eq-Decides a b)

pub or_false : (b : Bool) → (b || false) ≡ b
or_false true = refl
or_false false = refl

-- a word that was seen, or this one
any_with : (seen : List (List ℕ)) (new word : List ℕ) → list_any (bytes_eq word) (once_more seen new) ≡ (list_any (bytes_eq word) seen || bytes_eq word new)
any_with seen new word = by (list_any (bytes_eq new) seen) refl
  where
    equal_seen : (c : Bool) → bytes_eq word new ≡ c → list_any (bytes_eq new) seen ≡ true → list_any (bytes_eq word) seen ≡ (list_any (bytes_eq word) seen || c)
    equal_seen true same there =
        let e : word ≡ new = same_bytes word new same in
        let t : list_any (bytes_eq word) seen ≡ true = ap (λ w. list_any (bytes_eq w) seen) e ∙ there in
        t ∙ ap (λ b. b || true) (sym t)
    equal_seen false same there = sym (or_false (list_any (bytes_eq word) seen))

    by : (b : Bool) → list_any (bytes_eq new) seen ≡ b → list_any (bytes_eq word) (cond b seen (seen ++ new ∷ [])) ≡ (list_any (bytes_eq word) seen || bytes_eq word new)
    by true e = equal_seen (bytes_eq word new) refl e
    by false e = list_any-append (bytes_eq word) seen (new ∷ []) ∙ ap (λ b. list_any (bytes_eq word) seen || b) (or_false (bytes_eq word new))

seen_more : (seen words : List (List ℕ)) (new : List ℕ) → HasSame seen words → HasSame (once_more seen new) (words ++ new ∷ [])
seen_more seen words new has = record {
  same = λ word. any_with seen new word ∙ ap (λ b. b || bytes_eq word new) (has.same word) ∙ sym (list_any-append (bytes_eq word) words (new ∷ []) ∙ ap (λ b. list_any (bytes_eq word) words || b) (or_false (bytes_eq word new)));
}

abbrev three : (new reserved full : Bool) (file : ℕ) → Span → List Fault
three new reserved full file name =
    fault_if (not new) file name.start TwiceName ++ (fault_if reserved file name.start BadIdentifier ++ fault_if full file name.start TooMany)

pub name_noted : {old one two last : Option Fault} (s : Scene) (name : Span) (declares full new reserved : Bool) (file : ℕ) (seen : List (List ℕ)) → file ≡ s.file
    → new ≡ not (list_any (bytes_eq (word s.text name)) seen) → reserved ≡ (declares && is_reserved (word s.text name))
    → Notes is_below old one (fault_if (not new) file name.start TwiceName) → Notes is_below one two (fault_if reserved file name.start BadIdentifier) → Notes is_below two last (fault_if full file name.start TooMany)
    → Notes is_below old last (faults_of_name s declares full seen name)
name_noted {old} {one} {two} {last} s name declares full new reserved file seen f n r a b c =
    let all : Notes is_below old last (three new reserved full file name) = noted_both a (noted_both b c) in
    subst (λ l. Notes is_below old last l)
    (ap (λ n. three n reserved full file name) n ∙ ap (λ r. three (not (list_any (bytes_eq (word s.text name)) seen)) r full file name) r ∙ ap (λ f. three (not (list_any (bytes_eq (word s.text name)) seen)) (declares && is_reserved (word s.text name)) full f name) f)
    all

pub not_not : (b : Bool) → not (not b) ≡ b
not_not true = refl
not_not false = refl

any_word : (s : Scene) (w : List ℕ) (names : List Span) → list_any (bytes_eq w) (map (λ (e : Span). word s.text e) names) ≡ list_any (λ (e : Span). bytes_eq w (word s.text e)) names
any_word s w [] = refl
any_word s w (name ∷ names) = ap (λ b. bytes_eq w (word s.text name) || b) (any_word s w names)

-- what is found at a name after those that were seen is what is found after those before it
same_faults : (s : Scene) (list : NameList) (before : List Span) (name : Span) (seen : List (List ℕ)) (count : ℕ) → count ≡ length before → HasSame seen (map (λ (e : Span). word s.text e) before)
    → faults_of_name s list.declares (is_full list.most count) seen name ≡ name_faults s list before name
same_faults s list before name seen count is has =
    let w = word s.text name in
    let any : not (not (list_any (bytes_eq w) seen)) ≡ list_any (λ (e : Span). bytes_eq w (word s.text e)) before = not_not _ ∙ has.same w ∙ any_word s w before in
    ap (λ b. fault_if b s.file name.start TwiceName ++ (fault_if (list.declares && is_reserved w) s.file name.start BadIdentifier ++ fault_if (is_full list.most count) s.file name.start TooMany)) any
    ∙ ap (λ c. fault_if (list_any (λ (e : Span). bytes_eq w (word s.text e)) before) s.file name.start TwiceName ++ (fault_if (list.declares && is_reserved w) s.file name.start BadIdentifier ++ fault_if (is_full list.most c) s.file name.start TooMany)) is
    ∙ ap (λ l. fault_if (list_any (λ (e : Span). bytes_eq w (word s.text e)) before) s.file name.start TwiceName ++ (fault_if (list.declares && is_reserved w) s.file name.start BadIdentifier ++ l))
    (sym (append-nil (fault_if (is_full list.most (length before)) s.file name.start TooMany)))

map_map : {A B C : Type 0} (f : B → C) (g : A → B) (xs : List A) → map f (map g xs) ≡ map (λ x. f (g x)) xs
map_map f g [] = refl
map_map f g (x ∷ xs) = ap (λ l. f (g x) ∷ l) (map_map f g xs)

once_next : (start words : List (List ℕ)) (new : List ℕ) → fold once_more start (words ++ new ∷ []) ≡ once_more (fold once_more start words) new
once_next start [] new = refl
once_next start (word ∷ words) new = once_next (once_more start word) words new

-- one name more of a list
module _ {A : Type 0} (f : A → Span) (s : Scene) (xs : List A) (i : ℕ) (x : A) (within : i < length xs) (is : x ≡ get_or xs i x) (seen : List (List ℕ)) where
  pub seen_next : HasSame seen (map (λ (p : A). word s.text (f p)) (take i xs)) → HasSame (once_more seen (word s.text (f x))) (map (λ (p : A). word s.text (f p)) (take (i + 1) xs))
  seen_next has = subst (HasSame (once_more seen (word s.text (f x)))) (sym (map_more (λ (p : A). word s.text (f p)) xs i x within is)) (seen_more seen _ _ has)

  pub words_next : seen ≡ each_once (map (λ (p : A). word s.text (f p)) (take i xs)) → once_more seen (word s.text (f x)) ≡ each_once (map (λ (p : A). word s.text (f p)) (take (i + 1) xs))
  words_next e =
      ap (λ w. once_more w (word s.text (f x))) e ∙ sym (once_next [] (map (λ (p : A). word s.text (f p)) (take i xs)) (word s.text (f x)))
      ∙ ap each_once (sym (map_more (λ (p : A). word s.text (f p)) xs i x within is))

  pub names_next : {old mid new : Option Fault} (list : NameList) → HasSame seen (map (λ (p : A). word s.text (f p)) (take i xs)) → Notes is_below old mid (found_after (name_faults s list) [] (map f (take i xs)))
      → Notes is_below mid new (faults_of_name s list.declares (is_full list.most i) seen (f x)) → Notes is_below old new (found_after (name_faults s list) [] (map f (take (i + 1) xs)))
  names_next {old} {mid} {new} list has so_far here =
      let before = map f (take i xs) in
      let count : i ≡ length before = omega (arith, length-map (take i xs) f, length-take-le i xs (omega arith)) in
      let same = same_faults s list before (f x) seen i count (subst (HasSame seen) (sym (map_map (λ (e : Span). word s.text e) f (take i xs))) has) in
      subst (λ l. Notes is_below old new (found_after (name_faults s list) [] l)) (sym (map_more f xs i x within is))
      (notes_next is_below order (name_faults s list) before (f x) so_far (subst (λ l. Notes is_below mid new l) same here))
