-- One item more, and the files that are left.
use Rattle.std.proofs.Common.{◌≡◌, ℕ, ◌+◌, ◌<◌, Option, Some, None, List, [], ◌∷◌, ◌++◌, length, get_or, take, drop, map, refl, sym, ap, ◌∙◌, append-nil}
use Rattle.std.specs.List.{flat_map}
use Rattle.std.proofs.lemmas.Grind.{flat_map-append}
use Rattle.std.proofs.lemmas.List.{drop_more}
use Rattle.std.specs.Prelude.{MatchOption}
use Rattle.least_fault.specs.Least.{IsLeast, Notes, least_of}
use Rattle.least_fault.proofs.Lesser.{none_empty, some_least}
use Rattle.idl_parse.specs.Files.{File}
use Rattle.idl_scene.specs.Faults.{is_below}
use Rattle.idl_scene.specs.Items.{Item, file_items, items_from, items_of, name_of}
use Rattle.idl_scene.specs.Known.{Known}
use Rattle.idl_scene.specs.declared.check_fault.Fault.{Fault}
use Rattle.idl_scene.specs.declared.known.Room.{Room}
use Rattle.idl_scene.proofs.FaultLaws.{order}
use Rattle.idl_rules.specs.Conditions.{scene_at, state_with_what, faults_of}
use Rattle.idl_rules.specs.JudgeSteps.{Judged, judged_with, judged_after, judged_faults, judged_first}
use Rattle.idl_rules.proofs.JudgedLaws.{judged_least}
use Rattle.idl_rules.proofs.LoopLaws.{map_more, next_part}

abbrev pub made : List Known → Room → Option Fault → Judged
made known room least = record { state = record { known = known; room = room }; least = least }

-- what is known, what room is left, and the least fault make what is judged
pub judged_is : (j : Judged) (i : Item) (known : List Known) (room : Room) (least : Option Fault) → known ≡ (state_with_what (scene_at j.state i) i.what).known → room ≡ (state_with_what (scene_at j.state i) i.what).room
    → Notes is_below j.least least (judged_faults (scene_at j.state i) i.what) → made known room least ≡ judged_with j i
judged_is j i known room least k r n =
    let state = state_with_what (scene_at j.state i) i.what in
    ap (λ k. made k room least) k ∙ ap (λ r. made state.known r least) r ∙ ap (made state.known state.room) n.kept

judged_append : (j : Judged) (first second : List Item) → judged_after j (first ++ second) ≡ judged_after (judged_after j first) second
judged_append j [] second = refl
judged_append j (i ∷ first) second = judged_append (judged_with j i) first second

-- one part more, which is one item
pub judged_more : {A : Type 0} (f : A → Item) (j old new : Judged) (xs : List A) (i : ℕ) (x : A) → i < length xs → x ≡ get_or xs i x → old ≡ judged_after j (map f (take i xs)) → new ≡ judged_with old (f x) → new ≡ judged_after j (map f (take (i + 1) xs))
judged_more f j old new xs i x within is so_far here =
    here ∙ ap (λ o. judged_with o (f x)) so_far ∙ sym (judged_append j (map f (take i xs)) (f x ∷ [])) ∙ ap (judged_after j) (sym (map_more f xs i x within is))

-- one part more, which is some items
pub judged_flat : {A : Type 0} (f : A → List Item) (j old new : Judged) (xs : List A) (i : ℕ) (x : A) → i < length xs → x ≡ get_or xs i x → old ≡ judged_after j (flat_map f (take i xs)) → new ≡ judged_after old (f x) → new ≡ judged_after j (flat_map f (take (i + 1) xs))
judged_flat f j old new xs i x within is so_far here =
    here ∙ ap (λ o. judged_after o (f x)) so_far ∙ sym (judged_append j (flat_map f (take i xs)) (f x))
    ∙ ap (λ l. judged_after j (flat_map f (take i xs) ++ l)) (sym (append-nil (f x))) ∙ ap (judged_after j) (sym (flat_map-append f (take i xs) (x ∷ [])) ∙ ap (flat_map f) (sym (next_part xs i x within is)))

-- one file more
pub files_next : (files : List File) (k : ℕ) (x : File) (old new : Judged) → k < length files → x ≡ get_or files k x → new ≡ judged_after old (file_items k (map name_of (take k files)) x)
    → judged_after new (items_from (k + 1) (map name_of (take (k + 1) files)) (drop (k + 1) files)) ≡ judged_after old (items_from k (map name_of (take k files)) (drop k files))
files_next files k x old new within is here =
    let names = map name_of (take k files) in
    let rest = drop (k + 1) files in
    ap (λ n. judged_after new (items_from (k + 1) n rest)) (map_more name_of files k x within is)
    ∙ ap (λ j. judged_after j (items_from (k + 1) (names ++ x.name ∷ []) rest)) here
    ∙ sym (judged_append old (file_items k names x) (items_from (k + 1) (names ++ x.name ∷ []) rest))
    ∙ ap (λ l. judged_after old (items_from k names l)) (sym (drop_more files k x within ∙ ap (λ e. e ∷ rest) (sym is)))

-- the fault that is found is the least of all
pub first_is : (files : List File) (j : Judged) → j ≡ judged_after judged_first (items_of files) → MatchOption j.least (faults_of files ≡ []) (IsLeast is_below (faults_of files))
first_is files j e = by j.least (ap (λ (j : Judged). j.least) e ∙ judged_least (items_of files))
  where
    by : (o : Option Fault) → o ≡ least_of is_below (faults_of files) → MatchOption o (faults_of files ≡ []) (IsLeast is_below (faults_of files))
    by None is = none_empty is_below order (faults_of files) (sym is)
    by (Some x) is = some_least is_below order (faults_of files) x (sym is)
