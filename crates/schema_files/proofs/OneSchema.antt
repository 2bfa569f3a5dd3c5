-- Whatever the files hold, loading an interface file gives one answer, and no other.
use Rattle.std.proofs.Common.{◌≡◌, ℕ, false, List, [], ◌∷◌, ◌++◌, Option, Some, None, Result, Ok, Err, refl, sym, ap, subst, ◌∙◌}
use Rattle.idl_load.specs.FileText.{FileText}
use Rattle.idl_load.specs.Loading.{Reading, Reads, Stop, load_of}
use Rattle.idl_load.specs.Loading as files
use Rattle.idl_load.specs.declared.file_fault.FileFault.{FileFault}
use Rattle.idl_load.specs.declared.file_fault.FileFault.TheVariants.{TooLong}
use Rattle.idl_load.proofs.Readings.{some_reading}
use Rattle.idl_load.proofs.Texts.{one_text}
use Rattle.idl_parse.specs.Files.{File}
use Rattle.idl_scene.specs.Faults.{is_below}
use Rattle.idl_scene.specs.declared.check_fault.Fault.{Fault}
use Rattle.idl_scene.proofs.FaultLaws.{order}
use Rattle.idl_rules.specs.Conditions.{faults_of}
use Rattle.idl_schema.specs.SchemaOf.{schema_of}
use Rattle.least_fault.specs.Least.{IsLeast, NoneBelow, least_of}
use Rattle.least_fault.proofs.Lesser.{none_empty, some_least}
use Rattle.schema_files.specs.Refusals.{refusal_line, file_fault, rule_fault}
use Rattle.schema_files.specs.SchemaLoading.{SchemaAnswer, declared, refused, unread, name_at, LoadsSchema, no_file, bad_file, broken_rule, schema}
use Rattle.tars_base.specs.Contents.{Contents, HoldsOnly}

abbrev pub OneSchema : Contents → List ℕ → Type 0
OneSchema c file = (answer : SchemaAnswer) × HoldsOnly (LoadsSchema c file) answer

-- ---- one reading

same_at : (c : Contents) (a b : Reading) (name : List ℕ) → Reads c a → Reads c b → (o : Option (List ℕ)) → c name ≡ o → a name ≡ b name
same_at c a b name one two None none = one.missing name none ∙ sym (two.missing name none)
same_at c a b name one two (Some bytes) is =
    let x = one.present name bytes is in
    let y = two.present name bytes is in
    x.1 ∙ ap (λ (t : FileText). Some (bytes, t)) (one_text bytes x.0 y.0 x.2 y.2) ∙ sym y.1

same_reading : (c : Contents) (a b : Reading) → Reads c a → Reads c b → a ≡ b
same_reading c a b one two = λ i name. same_at c a b name one two (c name) refl i

-- two readings give the same files
pub same_load : (c : Contents) (a b : Reading) (file : List ℕ) → Reads c a → Reads c b → load_of a file ≡ load_of b file
same_load c a b file one two = ap (λ (read : Reading). load_of read file) (same_reading c a b one two)

-- ---- one first fault

-- what stands in a list in which nothing is below the least is not below it
not_below : (xs ys : List Fault) (x least : Fault) → NoneBelow is_below xs least → (earlier later : List Fault) → xs ≡ ys → ys ≡ earlier ++ x ∷ later → is_below x least ≡ false
not_below xs ys x least none earlier later same is = by_place earlier xs none (same ∙ is)
  where
    by_place : (earlier zs : List Fault) → NoneBelow is_below zs least → zs ≡ earlier ++ x ∷ later → is_below x least ≡ false
    by_place [] [] none is = absurd cc
    by_place [] (z ∷ zs) none is = let same : z ≡ x = cc in subst (λ (y : Fault). is_below y least ≡ false) same none.0
    by_place (e ∷ es) [] none is = absurd cc
    by_place (e ∷ es) (z ∷ zs) none is = by_place es zs none.1 (let tails : zs ≡ es ++ x ∷ later = cc in tails)

one_least : (xs : List Fault) (a b : Fault) → IsLeast is_below xs a → IsLeast is_below xs b → a ≡ b
one_least xs a b one two =
    order.apart a b (not_below xs xs a b two.none_below one.earlier one.later refl one.stands) (not_below xs xs b a one.none_below two.earlier two.later refl two.stands)

no_least : (xs : List Fault) (a : Fault) → xs ≡ [] → IsLeast is_below xs a → ⊥
no_least xs a none one = by_place one.earlier (sym none ∙ one.stands)
  where
    by_place : (earlier : List Fault) → [] ≡ earlier ++ a ∷ one.later → ⊥
    by_place [] e = cc
    by_place (x ∷ xs) e = cc

-- ---- the rows, by what loading the files gives

pub data Left (given : Result (List File) Stop) : SchemaAnswer → Type 0 where
  missing : (name : List ℕ) → given ≡ Err (files.unread name) → Left given (unread name)
  bad : (name : List ℕ) (fault : FileFault) → given ≡ Err (files.refused name fault) → Left given (refused (refusal_line name (file_fault fault)))
  broken : (found : List File) (fault : Fault) → given ≡ Ok found → IsLeast is_below (faults_of found) fault → Left given (refused (refusal_line (name_at found fault.file) (rule_fault fault)))
  whole : (found : List File) → given ≡ Ok found → faults_of found ≡ [] → Left given (declared (schema_of found))

row_left : (c : Contents) (file : List ℕ) (read : Reading) (answer : SchemaAnswer) → Reads c read → LoadsSchema c file answer → Left (load_of read file) answer
row_left c file read answer reads (no_file own name also is) = missing name (same_load c read own file reads also ∙ is)
row_left c file read answer reads (bad_file own name fault also is) = bad name fault (same_load c read own file reads also ∙ is)
row_left c file read answer reads (broken_rule own found fault also is least) = broken found fault (same_load c read own file reads also ∙ is) least
row_left c file read answer reads (schema own found also is none) = whole found (same_load c read own file reads also ∙ is) none

-- what was given by an equation, or something else
abbrev stop_in : Result (List File) Stop → Stop → Stop
stop_in (Ok found) stop = stop
stop_in (Err own) stop = own

abbrev name_in : Stop → List ℕ → List ℕ
name_in (files.unread name) other = name
name_in (files.refused name fault) other = name

abbrev fault_in : Stop → FileFault
fault_in (files.unread name) = TooLong
fault_in (files.refused name fault) = fault

abbrev found_in : Result (List File) Stop → List File
found_in (Ok found) = found
found_in (Err stop) = []

only_missing : (given : Result (List File) Stop) (name : List ℕ) (other : SchemaAnswer) → given ≡ Err (files.unread name) → Left given other → other ≡ unread name
only_missing given name other is (missing own e) = ap (λ (r : Result (List File) Stop). unread (name_in (stop_in r (files.unread name)) name)) (sym e ∙ is)
only_missing given name other is (bad own fault e) = absurd (let no : Err (files.refused own fault) ≡ Err (files.unread name) = sym e ∙ is in cc)
only_missing given name other is (broken found fault e least) = absurd (let no : Ok found ≡ Err (files.unread name) = sym e ∙ is in cc)
only_missing given name other is (whole found e none) = absurd (let no : Ok found ≡ Err (files.unread name) = sym e ∙ is in cc)

only_bad : (given : Result (List File) Stop) (name : List ℕ) (fault : FileFault) (other : SchemaAnswer) → given ≡ Err (files.refused name fault) → Left given other → other ≡ refused (refusal_line name (file_fault fault))
only_bad given name fault other is (missing own e) = absurd (let no : Err (files.unread own) ≡ Err (files.refused name fault) = sym e ∙ is in cc)
only_bad given name fault other is (bad own what e) =
    ap (λ (r : Result (List File) Stop). refused (refusal_line (name_in (stop_in r (files.unread name)) name) (file_fault (fault_in (stop_in r (files.unread name)))))) (sym e ∙ is)
only_bad given name fault other is (broken found what e least) = absurd (let no : Ok found ≡ Err (files.refused name fault) = sym e ∙ is in cc)
only_bad given name fault other is (whole found e none) = absurd (let no : Ok found ≡ Err (files.refused name fault) = sym e ∙ is in cc)

same_found : (given : Result (List File) Stop) (a b : List File) → given ≡ Ok a → given ≡ Ok b → b ≡ a
same_found given a b is own = ap found_in (sym own ∙ is)

only_broken : (given : Result (List File) Stop) (found : List File) (fault : Fault) (other : SchemaAnswer) → given ≡ Ok found → IsLeast is_below (faults_of found) fault → Left given other
    → other ≡ refused (refusal_line (name_at found fault.file) (rule_fault fault))
only_broken given found fault other is least (missing own e) = absurd (let no : Err (files.unread own) ≡ Ok found = sym e ∙ is in cc)
only_broken given found fault other is least (bad own what e) = absurd (let no : Err (files.refused own what) ≡ Ok found = sym e ∙ is in cc)
only_broken given found fault other is least (broken own what e also) =
    let same = same_found given found own is e in
    let one = one_least (faults_of found) what fault (subst (λ (fs : List File). IsLeast is_below (faults_of fs) what) same also) least in
    ap (λ (fs : List File). refused (refusal_line (name_at fs what.file) (rule_fault what))) same
    ∙ ap (λ (f : Fault). refused (refusal_line (name_at found f.file) (rule_fault f))) one
only_broken given found fault other is least (whole own e none) =
    absurd (no_least (faults_of found) fault (subst (λ (fs : List File). faults_of fs ≡ []) (same_found given found own is e) none) least)

only_whole : (given : Result (List File) Stop) (found : List File) (other : SchemaAnswer) → given ≡ Ok found → faults_of found ≡ [] → Left given other → other ≡ declared (schema_of found)
only_whole given found other is none (missing own e) = absurd (let no : Err (files.unread own) ≡ Ok found = sym e ∙ is in cc)
only_whole given found other is none (bad own what e) = absurd (let no : Err (files.refused own what) ≡ Ok found = sym e ∙ is in cc)
only_whole given found other is none (broken own what e least) =
    absurd (no_least (faults_of found) what none (subst (λ (fs : List File). IsLeast is_below (faults_of fs) what) (same_found given found own is e) least))
only_whole given found other is none (whole own e also) = ap (λ (fs : List File). declared (schema_of fs)) (same_found given found own is e)

-- ---- the one answer

module _ (c : Contents) (file : List ℕ) (read : Reading) (reads : Reads c read) where
  by_fault : (found : List File) (o : Option Fault) → load_of read file ≡ Ok found → least_of is_below (faults_of found) ≡ o → OneSchema c file
  by_fault found None is e =
      let none = none_empty is_below order (faults_of found) e in
      (_, record { holds = schema read found reads is none; only = λ other given. only_whole (load_of read file) found other is none (row_left c file read other reads given) })
  by_fault found (Some fault) is e =
      let least = some_least is_below order (faults_of found) fault e in
      (_, record { holds = broken_rule read found fault reads is least; only = λ other given. only_broken (load_of read file) found fault other is least (row_left c file read other reads given) })

  by_load : (given : Result (List File) Stop) → load_of read file ≡ given → OneSchema c file
  by_load (Err (files.unread name)) is =
      (_, record { holds = no_file read name reads is; only = λ other given. only_missing (load_of read file) name other is (row_left c file read other reads given) })
  by_load (Err (files.refused name fault)) is =
      (_, record { holds = bad_file read name fault reads is; only = λ other given. only_bad (load_of read file) name fault other is (row_left c file read other reads given) })
  by_load (Ok found) is = by_fault found (least_of is_below (faults_of found)) is refl

pub one_schema : (c : Contents) (file : List ℕ) → OneSchema c file
one_schema c file = let r = some_reading c in by_load c file r.0 r.1 (load_of r.0 file) refl

-- what holds is the one answer
pub only_schema : (c : Contents) (file : List ℕ) (answer : SchemaAnswer) → LoadsSchema c file answer → HoldsOnly (LoadsSchema c file) answer
only_schema c file answer holds =
    let one = one_schema c file in
    record { holds = holds; only = λ other given. one.1.only other given ∙ sym (one.1.only answer holds) }
