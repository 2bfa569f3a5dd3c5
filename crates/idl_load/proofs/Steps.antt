-- Steps of loading: what each way out of them is by the definition.
use Rattle.std.proofs.Common.{◌≡◌, ◌<◌, ◌≤◌, ◌+◌, inl, inr, ℕ, suc, Bool, true, false, not, ◌||◌, if◌then◌else◌, List, [], ◌∷◌, ◌++◌, length, drop, get_or, Option, refl, sym, ap, subst, ◌∙◌}
use Rattle.std.proofs.lemmas.Bool.{cases_Bool, le-leb, lt-leb}
use Rattle.std.proofs.lemmas.List.{drop_more}
use Rattle.std.proofs.lemmas.Str.{IsUtf8-from_is_utf8}
use Rattle.std.specs.List.{list_any}
use Rattle.std.specs.Prelude.{nat_le, slice_range, Result, Ok, Err, IfSome, IsErr, IsErrAnd, IsUtf8}
use Rattle.std.specs.Str.{bytes_eq, is_utf8}
use Rattle.facts.specs.ResultSteps.{◌>>=◌}
use Rattle.idl_parse.specs.Files.{File, include_spans}
use Rattle.idl_lex.specs.Meanings.{plain_text}
use Rattle.idl_lex.specs.declared.span.Span.{Span}
use Rattle.idl_parse.specs.declared.tree.module.Entry.{Entry}
use Rattle.idl_parse.specs.declared.tree.module.Entry.TheVariants.{Include, Module}
use Rattle.idl_parse.specs.declared.tree.module.ModuleTree.{ModuleTree}
use Rattle.idl_load.specs.FileText.{tree, bad, IsText}
use Rattle.idl_load.specs.Loading.{MAX_FILES, Reading, Stop, refused, Loads, begin, file_of, finish, include, follow, visit_read, visit, nothing_begun, load_of}
use Rattle.idl_load.specs.LoadAnswers.{IsErrGiven, HasLoaded}
use Rattle.idl_load.specs.LoadSteps.{fault_of, text_of, IsGiven, IsRefusedFor, is_in, Keeps, ForStep}
use Rattle.idl_load.specs.declared.file_fault.FileFault.{FileFault}
use Rattle.idl_load.specs.declared.file_fault.FileFault.TheVariants.{TooManyFiles}
use Rattle.idl_load.specs.declared.files_fault.FilesFault.{FilesFault}
use Rattle.idl_load.specs.declared.files_fault.FilesFault.TheVariants as files
use Rattle.idl_load.specs.declared.progress.Progress.{Progress}
use Rattle.idl_load.specs.declared.tree_fault.TreeFault.{TreeFault}
use Rattle.idl_load.specs.declared.tree_fault.TreeFault.TheVariants as trees
use Rattle.idl_load.proofs.Seeing.{ReadAs, reading, whole, always, onward, both, last_in}
use Rattle.tars_base.specs.Contents.{Contents, HoldsOnly, IsPrefixOfFile}
use Rattle.tars_base.specs.Limits.{MAX_FILE}
use Rattle.tars_base.specs.declared.fault.ReadFault.{ReadFault}
use Rattle.tars_base.specs.declared.fault.ReadFault.TheVariants as reads

-- ---- ways out

pub no_text : (bytes : List ℕ) → (IsUtf8 bytes → ⊥) → is_utf8 bytes ≡ false
no_text bytes not_text = elim (cases_Bool (is_utf8 bytes)) [ inl is ↦ absurd (not_text (IsUtf8-from_is_utf8 bytes is)) | inr is ↦ is ]

module _ (go : Progress → List ℕ → Loads) (file_name : List ℕ) (p : Progress) (name : List ℕ) (at : ℕ) where
  pub no_name : is_utf8 name ≡ false → include go file_name p name at ≡ Ok p
  unfolding include
  no_name not_text = rw not_text refl

  pub begun_before : list_any (bytes_eq name) p.begun ≡ true → include go file_name p name at ≡ Ok p
  unfolding include
  begun_before is = by_test (is_utf8 name)
    where
      by_test : (text : Bool) → (if not text || list_any (bytes_eq name) p.begun then Ok p else (if nat_le MAX_FILES (length p.begun) then Err (refused file_name (TooManyFiles at)) else go p name)) ≡ Ok p
      by_test true = rw is refl
      by_test false = refl

  pub entered : is_utf8 name ≡ true → list_any (bytes_eq name) p.begun ≡ false → length p.begun < MAX_FILES → include go file_name p name at ≡ go p name
  unfolding include
  entered text fresh few = rw (text, fresh, lt-leb MAX_FILES (length p.begun) few) refl

  pub one_too_many : is_utf8 name ≡ true → list_any (bytes_eq name) p.begun ≡ false → MAX_FILES ≤ length p.begun → include go file_name p name at ≡ Err (refused file_name (TooManyFiles at))
  unfolding include
  one_too_many text fresh many = rw (text, fresh, le-leb MAX_FILES (length p.begun) many) refl

pub refused_for : (name : List ℕ) (fault : FileFault) (e : FilesFault) (given : Loads) → IsRefusedFor name (trees.Refused fault) e → given ≡ Err (refused name fault) → IsErrGiven e given
refused_for name fault (files.Refused own own_fault) given is found =
    let same : refused name fault ≡ refused own own_fault = ap (λ (n : List ℕ). refused n fault) (sym is.0) ∙ ap (λ (f : FileFault). refused own f) (sym is.1) in
    found ∙ ap Err same
refused_for name fault files.Read given is found = absurd is
refused_for name fault files.Memory given is found = tt

-- an error stops what would follow
pub stopped : {A : Type 0} (e : FilesFault) (given : Loads) (next : Progress → Result A Stop) → IsErrGiven e given → IsErrGiven e (given >>= next)
stopped (files.Refused name fault) given next is = rw is refl
stopped files.Read given next is = tt
stopped files.Memory given next is = tt

pub by_error : {A : Type 0} (r : Result A FilesFault) (e : FilesFault) (p : Progress) (given : Loads) → IsErr r × IsErrAnd r (λ x. x ≡ e) → IsErrGiven e given → IsGiven r p given
by_error (Ok x) e p given is g = absurd (cc (is.0))
by_error (Err x) e p given is g = subst (λ (f : FilesFault). IsErrGiven f given) (sym is.1) g

-- want of memory says nothing
pub no_memory : {A : Type 0} (r : Result A FilesFault) (p : Progress) (given : Loads) → IsErr r × IsErrAnd r (λ x. x ≡ files.Memory) → IsGiven r p given
no_memory r p given is = by_error r files.Memory p given is tt

-- a file that is not read says nothing
pub not_read : {A : Type 0} (fault : ReadFault) (r : Result A FilesFault) (p : Progress) (given : Loads) → IsErr r × IsErrAnd r (λ x. x ≡ fault_of fault) → IsGiven r p given
not_read reads.Failed r p given is = by_error r files.Read p given is tt
not_read reads.Memory r p given is = by_error r files.Memory p given is tt

-- ---- the includes that are left

left_is : (entries : List Entry) (i : ℕ) (e : Entry) → i < length entries → e ≡ get_or entries i e → drop i entries ≡ e ∷ drop (i + 1) entries
left_is entries i e within is = drop_more entries i e within ∙ ap (λ x. x ∷ drop (i + 1) entries) (sym is)

pub at_module : (entries : List Entry) (i : ℕ) (e : Entry) → i < length entries → e ≡ get_or entries i e → (m : ModuleTree) → e ≡ Module m → include_spans (drop (i + 1) entries) ≡ include_spans (drop i entries)
at_module entries i e within is m found = sym (ap include_spans (left_is entries i e within is ∙ ap (λ x. x ∷ drop (i + 1) entries) found))

module _ (go : Progress → List ℕ → Loads) (file_name bytes : List ℕ) (p : Progress) (entries : List Entry) (i : ℕ) (e : Entry) (within : i < length entries) (is : e ≡ get_or entries i e) where
  pub at_include : (span : Span) → e ≡ Include span
      → follow go file_name bytes p (include_spans (drop i entries))
      ≡ (include go file_name p (plain_text (slice_range bytes span.start span.end)) span.start >>= λ q. follow go file_name bytes q (include_spans (drop (i + 1) entries)))
  unfolding follow
  at_include span found = ap (λ (l : List Entry). follow go file_name bytes p (include_spans l)) (left_is entries i e within is ∙ ap (λ x. x ∷ drop (i + 1) entries) found)

  -- the include goes on with those after it
  pub gone_on : (span : Span) (q : Progress) (all : Loads) → e ≡ Include span → follow go file_name bytes p (include_spans (drop i entries)) ≡ all
      → include go file_name p (plain_text (slice_range bytes span.start span.end)) span.start ≡ Ok q → follow go file_name bytes q (include_spans (drop (i + 1) entries)) ≡ all
  gone_on span q all found left given =
      sym (ap (λ (o : Loads). o >>= λ q. follow go file_name bytes q (include_spans (drop (i + 1) entries))) given) ∙ sym (at_include span found) ∙ left

  pub stopped_at : (span : Span) (x : FilesFault) (all : Loads) → e ≡ Include span → follow go file_name bytes p (include_spans (drop i entries)) ≡ all
      → IsErrGiven x (include go file_name p (plain_text (slice_range bytes span.start span.end)) span.start) → IsErrGiven x all
  stopped_at span x all found left given =
      subst (IsErrGiven x) (sym (at_include span found) ∙ left)
      (stopped x (include go file_name p (plain_text (slice_range bytes span.start span.end)) span.start) (λ q. follow go file_name bytes q (include_spans (drop (i + 1) entries))) given)

-- ---- a file

module _ (read : Reading) (p : Progress) (name text : List ℕ) (room below : ℕ) (more : room ≡ suc below) where
  pub file_refused : (fault : FileFault) → ReadAs read name text (bad fault) → visit room read p name ≡ Err (refused name fault)
  unfolding visit visit_read
  file_refused fault found = subst (λ (r : ℕ). visit r read p name ≡ Err (refused name fault)) (sym more) (rw found.is refl)

  -- a file that is read goes on with its includes
  pub file_read : (entries : List Entry) → ReadAs read name text (tree entries) → IsText text (tree entries)
      → visit room read p name ≡ (follow (visit below read) name text (begin p name) (include_spans entries) >>= λ q. Ok (finish q (file_of name text entries)))
  unfolding visit visit_read
  file_read entries found is =
      subst (λ (r : ℕ). visit r read p name ≡ (follow (visit below read) name text (begin p name) (include_spans entries) >>= λ q. Ok (finish q (file_of name text entries)))) (sym more)
      (rw (found.is, ← whole found.bytes text entries found.prefix is) refl)

-- ---- whatever is told of contents

module _ (told : Option Contents) (p : Progress) (name text : List ℕ) (room below : ℕ) (more : room ≡ suc below) (fresh : is_in p.begun name ≡ false)
    (prefix : IsPrefixOfFile told name (MAX_FILE + 1) text) (within : length text ≤ MAX_FILE + 1) where
  abbrev mid : List (List ℕ)
  mid = p.begun ++ name ∷ []

  pub begins : Keeps p.begun mid
  begins = (name ∷ [], refl)

  is_begun : is_in mid name ≡ true
  is_begun = last_in p.begun name

  pub refused_text : (fault : TreeFault) (e : FilesFault) → IfSome (text_of (Err fault)) (HoldsOnly (IsText text)) → IsRefusedFor name fault e → ForStep told p.begun mid (λ read. IsErrGiven e (visit room read p name))
  refused_text (trees.Refused fault) e one is =
      onward told p.begun mid (λ read found. refused_for name fault e (visit room read p name) is (file_refused read p name text room below more fault found))
      (reading told p.begun mid name text (bad fault) fresh is_begun prefix within one)
  refused_text trees.Memory (files.Refused own own_fault) one is = absurd is
  refused_text trees.Memory files.Read one is = absurd is
  refused_text trees.Memory files.Memory one is = always told p.begun mid (λ read. tt)

  module _ (entries : List Entry) (one : HoldsOnly (IsText text) (tree entries)) (later : List (List ℕ)) (keeps : Keeps mid later) where
    pub stopped_inside : (e : FilesFault) → ForStep told mid later (λ read. IsErrGiven e (follow (visit below read) name text (begin p name) (include_spans entries)))
        → ForStep told p.begun later (λ read. IsErrGiven e (visit room read p name))
    stopped_inside e inside =
        both told p.begun mid later begins keeps
        (λ read found given. subst (IsErrGiven e) (sym (file_read read p name text room below more entries found one.holds))
        (stopped e (follow (visit below read) name text (begin p name) (include_spans entries)) (λ q. Ok (finish q (file_of name text entries))) given))
        (reading told p.begun mid name text (tree entries) fresh is_begun prefix within one) inside

    pub file_done : (q : Progress) (f : File) (done : List File) → f ≡ file_of name text entries → done ≡ q.done ++ f ∷ []
        → ForStep told mid later (λ read. follow (visit below read) name text (begin p name) (include_spans entries) ≡ Ok q)
        → ForStep told p.begun later (λ read. visit room read p name ≡ Ok (record q { done = done }))
    file_done q f done is grown inside =
        both told p.begun mid later begins keeps
        (λ read found given. file_read read p name text room below more entries found one.holds
        ∙ ap (λ (o : Loads). o >>= λ q. Ok (finish q (file_of name text entries))) given
        ∙ ap (λ (d : List File). Ok (record q { done = d })) (ap (λ (g : File). q.done ++ g ∷ []) (sym is) ∙ sym grown))
        (reading told p.begun mid name text (tree entries) fresh is_begun prefix within one) inside

pub same_file : (f : File) (name text : List ℕ) → f.name ≡ name → f.text ≡ text → f ≡ file_of name text f.entries
same_file f name text named kept = rw (← named, ← kept) refl

-- ---- all files

pub loaded : (read : Reading) (name : List ℕ) (p : Progress) → visit MAX_FILES read nothing_begun name ≡ Ok p → load_of read name ≡ Ok p.done
unfolding load_of
loaded read name p given = rw given refl

pub not_loaded : (read : Reading) (name : List ℕ) (e : FilesFault) → IsErrGiven e (visit MAX_FILES read nothing_begun name) → IsErrGiven e (load_of read name)
unfolding load_of
not_loaded read name e given = stopped e (visit MAX_FILES read nothing_begun name) (λ p. Ok p.done) given

pub load_error : (r : Result (List File) FilesFault) (e : FilesFault) (given : Result (List File) Stop) → IsErr r × IsErrAnd r (λ x. x ≡ e) → IsErrGiven e given → HasLoaded r given
load_error (Ok x) e given is g = absurd (cc (is.0))
load_error (Err x) e given is g = subst (λ (f : FilesFault). IsErrGiven f given) (sym is.1) g
