-- What loading gives is no more than 64 files, and none is longer than a file may be.
use Rattle.std.proofs.Common.{◌≡◌, ◌<◌, ◌≤◌, ◌+◌, ℕ, zero, suc, Bool, true, false, List, [], ◌∷◌, length, Option, Some, None, if◌then◌else◌, refl, sym, ap, subst, ◌∙◌, arith}
use Rattle.std.proofs.lemmas.Bool.Decides.{nat_tests}
use Rattle.std.proofs.lemmas.List.{length-append}
use Rattle.std.proofs.lemmas.List.Elements.{All-append, All-nil, All-cons}
use Rattle.std.specs.List.{All}
use Rattle.std.specs.Prelude.{Ok, Err, nat_le, slice_range}
use Rattle.facts.specs.ResultSteps.{◌>>=◌}
use Rattle.idl_parse.specs.Files.{File, include_spans}
use Rattle.idl_lex.specs.Meanings.{plain_text}
use Rattle.idl_lex.specs.declared.span.Span.{Span}
use Rattle.idl_parse.specs.declared.tree.module.Entry.{Entry}
use Rattle.idl_load.specs.LoadAnswers.{ForRead, HasLoaded}
use Rattle.idl_load.specs.FileText.{FileText, tree, bad, IsText, file}
use Rattle.idl_load.specs.Loading.{MAX_FILES, Reading, Reads, refused, Loads, begin, file_of, finish, is_passed, include, follow, visit_read, visit, nothing_begun, load_of}
use Rattle.idl_load.specs.declared.file_fault.FileFault.TheVariants.{TooManyFiles}
use Rattle.idl_load.specs.declared.progress.Progress.{Progress}
use Rattle.idl_load.proofs.Readings.{some_reading}
use Rattle.tars_base.specs.Contents.{Contents}
use Rattle.tars_base.specs.Limits.{MAX_FILE}

abbrev IsShort : File → Type 0
IsShort f = length f.text ≤ MAX_FILE

-- from one state to a later one: few files are begun, no more are done than begun, and those are short
record Bounded (p q : Progress) : Type 0 where
  few : length p.begun ≤ MAX_FILES → length q.begun ≤ MAX_FILES
  fewer : length q.done + length p.begun ≤ length p.done + length q.begun
  short : All IsShort p.done → All IsShort q.done

abbrev OnLoads : (Progress → Type 0) → Loads → Type 0
OnLoads P (Ok q) = P q
OnLoads P (Err stop) = Unit {0}

stays : (p : Progress) → Bounded p p
stays p = record { few = λ f. f; fewer = omega arith; short = λ s. s }

chained : (p q r : Progress) → Bounded p q → Bounded q r → Bounded p r
chained p q r a b = record { few = λ f. b.few (a.few f); fewer = omega (arith, a.fewer, b.fewer); short = λ s. b.short (a.short s) }

next : (P Q : Progress → Type 0) (given : Loads) (go : Progress → Loads) → OnLoads P given → ((q : Progress) → P q → OnLoads Q (go q)) → OnLoads Q (given >>= go)
next P Q (Ok q) go p f = f q p
next P Q (Err stop) go p f = tt

weaker : (P Q : Progress → Type 0) (given : Loads) → ((q : Progress) → P q → Q q) → OnLoads P given → OnLoads Q given
weaker P Q (Ok q) f p = f q p
weaker P Q (Err stop) f p = tt

abbrev Goes : (Progress → List ℕ → Loads) → Type 0
Goes go = (p : Progress) (name : List ℕ) → length p.begun < MAX_FILES → OnLoads (Bounded p) (go p name)

module _ (go : Progress → List ℕ → Loads) (goes : Goes go) (file_name : List ℕ) where
  includes : (p : Progress) (name : List ℕ) (at : ℕ) → OnLoads (Bounded p) (include go file_name p name at)
  unfolding include
  includes p name at = by_tests (is_passed p name) (nat_le MAX_FILES (length p.begun)) refl
    where
      by_tests : (passed full : Bool) → nat_le MAX_FILES (length p.begun) ≡ full → OnLoads (Bounded p) (if passed then Ok p else (if full then Err (refused file_name (TooManyFiles at)) else go p name))
      by_tests true full e = stays p
      by_tests false true e = tt
      by_tests false false e = goes p name (grind (arith, nat_tests))

  follows : (bytes : List ℕ) (p : Progress) (spans : List Span) → OnLoads (Bounded p) (follow go file_name bytes p spans)
  unfolding follow
  follows bytes p [] = stays p
  follows bytes p (span ∷ spans) =
      let name = plain_text (slice_range bytes span.start span.end) in
      next (Bounded p) (Bounded p) (include go file_name p name span.start) (λ q. follow go file_name bytes q spans) (includes p name span.start)
      (λ q a. weaker (Bounded q) (Bounded p) (follow go file_name bytes q spans) (λ r b. chained p q r a b) (follows bytes q spans))

-- a file that is read is short
text_short : (bytes : List ℕ) (entries : List Entry) → IsText bytes (tree entries) → length bytes ≤ MAX_FILE
text_short bytes entries (file tokens others within lexed is) = within

some_same : {A : Type 0} (a b : A) → Some a ≡ Some b → a ≡ b
some_same a b e = cc e

read_short : (contents : Contents) (read : Reading) → Reads contents read → (name bytes : List ℕ) (entries : List Entry) (o : Option (List ℕ)) → contents name ≡ o → read name ≡ Some (bytes, tree entries) → length bytes ≤ MAX_FILE
read_short contents read reads name bytes entries None e is = absurd (cc (reads.missing name e, is))
read_short contents read reads name bytes entries (Some own) e is =
    let found = reads.present name own e in
    let same : (own, found.0) ≡ (bytes, tree entries) = some_same (own, found.0) (bytes, tree entries) (sym found.1 ∙ is) in
    text_short bytes entries (subst (λ (p : List ℕ × FileText). IsText p.0 p.1) same found.2)

module _ (contents : Contents) (read : Reading) (reads : Reads contents read) where
  finishes : (p q : Progress) (name bytes : List ℕ) (entries : List Entry) → length bytes ≤ MAX_FILE → length p.begun < MAX_FILES → Bounded (begin p name) q → Bounded p (finish q (file_of name bytes entries))
  finishes p q name bytes entries within room b = record {
    few = λ f. b.few (omega (arith, room, length-append p.begun (name ∷ [])));
    fewer = omega (arith, b.fewer, length-append p.begun (name ∷ []), length-append q.done (file_of name bytes entries ∷ []));
    short = λ s. All-append IsShort q.done (file_of name bytes entries ∷ []) (b.short s) (All-cons IsShort (file_of name bytes entries) [] within (All-nil IsShort));
  }

  read_goes : (go : Progress → List ℕ → Loads) → Goes go → (p : Progress) (name : List ℕ) → length p.begun < MAX_FILES → (o : Option (List ℕ × FileText)) → read name ≡ o → OnLoads (Bounded p) (visit_read go p name o)
  unfolding visit_read
  read_goes go goes p name room None e = tt
  read_goes go goes p name room (Some (bytes, bad fault)) e = tt
  read_goes go goes p name room (Some (bytes, tree entries)) e =
      next (Bounded (begin p name)) (Bounded p) (follow go name bytes (begin p name) (include_spans entries)) (λ q. Ok (finish q (file_of name bytes entries)))
      (follows go goes name bytes (begin p name) (include_spans entries))
      (λ q b. finishes p q name bytes entries (read_short contents read reads name bytes entries (contents name) refl e) room b)

  visits : (most : ℕ) → Goes (visit most read)
  unfolding visit
  visits zero p name room = tt
  visits (suc most) p name room = read_goes (visit most read) (visits most) p name room (read name) refl

  pub bounded : (name : List ℕ) (found : List File) → load_of read name ≡ Ok found → (length found ≤ MAX_FILES) × All IsShort found
  unfolding load_of
  bounded name found e = by_result (visit MAX_FILES read nothing_begun name) (visits MAX_FILES nothing_begun name (omega arith)) e
    where
      by_result : (r : Loads) → OnLoads (Bounded nothing_begun) r → (r >>= λ p. Ok p.done) ≡ Ok found → (length found ≤ MAX_FILES) × All IsShort found
      by_result (Ok p) b is =
          let same : p.done ≡ found = cc is in
          (omega (arith, b.few (omega arith), b.fewer, ap length same), subst (All IsShort) same (b.short (All-nil IsShort)))
      by_result (Err stop) b is = absurd (cc is)

-- of whatever is read of some contents
pub bounds : (told : Option Contents) (name : List ℕ) (found : List File) → ForRead told (λ read. HasLoaded (Ok found) (load_of read name)) → (length found ≤ MAX_FILES) × All IsShort found
bounds told name found (seen, told_so, so) = let some = some_reading seen in bounded seen some.0 some.1 name found (so some.0 some.1)
