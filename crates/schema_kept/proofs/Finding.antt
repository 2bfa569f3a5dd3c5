-- What holds of each file that is read holds of the files that loading gives.
use Rattle.std.proofs.Common.{◌≡◌, ℕ, zero, suc, Bool, true, false, Option, Some, None, List, [], ◌∷◌, length, if◌then◌else◌, refl, subst}
use Rattle.std.proofs.lemmas.List.Elements.{All-append, All-nil, All-cons}
use Rattle.std.specs.List.{All}
use Rattle.std.specs.Prelude.{Ok, Err, nat_le, slice_range}
use Rattle.facts.specs.ResultSteps.{◌>>=◌}
use Rattle.idl_parse.specs.Files.{File, include_spans}
use Rattle.idl_lex.specs.Meanings.{plain_text}
use Rattle.idl_lex.specs.declared.span.Span.{Span}
use Rattle.idl_parse.specs.declared.tree.module.Entry.{Entry}
use Rattle.idl_load.specs.FileText.{FileText, tree, bad}
use Rattle.idl_load.specs.Loading.{MAX_FILES, Reading, refused, Loads, begin, file_of, is_passed, include, follow, visit_read, visit, nothing_begun, load_of}
use Rattle.idl_load.specs.declared.file_fault.FileFault.TheVariants.{TooManyFiles}
use Rattle.idl_load.specs.declared.progress.Progress.{Progress}

module _ (Is : File → Type 0) where
  -- it holds of the files that are done
  abbrev AllDone : Loads → Type 0
  AllDone (Ok p) = All Is p.done
  AllDone (Err stop) = Unit {0}

  next : (given : Loads) (go : Progress → Loads) → AllDone given → ((p : Progress) → All Is p.done → AllDone (go p)) → AllDone (given >>= go)
  next (Ok p) go done after = after p done
  next (Err stop) go done after = tt

  -- a visit keeps it
  abbrev Keeps : (Progress → List ℕ → Loads) → Type 0
  Keeps go = (p : Progress) (name : List ℕ) → All Is p.done → AllDone (go p name)

  module _ (go : Progress → List ℕ → Loads) (keeps : Keeps go) (file_name : List ℕ) where
    include_keeps : (p : Progress) (name : List ℕ) (at : ℕ) → All Is p.done → AllDone (include go file_name p name at)
    unfolding include
    include_keeps p name at done = by_tests (is_passed p name) (nat_le MAX_FILES (length p.begun))
      where
        by_tests : (passed full : Bool) → AllDone (if passed then Ok p else (if full then Err (refused file_name (TooManyFiles at)) else go p name))
        by_tests true full = done
        by_tests false true = tt
        by_tests false false = keeps p name done

    follow_keeps : (bytes : List ℕ) (p : Progress) (spans : List Span) → All Is p.done → AllDone (follow go file_name bytes p spans)
    unfolding follow
    follow_keeps bytes p [] done = done
    follow_keeps bytes p (span ∷ spans) done =
        next (include go file_name p (plain_text (slice_range bytes span.start span.end)) span.start) (λ q. follow go file_name bytes q spans)
        (include_keeps p (plain_text (slice_range bytes span.start span.end)) span.start done) (λ q so_far. follow_keeps bytes q spans so_far)

  module _ (read : Reading) (is : (name bytes : List ℕ) (entries : List Entry) → read name ≡ Some (bytes, tree entries) → Is (file_of name bytes entries)) where
    read_keeps : (go : Progress → List ℕ → Loads) → Keeps go → (p : Progress) (name : List ℕ) (o : Option (List ℕ × FileText)) → read name ≡ o → All Is p.done → AllDone (visit_read go p name o)
    unfolding visit_read
    read_keeps go keeps p name None e done = tt
    read_keeps go keeps p name (Some (bytes, bad fault)) e done = tt
    read_keeps go keeps p name (Some (bytes, tree entries)) e done =
        next (follow go name bytes (begin p name) (include_spans entries)) _ (follow_keeps go keeps name bytes (begin p name) (include_spans entries) done)
        (λ q so_far. All-append Is q.done (file_of name bytes entries ∷ []) so_far (All-cons Is (file_of name bytes entries) [] (is name bytes entries e) (All-nil Is)))

    visit_keeps : (room : ℕ) → Keeps (visit room read)
    unfolding visit
    visit_keeps zero p name done = tt
    visit_keeps (suc room) p name done = read_keeps (visit room read) (visit_keeps room) p name (read name) refl done

    pub load_keeps : (name : List ℕ) (found : List File) → load_of read name ≡ Ok found → All Is found
    unfolding load_of
    load_keeps name found e = by_result (visit MAX_FILES read nothing_begun name) (visit_keeps MAX_FILES nothing_begun name (All-nil Is)) e
      where
        by_result : (r : Loads) → AllDone r → (r >>= λ p. Ok p.done) ≡ Ok found → All Is found
        by_result (Ok p) done is = subst (All Is) (cc is) done
        by_result (Err stop) done is = absurd (cc is)
