-- What reading a file gives of what the files held, by what was read of them.
use Rattle.std.proofs.Common.{◌≡◌, ◌<◌, ◌≤◌, ◌+◌, ℕ, List, length, take, Option, Some, None, refl, sym, ap, subst, ◌∙◌, arith, length-take, ⊎_elim}
use Rattle.std.specs.Prelude.{MatchOption, Result, Ok, Err, IsErr, IsErrAnd}
use Rattle.std.specs.declared.vec.Vec.{Vec}
use Rattle.std.proofs.lemmas.Bool.{cases_lt}
use Rattle.std.proofs.lemmas.List.{take_all}
use Rattle.schema_files.specs.FileReading.{whole, refused, ReadsFile, long_file, file}
use Rattle.schema_files.specs.LoadAnswers.{IsRefusedBy, IsFileAnswered}
use Rattle.schema_files.specs.LoadSteps.{fault_of}
use Rattle.schema_files.specs.Refusals.{refusal_line, too_long}
use Rattle.schema_files.specs.declared.load_fault.LoadFault.{LoadFault}
use Rattle.schema_files.specs.declared.load_fault.LoadFault.TheVariants.{Refused, Read, Memory}
use Rattle.schema_files.proofs.Held.{any_contents}
use Rattle.schema_files.proofs.OneFile.{only_file}
use Rattle.tars_base.specs.Contents.{Contents, AreTold, IsPrefixOfFile}
use Rattle.tars_base.specs.Limits.{MAX_FILE}
use Rattle.tars_base.specs.declared.fault.ReadFault.{ReadFault}
use Rattle.tars_base.specs.declared.fault.ReadFault.TheVariants as reads

-- what reading the file returned, for some contents
abbrev pub ForFile : {A : Type 0} → Option Contents → List ℕ → Result (Vec ℕ A) LoadFault → Type 0
ForFile told name result = (seen : Contents) × AreTold told seen × IsFileAnswered seen name result

-- the file has these bytes, as far as they were read
record IsSeen (told : Option Contents) (name bytes : List ℕ) : Type 0 where
  contents : Contents
  are_told : AreTold told contents
  text : List ℕ
  is : contents name ≡ Some text
  prefix : bytes ≡ take (MAX_FILE + 1) text

seen : (told : Option Contents) (name bytes : List ℕ) → IsPrefixOfFile told name (MAX_FILE + 1) bytes → length bytes ≤ MAX_FILE + 1 → IsSeen told name bytes
seen None name bytes read within = record { contents = λ n. Some bytes; are_told = tt; text = bytes; is = refl; prefix = sym (take_all (MAX_FILE + 1) bytes within) }
seen (Some c) name bytes read within = by_text (c name) refl read
  where
    by_text : (o : Option (List ℕ)) → c name ≡ o → MatchOption o ⊥ (λ text. bytes ≡ take (MAX_FILE + 1) text) → IsSeen (Some c) name bytes
    by_text None e read = absurd read
    by_text (Some text) e read = record { contents = c; are_told = λ n. refl; text = text; is = e; prefix = read }

module _ (told : Option Contents) (name bytes : List ℕ) (s : IsSeen told name bytes) where
  -- what is too long as far as it was read is too long
  long_text : MAX_FILE < length bytes → MAX_FILE < length s.text
  long_text long = omega (arith, long, length-take (MAX_FILE + 1) s.text, ap length s.prefix)

  -- what is not was read to its end
  whole_text : length bytes ≤ MAX_FILE → s.contents name ≡ Some bytes
  whole_text within =
      s.is
      ∙ ap (λ (b : List ℕ). Some b) (sym (s.prefix ∙ take_all (MAX_FILE + 1) s.text (
      ⊎_elim (λ long. absurd (omega (arith, long, within, length-take (MAX_FILE + 1) s.text, ap length s.prefix)))
      (λ short. omega (arith, short))
      (cases_lt MAX_FILE (length s.text))
      )))

module _ (A : Type 0) (told : Option Contents) (name : List ℕ) where
  -- a failed read and want of memory say nothing
  pub not_read : (fault : ReadFault) (result : Result (Vec ℕ A) LoadFault) → IsErr result × IsErrAnd result (λ e. e ≡ fault_of fault) → ForFile told name result
  not_read fault (Ok bytes) is = absurd (cc (is.0))
  not_read reads.Failed (Err own) is = let any = any_contents told in (any.0, any.1, subst (λ (f : LoadFault). IsFileAnswered {A = A} any.0 name (Err f)) (sym is.1) tt)
  not_read reads.Memory (Err own) is = let any = any_contents told in (any.0, any.1, subst (λ (f : LoadFault). IsFileAnswered {A = A} any.0 name (Err f)) (sym is.1) tt)

  by_line : (c : Contents) (line : List ℕ) (fault : LoadFault) → ReadsFile c name (refused line) → IsRefusedBy line fault → IsFileAnswered {A = A} c name (Err fault)
  by_line c line (Refused own) holds by = only_file c name (refused own) (subst (λ (l : List ℕ). ReadsFile c name (refused l)) (sym by) holds)
  by_line c line Read holds by = tt
  by_line c line Memory holds by = tt

  pub read_long : (bytes : Vec ℕ A) → IsPrefixOfFile told name (MAX_FILE + 1) bytes.items → length bytes.items ≤ MAX_FILE + 1 → MAX_FILE < length bytes.items
      → (fault : LoadFault) → IsRefusedBy (refusal_line name too_long) fault → ForFile {A = A} told name (Err fault)
  read_long bytes read within long fault by =
      let s = seen told name bytes.items read within in
      (s.contents, s.are_told, by_line s.contents (refusal_line name too_long) fault (long_file s.text s.is (long_text told name bytes.items s long)) by)

  pub read_whole : (bytes : Vec ℕ A) → IsPrefixOfFile told name (MAX_FILE + 1) bytes.items → length bytes.items ≤ MAX_FILE → ForFile told name (Ok bytes)
  read_whole bytes read within =
      let s = seen told name bytes.items read (omega (arith, within)) in
      (s.contents, s.are_told, only_file s.contents name (whole bytes.items) (file bytes.items (whole_text told name bytes.items s within) within))
