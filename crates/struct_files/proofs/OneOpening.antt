-- Whatever the files hold, opening those of a struct gives one thing, and no other.
use Rattle.std.proofs.Common.{◌≡◌, ℕ, List, sym, ap, ◌∙◌}
use Rattle.schema_files.specs.FileReading as reading
use Rattle.schema_files.specs.FileReading.{FileAnswer, ReadsFile}
use Rattle.schema_files.proofs.CallerLemmas.{one_file}
use Rattle.struct_files.specs.Finding as finding
use Rattle.struct_files.specs.Finding.{Finding, Finds}
use Rattle.struct_files.specs.Opening.{Opening, opened, refused, unread, Opens, no_interface, no_struct, no_values, bad_values, struct_and_values}
use Rattle.struct_files.proofs.OneFinding.{one_finding}
use Rattle.tars_base.specs.Contents.{Held, HoldsOnly}
use Rattle.tars_model.specs.Declarations.{Declared}

-- what is opened, by what finding and reading give
abbrev by_text : Declared → ℕ → FileAnswer → Opening
by_text d number (reading.whole text) = opened d number text
by_text d number (reading.refused line) = refused line
by_text d number (reading.unread missing) = unread missing

abbrev by_struct : Finding → FileAnswer → Opening
by_struct (finding.found d number) read = by_text d number read
by_struct (finding.refused line) read = refused line
by_struct (finding.unread missing) read = unread missing

module _ (held : Held) (file home name values : List ℕ) where
  abbrev Found : Opening → Type 0
  Found opening = Opens held file home name values opening

  text_found : (d : Declared) (number : ℕ) (read : FileAnswer) → Finds (held 0) file home name (finding.found d number) → ReadsFile (held 1) values read → Found (by_text d number read)
  text_found d number (reading.whole text) finds reads = struct_and_values d number text finds reads
  text_found d number (reading.refused line) finds reads = bad_values d number line finds reads
  text_found d number (reading.unread missing) finds reads = no_values d number missing finds reads

  all_found : (struct : Finding) (read : FileAnswer) → Finds (held 0) file home name struct → ReadsFile (held 1) values read → Found (by_struct struct read)
  all_found (finding.found d number) read finds reads = text_found d number read finds reads
  all_found (finding.refused line) read finds reads = no_struct line finds
  all_found (finding.unread missing) read finds reads = no_interface missing finds

  module _ (struct : Finding) (read : FileAnswer) (finds : HoldsOnly (Finds (held 0) file home name) struct) (reads : HoldsOnly (ReadsFile (held 1) values) read) where
    -- what is given of this struct, and of this text
    of_struct : (own : Finding) → Finds (held 0) file home name own → by_struct own read ≡ by_struct struct read
    of_struct own given = ap (λ (f : Finding). by_struct f read) (finds.only own given)

    of_text : (d : Declared) (number : ℕ) (own : FileAnswer) → Finds (held 0) file home name (finding.found d number) → ReadsFile (held 1) values own → by_text d number own ≡ by_struct struct read
    of_text d number own given also = ap (by_text d number) (reads.only own also) ∙ of_struct (finding.found d number) given

    only : (other : Opening) → Found other → other ≡ by_struct struct read
    only other (no_interface missing given) = of_struct (finding.unread missing) given
    only other (no_struct line given) = of_struct (finding.refused line) given
    only other (no_values d number missing given also) = of_text d number (reading.unread missing) given also
    only other (bad_values d number line given also) = of_text d number (reading.refused line) given also
    only other (struct_and_values d number text given also) = of_text d number (reading.whole text) given also

  pub one_opening : (opening : Opening) × HoldsOnly Found opening
  one_opening =
      let struct = one_finding (held 0) file home name in
      let read = one_file (held 1) values in
      (by_struct struct.0 read.0, record { holds = all_found struct.0 read.0 struct.1.holds read.1.holds; only = only struct.0 read.0 struct.1 read.1 })

  pub same_opening : (a b : Opening) → Found a → Found b → a ≡ b
  same_opening a b first second = one_opening.1.only a first ∙ sym (one_opening.1.only b second)
