-- Whatever the files hold, comparing two versions of a struct gives one answer, and no other.
use Rattle.std.proofs.Common.{◌≡◌, ℕ, List, sym, ap, ◌∙◌}
use Rattle.struct_files.specs.Answers.{TextAnswer, done, refused, unread}
use Rattle.struct_files.specs.Comparing.{agreement_line, structs_agree, ComparesFiles, no_old, bad_old, no_new, bad_new, both_structs}
use Rattle.struct_files.specs.Finding as finding
use Rattle.struct_files.specs.Finding.{Finding, Finds}
use Rattle.struct_files.proofs.OneFinding.{one_finding}
use Rattle.tars_base.specs.Contents.{Held, HoldsOnly}
use Rattle.tars_model.specs.Declarations.{Declared}

-- the answer by what is found in the two files
abbrev by_new : Declared → ℕ → Finding → TextAnswer
by_new d number (finding.found d' number') = done (agreement_line (structs_agree d number d' number'))
by_new d number (finding.refused line) = refused line
by_new d number (finding.unread missing) = unread missing

abbrev by_both : Finding → Finding → TextAnswer
by_both (finding.found d number) later = by_new d number later
by_both (finding.refused line) later = refused line
by_both (finding.unread missing) later = unread missing

module _ (held : Held) (old new home name : List ℕ) where
  abbrev Compared : TextAnswer → Type 0
  Compared answer = ComparesFiles held old new home name answer

  new_found : (d : Declared) (number : ℕ) (later : Finding) → Finds (held 0) old home name (finding.found d number) → Finds (held 1) new home name later → Compared (by_new d number later)
  new_found d number (finding.found d' number') first second = both_structs d number d' number' first second
  new_found d number (finding.refused line) first second = bad_new d number line first second
  new_found d number (finding.unread missing) first second = no_new d number missing first second

  both_found : (earlier later : Finding) → Finds (held 0) old home name earlier → Finds (held 1) new home name later → Compared (by_both earlier later)
  both_found (finding.found d number) later first second = new_found d number later first second
  both_found (finding.refused line) later first second = bad_old line first
  both_found (finding.unread missing) later first second = no_old missing first

  module _ (earlier later : Finding) (first : HoldsOnly (Finds (held 0) old home name) earlier) (second : HoldsOnly (Finds (held 1) new home name) later) where
    of_old : (own : Finding) → Finds (held 0) old home name own → by_both own later ≡ by_both earlier later
    of_old own given = ap (λ (f : Finding). by_both f later) (first.only own given)

    of_new : (d : Declared) (number : ℕ) (own : Finding) → Finds (held 0) old home name (finding.found d number) → Finds (held 1) new home name own → by_new d number own ≡ by_both earlier later
    of_new d number own given also = ap (by_new d number) (second.only own also) ∙ of_old (finding.found d number) given

    only : (other : TextAnswer) → Compared other → other ≡ by_both earlier later
    only other (no_old missing given) = of_old (finding.unread missing) given
    only other (bad_old line given) = of_old (finding.refused line) given
    only other (no_new d number missing given also) = of_new d number (finding.unread missing) given also
    only other (bad_new d number line given also) = of_new d number (finding.refused line) given also
    only other (both_structs d number d' number' given also) = of_new d number (finding.found d' number') given also

  one_comparing : (answer : TextAnswer) × HoldsOnly Compared answer
  one_comparing =
      let earlier = one_finding (held 0) old home name in
      let later = one_finding (held 1) new home name in
      (by_both earlier.0 later.0, record { holds = both_found earlier.0 later.0 earlier.1.holds later.1.holds; only = only earlier.0 later.0 earlier.1 later.1 })

  pub some_compared : (answer : TextAnswer) × Compared answer
  some_compared = (one_comparing.0, one_comparing.1.holds)

  pub same_compared : (a b : TextAnswer) → Compared a → Compared b → a ≡ b
  same_compared a b given also = one_comparing.1.only a given ∙ sym (one_comparing.1.only b also)

  -- what holds is the one answer
  pub only_compared : (answer : TextAnswer) → Compared answer → HoldsOnly Compared answer
  only_compared answer holds = record { holds = holds; only = λ other given. same_compared other answer given holds }
