-- Lines: what is read of one is what it says, and it says one thing.
use Rattle.std.proofs.Common.{◌≡◌, ℕ, true, List, Option, Some, None, refl, sym, ap, subst, ◌∙◌, inl, inr}
use Rattle.std.proofs.lemmas.Bool.{cond-true, cond-false}
use Rattle.facts.proofs.OptionLaws.{bind_some, bind_is, some_is}
use Rattle.script_lines.specs.Lines.{content_of, next_word}
use Rattle.script_lines.specs.Forms.{HeaderForm, Said, skipped, header, event, is_skipped, SaysHeader, SaysEvent, Says}
use Rattle.script_lines.specs.FormSteps.{header_by, event_by, header_or, form_by, said_at}
use Rattle.script_lines.proofs.WordLaws.{choice, not_skipped}
use Rattle.script_lines.proofs.HeaderLaws.{ReadBy, header_takes, header_again}
use Rattle.script_lines.proofs.EventLaws.{event_takes, event_again, no_header}

-- what a content says
ContentSays : List ℕ → Said → Type 0
ContentSays content skipped = is_skipped content ≡ true
ContentSays content (header form) = SaysHeader content form
ContentSays content (event form) = SaysEvent content form

form_takes : (content word rest : List ℕ) (said : Said) → next_word content ≡ Some (word, rest) → form_by word rest ≡ Some said → ContentSays content said
unfolding form_by ContentSays
form_takes content word rest said e read = by_header (header_by word rest) refl read
  where
    by_header : (o : Option HeaderForm) → header_by word rest ≡ o → header_or o (event_by word rest) ≡ Some said → ContentSays content said
    by_header (Some form) is read = subst (ContentSays content) (some_is (header form) said read) (header_takes content word rest form e is)
    by_header None is read =
        let a = bind_some (event_by word rest) (λ form. Some (event form)) said read in
        subst (ContentSays content) (some_is (event a.0) said a.2) (event_takes content word rest a.0 e a.1)

pub said_takes : (line : List ℕ) (said : Said) → said_at line ≡ Some said → Says line said
unfolding said_at ContentSays
said_takes line said e =
    elim (choice (is_skipped (content_of line)) _ _ (Some said) e) [
      | inl is ↦ subst (Says line) (some_is skipped said is.1) is.0
      | inr other ↦
          let a = bind_some (next_word (content_of line)) (λ first. form_by first.0 first.1) said other.1 in
          by_form said (form_takes (content_of line) a.0.0 a.0.1 said a.1 a.2)
    ]
  where
    by_form : (said : Said) → ContentSays (content_of line) said → Says line said
    by_form skipped says = says
    by_form (header form) says = says
    by_form (event form) says = says

-- what is read by the first word of a line
by_word : (line : List ℕ) (said : Said) → ReadBy form_by (content_of line) said → said_at line ≡ Some said
unfolding said_at
by_word line said by =
    cond-false (is_skipped (content_of line)) _ _ (not_skipped (content_of line) by.0 by.1 by.2 by.3)
    ∙ bind_is (next_word (content_of line)) (λ first. form_by first.0 first.1) (by.0, by.1) by.2 ∙ by.4

pub said_again : (line : List ℕ) (said : Said) → Says line said → said_at line ≡ Some said
unfolding said_at form_by
said_again line skipped says = cond-true (is_skipped (content_of line)) _ _ says
said_again line (header form) says =
    let h = header_again (content_of line) form says in
    by_word line (header form) (h.0, h.1, h.2, h.3, ap (λ (o : Option HeaderForm). header_or o (event_by h.0 h.1)) h.4)
said_again line (event form) says =
    let e = event_again (content_of line) form says in
    by_word line (event form) (e.0, e.1, e.2, e.3, ap (λ (o : Option HeaderForm). header_or o (event_by e.0 e.1)) (no_header (content_of line) form says) ∙ bind_is (event_by e.0 e.1) (λ form. Some (event form)) form e.4)

-- a line says one thing
pub one_said : (line : List ℕ) (a b : Said) → Says line a → Says line b → a ≡ b
one_said line a b first second = some_is a b (sym (said_again line a first) ∙ said_again line b second)
