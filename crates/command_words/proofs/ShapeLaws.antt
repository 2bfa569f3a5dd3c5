-- A command with one word more.
use Rattle.std.proofs.Common.{◌≡◌, ◌∙◌, ◌<◌, ◌+◌, ℕ, List, [], ◌∷◌, ◌++◌, length, map, take, get_or, sym, ap, ap₂}
use Rattle.std.proofs.lemmas.List.{take_more, map-append}
use Rattle.std.specs.Borrow.{Bor}
use Rattle.clap.specs.Walk.{texts}
use Rattle.clap.specs.Words.{Rule, Shape, Text}
use Rattle.command_words.specs.FormSteps.{shape_named, slot}

pub named_more : (name : Text) (words : List (Bor Text)) (i : ℕ) (d : Bor Text) (before : Shape) (rule : Rule) → i < length words → before ≡ shape_named name (texts (take i words)) → rule ≡ slot (get_or words i d).now
    → record before { rules = before.rules ++ rule ∷ [] } ≡ shape_named name (texts (take (i + 1) words))
named_more name words i d before rule more is said =
    ap₂ (λ (s : Shape) (r : Rule). record s { rules = s.rules ++ r ∷ [] }) is said
    ∙ ap (λ (rules : List Rule). record (shape_named name (texts (take i words))) { rules = rules }) (
    sym (map-append slot (texts (take i words)) ((get_or words i d).now ∷ []))
    ∙ ap (map slot) (sym (map-append (λ (s : Bor Text). s.now) (take i words) (get_or words i d ∷ [])) ∙ ap texts (sym (take_more words i d more)))
    )
