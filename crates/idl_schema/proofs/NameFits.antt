-- A name that is written, and not reserved, may be declared.
use Rattle.std.proofs.Common.{◌≡◌, ◌≢◌, ℕ, Bool, true, false, ◌||◌, List, [], ◌∷◌, ◌++◌, refl, sym, ap, ◌∙◌, codes, All}
use Rattle.std.proofs.lemmas.List.Elements.{All-from_recursion}
use Rattle.tars_model.specs.Names.{keywords, IsName}
use Rattle.idl_lex.specs.Spellings.{keyword_text}
use Rattle.idl_parse.specs.TreeSpans.{NameIn}
use Rattle.idl_lex.specs.declared.keyword.Keyword.{Keyword}
use Rattle.idl_lex.specs.declared.keyword.Keyword.TheVariants as words
use Rattle.idl_lex.specs.declared.span.Span.{Span}
use Rattle.idl_scene.specs.Items.{word}
use Rattle.idl_rules.specs.Rules.{is_reserved}

either_true : (b : Bool) → (b || true) ≡ true
either_true true = refl
either_true false = refl

has_it : (before after : List ℕ) → is_reserved (before ++ (codes "tars_" ++ after)) ≡ true
has_it [] after = refl
has_it (b ∷ before) after = rw (has_it before after) (either_true _)

no_keyword : (bytes : List ℕ) → ((keyword : Keyword) → bytes ≢ keyword_text keyword) → All (λ keyword. bytes ≢ keyword) keywords
no_keyword bytes other =
    All-from_recursion (λ keyword. bytes ≢ keyword) keywords
    (other words.Void, (other words.Struct, (other words.Bool, (other words.Byte, (other words.Short, (other words.Int, (other words.Long, (other words.Float, (other words.Double, (other words.String, (other words.Vector, (other words.Map, (other words.Key, (other words.Routekey, (other words.Module, (other words.Interface, (other words.Out, (other words.Require, (other words.Optional, (other words.False, (other words.True, (other words.Enum, (other words.Const, (other words.Unsigned, tt))))))))))))))))))))))))

pub name_fits : (text : List ℕ) (name : Span) → NameIn text name → is_reserved (word text name) ≡ false → IsName (word text name)
name_fits text name stands free = record {
  identifier = record { letter = stands.2.0.0; bytes = stands.2.0.1; no_keyword = no_keyword (word text name) stands.2.1 };
  not_reserved = λ before after is. absurd (clash (sym free ∙ ap is_reserved is ∙ has_it before after));
}
  where
    clash : false ≡ true → ⊥
    clash e = cc
