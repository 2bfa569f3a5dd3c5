-- Interfaces: what is read of a word, and what the word is.
use Rattle.std.proofs.Common.{◌≡◌, ℕ, ◌&&◌, List, ◌++◌, codes, Some, refl, sym, ap, subst, ◌∙◌, append_assoc}
use Rattle.std.specs.Bool.{Decides}
use Rattle.std.specs.List.{list_all}
use Rattle.std.specs.Char.{is_ascii_alphabetic}
use Rattle.std.proofs.lemmas.Bool.{and_parts, and_from}
use Rattle.idl_lex.specs.Bytes.{begins, is_word_byte}
use Rattle.idl_lex.specs.Forms.{IsWord}
use Rattle.script_lines.specs.FormSteps.{identifier, interface_in}
use Rattle.script_lines.proofs.Readers.{lacks_from, IsWhole, tested_whole, before_prefix, and_whole}

identifier_decides : (word : List ℕ) → Decides (begins is_ascii_alphabetic word && list_all is_word_byte word) (IsWord word)
identifier_decides word = (λ e. and_parts _ _ e, λ is. and_from _ _ is.0 is.1)

identifier_whole : IsWhole identifier (λ (word : List ℕ). word) IsWord (λ (word : List ℕ). word)
unfolding identifier
identifier_whole = tested_whole identifier_decides

abbrev Named : Type 0
Named = List ℕ × List ℕ

interface_whole : IsWhole interface_in (λ (n : Named). (n.0 ++ codes "::") ++ n.1) (λ (n : Named). IsWord n.0 × IsWord n.1) (λ (n : Named). (n.0, n.1))
unfolding interface_in
interface_whole = and_whole (before_prefix 58 (codes ":") identifier_whole (λ word is. lacks_from is_word_byte 58 word refl is.1)) identifier_whole

pub interface_takes : (word : List ℕ) (named : Named) → interface_in word ≡ Some named → (word ≡ named.0 ++ (codes "::" ++ named.1)) × IsWord named.0 × IsWord named.1
interface_takes word named e =
    let t = interface_whole.takes word named e in
    subst (λ (n : Named). (word ≡ n.0 ++ (codes "::" ++ n.1)) × IsWord n.0 × IsWord n.1) (sym t.3) (t.1 ∙ append_assoc t.0.0 (codes "::") t.0.1, t.2.0, t.2.1)

pub interface_again : (home name : List ℕ) → IsWord home → IsWord name → interface_in (home ++ (codes "::" ++ name)) ≡ Some (home, name)
interface_again home name home_is name_is =
    ap interface_in (sym (append_assoc home (codes "::") name)) ∙ interface_whole.again (home, name) (home_is, name_is)
