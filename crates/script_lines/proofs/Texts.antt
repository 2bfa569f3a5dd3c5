-- Texts in UTF-8.
use Rattle.std.proofs.Common.{◌≡◌, List, ℕ, Some, None}
use Rattle.std.proofs.lemmas.Bool.{cond-true}
use Rattle.std.proofs.lemmas.Option.{cond_some}
use Rattle.script_lines.specs.ScanSteps.{utf8}
use Rattle.std.proofs.lemmas.Str.{IsUtf8-from_is_utf8, is_utf8-from_IsUtf8}
use Rattle.std.specs.Bool.{Decides}
use Rattle.std.specs.Prelude.{IsUtf8}
use Rattle.std.specs.Str.{is_utf8}

pub utf8_is : (bytes : List ℕ) → Decides (is_utf8 bytes) (IsUtf8 bytes)
utf8_is bytes = (IsUtf8-from_is_utf8 bytes, is_utf8-from_IsUtf8 bytes)

pub utf8_takes : (bytes text : List ℕ) → utf8 bytes ≡ Some text → (bytes ≡ text) × IsUtf8 bytes
unfolding utf8
utf8_takes bytes text e = let c = cond_some (is_utf8 bytes) bytes text e in (c.1, (utf8_is bytes).0 c.0)

pub utf8_again : (bytes : List ℕ) → IsUtf8 bytes → utf8 bytes ≡ Some bytes
unfolding utf8
utf8_again bytes h = cond-true (is_utf8 bytes) (Some bytes) None ((utf8_is bytes).1 h)

pub utf8_refuses : (bytes : List ℕ) → utf8 bytes ≡ None → IsUtf8 bytes → ⊥
utf8_refuses bytes e h = cc (e, utf8_again bytes h)
