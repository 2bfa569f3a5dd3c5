-- What holds of words holds of them each once.
use Rattle.std.proofs.Common.{Bool, true, false, cond, ℕ, List, [], ◌∷◌, ◌++◌, fold}
use Rattle.std.specs.List.{AllByRecursion, list_any}
use Rattle.std.specs.Str.{bytes_eq}
use Rattle.idl_scene.specs.Known.{once_more, each_once}
use Rattle.idl_schema.proofs.Parts.{each_append}

module _ (P : List ℕ → Type 0) where
  by_test : (b : Bool) (words : List (List ℕ)) (word : List ℕ) → AllByRecursion P words → P word → AllByRecursion P (cond b words (words ++ word ∷ []))
  by_test true words word all p = all
  by_test false words word all p = each_append P words (word ∷ []) all (p, tt)

  once_after : (words more : List (List ℕ)) → AllByRecursion P words → AllByRecursion P more → AllByRecursion P (fold once_more words more)
  once_after words [] all others = all
  once_after words (w ∷ more) all others = once_after (once_more words w) more (by_test (list_any (bytes_eq w) words) words w all others.0) others.1

  pub once_each : (words : List (List ℕ)) → AllByRecursion P words → AllByRecursion P (each_once words)
  once_each words all = once_after [] words tt all
