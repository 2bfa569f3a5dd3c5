-- What reading a file that is not an interface file gives (docs/SCRIPTS.md, "Loading").
use Rattle.std.specs.Prelude.{◌≡◌, ℕ, ◌<◌, ◌≤◌, List, length, Some, None}
use Rattle.schema_files.specs.Refusals.{refusal_line, too_long}
use Rattle.tars_base.specs.Contents.{Contents}
use Rattle.tars_base.specs.Limits.{MAX_FILE}

-- all its bytes, a refusal line, or the name of a file that is not there
pub data FileAnswer : Type 0 where
  whole : List ℕ → FileAnswer
  refused : List ℕ → FileAnswer
  unread : List ℕ → FileAnswer

-- Reading the file gives this answer.
pub data ReadsFile (contents : Contents) (name : List ℕ) : FileAnswer → Type 0 where
  no_file : contents name ≡ None → ReadsFile contents name (unread name)
  long_file :
      (bytes : List ℕ) → contents name ≡ Some bytes → MAX_FILE < length bytes
      → ReadsFile contents name (refused (refusal_line name too_long))
  file : (bytes : List ℕ) → contents name ≡ Some bytes → length bytes ≤ MAX_FILE → ReadsFile contents name (whole bytes)
