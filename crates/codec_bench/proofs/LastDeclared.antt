-- What an interface file declares, by what checking it returned.
use Rattle.std.proofs.Common.{◌≡◌, ℕ, suc, List, [], ◌∷◌, length, subst}
use Rattle.std.specs.Prelude.{Ok}
use Rattle.codec_bench.specs.Bench.{DeclaresLast}
use Rattle.idl_check.specs.Checked.{IsChecked}
use Rattle.idl_parse.specs.Files.{File, IsFileText}
use Rattle.tars_model.specs.Declarations.{Declared}

pub declares_last : (text : List ℕ) (file : File) (d : Declared) (number : ℕ) → file.text ≡ text → IsFileText file.text file.entries
    → IsChecked (file ∷ []) (Ok d) → suc number ≡ length d.structs → DeclaresLast text d number
declares_last text file d number kept is checked last = record {
  file = file;
  is_text = kept;
  is_file = subst (λ (t : List ℕ). IsFileText t file.entries) kept is;
  no_fault = checked.0;
  declares = checked.1;
  last = last;
}
