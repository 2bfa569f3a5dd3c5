-- Something is read of all contents.
use Rattle.std.proofs.Common.{ℕ, List, ap}
use Rattle.std.specs.Option.{option_map}
use Rattle.idl_load.specs.FileText.{FileText}
use Rattle.idl_load.specs.Loading.{Reading, Reads}
use Rattle.idl_load.proofs.Texts.{some_text}
use Rattle.tars_base.specs.Contents.{Contents}

-- each file with what its text is
read_with : List ℕ → List ℕ × FileText
read_with bytes = (bytes, (some_text bytes).0)

reading_of : Contents → Reading
reading_of contents name = option_map read_with (contents name)

pub some_reading : (contents : Contents) → (read : Reading) × Reads contents read
unfolding reading_of read_with
some_reading contents = (
  reading_of contents,
  record {
    missing = λ name none. ap (option_map read_with) none;
    present = λ name bytes is. ((some_text bytes).0, ap (option_map read_with) is, (some_text bytes).1);
  },
)
