-- What is read from a body, by what reading it returned.
use Rattle.std.proofs.Common.{ℕ, List}
use Rattle.std.specs.Prelude.{Ok}
use Rattle.codec_bench.specs.Bench.{ReadsValues}
use Rattle.tars_decode.specs.Decoding.{Answers, Judges}
use Rattle.tars_decode.specs.Reads.{reads}
use Rattle.tars_model.specs.Declarations.{Declared, members_at}
use Rattle.tars_model.specs.declared.value.Value.{Value}
use Rattle.tars_wire.specs.Heads.{MAX_DEPTH}
use Rattle.tars_wire.specs.Spelled.{Spelled}
use Rattle.wire_words.specs.Tree.{WireFields}

pub values_read : (d : Declared) (number : ℕ) (body : List ℕ) (vs : List Value) → Judges body (Ok vs)
    → ((fields : WireFields) → Spelled MAX_DEPTH body fields → Answers (Ok vs) (reads d (members_at d number) fields)) → ReadsValues d number body vs
values_read d number body vs is read = (is.fields, is.spelled, read is.fields is.spelled)
