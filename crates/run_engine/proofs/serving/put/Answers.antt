use Rattle.std.proofs.Common.{◌∙◌, ◌++◌, ap, sym, subst, append-nil}
use Rattle.std.specs.Option.{option_to_list}
use Rattle.std.proofs.lemmas.Result.{on_ok_weaker}
use Rattle.tars_frames.specs.Streams.{joined}
use Rattle.run_engine.specs.Tracks.{Reads}
use Rattle.run_engine.proofs.serving.put.Goals as goal

pub returns-in-Some : goal.returns-in-Some
returns-in-Some c = λ stream at reads.
    on_ok_weaker c.write.result
    (λ written. subst (λ bytes. Reads c.write.new.self (stream ++ bytes) at)
    (c.as_slice.ensures ∙ sym (append-nil c.in-Some.frame) ∙ ap (λ frame. joined (option_to_list frame)) (sym c.in-Some.is)) written)
    (c.write.ensures stream at reads)

pub returns-in-None : goal.returns-in-None
returns-in-None c = λ stream at reads.
    subst (λ bytes. Reads c.args.out.now bytes at) (sym (append-nil stream) ∙ ap (λ frame. stream ++ joined (option_to_list frame)) (sym c.in-None.is)) reads
