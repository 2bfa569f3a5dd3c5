use Rattle.std.proofs.Common.{sym, ap, ◌∙◌, inl, inr, drop}
use Rattle.tars_frames.specs.Streams.{LONGEST}
use Rattle.tars_frames.proofs.BadLengths.{good_by_rest}
use Rattle.tars_frames.proofs.Cuts.{waits_reads, judged_bad}
use Rattle.tars_frames.proofs.frames.Frames.judge.Goals as goal

pub returns-in_default : goal.returns-in_default
returns-in_default c =
    good_by_rest LONGEST c.args.self.now.rest _ _
    (waits_reads c.self.inside.bytes.items c.split_at.result.1.now c.self.inside.start c.self.inside.end c.self.inside.place
    c.self.inside.packets.items c.args.self.now c.self.invariant c.self.view_is
    (c.split_at.ensures.back ∙ ap (λ s. drop c.self.inside.end s) c.deref.ensures.value))
    (inl c.in_default.ensures)

pub returns-then-is_length : goal.returns-then-is_length
returns-then-is_length c =
    good_by_rest LONGEST c.args.self.now.rest _ _
    (waits_reads c.self.inside.bytes.items c.split_at.result.1.now c.self.inside.start c.self.inside.end c.self.inside.place
    c.self.inside.packets.items c.args.self.now c.self.invariant c.self.view_is
    (c.split_at.ensures.back ∙ ap (λ s. drop c.self.inside.end s) c.deref.ensures.value))
    (inr (c.in-Some.length, c.in-Some.ensures.1, sym c.is_length.ensures ∙ c.if-is_length.true))

pub returns : goal.returns
returns c =
    judged_bad c.self.inside.bytes.items c.split_at.result.1.now c.self.inside.start c.self.inside.end c.self.inside.place
    c.saturating_add.result c.in-Some.length c.self.inside.packets.items c.args.self.now c.self.invariant c.self.view_is
    (c.split_at.ensures.back ∙ ap (λ s. drop c.self.inside.end s) c.deref.ensures.value)
    c.in-Some.ensures.0 c.in-Some.ensures.1 (sym c.is_length.ensures ∙ c.if-is_length.false) c.saturating_add.ensures
