use Rattle.std.proofs.lemmas.Result.{IfOk-weaker, on_ok_weaker}
use Rattle.run_engine.proofs.Channels.{stopped_news, stopped_reads, read_news, read_reads}
use Rattle.run_engine.proofs.channel.Channel.read.Goals as goal
use Rattle.run_course.specs.Courses.{packets_to}
use Rattle.std.proofs.Common.{sym, ◌∙◌, ap, ◌++◌, take}

pub returns-then-self-clause-packets : goal.returns-then-self-clause-packets
returns-then-self-clause-packets c = λ stream at reads. c.new.ensures.items ∙ stopped_news c.args.self.now stream at c.args.bytes reads c.if-self.true

pub returns-then-self-clause-kept : goal.returns-then-self-clause-kept
returns-then-self-clause-kept c = λ stream at reads. stopped_reads c.args.self.now stream at c.args.bytes reads c.if-self.true

pub returns-clause-packets : goal.returns-clause-packets
returns-clause-packets c = λ stream at reads.
    let good = sym reads.refused_is ∙ c.if-self.false in
    IfOk-weaker c.take_all.result _ _
    (λ packets. read_news c.args.self.now stream c.split_at.result.0.now at c.count-count.result c.args.bytes packets.items reads c.if-self.false
    c.count-count.ensures.count (c.split_at.ensures.front ∙ ap (λ waiting. take c.count-count.result waiting) c.as_slice.ensures))
    (c.take_all.ensures.packets (take at stream ++ c.split_at.result.0.now) (packets_to at stream)
    (c.in_ok-self.ensures.kept (take at stream) (packets_to at stream) reads.frames good))

pub returns-clause-kept : goal.returns-clause-kept
returns-clause-kept c = λ stream at reads.
    let good = sym reads.refused_is ∙ c.if-self.false in
    on_ok_weaker c.take_all.result
    (read_reads c.args.self.now _ stream c.split_at.result.0.now at c.count-count.result c.args.bytes reads c.if-self.false
    c.count-count.ensures.count c.count-count.ensures.within (c.split_at.ensures.front ∙ ap (λ waiting. take c.count-count.result waiting) c.as_slice.ensures)
    c.advance.ensures.items (c.in_ok-self.ensures.refused (take at stream) (packets_to at stream) reads.frames good))
    (c.take_all.ensures.kept (take at stream ++ c.split_at.result.0.now) (packets_to at stream)
    (c.in_ok-self.ensures.kept (take at stream) (packets_to at stream) reads.frames good))
