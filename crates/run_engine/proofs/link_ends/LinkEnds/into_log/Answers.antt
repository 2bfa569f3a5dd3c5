use Rattle.std.proofs.Common.{◌∙◌, ◌≡◌, List, ℕ, None}
use Rattle.script_session.specs.declared.link_log.GotRow.{GotRow}
use Rattle.script_session.specs.declared.link_log.LinkLog.{LinkLog}
use Rattle.script_session.specs.declared.link_log.SentRow.{SentRow}
use Rattle.run_engine.proofs.Links.{log_is}
use Rattle.run_engine.proofs.link_ends.LinkEnds.into_log.Goals as goal

-- the fields of a log
fields_are : {node : ℕ} {sent rows : List SentRow} {torn none rest : List ℕ} {got others : List GotRow} → sent ≡ rows → torn ≡ none → got ≡ others
    → ◌≡◌ {A = LinkLog} (record { node = node; sent = sent; torn = torn; got = got; rest = rest; cut = None }) (record { node = node; sent = rows; torn = none; got = others; rest = rest; cut = None })
fields_are e f g = cc

pub returns : goal.returns
returns c = λ s link t.
    log_is s c.args.self link c.args.node _ c.in_ok-rest.rest t (λ stream at reads. c.in_ok-rest.ensures ∙ c.rest.ensures stream at reads)
    (fields_are c.from_vec.ensures (c.from_vec-2.ensures ∙ c.new.ensures.items) c.from_vec-3.ensures)
