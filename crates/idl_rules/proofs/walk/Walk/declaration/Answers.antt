use Rattle.std.proofs.Common.{ap, ◌∙◌}
use Rattle.idl_scene.specs.Items.{item, declared}
use Rattle.idl_scene.specs.KnownSteps.{kept_meaning}
use Rattle.idl_rules.specs.Conditions.{known_with}
use Rattle.idl_rules.specs.JudgeSteps.{judged_of}
use Rattle.idl_rules.specs.Rules.{name_of}
use Rattle.idl_rules.proofs.WalkLaws.{judged_is}
use Rattle.idl_rules.proofs.walk.Walk.declaration.Goals as goal

pub returns : goal.returns
returns c =
    let text = c.args.text.now in
    let home = c.args.home.now in
    let decl = c.args.decl.now in
    let known = c.args.self.now.names in
    judged_is (judged_of c.args.self.now) (item c.args.file text home (declared decl)) c.learn.new.names c.room_with-self.result c.judge.new.least
    (c.in_ok-learn.ensures ∙ ap (known_with text home known (kept_meaning c.in_ok-meaning.meaning)) c.name_of.ensures ∙ ap (λ m. known_with text home known m (name_of decl)) c.in_ok-meaning.ensures.meaning)
    c.room_with-self.ensures c.in_ok-meaning.ensures.found
