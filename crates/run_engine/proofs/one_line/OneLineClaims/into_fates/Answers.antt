use Rattle.std.proofs.lemmas.Result.{IfOk-weaker}
use Rattle.run_engine.proofs.OneLines.{fates_are, fates_fit}
use Rattle.run_engine.proofs.one_line.OneLineClaims.into_fates.Goals as goal

pub returns-clause-fates : goal.returns-clause-fates
returns-clause-fates c = λ claims is. IfOk-weaker c.fates_of.result _ _ (λ fates e. fates_are claims c.args.self.calls.items fates.items is.are e) c.fates_of.ensures

pub returns-clause-fits : goal.returns-clause-fits
returns-clause-fits c = λ claims is. IfOk-weaker c.fates_of.result _ _ (λ fates e. fates_fit c.args.self.calls.items fates.items is.fit e) c.fates_of.ensures
