use Rattle.servant_core.proofs.Suited.{table_suits}
use Rattle.servant_core.proofs.table_servant.TableServant.suits.Goals as goal

pub returns : goal.returns
returns c = table_suits _ c.args.self.now c.self.view_is c.self.invariant
