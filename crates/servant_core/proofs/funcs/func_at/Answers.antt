use Rattle.servant_core.proofs.FuncsAt.{found_at, params_few, arguments_at_fit, reply_at_fit}
use Rattle.servant_core.proofs.funcs.func_at.Goals as goal

pub returns-clause-few : goal.returns-clause-few
returns-clause-few c =
    params_few c.order-order.ensures.rules c.args.interface c.args.func c.index-funcs_of-func.result
    (found_at c.funcs_of.result.now _ c.args.func c.index-funcs_of-func.result c.funcs_of.ensures.funcs c.requires.func c.index-funcs_of-func.is)

pub returns-clause-arguments : goal.returns-clause-arguments
returns-clause-arguments c =
    arguments_at_fit c.order-order.ensures.rules c.args.interface c.args.func c.index-funcs_of-func.result
    (found_at c.funcs_of.result.now _ c.args.func c.index-funcs_of-func.result c.funcs_of.ensures.funcs c.requires.func c.index-funcs_of-func.is)

pub returns-clause-reply : goal.returns-clause-reply
returns-clause-reply c =
    reply_at_fit c.order-order.ensures.rules c.args.interface c.args.func c.index-funcs_of-func.result
    (found_at c.funcs_of.result.now _ c.args.func c.index-funcs_of-func.result c.funcs_of.ensures.funcs c.requires.func c.index-funcs_of-func.is)
