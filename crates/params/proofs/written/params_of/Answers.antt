use Rattle.params.proofs.written.params_of.Goals as goal

pub returns-in-GetRoutes-clause-value : goal.returns-in-GetRoutes-clause-value
returns-in-GetRoutes-clause-value c = rw c.in-GetRoutes.is c.write_get_routes.ensures.value
