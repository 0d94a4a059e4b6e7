use Rattle.snesl_size.proofs.Staying.{ending_stays, networks_stay}
use Rattle.snesl_size.proofs.laws.ending_stays.Goals as goal

pub returns-clause-networks : goal.returns-clause-networks
returns-clause-networks c = networks_stay c.one_network.ensures c.runs_rest_alike.ensures

pub returns-clause-reports : goal.returns-clause-reports
returns-clause-reports c = ending_stays (networks_stay c.one_network.ensures c.runs_rest_alike.ensures)
