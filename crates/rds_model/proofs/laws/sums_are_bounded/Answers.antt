use Rattle.rds_model.specs.SumLaws.{few_orders, few_maps, few_opens}
use Rattle.rds_model.specs.DeliveryLaws.{few_deliveries, put_bound, port_within}
use Rattle.rds_model.proofs.laws.sums_are_bounded.Goals as goal

pub returns-clause-orders : goal.returns-clause-orders
returns-clause-orders c past = few_orders past

pub returns-clause-maps : goal.returns-clause-maps
returns-clause-maps c past = few_maps past

pub returns-clause-opens : goal.returns-clause-opens
returns-clause-opens c past = few_opens past

pub returns-clause-deliveries : goal.returns-clause-deliveries
returns-clause-deliveries c slot past = few_deliveries slot past

pub returns-clause-put : goal.returns-clause-put
returns-clause-put c slot past legal = put_bound slot past legal

pub returns-clause-port : goal.returns-clause-port
returns-clause-port c port slot past = port_within port slot past
