use Rattle.rds_model.specs.SumLaws.{orders_grow, maps_grow, opens_grow, endings_rise}
use Rattle.rds_model.specs.DeliveryLaws.{delivered_grow, deliveries_rise, put_rises}
use Rattle.rds_model.proofs.laws.sums_grow.Goals as goal

pub returns-clause-orders : goal.returns-clause-orders
returns-clause-orders c earlier later m = orders_grow m

pub returns-clause-delivered : goal.returns-clause-delivered
returns-clause-delivered c from slot earlier later m = delivered_grow from slot m

pub returns-clause-maps : goal.returns-clause-maps
returns-clause-maps c earlier later m = maps_grow m

pub returns-clause-opens : goal.returns-clause-opens
returns-clause-opens c earlier later m = opens_grow m

pub returns-clause-deliveries : goal.returns-clause-deliveries
returns-clause-deliveries c slot earlier later m = deliveries_rise slot m

pub returns-clause-put : goal.returns-clause-put
returns-clause-put c slot earlier later m = put_rises slot m

pub returns-clause-endings : goal.returns-clause-endings
returns-clause-endings c earlier later m = endings_rise m
