use Rattle.std.proofs.Common.{◌≡◌, ◌<◌, ◌∙◌, sym, subst, length, arith}
use Rattle.rds_model.specs.declared.order.Order.{Order}
use Rattle.rds_model.specs.declared.order.Order.TheVariants as order
use Rattle.rds_socket_parts.specs.Lanes.{IsPutAt}
use Rattle.rds_socket_parts.specs.ChangeLaws.{put_more, stay_on, on_ok}
use Rattle.rds_socket_parts.proofs.routes.Routes.tell.Goals as goal

pub returns-then-is_err-clause-stay : goal.returns-then-is_err-clause-stay
returns-then-is_err-clause-stay g c = stay_on g.R.MapReader.pair g.R.MapReader.has_seen _ _ _ c.loop-place.invariant.2 c.put.ensures.stay

pub loop-place-preserved : goal.loop-place-preserved
loop-place-preserved g c =
    let at = c.loop-place.invariant in
    let one = on_ok c.put.result (sym c.is_err.ensures.value ∙ c.if-is_err.false) c.put.ensures.put in
    let told = subst (λ (o : Order). IsPutAt c.loop-place.place o c.loop-place.self c.put.new.self) c.new-item.ensures one in
    let small : c.loop-place.place < length c.args.self.now = (let a = c.loop-place-test.true in let b = at.0 in omega arith) in
    (at.0, put_more c.args.from c.loop-place.place (order.CloseSocket c.args.slot) _ _ _ c.loop-place.auto.place small at.1 told, stay_on g.R.MapReader.pair g.R.MapReader.has_seen _ _ _ at.2 c.put.ensures.stay)
