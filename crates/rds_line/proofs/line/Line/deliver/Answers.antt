use Rattle.std.proofs.Common.{◌≡◌, ℕ, ◌<◌, Option, None, List, length, refl, sym, ap, subst, ◌∙◌, arith}
use Rattle.rds_bindtab.specs.Seats.{PortSeat, after_look, knowing}
use Rattle.rds_mail.specs.Passes.{Putter}
use Rattle.rds_line.specs.Acts.{acted}
use Rattle.rds_line.specs.Keeps.{IsPulled, KeepsLine}
use Rattle.rds_line.specs.Line.{LineView}
use Rattle.rds_line.proofs.Acting.{looked_acts}
use Rattle.rds_line.proofs.Fields.{view_in}
use Rattle.rds_line.proofs.Keeping.{keeps_looked}
use Rattle.rds_line.proofs.PortLooks.{found_none}
use Rattle.rds_model.specs.declared.entry.Outcome.TheVariants as outcome
use Rattle.rds_model.specs.declared.entry.Verdict.{Verdict}
use Rattle.rds_model.specs.declared.entry.TheConstants.{MAX_SLOTS}
use Rattle.rds_model.specs.declared.order.Datagram.{Datagram}
use Rattle.rds_conn.specs.declared.conn.Found.TheVariants as found
use Rattle.rds_conn.specs.Passing.{outcome_of}
use Rattle.rds_line_parts.specs.Boxes.{IsPutInto}
use Rattle.rds_line_parts.specs.Delivery.{IsDelivery}
use Rattle.rds_line.proofs.Staying.{channel_same}
use Rattle.rds_line.proofs.Same.{boxes_same}
use Rattle.rds_line.proofs.Passing.{keeps_passed}
use Rattle.rds_line.proofs.Delivering.{delivery_fits, nobody_looks, passes_delivery, passes_quietly}
use Rattle.rds_line.proofs.FrameActs.{delivered_acts, missed_acts, passed_acts}
use Rattle.rds_line.proofs.Verdicts.{datagram_is, port_is, ready_inside, verdict_here, waits_inside}
use Rattle.rds_line.proofs.StaysPassed.{at_err, at_ok, boxes_as, line_quiet, passed_one, passed_pulls, passed_stays, put_same, same_seats, seats_looked, seats_through}
use Rattle.rds_line.proofs.line.Line.deliver.Goals as goal

pub returns-in_default : goal.returns-in_default
returns-in_default g c =
    let i = c.self.inside in
    let did = c.pass.ensures in
    let p = did.passes in
    let is = verdict_here (waits_inside c.self.view_is c.requires.waits) p in
    let looked : c.look.new.self ≡ knowing i.ports (after_look i.ports.view c.args.port None) =
    c.look.ensures.seat
    ∙ ap (λ (o : Option ℕ). knowing i.ports (after_look i.ports.view c.args.port o)) (found_none c.look.result c.in_default.not-Some) in
    let new : LineView g.row.E.Denot g.row.M.Denot = record (view_in i) { channel = c.pass.new.self; ports = c.look.new.self } in
    record {
      quiet =
          line_quiet c.self.view_is (passed_stays did.passes did.rest) (passed_pulls did.passes) refl (boxes_same i.boxes)
          (seats_looked i.words i.ports c.look.new.self c.args.port _ c.look.ensures.seat) refl refl
          (passed_acts (view_in i) new p outcome.NoSocket (ap (λ (v : Verdict). outcome_of v found.NoSocket) is)
          (missed_acts (view_in i) new c.args.port p.stream p.frame looked (port_is _ p.frame.header c.args.port is) refl refl));
      passed = passed_one c.self.view_is c.pass.new.self did.passes did.rest;
      err = tt;
    }

pub invariant_of-self : goal.invariant_of-self
invariant_of-self g c =
    let published = g.M.MapWriter.published in
    let p = c.pass.ensures.passes in
    let is = verdict_here (waits_inside c.self.view_is c.requires.waits) p in
    let none = ap (λ (v : Verdict). outcome_of v found.NoSocket) is in
    let table = ap (λ (h : PortSeat). h.table) c.look.ensures.seat in
    let nobody = found_none c.look.result c.in_default.not-Some in
    let looked : c.look.new.self ≡ knowing c.self.inside.ports (after_look c.self.inside.ports.view c.args.port None) =
    c.look.ensures.seat ∙ ap (λ (o : Option ℕ). knowing c.self.inside.ports (after_look c.self.inside.ports.view c.args.port o)) nobody in
    keeps_passed published c.self.inside.own_pulled
    (passes_quietly published found.NoSocket _ _ p outcome.NoSocket none refl (λ payload earlier. refl)
    c.pass.ensures.rest table
    (nobody_looks c.self.inside.ports c.look.new.self c.args.port p.stream p.frame _ looked (port_is _ p.frame.header c.args.port is))
    (missed_acts (view_in c.self.inside) (record (view_in c.self.inside) { channel = c.pass.new.self; ports = c.look.new.self }) c.args.port p.stream p.frame looked
    (port_is _ p.frame.header c.args.port is) refl refl)
    refl)
    c.self.invariant

pub invariant_of-self-in_default-datagram : goal.invariant_of-self-in_default-datagram
invariant_of-self-in_default-datagram g c = (
  keeps_looked g.M.MapWriter.published (view_in c.self.inside) c.look.new.self c.args.port c.look.result c.look.ensures.seat
      c.self.invariant.0,
  c.self.invariant.1,
)

pub invariant_of-self-then-is_err : goal.invariant_of-self-then-is_err
invariant_of-self-then-is_err g c =
    let looked : LineView g.row.E.Denot g.row.M.Denot = record (view_in c.self.inside) { ports = c.look.new.self } in
    let same = at_err c.put.result c.if-is_err.ensures.value c.put.ensures.same in
    subst (λ (boxes : List (Putter Datagram)). KeepsLine g.M.MapWriter.published (record looked { boxes = boxes })
    × IsPulled c.self.inside.own_pulled (record looked { boxes = boxes })) (sym same) (
      keeps_looked g.M.MapWriter.published (view_in c.self.inside) c.look.new.self c.args.port c.look.result c.look.ensures.seat
          c.self.invariant.0,
      c.self.invariant.1,
    )

pub returns-in_default-datagram : goal.returns-in_default-datagram
returns-in_default-datagram g c =
    let i = c.self.inside in
    record {
      quiet =
          line_quiet c.self.view_is (channel_same g.E.End.means i.channel) refl refl (boxes_same i.boxes)
          (seats_looked i.words i.ports c.look.new.self c.args.port _ c.look.ensures.seat) refl refl
          (looked_acts (acted (view_in i)) c.look.new.self c.args.port c.look.result c.look.ensures.seat);
      passed = tt;
      err = refl;
    }

pub returns-then-is_err : goal.returns-then-is_err
returns-then-is_err g c =
    let i = c.self.inside in
    let same = at_err c.put.result c.if-is_err.ensures.value c.put.ensures.same in
    record {
      quiet =
          line_quiet c.self.view_is (channel_same g.E.End.means i.channel) refl refl (boxes_as i.boxes c.put.new.self same)
          (seats_looked i.words i.ports c.look.new.self c.args.port _ c.look.ensures.seat) refl refl
          (looked_acts (acted (view_in i)) c.look.new.self c.args.port c.look.result c.look.ensures.seat);
      passed = tt;
      err = refl;
    }

pub deliver-requires-clause-part : goal.deliver-requires-clause-part
deliver-requires-clause-part g c =
    let i = c.self.inside in
    let known = c.known.ensures in
    let p = c.pass-2.ensures.passes in
    let ready = ready_inside c.self.view_is c.requires.ready in
    let waits = waits_inside c.self.view_is c.requires.waits in
    let keeps = c.self.invariant.0 in
    let below = c.in-Some.ensures.slot in
    let few = keeps.few in
    let small : c.in-Some.slot < MAX_SLOTS = omega (arith, below, few) in
    let here = datagram_is c.in-Ok.datagram _ c.in-Ok.ensures p.waits in
    let bytes = c.len-bytes.ensures.len ∙ ap (λ (d : Datagram). length d.payload) here in
    let fits = delivery_fits p c.args.port (verdict_here waits p) small ready known.room known.limit keeps.counted in
    omega (arith, bytes, fits)

pub invariant_of-self-2 : goal.invariant_of-self-2
invariant_of-self-2 g c =
    let i = c.self.inside in
    let p = c.pass-2.ensures.passes in
    let waits = waits_inside c.self.view_is c.requires.waits in
    let keeps = c.self.invariant.0 in
    let below = c.in-Some.ensures.slot in
    let few = keeps.few in
    let small : c.in-Some.slot < MAX_SLOTS = omega (arith, below, few) in
    let here = datagram_is c.in-Ok.datagram _ c.in-Ok.ensures p.waits in
    let did = at_ok c.put.result c.if-is_err.ensures.value c.put.ensures.put in
    let put = subst (λ (d : Datagram). IsPutInto c.in-Some.slot d i.boxes c.put.new.self) here did in
    let bytes = c.len-bytes.ensures.len ∙ ap (λ (d : Datagram). length d.payload) here in
    let words = c.deliver.new.self in
    let ports = c.look.new.self in
    let delivery = subst (λ (n : ℕ). IsDelivery c.in-Some.slot c.args.port n i.words words ports c.deliver.new.ports) bytes
    c.deliver.ensures.delivery in
    let seats = same_seats c.deliver.ensures.delivery in
    let table = ap (λ (h : PortSeat). h.table) c.look.ensures.seat in
    keeps_passed g.M.MapWriter.published i.own_pulled
    (passes_delivery g.M.MapWriter.published c.in-Some.slot c.args.port _ _ p (verdict_here waits p) small below put ports
    (c.look.ensures.seat ∙ ap (λ (o : Option ℕ). knowing i.ports (after_look i.ports.view c.args.port o)) c.in-Some.is)
    (seats.port_table ∙ table) delivery c.pass-2.ensures.rest refl)
    c.self.invariant

pub returns : goal.returns
returns g c =
    let i = c.self.inside in
    let put = at_ok c.put.result c.if-is_err.ensures.value c.put.ensures.put in
    let did = c.pass-2.ensures in
    let p = did.passes in
    let is = verdict_here (waits_inside c.self.view_is c.requires.waits) p in
    let here = datagram_is c.in-Ok.datagram _ c.in-Ok.ensures p.waits in
    let bytes = c.len-bytes.ensures.len ∙ ap (λ (d : Datagram). length d.payload) here in
    let words = c.deliver.new.self in
    let ports = c.look.new.self in
    let delivery = subst (λ (n : ℕ). IsDelivery c.in-Some.slot c.args.port n i.words words ports c.deliver.new.ports) bytes
    c.deliver.ensures.delivery in
    let looked = c.look.ensures.seat ∙ ap (λ (o : Option ℕ). knowing i.ports (after_look i.ports.view c.args.port o)) c.in-Some.is in
    let new : LineView g.row.E.Denot g.row.M.Denot = record (view_in i) { channel = c.pass-2.new.self; boxes = c.put.new.self; ports = c.deliver.new.ports; words = words } in
    record {
      quiet =
          line_quiet c.self.view_is (passed_stays did.passes did.rest) (passed_pulls did.passes) refl (put_same _ _ _ _ put)
          (seats_through (seats_looked i.words i.ports c.look.new.self c.args.port _ c.look.ensures.seat)
          (same_seats c.deliver.ensures.delivery)) refl refl
          (passed_acts (view_in i) new p (outcome.Slot c.in-Some.slot) (ap (λ (v : Verdict). outcome_of v (found.Slot c.in-Some.slot)) is)
          (delivered_acts (view_in i) new c.in-Some.slot c.args.port p.stream p.frame ports looked (port_is _ p.frame.header c.args.port is) delivery refl));
      passed = passed_one c.self.view_is c.pass-2.new.self did.passes did.rest;
      err = tt;
    }
