use Rattle.std.proofs.Common.{◌≡◌, ℕ, ◌++◌, [], ◌∷◌, List, length, refl, ap, ◌∙◌, arith}
use Rattle.std.proofs.lemmas.Option.{same_Some}
use Rattle.rds_wire.specs.declared.frame.Frame.{Frame}
use Rattle.rds_wire.specs.declared.kind.TheConstants.{MAP_LENGTH}
use Rattle.rds_model.specs.SumLaws.{few_maps}
use Rattle.rds_model.specs.declared.entry.Outcome.TheVariants as outcome
use Rattle.rds_model.specs.declared.entry.Verdict.{Verdict}
use Rattle.rds_conn.specs.declared.conn.Found.TheVariants as found
use Rattle.rds_conn.specs.Passing.{outcome_of}
use Rattle.rds_line.specs.Acts.{nothing}
use Rattle.rds_line.specs.Line.{LineView}
use Rattle.rds_line.proofs.Fields.{view_in}
use Rattle.rds_line.proofs.Staying.{channel_same}
use Rattle.rds_line.proofs.Same.{boxes_same}
use Rattle.rds_line.proofs.Passing.{keeps_passed, keeps_unpublished}
use Rattle.rds_line.proofs.Delivering.{passes_map}
use Rattle.rds_line.proofs.FrameActs.{map_acts, passed_acts}
use Rattle.rds_line.proofs.Verdicts.{map_is, map_length, ready_inside, verdict_here, waits_inside}
use Rattle.rds_line.proofs.StaysPassed.{at_err, at_value, line_quiet, passed_one, passed_pulls, passed_stays, seats_same}
use Rattle.rds_line.proofs.line.Line.publish.Goals as goal

pub publish-requires : goal.publish-requires
publish-requires g c =
    let known = c.known.ensures in
    let ready = ready_inside c.self.view_is c.requires.ready in
    let count = ap length c.self.invariant.0.maps in
    let few = few_maps c.self.inside.channel.conn.log.past in
    let spare = ready.entries in
    let room = known.room in
    let most = known.limit in
    omega (arith, count, few, spare, room, most)

pub invariant_of-self : goal.invariant_of-self
invariant_of-self g c =
    keeps_unpublished g.M.MapWriter.published c.self.inside.own_pulled c.publish.new.self
    (at_err c.publish.result c.if-is_err.ensures.value c.publish.ensures.err) c.self.invariant

pub returns-then-is_err : goal.returns-then-is_err
returns-then-is_err g c =
    let i = c.self.inside in
    record {
      quiet =
          line_quiet c.self.view_is (channel_same g.E.End.means i.channel) refl refl (boxes_same i.boxes)
          (seats_same i.words i.ports) c.publish.ensures.pair refl nothing;
      passed = tt;
      err = refl;
    }

pub invariant_of-self-2 : goal.invariant_of-self-2
invariant_of-self-2 g c =
    let i = c.self.inside in
    let published = g.M.MapWriter.published in
    let p = c.pass.ensures.passes in
    let waits = waits_inside c.self.view_is c.requires.waits in
    let is = verdict_here waits p in
    let frame : c.in-Some.frame.now ≡ p.frame = same_Some c.in-Some.frame.now p.frame (c.in-Some.ensures ∙ p.waits) in
    let payload = p.frame.payload in
    let long = map_length i.channel.conn.log.past i.channel.conn.waiting c.known.ensures.map p.waits is in
    let slice = c.as_slice.ensures ∙ ap (λ (f : Frame). f.payload) frame in
    let first = c.in-Some-first_chunk.ensures.cases.same in
    let bytes = map_is payload c.as_slice.result.now c.in-Some-first_chunk.bytes.now MAP_LENGTH slice long first in
    let did = at_value c.publish.result c.if-is_err.ensures.value c.publish.ensures.ok in
    let map = did ∙ ap (λ (l : List ℕ). published i.map ++ l ∷ []) (c.of_bytes.ensures ∙ bytes) in
    keeps_passed published i.own_pulled (passes_map published _ _ p is map c.pass.ensures.rest refl) c.self.invariant

pub returns : goal.returns
returns g c =
    let i = c.self.inside in
    let did = c.pass.ensures in
    let p = did.passes in
    let is = verdict_here (waits_inside c.self.view_is c.requires.waits) p in
    let new : LineView g.row.E.Denot g.row.M.Denot = record (view_in i) { channel = c.pass.new.self; map = c.publish.new.self } in
    record {
      quiet =
          line_quiet c.self.view_is (passed_stays did.passes did.rest) (passed_pulls did.passes) refl (boxes_same i.boxes)
          (seats_same i.words i.ports) c.publish.ensures.pair refl
          (passed_acts (view_in i) new p outcome.Map (ap (λ (k : Verdict). outcome_of k found.Unasked) is)
          (map_acts (view_in i) new p.stream p.frame refl refl refl));
      passed = passed_one c.self.view_is c.pass.new.self did.passes did.rest;
      err = tt;
    }
