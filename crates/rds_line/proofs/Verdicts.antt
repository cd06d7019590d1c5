-- What the verdict on the frame that waits says of its datagram, its port and its map.
use Rattle.std.proofs.Common.{◌≡◌, ℕ, ◌==◌, Bool, true, false, cond, Option, Some, List, length, take, sym, ap, subst, ◌∙◌, arith}
use Rattle.std.specs.Option.{IfSome, option_map}
use Rattle.std.proofs.lemmas.Option.{same_Some}
use Rattle.std.proofs.lemmas.List.{take_all}
use Rattle.rds_wire.specs.declared.frame.Frame.{Frame}
use Rattle.rds_wire.specs.declared.header.Header.{Header}
use Rattle.rds_wire.specs.declared.kind.Kind.{Kind}
use Rattle.rds_wire.specs.declared.kind.Kind.TheVariants.{Data, Ack, Map, OddMap}
use Rattle.rds_wire.specs.declared.kind.TheConstants.{MAP_LENGTH}
use Rattle.rds_wire.specs.Kinds.{kind_of}
use Rattle.rds_model.specs.declared.entry.Entry.{Entry}
use Rattle.rds_model.specs.declared.entry.Verdict.{Verdict}
use Rattle.rds_model.specs.declared.entry.Verdict.TheVariants as verdict
use Rattle.rds_model.specs.declared.order.Datagram.{Datagram}
use Rattle.rds_model.specs.Deliveries.{datagram_from}
use Rattle.rds_model.specs.Reading.{is_old, verdict_of, verdict_of_kind, verdict_of_ports}
use Rattle.rds_conn.specs.declared.conn.Found.{Found}
use Rattle.rds_conn.specs.Connection.{Connection, IsReady}
use Rattle.rds_conn.specs.Passing.{Passes}
use Rattle.rds_line.specs.Line.{LineView}
use Rattle.rds_line.specs.Steps.{IsWaiting}

-- what a step asks of the view of a line is known of its parts
pub ready_inside : {E M : Type 0} {inside old : LineView E M} → inside ≡ old →
    IsReady old.channel.conn → IsReady inside.channel.conn
ready_inside {E} {M} is ready = subst (λ (v : LineView E M). IsReady v.channel.conn) (sym is) ready

pub waits_inside : {E M : Type 0} {inside old : LineView E M} {v : Verdict} → inside ≡ old →
    IsWaiting v old.channel.conn → IsWaiting v inside.channel.conn
waits_inside {E} {M} {inside} {old} {v} is waits = subst (λ (l : LineView E M). IsWaiting v l.channel.conn) (sym is) waits

-- the verdict of the frame that waited
pub verdict_here : {v : Verdict} {old new : Connection} {came : Found} → IsWaiting v old → (p : Passes came old new) →
    verdict_of old.log.past p.frame.header ≡ v
verdict_here {v} {old} {new} {came} w p =
    subst (λ (f : Frame). verdict_of old.log.past f.header ≡ v) (same_Some w.frame p.frame (sym w.waits ∙ p.waits)) w.is

-- a verdict is that of the frame that waited
pub verdict_there : (past : List Entry) (o : Option Frame) (v : Verdict) (f : Frame) →
    Some v ≡ option_map (λ (g : Frame). verdict_of past g.header) o → o ≡ Some f → v ≡ verdict_of past f.header
verdict_there past o v f is there =
    same_Some v (verdict_of past f.header) (is ∙ ap (option_map (λ (g : Frame). verdict_of past g.header)) there)

-- the datagram of the frame that waited
pub datagram_is : {from : ℕ} {frame : Frame} (d : Datagram) (waiting : Option Frame) →
    IfSome waiting (λ f. d ≡ datagram_from from f) → waiting ≡ Some frame → d ≡ datagram_from from frame
datagram_is {from} {frame} d waiting is waits = subst (λ (o : Option Frame). IfSome o (λ f. d ≡ datagram_from from f)) waits is

-- a map that waited has so many bytes
pub map_length : {frame : Frame} (past : List Entry) (waiting : Option Frame) →
    IfSome waiting (λ f. verdict_of past f.header ≡ verdict.Map → length f.payload ≡ MAP_LENGTH) → waiting ≡ Some frame →
    verdict_of past frame.header ≡ verdict.Map → length frame.payload ≡ MAP_LENGTH
map_length {frame} past waiting is waits =
    subst (λ (o : Option Frame). IfSome o (λ f. verdict_of past f.header ≡ verdict.Map → length f.payload ≡ MAP_LENGTH)) waits is

-- the bytes that were published are those of the frame
pub map_is : (payload xs ys : List ℕ) (n : ℕ) → xs ≡ payload → length payload ≡ n → ys ≡ take n xs → ys ≡ payload
map_is payload xs ys n is long front =
    let count = ap length is in
    front ∙ take_all n xs (omega (arith, long, count)) ∙ is

-- a datagram is delivered to the port that its header names
pub port_is : (past : List Entry) (h : Header) (port : ℕ) → verdict_of past h ≡ verdict.Deliver port → h.dport ≡ port
port_is past h port is = go (kind_of h) is
  where
    ports : (a b : Bool) →
        cond a (cond b verdict.Void verdict.Ping) (verdict.Deliver h.dport) ≡ verdict.Deliver port → h.dport ≡ port
    ports true true e = cc
    ports true false e = cc
    ports false b e = cc

    numbered : (old : Bool) → cond old verdict.Old (verdict_of_ports h.sport h.dport) ≡ verdict.Deliver port → h.dport ≡ port
    numbered true e = cc
    numbered false e = ports (h.dport == 0) (h.sport == 0) e

    go : (k : Kind) → verdict_of_kind k past h ≡ verdict.Deliver port → h.dport ≡ port
    go Map e = cc
    go OddMap e = cc
    go Ack e = cc
    go Data e = numbered (is_old past h) e
