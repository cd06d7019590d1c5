-- How a line acts where it passes a frame: it delivers it, finds no socket for it, or does nothing with it at the tables.
use Rattle.std.proofs.Common.{◌≡◌, ◌≢◌, ℕ, Some, None, List, ◌∷◌, length, refl, sym, ap, subst, ◌∙◌}
use Rattle.rds_wire.specs.declared.frame.Frame.{Frame}
use Rattle.rds_bindtab.specs.Seats.{PortSeat, after_look, knowing}
use Rattle.rds_meter.specs.Seats.{MeterSeat}
use Rattle.rds_model.specs.declared.entry.Entry.{Entry}
use Rattle.rds_model.specs.declared.entry.Entry.TheVariants.{Read}
use Rattle.rds_model.specs.declared.entry.Outcome.{Outcome}
use Rattle.rds_model.specs.declared.entry.Outcome.TheVariants as outcome
use Rattle.rds_model.specs.declared.entry.Verdict.{Verdict}
use Rattle.rds_model.specs.declared.entry.Verdict.TheVariants as verdict
use Rattle.rds_model.specs.Legal.{pong_for}
use Rattle.rds_model.specs.Reading.{verdict_of}
use Rattle.rds_conn.specs.declared.conn.Found.{Found}
use Rattle.rds_conn.specs.declared.conn.Found.TheVariants as found
use Rattle.rds_conn.specs.Connection.{Connection}
use Rattle.rds_conn.specs.Passing.{Passes, outcome_of}
use Rattle.rds_line_parts.specs.Delivery.{IsDelivery}
use Rattle.rds_line_parts.specs.Own.{Own}
use Rattle.rds_line.specs.Acts as act
use Rattle.rds_line.specs.Acts.{Acts, AsksNoPort, acted}
use Rattle.rds_line.specs.Line.{LineView, line_past}
use Rattle.rds_line.proofs.Acting.{IsQuietPast, entry_acts}
use Rattle.rds_line.proofs.Passing.{ActsOnRead, acts_after, acts_passed, passes_reads}
use Rattle.rds_line.proofs.StaysPassed.{passed_pulls}

-- no port is asked for a frame that goes to none
pub unasked_port : (v : Verdict) → ((port : ℕ) → v ≢ verdict.Deliver port) → (s : ℕ) (f : Frame) → AsksNoPort (Read s f (outcome_of v found.Unasked))
unasked_port (verdict.Deliver port) other s f = absurd (other port refl)
unasked_port verdict.Old other s f = tt
unasked_port verdict.Ping other s f = tt
unasked_port verdict.Void other s f = tt
unasked_port verdict.AckOnly other s f = tt
unasked_port verdict.Map other s f = tt
unasked_port verdict.OddMap other s f = tt

-- how the line acted
module _ {E M : Type 0} (old new : LineView E M) where
  -- nothing was done with the frame at the tables
  beside_acts : (s : ℕ) (f : Frame) (o : Outcome) → AsksNoPort (Read s f o) → new.ports ≡ old.ports → new.words ≡ old.words → new.own ≡ old.own →
      ActsOnRead s f o old new
  beside_acts s f o asks ports words own a acts =
      subst (λ (h : PortSeat). Acts a (record { past = Read s f o ∷ line_past old; ports = h; words = new.words; own = new.own })) (sym ports)
      (subst (λ (h : MeterSeat). Acts a (record { past = Read s f o ∷ line_past old; ports = old.ports; words = h; own = new.own })) (sym words)
      (subst (λ (h : Own). Acts a (record { past = Read s f o ∷ line_past old; ports = old.ports; words = old.words; own = h })) (sym own)
      (act.enters (Read s f o) asks acts)))

  pub unasked_acts : (v : Verdict) → ((port : ℕ) → v ≢ verdict.Deliver port) → (s : ℕ) (f : Frame) →
      new.ports ≡ old.ports → new.words ≡ old.words → new.own ≡ old.own → ActsOnRead s f (outcome_of v found.Unasked) old new
  unasked_acts v other s f = beside_acts s f (outcome_of v found.Unasked) (unasked_port v other s f)

  pub map_acts : (s : ℕ) (f : Frame) → new.ports ≡ old.ports → new.words ≡ old.words → new.own ≡ old.own → ActsOnRead s f outcome.Map old new
  map_acts s f = beside_acts s f outcome.Map tt

  -- a look found nobody
  pub missed_acts : (port s : ℕ) (f : Frame) → new.ports ≡ knowing old.ports (after_look old.ports.view port None) → f.header.dport ≡ port →
      new.words ≡ old.words → new.own ≡ old.own → ActsOnRead s f outcome.NoSocket old new
  missed_acts port s f is there words own a acts =
      let past = Read s f outcome.NoSocket ∷ line_past old in
      let ports : new.ports ≡ act.looked_up old.ports f.header.dport None =
      is ∙ ap (λ (p : ℕ). act.looked_up old.ports p None) (sym there) in
      subst (λ (h : PortSeat). Acts a (record { past = past; ports = h; words = new.words; own = new.own })) (sym ports)
      (subst (λ (h : MeterSeat). Acts a (record { past = past; ports = act.looked_up old.ports f.header.dport None; words = h; own = new.own })) (sym words)
      (subst (λ (o : Own). Acts a (record { past = past; ports = act.looked_up old.ports f.header.dport None; words = old.words; own = o })) (sym own)
      (act.misses s f acts)))

  -- a look found a slot, and the datagram was counted there
  pub delivered_acts : (slot port s : ℕ) (f : Frame) (ports : PortSeat) → ports ≡ knowing old.ports (after_look old.ports.view port (Some slot)) →
      f.header.dport ≡ port → IsDelivery slot port (length f.payload) old.words new.words ports new.ports → new.own ≡ old.own →
      ActsOnRead s f (outcome.Slot slot) old new
  delivered_acts slot port s f ports is there delivery own a acts =
      let n = length f.payload in
      let looked : ports ≡ act.looked_up old.ports f.header.dport (Some slot) =
      is ∙ ap (λ (p : ℕ). act.looked_up old.ports p (Some slot)) (sym there) in
      let named : IsDelivery slot f.header.dport n old.words new.words ports new.ports =
      subst (λ (k : ℕ). IsDelivery slot k n old.words new.words ports new.ports) (sym there) delivery in
      let counted = subst (λ (h : PortSeat). IsDelivery slot f.header.dport n old.words new.words h new.ports) looked named in
      subst (λ (o : Own). Acts a (record { past = Read s f (outcome.Slot slot) ∷ line_past old; ports = new.ports; words = new.words; own = o })) (sym own)
      (act.delivers s slot f counted acts)

-- where no port is asked for the frame that was passed, no frame was pulled either
pub passed_past : {came : Found} {old new : Connection} (p : Passes came old new) →
    AsksNoPort (Read p.stream p.frame (outcome_of (verdict_of old.log.past p.frame.header) came)) → IsQuietPast old.log.past new.log.past
passed_past {came} {old} {new} p asks =
    let o = outcome_of (verdict_of old.log.past p.frame.header) came in
    let r = passes_reads came old new p o refl in
    record {
      pulls = passed_pulls p;
      acts = λ a b is acts.
          subst (λ (l : List Entry). Acts a (record b { past = l })) (sym r.past)
          (acts_after p.stream p.frame o old.log.past a b (pong_for o p.frame.header.sport)
          (entry_acts (Read p.stream p.frame o) old.log.past (Read p.stream p.frame o ∷ old.log.past) asks refl a b is acts));
    }

-- the line acted on where it did so with the frame
pub passed_acts : {E M : Type 0} {came : Found} (old new : LineView E M) (p : Passes came old.channel.conn new.channel.conn) (o : Outcome) →
    outcome_of (verdict_of (line_past old) p.frame.header) came ≡ o → ActsOnRead p.stream p.frame o old new → Acts (acted old) (acted new)
passed_acts {E} {M} {came} old new p o is acts =
    acts_passed old new (passes_reads came old.channel.conn new.channel.conn p o is) acts (acted old) act.nothing
