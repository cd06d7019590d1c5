-- What a line keeps when it reads its host's own map and pulls the frame that is owed.
use Rattle.std.proofs.Common.{◌≡◌, ℕ, ◌+◌, ◌<◌, Bool, true, false, Option, Some, None, List, [], ◌∷◌, ◌++◌, refl, sym, ap, subst, ◌∙◌}
use Rattle.rds_wire.specs.declared.frame.Frame.{Frame}
use Rattle.rds_link.specs.Ends.{Means}
use Rattle.rds_model.specs.declared.entry.Entry.TheVariants.{Pull}
use Rattle.rds_cong.specs.Map.{has_port}
use Rattle.rds_model.specs.Owed.{is_map}
use Rattle.rds_model.specs.Past.{Moment, now, before}
use Rattle.rds_model.specs.SumLaws.{same_list}
use Rattle.rds_meter.specs.declared.view.Step.TheVariants.{Loaded}
use Rattle.rds_meter.specs.Places.{change_word, put_word, freed_word}
use Rattle.rds_meter.specs.Grounds.{HasFoundSet}
use Rattle.rds_meter.specs.Seats.{MeterSeat}
use Rattle.rds_conn.specs.declared.conn.Pulled.{Pulled}
use Rattle.rds_conn.specs.Connection.{Connection, freed_bytes_of, stream_of, taken_bytes, with_entries}
use Rattle.rds_conn.specs.Pulling.{Pulls}
use Rattle.rds_line_parts.specs.CountedLaws.{counted_for_steps}
use Rattle.rds_line_parts.specs.Own.{Own, IsRefresh, loads_from}
use Rattle.rds_line_parts.specs.OwnLaws.{refreshed}
use Rattle.rds_line_parts.specs.Words.{AddsNothing}
use Rattle.rds_line.specs.Acts as act
use Rattle.rds_line.specs.Acts.{acted}
use Rattle.rds_line.specs.Keeps.{IsPulled, KeepsLine}
use Rattle.rds_line.specs.Line.{LineView, line_past}
use Rattle.rds_line.specs.Stays.{LineStays}
use Rattle.rds_line.specs.Steps.{HasBits}
use Rattle.rds_line.proofs.Acting.{ActsOn, entry_acts, still_acts}
use Rattle.rds_line.proofs.Grounding.{found_pulled, found_still}
use Rattle.rds_line.proofs.PortLooks.{looks_beside}
use Rattle.rds_line.proofs.Staying.{streams_same}
use Rattle.rds_line.proofs.Same.{boxes_same, same_view}
use Rattle.rds_line.proofs.Storing.{refresh_stores}

-- what a pull leaves of the connection
pub record LeavesConn (old new : Connection) : Type 0 where
  pub me : new.me ≡ old.me
  pub peer : new.peer ≡ old.peer
  pub slots : new.slots ≡ old.slots
  pub limit : new.log.limit ≡ old.log.limit
  pub past : Moment old.log.past new.log.past
  pub waiting : new.waiting ≡ old.waiting
  pub taken : taken_bytes new ≡ taken_bytes old
  pub stream : stream_of new ≡ stream_of old
  pub acts : ActsOn old.log.past new.log.past

pub leaves_same : (conn : Connection) → LeavesConn conn conn
leaves_same conn = record { me = refl; peer = refl; slots = refl; limit = refl; past = now; waiting = refl; taken = refl; stream = refl; acts = still_acts _ _ refl }

leaves_pulled : (s : ℕ) (f : Frame) (conn : Connection) → LeavesConn conn (with_entries (Pull s f ∷ []) conn)
leaves_pulled s f conn = record {
  me = refl;
  peer = refl;
  slots = refl;
  limit = refl;
  past = before now;
  waiting = refl;
  taken = refl;
  stream = refl;
  acts = entry_acts (Pull s f) conn.log.past (Pull s f ∷ conn.log.past) tt refl;
}

pub pull_leaves : (s : ℕ) (owed : Option Frame) (old new : Connection) (out out_new : List ℕ) (came : Pulled) →
    Pulls s owed old new out out_new came → LeavesConn old new
pull_leaves s None old new out out_new came did = subst (LeavesConn old) (sym did.same) (leaves_same old)
pull_leaves s (Some f) old new out out_new came did = subst (LeavesConn old) (sym did.entry) (leaves_pulled s f old)

module _ {E M : Type 0} where
  -- the line with another connection and other bytes on their way
  abbrev pub with_pull : LineView E M → Connection → List ℕ → LineView E M
  with_pull v conn out = record v { channel = record v.channel { conn = conn; out = out } }

  -- the line with another own map and other counts
  abbrev pub with_own : LineView E M → Own → MeterSeat → LineView E M
  with_own v own words = record v { own = own; words = words }

  keeps_same : (published : M → List (List ℕ)) (v : LineView E M) (out : List ℕ) → KeepsLine published v →
      KeepsLine published (with_pull v v.channel.conn out)
  keeps_same published v out k = record {
    taken = k.taken;
    cuts = k.cuts;
    put = k.put;
    counted = k.counted;
    freed = k.freed;
    maps = k.maps;
    read = k.read;
    boxes = k.boxes;
    few = k.few;
    slots = k.slots;
    pulled = k.pulled;
    ported = k.ported;
    stored = k.stored;
    acts = k.acts;
  }

  -- if the frame is a map, each port of it was found set
  abbrev pub IsGrounded : LineView E M → Frame → Type 0
  IsGrounded v f = is_map f ≡ true → (port : ℕ) → port < 65536 → has_port f.payload port ≡ true → HasFoundSet port v.words.view.steps

  keeps_entry : (published : M → List (List ℕ)) (v : LineView E M) (out : List ℕ) (s : ℕ) (f : Frame) → IsGrounded v f → KeepsLine published v →
      KeepsLine published (with_pull v (with_entries (Pull s f ∷ []) v.channel.conn) out)
  keeps_entry published v out s f ground k = record {
    taken = k.taken;
    cuts = k.cuts;
    put = k.put;
    counted = record { put = k.counted.put; checks = k.counted.checks };
    freed = k.freed;
    maps = k.maps;
    read = k.read;
    boxes = k.boxes;
    few = k.few;
    slots = k.slots;
    pulled = found_pulled (line_past v) v.words.view.steps s f ground k.pulled;
    ported = looks_beside (line_past v) v.ports.view.steps (Pull s f) (λ stream slot frame is. absurd (cc)) (λ stream frame is. absurd (cc)) k.ported;
    stored = k.stored;
    acts = (k.acts.0, k.acts.1, entry_acts (Pull s f) (line_past v) (Pull s f ∷ line_past v) tt refl k.acts.0 (acted v) refl k.acts.2);
  }

  -- a pull changes nothing of what a line keeps
  pub keeps_pull : (published : M → List (List ℕ)) (v : LineView E M) (s : ℕ) (owed : Option Frame) (conn : Connection)
      (out : List ℕ) (came : Pulled) →
      Pulls s owed v.channel.conn conn v.channel.out out came →
      ((f : Frame) → conn ≡ with_entries (Pull s f ∷ []) v.channel.conn → IsGrounded v f) → KeepsLine published v →
      KeepsLine published (with_pull v conn out)
  keeps_pull published v s None conn out came did ground k =
      subst (λ (c : Connection). KeepsLine published (with_pull v c out)) (sym did.same) (keeps_same published v out k)
  keeps_pull published v s (Some f) conn out came did ground k =
      subst (λ (c : Connection). KeepsLine published (with_pull v c out)) (sym did.entry)
      (keeps_entry published v out s f (ground f did.entry) k)

  -- nor does a reading of the own map
  pub keeps_own : (published : M → List (List ℕ)) (v : LineView E M) (own : Own) (words : MeterSeat) (read : Bool) →
      IsRefresh v.own own v.words words read → AddsNothing v.words.view words.view → KeepsLine published v →
      KeepsLine published (with_own v own words)
  keeps_own published v own words read r nothing k = record {
    taken = k.taken;
    cuts = k.cuts;
    put = k.put;
    counted = counted_for_steps (line_past v) v.words.view words.view (λ slot small. nothing (put_word slot))
        (ap (λ (h : MeterSeat). h.view.checks) r.steps) k.counted;
    freed = λ slot small. ap (λ n. n + freed_bytes_of slot v.channel.conn) (nothing (freed_word slot)) ∙ k.freed slot small;
    maps = k.maps;
    read = refreshed v.own own v.words words read r k.read;
    boxes = k.boxes;
    few = k.few;
    slots = k.slots;
    pulled =
        found_still (line_past v) v.words.view.steps words.view.steps (_, ap (λ (h : MeterSeat). h.view.steps) r.steps) k.pulled;
    ported = k.ported;
    stored = refresh_stores r k.stored;
    acts = (k.acts.0, k.acts.1, act.reads r k.acts.2);
  }

  -- and where no word was loaded, it is the map that it was
  pub pulled_own : (v : LineView E M) (own : Own) (words : MeterSeat) (noted read : Bool) →
      IsRefresh v.own own v.words words read → read ≡ false → IsPulled noted v → IsPulled noted (with_own v own words)
  pulled_own v own words noted read r none was is s on = was is s on ∙ ap Some (sym (r.same none).2)

  -- what the line is over both
  pub pull_stays : {Name : Type 0} (m : Means E) (pair : M → Name) (v : LineView E M) (own : Own) (words : MeterSeat)
      (read : Bool) (conn : Connection) (out : List ℕ) →
      IsRefresh v.own own v.words words read → LeavesConn v.channel.conn conn →
      LineStays m pair v (with_pull (with_own v own words) conn out)
  pull_stays m pair v own words read conn out r leaves = record {
    channel = record {
      me = leaves.me;
      peer = leaves.peer;
      slots = leaves.slots;
      limit = leaves.limit;
      past = leaves.past;
      streams = streams_same m v.channel.streams;
      cuts = same_list v.channel.cuts.numbers;
    };
    mail = refl;
    told = refl;
    joined = refl;
    got = same_list v.orders.got;
    boxes = boxes_same v.boxes;
    ports = refl;
    port_view = refl;
    looks = same_list v.ports.view.steps;
    always = λ telling was. was;
    words = ap (λ (h : MeterSeat). h.table) r.steps;
    slot = ap (λ (h : MeterSeat). h.slot) r.steps;
    meter_view =
        same_view v.words.view words.view v.words.view.checks (v.words.view.steps ++ Loaded change_word r.number ∷ loads_from 0 r.words)
        (ap (λ (h : MeterSeat). h.view) r.steps);
    steps = (_, ap (λ (h : MeterSeat). h.view.steps) r.steps);
    acts = leaves.acts (acted v) (acted (with_own v own words)) refl (act.reads r act.nothing);
    map = refl;
  }

  -- The own map was read or looked at, and nothing else changed. Where it is noted as pulled, it is the one that was pulled last.
  pub record ReadsOwn (noted : Bool) (old new : LineView E M) : Type 0 where
    pub read : Bool
    pub refresh : IsRefresh old.own new.own old.words new.words read
    pub is : new ≡ with_own old new.own new.words
    pub behind : IsPulled noted new
    pub bits : HasBits new.own.map

  pub reads_of : (noted : Bool) (old middle new : LineView E M) → new ≡ middle → middle ≡ with_own old middle.own middle.words →
      (read : Bool) × IsRefresh old.own middle.own old.words middle.words read → HasBits middle.own.map → IsPulled noted new →
      ReadsOwn noted old new
  reads_of noted old middle new same is r bits behind =
      subst (λ (v : LineView E M). IsPulled noted v → ReadsOwn noted old v) (sym same)
      (λ known. record { read = r.0; refresh = r.1; is = is; behind = known; bits = bits }) behind
