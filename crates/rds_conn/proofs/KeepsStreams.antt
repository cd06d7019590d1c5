-- What a connection keeps where a stream is opened, or comes to its end.
use Rattle.std.proofs.Common.{◌≡◌, inl, ℕ, ◌+◌, ◌-◌, ◌*◌, ◌<◌, ◌≤◌, false, Option, Some, None, List, [], ◌∷◌, length, sum, sum_by, refl, sym, ◌∙◌, ap, subst, arith, length-append}
use Rattle.std.specs.Option.{MatchOption}
use Rattle.rds_wire.specs.declared.frame.Frame.{Frame}
use Rattle.rds_wire.specs.declared.header.Header.{Header}
use Rattle.rds_wire.specs.declared.kind.Malformed.{Malformed}
use Rattle.rds_wire.specs.declared.kind.TheConstants.{MAX_LENGTH}
use Rattle.rds_wire.specs.Bytes.{header_bytes}
use Rattle.rds_wire.specs.HeaderLaws.{length-header_bytes}
use Rattle.rds_frame.specs.Holding.{nothing_held}
use Rattle.rds_frame.specs.Splitting.{IsClear}
use Rattle.rds_model.specs.declared.entry.Entry.{Entry}
use Rattle.rds_model.specs.declared.entry.Entry.TheVariants.{Open, Shut, Bad}
use Rattle.rds_model.specs.Log.{Log}
use Rattle.rds_model.specs.Past.{accepted, open_stream, newest_stream}
use Rattle.rds_model.specs.Legal.{IsWhole, IsLawful, IsLawfulBad, IsPong, pong_to}
use Rattle.rds_model.specs.Store.{HoldsMessages, due_on}
use Rattle.rds_msgs.specs.Messages.{StoreView, bytes_of}
use Rattle.rds_conn.specs.declared.conn.Conn.TheInside.{Inside}
use Rattle.rds_conn.specs.Invariant.{ConnectionInvariant, HasRoom, IsCounted, IsReading}
use Rattle.rds_conn.proofs.MessagesHeld.{holds_all, due_after_open}
use Rattle.rds_conn.proofs.Untouched.{untouched}

-- a lawful entry makes a whole journal longer
pub whole_with : (e : Entry) (past : List Entry) → IsWhole past → IsLawful past e → pong_to (e ∷ past) ≡ None → IsWhole (e ∷ past)
whole_with e past whole lawful settled =
    record {
      legal = (subst (λ o. MatchOption o (IsLawful past e) (λ port. IsPong past port e)) (sym whole.settled) lawful, whole.legal);
      settled = settled;
    }

-- one entry more takes one of the room
pub room_once : (e : Entry) (log : Log) (spare : ℕ) (store : StoreView) (store_spare : ℕ) → 1 ≤ spare → HasRoom log spare store store_spare →
    HasRoom (record log { past = e ∷ log.past; spare = log.spare - 1 }) (spare - 1) store store_spare
room_once e log spare store store_spare some room = record {
  entries = omega (arith, room.entries);
  within = omega (arith, room.entries, room.within);
  most = room.most;
  messages = room.messages;
}

-- where nothing was taken, no header is faulty
nothing_clear : (top : ℕ) → IsClear top 0 []
nothing_clear top h more fits is =
    absurd (let len = ap length is in let whole = length-header_bytes h fits in omega (arith, len, whole, length-append (header_bytes h) more))

pub reading_nothing : (stream : Option ℕ) (top : ℕ) → IsReading stream top nothing_held
reading_nothing stream top = record {
  held = record { waiting = tt; refused = tt; partial = λ _ _. inl (omega arith) };
  clear = nothing_clear top;
  still_open = refl;
  idle = λ _. refl;
}

pub keeps_open : (c : Inside) (s : ℕ) → ConnectionInvariant c → 1 ≤ c.spare → open_stream c.journal.past ≡ None → newest_stream c.journal.past < s →
    ConnectionInvariant (record c {
      journal = record c.journal { past = Open s ∷ c.journal.past; spare = c.journal.spare - 1 };
      spare = c.spare - 1;
      newest = s;
      stream = Some s;
      mapped = false;
      asking = record { unasked = 0; bytes = 0; is_asked = false; must_ask = false };
    })
keeps_open c s keeps some closed newer =
    let past : List Entry = c.journal.past in
    let new = untouched past keeps.whole.legal s newer in
    record {
      whole = whole_with (Open s) past keeps.whole (closed, newer) refl;
      room = room_once (Open s) c.journal c.spare c.store c.store_spare some keeps.room;
      pong = keeps.pong;
      newest = refl;
      stream = refl;
      counted = record { accepted_is = keeps.counted.accepted_is; highest_is = keeps.counted.highest_is; last_is = keeps.counted.last_is };
      linked = record {
        map_is = new.map;
        asked = record { count = sym (ap length new.unasked); bytes = sym (ap (sum_by (λ (f : Frame). f.header.len)) new.unasked); asked = sym new.asked; must = sym new.must };
      };
      reading = record { held = keeps.reading.held; clear = keeps.reading.clear; still_open = keeps.reading.still_open; idle = λ e. cc };
      stored = record {
        holds = record {
          alive = keeps.stored.holds.alive;
          unpulled = keeps.stored.holds.unpulled ∙ ap (λ o. due_on o past) closed ∙ sym (due_after_open s past new);
        };
        marked = keeps.stored.marked;
        slots_are = keeps.stored.slots_are;
        few = keeps.stored.few;
      };
      freed = record { slots_are = keeps.freed.slots_are; bounded = keeps.freed.bounded };
      charged = keeps.charged;
    }

-- the end of the open stream, by this entry
pub keeps_end : (c : Inside) (e : Entry) → ConnectionInvariant c → 1 ≤ c.spare →
    IsLawful c.journal.past e → pong_to (e ∷ c.journal.past) ≡ None → open_stream (e ∷ c.journal.past) ≡ None →
    ((store : StoreView) → HoldsMessages store.messages store.mark c.journal.past → HoldsMessages store.messages 0 (e ∷ c.journal.past)) →
    IsCounted (e ∷ c.journal.past) c.accepted c.highest c.last → accepted (e ∷ c.journal.past) ≡ accepted c.journal.past →
    newest_stream (e ∷ c.journal.past) ≡ newest_stream c.journal.past →
    ConnectionInvariant (record c {
      journal = record c.journal { past = e ∷ c.journal.past; spare = c.journal.spare - 1 };
      spare = c.spare - 1;
      stream = None;
      splitter = nothing_held;
      store = record c.store { mark = 0 };
    })
keeps_end c e keeps some lawful settled ended holds counted same same_newest =
    record {
      whole = whole_with e c.journal.past keeps.whole lawful settled;
      room = room_once e c.journal c.spare (record c.store { mark = 0 }) c.store_spare some
          (record { entries = keeps.room.entries; within = keeps.room.within; most = keeps.room.most; messages = keeps.room.messages });
      pong = keeps.pong;
      newest = keeps.newest ∙ sym same_newest;
      stream = sym ended;
      counted = counted;
      linked = tt;
      reading = reading_nothing None c.highest;
      stored = record {
        holds = holds c.store keeps.stored.holds;
        marked = omega arith;
        slots_are = keeps.stored.slots_are;
        few = keeps.stored.few;
      };
      freed = record { slots_are = keeps.freed.slots_are; bounded = subst (λ n. sum c.freed + bytes_of c.store.messages ≤ MAX_LENGTH * n) (sym same) keeps.freed.bounded };
      charged = keeps.charged;
    }

pub keeps_shut : (c : Inside) (s : ℕ) → ConnectionInvariant c → 1 ≤ c.spare → open_stream c.journal.past ≡ Some s →
    ConnectionInvariant (record c {
      journal = record c.journal { past = Shut s ∷ c.journal.past; spare = c.journal.spare - 1 };
      spare = c.spare - 1;
      stream = None;
      splitter = nothing_held;
      store = record c.store { mark = 0 };
    })
keeps_shut c s keeps some on =
    keeps_end c (Shut s) keeps some on refl refl
    (λ store holds. holds_all (Shut s ∷ c.journal.past) store.messages holds.alive refl)
    (record { accepted_is = keeps.counted.accepted_is; highest_is = keeps.counted.highest_is; last_is = keeps.counted.last_is }) refl refl

pub keeps_bad : (c : Inside) (s : ℕ) (h : Header) (fault : Malformed) → ConnectionInvariant c → 1 ≤ c.spare → IsLawfulBad s c.journal.past h fault →
    ConnectionInvariant (record c {
      journal = record c.journal { past = Bad s h fault ∷ c.journal.past; spare = c.journal.spare - 1 };
      spare = c.spare - 1;
      stream = None;
      splitter = nothing_held;
      store = record c.store { mark = 0 };
    })
keeps_bad c s h fault keeps some lawful =
    keeps_end c (Bad s h fault) keeps some lawful refl refl
    (λ store holds. holds_all (Bad s h fault ∷ c.journal.past) store.messages holds.alive refl)
    (record { accepted_is = keeps.counted.accepted_is; highest_is = keeps.counted.highest_is; last_is = keeps.counted.last_is }) refl refl
