-- What a connection keeps where freed bytes are handed out, and what it tells of the bytes that are left.
use Rattle.std.proofs.Common.{◌≡◌, ℕ, ◌-◌, ◌<◌, ◌≤◌, List, length, sum, get_or, sym, ◌∙◌, ap, subst, arith}
use Rattle.std.specs.Prelude.{slice_set}
use Rattle.std.proofs.lemmas.List.{length-set}
use Rattle.std.proofs.lemmas.List.Sums.{sum_by-set}
use Rattle.rds_conn.specs.declared.conn.Conn.TheInside.{Inside}
use Rattle.rds_conn.specs.declared.freed.Freed.{Freed}
use Rattle.rds_conn.specs.Freeing.{HandsOutFreed}
use Rattle.rds_conn.specs.Invariant.{ConnectionInvariant, IsCharged}
use Rattle.rds_model.specs.Alive.{alive_bytes}
use Rattle.rds_conn.proofs.Bounds.{accepted_within}
use Rattle.rds_conn.proofs.Charging.{charged_after_taken, left_within}
use Rattle.rds_conn.proofs.ReleasedBytes.{left_alive}

-- no more than is held is handed out
handed_within : (old new : List ℕ) (f : Freed) → HandsOutFreed old new f → f.bytes ≤ get_or old f.slot 0
handed_within old new f out = (let all = out.all in omega (arith, all))

pub keeps_taken : (c : Inside) (freed : List ℕ) (f : Freed) → ConnectionInvariant c → HandsOutFreed c.freed freed f →
    ConnectionInvariant (record c { freed = freed; charges = slice_set c.charges f.slot (get_or c.charges f.slot 0 - f.bytes) })
keeps_taken c freed f keeps out =
    let less : List ℕ = slice_set c.freed f.slot (get_or c.freed f.slot 0 - f.bytes) in
    let wide = keeps.freed.slots_are in
    record {
      whole = keeps.whole;
      room = keeps.room;
      pong = keeps.pong;
      newest = keeps.newest;
      stream = keeps.stream;
      counted = keeps.counted;
      linked = keeps.linked;
      reading = keeps.reading;
      stored = keeps.stored;
      freed = record {
        slots_are = ap length out.rest ∙ length-set c.freed f.slot (get_or c.freed f.slot 0 - f.bytes) ∙ wide;
        bounded =
            let sums = ap sum out.rest in
            let change = sum_by-set (λ x. x) c.freed f.slot (get_or c.freed f.slot 0 - f.bytes) 0 out.slot_is in
            omega (arith, sums, change, keeps.freed.bounded);
      };
      charged = subst (λ xs. IsCharged c.store.messages xs (slice_set c.charges f.slot (get_or c.charges f.slot 0 - f.bytes)) c.slots) (sym out.rest)
          (charged_after_taken c.store.messages c.freed c.charges c.slots f.slot f.bytes wide (let own = out.slot_is in omega (arith, wide, own))
          (handed_within c.freed freed f out) keeps.charged);
    }

-- what is charged to a slot and not freed is alive
pub record TellsAlive (c : Inside) (slot : ℕ) : Type 0 where
  pub alive : get_or c.charges slot 0 - get_or c.freed slot 0 ≡ alive_bytes slot c.journal.past
  pub most : get_or c.charges slot 0 - get_or c.freed slot 0 ≤ 4503599627370496

pub tells_alive : (c : Inside) (slot : ℕ) → ConnectionInvariant c → slot < c.slots → TellsAlive c slot
tells_alive c slot keeps own =
    let each = keeps.charged.each slot own in
    let left = left_alive slot c.journal.past c.store.messages keeps.stored.holds.alive in
    let short = left_within slot c.store.messages in
    let few = accepted_within c.journal.past in
    let room = keeps.room in
    record {
      alive = omega (arith, each, left);
      most = omega (arith, each, short, keeps.freed.bounded, few, room.within, room.most);
    }
