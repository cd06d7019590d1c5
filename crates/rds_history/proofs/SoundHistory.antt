-- After all commands of a script in range every two hosts stand to each other as they should.
use Rattle.std.proofs.Common.{arith, ◌≡◌, ◌≢◌, ℕ, ◌<◌, ◌≤◌, ◌^◌, Some, Ok, List, [], map, refl, ◌∙◌, ap, sym, ◌++◌, subst}
use Rattle.std.specs.Prelude.{All}
use Rattle.rds_model.specs.declared.entry.Entry.{Entry}
use Rattle.rds_model.specs.declared.order.Datagram.{Datagram}
use Rattle.rds_model.specs.Honest.{IsHonest}
use Rattle.rds_model.specs.Legal.{IsLegal}
use Rattle.rds_model.specs.Pairs.{IsDeliveredOnce}
use Rattle.rds_script.specs.declared.script.Script.{Script}
use Rattle.rds_script.specs.Script.{IsScript}
use Rattle.rds_history.specs.Events.{Event}
use Rattle.rds_history.specs.History.{history}
use Rattle.rds_history.specs.InOrder.{HandsOutInOrder}
use Rattle.rds_history.specs.Journals.{journal}
use Rattle.rds_history.specs.Sockets.{handed_out, queue}
use Rattle.rds_history.specs.Sound.{IsHandedOut, IsReportedInOrder, IsSoundBetween, IsSoundPast, WasSentTo, of_ports}
use Rattle.rds_history.proofs.EventInvariants.{Holds}
use Rattle.rds_history.proofs.InOrder.{in_order_history}
use Rattle.rds_history.proofs.JoinedReads.{HonestLaws}
use Rattle.rds_history.proofs.PastEnds.{Keeps}
use Rattle.rds_history.proofs.PastCommands.{keeps_history}
use Rattle.rds_history.proofs.HandedOut.{agrees_past}
use Rattle.rds_history.proofs.OnlySent.{all_sent}
use Rattle.rds_history.proofs.Reported.{reported_in_order}
use Rattle.rds_history.proofs.SlotOrder.{InSlotOrder, slot_order_history}

-- nothing has happened
pub keeps_nothing : (hosts : ℕ) → Keeps hosts []
keeps_nothing hosts = record {
  joined = λ h k apart. record {
    whole_here = record { legal = tt; settled = refl };
    whole_there = record { legal = tt; settled = refl };
    streams = refl;
    newest = refl;
    forth = record { begins = λ s. ([], refl); way = λ s is. cc; acked = omega arith };
    back = record { begins = λ s. ([], refl); way = λ s is. cc; acked = omega arith };
  };
  own = λ h. refl;
  beyond = λ h k far. refl;
  slots = λ h port slot is. cc;
}

-- the headline over two journals
abbrev pub Headline : Type 0
Headline = (a b : List Entry) → IsLegal a → IsLegal b → IsHonest a b → (sport dport : ℕ) → IsDeliveredOnce sport dport a b

module _ (headline : Headline) (hosts : ℕ) (past : List Event) (keeps : Keeps hosts past) where
  pub honest : (h k : ℕ) → h ≢ k → IsHonest (journal h k past) (journal k h past)
  honest h k apart =
      let joined = keeps.joined h k apart in
      record { forth = joined.forth.begins; back = joined.back.begins }

  pub once : (h k : ℕ) → h ≢ k → (sport dport : ℕ) → IsDeliveredOnce sport dport (journal h k past) (journal k h past)
  once h k apart =
      let joined = keeps.joined h k apart in
      headline (journal h k past) (journal k h past) joined.whole_here.legal joined.whole_there.legal (honest h k apart)

module _ (headline : Headline) (hosts : ℕ) (past : List Event) (keeps : Keeps hosts past) (in_order : (k slot : ℕ) → HandsOutInOrder k slot past) (slot_order : InSlotOrder past) where
  -- what the sockets hand out
  shown : (h k : ℕ) → h ≢ k → (sport dport slot : ℕ) → IsHandedOut h sport k dport slot past
  shown h k apart sport dport slot =
      ap (λ (ds : List Datagram). map (λ (d : Datagram). Some d) (of_ports h sport dport ds)) (in_order k slot)
      ∙ agrees_past h sport k dport slot (journal h k past) past (once headline hosts past keeps h k apart sport dport).bytes

  sound_between : HonestLaws → (h k : ℕ) → h ≢ k → IsSoundBetween h k past
  sound_between laws h k apart = record {
    legal_here = (keeps.joined h k apart).whole_here;
    legal_there = (keeps.joined h k apart).whole_there;
    honest = honest headline hosts past keeps h k apart;
    fifo =
        (laws (journal h k past) (journal k h past) (keeps.joined h k apart).whole_here.legal (keeps.joined h k apart).whole_there.legal
        (honest headline hosts past keeps h k apart)).1.0;
    reliable = λ sport dport. record {
      once = once headline hosts past keeps h k apart sport dport;
      handed_out = shown h k apart sport dport;
      by_slot = (slot_order k h sport dport).by_slot;
    };
  }

  -- what the report prints of a port pair
  reported : (h k : ℕ) → k < hosts → h ≢ k → (sport dport : ℕ) → IsReportedInOrder hosts h sport k dport past
  reported h k known apart sport dport =
      reported_in_order hosts h sport k dport past known (slot_order k h sport dport).by_slot
      (once headline hosts past keeps h k apart sport dport).rise (shown h k apart sport dport)

  -- what a socket hands out, or will, was sent by another host
  handed_out_was_sent : (k slot : ℕ) → All (WasSentTo hosts k past) (handed_out k slot past ++ queue k slot past)
  handed_out_was_sent k slot =
      subst (All (WasSentTo hosts k past)) (sym (in_order k slot))
      (all_sent hosts k slot past (λ h far. keeps.beyond h k far) past (record { others = λ h apart. (once headline hosts past keeps h k apart 0 0).bytes; own = keeps.own k }))

pub sound_history : Headline → HonestLaws → (script : Script) (limit : ℕ) (past : List Event) → IsScript script → limit ≤ 2 ^ 63 →
    history limit script.hosts script.commands.items [] ≡ Ok past → IsSoundPast script.hosts past
sound_history headline laws script limit past is small came =
    let keeps : Keeps script.hosts past =
    subst (Holds (Keeps script.hosts)) came (keeps_history script.hosts laws limit small script.commands.items [] is.each (keeps_nothing script.hosts)) in
    let in_order : (host slot : ℕ) → HandsOutInOrder host slot past = λ host slot. in_order_history limit script.hosts script.commands.items past host slot came in
    let slot_order : InSlotOrder past = slot_order_history limit script.hosts script.commands.items past came in
    record {
      between = λ h k known_h known_k apart. sound_between headline script.hosts past keeps in_order slot_order laws h k apart;
      all_sent = handed_out_was_sent headline script.hosts past keeps in_order slot_order;
      reported = λ h k known_h known_k apart. reported headline script.hosts past keeps in_order slot_order h k known_k apart;
    }
