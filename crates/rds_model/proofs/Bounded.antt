-- How many entries two journals have: each entry is an order, a pong, an opening, an ending, a pull or a reading.
use Rattle.std.proofs.Common.{◌≡◌, ℕ, suc, ◌+◌, ◌*◌, ◌≤◌, ◌==◌, ◌&&◌, not, Bool, true, false, cond, List, [], ◌∷◌, ◌++◌, length, length-append, refl, arith}
use Rattle.std.proofs.Math.Nat.{mul-add, mul_left_comm, mul-le-mul_left}
use Rattle.rds_model.specs.declared.entry.Entry.{Entry}
use Rattle.rds_model.specs.declared.entry.Entry.TheVariants.{Accept, Cancel, Open}
use Rattle.rds_model.specs.declared.entry.TheConstants.{NO_SLOT}
use Rattle.rds_model.specs.declared.order.Order.{Order}
use Rattle.rds_model.specs.declared.order.Order.TheVariants as order
use Rattle.rds_model.specs.Past.{accepted, is_datagram, open_stream}
use Rattle.rds_model.specs.Owed.{asks, answers_kind, wants_answer}
use Rattle.rds_wire.specs.Kinds.{kind_of}
use Rattle.rds_model.specs.Sums.{cancellation, orders, opens, endings}
use Rattle.rds_model.specs.Bounded.{map_pulls, most_entries, IsBounded}
use Rattle.rds_model.specs.SumLaws.{opens_ended}
use Rattle.rds_model.specs.Legal.{IsLegal}
use Rattle.rds_model.proofs.Matching.{ArePeers, other_way}
use Rattle.rds_model.proofs.Counts.{bit, count, pulled, read, pulls_within}
use Rattle.rds_model.proofs.FewReads.{few_read}
use Rattle.rds_model.proofs.FewPulls.{few_asking, few_plain, by_kinds}
use Rattle.rds_model.proofs.FewDatagrams.{few_datagrams}
use Rattle.rds_model.proofs.FewPongs.{is_pong, is_send, few_pongs}
use Rattle.rds_model.proofs.FewMaps.{map_pulls_are}

-- an acceptance is an order, or that of a pong
accepted_bits : (b : Bool) (taken : List Order) (e : Order) → suc (length taken) ≡ length (cond b taken (taken ++ e ∷ [])) + bit b
accepted_bits true taken e = omega arith
accepted_bits false taken e = omega (arith, length-append taken (e ∷ []))

-- each entry once
parts : (past : List Entry) →
    length past ≡ length (orders past) + count is_pong past + length (opens past) + endings past + pulled (λ f. true) past + read (λ f. true) past
parts [] = omega arith
parts (Accept slot sport dport payload ∷ past) =
    omega (arith, parts past, accepted_bits (slot == NO_SLOT) (orders past) (order.Send slot sport dport payload))
parts (Cancel slot target ∷ past) = omega (arith, parts past, length-append (orders past) (cancellation slot target ∷ []))
parts (Open stream ∷ past) = omega (arith, parts past, length-append (opens past) (stream ∷ []))
parts (_ ∷ past) = omega (arith, parts past)

socket_bits : (b : Bool) → 1 ≡ bit (not b) + bit b
socket_bits true = omega arith
socket_bits false = omega arith

acceptances : (past : List Entry) → accepted past ≡ count is_send past + count is_pong past
acceptances [] = omega arith
acceptances (Accept slot sport dport payload ∷ past) = omega (arith, acceptances past, socket_bits (slot == NO_SLOT))
acceptances (_ ∷ past) = omega (arith, acceptances past)

few_sends : (past : List Entry) → count is_send past ≤ length (orders past)
few_sends [] = omega arith
few_sends (Accept slot sport dport payload ∷ past) =
    omega (
      arith,
      few_sends past,
      socket_bits (slot == NO_SLOT),
      accepted_bits (slot == NO_SLOT) (orders past) (order.Send slot sport dport payload),
    )
few_sends (Cancel slot target ∷ past) = omega (arith, few_sends past, length-append (orders past) (cancellation slot target ∷ []))
few_sends (_ ∷ past) = omega (arith, few_sends past)

few_endings : (past : List Entry) → IsLegal past → endings past ≤ length (opens past)
few_endings past legal = omega (arith, opens_ended past legal (open_stream past) refl)

-- what one end pulls and reads, by the datagrams of both
record AreFew (a b : List Entry) : Type 0 where
  pulls : pulled (λ f. true) a ≤ map_pulls a + pulled is_datagram a + pulled is_datagram a + pulled is_datagram b
  reads : read (λ f. true) a ≤ pulled (λ f. true) b
  pongs : count is_pong a ≤ length (orders b)

wants_bit : (a k : Bool) → bit (a && k) ≤ bit a
wants_bit true true = omega arith
wants_bit true false = omega arith
wants_bit false k = omega arith

few_of : (a b : List Entry) → ArePeers a b → AreFew a b
few_of a b peers =
    let back = other_way a b peers in
    record {
      pulls = omega (
        arith,
        by_kinds a,
        map_pulls_are a,
        few_asking a peers.legal_a,
        few_plain a peers.legal_a,
        few_read wants_answer b a back,
        pulls_within (λ s f. wants_answer f) (λ s f. asks f) (λ s f. wants_bit (asks f) (answers_kind (kind_of f.header))) b,
        few_asking b peers.legal_b,
      );
      reads = few_read (λ f. true) b a back;
      pongs = omega (arith, few_pongs b a back, few_sends b);
    }

few_accepted : (a b : List Entry) → ArePeers a b → accepted a ≤ length (orders a) + length (orders b)
few_accepted a b peers = omega (arith, acceptances a, few_sends a, (few_of a b peers).pongs)

-- the sum, by limits that multiply out
most_of : (o w m x y : ℕ) → x + y ≤ w → (n : ℕ) → n ≤ o + 2 * w + m + 3 * (o * x + o * y) → n ≤ most_entries o w m
most_of o w m x y within n below =
    omega (arith, below, mul-le-mul_left o within, mul-add o x y, mul-add o 1 (3 * w), mul_left_comm o 3 w)

pub bounded : (a b : List Entry) → ArePeers a b → IsBounded a b
bounded a b peers o w m orders_are opens_are maps_are =
    let back = other_way a b peers in
    let here = few_of a b peers in
    let there = few_of b a back in
    let data_here = few_datagrams o a peers.legal_a (omega (arith, few_accepted a b peers, orders_are)) in
    let data_there = few_datagrams o b peers.legal_b (omega (arith, few_accepted b a back, orders_are)) in
    most_of o w m (length (opens a)) (length (opens b)) opens_are (length a) (omega (
      arith,
      parts a,
      few_endings a peers.legal_a,
      here.pulls,
      here.reads,
      here.pongs,
      there.pulls,
      data_here,
      data_there,
      orders_are,
      opens_are,
      maps_are,
    ))
