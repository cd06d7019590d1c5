-- How many entries a full journal has.
use Rattle.std.proofs.Common.{◌≡◌, ◌≢◌, ◌+◌, ◌-◌, ◌*◌, ◌<◌, ◌≤◌, ℕ, suc, filter, [], ◌∷◌, inl, inr, List, true, length, refl, sym, subst, ◌∙◌, arith}
use Rattle.std.proofs.lemmas.Bool.{cases_lt, cond-false, cond-true, le-ltb, lt-ltb}
use Rattle.std.proofs.Math.Nat.{mul-le-mul_right}
use Rattle.std.specs.List.{All}
use Rattle.rds_model.specs.declared.entry.Entry.{Entry}
use Rattle.rds_model.specs.declared.journal.TheConstants.{MAX_ENTRIES}
use Rattle.rds_model.specs.Bounded.{IsBounded, map_pulls, most_entries}
use Rattle.rds_model.specs.Deliveries.{put_bytes}
use Rattle.rds_model.specs.Fifo.{IsFifo}
use Rattle.rds_model.specs.Honest.{IsHonest}
use Rattle.rds_model.specs.Legal.{IsLegal}
use Rattle.rds_model.specs.Sums.{opens, orders}
use Rattle.rds_model.specs.declared.order.Order.{Order}
use Rattle.rds_script.specs.Script.{payload_len}
use Rattle.rds_script.specs.declared.script.Command.{Command}
use Rattle.rds_script.specs.declared.script.Placed.{Placed}
use Rattle.rds_run_hosts.specs.Streams.{cuts_between, streams_between}
use Rattle.rds_run_rounds.specs.Grid.{peer_at}
use Rattle.rds_run_threads.specs.Causes.{IsFullJournal, IsOfCommands}
use Rattle.rds_run_laws.specs.Few.{is_own, own_commands}
use Rattle.rds_run_laws.specs.Put.{own_sum}
use Rattle.rds_run_laws.specs.Weights.{Weight, by_length, accepted_sum, orders_sum, passed_sum}
use Rattle.rds_run_laws.proofs.Weighing.{order_bytes, orders_weigh, own_weigh, weigh, weight_of}
use Rattle.rds_run_laws.proofs.Doing.{IsWeighed, asked_of_done, own_weight}
use Rattle.rds_run_laws.proofs.Reaching.{accepted_ordered, delivered_passed}
use Rattle.rds_run_laws.proofs.Standing.{few_of_two, few_standing}

-- the place of a peer in its host's row
pub place_of : (hosts host peer : ℕ) → host < hosts → peer < hosts → peer ≢ host → (place : ℕ) × (suc place < hosts) × (peer_at host place ≡ peer)
place_of hosts host peer known also apart =
    elim (cases_lt peer host) [
      | inl low ↦ (peer, omega (arith, low, known), cond-true _ _ _ (lt-ltb peer host low))
      | inr high ↦
          let more : host < peer = omega (arith, high, apart) in
          let next : suc (peer - 1) ≡ peer = omega (arith, more) in
          (peer - 1, omega (arith, more, also), cond-false _ _ _ (le-ltb (peer - 1) host (omega (arith, more))) ∙ next)
    ]

-- by the weights of orders and of commands
pub standing_weigh : (w : Order → ℕ) (c : Command → ℕ) → IsWeighed w c → (hosts host peer : ℕ) (commands : List Placed) (past : List Entry) → host < hosts →
    peer < hosts → peer ≢ host → IsOfCommands hosts host peer commands past → weigh w (orders past) ≤ own_weight c host commands
standing_weigh w c weighed hosts host peer commands past known also apart of =
    let way = place_of hosts host peer known also apart in
    few_standing w way.0 (own_weight c host commands) of.last past (asked_of_done w c weighed way.0 hosts host commands of.last of.done way.1)
    (λ slot p lane at at_lane. of.sent way.0 way.2 slot p lane at at_lane) of.none_else

-- each order weighs one, and so does each command
each_one : (xs : List Placed) → weight_of (λ x. 1) xs ≡ length xs
each_one [] = refl
each_one (x ∷ xs) = let rest = each_one xs in omega (arith, rest)

weigh_one : (list : List Order) → weigh (λ x. 1) list ≡ length list
weigh_one [] = refl
weigh_one (x ∷ list) = let rest = weigh_one list in omega (arith, rest)

pub orders_are_few : (hosts host peer : ℕ) (commands : List Placed) (past : List Entry) → host < hosts → peer < hosts → peer ≢ host →
    IsOfCommands hosts host peer commands past → length (orders past) ≤ own_commands host commands
orders_are_few hosts host peer commands past known also apart of =
    let light : IsWeighed (λ x. 1) (λ x. 1) =
    record {
      send = λ _ _ _ _ _ _ _. omega arith;
      cancel = λ _ _ _ _ _. omega arith;
      close = λ _ _ _. omega arith;
      cut = λ _ _. omega arith;
    } in
    let all = standing_weigh (λ x. 1) (λ x. 1) light hosts host peer commands past known also apart of in
    let count = weigh_one (orders past) in
    let own = each_one (filter (is_own host) commands) in
    omega (arith, all, count, own)

-- an order has the bytes of the command that puts it
pub bytes_are_few : (hosts host peer : ℕ) (commands : List Placed) (past : List Entry) → host < hosts → peer < hosts → peer ≢ host →
    IsOfCommands hosts host peer commands past → orders_sum by_length (orders past) ≤ own_sum by_length host commands
bytes_are_few hosts host peer commands past known also apart of =
    let light : IsWeighed order_bytes payload_len =
    record {
      send = λ _ _ _ _ _ _ _. omega arith;
      cancel = λ _ _ _ _ _. omega arith;
      close = λ _ _ _. omega arith;
      cut = λ _ _. omega arith;
    } in
    let all = standing_weigh order_bytes payload_len light hosts host peer commands past known also apart of in
    let stand = orders_weigh (orders past) in
    let own = own_weigh host commands in
    omega (arith, all, stand, own)

module _ (bounds : (a b : List Entry) → IsLegal a → IsLegal b → IsHonest a b → IsBounded a b × IsBounded b a)
    (streams : (highest : ℕ) (past : List Entry) → IsLegal past → All (λ s. s ≤ highest) (opens past) → length (opens past) ≤ highest) where
  pub entries_are_few : (limit hosts host peer entries : ℕ) (commands : List Placed) (own other : List Entry) →
      IsFullJournal true limit hosts commands host peer entries own other →
      entries ≤ most_entries (length commands) (2 * streams_between host peer commands) (map_pulls own + map_pulls other)
  entries_are_few limit hosts host peer entries commands own other full =
      let mine = orders_are_few hosts host peer commands own full.host_known full.peer_known full.apart full.own_sent in
      let its = orders_are_few hosts peer host commands other full.peer_known full.host_known (λ same. full.apart (sym same)) full.other_sent in
      let all = few_of_two host peer commands full.apart in
      let first = streams (streams_between host peer commands) own full.sound.low_legal.legal full.own_opened in
      let second = streams (streams_between host peer commands) other full.sound.high_legal.legal full.other_opened in
      let bound = (bounds own other full.sound.low_legal.legal full.sound.high_legal.legal (full.sound.honest refl)).0 in
      let count = full.count in
      let at_most = bound (length commands) (2 * streams_between host peer commands) (map_pulls own + map_pulls other)
      (omega (arith, mine, its, all)) (omega (arith, first, second)) (omega arith) in
      subst (λ (n : ℕ). n ≤ most_entries (length commands) (2 * streams_between host peer commands) (map_pulls own + map_pulls other)) count at_most

-- by the limits of a script
few_by_limits : (o w m : ℕ) → o ≤ 200000 → w ≤ 2054 → most_entries o w m ≤ 1232604108 + m
few_by_limits o w m few less =
    let one : o * (1 + 3 * w) ≤ 200000 * (1 + 3 * w) = mul-le-mul_right (1 + 3 * w) few in
    omega (arith, one, less)

pub many_maps : (hosts host peer entries : ℕ) (commands : List Placed) (own other : List Entry) →
    IsFullJournal true MAX_ENTRIES hosts commands host peer entries own other →
    entries ≤ most_entries (length commands) (2 * streams_between host peer commands) (map_pulls own + map_pulls other) →
    length commands ≤ 200000 → cuts_between host peer commands ≤ 1024 → 3000000000 < map_pulls own + map_pulls other
many_maps hosts host peer entries commands own other full few lines cuts =
    let all = few_by_limits (length commands) (2 * streams_between host peer commands) (map_pulls own + map_pulls other) lines (omega (arith, cuts)) in
    let most = full.most in
    omega (arith, few, all, most)

-- what one journal of a run delivers to a slot its peer's commands sent
pub few_delivered : ((weight : Weight) (a b : List Entry) → IsFifo a b → passed_sum weight b ≤ accepted_sum weight a) →
    (hosts host peer slot : ℕ) (commands : List Placed) (own other : List Entry) → host < hosts → peer < hosts → peer ≢ host → IsLegal other →
    IsFifo other own → IsOfCommands hosts peer host commands other → put_bytes slot own ≤ own_sum by_length peer commands
few_delivered few hosts host peer slot commands own other known also apart legal fifo of =
    let put = delivered_passed slot own in
    let passed = few by_length other own fifo in
    let accepted = accepted_ordered other legal in
    let sent = bytes_are_few hosts peer host commands other also known (λ same. apart (sym same)) of in
    omega (arith, put, passed, accepted, sent)
