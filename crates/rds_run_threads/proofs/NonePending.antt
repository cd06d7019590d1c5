-- Where no number is alive in the journals of any two hosts, each datagram of any port pair is accounted for, and none is pending.
use Rattle.std.proofs.Common.{◌≡◌, ◌≢◌, inl, inr, ℕ, zero, suc, ◌+◌, ◌-◌, ◌<◌, ◌≤◌, ◌==◌, Bool, true, false, cond, Some, List, [], ◌∷◌, All, length, map, option_map, slice_get, refl, sym, ap, subst, ◌∙◌, arith}
use Rattle.std.specs.List.{flat_map, range_with_len}
use Rattle.std.proofs.lemmas.Bool.{cases_lt, cond-false, cond-true, eq-eqb, ne_eqb}
use Rattle.std.proofs.lemmas.List.{length-map}
use Rattle.std.proofs.lemmas.List.Elements.{All-append, All-cons, All-nil}
use Rattle.std.proofs.lemmas.Option.{same_Some, slice_get-map, slice_get_within}
use Rattle.rds_model.specs.declared.entry.Entry.{Entry}
use Rattle.rds_model.specs.declared.entry.Entry.TheVariants.{Accept}
use Rattle.rds_model.specs.Alive.{alive_numbers}
use Rattle.rds_model.specs.Honest.{IsHonest}
use Rattle.rds_model.specs.Legal.{IsLegal}
use Rattle.rds_model.specs.Pairs.{IsAllAccounted}
use Rattle.rds_text.specs.FinalState.{FinalHost, FinalJournal, FinalSocket, past_of, past_with, sockets_of}
use Rattle.rds_text.specs.Hosts.{address_of}
use Rattle.rds_text.specs.Report.{Group, accepted_groups, ascending, counts, is_before, pending, with_group}
use Rattle.rds_run_rounds.specs.Grid.{IsAt, others, peer_at}
use Rattle.rds_script.specs.declared.script.Placed.{Placed}
use Rattle.rds_run_threads.specs.Ends.{AllAccountedWhereHonest, AreEnds, NonePending, NonePendingWhereHonest}
use Rattle.rds_run_threads.specs.Reliable.{AllWentToSockets, IsReliableTo}
use Rattle.rds_run_threads.proofs.Alive.{AreSilent}
use Rattle.rds_run_threads.proofs.At.{all_at, at_map, some_at}
use Rattle.rds_run_threads.proofs.Pending.{counts_by, none_left, pair_of}
use Rattle.rds_run_threads.proofs.Rows.{peer_after, peer_before, peers_ascend}

-- what holds of all pairs holds of them in order
all_with : (P : Group → Type 0) (g : Group) (groups : List Group) → P g → All P groups → All P (with_group g groups)
all_with P g [] here all = All-cons P g [] here all
all_with P g (b ∷ groups) here all = go (all_with P g groups here (λ i d within. all (suc i) d (omega (arith, within)))) (is_before g b) (is_before b g)
  where
    first : P b
    first = all 0 b (omega arith)

    go : All P (with_group g groups) → (less more : Bool) → All P (cond less (g ∷ b ∷ groups) (cond more (b ∷ with_group g groups) (b ∷ groups)))
    go later true more = All-cons P g (b ∷ groups) here all
    go later false true = All-cons P b (with_group g groups) first later
    go later false false = all

all_ascending : (P : Group → Type 0) (groups : List Group) → All P groups → All P (ascending groups)
all_ascending P [] all = all
all_ascending P (g ∷ groups) all =
    all_with P g (ascending groups) (all 0 g (omega arith)) (all_ascending P groups (λ i d within. all (suc i) d (omega (arith, within))))

all_flat : {X Y : Type 0} (P : Y → Type 0) (f : X → List Y) (xs : List X) → ((i : ℕ) (x : X) → slice_get xs i ≡ Some x → All P (f x)) → All P (flat_map f xs)
all_flat P f [] each = All-nil P
all_flat P f (x ∷ xs) each = All-append P (f x) (flat_map f xs) (each 0 x refl) (all_flat P f xs (λ i y at. each (suc i) y at))

all_accepted : (P : Group → Type 0) (from to : ℕ) (past : List Entry) → ((sport dport : ℕ) → P (record { to = to; dport = dport; from = from; sport = sport })) →
    All P (accepted_groups from to past)
all_accepted P from to [] each = All-nil P
all_accepted P from to (Accept slot sport dport payload ∷ past) each =
    All-cons P (record { to = to; dport = dport; from = from; sport = sport }) (accepted_groups from to past) (each sport dport) (all_accepted P from to past each)
all_accepted P from to (_ ∷ past) each = all_accepted P from to past each

-- what is looked up by an address or a peer that no earlier one has
past_there : (sides : List FinalJournal) (i : ℕ) (side : FinalJournal) (peer : ℕ) → slice_get sides i ≡ Some side → side.peer ≡ peer →
    ((j : ℕ) (x : FinalJournal) → j < i → slice_get sides j ≡ Some x → x.peer ≢ peer) → past_with peer sides ≡ side.past
past_there [] i side peer at is first = absurd (cc)
past_there (s ∷ sides) zero side peer at is first =
    let same = same_Some s side at in
    cond-true (s.peer == peer) s.past (past_with peer sides) (eq-eqb s.peer peer (ap (λ (x : FinalJournal). x.peer) same ∙ is)) ∙ ap (λ (x : FinalJournal). x.past) same
past_there (s ∷ sides) (suc i) side peer at is first =
    cond-false (s.peer == peer) s.past (past_with peer sides) (ne_eqb s.peer peer (first 0 s (omega arith) refl))
    ∙ past_there sides i side peer at is (λ j x less at_x. first (suc j) x (omega (arith, less)) at_x)

host_there : (hosts : List FinalHost) (i : ℕ) (host : FinalHost) (addr : ℕ) → slice_get hosts i ≡ Some host → host.addr ≡ addr →
    ((j : ℕ) (x : FinalHost) → j < i → slice_get hosts j ≡ Some x → x.addr ≢ addr) → (peer : ℕ) →
    (past_of addr peer hosts ≡ past_with peer host.sides) × (sockets_of addr hosts ≡ host.sockets)
host_there [] i host addr at is first peer = absurd (cc)
host_there (h ∷ hosts) zero host addr at is first peer =
    let same = same_Some h host at in
    let here = eq-eqb h.addr addr (ap (λ (x : FinalHost). x.addr) same ∙ is) in (
      cond-true (h.addr == addr) (past_with peer h.sides) (past_of addr peer hosts) here ∙ ap (λ (x : FinalHost). past_with peer x.sides) same,
      cond-true (h.addr == addr) h.sockets (sockets_of addr hosts) here ∙ ap (λ (x : FinalHost). x.sockets) same,
    )
host_there (h ∷ hosts) (suc i) host addr at is first peer =
    let other = ne_eqb h.addr addr (first 0 h (omega arith) refl) in
    let later = host_there hosts i host addr at is (λ j x less at_x. first (suc j) x (omega (arith, less)) at_x) peer in (
      cond-false (h.addr == addr) (past_with peer h.sides) (past_of addr peer hosts) other ∙ later.0,
      cond-false (h.addr == addr) h.sockets (sockets_of addr hosts) other ∙ later.1,
    )

-- the counts of a pair where the two journals and the sockets are those that are looked up
counts_are : (ends : List FinalHost) (h sport to dport : ℕ) (a b : List Entry) (sockets : List FinalSocket) → past_of (address_of h) to ends ≡ a →
    past_of to (address_of h) ends ≡ b → sockets_of to ends ≡ sockets → counts ends (pair_of h sport to dport) ≡ counts_by (pair_of h sport to dport) a b sockets
counts_are ends h sport to dport a b sockets first second handed =
    let g = pair_of h sport to dport in
    ap (λ (x : List Entry). counts_by g x (past_of to (address_of h) ends) (sockets_of to ends)) first
    ∙ (ap (λ (x : List Entry). counts_by g a x (sockets_of to ends)) second ∙ ap (λ (x : List FinalSocket). counts_by g a b x) handed)

-- the places of a range
ranged : (from n i k : ℕ) → slice_get (range_with_len from n) i ≡ Some k → (k ≡ from + i) × (i < n)
ranged from zero i k at = absurd (cc)
ranged from (suc n) zero k at = (let is = same_Some from k at in omega (arith, is), omega arith)
ranged from (suc n) (suc i) k at = let later = ranged (from + 1) n i k at in (omega (arith, later.0), omega (arith, later.1))

range_size : (from n : ℕ) → length (range_with_len from n) ≡ n
range_size from zero = refl
range_size from (suc n) = ap suc (range_size (from + 1) n)

module _ (tells : Bool) (hosts : ℕ) (commands : List Placed) (ends : List FinalHost) (e : AreEnds tells hosts commands ends) where
  side_count : (i : ℕ) (host : FinalHost) → slice_get ends i ≡ Some host → length host.sides ≡ hosts - 1
  side_count i host at =
      sym (length-map host.sides (λ (side : FinalJournal). side.peer))
      ∙ (ap length (e.peers i host at) ∙ (length-map (others hosts i) address_of ∙ (length-map (range_with_len 0 (hosts - 1)) (peer_at i) ∙ range_size 0 (hosts - 1))))

  -- the peer of a journal is the host that its place stands for
  peer_there : (i p : ℕ) (host : FinalHost) (side : FinalJournal) → slice_get ends i ≡ Some host → slice_get host.sides p ≡ Some side →
      (side.peer ≡ address_of (peer_at i p)) × (suc p < hosts)
  peer_there i p host side at at_side =
      let named : slice_get (map (λ (s : FinalJournal). s.peer) host.sides) p ≡ Some side.peer =
      slice_get-map (λ (s : FinalJournal). s.peer) host.sides p ∙ ap (option_map (λ (s : FinalJournal). s.peer)) at_side in
      let k = at_map address_of (others hosts i) p side.peer (subst (λ (l : List ℕ). slice_get l p ≡ Some side.peer) (e.peers i host at) named) in
      let q = at_map (peer_at i) (range_with_len 0 (hosts - 1)) p k.0 k.1 in
      let is = ranged 0 (hosts - 1) p q.0 q.1 in
      let within = is.1 in
      let place : q.0 ≡ p = omega (arith, is.0) in (
        k.2 ∙ ap address_of (q.2 ∙ ap (peer_at i) place),
        omega (arith, within),
      )

  found_past : (i p : ℕ) (host : FinalHost) (side : FinalJournal) → slice_get ends i ≡ Some host → slice_get host.sides p ≡ Some side →
      (addr peer : ℕ) → addr ≡ address_of i → side.peer ≡ peer → past_of addr peer ends ≡ side.past
  found_past i p host side at at_side addr peer here to =
      (host_there ends i host addr at (e.addresses i host at ∙ sym here)
      (λ j x less at_x same. let other = e.addresses j x at_x in absurd (omega (arith, other, here, same, less))) peer).0
      ∙ past_there host.sides p side peer at_side to
      (λ j x less at_x same.
      let one = (peer_there i p host side at at_side).0 in
      let other = (peer_there i j host x at at_x).0 in
      let up = peers_ascend i j p less in
      absurd (omega (arith, one, other, up, same, to)))

  found_sockets : (i : ℕ) (host : FinalHost) → slice_get ends i ≡ Some host → (addr : ℕ) → addr ≡ address_of i → sockets_of addr ends ≡ host.sockets
  found_sockets i host at addr here =
      (host_there ends i host addr at (e.addresses i host at ∙ sym here)
      (λ j x less at_x same. let other = e.addresses j x at_x in absurd (omega (arith, other, here, same, less))) 0).1

  -- the two journals of two hosts, seen from the sender
  record IsWay (h k : ℕ) (a b : FinalJournal) (receiver : FinalHost) : Type 0 where
    pub legal_a : IsLegal a.past
    pub legal_b : IsLegal b.past
    pub honest : IsHonest a.past b.past
    pub none_alive : alive_numbers a.past ≡ []
    pub reliable : IsReliableTo h a.past b.past receiver.sockets

  -- no datagram from one host to the other is pending
  way_done : (accounted : (x y : List Entry) → IsLegal x → IsLegal y → IsHonest x y → alive_numbers x ≡ [] → (sport dport : ℕ) → IsAllAccounted sport dport x y) → (h k p q : ℕ) (sender receiver : FinalHost) (a b : FinalJournal) →
      slice_get ends h ≡ Some sender → slice_get ends k ≡ Some receiver → slice_get sender.sides p ≡ Some a → slice_get receiver.sides q ≡ Some b →
      peer_at h p ≡ k → peer_at k q ≡ h → IsWay h k a b receiver → (sport dport : ℕ) →
      pending (counts ends (record { to = a.peer; dport = dport; from = sender.addr; sport = sport })) ≡ 0
  way_done accounted h k p q sender receiver a b at at_other at_a at_b to back way sport dport =
      let peer : a.peer ≡ address_of k = (peer_there h p sender a at at_a).0 ∙ ap address_of to in
      let peer_back : b.peer ≡ address_of h = (peer_there k q receiver b at_other at_b).0 ∙ ap address_of back in
      let gone = all_at (AllWentToSockets receiver.sockets) receiver.sides q b (e.did k receiver at_other).gone at_b in
      let all = accounted a.past b.past way.legal_a way.legal_b way.honest way.none_alive sport dport in
      let none = none_left h sport a.peer dport a.past b.past all receiver.sockets gone
      (way.reliable.handed_out sport dport) in
      let are = counts_are ends h sport a.peer dport a.past b.past receiver.sockets (found_past h p sender a at at_a (address_of h) a.peer refl refl)
      (found_past k q receiver b at_other at_b a.peer (address_of h) peer peer_back) (found_sockets k receiver at_other a.peer peer) in
      subst (λ (from : ℕ). pending (counts ends (record { to = a.peer; dport = dport; from = from; sport = sport })) ≡ 0) (sym (e.addresses h sender at))
      (ap pending are ∙ none)

  module _ (accounted : (x y : List Entry) → IsLegal x → IsLegal y → IsHonest x y → alive_numbers x ≡ [] → (sport dport : ℕ) → IsAllAccounted sport dport x y) (silent : AreSilent ends) where
    -- a journal stands at a place of a host's
    stands : (host place : ℕ) (end : FinalHost) (side : FinalJournal) → slice_get ends host ≡ Some end → slice_get end.sides place ≡ Some side →
        IsAt (map (λ (x : FinalHost). x.sides) ends) host place side
    stands host place end side at at_side = (
      end.sides,
      slice_get-map (λ (x : FinalHost). x.sides) ends host ∙ ap (option_map (λ (x : FinalHost). x.sides)) at,
      at_side,
    )

    both_ways : (low place : ℕ) (one other : FinalHost) (a b : FinalJournal) → low ≤ place → slice_get ends low ≡ Some one → slice_get ends (suc place) ≡ Some other →
        slice_get one.sides place ≡ Some a → slice_get other.sides low ≡ Some b → IsHonest a.past b.past → IsWay low (suc place) a b other × IsWay (suc place) low b a one
    both_ways low place one other a b least at at_other at_a at_b honest =
        let sound = e.sound low place a b least (stands low place one a at at_a) (stands (suc place) low other b at_other at_b) in
        let none = silent low place a b least (stands low place one a at at_a) (stands (suc place) low other b at_other at_b) in
        let reliable = e.reliable low place one other a b least at at_other at_a at_b honest in (
          record {
            legal_a = sound.low_legal.legal;
            legal_b = sound.high_legal.legal;
            honest = honest;
            none_alive = none.0;
            reliable = reliable.0;
          },
          record {
            legal_a = sound.high_legal.legal;
            legal_b = sound.low_legal.legal;
            honest = record { forth = honest.back; back = honest.forth };
            none_alive = none.1;
            reliable = reliable.1;
          },
        )

    pub all_where_honest : AllAccountedWhereHonest ends
    all_where_honest low place one other a b least at at_other at_a at_b honest =
        let ways = both_ways low place one other a b least at at_other at_a at_b honest in
        λ sport dport. (
          accounted a.past b.past ways.0.legal_a ways.0.legal_b ways.0.honest ways.0.none_alive sport dport,
          accounted b.past a.past ways.1.legal_a ways.1.legal_b ways.1.honest ways.1.none_alive sport dport,
        )

    -- the peer of a journal is the host that has the other one
    peer_named : (h k p : ℕ) (sender receiver : FinalHost) (a : FinalJournal) → slice_get ends h ≡ Some sender → slice_get ends k ≡ Some receiver →
        slice_get sender.sides p ≡ Some a → peer_at h p ≡ k → a.peer ≡ receiver.addr
    peer_named h k p sender receiver a at at_other at_a to =
        (peer_there h p sender a at at_a).0 ∙ ap address_of to ∙ sym (e.addresses k receiver at_other)

    pub none_where_honest : NonePendingWhereHonest ends
    none_where_honest low place one other a b least at at_other at_a at_b honest =
        let ways = both_ways low place one other a b least at at_other at_a at_b honest in
        let to = peer_after low place least in
        let back = peer_before (suc place) low (omega (arith, least)) in (
          λ sport dport.
              subst (λ (n : ℕ). pending (counts ends (record { to = n; dport = dport; from = one.addr; sport = sport })) ≡ 0)
              (peer_named low (suc place) place one other a at at_other at_a to)
              (way_done accounted low (suc place) place low one other a b at at_other at_a at_b to back ways.0 sport dport),
          λ sport dport.
              subst (λ (n : ℕ). pending (counts ends (record { to = n; dport = dport; from = other.addr; sport = sport })) ≡ 0)
              (peer_named (suc place) low low other one b at_other at at_b back)
              (way_done accounted (suc place) low low place other one b a at_other at at_b at_a back to ways.1 sport dport),
        )

    between : tells ≡ true → (low place : ℕ) (one other : FinalHost) (a b : FinalJournal) → low ≤ place → slice_get ends low ≡ Some one →
        slice_get ends (suc place) ≡ Some other → slice_get one.sides place ≡ Some a → slice_get other.sides low ≡ Some b → IsHonest a.past b.past
    between told low place one other a b least at at_other at_a at_b =
        (e.sound low place a b least (stands low place one a at at_a) (stands (suc place) low other b at_other at_b)).honest told

    side_done : tells ≡ true → (h p : ℕ) (sender : FinalHost) (a : FinalJournal) → slice_get ends h ≡ Some sender → slice_get sender.sides p ≡ Some a → (sport dport : ℕ) →
        pending (counts ends (record { to = a.peer; dport = dport; from = sender.addr; sport = sport })) ≡ 0
    side_done told h p sender a at at_a =
        let count = e.count in
        let known = slice_get_within ends h sender at in
        let within = (peer_there h p sender a at at_a).1 in
        elim (cases_lt p h) [
          | inl before ↦
              let receiver = some_at ends p (omega (arith, known, before)) in
              let long = side_count p receiver.0 receiver.1 in
              let b = some_at receiver.0.sides (h - 1) (omega (arith, long, known, count, before)) in
              let is : suc (h - 1) ≡ h = omega (arith, before) in
              let least : p ≤ h - 1 = omega (arith, before) in
              let at_top = subst (λ (n : ℕ). slice_get ends n ≡ Some sender) (sym is) at in
              let ways = both_ways p (h - 1) receiver.0 sender b.0 a least receiver.1 at_top b.1 at_a
              (between told p (h - 1) receiver.0 sender b.0 a least receiver.1 at_top b.1 at_a) in
              way_done accounted h p p (h - 1) sender receiver.0 a b.0 at receiver.1 at_a b.1 (peer_before h p before) (peer_after p (h - 1) least ∙ is)
              (subst (λ (n : ℕ). IsWay n p a b.0 receiver.0) is ways.1)
          | inr after ↦
              let receiver = some_at ends (suc p) (omega (arith, within, count)) in
              let long = side_count (suc p) receiver.0 receiver.1 in
              let b = some_at receiver.0.sides h (omega (arith, long, within, after)) in
              let ways = both_ways h p sender receiver.0 a b.0 after at receiver.1 at_a b.1 (between told h p sender receiver.0 a b.0 after at receiver.1 at_a b.1) in
              way_done accounted h (suc p) p h sender receiver.0 a b.0 at receiver.1 at_a b.1 (peer_after h p after) (peer_before (suc p) h (omega (arith, after))) ways.0
        ]

    pub none_pending : tells ≡ true → NonePending ends
    none_pending told =
        all_ascending (λ (g : Group). pending (counts ends g) ≡ 0) (flat_map (λ (host : FinalHost). flat_map (λ (s : FinalJournal). accepted_groups host.addr s.peer s.past) host.sides) ends)
        (all_flat (λ (g : Group). pending (counts ends g) ≡ 0) (λ (host : FinalHost). flat_map (λ (s : FinalJournal). accepted_groups host.addr s.peer s.past) host.sides) ends
        (λ i host at.
        all_flat (λ (g : Group). pending (counts ends g) ≡ 0) (λ (s : FinalJournal). accepted_groups host.addr s.peer s.past) host.sides
        (λ p side at_side.
        all_accepted (λ (g : Group). pending (counts ends g) ≡ 0) host.addr side.peer side.past (side_done told i p host side at at_side))))
