-- Where no number is alive, each datagram of a port pair is accounted for, so that none is pending.
use Rattle.std.proofs.Common.{◌≡◌, inl, inr, ℕ, zero, suc, ◌+◌, ◌-◌, ◌≤◌, ◌==◌, ◌&&◌, not, Bool, true, false, cond, Some, List, [], ◌∷◌, ◌++◌, All, length, slice_get, refl, sym, ◌∙◌, ap, subst, arith, length-append}
use Rattle.std.specs.List.{Contains, filter, flat_map}
use Rattle.std.proofs.lemmas.Bool.{cond-true}
use Rattle.std.proofs.lemmas.List.{length-map}
use Rattle.std.proofs.lemmas.List.Elements.{Contains-append_left, Contains-append_right, filter-append}
use Rattle.std.proofs.lemmas.Option.{same_Some}
use Rattle.rds_model.specs.declared.entry.Entry.{Entry}
use Rattle.rds_model.specs.declared.entry.Entry.TheVariants.{Read}
use Rattle.rds_model.specs.declared.entry.Outcome.TheVariants as outcome
use Rattle.rds_model.specs.declared.order.Datagram.{Datagram}
use Rattle.rds_wire.specs.declared.frame.Frame.{Frame}
use Rattle.rds_model.specs.Pairs.{IsAllAccounted, IsDeliveredAt, accepted_for, delivered_to, dropped, taken_back, taken_by_port_0}
use Rattle.rds_model.specs.Past.{accepted}
use Rattle.rds_model.specs.Streams.{was_passed}
use Rattle.rds_text.specs.FinalState.{FinalSocket}
use Rattle.rds_text.specs.Hosts.{address_of}
use Rattle.rds_text.specs.Report.{Counts, Group, of_group, pending}
use Rattle.rds_history.specs.Sound.{is_of_ports, of_ports}
use Rattle.rds_run_threads.specs.Reliable.{HandsOutSent, WentToSocket, all_handed}
use Rattle.rds_run_threads.proofs.AtMost.{accepted_few, all_at_most}

-- what is made of one thing is among what is made of all
in_flat : {X : Type 0} (f : X → List ℕ) (xs : List X) (i : ℕ) (x : X) → slice_get xs i ≡ Some x → (n : ℕ) → Contains (f x) n → Contains (flat_map f xs) n
in_flat f [] i x at n has = absurd (cc)
in_flat f (y ∷ ys) zero x at n has =
    Contains-append_left (f y) (flat_map f ys) n (subst (λ z. Contains (f z) n) (sym (same_Some y x at)) has)
in_flat f (y ∷ ys) (suc i) x at n has = Contains-append_right (f y) (flat_map f ys) n (in_flat f ys i x at n has)

-- a filter keeps what passes
in_filter : (p : ℕ → Bool) (xs : List ℕ) (n : ℕ) → p n ≡ true → Contains xs n → Contains (filter p xs) n
in_filter p [] n passes (i, within, is) = absurd (omega (arith, within))
in_filter p (x ∷ xs) n passes (zero, within, is) =
    let kept = cond-true (p x) (x ∷ filter p xs) (filter p xs) (ap p is ∙ passes) in
    subst (λ (l : List ℕ). Contains l n) (sym kept) (0, omega arith, is)
in_filter p (x ∷ xs) n passes (suc i, within, is) =
    let later = in_filter p xs n passes (i, omega (arith, within), is) in
    elim (p x) as (λ b. Contains (cond b (x ∷ filter p xs) (filter p xs)) n) [
      | true ↦ Contains-append_right (x ∷ []) (filter p xs) n later
      | false ↦ later
    ]

module _ (a b : List Entry) (sport dport : ℕ) (accounted : IsAllAccounted sport dport a b) (sockets : List FinalSocket)
    (gone : (stream slot : ℕ) (f : Frame) → Contains b (Read stream f (outcome.Slot slot)) → WentToSocket sockets slot f) where
  abbrev received_numbers : List ℕ
  received_numbers = flat_map (λ (s : FinalSocket). delivered_to s.slot sport dport b) sockets

  abbrev cancelled_numbers : List ℕ
  cancelled_numbers = filter (λ n. not (was_passed b n)) (taken_back sport dport a)

  abbrev later_fates : List ℕ
  later_fates = dropped sport dport b ++ (taken_by_port_0 sport dport b ++ cancelled_numbers)

  abbrev fates : List ℕ
  fates = received_numbers ++ later_fates

  -- what was delivered to a slot was delivered to the socket that had it
  at_socket : (n : ℕ) → IsDeliveredAt sport dport n b → Contains received_numbers n
  at_socket n d =
      let s = gone d.stream d.slot d.frame d.read in
      in_flat (λ (t : FinalSocket). delivered_to t.slot sport dport b) sockets s.0 s.1 s.2 n
      (subst (λ (slot : ℕ). Contains (delivered_to slot sport dport b) n) (sym s.3) d.listed)

  each_accounted : (n : ℕ) → Contains (accepted_for sport dport a) n → Contains fates n
  each_accounted n inside =
      elim (accounted n inside) [
        | inl delivered ↦ Contains-append_left received_numbers later_fates n (at_socket n delivered)
        | inr (inl nowhere) ↦ late n (Contains-append_left (dropped sport dport b) (taken_by_port_0 sport dport b ++ cancelled_numbers) n nowhere)
        | inr (inr (inl port_0)) ↦ last n (Contains-append_left (taken_by_port_0 sport dport b) cancelled_numbers n port_0)
        | inr (inr (inr back)) ↦
            last n (Contains-append_right (taken_by_port_0 sport dport b) cancelled_numbers n
            (in_filter (λ n. not (was_passed b n)) (taken_back sport dport a) n (ap not back.1) back.0))
      ]
    where
      late : (n : ℕ) → Contains later_fates n → Contains fates n
      late n = Contains-append_right received_numbers later_fates n

      last : (n : ℕ) → Contains (taken_by_port_0 sport dport b ++ cancelled_numbers) n → Contains fates n
      last n has = late n (Contains-append_right (dropped sport dport b) (taken_by_port_0 sport dport b ++ cancelled_numbers) n has)

  pub all_accounted : length (accepted_for sport dport a)
      ≤ length received_numbers + length (dropped sport dport b) + length (taken_by_port_0 sport dport b) + length cancelled_numbers
  all_accounted =
      let few = accepted_few sport dport a fates each_accounted in
      let most = all_at_most (accepted a) fates in
      let one = length-append received_numbers later_fates in
      let two = length-append (dropped sport dport b) (taken_by_port_0 sport dport b ++ cancelled_numbers) in
      let three = length-append (taken_by_port_0 sport dport b) cancelled_numbers in
      omega (arith, few, most, one, two, three)

same_filter : {X : Type 0} (p q : X → Bool) → ((x : X) → p x ≡ q x) → (xs : List X) → filter p xs ≡ filter q xs
same_filter p q same [] = refl
same_filter p q same (x ∷ xs) =
    ap (λ (c : Bool). cond c (x ∷ filter p xs) (filter p xs)) (same x) ∙ ap (λ l. cond (q x) (x ∷ l) l) (same_filter p q same xs)

and_both : (x y z : Bool) → ((x && y) && z) ≡ (x && (y && z))
and_both true y z = refl
and_both false y z = refl

-- the port pair of host h and a host at this address
abbrev pub pair_of : (h sport to dport : ℕ) → Group
pair_of h sport to dport = record { to = to; dport = dport; from = address_of h; sport = sport }

module _ (h sport to dport : ℕ) (sender receiver : List Entry) where
  group_is : (list : List Datagram) → of_group (pair_of h sport to dport) list ≡ of_ports h sport dport list
  group_is list =
      same_filter (λ (d : Datagram). (d.from == address_of h && (d.sport == sport)) && (d.dport == dport)) (is_of_ports h sport dport)
      (λ d. and_both (d.from == address_of h) (d.sport == sport) (d.dport == dport)) list

  -- what the sockets handed out and left unread for the pair is as many as were delivered to them
  pub handed_count : (sockets : List FinalSocket) → All (HandsOutSent h sport dport sender receiver) sockets →
      length (flat_map (λ (s : FinalSocket). delivered_to s.slot sport dport receiver) sockets)
      ≡ length (of_group (pair_of h sport to dport) (flat_map (λ (s : FinalSocket). s.got) sockets))
      + length (of_group (pair_of h sport to dport) (flat_map (λ (s : FinalSocket). s.unread) sockets))
  handed_count [] all = refl
  handed_count (s ∷ sockets) all =
      let g = pair_of h sport to dport in
      let rest = handed_count sockets (λ i d within. all (suc i) d (omega (arith, within))) in
      let here : HandsOutSent h sport dport sender receiver s = all 0 s (omega arith) in
      let numbers = delivered_to s.slot sport dport receiver in
      let same : length (of_ports h sport dport (all_handed s)) ≡ length numbers =
      sym (length-map (of_ports h sport dport (all_handed s)) (λ (d : Datagram). Some d)) ∙ (ap length here ∙ length-map numbers _) in
      let both = ap length (group_is (all_handed s)) in
      let split = ap length (filter-append (λ (d : Datagram). (d.from == g.from && (d.sport == g.sport)) && (d.dport == g.dport)) s.got s.unread) in
      let handed = length-append (of_group g s.got) (of_group g s.unread) in
      let more = length-append numbers (flat_map (λ (t : FinalSocket). delivered_to t.slot sport dport receiver) sockets) in
      let got = ap length (filter-append (λ (d : Datagram). (d.from == g.from && (d.sport == g.sport)) && (d.dport == g.dport)) s.got (flat_map (λ (t : FinalSocket). t.got) sockets)) in
      let got_more = length-append (of_group g s.got) (of_group g (flat_map (λ (t : FinalSocket). t.got) sockets)) in
      let unread = ap length (filter-append (λ (d : Datagram). (d.from == g.from && (d.sport == g.sport)) && (d.dport == g.dport)) s.unread (flat_map (λ (t : FinalSocket). t.unread) sockets)) in
      let unread_more = length-append (of_group g s.unread) (of_group g (flat_map (λ (t : FinalSocket). t.unread) sockets)) in
      omega (arith, rest, same, both, split, handed, more, got, got_more, unread, unread_more)

-- the counts of a pair by the two journals and the receiver's sockets
abbrev pub counts_by : Group → (a b : List Entry) → List FinalSocket → Counts
counts_by g a b sockets = record {
  accepted = length (accepted_for g.sport g.dport a);
  received = length (of_group g (flat_map (λ (s : FinalSocket). s.got) sockets));
  unread = length (of_group g (flat_map (λ (s : FinalSocket). s.unread) sockets));
  dropped = length (dropped g.sport g.dport b);
  port0 = length (taken_by_port_0 g.sport g.dport b);
  cancelled = length (filter (λ n. not (was_passed b n)) (taken_back g.sport g.dport a));
}

nothing_left : (x y : ℕ) → x ≤ y → x - y ≡ 0
nothing_left x y most = omega (arith, most)

-- none is pending
pub none_left : (h sport to dport : ℕ) (a b : List Entry) → IsAllAccounted sport dport a b → (sockets : List FinalSocket) →
    ((stream slot : ℕ) (f : Frame) → Contains b (Read stream f (outcome.Slot slot)) → WentToSocket sockets slot f) →
    All (HandsOutSent h sport dport a b) sockets → pending (counts_by (pair_of h sport to dport) a b sockets) ≡ 0
none_left h sport to dport a b accounted sockets gone handed =
    let g = pair_of h sport to dport in
    let all = all_accounted a b sport dport accounted sockets gone in
    let same = handed_count h sport to dport a b sockets handed in
    let c = counts_by g a b sockets in
    let enough : c.accepted ≤ c.received + c.unread + c.dropped + c.port0 + c.cancelled = omega (arith, all, same) in
    nothing_left c.accepted (c.received + c.unread + c.dropped + c.port0 + c.cancelled) enough
