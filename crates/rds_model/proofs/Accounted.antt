-- Where no number is alive, each datagram of a port pair is accounted for.
use Rattle.std.proofs.Common.{◌≡◌, ◌⊎◌, inl, inr, ℕ, ◌≤◌, ◌==◌, ◌&&◌, Bool, true, false, is_some, List, [], ◌∷◌, refl, sym, ◌∙◌, ap, subst, arith}
use Rattle.std.specs.List.{Contains}
use Rattle.std.proofs.lemmas.Bool.{and_from, and_parts, both_ways, cases_Bool, cases_lt, eq-eqb, eqb-true, false≢true, or_cases}
use Rattle.std.proofs.lemmas.List.Elements.{Contains-append_right}
use Rattle.std.proofs.lemmas.Option.{same_Some}
use Rattle.rds_model.specs.declared.entry.Entry.{Entry}
use Rattle.rds_model.specs.declared.entry.Entry.TheVariants.{Read}
use Rattle.rds_model.specs.declared.entry.Outcome.{Outcome}
use Rattle.rds_model.specs.declared.entry.Outcome.TheVariants as outcome
use Rattle.rds_model.specs.Alive.{alive_numbers, is_alive, was_taken_back}
use Rattle.rds_model.specs.EndingLaws.{acknowledged_at, ended}
use Rattle.rds_model.specs.FrameLaws.{pull_acknowledges}
use Rattle.rds_model.specs.LeastDueLaws.{none_passes}
use Rattle.rds_model.specs.LegalityLaws.{lawful_pull}
use Rattle.rds_model.specs.NumberLaws.{number_of_known}
use Rattle.rds_model.specs.Pairs.{IsAllAccounted, IsDeliveredAt, accepted_for, dropped, is_between, is_delivery_to, is_drop, is_port_0, read_with, taken_back, taken_by_port_0}
use Rattle.rds_model.specs.Past.{Accepted, Moment, now, before, accepted, datagram, highest_ack, last_passed, number, passes}
use Rattle.rds_model.specs.Streams.{was_passed}
use Rattle.rds_model.proofs.AcceptedLists.{AcceptedFor, accepted_number}
use Rattle.rds_model.proofs.Fifo.{fifo}
use Rattle.rds_model.proofs.Matching.{ArePeers, other_way, pull_of_read}
use Rattle.rds_model.proofs.Moments.{past_of}
use Rattle.rds_model.proofs.NumberLists.{in_filter}
use Rattle.rds_model.proofs.ReadLists.{listed_at}
use Rattle.rds_model.proofs.Rise.{PassedAt, last_passed_grows, passed_before}

-- each acknowledgement that was read is of a number that was passed
acked_passed : {a b : List Entry} → ArePeers a b → highest_ack a ≤ last_passed b
acked_passed {a} {b} peers =
    elim (cases_lt 0 (highest_ack a)) [
      | inl some ↦
          let freed = acknowledged_at (highest_ack a) a some (omega arith) in
          let reply = pull_of_read freed.stream freed.frame freed.outcome (other_way a b peers) freed.at in
          let acks = pull_acknowledges freed.stream reply.past freed.frame (lawful_pull freed.stream freed.frame peers.legal_b reply.at) in
          let grows = last_passed_grows peers (past_of reply.at) now in
          let enough = freed.enough in
          omega (arith, acks, grows, enough)
      | inr none ↦ omega (arith, none)
    ]

-- the passed read of a number
passed_at : (n : ℕ) (j : List Entry) → was_passed j n ≡ true → PassedAt n j
passed_at n [] was = absurd (false≢true was)
passed_at n (Read s f o ∷ past) was =
    elim (or_cases (passes o && (number f == n)) (was_passed past n) was) [
      | inl this ↦
          let both = and_parts (passes o) (number f == n) this in
          record { stream = s; frame = f; outcome = o; past = past; at = now; passed = both.0; is = eqb-true (number f) n both.1 }
      | inr older ↦ passed_before n (Read s f o) past (passed_at n past older)
    ]
passed_at n (x ∷ past) was = passed_before n x past (passed_at n past was)

-- what is appended at a moment is in the journal
at_moment : {found : Entry} {p j : List Entry} → Moment (found ∷ p) j → Contains j found
at_moment now = (0, omega arith, refl)
at_moment {found} {p} (before {e} {j} m) = Contains-append_right (e ∷ []) j found (at_moment m)

module _ (sport dport : ℕ) (a b : List Entry) (peers : ArePeers a b) where
  abbrev Fate : ℕ → Type 0
  Fate n = IsDeliveredAt sport dport n b ⊎ Contains (dropped sport dport b) n ⊎ Contains (taken_by_port_0 sport dport b) n
      ⊎ (Contains (taken_back sport dport a) n × (was_passed b n ≡ false))

  between : (n : ℕ) → AcceptedFor sport dport n a → (x : PassedAt n b) → is_between sport dport x.frame ≡ true
  between n acc x =
      let (d, known, carries) = (fifo a b peers).accepted x.stream x.frame x.outcome x.past x.at x.passed in
      let is : d ≡ acc.d = same_Some d acc.d (sym (ap (datagram a) (sym x.is) ∙ known) ∙ acc.known) in
      and_from (x.frame.header.sport == sport) (x.frame.header.dport == dport)
      (eq-eqb x.frame.header.sport sport (carries.sport ∙ (ap (λ (e : Accepted). e.sport) is ∙ acc.from)))
      (eq-eqb x.frame.header.dport dport (carries.dport ∙ (ap (λ (e : Accepted). e.dport) is ∙ acc.to)))

  among : (such : Outcome → Bool) (n : ℕ) → AcceptedFor sport dport n a → (x : PassedAt n b) → such x.outcome ≡ true → Contains (read_with such sport dport b) n
  among such n acc x is_such =
      subst (Contains (read_with such sport dport b)) x.is (listed_at such sport dport x.stream x.frame x.outcome x.at is_such (between n acc x))

  arrived : (n : ℕ) → AcceptedFor sport dport n a → (x : PassedAt n b) → Fate n
  arrived n acc x = go x.outcome refl x.passed
    where
      go : (o : Outcome) → x.outcome ≡ o → passes o ≡ true → Fate n
      go (outcome.Slot k) is p = inl (record {
        slot = k;
        stream = x.stream;
        frame = x.frame;
        numbered = x.is;
        read = subst (λ (o : Outcome). Contains b (Read x.stream x.frame o)) is (at_moment x.at);
        listed = among (is_delivery_to k) n acc x (ap (is_delivery_to k) is ∙ eq-eqb k k refl);
      })
      go outcome.NoSocket is p = inr (inl (among is_drop n acc x (ap is_drop is)))
      go outcome.Ping is p = inr (inr (inl (among is_port_0 n acc x (ap is_port_0 is))))
      go outcome.Void is p = inr (inr (inl (among is_port_0 n acc x (ap is_port_0 is))))
      go outcome.Old is p = absurd (false≢true p)
      go outcome.AckOnly is p = absurd (false≢true p)
      go outcome.Map is p = absurd (false≢true p)
      go outcome.OddMap is p = absurd (false≢true p)

  module _ (none_alive : alive_numbers a ≡ []) where
    -- what didn't arrive was taken back
    taken : (n : ℕ) → AcceptedFor sport dport n a → was_passed b n ≡ false → was_taken_back a n ≡ true
    taken n acc missed =
        let known = ap is_some acc.known in
        let range = number_of_known a n known in
        elim (ended a n known (none_passes (is_alive a) (accepted a) none_alive n range.0 range.1)) [
          | inl back ↦ back
          | inr acked ↦
              elim ((fifo a b peers).none_lost n range.0 (let most = acked_passed peers in omega (arith, acked, most))) [
                | inl was ↦ absurd (both_ways (was_passed b n) missed was)
                | inr back ↦ back
              ]
        ]

    pub all_accounted : IsAllAccounted sport dport a b
    all_accounted n inside =
        let acc = accepted_number sport dport n a inside in
        elim (cases_Bool (was_passed b n)) [
          | inl was ↦ arrived n acc (passed_at n b was)
          | inr missed ↦ inr (inr (inr (in_filter (was_taken_back a) (accepted_for sport dport a) n (taken n acc missed) inside, missed)))
        ]
