-- After a drain of a script in range every two hosts are quiet, and each datagram is accounted for.
use Rattle.std.proofs.Common.{◌≡◌, ◌≢◌, ◌⊎◌, inl, inr, ℕ, zero, suc, ◌<◌, ◌≤◌, ◌^◌, ◌==◌, ◌&&◌, Bool, true, false, cond, Some, None, Ok, List, [], ◌∷◌, ◌++◌, length, sym, ◌∙◌, ap, subst, arith}
use Rattle.std.specs.Prelude.{Contains, filter}
use Rattle.std.proofs.lemmas.Bool.{cond-true, cond_both}
use Rattle.std.proofs.lemmas.List.Elements.{Contains-push_cases}
use Rattle.rds_model.specs.declared.entry.Entry.{Entry}
use Rattle.rds_model.specs.declared.entry.Entry.TheVariants.{Accept}
use Rattle.rds_model.specs.Past.{open_stream, accepted, last_passed, highest_ack}
use Rattle.rds_model.specs.Streams.{written_bytes, read_bytes}
use Rattle.rds_model.specs.Alive.{is_alive, alive_numbers, was_taken_back}
use Rattle.rds_model.specs.Owed.{owed_frame}
use Rattle.rds_model.specs.Drained.{IsQuiet, IsSettledBetween, OwesNothing}
use Rattle.rds_model.specs.Honest.{IsHonest}
use Rattle.rds_model.specs.Legal.{IsLegal}
use Rattle.rds_model.specs.Pairs.{IsDeliveredOnce, accepted_for, delivered, dropped, taken_by_port_0, taken_back}
use Rattle.rds_model.specs.NumberLaws.{known_of_number}
use Rattle.rds_model.specs.LeastDueLaws.{none_passes}
use Rattle.rds_model.specs.EndingLaws.{ended}
use Rattle.rds_model.specs.OwingLaws.{idle}
use Rattle.rds_script.specs.declared.script.Command.TheVariants as command
use Rattle.rds_script.specs.declared.script.Script.{Script}
use Rattle.rds_script.specs.Script.{IsScript}
use Rattle.rds_history.specs.Events.{Event}
use Rattle.rds_history.specs.Drain.{drain}
use Rattle.rds_history.specs.History.{history}
use Rattle.rds_history.specs.Journals.{journal, moved_count, in_flight, own_map}
use Rattle.rds_history.specs.Limits.{IsDrained}
use Rattle.rds_history.specs.Settled.{IsSettledFrom, IsSettledPast}
use Rattle.rds_history.proofs.EventInvariants.{Holds}
use Rattle.rds_history.proofs.Drained.{quiet_after}
use Rattle.rds_history.proofs.JoinedEnds.{AreJoined, idle_of}
use Rattle.rds_history.proofs.JoinedReads.{HonestLaws}
use Rattle.rds_history.proofs.PastEnds.{ends, Keeps}
use Rattle.rds_history.proofs.PastMoves.{flying, went_within}
use Rattle.rds_history.proofs.PastCommands.{keeps_after, keeps_history}
use Rattle.rds_history.proofs.SoundHistory.{Headline, honest, once, keeps_nothing}

-- a filter keeps what passes
in_filter : (p : ℕ → Bool) (xs : List ℕ) (n : ℕ) → p n ≡ true → Contains xs n → Contains (filter p xs) n
in_filter p [] n passes (i, within, is) = absurd (omega (arith, within))
in_filter p (x ∷ xs) n passes (zero, within, is) =
    subst (λ (l : List ℕ). Contains l n) (sym (cond-true (p x) (x ∷ filter p xs) (filter p xs) (ap p is ∙ passes))) (0, omega arith, is)
in_filter p (x ∷ xs) n passes (suc i, within, is) =
    let earlier = in_filter p xs n passes (i, omega (arith, within), is) in
    cond_both (p x) (x ∷ filter p xs) (filter p xs) (λ (l : List ℕ). Contains l n)
    (λ keep. (suc earlier.0, omega (arith, earlier.1), earlier.2)) (λ leave. earlier)

-- what was accepted for a port pair has a number
accepted_known : (sport dport n : ℕ) (past : List Entry) → Contains (accepted_for sport dport past) n → (0 < n) × (n ≤ accepted past)
accepted_known sport dport n [] (i, within, is) = absurd (omega (arith, within))
accepted_known sport dport n (Accept slot from to payload ∷ past) inside =
    go (accepted_known sport dport n past) (from == sport && (to == dport)) inside
  where
    go : (Contains (accepted_for sport dport past) n → (0 < n) × (n ≤ accepted past)) → (b : Bool) →
        Contains (cond b (accepted_for sport dport past ++ suc (accepted past) ∷ []) (accepted_for sport dport past)) n →
        (0 < n) × (n ≤ suc (accepted past))
    go earlier true among =
        elim (Contains-push_cases (accepted_for sport dport past) (suc (accepted past)) n among) [
          | inl before ↦ let known = earlier before in (known.0, omega (arith, known.1))
          | inr same ↦ (omega (arith, same), omega (arith, same))
        ]
    go earlier false among = let known = earlier among in (known.0, omega (arith, known.1))
accepted_known sport dport n (_ ∷ past) inside = accepted_known sport dport n past inside

-- where none is alive, and each acknowledgement that was read is of a passed number, each number is accounted for
accounted_for : (sport dport : ℕ) (a b : List Entry) → IsDeliveredOnce sport dport a b → alive_numbers a ≡ [] → highest_ack a ≤ last_passed b → (n : ℕ) →
    Contains (accepted_for sport dport a) n →
    Contains (delivered sport dport b) n ⊎ Contains (dropped sport dport b) n ⊎ Contains (taken_by_port_0 sport dport b) n
    ⊎ Contains (taken_back sport dport a) n
accounted_for sport dport a b once none_alive acked n inside =
    let range = accepted_known sport dport n a inside in
    elim (ended a n (known_of_number a n range.0 range.1) (none_passes (is_alive a) (accepted a) none_alive n range.0 range.1)) [
      | inl taken ↦ inr (inr (inr (in_filter (was_taken_back a) (accepted_for sport dport a) n taken inside)))
      | inr within ↦ once.none_lost n inside (omega (arith, within, acked))
    ]

-- what is known of two legal and honest journals between which nothing is left to do
abbrev pub SettledLaw : Type 0
SettledLaw = (a b : List Entry) → IsLegal a → IsLegal b → IsHonest a b → (s : ℕ) → IsQuiet s a b → IsSettledBetween s a b

-- nothing is in flight, so all was read
all_read : (hosts h k s : ℕ) (past : List Event) → Keeps hosts past → h ≢ k → open_stream (journal h k past) ≡ Some s → in_flight h k past ≡ [] →
    read_bytes s (journal k h past) ≡ written_bytes s (journal h k past)
all_read hosts h k s past keeps apart on none =
    let way = (keeps.joined h k apart).forth.way s on in
    let within = went_within s (journal h k past) (journal k h past) (moved_count h k past) way in
    sym (idle_of s (journal h k past) (journal k h past) (moved_count h k past) (omega (arith, within, ap length none, flying h k s past on)) way)

-- nothing is owed for the host's own map
owes_nothing : (s : ℕ) (past : List Entry) (map : List ℕ) → owed_frame s past map ≡ None → OwesNothing s past
owes_nothing s past map none = record { map = map; pulled = (idle s past map none).last; nothing = none }

module _ (headline : Headline) (settles : SettledLaw) (hosts : ℕ) (past : List Event) (keeps : Keeps hosts past) (h k : ℕ) (apart : h ≢ k) (drained : IsDrained h k past) where
  joined : AreJoined (ends h k past)
  joined = keeps.joined h k apart

  quiet : IsQuiet drained.stream (journal h k past) (journal k h past)
  quiet = record {
    open_a = drained.open_here;
    open_b = drained.open_there;
    forth = all_read hosts h k drained.stream past keeps apart drained.open_here drained.nothing_flies;
    back = all_read hosts k h drained.stream past keeps (λ same. apart (sym same)) drained.open_there drained.nothing_flies_back;
    idle_a = owes_nothing drained.stream (journal h k past) (own_map h past) drained.nothing_owed;
    idle_b = owes_nothing drained.stream (journal k h past) (own_map k past) drained.nothing_owed_back;
  }

  settled : IsSettledBetween drained.stream (journal h k past) (journal k h past)
  settled =
      settles (journal h k past) (journal k h past) joined.whole_here.legal joined.whole_there.legal (honest headline hosts past keeps h k apart)
      drained.stream quiet

  settled_from : IsSettledFrom h k past
  settled_from = record {
    stream = drained.stream;
    quiet = quiet;
    settled = settled;
    map_known = settled.map_b ∙ drained.map_sent;
    accounted = λ sport dport. accounted_for sport dport (journal h k past) (journal k h past) (once headline hosts past keeps h k apart sport dport)
        settled.none_alive_a joined.back.acked;
  }

-- so after a drain of a script in range
pub settled_history : Headline → HonestLaws → SettledLaw → (script : Script) (limit : ℕ) (past later : List Event) → IsScript script → limit ≤ 2 ^ 63 →
    history limit script.hosts script.commands.items [] ≡ Ok past → drain limit script.hosts past ≡ Ok later → IsSettledPast script.hosts later
settled_history headline laws settles script limit past later is small came drained h k known_h known_k apart =
    let before : Keeps script.hosts past =
    subst (Holds (Keeps script.hosts)) came (keeps_history script.hosts laws limit small script.commands.items [] is.each (keeps_nothing script.hosts)) in
    let keeps : Keeps script.hosts later = subst (Holds (Keeps script.hosts)) drained (keeps_after script.hosts laws limit small command.Drain past tt before) in
    settled_from headline settles script.hosts later keeps h k apart
    (quiet_after limit script.hosts (omega (arith, is.hosts_high)) script.commands.items past later came drained h k known_h known_k apart)
