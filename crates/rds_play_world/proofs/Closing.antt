-- What a world tells after all datagrams of a socket were taken back, and after its port was freed.
use Rattle.std.proofs.Common.{◌≡◌, ⊎_elim, ℕ, zero, suc, ◌+◌, ◌==◌, ◌<◌, nat_lt, not, Bool, true, false, cond, Result, Ok, Err, List, [], ◌∷◌, ◌++◌, length, filter, set, refl, sym, ◌∙◌, ap, subst, arith}
use Rattle.std.proofs.lemmas.Bool.{cases_eq, cond_both}
use Rattle.rds_model.specs.declared.entry.Entry.{Entry}
use Rattle.rds_model.specs.declared.entry.Entry.TheVariants.{Cancel}
use Rattle.rds_model.specs.declared.entry.Target.TheVariants.{All}
use Rattle.rds_model.specs.Drained.{last_map_read}
use Rattle.rds_text.specs.Ports.{below}
use Rattle.rds_history.specs.Cancel.{unbind}
use Rattle.rds_history.specs.Courses.{Course, and_then, appends, each, if_room}
use Rattle.rds_history.specs.Events.{Event, Appended, Marked}
use Rattle.rds_history.specs.Journals.{is_marked, journal, maps_read, moved_count, peers}
use Rattle.rds_history.specs.Sockets.{next_slot, receive_buffer}
use Rattle.rds_history.specs.Transcript.{lines}
use Rattle.rds_play_hosts.specs.declared.host.ScriptHost.{ScriptHost}
use Rattle.rds_play_hosts.specs.HostLaws.{untouched_by_unbind}
use Rattle.rds_play_hosts.specs.Telling.{TellsHost}
use Rattle.rds_play_world.specs.declared.peer_map.PeerMap.{PeerMap}
use Rattle.rds_play_world.specs.declared.stop.Stop.{Stop}
use Rattle.rds_play_world.specs.Coming.{Comes}
use Rattle.rds_play_world.specs.Telling.{State, Tells, TellsPeer, none_waits}
use Rattle.rds_play_world.proofs.Comings.{comes_stopped, comes_then}
use Rattle.rds_play_world.proofs.Ends.{IsStill, end_still}
use Rattle.rds_play_world.proofs.Replacing.{hosts_replaced}

-- one after another, with one more at the end
then_each : (c : Course) (f g : List Event → Course) → ((p : List Event) → f p ≡ g p) → and_then c f ≡ and_then c g
then_each (Ok past) f g same = same past
then_each (Err full) f g same = refl

then_then : (c : Course) (f g : List Event → Course) → and_then (and_then c f) g ≡ and_then c (λ p. and_then (f p) g)
then_then (Ok past) f g = refl
then_then (Err full) f g = refl

then_done : (c : Course) → and_then c (λ p. Ok p) ≡ c
then_done (Ok past) = refl
then_done (Err full) = refl

pub each_push : (xs : List ℕ) (x : ℕ) (step : ℕ → List Event → Course) (past : List Event) →
    each (xs ++ x ∷ []) step past ≡ and_then (each xs step past) (step x)
each_push [] x step past = then_done (step x past)
each_push (y ∷ ys) x step past =
    then_each (step y past) (each (ys ++ x ∷ []) step) (λ p. and_then (each ys step p) (step x)) (λ p. each_push ys x step p)
    ∙ sym (then_then (step y past) (each ys step) (step x))

-- what is done at host k: nothing, where it is h itself
abbrev pub at_each : (limit h slot : ℕ) → ℕ → List Event → Course
at_each limit h slot k past = cond (k == h) (Ok past) (appends limit h k (Cancel slot All) past)

-- the peers are all hosts, of which one is passed over
passed_over : (limit h slot : ℕ) (xs : List ℕ) (past : List Event) →
    each (filter (λ k. not (k == h)) xs) (λ k. appends limit h k (Cancel slot All)) past ≡ each xs (at_each limit h slot) past
passed_over limit h slot [] past = refl
passed_over limit h slot (x ∷ xs) past = go (x == h) (λ p. passed_over limit h slot xs p)
  where
    rest : List ℕ
    rest = filter (λ k. not (k == h)) xs

    act : ℕ → List Event → Course
    act k = appends limit h k (Cancel slot All)

    go : (b : Bool) → ((p : List Event) → each rest act p ≡ each xs (at_each limit h slot) p) →
        each (cond (not b) (x ∷ rest) rest) act past ≡ and_then (cond b (Ok past) (act x past)) (each xs (at_each limit h slot))
    go true same = same past
    go false same = then_each (act x past) (each rest act) (each xs (at_each limit h slot)) same

pub each_peer : (limit hosts h slot : ℕ) (past : List Event) →
    each (peers hosts h) (λ k. appends limit h k (Cancel slot All)) past ≡ each (below hosts) (at_each limit h slot) past
each_peer limit hosts h slot past = passed_over limit h slot (below hosts) past

-- one host more
pub comes_more : (limit hosts n : ℕ) (step : ℕ → List Event → Course) (past : List Event) (result : Result (Unit {0}) Stop) (s t : State) →
    Comes {A = Unit {0}} limit hosts (each (below n) step past) (Ok tt) s →
    ((later : List Event) → Tells limit hosts later s → Comes limit hosts (step n later) result t) →
    Comes limit hosts (each (below (suc n)) step past) result t
comes_more limit hosts n step past result s t comes next =
    subst (λ (c : Course). Comes limit hosts c result t) (sym (each_push (below n) n step past))
    (comes_then none_waits none_waits limit hosts (each (below n) step past) (step n) tt result s t comes (λ later is told. next later told))

-- a stop stops all that would follow
pub comes_early : (limit hosts m n : ℕ) (step : ℕ → List Event → Course) (past : List Event) (why : Stop) (t : State) → n < m →
    Comes {A = Unit {0}} limit hosts (each (below (suc n)) step past) (Err why) t →
    Comes {A = Unit {0}} limit hosts (each (below m) step past) (Err why) t
comes_early limit hosts zero n step past why t within comes = absurd (omega arith)
comes_early limit hosts (suc m) n step past why t within comes =
    ⊎_elim
    (λ (e : n ≡ m). subst (λ j. Comes {A = Unit {0}} limit hosts (each (below (suc j)) step past) (Err why) t) e comes)
    (λ (ne : n ≡ m → ⊥). subst (λ (c : Course). Comes {A = Unit {0}} limit hosts c (Err why) t) (sym (each_push (below m) m step past))
    (comes_stopped (Unit {0}) (Unit {0}) none_waits none_waits limit hosts (each (below m) step past) (step m) why t t
    (comes_early limit hosts m n step past why t (below_it n m within ne) comes)))
    (cases_eq n m)
  where
    below_it : (n m : ℕ) → n < suc m → (n ≡ m → ⊥) → n < m
    below_it n m within ne = omega arith

-- taking back binds no socket
abbrev KeepsSlots : (h : ℕ) (past : List Event) → Course → Type 0
KeepsSlots h past (Ok later) = next_slot h later ≡ next_slot h past
KeepsSlots h past (Err full) = Unit {0}

slots_then : (h : ℕ) (past : List Event) (c : Course) (f : List Event → Course) → KeepsSlots h past c → ((p : List Event) → KeepsSlots h p (f p)) →
    KeepsSlots h past (and_then c f)
slots_then h past (Err full) f same next = tt
slots_then h past (Ok p) f same next = go (f p) (next p)
  where
    go : (d : Course) → KeepsSlots h p d → KeepsSlots h past d
    go (Ok later) is = is ∙ same
    go (Err full) is = tt

slots_appended : (a limit h k slot : ℕ) (past : List Event) → KeepsSlots a past (appends limit h k (Cancel slot All) past)
slots_appended a limit h k slot past =
    slots_then a past (if_room limit h k past) (λ before. Ok (Appended h k (Cancel slot All) ∷ before))
    (cond_both (nat_lt limit (length (journal h k past) + 2)) (Err (record { host = h; peer = k; entries = length (journal h k past) })) (Ok past)
    (λ (c : Course). KeepsSlots a past c) (λ _. tt) (λ _. refl))
    (λ p. refl)

slots_each : (a limit h slot : ℕ) (xs : List ℕ) (past : List Event) → KeepsSlots a past (each xs (λ k. appends limit h k (Cancel slot All)) past)
slots_each a limit h slot [] past = refl
slots_each a limit h slot (x ∷ xs) past =
    slots_then a past (appends limit h x (Cancel slot All) past) (each xs (λ k. appends limit h k (Cancel slot All)))
    (slots_appended a limit h x slot past) (λ p. slots_each a limit h slot xs p)

pub same_slots : (a limit h slot : ℕ) (xs : List ℕ) (past later : List Event) → each xs (λ k. appends limit h k (Cancel slot All)) past ≡ Ok later →
    next_slot a later ≡ next_slot a past
same_slots a limit h slot xs past later is = subst (λ (c : Course). KeepsSlots a past c) is (slots_each a limit h slot xs past)

-- nor does freeing a port touch a connection
unbound_still : (a b h port slot : ℕ) (past : List Event) → IsStill a b past (unbind h port slot past)
unbound_still a b h port slot past = record {
  journal_same = cond_both (is_marked h port past) (Marked h port false 0 (receive_buffer h slot past) ∷ past) past (λ (p : List Event). journal a b p ≡ journal a b past) (λ _. refl) (λ _. refl);
  moved_same = cond_both (is_marked h port past) (Marked h port false 0 (receive_buffer h slot past) ∷ past) past (λ (p : List Event). moved_count a b p ≡ moved_count a b past) (λ _. refl) (λ _. refl);
}

peer_unbound : (a b h port slot : ℕ) (past : List Event) (p : PeerMap) → TellsPeer a b past p → TellsPeer a b (unbind h port slot past) p
peer_unbound a b h port slot past p t =
    let same = (unbound_still a b h port slot past).journal_same in
    record { map_is = t.map_is ∙ sym (ap (λ (j : List Entry). last_map_read j) same); version_is = t.version_is ∙ sym (ap (λ (j : List Entry). maps_read j) same) }

-- the world after the socket at place i, that of host h, gave up its port
pub tells_unbound : (limit hosts h i port slot : ℕ) (past : List Event) (s : State) (y : ScriptHost) (text : List ℕ) → i ≡ h → h < length s.hosts →
    Tells limit hosts past s → TellsHost h (unbind h port slot past) y → text ≡ lines (unbind h port slot past) →
    Tells limit hosts (unbind h port slot past) (record s { text = text; hosts = set s.hosts i y })
tells_unbound limit hosts h i port slot past s y text at h_in t told text_is =
    subst (λ j. Tells limit hosts (unbind h port slot past) (record s { text = text; hosts = set s.hosts j y })) (sym at)
    (record {
      limit_is = t.limit_is;
      count_is = t.count_is;
      text_is = text_is;
      hosts_are = hosts_replaced hosts h past (unbind h port slot past) s.hosts y h_in t.hosts_are told
          (λ a x apart was. untouched_by_unbind a h port slot past x (λ e. apart (sym e)) was);
      ends_are = λ a b a_in b_in apart. end_still limit a b _ past (unbind h port slot past) _ (unbound_still a b h port slot past) (t.ends_are a b a_in b_in apart);
      peers_are = λ a b a_in b_in p is. peer_unbound a b h port slot past p (t.peers_are a b a_in b_in p is);
    })
