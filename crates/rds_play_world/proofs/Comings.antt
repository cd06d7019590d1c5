-- What comes of courses, one after another.
use Rattle.std.proofs.Common.{◌≡◌, ℕ, ◌+◌, Result, Ok, Err, List, ◌∷◌, ◌++◌, length, refl, sym, ap, subst}
use Rattle.std.specs.Prelude.{OnOk, nat_lt}
use Rattle.std.proofs.lemmas.Bool.{cond-true, cond-false}
use Rattle.rds_history.specs.Events.{Event, Printed}
use Rattle.rds_history.specs.Courses.{Course, and_then, if_room, prints}
use Rattle.rds_history.specs.Journals.{journal}
use Rattle.rds_play_hosts.specs.HostLaws.{untouched}
use Rattle.rds_play_world.specs.declared.stop.Stop.{Stop}
use Rattle.rds_play_world.specs.declared.stop.Stop.TheVariants as stop
use Rattle.rds_play_world.specs.Readiness.{IsMemory, LacksMemory, Readies}
use Rattle.rds_play_world.specs.Coming.{ComesWaiting}
use Rattle.rds_play_world.specs.Telling.{State, TellsWaiting, Waiting}

-- there may always be no memory
pub comes_memory : (A : Type 0) (w : Waiting) (limit hosts : ℕ) (course : Course) (s : State) → ComesWaiting {A = A} w limit hosts course (Err stop.Memory) s
comes_memory A w limit hosts (Ok past) s = tt
comes_memory A w limit hosts (Err full) s = tt

pub comes_lacking : (A : Type 0) (w : Waiting) (limit hosts : ℕ) (course : Course) (why : Stop) (s : State) → IsMemory why →
    ComesWaiting {A = A} w limit hosts course (Err why) s
comes_lacking A w limit hosts course stop.Memory s lacks = comes_memory A w limit hosts course s
comes_lacking A w limit hosts course (stop.Spent full) s lacks = absurd lacks

-- the step leads here, or there is no memory
pub comes_made : (A : Type 0) (w : Waiting) (limit hosts : ℕ) (later : List Event) (result : Result A Stop) (s : State) →
    OnOk result (TellsWaiting w limit hosts later s) → LacksMemory result → ComesWaiting w limit hosts (Ok later) result s
comes_made A w limit hosts later (Ok x) s made lacks = made
comes_made A w limit hosts later (Err why) s made lacks = lacks

-- the first step was stopped
pub comes_stopped : (A B : Type 0) (v w : Waiting) (limit hosts : ℕ) (first : Course) (next : List Event → Course) (why : Stop) (s t : State) →
    ComesWaiting {A = A} v limit hosts first (Err why) s → ComesWaiting {A = B} w limit hosts (and_then first next) (Err why) t
comes_stopped A B v w limit hosts (Ok past) next why s t comes = comes_lacking B w limit hosts (next past) why t comes
comes_stopped A B v w limit hosts (Err full) next why s t comes = comes

-- the first step went well, and then the next
pub comes_then : {A B : Type 0} (v w : Waiting) (limit hosts : ℕ) (first : Course) (next : List Event → Course) (x : A) (result : Result B Stop) (s t : State) →
    ComesWaiting v limit hosts first (Ok x) s →
    ((later : List Event) → first ≡ Ok later → TellsWaiting v limit hosts later s → ComesWaiting w limit hosts (next later) result t) →
    ComesWaiting w limit hosts (and_then first next) result t
comes_then v w limit hosts (Ok later) next x result s t comes step = step later refl comes
comes_then v w limit hosts (Err full) next x result s t comes step = absurd comes

-- a journal had room, or was full
pub comes_ready : {A : Type 0} (w : Waiting) (limit hosts h k : ℕ) (past : List Event) (result : Result A Stop) (s t : State) → t ≡ s →
    TellsWaiting w limit hosts past s → Readies limit h k (journal h k past) result → ComesWaiting w limit hosts (if_room limit h k past) result t
comes_ready {A} w limit hosts h k past (Ok x) s t same told room =
    subst (λ (c : Course). ComesWaiting {A = A} w limit hosts c (Ok x) t)
    (sym (cond-false (nat_lt limit (length (journal h k past) + 2)) (Err (record { host = h; peer = k; entries = length (journal h k past) })) (Ok past) room))
    (subst (TellsWaiting w limit hosts past) (sym same) told)
comes_ready {A} w limit hosts h k past (Err stop.Memory) s t same told stopped = comes_memory A w limit hosts (if_room limit h k past) t
comes_ready {A} w limit hosts h k past (Err (stop.Spent full)) s t same told stopped =
    subst (λ (c : Course). ComesWaiting {A = A} w limit hosts c (Err (stop.Spent full)) t)
    (sym (cond-true (nat_lt limit (length (journal h k past) + 2)) (Err (record { host = h; peer = k; entries = length (journal h k past) })) (Ok past) stopped.1))
    stopped.0

-- an event that is no entry, and touches no host's sockets
pub tells_printed : (w : Waiting) (limit hosts : ℕ) (past : List Event) (line : List ℕ) (s : State) → TellsWaiting w limit hosts past s →
    TellsWaiting w limit hosts (Printed line ∷ past) (record s { text = s.text ++ line })
tells_printed w limit hosts past line s t = record {
  limit_is = t.limit_is;
  count_is = t.count_is;
  text_is = ap (λ (x : List ℕ). x ++ line) t.text_is;
  hosts_are = λ a a_in x is. untouched a (Printed line) past x tt (t.hosts_are a a_in x is);
  ends_are = λ a b a_in b_in apart. let e = t.ends_are a b a_in b_in apart in record {
    slots_are = e.slots_are;
    journal_is = e.journal_is;
    limit_is = e.limit_is;
    waiting_is = e.waiting_is;
    flying_is = e.flying_is;
    within = e.within;
  };
  peers_are = λ a b a_in b_in p is. let q = t.peers_are a b a_in b_in p is in record { map_is = q.map_is; version_is = q.version_is };
}

pub comes_printed : {A : Type 0} (w : Waiting) (limit hosts : ℕ) (past : List Event) (line : List ℕ) (x : A) (s t : State) → TellsWaiting w limit hosts past s →
    t ≡ record s { text = s.text ++ line } → ComesWaiting w limit hosts (prints line past) (Ok x) t
comes_printed w limit hosts past line x s t told is =
    subst (λ (u : State). TellsWaiting w limit hosts (Printed line ∷ past) u) (sym is) (tells_printed w limit hosts past line s told)
