-- A step that is taken for each of a list, and how far a loop over it has come.
use Rattle.std.proofs.Common.{◌≡◌, ⊎_elim, ℕ, zero, suc, ◌+◌, ◌-◌, ◌<◌, ◌≤◌, Bool, true, false, cond, Result, Ok, Err, List, [], ◌∷◌, ◌++◌, map, refl, sym, ◌∙◌, ap, subst, arith}
use Rattle.std.specs.Prelude.{nat_lt, min, ◌||◌}
use Rattle.std.specs.List.{filter, flat_map, range_with_len}
use Rattle.std.proofs.lemmas.Bool.{cases_lt, cond-true, cond-false, lt-ltb, le-ltb, ltb-true, ltb-false}
use Rattle.std.proofs.lemmas.List.Elements.{filter-append}
use Rattle.rds_text.specs.Ports.{below}
use Rattle.rds_history.specs.Courses.{Course, again, and_then, each}
use Rattle.rds_history.specs.Drain.{HostPair, pairs}
use Rattle.rds_history.specs.Events.{Event}
use Rattle.rds_history.specs.Journals.{moved_in_all}
use Rattle.rds_play_world.specs.declared.stop.Stop.{Stop}
use Rattle.rds_play_world.specs.declared.stop.Stop.TheVariants as stop
use Rattle.rds_play_world.specs.Coming.{Comes, ComesRight}
use Rattle.rds_play_world.specs.Draining.{SaysMoved, pairs_above}
use Rattle.rds_play_world.specs.Readiness.{IsMemory}
use Rattle.rds_play_world.specs.Telling.{State, Tells, none_waits}
use Rattle.rds_play_world.proofs.Comings.{comes_lacking}

each_append : {X : Type 0} (xs ys : List X) (act : X → List Event → Course) (past : List Event) →
    each (xs ++ ys) act past ≡ and_then (each xs act past) (each ys act)
each_append [] ys act past = refl
each_append (x ∷ xs) ys act past = go (act x past) (λ later. each_append xs ys act later)
  where
    go : (c : Course) → ((later : List Event) → each (xs ++ ys) act later ≡ and_then (each xs act later) (each ys act)) →
        and_then c (each (xs ++ ys) act) ≡ and_then (and_then c (each xs act)) (each ys act)
    go (Ok later) rest = rest later
    go (Err full) rest = refl

-- two steps that are the same from each past
and_same : (c : Course) (f g : List Event → Course) → ((later : List Event) → f later ≡ g later) → and_then c f ≡ and_then c g
and_same (Ok later) f g same = same later
and_same (Err full) f g same = refl

pub each_flat_map : {X Y : Type 0} (f : X → List Y) (xs : List X) (act : Y → List Event → Course) (past : List Event) →
    each (flat_map f xs) act past ≡ each xs (λ x. each (f x) act) past
each_flat_map f [] act past = refl
each_flat_map f (x ∷ xs) act past =
    each_append (f x) (flat_map f xs) act past
    ∙ and_same (each (f x) act past) (each (flat_map f xs) act) (each xs (λ x. each (f x) act)) (λ later. each_flat_map f xs act later)

pub each_map : {X Y : Type 0} (g : X → Y) (xs : List X) (act : Y → List Event → Course) (past : List Event) →
    each (map g xs) act past ≡ each xs (λ x. act (g x)) past
each_map g [] act past = refl
each_map g (x ∷ xs) act past = and_same (act (g x) past) (each (map g xs) act) (each xs (λ x. act (g x))) (λ later. each_map g xs act later)

-- a loop over a list has come so far: what is left leads to where the whole leads
pub record Reaches {X : Type 0} (IsRight : List Event → Type 0) (limit hosts : ℕ) (whole : Course) (rest : List X) (act : X → List Event → Course) (s : State) : Type 0 where
  pub mid : List Event
  pub same : whole ≡ each rest act mid
  pub right : IsRight mid
  pub told : Tells limit hosts mid s

-- one more
pub reaches_more : {X A : Type 0} (R Q : List Event → Type 0) (limit hosts : ℕ) (whole : Course) (x : X) (rest : List X) (act : X → List Event → Course)
    (IsRight : List Event → A → Type 0) (a : A) (s t : State) → (p : Reaches R limit hosts whole (x ∷ rest) act s) →
    ComesRight IsRight none_waits limit hosts (act x p.mid) (Ok a) t → ((later : List Event) → IsRight later a → Q later) →
    Reaches Q limit hosts whole rest act t
reaches_more {X} {A} R Q limit hosts whole x rest act IsRight a s t p comes right = go (act x p.mid) refl comes
  where
    go : (c : Course) → act x p.mid ≡ c → ComesRight IsRight none_waits limit hosts c (Ok a) t → Reaches Q limit hosts whole rest act t
    go (Ok later) is told = record { mid = later; same = p.same ∙ ap (λ (c : Course). and_then c (each rest act)) is; right = right later told.1; told = told.0 }
    go (Err full) is told = absurd told

pub reaches_next : {X A : Type 0} (limit hosts : ℕ) (whole : Course) (x : X) (rest : List X) (act : X → List Event → Course)
    (a : A) (s t : State) → (p : Reaches (λ _. Unit {0}) limit hosts whole (x ∷ rest) act s) →
    Comes limit hosts (act x p.mid) (Ok a) t → Reaches (λ _. Unit {0}) limit hosts whole rest act t
reaches_next {X} {A} limit hosts whole x rest act a s t p comes = go (act x p.mid) refl comes
  where
    go : (c : Course) → act x p.mid ≡ c → Comes {A = A} limit hosts c (Ok a) t → Reaches (λ _. Unit {0}) limit hosts whole rest act t
    go (Ok later) is told = record { mid = later; same = p.same ∙ ap (λ (c : Course). and_then c (each rest act)) is; right = tt; told = told }
    go (Err full) is told = absurd told

-- a step was stopped, and so the whole
pub reaches_stopped : {X : Type 0} (A B : Type 0) (R : List Event → Type 0) (limit hosts : ℕ) (whole : Course) (x : X) (rest : List X) (act : X → List Event → Course)
    (why : Stop) (s t u : State) → (p : Reaches R limit hosts whole (x ∷ rest) act s) →
    Comes {A = A} limit hosts (act x p.mid) (Err why) t → Comes {A = B} limit hosts whole (Err why) u
reaches_stopped {X} A B R limit hosts whole x rest act why s t u p comes =
    subst (λ (c : Course). Comes {A = B} limit hosts c (Err why) u) (sym p.same) (go (act x p.mid) comes)
  where
    go : (c : Course) → Comes {A = A} limit hosts c (Err why) t → Comes {A = B} limit hosts (and_then c (each rest act)) (Err why) u
    go (Ok later) lacks = comes_lacking B none_waits limit hosts (each rest act later) why u lacks
    go (Err full) stops = stops

-- nothing is left
pub reaches_end : {X A : Type 0} (R : List Event → Type 0) (limit hosts : ℕ) (whole : Course) (act : X → List Event → Course) (a : A) (s : State) →
    Reaches R limit hosts whole [] act s → Comes limit hosts whole (Ok a) s
reaches_end {X} {A} R limit hosts whole act a s p = subst (λ (c : Course). Comes {A = A} limit hosts c (Ok a) s) (sym p.same) p.told

pub reaches_right : {X A : Type 0} (R : List Event → Type 0) (IsRight : List Event → A → Type 0) (limit hosts : ℕ) (whole : Course) (act : X → List Event → Course)
    (a : A) (s : State) → (p : Reaches R limit hosts whole [] act s) → IsRight p.mid a → ComesRight IsRight none_waits limit hosts whole (Ok a) s
reaches_right {X} {A} R IsRight limit hosts whole act a s p right =
    subst (λ (c : Course). ComesRight IsRight none_waits limit hosts c (Ok a) s) (sym p.same) (p.told, right)

-- the numbers below another, and those of them above a third, as ranges
range_push : (a n : ℕ) → range_with_len a n ++ (a + n) ∷ [] ≡ range_with_len a (suc n)
range_push a zero = let e : a + 0 ≡ a = omega arith in ap (λ i. i ∷ []) e
range_push a (suc n) =
    let e : a + suc n ≡ a + 1 + n = omega arith in
    ap (λ (l : List ℕ). a ∷ l) (ap (λ i. range_with_len (a + 1) n ++ i ∷ []) e ∙ range_push (a + 1) n)

pub below_range : (n : ℕ) → below n ≡ range_with_len 0 n
below_range zero = refl
below_range (suc n) =
    let e : n ≡ 0 + n = omega arith in
    ap (λ (l : List ℕ). l ++ n ∷ []) (below_range n) ∙ ap (λ i. range_with_len 0 n ++ i ∷ []) e ∙ range_push 0 n

append_nil : {X : Type 0} (xs : List X) → xs ++ [] ≡ xs
append_nil [] = refl
append_nil (x ∷ xs) = ap (λ l. x ∷ l) (append_nil xs)

pub above_range : (low n : ℕ) → filter (nat_lt low) (below n) ≡ range_with_len (low + 1) (n - (low + 1))
above_range low zero = let none : 0 - (low + 1) ≡ 0 = omega arith in ap (range_with_len (low + 1)) (sym none)
above_range low (suc n) =
    filter-append (nat_lt low) (below n) (n ∷ [])
    ∙ ap (λ (l : List ℕ). l ++ cond (nat_lt low n) (n ∷ []) []) (above_range low n)
    ∙ ⊎_elim
    (λ (less : low < n).
    let m = n - (low + 1) in
    let at : n ≡ low + 1 + m = omega (arith, less) in
    let more : suc n - (low + 1) ≡ suc m = omega (arith, less) in
    ap (λ (b : Bool). range_with_len (low + 1) m ++ cond b (n ∷ []) []) (lt-ltb low n less)
    ∙ ap (λ i. range_with_len (low + 1) m ++ i ∷ []) at ∙ range_push (low + 1) m ∙ ap (range_with_len (low + 1)) (sym more))
    (λ (more : n ≤ low).
    let none : n - (low + 1) ≡ 0 = omega (arith, more) in
    let still : suc n - (low + 1) ≡ 0 = omega (arith, more) in
    ap (λ (b : Bool). range_with_len (low + 1) (n - (low + 1)) ++ cond b (n ∷ []) []) (le-ltb low n more)
    ∙ append_nil (range_with_len (low + 1) (n - (low + 1))) ∙ ap (range_with_len (low + 1)) (none ∙ sym still))
    (cases_lt low n)

-- a range that isn't empty
pub range_next : (i n : ℕ) → i < n → range_with_len i (n - i) ≡ i ∷ range_with_len (i + 1) (n - (i + 1))
range_next i n less = let e : n - i ≡ suc (n - (i + 1)) = omega (arith, less) in ap (range_with_len i) e

pub range_done : (i n : ℕ) → n ≤ i → range_with_len i (n - i) ≡ []
range_done i n more = let e : n - i ≡ 0 = omega (arith, more) in ap (range_with_len i) e

pub pair_of : (low high : ℕ) → HostPair
pair_of low high = record { low = low; high = high }

-- the pairs of one host, by the other, and all pairs, by the lower host
pub each_above : (low hosts : ℕ) (act : HostPair → List Event → Course) (past : List Event) →
    each (pairs_above low hosts) act past ≡ each (range_with_len (low + 1) (hosts - (low + 1))) (λ high. act (record { low = low; high = high })) past
each_above low hosts act past =
    each_map (λ high. record { low = low; high = high }) (filter (nat_lt low) (below hosts)) act past
    ∙ ap (λ (l : List ℕ). each l (λ high. act (record { low = low; high = high })) past) (above_range low hosts)

pub each_pair : (hosts : ℕ) (act : HostPair → List Event → Course) (past : List Event) →
    each (pairs hosts) act past ≡ each (range_with_len 0 hosts) (λ low. each (pairs_above low hosts) act) past
each_pair hosts act past =
    each_flat_map (λ low. pairs_above low hosts) (below hosts) act past
    ∙ ap (λ (l : List ℕ). each l (λ low. each (pairs_above low hosts) act) past) (below_range hosts)

-- what an answer says, of one course behind another
pub right_then : {A C : Type 0} (R : List Event → A → Type 0) (Q : List Event → C → Type 0) (limit hosts : ℕ) (first : Course) (next : List Event → Course)
    (x : A) (result : Result C Stop) (s t : State) → ComesRight R none_waits limit hosts first (Ok x) s →
    ((later : List Event) → first ≡ Ok later → Tells limit hosts later s → R later x → ComesRight Q none_waits limit hosts (next later) result t) →
    ComesRight Q none_waits limit hosts (and_then first next) result t
right_then R Q limit hosts (Ok later) next x result s t comes step = step later refl comes.0 comes.1
right_then R Q limit hosts (Err full) next x result s t comes step = absurd comes

pub right_lacks : {C : Type 0} (Q : List Event → C → Type 0) (limit hosts : ℕ) (c : Course) (why : Stop) (t : State) → IsMemory why →
    ComesRight Q none_waits limit hosts c (Err why) t
right_lacks Q limit hosts (Ok past) why t lacks = lacks
right_lacks Q limit hosts (Err full) stop.Memory t lacks = tt
right_lacks Q limit hosts (Err full) (stop.Spent f) t lacks = absurd lacks

pub right_stopped : {A C : Type 0} (R : List Event → A → Type 0) (Q : List Event → C → Type 0) (limit hosts : ℕ) (first : Course) (next : List Event → Course)
    (why : Stop) (s t : State) → ComesRight R none_waits limit hosts first (Err why) s → ComesRight Q none_waits limit hosts (and_then first next) (Err why) t
right_stopped R Q limit hosts (Ok later) next why s t comes = right_lacks Q limit hosts (next later) why t comes
right_stopped R Q limit hosts (Err full) next why s t comes = comes

pub right_map : {A C : Type 0} (R : List Event → A → Type 0) (Q : List Event → C → Type 0) (limit hosts : ℕ) (c : Course) (a : A) (b : C) (t : State) →
    ComesRight R none_waits limit hosts c (Ok a) t → ((later : List Event) → c ≡ Ok later → R later a → Q later b) → ComesRight Q none_waits limit hosts c (Ok b) t
right_map R Q limit hosts (Ok later) a b t comes step = (comes.0, step later refl comes.1)
right_map R Q limit hosts (Err full) a b t comes step = absurd comes

-- a stop is a stop, whatever the answer would have said
pub right_same_stop : {A C : Type 0} (R : List Event → A → Type 0) (Q : List Event → C → Type 0) (limit hosts : ℕ) (c : Course) (why : Stop) (s t : State) →
    ComesRight R none_waits limit hosts c (Err why) s → ComesRight Q none_waits limit hosts c (Err why) t
right_same_stop R Q limit hosts (Ok past) why s t comes = comes
right_same_stop R Q limit hosts (Err full) why s t comes = comes

-- whether a byte moved, over two courses
pub moved_then : (a b c : ℕ) (x y : Bool) → a ≤ b → b ≤ c → x ≡ nat_lt a b → y ≡ nat_lt b c → (x || y) ≡ nat_lt a c
moved_then a b c true y ab bc x_is y_is =
    let less = ltb-true a b (sym x_is) in sym (lt-ltb a c (omega (arith, less, bc)))
moved_then a b c false y ab bc x_is y_is =
    let same : a ≡ b = (let more = ltb-false a b (sym x_is) in omega (arith, more, ab)) in
    y_is ∙ ap (λ n. nat_lt n c) (sym same)

pub moved_by : (a b n : ℕ) → a ≤ b → n ≡ min 18446744073709551615 (b - a) → nat_lt 0 n ≡ nat_lt a b
moved_by a b n ab is = ⊎_elim
    (λ (less : a < b). lt-ltb 0 n (omega (arith, is, less)) ∙ sym (lt-ltb a b less))
    (λ (more : b ≤ a). le-ltb 0 n (omega (arith, is, more)) ∙ sym (le-ltb a b more))
    (cases_lt a b)

-- a step of a loop was stopped, and so the whole
pub right_reached : {X A C : Type 0} (R : List Event → Type 0) (S : List Event → A → Type 0) (Q : List Event → C → Type 0) (limit hosts : ℕ) (whole : Course)
    (x : X) (rest : List X) (act : X → List Event → Course) (why : Stop) (s t u : State) → (p : Reaches R limit hosts whole (x ∷ rest) act s) →
    ComesRight S none_waits limit hosts (act x p.mid) (Err why) t → ComesRight Q none_waits limit hosts whole (Err why) u
right_reached {X} {A} {C} R S Q limit hosts whole x rest act why s t u p comes =
    subst (λ (c : Course). ComesRight Q none_waits limit hosts c (Err why) u) (sym p.same)
    (right_stopped S Q limit hosts (act x p.mid) (each rest act) why t u comes)

-- a step that is taken again has been taken so often: what is left leads to where the whole leads
pub record RunsOn (limit hosts : ℕ) (whole : Course) (times : ℕ) (step : List Event → Course) (s : State) : Type 0 where
  pub mid : List Event
  pub same : whole ≡ again times step mid
  pub told : Tells limit hosts mid s

-- the step moved a byte
pub runs_more : (limit hosts : ℕ) (whole : Course) (n : ℕ) (step : List Event → Course) (s t : State) → (p : RunsOn limit hosts whole (suc n) step s) →
    ComesRight (SaysMoved p.mid) none_waits limit hosts (step p.mid) (Ok true) t → RunsOn limit hosts whole n step t
runs_more limit hosts whole n step s t p comes = go (step p.mid) refl comes
  where
    go : (c : Course) → step p.mid ≡ c → ComesRight (SaysMoved p.mid) none_waits limit hosts c (Ok true) t → RunsOn limit hosts whole n step t
    go (Ok later) is so = record {
      mid = later;
      same = p.same ∙ ap (λ (c : Course). and_then c (λ after_. cond (nat_lt (moved_in_all p.mid) (moved_in_all after_)) (again n step after_) (Ok after_))) is
          ∙ cond-true (nat_lt (moved_in_all p.mid) (moved_in_all later)) (again n step later) (Ok later) (sym so.1.says);
      told = so.0;
    }
    go (Err full) is so = absurd so

-- it moved none
pub runs_out : {A : Type 0} (limit hosts : ℕ) (whole : Course) (n : ℕ) (step : List Event → Course) (a : A) (s t : State) → (p : RunsOn limit hosts whole (suc n) step s) →
    ComesRight (SaysMoved p.mid) none_waits limit hosts (step p.mid) (Ok false) t → Comes limit hosts whole (Ok a) t
runs_out {A} limit hosts whole n step a s t p comes = go (step p.mid) refl comes
  where
    go : (c : Course) → step p.mid ≡ c → ComesRight (SaysMoved p.mid) none_waits limit hosts c (Ok false) t → Comes {A = A} limit hosts whole (Ok a) t
    go (Ok later) is so =
        subst (λ (c : Course). Comes {A = A} limit hosts c (Ok a) t)
        (sym (p.same ∙ ap (λ (c : Course). and_then c (λ after_. cond (nat_lt (moved_in_all p.mid) (moved_in_all after_)) (again n step after_) (Ok after_))) is
        ∙ cond-false (nat_lt (moved_in_all p.mid) (moved_in_all later)) (again n step later) (Ok later) (sym so.1.says)))
        so.0
    go (Err full) is so = absurd so

-- it was stopped
pub runs_stopped : {B : Type 0} (A : Type 0) (S : List Event → B → Type 0) (limit hosts : ℕ) (whole : Course) (n : ℕ) (step : List Event → Course) (why : Stop) (s t : State) →
    (p : RunsOn limit hosts whole (suc n) step s) → ComesRight S none_waits limit hosts (step p.mid) (Err why) t → Comes {A = A} limit hosts whole (Err why) t
runs_stopped {B} A S limit hosts whole n step why s t p comes = go (step p.mid) refl comes
  where
    go : (c : Course) → step p.mid ≡ c → ComesRight S none_waits limit hosts c (Err why) t → Comes {A = A} limit hosts whole (Err why) t
    go (Ok later) is lacks = comes_lacking A none_waits limit hosts whole why t lacks
    go (Err full) is stops =
        subst (λ (c : Course). Comes {A = A} limit hosts c (Err why) t)
        (sym (p.same ∙ ap (λ (c : Course). and_then c (λ after_. cond (nat_lt (moved_in_all p.mid) (moved_in_all after_)) (again n step after_) (Ok after_))) is)) stops

pub runs_end : {A : Type 0} (limit hosts : ℕ) (whole : Course) (step : List Event → Course) (a : A) (s : State) → RunsOn limit hosts whole 0 step s →
    Comes limit hosts whole (Ok a) s
runs_end {A} limit hosts whole step a s p = subst (λ (c : Course). Comes {A = A} limit hosts c (Ok a) s) (sym p.same) p.told
