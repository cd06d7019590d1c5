-- What is made of a course.
use Rattle.std.proofs.Common.{◌≡◌, ℕ, Ok, Err, List, [], ◌∷◌, ◌++◌, refl, sym, ◌∙◌, ap, subst}
use Rattle.rds_script.specs.declared.script.Placed.{Placed}
use Rattle.rds_history.specs.Courses.{Course, and_then}
use Rattle.rds_history.specs.Events.{Event}
use Rattle.rds_history.specs.History.{after, history}
use Rattle.rds_play_world.specs.declared.stop.Stop.{Stop}
use Rattle.rds_play_world.specs.declared.stop.Stop.TheVariants as stop
use Rattle.rds_play_world.specs.Coming.{Comes}
use Rattle.rds_play.specs.Following.{FollowsCourse}
use Rattle.rds_play_world.specs.Readiness.{IsMemory}
use Rattle.rds_play_world.specs.Telling.{State, Tells}

-- there may always be no memory
pub follows_memory : {A : Type 0} (P : List Event → A → Type 0) (c : Course) → FollowsCourse P c (Err stop.Memory)
follows_memory P (Ok past) = tt
follows_memory P (Err full) = tt

pub follows_lacking : {A : Type 0} (P : List Event → A → Type 0) (c : Course) (why : Stop) → IsMemory why → FollowsCourse P c (Err why)
follows_lacking P c stop.Memory lacks = follows_memory P c
follows_lacking P c (stop.Spent full) lacks = absurd lacks

-- a stop stays one, whatever was to be made
pub follows_stopped : {A B : Type 0} (P : List Event → A → Type 0) (Q : List Event → B → Type 0) (c : Course) (why : Stop) → FollowsCourse P c (Err why) → FollowsCourse Q c (Err why)
follows_stopped P Q (Ok past) why is = is
follows_stopped P Q (Err full) why is = is

-- what was made is made of a past
pub record Made {A : Type 0} (P : List Event → A → Type 0) (c : Course) (x : A) : Type 0 where
  pub past : List Event
  pub past_is : c ≡ Ok past
  pub right : P past x

pub made_of : {A : Type 0} (P : List Event → A → Type 0) (c : Course) (x : A) → FollowsCourse P c (Ok x) → Made P c x
made_of P (Ok past) x is = record { past = past; past_is = refl; right = is }
made_of P (Err full) x is = absurd is

pub follows_made : {A : Type 0} (P : List Event → A → Type 0) (c : Course) (x : A) (past : List Event) → c ≡ Ok past → P past x → FollowsCourse P c (Ok x)
follows_made P c x past is right = subst (λ d. FollowsCourse P d (Ok x)) (sym is) right

-- how far a history has come
pub record Plays (limit hosts : ℕ) (all rest : List Placed) (s : State) : Type 0 where
  pub past : List Event
  pub same : history limit hosts all [] ≡ history limit hosts rest past
  pub tells : Tells limit hosts past s

-- one command more
pub plays_more : (limit hosts : ℕ) (all rest : List Placed) (placed : Placed) (s t : State) →
    (p : Plays limit hosts all (placed ∷ rest) s) → Comes limit hosts (after limit hosts placed.command p.past) (Ok (tt {0})) t → Plays limit hosts all rest t
plays_more limit hosts all rest placed s t p comes = go (after limit hosts placed.command p.past) refl comes
  where
    go : (c : Course) → after limit hosts placed.command p.past ≡ c → Comes {A = Unit {0}} limit hosts c (Ok (tt {0})) t → Plays limit hosts all rest t
    go (Ok later) is told = record {
      past = later;
      same = p.same ∙ ap (λ (c : Course). and_then c (history limit hosts rest)) is;
      tells = told;
    }
    go (Err full) is told = absurd told

-- a command that was stopped
pub plays_stopped : {A : Type 0} (P : List Event → A → Type 0) (limit hosts : ℕ) (all rest : List Placed) (placed : Placed) (s t : State) (why : Stop) →
    (p : Plays limit hosts all (placed ∷ rest) s) → Comes {A = Unit {0}} limit hosts (after limit hosts placed.command p.past) (Err why) t →
    FollowsCourse P (history limit hosts all []) (Err why)
plays_stopped {A} P limit hosts all rest placed s t why p comes =
    subst (λ c. FollowsCourse P c (Err why)) (sym p.same) (go (after limit hosts placed.command p.past) comes)
  where
    go : (c : Course) → Comes {A = Unit {0}} limit hosts c (Err why) t → FollowsCourse P (and_then c (history limit hosts rest)) (Err why)
    go (Ok later) lacks = follows_lacking P (history limit hosts rest later) why lacks
    go (Err full) stops = stops
