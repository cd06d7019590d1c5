-- What hosts and journals tell in the end, in lists.
use Rattle.std.proofs.Common.{◌≡◌, ℕ, zero, suc, ◌<◌, ◌≤◌, ◌==◌, Bool, true, false, cond, not, List, [], ◌∷◌, ◌++◌, Vec, Global, length, map, get_or, refl, sym, ◌∙◌, ap, subst, arith}
use Rattle.std.specs.List.{All, filter, zip}
use Rattle.std.proofs.lemmas.Bool.{eq-eqb, both_ways}
use Rattle.std.proofs.lemmas.List.{map-append}
use Rattle.std.proofs.lemmas.List.Elements.{All-nil, All-cons, All-append, All-head, All-tail, All-weaker}
use Rattle.rds_text.specs.Ports.{below}
use Rattle.rds_model.specs.declared.entry.Entry.{Entry}
use Rattle.rds_model.specs.Log.{Log}
use Rattle.rds_text.specs.declared.final_state.HostEnd.{HostEnd}
use Rattle.rds_text.specs.FinalState.{FinalHost, FinalJournal, FinalSocket}
use Rattle.rds_text.specs.Hosts.{address_of}
use Rattle.rds_text.specs.FinalViews.{host_views, host_view}
use Rattle.rds_play_mesh.specs.Ends.{MeshView}
use Rattle.rds_play_mesh.specs.FinalJournals.{HoldJournals, journal_with}
use Rattle.rds_history.specs.Events.{Event}
use Rattle.rds_history.specs.History.{sockets, final_host, final_hosts}
use Rattle.rds_history.specs.Journals.{journal}
use Rattle.rds_play_world.specs.Ending.{JournalsTell}
use Rattle.rds_play_world.specs.Telling.{EndsTell, HostsTell, State, Tells, none_waits}

pub map_push : {X Y : Type 0} (f : X → Y) (xs : List X) (x : X) → map f (xs ++ x ∷ []) ≡ map f xs ++ f x ∷ []
map_push f xs x = map-append f xs (x ∷ [])

-- one more host, in its turn
pub ends_more : (count n : ℕ) (past : List Event) (ends : List HostEnd) (e : HostEnd) →
    host_views ends ≡ map (λ h. final_host count h past) (below n) → host_view e ≡ final_host count n past →
    host_views (ends ++ e ∷ []) ≡ map (λ h. final_host count h past) (below (suc n))
ends_more count n past ends e before is =
    map_push host_view ends e ∙ ap (λ (l : List FinalHost). l ++ host_view e ∷ []) before
    ∙ ap (λ (x : FinalHost). map (λ h. final_host count h past) (below n) ++ x ∷ []) is ∙ sym (map_push (λ h. final_host count h past) (below n) n)

-- a host by its parts
pub end_told : (count h addr : ℕ) (past : List Event) (js : List FinalJournal) (ks : List FinalSocket) →
    addr ≡ address_of h → js ≡ (final_host count h past).sides → ks ≡ sockets h past →
    record { addr = addr; sides = js; sockets = ks } ≡ final_host count h past
end_told count h addr past js ks addr_is js_are ks_are =
    ap (λ a. record { addr = a; sides = js; sockets = ks }) addr_is
    ∙ ap (λ (l : List FinalJournal). record { addr = address_of h; sides = l; sockets = ks }) js_are
    ∙ ap (λ (l : List FinalSocket). record { addr = address_of h; sides = (final_host count h past).sides; sockets = l }) ks_are

pub below_less : (n m : ℕ) → n ≤ m → All (λ k. k < m) (below n)
below_less zero m few = All-nil (λ k. k < m)
below_less (suc n) m few =
    All-append (λ k. k < m) (below n) (n ∷ []) (below_less n m (omega arith)) (All-cons (λ k. k < m) n [] (omega arith) (All-nil (λ k. k < m)))

-- two ways to see numbers that pass a test, and that agree at those
seen_alike : {Y : Type 0} (f g : ℕ → Y) (p : ℕ → Bool) (xs : List ℕ) → All (λ k. p k ≡ true → f k ≡ g k) xs → map f (filter p xs) ≡ map g (filter p xs)
seen_alike f g p [] each = refl
seen_alike {Y} f g p (x ∷ xs) each = both (p x) (All-head (λ k. p k ≡ true → f k ≡ g k) x xs each) (seen_alike f g p xs (All-tail (λ k. p k ≡ true → f k ≡ g k) x xs each))
  where
    both : (b : Bool) → (b ≡ true → f x ≡ g x) → map f (filter p xs) ≡ map g (filter p xs) →
        map f (cond b (x ∷ filter p xs) (filter p xs)) ≡ map g (cond b (x ∷ filter p xs) (filter p xs))
    both true here rest = ap (λ (y : Y). y ∷ map f (filter p xs)) (here refl) ∙ ap (λ (l : List Y). g x ∷ l) rest
    both false here rest = rest

not_same : (h k : ℕ) → not (k == h) ≡ true → k ≡ h → ⊥
not_same h k apart e = both_ways (not (k == h)) (ap not (eq-eqb k h e)) apart

-- the journals of a mesh whose ends tell the past
pub journals_told : (limit hosts : ℕ) (past : List Event) (m : MeshView) (rows : List (Vec (ℕ × Log) Global)) → EndsTell limit hosts none_waits past m →
    HoldJournals hosts m rows → JournalsTell hosts past rows
journals_told limit hosts past m rows told held = λ h h_in row is.
    held h h_in row is
    ∙ seen_alike (λ k. journal_with h k m) (λ k. record { peer = address_of k; past = journal h k past }) (λ k. not (k == h)) (below hosts)
    (All-weaker (λ k. k < hosts) (λ k. not (k == h) ≡ true → journal_with h k m ≡ record { peer = address_of k; past = journal h k past })
    (λ k k_in apart. ap (λ (j : List Entry). record { peer = address_of k; past = j }) (told h k h_in k_in (not_same h k apart)).journal_is)
    (below hosts) (below_less hosts hosts (omega arith)))

-- where two lists are gone through together
pub record IsAt {X Y : Type 0} (xs : List X) (ys : List Y) (n : ℕ) (x : X) (y : Y) : Type 0 where
  pub first_in : n < length xs
  pub first_is : x ≡ get_or xs n x
  pub second_is : y ≡ get_or ys n y

pub zipped_at : {X Y : Type 0} (xs : List X) (ys : List Y) (n : ℕ) (x : X) (y : Y) → n < length (zip xs ys) → (x, y) ≡ get_or (zip xs ys) n (x, y) → IsAt xs ys n x y
zipped_at [] ys n x y n_in is = absurd (omega (arith, n_in))
zipped_at (a ∷ xs) [] n x y n_in is = absurd (omega (arith, n_in))
zipped_at {X} {Y} (a ∷ xs) (b ∷ ys) zero x y n_in is =
    record { first_in = omega arith; first_is = ap (λ (p : X × Y). p.0) is; second_is = ap (λ (p : X × Y). p.1) is }
zipped_at (a ∷ xs) (b ∷ ys) (suc n) x y n_in is =
    let later = zipped_at xs ys n x y (omega (arith, n_in)) is in
    let in_rest = later.first_in in
    record { first_in = omega (arith, in_rest); first_is = later.first_is; second_is = later.second_is }

pub zipped_all : {X Y : Type 0} (xs : List X) (ys : List Y) → length ys ≡ length xs → length (zip xs ys) ≡ length xs
zipped_all [] ys same = refl
zipped_all (a ∷ xs) [] same = absurd (omega (arith, same))
zipped_all (a ∷ xs) (b ∷ ys) same = let rest = zipped_all xs ys (omega (arith, same)) in omega (arith, rest)

-- what each host of a world has in the end
pub ends_told : (limit hosts size : ℕ) (past : List Event) (s : State) (rows : List (Vec (ℕ × Log) Global)) (ends : List HostEnd) → Tells limit hosts past s →
    s.mesh.count ≡ s.count → size ≡ s.count → HoldJournals s.mesh.count s.mesh rows →
    (HostsTell size past s.hosts → JournalsTell size past rows → host_views ends ≡ final_hosts size past) → host_views ends ≡ final_hosts hosts past
ends_told limit hosts size past s rows ends told meshed housed held step =
    let same : size ≡ hosts = housed ∙ told.count_is in
    let in_order : HoldJournals hosts s.mesh rows = subst (λ n. HoldJournals n s.mesh rows) (meshed ∙ told.count_is) held in
    step (subst (λ n. HostsTell n past s.hosts) (sym same) told.hosts_are)
    (subst (λ n. JournalsTell n past rows) (sym same) (journals_told limit hosts past s.mesh rows told.ends_are in_order))
    ∙ ap (λ n. final_hosts n past) same
