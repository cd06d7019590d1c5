-- The binds that a calm script begins with: each of them takes its port, and nothing is sent.
use Rattle.std.proofs.Common.{◌≡◌, ◌≢◌, inl, inr, ℕ, zero, suc, ◌+◌, ◌≤◌, Bool, true, false, cond, ◌⊎◌, Some, All, List, [], ◌∷◌, filter, length, slice_get, refl, sym, ap, subst, ◌∙◌, arith}
use Rattle.std.specs.Prelude.{sum_by}
use Rattle.std.proofs.lemmas.Bool.{eq-eqb}
use Rattle.std.proofs.lemmas.List.Elements.{All-head, All-tail}
use Rattle.std.proofs.lemmas.List.Sums.{sum_by-cons}
use Rattle.std.proofs.lemmas.Option.{slice_get_within}
use Rattle.rds_fmap.specs.Readers.{ReaderView}
use Rattle.rds_script.specs.declared.script.Command.{Command}
use Rattle.rds_script.specs.declared.script.Command.TheVariants as script
use Rattle.rds_script.specs.declared.script.Placed.{Placed}
use Rattle.rds_socket.specs.Holding.{Open}
use Rattle.rds_run_callers.specs.Commands.{commander}
use Rattle.rds_run_callers.specs.Doing.{Binds, CannotBind, IsDone, NoneVacant}
use Rattle.rds_run_callers.specs.Places.{Bound, Ended, Place, Spare, Vacant}
use Rattle.rds_run_hosts.specs.Obeyed.{HasObeyed, is_bind_of, is_host}
use Rattle.rds_run_threads.proofs.At.{at_set, stood_at}
use Rattle.rds_run_laws.specs.Calm.{BindsAmply, BindsPort, HasBind}
use Rattle.rds_run_laws.proofs.Callers.{set_sum}
use Rattle.rds_run_laws.proofs.Effects.{AddsNothing, nothing_done, one_quiet, same_routes}
use Rattle.rds_run_laws.proofs.Growing.{AllGrow, AreKind, HasPort, IsKind, obeyed_grow}

-- how many slots are vacant
abbrev pub vacancy : Place → ℕ
vacancy (Vacant h) = 1
vacancy (Bound o got) = 0
vacancy (Ended port h got) = 0
vacancy (Spare h) = 0

abbrev pub vacancies : List Place → ℕ
vacancies places = sum_by vacancy places

none_vacant : (places : List Place) → NoneVacant places → vacancies places ≡ 0
none_vacant [] none = refl
none_vacant (Vacant h ∷ places) none = absurd (none 0 h refl)
none_vacant (Bound o got ∷ places) none =
    let whole = sum_by-cons vacancy (Bound o got) places in let rest = none_vacant places (λ slot h at. none (suc slot) h at) in omega (arith, whole, rest)
none_vacant (Ended port k got ∷ places) none =
    let whole = sum_by-cons vacancy (Ended port k got) places in let rest = none_vacant places (λ slot h at. none (suc slot) h at) in omega (arith, whole, rest)
none_vacant (Spare k ∷ places) none =
    let whole = sum_by-cons vacancy (Spare k) places in let rest = none_vacant places (λ slot h at. none (suc slot) h at) in omega (arith, whole, rest)

nothing_then : (a b c : List Place) → AddsNothing a b → AddsNothing b c → AddsNothing a c
nothing_then a b c first second = record { weight = λ w place. second.weight w place ∙ first.weight w place; total = second.total ∙ first.total }

bound_quietly : (port sndbuf rcvbuf : ℕ) (old new : List Place) → Binds port sndbuf rcvbuf old new → AddsNothing old new
bound_quietly port sndbuf rcvbuf old new (inl (least, free, (slot, h, o, next, fits, is))) =
    one_quiet old new slot (Vacant h) (Bound o []) next.0
    (same_routes (Vacant h) (Bound o []) (ap (λ (x : Open ReaderView). x.own.routes) fits.1) (ap (λ (x : Open ReaderView). x.own.total) fits.1)) is
bound_quietly port sndbuf rcvbuf old new (inr (cannot, is)) = nothing_done old new is

one_less : (port sndbuf rcvbuf : ℕ) (old new : List Place) → Binds port sndbuf rcvbuf old new → vacancies old ≤ vacancies new + 1
one_less port sndbuf rcvbuf old new (inl (least, free, (slot, h, o, next, fits, is))) =
    let changed = set_sum vacancy old slot (Vacant h) (Bound o []) next.0 in
    let whole = ap vacancies is in
    omega (arith, changed, whole)
one_less port sndbuf rcvbuf old new (inr (cannot, is)) = let whole = ap vacancies is in omega (arith, whole)

module _ (host bytes : ℕ) where
  -- a socket has the port
  abbrev pub IsHeldIn : ℕ → List Place → Type 0
  IsHeldIn port places = (slot : ℕ) × (p : Place) × (slice_get places slot ≡ Some p) × HasPort bytes port p

  held_then : (port : ℕ) (old new : List Place) → AllGrow bytes old new → IsHeldIn port old → IsHeldIn port new
  held_then port old new grow (slot, p, at, has) =
      let now = stood_at new old slot p (sym grow.count) at in
      (slot, now.0, now.1, (grow.each slot p now.0 at now.1).held port has)

  bound_now : (port sndbuf rcvbuf : ℕ) (old new : List Place) → 2 ≤ port → 1 ≤ vacancies old → Binds port sndbuf rcvbuf old new → IsHeldIn port new
  bound_now port sndbuf rcvbuf old new least some (inl (above, free, (slot, h, o, next, fits, is))) = (
    slot,
    Bound o [],
    subst (λ (l : List Place). slice_get l slot ≡ Some (Bound o [])) (sym is) (at_set old slot (Bound o []) (slice_get_within old slot (Vacant h) next.0)),
    ap (λ (x : Open ReaderView). x.port) fits.1,
  )
  bound_now port sndbuf rcvbuf old new least some (inr (cannot, is)) = go cannot
    where
      go : CannotBind port old → IsHeldIn port new
      go (inl none) = let zero = none_vacant old none in absurd (omega (arith, zero, some))
      go (inr (inl low)) = absurd (omega (arith, low, least))
      go (inr (inr (slot, o, got, at, has))) = (slot, Bound o got, subst (λ (l : List Place). slice_get l slot ≡ Some (Bound o got)) (sym is) at, has)

  abbrev Amply : Placed → Type 0
  Amply placed = BindsAmply bytes placed.command

  amply_kind : (c : Command) → BindsAmply bytes c → IsKind bytes c
  amply_kind (script.Bind by port sndbuf rcvbuf) amply = amply.1
  amply_kind (script.BindAny by port sndbuf rcvbuf) amply = absurd amply
  amply_kind (script.Send by port to dport payload) amply = absurd amply
  amply_kind (script.Recv by port) amply = absurd amply
  amply_kind (script.Cancel by port to dport) amply = absurd amply
  amply_kind (script.Close by port) amply = absurd amply
  amply_kind (script.Open by to) amply = absurd amply
  amply_kind (script.Move by to size) amply = absurd amply
  amply_kind (script.Cut by to) amply = absurd amply
  amply_kind script.Drain amply = absurd amply

  pub all_amply_kind : (commands : List Placed) → All Amply commands → AreKind bytes commands
  all_amply_kind [] all = tt
  all_amply_kind (placed ∷ commands) all =
      (amply_kind placed.command (All-head Amply placed commands all), all_amply_kind commands (All-tail Amply placed commands all))

  -- one of the host's own binds
  own_bind : (c : Command) (old new : List Place) → BindsAmply bytes c → 1 ≤ vacancies old → IsDone c old new →
      AddsNothing old new × (vacancies old ≤ vacancies new + 1) × ((port : ℕ) → BindsPort host port c → IsHeldIn port new)
  own_bind (script.Bind by port sndbuf rcvbuf) old new amply some done = (
    bound_quietly port sndbuf rcvbuf old new done,
    one_less port sndbuf rcvbuf old new done,
    λ asked is. subst (λ (n : ℕ). IsHeldIn n new) is.1 (bound_now port sndbuf rcvbuf old new amply.0 some done),
  )
  own_bind (script.BindAny by port sndbuf rcvbuf) old new amply some done = absurd amply
  own_bind (script.Send by port to dport payload) old new amply some done = absurd amply
  own_bind (script.Recv by port) old new amply some done = absurd amply
  own_bind (script.Cancel by port to dport) old new amply some done = absurd amply
  own_bind (script.Close by port) old new amply some done = absurd amply
  own_bind (script.Open by to) old new amply some done = absurd amply
  own_bind (script.Move by to size) old new amply some done = absurd amply
  own_bind (script.Cut by to) old new amply some done = absurd amply
  own_bind script.Drain old new amply some done = absurd amply

  is_its_bind : (c : Placed) → BindsAmply bytes c.command → commander c.command ≡ Some host → is_bind_of host c ≡ true
  is_its_bind c amply own = go c.command amply ∙ ap (is_host host) own ∙ eq-eqb host host refl
    where
      go : (command : Command) → BindsAmply bytes command → is_bind_of host (record c { command = command }) ≡ is_host host (commander command)
      go (script.Bind by port sndbuf rcvbuf) amply = refl
      go (script.BindAny by port sndbuf rcvbuf) amply = absurd amply
      go (script.Send by port to dport payload) amply = absurd amply
      go (script.Recv by port) amply = absurd amply
      go (script.Cancel by port to dport) amply = absurd amply
      go (script.Close by port) amply = absurd amply
      go (script.Open by to) amply = absurd amply
      go (script.Move by to size) amply = absurd amply
      go (script.Cut by to) amply = absurd amply
      go script.Drain amply = absurd amply

  not_another : (c : Command) (port : ℕ) → commander c ≢ Some host → BindsPort host port c → ⊥
  not_another (script.Bind by own sndbuf rcvbuf) port other is = other (ap Some is.0)
  not_another (script.BindAny by own sndbuf rcvbuf) port other is = absurd is
  not_another (script.Send by own to dport payload) port other is = absurd is
  not_another (script.Recv by own) port other is = absurd is
  not_another (script.Cancel by own to dport) port other is = absurd is
  not_another (script.Close by own) port other is = absurd is
  not_another (script.Open by to) port other is = absurd is
  not_another (script.Move by to size) port other is = absurd is
  not_another (script.Cut by to) port other is = absurd is
  not_another script.Drain port other is = absurd is

  first_or_later : (placed : Placed) (commands : List Placed) (port : ℕ) → HasBind host port (placed ∷ commands) → BindsPort host port placed.command ⊎ HasBind host port commands
  first_or_later placed commands port (p, (zero, within, is), binds) = inl (subst (λ (x : Placed). BindsPort host port x.command) (sym is) binds)
  first_or_later placed commands port (p, (suc k, within, is), binds) = inr (p, (k, omega (arith, within), is), binds)

  -- all of them
  pub lead : (commands : List Placed) (first last : List Place) → All Amply commands → HasObeyed host commands first last →
      length (filter (is_bind_of host) commands) ≤ vacancies first → AddsNothing first last × ((port : ℕ) → HasBind host port commands → IsHeldIn port last)
  lead [] first last amply same few = (nothing_done first last same, λ port (p, (k, within, is), binds). absurd (omega (arith, within)))
  lead (placed ∷ commands) first last amply (middle, inl (own, did), later) few =
      let this = All-head Amply placed commands amply in
      let rest = All-tail Amply placed commands amply in
      let list = filter (is_bind_of host) commands in
      let long : length (filter (is_bind_of host) (placed ∷ commands)) ≡ suc (length list) =
      ap (λ (b : Bool). length (cond b (placed ∷ list) list)) (is_its_bind placed this own) in
      let done = own_bind placed.command first middle this (omega (arith, few, long)) did in
      let fewer = done.1 in
      let then = lead commands middle last rest later (omega (arith, few, long, fewer)) in
      let grow = obeyed_grow bytes host commands middle last (all_amply_kind commands rest) later in
      (nothing_then first middle last done.0 then.0, λ port bind. go port done.2 then.1 grow (first_or_later placed commands port bind))
    where
      go : (port : ℕ) → ((n : ℕ) → BindsPort host n placed.command → IsHeldIn n middle) → ((n : ℕ) → HasBind host n commands → IsHeldIn n last) →
          AllGrow bytes middle last → BindsPort host port placed.command ⊎ HasBind host port commands → IsHeldIn port last
      go port here there grow (inl is) = held_then port middle last grow (here port is)
      go port here there grow (inr is) = there port is
  lead (placed ∷ commands) first last amply (middle, inr (other, same), later) few =
      let list = filter (is_bind_of host) commands in
      let fewer = no_longer (is_bind_of host placed) list in
      let whole = ap vacancies same in
      let then = lead commands middle last (All-tail Amply placed commands amply) later (omega (arith, few, fewer, whole)) in
      (nothing_then first middle last (nothing_done first middle same) then.0, λ port bind. go port then.1 (first_or_later placed commands port bind))
    where
      no_longer : (b : Bool) (list : List Placed) → length list ≤ length (cond b (placed ∷ list) list)
      no_longer true list = omega arith
      no_longer false list = omega arith

      go : (port : ℕ) → ((n : ℕ) → HasBind host n commands → IsHeldIn n last) → BindsPort host port placed.command ⊎ HasBind host port commands → IsHeldIn port last
      go port there (inl is) = absurd (not_another placed.command port other is)
      go port there (inr is) = there port is
