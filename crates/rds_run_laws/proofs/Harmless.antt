-- A calm script has a journal take no order but datagrams to ports other than 0.
use Rattle.std.proofs.Common.{◌≡◌, ◌≢◌, ℕ, ◌<◌, ◌≤◌, ◌==◌, Bool, true, false, cond, All, List, [], ◌∷◌, filter, refl, ap, subst, arith}
use Rattle.std.proofs.lemmas.Bool.{eq-eqb, ne_eqb}
use Rattle.std.proofs.lemmas.List.Elements.{All-cons, All-contains, All-head, All-nil, All-tail}
use Rattle.rds_model.specs.declared.entry.Entry.{Entry}
use Rattle.rds_model.specs.declared.order.Order.{Order}
use Rattle.rds_model.specs.declared.order.Order.TheVariants as order
use Rattle.rds_model.specs.Sums.{orders}
use Rattle.rds_script.specs.declared.script.Command.{Command}
use Rattle.rds_script.specs.declared.script.Command.TheVariants as script
use Rattle.rds_script.specs.declared.script.Placed.{Placed}
use Rattle.rds_run_hosts.specs.Obeyed.{leading_binds}
use Rattle.rds_run_threads.specs.Causes.{IsOfCommands}
use Rattle.rds_run_laws.specs.Calm.{BindsAmply, BindsPort, HasBind, IsCalm, IsCalmAfter}
use Rattle.rds_run_laws.specs.Few.{is_own}
use Rattle.rds_run_laws.specs.Sent.{sent_sum}
use Rattle.rds_run_laws.specs.Weights.{OnlySends, SendsToPort, by_length}
use Rattle.rds_run_laws.proofs.Bounded.{standing_weigh}
use Rattle.rds_run_laws.proofs.Calmly.{of_both}
use Rattle.rds_run_laws.proofs.Doing.{IsWeighed}
use Rattle.rds_run_laws.proofs.Standing.{HaveSlots, have_slots}
use Rattle.rds_run_laws.proofs.Weighing.{weigh, weight_of}

abbrev pub bit : Bool → ℕ
bit true = 1
bit false = 0

-- 1 for an order other than a datagram to such a port; cuts don't count
abbrev harm : Order → ℕ
harm (order.Send slot sport dport payload) = bit (dport == 0)
harm (order.Cancel slot dport) = 1
harm (order.CloseSocket slot) = 1
harm order.Cut = 0

-- the same of a command
abbrev harms : Command → ℕ
harms (script.Send host port to dport payload) = bit (dport == 0)
harms (script.Cancel host port to dport) = 1
harms (script.Close host port) = 1
harms _ = 0

no_order_harms : (list : List Order) → HaveSlots list → weigh harm list ≡ 0 → All SendsToPort list
no_order_harms [] slots none = All-nil SendsToPort
no_order_harms (order.Send slot sport dport payload ∷ list) slots none =
    All-cons SendsToPort (order.Send slot sport dport payload) list
    (λ zero_port. let one = ap bit (eq-eqb dport 0 zero_port) in absurd (omega (arith, one, none)))
    (no_order_harms list slots.1 (omega (arith, none)))
no_order_harms (order.Cancel slot dport ∷ list) slots none = absurd (omega (arith, none))
no_order_harms (order.CloseSocket slot ∷ list) slots none = absurd (omega (arith, none))
no_order_harms (order.Cut ∷ list) slots none = absurd (let is = slots.0.1 in cc)

none_own : (host : ℕ) (commands : List Placed) → All (λ (p : Placed). harms p.command ≡ 0) commands → weight_of harms (filter (is_own host) commands) ≡ 0
none_own host [] all = refl
none_own host (placed ∷ commands) all =
    go (is_own host placed) (All-head (λ (p : Placed). harms p.command ≡ 0) placed commands all)
    (none_own host commands (All-tail (λ (p : Placed). harms p.command ≡ 0) placed commands all))
  where
    go : (b : Bool) → harms placed.command ≡ 0 → weight_of harms (filter (is_own host) commands) ≡ 0 →
        weight_of harms (cond b (placed ∷ filter (is_own host) commands) (filter (is_own host) commands)) ≡ 0
    go true first rest = omega (arith, first, rest)
    go false first rest = rest

module _ (hosts : ℕ) (commands : List Placed) (calm : IsCalm hosts commands) where
  pub bound_above : (host port : ℕ) → HasBind host port (leading_binds commands) → 2 ≤ port
  bound_above host port (placed, inside, takes) =
      go placed.command (All-contains (λ (p : Placed). BindsAmply (sent_sum by_length commands) p.command) (leading_binds commands) placed calm.binds inside) takes
    where
      go : (c : Command) → BindsAmply (sent_sum by_length commands) c → BindsPort host port c → 2 ≤ port
      go (script.Bind by at sndbuf rcvbuf) amply is = subst (λ (n : ℕ). 2 ≤ n) is.1 amply.0
      go (script.BindAny by at sndbuf rcvbuf) amply is = absurd is
      go (script.Send by at to dport payload) amply is = absurd is
      go (script.Recv by at) amply is = absurd is
      go (script.Cancel by at to dport) amply is = absurd is
      go (script.Close by at) amply is = absurd is
      go (script.Open by to) amply is = absurd is
      go (script.Move by to size) amply is = absurd is
      go (script.Cut by to) amply is = absurd is
      go script.Drain amply is = absurd is

  abbrev Harmless : Placed → Type 0
  Harmless p = harms p.command ≡ 0

  bind_harmless : (c : Command) → BindsAmply (sent_sum by_length commands) c → harms c ≡ 0
  bind_harmless (script.Bind by at sndbuf rcvbuf) amply = refl
  bind_harmless (script.BindAny by at sndbuf rcvbuf) amply = absurd amply
  bind_harmless (script.Send by at to dport payload) amply = absurd amply
  bind_harmless (script.Recv by at) amply = absurd amply
  bind_harmless (script.Cancel by at to dport) amply = absurd amply
  bind_harmless (script.Close by at) amply = absurd amply
  bind_harmless (script.Open by to) amply = absurd amply
  bind_harmless (script.Move by to size) amply = absurd amply
  bind_harmless (script.Cut by to) amply = absurd amply
  bind_harmless script.Drain amply = absurd amply

  after_harmless : (c : Command) → IsCalmAfter hosts (leading_binds commands) c → harms c ≡ 0
  after_harmless (script.Bind by at sndbuf rcvbuf) is = absurd is
  after_harmless (script.BindAny by at sndbuf rcvbuf) is = absurd is
  after_harmless (script.Send by at to dport payload) is =
      let above = bound_above to dport is.into in
      ap bit (ne_eqb dport 0 (λ same. omega (arith, above, same)))
  after_harmless (script.Recv by at) is = refl
  after_harmless (script.Cancel by at to dport) is = absurd is
  after_harmless (script.Close by at) is = absurd is
  after_harmless (script.Open by to) is = refl
  after_harmless (script.Move by to size) is = refl
  after_harmless (script.Cut by to) is = refl
  after_harmless script.Drain is = refl

  all_harmless : All Harmless commands
  all_harmless = of_both Harmless commands (λ i d within. bind_harmless _ (calm.binds i d within)) (λ i d within. after_harmless _ (calm.rest i d within))

  pub only_sends : (host peer : ℕ) (past : List Entry) → host < hosts → peer < hosts → peer ≢ host → IsOfCommands hosts host peer commands past → OnlySends past
  only_sends host peer past known also apart of =
      let weighed : IsWeighed harm harms =
      record {
        send = λ _ _ _ _ _ _ _. omega arith;
        cancel = λ _ _ _ _ _. omega arith;
        close = λ _ _ _. omega arith;
        cut = λ _ _. omega arith;
      } in
      let most = standing_weigh harm harms weighed hosts host peer commands past known also apart of in
      let none = none_own host commands all_harmless in
      no_order_harms (orders past) (have_slots past) (omega (arith, most, none))
