-- What the commands have each host send to each other one sums up to what all of them send.
use Rattle.std.proofs.Common.{◌≡◌, ◌≢◌, inl, inr, ℕ, zero, suc, ◌+◌, ◌-◌, ◌<◌, ◌≤◌, ◌==◌, ◌&&◌, Bool, true, false, cond, All, List, [], ◌∷◌, refl, sym, ap, ◌∙◌, arith}
use Rattle.std.proofs.lemmas.Bool.{cases_eq, eq-eqb, ne_eqb}
use Rattle.std.proofs.lemmas.List.Elements.{All-head, All-tail}
use Rattle.rds_script.specs.declared.script.Command.{Command}
use Rattle.rds_script.specs.declared.script.Command.TheVariants as script
use Rattle.rds_script.specs.declared.script.Placed.{Placed}
use Rattle.rds_run_hosts.specs.Obeyed.{leading_binds}
use Rattle.rds_run_rounds.specs.Grid.{peer_at}
use Rattle.rds_run_threads.proofs.Rows.{place_is}
use Rattle.rds_run_laws.specs.Calm.{BindsAmply, IsCalm, IsCalmAfter}
use Rattle.rds_run_laws.specs.Put.{sent_between, sent_to}
use Rattle.rds_run_laws.specs.Sent.{sent_sum}
use Rattle.rds_run_laws.specs.Weights.{Weight, by_length}
use Rattle.rds_run_laws.proofs.At.{sum_up}
use Rattle.rds_run_laws.proofs.Bounded.{place_of}
use Rattle.rds_run_laws.proofs.Calmly.{of_both}
use Rattle.rds_run_laws.proofs.Shares.{sum_up_none, sum_up_plus, sum_up_same}

-- a sum of which one term counts
sum_up_one : (f : ℕ → ℕ) (from count k : ℕ) → from ≤ k → k < from + count → ((i : ℕ) → i ≢ k → f i ≡ 0) → sum_up f from count ≡ f k
sum_up_one f from zero k low high none = absurd (omega (arith, low, high))
sum_up_one f from (suc count) k low high none =
    elim (cases_eq from k) [
      | inl here ↦
          let rest = sum_up_none f (suc from) count (λ i least. none i (λ same. omega (arith, least, same, here))) in
          let same = ap f here in
          omega (arith, rest, same)
      | inr apart ↦
          let first = none from apart in
          let rest = sum_up_one f (suc from) count k (omega (arith, low, apart)) (omega (arith, high)) none in
          omega (arith, first, rest)
    ]

neither : (b : Bool) (v : ℕ) → cond (b && false) v 0 ≡ 0
neither true v = refl
neither false v = refl

-- a send is from one of so many hosts to another
record IsAcross (hosts host to : ℕ) : Type 0 where
  known : host < hosts
  to_known : to < hosts
  apart : to ≢ host

abbrev Crosses : ℕ → Command → Type 0
Crosses hosts (script.Send host port to dport payload) = IsAcross hosts host to
Crosses hosts _ = Unit {0}

module _ (w : (from to : ℕ) → Weight) (hosts : ℕ) where
  -- what a command sends, by a weight that knows its hosts
  abbrev pub routed : Command → ℕ
  routed (script.Send host port to dport payload) = w host to port dport payload
  routed _ = 0

  abbrev pub routed_sum : List Placed → ℕ
  routed_sum [] = 0
  routed_sum (placed ∷ commands) = routed placed.command + routed_sum commands

  abbrev one_way : Command → ℕ → ℕ → ℕ
  one_way c h i = sent_to (w h (peer_at h i)) h (peer_at h i) c

  abbrev other_way : Command → ℕ → ℕ → ℕ
  other_way c h i = sent_to (w (peer_at h i) h) (peer_at h i) h c

  -- over all hosts and places
  abbrev pub over : (ℕ → ℕ → ℕ) → ℕ
  over f = sum_up (λ h. sum_up (f h) 0 (hosts - 1)) 0 hosts

  over_none : (f : ℕ → ℕ → ℕ) → ((h i : ℕ) → f h i ≡ 0) → over f ≡ 0
  over_none f none = sum_up_none (λ h. sum_up (f h) 0 (hosts - 1)) 0 hosts (λ h least. sum_up_none (f h) 0 (hosts - 1) (λ i more. none h i))

  pub over_plus : (f g : ℕ → ℕ → ℕ) → over (λ h i. f h i + g h i) ≡ over f + over g
  over_plus f g =
      sum_up_same (λ h. sum_up (λ i. f h i + g h i) 0 (hosts - 1)) (λ h. sum_up (f h) 0 (hosts - 1) + sum_up (g h) 0 (hosts - 1)) 0 hosts
      (λ h least. sum_up_plus (f h) (g h) 0 (hosts - 1))
      ∙ sum_up_plus (λ h. sum_up (f h) 0 (hosts - 1)) (λ h. sum_up (g h) 0 (hosts - 1)) 0 hosts

  over_same : (f g : ℕ → ℕ → ℕ) → ((h i : ℕ) → f h i ≡ g h i) → over f ≡ over g
  over_same f g same =
      sum_up_same (λ h. sum_up (f h) 0 (hosts - 1)) (λ h. sum_up (g h) 0 (hosts - 1)) 0 hosts (λ h least. sum_up_same (f h) (g h) 0 (hosts - 1) (λ i more. same h i))

  -- a value that counts at one host and one place
  over_one : (f : ℕ → ℕ → ℕ) (k place v : ℕ) → k < hosts → suc place < hosts → ((h i : ℕ) → h ≢ k → f h i ≡ 0) → ((i : ℕ) → i ≢ place → f k i ≡ 0) → f k place ≡ v →
      over f ≡ v
  over_one f k place v known within others rest here =
      sum_up_one (λ h. sum_up (f h) 0 (hosts - 1)) 0 hosts k (omega arith) (omega (arith, known))
      (λ h apart. sum_up_none (f h) 0 (hosts - 1) (λ i least. others h i apart))
      ∙ (sum_up_one (f k) 0 (hosts - 1) place (omega arith) (omega (arith, within)) rest ∙ here)

  both_ways : (c : Command) → Crosses hosts c → (over (one_way c) ≡ routed c) × (over (other_way c) ≡ routed c)
  both_ways (script.Send by port to dport payload) across = (
    (let way = place_of hosts by to across.known across.to_known across.apart in
        over_one (one_way (script.Send by port to dport payload)) by way.0 (w by to port dport payload) across.known way.1
        (λ h i apart. ap (λ (b : Bool). cond (b && (to == peer_at h i)) (w h (peer_at h i) port dport payload) 0) (ne_eqb by h (λ same. apart (sym same))))
        (λ i apart. ap (λ (b : Bool). cond ((by == by) && b) (w by (peer_at by i) port dport payload) 0) (ne_eqb to (peer_at by i) (λ same. apart (place_is by i way.0 (sym same ∙ sym way.2))))
        ∙ neither (by == by) (w by (peer_at by i) port dport payload))
        (ap (λ (b : Bool). cond (b && (to == peer_at by way.0)) (w by (peer_at by way.0) port dport payload) 0) (eq-eqb by by refl)
        ∙ (ap (λ (b : Bool). cond b (w by (peer_at by way.0) port dport payload) 0) (eq-eqb to (peer_at by way.0) (sym way.2)) ∙ ap (λ (n : ℕ). w by n port dport payload) way.2))),
    (let way = place_of hosts to by across.to_known across.known (λ same. across.apart (sym same)) in
        over_one (other_way (script.Send by port to dport payload)) to way.0 (w by to port dport payload) across.to_known way.1
        (λ h i apart. ap (λ (b : Bool). cond ((by == peer_at h i) && b) (w (peer_at h i) h port dport payload) 0) (ne_eqb to h (λ same. apart (sym same)))
        ∙ neither (by == peer_at h i) (w (peer_at h i) h port dport payload))
        (λ i apart. ap (λ (b : Bool). cond (b && (to == to)) (w (peer_at to i) to port dport payload) 0) (ne_eqb by (peer_at to i) (λ same. apart (place_is to i way.0 (sym same ∙ sym way.2)))))
        (ap (λ (b : Bool). cond (b && (to == to)) (w (peer_at to way.0) to port dport payload) 0) (eq-eqb by (peer_at to way.0) (sym way.2))
        ∙ (ap (λ (b : Bool). cond b (w (peer_at to way.0) to port dport payload) 0) (eq-eqb to to refl) ∙ ap (λ (n : ℕ). w n to port dport payload) way.2))),
  )
  both_ways (script.Bind by port sndbuf rcvbuf) across = (over_none (one_way (script.Bind by port sndbuf rcvbuf)) (λ h i. refl), over_none (other_way (script.Bind by port sndbuf rcvbuf)) (λ h i. refl))
  both_ways (script.BindAny by port sndbuf rcvbuf) across = (over_none (one_way (script.BindAny by port sndbuf rcvbuf)) (λ h i. refl), over_none (other_way (script.BindAny by port sndbuf rcvbuf)) (λ h i. refl))
  both_ways (script.Recv by port) across = (over_none (one_way (script.Recv by port)) (λ h i. refl), over_none (other_way (script.Recv by port)) (λ h i. refl))
  both_ways (script.Cancel by port to dport) across = (over_none (one_way (script.Cancel by port to dport)) (λ h i. refl), over_none (other_way (script.Cancel by port to dport)) (λ h i. refl))
  both_ways (script.Close by port) across = (over_none (one_way (script.Close by port)) (λ h i. refl), over_none (other_way (script.Close by port)) (λ h i. refl))
  both_ways (script.Open by to) across = (over_none (one_way (script.Open by to)) (λ h i. refl), over_none (other_way (script.Open by to)) (λ h i. refl))
  both_ways (script.Move by to size) across = (over_none (one_way (script.Move by to size)) (λ h i. refl), over_none (other_way (script.Move by to size)) (λ h i. refl))
  both_ways (script.Cut by to) across = (over_none (one_way (script.Cut by to)) (λ h i. refl), over_none (other_way (script.Cut by to)) (λ h i. refl))
  both_ways script.Drain across = (over_none (one_way script.Drain) (λ h i. refl), over_none (other_way script.Drain) (λ h i. refl))

  all_ways : (commands : List Placed) → All (λ (p : Placed). Crosses hosts p.command) commands →
      (over (λ h i. sent_between (w h (peer_at h i)) h (peer_at h i) commands) ≡ routed_sum commands)
      × (over (λ h i. sent_between (w (peer_at h i) h) (peer_at h i) h commands) ≡ routed_sum commands)
  all_ways [] all = (over_none (λ h i. 0) (λ h i. refl), over_none (λ h i. 0) (λ h i. refl))
  all_ways (placed ∷ commands) all =
      let here = both_ways placed.command (All-head (λ (p : Placed). Crosses hosts p.command) placed commands all) in
      let rest = all_ways commands (All-tail (λ (p : Placed). Crosses hosts p.command) placed commands all) in
      let first = over_plus (one_way placed.command) (λ h i. sent_between (w h (peer_at h i)) h (peer_at h i) commands) in
      let second = over_plus (other_way placed.command) (λ h i. sent_between (w (peer_at h i) h) (peer_at h i) h commands) in
      let a = here.0 in
      let b = here.1 in
      let c = rest.0 in
      let d = rest.1 in
      (omega (arith, first, a, c), omega (arith, second, b, d))

  pub all_across : (commands : List Placed) → IsCalm hosts commands →
      (over (λ h i. sent_between (w h (peer_at h i)) h (peer_at h i) commands) ≡ routed_sum commands)
      × (over (λ h i. sent_between (w (peer_at h i) h) (peer_at h i) h commands) ≡ routed_sum commands)
  all_across commands calm =
      all_ways commands (of_both (λ (p : Placed). Crosses hosts p.command) commands (λ i d within. bind_crosses _ (calm.binds i d within)) (λ i d within. after_crosses _ (calm.rest i d within)))
    where
      bind_crosses : (c : Command) → BindsAmply (sent_sum by_length commands) c → Crosses hosts c
      bind_crosses (script.Bind by at sndbuf rcvbuf) amply = tt
      bind_crosses (script.BindAny by at sndbuf rcvbuf) amply = absurd amply
      bind_crosses (script.Send by at to dport payload) amply = absurd amply
      bind_crosses (script.Recv by at) amply = absurd amply
      bind_crosses (script.Cancel by at to dport) amply = absurd amply
      bind_crosses (script.Close by at) amply = absurd amply
      bind_crosses (script.Open by to) amply = absurd amply
      bind_crosses (script.Move by to size) amply = absurd amply
      bind_crosses (script.Cut by to) amply = absurd amply
      bind_crosses script.Drain amply = absurd amply

      after_crosses : (c : Command) → IsCalmAfter hosts (leading_binds commands) c → Crosses hosts c
      after_crosses (script.Bind by at sndbuf rcvbuf) is = absurd is
      after_crosses (script.BindAny by at sndbuf rcvbuf) is = absurd is
      after_crosses (script.Send by at to dport payload) is = record { known = is.known; to_known = is.to_known; apart = is.apart }
      after_crosses (script.Recv by at) is = tt
      after_crosses (script.Cancel by at to dport) is = absurd is
      after_crosses (script.Close by at) is = absurd is
      after_crosses (script.Open by to) is = tt
      after_crosses (script.Move by to size) is = tt
      after_crosses (script.Cut by to) is = tt
      after_crosses script.Drain is = tt
