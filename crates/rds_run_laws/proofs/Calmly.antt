-- What a calm script says of each of its commands.
use Rattle.std.proofs.Common.{◌≡◌, ℕ, ◌≤◌, Bool, true, false, cond, All, List, [], ◌∷◌, filter, length, refl, subst, arith}
use Rattle.std.specs.Prelude.{Contains}
use Rattle.std.proofs.lemmas.List.Elements.{All-cons, All-contains, All-head, All-nil, All-tail}
use Rattle.rds_script.specs.declared.script.Command.{Command}
use Rattle.rds_script.specs.declared.script.Command.TheVariants as script
use Rattle.rds_script.specs.declared.script.Placed.{Placed}
use Rattle.rds_run_callers.specs.Commands.{binds}
use Rattle.rds_run_hosts.specs.Obeyed.{after_binds, leading_binds}
use Rattle.rds_run_threads.specs.Outcome.{BindsWith}
use Rattle.rds_run_laws.specs.Calm.{BindsAmply, IsCalm, IsCalmAfter}
use Rattle.rds_run_laws.specs.Put.{own_sum, sent_between, sent_to}
use Rattle.rds_run_laws.specs.Sent.{sent_by, sent_sum}
use Rattle.rds_run_laws.specs.Weights.{Weight, by_length}

-- what holds of the leading binds and of what comes after them holds of all commands
pub of_both : (P : Placed → Type 0) (commands : List Placed) → All P (leading_binds commands) → All P (after_binds commands) → All P commands
of_both P [] led rest = All-nil P
of_both P (placed ∷ commands) led rest = go (binds placed.command) (λ one other. of_both P commands one other) led rest
  where
    go : (b : Bool) → (All P (leading_binds commands) → All P (after_binds commands) → All P commands) → All P (cond b (placed ∷ leading_binds commands) []) →
        All P (cond b (after_binds commands) (placed ∷ commands)) → All P (placed ∷ commands)
    go true ih one other = All-cons P placed commands (All-head P placed (leading_binds commands) one) (ih (All-tail P placed (leading_binds commands) one) other)
    go false ih one other = other

-- of the leading binds there are no more than of all commands
pub fewer_lead : (test : Placed → Bool) (commands : List Placed) → length (filter test (leading_binds commands)) ≤ length (filter test commands)
fewer_lead test [] = omega arith
fewer_lead test (placed ∷ commands) = go (binds placed.command) (fewer_lead test commands)
  where
    go : (b : Bool) → length (filter test (leading_binds commands)) ≤ length (filter test commands) →
        length (filter test (cond b (placed ∷ leading_binds commands) [])) ≤ length (filter test (placed ∷ commands))
    go false less = omega arith
    go true less = either (test placed) (filter test (leading_binds commands)) (filter test commands) less
      where
        either : (t : Bool) (xs ys : List Placed) → length xs ≤ length ys → length (cond t (placed ∷ xs) xs) ≤ length (cond t (placed ∷ ys) ys)
        either true xs ys few = omega (arith, few)
        either false xs ys few = few

bind_sends : (w : Weight) (host peer : ℕ) (c : Command) → binds c ≡ true → (sent_to w host peer c ≡ 0) × (sent_by w c ≡ 0)
bind_sends w host peer (script.Bind by port sndbuf rcvbuf) is = (refl, refl)
bind_sends w host peer (script.BindAny by port sndbuf rcvbuf) is = (refl, refl)
bind_sends w host peer (script.Send by port to dport payload) is = absurd (cc)
bind_sends w host peer (script.Recv by port) is = absurd (cc)
bind_sends w host peer (script.Cancel by port to dport) is = absurd (cc)
bind_sends w host peer (script.Close by port) is = absurd (cc)
bind_sends w host peer (script.Open by to) is = absurd (cc)
bind_sends w host peer (script.Move by to size) is = absurd (cc)
bind_sends w host peer (script.Cut by to) is = absurd (cc)
bind_sends w host peer script.Drain is = absurd (cc)

-- what is sent is sent after the binds
pub sent_after : (w : Weight) (host peer : ℕ) (commands : List Placed) → sent_between w host peer (after_binds commands) ≡ sent_between w host peer commands
sent_after w host peer [] = refl
sent_after w host peer (placed ∷ commands) = go (binds placed.command) refl (sent_after w host peer commands)
  where
    go : (b : Bool) → binds placed.command ≡ b → sent_between w host peer (after_binds commands) ≡ sent_between w host peer commands →
        sent_between w host peer (cond b (after_binds commands) (placed ∷ commands)) ≡ sent_between w host peer (placed ∷ commands)
    go true is ih = let none = (bind_sends w host peer placed.command is).0 in omega (arith, ih, none)
    go false is ih = refl

-- one host's share after the binds is no more than all
pub own_after : (w : Weight) (host : ℕ) (commands : List Placed) → own_sum w host (after_binds commands) ≤ own_sum w host commands
own_after w host [] = omega arith
own_after w host (placed ∷ commands) = go (binds placed.command) (own_after w host commands)
  where
    go : (b : Bool) → own_sum w host (after_binds commands) ≤ own_sum w host commands →
        own_sum w host (cond b (after_binds commands) (placed ∷ commands)) ≤ own_sum w host (placed ∷ commands)
    go true ih = omega (arith, ih)
    go false ih = omega arith

module _ (hosts : ℕ) (commands : List Placed) (calm : IsCalm hosts commands) where
  -- each receive buffer that a bind asks for has room
  pub roomy : (host rcvbuf : ℕ) (placed : Placed) → Contains commands placed → BindsWith host rcvbuf placed.command → sent_sum by_length commands ≤ rcvbuf
  roomy host rcvbuf placed inside asks =
      All-contains Roomy commands placed (of_both Roomy commands (map_all _ Roomy (leading_binds commands) (λ p. amply p.command) calm.binds)
      (map_all _ Roomy (after_binds commands) (λ p. after p.command) calm.rest)) inside host rcvbuf asks
    where
      Roomy : Placed → Type 0
      Roomy p = (h n : ℕ) → BindsWith h n p.command → sent_sum by_length commands ≤ n

      map_all : (P Q : Placed → Type 0) (xs : List Placed) → ((p : Placed) → P p → Q p) → All P xs → All Q xs
      map_all P Q xs each all = λ i d within. each _ (all i d within)

      amply : (c : Command) → BindsAmply (sent_sum by_length commands) c → (h n : ℕ) → BindsWith h n c → sent_sum by_length commands ≤ n
      amply (script.Bind by port sndbuf rcv) is h n asked = subst (λ (k : ℕ). sent_sum by_length commands ≤ k) asked.1 is.2
      amply (script.BindAny by port sndbuf rcv) is h n asked = absurd is
      amply (script.Send by port to dport payload) is h n asked = absurd is
      amply (script.Recv by port) is h n asked = absurd is
      amply (script.Cancel by port to dport) is h n asked = absurd is
      amply (script.Close by port) is h n asked = absurd is
      amply (script.Open by to) is h n asked = absurd is
      amply (script.Move by to size) is h n asked = absurd is
      amply (script.Cut by to) is h n asked = absurd is
      amply script.Drain is h n asked = absurd is

      after : (c : Command) → IsCalmAfter hosts (leading_binds commands) c → (h n : ℕ) → BindsWith h n c → sent_sum by_length commands ≤ n
      after (script.Bind by port sndbuf rcv) is h n asked = absurd is
      after (script.BindAny by port sndbuf rcv) is h n asked = absurd is
      after (script.Send by port to dport payload) is h n asked = absurd asked
      after (script.Recv by port) is h n asked = absurd asked
      after (script.Cancel by port to dport) is h n asked = absurd asked
      after (script.Close by port) is h n asked = absurd asked
      after (script.Open by to) is h n asked = absurd asked
      after (script.Move by to size) is h n asked = absurd asked
      after (script.Cut by to) is h n asked = absurd asked
      after script.Drain is h n asked = absurd asked
