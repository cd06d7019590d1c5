-- The cuts of a host are among those between it and its peer.
use Rattle.std.proofs.Common.{◌≡◌, ◌≤◌, ◌==◌, ◌&&◌, ℕ, suc, cond, Bool, true, false, List, [], ◌∷◌, filter, length, refl, ap, arith}
use Rattle.std.proofs.lemmas.Bool.{and_from, and_parts, eq-eqb, eqb-true, false≢true, or_left}
use Rattle.rds_text.specs.Hosts.{address_of}
use Rattle.rds_script.specs.declared.script.Command.{Command}
use Rattle.rds_script.specs.declared.script.Command.TheVariants.{Bind, BindAny, Send, Recv, Cancel, Close, Open, Move, Cut, Drain}
use Rattle.rds_script.specs.declared.script.Placed.{Placed}
use Rattle.rds_run_hosts.specs.Streams.{cuts_between, is_cut_between}
use Rattle.rds_run_threads.specs.Outcome.{cuts_to, is_cut_to}

-- a command that has the host cut its stream to the peer is a cut between the two
cut_between : (host peer : ℕ) (command : Command) → is_cut_to host (address_of peer) command ≡ true → is_cut_between host peer command ≡ true
cut_between host peer (Cut by to) is =
    let both = and_parts (by == host) (address_of to == address_of peer) is in
    let same = eqb-true (address_of to) (address_of peer) both.1 in
    or_left (by == host && (to == peer)) (by == peer && (to == host)) (and_from (by == host) (to == peer) both.0 (eq-eqb to peer (omega (arith, same))))
cut_between host peer (Bind by port sndbuf rcvbuf) is = absurd (false≢true is)
cut_between host peer (BindAny by port sndbuf rcvbuf) is = absurd (false≢true is)
cut_between host peer (Send by port to dport payload) is = absurd (false≢true is)
cut_between host peer (Recv by port) is = absurd (false≢true is)
cut_between host peer (Cancel by port to dport) is = absurd (false≢true is)
cut_between host peer (Close by port) is = absurd (false≢true is)
cut_between host peer (Open by to) is = absurd (false≢true is)
cut_between host peer (Move by to bytes) is = absurd (false≢true is)
cut_between host peer Drain is = absurd (false≢true is)

-- so the commands have the host cut no more streams to the peer than there are cuts between the two
pub cuts_among_both : (host peer : ℕ) (commands : List Placed) → cuts_to host (address_of peer) commands ≤ cuts_between host peer commands
cuts_among_both host peer [] = omega arith
cuts_among_both host peer (placed ∷ commands) =
    go (is_cut_to host (address_of peer) placed.command) refl (cuts_among_both host peer commands)
  where
    to : List Placed
    to = filter (λ (p : Placed). is_cut_to host (address_of peer) p.command) commands

    between : List Placed
    between = filter (λ (p : Placed). is_cut_between host peer p.command) commands

    more : (both : Bool) → is_cut_between host peer placed.command ≡ both → cuts_between host peer commands ≤ cuts_between host peer (placed ∷ commands)
    more true both =
        let other : cuts_between host peer (placed ∷ commands) ≡ suc (cuts_between host peer commands) =
        ap (λ (b : Bool). length (cond b (placed ∷ between) between)) both in
        omega (arith, other)
    more false both =
        let other : cuts_between host peer (placed ∷ commands) ≡ cuts_between host peer commands =
        ap (λ (b : Bool). length (cond b (placed ∷ between) between)) both in
        omega (arith, other)

    go : (own : Bool) → is_cut_to host (address_of peer) placed.command ≡ own → cuts_to host (address_of peer) commands ≤ cuts_between host peer commands →
        cuts_to host (address_of peer) (placed ∷ commands) ≤ cuts_between host peer (placed ∷ commands)
    go true own less =
        let one : cuts_to host (address_of peer) (placed ∷ commands) ≡ suc (cuts_to host (address_of peer) commands) =
        ap (λ (b : Bool). length (cond b (placed ∷ to) to)) own in
        let other : cuts_between host peer (placed ∷ commands) ≡ suc (cuts_between host peer commands) =
        ap (λ (b : Bool). length (cond b (placed ∷ between) between)) (cut_between host peer placed.command own) in
        omega (arith, one, other, less)
    go false own less =
        let one : cuts_to host (address_of peer) (placed ∷ commands) ≡ cuts_to host (address_of peer) commands =
        ap (λ (b : Bool). length (cond b (placed ∷ to) to)) own in
        let other = more (is_cut_between host peer placed.command) refl in
        omega (arith, one, other, less)
