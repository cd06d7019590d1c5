-- The counts and the bytes of a run of a calm script, and the summary of a generated one.
use Rattle.std.proofs.Common.{◌≡◌, ◌≢◌, ℕ, ◌+◌, ◌<◌, ◌≤◌, ◌&&◌, Bool, true, false, cond, List, [], ◌∷◌, ◌++◌, filter, length, refl, sym, ap, ◌∙◌, arith}
use Rattle.std.specs.Prelude.{sum_by}
use Rattle.std.proofs.lemmas.List.Sums.{sum_by-cons}
use Rattle.std.proofs.lemmas.Option.{slice_get_within}
use Rattle.rds_wire.specs.Bytes.{IsBytes}
use Rattle.rds_wire.specs.declared.frame.Frame.{Frame}
use Rattle.rds_wire.specs.declared.kind.TheConstants.{MAP_LENGTH}
use Rattle.rds_model.specs.declared.entry.Entry.{Entry}
use Rattle.rds_model.specs.declared.entry.Entry.TheVariants.{Pull}
use Rattle.rds_model.specs.Legal.{IsLegal}
use Rattle.rds_model.specs.Owed.{is_map}
use Rattle.rds_model.specs.Past.{Moment}
use Rattle.rds_text.specs.FinalState.{FinalHost, FinalJournal}
use Rattle.rds_text.specs.FinalViews.{AreFinalHosts, AreSides}
use Rattle.rds_text.specs.Hosts.{IsAddress, address_of}
use Rattle.rds_text.specs.Lines.{end_line}
use Rattle.rds_text.specs.Report.{Counts, Group, counts}
use Rattle.rds_text.specs.declared.host.TheConstants.{MAX_HOSTS}
use Rattle.rds_report.specs.Item.{Item, What, Accepted, Received}
use Rattle.rds_report.specs.ItemReport.{AllOfAccepted, count_of, is_accepted, is_cancelled_item, is_dropped, is_port0, is_received, is_same, is_unread, of_pair, tally}
use Rattle.rds_report.specs.ItemTotals.{bytes_of, payload_bytes}
use Rattle.rds_report.specs.Items.{items, seen}
use Rattle.rds_report.proofs.Chosen.{ends_once}
use Rattle.rds_report.proofs.Pairs.{all_once}
use Rattle.rds_report.proofs.Tallied.{tally_is}
use Rattle.rds_report.specs.Summary.{all_counts, received_bytes, summary, summary_line}
use Rattle.rds_script.specs.declared.script.Command.{Command}
use Rattle.rds_script.specs.declared.script.Command.TheVariants as script
use Rattle.rds_script.specs.declared.script.Placed.{Placed}
use Rattle.rds_script_gen.specs.Generator.{generated}
use Rattle.rds_run_rounds.specs.Grid.{peer_at}
use Rattle.rds_run_threads.specs.Ends.{AreAcknowledged, AreEnds}
use Rattle.rds_run_threads.proofs.At.{all_from, pairs_from}
use Rattle.rds_run_threads.proofs.Rows.{peer_within, peers_ascend}
use Rattle.rds_run_laws.specs.Calm.{IsCalm, all_received, generated_summary, is_send_of, sends_of}
use Rattle.rds_run_laws.specs.Sent.{sent_by, sent_sum}
use Rattle.rds_run_laws.specs.Weights.{Weight, by_length, by_one}
use Rattle.rds_run_laws.proofs.Crossing.{routed, routed_sum}
use Rattle.rds_run_laws.proofs.Generated.{bytes_generated, count_generated}
use Rattle.rds_run_laws.proofs.Handed.{peer_is}
use Rattle.rds_run_laws.proofs.Harmless.{bit}
use Rattle.rds_run_laws.proofs.Itemed.{all_worth}
use Rattle.rds_run_laws.proofs.Listed.{all_listed}
use Rattle.rds_run_laws.proofs.Meeting.{host_within, side_count}

module _ (w : (from to : ℕ) → Weight) (hosts : ℕ) where
  -- where the weight knows no hosts
  plain : (u : Weight) → ((from to sport dport : ℕ) (payload : List ℕ) → w from to sport dport payload ≡ u sport dport payload) → (commands : List Placed) →
      routed_sum w hosts commands ≡ sent_sum u commands
  plain u same [] = refl
  plain u same (placed ∷ commands) = let first = here placed.command in let rest = plain u same commands in omega (arith, first, rest)
    where
      here : (c : Command) → routed w hosts c ≡ sent_by u c
      here (script.Send host port to dport payload) = same host to port dport payload
      here (script.Bind host port sndbuf rcvbuf) = refl
      here (script.BindAny host port sndbuf rcvbuf) = refl
      here (script.Recv host port) = refl
      here (script.Cancel host port to dport) = refl
      here (script.Close host port) = refl
      here (script.Open host to) = refl
      here (script.Move host to bytes) = refl
      here (script.Cut host to) = refl
      here script.Drain = refl

  -- where a datagram weighs whether it is of a pair
  by_pair : (g : Group) → ((from to sport dport : ℕ) (payload : List ℕ) →
      w from to sport dport payload ≡ bit (is_same g (record { to = address_of to; dport = dport; from = address_of from; sport = sport }))) → (commands : List Placed) →
      routed_sum w hosts commands ≡ sends_of g commands
  by_pair g same [] = refl
  by_pair g same (placed ∷ commands) = go (is_send_of g placed.command) (here placed.command) (by_pair g same commands)
    where
      rest : List Placed
      rest = filter (λ (p : Placed). is_send_of g p.command) commands

      go : (b : Bool) → routed w hosts placed.command ≡ bit b → routed_sum w hosts commands ≡ length rest →
          routed w hosts placed.command + routed_sum w hosts commands ≡ length (cond b (placed ∷ rest) rest)
      go true first ih = omega (arith, first, ih)
      go false first ih = omega (arith, first, ih)

      here : (c : Command) → routed w hosts c ≡ bit (is_send_of g c)
      here (script.Send host port to dport payload) = same host to port dport payload
      here (script.Bind host port sndbuf rcvbuf) = refl
      here (script.BindAny host port sndbuf rcvbuf) = refl
      here (script.Recv host port) = refl
      here (script.Cancel host port to dport) = refl
      here (script.Close host port) = refl
      here (script.Open host to) = refl
      here (script.Move host to bytes) = refl
      here (script.Cut host to) = refl
      here script.Drain = refl

  -- what weighs nothing is nothing
  weighs_none : ((from to sport dport : ℕ) (payload : List ℕ) → w from to sport dport payload ≡ 0) → (commands : List Placed) → routed_sum w hosts commands ≡ 0
  weighs_none none [] = refl
  weighs_none none (placed ∷ commands) = let first = here placed.command in let rest = weighs_none none commands in omega (arith, first, rest)
    where
      here : (c : Command) → routed w hosts c ≡ 0
      here (script.Send host port to dport payload) = none host to port dport payload
      here (script.Bind host port sndbuf rcvbuf) = refl
      here (script.BindAny host port sndbuf rcvbuf) = refl
      here (script.Recv host port) = refl
      here (script.Cancel host port to dport) = refl
      here (script.Close host port) = refl
      here (script.Open host to) = refl
      here (script.Move host to bytes) = refl
      here (script.Cut host to) = refl
      here script.Drain = refl

neither : (b : Bool) → bit (b && false) ≡ 0
neither true = refl
neither false = refl

alone : (b : Bool) → bit (b && true) ≡ bit b
alone true = refl
alone false = refl

-- the items of a kind that are of a pair
count_pair : (g : Group) (kind : What → Bool) (list : List Item) → count_of kind (of_pair g list) ≡ sum_by (λ (i : Item). bit (is_same g (seen i.group) && kind i.what)) list
count_pair g kind [] = refl
count_pair g kind (x ∷ list) = go (is_same g (seen x.group)) (kind x.what) refl refl (count_pair g kind list)
  where
    worth : Item → ℕ
    worth i = bit (is_same g (seen i.group) && kind i.what)

    kinds : List Item → List Item
    kinds items = filter (λ (i : Item). kind i.what) items

    go : (a b : Bool) → is_same g (seen x.group) ≡ a → kind x.what ≡ b → count_of kind (of_pair g list) ≡ sum_by worth list →
        length (kinds (cond (is_same g (seen x.group)) (x ∷ of_pair g list) (of_pair g list))) ≡ sum_by worth (x ∷ list)
    go true true of is ih =
        let whole = sum_by-cons worth x list in
        let here = ap (λ (t : Bool). bit (t && kind x.what)) of ∙ ap bit is in
        let kept = ap (λ (t : Bool). length (kinds (cond t (x ∷ of_pair g list) (of_pair g list)))) of in
        let long = ap (λ (t : Bool). length (cond t (x ∷ kinds (of_pair g list)) (kinds (of_pair g list)))) is in
        omega (arith, whole, here, kept, long, ih)
    go true false of is ih =
        let whole = sum_by-cons worth x list in
        let here = ap (λ (t : Bool). bit (t && kind x.what)) of ∙ ap bit is in
        let kept = ap (λ (t : Bool). length (kinds (cond t (x ∷ of_pair g list) (of_pair g list)))) of in
        let long = ap (λ (t : Bool). length (cond t (x ∷ kinds (of_pair g list)) (kinds (of_pair g list)))) is in
        omega (arith, whole, here, kept, long, ih)
    go false b of is ih =
        let whole = sum_by-cons worth x list in
        let here = ap (λ (t : Bool). bit (t && kind x.what)) of in
        let kept = ap (λ (t : Bool). length (kinds (cond t (x ∷ of_pair g list) (of_pair g list)))) of in
        omega (arith, whole, here, kept, ih)

count_is : (kind : What → Bool) (list : List Item) → count_of kind list ≡ sum_by (λ (i : Item). bit (kind i.what)) list
count_is kind [] = refl
count_is kind (x ∷ list) = go (kind x.what) refl (count_is kind list)
  where
    go : (b : Bool) → kind x.what ≡ b → count_of kind list ≡ sum_by (λ (i : Item). bit (kind i.what)) list →
        length (cond (kind x.what) (x ∷ filter (λ (i : Item). kind i.what) list) (filter (λ (i : Item). kind i.what) list)) ≡ sum_by (λ (i : Item). bit (kind i.what)) (x ∷ list)
    go true is ih =
        let whole = sum_by-cons (λ (i : Item). bit (kind i.what)) x list in
        let here = ap bit is in
        let long = ap (λ (b : Bool). length (cond b (x ∷ filter (λ (i : Item). kind i.what) list) (filter (λ (i : Item). kind i.what) list))) is in
        omega (arith, whole, here, long, ih)
    go false is ih =
        let whole = sum_by-cons (λ (i : Item). bit (kind i.what)) x list in
        let here = ap bit is in
        let long = ap (λ (b : Bool). length (cond b (x ∷ filter (λ (i : Item). kind i.what) list) (filter (λ (i : Item). kind i.what) list))) is in
        omega (arith, whole, here, long, ih)

abbrev counted : (a r u d p c : ℕ) → Counts
counted a r u d p c = record { accepted = a; received = r; unread = u; dropped = d; port0 = p; cancelled = c }

same_counts : (a r u d p c n : ℕ) → a ≡ n → r ≡ n → u ≡ 0 → d ≡ 0 → p ≡ 0 → c ≡ 0 → counted a r u d p c ≡ all_received n
same_counts a r u d p c n e1 e2 e3 e4 e5 e6 = λ i. counted (e1 i) (e2 i) (e3 i) (e4 i) (e5 i) (e6 i)

module _ (pulled : (s : ℕ) (f : Frame) (p past : List Entry) → IsLegal past → Moment (Pull s f ∷ p) past → is_map f ≡ true →
    (length f.payload ≡ MAP_LENGTH) × IsBytes f.payload)
    (totals : (hosts : List FinalHost) → AreFinalHosts hosts → AllOfAccepted (items hosts) → all_counts hosts ≡ tally (items hosts))
    (bytes : (hosts : List FinalHost) → AreFinalHosts hosts → AllOfAccepted (items hosts) → received_bytes hosts ≡ bytes_of (items hosts))
    (hosts : ℕ) (commands : List Placed) (ends : List FinalHost) (few : hosts ≤ MAX_HOSTS) (calm : IsCalm hosts commands) (did : AreEnds true hosts commands ends)
    (acknowledged : AreAcknowledged ends) where
  is_address : (host addr : ℕ) → host < hosts → addr ≡ address_of host → IsAddress addr
  is_address host addr within is = record { least = omega (arith, is); most = omega (arith, is, within, few) }

  final : AreFinalHosts ends
  final = record {
    once = pairs_from (λ (a b : FinalHost). a.addr ≢ b.addr) ends
        (λ i j x y less at_x at_y alike.
        let a = did.addresses i x at_x in
        let b = did.addresses j y at_y in
        absurd (omega (arith, a, b, alike, less)));
    addresses = all_from (λ (h : FinalHost). IsAddress h.addr) ends
        (λ i x at. is_address i x.addr (host_within hosts commands ends did i x at) (did.addresses i x at));
    sides = all_from (λ (h : FinalHost). AreSides h.sides) ends
        (λ i x at. record {
          once = pairs_from (λ (a b : FinalJournal). a.peer ≢ b.peer) x.sides
              (λ p q a b less at_a at_b alike.
              let one = peer_is pulled hosts commands ends calm did acknowledged i x at p a at_a in
              let other = peer_is pulled hosts commands ends calm did acknowledged i x at q b at_b in
              let up = peers_ascend i p q less in
              absurd (omega (arith, one, other, up, alike)));
          peers = all_from (λ (s : FinalJournal). IsAddress s.peer) x.sides
              (λ p a at_a.
              let within = slice_get_within x.sides p a at_a in
              let count = side_count hosts commands ends did i x at in
              is_address (peer_at i p) a.peer (peer_within hosts i p (omega (arith, within, count))) (peer_is pulled hosts commands ends calm did acknowledged i x at p a at_a));
        });
  }

  listed : AllOfAccepted (items ends)
  listed = all_listed pulled hosts commands ends calm did acknowledged

  none_of : (kind : What → Bool) → kind Accepted ≡ false → ((payload : List ℕ) → kind (Received payload) ≡ false) → count_of kind (items ends) ≡ 0
  none_of kind first other =
      let is = count_is kind (items ends) in
      let all = all_worth (λ key what. bit (kind what)) pulled hosts commands ends calm did acknowledged in
      let one = weighs_none (λ from to sport dport payload. bit (kind Accepted)) hosts (λ from to sport dport payload. ap bit first) commands in
      let two = weighs_none (λ from to sport dport payload. bit (kind (Received payload))) hosts (λ from to sport dport payload. ap bit (other payload)) commands in
      omega (arith, is, all, one, two)

  pub calm_counts : all_counts ends ≡ all_received (sent_sum by_one commands)
  calm_counts =
      totals ends final listed
      ∙ same_counts (count_of is_accepted (items ends)) (count_of is_received (items ends)) (count_of is_unread (items ends)) (count_of is_dropped (items ends))
      (count_of is_port0 (items ends)) (count_of is_cancelled_item (items ends)) (sent_sum by_one commands) sent got (none_of is_unread refl (λ payload. refl))
      (none_of is_dropped refl (λ payload. refl)) (none_of is_port0 refl (λ payload. refl)) (none_of is_cancelled_item refl (λ payload. refl))
    where
      sent : count_of is_accepted (items ends) ≡ sent_sum by_one commands
      sent =
          let is = count_is is_accepted (items ends) in
          let all = all_worth (λ key what. bit (is_accepted what)) pulled hosts commands ends calm did acknowledged in
          let one = plain (λ from to sport dport payload. 1) hosts by_one (λ from to sport dport payload. refl) commands in
          let none = weighs_none (λ from to sport dport payload. 0) hosts (λ from to sport dport payload. refl) commands in
          omega (arith, is, all, one, none)

      got : count_of is_received (items ends) ≡ sent_sum by_one commands
      got =
          let is = count_is is_received (items ends) in
          let all = all_worth (λ key what. bit (is_received what)) pulled hosts commands ends calm did acknowledged in
          let one = plain (λ from to sport dport payload. 1) hosts by_one (λ from to sport dport payload. refl) commands in
          let none = weighs_none (λ from to sport dport payload. 0) hosts (λ from to sport dport payload. refl) commands in
          omega (arith, is, all, one, none)

  pub calm_bytes : received_bytes ends ≡ sent_sum by_length commands
  calm_bytes =
      let all = all_worth (λ key what. payload_bytes what) pulled hosts commands ends calm did acknowledged in
      let one = plain (λ from to sport dport payload. length payload) hosts by_length (λ from to sport dport payload. refl) commands in
      let none = weighs_none (λ from to sport dport payload. 0) hosts (λ from to sport dport payload. refl) commands in
      let is = bytes ends final listed in
      omega (arith, is, all, one, none)

  -- of one pair
  module _ (g : Group) where
    none_of_pair : (kind : What → Bool) → kind Accepted ≡ false → ((payload : List ℕ) → kind (Received payload) ≡ false) → count_of kind (of_pair g (items ends)) ≡ 0
    none_of_pair kind first other =
        let is = count_pair g kind (items ends) in
        let all = all_worth (λ key what. bit (is_same g (seen key) && kind what)) pulled hosts commands ends calm did acknowledged in
        let one = weighs_none (λ from to sport dport payload. bit (is_same g (record { to = address_of to; dport = dport; from = address_of from; sport = sport }) && kind Accepted)) hosts
        (λ from to sport dport payload. ap (λ (b : Bool). bit (is_same g (record { to = address_of to; dport = dport; from = address_of from; sport = sport }) && b)) first
        ∙ neither (is_same g (record { to = address_of to; dport = dport; from = address_of from; sport = sport }))) commands in
        let two = weighs_none (λ from to sport dport payload. bit (is_same g (record { to = address_of to; dport = dport; from = address_of from; sport = sport }) && kind (Received payload))) hosts
        (λ from to sport dport payload. ap (λ (b : Bool). bit (is_same g (record { to = address_of to; dport = dport; from = address_of from; sport = sport }) && b)) (other payload)
        ∙ neither (is_same g (record { to = address_of to; dport = dport; from = address_of from; sport = sport }))) commands in
        omega (arith, is, all, one, two)

    such : count_of is_accepted (of_pair g (items ends)) ≡ sends_of g commands
    such =
        let is = count_pair g is_accepted (items ends) in
        let all = all_worth (λ key what. bit (is_same g (seen key) && is_accepted what)) pulled hosts commands ends calm did acknowledged in
        let one = by_pair (λ from to sport dport payload. bit (is_same g (record { to = address_of to; dport = dport; from = address_of from; sport = sport }) && true)) hosts g
        (λ from to sport dport payload. alone (is_same g (record { to = address_of to; dport = dport; from = address_of from; sport = sport }))) commands in
        let two = weighs_none (λ from to sport dport payload. bit (is_same g (record { to = address_of to; dport = dport; from = address_of from; sport = sport }) && false)) hosts
        (λ from to sport dport payload. neither (is_same g (record { to = address_of to; dport = dport; from = address_of from; sport = sport }))) commands in
        omega (arith, is, all, one, two)

    arrived : count_of is_received (of_pair g (items ends)) ≡ sends_of g commands
    arrived =
        let is = count_pair g is_received (items ends) in
        let all = all_worth (λ key what. bit (is_same g (seen key) && is_received what)) pulled hosts commands ends calm did acknowledged in
        let one = by_pair (λ from to sport dport payload. bit (is_same g (record { to = address_of to; dport = dport; from = address_of from; sport = sport }) && true)) hosts g
        (λ from to sport dport payload. alone (is_same g (record { to = address_of to; dport = dport; from = address_of from; sport = sport }))) commands in
        let two = weighs_none (λ from to sport dport payload. bit (is_same g (record { to = address_of to; dport = dport; from = address_of from; sport = sport }) && false)) hosts
        (λ from to sport dport payload. neither (is_same g (record { to = address_of to; dport = dport; from = address_of from; sport = sport }))) commands in
        omega (arith, is, all, one, two)

    pub calm_pair : counts ends g ≡ all_received (sends_of g commands)
    calm_pair =
        let of = of_pair g (items ends) in
        sym (tally_is ends (ends_once ends final.once) (all_once ends final.sides) g)
        ∙ same_counts (count_of is_accepted of) (count_of is_received of) (count_of is_unread of) (count_of is_dropped of) (count_of is_port0 of) (count_of is_cancelled_item of)
        (sends_of g commands) such arrived (none_of_pair is_unread refl (λ payload. refl)) (none_of_pair is_dropped refl (λ payload. refl))
        (none_of_pair is_port0 refl (λ payload. refl)) (none_of_pair is_cancelled_item refl (λ payload. refl))

-- the summary of a generated script
pub summary_is : (seed sends : ℕ) (ends : List FinalHost) → all_counts ends ≡ all_received (sent_sum by_one (generated sends seed).commands) →
    received_bytes ends ≡ sent_sum by_length (generated sends seed).commands → summary ends seed sends ≡ generated_summary seed sends
summary_is seed sends ends fates bytes =
    ap (λ (c : Counts). summary_line seed sends c (received_bytes ends) ++ end_line) (fates ∙ ap all_received (count_generated sends seed))
    ∙ ap (λ (n : ℕ). summary_line seed sends (all_received sends) n ++ end_line) (bytes ∙ bytes_generated sends seed)
