-- Two hosts that lack a stream, and the streams that journals opened.
use Rattle.std.proofs.Common.{◌≡◌, ◌<◌, ◌≤◌, ◌+◌, ◌++◌, ◌-◌, ◌==◌, ◌&&◌, ◌||◌, ⊎_elim, inl, inr, ℕ, suc, Bool, true, false, List, Some, drop, filter, length, slice_get, take, refl, sym, ap, subst, ◌∙◌, arith}
use Rattle.std.proofs.lemmas.Bool.{cases_lt}
use Rattle.std.proofs.lemmas.List.{take-append-drop}
use Rattle.std.proofs.lemmas.List.Elements.{All-same, All-take}
use Rattle.rds_link.specs.Ends.{Means}
use Rattle.rds_model.specs.declared.entry.Entry.{Entry}
use Rattle.rds_model.specs.Honest.{Begins}
use Rattle.rds_model.specs.Past.{newest_stream, open_stream}
use Rattle.rds_model.specs.Sums.{opens}
use Rattle.rds_line_channel.specs.Streams.{numbers}
use Rattle.rds_line_channel.specs.Carried.{shuts}
use Rattle.rds_fmap.specs.Readers.{WriterView}
use Rattle.rds_line.specs.Line.{LineView, line_past}
use Rattle.rds_run_callers.specs.Places.{CallerView}
use Rattle.rds_script.specs.declared.script.Command.{Command}
use Rattle.rds_script.specs.declared.script.Command.TheVariants.{Bind, BindAny, Send, Recv, Cancel, Close, Open, Move, Cut, Drain}
use Rattle.rds_script.specs.declared.script.Placed.{Placed}
use Rattle.rds_run_hosts.specs.Preparing.{HaveCounted, HaveNumbered}
use Rattle.rds_run_hosts.specs.Streams.{AreNumbersOf, IsKnown, cuts_between, is_cut_between, streams_between}
use Rattle.rds_run_rounds.specs.Causes.{LacksStream, MissesStream, ShouldHaveStream, known_of, refusals}
use Rattle.rds_run_rounds.specs.Done.{AreDone}
use Rattle.rds_run_rounds.specs.Grid.{AreRows, IsAt, peer_at}
use Rattle.rds_run_rounds.specs.Sound.{AreSoundJournals}
use Rattle.rds_run_rounds.specs.declared.verdict.Wanted.{Wanted}
use Rattle.rds_run_threads.specs.Causes.{AreLackingStream, HasNoneLeft, IsFilledAlone, IsOfCommands, MissesOne, OpenedAmong, ShouldHaveOne}
use Rattle.rds_run_threads.specs.Known.{MissByCommands}
use Rattle.rds_run_threads.specs.Settled.{HaveDoneSpared}
use Rattle.rds_run_threads.specs.Taking.{HasOrders, HaveSameStreams, HaveTied, IsGroundedAt, IsJournalOf, IsJournalOfLine}
use Rattle.rds_run_threads.proofs.FilledAlone.{filled_alone}
use Rattle.rds_run_threads.proofs.Rows.{host_within, peer_after, peer_before, place_within, stands}
use Rattle.rds_run_threads.proofs.Taken.{of_commands_at}

either_way : (a b : Bool) → (a || b) ≡ (b || a)
either_way true true = refl
either_way true false = refl
either_way false true = refl
either_way false false = refl

-- a cut between two hosts is one whichever of them is named first
cut_either_way : (a b : ℕ) (command : Command) → is_cut_between a b command ≡ is_cut_between b a command
cut_either_way a b (Bind host port sndbuf rcvbuf) = refl
cut_either_way a b (BindAny host port sndbuf rcvbuf) = refl
cut_either_way a b (Send host port to dport payload) = refl
cut_either_way a b (Recv host port) = refl
cut_either_way a b (Cancel host port to dport) = refl
cut_either_way a b (Close host port) = refl
cut_either_way a b (Open host to) = refl
cut_either_way a b (Move host to bytes) = refl
cut_either_way a b (Cut host to) = either_way (host == a && (to == b)) (host == b && (to == a))
cut_either_way a b Drain = refl

pub cuts_either_way : (a b : ℕ) (commands : List Placed) → cuts_between a b commands ≡ cuts_between b a commands
cuts_either_way a b commands i = length (filter (λ (placed : Placed). cut_either_way a b placed.command i) commands)

pub streams_either_way : (a b : ℕ) (commands : List Placed) → streams_between a b commands ≡ streams_between b a commands
streams_either_way a b commands = ap (λ (n : ℕ). n + 3) (cuts_either_way a b commands)

-- what is taken from the front of a list begins it
front_of : (whole front : List ℕ) (n : ℕ) → front ≡ take n whole → Begins front whole
front_of whole front n is = (drop n whole, sym (take-append-drop n whole) ∙ ap (λ (l : List ℕ). l ++ drop n whole) (sym is))

module _ {E M : Type 0} where
  -- a line's journal opened some of its streams
  pub opened_among : (count before after : ℕ) (line : LineView E M) (past : List Entry) → AreNumbersOf count before after (numbers line.channel.streams.list) →
      IsJournalOfLine line past → OpenedAmong count past
  opened_among count before after line past of is =
      All-same (λ (n : ℕ). n ≤ count) (opens past) _ is.opened.1
      (All-take (λ (n : ℕ). n ≤ count) is.opened.0 (numbers line.channel.streams.list) of.most)

  -- the journal of a line that lacks a stream has none left
  pub none_left : (line back : LineView E M) (own other : List Entry) → LacksStream line → IsJournalOfLine line own → IsJournalOfLine back other →
      numbers back.channel.streams.list ≡ numbers line.channel.streams.list → HasNoneLeft own other
  none_left line back own other lacks of_own of_other same = record {
    closed = ap open_stream of_own.is ∙ lacks.closed;
    all =
        front_of (opens own) (opens other) of_other.opened.0
        (of_other.opened.1 ∙ ap (take of_other.opened.0) (same ∙ sym (ap opens of_own.is ∙ lacks.all)));
  }

  -- two hosts that should have a stream by what is known of them should have one by the commands
  should_have : (tells : Bool) (w : Wanted) (low high : ℕ) (commands : List Placed) (line : LineView E M) (other : List Entry) →
      IsKnown commands low high w (numbers line.channel.streams.list) → LacksStream line → ShouldHaveStream tells w (line_past line) other →
      ShouldHaveOne tells low high commands (line_past line) other
  should_have tells w low high commands line other known lacks (inl telling) = inl telling
  should_have tells w low high commands line other known lacks (inr (inl missing)) =
      inr (inl (subst (λ (l : List ℕ). length l < streams_between low high commands) (sym lacks.all) (known.streams.short missing)))
  should_have tells w low high commands line other known lacks (inr (inr more)) =
      inr (inr (subst (λ (n : ℕ). n + refusals other < shuts (line_past line)) known.cuts more))

  -- so the journal of a line that misses a stream has none left where they should have one
  misses_one : (tells : Bool) (w : Wanted) (low high : ℕ) (commands : List Placed) (line back : LineView E M) (own other : List Entry) →
      IsKnown commands low high w (numbers line.channel.streams.list) → MissesStream tells w line back → IsJournalOfLine line own →
      IsJournalOfLine back other → numbers back.channel.streams.list ≡ numbers line.channel.streams.list → MissesOne tells low high commands own other
  misses_one tells w low high commands line back own other known misses of_own of_other same = record {
    none_left = none_left line back own other misses.0 of_own of_other same;
    should =
        subst (λ (p : List Entry). ShouldHaveOne tells low high commands p other) (sym of_own.is)
        (subst (λ (p : List Entry). ShouldHaveOne tells low high commands (line_past line) p) (sym of_other.is)
        (should_have tells w low high commands line (line_past back) known misses.0 misses.1));
  }

  lacking_of : (m : Means E) (limit hosts : ℕ) (rows : List (List (LineView E M))) → AreDone m limit hosts rows → HaveSameStreams rows →
      (commands : List Placed) (low high : ℕ) → MissByCommands m.tells commands low high rows → (before after : ℕ) → HaveCounted commands before after rows → (own other : List Entry) →
      IsJournalOf rows low high own → IsJournalOf rows high low other → IsOfCommands hosts low high commands own →
      IsOfCommands hosts high low commands other → (hosts ≡ 2 → IsFilledAlone hosts low high commands own) → (hosts ≡ 2 → IsFilledAlone hosts high low commands other) →
      AreLackingStream m.tells hosts commands low high (newest_stream own) own other
  lacking_of m limit hosts rows done streams commands low high missed before after counted own other is_own is_other own_sent other_sent own_filled other_filled =
      let lack = missed.misses in
      let w = known_of missed.wanted low high in
      let ordered = lack.ordered in
      let next = lack.next in
      let less : low < high = omega (arith, ordered, next) in
      let of_own = is_own lack.place lack.one (peer_after low lack.place ordered ∙ sym next) lack.one_at in
      let of_other = is_other low lack.other (peer_before high low less) lack.other_at in
      let there = subst (λ (n : ℕ). IsAt rows n low lack.other) next lack.other_at in
      let same = streams low lack.place lack.one lack.other ordered lack.one_at there in
      let both =
      subst (λ (n : ℕ). HaveNumbered commands before after low n lack.one.channel.streams.list lack.other.channel.streams.list) (sym next)
      (counted low lack.place lack.one lack.other ordered lack.one_at there) in
      let known =
      subst (λ (n : ℕ). IsKnown commands low n (known_of missed.wanted low n) (numbers lack.one.channel.streams.list)) (sym next)
      (missed.known low lack.place lack.one lack.other ordered lack.one_at there) in record {
        ordered = less;
        known = host_within hosts rows done.shape high lack.other_at.0 lack.other_at.1;
        sound =
            subst (λ (p : List Entry). AreSoundJournals m.tells p other) (sym of_own.is)
            (subst (λ (p : List Entry). AreSoundJournals m.tells (line_past lack.one) p) (sym of_other.is)
            (done.sound low lack.place lack.one lack.other ordered lack.one_at there).sound);
        own_sent = own_sent;
        other_sent = other_sent;
        own_filled = own_filled;
        other_filled = other_filled;
        own_opened = opened_among (streams_between low high commands) before after lack.one own both.0 of_own;
        other_opened = opened_among (streams_between low high commands) before after lack.other other both.1 of_other;
        lacks =
            ⊎_elim (λ misses. inl (misses_one m.tells w low high commands lack.one lack.other own other known misses of_own of_other same))
            (λ misses. inr (misses_one m.tells w low high commands lack.other lack.one other own
            (subst (λ (l : List ℕ). IsKnown commands low high w l) (sym same) known) misses of_other of_own (sym same))) lack.misses;
        newest = refl;
      }

  -- the streams of a host and a peer, whichever of them is the lower one
  pub counted_at : (hosts : ℕ) (rows : List (List (LineView E M))) → AreRows hosts rows → (commands : List Placed) (before after : ℕ) →
      HaveCounted commands before after rows → (host place : ℕ) (line : LineView E M) → IsAt rows host place line →
      AreNumbersOf (streams_between host (peer_at host place) commands) before after (numbers line.channel.streams.list)
  counted_at hosts rows shape commands before after counted host place line at =
      let known = host_within hosts rows shape host at.0 at.1 in
      let within = place_within hosts rows shape host place line at in
      elim (cases_lt place host) [
        | inl lower ↦
            let other = stands hosts rows shape place (host - 1) (omega (arith, known, lower)) (omega (arith, known, lower)) in
            let is : suc (host - 1) ≡ host = omega (arith, lower) in
            let to = peer_before host place lower in
            let here = (counted place (host - 1) other.0 line (omega (arith, lower)) other.1 (subst (λ (h : ℕ). IsAt rows h place line) (sym is) at)).1 in
            subst (λ (n : ℕ). AreNumbersOf n before after (numbers line.channel.streams.list))
            (ap (λ (h : ℕ). streams_between place h commands) is ∙ streams_either_way place host commands
            ∙ ap (λ (p : ℕ). streams_between host p commands) (sym to)) here
        | inr higher ↦
            let other = stands hosts rows shape (suc place) host within (omega (arith, higher, within)) in
            let to = peer_after host place higher in
            subst (λ (p : ℕ). AreNumbersOf (streams_between host p commands) before after (numbers line.channel.streams.list)) (sym to)
            (counted host place line other.0 higher at other.1).0
      ]

module _ {E : Type 0} (m : Means E) (limit hosts : ℕ) (callers : List CallerView) (rows : List (List (LineView E WriterView))) (done : AreDone m limit hosts rows)
    (tied : HaveTied callers rows) (commands : List Placed) (did : HaveDoneSpared hosts commands callers rows) where
  -- so it is of the two journals that were taken out of what all hosts have
  pub lacking_in_run : (before after : ℕ) → HaveCounted commands before after rows → HaveSameStreams rows → (low high : ℕ) →
      MissByCommands m.tells commands low high rows → low < high → high < length rows → (own other : List Entry) → IsJournalOf rows low high own → IsJournalOf rows high low other →
      ((caller : CallerView) → slice_get callers low ≡ Some caller → HasOrders low high caller.places own) →
      ((caller : CallerView) → slice_get callers high ≡ Some caller → HasOrders high low caller.places other) →
      IsGroundedAt callers rows low → IsGroundedAt callers rows high → AreLackingStream m.tells hosts commands low high (newest_stream own) own other
  lacking_in_run before after counted streams low high missed less known own other is is_other own_orders other_orders own_grounded other_grounded =
      let count = done.shape.count in
      let first : low < hosts = omega (arith, less, known, count) in
      let second : high < hosts = omega (arith, known, count) in
      lacking_of m limit hosts rows done streams commands low high missed before after counted own other is is_other
      (of_commands_at hosts commands callers rows (omega (arith, less, second)) did tied low high (omega (arith, less, known)) own own_orders)
      (of_commands_at hosts commands callers rows (omega (arith, less, second)) did tied high low known other other_orders)
      (filled_alone m limit hosts callers rows done tied commands did low high first second (λ same. omega (arith, same, less)) own is own_grounded)
      (filled_alone m limit hosts callers rows done tied commands did high low second first (λ same. omega (arith, same, less)) other is_other other_grounded)
