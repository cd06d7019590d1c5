-- What every turn of a line leaves as it was stays so over several turns, and over the turns of several lines.
use Rattle.std.proofs.Common.{◌≡◌, ℕ, List, ◌++◌, length, get_or, set, take, drop, append_assoc, refl, sym, ap, subst, ◌∙◌, ⊎_elim, arith}
use Rattle.std.proofs.lemmas.Bool.{cases_eq}
use Rattle.std.proofs.lemmas.Grind.{get_or-set_at}
use Rattle.std.proofs.Math.Seq.{take-append_seam}
use Rattle.std.proofs.lemmas.List.{get_or-set_other, get_or_default, length-set}
use Rattle.std.proofs.lemmas.Option.{same_Some, slice_get_within, slice_get-get_or}
use Rattle.rds_link.specs.Ends.{Means}
use Rattle.rds_model.specs.declared.entry.Entry.{Entry}
use Rattle.rds_model.specs.declared.order.Datagram.{Datagram}
use Rattle.rds_model.specs.Honest.{Begins}
use Rattle.rds_model.specs.Past.{Moment, now, before}
use Rattle.rds_model.specs.SumLaws.{same_list}
use Rattle.rds_mail.specs.Passes.{Putter}
use Rattle.rds_line_channel.specs.ChangeLaws.{same_length, each_through}
use Rattle.rds_line_channel.specs.Streams.{StreamsView}
use Rattle.rds_line_channel.specs.Channel.{ChannelView}
use Rattle.rds_line.specs.Acts.{nothing}
use Rattle.rds_line.specs.ActLaws.{acts_through}
use Rattle.rds_line.specs.Line.{LineView}
use Rattle.rds_bindtab.specs.declared.view.View.{View as PortView}
use Rattle.rds_meter.specs.declared.view.View.{View as MeterView}
use Rattle.rds_line.specs.Stays.{AreSameBoxes, GoesFurther, StreamsStay, ChannelStays, LineStays}
use Rattle.rds_host.specs.Lines.{AreTurned}

pub begins_through : {T : Type 0} (x y z : List T) → Begins x y → Begins y z → Begins x z
begins_through {T} x y z first second = (first.0 ++ second.0, second.1 ∙ (ap (λ (l : List T). l ++ second.0) first.1 ∙ append_assoc x first.0 second.0))

pub moment_through : {p q r : List Entry} → Moment p q → Moment q r → Moment p r
moment_through first now = first
moment_through first (before {e} {j} m) = before (moment_through first m)

pub boxes_same : (old : List (Putter Datagram)) → AreSameBoxes old old
boxes_same old = record {
  count = refl;
  each = λ slot box after stood stands.
      let is : box ≡ after = same_Some box after (sym stood ∙ stands) in
      (ap (λ (b : Putter Datagram). b.mail) (sym is), ap (λ (b : Putter Datagram). b.number) (sym is), ap (λ (b : Putter Datagram). b.splits) (sym is));
}

pub boxes_through : (old middle new : List (Putter Datagram)) → AreSameBoxes old middle → AreSameBoxes middle new → AreSameBoxes old new
boxes_through old middle new first second = record {
  count = second.count ∙ first.count;
  each = λ slot box after stood stands.
      let small = slice_get_within old slot box stood in
      let count = first.count in
      let between = get_or middle slot box in
      let there = slice_get-get_or middle slot box (omega arith) in
      let one = first.each slot box between stood there in
      let two = second.each slot between after there stands in
      (two.0 ∙ one.0, two.1 ∙ one.1, two.2 ∙ one.2);
}

module _ {E : Type 0} (m : Means E) where
  further_same : (e : E) → GoesFurther m e e
  further_same e tells = (same_list (m.sent e), same_list (m.got e))

  further_through : (x y z : E) → GoesFurther m x y → GoesFurther m y z → GoesFurther m x z
  further_through x y z first second tells = (
    begins_through (m.sent x) (m.sent y) (m.sent z) (first tells).0 (second tells).0,
    begins_through (m.got x) (m.got y) (m.got z) (first tells).1 (second tells).1,
  )

  pub streams_same : (old : StreamsView E) → StreamsStay m old old
  streams_same old = record {
    numbers = refl;
    opened = omega arith;
    further = record {
      at = λ place x y stood stands.
          subst (λ (s : ℕ × E). GoesFurther m x.1 s.1) (same_Some x y (sym stood ∙ stands)) (further_same x.1);
    };
    paired = record { forth = λ others pairs. pairs; back = λ others pairs. pairs };
  }

  pub streams_through : (old middle new : StreamsView E) → StreamsStay m old middle → StreamsStay m middle new → StreamsStay m old new
  streams_through old middle new first second = record {
    numbers = second.numbers ∙ first.numbers;
    opened = let one = first.opened in let two = second.opened in omega arith;
    further = each_through old.list middle.list new.list further_through (same_length middle.list old.list first.numbers) first.further second.further;
    paired = record {
      forth = λ others pairs. second.paired.forth others (first.paired.forth others pairs);
      back = λ others pairs. second.paired.back others (first.paired.back others pairs);
    };
  }

  pub channel_same : (old : ChannelView E) → ChannelStays m old old
  channel_same old = record {
    me = refl;
    peer = refl;
    slots = refl;
    limit = refl;
    past = now;
    streams = streams_same old.streams;
    cuts = same_list old.cuts.numbers;
  }

  pub channel_through : (old middle new : ChannelView E) → ChannelStays m old middle → ChannelStays m middle new → ChannelStays m old new
  channel_through old middle new first second = record {
    me = second.me ∙ first.me;
    peer = second.peer ∙ first.peer;
    slots = second.slots ∙ first.slots;
    limit = second.limit ∙ first.limit;
    past = moment_through first.past second.past;
    streams = streams_through old.streams middle.streams new.streams first.streams second.streams;
    cuts = begins_through old.cuts.numbers middle.cuts.numbers new.cuts.numbers first.cuts second.cuts;
  }

  module _ {M Name : Type 0} (pair : M → Name) where
    pub line_same : (old : LineView E M) → LineStays m pair old old
    line_same old = record {
      channel = channel_same old.channel;
      mail = refl;
      told = refl;
      joined = refl;
      got = same_list old.orders.got;
      boxes = boxes_same old.boxes;
      ports = refl;
      port_view = refl;
      looks = same_list old.ports.view.steps;
      always = λ telling was. was;
      words = refl;
      slot = refl;
      meter_view = refl;
      steps = same_list old.words.view.steps;
      acts = nothing;
      map = refl;
    }

    pub line_through : (old middle new : LineView E M) → LineStays m pair old middle → LineStays m pair middle new → LineStays m pair old new
    line_through old middle new first second = record {
      channel = channel_through old.channel middle.channel new.channel first.channel second.channel;
      mail = second.mail ∙ first.mail;
      told = second.told ∙ first.told;
      joined = second.joined ∙ first.joined;
      got = begins_through old.orders.got middle.orders.got new.orders.got first.got second.got;
      boxes = boxes_through old.boxes middle.boxes new.boxes first.boxes second.boxes;
      ports = second.ports ∙ first.ports;
      port_view = second.port_view ∙ ap (λ (v : PortView). record v { steps = new.ports.view.steps }) first.port_view;
      looks = begins_through old.ports.view.steps middle.ports.view.steps new.ports.view.steps first.looks second.looks;
      always = λ telling was. second.always telling (first.always telling was);
      words = second.words ∙ first.words;
      slot = second.slot ∙ first.slot;
      meter_view =
          second.meter_view
          ∙ ap (λ (v : MeterView). record v { checks = new.words.view.checks; steps = new.words.view.steps }) first.meter_view;
      steps = begins_through old.words.view.steps middle.words.view.steps new.words.view.steps first.steps second.steps;
      acts = acts_through first.acts second.acts;
      map = second.map ∙ first.map;
    }

    pub lines_same : (old : List (LineView E M)) → AreTurned m pair old old
    lines_same old = record {
      count = refl;
      each = λ place line after stood stands. subst (λ (l : LineView E M). LineStays m pair line l) (same_Some line after (sym stood ∙ stands)) (line_same line);
    }

    pub lines_through : (old middle new : List (LineView E M)) → AreTurned m pair old middle → AreTurned m pair middle new → AreTurned m pair old new
    lines_through old middle new first second = record {
      count = second.count ∙ first.count;
      each = λ place line after stood stands.
          let small = slice_get_within old place line stood in
          let count = first.count in
          let between = get_or middle place line in
          let there = slice_get-get_or middle place line (omega arith) in
          line_through line between after (first.each place line between stood there) (second.each place between after there stands);
    }

    -- one line of them may have turned
    pub lines_set : (old : List (LineView E M)) (place : ℕ) (line turned : LineView E M) → LineStays m pair (get_or old place line) turned → AreTurned m pair old (set old place turned)
    lines_set old place line turned stays = record {
      count = length-set old place turned;
      each = λ other before after stood stands.
          let small = slice_get_within old other before stood in
          let held : get_or old other before ≡ before = same_Some (get_or old other before) before (sym (slice_get-get_or old other before small) ∙ stood) in
          let count = length-set old place turned in
          let found : get_or (set old place turned) other before ≡ after = same_Some (get_or (set old place turned) other before) after (sym (slice_get-get_or (set old place turned) other before (omega arith)) ∙ stands) in
          ⊎_elim
          (λ (e : other ≡ place).
          let was : get_or old place line ≡ before = ap (λ i. get_or old i line) (sym e) ∙ (get_or_default old other line before small ∙ held) in
          let is : turned ≡ after = sym (get_or-set_at old place other turned before e (omega arith)) ∙ found in
          subst (λ (l : LineView E M). LineStays m pair l after) was (subst (λ (l : LineView E M). LineStays m pair (get_or old place line) l) is stays))
          (λ (e : other ≡ place → ⊥).
          let is : before ≡ after = sym held ∙ (sym (get_or-set_other old place other turned before e) ∙ found) in
          subst (λ (l : LineView E M). LineStays m pair before l) is (line_same before))
          (cases_eq other place);
    }

    -- they turned once more behind a slice of all of them
    pub lines_back : (given old held new : List (LineView E M)) (n : ℕ) → AreTurned m pair given old → held ≡ old → AreTurned m pair held new → n ≡ length old
        → AreTurned m pair given (take n (new ++ drop (length new) old))
    lines_back given old held new n first same second count =
        let more = second.count in
        let size : n ≡ length new = count ∙ (ap length (sym same) ∙ sym more) in
        let all : take n (new ++ drop (length new) old) ≡ new = ap (λ i. take i (new ++ drop (length new) old)) size ∙ take-append_seam new (drop (length new) old) in
        subst (λ (l : List (LineView E M)). AreTurned m pair given l) (sym all)
        (lines_through given old new first (subst (λ (l : List (LineView E M)). AreTurned m pair l new) same second))
