-- A line that turned goes on, and so does one that goes on twice.
use Rattle.std.proofs.Common.{◌≡◌, ◌≤◌, ℕ, zero, suc, List, [], ◌∷◌, ◌++◌, Some, append_assoc, length, slice_get, refl, sym, ap, subst, ◌∙◌, arith}
use Rattle.std.proofs.lemmas.Option.{same_Some}
use Rattle.rds_link.specs.Ends.{Means}
use Rattle.rds_fmap.specs.Readers.{WriterView}
use Rattle.rds_meter.specs.Grounds.{seats_of}
use Rattle.rds_mail.specs.Passes.{Putter}
use Rattle.rds_model.specs.declared.entry.Entry.{Entry}
use Rattle.rds_model.specs.declared.order.Datagram.{Datagram}
use Rattle.rds_model.specs.Honest.{Begins}
use Rattle.rds_model.specs.Past.{Moment, now, before}
use Rattle.rds_model.specs.SumLaws.{same_list}
use Rattle.rds_line_channel.specs.Streams.{numbers, with_list}
use Rattle.rds_line.specs.Line.{LineView}
use Rattle.rds_line.specs.Stays.{AreSameBoxes, LineStays}
use Rattle.rds_host.specs.Keeping.{LineKeeps}
use Rattle.rds_host.specs.Lines.{pair_of}
use Rattle.rds_run_rounds.specs.Causes.{HasRoomForTwo}
use Rattle.rds_run_rounds.specs.Grid.{EachRow}
use Rattle.rds_run_rounds.specs.Quiet.{LineGoesOn, LinesGoOn}
use Rattle.rds_run_rounds.specs.Rest.{HasMet}

-- what stands at a place of a list stood there in one that is as long
pub stood_at : {T : Type 0} (old new : List T) (place : ℕ) (x : T) → length new ≡ length old → slice_get new place ≡ Some x → (y : T) × (slice_get old place ≡ Some y)
stood_at [] [] place x same at = absurd (cc)
stood_at [] (y ∷ new) place x same at = absurd (omega (arith, same))
stood_at (z ∷ old) [] place x same at = absurd (cc)
stood_at (z ∷ old) (y ∷ new) zero x same at = (z, refl)
stood_at (z ∷ old) (y ∷ new) (suc place) x same at = stood_at old new place x (omega (arith, same)) at

boxes_same : (boxes : List (Putter Datagram)) → AreSameBoxes boxes boxes
boxes_same boxes = record {
  count = refl;
  each = λ slot box after stood stands.
      let is : box ≡ after = same_Some box after (sym stood ∙ stands) in
      (ap (λ (b : Putter Datagram). b.mail) (sym is), ap (λ (b : Putter Datagram). b.number) (sym is), ap (λ (b : Putter Datagram). b.splits) (sym is));
}

module _ {E : Type 0} where
  pub line_keeps_same : (line : LineView E WriterView) → LineKeeps line line
  line_keeps_same line = record { peer = refl; mail = refl; joined = refl; boxes = boxes_same line.boxes; ports = refl; words = refl; seats = refl; pair = refl }

-- what begins with what begins
pub begins_through : {T : Type 0} (x y z : List T) → Begins x y → Begins y z → Begins x z
begins_through {T} x y z first second = (first.0 ++ second.0, second.1 ∙ (ap (λ (l : List T). l ++ second.0) first.1 ∙ append_assoc x first.0 second.0))

boxes_through : (old middle new : List (Putter Datagram)) → AreSameBoxes old middle → AreSameBoxes middle new → AreSameBoxes old new
boxes_through old middle new first second = record {
  count = second.count ∙ first.count;
  each = λ slot box after stood stands.
      let between = stood_at middle new slot after second.count stands in
      let one = first.each slot box between.0 stood between.1 in
      let two = second.each slot between.0 after between.1 stands in
      (two.0 ∙ one.0, two.1 ∙ one.1, two.2 ∙ one.2);
}

-- an earlier time of an earlier time, and how long a journal was then
moment_through : {p q j : List Entry} → Moment p q → Moment q j → Moment p j
moment_through first now = first
moment_through first (before later) = before (moment_through first later)

moment_longer : {p j : List Entry} → Moment p j → length p ≤ length j
moment_longer now = omega arith
moment_longer (before later) = let shorter = moment_longer later in omega (arith, shorter)

module _ {E : Type 0} where
  pub goes_same : (line : LineView E WriterView) → LineGoesOn line line
  goes_same line = record { keeps = line_keeps_same line; told = refl; got = same_list line.orders.got; numbers = refl; limit = refl; past = now; always = λ telling was. was }

  pub goes_through : (a b c : LineView E WriterView) → LineGoesOn a b → LineGoesOn b c → LineGoesOn a c
  goes_through a b c one two = record {
    keeps = record {
      peer = two.keeps.peer ∙ one.keeps.peer;
      mail = two.keeps.mail ∙ one.keeps.mail;
      joined = two.keeps.joined ∙ one.keeps.joined;
      boxes = boxes_through a.boxes b.boxes c.boxes one.keeps.boxes two.keeps.boxes;
      ports = two.keeps.ports ∙ one.keeps.ports;
      words = two.keeps.words ∙ one.keeps.words;
      seats = two.keeps.seats ∙ one.keeps.seats;
      pair = two.keeps.pair ∙ one.keeps.pair;
    };
    told = two.told ∙ one.told;
    got = begins_through a.orders.got b.orders.got c.orders.got one.got two.got;
    always = λ telling was. two.always telling (one.always telling was);
    numbers = two.numbers ∙ one.numbers;
    limit = two.limit ∙ one.limit;
    past = moment_through one.past two.past;
  }

  -- a journal that has room had room before
  pub had_room : (x y : LineView E WriterView) → LineGoesOn x y → HasRoomForTwo y → HasRoomForTwo x
  had_room x y goes room =
      let same = goes.limit in
      let longer = moment_longer goes.past in
      omega (arith, room, same, longer)

  -- a line that met another has room where it had room
  pub room_met : (old new : LineView E WriterView) → HasMet old new → HasRoomForTwo old → HasRoomForTwo new
  room_met old new met room =
      let same = met.goes.limit in
      let count = ap (λ (past : List Entry). length past) met.past in
      omega (arith, room, same, count)

  -- a line that turned goes on
  pub goes_of_stays : (m : Means E) (line after : LineView E WriterView) → LineStays m pair_of line after → LineGoesOn line after
  goes_of_stays m line after stays = record {
    keeps = record {
      peer = stays.channel.peer;
      mail = stays.mail;
      joined = stays.joined;
      boxes = stays.boxes;
      ports = stays.ports;
      words = stays.words;
      seats = ap seats_of stays.meter_view;
      pair = stays.map;
    };
    told = stays.told;
    got = stays.got;
    always = stays.always;
    numbers = stays.channel.streams.numbers;
    limit = stays.channel.limit;
    past = stays.channel.past;
  }

  -- a line that met another, at which only the ends of its streams may be others, goes on
  pub has_met : (line after : LineView E WriterView) → numbers after.channel.streams.list ≡ numbers line.channel.streams.list →
      after ≡ record line { channel = record line.channel { streams = with_list line.channel.streams after.channel.streams.list } } → HasMet line after
  has_met line after same is =
      subst (HasMet line) (sym is)
      (record {
        goes = record {
          keeps = record {
            peer = refl;
            mail = refl;
            joined = refl;
            boxes = boxes_same line.boxes;
            ports = refl;
            words = refl;
            seats = refl;
            pair = refl;
          };
          told = refl;
          got = same_list line.orders.got;
          always = λ telling was. was;
          numbers = same;
          limit = refl;
          past = now;
        };
        past = refl;
        orders = refl;
        out = refl;
        full = λ entries full. record { count = full.count; most = full.most };
      })

  pub lines_through : (a b c : List (LineView E WriterView)) → LinesGoOn a b → LinesGoOn b c → LinesGoOn a c
  lines_through a b c one two = record {
    count = two.count ∙ one.count;
    each = λ place line after stood stands.
        let between = stood_at b c place after two.count stands in
        goes_through line between.0 after (one.each place line between.0 stood between.1) (two.each place between.0 after between.1 stands);
  }

  pub lines_same : (lines : List (LineView E WriterView)) → LinesGoOn lines lines
  lines_same lines = record {
    count = refl;
    each = λ place line after stood stands. subst (LineGoesOn line) (same_Some line after (sym stood ∙ stands)) (goes_same line);
  }

  pub rows_same : (rows : List (List (LineView E WriterView))) → EachRow LinesGoOn rows rows
  rows_same rows = record {
    count = refl;
    each = λ host row after stood stands. subst (LinesGoOn row) (same_Some row after (sym stood ∙ stands)) (lines_same row);
  }

  pub rows_through : (a b c : List (List (LineView E WriterView))) → EachRow LinesGoOn a b → EachRow LinesGoOn b c → EachRow LinesGoOn a c
  rows_through a b c one two = record {
    count = two.count ∙ one.count;
    each = λ host row after stood stands.
        let between = stood_at b c host after two.count stands in
        lines_through row between.0 after (one.each host row between.0 stood between.1) (two.each host between.0 after between.1 stands);
  }
