-- A line that has no stream left, and whether it should have one.
use Rattle.std.proofs.Common.{◌≡◌, ◌⊎◌, inl, inr, ◌<◌, ℕ, zero, suc, Bool, true, false, List, [], ◌∷◌, Option, None, Some, IsSome, is_some, if◌then◌else◌, length, length-append, max, min, slice_get, refl, sym, ap, subst, ◌∙◌, arith}
use Rattle.std.proofs.lemmas.Bool.{false≢true}
use Rattle.std.proofs.lemmas.List.{length-map, take_all}
use Rattle.rds_link.specs.Ends.{Means}
use Rattle.rds_fmap.specs.Readers.{WriterView}
use Rattle.rds_mail.specs.Passes.{Getter}
use Rattle.rds_model.specs.declared.entry.Entry.{Entry}
use Rattle.rds_model.specs.declared.order.Order.{Order}
use Rattle.rds_model.specs.Past.{Moment, open_stream}
use Rattle.rds_model.specs.Sums.{opens}
use Rattle.rds_line_channel.specs.Streams.{newest_place, numbers}
use Rattle.rds_line.specs.Line.{LineView, line_past}
use Rattle.rds_line.specs.Turns.{TakesOrder}
use Rattle.rds_run_rounds.specs.Causes.{IsLeftWell, LacksStream, MissesByOrder, MissesStream, OneMissesStream, ShouldHaveStream}
use Rattle.rds_run_rounds.specs.Rest.{HasMet, KeepsStreams}
use Rattle.rds_run_rounds.specs.declared.verdict.Wanted.{Wanted}
use Rattle.rds_run_rounds.proofs.Counted.{refusals_grow}
use Rattle.rds_run_rounds.proofs.Resting.{number_of_open, opened_count}

-- of two hosts the lower and the higher one, whichever is named first
pub named_low : (low high n : ℕ) → low < high → n ≡ min low high → n ≡ low
named_low low high n less is = grind (arith, less, is)

pub named_high : (low high n : ℕ) → low < high → n ≡ max low high → n ≡ high
named_high low high n less is = grind (arith, less, is)

pub named_low_too : (low high n : ℕ) → low < high → n ≡ min high low → n ≡ low
named_low_too low high n less is = grind (arith, less, is)

pub named_high_too : (low high n : ℕ) → low < high → n ≡ max high low → n ≡ high
named_high_too low high n less is = grind (arith, less, is)

module _ {E : Type 0} where
  -- where no stream is open and all were opened
  pub no_stream : {M : Type 0} (m : Means E) (line : LineView E M) → KeepsStreams m line → line.channel.streams.is_open ≡ false →
      line.channel.streams.opened ≡ length line.channel.streams.list → LacksStream line
  no_stream m line keeps closed last =
      let list = line.channel.streams.list in
      let count = length-map list (λ (stream : ℕ × E). stream.0) in record {
        closed =
            sym keeps.carried.current
            ∙ ap (λ (b : Bool). if b then slice_get (numbers list) (newest_place line.channel.streams) else None) closed;
        all = sym keeps.carried.opened ∙ take_all line.channel.streams.opened (numbers list) (omega (arith, count, last));
      }

  -- a line that has met another lacks what it lacked
  lacks_met : (old new : LineView E WriterView) → HasMet old new → LacksStream old → LacksStream new
  lacks_met old new met lacks = record {
    closed = ap open_stream met.past ∙ lacks.closed;
    all = ap opens met.past ∙ lacks.all ∙ sym met.goes.numbers;
  }

  -- and lacked what it lacks
  lacked_met : (old new : LineView E WriterView) → HasMet old new → LacksStream new → LacksStream old
  lacked_met old new met lacks = record {
    closed = sym (ap open_stream met.past) ∙ lacks.closed;
    all = sym (ap opens met.past) ∙ lacks.all ∙ met.goes.numbers;
  }

-- there is something at each place of a list
not_none : {T : Type 0} (xs : List T) (i : ℕ) → i < length xs → slice_get xs i ≡ None → ⊥
not_none [] i within none = omega (arith, within)
not_none (x ∷ xs) zero within none = absurd (cc)
not_none (x ∷ xs) (suc i) within none = not_none xs i (omega (arith, within)) none

-- what isn't nothing is something
some_of : (o : Option ℕ) → (o ≡ None → ⊥) → IsSome o
some_of None some = absurd (some refl)
some_of (Some number) some = refl

module _ {E : Type 0} where
  -- the journal of a line with a stream open has one open
  pub open_in_journal : {M : Type 0} (m : Means E) (line : LineView E M) → KeepsStreams m line → line.channel.streams.is_open ≡ true →
      IsSome (open_stream (line_past line))
  open_in_journal m line keeps on =
      let streams = line.channel.streams in
      let count = length-map streams.list (λ (stream : ℕ × E). stream.0) in
      let some = keeps.streams.some on in
      let within = keeps.streams.within in
      some_of (open_stream (line_past line))
      (λ none.
      not_none (numbers streams.list) (newest_place streams) (omega (arith, count, some, within)) (sym (number_of_open streams on) ∙ keeps.carried.current ∙ none))

  -- a line with a stream open, or one that it may open, lacks none, unless it took an order
  pub lacks_by_order : {M : Type 0} (m : Means E) (old new : LineView E M) → KeepsStreams m new →
      TakesOrder old.orders new.orders ⊎ ((new.channel.streams.is_open ≡ true) ⊎ (new.channel.streams.opened < length new.channel.streams.list)) →
      LacksStream new → length old.orders.got < length new.orders.got
  lacks_by_order m old new keeps (inl took) lacks =
      let more = ap (λ (g : Getter Order). length g.got) took.2 in
      let one = length-append old.orders.got ((took.0, took.1) ∷ []) in
      omega (arith, more, one)
  lacks_by_order m old new keeps (inr (inl on)) lacks =
      absurd (false≢true (sym (ap is_some lacks.closed) ∙ open_in_journal m new keeps on))
  lacks_by_order m old new keeps (inr (inr more)) lacks =
      let streams = new.channel.streams in
      let count = length-map streams.list (λ (stream : ℕ × E). stream.0) in
      let all = sym (opened_count streams keeps.streams.within) ∙ ap length (keeps.carried.opened ∙ lacks.all) in
      absurd (omega (arith, count, all, more))

module _ (tells : Bool) (w : Wanted) where
  -- headers that the other one refuses since give no cause
  should_before : (own other after : List Entry) → Moment other after → ShouldHaveStream tells w own after → ShouldHaveStream tells w own other
  should_before own other after later (inl told) = inl told
  should_before own other after later (inr (inl lacks)) = inr (inl lacks)
  should_before own other after later (inr (inr more)) = let grown = refusals_grow later in inr (inr (omega (arith, more, grown)))

  module _ {E : Type 0} where
    pub left_grows : (own other after : LineView E WriterView) → Moment (line_past other) (line_past after) → IsLeftWell tells w own other → IsLeftWell tells w own after
    left_grows own other after later (inl on) = inl on
    left_grows own other after later (inr lacks) =
        inr (lacks.0, λ should. lacks.1 (should_before (line_past own) (line_past other) (line_past after) later should))

    pub by_order_grows : (old own other after : LineView E WriterView) → Moment (line_past other) (line_past after) → MissesByOrder tells w old own other →
        MissesByOrder tells w old own after
    by_order_grows old own other after later by misses =
        by (misses.0, should_before (line_past own) (line_past other) (line_past after) later misses.1)

    -- two lines that met each other, and what was so before
    module _ (one one_met other other_met : LineView E WriterView) (first : HasMet one one_met) (second : HasMet other other_met) where
      should_met : ShouldHaveStream tells w (line_past one) (line_past other) → ShouldHaveStream tells w (line_past one_met) (line_past other_met)
      should_met should =
          subst (λ (past : List Entry). ShouldHaveStream tells w past (line_past other_met)) (sym first.past)
          (subst (ShouldHaveStream tells w (line_past one)) (sym second.past) should)

      should_have_met : ShouldHaveStream tells w (line_past one_met) (line_past other_met) → ShouldHaveStream tells w (line_past one) (line_past other)
      should_have_met should =
          subst (λ (past : List Entry). ShouldHaveStream tells w past (line_past other)) first.past
          (subst (ShouldHaveStream tells w (line_past one_met)) second.past should)

      misses_met : MissesStream tells w one other → MissesStream tells w one_met other_met
      misses_met misses = (lacks_met one one_met first misses.0, should_met misses.1)

      pub left_met : IsLeftWell tells w one other → IsLeftWell tells w one_met other_met
      left_met (inl on) = inl (subst (λ (past : List Entry). IsSome (open_stream past)) (sym first.past) on)
      left_met (inr lacks) = inr (lacks_met one one_met first lacks.0, λ should. lacks.1 (should_have_met should))

      pub by_order_met : (before_it old : LineView E WriterView) → HasMet before_it old → MissesByOrder tells w old one other →
          MissesByOrder tells w before_it one_met other_met
      by_order_met before_it old earlier by misses =
          let less = by (lacked_met one one_met first misses.0, should_have_met misses.1) in
          let was = ap (λ (g : Getter Order). length g.got) earlier.orders in
          let is = ap (λ (g : Getter Order). length g.got) first.orders in
          omega (arith, less, was, is)

    pub one_misses_met : (one one_met other other_met : LineView E WriterView) → HasMet one one_met → HasMet other other_met → OneMissesStream tells w one other →
        OneMissesStream tells w one_met other_met
    one_misses_met one one_met other other_met first second (inl misses) = inl (misses_met one one_met other other_met first second misses)
    one_misses_met one one_met other other_met first second (inr misses) = inr (misses_met other other_met one one_met second first misses)
