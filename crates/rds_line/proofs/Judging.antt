-- What a turn answers, for what its steps did.
use Rattle.std.proofs.Common.{◌≡◌, ◌⊎◌, inl, inr, ℕ, ◌<◌, ◌≤◌, ◌&&◌, ◌||◌, not, nat_lt, if◌then◌else◌, Bool, true, false, length, refl, subst, arith}
use Rattle.std.proofs.lemmas.Bool.{ltb-true, ltb-false}
use Rattle.rds_link.specs.Ends.{Means}
use Rattle.rds_model.specs.Past.{Moment}
use Rattle.rds_line.specs.declared.outcome.Done.{Done}
use Rattle.rds_line.specs.declared.outcome.Heard.{Heard}
use Rattle.rds_line.specs.declared.outcome.Heard.TheVariants as heard
use Rattle.rds_line.specs.declared.outcome.Sent.{Sent}
use Rattle.rds_line.specs.declared.outcome.Sent.TheVariants as sent
use Rattle.rds_line.specs.declared.outcome.Turn.{Turn}
use Rattle.rds_line.specs.declared.outcome.Turn.TheVariants as turn
use Rattle.rds_line.specs.Doing.{Did}
use Rattle.rds_line.specs.Line.{LineView, line_past}
use Rattle.rds_line.specs.Turns.{HasMoved, IsIdleTurn, IsOverTurn, TakesOrder, is_bytes_heard, is_bytes_sent}
use Rattle.rds_line.proofs.Stepping.{moment_back}

-- what isn't false, negated, is true
pub not_false : (b : Bool) → not b ≡ false → b ≡ true
not_false true e = refl
not_false false e = absurd (cc)

-- something was taken or appended, or came or went
pub judged_moved : (took on has_next moved appended : Bool) → (took ≡ true) ⊎ ((on ≡ true) ⊎ (has_next ≡ true)) → (moved ≡ true) ⊎ (appended ≡ true)
    → turn.Moved ≡ (if not took && (not on && not has_next) then turn.Over else if moved || appended then turn.Moved else turn.Idle)
judged_moved true on has_next true appended going did = refl
judged_moved true on has_next false true going did = refl
judged_moved true on has_next false false going (inl did) = absurd (cc)
judged_moved true on has_next false false going (inr did) = absurd (cc)
judged_moved false true has_next true appended going did = refl
judged_moved false true has_next false true going did = refl
judged_moved false true has_next false false going (inl did) = absurd (cc)
judged_moved false true has_next false false going (inr did) = absurd (cc)
judged_moved false false true true appended going did = refl
judged_moved false false true false true going did = refl
judged_moved false false true false false going (inl did) = absurd (cc)
judged_moved false false true false false going (inr did) = absurd (cc)
judged_moved false false false moved appended (inl going) did = absurd (cc)
judged_moved false false false moved appended (inr (inl going)) did = absurd (cc)
judged_moved false false false moved appended (inr (inr going)) did = absurd (cc)

-- what a turn answers, by what it did
abbrev pub answer : (took h s on next appended : Bool) → Turn
answer took h s on next appended = if not took && (not on && not next) then turn.Over else if (took || (h || s)) || appended then turn.Moved else turn.Idle

-- a turn that moved took, got or sent something, or its journal has more entries
pub answer_moved : (took h s on next appended : Bool) → answer took h s on next appended ≡ turn.Moved → (took ≡ true) ⊎ ((h ≡ true) ⊎ ((s ≡ true) ⊎ (appended ≡ true)))
answer_moved true h s on next appended e = inl refl
answer_moved false true s on next appended e = inr (inl refl)
answer_moved false false true on next appended e = inr (inr (inl refl))
answer_moved false false false on next true e = inr (inr (inr refl))
answer_moved false false false true next false e = absurd (cc)
answer_moved false false false false true false e = absurd (cc)
answer_moved false false false false false false e = absurd (cc)

-- an idle one did none of that
pub answer_idle : (took h s on next appended : Bool) → answer took h s on next appended ≡ turn.Idle →
    (took ≡ false) × (h ≡ false) × (s ≡ false) × (appended ≡ false) × ((on ≡ true) ⊎ (next ≡ true))
answer_idle true h s on next appended e = absurd (cc)
answer_idle false true s true next appended e = absurd (cc)
answer_idle false true s false true appended e = absurd (cc)
answer_idle false true s false false appended e = absurd (cc)
answer_idle false false true true next appended e = absurd (cc)
answer_idle false false true false true appended e = absurd (cc)
answer_idle false false true false false appended e = absurd (cc)
answer_idle false false false true next true e = absurd (cc)
answer_idle false false false false true true e = absurd (cc)
answer_idle false false false false false true e = absurd (cc)
answer_idle false false false true next false e = (refl, refl, refl, refl, inl refl)
answer_idle false false false false true false e = (refl, refl, refl, refl, inr refl)
answer_idle false false false false false false e = absurd (cc)

pub answer_over : (took h s on next appended : Bool) → answer took h s on next appended ≡ turn.Over → (took ≡ false) × (on ≡ false) × (next ≡ false)
answer_over true h s on next appended e = absurd (over_not h s appended e)
  where
    over_not : (x y z : Bool) → (if (true || (x || y)) || z then turn.Moved else turn.Idle) ≡ turn.Over → ⊥
    over_not x y z f = absurd (cc)
answer_over false h s false false appended e = (refl, refl, refl)
answer_over false true s true next appended e = absurd (cc)
answer_over false true s false true appended e = absurd (cc)
answer_over false false true true next appended e = absurd (cc)
answer_over false false true false true appended e = absurd (cc)
answer_over false false false true next true e = absurd (cc)
answer_over false false false true next false e = absurd (cc)
answer_over false false false false true true e = absurd (cc)
answer_over false false false false true false e = absurd (cc)

-- and one that isn't over took an order, or a stream is open or left
pub answer_goes_on : (took h s on next appended : Bool) → (answer took h s on next appended ≡ turn.Moved) ⊎ (answer took h s on next appended ≡ turn.Idle) → (took ≡ true) ⊎ ((on ≡ true) ⊎ (next ≡ true))
answer_goes_on true h s on next appended e = inl refl
answer_goes_on false h s true next appended e = inr (inl refl)
answer_goes_on false h s false true appended e = inr (inr refl)
answer_goes_on false h s false false appended (inl e) = absurd (cc)
answer_goes_on false h s false false appended (inr e) = absurd (cc)

pub heard_bytes : (h : Heard) → is_bytes_heard h ≡ true → h ≡ heard.Bytes
heard_bytes heard.Bytes e = refl
heard_bytes heard.Nothing e = absurd (cc)
heard_bytes heard.Ended e = absurd (cc)
heard_bytes heard.Closed e = absurd (cc)

pub sent_bytes : (s : Sent) → is_bytes_sent s ≡ true → s ≡ sent.Bytes
sent_bytes sent.Bytes e = refl
sent_bytes sent.Nothing e = absurd (cc)
sent_bytes sent.Full e = absurd (cc)
sent_bytes sent.Ended e = absurd (cc)
sent_bytes sent.Closed e = absurd (cc)

-- none is spent
pub answer_unspent : (took h s on next appended : Bool) (entries : ℕ) → answer took h s on next appended ≡ turn.Spent entries → ⊥
answer_unspent true true s on next appended entries e = absurd (cc)
answer_unspent true false s on next appended entries e = absurd (cc)
answer_unspent false h s false false appended entries e = absurd (cc)
answer_unspent false true s true next appended entries e = absurd (cc)
answer_unspent false true s false true appended entries e = absurd (cc)
answer_unspent false false true true next appended entries e = absurd (cc)
answer_unspent false false true false true appended entries e = absurd (cc)
answer_unspent false false false true next true entries e = absurd (cc)
answer_unspent false false false true next false entries e = absurd (cc)
answer_unspent false false false false true true entries e = absurd (cc)
answer_unspent false false false false true false entries e = absurd (cc)

module _ {E M : Type 0} (m : Means E) (old new : LineView E M) (done : Done) (count : ℕ) (did : Did m old new done) (is : count ≡ length (line_past old)) where
  pub moved_of : (done.took ≡ true) ⊎ ((is_bytes_heard done.heard ≡ true) ⊎ ((is_bytes_sent done.sent ≡ true) ⊎ (nat_lt count (length (line_past new)) ≡ true))) → HasMoved m old new
  moved_of (inl took) = inl (did.took took)
  moved_of (inr (inl came)) = inr (inr (inl (did.got (heard_bytes done.heard came))))
  moved_of (inr (inr (inl went))) = inr (inr (inr (did.sent (sent_bytes done.sent went))))
  moved_of (inr (inr (inr more))) = inr (inl (subst (λ (n : ℕ). n < length (line_past new)) is (ltb-true count (length (line_past new)) more)))

  still_open : (b : Bool) → (b ≡ true) ⊎ (nat_lt new.channel.streams.opened (length new.channel.streams.list) ≡ true) → (b ≡ true) ⊎ (new.channel.streams.opened < length new.channel.streams.list)
  still_open b (inl on) = inl on
  still_open b (inr next) = inr (ltb-true new.channel.streams.opened (length new.channel.streams.list) next)

  pub idle_of : Moment (line_past old) (line_past new) → (done.took ≡ false) × (is_bytes_heard done.heard ≡ false) × (is_bytes_sent done.sent ≡ false) × (nat_lt count (length (line_past new)) ≡ false)
      × ((new.channel.streams.is_open ≡ true) ⊎ (nat_lt new.channel.streams.opened (length new.channel.streams.list) ≡ true)) → IsIdleTurn m old new
  idle_of past cases =
      let small = subst (λ (n : ℕ). length (line_past new) ≤ n) is (ltb-false count (length (line_past new)) cases.3) in
      did.idle cases.0 cases.1 cases.2 (moment_back past small) (still_open new.channel.streams.is_open cases.4)

  pub over_of : new.channel.streams.opened ≤ length new.channel.streams.list →
      (done.took ≡ false) × (new.channel.streams.is_open ≡ false)
      × (nat_lt new.channel.streams.opened (length new.channel.streams.list) ≡ false) → IsOverTurn old new
  over_of within cases =
      let all = ltb-false new.channel.streams.opened (length new.channel.streams.list) cases.2 in
      record {
        orders = did.none cases.0;
        closed = cases.1;
        last = omega (arith, within, all);
      }

  pub goes_on_of : (done.took ≡ true)
      ⊎ ((new.channel.streams.is_open ≡ true) ⊎ (nat_lt new.channel.streams.opened (length new.channel.streams.list) ≡ true)) →
      TakesOrder old.orders new.orders
      ⊎ ((new.channel.streams.is_open ≡ true) ⊎ (new.channel.streams.opened < length new.channel.streams.list))
  goes_on_of (inl took) = inl (did.took took)
  goes_on_of (inr left) = inr (still_open new.channel.streams.is_open left)
