use Rattle.std.proofs.Common.{◌≡◌, ℕ, ◌<◌, List, [], ◌∷◌, length, ap, subst, arith}
use Rattle.std.specs.Prelude.{OnOk}
use Rattle.rds_history.specs.Events.{Event, Moved}
use Rattle.rds_history.specs.Journals.{in_flight}
use Rattle.rds_play_world.specs.Telling.{Tells, state}
use Rattle.rds_play_world.proofs.Arriving.{moved_part, moved_whole}
use Rattle.rds_play_world.proofs.Right.{no_bytes, none_bytes, some_bytes}
use Rattle.rds_play_world.proofs.world.World.move_piece.Goals as goal

pub returns-then-not-is_empty-clause-told : goal.returns-then-not-is_empty-clause-told
returns-then-not-is_empty-clause-told c = λ limit hosts past told some most.
    let h = c.args.from in
    let k = c.args.to in
    let later : List Event = Moved h k c.args.count ∷ past in
    let fed = c.in_ok-feed.ensures.told limit hosts past told some most in
    let flies = ap (λ (l : List ℕ). length l) fed.flying in
    let seen = ap (λ (l : List ℕ). length l) c.in_flight.ensures in
    let left : 0 < length (in_flight h k later) = omega (arith, flies, seen, some_bytes c.in_flight.result.now c.is_empty.result c.is_empty.ensures c.if-not-is_empty.true) in
    subst (λ (p : List Event). Tells limit hosts p (state c.feed.new.self)) (moved_part h k c.args.count past left) (fed.part left)

pub returns-clause-told : goal.returns-clause-told
returns-clause-told c = λ limit hosts past told some most.
    let h = c.args.from in
    let k = c.args.to in
    let later : List Event = Moved h k c.args.count ∷ past in
    let fed = c.in_ok-feed.ensures.told limit hosts past told some most in
    let flies = ap (λ (l : List ℕ). length l) fed.flying in
    let seen = ap (λ (l : List ℕ). length l) c.in_flight.ensures in
    let zero : length (in_flight h k later) ≡ 0 = omega (arith, flies, seen, none_bytes c.in_flight.result.now c.is_empty.result c.is_empty.ensures c.if-not-is_empty.false) in
    let none : in_flight h k later ≡ [] = no_bytes (in_flight h k later) zero in
    let w = fed.whole none in
    subst (λ (p : List Event). OnOk c.read.result (Tells limit hosts p (state c.read.new.self))) (moved_whole h k c.args.count past none) (c.read.ensures.told limit hosts w.0 w.1 later w.2)
