use Rattle.std.proofs.Common.{◌≡◌, ℕ, ◌+◌, ◌<◌, Result, Err, List, [], ◌∷◌, length, drop, get_or, refl, sym, ◌∙◌, ap, subst, arith}
use Rattle.std.proofs.lemmas.Grind.{common_steps}
use Rattle.std.proofs.lemmas.List.{at_drop_all, at_drop_more}
use Rattle.std.proofs.lemmas.List.Elements.{All-get_or}
use Rattle.std.specs.List.{All}
use Rattle.rds_script.specs.Grammar.{meaning}
use Rattle.rds_script.specs.Script.{IsCommand}
use Rattle.rds_script.specs.declared.script.Placed.{Placed}
use Rattle.rds_history.specs.History.{course}
use Rattle.rds_play_world.specs.declared.stop.Stop.{Stop}
use Rattle.rds_play_world.specs.declared.world.World.{World}
use Rattle.rds_play_world.specs.Telling.{Tells, state}
use Rattle.rds_play.specs.Following.{FollowsCourse}
use Rattle.rds_play.proofs.Followings.{Plays, plays_more, plays_stopped, follows_made}
use Rattle.rds_play.proofs.texting.played.Goals as goal

-- the commands from one on
from_one : (xs : List Placed) (i : ℕ) (x : Placed) → i < length xs → x ≡ get_or xs i x → drop i xs ≡ x ∷ drop (i + 1) xs
from_one xs i x below is = at_drop_more (λ (l : List Placed). l) xs i x below ∙ ap (λ (y : Placed). y ∷ drop (i + 1) xs) (sym is)

-- a command of those
command_at : (hosts : ℕ) (xs : List Placed) (i : ℕ) (x : Placed) → i < length xs → x ≡ get_or xs i x → All (λ p. IsCommand hosts p.command) xs → IsCommand hosts x.command
command_at hosts xs i x below is all = subst (λ (p : Placed). IsCommand hosts p.command) (sym is) (All-get_or (λ p. IsCommand hosts p.command) xs i x below all)

pub obey-requires-clause-command : goal.obey-requires-clause-command
obey-requires-clause-command c =
    let s = c.args.script.now in
    let xs = s.commands.items in
    let items : c.deref-placed-items.result.now ≡ xs = c.deref-placed-items.ensures.value in
    let below : c.loop-placed.placed-index < length xs = subst (λ (l : List Placed). c.loop-placed.placed-index < length l) items c.loop-placed-test.true in
    let at : c.placed-item.result ≡ get_or xs c.loop-placed.placed-index c.placed-item.result = c.placed-item.is ∙ ap (λ (l : List Placed). get_or l c.loop-placed.placed-index c.placed-item.result) items in
    subst (λ n. IsCommand n c.placed-item.result.command) (sym c.loop-placed.invariant.0)
    (command_at s.hosts xs c.loop-placed.placed-index c.placed-item.result below at c.requires.script.each)

pub obey-requires-clause-telling : goal.obey-requires-clause-telling
obey-requires-clause-telling c =
    let p = c.loop-placed.invariant.1 in
    (c.args.limit, c.args.script.now.hosts, p.past, p.tells)

pub loop-placed-init : goal.loop-placed-init
loop-placed-init c = (c.in_ok-world.ensures.count, record { past = []; same = refl; tells = c.in_ok-world.ensures.told })

pub loop-placed-preserved : goal.loop-placed-preserved
loop-placed-preserved c =
    let s = c.args.script.now in
    let xs = s.commands.items in
    let i = c.loop-placed.placed-index in
    let x = c.placed-item.result in
    let items : c.deref-placed-items.result.now ≡ xs = c.deref-placed-items.ensures.value in
    let below : i < length xs = subst (λ (l : List Placed). i < length l) items c.loop-placed-test.true in
    let at : x ≡ get_or xs i x = c.placed-item.is ∙ ap (λ (l : List Placed). get_or l i x) items in
    let p = subst (λ (rest : List Placed). Plays c.args.limit s.hosts xs rest (state c.loop-placed.world)) (from_one xs i x below at) c.loop-placed.invariant.1 in (
      c.in_ok-obey.ensures.count ∙ c.loop-placed.invariant.0,
      plays_more c.args.limit s.hosts xs (drop (i + 1) xs) x (state c.loop-placed.world) (state c.obey.new.world) p
          (c.in_ok-obey.ensures.course c.args.limit s.hosts p.past p.tells),
    )

pub returns-in_err-obey : goal.returns-in_err-obey
returns-in_err-obey c =
    let s = c.args.script.now in
    let xs = s.commands.items in
    let i = c.loop-placed.placed-index in
    let x = c.placed-item.result in
    let items : c.deref-placed-items.result.now ≡ xs = c.deref-placed-items.ensures.value in
    let below : i < length xs = subst (λ (l : List Placed). i < length l) items c.loop-placed-test.true in
    let at : x ≡ get_or xs i x = c.placed-item.is ∙ ap (λ (l : List Placed). get_or l i x) items in
    let p = subst (λ (rest : List Placed). Plays c.args.limit s.hosts xs rest (state c.loop-placed.world)) (from_one xs i x below at) c.loop-placed.invariant.1 in
    let same : c.from_residual-in_err-obey.result ≡ Err c.in_err-obey.field-0.0 = grind (arith, common_steps) in
    subst (λ (r : Result World Stop). FollowsCourse (λ past world. Tells c.args.limit s.hosts past (state world)) (course (meaning s) c.args.limit) r) (sym same)
    (plays_stopped (λ past world. Tells c.args.limit s.hosts past (state world)) c.args.limit s.hosts xs (drop (i + 1) xs) x (state c.loop-placed.world) (state c.obey.new.world)
    c.in_err-obey.field-0.0 p (c.in_err-obey.ensures.course c.args.limit s.hosts p.past p.tells))

pub returns : goal.returns
returns c =
    let s = c.args.script.now in
    let xs = s.commands.items in
    let i = c.loop-placed.placed-index in
    let none : drop i xs ≡ [] = at_drop_all (λ (l : List Placed). l) xs i (omega (arith, c.loop-placed-test.false)) in
    let p = subst (λ (rest : List Placed). Plays c.args.limit s.hosts xs rest (state c.loop-placed.world)) none c.loop-placed.invariant.1 in
    follows_made (λ past world. Tells c.args.limit s.hosts past (state world)) (course (meaning s) c.args.limit) c.loop-placed.world p.past p.same p.tells
