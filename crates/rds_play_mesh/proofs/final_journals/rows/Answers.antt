use Rattle.std.proofs.Common.{◌≡◌, suc, ◌+◌, take, drop, refl, sym, ◌∙◌, ap, subst, arith}
use Rattle.std.proofs.lemmas.List.{drop-drop}
use Rattle.rds_play_mesh.specs.Ends.{MeshView}
use Rattle.rds_play_mesh.specs.FinalJournals.{AreJointsOf, HoldJournals}
use Rattle.rds_play_mesh.specs.Places.{triangle}
use Rattle.rds_play_mesh.proofs.Places.{grows}
use Rattle.rds_play_mesh.proofs.FinalJournals.{joints_taken}
use Rattle.rds_play_mesh.proofs.final_journals.rows.Goals as goal

pub loop-high-init : goal.loop-high-init
loop-high-init c = (c.new-rows.ensures.len, omega (arith, c.requires.full), refl, λ h h_in row is. absurd (omega (arith, h_in)))

pub split_off-requires : goal.split_off-requires
split_off-requires c =
    let row = grows c.loop-high.high c.args.count c.loop-high-test.true in
    omega (arith, row, c.loop-high.invariant.1, c.from.ensures)

pub loop-high-preserved : goal.loop-high-preserved
loop-high-preserved c =
    let high = c.loop-high.high in
    let joints = c.args.joints.items in
    let m : MeshView = record { count = c.args.count; joints = joints } in
    let next : high + 1 ≡ suc high = omega arith in
    let row : triangle (high + 1) ≡ triangle high + high = ap triangle next in
    let own : c.split_off.new.self.items ≡ take high (drop (triangle high) joints) =
    c.in_ok-later.ensures.items ∙ ap (λ i. take i c.loop-high.joints.items) c.from.ensures ∙ ap (take high) c.loop-high.invariant.2 in
    let rest : c.in_ok-later.later.items ≡ drop high (drop (triangle high) joints) =
    c.in_ok-later.ensures.tail ∙ ap (λ i. drop i c.loop-high.joints.items) c.from.ensures ∙ ap (drop high) c.loop-high.invariant.2 in
    let joined : AreJointsOf high m c.split_off.new.self.items =
    subst (AreJointsOf high m) (sym own) (joints_taken high m c.loop-high-test.true (sym c.args.joints.ok.0 ∙ c.requires.full)) in (
      c.in_ok-add_host.ensures.count,
      omega (arith, c.in_ok-later.ensures.tail_len, c.loop-high.invariant.1, c.from.ensures, row),
      rest ∙ drop-drop high (triangle high) joints ∙ ap (λ i. drop i joints) (sym row),
      c.in_ok-add_host.ensures.journals m joined c.loop-high.invariant.3,
    )

pub returns-clause-journals : goal.returns-clause-journals
returns-clause-journals c =
    let all : c.loop-high.high ≡ c.args.count = grind arith in
    subst (λ n. HoldJournals n (record { count = c.args.count; joints = c.args.joints.items }) c.loop-high.rows.items) all c.loop-high.invariant.3
