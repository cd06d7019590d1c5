use Rattle.std.proofs.Common.{rules, ◌≡◌, ◌+◌, true, length, refl, ap, ◌∙◌, sym, subst, arith}
use Rattle.atomic_table.specs.Seated.{TableId}
use Rattle.rds_fmap.specs.declared.words.view.View.{View}
use Rattle.rds_fmap.proofs.Publication.{Publishing, begins, puts_more, number_is}
use Rattle.rds_fmap.proofs.Steps.{puts}
use Rattle.rds_fmap.proofs.words.writer.put_all.Goals as goal

pub loop-j-init : goal.loop-j-init
loop-j-init c = record { table = refl; view = begins c.args.map.now c.args.seat.now.me.0 c.requires.writer.2; slots = refl }

pub store-requires : goal.store-requires
store-requires c =
    let on = c.loop-j.invariant.view.on (let t = c.loop-j-test.true in omega arith) in
    let table = c.requires.table in
    let same : c.loop-j.seat.table_id ≡ c.args.words.now.shared.table_id = c.loop-j.invariant.table ∙ table.0 in
    let size : c.args.words.now.shared.table_id.words ≡ 2048 = ap (λ (z : TableId). z.words) (sym table.0) ∙ table.1 in
    let number = number_is c.args.version c.from.result c.requires.version.1 (let h = c.half.type_inv in let e = c.from.ensures in omega arith) in
    let writes : c.loop-j.seat.me.0.writes ≡ true = ap (λ (v : View). v.writes) on.0 ∙ c.requires.writer.1 in
    let count : length c.loop-j.seat.me.0.published ≡ length c.args.seat.now.me.0.published = ap (λ (v : View). length v.published) on.0 in (
      same,
      (let t = c.loop-j-test.true in omega arith),
      puts _ _ c.loop-j.j _ c.loop-j.seat.me writes (sym on.1.0) (let n = number.0 in let v = c.requires.version in omega arith),
    )

pub loop-j-preserved : goal.loop-j-preserved
loop-j-preserved c =
    let done = c.store.ensures in
    let number = number_is c.args.version c.from.result c.requires.version.1 (let h = c.half.type_inv in let e = c.from.ensures in omega arith) in
    let is = c.known.ensures.map in
    record {
      table = done.0 ∙ c.loop-j.invariant.table;
      view = subst (λ (v : View). Publishing c.args.map.now c.args.seat.now.me.0 v (c.loop-j.j + 1)) (sym (ap (λ m. m.0) done.2))
          (puts_more c.args.map.now c.args.seat.now.me.0 c.loop-j.seat.me.0 c.loop-j.j c.half.result _ is (let t = c.loop-j-test.true in omega arith) c.requires.writer.2 c.half.ensures (number.1 ∙ c.from.ensures) c.loop-j.invariant.view);
      slots = ap (λ m. m.1) done.2 ∙ c.loop-j.invariant.slots;
    }

pub returns-clause-view : goal.returns-clause-view
returns-clause-view c = search rules
