use Rattle.std.proofs.lemmas.Grind.{common_steps}
use Rattle.std.proofs.Common.{rules, ◌≡◌, [], ◌∷◌, sym, ap, ◌∙◌, subst, arith}
use Rattle.std.specs.Prelude.{Contains}
use Rattle.std.proofs.lemmas.List.Elements.{Contains-append_left}
use Rattle.atomic_table.specs.Seated.{TableId}
use Rattle.rds_fmap.specs.Readers.{ReaderView, HasSeen, half_of_port}
use Rattle.rds_fmap.specs.declared.words.view.View.{View}
use Rattle.rds_fmap.specs.declared.words.view.Look.{Look}
use Rattle.rds_fmap.proofs.Steps.{looks}
use Rattle.rds_fmap.proofs.words.reader.ReaderMapReader.bit.Goals as goal

pub load-number-requires : goal.load-number-requires
load-number-requires c =
    let s = c.self.invariant in
    let same : c.self.inside.seat.table_id ≡ c.deref.result.now.shared.table_id = s.0 ∙ ap (λ t. t.shared.table_id) (sym c.deref.ensures) in
    let size = ap (λ (z : TableId). z.words) same in
    let fits = c.ranges.port.fits in
    let word = c.from-word.ensures in
    (same, (let n = s.1 in omega arith), looks _ _ c.from-word.result c.self.inside.seat.me s.3 (omega arith))

pub returns-clause-kept : goal.returns-clause-kept
returns-clause-kept c p seen k =
    let was : HasSeen c.args.self.now p seen = k in
    let look : Look = record { word = half_of_port p; number = was.0 } in
    let old = c.self.inside.seat.me.0.looks in
    let mine : Contains old look = subst (λ (x : ReaderView). Contains x.found look) (sym c.self.view_is) was.1 in
    let more = Contains-append_left old (record { word = c.from-word.result; number = c.load-number.result } ∷ []) look mine in
    (was.0, subst (λ (v : View). Contains v.looks look) (sym (ap (λ m. m.0) c.load-number.ensures.2.0)) more, was.2)

pub returns-clause-look : goal.returns-clause-look
returns-clause-look c = grind (arith, common_steps)

pub returns-clause-now : goal.returns-clause-now
returns-clause-now c = grind (arith, common_steps)

pub returns-clause-later : goal.returns-clause-later
returns-clause-later c = search rules
