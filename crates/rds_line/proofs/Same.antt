-- Lists, moments, views and boxes that stay what they were.
use Rattle.std.proofs.Common.{◌≡◌, List, [], ◌∷◌, ◌++◌, get_or, append_assoc, refl, sym, ap, subst, ◌∙◌, arith}
use Rattle.std.proofs.lemmas.Option.{same_Some, slice_get_within, slice_get-get_or}
use Rattle.rds_bindtab.specs.declared.view.Step.{Step as PortStep}
use Rattle.rds_bindtab.specs.declared.view.View.{View as PortView}
use Rattle.rds_meter.specs.declared.view.Check.{Check}
use Rattle.rds_meter.specs.declared.view.Step.{Step as MeterStep}
use Rattle.rds_meter.specs.declared.view.View.{View as MeterView}
use Rattle.rds_model.specs.declared.entry.Entry.{Entry}
use Rattle.rds_model.specs.declared.order.Datagram.{Datagram}
use Rattle.rds_model.specs.Honest.{Begins}
use Rattle.rds_model.specs.Past.{Moment, now, before}
use Rattle.rds_model.specs.SumLaws.{same_list}
use Rattle.rds_mail.specs.Passes.{Putter}
use Rattle.rds_line.specs.Stays.{AreSameBoxes}

pub begins_through : {T : Type 0} (x y z : List T) → Begins x y → Begins y z → Begins x z
begins_through {T} x y z first second = (first.0 ++ second.0, second.1 ∙ (ap (λ (l : List T). l ++ second.0) first.1 ∙ append_assoc x first.0 second.0))

pub begins_of : {T : Type 0} (x y : List T) → y ≡ x → Begins x y
begins_of {T} x y is = subst (λ (l : List T). Begins x l) (sym is) (same_list x)

pub moment_through : {p q r : List Entry} → Moment p q → Moment q r → Moment p r
moment_through first now = first
moment_through first (before {e} {j} m) = before (moment_through first m)

pub moment_more : (entries past : List Entry) → Moment past (entries ++ past)
moment_more [] past = now
moment_more (e ∷ entries) past = before (moment_more entries past)

pub moment_of : (past later : List Entry) → later ≡ past → Moment past later
moment_of past later is = subst (λ (l : List Entry). Moment past l) (sym is) now

-- what stays of a view of the meter whose checks and steps changed
pub same_view : (old new : MeterView) (checks : List Check) (steps : List MeterStep) → new ≡ record old { checks = checks; steps = steps } →
    new ≡ record old { checks = new.checks; steps = new.steps }
same_view old new checks steps is =
    is ∙ ap (λ (v : MeterView). record old { checks = v.checks; steps = v.steps }) (sym is)

pub same_port_view : (old new : PortView) (steps : List PortStep) → new ≡ record old { steps = steps } →
    new ≡ record old { steps = new.steps }
same_port_view old new steps is = is ∙ ap (λ (v : PortView). record old { steps = v.steps }) (sym is)

pub boxes_same : (old : List (Putter Datagram)) → AreSameBoxes old old
boxes_same old = record {
  count = refl;
  each = λ slot box after stood stands.
      let is : box ≡ after = same_Some box after (sym stood ∙ stands) in
      (ap (λ (b : Putter Datagram). b.mail) (sym is), ap (λ (b : Putter Datagram). b.number) (sym is), ap (λ (b : Putter Datagram). b.splits) (sym is));
}

pub boxes_through : (old middle new : List (Putter Datagram)) → AreSameBoxes old middle → AreSameBoxes middle new → AreSameBoxes old new
boxes_through old middle new first second = record {
  count = second.count ∙ first.count;
  each = λ slot box after stood stands.
      let small = slice_get_within old slot box stood in
      let count = first.count in
      let between = get_or middle slot box in
      let there = slice_get-get_or middle slot box (omega arith) in
      let one = first.each slot box between stood there in
      let two = second.each slot between after there stands in
      (two.0 ∙ one.0, two.1 ∙ one.1, two.2 ∙ one.2);
}
