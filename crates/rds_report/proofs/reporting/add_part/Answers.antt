use Rattle.std.proofs.Common.{◌≡◌, ◌∙◌, ◌++◌, ℕ, List, OnOk, ap, sym, subst, string_bytes}
use Rattle.rds_report.specs.Item.{Item}
use Rattle.rds_text.specs.Report.{Group}
use Rattle.rds_text.specs.FinalViews.{host_views}
use Rattle.rds_report.specs.Items.{items_to}
use Rattle.rds_report.specs.ItemReport.{of_pair, IsUp, groups_text, AreKnown}
use Rattle.rds_report.proofs.Parting.{to_known, to_text}
use Rattle.rds_report.proofs.reporting.add_part.Goals as goal

pub print_groups-requires : goal.print_groups-requires
print_groups-requires c = record { up = subst IsUp (sym c.deref.ensures.value) c.in_ok-sort.ensures.up }

pub returns : goal.returns
returns c = λ are.
    let ends = host_views c.args.hosts.now in
    let all = c.sort.new.items.items in
    let stable : (g : Group) → of_pair g all ≡ of_pair g (items_to c.args.to ends) = λ g. c.in_ok-sort.ensures.stable g ∙ ap (of_pair g) c.in_ok-items.ensures in
    let known = subst AreKnown (sym c.deref.ensures.value) (to_known ends are c.args.to all stable) in
    let text = string_bytes c.args.text.now in
    subst (λ (t : List ℕ). OnOk c.print_groups.result (string_bytes c.print_groups.new.text ≡ t))
    (ap (λ (l : List Item). text ++ groups_text l) c.deref.ensures.value ∙ ap (λ (t : List ℕ). text ++ t) (to_text ends are c.args.to all stable))
    (c.print_groups.ensures known)
