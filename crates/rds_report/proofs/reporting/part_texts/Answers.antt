use Rattle.std.proofs.Common.{rules, ◌≡◌, ◌∙◌, ◌++◌, ℕ, List, IfOk, ap, sym, subst, string_bytes}
use Rattle.std.specs.List.{flat_map}
use Rattle.rds_text.specs.Hosts.{address_of}
use Rattle.rds_text.specs.Report.{Group}
use Rattle.rds_text.specs.FinalViews.{host_views}
use Rattle.rds_report.specs.Items.{items_to}
use Rattle.rds_report.specs.ItemReport.{of_pair, IsUp, groups_text, AreKnown, part}
use Rattle.rds_report.specs.Texts.{text_bytes}
use Rattle.rds_report.proofs.Parting.{to_known, to_text}
use Rattle.rds_report.proofs.reporting.part_texts.Goals as goal

pub print_groups-requires : goal.print_groups-requires
print_groups-requires g c = (search rules, subst IsUp (sym c.deref.ensures.value) c.in_ok-sort.ensures.up)

pub returns : goal.returns
returns g c = λ are.
    let ends = host_views c.args.hosts.now in
    let to = c.address.result in
    let all = c.sort.new.items.items in
    let stable : (g : Group) → of_pair g all ≡ of_pair g (items_to to ends) = λ g. c.in_ok-sort.ensures.stable g ∙ ap (of_pair g) c.in_ok-items.ensures in
    let known = subst AreKnown (sym c.deref.ensures.value) (to_known ends are to all stable) in
    let printed : text_bytes c.print_groups.new.self ≡ part ends (address_of c.args.host) =
    c.in_ok-print_groups.ensures known
    ∙ ap (λ (t : List ℕ). t ++ groups_text c.deref.result.now) c.new-texts.ensures
    ∙ ap groups_text c.deref.ensures.value ∙ to_text ends are to all stable ∙ ap (part ends) c.address.ensures in
    subst (λ (t : List ℕ). IfOk c.into_vec.result (λ texts. flat_map string_bytes texts.items ≡ t)) printed c.into_vec.ensures
