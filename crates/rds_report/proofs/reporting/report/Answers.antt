use Rattle.std.proofs.Common.{rules, arith, ◌≡◌, ◌∙◌, ◌++◌, ◌+◌, suc, ℕ, List, ap, append_assoc, string_bytes}
use Rattle.std.specs.List.{flat_map}
use Rattle.rds_text.specs.declared.host.TheConstants.{MAX_HOSTS}
use Rattle.rds_text.specs.Lines.{end_line}
use Rattle.rds_text.specs.Hosts.{address_of}
use Rattle.rds_text.specs.Report.{group_text, groups}
use Rattle.rds_report.specs.ItemReport.{part, parts}
use Rattle.rds_text.specs.FinalViews.{host_views}
use Rattle.rds_report.proofs.Parting.{all_parts}
use Rattle.rds_report.proofs.reporting.report.Goals as goal

pub returns-clause-exact : goal.returns-clause-exact
returns-clause-exact c = λ are.
    let ends = host_views c.args.hosts.now in
    let old = string_bytes c.args.text.now in
    let written : string_bytes c.writeln.new.self ≡ string_bytes c.loop-host.text ++ end_line = search rules in
    let all : c.loop-host.host ≡ MAX_HOSTS = omega (arith, c.loop-host.invariant.within, c.loop-host-test.false) in
    written
    ∙ ap (λ (t : List ℕ). t ++ end_line)
    (c.loop-host.invariant.printed are ∙ ap (λ (n : ℕ). old ++ parts ends n) all ∙ ap (λ (t : List ℕ). old ++ t) (all_parts ends are))
    ∙ append_assoc old (flat_map (group_text ends) (groups ends)) end_line

pub loop-host-preserved : goal.loop-host-preserved
loop-host-preserved c = record {
  within = omega (arith, c.loop-host.invariant.within, c.loop-host-test.true);
  printed = λ are.
      let ends = host_views c.args.hosts.now in
      let n = c.loop-host.host in
      let next : suc n ≡ n + 1 = omega arith in
      let old = string_bytes c.args.text.now in
      c.in_ok-add_part.ensures are
      ∙ ap (λ (to : ℕ). string_bytes c.loop-host.text ++ part ends to) c.address.ensures
      ∙ ap (λ (t : List ℕ). t ++ part ends (address_of n)) (c.loop-host.invariant.printed are)
      ∙ append_assoc old (parts ends n) (part ends (address_of n)) ∙ ap (λ (m : ℕ). old ++ parts ends m) next;
}
