use Rattle.std.proofs.Common.{arith, ◌≡◌, ◌++◌, ◌+◌, ◌∙◌, ℕ, suc, List, ap, sym, append_assoc, string_bytes}
use Rattle.std.specs.List.{flat_map}
use Rattle.std.proofs.lemmas.Grind.{flat_map-append}
use Rattle.rds_text.specs.Hosts.{address_of}
use Rattle.rds_text.specs.FinalViews.{host_views}
use Rattle.rds_report.specs.ItemReport.{part, parts}
use Rattle.rds_report.proofs.reporting.texts_between.Goals as goal

pub loop-host-preserved : goal.loop-host-preserved
loop-host-preserved g c = record {
  within = omega (arith, c.loop-host-test.true);
  printed = λ are.
      let ends = host_views c.args.hosts.now in
      let host = c.loop-host.host in
      let texts = c.loop-host.texts.items in
      let more = c.in_ok-more.more.items in
      let before = parts ends c.args.from in
      let next : host + 1 ≡ suc host = omega arith in
      ap (parts ends) next
      ∙ ap (λ (t : List ℕ). t ++ part ends (address_of host)) (c.loop-host.invariant.printed are)
      ∙ ap (λ (t : List ℕ). (before ++ flat_map string_bytes texts) ++ t) (sym (c.in_ok-more.ensures are))
      ∙ append_assoc before (flat_map string_bytes texts) (flat_map string_bytes more)
      ∙ ap (λ (t : List ℕ). before ++ t) (sym (flat_map-append string_bytes texts more))
      ∙ ap (λ (l : List _). before ++ flat_map string_bytes l) (sym c.in_ok-append.ensures.items);
}
