-- Two ends that met know each other, at each place.
use Rattle.std.proofs.Common.{◌≡◌, ℕ, List, sym, ap, ◌∙◌}
use Rattle.rds_link.specs.Ends.{Means}
use Rattle.rds_link.specs.Standing.{Stand}
use Rattle.rds_line_channel.specs.Meeting.{AreMet, AtEach}
use Rattle.rds_line_channel.specs.NumberLaws.{same_number}
use Rattle.rds_line_channel.specs.Streams.{numbers}
use Rattle.rds_run_rounds.specs.Rest.{KnowEachOther}

pub know_each_other : {E : Type 0} (m : Means E) (one one_met other other_met : List (ℕ × E)) → numbers one_met ≡ numbers one →
    numbers other_met ≡ numbers other → AreMet m one one_met other other_met → AtEach (KnowEachOther m) one_met other_met
know_each_other m one one_met other other_met same same_other met = record {
  at = λ place b d at_b at_d.
      let a = same_number one_met one (sym same) place b.0 b.1 at_b in
      let c = same_number other_met other (sym same_other) place d.0 d.1 at_d in
      let it = met.at place (b.0, a.0) b (d.0, c.0) d a.1 at_b c.1 at_d in
      let first = it.first.learns.0 in
      let second = it.second.learns.0 in
      record {
        there = it.there;
        back = it.back;
        first = ap (λ (s : Stand). s.other_shut) first ∙ sym (ap (λ (s : Stand). s.is_shut) second);
        second = ap (λ (s : Stand). s.other_shut) second ∙ sym (ap (λ (s : Stand). s.is_shut) first);
      };
}
