use Rattle.std.proofs.Common.{◌≡◌, ◌-◌, ◌∙◌, subst, sym, ℕ, List, Result, Ok, IfOk, map, ap, arith}
use Rattle.std.specs.List.{AllZip, range_with_len}
use Rattle.rds_wire.specs.declared.memory.Memory.{Memory}
use Rattle.rds_text.specs.declared.host.TheConstants.{MAX_HOSTS}
use Rattle.rds_text.specs.Hosts.{address_of}
use Rattle.rds_text.specs.FinalViews.{host_views}
use Rattle.rds_report.specs.declared.totals.Totals.{Totals}
use Rattle.rds_report.specs.ItemTotals.{AreTotalsTo}
use Rattle.rds_report.proofs.Added.{AreEach, all_made, each_small, each_length}
use Rattle.rds_report.proofs.summing.all_totals.Goals as goal

pub together-requires : goal.together-requires
together-requires g c =
    let ends = host_views c.args.hosts.now in
    let given = c.in_ok-each.ensures in
    let start : c.map.result.base.base.start ≡ 0 = ap (λ it. it.base.start) c.map.ensures.base ∙ ap (λ it. it.start) c.with_min_len.ensures.base ∙ c.into_par_iter.ensures.0 in
    let end : c.map.result.base.base.end ≡ MAX_HOSTS = ap (λ it. it.base.end) c.map.ensures.base ∙ ap (λ it. it.end) c.with_min_len.ensures.base ∙ c.into_par_iter.ensures.1 in
    let from = rw c.in_ok-each-2.was at given.2 in
    let found : ℕ → Result Totals Memory → Type 0 = λ host made. IfOk made (AreTotalsTo (host_views c.map.result.f.1.now) (address_of host)) in
    let exact : ℕ → Result Totals Memory → Type 0 = λ host made. IfOk made (AreTotalsTo ends (address_of host)) in
    let gave : AllZip found given.1.0 given.0 = given.1.2 in
    let same : host_views c.map.result.f.1.now ≡ ends = ap (λ f. host_views f.1.now) c.map.ensures.f in
    let zip : AllZip exact given.1.0 given.0 = rw same at gave in
    let list : given.1.0 ≡ range_with_len 0 MAX_HOSTS =
    given.1.1 ∙ ap (λ (n : ℕ). range_with_len n (c.map.result.base.base.end - n)) start ∙ ap (λ (n : ℕ). range_with_len 0 (n - 0)) end in
    let all : AreEach ends 0 MAX_HOSTS from.0 =
    subst (λ (ns : List ℕ). AllZip exact ns (map Ok from.0)) list (subst (AllZip exact given.1.0) from.1 zip) in
    let each : AreEach ends 0 MAX_HOSTS c.deref.result.now = subst (AreEach ends 0 MAX_HOSTS) (sym (c.deref.ensures.value ∙ from.2)) all in
    let long = each_length ends 0 MAX_HOSTS c.deref.result.now each in
    record { few = omega (arith, long); small = each_small ends 0 MAX_HOSTS c.deref.result.now each }

pub returns : goal.returns
returns g c = λ are.
    let ends = host_views c.args.hosts.now in
    let given = c.in_ok-each.ensures in
    let start : c.map.result.base.base.start ≡ 0 = ap (λ it. it.base.start) c.map.ensures.base ∙ ap (λ it. it.start) c.with_min_len.ensures.base ∙ c.into_par_iter.ensures.0 in
    let end : c.map.result.base.base.end ≡ MAX_HOSTS = ap (λ it. it.base.end) c.map.ensures.base ∙ ap (λ it. it.end) c.with_min_len.ensures.base ∙ c.into_par_iter.ensures.1 in
    let from = rw c.in_ok-each-2.was at given.2 in
    let found : ℕ → Result Totals Memory → Type 0 = λ host made. IfOk made (AreTotalsTo (host_views c.map.result.f.1.now) (address_of host)) in
    let exact : ℕ → Result Totals Memory → Type 0 = λ host made. IfOk made (AreTotalsTo ends (address_of host)) in
    let gave : AllZip found given.1.0 given.0 = given.1.2 in
    let same : host_views c.map.result.f.1.now ≡ ends = ap (λ f. host_views f.1.now) c.map.ensures.f in
    let zip : AllZip exact given.1.0 given.0 = rw same at gave in
    let list : given.1.0 ≡ range_with_len 0 MAX_HOSTS =
    given.1.1 ∙ ap (λ (n : ℕ). range_with_len n (c.map.result.base.base.end - n)) start ∙ ap (λ (n : ℕ). range_with_len 0 (n - 0)) end in
    let all : AreEach ends 0 MAX_HOSTS from.0 =
    subst (λ (ns : List ℕ). AllZip exact ns (map Ok from.0)) list (subst (AllZip exact given.1.0) from.1 zip) in
    let each : AreEach ends 0 MAX_HOSTS c.deref.result.now = subst (AreEach ends 0 MAX_HOSTS) (sym (c.deref.ensures.value ∙ from.2)) all in
    all_made ends are c.deref.result.now c.together.result each c.together.ensures.counts c.together.ensures.bytes
