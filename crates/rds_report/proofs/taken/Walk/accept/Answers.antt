use Rattle.std.proofs.Common.{◌≡◌, ◌∙◌, ◌++◌, ◌==◌, ◌&&◌, nat_lt, if◌then◌else◌, ℕ, suc, Bool, List, take, drop, length, arith, refl, ap}
use Rattle.std.proofs.lemmas.List.{take-append-le, take_all}
use Rattle.rds_model.specs.Past.{accepted}
use Rattle.rds_model.specs.Alive.{was_taken_back}
use Rattle.rds_report.specs.Items.{flags}
use Rattle.rds_report.specs.TakenBackWalk.{takes}
use Rattle.rds_report.proofs.FlagLemmas.{length-flags}
use Rattle.rds_report.proofs.Walked.{walk_accept}
use Rattle.rds_report.proofs.taken.Walk.accept.Goals as goal

kept_whole : (n : ℕ) (now before : List Bool) → length now ≡ n → take n (now ++ drop (length now) before) ≡ now
kept_whole n now before is = take-append-le n now (drop (length now) before) (omega arith) ∙ take_all n now (omega arith)

pub returns : goal.returns
returns c = λ all past sport payload is.
    let w = c.args.self.now in
    let m = accepted all in
    let last = suc (accepted past) in
    let test : ℕ → Bool = λ n. nat_lt last n && was_taken_back all n in
    let set = c.set_flag.ensures test m (c.deref_mut.ensures.value ∙ is.flagged) in
    let was : length w.taken.items ≡ m = ap length is.flagged ∙ length-flags test m in
    let now : length c.set_flag.new.flags ≡ m = ap length set ∙ length-flags _ m in
    let whole = kept_whole w.taken.len c.set_flag.new.flags w.taken.items (omega (arith, was, now, w.taken.ok)) in
    walk_accept all w _ c.args.slot sport c.args.dport payload past is
    (whole ∙ set
    ∙ ap (λ (b : Bool). flags (λ n. if w.accepted == n then b else test n) m) c.take-is_taken.ensures
    ∙ ap (λ (k : ℕ). flags (λ n. if k == n then takes w.cancellations c.args.slot c.args.dport k else test n) m) is.number)
    (omega (arith, c.saturating_sub-self.ensures, is.number)) refl
