use Rattle.std.proofs.Common.{arith, ◌≡◌, [], ◌∷◌, sym, subst, suc, ◌∙◌, ◌++◌, ℕ, List, Result, Ok, Some, IfOk, length, map, slice_get, option_map, ap, append-nil, string_bytes, String, Vec, Global}
use Rattle.std.specs.List.{flat_map}
use Rattle.std.proofs.lemmas.Grind.{flat_map-append}
use Rattle.std.proofs.lemmas.List.{length-map}
use Rattle.std.proofs.lemmas.Option.{get_or_from_slice_get, slice_get-map, slice_get_within}
use Rattle.rds_wire.specs.declared.memory.Memory.{Memory}
use Rattle.rds_text.specs.Report.{group_text, groups}
use Rattle.rds_text.specs.FinalViews.{host_views}
use Rattle.rds_report.specs.ItemReport.{job_end, parts}
use Rattle.rds_report.proofs.Parting.{all_parts, all_jobs}
use Rattle.rds_report.proofs.Printing.{behind}
use Rattle.rds_report.proofs.reporting.parts_beside.Goals as goal

-- the bytes of the texts of a job one behind another
abbrev bytes : Vec (String Global) Global → List ℕ
bytes texts = flat_map string_bytes texts.items

pub returns : goal.returns
returns g c = λ are.
    let ends = host_views c.args.hosts.now in
    let count = c.min-count.result in
    let made = c.in_ok-made.made.items in
    let each = c.in_ok-all_of.field-0.items in
    let all : map Ok each ≡ made = c.in_ok-all_of.ensures in
    let number : length each ≡ suc count =
    let same = c.from-2.ensures in
    let long = sym (length-map each Ok) ∙ ap length all ∙ sym c.in_ok-made.made.ok.0 ∙ c.in_ok-made.ensures.len in
    omega (arith, same, long) in
    let job : (i : ℕ) (t : Vec (String Global) Global) → slice_get each i ≡ Some t → parts ends (job_end count i) ≡ parts ends i ++ bytes t =
    λ i t at.
    let there : slice_get made i ≡ Some (Ok t) = subst (λ (l : List (Result (Vec (String Global) Global) Memory)). slice_get l i ≡ Some (Ok t)) all
    (slice_get-map Ok each i ∙ ap (option_map Ok) at) in
    let did = (c.in_ok-made.ensures.each i (Ok t) (let within = slice_get_within each i t at in let same = c.from-2.ensures in omega (arith, within, number, same))).1 in
    let came = get_or_from_slice_get made i (Ok t) (Ok t) there in
    subst (λ (r : Result (Vec (String Global) Global) Memory). IfOk r (λ texts. parts ends (job_end count i) ≡ parts ends i ++ bytes texts)) came (did.met are) in
    let texts = c.in_ok-texts.texts.items in
    let before : flat_map string_bytes texts ≡ flat_map (group_text ends) (groups ends) =
    ap (flat_map string_bytes) c.in_ok-texts.ensures ∙ behind string_bytes each ∙ all_jobs bytes ends count each number job ∙ all_parts ends are in
    let last = c.in_ok-format.field-0 in
    ap (flat_map string_bytes) c.in_ok-push.ensures.items ∙ flat_map-append string_bytes texts (last ∷ [])
    ∙ ap (λ (t : List ℕ). t ++ (string_bytes last ++ [])) before
    ∙ ap (λ (t : List ℕ). flat_map (group_text ends) (groups ends) ++ t) (append-nil (string_bytes last) ∙ c.in_ok-format.ensures.ok)
