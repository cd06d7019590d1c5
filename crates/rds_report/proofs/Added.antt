-- The totals of the hosts, one by one, together are those of all.
use Rattle.std.proofs.Common.{◌≡◌, ◌+◌, ◌∙◌, ◌++◌, ℕ, zero, suc, zero-add, List, [], ◌∷◌, length, map, Result, Ok, IfOk, arith, refl, sym, ap}
use Rattle.std.specs.List.{All, AllZip, range_with_len, sum_by}
use Rattle.std.proofs.lemmas.List.Elements.{All-cons, All-nil}
use Rattle.std.proofs.lemmas.List.Sums.{sum_by-append, sum_by-cons}
use Rattle.rds_wire.specs.declared.memory.Memory.{Memory}
use Rattle.rds_text.specs.FinalState.{FinalHost}
use Rattle.rds_text.specs.Hosts.{address_of}
use Rattle.rds_text.specs.Report.{Counts}
use Rattle.rds_text.specs.FinalViews.{AreFinalHosts}
use Rattle.rds_report.specs.declared.totals.Totals.{Totals}
use Rattle.rds_report.specs.Summary.{all_counts, plus, received_bytes, total}
use Rattle.rds_report.specs.ItemTotals.{AreTotals, AreTotalsTo, IsSmall, bytes_below, bytes_to, counts_below, totals_bytes, totals_counts}
use Rattle.rds_text.specs.declared.host.TheConstants.{MAX_HOSTS}
use Rattle.rds_report.proofs.Counted.{plus_assoc, same_counts}
use Rattle.rds_report.proofs.Totalled.{bytes_all, counts_all, plus_nothing}

-- the totals to n hosts from host k on, each of which was made
abbrev pub AreEach : List FinalHost → (k n : ℕ) → List Totals → Type 0
AreEach ends k n each = AllZip (λ (host : ℕ) (made : Result Totals Memory). IfOk made (AreTotalsTo ends (address_of host))) (range_with_len k n) (map Ok each)

pub each_small : (ends : List FinalHost) (k n : ℕ) (each : List Totals) → AreEach ends k n each → All IsSmall each
each_small ends k zero [] zip = All-nil IsSmall
each_small ends k zero (t ∷ each) zip = absurd zip
each_small ends k (suc n) [] zip = absurd zip
each_small ends k (suc n) (t ∷ each) zip = All-cons IsSmall t each zip.0.small (each_small ends (k + 1) n each zip.1)

pub each_length : (ends : List FinalHost) (k n : ℕ) (each : List Totals) → AreEach ends k n each → length each ≡ n
each_length ends k zero [] zip = refl
each_length ends k zero (t ∷ each) zip = absurd zip
each_length ends k (suc n) [] zip = absurd zip
each_length ends k (suc n) (t ∷ each) zip = ap suc (each_length ends (k + 1) n each zip.1)

next : (k : ℕ) → suc k ≡ k + 1
next k = omega arith

more : (k n : ℕ) → (k + 1) + n ≡ k + suc n
more k n = omega arith

none : (k : ℕ) → k ≡ k + 0
none k = omega arith

-- one more in a list

pub total_more : (ts : List Totals) (t : Totals) → total (map totals_counts (ts ++ t ∷ [])) ≡ plus (total (map totals_counts ts)) (totals_counts t)
total_more [] t = same_counts (omega arith) (omega arith) (omega arith) (omega arith) (omega arith) (omega arith)
total_more (x ∷ ts) t =
    ap (plus (totals_counts x)) (total_more ts t) ∙ sym (plus_assoc (totals_counts x) (total (map totals_counts ts)) (totals_counts t))

pub bytes_more : (ts : List Totals) (t : Totals) → sum_by totals_bytes (ts ++ t ∷ []) ≡ sum_by totals_bytes ts + t.bytes
bytes_more ts t = sum_by-append totals_bytes ts (t ∷ []) ∙ ap (λ (n : ℕ). sum_by totals_bytes ts + n) (sum_by-cons totals_bytes t [] ∙ alone t.bytes)
  where
    alone : (n : ℕ) → n + 0 ≡ n
    alone n = omega arith

plus_none : (c : Counts) → plus c (total []) ≡ c
plus_none c = same_counts (omega arith) (omega arith) (omega arith) (omega arith) (omega arith) (omega arith)

module _ (ends : List FinalHost) (are : AreFinalHosts ends) where
  pub each_counts : (k n : ℕ) (each : List Totals) → AreEach ends k n each → plus (counts_below ends k) (total (map totals_counts each)) ≡ counts_below ends (k + n)
  each_counts k zero [] zip = plus_none (counts_below ends k) ∙ ap (counts_below ends) (none k)
  each_counts k zero (t ∷ each) zip = absurd zip
  each_counts k (suc n) [] zip = absurd zip
  each_counts k (suc n) (t ∷ each) zip =
      let rest = total (map totals_counts each) in
      sym (plus_assoc (counts_below ends k) (totals_counts t) rest)
      ∙ ap (λ (c : Counts). plus (plus (counts_below ends k) c) rest) (zip.0.exact are).counts
      ∙ ap (λ (m : ℕ). plus (counts_below ends m) rest) (next k) ∙ each_counts (k + 1) n each zip.1 ∙ ap (counts_below ends) (more k n)

  pub each_bytes : (k n : ℕ) (each : List Totals) → AreEach ends k n each → bytes_below ends k + sum_by totals_bytes each ≡ bytes_below ends (k + n)
  each_bytes k zero [] zip = nothing ∙ ap (bytes_below ends) (none k)
    where
      nothing : bytes_below ends k + 0 ≡ bytes_below ends k
      nothing = omega arith
  each_bytes k zero (t ∷ each) zip = absurd zip
  each_bytes k (suc n) [] zip = absurd zip
  each_bytes k (suc n) (t ∷ each) zip =
      let so_far = bytes_below ends k in
      let here = (zip.0.exact are).bytes in
      let rest = sum_by totals_bytes each in
      let cons = sum_by-cons totals_bytes t each in
      let first : so_far + sum_by totals_bytes (t ∷ each) ≡ (so_far + bytes_to ends (address_of k)) + rest = omega (arith, cons, here) in
      first ∙ ap (λ (m : ℕ). bytes_below ends m + rest) (next k) ∙ each_bytes (k + 1) n each zip.1 ∙ ap (bytes_below ends) (more k n)

  -- the totals of all hosts are those of all port pairs
  pub all_made : (each : List Totals) (t : Totals) → AreEach ends 0 MAX_HOSTS each → totals_counts t ≡ total (map totals_counts each) →
      t.bytes ≡ sum_by totals_bytes each → AreTotals t (all_counts ends) (received_bytes ends)
  all_made each t zip counts bytes =
      let c = each_counts 0 MAX_HOSTS each zip in
      let b = each_bytes 0 MAX_HOSTS each zip in
      record {
        counts = counts ∙ sym (plus_nothing (total (map totals_counts each))) ∙ c ∙ counts_all ends are;
        bytes = bytes ∙ sym (zero-add (sum_by totals_bytes each)) ∙ b ∙ bytes_all ends are;
      }
