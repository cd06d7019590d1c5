-- How many cuts a script has between two hosts, and how many streams are prepared.
use Rattle.std.proofs.Common.{◌≡◌, ◌≤◌, ◌+◌, ℕ, zero, suc, Bool, true, false, List, [], ◌∷◌, ◌++◌, filter, filter_map, length, if◌then◌else◌, sum_by, refl, ap, ◌∙◌, arith}
use Rattle.std.specs.List.{cons_option, range_with_len}
use Rattle.std.proofs.lemmas.List.Sums.{sum_by-cons, sum_by_push}
use Rattle.rds_script.specs.Script.{cut_count, cut_total}
use Rattle.rds_script.specs.declared.script.Command.{Command}
use Rattle.rds_script.specs.declared.script.Command.TheVariants.{Bind, BindAny, Send, Recv, Cancel, Close, Open, Move, Cut, Drain}
use Rattle.rds_script.specs.declared.script.Placed.{Placed}
use Rattle.rds_run_hosts.specs.Cuts.{AreFewCuts, cut_of, only_cut}
use Rattle.rds_run_hosts.specs.Streams.{cuts_between, is_cut_between, streams_below, streams_between}

at_most_one : (chosen : Bool) (p : Placed) (rest : List Placed) → length (if chosen then p ∷ rest else rest) ≤ 1 + length rest
at_most_one true p rest = omega arith
at_most_one false p rest = omega arith

-- a command is at most one cut between two hosts, and none where it is no cut
counted_cut : (low high : ℕ) (command : Command) (p : Placed) (rest : List Placed) →
    length (if is_cut_between low high command then p ∷ rest else rest) ≤ cut_count command + length rest
counted_cut low high (Bind host port sndbuf rcvbuf) p rest = omega arith
counted_cut low high (BindAny host port sndbuf rcvbuf) p rest = omega arith
counted_cut low high (Send host port to dport payload) p rest = omega arith
counted_cut low high (Recv host port) p rest = omega arith
counted_cut low high (Cancel host port to dport) p rest = omega arith
counted_cut low high (Close host port) p rest = omega arith
counted_cut low high (Open host to) p rest = omega arith
counted_cut low high (Move host to bytes) p rest = omega arith
counted_cut low high (Cut host to) p rest = at_most_one (is_cut_between low high (Cut host to)) p rest
counted_cut low high Drain p rest = omega arith

-- there are no more cuts between two hosts than cuts
pub cuts_few : (low high : ℕ) (commands : List Placed) → cuts_between low high commands ≤ cut_total commands
cuts_few low high [] = omega arith
cuts_few low high (p ∷ commands) =
    let rest = cuts_few low high commands in
    let one = counted_cut low high p.command p (filter (λ (placed : Placed). is_cut_between low high placed.command) commands) in
    let total = sum_by-cons (λ (placed : Placed). cut_count placed.command) p commands in
    omega (arith, rest, one, total)

-- and a script has few
pub few_cuts : (commands : List Placed) → cut_total commands ≤ 1024 → AreFewCuts commands
few_cuts commands most low high = let some = cuts_few low high commands in omega (arith, most, some)

as_chosen : (chosen : Bool) (p : Placed) (some all : List Placed) → length some ≡ length all →
    length (if chosen then p ∷ some else some) ≡ length (if chosen then p ∷ all else all)
as_chosen true p some all same = ap suc same
as_chosen false p some all same = same

abbrev IsBetween : (low high : ℕ) → Placed → Bool
IsBetween low high placed = is_cut_between low high placed.command

-- a command that isn't a cut is none between two hosts
cut_or_not : (low high : ℕ) (p : Placed) (command : Command) (some all : List Placed) → p.command ≡ command → cuts_between low high some ≡ cuts_between low high all →
    cuts_between low high (cons_option (only_cut command p) some)
    ≡ length (if is_cut_between low high command then p ∷ filter (IsBetween low high) all else filter (IsBetween low high) all)
cut_or_not low high p (Bind host port sndbuf rcvbuf) some all is same = same
cut_or_not low high p (BindAny host port sndbuf rcvbuf) some all is same = same
cut_or_not low high p (Send host port to dport payload) some all is same = same
cut_or_not low high p (Recv host port) some all is same = same
cut_or_not low high p (Cancel host port to dport) some all is same = same
cut_or_not low high p (Close host port) some all is same = same
cut_or_not low high p (Open host to) some all is same = same
cut_or_not low high p (Move host to bytes) some all is same = same
cut_or_not low high p (Cut host to) some all is same =
    ap (λ (c : Command). length (if is_cut_between low high c then p ∷ filter (IsBetween low high) some else filter (IsBetween low high) some)) is
    ∙ as_chosen (is_cut_between low high (Cut host to)) p (filter (IsBetween low high) some) (filter (IsBetween low high) all) same
cut_or_not low high p Drain some all is same = same

-- the cuts alone have as many between two hosts as all commands
pub cuts_alone : (low high : ℕ) (commands : List Placed) → cuts_between low high (filter_map cut_of commands) ≡ cuts_between low high commands
cuts_alone low high [] = refl
cuts_alone low high (p ∷ commands) = cut_or_not low high p p.command (filter_map cut_of commands) commands refl (cuts_alone low high commands)

-- what is the same for each adds up to the same
same_sums : (f g : ℕ → ℕ) → ((n : ℕ) → f n ≡ g n) → (list : List ℕ) → sum_by f list ≡ sum_by g list
same_sums f g same [] = refl
same_sums f g same (n ∷ list) =
    let here = same n in
    let rest = same_sums f g same list in
    let one = sum_by-cons f n list in
    let other = sum_by-cons g n list in
    omega (arith, here, rest, one, other)

-- as many streams are prepared for commands with as many cuts between each two hosts
pub same_streams : (some commands : List Placed) → ((low high : ℕ) → cuts_between low high some ≡ cuts_between low high commands) → (hosts : ℕ) →
    sum_by (λ host. streams_below host some) (range_with_len 0 hosts) ≡ sum_by (λ host. streams_below host commands) (range_with_len 0 hosts)
same_streams some commands same hosts =
    same_sums (λ host. streams_below host some) (λ host. streams_below host commands)
    (λ host. same_sums (λ low. streams_between low host some) (λ low. streams_between low host commands)
    (λ low. ap (λ n. n + 3) (same low host)) (range_with_len 0 host)) (range_with_len 0 hosts)

-- one more number
range_more : (a n : ℕ) → range_with_len a (suc n) ≡ range_with_len a n ++ (a + n) ∷ []
range_more a zero = let here : a ≡ a + 0 = omega arith in ap (λ (k : ℕ). k ∷ []) here
range_more a (suc n) =
    let here : a + 1 + n ≡ a + suc n = omega arith in
    ap (λ (l : List ℕ). a ∷ l) (range_more (a + 1) n ∙ ap (λ (k : ℕ). range_with_len (a + 1) n ++ k ∷ []) here)

-- what the numbers below the next one add up to
pub sum_below_more : (f : ℕ → ℕ) (n : ℕ) → sum_by f (range_with_len 0 (n + 1)) ≡ sum_by f (range_with_len 0 n) + f n
sum_below_more f n =
    let next : n + 1 ≡ suc n = omega arith in
    let here : 0 + n ≡ n = omega arith in
    ap (λ (k : ℕ). sum_by f (range_with_len 0 k)) next
    ∙ ap (sum_by f) (range_more 0 n)
    ∙ sum_by_push f (range_with_len 0 n) (0 + n)
    ∙ ap (λ (k : ℕ). sum_by f (range_with_len 0 n) + f k) here
